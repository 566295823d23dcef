-- What an allowed answer promises of each item of its trail, and of its outcome.
use Rattle.std.proofs.Common.{◌≡◌, ℕ, Bool, true, false, not, List, [], ◌∷◌, ◌++◌, take, refl}
use Rattle.std.proofs.Common.{sym, ap, ◌∙◌, subst, Option, Some, None, inl, inr}
use Rattle.std.specs.Prelude.{ℤ, All, ◌⊎◌}
use Rattle.std.proofs.lemmas.List.Elements.{All-contains, All-nil, All-cons}
use Rattle.std.proofs.lemmas.Option.{same_Some}
use Rattle.sysregs.specs.declared.regs.Regs.{Regs}
use Rattle.sysregs.specs.Registers.{config_of, asid_of, vmid_of}
use Rattle.sysregs.specs.Sides.{side_of}
use Rattle.fault_codes.specs.declared.fault.Stage.{Stage}
use Rattle.trails.specs.declared.item.Item.{Item}
use Rattle.trails.specs.declared.item.What.TheVariants.{Base, Word}
use Rattle.trails.specs.declared.outcome.Access.{Access}
use Rattle.trails.specs.declared.outcome.Outcome.{Outcome}
use Rattle.trails.specs.declared.outcome.Outcome.TheVariants.{Mapped, Faulted, Absent, Conflict}
use Rattle.trails.specs.declared.step.Answer.{Answer}
use Rattle.trails.specs.declared.step.Step.{Step}
use Rattle.walk_spec.specs.Ask.{lacks, Ask, done, ask, Stands, needs, ends, on}
use Rattle.walk_spec.specs.Needs.{WordNeed, Regime, Need, stage1_base, stage2_base, word, fits, regime_of}
use Rattle.walk_spec.specs.Steps.{End}
use Rattle.walk_spec.specs.BothStages.{Landing, walk, outcome_of}
use Rattle.walk_spec.specs.Fresh.{fed_outcome}
use Rattle.walk_laws.specs.Shift.{stands}
use Rattle.machine_spec.specs.Header.{Header}
use Rattle.machine_spec.specs.Moments.{memory_after, regs_after}
use Rattle.machine_spec.specs.Marks.{Mark, mark, marks}
use Rattle.machine_spec.specs.Uses.{AllUsed}
use Rattle.machine_spec.specs.Kept.{View, now, regs_when, base_by, IsKeptNow}
use Rattle.machine_spec.specs.Allowed.{is_conflict, Case, case_of, config_now, Reaches, IsLacking, IsTwice, IsForked}
use Rattle.machine_spec.specs.Allowed.{IsConflict, IsRight, IsAnswer, Ends, Keeps, last_entry}
use Rattle.machine_laws.specs.NotAllowed.{IsShown, ItemsAreTrue, OutcomesAreTrue, ConflictsAreTrue, AnswersAreTrue, NothingFalseIsAllowed}
use Rattle.machine_laws.proofs.Begins.{regs_now}
use Rattle.machine_laws.proofs.Forks.{IsMet, fit_met, fork_met}
use Rattle.machine_laws.proofs.MarksOf.{fits_base1_parts, fits_base2_parts, fits_word_parts}
use Rattle.machine_laws.proofs.Lists.{none_some}

-- ITEMS

-- a mark tells whether its item is a base, and of which stage
pub record IsOf (m : Mark) (i : Item) : Type 0 where
  pub item : m.item ≡ i
  pub stage : m.stage ≡ i.stage
  pub base : i.what ≡ Base → m.base ≡ true
  pub word : i.what ≡ Word → m.base ≡ false

mark_of : (r : Regime) (n : Need) (i : Item) → fits r n i ≡ true → IsOf (mark r n i) i
unfolding mark
mark_of r stage1_base i h =
    let p = fits_base1_parts r i h in
    record { item = refl; stage = sym p.1; base = λ e. refl; word = λ e. let w : Base ≡ Word = sym p.0 ∙ e in absurd cc }
mark_of r (stage2_base x) i h =
    let p = fits_base2_parts r x i h in
    record { item = refl; stage = sym p.1; base = λ e. refl; word = λ e. let w : Base ≡ Word = sym p.0 ∙ e in absurd cc }
mark_of r (word w) i h =
    let p = fits_word_parts r w i h in
    record { item = refl; stage = sym p.stage; base = λ e. let w : Base ≡ Word = sym e ∙ p.what in absurd cc; word = λ e. refl }

-- what is said of each mark is said of each item
module _ {A : Type 0} (r : Regime) (P : Mark → Option ℕ → Type 0) (Q : Item → Type 0)
    (told : (m : Mark) (u : Option ℕ) (i : Item) → IsOf m i → P m u → Q i) where
  all_items : (t : Ask Need Item A) (above : Option ℕ) (xs : List Item) → IsMet (on (fits r) t xs) → AllUsed P above (marks r t xs) → All Q xs
  all_items (done a) above [] met used = All-nil Q
  all_items (done a) above (x ∷ xs) met used = absurd met
  all_items (ask n k) above [] met used = All-nil Q
  all_items (ask n k) above (x ∷ xs) met used =
      let fit = fit_met (fits r n x) (on (fits r) (k x) xs) met in
      All-cons Q x xs (told (mark r n x) _ x (mark_of r n x fit.0) used.0) (all_items (k x) _ xs fit.1 used.1)

-- an item as it was read: memory or the register had it, under the register fields and the VMID of now
pub record WasRead (v : View) (i : Item) : Type 0 where
  pub fields : config_of (regs_when v i.moment) ≡ config_of (regs_when v (now v))
  pub vmid : vmid_of (regs_when v i.moment) ≡ vmid_of (regs_when v (now v))
  pub base : i.what ≡ Base → base_by (regs_when v i.moment) v.side i.stage ≡ i.value
  pub word : i.what ≡ Word → memory_after v.header (take i.moment v.log) i.pa ≡ Some i.value

was_read : (v : View) (m : Mark) (u : Option ℕ) (i : Item) → IsOf m i → IsKeptNow v m u → WasRead v i
was_read v m u i of kept =
    let held = kept.held in
    let what : i.what ≡ m.item.what = ap (λ (j : Item). j.what) (sym of.item) in
    let stage : m.item.stage ≡ m.stage = ap (λ (j : Item). j.stage) of.item ∙ sym of.stage in
    subst (WasRead v) of.item record {
      fields = held.config_was;
      vmid = held.vmid_was;
      base = λ e. ap (λ s. base_by (regs_when v m.item.moment) v.side s) stage ∙ held.base (of.base (what ∙ e));
      word = λ e. held.word (of.word (what ∙ e));
    }

all_read : (q : Case) (j : Bool) (xs : List Item) → IsMet (stands (config_now q) j q.access xs) → Keeps q j xs → All (WasRead q.view) xs
all_read q j xs met kept =
    let c = config_now q in
    let r = regime_of c (side_of q.access.va) in
    all_items r (IsKeptNow q.view) (WasRead q.view) (was_read q.view) (walk c j q.access) None xs met kept.items

met_by : {A : Type 0} (s t : Stands Need Item A) → s ≡ t → IsMet t → IsMet s
met_by s t e h = subst IsMet (sym e) h

-- each item of an answer's trails was read
record AreRead (q : Case) (xs : List Item) (second : Option (List Item)) : Type 0 where
  in_first : All (WasRead q.view) xs
  in_second : (ys : List Item) → second ≡ Some ys → All (WasRead q.view) ys

module _ (q : Case) (xs : List Item) (second : Option (List Item)) where
  one_read : second ≡ None → All (WasRead q.view) xs → AreRead q xs second
  one_read alone first = record { in_first = first; in_second = λ ys e. none_some ys (sym alone ∙ e) }

  fork_read : (ys : List Item) → IsForked q xs ys → All (WasRead q.view) xs × All (WasRead q.view) ys
  fork_read ys f =
      let met = λ (zs : List Item) (to : Reaches q f.ipa zs).
      fork_met (config_now q) q.access f.front zs f.ipa to.0 to.1 f.walk_needs to.2 in (
        all_read q true xs (subst (λ v. IsMet (stands (config_now q) true q.access v)) (sym f.first_is) (met f.one f.reaches_one)) f.kept_first,
        all_read q true ys (subst (λ v. IsMet (stands (config_now q) true q.access v)) (sym f.second_is) (met f.two f.reaches_two)) f.kept_second,
      )

  twice_read : (ys : List Item) → IsTwice q xs ys → All (WasRead q.view) xs × All (WasRead q.view) ys
  twice_read ys t = (all_read q false xs (met_by _ _ t.lands_first.1 tt) t.kept_first, all_read q false ys (met_by _ _ t.lands_second.1 tt) t.kept_second)

  how_read : (ys : List Item) → IsTwice q xs ys ⊎ IsForked q xs ys → All (WasRead q.view) xs × All (WasRead q.view) ys
  how_read ys (inl t) = twice_read ys t
  how_read ys (inr f) = fork_read ys f

  right_read : (o : Outcome) → IsRight q xs second o → AreRead q xs second
  right_read (Mapped pa perms mem sh) r = one_read r.alone (all_read q true xs (met_by _ _ r.walk_ends tt) r.kept)
  right_read (Faulted f) r = one_read r.alone (all_read q true xs (met_by _ _ r.walk_ends tt) r.kept)
  right_read (Absent s level pa s1ptw) r = one_read r.alone (all_read q true xs (met_by _ _ r.walk_needs tt) r.kept)
  right_read Conflict r =
      let both = how_read r.other r.how in
      record {
        in_first = both.0;
        in_second = λ ys e. subst (λ zs. All (WasRead q.view) zs) (same_Some r.other ys (sym r.both ∙ e)) both.1;
      }

same_end : (d e : End Landing) → ◌≡◌ {A = Stands Need Item (End Landing)} (ends d []) (ends e []) → outcome_of d ≡ outcome_of e
same_end d e h = let same : d ≡ e = cc in ap outcome_of same

ends_needs : (e : End Landing) (n : Need) → ◌≡◌ {A = Stands Need Item (End Landing)} (ends e []) (needs n) → ⊥
ends_needs e n h = absurd cc

same_need : (m n : WordNeed) → ◌≡◌ {A = Stands Need Item (End Landing)} (needs (word m)) (needs (word n))
    → fed_outcome (lacks (word m)) ≡ fed_outcome (lacks (word n))
same_need m n h = let same : m ≡ n = cc in ap (λ k. fed_outcome (lacks (word k))) same

turned : (b c : Bool) → b ≡ c → not b ≡ c → ⊥
turned true c e f = let w : true ≡ false = e ∙ sym f in absurd cc
turned false c e f = let w : false ≡ true = e ∙ sym f in absurd cc

-- OUTCOMES

module _ (q : Case) (xs : List Item) (second : Option (List Item)) where
  -- an outcome where the walk ends is that of its end
  end_is : (o : Outcome) (e : End Landing) → IsRight q xs second o → is_conflict o ≡ false → Ends q true xs e → o ≡ outcome_of e
  end_is (Mapped pa perms mem sh) e r one at = r.is ∙ same_end r.end e (sym r.walk_ends ∙ at)
  end_is (Faulted f) e r one at = r.is ∙ same_end r.end e (sym r.walk_ends ∙ at)
  end_is (Absent s level pa s1ptw) e r one at =
      let clash : ◌≡◌ {A = Stands Need Item (End Landing)} (needs (word r.need)) (ends e []) = sym r.walk_needs ∙ at in
      absurd cc
  end_is Conflict e r one at = absurd cc

  -- one where the walk needs a word names this word
  need_is : (o : Outcome) (n : WordNeed) → IsRight q xs second o → is_conflict o ≡ false → stands (config_now q) true q.access xs ≡ needs (word n)
      → o ≡ fed_outcome (lacks (word n))
  need_is (Mapped pa perms mem sh) n r one at = absurd (ends_needs r.end (word n) (sym r.walk_ends ∙ at))
  need_is (Faulted f) n r one at = absurd (ends_needs r.end (word n) (sym r.walk_ends ∙ at))
  need_is (Absent s level pa s1ptw) n r one at = r.is ∙ same_need r.need n (sym r.walk_needs ∙ at)
  need_is Conflict n r one at = absurd cc

  alone_is : (o : Outcome) → IsRight q xs second o → is_conflict o ≡ false → second ≡ None
  alone_is (Mapped pa perms mem sh) r one = r.alone
  alone_is (Faulted f) r one = r.alone
  alone_is (Absent s level pa s1ptw) r one = r.alone
  alone_is Conflict r one = absurd cc

-- CONFLICTS

same_tail : {X : Type 0} (front one two : List X) → front ++ one ≡ front ++ two → one ≡ two
same_tail [] one two e = e
same_tail (x ∷ front) one two e = same_tail front one two cc

not_equal : (q : Case) (xs : List Item) → IsTwice q xs xs ⊎ IsForked q xs xs → ⊥
not_equal q xs (inl t) = t.differ refl refl
not_equal q xs (inr f) = f.differ (ap last_entry (same_tail f.front f.one f.two (sym f.first_is ∙ f.second_is)))

conflict_apart : (q : Case) (xs : List Item) (second : Option (List Item)) → IsConflict q xs second → second ≡ Some xs → ⊥
conflict_apart q xs second r same =
    let other : xs ≡ r.other = same_Some xs r.other (sym same ∙ r.both) in
    not_equal q xs (subst (λ ys. IsTwice q xs ys ⊎ IsForked q xs ys) (sym other) r.how)

place_of_absent : (s t : Stage) (k l : ℤ) (p q : ℕ) (v w : Bool) → Absent s k p v ≡ Absent t l q w → p ≡ q
place_of_absent s t k l p q v w e = cc

-- a place that an answer lacks is one that memory lacks
lacks_at : (q : Case) (xs : List Item) (second : Option (List Item)) (s : Stage) (l : ℤ) (p : ℕ) (w : Bool) → IsLacking q xs second (Absent s l p w)
    → memory_after q.view.header q.view.log p ≡ None
lacks_at q xs second s l p w r =
    let at : r.need.place ≡ p = place_of_absent _ _ _ _ _ _ _ _ (sym r.is) in
    subst (λ n. memory_after q.view.header q.view.log n ≡ None) at r.lacking

-- ALL LAWS

module _ (h : Header) (log : List Step) (c : ℕ) (a : Access) (r : Answer) where
  abbrev here : Case
  here = case_of h log c a

  now_is : {X : Type 0} (f : Regs → X) → f (regs_when here.view (now here.view)) ≡ f (regs_after c log)
  now_is f = ap f (regs_now here.view)

  right : {o : Outcome} → r.outcome ≡ o → IsAnswer here r → IsRight here r.first r.second o
  right is ok = subst (IsRight here r.first r.second) is ok.right

  was_shown : IsAnswer here r → (i : Item) → IsShown r i → WasRead here.view i
  was_shown ok i (inl at) = All-contains (WasRead here.view) r.first i (right_read here r.first r.second r.outcome ok.right).in_first at
  was_shown ok i (inr at) =
      All-contains (WasRead here.view) at.0 i ((right_read here r.first r.second r.outcome ok.right).in_second at.0 at.1) at.2

  items_true : (i : Item) → IsShown r i → ItemsAreTrue h log c a r i
  items_true i at = record {
    word = λ is wrong ok. wrong ((was_shown ok i at).word is);
    base = λ is wrong ok. wrong ((was_shown ok i at).base is);
    fields = λ wrong ok. wrong ((was_shown ok i at).fields ∙ now_is config_of);
    vmid = λ wrong ok. wrong ((was_shown ok i at).vmid ∙ now_is vmid_of);
  }

  outcomes_true : is_conflict r.outcome ≡ false → OutcomesAreTrue h log c a r
  outcomes_true one = record {
    of_walk = λ e at wrong ok. wrong (end_is here r.first r.second r.outcome e ok.right one at);
    of_need = λ n at wrong ok. wrong (need_is here r.first r.second r.outcome n ok.right one at);
    lacking = λ s l p w v is there ok. none_some v (sym (lacks_at here r.first r.second s l p w (right is ok)) ∙ there);
    alone = λ wrong ok. wrong (alone_is here r.first r.second r.outcome ok.right one);
  }

  conflicts_true : r.outcome ≡ Conflict → ConflictsAreTrue h log c a r
  conflicts_true is = record {
    one = λ none ok. none_some _ (sym none ∙ (right is ok).both);
    equal = λ same ok. conflict_apart here r.first r.second (right is ok) same;
  }

  answers_true : AnswersAreTrue h log c a r
  answers_true = record {
    items = items_true;
    outcomes = outcomes_true;
    conflicts = conflicts_true;
    asid = λ wrong ok. wrong (ok.asid_is ∙ now_is asid_of);
    vmid = λ wrong ok. wrong (ok.vmid_is ∙ now_is vmid_of);
    old = λ right ok. turned r.old _ right.old_is ok.old_is;
    stale = λ right ok. turned r.stale _ right.stale_is ok.stale_is;
    exchanged = λ right wrong ok. wrong (right.old_is ∙ sym ok.old_is);
    unanswered = λ ok. ok;
    not_fetched = λ ok. ok;
  }

pub nothing_false_is_allowed : NothingFalseIsAllowed
nothing_false_is_allowed = answers_true
