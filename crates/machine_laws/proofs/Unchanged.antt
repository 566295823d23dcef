-- An allowed answer whose trail memory and registers of now would give again is that of the fresh walk.
use Rattle.std.proofs.Common.{◌≡◌, ℕ, Bool, true, false, cond, List, [], ◌∷◌, length, refl, sym, ap, ◌∙◌, subst, Option, Some}
use Rattle.std.specs.Prelude.{ℤ, option_map}
use Rattle.std.proofs.lemmas.Bool.{eqb-true}
use Rattle.geometry.specs.Tables.{level_of}
use Rattle.sysregs.specs.declared.regs.Regs.{Regs}
use Rattle.sysregs.specs.declared.regs.Side.{Side}
use Rattle.sysregs.specs.Registers.{config_of}
use Rattle.sysregs.specs.Sides.{side_of}
use Rattle.fault_codes.specs.declared.fault.Stage.{Stage}
use Rattle.fault_codes.specs.declared.fault.Stage.TheVariants.{S1, S2}
use Rattle.trails.specs.declared.item.Item.{Item}
use Rattle.trails.specs.declared.item.What.{What}
use Rattle.trails.specs.declared.outcome.Access.{Access}
use Rattle.trails.specs.declared.outcome.Outcome.{Outcome}
use Rattle.trails.specs.declared.outcome.Outcome.TheVariants.{Mapped, Faulted, Absent, Conflict}
use Rattle.trails.specs.declared.step.Step.{Step}
use Rattle.table_reads.specs.declared.sizes.Sizes.{Sizes}
use Rattle.table_reads.specs.Numbers.{sizes1, sizes2}
use Rattle.table_reads.specs.Items.{base_item}
use Rattle.table_reads.specs.Memory.{Memory}
use Rattle.walk_spec.specs.Ask.{Ask, done, ask, Stands, needs, bad, ends, on, Fed, ended, lacks, Took}
use Rattle.walk_spec.specs.Needs.{Regime, regime_of, Need, stage1_base, stage2_base, word, fits, fits_base, needed_item}
use Rattle.walk_spec.specs.Steps.{End}
use Rattle.walk_spec.specs.BothStages.{Landing, walk}
use Rattle.walk_spec.specs.Fresh.{start_base1, start_base2, given, fed_outcome, fresh_items, fresh_outcome}
use Rattle.walk_spec.proofs.Feeding.{stands_fed, EndsAsGiven, fed_took}
use Rattle.walk_laws.specs.Shift.{stands}
use Rattle.walk_laws.proofs.Places.{first_of_and, second_of_and}
use Rattle.machine_spec.specs.Header.{Header}
use Rattle.machine_spec.specs.Moments.{memory_after, regs_after}
use Rattle.machine_spec.specs.Kept.{regs_when}
use Rattle.machine_spec.specs.Allowed.{is_conflict, IsEnded, IsLacking, IsRight, case_of}
use Rattle.machine_spec.specs.Unchanged.{IsAsNow, AreAsNow, IsUnchanged, read_at}
use Rattle.machine_laws.specs.Headline.{UnchangedIsFresh}
use Rattle.machine_laws.proofs.MarksOf.{fits_base1_parts, fits_base2_parts, fits_word_parts, level_is}
use Rattle.machine_laws.proofs.Begins.{regs_now}
use Rattle.machine_laws.proofs.Timeless.{IsAlike, Alike, Equal, walk_timeless}

-- WHAT IS AS NOW IS GIVEN NOW

-- what a base that fits has besides its stage
base_parts : (n : Sizes) (s : Stage) (i : Item) → fits_base n s i ≡ true → (i.level ≡ level_of n.start) × (i.pa ≡ i.value)
base_parts n s i h =
    let at = first_of_and _ _ (first_of_and _ _ h) in
    (level_is i.level (level_of n.start) (second_of_and _ _ (first_of_and _ _ at)), eqb-true i.pa i.value (second_of_and _ _ at))

base1_parts : (r : Regime) (i : Item) → fits r stage1_base i ≡ true → (i.level ≡ level_of r.stage1.start) × (i.pa ≡ i.value)
unfolding fits
base1_parts r i h = base_parts r.stage1 S1 i h

base2_parts : (r : Regime) (x : ℕ) (i : Item) → fits r (stage2_base x) i ≡ true → (i.level ≡ level_of r.stage2.start) × (i.pa ≡ i.value)
unfolding fits
base2_parts r x i h = base_parts r.stage2 S2 i h

abbrev item : Stage → ℤ → What → ℕ → ℕ → ℕ → Item
item s l w pa v k = record { stage = s; level = l; what = w; pa = pa; value = v; moment = k }

-- an item with another moment
abbrev read_now : ℕ → Item → Item
read_now k i = record i { moment = k }

-- items that are alike are one where they have one moment
same_item : (k : ℕ) (i j : Item) → IsAlike i j → read_now k i ≡ read_now k j
same_item k i j e =
    ap (λ x. item x i.level i.what i.pa i.value k) e.stage_is ∙ ap (λ x. item j.stage x i.what i.pa i.value k) e.level_is
    ∙ ap (λ x. item j.stage j.level x i.pa i.value k) e.what_is ∙ ap (λ x. item j.stage j.level j.what x i.value k) e.pa_is
    ∙ ap (λ x. item j.stage j.level j.what j.pa x k) e.value_is

module _ (regs : Regs) (s : Side) (m : Memory) (k : ℕ) where
  abbrev rg : Regime
  rg = regime_of (config_of regs) s

  -- an item that fits a need and is as now is given for it
  given_read : (n : Need) (i : Item) → fits rg n i ≡ true → IsAsNow regs s m n i → given regs s m k n ≡ Some (read_now k i)
  given_read stage1_base i f h =
      let p = fits_base1_parts rg i f in
      let q = base1_parts rg i f in
      ap (λ (j : Item). Some j) (same_item k (base_item k S1 (sizes1 (config_of regs) s) (start_base1 regs s)) i
      record { stage_is = sym p.1; level_is = sym q.0; what_is = sym p.0; pa_is = sym (q.1 ∙ h); value_is = sym h })
  given_read (stage2_base x) i f h =
      let p = fits_base2_parts rg x i f in
      let q = base2_parts rg x i f in
      ap (λ (j : Item). Some j) (same_item k (base_item k S2 (sizes2 (config_of regs)) (start_base2 regs)) i
      record { stage_is = sym p.1; level_is = sym q.0; what_is = sym p.0; pa_is = sym (q.1 ∙ h); value_is = sym h })
  given_read (word w) i f h =
      let p = fits_word_parts rg w i f in
      ap (option_map (needed_item k w)) h.1
      ∙ ap (λ (j : Item). Some j) (same_item k (needed_item k w i.value) i
      record { stage_is = sym p.stage; level_is = sym p.level; what_is = sym p.what; pa_is = sym h.0; value_is = refl })

  -- THE WALK AGAIN

  abbrev Stood : {A : Type 0} → Stands Need Item A → Fed Need A → Type 0
  Stood s e = s ≡ stands_fed e

  ends_as : {A : Type 0} (a b : A) (xs : List Item) (e : Fed Need A) → a ≡ b → ends a xs ≡ stands_fed e → (read_at k xs ≡ []) × (e ≡ ended b)
  ends_as a b xs (ended c) q h = let x : xs ≡ [] = cc in (ap (read_at k) x, cc)
  ends_as a b xs (lacks n) q h = absurd cc

  needs_as : {A : Type 0} (n p : Need) (e : Fed Need A) → n ≡ p → Stood (needs n) e → e ≡ lacks p
  needs_as n p (ended c) q h = absurd cc
  needs_as n p (lacks o) q h = cc

  not_bad : {A P : Type 0} (e : Fed Need A) → Stood bad e → P
  not_bad (ended c) h = absurd cc
  not_bad (lacks n) h = absurd cc

  goes_as : {A : Type 0} (b : Bool) (rest : Stands Need Item A) (e : Fed Need A) → cond b rest bad ≡ stands_fed e
      → (b ≡ true) × (rest ≡ stands_fed e)
  goes_as true rest e h = (refl, h)
  goes_as false rest e h = not_bad e h

  -- a walk that goes on alike takes the items with the moment of now, each of which is given
  took_again : {A : Type 0} (t u : Ask Need Item A) (xs : List Item) (e : Fed Need A) → Alike Equal t u → on (fits rg) t xs ≡ stands_fed e
      → AreAsNow regs s m t xs
      → Took (λ n i. given regs s m k n ≡ Some i) u (read_at k xs) e
  took_again (done a) (done b) xs e h st as_now = ends_as a b xs e h st
  took_again (done a) (ask p l) xs e h st as_now = absurd h
  took_again (ask n g) (done b) xs e h st as_now = absurd h
  took_again (ask n g) (ask p l) [] e h st as_now = needs_as n p e h.0 st
  took_again (ask n g) (ask p l) (i ∷ xs) e h st as_now =
      let b = goes_as (fits rg n i) (on (fits rg) (g i) xs) e st in
      let alike : IsAlike i (read_now k i) = record { stage_is = refl; level_is = refl; what_is = refl; pa_is = refl; value_is = refl } in (
        subst (λ q. given regs s m k q ≡ Some (read_now k i)) h.0 (given_read n i b.0 as_now.0),
        took_again (g i) (l (read_now k i)) xs e (h.1 i (read_now k i) alike) b.1 as_now.1,
      )

-- items that are as now are those of the fresh walk but for moments, and so is the outcome
again : (regs : Regs) (m : Memory) (a : Access) (k : ℕ) (xs : List Item) (e : Fed Need (End Landing)) → stands (config_of regs) true a xs ≡ stands_fed e
    → EndsAsGiven (given regs (side_of a.va) m k) e → IsUnchanged regs m a xs
    → (read_at k xs ≡ fresh_items m regs a k) × (fed_outcome e ≡ fresh_outcome m regs a k)
again regs m a k xs e st lacking as_now =
    let t = walk (config_of regs) true a in
    let d = fed_took (given regs (side_of a.va) m k) t (read_at k xs) e
    (took_again regs (side_of a.va) m k t t xs e (walk_timeless (config_of regs) true a) st as_now) lacking in
    (d.0, ap fed_outcome d.1)

-- AN ANSWER

module _ (h : Header) (log : List Step) (c : ℕ) (a : Access) (xs : List Item) (second : Option (List Item)) where
  abbrev regs_here : Regs
  regs_here = regs_after c log

  abbrev memory_here : Memory
  memory_here = memory_after h log

  abbrev AsFresh : Outcome → Type 0
  AsFresh o = (read_at (length log) xs ≡ fresh_items memory_here regs_here a (length log)) × (o ≡ fresh_outcome memory_here regs_here a (length log))

  -- the registers of now
  here_is : (e : Fed Need (End Landing)) → stands (config_of (regs_when (case_of h log c a).view (length log))) true a xs ≡ stands_fed e
      → stands (config_of regs_here) true a xs ≡ stands_fed e
  here_is e st = subst (λ g. stands (config_of g) true a xs ≡ stands_fed e) (regs_now (case_of h log c a).view) st

  ended_fresh : (o : Outcome) → IsEnded (case_of h log c a) xs second o → IsUnchanged regs_here memory_here a xs → AsFresh o
  ended_fresh o r as_now =
      let d = again regs_here memory_here a (length log) xs (ended r.end) (here_is (ended r.end) r.walk_ends) tt as_now in
      (d.0, r.is ∙ d.1)

  lacking_fresh : (o : Outcome) → IsLacking (case_of h log c a) xs second o → IsUnchanged regs_here memory_here a xs → AsFresh o
  lacking_fresh o r as_now =
      let n : Need = word r.need in
      let d = again regs_here memory_here a (length log) xs (lacks n) (here_is (lacks n) r.walk_needs)
      (ap (option_map (needed_item (length log) r.need)) r.lacking) as_now in
      (d.0, r.is ∙ d.1)

  right_fresh : (o : Outcome) → IsRight (case_of h log c a) xs second o → is_conflict o ≡ false → IsUnchanged regs_here memory_here a xs → AsFresh o
  right_fresh (Mapped pa perms mem sh) r one as_now = ended_fresh (Mapped pa perms mem sh) r as_now
  right_fresh (Faulted f) r one as_now = ended_fresh (Faulted f) r as_now
  right_fresh (Absent s level pa s1ptw) r one as_now = lacking_fresh (Absent s level pa s1ptw) r as_now
  right_fresh Conflict r one as_now = absurd cc

pub unchanged_is_fresh : UnchangedIsFresh
unchanged_is_fresh h log c a r answer one as_now =
    let d = right_fresh h log c a r.first r.second r.outcome answer.right one as_now in
    record { outcome = d.1; items = d.0 }
