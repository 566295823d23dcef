-- The piece of both leaves that a walk ends in: its class is told by the last word of stage 1 and by the words behind it.
use Rattle.std.proofs.Common.{◌≡◌, ℕ, zero, suc, Bool, true, false, cond, List, [], ◌∷◌, refl, sym}
use Rattle.std.proofs.Common.{ap, ◌∙◌, subst, Result, Ok, Err, Option, Some, None}
use Rattle.std.specs.Prelude.{◌&&◌, ◌||◌, not, fold}
use Rattle.std.specs.Option.{option_or}
use Rattle.geometry.specs.Tables.{most_left}
use Rattle.permissions.specs.Rights.{no_bits, is_allowed1, is_allowed2, is_uxn}
use Rattle.fault_codes.specs.declared.fault.Stage.TheVariants.{S1, S2}
use Rattle.fault_codes.specs.declared.fault.Fault.{Fault}
use Rattle.fault_codes.specs.declared.fault.Class.TheVariants.{Translation, AddressSize, Permission}
use Rattle.descriptors.specs.declared.kinds.Kind1.{Kind1}
use Rattle.descriptors.specs.declared.kinds.Kind1.TheVariants.{Invalid, Table, Leaf}
use Rattle.descriptors.specs.declared.kinds.Kind2.{Kind2}
use Rattle.descriptors.specs.declared.kinds.Kind2.TheVariants.{Invalid as Invalid2, Table as Table2, Leaf as Leaf2Kind}
use Rattle.descriptors.specs.Meaning.{means1_of, means2_of}
use Rattle.trails.specs.declared.item.Item.{Item}
use Rattle.table_reads.specs.declared.lead.Lead.{Lead}
use Rattle.table_reads.specs.declared.lead.Lead.TheVariants.{Down, Reached, Stopped}
use Rattle.table_reads.specs.Places.{is_too_large}
use Rattle.walk_spec.specs.declared.entry.Entry1.{Entry1}
use Rattle.walk_spec.specs.declared.entry.Table1.{Table1}
use Rattle.walk_spec.specs.declared.leaf.Leaf1.{Leaf1}
use Rattle.walk_spec.specs.declared.leaf.Leaf2.{Leaf2}
use Rattle.walk_spec.specs.declared.leaf.Fields1.{Fields1}
use Rattle.walk_spec.specs.Ask.{Ask, done, ask, after, go_on, finer}
use Rattle.walk_spec.specs.Needs.{Regime, Need, stage1_base, stage2_base, mapping1, mapping2, mapping_of, class_by}
use Rattle.walk_spec.specs.Steps.{End, stops, reaches, step_then}
use Rattle.walk_spec.specs.Stage2.{Asked2, fault2, step2, step2_by, walk2, walk2_from, walk2_behind, is_refused2}
use Rattle.walk_spec.specs.Stage1.{Asked, asked2, fault1, leaf1_of, step1, step1_by, entry1, walk1_from, is_readable, read1, read1_by, word_of, stage1_from}
use Rattle.walk_spec.specs.BothStages.{Landing, landed, piece, smaller, judged2, walk_by, stage1, stage1_on, stage1_off}
use Rattle.walk_spec.specs.BothStages.{stage1_behind, stage2_behind, is_refused1, is_refused_off, off_leaf}
use Rattle.machine_spec.specs.Marks.{Mark, mark, marks, is_first}
use Rattle.machine_spec.specs.Made.{last_first}
use Rattle.machine_laws.specs.Standing.{IsOn}
use Rattle.made_rows.specs.Pieces.{after1, after2, IsPiece}
use Rattle.made_rows.proofs.Steady.{cond_reached, down_not}

-- THE CLASS OF A LEAF IS THAT OF ITS WORD'S REGION

abbrev class2_in : Lead Leaf2 ℕ → ℕ
class2_in (Down t) = 0
class2_in (Reached l) = l.class
class2_in (Stopped f) = 0

abbrev class1_in : Lead Leaf1 Table1 → ℕ
class1_in (Down t) = 0
class1_in (Reached l) = l.class
class1_in (Stopped f) = 0

abbrev Found1 : Leaf1 → Lead Leaf1 Table1
Found1 l = Reached l

same_class1 : (x l : Leaf1) → Found1 x ≡ Found1 l → l.class ≡ x.class
same_class1 x l h = sym (ap class1_in h)

reached2_by : (q : Asked2) (left pa : ℕ) (kind : Kind2) (l : Leaf2) → step2_by q left pa kind ≡ Reached l
    → l.class ≡ class_by (mapping2 kind) q.sizes left pa
reached2_by q left pa Invalid2 l h = absurd cc
reached2_by q left pa (Table2 t) l h = down_not (is_too_large q.sizes t) (fault2 q AddressSize left) t l _ h
reached2_by q left pa (Leaf2Kind out mem_attr read write xn sh af dbm contiguous) l h =
    sym (ap class2_in (cond_reached (not (af || q.config.ha2)) _ _ l (cond_reached (is_too_large q.sizes out) _ _ l h)))

reached2 : (q : Asked2) (left pa v : ℕ) (l : Leaf2) → step2 q left pa v ≡ Reached l → l.class
    ≡ class_by (mapping2 (means2_of q.config left v)) q.sizes left pa
unfolding step2
reached2 q left pa v l h = reached2_by q left pa (means2_of q.config left v) l h

reached1_by : (q : Asked) (e : Entry1) (pa : ℕ) (kind : Kind1) (l : Leaf1) → step1_by q e pa kind ≡ Reached l →
    l.class ≡ class_by (mapping1 kind) q.regime.stage1 e.left pa
reached1_by q e pa Invalid l h = absurd cc
reached1_by q e pa (Table t bits) l h = down_not (is_too_large q.regime.stage1 t) (fault1 AddressSize e.left) _ l _ h
reached1_by q e pa (Leaf out attr_index bits sh af global contiguous) l h =
    let fields : Fields1 = record { out = out; attr_index = attr_index; sh = sh; bits = bits; global = global; contiguous = contiguous } in
    let leaf : Leaf1 = leaf1_of q.regime e pa fields in
    let g = cond_reached (not (af || q.regime.config.ha1)) _ _ l (cond_reached (is_too_large q.regime.stage1 out) _ _ l h) in
    let no_access : Bool = not (is_allowed1 leaf.perms (is_uxn bits e.table.bits) q.access.el q.access.kind q.access.pan q.regime.config.epan) in
    same_class1 leaf l (cond_reached (q.judged && no_access) (fault1 Permission e.left) (Reached leaf) l g)

reached1 : (q : Asked) (e : Entry1) (pa v : ℕ) (l : Leaf1) → step1 q e pa v ≡ Reached l →
    l.class ≡ class_by (mapping_of q.regime S1 e.left v) q.regime.stage1 e.left pa
unfolding step1
reached1 q e pa v l h = reached1_by q e pa (means1_of q.regime.config q.regime.side e.left v) l h

-- WHERE A WALK STANDS

module _ (r : Regime) where
  -- at each end of a walk this holds
  abbrev pub Holds : {A : Type 0} → (Option Mark → Option ℕ → A → Type 0) → Option Mark → Option ℕ → Ask Need Item A → Type 0
  Holds P o k (done a) = P o k a
  Holds P o k (ask n g) = (i : Item) → Holds P (after1 o (mark r n i)) (after2 k (mark r n i)) (g i)

  holds_after : {A B : Type 0} (P : Option Mark → Option ℕ → A → Type 0) (Q : Option Mark → Option ℕ → B → Type 0) (o : Option Mark)
      (k : Option ℕ)
      (t : Ask Need Item A) (f : A → Ask Need Item B) → Holds P o k t
      → ((o : Option Mark) (k : Option ℕ) (a : A) → P o k a → Holds Q o k (f a)) → Holds Q o k (after t f)
  holds_after P Q o k (done a) f h g = g o k a h
  holds_after P Q o k (ask n next) f h g = λ i. holds_after P Q (after1 o (mark r n i)) (after2 k (mark r n i)) (next i) f (h i) g

  holds_if : {A : Type 0} (P : Option Mark → Option ℕ → A → Type 0) (o : Option Mark) (k : Option ℕ) (b : Bool) (t u : Ask Need Item A)
      → Holds P o k t
      → Holds P o k u → Holds P o k (cond b t u)
  holds_if P o k true t u h g = h
  holds_if P o k false t u h g = g

  -- and so behind the items that it met
  pub holds_on : {A : Type 0} (P : Option Mark → Option ℕ → A → Type 0) (o : Option Mark) (k : Option ℕ) (t : Ask Need Item A) (items : List Item)
      (a : A)
      → IsOn r t items (done a) → Holds P o k t → P (fold after1 o (marks r t items)) (fold after2 k (marks r t items)) a
  holds_on P o k (done b) [] a h g = subst (λ t. Holds P o k t) (sym h) g
  holds_on P o k (ask n next) [] a h g = absurd cc
  holds_on P o k (done b) (i ∷ items) a h g = absurd h
  holds_on P o k (ask n next) (i ∷ items) a h g = holds_on P (after1 o (mark r n i)) (after2 k (mark r n i)) (next i) items a h.1 (g i)

  -- STAGE 2

  abbrev Leaf2Is : Option Mark → Option Mark → Option ℕ → End Leaf2 → Type 0
  Leaf2Is last o k (stops f) = Unit {0}
  Leaf2Is last o k (reaches l) = (o ≡ last) × (k ≡ Some l.class)

  module _ (last : Option Mark) (p : Bool) (x : ℕ) where
    abbrev Q2 : Asked2
    Q2 = asked2 r p x

    step2_holds : (below : ℕ → Ask Need Item (End Leaf2)) (s : Lead Leaf2 ℕ) (left pa v : ℕ) → step2 Q2 left pa v ≡ s
        → ((k : Option ℕ) (t : ℕ) → Holds (Leaf2Is last) last k (below t))
        → Holds (Leaf2Is last) last (Some (class_by (mapping_of r S2 left v) r.stage2 left pa)) (step_then below s)
    step2_holds below (Down t) left pa v e h = h (Some (class_by (mapping_of r S2 left v) r.stage2 left pa)) t
    step2_holds below (Reached l) left pa v e h = (refl, ap (λ c. Some c) (sym (reached2 Q2 left pa v l e)))
    step2_holds below (Stopped f) left pa v e h = tt

    from2_holds : (k : Option ℕ) (left t : ℕ) → Holds (Leaf2Is last) last k (walk2_from Q2 left t)
    unfolding mark
    from2_holds k zero t =
        λ i. step2_holds (λ _. done (stops (fault2 Q2 Translation 0))) (step2 Q2 0 i.pa i.value) 0 i.pa i.value refl (λ k t. tt)
    from2_holds k (suc left) t =
        λ i. step2_holds (walk2_from Q2 left) (step2 Q2 (suc left) i.pa i.value) (suc left) i.pa i.value refl (λ k t. from2_holds k left t)

    walk2_holds : (k : Option ℕ) → Holds (Leaf2Is last) last k (walk2 Q2)
    unfolding mark
    walk2_holds k =
        holds_if (Leaf2Is last) last k (is_refused2 r.config x) (done (stops (fault2 Q2 Translation most_left)))
        (ask (stage2_base x) (λ i. walk2_behind Q2 i.value)) tt
        (λ i. holds_if (Leaf2Is last) last None (is_too_large r.stage2 i.value) (done (stops (fault2 Q2 AddressSize most_left)))
        (walk2_from Q2 r.stage2.start i.value) tt (from2_holds None r.stage2.start i.value))

-- STAGE 1

module _ (q : Asked) where
  abbrev R : Regime
  R = q.regime

  abbrev WordIs : ℕ → Option Mark → Option ℕ → Result Item Fault → Type 0
  WordIs left o k (Ok i) =
      (m : Mark) × (o ≡ Some m) × (k ≡ None) × (m.region.class ≡ class_by (mapping_of R S1 left i.value) R.stage1 left i.pa)
  WordIs left o k (Err f) = Unit {0}

  read_holds : (o : Option Mark) (k : Option ℕ) (e : Entry1) (place : ℕ) → Holds R (WordIs e.left) o k (read1 e place)
  unfolding mark
  read_holds o k e place = λ i. (_, refl, refl, refl)

  read_by_holds : (o : Option Mark) (k : Option ℕ) (e : Entry1) (d : End Leaf2) → Holds R (WordIs e.left) o k (read1_by R.config e d)
  read_by_holds o k e (stops f) = tt
  read_by_holds o k e (reaches l) =
      holds_if R (WordIs e.left) o k (is_readable R.config l) (read1 e l.pa)
      (done (Err record { stage = S2; level = l.level; class = Permission; s1ptw = true })) (read_holds o k e l.pa) tt

  word_holds : (o : Option Mark) (k : Option ℕ) (e : Entry1) → Holds R (WordIs e.left) o k (word_of R e)
  word_holds o k e =
      holds_if R (WordIs e.left) o k R.config.vm (after (walk2 (asked2 R true e.place)) (read1_by R.config e)) (read1 e e.place)
      (holds_after R (Leaf2Is R o) (WordIs e.left) o k (walk2 (asked2 R true e.place)) (read1_by R.config e) (walk2_holds R o true e.place k)
      (λ o k d h. read_by_holds o k e d)) (read_holds o k e e.place)

  abbrev Leaf1Is : Option Mark → Option ℕ → End Leaf1 → Type 0
  Leaf1Is o k (stops f) = Unit {0}
  Leaf1Is o k (reaches l) = IsPiece o None l.class × (k ≡ None)

  step1_holds : (o : Option Mark) (k : Option ℕ) (m : Mark) (below : Table1 → Ask Entry1 Item (End Leaf1)) (s : Lead Leaf1 Table1) (e : Entry1) (pa v : ℕ)
      → step1 q e pa v ≡ s → o ≡ Some m → k ≡ None → m.region.class ≡ class_by (mapping_of R S1 e.left v) R.stage1 e.left pa
      → ((o : Option Mark) (k : Option ℕ) (t : Table1) → Holds R Leaf1Is o k (finer stops (word_of R) (below t)))
      → Holds R Leaf1Is o k (finer stops (word_of R) (step_then below s))
  step1_holds o k m below (Down t) e pa v is a b c h = h o k t
  step1_holds o k m below (Reached l) e pa v is a b c h = (subst (λ o. IsPiece o None l.class) (sym a) (reached1 q e pa v l is ∙ sym c), b)
  step1_holds o k m below (Stopped f) e pa v is a b c h = tt

  go_holds : (below : Table1 → Ask Entry1 Item (End Leaf1)) (e : Entry1) (o : Option Mark) (k : Option ℕ) (d : Result Item Fault) → WordIs e.left o k d
      → ((o : Option Mark) (k : Option ℕ) (t : Table1) → Holds R Leaf1Is o k (finer stops (word_of R) (below t)))
      → Holds R Leaf1Is o k (go_on stops (λ i. finer stops (word_of R) (step_then below (step1 q e i.pa i.value))) d)
  go_holds below e o k (Ok i) w h = step1_holds o k w.0 below (step1 q e i.pa i.value) e i.pa i.value refl w.1 w.2 w.3 h
  go_holds below e o k (Err f) w h = tt

  from1_holds : (o : Option Mark) (k : Option ℕ) (left : ℕ) (t : Table1) → Holds R Leaf1Is o k (stage1_from q left t)
  from1_holds o k zero t =
      let below : Table1 → Ask Entry1 Item (End Leaf1) = λ t. done (stops (fault1 Translation 0)) in
      holds_after R (WordIs 0) Leaf1Is o k (word_of R (entry1 q 0 t))
      (go_on stops (λ i. finer stops (word_of R) (step_then below (step1 q (entry1 q 0 t) i.pa i.value)))) (word_holds o k (entry1 q 0 t))
      (λ o k d w. go_holds below (entry1 q 0 t) o k d w (λ o k t. tt))
  from1_holds o k (suc left) t =
      holds_after R (WordIs (suc left)) Leaf1Is o k (word_of R (entry1 q (suc left) t))
      (go_on stops (λ i. finer stops (word_of R) (step_then (walk1_from q left) (step1 q (entry1 q (suc left) t) i.pa i.value))))
      (word_holds o k (entry1 q (suc left) t))
      (λ o k d w. go_holds (walk1_from q left) (entry1 q (suc left) t) o k d w (λ o k t. from1_holds o k left t))

  behind_holds : (o : Option Mark) (k : Option ℕ) (base : ℕ) → Holds R Leaf1Is o k (stage1_behind q base)
  behind_holds o k base =
      holds_if R Leaf1Is o k (is_too_large R.stage1 base) (done (stops (fault1 AddressSize most_left)))
      (stage1_from q R.stage1.start record { address = base; bits = no_bits }) tt
      (from1_holds o k R.stage1.start record { address = base; bits = no_bits })

  off_holds : (b : Bool) → Holds R Leaf1Is None None (done (cond b (stops (fault1 AddressSize most_left)) (reaches (off_leaf R.config q.access))))
  off_holds true = tt
  off_holds false = (tt, refl)

  stage1_holds : Holds R Leaf1Is None None (stage1 q)
  stage1_holds =
      holds_if R Leaf1Is None None R.config.m (stage1_on q) (stage1_off q)
      (holds_if R Leaf1Is None None (is_refused1 R.config q.access) (done (stops (fault1 Translation most_left)))
      (ask stage1_base (λ i. stage1_behind q i.value)) tt (λ i. behind_holds _ _ i.value)) (off_holds (is_refused_off R.config q.access))

  -- BOTH STAGES

  abbrev pub LandingIs : Option Mark → Option ℕ → End Landing → Type 0
  LandingIs o k (stops f) = Unit {0}
  LandingIs o k (reaches l) = IsPiece o k l.class

  joined_piece : (o : Option Mark) (k : ℕ) (c : ℕ) → IsPiece o None c → IsPiece o (Some k) (smaller c k)
  joined_piece None k c h = tt
  joined_piece (Some m) k c h = ap (λ z. smaller z k) h

  judged_holds : (last o : Option Mark) (k : Option ℕ) (l : Leaf1) (e : End Leaf2) → IsPiece last None l.class → Leaf2Is R last o k e
      → LandingIs o k (judged2 q.judged q.access l e)
  judged_holds last o k l (stops f) h g = tt
  judged_holds last o k l (reaches m) h g =
      by_case (q.judged && not (is_allowed2 m.perms q.access.el q.access.kind)) where
        by_case : (b : Bool) → LandingIs o k (cond b (stops record { stage = S2; level = m.level; class = Permission; s1ptw = false }) (reaches (piece l m)))
        by_case true = tt
        by_case false =
            subst (λ o. IsPiece o k (smaller l.class m.class)) (sym g.0)
            (subst (λ k. IsPiece last k (smaller l.class m.class)) (sym g.1) (joined_piece last m.class l.class h))

  output_holds : (o : Option Mark) (k : Option ℕ) (e : End Leaf1) → Leaf1Is o k e → Holds R LandingIs o k (stage2_behind q e)
  output_holds o k (stops f) h = tt
  output_holds o k (reaches l) h =
      holds_if R LandingIs o k R.config.vm (after (walk2 (asked2 R false l.out)) (λ e. done (judged2 q.judged q.access l e))) (done (reaches (landed l)))
      (holds_after R (Leaf2Is R o) LandingIs o k (walk2 (asked2 R false l.out)) (λ e. done (judged2 q.judged q.access l e)) (walk2_holds R o false l.out k)
      (λ p j e g. judged_holds o p j l e h.0 g)) (subst (λ k. IsPiece o k l.class) (sym h.1) h.0)

  pub walk_holds : Holds R LandingIs None None (walk_by q)
  walk_holds = holds_after R Leaf1Is LandingIs None None (stage1 q) (stage2_behind q) stage1_holds output_holds

-- THE LAST ITEM OF STAGE 1

option_or_assoc : (a b c : Option Mark) → option_or (option_or a b) c ≡ option_or a (option_or b c)
option_or_assoc None b c = refl
option_or_assoc (Some a) b c = refl

cond_or : (b : Bool) (m : Mark) (o : Option Mark) → cond b (Some m) o ≡ option_or (cond b (Some m) None) o
cond_or true m o = refl
cond_or false m o = refl

pub last_is : (o : Option Mark) (ms : List Mark) → fold after1 o ms ≡ option_or (last_first ms) o
last_is o [] = refl
last_is o (m ∷ ms) =
    last_is (after1 o m) ms ∙ ap (option_or (last_first ms)) (cond_or (is_first m) m o)
    ∙ sym (option_or_assoc (last_first ms) (cond (is_first m) (Some m) None) o)
