-- What holds of each question and each end of a walk: levels are from 0 to 3, faults have a status code, and classes are at most 55.
use Rattle.std.proofs.Common.{◌≡◌, ℕ, zero, suc, ◌≤◌, Bool, true, false, not, cond, refl, arith, Result, Ok, Err}
use Rattle.std.specs.Prelude.{◌&&◌, ◌||◌, nat_le}
use Rattle.geometry.specs.Tables.{IsGranule, most_left, level_of}
use Rattle.sysregs.specs.declared.regs.Config.{Config}
use Rattle.sysregs.specs.Sides.{side_of}
use Rattle.permissions.specs.Rights.{no_bits, joined, is_allowed1, is_allowed2, is_uxn}
use Rattle.fault_codes.specs.Status.{HasLevel, HasStatus}
use Rattle.fault_codes.specs.declared.fault.Fault.{Fault}
use Rattle.fault_codes.specs.declared.fault.Stage.TheVariants.{S2}
use Rattle.fault_codes.specs.declared.fault.Class.{Class}
use Rattle.fault_codes.specs.declared.fault.Class.TheVariants.{Translation, AddressSize, AccessFlag, Permission}
use Rattle.descriptors.specs.declared.kinds.Kind1.{Kind1}
use Rattle.descriptors.specs.declared.kinds.Kind1.TheVariants.{Invalid, Table, Leaf}
use Rattle.descriptors.specs.declared.kinds.Kind2.{Kind2}
use Rattle.descriptors.specs.declared.kinds.Kind2.TheVariants.{Invalid as Invalid2, Table as Table2, Leaf as Leaf2Kind}
use Rattle.descriptors.specs.Meaning.{means1_of, means2_of}
use Rattle.trails.specs.declared.item.Item.{Item}
use Rattle.trails.specs.declared.outcome.Access.{Access}
use Rattle.table_reads.specs.declared.lead.Lead.{Lead}
use Rattle.table_reads.specs.declared.lead.Lead.TheVariants.{Down, Reached, Stopped}
use Rattle.table_reads.specs.Places.{is_too_large}
use Rattle.walk_spec.specs.declared.entry.Entry1.{Entry1}
use Rattle.walk_spec.specs.declared.entry.Table1.{Table1}
use Rattle.walk_spec.specs.declared.leaf.Leaf1.{Leaf1}
use Rattle.walk_spec.specs.declared.leaf.Leaf2.{Leaf2}
use Rattle.walk_spec.specs.declared.leaf.Fields1.{Fields1}
use Rattle.walk_spec.specs.declared.leaf.Fields2.{Fields2}
use Rattle.walk_spec.specs.Ask.{Ask, done, ask, after, go_on, finer}
use Rattle.walk_spec.specs.Needs.{Regime, Need, stage1_base, stage2_base, word}
use Rattle.walk_spec.specs.Steps.{End, stops, reaches, step_then}
use Rattle.walk_spec.specs.Stage2.{Asked2, fault2, leaf2_of, step2, step2_by, walk2, walk2_from, walk2_behind, is_refused2}
use Rattle.walk_spec.specs.Stage1.{Asked, asked2, fault1, leaf1_of, step1, step1_by, entry1, walk1_from, is_readable, read1, read1_by, word_of, stage1_from}
use Rattle.walk_spec.specs.BothStages.{Landing, landed, piece, smaller, judged2, asked, walk_by, walk, stage1}
use Rattle.walk_spec.specs.BothStages.{stage1_on, stage1_off, stage1_behind, stage2_behind}
use Rattle.walk_spec.specs.BothStages.{is_refused1, is_refused_off, off_leaf}
use Rattle.walk_laws.proofs.Sound.{IsOfFields, granule1, granule2, sound1, sound2}
use Rattle.walk_laws.proofs.Shifts.{of_fields}
use Rattle.made_rows.proofs.Classes.{leaf_most}

-- a word of a level from 0 to 3, or a base
abbrev pub IsLow : Need → Type 0
IsLow stage1_base = Unit {0}
IsLow (stage2_base x) = Unit {0}
IsLow (word w) = w.left ≤ most_left

-- each question of a walk is so, and this holds of each end
abbrev pub Ends : {A : Type 0} → (A → Type 0) → Ask Need Item A → Type 0
Ends P (done a) = P a
Ends P (ask n k) = IsLow n × ((i : Item) → Ends P (k i))

-- a walk ends with a fault that has a status code, or at a leaf of which this holds
abbrev pub IsEnd : {L : Type 0} → (L → Type 0) → End L → Type 0
IsEnd P (stops f) = HasStatus f
IsEnd P (reaches l) = P l

-- the same of what a word leads to
abbrev IsLead : {L T : Type 0} → (L → Type 0) → Lead L T → Type 0
IsLead P (Down t) = Unit {0}
IsLead P (Reached l) = P l
IsLead P (Stopped f) = HasStatus f

abbrev IsLeaf1 : Leaf1 → Type 0
IsLeaf1 l = l.class ≤ 55

abbrev IsLeaf2 : Leaf2 → Type 0
IsLeaf2 l = (l.class ≤ 55) × HasLevel Permission l.level

abbrev pub IsLanding : Landing → Type 0
IsLanding l = l.class ≤ 55

-- a level from 0 to 3 has each class of fault
pub status_at : (c : Class) (left : ℕ) → left ≤ most_left → HasLevel c (level_of left)
status_at c zero h = omega arith
status_at c (suc zero) h = omega arith
status_at c (suc (suc zero)) h = omega arith
status_at c (suc (suc (suc zero))) h = omega arith
status_at c (suc (suc (suc (suc n)))) h = absurd (omega (arith, h))

ends_after : {A B : Type 0} (P : A → Type 0) (Q : B → Type 0) (t : Ask Need Item A) (f : A → Ask Need Item B) → Ends P t
    → ((a : A) → P a → Ends Q (f a)) → Ends Q (after t f)
ends_after P Q (done a) f h g = g a h
ends_after P Q (ask n k) f h g = (h.0, λ i. ends_after P Q (k i) f (h.1 i) g)

ends_if : {A : Type 0} (P : A → Type 0) (b : Bool) (t u : Ask Need Item A) → (b ≡ true → Ends P t) → (b ≡ false → Ends P u)
    → Ends P (cond b t u)
ends_if P true t u h g = h refl
ends_if P false t u h g = g refl

lead_if : {L T : Type 0} (P : L → Type 0) (b : Bool) (f : Fault) (s : Lead L T) → HasStatus f → IsLead P s → IsLead P (cond b (Stopped f) s)
lead_if P true f s h g = h
lead_if P false f s h g = g

ends_step : {L T : Type 0} (P : L → Type 0) (below : T → Ask Need Item (End L)) (s : Lead L T) → IsLead P s → ((t : T) → Ends (IsEnd P) (below t))
    → Ends (IsEnd P) (step_then below s)
ends_step P below (Down t) h g = g t
ends_step P below (Reached l) h g = h
ends_step P below (Stopped f) h g = h

-- STAGE 2

module _ (q : Asked2) (granule : IsGranule q.sizes.granule) where
  lead2_by : (left pa : ℕ) (kind : Kind2) → left ≤ most_left → IsLead IsLeaf2 (step2_by q left pa kind)
  lead2_by left pa Invalid2 l = status_at Translation left l
  lead2_by left pa (Table2 t) l = lead_if IsLeaf2 (is_too_large q.sizes t) (fault2 q AddressSize left) (Down t) (status_at AddressSize left l) tt
  lead2_by left pa (Leaf2Kind out mem_attr read write xn sh af dbm contiguous) l =
      let fields : Fields2 = record {
        out = out;
        mem_attr = mem_attr;
        xn = xn;
        sh = sh;
        read = read;
        write = write;
        dbm = dbm;
        contiguous = contiguous;
      } in
      let found : Lead Leaf2 ℕ = Reached (leaf2_of q left pa fields) in
      lead_if IsLeaf2 (is_too_large q.sizes out) (fault2 q AddressSize left) (cond (not (af || q.config.ha2)) (Stopped (fault2 q AccessFlag left)) found)
      (status_at AddressSize left l)
      (lead_if IsLeaf2 (not (af || q.config.ha2)) (fault2 q AccessFlag left) found (status_at AccessFlag left l)
      (leaf_most q.sizes.granule q.sizes.input left out contiguous pa granule l, status_at Permission left l))

  lead2 : (left pa v : ℕ) → left ≤ most_left → IsLead IsLeaf2 (step2 q left pa v)
  unfolding step2
  lead2 left pa v l = lead2_by left pa (means2_of q.config left v) l

  from2_ends : (left t : ℕ) → left ≤ most_left → Ends (IsEnd IsLeaf2) (walk2_from q left t)
  from2_ends zero t l = (
    l,
    λ i. ends_step IsLeaf2 (λ _. done (stops (fault2 q Translation 0))) (step2 q 0 i.pa i.value) (lead2 0 i.pa i.value l) (λ _. status_at Translation 0 l),
  )
  from2_ends (suc left) t l = (
    l,
    λ i. ends_step IsLeaf2 (walk2_from q left) (step2 q (suc left) i.pa i.value) (lead2 (suc left) i.pa i.value l)
        (λ t. from2_ends left t (omega (arith, l))),
  )

walk2_ends : (r : Regime) (fields : IsOfFields r) (p : Bool) (x : ℕ) → Ends (IsEnd IsLeaf2) (walk2 (asked2 r p x))
walk2_ends r fields p x =
    let q : Asked2 = asked2 r p x in
    ends_if (IsEnd IsLeaf2) (is_refused2 r.config x) (done (stops (fault2 q Translation most_left))) (ask (stage2_base x) (λ i. walk2_behind q i.value))
    (λ _. status_at Translation most_left (omega arith))
    (λ h. (
      tt,
      λ i. ends_if (IsEnd IsLeaf2) (is_too_large r.stage2 i.value) (done (stops (fault2 q AddressSize most_left))) (walk2_from q r.stage2.start i.value)
          (λ _. status_at AddressSize most_left (omega arith))
          (λ _. from2_ends q (granule2 r fields) r.stage2.start i.value (sound2 r x fields h).0.start),
    ))

-- STAGE 1

module _ (q : Asked) (fields : IsOfFields q.regime) (side : q.regime.side ≡ side_of q.access.va) where
  abbrev R : Regime
  R = q.regime

  -- a word that was had, or a fault of its stage 2
  abbrev IsHad : Result Item Fault → Type 0
  IsHad (Ok i) = Unit {0}
  IsHad (Err f) = HasStatus f

  read_by_ends : (e : Entry1) (d : End Leaf2) → e.left ≤ most_left → IsEnd IsLeaf2 d → Ends IsHad (read1_by R.config e d)
  read_by_ends e (stops f) l h = h
  read_by_ends e (reaches m) l h =
      ends_if IsHad (is_readable R.config m) (read1 e m.pa) (done (Err record { stage = S2; level = m.level; class = Permission; s1ptw = true }))
      (λ _. (l, λ i. tt)) (λ _. h.1)

  word_ends : (e : Entry1) → e.left ≤ most_left → Ends IsHad (word_of R e)
  word_ends e l =
      ends_if IsHad R.config.vm (after (walk2 (asked2 R true e.place)) (read1_by R.config e)) (read1 e e.place)
      (λ _. ends_after (IsEnd IsLeaf2) IsHad (walk2 (asked2 R true e.place)) (read1_by R.config e) (walk2_ends R fields true e.place)
      (λ d h. read_by_ends e d l h)) (λ _. (l, λ i. tt))

  lead1_by : (e : Entry1) (pa : ℕ) (kind : Kind1) → e.left ≤ most_left → IsLead IsLeaf1 (step1_by q e pa kind)
  lead1_by e pa Invalid l = status_at Translation e.left l
  lead1_by e pa (Table t bits) l =
      lead_if IsLeaf1 (is_too_large R.stage1 t) (fault1 AddressSize e.left) (Down record { address = t; bits = joined e.table.bits bits })
      (status_at AddressSize e.left l) tt
  lead1_by e pa (Leaf out attr_index bits sh af global contiguous) l =
      let fields1 : Fields1 = record { out = out; attr_index = attr_index; sh = sh; bits = bits; global = global; contiguous = contiguous } in
      let leaf : Leaf1 = leaf1_of R e pa fields1 in
      let denied : Bool = q.judged && not (is_allowed1 leaf.perms (is_uxn bits e.table.bits) q.access.el q.access.kind q.access.pan R.config.epan) in
      let found : Lead Leaf1 Table1 = cond denied (Stopped (fault1 Permission e.left)) (Reached leaf) in
      lead_if IsLeaf1 (is_too_large R.stage1 out) (fault1 AddressSize e.left) (cond (not (af || R.config.ha1)) (Stopped (fault1 AccessFlag e.left)) found)
      (status_at AddressSize e.left l)
      (lead_if IsLeaf1 (not (af || R.config.ha1)) (fault1 AccessFlag e.left) found (status_at AccessFlag e.left l)
      (lead_if IsLeaf1 denied (fault1 Permission e.left) (Reached leaf) (status_at Permission e.left l)
      (leaf_most R.stage1.granule R.stage1.input e.left out contiguous pa (granule1 R fields) l)))

  lead1 : (e : Entry1) (pa v : ℕ) → e.left ≤ most_left → IsLead IsLeaf1 (step1 q e pa v)
  unfolding step1
  lead1 e pa v l = lead1_by e pa (means1_of R.config R.side e.left v) l

  finer_step : (below : Table1 → Ask Entry1 Item (End Leaf1)) (s : Lead Leaf1 Table1) → IsLead IsLeaf1 s
      → ((t : Table1) → Ends (IsEnd IsLeaf1) (finer stops (word_of R) (below t))) → Ends (IsEnd IsLeaf1) (finer stops (word_of R) (step_then below s))
  finer_step below (Down t) h g = g t
  finer_step below (Reached l) h g = h
  finer_step below (Stopped f) h g = h

  go_ends : (below : Table1 → Ask Entry1 Item (End Leaf1)) (e : Entry1) (d : Result Item Fault) → e.left ≤ most_left → IsHad d
      → ((t : Table1) → Ends (IsEnd IsLeaf1) (finer stops (word_of R) (below t)))
      → Ends (IsEnd IsLeaf1) (go_on stops (λ i. finer stops (word_of R) (step_then below (step1 q e i.pa i.value))) d)
  go_ends below e (Ok i) l h g = finer_step below (step1 q e i.pa i.value) (lead1 e i.pa i.value l) g
  go_ends below e (Err f) l h g = h

  from1_ends : (left : ℕ) (t : Table1) → left ≤ most_left → Ends (IsEnd IsLeaf1) (stage1_from q left t)
  from1_ends zero t l =
      let below : Table1 → Ask Entry1 Item (End Leaf1) = λ t. done (stops (fault1 Translation 0)) in
      ends_after IsHad (IsEnd IsLeaf1) (word_of R (entry1 q 0 t))
      (go_on stops (λ i. finer stops (word_of R) (step_then below (step1 q (entry1 q 0 t) i.pa i.value)))) (word_ends (entry1 q 0 t) l)
      (λ d h. go_ends below (entry1 q 0 t) d l h (λ t. status_at Translation 0 l))
  from1_ends (suc left) t l =
      ends_after IsHad (IsEnd IsLeaf1) (word_of R (entry1 q (suc left) t))
      (go_on stops (λ i. finer stops (word_of R) (step_then (walk1_from q left) (step1 q (entry1 q (suc left) t) i.pa i.value))))
      (word_ends (entry1 q (suc left) t) l)
      (λ d h. go_ends (walk1_from q left) (entry1 q (suc left) t) d l h (λ t. from1_ends left t (omega (arith, l))))

  behind_ends : (base : ℕ) → R.stage1.start ≤ most_left → Ends (IsEnd IsLeaf1) (stage1_behind q base)
  behind_ends base l =
      ends_if (IsEnd IsLeaf1) (is_too_large R.stage1 base) (done (stops (fault1 AddressSize most_left)))
      (stage1_from q R.stage1.start record { address = base; bits = no_bits }) (λ _. status_at AddressSize most_left (omega arith))
      (λ _. from1_ends R.stage1.start record { address = base; bits = no_bits } l)

  off_ends : (b : Bool) → IsEnd IsLeaf1 (cond b (stops (fault1 AddressSize most_left)) (reaches (off_leaf R.config q.access)))
  off_ends true = status_at AddressSize most_left (omega arith)
  off_ends false = omega arith

  stage1_ends : Ends (IsEnd IsLeaf1) (stage1 q)
  stage1_ends =
      ends_if (IsEnd IsLeaf1) R.config.m (stage1_on q) (stage1_off q)
      (λ _. ends_if (IsEnd IsLeaf1) (is_refused1 R.config q.access) (done (stops (fault1 Translation most_left)))
      (ask stage1_base (λ i. stage1_behind q i.value)) (λ _. status_at Translation most_left (omega arith))
      (λ h. (tt, λ i. behind_ends i.value (sound1 R q.access fields side h).start))) (λ _. off_ends (is_refused_off R.config q.access))

  -- BOTH STAGES

  smaller_most : (a b : ℕ) → a ≤ 55 → b ≤ 55 → smaller a b ≤ 55
  smaller_most a b h g = by_case (nat_le a b) where
    by_case : (t : Bool) → cond t a b ≤ 55
    by_case true = h
    by_case false = g

  judged_ends : (l : Leaf1) (e : End Leaf2) → IsLeaf1 l → IsEnd IsLeaf2 e → IsEnd IsLanding (judged2 q.judged q.access l e)
  judged_ends l (stops f) h g = g
  judged_ends l (reaches m) h g = by_case (q.judged && not (is_allowed2 m.perms q.access.el q.access.kind)) where
    by_case : (b : Bool) → IsEnd IsLanding (cond b (stops record { stage = S2; level = m.level; class = Permission; s1ptw = false }) (reaches (piece l m)))
    by_case true = g.1
    by_case false = smaller_most l.class m.class h g.0

  output_ends : (e : End Leaf1) → IsEnd IsLeaf1 e → Ends (IsEnd IsLanding) (stage2_behind q e)
  output_ends (stops f) h = h
  output_ends (reaches l) h =
      ends_if (IsEnd IsLanding) R.config.vm (after (walk2 (asked2 R false l.out)) (λ e. done (judged2 q.judged q.access l e))) (done (reaches (landed l)))
      (λ _. ends_after (IsEnd IsLeaf2) (IsEnd IsLanding) (walk2 (asked2 R false l.out)) (λ e. done (judged2 q.judged q.access l e))
      (walk2_ends R fields false l.out) (λ e g. judged_ends l e h g)) (λ _. h)

  walk_by_ends : Ends (IsEnd IsLanding) (walk_by q)
  walk_by_ends = ends_after (IsEnd IsLeaf1) (IsEnd IsLanding) (stage1 q) (stage2_behind q) stage1_ends output_ends

pub walk_ends : (c : Config) (judged : Bool) (a : Access) → Ends (IsEnd IsLanding) (walk c judged a)
walk_ends c judged a = walk_by_ends (asked c judged a) (of_fields c (side_of a.va)) refl
