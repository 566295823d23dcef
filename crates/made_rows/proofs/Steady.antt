-- The words of a walk are read for the address of the access and for the IPA of the chain that stands open.
use Rattle.std.proofs.Common.{◌≡◌, ℕ, zero, suc, ◌≤◌, Bool, true, false, not, cond, refl, sym, ap, ◌∙◌, arith, Result, Ok, Err}
use Rattle.std.specs.Prelude.{◌&&◌, ◌||◌, ◌-◌, ◌%◌, ◌^◌}
use Rattle.geometry.specs.Tables.{most_left, left_below}
use Rattle.sysregs.specs.declared.regs.Config.{Config}
use Rattle.sysregs.specs.Sides.{side_of}
use Rattle.fault_codes.specs.declared.fault.Stage.{Stage}
use Rattle.fault_codes.specs.declared.fault.Stage.TheVariants.{S1, S2}
use Rattle.fault_codes.specs.declared.fault.Fault.{Fault}
use Rattle.trails.specs.declared.item.Item.{Item}
use Rattle.trails.specs.declared.outcome.Access.{Access}
use Rattle.table_reads.specs.declared.lead.Lead.{Lead}
use Rattle.table_reads.specs.declared.lead.Lead.TheVariants.{Down, Reached, Stopped}
use Rattle.table_reads.specs.Numbers.{is_sized1, is_sized2}
use Rattle.walk_spec.specs.declared.entry.Entry1.{Entry1}
use Rattle.walk_spec.specs.declared.entry.Table1.{Table1}
use Rattle.walk_spec.specs.declared.leaf.Leaf1.{Leaf1}
use Rattle.walk_spec.specs.declared.leaf.Leaf2.{Leaf2}
use Rattle.walk_spec.specs.declared.leaf.Fields1.{Fields1}
use Rattle.walk_spec.specs.Ask.{Ask, done, ask, after, go_on, finer}
use Rattle.walk_spec.specs.Needs.{Regime, sizes_of, Need, stage1_base, stage2_base, word, WordNeed, fits}
use Rattle.walk_spec.specs.Steps.{End, stops, reaches, step_then}
use Rattle.walk_spec.specs.Stage2.{fault2, step2, walk2, walk2_from, walk2_behind, is_refused2}
use Rattle.walk_spec.specs.Stage1.{Asked, asked2, fault1, leaf1_of, judged1, step1, step1_by, entry1, walk1_from}
use Rattle.walk_spec.specs.Stage1.{is_readable, read1, read1_by, word_of, stage1_from, untagged}
use Rattle.walk_spec.specs.BothStages.{Landing, landed, judged2, walk_by, stage1, stage1_on, stage1_off}
use Rattle.walk_spec.specs.BothStages.{stage1_behind, stage2_behind, is_refused1, is_refused_off, off_leaf}
use Rattle.walk_laws.proofs.Sound.{IsOfFields, sound1, sound2}
use Rattle.table_reads.specs.Places.{place_of, is_too_large}
use Rattle.fault_codes.specs.declared.fault.Class.TheVariants.{Translation, AddressSize, AccessFlag, Permission}
use Rattle.permissions.specs.Rights.{no_bits, joined, is_allowed1, is_uxn}
use Rattle.descriptors.specs.declared.kinds.Kind1.{Kind1}
use Rattle.descriptors.specs.declared.kinds.Kind1.TheVariants.{Invalid, Table, Leaf}
use Rattle.descriptors.specs.Meaning.{means1_of}
use Rattle.stage2_walk.proofs.Starts.{left_below_of}
use Rattle.machine_laws.proofs.MarksOf.{fits_word_parts, fits_base1_parts}
use Rattle.made_rows.specs.Met.{goes_by, goes_by_word, goes_by_item, address_by}
use Rattle.made_rows.specs.Sized.{is_sized}

-- a word that a walk may need, for these addresses
pub record IsSteady (r : Regime) (va x : ℕ) (w : WordNeed) : Type 0 where
  pub left : w.left ≤ most_left
  pub within : w.left ≤ (sizes_of r w.stage).start
  pub address : w.address ≡ address_by w.stage va x
  pub sized : is_sized r w.stage ≡ true

-- where stage 1 goes behind a word
abbrev pub goal_behind : (r : Regime) (va goal : ℕ) (stage : Stage) (item : Item) → ℕ
goal_behind r va goal S1 i = goes_by_item r va i i.what
goal_behind r va goal S2 i = goal

-- All words of a walk are so, each chain of stage 2 is for where stage 1 goes, and at each end this holds of it.
abbrev pub AreSteady : {A : Type 0} → (A → ℕ → Type 0) → (regime : Regime) (va ipa goal : ℕ) (walk : Ask Need Item A) → Type 0
AreSteady P r va x g (done a) = P a g
AreSteady P r va x g (ask stage1_base k) =
    (is_sized r S1 ≡ true) × ((i : Item) → fits r stage1_base i ≡ true → AreSteady P r va x (goes_by_item r va i i.what) (k i))
AreSteady P r va x g (ask (stage2_base y) k) = (y ≡ g) × (is_sized r S2 ≡ true) × ((i : Item) → AreSteady P r va y g (k i))
AreSteady P r va x g (ask (word w) k) =
    IsSteady r va x w × ((i : Item) → fits r (word w) i ≡ true → AreSteady P r va x (goal_behind r va g w.stage i) (k i))

module _ (r : Regime) (va : ℕ) where
  steady_after : {A B : Type 0} (P : A → ℕ → Type 0) (Q : B → ℕ → Type 0) (x g : ℕ) (t : Ask Need Item A) (f : A → Ask Need Item B)
      → AreSteady P r va x g t → ((y h : ℕ) (a : A) → P a h → AreSteady Q r va y h (f a)) → AreSteady Q r va x g (after t f)
  steady_after P Q x g (done a) f s n = n x g a s
  steady_after P Q x g (ask stage1_base k) f s n = (s.0, λ i h. steady_after P Q x _ (k i) f (s.1 i h) n)
  steady_after P Q x g (ask (stage2_base y) k) f s n = (s.0, s.1, λ i. steady_after P Q y g (k i) f (s.2 i) n)
  steady_after P Q x g (ask (word w) k) f s n = (s.0, λ i h. steady_after P Q x _ (k i) f (s.1 i h) n)

  steady_if : {A : Type 0} (P : A → ℕ → Type 0) (x g : ℕ) (b : Bool) (t u : Ask Need Item A) → (b ≡ true → AreSteady P r va x g t)
      → (b ≡ false → AreSteady P r va x g u) → AreSteady P r va x g (cond b t u)
  steady_if P x g true t u h n = h refl
  steady_if P x g false t u h n = n refl

-- STAGE 2

-- a chain leaves where stage 1 goes as it is
abbrev Keeps : ℕ → End Leaf2 → ℕ → Type 0
Keeps goal e g = g ≡ goal

module _ (r : Regime) (va : ℕ) (p : Bool) (x goal : ℕ) (sized : is_sized r S2 ≡ true) (few : r.stage2.start ≤ most_left) where
  steady_then2 : (below : ℕ → Ask Need Item (End Leaf2)) (s : Lead Leaf2 ℕ) → ((t : ℕ) → AreSteady (Keeps goal) r va x goal (below t))
      → AreSteady (Keeps goal) r va x goal (step_then below s)
  steady_then2 below (Down t) h = h t
  steady_then2 below (Reached l) h = refl
  steady_then2 below (Stopped f) h = refl

  steady_from2 : (left t : ℕ) → left ≤ r.stage2.start → AreSteady (Keeps goal) r va x goal (walk2_from (asked2 r p x) left t)
  steady_from2 zero t l = (
    record { left = omega (arith, l, few); within = l; address = refl; sized = sized },
    λ i h. steady_then2 (λ _. done (stops (fault2 (asked2 r p x) Translation 0))) (step2 (asked2 r p x) 0 i.pa i.value) (λ _. refl),
  )
  steady_from2 (suc left) t l = (
    record { left = omega (arith, l, few); within = l; address = refl; sized = sized },
    λ i h. steady_then2 (walk2_from (asked2 r p x) left) (step2 (asked2 r p x) (suc left) i.pa i.value) (λ t. steady_from2 left t (omega (arith, l))),
  )

accepted2 : (c : Config) (x : ℕ) → is_refused2 c x ≡ false → is_sized2 c ≡ true
unfolding is_refused2
accepted2 c x h = grind arith

accepted1 : (c : Config) (a : Access) → is_refused1 c a ≡ false → is_sized1 c (side_of a.va) ≡ true
unfolding is_refused1
accepted1 c a h = grind arith

-- WHERE A WORD OF STAGE 1 LEADS

cond_down : {L T : Type 0} (b : Bool) (f : Fault) (s : Lead L T) (t : T) → cond b (Stopped f) s ≡ Down t → s ≡ Down t
cond_down true f s t h = absurd cc
cond_down false f s t h = h

pub cond_reached : {L T : Type 0} (b : Bool) (f : Fault) (s : Lead L T) (l : L) → cond b (Stopped f) s ≡ Reached l → s ≡ Reached l
cond_reached true f s l h = absurd cc
cond_reached false f s l h = h

reached_not : {L T : Type 0} (b : Bool) (f : Fault) (l : L) (t : T) (P : Type 0) → cond b (Stopped f) (Reached l) ≡ Down t → P
reached_not true f l t P h = absurd cc
reached_not false f l t P h = absurd cc

pub down_not : {L T : Type 0} (b : Bool) (f : Fault) (t : T) (l : L) (P : Type 0) → cond b (Stopped f) (Down t) ≡ Reached l → P
down_not true f t l P h = absurd cc
down_not false f t l P h = absurd cc

abbrev table_in : Lead Leaf1 Table1 → ℕ
table_in (Down t) = t.address
table_in (Reached l) = 0
table_in (Stopped f) = 0

abbrev out_in : Lead Leaf1 Table1 → ℕ
out_in (Down t) = 0
out_in (Reached l) = l.out
out_in (Stopped f) = 0

abbrev Below : Table1 → Lead Leaf1 Table1
Below t = Down t

abbrev Found : Leaf1 → Lead Leaf1 Table1
Found l = Reached l

same_table : (s t : Table1) → Below s ≡ Below t → s.address ≡ t.address
same_table s t h = ap table_in h

same_out : (l m : Leaf1) → Found l ≡ Found m → l.out ≡ m.out
same_out l m h = ap out_in h

down1_by : (q : Asked) (e : Entry1) (pa : ℕ) (kind : Kind1) (t : Table1) → step1_by q e pa kind ≡ Down t
    → goes_by q.regime.stage1 e.left pa e.address kind ≡ place_of q.regime.stage1 (e.left - 1) t.address e.address
down1_by q e pa Invalid t h = absurd cc
down1_by q e pa (Table next bits) t h =
    let s : Table1 = record { address = next; bits = joined e.table.bits bits } in
    ap (λ z. place_of q.regime.stage1 (e.left - 1) z e.address)
    (same_table s t (cond_down (is_too_large q.regime.stage1 next) (fault1 AddressSize e.left) (Below s) t h))
down1_by q e pa (Leaf out attr_index bits sh af global contiguous) t h =
    let fields : Fields1 = record { out = out; attr_index = attr_index; sh = sh; bits = bits; global = global; contiguous = contiguous } in
    let leaf : Leaf1 = leaf1_of q.regime e pa fields in
    let no_access : Bool = not (is_allowed1 leaf.perms (is_uxn bits e.table.bits) q.access.el q.access.kind q.access.pan q.regime.config.epan) in
    reached_not (q.judged && no_access) (fault1 Permission e.left) leaf t _
    (cond_down (not (af || q.regime.config.ha1)) (fault1 AccessFlag e.left) (judged1 q.regime.config q.judged q.access e.left (is_uxn bits e.table.bits) leaf) t
    (cond_down (is_too_large q.regime.stage1 out) (fault1 AddressSize e.left) _ t h))

down1 : (q : Asked) (e : Entry1) (pa v : ℕ) (t : Table1) → step1 q e pa v ≡ Down t
    → goes_by q.regime.stage1 e.left pa e.address (means1_of q.regime.config q.regime.side e.left v)
    ≡ place_of q.regime.stage1 (e.left - 1) t.address e.address
unfolding step1
down1 q e pa v t h = down1_by q e pa (means1_of q.regime.config q.regime.side e.left v) t h

found1_by : (q : Asked) (e : Entry1) (pa : ℕ) (kind : Kind1) (l : Leaf1) → step1_by q e pa kind ≡ Reached l
    → goes_by q.regime.stage1 e.left pa e.address kind ≡ l.out
found1_by q e pa Invalid l h = absurd cc
found1_by q e pa (Table next bits) l h = down_not (is_too_large q.regime.stage1 next) (fault1 AddressSize e.left) _ l _ h
found1_by q e pa (Leaf out attr_index bits sh af global contiguous) l h =
    let fields : Fields1 = record { out = out; attr_index = attr_index; sh = sh; bits = bits; global = global; contiguous = contiguous } in
    let leaf : Leaf1 = leaf1_of q.regime e pa fields in
    let no_access : Bool = not (is_allowed1 leaf.perms (is_uxn bits e.table.bits) q.access.el q.access.kind q.access.pan q.regime.config.epan) in
    same_out leaf l (cond_reached (q.judged && no_access) (fault1 Permission e.left) (Found leaf) l
    (cond_reached (not (af || q.regime.config.ha1)) (fault1 AccessFlag e.left)
    (judged1 q.regime.config q.judged q.access e.left (is_uxn bits e.table.bits) leaf) l
    (cond_reached (is_too_large q.regime.stage1 out) (fault1 AddressSize e.left) _ l h)))

found1 : (q : Asked) (e : Entry1) (pa v : ℕ) (l : Leaf1) → step1 q e pa v ≡ Reached l
    → goes_by q.regime.stage1 e.left pa e.address (means1_of q.regime.config q.regime.side e.left v) ≡ l.out
unfolding step1
found1 q e pa v l h = found1_by q e pa (means1_of q.regime.config q.regime.side e.left v) l h

-- BOTH STAGES

module _ (q : Asked) (fields : IsOfFields q.regime) (side : q.regime.side ≡ side_of q.access.va) where
  abbrev R : Regime
  R = q.regime

  abbrev V : ℕ
  V = untagged q.access.va

  steady_walk2 : (y : ℕ) (p : Bool) (x goal : ℕ) → x ≡ goal → AreSteady (Keeps goal) R V y goal (walk2 (asked2 R p x))
  steady_walk2 y p x goal is =
      steady_if R V (Keeps goal) y goal (is_refused2 R.config x) (done (stops (fault2 (asked2 R p x) Translation most_left)))
      (ask (stage2_base x) (λ i. walk2_behind (asked2 R p x) i.value)) (λ _. refl)
      (λ h. (
        is,
        accepted2 R.config x h,
        λ i.
            let s = sound2 R x fields h in
            steady_if R V (Keeps goal) x goal (is_too_large R.stage2 i.value) (done (stops (fault2 (asked2 R p x) AddressSize most_left)))
            (walk2_from (asked2 R p x) R.stage2.start i.value) (λ _. refl)
            (λ _. steady_from2 R V p x goal (accepted2 R.config x h) s.0.start R.stage2.start i.value (omega arith)),
      ))

  -- a word of stage 1 that was had, by which stage 1 goes on
  abbrev WordHad : ℕ → Result Item Fault → ℕ → Type 0
  WordHad left (Ok i) g = g ≡ goes_by_word R V left i
  WordHad left (Err f) g = Unit {0}

  -- stage 1 goes to its output
  abbrev LeafOut : End Leaf1 → ℕ → Type 0
  LeafOut (stops f) g = Unit {0}
  LeafOut (reaches l) g = l.out ≡ g

  -- STAGE 1

  module _ (ok : is_refused1 R.config q.access ≡ false) where
    sized1 : is_sized R S1 ≡ true
    sized1 = rw side (accepted1 R.config q.access ok)

    few1 : R.stage1.start ≤ most_left
    few1 = (sound1 R q.access fields side ok).start

    word_goal : (left : ℕ) (t : Table1) (place : ℕ) → left ≤ most_left → (i : Item)
        → fits R (word record { stage = S1; left = left; place = place; s1ptw = false; address = V; table = t.address }) i ≡ true
        → goes_by_item R V i i.what ≡ goes_by_word R V left i
    word_goal left t place l i h =
        let p = fits_word_parts R record { stage = S1; left = left; place = place; s1ptw = false; address = V; table = t.address } i h in
        ap (goes_by_item R V i) p.what ∙ ap (λ n. goes_by_word R V n i) (ap left_below p.level ∙ left_below_of left l)

    steady_read : (x g left : ℕ) (t : Table1) (place : ℕ) → left ≤ R.stage1.start → AreSteady (WordHad left) R V x g (read1 (entry1 q left t) place)
    steady_read x g left t place l =
        let m : left ≤ most_left = omega (arith, l, few1) in
        (record { left = m; within = l; address = refl; sized = sized1 }, λ i h. word_goal left t place m i h)

    steady_read_by : (x g left : ℕ) (t : Table1) (e : End Leaf2) → left ≤ R.stage1.start →
        AreSteady (WordHad left) R V x g (read1_by R.config (entry1 q left t) e)
    steady_read_by x g left t (stops f) l = tt
    steady_read_by x g left t (reaches m) l =
        steady_if R V (WordHad left) x g (is_readable R.config m) (read1 (entry1 q left t) m.pa)
        (done (Err record { stage = S2; level = m.level; class = Permission; s1ptw = true })) (λ _. steady_read x g left t m.pa l) (λ _. tt)

    steady_word : (x g left : ℕ) (t : Table1) → left ≤ R.stage1.start → place_of R.stage1 left t.address V ≡ g
        → AreSteady (WordHad left) R V x g (word_of R (entry1 q left t))
    steady_word x g left t l is =
        let e = entry1 q left t in
        steady_if R V (WordHad left) x g R.config.vm (after (walk2 (asked2 R true e.place)) (read1_by R.config e)) (read1 e e.place)
        (λ _. steady_after R V (Keeps g) (WordHad left) x g (walk2 (asked2 R true e.place)) (read1_by R.config e) (steady_walk2 x true e.place g is)
        (λ y h d _. steady_read_by y h left t d l)) (λ _. steady_read x g left t e.place l)

    steady_step : (below : Table1 → Ask Entry1 Item (End Leaf1)) (e : Entry1) (i : Item) (s : Lead Leaf1 Table1) (x g : ℕ) → step1 q e i.pa i.value ≡ s
        → e.address ≡ V → g ≡ goes_by_word R V e.left i
        → ((t : Table1) → place_of R.stage1 (e.left - 1) t.address V ≡ g → AreSteady LeafOut R V x g (finer stops (word_of R) (below t)))
        → AreSteady LeafOut R V x g (finer stops (word_of R) (step_then below s))
    steady_step below e i (Down t) x g is v goal h =
        h t (sym (goal ∙ ap (λ z. goes_by R.stage1 e.left i.pa z (means1_of R.config R.side e.left i.value)) (sym v) ∙ down1 q e i.pa i.value t is
        ∙ ap (place_of R.stage1 (e.left - 1) t.address) v))
    steady_step below e i (Reached l) x g is v goal h =
        sym (goal ∙ ap (λ z. goes_by R.stage1 e.left i.pa z (means1_of R.config R.side e.left i.value)) (sym v) ∙ found1 q e i.pa i.value l is)
    steady_step below e i (Stopped f) x g is v goal h = tt

    steady_go : (below : Table1 → Ask Entry1 Item (End Leaf1)) (e : Entry1) (x g : ℕ) (d : Result Item Fault) → WordHad e.left d g → e.address ≡ V
        → ((t : Table1) → place_of R.stage1 (e.left - 1) t.address V ≡ g → AreSteady LeafOut R V x g (finer stops (word_of R) (below t)))
        → AreSteady LeafOut R V x g (go_on stops (λ i. finer stops (word_of R) (step_then below (step1 q e i.pa i.value))) d)
    steady_go below e x g (Ok i) w v h = steady_step below e i (step1 q e i.pa i.value) x g refl v w h
    steady_go below e x g (Err f) w v h = tt

    steady_from1 : (x g left : ℕ) (t : Table1) → left ≤ R.stage1.start → place_of R.stage1 left t.address V ≡ g
        → AreSteady LeafOut R V x g (stage1_from q left t)
    steady_from1 x g zero t l is =
        let below : Table1 → Ask Entry1 Item (End Leaf1) = λ t. done (stops (fault1 Translation 0)) in
        steady_after R V (WordHad 0) LeafOut x g (word_of R (entry1 q 0 t))
        (go_on stops (λ i. finer stops (word_of R) (step_then below (step1 q (entry1 q 0 t) i.pa i.value)))) (steady_word x g 0 t l is)
        (λ y h d w. steady_go below (entry1 q 0 t) y h d w refl (λ t _. tt))
    steady_from1 x g (suc left) t l is =
        steady_after R V (WordHad (suc left)) LeafOut x g (word_of R (entry1 q (suc left) t))
        (go_on stops (λ i. finer stops (word_of R) (step_then (walk1_from q left) (step1 q (entry1 q (suc left) t) i.pa i.value))))
        (steady_word x g (suc left) t l is)
        (λ y h d w. steady_go (walk1_from q left) (entry1 q (suc left) t) y h d w refl
        (λ t at. steady_from1 y h left t (omega (arith, l)) (ap (λ n. place_of R.stage1 n t.address V) (omega arith) ∙ at)))

    steady_behind : (x : ℕ) (i : Item) → fits R stage1_base i ≡ true → AreSteady LeafOut R V x (goes_by_item R V i i.what) (stage1_behind q i.value)
    steady_behind x i h =
        steady_if R V LeafOut x (goes_by_item R V i i.what) (is_too_large R.stage1 i.value) (done (stops (fault1 AddressSize most_left)))
        (stage1_from q R.stage1.start record { address = i.value; bits = no_bits })
        (λ _. tt) (λ _. steady_from1 x (goes_by_item R V i i.what) R.stage1.start record { address = i.value; bits = no_bits } (omega arith)
        (sym (ap (goes_by_item R V i) (fits_base1_parts R i h).0)))

  -- with stage 1 off the output is the address
  abbrev Off : ℕ
  Off = q.access.va % 2 ^ 52

  steady_stage1 : (x : ℕ) → AreSteady LeafOut R V x Off (stage1 q)
  steady_stage1 x =
      steady_if R V LeafOut x Off R.config.m (stage1_on q) (stage1_off q)
      (λ _. steady_if R V LeafOut x Off (is_refused1 R.config q.access) (done (stops (fault1 Translation most_left)))
      (ask stage1_base (λ i. stage1_behind q i.value)) (λ _. tt) (λ h. (sized1 h, λ i f. steady_behind h x i f)))
      (λ _. off (is_refused_off R.config q.access)) where
        off : (b : Bool) → AreSteady LeafOut R V x Off (done (cond b (stops (fault1 AddressSize most_left)) (reaches (off_leaf R.config q.access))))
        off true = tt
        off false = refl

  abbrev Any : End Landing → ℕ → Type 0
  Any e g = Unit {0}

  steady_output : (x g : ℕ) (e : End Leaf1) → LeafOut e g → AreSteady Any R V x g (stage2_behind q e)
  steady_output x g (stops f) h = tt
  steady_output x g (reaches l) h =
      steady_if R V Any x g R.config.vm (after (walk2 (asked2 R false l.out)) (λ e. done (judged2 q.judged q.access l e))) (done (reaches (landed l)))
      (λ _. steady_after R V (Keeps g) Any x g (walk2 (asked2 R false l.out)) (λ e. done (judged2 q.judged q.access l e)) (steady_walk2 x false l.out g h)
      (λ y k e _. tt)) (λ _. tt)

  pub steady_walk : (x : ℕ) → AreSteady Any R V x Off (walk_by q)
  steady_walk x = steady_after R V LeafOut Any x Off (stage1 q) (stage2_behind q) (steady_stage1 x) (λ y g e h. steady_output y g e h)
