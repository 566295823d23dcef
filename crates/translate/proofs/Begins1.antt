-- How stage 1 stands on a kept trail from its base.
use Rattle.std.proofs.Common.{◌≡◌, ◌<◌, ◌%◌, ◌^◌, List, [], ◌∷◌, ◌++◌, length, length-append}
use Rattle.std.proofs.Common.{drop, get_or, refl, sym, ap, ◌∙◌, true, false, Bool, arith, Ok, Err}
use Rattle.std.specs.Prelude.{◌&&◌, ◌||◌, if◌then◌else◌}
use Rattle.geometry.specs.Tables.{most_left}
use Rattle.sysregs.specs.declared.regs.Config.{Config}
use Rattle.sysregs.specs.declared.regs.Side.{Side}
use Rattle.sysregs.specs.Sides.{side_of}
use Rattle.permissions.specs.Rights.{no_bits}
use Rattle.fault_codes.specs.declared.fault.Fault.{Fault}
use Rattle.fault_codes.specs.declared.fault.Stage.TheVariants.{S1}
use Rattle.fault_codes.specs.declared.fault.Class.TheVariants.{Translation, AddressSize}
use Rattle.trails.specs.declared.item.Item.{Item}
use Rattle.trails.specs.declared.outcome.Access.{Access}
use Rattle.table_reads.specs.Numbers.{sizes1}
use Rattle.table_reads.specs.Places.{is_too_large}
use Rattle.walk_spec.specs.declared.entry.Table1.{Table1}
use Rattle.walk_spec.specs.Ask.{Ask, done, ask, ends, on}
use Rattle.walk_spec.specs.Needs.{Regime, stage1_base, fits, regime_of, is_base, stage_eq}
use Rattle.walk_spec.specs.Steps.{stops, reaches}
use Rattle.walk_spec.specs.Stage1.{Asked, fault1, stage1_from}
use Rattle.walk_spec.specs.BothStages.{asked, stage1, stage1_on, stage1_off, stage1_behind, is_refused1, is_refused_off, off_leaf}
use Rattle.walk_spec.proofs.Kept.{rest_none, rest_some, asks_none, asks_off, asks_by}
use Rattle.translate.specs.declared.stand.Stood1.{Stood1}
use Rattle.translate.specs.declared.stand.Stood1.TheVariants.{Found, Refused, AtTable, Within, Unfit}
use Rattle.translate.specs.Parts.{refusal, begin1_on, begin1_of}
use Rattle.translate.specs.declared.begin.Begin1.TheVariants.{Off}
use Rattle.translate.specs.Standing.{is_top, EndsAtTop, IsStood1, stands1}
use Rattle.translate.specs.Replayed.{IsStoodOn, stands_stage1}
use Rattle.translate.proofs.Choices.{on_with, off_with, err_by}

first_true : (a b : Bool) → (a && b) ≡ true → a ≡ true
first_true true b h = refl
first_true false b h = absurd cc

both_top : (a b d : Bool) → (b && a) ≡ true → (a && (b || d)) ≡ true
both_top true true d h = refl
both_top true false d h = absurd cc
both_top false true d h = absurd cc
both_top false false d h = absurd cc

-- a base of stage 1 is one
base_top : (c : Config) (s : Side) (i : Item) → fits (regime_of c s) stage1_base i ≡ true → is_top c s i ≡ true
unfolding fits
base_top c s i h = both_top (stage_eq i.stage S1) (is_base i.what) _ (first_true _ _ (first_true _ _ (first_true _ _ (first_true _ _ h))))

-- an empty list has no last item
pub none_top : (c : Config) (s : Side) (items : List Item) → length items ≡ 0 → EndsAtTop c s items → ⊥
none_top c s items e t = absurd (omega (arith, e, ap length t.2, length-append t.0 (t.1 ∷ [])))

by_first : {N I A : Type 0} (fit : N → I → Bool) (t : Ask N I A) (n : N) (k : I → Ask N I A) (i : I) (rest : List I) → t ≡ ask n k
    → fit n i ≡ true
    → on fit t (i ∷ rest) ≡ on fit (k i) rest
by_first fit t n k i rest e f = rw (e, f) refl

module _ (c : Config) (a : Access) (items : List Item) (m : c.m ≡ true) (ok : is_refused1 c a ≡ false) where
  abbrev pub r : Regime
  r = regime_of c (side_of a.va)

  abbrev pub q : Asked
  q = asked c true a

  asks : stage1 q ≡ ask stage1_base (λ i. stage1_behind q i.value)
  asks = on_with c.m m (stage1_on q) (stage1_off q)
      ∙ off_with (is_refused1 c a) ok (done (stops (fault1 Translation most_left))) (ask stage1_base (λ i. stage1_behind q i.value))

  -- the list is empty
  pub start_none : length items ≡ 0 → IsStoodOn c a items Within
  start_none e =
      ((stage1_base, asks_none (fits r) (stage1 q) stage1_base (λ i. stage1_behind q i.value) asks items 0 (sym e)), none_top c (side_of a.va) items e)

  module _ (i : Item) (l : 0 < length items) (e : i ≡ get_or items 0 i) where
    pub start_off : false ≡ fits r stage1_base i → IsStoodOn c a items Unfit
    start_off f = asks_off (fits r) (stage1 q) stage1_base (λ i. stage1_behind q i.value) asks items 0 i l e (sym f)

    module _ (f : true ≡ fits r stage1_base i) where
      by_base : stands_stage1 c a items ≡ on (fits r) (stage1_behind q i.value) (drop 1 items)
      by_base = asks_by (fits r) (stage1 q) stage1_base (λ i. stage1_behind q i.value) asks items 0 i l e (sym f)

      -- the base is too large
      pub start_large : true ≡ is_too_large (sizes1 c (side_of a.va)) i.value → (d : Fault) → d ≡ fault1 AddressSize most_left
          → IsStoodOn c a items (Refused d 1)
      start_large h d p = (
        omega (arith, l),
        by_base ∙ ap (λ t. on (fits r) t (drop 1 items))
            (on_with (is_too_large (sizes1 c (side_of a.va)) i.value) (sym h) (done (stops (fault1 AddressSize most_left)))
            (stage1_from q (sizes1 c (side_of a.va)).start record { address = i.value; bits = no_bits })) ∙ ap (λ z. ends (stops z) (drop 1 items)) (sym p),
      )

      module _ (h : false ≡ is_too_large (sizes1 c (side_of a.va)) i.value) where
        abbrev pub t : Table1
        t = record { address = i.value; bits = no_bits }

        behind : (rest : List Item) → on (fits r) (stage1_behind q i.value) rest ≡ stands1 c a (sizes1 c (side_of a.va)).start t rest
        behind rest =
            ap (λ w. on (fits r) w rest)
            (off_with (is_too_large (sizes1 c (side_of a.va)) i.value) (sym h) (done (stops (fault1 AddressSize most_left)))
            (stage1_from q (sizes1 c (side_of a.va)).start t))

        here : stands_stage1 c a items ≡ stands1 c a (sizes1 c (side_of a.va)).start t (drop 1 items)
        here = by_base ∙ behind (drop 1 items)

        more_here : (more : List Item) → stands_stage1 c a (items ++ more) ≡ stands1 c a (sizes1 c (side_of a.va)).start t (drop 1 items ++ more)
        more_here more =
            ap (λ z. stands_stage1 c a (z ++ more)) (rest_some 0 items i l e)
            ∙ by_first (fits r) (stage1 q) stage1_base (λ i. stage1_behind q i.value) i (drop 1 items ++ more) asks (sym f)
            ∙ behind (drop 1 items ++ more)

        -- the last item is the base
        pub start_top : 1 ≡ length items → EndsAtTop c (side_of a.va) items
        start_top n = ([], i, rest_some 0 items i l e ∙ ap (λ z. i ∷ z) (rest_none 1 items n), base_top c (side_of a.va) i (sym f))

        -- what stands behind the base stands from the base
        pub started : (d : Stood1) → IsStood1 c a (sizes1 c (side_of a.va)).start t items (drop 1 items) d → IsStoodOn c a items d
        started (Found w at) d = (d.0, here ∙ d.1, d.2)
        started (Refused w at) d = (d.0, here ∙ d.1)
        started (AtTable from) d = ((d.0.0, here ∙ d.0.1), d.1, λ more. more_here more ∙ d.2 more)
        started Within d = ((d.0.0, here ∙ d.0.1), d.1)
        started Unfit d = here ∙ d

-- stage 1 is off
pub off_stands : (c : Config) (a : Access) (items : List Item) → c.m ≡ false → is_refused_off c a ≡ false
    → stands_stage1 c a items ≡ ends (reaches (off_leaf c a)) items
off_stands c a items m ok =
    ap (λ w. on (fits (regime_of c (side_of a.va))) w items) (off_with c.m m (stage1_on (asked c true a)) (stage1_off (asked c true a)))
    ∙ ap (λ z. ends z items) (off_with (is_refused_off c a) ok (stops (fault1 AddressSize most_left)) (reaches (off_leaf c a)))

refused_at : (m : Bool) (c : Config) (a : Access) (f : Fault) (items : List Item)
    → Err f ≡ (if m then begin1_on c a else (if is_refused_off c a then Err (refusal S1 false AddressSize) else Ok (Off (a.va % 2 ^ 52))))
    → on (fits (regime_of c (side_of a.va))) (if m then stage1_on (asked c true a) else stage1_off (asked c true a)) items ≡ ends (stops f) items
refused_at true c a f items h =
    let k = err_by (is_refused1 c a) (refusal S1 false Translation) f _ h in
    ap (λ w. on (fits (regime_of c (side_of a.va))) w items)
    (on_with (is_refused1 c a) k.0 (done (stops (fault1 Translation most_left))) (ask stage1_base (λ i. stage1_behind (asked c true a) i.value)))
    ∙ ap (λ z. ends (stops z) items) (sym k.1)
refused_at false c a f items h =
    let k = err_by (is_refused_off c a) (refusal S1 false AddressSize) f _ h in
    ap (λ z. ends z items) (on_with (is_refused_off c a) k.0 (stops (fault1 AddressSize most_left)) (reaches (off_leaf c a)))
    ∙ ap (λ z. ends (stops z) items) (sym k.1)

-- the access is refused before the base
pub refused_stands : (c : Config) (a : Access) (f : Fault) (items : List Item) → Err f ≡ begin1_of c a → stands_stage1 c a items ≡ ends (stops f) items
refused_stands c a f items h = refused_at c.m c a f items h
