-- Where the addresses of an operand end.
use Rattle.std.proofs.Common.{◌≤◌, ◌<◌, ◌+◌, ◌-◌, ◌^◌, ℕ, min, Option, Some, None, arith, IfSome, if◌then◌else◌}
use Rattle.bitwords.specs.Fields.{bits_of}
use Rattle.std.specs.Prelude.{◌==◌}
use Rattle.std.proofs.lemmas.Bool.{cond_both}
use Rattle.sysregs.specs.declared.ops.Scope.{Scope}
use Rattle.sysregs.specs.declared.ops.Scope.TheVariants.{All, Vmid, Stage1, Asid, PageVa, PageIpa, RangeVa, RangeIpa}
use Rattle.sysregs.specs.Ops.{form_of}
use Rattle.tlbi_ops.specs.Operands.{range_granule, inval_of, extent_by, range_with, start_va, start_ipa}
use Rattle.tlbi_ops.specs.Laws.{end_of, StaysBelow, EndsBelow}

cut_below : (end start count address : ℕ) → start ≤ address → address < start + min count (end - start) → address < end
cut_below end start count a h below = omega arith

range_below : (operand : ℕ) (start : ℕ → ℕ) (end : ℕ) (granule : Option ℕ) (address : ℕ)
    → (range_with operand start end granule).start ≤ address
    → address < (range_with operand start end granule).start + (range_with operand start end granule).count → address < end
range_below w start end None a h below = omega arith
range_below w start end (Some g) a h below = omega arith

stays : (w : ℕ) (scope : Scope) (address : ℕ) → (extent_by w scope).start ≤ address
    → address < (extent_by w scope).start + (extent_by w scope).count →
    address < end_of scope
stays w All a h below = omega arith
stays w Vmid a h below = omega arith
stays w Stage1 a h below = omega arith
stays w Asid a h below = omega arith
stays w PageVa a h below = omega arith
stays w PageIpa a h below = omega arith
stays w RangeVa a h below = range_below w (λ g. start_va g w) (2 ^ 56) (range_granule w) a h below
stays w RangeIpa a h below = range_below w (λ g. start_ipa g w) (2 ^ 52) (range_granule w) a h below

pub stays_below : StaysBelow
unfolding inval_of
stays_below op shared at_el1 w r issuer issued a h below = stays w (form_of op).scope a h below

-- what is so of no granule and of each granule is so of the granule that a range names
each_granule : (operand : ℕ) (P : Option ℕ → Type 0) → P None → P (Some 12) → P (Some 14) → P (Some 16) → P (range_granule operand)
each_granule w P none four sixteen sixty_four =
    let tg : ℕ = bits_of w 47 46 in
    cond_both (tg == 1) (Some 12) (if tg == 2 then Some 14 else (if tg == 3 then Some 16 else None)) P (λ _. four)
    (λ _. cond_both (tg == 2) (Some 14) (if tg == 3 then Some 16 else None) P (λ _. sixteen) (λ _.
    cond_both (tg == 3) (Some 16) None P (λ _. sixty_four) (λ _. none)))

-- a range that starts below its end ends there
range_fits : (operand : ℕ) (start : ℕ → ℕ) (end : ℕ) (granule : Option ℕ) → end ≤ 2 ^ 56 → IfSome granule (λ g. start g ≤ 2 ^ 56)
    → (range_with operand start end granule).start + (range_with operand start end granule).count ≤ 2 ^ 56
range_fits w start end None e h = omega arith
range_fits w start end (Some g) e h = omega (arith, h, e)

va_starts : (w : ℕ) → IfSome (range_granule w) (λ g. start_va g w ≤ 2 ^ 56)
va_starts w = each_granule w (λ o. IfSome o (λ g. start_va g w ≤ 2 ^ 56)) tt (grind arith) (grind arith) (grind arith)

ipa_starts : (w : ℕ) → IfSome (range_granule w) (λ g. start_ipa g w ≤ 2 ^ 56)
ipa_starts w = each_granule w (λ o. IfSome o (λ g. start_ipa g w ≤ 2 ^ 56)) tt (omega arith) (omega arith) (omega arith)

fits : (w : ℕ) (scope : Scope) → (extent_by w scope).start + (extent_by w scope).count ≤ 2 ^ 56
fits w All = omega arith
fits w Vmid = omega arith
fits w Stage1 = omega arith
fits w Asid = omega arith
fits w PageVa = omega arith
fits w PageIpa = omega arith
fits w RangeVa = range_fits w (λ g. start_va g w) (2 ^ 56) (range_granule w) (omega arith) (va_starts w)
fits w RangeIpa = range_fits w (λ g. start_ipa g w) (2 ^ 52) (range_granule w) (omega arith) (ipa_starts w)

pub ends_below : EndsBelow
unfolding inval_of
ends_below op shared at_el1 w r issuer issued = fits w (form_of op).scope
