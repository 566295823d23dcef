-- A name as it is shown.
use Rattle.std.proofs.Common.{◌≡◌, ℕ, ◌≤◌, List, length, take, map, min, ◌∙◌, ap, arith}
use Rattle.std.proofs.lemmas.List.{take_all, take_min, length-take-le}
use Rattle.std.proofs.Math.Nat.{min_comm}
use Rattle.texts.specs.Shown.{shown, shown_byte}

-- all bytes that are shown were put
pub all_shown : (count i : ℕ) (name room : List ℕ) → count ≡ min (length name) 64 → i ≤ length (take count name)
    → length (take count name) ≤ i →
    take i room ≡ map shown_byte (take i (take count name)) → take count room ≡ shown name
all_shown count i name room least most all text =
    let size : length (take count name) ≡ count = length-take-le count name (omega arith) in
    let same : count ≡ i = omega arith in
    let bytes : take count name ≡ take 64 name = ap (λ (k : ℕ). take k name) (least ∙ min_comm (length name) 64) ∙ take_min 64 name in
    ap (λ (k : ℕ). take k room) same ∙ text ∙ ap (map shown_byte) (take_all i (take count name) all ∙ bytes)
