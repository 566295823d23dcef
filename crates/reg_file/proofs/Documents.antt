-- What the bytes of a register file are.
use Rattle.std.proofs.Common.{◌≡◌, ◌≤◌, ℕ, List, Bool, true, false, refl, Some, length, ltb, arith}
use Rattle.std.specs.Str.{IsUtf8, is_utf8}
use Rattle.std.proofs.lemmas.Str.{IsUtf8-from_is_utf8, is_utf8-from_IsUtf8}
use Rattle.std.proofs.lemmas.Bool.Decides.{nat_tests}
use Rattle.toml.specs.Data.{Members}
use Rattle.toml.specs.Parse.{parse_document}
use Rattle.reg_file.specs.RegisterFile.{regs_of, regs_in}

by_test : (b : Bool) (P : Type 0) → (b ≡ true → P) → (P → ⊥) → b ≡ false
by_test true P to bad = absurd (bad (to refl))
by_test false P to bad = refl

pub no_text : (bytes : List ℕ) → (IsUtf8 bytes → ⊥) → is_utf8 bytes ≡ false
no_text bytes bad = by_test (is_utf8 bytes) (IsUtf8 bytes) (IsUtf8-from_is_utf8 bytes) bad

small : (m n : ℕ) → n ≤ m → ltb m n ≡ false
small m n h = grind (arith, nat_tests)

-- a document's registers are those of its table
pub of_table : (bytes text : List ℕ) (table : Members) → length bytes ≤ 65536 → IsUtf8 bytes → text ≡ bytes → parse_document text ≡ Some table
    → regs_of bytes ≡ regs_in table
of_table bytes text table h u e p =
    let q : parse_document bytes ≡ Some table = rw e at p in
    rw (small 65536 (length bytes) h, is_utf8-from_IsUtf8 bytes u, q) refl
