-- What the definitions of sizes and bases keep to.
use Rattle.std.proofs.Common.{ℕ, ◌^◌, ◌<◌, ◌≤◌, arith}
use Rattle.std.proofs.lemmas.Bool.Decides.{nat_tests}
use Rattle.sysregs.specs.Registers.{output_size, base_field}

pub output_least : (g code : ℕ) → 32 ≤ output_size g code
output_least g code = grind (arith, nat_tests)

pub output_most : (g code : ℕ) → output_size g code ≤ 52
output_most g code = grind (arith, nat_tests)

-- a base is a physical address
pub base_below : (g code w : ℕ) → base_field g code w < 2 ^ 52
base_below g code w = grind (arith, nat_tests)
