-- Start levels and sizes of stage 2 that is not refused, and its tables.
use Rattle.std.proofs.Common.{◌≡◌, ℕ, zero, suc, ◌≤◌, ◌<◌, ◌%◌, ◌^◌, refl, arith}
use Rattle.std.specs.Prelude.{pos, ◌≤ℤ◌}
use Rattle.std.proofs.lemmas.Int.{ints}
use Rattle.geometry.specs.Tables.{most_left, level_of, left_below}
use Rattle.sysregs.specs.declared.regs.Config.{Config}
use Rattle.table_reads.specs.declared.sizes.Sizes.{Sizes}
use Rattle.table_reads.specs.Numbers.{sizes2}
use Rattle.stage2_walk.specs.Clauses.{IsTableOf}
use Rattle.stage2_walk.specs.declared.walk.From2.{From2}

-- a level tells how many are left below it
pub left_below_of : (left : ℕ) → left ≤ most_left → left_below (level_of left) ≡ left
left_below_of zero h = refl
left_below_of (suc zero) h = refl
left_below_of (suc (suc zero)) h = refl
left_below_of (suc (suc (suc zero))) h = refl
left_below_of (suc (suc (suc (suc n)))) h = absurd (omega (arith, h))

-- a level from 0 to 3
pub level_least : (left : ℕ) → left ≤ most_left → pos 0 ≤ℤ level_of left
level_least zero h = omega (arith, ints)
level_least (suc zero) h = omega (arith, ints)
level_least (suc (suc zero)) h = omega (arith, ints)
level_least (suc (suc (suc zero))) h = omega (arith, ints)
level_least (suc (suc (suc (suc n)))) h = absurd (omega (arith, h))

pub level_most : (left : ℕ) → left ≤ most_left → level_of left ≤ℤ pos 3
level_most zero h = omega (arith, ints)
level_most (suc zero) h = omega (arith, ints)
level_most (suc (suc zero)) h = omega (arith, ints)
level_most (suc (suc (suc zero))) h = omega (arith, ints)
level_most (suc (suc (suc (suc n)))) h = absurd (omega (arith, h))

-- a table with so many levels left, from the start level down
pub table_within : (c : Config) (from : From2) (n : Sizes) (left : ℕ) → n ≡ sizes2 c → from.level ≡ level_of left → left ≤ n.start
    → n.start ≤ most_left
    → from.base < 2 ^ 52 → from.base % 8 ≡ 0 → IsTableOf c from
table_within c from n left e l w m b r =
    let few : left ≤ most_left = omega arith in
    record {
      least = rw l (level_least left few);
      most = rw l (level_most left few);
      start = rw (← e, l, left_below_of left few) w;
      below = b;
      eights = r;
    }

-- the start table is a table of its stage
pub table2_of : (c : Config) (from : From2) (n : Sizes) → n ≡ sizes2 c → from.level ≡ level_of n.start → n.start ≤ most_left → from.base < 2 ^ 52
    → from.base % 8 ≡ 0 → IsTableOf c from
table2_of c from n e l m b r = table_within c from n n.start e l (omega arith) m b r
