-- What a shorter call may have missed, a longer one may have too.
use Rattle.std.proofs.Common.{ℕ, ◌≤◌, arith, inl, inr}
use Rattle.std.specs.Prelude.{Some, None}
use Rattle.bitwords.specs.Causes.{Rose}
use Rattle.table_reads.specs.Memory.{Told, Misses}

pub misses_weaker : (m : Told) (p : ℕ) (F G : Type 0) → (F → G) → Misses m p F → Misses m p G
misses_weaker None p F G f h = tt
misses_weaker (Some m) p F G f (inl h) = inl h
misses_weaker (Some m) p F G f (inr h) = inr (f h)

pub rose_weaker : (before before' now now' : ℕ) → before ≤ before' → now' ≤ now → Rose before' now' → Rose before now
rose_weaker before before' now now' h k r = omega arith
