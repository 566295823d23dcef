-- The counts of two names.
use Rattle.std.specs.Prelude.{ℕ, List}
use Rattle.dump_file.specs.Counted.{count_of}
use Rattle.dump_file.specs.declared.counts.Counts.{Counts}

-- the count of each name
abbrev pub counts_of : Counts → (name : List ℕ) → ℕ
counts_of c = count_of c.first.now c.second.now c.one c.two
