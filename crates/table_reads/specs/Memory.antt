-- Memory as a walk reads it, and what a read answers.
use Rattle.std.specs.Prelude.{◌≡◌, ◌⊎◌, ℕ, List, [], ◌∷◌, ◌++◌, ℤ, Option, Some, None, Result, Ok, Err}
use Rattle.trails.specs.declared.item.Item.{Item}
use Rattle.trails.specs.declared.outcome.Stop.{Stop}
use Rattle.trails.specs.declared.outcome.Stop.TheVariants.{Absent}
use Rattle.table_reads.specs.declared.levels.Walker.{Walker}
use Rattle.table_reads.specs.Items.{word_item}

-- a memory has a word at a place, or nothing
abbrev pub Memory : Type 0
Memory = ℕ → Option ℕ

-- what memory holds, as far as a supply tells
abbrev pub Told : Type 0
Told = Option Memory

-- this word is the one that the memory has there, where it is told
abbrev pub Holds : (told : Told) (place value : ℕ) → Type 0
Holds None place v = Unit {0}
Holds (Some m) place v = m place ≡ Some v

-- this place lacks a word, where the memory is told, unless the supply failed
abbrev pub Misses : (told : Told) (place : ℕ) (failed : Type 0) → Type 0
Misses None place failed = Unit {0}
Misses (Some m) place failed = (m place ≡ None) ⊎ failed

-- what a supply answers for a place
abbrev pub Supplies : (told : Told) (place : ℕ) (failed : Type 0) (word : Option ℕ) → Type 0
Supplies m place failed (Some v) = Holds m place v
Supplies m place failed None = Misses m place failed

-- A word of a level was read at a place and appended, or it is lacking. (More than six parameters: what
-- the supply tells, who reads what, and the trail before and after.)
abbrev pub HasRead : (told : Told) (failed : Type 0) (walker : Walker) (level : ℤ) (place : ℕ) (old new : List Item) (result : Result ℕ Stop) → Type 0
HasRead m failed w level place old new (Ok v) = (new ≡ old ++ word_item w.moment w.stage level place v ∷ []) × Holds m place v
HasRead m failed w level place old new (Err stop) = (new ≡ old) × (stop ≡ Absent w.stage level place w.s1ptw) × Misses m place failed
