-- Rows that come and go in sets (this project's own rules). The rows of a core stand in one list in the order of rank: a row
-- that is made goes last, and so does, under lru, a row that served. A set is what a filter leaves of the list.
use Rattle.std.specs.Prelude.{ℕ, ◌+◌, ◌*◌, ◌/◌, ◌%◌, ◌^◌, zero, suc, Bool, not, ◌==◌, ◌&&◌, nat_le, if◌then◌else◌}
use Rattle.std.specs.Prelude.{List, [], ◌∷◌, ◌++◌, length, fold, filter}
use Rattle.std.specs.List.{list_any}
use Rattle.sysregs.specs.Equality.{same_bool, same_fields}
use Rattle.trace_lang.specs.declared.header.Policy.{Policy}
use Rattle.trace_lang.specs.declared.header.Policy.TheVariants.{Lru, Fifo, Random}
use Rattle.trace_lang.specs.Traces.{Header}
use Rattle.tagged_tlb.specs.declared.row.Row.{Row}
use Rattle.tagged_tlb.specs.Shapes.{Shape, shape_of, keeps_rows}
use Rattle.tagged_tlb.specs.Rows.{same_kind, same_region}

-- the rows of a core, in the order of rank, and how many were evicted so far
pub record Cache : Type 0 where
  pub rows : List Row
  pub evictions : ℕ

-- the number that is drawn behind so many others
abbrev pub drawn : (start : ℕ) (earlier : ℕ) → ℕ
drawn x zero = (x * 6364136223846793005 + 1442695040888963407) % 2 ^ 64
drawn x (suc n) = (drawn x n * 6364136223846793005 + 1442695040888963407) % 2 ^ 64

-- the place in its set of the row that leaves, in the order of rank; the draws of a core begin at START plus its number
abbrev pub victim : (policy : Policy) (core evictions ways : ℕ) → ℕ
victim Lru c n ways = 0
victim Fifo c n ways = 0
victim (Random start) c n ways = drawn ((start + c) % 2 ^ 64) n / 2 ^ 33 % ways

-- the list without the n-th of those that pass
abbrev pub without : {X : Type 0} → (test : X → Bool) (list : List X) (n : ℕ) → List X
without test [] n = []
without test (x ∷ list) zero = if test x then list else x ∷ without test list zero
without test (x ∷ list) (suc n) = if test x then x ∷ without test list n else x ∷ without test list (suc n)

-- the set of a row in a cache of its kind
abbrev pub same_set : (shape : Shape) (row other : Row) → Bool
same_set s r x = same_kind r.kind x.kind && (r.region.start % s.sets == x.region.start % s.sets)

-- a row that would serve the same
abbrev pub same_key : (row other : Row) → Bool
same_key r x =
    same_kind r.kind x.kind && same_region r.region x.region && (r.key.vmid == x.key.vmid) && (r.key.asid == x.key.asid)
    && same_bool r.global x.global && same_fields r.key.config x.key.config

-- the row goes last; a full set loses a row first
abbrev pub placed : (header : Header) (core : ℕ) (shape : Shape) (cache : Cache) (row : Row) → Cache
placed h c s l r =
    if nat_le s.ways (length (filter (same_set s r) l.rows))
    then record { rows = without (same_set s r) l.rows (victim h.policy c l.evictions s.ways) ++ r ∷ []; evictions = l.evictions + 1 }
    else record l { rows = l.rows ++ r ∷ [] }

-- a row is added where no live one would serve the same
abbrev pub added : (header : Header) (core : ℕ) (cache : Cache) (row : Row) → Cache
added h c l r = if list_any (same_key r) l.rows then l else placed h c (shape_of h.size r.kind) l r

-- the very row
abbrev pub is_row : (row other : Row) → Bool
is_row r x = (r.made.step == x.made.step) && (r.made.order == x.made.order)

-- a row that served goes last
abbrev pub to_end : (rows : List Row) (row : Row) → List Row
to_end rows r = filter (λ x. not (is_row r x)) rows ++ r ∷ []

-- the rows that served, in the order of the trail
abbrev pub touched : (policy : Policy) (rows served : List Row) → List Row
touched Lru rows served = fold to_end rows served
touched Fifo rows served = rows
touched (Random start) rows served = rows

-- the cache after a step: services come before the rows that are made
abbrev pub filled : (header : Header) (core : ℕ) (cache : Cache) (served made : List Row) → Cache
filled h c l served made =
    if keeps_rows h.size then fold (added h c) (record l { rows = touched h.policy l.rows served }) made else l
