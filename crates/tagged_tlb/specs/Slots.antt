-- A set as it is kept: the heads of its rows in the order of rank, and a trail for each slot.
use Rattle.std.specs.Prelude.{◌≡◌, ℕ, ◌+◌, ◌<◌, ◌≤◌, ◌⊎◌, Bool, true, ◌==◌, ◌&&◌, ◌||◌}
use Rattle.std.specs.Prelude.{if◌then◌else◌, List, [], ◌∷◌, ◌++◌, length, slice_index_or}
use Rattle.std.specs.List.{remove}
use Rattle.sysregs.specs.Equality.{same_fields}
use Rattle.fault_codes.specs.declared.fault.Stage.{Stage}
use Rattle.fault_codes.specs.declared.fault.Stage.TheVariants.{S1, S2}
use Rattle.trails.specs.declared.item.Item.{Item}
use Rattle.tlbi_ops.specs.declared.inval.Inval.{Inval}
use Rattle.tlbi_ops.specs.Covers.{covers}
use Rattle.tagged_tlb.specs.declared.row.Made.{Made}
use Rattle.tagged_tlb.specs.declared.row.Row.{Row}
use Rattle.tagged_tlb.specs.declared.row.Sought.{Sought}
use Rattle.tagged_tlb.specs.declared.head.Head.{Head}
use Rattle.tagged_tlb.specs.Sets.{same_key}
use Rattle.tagged_tlb.specs.Stands.{is_made}

-- the row of a head
abbrev pub row_of : (trails : List (List Item)) (head : Head) → Row
row_of trails h = record {
  trail = slice_index_or trails h.slot [];
  tag = h.tag;
  key = h.key;
  region = h.region;
  made = h.made;
  kind = h.kind;
  global = h.global;
}

abbrev pub head_with : (row : Row) (slot : ℕ) → Head
head_with r slot = record { region = r.region; made = r.made; key = r.key; tag = r.tag; slot = slot; kind = r.kind; global = r.global }

-- what is asked of a row and doesn't look at its trail
abbrev pub bare : (head : Head) → Row
bare h = row_of [] h

abbrev pub made_of : (head : Head) → Made
made_of h = h.made

-- the row of a head was made so
abbrev pub was_made : (made : Made) (head : Head) → Bool
was_made m h = is_made m (bare h)

abbrev pub key_of_head : (row : Row) (head : Head) → Bool
key_of_head r h = same_key r (bare h)

-- a row of stage 1 serves under every ASID where it is global, and else under its own
abbrev pub suits_asid : (stage : Stage) (asid : ℕ) (global : Bool) (own : ℕ) → Bool
suits_asid S1 asid global own = global || (own == asid)
suits_asid S2 asid global own = true

-- a row serves under the key that is sought
abbrev pub is_keyed_row : (sought : Sought) (row : Row) → Bool
is_keyed_row s r = (r.key.vmid == s.key.vmid) && suits_asid s.stage s.key.asid r.global r.key.asid && same_fields r.key.config s.key.config

abbrev pub is_keyed : (sought : Sought) (head : Head) → Bool
is_keyed s h = is_keyed_row s (bare h)

-- a row of a class that serves the region of that number
abbrev pub hit : (sought : Sought) (class start : ℕ) (row : Row) → Bool
hit s class start r = (r.region.start == start) && (r.region.class == class) && is_keyed_row s r

abbrev pub is_hit : (sought : Sought) (class start : ℕ) (head : Head) → Bool
is_hit s class start h = hit s class start (bare h)

abbrev pub one : Bool → ℕ
one b = if b then 1 else 0

-- how many heads have a slot
abbrev pub uses : (slot : ℕ) (heads : List Head) → ℕ
uses s [] = 0
uses s (h ∷ heads) = one (h.slot == s) + uses s heads

-- how often it is among these
abbrev pub among : (slot : ℕ) (free : List ℕ) → ℕ
among s [] = 0
among s (t ∷ free) = one (t == s) + among s free

abbrev pub HeadsBelow : (n : ℕ) (heads : List Head) → Type 0
HeadsBelow n [] = Unit {0}
HeadsBelow n (h ∷ heads) = (h.slot < n) × HeadsBelow n heads

abbrev pub AreBelow : (n : ℕ) (free : List ℕ) → Type 0
AreBelow n [] = Unit {0}
AreBelow n (t ∷ free) = (t < n) × AreBelow n free

-- no slot is there twice, and each is below n
pub record IsSpread (n : ℕ) (heads : List Head) (free : List ℕ) : Type 0 where
  pub once : (s : ℕ) → uses s heads + among s free ≤ 1
  pub heads_below : HeadsBelow n heads
  pub free_below : AreBelow n free

-- the slots of the rows that an invalidation covers
abbrev pub spares : (inval : Inval) (heads : List Head) → List ℕ
spares i [] = []
spares i (h ∷ heads) = if covers i h.tag then h.slot ∷ spares i heads else spares i heads

abbrev pub made_of_row : (row : Row) → Made
made_of_row r = r.made

-- a row went last, at most in the place of another
abbrev pub IsFilled : (before : List Row) (row : Row) (after : List Row) → Type 0
IsFilled rows r after = (after ≡ rows ++ r ∷ []) ⊎ ((at : ℕ) × (at < length rows) × (after ≡ remove rows at ++ r ∷ []))
