-- What parts of a file come to that are read by pages. The size of a page is this project's own rule.
use Rattle.std.specs.Prelude.{◌≡◌, ◌⊎◌, ℕ, ◌-◌, ◌*◌, List, length, take, drop, min, Vec, Contains, Option, Some, None, Bool, true, false}
use Rattle.byteorder.specs.Endian.{little_number}
use Rattle.std.specs.declared.alloc.Global.{Global}
use Rattle.bitwords.specs.Causes.{Rose}
use Rattle.dump_file.specs.Held.{Holding, Untold, Absent, Bytes}
use Rattle.dump_file.specs.Kept.{KeepsOf}

-- each page that is kept has as many bytes as lie at its place below the file's size
abbrev pub AreFull : (size : ℕ) (pages : List (ℕ × Vec ℕ Global)) → Type 0
AreFull size pages = (page : ℕ × Vec ℕ Global) → Contains pages page → length page.1.items ≡ min 4096 (size - 4096 * page.0)

-- each page was kept before
abbrev pub AreAmong : (before after : List (ℕ × Vec ℕ Global)) → Type 0
AreAmong before after = (page : ℕ × Vec ℕ Global) → Contains after page → Contains before page

-- each page was kept before, or is this one
abbrev pub IsAdded : (before after : List (ℕ × Vec ℕ Global)) (number : ℕ) (bytes : List ℕ) → Type 0
IsAdded before after number bytes =
    (page : ℕ × Vec ℕ Global) → Contains after page → Contains before page ⊎ ((page.0 ≡ number) × (page.1.items ≡ bytes))

-- a file's bytes from a place on, by pages that are kept of it
abbrev pub IsKeptPart : (pages : List (ℕ × Vec ℕ Global)) (at : ℕ) (new : List ℕ) → Type 0
IsKeptPart pages at new = (bytes : List ℕ) → KeepsOf bytes pages → new ≡ take (length new) (drop at bytes)

-- Whether a file's bytes came from a place on. Of a file that doesn't tell its bytes, they fail to come only where the
-- count `missing` rose; of one of this size that tells them, they come if the pages are its own.
abbrev pub IsPart : (held : Holding) (size : ℕ) (pages : List (ℕ × Vec ℕ Global)) (before now at : ℕ) (new : List ℕ) (came : Bool) → Type 0
IsPart Untold size pages before now at new came = came ≡ false → Rose before now
IsPart Absent size pages before now at new came = Unit {0}
IsPart (Bytes bytes) size pages before now at new came =
    size ≡ length bytes → KeepsOf bytes pages → (came ≡ true) × (new ≡ take (length new) (drop at bytes))

-- the word from a place on, likewise
abbrev pub IsWordAt : (held : Holding) (size : ℕ) (pages : List (ℕ × Vec ℕ Global)) (before now at : ℕ) (word : Option ℕ) → Type 0
IsWordAt Untold size pages before now at word = word ≡ None → Rose before now
IsWordAt Absent size pages before now at word = Unit {0}
IsWordAt (Bytes bytes) size pages before now at word = size ≡ length bytes → KeepsOf bytes pages → word ≡ Some (little_number 8 (drop at bytes))

-- pages of a file of this size that tells its bytes stay its own
abbrev pub StayOf : (held : Holding) (size : ℕ) (before after : List (ℕ × Vec ℕ Global)) → Type 0
StayOf Untold size before after = Unit {0}
StayOf Absent size before after = Unit {0}
StayOf (Bytes bytes) size before after = size ≡ length bytes → KeepsOf bytes before → KeepsOf bytes after
