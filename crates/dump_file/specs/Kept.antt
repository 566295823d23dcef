-- What a dump keeps of its file, and which bytes it stands for. How many pages are kept, and of which size, is this
-- project's own rule.
use Rattle.std.specs.Prelude.{◌≡◌, ℕ, ◌*◌, List, length, take, drop, Vec, Contains, Ok}
use Rattle.std.specs.declared.alloc.Global.{Global}
use Rattle.dump_file.specs.declared.dump.Segment.{Segment}
use Rattle.dump_file.specs.DumpOf.{dump_of}

-- a dump: the name of its file, the file's size when it was opened, its segments, and the pages that are kept by number
pub record Opened : Type 0 where
  pub name : List ℕ
  pub size : ℕ
  pub segments : List Segment
  pub pages : List (ℕ × Vec ℕ Global)

-- the bytes of a page
abbrev pub page_of : (bytes : List ℕ) (number : ℕ) → List ℕ
page_of bytes number = take 4096 (drop (4096 * number) bytes)

-- each page that is kept has the file's bytes
abbrev pub KeepsOf : (bytes : List ℕ) (pages : List (ℕ × Vec ℕ Global)) → Type 0
KeepsOf bytes pages = (page : ℕ × Vec ℕ Global) → Contains pages page → page.1.items ≡ page_of bytes page.0

-- a dump stands for these bytes: its segments are theirs, and all that it keeps of the file are these bytes at their places
pub record StandsFor (bytes : List ℕ) (dump : Opened) : Type 0 where
  pub size : dump.size ≡ length bytes
  pub segments : dump_of bytes ≡ Ok dump.segments
  pub pages : KeepsOf bytes dump.pages

-- only the pages that are kept may differ
pub record IsSame (before after : Opened) : Type 0 where
  pub name : after.name ≡ before.name
  pub size : after.size ≡ before.size
  pub segments : after.segments ≡ before.segments
