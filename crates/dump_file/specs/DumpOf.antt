-- What the bytes of a dump stand for: an ELF64 core, little-endian, of an AArch64 machine. The fields and their places
-- are those of the ELF format; which dumps are refused, with what, and which segment serves is this project's own rule.
use Rattle.std.specs.Prelude.{ℕ, zero, suc, ◌+◌, ◌-◌, ◌*◌, List, [], ◌∷◌, length, take, drop, slice_index, Option, Some, None}
use Rattle.std.specs.Prelude.{option_map, Bool, ◌==◌, ◌&&◌, not, nat_le, nat_lt, bytes_eq, if◌then◌else◌, Result, Ok, Err}
use Rattle.byteorder.specs.Endian.{little_number, little_from}
use Rattle.dump_file.specs.declared.dump.Segment.{Segment}
use Rattle.dump_file.specs.declared.refusal.DumpField.TheVariants.{Class, Encoding, Kind, Machine, EntrySize}
use Rattle.dump_file.specs.declared.refusal.DumpRefusal.{DumpRefusal}
use Rattle.dump_file.specs.declared.refusal.DumpRefusal.TheVariants.{NotElf, WrongKind, BadTable, TooMany, PastEnd}

-- where the table of program headers begins, and how many there are
pub record Table : Type 0 where
  pub place : ℕ
  pub count : ℕ

-- the count of program headers
abbrev pub count_in : (head : List ℕ) → ℕ
count_in head = little_from 56 2 head

-- the place of their table
abbrev pub place_in : (head : List ℕ) → ℕ
place_in head = little_from 32 8 head

-- the table that a header names, where it ends within the file
abbrev pub table_in : (head : List ℕ) (size : ℕ) → Result Table DumpRefusal
table_in head size =
    if count_in head == 0 then Ok (record { place = 0; count = 0 })
    else (if not (little_from 54 2 head == 56) then Err (WrongKind EntrySize)
    else (if nat_lt size (place_in head + 56 * count_in head) then Err BadTable
    else Ok (record { place = place_in head; count = count_in head })))

-- the table of a file of this size that begins with this header, or the first refusal
abbrev pub table_of : (head : List ℕ) (size : ℕ) → Result Table DumpRefusal
table_of head size =
    if not (nat_le 64 size && bytes_eq (take 4 head) (0x7f ∷ 0x45 ∷ 0x4c ∷ 0x46 ∷ [])) then Err NotElf
    else (if not (slice_index head 4 == 2) then Err (WrongKind Class)
    else (if not (slice_index head 5 == 1) then Err (WrongKind Encoding)
    else (if not (little_from 16 2 head == 4) then Err (WrongKind Kind)
    else (if not (little_from 18 2 head == 183) then Err (WrongKind Machine)
    else (if nat_lt 4096 (count_in head) then Err TooMany
    else table_in head size)))))

-- a program header of 56 bytes says where a segment lies in memory, where in the file, and how many bytes the file has
abbrev pub segment_of : (header : List ℕ) → Segment
segment_of header = record { address = little_from 24 8 header; offset = little_from 8 8 header; size = little_from 32 8 header }

-- it is loaded, and the file has bytes of it
abbrev pub is_loaded : (header : List ℕ) → Bool
is_loaded header = little_from 0 4 header == 1 && nat_lt 0 (little_from 32 8 header)

-- a segment before others
abbrev pub before : (segment : Segment) (others : Result (List Segment) DumpRefusal) → Result (List Segment) DumpRefusal
before s (Ok others) = Ok (s ∷ others)
before s (Err why) = Err why

-- a program header and what comes of those behind it: one that is loaded has to end within the file
abbrev pub with_header : (size index : ℕ) (header : List ℕ) (others : Result (List Segment) DumpRefusal) → Result (List Segment) DumpRefusal
with_header size index header others =
    if not (is_loaded header) then others
    else (if nat_lt size ((segment_of header).offset + (segment_of header).size) then Err (PastEnd index)
    else before (segment_of header) others)

-- the segments of so many program headers, the first of which has this place in the table, or the first refusal
abbrev pub segments_of : (size index count : ℕ) (table : List ℕ) → Result (List Segment) DumpRefusal
segments_of size index zero table = Ok []
segments_of size index (suc count) table = with_header size index (take 56 table) (segments_of size (index + 1) count (drop 56 table))

-- the segments of a file, or its first refusal
abbrev pub dump_by : (bytes : List ℕ) (table : Result Table DumpRefusal) → Result (List Segment) DumpRefusal
dump_by bytes (Ok t) = segments_of (length bytes) 0 t.count (take (56 * t.count) (drop t.place bytes))
dump_by bytes (Err why) = Err why

abbrev pub dump_of : (bytes : List ℕ) → Result (List Segment) DumpRefusal
dump_of bytes = dump_by bytes (table_of (take 64 bytes) (length bytes))

-- all eight bytes of a place lie in a segment
abbrev pub holds_word : (segment : Segment) (pa : ℕ) → Bool
holds_word s pa = nat_le s.address pa && nat_le (pa - s.address + 8) s.size

-- the first segment that holds a place
abbrev pub serving : (segments : List Segment) (pa : ℕ) → Option Segment
serving [] pa = None
serving (s ∷ others) pa = if holds_word s pa then Some s else serving others pa

-- where a place of a segment stands in the file
abbrev pub file_place : (pa : ℕ) (segment : Segment) → ℕ
file_place pa s = s.offset + (pa - s.address)

-- the word at a place of memory
abbrev pub dump_word : (bytes : List ℕ) (segments : List Segment) (pa : ℕ) → Option ℕ
dump_word bytes segments pa = option_map (λ s. little_number 8 (drop (file_place pa s) bytes)) (serving segments pa)
