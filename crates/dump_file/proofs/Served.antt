-- The word of a segment that serves, and what a dump stands for after it.
use Rattle.std.proofs.Common.{◌≡◌, ℕ, List, drop, Vec, Global, Option, Some, option_map, Result, Ok, Err, sym, ◌∙◌, ap, inr}
use Rattle.std.specs.Result.{IfOk}
use Rattle.byteorder.specs.Endian.{little_number}
use Rattle.dump_file.specs.Held.{Holding, Untold, Absent, Bytes}
use Rattle.dump_file.specs.DumpOf.{serving, file_place}
use Rattle.dump_file.specs.Kept.{Opened, StandsFor}
use Rattle.dump_file.specs.Dumps.{IsWord}
use Rattle.dump_file.specs.Paging.{IsWordAt, StayOf}
use Rattle.dump_file.specs.declared.dump.Segment.{Segment}

pub word_served : {E : Type 0} (r : Result (Option ℕ) E) (held : Holding) (dump : Opened) (before now pa : ℕ) (s : Segment)
    → serving dump.segments pa ≡ Some s
    → IfOk r (IsWordAt held dump.size dump.pages before now (file_place pa s)) → IfOk r (IsWord held dump before now pa)
word_served (Err e) held dump before now pa s f h = tt
word_served (Ok word) Untold dump before now pa s f h = λ e. inr (h e)
word_served (Ok word) Absent dump before now pa s f h = tt
word_served (Ok word) (Bytes bytes) dump before now pa s f h = λ st.
    h st.size st.pages ∙ ap (option_map (λ (t : Segment). little_number 8 (drop (file_place pa t) bytes))) (sym f)

pub stands_after : (bytes : List ℕ) (dump : Opened) (pages : List (ℕ × Vec ℕ Global)) → StayOf (Bytes bytes) dump.size dump.pages pages
    → StandsFor bytes dump
    → StandsFor bytes (record dump { pages = pages })
stands_after bytes dump pages h st = record { size = st.size; segments = st.segments; pages = h st.size st.pages }
