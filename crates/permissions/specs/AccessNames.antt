-- The words for an access: its exception level, and what it does. The forms are this project's own rule.
use Rattle.std.specs.Prelude.{ℕ, List, codes, bytes_eq, Option, Some, None, if◌then◌else◌}
use Rattle.permissions.specs.declared.bits.El.{El}
use Rattle.permissions.specs.declared.bits.El.TheVariants.{El0, El1}
use Rattle.permissions.specs.declared.bits.Kind.{Kind}
use Rattle.permissions.specs.declared.bits.Kind.TheVariants.{Read, Write, Fetch}

abbrev pub el_text : (el : El) → List ℕ
el_text El0 = codes "el0"
el_text El1 = codes "el1"

abbrev pub kind_text : (kind : Kind) → List ℕ
kind_text Read = codes "read"
kind_text Write = codes "write"
kind_text Fetch = codes "fetch"

-- the exception level that a word names
abbrev pub el_of : (word : List ℕ) → Option El
el_of word = if bytes_eq word (codes "el0") then Some El0 else (if bytes_eq word (codes "el1") then Some El1 else None)

-- what an access does that a word names
abbrev pub kind_of : (word : List ℕ) → Option Kind
kind_of word =
    if bytes_eq word (codes "read") then Some Read
    else (if bytes_eq word (codes "write") then Some Write else (if bytes_eq word (codes "fetch") then Some Fetch else None))
