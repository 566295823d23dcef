-- What the words of the command line ask for. Their form is this project's own rule.
use Rattle.std.specs.Prelude.{ℕ, List, [], ◌∷◌, length, slice_index, Option, Some, None, Bool, true}
use Rattle.std.specs.Prelude.{false, ◌==◌, ◌&&◌, not, nat_lt, bytes_eq, codes}
use Rattle.std.specs.Prelude.{option_map, if◌then◌else◌}
use Rattle.std.specs.List.{list_all}
use Rattle.permissions.specs.declared.bits.El.{El}
use Rattle.permissions.specs.declared.bits.Kind.{Kind}
use Rattle.permissions.specs.AccessNames.{el_of, kind_of}
use Rattle.trails.specs.declared.outcome.Access.{Access}
use Rattle.texts.specs.Numbers.{number_of}
use Rattle.commands.specs.Asked.{RawWords, ExplainWords, RunWords, DrillWords, Asked, Raw, Explain, Run, Drill}

-- not empty, and no `-` in front
abbrev pub is_plain : (word : List ℕ) → Bool
is_plain word = nat_lt 0 (length word) && not (slice_index word 0 == 0x2d)

-- all three numbers are needed
abbrev pub raw_with : (image : List ℕ) (tcr ttbr0 va : Option ℕ) → Option RawWords
raw_with image (Some tcr) (Some ttbr0) (Some va) = Some (record { image = image; tcr = tcr; ttbr0 = ttbr0; va = va })
raw_with image _ _ _ = None

-- the words behind `raw`: IMAGE TCR TTBR0 VA
abbrev pub raw_asked : (words : List (List ℕ)) → Option RawWords
raw_asked (image ∷ tcr ∷ ttbr0 ∷ va ∷ []) = raw_with image (number_of tcr) (number_of ttbr0) (number_of va)
raw_asked _ = None

-- `pan`
abbrev pub pan_of : (word : List ℕ) → Option Bool
pan_of word = if bytes_eq word (codes "pan") then Some true else None

-- an access to a virtual address: all that says how is needed
abbrev pub access_with : (va : Option ℕ) (el : Option El) (kind : Option Kind) (pan : Option Bool) → Option Access
access_with (Some va) (Some el) (Some kind) (Some pan) = Some (record { va = va; el = el; kind = kind; pan = pan })
access_with _ _ _ _ = None

-- the access of an `explain`
abbrev pub explain_with : (registers dump : List ℕ) (access : Option Access) → Option ExplainWords
explain_with registers dump access = option_map (λ a. record { registers = registers; dump = dump; access = a }) access

-- the words behind `explain`: REGS DUMP VA EL KIND, and `pan` or not
abbrev pub explain_asked : (words : List (List ℕ)) → Option ExplainWords
explain_asked (registers ∷ dump ∷ va ∷ el ∷ kind ∷ []) =
    explain_with registers dump (access_with (number_of va) (el_of el) (kind_of kind) (Some false))
explain_asked (registers ∷ dump ∷ va ∷ el ∷ kind ∷ pan ∷ []) =
    explain_with registers dump (access_with (number_of va) (el_of el) (kind_of kind) (pan_of pan))
explain_asked _ = None

-- the word behind `run`: TRACE
abbrev pub run_asked : (words : List (List ℕ)) → Option RunWords
run_asked (trace ∷ []) = Some (record { trace = trace })
run_asked _ = None

-- the word behind `drill`: N
abbrev pub drill_asked : (words : List (List ℕ)) → Option DrillWords
drill_asked (start ∷ []) = option_map (λ n. record { start = n }) (number_of start)
drill_asked _ = None

-- the first word names the command
abbrev pub named : (words : List (List ℕ)) → Option Asked
named [] = None
named (name ∷ rest) =
    if bytes_eq name (codes "raw") then option_map Raw (raw_asked rest)
    else (if bytes_eq name (codes "explain") then option_map Explain (explain_asked rest)
    else (if bytes_eq name (codes "run") then option_map Run (run_asked rest)
    else (if bytes_eq name (codes "drill") then option_map Drill (drill_asked rest) else None)))

-- a command and its arguments, all words plain
abbrev pub command_of : (words : List (List ℕ)) → Option Asked
command_of words = if list_all is_plain words then named words else None
