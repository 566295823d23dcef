-- Each command as `clap` sees it: positional arguments, of which the last may be left out where it says so.
use Rattle.std.specs.Prelude.{ℕ, List, [], ◌≡◌, ◌≢◌, Option, Some, None, Bool, true, false, codes, option_and_then, option_map}
use Rattle.clap.specs.Walk.{Rule, Row, Text, first_of, rows_of}
use Rattle.clap.specs.Simple.{App, new_app, new_rule, with_rule, on_top, matches_of}
use Rattle.clap.specs.Faults.{fault_of}
use Rattle.clap.specs.Matches.{found_of}
use Rattle.clap.specs.declared.parser.matches.ArgMatches.{ArgMatches}
use Rattle.trails.specs.declared.outcome.Access.{Access}
use Rattle.texts.specs.Numbers.{number_of}
use Rattle.permissions.specs.AccessNames.{el_of, kind_of}
use Rattle.commands.specs.Asked.{RawWords, ExplainWords, RunWords, DrillWords}
use Rattle.commands.specs.Command.{raw_with, pan_of, access_with, explain_with}

-- an argument that has to be there
abbrev pub needed : (name : Text) → Rule
needed name = record (new_rule name) { required = true }

-- a command of this name that reads words behind its name
abbrev pub bare : (name : Text) → App
bare name = on_top (λ s. record s { no_binary_name = true; disable_help_flag = true }) (new_app name)

abbrev pub raw_app : App
raw_app =
    with_rule (with_rule (with_rule (with_rule (bare (codes "raw")) (needed (codes "IMAGE"))) (needed (codes "TCR")))
    (needed (codes "TTBR0"))) (needed (codes "VA"))

-- a command with the arguments of an access more
abbrev pub with_access : (command : App) → App
with_access command =
    with_rule (with_rule (with_rule (with_rule command (needed (codes "VA"))) (needed (codes "EL"))) (needed (codes "KIND"))) (new_rule (codes "pan"))

abbrev pub explain_app : App
explain_app = with_access (with_rule (with_rule (bare (codes "explain")) (needed (codes "REGS"))) (needed (codes "DUMP")))

abbrev pub run_app : App
run_app = with_rule (bare (codes "run")) (needed (codes "TRACE"))

abbrev pub drill_app : App
drill_app = with_rule (bare (codes "drill")) (needed (codes "N"))

-- what a command makes of words: nothing where it finds a fault in them, else its matches
abbrev pub IsMatched : (app : App) (words : List Text) (matches : Option ArgMatches) → Type 0
IsMatched app words None = fault_of app words ≢ []
IsMatched app words (Some m) = (fault_of app words ≡ []) × (rows_of (found_of m) ≡ matches_of app words)

-- the number that a text is, where there is one
abbrev pub number_by : (text : Option Text) → Option ℕ
number_by text = option_and_then number_of text

-- `raw` by what each argument gives
abbrev pub raw_by : (image : Option Text) (tcr ttbr0 va : Option ℕ) → Option RawWords
raw_by (Some image) tcr ttbr0 va = raw_with image tcr ttbr0 va
raw_by None tcr ttbr0 va = None

-- whether PAN is asked for, by the text of the last argument
abbrev pub pan_by : (pan : Option Text) → Option Bool
pan_by None = Some false
pan_by (Some word) = pan_of word

-- the access that rows of matches name
abbrev pub access_in : (rows : List Row) → Option Access
access_in rows =
    access_with (number_by (first_of (codes "VA") rows)) (option_and_then el_of (first_of (codes "EL") rows))
    (option_and_then kind_of (first_of (codes "KIND") rows)) (pan_by (first_of (codes "pan") rows))

-- `explain` by the texts of its files and the access
abbrev pub explain_by : (registers dump : Option Text) (access : Option Access) → Option ExplainWords
explain_by (Some registers) (Some dump) access = explain_with registers dump access
explain_by (Some registers) None access = None
explain_by None dump access = None

-- `run` by the text of its file
abbrev pub run_by : (trace : Option Text) → Option RunWords
run_by (Some trace) = Some (record { trace = trace })
run_by None = None

-- `drill` by its number
abbrev pub drill_by : (start : Option ℕ) → Option DrillWords
drill_by start = option_map (λ n. record { start = n }) start
