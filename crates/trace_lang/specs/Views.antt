-- What the code's types stand for, and what calls answer beside what is due.
use Rattle.std.specs.Prelude.{◌≡◌, ℕ, Bool, true, false, if◌then◌else◌, List, [], Option, Some, None, Result, Ok, Err}
use Rattle.std.specs.List.{list_all, slice_split}
use Rattle.texts.specs.Results.{Fails}
use Rattle.trace_lang.specs.declared.refusals.LineRefusal.{LineRefusal}
use Rattle.trace_lang.specs.declared.refusals.TraceRefusal.{TraceRefusal}
use Rattle.trace_lang.specs.declared.refusals.TraceError.{TraceError}
use Rattle.trace_lang.specs.declared.refusals.TraceError.TheVariants as trace
use Rattle.trace_lang.specs.declared.places.LineError.{LineError}
use Rattle.trace_lang.specs.declared.places.LineError.TheVariants.{NoMemory, Refused}
use Rattle.trace_lang.specs.declared.names.Verb.{Verb as Word}
use Rattle.trace_lang.specs.declared.names.Verb.TheVariants as word
use Rattle.trace_lang.specs.declared.names.PolicyWord.{PolicyWord as NameOfPolicy}
use Rattle.trace_lang.specs.declared.names.PolicyWord.TheVariants as policy
use Rattle.trace_lang.specs.declared.reading.Head.{Head}
use Rattle.trace_lang.specs.declared.reading.Reading.{Reading}
use Rattle.trace_lang.specs.declared.refusals.LineRefusal.TheVariants.{NotText}
use Rattle.trace_lang.specs.Words.{is_text, words_of}
use Rattle.trace_lang.specs.Traces.{Header}
use Rattle.trace_lang.specs.Events.{Verb, store, msr, settle, isb, tlbi, dsb, deliver, access, prefetch}
use Rattle.trace_lang.specs.Lines.{State, PolicyWord, lru, fifo, random}

-- the parts of what stands behind a cut, if there was one
abbrev pub parts_behind : (is_cut : ℕ → Bool) (rest : Option (List ℕ)) → List (List ℕ)
parts_behind p None = []
parts_behind p (Some text) = slice_split p text

-- whether what stands behind a cut is text; nothing is cut where a byte before it is none
abbrev pub is_text_behind : (rest : Option (Option (List ℕ))) → Bool
is_text_behind None = false
is_text_behind (Some None) = true
is_text_behind (Some (Some text)) = list_all is_text text

-- the words of a line, of which each byte is to be text
abbrev pub text_words : (line : List ℕ) → Result (List (List ℕ)) LineRefusal
text_words line = if list_all is_text line then Ok (words_of line) else Err NotText

-- the verb that the code's name stands for
abbrev pub verb_of : (name : Word) → Verb
verb_of word.Store = store
verb_of word.Msr = msr
verb_of word.Settle = settle
verb_of word.Isb = isb
verb_of word.Tlbi = tlbi
verb_of word.Dsb = dsb
verb_of word.Deliver = deliver
verb_of word.Access = access
verb_of word.Prefetch = prefetch

-- the word for a policy that the code's name stands for
abbrev pub policy_word_of : (name : NameOfPolicy) → PolicyWord
policy_word_of policy.Lru = lru
policy_word_of policy.Fifo = fifo
policy_word_of policy.Random = random

abbrev pub header_of : (head : Head) → Header
header_of h = record { cores = h.cores; ranges = h.ranges.items; size = h.size; policy = h.policy }

abbrev pub state_of : (reading : Reading) → State
state_of r = record { phase = r.phase; trace = record { header = header_of r.head; events = r.events.items } }

-- the refusal of a line's error; want of memory is none
abbrev pub line_refusal : (error : LineError) → Option LineRefusal
line_refusal (Refused why) = Some why
line_refusal NoMemory = None

-- the refusal of a text's error; want of memory is none
abbrev pub trace_refusal : (error : TraceError) → Option TraceRefusal
trace_refusal (trace.Refused why) = Some why
trace_refusal trace.NoMemory = None

-- after Ok the state is the one that is due, and a refusal is the one that is due
abbrev pub Steps : {A S : Type 0} → (new : S) (result : Result A LineError) (due : Result S LineRefusal) → Type 0
Steps new (Ok _) due = due ≡ Ok new
Steps new (Err e) due = Fails (line_refusal e) due
