-- A trace as lines: the value of a text, or its first refusal. The language is this project's own rule.
use Rattle.std.specs.Prelude.{ℕ, ◌+◌, ◌^◌, List, [], ◌∷◌, ◌++◌, length, take, Bool, not, ◌&&◌, ◌==◌, nat_lt, nat_le}
use Rattle.std.specs.Prelude.{bytes_eq, codes, if◌then◌else◌, Result, Ok, Err}
use Rattle.std.specs.List.{list_all, list_any, slice_split}
use Rattle.trails.specs.declared.event.Event.{Event}
use Rattle.trace_lang.specs.declared.header.Size.{Size}
use Rattle.trace_lang.specs.declared.header.Size.TheVariants.{NoRows, Small, Medium, Large}
use Rattle.trace_lang.specs.declared.header.Policy.{Policy}
use Rattle.trace_lang.specs.declared.header.Policy.TheVariants.{Lru, Fifo, Random}
use Rattle.trace_lang.specs.declared.refusals.Phase.{Phase}
use Rattle.trace_lang.specs.declared.refusals.Phase.TheVariants.{Cores, Ranges, Policy as PolicyDue, Events, Ended}
use Rattle.trace_lang.specs.declared.refusals.LineRefusal.{LineRefusal}
use Rattle.trace_lang.specs.declared.refusals.LineRefusal.TheVariants.{NotText, LongLine, AfterEnd, NoHeader, TooMany, BadWord, BadNumber, OutOfRange}
use Rattle.trace_lang.specs.declared.refusals.LineRefusal.TheVariants.{Unsupported, NotAtEl1}
use Rattle.trace_lang.specs.declared.refusals.TraceRefusal.{TraceRefusal}
use Rattle.trace_lang.specs.declared.refusals.TraceRefusal.TheVariants as refusal
use Rattle.trace_lang.specs.Traces.{Header, Parts, most_cores, most_ranges, most_events, most_memory}
use Rattle.phys_mem.specs.Memory.{is_aligned}
use Rattle.phys_mem.specs.Ranges.{share_byte, bytes_of}
use Rattle.texts.specs.Results.{◌>>=◌}
use Rattle.trace_lang.specs.Words.{is_text, is_end, words_of, in_range, number_at, name_at, no_word_at, named}
use Rattle.trace_lang.specs.Events.{event_of}

-- what has been read
pub record State : Type 0 where
  pub phase : Phase
  pub trace : Parts

-- nothing
abbrev pub no_lines : State
no_lines = record { phase = Cores; trace = record { header = record { cores = 0; ranges = []; size = NoRows; policy = Fifo }; events = [] } }

abbrev pub with_header : (state : State) (phase : Phase) (header : Header) → State
with_header s phase h = record s { phase = phase; trace = record s.trace { header = h } }

-- THE HEADER

abbrev pub cores_met : (state : State) (words : List (List ℕ)) → Result State LineRefusal
cores_met s ws =
    number_at ws 2 >>= (λ n. in_range 2 (nat_le 1 n && nat_le n most_cores) n >>= (λ n. no_word_at ws 3 >>= (λ _.
    Ok (with_header s Ranges (record s.trace.header { cores = n })))))

-- where a range may begin
abbrev pub is_base : (base : ℕ) → Bool
is_base b = is_aligned b && nat_lt b (2 ^ 52)

-- how long it may be, behind others
abbrev pub is_size : (earlier : List (ℕ × ℕ)) (base size : ℕ) → Bool
is_size earlier b n = is_aligned n && nat_lt 0 n && nat_le (b + n) (2 ^ 52) && nat_le (bytes_of earlier + n) most_memory

abbrev pub range_met : (state : State) (words : List (List ℕ)) → Result State LineRefusal
range_met s ws =
    let h = s.trace.header in
    number_at ws 2 >>= (λ b. in_range 2 (is_base b) b >>= (λ b.
    number_at ws 3 >>= (λ n. in_range 3 (is_size h.ranges b n) n >>= (λ n. no_word_at ws 4 >>= (λ _.
    in_range 2 (not (list_any (share_byte (b, n)) h.ranges)) b >>= (λ _. Ok (with_header s Ranges (record h { ranges = h.ranges ++ (b, n) ∷ [] }))))))))

-- the words for the sizes of the caches
abbrev pub sizes : List (List ℕ × Size)
sizes = (codes "none", NoRows) ∷ (codes "small", Small) ∷ (codes "medium", Medium) ∷ (codes "large", Large) ∷ []

abbrev pub caches_met : (state : State) (words : List (List ℕ)) → Result State LineRefusal
caches_met s ws = name_at (named sizes) ws 2 >>= (λ z. no_word_at ws 3 >>= (λ _. Ok (with_header s PolicyDue (record s.trace.header { size = z }))))

-- the words for a policy
pub data PolicyWord : Type 0 where
  lru : PolicyWord
  fifo : PolicyWord
  random : PolicyWord

abbrev pub policies : List (List ℕ × PolicyWord)
policies = (codes "lru", lru) ∷ (codes "fifo", fifo) ∷ (codes "random", random) ∷ []

-- the policy of a line with such a word: behind `random` stands the number with which the draws begin
abbrev pub policy_by : (words : List (List ℕ)) (word : PolicyWord) → Result Policy LineRefusal
policy_by ws lru = no_word_at ws 3 >>= (λ _. Ok Lru)
policy_by ws fifo = no_word_at ws 3 >>= (λ _. Ok Fifo)
policy_by ws random = number_at ws 3 >>= (λ start. no_word_at ws 4 >>= (λ _. Ok (Random start)))

abbrev pub policy_met : (state : State) (words : List (List ℕ)) → Result State LineRefusal
policy_met s ws =
    name_at (named policies) ws 2 >>= (λ word. policy_by ws word >>= (λ p. Ok (with_header s Events (record s.trace.header { policy = p }))))

-- a `memory` line, or `caches`
abbrev pub ranges_met : (state : State) (first : List ℕ) (words : List (List ℕ)) → Result State LineRefusal
ranges_met s w ws =
    if bytes_eq w (codes "memory") then (if nat_le most_ranges (length s.trace.header.ranges) then Err TooMany else range_met s ws)
    else (if bytes_eq w (codes "caches") then caches_met s ws else Err NoHeader)

-- EVENTS

abbrev pub with_event : (state : State) (event : Event) → State
with_event s e = record s { trace = record s.trace { events = s.trace.events ++ e ∷ [] } }

-- `end`, or an event
abbrev pub body_met : (state : State) (first : List ℕ) (words : List (List ℕ)) → Result State LineRefusal
body_met s w ws =
    if bytes_eq w (codes "end") then no_word_at ws 2 >>= (λ _. Ok (record s { phase = Ended }))
    else (if nat_le most_events (length s.trace.events) then Err TooMany else event_of s.trace.header ws >>= (λ e. Ok (with_event s e)))

-- LINES

-- a line that has words, the first of which is given
abbrev pub met : (phase : Phase) (state : State) (first : List ℕ) (words : List (List ℕ)) → Result State LineRefusal
met Cores s w ws = if bytes_eq w (codes "cores") then cores_met s ws else Err NoHeader
met Ranges s w ws = ranges_met s w ws
met PolicyDue s w ws = if bytes_eq w (codes "policy") then policy_met s ws else Err NoHeader
met Events s w ws = body_met s w ws
met Ended s w ws = Err AfterEnd

-- a line without words, and one whose first word begins with `#`, is skipped
abbrev pub words_met : (state : State) (words : List (List ℕ)) → Result State LineRefusal
words_met s [] = Ok s
words_met s (w ∷ ws) = if bytes_eq (take 1 w) (codes "#") then Ok s else met s.phase s w (w ∷ ws)

abbrev pub most_line : ℕ
most_line = 200

-- one byte 0x0d at a line's end belongs to it
abbrev pub without_return : (line : List ℕ) → List ℕ
without_return [] = []
without_return (b ∷ []) = if b == 0x0d then [] else b ∷ []
without_return (b ∷ c ∷ line) = b ∷ without_return (c ∷ line)

-- a line without its end
abbrev pub line_met : (state : State) (line : List ℕ) → Result State LineRefusal
line_met s line = if not (list_all is_text line) then Err NotText else (if nat_lt most_line (length line) then Err LongLine else words_met s (words_of line))

-- the refusal of a line, with its number
abbrev pub refused_in : (number : ℕ) (why : LineRefusal) → TraceRefusal
refused_in n NotText = refusal.NotText n
refused_in n LongLine = refusal.LongLine n
refused_in n AfterEnd = refusal.AfterEnd n
refused_in n NoHeader = refusal.NoHeader
refused_in n TooMany = refusal.TooMany n
refused_in n (BadWord place) = refusal.BadWord n place
refused_in n (BadNumber place) = refusal.BadNumber n place
refused_in n (OutOfRange place) = refusal.OutOfRange n place
refused_in n (Unsupported at) = refusal.Unsupported n at
refused_in n NotAtEl1 = refusal.NotAtEl1 n

-- the lines from a number on: the first refusal ends the reading
abbrev pub lines_met : (state : State) (number : ℕ) (lines : List (List ℕ)) → Result State TraceRefusal
lines_met s n [] = Ok s
lines_met s n (line ∷ lines) = elim (line_met s (without_return line)) [ Ok t ↦ lines_met t (n + 1) lines | Err why ↦ Err (refused_in n why) ]

-- the end of the text
abbrev pub ended_in : (phase : Phase) (state : State) → Result Parts TraceRefusal
ended_in Cores s = Err refusal.NoHeader
ended_in Ranges s = Err refusal.NoHeader
ended_in PolicyDue s = Err refusal.NoHeader
ended_in Events s = Err refusal.NoEnd
ended_in Ended s = Ok s.trace

abbrev pub then_ended : (read : Result State TraceRefusal) → Result Parts TraceRefusal
then_ended (Ok s) = ended_in s.phase s
then_ended (Err why) = Err why

-- 16 MiB
abbrev pub most_text : ℕ
most_text = 2 ^ 24

-- the trace that a text is, or its first refusal
abbrev pub trace_of : (text : List ℕ) → Result Parts TraceRefusal
trace_of text = if nat_lt most_text (length text) then Err (refusal.TooLarge (length text)) else then_ended (lines_met no_lines 1 (slice_split is_end text))
