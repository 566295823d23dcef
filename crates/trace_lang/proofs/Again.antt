-- The canonical text of a trace is read as that trace.
use Rattle.std.proofs.Common.{◌≡◌, ℕ, ◌+◌, ◌*◌, ◌<◌, ◌≤◌, ◌^◌, true, false, not, ◌&&◌, List, [], ◌∷◌, ◌++◌, length}
use Rattle.std.proofs.Common.{flat_map, Result, Ok, Err, refl, sym, ◌∙◌, ap, arith, codes, append_assoc, append-nil, length-append}
use Rattle.std.specs.Prelude.{decimal, nat_lt, nat_le, bytes_eq, take, All}
use Rattle.std.specs.List.{slice_split, list_any}
use Rattle.std.proofs.lemmas.Bool.{and_from, cond-false, not_from_false, lt-leb, le-leb, le-ltb}
use Rattle.std.proofs.lemmas.List.Elements.{All-head, All-tail}
use Rattle.texts.specs.Numbers.{number_of}
use Rattle.texts.specs.Texts.{hex_text}
use Rattle.trails.specs.declared.event.Event.{Event}
use Rattle.trace_lang.specs.declared.refusals.Phase.{Phase}
use Rattle.trace_lang.specs.declared.refusals.Phase.TheVariants.{Ranges, Policy as PolicyDue, Events, Ended}
use Rattle.trace_lang.specs.declared.refusals.LineRefusal.{LineRefusal}
use Rattle.trace_lang.specs.declared.refusals.LineRefusal.TheVariants.{TooMany}
use Rattle.trace_lang.specs.declared.refusals.TraceRefusal.TheVariants as refusal
use Rattle.trace_lang.specs.declared.header.Size.{Size}
use Rattle.trace_lang.specs.declared.header.Size.TheVariants.{NoRows, Small, Medium, Large}
use Rattle.trace_lang.specs.declared.header.Policy.{Policy}
use Rattle.trace_lang.specs.declared.header.Policy.TheVariants.{Lru, Fifo, Random}
use Rattle.phys_mem.specs.Memory.{is_aligned}
use Rattle.phys_mem.specs.Ranges.{is_range, share_byte, bytes_of}
use Rattle.trace_lang.specs.Traces.{Header, Parts, parts_of, IsTrace, RangeFits, RangesFitBehind, most_cores, most_ranges, most_events, most_memory}
use Rattle.texts.specs.Results.{◌>>=◌}
use Rattle.trace_lang.specs.Words.{is_end, in_range, number_or, no_word_at}
use Rattle.trace_lang.specs.Events.{event_of}
use Rattle.trace_lang.specs.Lines.{State, no_lines, with_event, is_base, is_size, words_met, range_met, body_met, lines_met, then_ended, most_text, trace_of}
use Rattle.trace_lang.specs.Limits.{HasStart, HasWords}
use Rattle.trace_lang.specs.Canonical.{line_of, range_words, size_text, policy_words, event_words, text_of}
use Rattle.trace_lang.proofs.Spaced.{AreWords, line_room, next_line}
use Rattle.trace_lang.proofs.Numerals.{hex_word, decimal_word}
use Rattle.trace_lang.proofs.Reread.{go, within, hex_at, decimal_at, IsBack, event_back, event_are_words, few_words, begins}

-- MANY LINES

-- the line of an element: its words, and the states before it and behind it
record IsLine {X : Type 0} (words : X → List (List ℕ)) (state : List X → State) (done : List X) (x : X) : Type 0 where
  are : AreWords (words x)
  few : length (words x) ≤ 6
  met : words_met (state done) (words x) ≡ Ok (state (done ++ x ∷ []))

-- each of them is one behind those before it
abbrev AreLines : {X : Type 0} (words : X → List (List ℕ)) (state : List X → State) (done xs : List X) → Type 0
AreLines words state done [] = Unit {0}
AreLines words state done (x ∷ xs) = IsLine words state done x × AreLines words state (done ++ x ∷ []) xs

abbrev lines_of : {X : Type 0} (words : X → List (List ℕ)) (xs : List X) → List ℕ
lines_of words xs = flat_map (λ x. line_of (words x)) xs

next_lines : {X : Type 0} (words : X → List (List ℕ)) (state : List X → State) (done xs : List X) (n : ℕ) (rest : List ℕ)
    → AreLines words state done xs →
    lines_met (state done) n (slice_split is_end (lines_of words xs ++ rest)) ≡ lines_met (state (done ++ xs)) (n + length xs) (slice_split is_end rest)
next_lines words state done [] n rest h =
    ap (λ d. lines_met (state d) n (slice_split is_end rest)) (sym (append-nil done))
    ∙ ap (λ m. lines_met (state (done ++ [])) m (slice_split is_end rest)) (omega arith)
next_lines words state done (x ∷ xs) n rest h =
    ap (λ l. lines_met (state done) n (slice_split is_end l)) (append_assoc (line_of (words x)) (lines_of words xs) rest)
    ∙ next_line (state done) (state (done ++ x ∷ [])) n (words x) (lines_of words xs ++ rest) h.0.are h.0.few h.0.met
    ∙ next_lines words state (done ++ x ∷ []) xs (n + 1) rest h.1
    ∙ ap (λ d. lines_met (state d) ((n + 1) + length xs) (slice_split is_end rest)) (append_assoc done (x ∷ []) xs)
    ∙ ap (λ m. lines_met (state (done ++ x ∷ xs)) m (slice_split is_end rest)) (omega arith)

lines_room : {X : Type 0} (words : X → List (List ℕ)) (state : List X → State) (done xs : List X) → AreLines words state done xs →
    length (lines_of words xs) ≤ 127 * length xs
lines_room words state done [] h = omega arith
lines_room words state done (x ∷ xs) h =
    let a = length-append (line_of (words x)) (lines_of words xs) in
    let b = line_room (words x) h.0.are h.0.few in
    let c = lines_room words state (done ++ x ∷ []) xs h.1 in
    omega (arith, a, b, c)

-- RANGES

abbrev header : (cores : ℕ) (ranges : List (ℕ × ℕ)) → Header
header c rs = record { cores = c; ranges = rs; size = NoRows; policy = Fifo }

abbrev state_in : (phase : Phase) (h : Header) (es : List Event) → State
state_in p h es = record { phase = p; trace = record { header = h; events = es } }

abbrev in_ranges : (cores : ℕ) (ranges : List (ℕ × ℕ)) → State
in_ranges c rs = state_in Ranges (header c rs) []

-- what a range's test says
range_parts : (r : ℕ × ℕ) → is_range r ≡ true → (is_base r.0 ≡ true) × ((is_aligned r.1 && nat_lt 0 r.1 && nat_le (r.0 + r.1) (2 ^ 52)) ≡ true)
    × (r.0 + r.1 ≤ 2 ^ 52)
range_parts r h = (grind (arith, h), grind (arith, h), grind (arith, h))

fits_base : (done : List (ℕ × ℕ)) (r : ℕ × ℕ) → RangeFits done r → is_base r.0 ≡ true
fits_base done r f = (range_parts r f.range).0

fits_size : (done : List (ℕ × ℕ)) (r : ℕ × ℕ) → RangeFits done r → is_size done r.0 r.1 ≡ true
fits_size done r f =
    and_from (is_aligned r.1 && nat_lt 0 r.1 && nat_le (r.0 + r.1) (2 ^ 52)) (nat_le (bytes_of done + r.1) most_memory)
    (range_parts r f.range).1 (le-leb (bytes_of done + r.1) most_memory f.sum)

base_word : (done : List (ℕ × ℕ)) (r : ℕ × ℕ) → RangeFits done r → r.0 < 2 ^ 64
base_word done r f = let l = (range_parts r f.range).2 in omega (arith, l)

size_word : (done : List (ℕ × ℕ)) (r : ℕ × ℕ) → RangeFits done r → r.1 < 2 ^ 64
size_word done r f = let l = (range_parts r f.range).2 in omega (arith, l)

range_back : (c : ℕ) (done : List (ℕ × ℕ)) (r : ℕ × ℕ) → RangeFits done r → range_met (in_ranges c done)
    (range_words r) ≡ Ok (in_ranges c (done ++ r ∷ []))
range_back c done r f =
    let ws = range_words r in
    let whole : (b n : ℕ) → Result State LineRefusal = λ b n. Ok (in_ranges c (done ++ (b, n) ∷ [])) in
    let apart : (b n : ℕ) → Result State LineRefusal =
    λ b n. no_word_at ws 4 >>= (λ _. in_range 2 (not (list_any (share_byte (b, n)) done)) b >>= (λ _. whole b n)) in
    let second : (b : ℕ) → Result State LineRefusal = λ b. number_or 3 (number_of (hex_text r.1)) >>=
    (λ n. in_range 3 (is_size done b n) n >>= apart b) in
    go (number_or 2 (number_of (hex_text r.0))) r.0 (λ b. in_range 2 (is_base b) b >>= second) (hex_at 2 r.0 (base_word done r f))
    ∙ go (in_range 2 (is_base r.0) r.0) r.0 second (within 2 (is_base r.0) r.0 (fits_base done r f))
    ∙ go (number_or 3 (number_of (hex_text r.1))) r.1 (λ n. in_range 3 (is_size done r.0 n) n >>= apart r.0) (hex_at 3 r.1 (size_word done r f))
    ∙ go (in_range 3 (is_size done r.0 r.1) r.1) r.1 (apart r.0) (within 3 (is_size done r.0 r.1) r.1 (fits_size done r f))
    ∙ go (in_range 2 (not (list_any (share_byte r) done)) r.0) r.0 (λ _. whole r.0 r.1)
    (within 2 (not (list_any (share_byte r) done)) r.0 (not_from_false (list_any (share_byte r) done) f.apart))

range_line : (c : ℕ) (done : List (ℕ × ℕ)) (r : ℕ × ℕ) → length done < most_ranges → RangeFits done r
    → IsLine range_words (in_ranges c) done r
range_line c done r l f = record {
  are = (refl, (hex_word r.0 (base_word done r f), (hex_word r.1 (size_word done r f), tt)));
  few = omega arith;
  met = cond-false (nat_le most_ranges (length done)) (Err TooMany) (range_met (in_ranges c done) (range_words r)) (lt-leb most_ranges (length done) l)
      ∙ range_back c done r f;
}

range_lines : (c : ℕ) (done ranges : List (ℕ × ℕ)) → length done + length ranges ≤ most_ranges → RangesFitBehind done ranges →
    AreLines range_words (in_ranges c) done ranges
range_lines c done [] l f = tt
range_lines c done (r ∷ ranges) l f =
    (range_line c done r (omega (arith, l)) f.0, range_lines c (done ++ r ∷ []) ranges (let a = length-append done (r ∷ []) in omega (arith, a, l)) f.1)

-- EVENTS

abbrev in_events : (h : Header) (events : List Event) → State
in_events h es = state_in Events h es

body_back : (h : Header) (done : List Event) (e : Event) (v : List ℕ) (ws : List (List ℕ)) → bytes_eq (take 1 v) (codes "#") ≡ false →
    bytes_eq v (codes "end") ≡ false →
    length done < most_events → event_of h (v ∷ ws) ≡ Ok e → words_met (in_events h done) (v ∷ ws) ≡ Ok (in_events h (done ++ e ∷ []))
body_back h done e v ws a b l k =
    cond-false (bytes_eq (take 1 v) (codes "#")) (Ok (in_events h done)) (body_met (in_events h done) v (v ∷ ws)) a
    ∙ cond-false (bytes_eq v (codes "end")) _ _ b
    ∙ cond-false (nat_le most_events (length done)) (Err TooMany) _ (lt-leb most_events (length done) l)
    ∙ go (event_of h (v ∷ ws)) e (λ e. Ok (with_event (in_events h done) e)) k

event_line : (h : Header) (done : List Event) (e : Event) → h.cores ≤ 8 → length done < most_events → IsBack h e
    → IsLine event_words (in_events h) done e
event_line h done e m l b =
    let (v, ws, is, plain, more) = begins e in record {
      are = event_are_words h e m b.fits.0 b.words;
      few = few_words e;
      met = ap (words_met (in_events h done)) is ∙ body_back h done e v ws plain more l (ap (event_of h) (sym is) ∙ event_back h e m b);
    }

event_lines : (h : Header) (done events : List Event) → h.cores ≤ 8 → length done + length events ≤ most_events → All (IsBack h) events →
    AreLines event_words (in_events h) done events
event_lines h done [] m l b = tt
event_lines h done (e ∷ events) m l b = (
  event_line h done e m (omega (arith, l)) (All-head (IsBack h) e events b),
  event_lines h (done ++ e ∷ []) events m (let a = length-append done (e ∷ []) in omega (arith, a, l)) (All-tail (IsBack h) e events b),
)

-- THE TEXT

-- words of the lines that stand once
abbrev cores_words : (cores : ℕ) → List (List ℕ)
cores_words c = codes "cores" ∷ decimal c ∷ []

abbrev caches_words : (size : Size) → List (List ℕ)
caches_words z = codes "caches" ∷ size_text z ∷ []

abbrev policy_line : (policy : Policy) → List (List ℕ)
policy_line p = codes "policy" ∷ policy_words p

abbrev end_words : List (List ℕ)
end_words = codes "end" ∷ []

cores_back : (c : ℕ) → 1 ≤ c → c ≤ most_cores → words_met no_lines (cores_words c) ≡ Ok (in_ranges c [])
cores_back c l m =
    let whole : (n : ℕ) → Result State LineRefusal = λ n. no_word_at (cores_words c) 3 >>= (λ _. Ok (in_ranges n [])) in
    go (number_or 2 (number_of (decimal c))) c (λ n. in_range 2 (nat_le 1 n && nat_le n most_cores) n >>= whole) (decimal_at 2 c m)
    ∙ go (in_range 2 (nat_le 1 c && nat_le c most_cores) c) c whole
    (within 2 (nat_le 1 c && nat_le c most_cores) c (and_from (nat_le 1 c) (nat_le c most_cores) (le-leb 1 c l) (le-leb c most_cores m)))

abbrev sized : (cores : ℕ) (ranges : List (ℕ × ℕ)) (size : Size) → Header
sized c rs z = record (header c rs) { size = z }

abbrev headed : (cores : ℕ) (ranges : List (ℕ × ℕ)) (size : Size) (policy : Policy) → Header
headed c rs z p = record (sized c rs z) { policy = p }

caches_back : (c : ℕ) (rs : List (ℕ × ℕ)) (z : Size) → words_met (in_ranges c rs) (caches_words z) ≡ Ok (state_in PolicyDue (sized c rs z) [])
caches_back c rs NoRows = refl
caches_back c rs Small = refl
caches_back c rs Medium = refl
caches_back c rs Large = refl

caches_are : (z : Size) → AreWords (caches_words z)
caches_are NoRows = (refl, (refl, tt))
caches_are Small = (refl, (refl, tt))
caches_are Medium = (refl, (refl, tt))
caches_are Large = (refl, (refl, tt))

policy_back : (c : ℕ) (rs : List (ℕ × ℕ)) (z : Size) (p : Policy) → HasStart p
    → words_met (state_in PolicyDue (sized c rs z) []) (policy_line p) ≡ Ok (in_events (headed c rs z p) [])
policy_back c rs z Lru l = refl
policy_back c rs z Fifo l = refl
policy_back c rs z (Random start) l =
    let whole : ℕ → Result Policy LineRefusal = λ n. no_word_at (policy_line (Random start)) 4 >>= (λ _. Ok (Random n)) in
    ap (λ r. r >>= (λ p. Ok (in_events (headed c rs z p) []))) (go (number_or 3 (number_of (hex_text start))) start whole (hex_at 3 start l))

policy_are : (p : Policy) → HasStart p → AreWords (policy_line p)
policy_are Lru l = (refl, (refl, tt))
policy_are Fifo l = (refl, (refl, tt))
policy_are (Random start) l = (refl, (refl, (hex_word start l, tt)))

policy_few : (p : Policy) → length (policy_line p) ≤ 6
policy_few Lru = omega arith
policy_few Fifo = omega arith
policy_few (Random start) = omega arith

end_back : (h : Header) (es : List Event) → words_met (in_events h es) end_words ≡ Ok (state_in Ended h es)
end_back h es = refl

-- the text behind the header, behind its ranges, and behind its first line
abbrev events_text : (events : List Event) → List ℕ
events_text es = lines_of event_words es ++ codes "end\n"

abbrev caches_text : (size : Size) (policy : Policy) (events : List Event) → List ℕ
caches_text z p es = line_of (caches_words z) ++ (line_of (policy_line p) ++ events_text es)

abbrev whole_text : (cores : ℕ) (ranges : List (ℕ × ℕ)) (size : Size) (policy : Policy) (events : List Event) → List ℕ
whole_text c rs z p es = line_of (cores_words c) ++ (lines_of range_words rs ++ caches_text z p es)

regroup : (a r b p t : List ℕ) → (a ++ (r ++ (b ++ p))) ++ t ≡ a ++ (r ++ (b ++ (p ++ t)))
regroup a r b p t = append_assoc a (r ++ (b ++ p)) t ∙ ap (λ l. a ++ l) (append_assoc r (b ++ p) t ∙ ap (λ l. r ++ l) (append_assoc b p t))

text_is : (c : ℕ) (rs : List (ℕ × ℕ)) (z : Size) (p : Policy) (es : List Event) → text_of (parts_of c rs z p es) ≡ whole_text c rs z p es
text_is c rs z p es = regroup (line_of (cores_words c)) (lines_of range_words rs) (line_of (caches_words z)) (line_of (policy_line p)) (events_text es)

-- the lines of the header
header_back : (c : ℕ) (rs : List (ℕ × ℕ)) (z : Size) (p : Policy) (es : List Event) → 1 ≤ c → c ≤ most_cores → HasStart p
    → AreLines range_words (in_ranges c) [] rs →
    lines_met no_lines 1 (slice_split is_end (whole_text c rs z p es)) ≡ lines_met (in_events (headed c rs z p) []) (((2 + length rs) + 1) + 1)
    (slice_split is_end (events_text es))
header_back c rs z p es l m q r =
    next_line no_lines (in_ranges c []) 1 (cores_words c) (lines_of range_words rs ++ caches_text z p es) (refl, (decimal_word c m, tt)) (omega arith)
    (cores_back c l m)
    ∙ next_lines range_words (in_ranges c) [] rs 2 (caches_text z p es) r
    ∙ next_line (in_ranges c rs) (state_in PolicyDue (sized c rs z) []) (2 + length rs) (caches_words z) (line_of (policy_line p) ++ events_text es)
    (caches_are z) (omega arith) (caches_back c rs z)
    ∙ next_line (state_in PolicyDue (sized c rs z) []) (in_events (headed c rs z p) []) ((2 + length rs) + 1) (policy_line p) (events_text es)
    (policy_are p q) (policy_few p) (policy_back c rs z p q)

-- the lines of the events, and the end
events_back : (h : Header) (es : List Event) (n : ℕ) → AreLines event_words (in_events h) [] es →
    lines_met (in_events h []) n (slice_split is_end (events_text es)) ≡ Ok (state_in Ended h es)
events_back h es n r =
    next_lines event_words (in_events h) [] es n (codes "end\n") r
    ∙ next_line (in_events h es) (state_in Ended h es) (n + length es) end_words [] (refl, tt) (omega arith) (end_back h es)

text_room : (c : ℕ) (rs : List (ℕ × ℕ)) (z : Size) (p : Policy) (es : List Event) → c ≤ most_cores → length rs ≤ most_ranges
    → length es ≤ most_events → HasStart p → AreLines range_words (in_ranges c) [] rs →
    AreLines event_words (in_events (headed c rs z p)) [] es → length (whole_text c rs z p es) ≤ most_text
text_room c rs z p es m few many q r e =
    let a = length-append (line_of (cores_words c)) (lines_of range_words rs ++ caches_text z p es) in
    let b = length-append (lines_of range_words rs) (caches_text z p es) in
    let k = length-append (line_of (caches_words z)) (line_of (policy_line p) ++ events_text es) in
    let n = length-append (line_of (policy_line p)) (events_text es) in
    let d = length-append (lines_of event_words es) (codes "end\n") in
    let f = line_room (cores_words c) (refl, (decimal_word c m, tt)) (omega arith) in
    let u = line_room (caches_words z) (caches_are z) (omega arith) in
    let v = line_room (policy_line p) (policy_are p q) (policy_few p) in
    let g = lines_room range_words (in_ranges c) [] rs r in
    let i = lines_room event_words (in_events (headed c rs z p)) [] es e in
    omega (arith, a, b, k, n, d, f, u, v, g, i, few, many)

-- the events of a trace
all_back : (t : Parts) → IsTrace t → All HasWords t.events → All (IsBack t.header) t.events
all_back t h w = λ k d l. record { fits = h.each k d l; words = w k d l }

-- what is printed is read
pub text_back : (t : Parts) → IsTrace t → HasStart t.header.policy → All HasWords t.events → trace_of (text_of t) ≡ Ok t
text_back t h q w =
    let c = t.header.cores in
    let rs = t.header.ranges in
    let z = t.header.size in
    let p = t.header.policy in
    let es = t.events in
    let few = h.count in
    let many = h.events in
    let r = range_lines c [] rs (omega (arith, few)) h.ranges in
    let e = event_lines (headed c rs z p) [] es h.cores (omega (arith, many)) (all_back t h w) in
    ap trace_of (text_is c rs z p es)
    ∙ cond-false (nat_lt most_text (length (whole_text c rs z p es))) (Err (refusal.TooLarge (length (whole_text c rs z p es))))
    (then_ended (lines_met no_lines 1 (slice_split is_end (whole_text c rs z p es))))
    (le-ltb most_text (length (whole_text c rs z p es)) (text_room c rs z p es h.cores h.count h.events q r e))
    ∙ ap then_ended (header_back c rs z p es h.some_cores h.cores q r ∙ events_back (headed c rs z p) es (((2 + length rs) + 1) + 1) e)
