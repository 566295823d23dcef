-- Each line keeps the limits of a trace.
use Rattle.std.proofs.Common.{◌≡◌, ℕ, ◌+◌, ◌<◌, ◌≤◌, Bool, true, false, not, ◌&&◌, cond, List, [], ◌∷◌, ◌++◌, length}
use Rattle.std.proofs.Common.{Option, Some, None, Result, Ok, Err, IfOk, refl, sym, subst, arith, codes, append_assoc, append-nil, length-append, ◌^◌}
use Rattle.std.specs.Prelude.{nat_lt, nat_le, bytes_eq, take}
use Rattle.std.specs.List.{list_any, list_all}
use Rattle.std.proofs.lemmas.Bool.{and_parts, ltb-true, leb-true, leb-false, not-true, both_ways}
use Rattle.std.proofs.lemmas.List.Elements.{All-nil, All-same, All-push}
use Rattle.sysregs.specs.declared.regs.Op.{Op}
use Rattle.sysregs.specs.declared.regs.Field.{Field}
use Rattle.sysregs.specs.declared.regs.Reg.{Reg}
use Rattle.sysregs.specs.Refused.{msr_refused_field}
use Rattle.trails.specs.declared.event.Event.{Event}
use Rattle.trails.specs.declared.outcome.Access.{Access}
use Rattle.trails.specs.declared.event.Event.TheVariants.{Msr, Tlbi}
use Rattle.trace_lang.specs.declared.refusals.Phase.{Phase}
use Rattle.trace_lang.specs.declared.refusals.Phase.TheVariants.{Cores, Ranges, Policy as PolicyDue, Events, Ended}
use Rattle.trace_lang.specs.declared.refusals.LineRefusal.{LineRefusal}
use Rattle.trace_lang.specs.declared.refusals.LineRefusal.TheVariants.{NotText, LongLine, OutOfRange, NotAtEl1, TooMany}
use Rattle.trace_lang.specs.declared.refusals.TraceRefusal.{TraceRefusal}
use Rattle.sysregs.specs.Ops.{form_of, has_operand}
use Rattle.permissions.specs.AccessNames.{el_of, kind_of}
use Rattle.phys_mem.specs.Memory.{is_aligned}
use Rattle.phys_mem.specs.Ranges.{share_byte, bytes_of}
use Rattle.trace_lang.specs.Traces.{Header, Parts, IsTrace, RangeFits, RangesFitBehind, EventFits, is_within}
use Rattle.trace_lang.specs.Traces.{may_issue, most_cores, most_ranges, most_events, most_memory}
use Rattle.texts.specs.Results.{◌>>=◌}
use Rattle.trace_lang.specs.Words.{in_range, number_at, name_at, no_word_at, named, words_of, is_text}
use Rattle.trace_lang.specs.Events.{Verb, store, msr, settle, isb, tlbi, dsb, deliver, access, prefetch, event_of, event_by, core_at, place_at}
use Rattle.trace_lang.specs.Events.{operand_at, access_at, pan_at, supported_by, verbs, reg_names, op_names, origins, barriers}
use Rattle.trace_lang.specs.Lines.{State, no_lines, with_header, with_event, cores_met, is_base, is_size, range_met, caches_met, policy_met, ranges_met}
use Rattle.trace_lang.specs.Lines.{body_met, met, words_met, line_met, without_return, lines_met, refused_in, most_line, sizes, policies, policy_by}
use Rattle.trace_lang.specs.Limits.{KeepsLimits, KeepsLimitsIn}

-- WHAT HOLDS OF EACH VALUE

-- a fact of the first value, and from it one of what follows
pub then_with : {A B : Type 0} (P : A → Type 0) (Q : B → Type 0) (r : Result A LineRefusal) (f : A → Result B LineRefusal) → IfOk r P →
    ((x : A) → P x → IfOk (f x) Q) → IfOk (r >>= f) Q
then_with P Q (Ok x) f h k = k x h
then_with P Q (Err e) f h k = tt

pub then_any : {A B : Type 0} (Q : B → Type 0) (r : Result A LineRefusal) (f : A → Result B LineRefusal) → ((x : A) → IfOk (f x) Q) → IfOk (r >>= f) Q
then_any Q (Ok x) f k = k x
then_any Q (Err e) f k = tt

pub either : {B E : Type 0} (Q : B → Type 0) (b : Bool) (r s : Result B E) → (b ≡ true → IfOk r Q) → (b ≡ false → IfOk s Q)
    → IfOk (cond b r s) Q
either Q true r s h k = h refl
either Q false r s h k = k refl

-- a number that passes a test, and what follows from the test
pub then_passes : {B : Type 0} (Q : B → Type 0) (place : ℕ) (passes : Bool) (n : ℕ) (f : ℕ → Result B LineRefusal)
    → (passes ≡ true → IfOk (f n) Q) →
    IfOk (in_range place passes n >>= f) Q
then_passes Q place true n f k = k refl
then_passes Q place false n f k = tt

passes : (P : ℕ → Type 0) (place : ℕ) (test : Bool) (n : ℕ) → (test ≡ true → P n) → IfOk (in_range place test n) P
passes P place test n h = either P test (Ok n) (Err (OutOfRange place)) h (λ _. tt)

-- EVENTS

core_fits : (h : Header) (ws : List (List ℕ)) → IfOk (core_at h ws) (λ c. c < h.cores)
core_fits h ws = then_any (λ c. c < h.cores) (number_at ws 2) _ (λ c. passes (λ c. c < h.cores) 2 (nat_lt c h.cores) c (ltb-true c h.cores))

abbrev PlaceFits : (h : Header) (place : ℕ) → Type 0
PlaceFits h p = (is_aligned p ≡ true) × (is_within h.ranges p ≡ true)

place_fits : (h : Header) (ws : List (List ℕ)) → IfOk (place_at h ws) (PlaceFits h)
place_fits h ws = then_any (PlaceFits h) (number_at ws 3) _ (λ p.
    passes (PlaceFits h) 3 (is_aligned p && is_within h.ranges p) p (and_parts (is_aligned p) (is_within h.ranges p)))

abbrev OperandFits : (op : Op) (operand : ℕ) → Type 0
OperandFits op n = has_operand (form_of op).scope ≡ false → n ≡ 0

operand_fits : (op : Op) (ws : List (List ℕ)) → IfOk (operand_at op ws) (OperandFits op)
operand_fits op ws =
    either (OperandFits op) (has_operand (form_of op).scope) _ _
    (λ t. then_any (OperandFits op) (number_at ws 5) _ (λ n.
    then_any (OperandFits op) (no_word_at ws 6) _ (λ _ f. absurd (both_ways (has_operand (form_of op).scope) f t))))
    (λ f. then_any (OperandFits op) (no_word_at ws 5) _ (λ _ _. refl))

pub supported : (P : Event → Type 0) (reg : Reg) (field : Option Field) (e : Event) → (field ≡ None → P e) → IfOk (supported_by reg field e) P
supported P reg None e h = h refl
supported P reg (Some f) e h = tt

-- an access is read with PAN clear
abbrev IsClear : Access → Type 0
IsClear a = a.pan ≡ false

access_clear : (ws : List (List ℕ)) → IfOk (access_at ws) IsClear
access_clear ws =
    then_any IsClear (name_at el_of ws 3) _ (λ el. then_any IsClear (name_at kind_of ws 4) _ (λ kind. then_any IsClear (number_at ws 5) _ (λ va. refl)))

event_by_fits : (h : Header) (ws : List (List ℕ)) (c : ℕ) (verb : Verb) → c < h.cores → IfOk (event_by h ws c verb) (EventFits h)
event_by_fits h ws c store l =
    then_with (PlaceFits h) (EventFits h) (place_at h ws) _ (place_fits h ws) (λ p q.
    then_any (EventFits h) (number_at ws 4) _ (λ v. then_any (EventFits h) (no_word_at ws 5) _ (λ _. (l, q))))
event_by_fits h ws c msr l =
    then_any (EventFits h) (name_at (named reg_names) ws 3) _ (λ reg.
    then_any (EventFits h) (number_at ws 4) _ (λ v. then_any (EventFits h) (no_word_at ws 5) _ (λ _.
    supported (EventFits h) reg (msr_refused_field reg v) (Msr c reg v) (λ e. (l, e)))))
event_by_fits h ws c settle l = then_any (EventFits h) (no_word_at ws 3) _ (λ _. (l, tt))
event_by_fits h ws c isb l = then_any (EventFits h) (no_word_at ws 3) _ (λ _. (l, tt))
event_by_fits h ws c tlbi l =
    then_any (EventFits h) (name_at (named origins) ws 3) _ (λ from. then_any (EventFits h) (name_at (named op_names) ws 4) _ (λ (o : Op × Bool).
    then_with (OperandFits o.0) (EventFits h) (operand_at o.0 ws) _ (operand_fits o.0 ws) (λ n q.
    either (EventFits h) (may_issue from o.0) (Ok (Tlbi c from o.0 o.1 n)) (Err NotAtEl1) (λ m. (l, (m, q))) (λ _. tt))))
event_by_fits h ws c dsb l = then_any (EventFits h) (name_at (named barriers) ws 3) _ (λ k. then_any (EventFits h) (no_word_at ws 4) _ (λ _. (l, tt)))
event_by_fits h ws c deliver l = then_any (EventFits h) (no_word_at ws 3) _ (λ _. (l, tt))
event_by_fits h ws c access l = then_any (EventFits h) (access_at ws) _ (λ a. then_any (EventFits h) (pan_at ws) _ (λ pan. (l, tt)))
event_by_fits h ws c prefetch l =
    then_with IsClear (EventFits h) (access_at ws) _ (access_clear ws) (λ a q. then_any (EventFits h) (no_word_at ws 6) _ (λ _. (l, q)))

event_fits : (h : Header) (ws : List (List ℕ)) → IfOk (event_of h ws) (EventFits h)
event_fits h ws =
    then_any (EventFits h) (name_at (named verbs) ws 1) _ (λ verb.
    then_with (λ c. c < h.cores) (EventFits h) (core_at h ws) _ (core_fits h ws) (λ c l. event_by_fits h ws c verb l))

-- THE HEADER

abbrev trace : (header : Header) (events : List Event) → Parts
trace h es = record { header = h; events = es }

-- a header that keeps the limits
record IsHeader (h : Header) : Type 0 where
  some_cores : 1 ≤ h.cores
  cores : h.cores ≤ most_cores
  count : length h.ranges ≤ most_ranges
  ranges : RangesFitBehind [] h.ranges

header_in : (t : Parts) → IsTrace t → IsHeader t.header
header_in t h = record { some_cores = h.some_cores; cores = h.cores; count = h.count; ranges = h.ranges }

without_events : (h : Header) (es : List Event) → es ≡ [] → IsHeader h → IsTrace (trace h es)
without_events h es e k = record {
  some_cores = k.some_cores;
  cores = k.cores;
  count = k.count;
  ranges = k.ranges;
  events = rw e (omega arith);
  each = All-same (EventFits h) es [] e (All-nil (EventFits h));
}

-- the state behind a line of the header
renewed : (s : State) (h : Header) → s.trace.events ≡ [] → IsHeader h → KeepsLimits (with_header s Ranges h)
renewed s h e k = (without_events h s.trace.events e k, e)

cores_keeps : (s : State) (ws : List (List ℕ)) → s.trace.header.ranges ≡ [] → s.trace.events ≡ [] → IfOk (cores_met s ws) KeepsLimits
cores_keeps s ws r e =
    then_any KeepsLimits (number_at ws 2) _ (λ n.
    then_passes KeepsLimits 2 (nat_le 1 n && nat_le n most_cores) n _ (λ t. then_any KeepsLimits (no_word_at ws 3) _ (λ _.
    let (low, high) = and_parts (nat_le 1 n) (nat_le n most_cores) t in
    renewed s (record s.trace.header { cores = n }) e record {
      some_cores = leb-true 1 n low;
      cores = leb-true n most_cores high;
      count = rw r (omega arith);
      ranges = subst (RangesFitBehind []) (sym r) tt;
    })))

one_more : (earlier ranges : List (ℕ × ℕ)) (r : ℕ × ℕ) → RangesFitBehind earlier ranges → RangeFits (earlier ++ ranges) r →
    RangesFitBehind earlier (ranges ++ r ∷ [])
one_more earlier [] r h k = (subst (λ rs. RangeFits rs r) (append-nil earlier) k, tt)
one_more earlier (x ∷ ranges) r h k =
    (h.0, one_more (earlier ++ x ∷ []) ranges r h.1 (subst (λ rs. RangeFits rs r) (sym (append_assoc earlier (x ∷ []) ranges)) k))

range_fits : (earlier : List (ℕ × ℕ)) (b n : ℕ) → is_base b ≡ true → is_size earlier b n ≡ true
    → not (list_any (share_byte (b, n)) earlier) ≡ true →
    RangeFits earlier (b, n)
range_fits earlier b n base size apart =
    let (aligned, below) = and_parts (is_aligned b) (nat_lt b (2 ^ 52)) base in
    let (rest, sum) = and_parts (is_aligned n && nat_lt 0 n && nat_le (b + n) (2 ^ 52)) (nat_le (bytes_of earlier + n) most_memory) size in
    record {
      range = grind (arith, aligned, rest);
      sum = leb-true (bytes_of earlier + n) most_memory sum;
      apart = not-true (list_any (share_byte (b, n)) earlier) apart;
    }

longer : (h : Header) (r : ℕ × ℕ) → IsHeader h → length h.ranges < most_ranges → RangeFits h.ranges r
    → IsHeader (record h { ranges = h.ranges ++ r ∷ [] })
longer h r k l f = record {
  some_cores = k.some_cores;
  cores = k.cores;
  count = rw (length-append h.ranges (r ∷ [])) (omega (arith, l));
  ranges = one_more [] h.ranges r k.ranges f;
}

range_keeps : (s : State) (ws : List (List ℕ)) → IsTrace s.trace → s.trace.events ≡ [] → length s.trace.header.ranges < most_ranges →
    IfOk (range_met s ws) KeepsLimits
range_keeps s ws t e l =
    let h = s.trace.header in
    then_any KeepsLimits (number_at ws 2) _ (λ b. then_passes KeepsLimits 2 (is_base b) b _ (λ base.
    then_any KeepsLimits (number_at ws 3) _ (λ n. then_passes KeepsLimits 3 (is_size h.ranges b n) n _ (λ size.
    then_any KeepsLimits (no_word_at ws 4) _ (λ _. then_passes KeepsLimits 2 (not (list_any (share_byte (b, n)) h.ranges)) b _ (λ apart.
    renewed s (record h { ranges = h.ranges ++ (b, n) ∷ [] }) e (longer h (b, n) (header_in s.trace t) l (range_fits h.ranges b n base size apart))))))))

caches_keeps : (s : State) (ws : List (List ℕ)) → IsTrace s.trace → s.trace.events ≡ [] → IfOk (caches_met s ws) KeepsLimits
caches_keeps s ws t e =
    then_any KeepsLimits (name_at (named sizes) ws 2) _ (λ z.
    then_any KeepsLimits (no_word_at ws 3) (λ _. Ok (with_header s PolicyDue (record s.trace.header { size = z }))) (λ _. (
      without_events (record s.trace.header { size = z }) s.trace.events e record {
        some_cores = t.some_cores;
        cores = t.cores;
        count = t.count;
        ranges = t.ranges;
      },
      e,
    )))

policy_keeps : (s : State) (ws : List (List ℕ)) → IsTrace s.trace → s.trace.events ≡ [] → IfOk (policy_met s ws) KeepsLimits
policy_keeps s ws t e =
    then_any KeepsLimits (name_at (named policies) ws 2) _ (λ word.
    then_any KeepsLimits (policy_by ws word) (λ p. Ok (with_header s Events (record s.trace.header { policy = p }))) (λ p.
    without_events (record s.trace.header { policy = p }) s.trace.events e record {
      some_cores = t.some_cores;
      cores = t.cores;
      count = t.count;
      ranges = t.ranges;
    }))

ranges_keep : (s : State) (w : List ℕ) (ws : List (List ℕ)) → IsTrace s.trace → s.trace.events ≡ [] → IfOk (ranges_met s w ws) KeepsLimits
ranges_keep s w ws t e =
    either KeepsLimits (bytes_eq w (codes "memory")) _ _
    (λ _. either KeepsLimits (nat_le most_ranges (length s.trace.header.ranges)) (Err TooMany) (range_met s ws) (λ _. tt)
    (λ f. range_keeps s ws t e (leb-false most_ranges (length s.trace.header.ranges) f)))
    (λ _. either KeepsLimits (bytes_eq w (codes "caches")) (caches_met s ws) _ (λ _. caches_keeps s ws t e) (λ _. tt))

-- LINES

with_one : (t : Parts) (e : Event) → IsTrace t → length t.events < most_events → EventFits t.header e
    → IsTrace (record t { events = t.events ++ e ∷ [] })
with_one t e h l f = record {
  some_cores = h.some_cores;
  cores = h.cores;
  count = h.count;
  ranges = h.ranges;
  events = rw (length-append t.events (e ∷ [])) (omega (arith, l));
  each = All-push (EventFits t.header) t.events e h.each f;
}

body_keeps : (s : State) (w : List ℕ) (ws : List (List ℕ)) → s.phase ≡ Events → IsTrace s.trace → IfOk (body_met s w ws) KeepsLimits
body_keeps s w ws p t =
    either KeepsLimits (bytes_eq w (codes "end")) _ _
    (λ _. then_any KeepsLimits (no_word_at ws 2) _ (λ _. t))
    (λ _. either KeepsLimits (nat_le most_events (length s.trace.events)) (Err TooMany) _ (λ _. tt) (λ f.
    then_with (EventFits s.trace.header) KeepsLimits (event_of s.trace.header ws) _ (event_fits s.trace.header ws) (λ e q.
    subst (λ phase. KeepsLimitsIn phase (with_event s e).trace) (sym p) (with_one s.trace e t (leb-false most_events (length s.trace.events) f) q))))

met_keeps : (phase : Phase) (s : State) (w : List ℕ) (ws : List (List ℕ)) → s.phase ≡ phase → KeepsLimitsIn phase s.trace
    → IfOk (met phase s w ws) KeepsLimits
met_keeps Cores s w ws p h = either KeepsLimits (bytes_eq w (codes "cores")) (cores_met s ws) _ (λ _. cores_keeps s ws h.0 h.1) (λ _. tt)
met_keeps Ranges s w ws p h = ranges_keep s w ws h.0 h.1
met_keeps PolicyDue s w ws p h = either KeepsLimits (bytes_eq w (codes "policy")) (policy_met s ws) _ (λ _. policy_keeps s ws h.0 h.1) (λ _. tt)
met_keeps Events s w ws p h = body_keeps s w ws p h
met_keeps Ended s w ws p h = tt

words_keep : (s : State) (words : List (List ℕ)) → KeepsLimits s → IfOk (words_met s words) KeepsLimits
words_keep s [] h = h
words_keep s (w ∷ ws) h = either KeepsLimits (bytes_eq (take 1 w) (codes "#")) (Ok s) _ (λ _. h) (λ _. met_keeps s.phase s w (w ∷ ws) refl h)

line_keeps : (s : State) (line : List ℕ) → KeepsLimits s → IfOk (line_met s line) KeepsLimits
line_keeps s line h =
    either KeepsLimits (not (list_all is_text line)) (Err NotText) _ (λ _. tt)
    (λ _. either KeepsLimits (nat_lt most_line (length line)) (Err LongLine) (words_met s (words_of line)) (λ _. tt) (λ _. words_keep s (words_of line) h))

-- the lines behind one
goes_on : (n : ℕ) (lines : List (List ℕ)) (r : Result State LineRefusal) → IfOk r KeepsLimits →
    ((t : State) → KeepsLimits t → IfOk (lines_met t (n + 1) lines) KeepsLimits) →
    IfOk (elim r as (λ _. Result State TraceRefusal) [ Ok t ↦ lines_met t (n + 1) lines | Err why ↦ Err (refused_in n why) ]) KeepsLimits
goes_on n lines (Ok t) h k = k t h
goes_on n lines (Err why) h k = tt

lines_keep : (s : State) (n : ℕ) (lines : List (List ℕ)) → KeepsLimits s → IfOk (lines_met s n lines) KeepsLimits
lines_keep s n [] h = h
lines_keep s n (line ∷ lines) h =
    goes_on n lines (line_met s (without_return line)) (line_keeps s (without_return line) h) (λ t k. lines_keep t (n + 1) lines k)

-- a state that lines lead to keeps the limits
pub reached_keeps : (n : ℕ) (lines : List (List ℕ)) (s : State) → lines_met no_lines n lines ≡ Ok s → KeepsLimits s
reached_keeps n lines s e = let h = lines_keep no_lines n lines (refl, refl) in subst (λ r. IfOk r KeepsLimits) e h
