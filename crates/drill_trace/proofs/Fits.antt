-- The events of the drill fit its header.
use Rattle.std.proofs.Common.{◌≡◌, ℕ, zero, suc, ◌+◌, ◌<◌, Bool, true, false, cond, List, [], ◌∷◌, refl, arith}
use Rattle.std.proofs.Common.{length-append, Option, Some, None}
use Rattle.std.specs.Prelude.{◌&&◌, ◌==◌, ◌%◌, nat_lt, All}
use Rattle.std.specs.List.{list_all}
use Rattle.std.proofs.lemmas.Bool.{and_parts, ltb-true, eq-eqb, le-leb}
use Rattle.std.proofs.lemmas.List.Elements.{All-nil, All-cons, All-append}
use Rattle.sysregs.specs.declared.regs.Field.{Field}
use Rattle.sysregs.specs.Refused.{msr_refused_field}
use Rattle.trails.specs.declared.event.Event.{Event}
use Rattle.trails.specs.declared.event.Event.TheVariants.{Store, Msr, Settle, Isb, Tlbi, Dsb, Deliver, Access as AccessOf, Prefetch}
use Rattle.phys_mem.specs.Memory.{is_aligned}
use Rattle.trace_lang.specs.declared.header.Size.TheVariants.{Small}
use Rattle.trace_lang.specs.declared.header.Policy.TheVariants.{Fifo}
use Rattle.trace_lang.specs.Traces.{Header, IsTrace, EventFits, RangesFitBehind, is_within}
use Rattle.drill_trace.specs.Drill.{word_place, setup, next, drawn, event_by, event_after, behind_event, events_from, drawn_events, drill_of}
use Rattle.drill_trace.proofs.Lists.{count_drawn}

abbrev ranges : List (ℕ × ℕ)
ranges = (0, 0x200000) ∷ []

abbrev h : Header
h = record { cores = 4; ranges = ranges; size = Small; policy = Fifo }

-- TABLES AND REGISTERS

abbrev is_none : Option Field → Bool
is_none None = true
is_none (Some f) = false

none_is : (o : Option Field) → is_none o ≡ true → o ≡ None
none_is None e = refl
none_is (Some f) e = (let z : false ≡ true = e in absurd cc)

abbrev fit : Event → Bool
fit (Store c p v) = nat_lt c 4 && (is_aligned p && is_within ranges p)
fit (Msr c reg v) = nat_lt c 4 && is_none (msr_refused_field reg v)
fit (Isb c) = nat_lt c 4
fit _ = false

fit_is : (e : Event) → fit e ≡ true → EventFits h e
fit_is (Store c p v) e = (let d = and_parts (nat_lt c 4) _ e in (ltb-true c 4 d.0, and_parts (is_aligned p) (is_within ranges p) d.1))
fit_is (Msr c reg v) e = (let d = and_parts (nat_lt c 4) _ e in (ltb-true c 4 d.0, none_is (msr_refused_field reg v) d.1))
fit_is (Isb c) e = (ltb-true c 4 e, tt)
fit_is (Settle c) e = absurd cc
fit_is (Tlbi c from op shared operand) e = absurd cc
fit_is (Dsb c kind) e = absurd cc
fit_is (Deliver c) e = absurd cc
fit_is (AccessOf c a) e = absurd cc
fit_is (Prefetch c a) e = absurd cc

all_fit : (es : List Event) → list_all fit es ≡ true → All (EventFits h) es
all_fit [] e = All-nil (EventFits h)
all_fit (x ∷ es) e = (let d = and_parts (fit x) (list_all fit es) e in All-cons (EventFits h) x es (fit_is x d.0) (all_fit es d.1))

setup_fits : All (EventFits h) setup
setup_fits = all_fit setup refl

-- DRAWS

either : (b : Bool) (x y : Event) → EventFits h x → EventFits h y → EventFits h (cond b x y)
either true x y f g = f
either false x y f g = g

aligned_is : (i j : ℕ) → is_aligned (word_place i j) ≡ true
aligned_is i j = eq-eqb (word_place i j % 8) 0 (omega arith)

within_is : (i j : ℕ) → i < 4 → j < 16 → is_within ranges (word_place i j) ≡ true
within_is i j li lj =
    let a = le-leb 0 (word_place i j) (omega arith) in
    let b = le-leb (word_place i j + 8) 0x200000 (omega (arith, li, lj)) in
    rw (a, b) refl

event_fits : (a c i j : ℕ) → c < 4 → i < 4 → j < 16 → EventFits h (event_by a c i j)
event_fits a c i j lc li lj =
    either (nat_lt a 10) _ _ (lc, tt) (either (a == 10) _ _ (lc, refl) (either (a == 11) _ _ (lc, (aligned_is i j, within_is i j li lj))
    (either (a == 12) _ _ (lc, (refl, λ e. absurd cc)) (either (a == 13) _ _ (lc, tt) (either (a == 14) _ _ (lc, tt) (lc, (refl, λ e. refl)))))))

below : (x n : ℕ) → 0 < n → x % n < n
below x n l = omega arith

drawn_fits : (n x : ℕ) → All (EventFits h) (events_from n x)
unfolding events_from
drawn_fits zero x = All-nil (EventFits h)
drawn_fits (suc n) x =
    let second = drawn (next (next x)) in
    let third = drawn (next (next (next x))) in
    let last = drawn (next (next (next (next x)))) in
    All-cons (EventFits h) (event_after x) (events_from n (behind_event x))
    (event_fits (drawn (next x) % 16) (second % 4) (third % 4) (last % 16) (below second 4 (omega arith)) (below third 4 (omega arith))
    (below last 16 (omega arith))) (drawn_fits n (behind_event x))

-- THE WHOLE

range_fits : RangesFitBehind [] ranges
range_fits = (record { range = refl; sum = omega arith; apart = refl }, tt)

pub drill_fits : (start : ℕ) → IsTrace (drill_of start)
drill_fits start = record {
  some_cores = omega arith;
  cores = omega arith;
  count = omega arith;
  ranges = range_fits;
  events = (let a = length-append setup (events_from drawn_events start) in let b = count_drawn drawn_events start in omega (arith, a, b));
  each = All-append (EventFits h) setup (events_from drawn_events start) setup_fits (drawn_fits drawn_events start);
}
