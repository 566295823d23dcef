use Rattle.std.proofs.Common.{◌≡◌, ◌++◌, take, flat_map, All}
use Rattle.trace_lang.specs.Canonical.{line_of, event_words}
use Rattle.trace_lang.specs.Limits.{HasWords}
use Rattle.trace_lang.proofs.printing.put_events.Given as goal

-- the lines so far
abbrev pub invariant-loop-event : goal.invariant-loop-event
invariant-loop-event l = record {
  text : l.text.items ≡ l.fn.text.items ++ flat_map (λ e. line_of (event_words e)) (take l.event-index l.events);
  words : All HasWords (take l.event-index l.events);
}
