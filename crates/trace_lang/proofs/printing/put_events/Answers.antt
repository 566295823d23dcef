use Rattle.std.proofs.Common.{◌++◌, ◌∙◌, ap}
use Rattle.std.proofs.lemmas.List.Elements.{All-more}
use Rattle.trace_lang.specs.Canonical.{line_of, event_words}
use Rattle.trace_lang.specs.Limits.{HasWords}
use Rattle.trace_lang.proofs.Growing.{grown}
use Rattle.trace_lang.proofs.printing.put_events.Goals as goal

pub loop-event-preserved : goal.loop-event-preserved
loop-event-preserved c = record {
  text = grown (λ e. line_of (event_words e)) c.args.text.now.items c.loop-event.text.items c.put.new.text.items c.args.events.now c.loop-event.event-index _
      c.loop-event-test.true c.loop-event.invariant.text
      (c.in_ok-put.ensures {u = tt} ∙ ap (λ l. c.loop-event.text.items ++ l) (c.bytes.ensures ∙ c.event_line.ensures.text));
  words = All-more HasWords c.args.events.now c.loop-event.event-index _ c.loop-event-test.true c.loop-event.invariant.words c.event_line.ensures.words;
}
