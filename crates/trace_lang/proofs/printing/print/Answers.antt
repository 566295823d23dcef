use Rattle.std.proofs.Common.{◌≡◌, ◌++◌, ◌∙◌, ap, sym, codes, flat_map}
use Rattle.std.proofs.lemmas.List.Elements.{All-same}
use Rattle.trace_lang.specs.Lines.{trace_of}
use Rattle.trace_lang.specs.Limits.{HasWords}
use Rattle.trace_lang.specs.Canonical.{header_text, line_of, event_words, text_of}
use Rattle.trace_lang.proofs.Growing.{assembled}
use Rattle.trace_lang.proofs.Again.{text_back}
use Rattle.trace_lang.proofs.printing.print.Goals as goal

pub returns-clause-again : goal.returns-clause-again
returns-clause-again c =
    let whole : c.put.new.text.items ≡ text_of c.args.trace.now =
    assembled c.new-text.result.items c.put_header.new.text.items c.put_events.new.text.items c.put.new.text.items
    (header_text c.args.trace.now.header) (flat_map (λ e. line_of (event_words e)) c.args.trace.now.events) (codes "end\n")
    c.new-text.ensures.items (c.in_ok-put_header.ensures.text)
    (c.in_ok-put_events.ensures.text ∙ ap (λ es. c.put_header.new.text.items ++ flat_map (λ e. line_of (event_words e)) es) c.events.ensures.value)
    (c.in_ok-put.ensures {u = tt}) in
    ap trace_of whole
    ∙ text_back c.args.trace.now c.events.ensures.limits (c.in_ok-put_header.ensures.start)
    (All-same HasWords c.args.trace.now.events c.events.result.now (sym c.events.ensures.value) c.in_ok-put_events.ensures.words)
