use Rattle.std.proofs.Common.{[], ◌∷◌, codes, decimal}
use Rattle.report_text.proofs.Parts.{parts_behind}
use Rattle.report_text.proofs.lines.put_outcome_counts.Goals as goal

pub returns-clause-text : goal.returns-clause-text
returns-clause-text g c =
    rw (
      c.decimal-5.ensures.text,
      c.literal-5.ensures.text,
      c.decimal-4.ensures.text,
      c.literal-4.ensures.text,
      c.decimal-3.ensures.text,
      c.literal-3.ensures.text,
      c.decimal-2.ensures.text,
      c.literal-2.ensures.text,
      c.decimal.ensures.text,
      c.literal.ensures.text,
      ← c.counts.view_is,
    )
    (parts_behind c.args.line.now
    (codes "summary accesses " ∷ decimal c.counts.inside.accesses ∷ codes " prefetches " ∷ decimal c.counts.inside.prefetches
    ∷ codes " mapped " ∷ decimal c.counts.inside.mapped ∷ codes " faulted " ∷ decimal c.counts.inside.faulted
    ∷ codes " conflicts " ∷ decimal c.counts.inside.conflicts ∷ []))
