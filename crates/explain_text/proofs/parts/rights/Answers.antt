use Rattle.explain_text.proofs.Bits.{rights0, rights1}
use Rattle.explain_text.proofs.parts.rights.Goals as goal

pub returns-in-El0-clause-text : goal.returns-in-El0-clause-text
returns-in-El0-clause-text g c =
    rw (
      c.in-El0.is,
      ← rights0 c.args.perms,
      ← c.contains.ensures tt,
      ← c.contains-in-El0.ensures tt,
      ← c.contains-in-El0-2.ensures tt,
    ) c.letters.ensures.text

pub returns-in-El1-clause-text : goal.returns-in-El1-clause-text
returns-in-El1-clause-text g c =
    rw (c.in-El1.is, ← rights1 c.args.perms, ← c.contains-in-El1.ensures tt, ← c.contains-in-El1-2.ensures tt, ← c.contains-in-El1-3.ensures tt)
    c.letters-in-El1.ensures.text
