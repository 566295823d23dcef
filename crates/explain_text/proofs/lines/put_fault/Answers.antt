use Rattle.std.proofs.Common.{rules, append_assoc, append-nil}
use mir.Val.{SFits}
use mir.Syntax.{w8}
use Rattle.std.proofs.lemmas.Int.{to_z-of_z}
use Rattle.explain_text.proofs.lines.put_fault.Goals as goal

pub returns-clause-text : goal.returns-clause-text
returns-clause-text g c =
    let fits : SFits w8 c.args.fault.now.level = search rules in
    rw (
      c.literal-5.ensures.text,
      c.when.ensures.text,
      c.byte.ensures.text,
      c.fsc.ensures,
      c.literal-4.ensures.text,
      c.class.ensures.text,
      c.literal-3.ensures.text,
      c.level.ensures.text,
      c.literal-2.ensures.text,
      c.stage.ensures.text,
      c.literal.ensures.text,
    )
    (simp (append_assoc, append-nil, to_z-of_z _ _ fits))
