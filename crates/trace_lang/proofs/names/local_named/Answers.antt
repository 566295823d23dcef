use Rattle.std.proofs.Common.{sym, ap, ◌∙◌}
use Rattle.std.specs.Prelude.{bytes_eq}
use Rattle.sysregs.specs.Ops.{all_ops}
use Rattle.trace_lang.proofs.Naming.{skipped}
use Rattle.trace_lang.proofs.names.local_named.Goals as goal

pub loop-op-preserved : goal.loop-op-preserved
loop-op-preserved c =
    skipped c.args.word.now all_ops c.loop-op.op-index _ _ c.loop-op-test.true
    (sym (ap (bytes_eq c.args.word.now) (c.as_bytes.ensures.value ∙ c.name.ensures.text)) ∙ sym c.eq.ensures ∙ c.if-eq.false) c.loop-op.invariant
