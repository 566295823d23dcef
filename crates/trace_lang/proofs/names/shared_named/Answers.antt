use Rattle.std.proofs.Common.{sym, ap, ◌∙◌, option_map}
use Rattle.sysregs.specs.Ops.{all_ops}
use Rattle.trace_lang.proofs.Cutting.{stripped}
use Rattle.trace_lang.proofs.Naming.{with_is, shared}
use Rattle.trace_lang.proofs.names.shared_named.Goals as goal

pub returns : goal.returns
returns c =
    let h = c.in_ok-local.ensures.cases in
    sym (with_is all_ops c.args.word.now _ c.in_ok-local.local.now c.as_slice.ensures (stripped c.args.word.now _ c.in_ok-local.local.now h.0 h.1)
    ∙ ap (option_map shared) (sym c.local_named.ensures ∙ c.in_ok-local_named.was))
