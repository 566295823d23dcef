use Rattle.std.proofs.Common.{sym, ap, ◌∙◌, option_map}
use Rattle.std.specs.Option.{option_or}
use Rattle.trace_lang.specs.Words.{named}
use Rattle.sysregs.specs.Ops.{all_ops}
use Rattle.trace_lang.proofs.Naming.{either_form, local, shared_forms}
use Rattle.trace_lang.proofs.names.operation_named.Goals as goal

pub returns-in-Some : goal.returns-in-Some
returns-in-Some c =
    sym (either_form all_ops c.args.word.now
    ∙ ap (λ o. option_or (option_map local o) (named (shared_forms all_ops) c.args.word.now)) (sym c.local_named.ensures ∙ c.in-Some.is))
