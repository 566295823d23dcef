use Rattle.std.proofs.Common.{◌≡◌, drop, map, find}
use Rattle.std.specs.Prelude.{bytes_eq}
use Rattle.trace_lang.specs.Words.{named}
use Rattle.sysregs.specs.Ops.{op_text, all_ops}
use Rattle.trace_lang.proofs.names.local_named.Given as goal

-- none of the names so far is the word
abbrev pub invariant-loop-op : goal.invariant-loop-op
invariant-loop-op l = find (λ op. bytes_eq l.word (op_text op)) (drop l.op-index l.op-items) ≡ named (map (λ op. (op_text op, op)) all_ops) l.word
