use Rattle.std.proofs.Common.{◌≡◌, take}
use Rattle.std.specs.Prelude.{fold}
use Rattle.machine_spec.specs.Moments.{written}
use Rattle.cpu_model.proofs.cpu.write_all.Given as goal

abbrev pub invariant-loop-reg : goal.invariant-loop-reg
invariant-loop-reg l = l.force ≡ fold written l.initial.force (take l.reg-index l.queue)
