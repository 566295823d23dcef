use Rattle.std.proofs.Common.{take}
use Rattle.std.specs.Prelude.{fold, filter}
use Rattle.trails.specs.declared.event.Event.TheVariants.{Dsb}
use Rattle.machine_spec.specs.Header.{Header}
use Rattle.machine_spec.specs.Invalidations.{completes}
use Rattle.tagged_tlb.specs.Sets.{Cache}
use Rattle.machine_spec.specs.Machine.{killed}
use Rattle.cpu_model.specs.Cores.{HasOtherRows, AreCaches}
use Rattle.machine.proofs.seat.take_all.Given as goal

abbrev pub invariant-loop-inval : goal.invariant-loop-inval
invariant-loop-inval l =
    HasOtherRows l.initial.cpu l.cpu × ((h : Header) → (x : Cache) → AreCaches h l.initial.cpu.number x l.initial.cpu →
    AreCaches h l.initial.cpu.number (fold killed x (filter (completes (Dsb l.core l.kind)) (take l.inval-index l.inbox))) l.cpu)
