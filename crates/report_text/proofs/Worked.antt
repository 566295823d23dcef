-- Worked reports.
use Rattle.std.proofs.Common.{◌≡◌, [], ◌∷◌, ◌++◌, false, true, codes, refl, Some, None, pos}
use Rattle.std.specs.Fmt.{digits}
use Rattle.permissions.specs.declared.bits.El.TheVariants.{El0, El1}
use Rattle.permissions.specs.declared.bits.Kind.TheVariants.{Read, Fetch}
use Rattle.fault_codes.specs.declared.fault.Stage.TheVariants.{S1, S2}
use Rattle.trails.specs.declared.item.Item.{Item}
use Rattle.trails.specs.declared.item.What.TheVariants.{Base}
use Rattle.trails.specs.declared.outcome.Access.{Access}
use Rattle.trails.specs.declared.outcome.Outcome.TheVariants.{Absent, Conflict}
use Rattle.trails.specs.declared.event.Event.TheVariants.{Store, Access as AccessOf, Prefetch}
use Rattle.trails.specs.declared.step.Answer.{Answer}
use Rattle.trails.specs.declared.step.Step.{Step}
use Rattle.report_text.specs.Report.{steps_text, report_text}

read : Access
read = record { va = 0x40201abc; el = El1; kind = Read; pan = false }

fetch : Access
fetch = record { va = 0; el = El0; kind = Fetch; pan = false }

base : Item
base = record { pa = 0x1000; value = 0x1000; moment = 8; stage = S1; level = pos 0; what = Base }

store : Step
store = record { event = Store 0 0x4008 0; answer = None }

conflict : Answer
conflict = record { asid = 0; vmid = 0; outcome = Conflict; first = base ∷ []; second = Some (base ∷ []); old = true; stale = false; evicted = 0 }

aborted : Answer
aborted = record { asid = 1; vmid = 0xab; outcome = Absent S2 (pos 1) 0x8008 true; first = []; second = None; old = false; stale = true; evicted = 5 }

-- no step
empty_log : report_text [] ≡ codes "summary accesses 0 prefetches 0 mapped 0 faulted 0 conflicts 0 old 0 stale 0 evicted 0\n"
unfolding steps_text digits
empty_log = refl

-- the number counts every step, and a conflict has two trails
after_a_store
    : report_text (store ∷ record { event = AccessOf 3 read; answer = Some conflict } ∷ [])
    ≡ codes "event 1 core 3 access 0x40201abc el1 read asid 0x0 vmid 0x0\ns1 base level 0 at 0x1000 moment 8\nor\n"
    ++ codes "s1 base level 0 at 0x1000 moment 8\nconflict fsc 0x30\n"
    ++ codes "summary accesses 1 prefetches 0 mapped 0 faulted 0 conflicts 1 old 1 stale 0 evicted 0\n"
unfolding steps_text digits read base store conflict
after_a_store = refl

-- a prefetch that meets an external abort, which is a fault
aborted_prefetch
    : report_text (record { event = Prefetch 1 fetch; answer = Some aborted } ∷ store ∷ [])
    ≡ codes "event 0 core 1 prefetch 0x0 el0 fetch asid 0x1 vmid 0xab\nfault stage 2 level 1 external fsc 0x15 s1ptw\n"
    ++ codes "summary accesses 0 prefetches 1 mapped 0 faulted 1 conflicts 0 old 0 stale 1 evicted 5\n"
unfolding steps_text digits fetch store aborted
aborted_prefetch = refl
