use Rattle.std.proofs.Common.{◌≡◌, sym, subst}
use Rattle.sysregs.specs.Registers.{config_of}
use Rattle.walk_spec.specs.Stage2.{Asked2, step2}
use Rattle.stage2_walk.specs.SoundSteps.{IsLast, EndsIn}
use Rattle.stage2_walk.proofs.Entered.{granule_is}
use Rattle.translate.specs.Deep.{asked2_of}
use Rattle.translate.proofs.Entering.{none_sized2, some_sized2}
use Rattle.translate.proofs.stage2.stage2_end.Goals as goal

pub unreachable-requires : goal.unreachable-requires
unreachable-requires c = none_sized2 (config_of c.args.under.now.regs) (rw c.in_default.is at c.start2.ensures.sized) c.requires.last.sized

pub end2-requires-clause-under : goal.end2-requires-clause-under
end2-requires-clause-under c =
    let s = some_sized2 c.args.under.now.regs c.start2.result.now c.start2.ensures c.in-Some.sizes c.in-Some.is in
    record { sound = s.1; granule = rw c.config.ensures.same (granule_is (config_of c.args.under.now.regs) c.in-Some.sizes s.0) }

pub end2-requires-clause-last : goal.end2-requires-clause-last
end2-requires-clause-last c =
    let s = some_sized2 c.args.under.now.regs c.start2.result.now c.start2.ensures c.in-Some.sizes c.in-Some.is in
    let asked : Asked2 = record { config = c.config.result.now; sizes = c.in-Some.sizes; s1ptw = c.args.ptw; ipa = c.args.ipa } in
    let a : asked ≡ asked2_of c.args.under.now.regs c.args.ptw c.args.ipa =
    λ i. record { config = c.config.ensures.same i; sizes = s.0 i; s1ptw = c.args.ptw; ipa = c.args.ipa } in
    subst (λ (q : Asked2). IsLast q c.args.last.now) (sym a) c.requires.last.word

pub returns-clause-value : goal.returns-clause-value
returns-clause-value c =
    let s = some_sized2 c.args.under.now.regs c.start2.result.now c.start2.ensures c.in-Some.sizes c.in-Some.is in
    let asked : Asked2 = record { config = c.config.result.now; sizes = c.in-Some.sizes; s1ptw = c.args.ptw; ipa = c.args.ipa } in
    let a : asked ≡ asked2_of c.args.under.now.regs c.args.ptw c.args.ipa =
    λ i. record { config = c.config.ensures.same i; sizes = s.0 i; s1ptw = c.args.ptw; ipa = c.args.ipa } in
    subst (λ (q : Asked2). EndsIn (step2 q c.args.last.now.left c.args.last.now.place c.args.last.now.word) c.end2.result) a c.end2.ensures.value
