use Rattle.commands.specs.Asked.{raw_words_of}
use Rattle.answers.proofs.Accepted.{raw_accepted, tcr_accepted}
use Rattle.answers.proofs.raw.walk.Goals as goal

pub translate-requires : goal.translate-requires
translate-requires g c = record {
  accepted = rw c.registers.ensures (raw_accepted c.args.asked.now.tcr c.args.asked.now.ttbr0 (tcr_accepted (raw_words_of c.args.asked.now) c.requires));
}

pub returns-clause-walked : goal.returns-clause-walked
returns-clause-walked g c = rw (c.registers.ensures, c.access.ensures) at c.translate.ensures.walked

pub returns-clause-fresh : goal.returns-clause-fresh
returns-clause-fresh g c = rw (c.registers.ensures, c.access.ensures) at c.translate.ensures.fresh
