use Rattle.tagged_tlb.proofs.Draws.{drew}
use Rattle.tagged_tlb.proofs.chooser.Chooser.victim.Goals as goal

pub returns-in-Random-clause-after : goal.returns-in-Random-clause-after
returns-in-Random-clause-after c = λ core n h. drew c.args.self.now.policy core n c.args.self.now.last c.next-self.result c.next-self.ensures h
