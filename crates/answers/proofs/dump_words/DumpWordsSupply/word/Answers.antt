use Rattle.answers.proofs.DumpMemory.{still_stands}
use Rattle.answers.proofs.dump_words.DumpWordsSupply.word.Goals as goal

pub invariant_of-self : goal.invariant_of-self
invariant_of-self g c = record {
  stands = still_stands (g.F.Files.holds c.args.self.now.files.now) (g.F.Files.holds c.word.new.files) c.args.self.now.dump.now c.word.new.self
      c.word.ensures.same c.word.ensures.unchanged c.args.self.now.stands c.word.ensures.stands;
}

pub invariant_of-self-in-Err : goal.invariant_of-self-in-Err
invariant_of-self-in-Err g c = record {
  stands = still_stands (g.F.Files.holds c.args.self.now.files.now) (g.F.Files.holds c.word.new.files) c.args.self.now.dump.now c.word.new.self
      c.word.ensures.same c.word.ensures.unchanged c.args.self.now.stands c.word.ensures.stands;
}
