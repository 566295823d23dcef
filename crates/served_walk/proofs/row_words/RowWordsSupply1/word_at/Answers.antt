use Rattle.std.proofs.Common.{refl}
use Rattle.std.proofs.lemmas.Int.{to_z-of_z}
use Rattle.served_walk.proofs.RowWord.{flat_gave, stop_gave, denied_gave, read_gave, denied_text, kept_gave}
use Rattle.served_walk.proofs.row_words.RowWordsSupply1.word_at.Goals as goal

pub returns-in-Some-clause-gave : goal.returns-in-Some-clause-gave
returns-in-Some-clause-gave g c =
    kept_gave g.F.Finds.holds g.F.Finds.row_at c.args.self.now c.args.level c.args.ipa c.requires.aligned _ _ _ c.in-Some.value refl refl
    (rw c.in-Some.is at c.take_word-kept.ensures)

pub returns-then-not-config-clause-gave : goal.returns-then-not-config-clause-gave
returns-then-not-config-clause-gave g c =
    let off = rw c.config-config.ensures.same at c.if-not-config.true in
    flat_gave g.F.Finds.holds g.F.Finds.row_at c.args.self.now c.args.level c.args.ipa c.requires.aligned off _ refl
    (rw c.in-None.is at c.take_word-kept.ensures).0 (rw c.in-None.is at c.take_word-kept.ensures).2 refl _ _ _
    (rw (to_z-of_z _ _ c.ranges.level, (rw c.in-None.is at c.take_word-kept.ensures).1) at c.read_word.ensures)

pub returns-in-Err-clause-gave : goal.returns-in-Err-clause-gave
returns-in-Err-clause-gave g c =
    let on = rw c.config-config.ensures.same at c.if-not-config.false in
    stop_gave g.F.Finds.holds g.F.Finds.row_at c.args.self.now c.args.level c.args.ipa c.requires.aligned on _ refl
    (rw c.in-None.is at c.take_word-kept.ensures).0 (rw c.in-None.is at c.take_word-kept.ensures).2 _ _ c.in-Err.stop
    (rw (rw c.in-None.is at c.take_word-kept.ensures).1 at c.in-Err.ensures.gave) (rw (rw c.in-None.is at c.take_word-kept.ensures).1 at c.in-Err.ensures.most)

pub returns-in-Err-descriptor_read-clause-gave : goal.returns-in-Err-descriptor_read-clause-gave
returns-in-Err-descriptor_read-clause-gave g c =
    let on = rw c.config-config.ensures.same at c.if-not-config.false in
    let denied = rw c.config-config.ensures.same at c.in-Err-descriptor_read.ensures in
    denied_gave g.F.Finds.holds g.F.Finds.row_at c.args.self.now c.args.level c.args.ipa c.requires.aligned on _ refl
    (rw c.in-None.is at c.take_word-kept.ensures).0 (rw c.in-None.is at c.take_word-kept.ensures).2 _ _ c.in-Ok.leaf
    c.in-Ok.ensures.sound.0 (rw (rw c.in-None.is at c.take_word-kept.ensures).1 at c.in-Ok.ensures.gave)
    (rw (rw c.in-None.is at c.take_word-kept.ensures).1 at c.in-Ok.ensures.most) _ denied.0 denied.1

pub returns-in-Err-descriptor_read-clause-text : goal.returns-in-Err-descriptor_read-clause-text
returns-in-Err-descriptor_read-clause-text g c = denied_text c.args.ipa c.in-Ok.leaf _ c.in-Ok.ensures.sound c.in-Err-descriptor_read.ensures.1

pub returns-clause-gave : goal.returns-clause-gave
returns-clause-gave g c =
    let on = rw c.config-config.ensures.same at c.if-not-config.false in
    let readable = rw c.config-config.ensures.same at c.in_default.ensures in
    read_gave g.F.Finds.holds g.F.Finds.row_at c.args.self.now c.args.level c.args.ipa c.requires.aligned on _ refl
    (rw c.in-None.is at c.take_word-kept.ensures).0 (rw c.in-None.is at c.take_word-kept.ensures).2 _ _ c.in-Ok.leaf
    c.in-Ok.ensures.sound.0 (rw (rw c.in-None.is at c.take_word-kept.ensures).1 at c.in-Ok.ensures.gave)
    (rw (rw c.in-None.is at c.take_word-kept.ensures).1 at c.in-Ok.ensures.most) _ _ readable
    (rw (to_z-of_z _ _ c.ranges.level) at c.read_word-2.ensures)
