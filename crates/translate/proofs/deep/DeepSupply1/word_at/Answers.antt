use Rattle.std.proofs.Common.{refl, ◌∙◌, arith, Ok, Err}
use Rattle.std.proofs.lemmas.Int.{to_z-of_z}
use Rattle.table_reads.proofs.Weaker.{rose_weaker}
use Rattle.translate.proofs.Had.{gave_deep, had_flat, had_stop, had_denied_by, had_read}
use Rattle.translate.proofs.deep.DeepSupply1.word_at.Goals as goal

pub returns-then-not-config-clause-gave : goal.returns-then-not-config-clause-gave
returns-then-not-config-clause-gave g c =
    let flat = rw c.config-config.ensures.same at c.if-not-config.true in
    let read = rw (c.walker1-walker.ensures, c.moment.ensures, to_z-of_z _ _ c.ranges.level) at c.read.ensures.read in
    gave_deep g.S.Supply.memory g.S.Supply.faults g.S.Supply.keeps c.args.self.now _ c.args.level c.args.ipa _ _ _ refl refl c.read.ensures.same
    c.read.ensures.later c.read.ensures.kept (had_flat _ _ _ c.args.level _ _ _ _ flat read)

pub returns-in-Err-clause-gave : goal.returns-in-Err-clause-gave
returns-in-Err-clause-gave g c =
    let on = rw c.config-config.ensures.same at c.if-not-config.false in
    gave_deep g.S.Supply.memory g.S.Supply.faults g.S.Supply.keeps c.args.self.now _ _ _ _ _ _ refl refl c.in-Err.ensures.same c.in-Err.ensures.later
    c.in-Err.ensures.kept (had_stop _ _ on _ _ _ _ _ _ c.in-Err.ensures.came c.in-Err.ensures.most)

pub returns-in-Err-stage2_end-clause-gave : goal.returns-in-Err-stage2_end-clause-gave
returns-in-Err-stage2_end-clause-gave g c =
    let on = rw c.config-config.ensures.same at c.if-not-config.false in
    let walked = c.in-Ok.ensures.came.1 (Err c.in-Err-stage2_end.fault) c.in-Err-stage2_end.ensures.value in
    gave_deep g.S.Supply.memory g.S.Supply.faults g.S.Supply.keeps c.args.self.now _ _ _ _ _ _ refl refl c.in-Ok.ensures.same c.in-Ok.ensures.later
    c.in-Ok.ensures.kept (had_stop _ _ on _ _ _ _ _ _ walked c.in-Ok.ensures.most)

pub returns-in-Err-descriptor_read-clause-gave : goal.returns-in-Err-descriptor_read-clause-gave
returns-in-Err-descriptor_read-clause-gave g c =
    let on = rw c.config-config.ensures.same at c.if-not-config.false in
    let denied = rw c.config-config.ensures.same at c.in-Err-descriptor_read.ensures in
    gave_deep g.S.Supply.memory g.S.Supply.faults g.S.Supply.keeps c.args.self.now _ _ _ _ _ _ refl refl c.in-Ok.ensures.same c.in-Ok.ensures.later
    c.in-Ok.ensures.kept
    (had_denied_by _ _ on _ _ _ _ _ c.in-Ok-stage2_end.leaf (c.in-Ok.ensures.came.1 (Ok c.in-Ok-stage2_end.leaf) c.in-Ok-stage2_end.ensures.value)
    c.in-Ok.ensures.most denied.0 _ denied.1)

pub returns-clause-gave : goal.returns-clause-gave
returns-clause-gave g c =
    let on = rw c.config-config.ensures.same at c.if-not-config.false in
    let readable = rw c.config-config.ensures.same at c.in_default.ensures in
    let read = rw (c.walker1-walker.ensures, c.moment.ensures, to_z-of_z _ _ c.ranges.level, c.in-Ok.ensures.same) at c.read-2.ensures.read in
    gave_deep g.S.Supply.memory g.S.Supply.faults g.S.Supply.keeps c.args.self.now _ c.args.level c.args.ipa _ _ _ refl refl
    (c.read-2.ensures.same ∙ c.in-Ok.ensures.same)
    (omega (arith, c.in-Ok.ensures.later, c.read-2.ensures.later))
    (g.met.S.Supply.keeps_then _ _ _ c.in-Ok.ensures.kept c.read-2.ensures.kept)
    (had_read _ _ on c.args.level _ _ _ _ c.in-Ok-stage2_end.leaf (c.in-Ok.ensures.came.1 (Ok c.in-Ok-stage2_end.leaf) c.in-Ok-stage2_end.ensures.value)
    c.in-Ok.ensures.most _ _
    (rose_weaker _ _ _ _ c.in-Ok.ensures.later (omega arith)) _ _ readable read)
