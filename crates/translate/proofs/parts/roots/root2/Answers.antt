use Rattle.std.proofs.Common.{◌≡◌, sym, false, ◌∙◌}
use Rattle.std.proofs.lemmas.Int.{to_z-of_z}
use Rattle.sysregs.specs.Registers.{config_of}
use Rattle.table_reads.specs.Numbers.{sizes2}
use Rattle.table_reads.specs.Places.{is_too_large}
use Rattle.walk_spec.specs.Fresh.{start_base2}
use Rattle.translate.proofs.Fields.{same_sizes2, root2_small}
use Rattle.stage2_walk.proofs.Starts.{table2_of}
use Rattle.translate.proofs.parts.roots.root2.Goals as goal

pub returns-in-Ok-clause-value : goal.returns-in-Ok-clause-value
returns-in-Ok-clause-value c =
    let small : is_too_large (sizes2 (config_of c.args.regs.now)) (start_base2 c.args.regs.now) ≡ false =
    rw (c.sizes_of2-sizes.ensures.value, c.base_of2-base.ensures.value) at c.in-Ok.ensures.small in
    rw (
      c.first2.ensures,
      to_z-of_z _ _ c.ranges.level,
      c.base_of2-base.ensures.value,
      c.requires.level,
      same_sizes2 c.args.config.now c.args.regs.now c.requires.fields,
    ) (root2_small c.args.regs.now c.args.ptw small)

pub returns-in-Ok-clause-table : goal.returns-in-Ok-clause-table
returns-in-Ok-clause-table c =
    let n = c.sizes_of2-sizes.ensures.value ∙ sym (same_sizes2 c.args.config.now c.args.regs.now c.requires.fields) in
    table2_of c.args.config.now _ c.sizes_of2-sizes.result n (rw (c.first2.ensures, to_z-of_z _ _ c.ranges.level, n) c.requires.level)
    c.sizes_of2-sizes.ensures.sound.start (rw c.first2.ensures c.base_of2-base.ensures.below) (rw c.first2.ensures c.base_of2-base.ensures.eights)
