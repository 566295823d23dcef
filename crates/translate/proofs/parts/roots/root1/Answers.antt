use Rattle.std.proofs.Common.{◌≡◌, sym, false, ◌∙◌}
use Rattle.std.proofs.lemmas.Int.{to_z-of_z}
use Rattle.sysregs.specs.Registers.{config_of}
use Rattle.table_reads.specs.Numbers.{sizes1}
use Rattle.table_reads.specs.Places.{is_too_large}
use Rattle.walk_spec.specs.Fresh.{start_base1}
use Rattle.translate.proofs.Fields.{same_sizes1, root1_small}
use Rattle.translate.proofs.Starts.{table1_of}
use Rattle.translate.proofs.parts.roots.root1.Goals as goal

pub returns-in-Ok-clause-value : goal.returns-in-Ok-clause-value
returns-in-Ok-clause-value c =
    let small : is_too_large (sizes1 (config_of c.args.regs.now) c.args.side) (start_base1 c.args.regs.now c.args.side) ≡ false =
    rw (c.sizes_of1-sizes.ensures.value, c.base_of1-base.ensures.value) at c.in-Ok.ensures.small in
    rw (
      c.first1.ensures,
      to_z-of_z _ _ c.ranges.level,
      c.base_of1-base.ensures.value,
      c.requires.level,
      same_sizes1 c.args.config.now c.args.regs.now c.args.side c.requires.fields,
    ) (root1_small c.args.regs.now c.args.side small)

pub returns-in-Ok-clause-table : goal.returns-in-Ok-clause-table
returns-in-Ok-clause-table c =
    let n = c.sizes_of1-sizes.ensures.value ∙ sym (same_sizes1 c.args.config.now c.args.regs.now c.args.side c.requires.fields) in
    table1_of c.args.config.now c.args.side _ c.sizes_of1-sizes.result n (rw (c.first1.ensures, to_z-of_z _ _ c.ranges.level, n) c.requires.level)
    c.sizes_of1-sizes.ensures.sound.start (rw c.first1.ensures c.base_of1-base.ensures.below) (rw c.first1.ensures c.base_of1-base.ensures.eights)
