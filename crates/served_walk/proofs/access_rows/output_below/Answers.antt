use Rattle.std.specs.Prelude.{option_map}
use Rattle.sysregs.specs.Registers.{config_of}
use Rattle.translate.specs.Parts.{leaf1_or_off}
use Rattle.served_walk.proofs.RowAccess.{flat_output, ends_output, stop_output, out_is}
use Rattle.served_walk.proofs.access_rows.output_below.Goals as goal

pub returns-then-not-config : goal.returns-then-not-config
returns-then-not-config g c =
    let off = rw c.config-config.ensures.same at c.if-not-config.true in
    record {
      gave = flat_output g.F.Finds.holds g.F.Finds.row_at c.args.words.now.scene.now c.args.access.now
          (leaf1_or_off (config_of c.args.words.now.scene.now.force.now) c.args.access.now (option_map (λ l. l.now) c.args.leaf))
          c.args.words.now.met c.args.trail.now _ off
          (rw c.config-config.ensures.same at c.finish.ensures);
    }

pub returns-in-Ok : goal.returns-in-Ok
returns-in-Ok g c =
    let on = rw c.config-config.ensures.same at c.if-not-config.false in
    record {
      gave = ends_output g.F.Finds.holds g.F.Finds.row_at c.args.words.now.scene.now c.args.access.now
          (leaf1_or_off (config_of c.args.words.now.scene.now.force.now) c.args.access.now (option_map (λ l. l.now) c.args.leaf))
          c.in-Ok.leaf2 c.args.words.now.met c.chain.new.met
          c.args.trail.now c.chain.new.trail _ on (rw c.config-config.ensures.same at c.finish-in-Ok.ensures)
          (rw (c.output-out.ensures, out_is (config_of c.args.words.now.scene.now.force.now) c.args.access.now (option_map (λ l. l.now) c.args.leaf)) at
          c.in-Ok.ensures.gave);
    }

pub returns-in-Err : goal.returns-in-Err
returns-in-Err g c =
    let on = rw c.config-config.ensures.same at c.if-not-config.false in
    record {
      gave = rw c.stopped.ensures
          (stop_output g.F.Finds.holds g.F.Finds.row_at c.args.words.now.scene.now c.args.access.now
          (leaf1_or_off (config_of c.args.words.now.scene.now.force.now) c.args.access.now (option_map (λ l. l.now) c.args.leaf))
          c.in-Err.stop c.args.words.now.met c.chain.new.met
          c.args.trail.now c.chain.new.trail on (rw (
            c.output-out.ensures,
            out_is (config_of c.args.words.now.scene.now.force.now) c.args.access.now
                (option_map (λ l. l.now) c.args.leaf),
          ) at c.in-Err.ensures.gave) c.in-Err.ensures.conflict
          c.requires.room);
    }
