use Rattle.std.proofs.Common.{true}
use Rattle.sysregs.specs.Registers.{config_of}
use Rattle.walk_spec.specs.BothStages.{asked}
use Rattle.stage1_walk.specs.Gave.{Walked1}
use Rattle.translate.proofs.DeepLaw.{Stays, gives, deep_stays, deep_walked, line_of}
use Rattle.translate.proofs.Entering.{walked_as}
use Rattle.translate.proofs.deep.walk_kept.Goals as goal

-- stage 1 was walked for what is asked
walked : (g : _) → (c : goal.After-walk1_left g)
    → Walked1 (gives g.S.Supply.memory g.S.Supply.faults g.S.Supply.keeps) (asked (config_of c.args.under.now.regs) true c.args.walk.now.access.now)
    c.args.left c.args.table c.args.deep.now c.args.trail.now c.walk1_left.new.trail c.walk1_left.result c.walk1_left.new.supply
walked g c = walked_as (config_of c.args.under.now.regs) c.args.walk.now.access.now _ c.args.walk.now c.requires.of _ _ _ _ _ _ _ c.walk1_left.ensures.walked

stays : (g : _) → (c : goal.After-walk1_left g) → Stays g.S.Supply.memory g.S.Supply.faults g.S.Supply.keeps c.args.deep.now c.walk1_left.new.supply
stays g c =
    deep_stays g.S.Supply.memory g.S.Supply.faults g.S.Supply.keeps g.met.S.Supply.keeps_here g.met.S.Supply.keeps_then c.args.under.now
    c.args.walk.now.access.now _ _ c.args.deep.now c.walk1_left.new.supply _ _ _ (walked g c)

pub returns-clause-same_reference : goal.returns-clause-same_reference
returns-clause-same_reference g c = (stays g c).same_reference

pub returns-clause-same : goal.returns-clause-same
returns-clause-same g c = (stays g c).same

pub returns-clause-later : goal.returns-clause-later
returns-clause-later g c = (stays g c).later

pub returns-clause-kept : goal.returns-clause-kept
returns-clause-kept g c = (stays g c).kept

pub returns-clause-walked : goal.returns-clause-walked
returns-clause-walked g c =
    deep_walked g.S.Supply.memory g.S.Supply.faults g.S.Supply.keeps c.args.under.now c.args.walk.now.access.now _ _ c.args.deep.now _ _ _ _
    c.requires.under (walked g c)

pub returns-clause-line : goal.returns-clause-line
returns-clause-line g c =
    let w = deep_walked g.S.Supply.memory g.S.Supply.faults g.S.Supply.keeps c.args.under.now c.args.walk.now.access.now _ _ c.args.deep.now _ _ _ _
    c.requires.under (walked g c) in
    line_of _ _ w.end _ w.cause w.answer c.walk1_left.ensures.text
