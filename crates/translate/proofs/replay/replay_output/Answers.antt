use Rattle.std.specs.Prelude.{option_map}
use Rattle.sysregs.specs.Sides.{side_of}
use Rattle.translate.proofs.Replays.{line_flat, line_found, line_refused, line_needs, line_bad}
use Rattle.translate.proofs.replay.replay_output.Goals as goal

pub returns-then-not-config : goal.returns-then-not-config
returns-then-not-config c =
    line_flat _ _ c.args.items.now c.args.at (option_map (λ l. l.now) c.args.leaf1) c.requires.at c.requires.stage1 c.if-not-config.true _ c.finish.ensures

pub returns-in-Found : goal.returns-in-Found
returns-in-Found c =
    let h = c.in-Found.ensures (side_of c.args.access.now.va) in
    line_found _ _ c.args.items.now c.args.at (option_map (λ l. l.now) c.args.leaf1) c.requires.at c.requires.stage1 c.if-not-config.false _
    c.requires.out c.in-Found.leaf c.in-Found.len _ h.0 h.1 c.finish-in-Found.ensures

pub returns-in-Refused : goal.returns-in-Refused
returns-in-Refused c =
    let h = c.in-Refused.ensures (side_of c.args.access.now.va) in
    rw c.faulted.ensures
    (line_refused _ _ c.args.items.now c.args.at (option_map (λ l. l.now) c.args.leaf1) c.requires.at c.requires.stage1 c.if-not-config.false _
    c.requires.out c.in-Refused.fault c.in-Refused.len h.0 h.1)

pub returns-in-Within : goal.returns-in-Within
returns-in-Within c =
    let h = c.in-Within.ensures (side_of c.args.access.now.va) in
    line_needs _ _ c.args.items.now c.args.at (option_map (λ l. l.now) c.args.leaf1) c.requires.at c.requires.stage1 c.if-not-config.false _
    c.requires.out _ c.requires.untop h.1.1

pub returns-in-Before : goal.returns-in-Before
returns-in-Before c =
    let h = c.in-Before.ensures (side_of c.args.access.now.va) in
    line_needs _ _ c.args.items.now c.args.at (option_map (λ l. l.now) c.args.leaf1) c.requires.at c.requires.stage1 c.if-not-config.false _
    c.requires.out _ c.requires.untop h.1

pub returns-in-Unfit : goal.returns-in-Unfit
returns-in-Unfit c =
    line_bad _ _ c.args.items.now c.args.at (option_map (λ l. l.now) c.args.leaf1) c.requires.at c.requires.stage1 c.if-not-config.false _
    c.requires.out (c.in-Unfit.ensures (side_of c.args.access.now.va))
