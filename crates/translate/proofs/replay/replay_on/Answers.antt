use Rattle.translate.proofs.Replays.{on_refused, on_more, on_needs, on_bad}
use Rattle.translate.proofs.replay.replay_on.Goals as goal

pub returns-in-Refused : goal.returns-in-Refused
returns-in-Refused c = let h = c.in-Refused.ensures in rw c.faulted.ensures (on_refused _ _ c.args.items.now c.in-Refused.fault c.in-Refused.at h.0 h.1)

pub returns-in-AtTable : goal.returns-in-AtTable
returns-in-AtTable c = on_more _ _ c.args.items.now c.in-AtTable.from c.in-AtTable.ensures

pub returns-in-Within : goal.returns-in-Within
returns-in-Within c = let h = c.in-Within.ensures in on_needs _ _ c.args.items.now h.0.0 h.0.1 h.1

pub returns-in-Unfit : goal.returns-in-Unfit
returns-in-Unfit c = on_bad _ _ c.args.items.now c.in-Unfit.ensures
