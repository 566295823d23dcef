use Rattle.std.proofs.Common.{◌≡◌, ◌++◌, take}
use Rattle.served_walk.proofs.met.append.Given as goal

abbrev pub invariant-loop-item : goal.invariant-loop-item
invariant-loop-item l = l.trail ≡ l.fn.trail ++ take l.item-index l.fn.items
