use Rattle.std.proofs.Common.{◌≡◌, take}
use Rattle.served_walk.proofs.met.keep_second.Given as goal

abbrev pub invariant-loop-item : goal.invariant-loop-item
invariant-loop-item l = (l.met.second.items ≡ take l.item-index l.fn.chain) × (l.met.services ≡ l.fn.met.services)
