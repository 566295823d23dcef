use Rattle.std.proofs.Common.{arith, ◌∙◌, refl}
use Rattle.dump_file.proofs.Counting.{others_then}
use Rattle.dump_file.proofs.Filling.{front_none, front_more, turns_more, turns_end}
use Rattle.dump_file.proofs.fill.fill_from.Goals as goal

pub loop-done-init : goal.loop-done-init
loop-done-init g c =
    record {
      within = omega arith;
      same = refl;
      missing = omega arith;
      faults = omega arith;
      others = λ n h. (refl, refl);
      front = front_none _ _ _;
      turns = record { turns = 0; came = (refl, refl) };
    }

pub loop-done-preserved : goal.loop-done-preserved
loop-done-preserved g c =
    let got = c.in_ok-count.ensures in
    record {
      within = omega (arith, got.bound);
      same = got.same ∙ c.loop-done.invariant.same;
      missing = omega (arith, got.missing);
      faults = omega (arith, got.cause.later);
      others = others_then c.loop-done.invariant.others got.others;
      front = front_more _ _ _ _ _ _ _ _ _ c.loop-done.invariant.within got.bound c.loop-done.invariant.front (rw c.loop-done.invariant.same at got.bytes);
      turns = turns_more _ _ _ _ _ _ _ _ _ _ c.loop-done.invariant.within got.bound c.loop-done.invariant.turns got.read;
    }

pub returns-then-count-eq0-clause-turns : goal.returns-then-count-eq0-clause-turns
returns-then-count-eq0-clause-turns g c =
    turns_end _ _ _ _ _ _ _ _ _ _ c.loop-done.invariant.within c.if-count-eq0.true c.loop-done.invariant.turns c.in_ok-count.ensures.read
