use Rattle.std.proofs.Common.{rules, arith, ◌≡◌, ◌-◌, ◌+◌, ◌≤◌, ◌∙◌, ℕ}
use Rattle.texts.proofs.Onto.{digits_start}
use Rattle.texts.proofs.Pairs.{pair_put, pair_end, digit_end, two_digits, three_digits, room_left2}
use Rattle.texts.proofs.digits.decimal_before.Goals as goal

ten : 2 ≤ 10
ten = omega arith

pub loop-rest-init : goal.loop-rest-init
loop-rest-init c =
    let all : c.args.end + c.args.most - c.args.end ≡ c.args.most = omega arith in
    record {
      size = search rules;
      before = omega arith;
      behind = omega arith;
      room = rw all (search rules);
      same = rw all (digits_start c.args.most 10 c.args.n _ (omega arith));
    }

pub loop-rest-preserved : goal.loop-rest-preserved
loop-rest-preserved c =
    let i = c.loop-rest.invariant in
    let k : ℕ = c.loop-rest.start + c.args.most - c.args.end in
    let three : 3 ≤ k = three_digits 10 ten k c.loop-rest.rest (omega arith) i.room in
    let placed : c.array_before-start.result + 2 ≡ c.loop-rest.start = c.array_before-start.ensures.starts in
    let less : c.array_before-start.result + c.args.most - c.args.end ≡ k - 2 = omega arith in
    record {
      size = search rules;
      before = omega arith;
      behind = omega arith;
      room = rw less (room_left2 10 ten k c.loop-rest.rest (omega arith) i.room);
      same = rw less (pair_put 10 ten (64 - c.args.most) k c.loop-rest.rest _ _ (omega arith) (omega arith)
          (rw c.pair.ensures at c.array_before-start.ensures.text) ∙ i.same);
    }

pub returns-then-rest-ge10-clause-text : goal.returns-then-rest-ge10-clause-text
returns-then-rest-ge10-clause-text c =
    let i = c.loop-rest.invariant in
    let k : ℕ = c.loop-rest.start + c.args.most - c.args.end in
    let two : 2 ≤ k = two_digits 10 ten k c.loop-rest.rest (omega arith) i.room in
    pair_end 10 ten (64 - c.args.most) k c.loop-rest.rest _ _ two (omega arith) (omega arith)
    (rw c.pair-then-rest-ge10.ensures at c.array_before.ensures.text) ∙ i.same

pub returns-clause-text : goal.returns-clause-text
returns-clause-text c =
    let i = c.loop-rest.invariant in
    digit_end 10 ten (64 - c.args.most) (c.loop-rest.start + c.args.most - c.args.end) c.loop-rest.rest _ _
    (omega arith) (omega arith) (rw c.glyph.ensures at c.array_before-2.ensures.text) ∙ i.same
