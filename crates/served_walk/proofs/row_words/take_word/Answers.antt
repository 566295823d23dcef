use Rattle.std.proofs.Common.{refl, sym, arith}
use Rattle.served_walk.proofs.KeptItems.{none_begins, far_begins, found_within, took}
use Rattle.served_walk.proofs.row_words.take_word.Goals as goal

pub returns-in-None : goal.returns-in-None
returns-in-None c = (refl, refl, λ front i rest b. none_begins c.args.kept.now front i rest (sym c.in-None.ensures) b)

pub returns-then-at-gt-MOST_CHAIN : goal.returns-then-at-gt-MOST_CHAIN
returns-then-at-gt-MOST_CHAIN c = (
  refl,
  refl,
  λ front i rest b. far_begins c.args.kept.now front i rest c.in-Some.at (sym c.in-Some.ensures) (omega (arith, c.if-at-gt-MOST_CHAIN.true)) b,
)

pub split_at-requires : goal.split_at-requires
split_at-requires c = found_within c.args.kept.now c.in-Some.at (sym c.in-Some.ensures)

pub returns : goal.returns
returns c =
    took c.args.kept.now _ _ _ _ c.in-Some.at _ (sym c.in-Some.ensures) (omega (arith, c.if-at-gt-MOST_CHAIN.false)) c.split_at.ensures.front
    c.split_at.ensures.back c.append.ensures c.item_at-word.ensures
