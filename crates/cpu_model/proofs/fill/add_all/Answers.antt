use Rattle.std.proofs.Common.{◌+◌, take, cond, ◌++◌, [], ◌∷◌, sym, subst, arith}
use Rattle.std.proofs.lemmas.List.{take_all}
use Rattle.cpu_model.specs.Filled.{rows_of_step, Fills}
use Rattle.cpu_model.proofs.Filling.{held_more, one_turn, one_most, alike_on}
use Rattle.cpu_model.proofs.fill.add_all.Goals as goal

pub loop-order-preserved : goal.loop-order-preserved
loop-order-preserved c =
    let l = c.loop-order in
    let regs = c.args.source.now.force.now in
    let step = c.args.source.now.step in
    let trail = c.args.source.now.trail.now in
    let rows = c.args.rows.now in
    let d = c.row_of-row.result in
    let front = rows_of_step regs step trail (take l.order rows) in
    let more = one_turn regs step trail rows l.order _ d c.loop-order-test.true c.row_of-row.ensures in
    let held : Fills c.args.caches.now (front ++ d ∷ []) (l.evicted + cond c.add.result 1 0) c.add.new.self =
    held_more c.args.caches.now l.caches c.add.new.self front d l.evicted c.add.result l.invariant.0
    record { added = c.add.ensures.added; count = c.add.ensures.count } in (
      subst (λ k. Fills c.args.caches.now (rows_of_step regs step trail (take (l.order + 1) rows)) (l.evicted + k) c.add.new.self)
          (sym c.count-evicted.ensures)
          (subst (λ z. Fills c.args.caches.now z (l.evicted + cond c.add.result 1 0) c.add.new.self) (sym more) held),
      omega (arith, l.invariant.1, c.count-evicted.ensures, one_most c.add.result),
      alike_on c.args.caches.now l.caches c.add.new.self l.invariant.2 c.add.ensures.alike,
    )

pub returns-clause-filled : goal.returns-clause-filled
returns-clause-filled c =
    subst (λ rows. Fills c.args.caches.now (rows_of_step c.args.source.now.force.now c.args.source.now.step c.args.source.now.trail.now rows)
    c.loop-order.evicted c.loop-order.caches) (take_all c.loop-order.order c.args.rows.now (omega (arith, c.loop-order-test.false))) c.loop-order.invariant.0
