use Rattle.std.proofs.Common.{◌≡◌, ℕ, ◌-◌, ◌+◌, ◌<◌, ◌≤◌, length, sym, ◌∙◌, arith}
use Rattle.std.proofs.Math.Pow.{pow_mono}
use Rattle.std.specs.Prelude.{◌%◌, ◌/◌, ◌^◌}
use Rattle.tagged_tlb.specs.Slots.{hit}
use Rattle.tagged_tlb.proofs.Finds.{no_first, next_here, no_class, no_classes, last_class, looked_within}
use Rattle.tagged_tlb.proofs.Stands.{all_stand}
use Rattle.tagged_tlb.proofs.tlb.search.Goals as goal
use Rattle.tagged_tlb.proofs.tlb.search.Goals.{then-is_marked, else-is_marked}

pub loop-class-init : goal.loop-class-init
loop-class-init g c = (
  (λ d kind live told f.
      no_first d c.args.sets.now kind g.row.SETS c.args.sought.now live told f c.start_of-class.result c.args.classes c.requires.some
      c.requires.marked c.start_of-class.ensures.below),
  tt,
  c.start_of-class.ensures.most,
)

pub loop-class-preserved : goal.loop-class-preserved
loop-class-preserved g c = elim c.if-is_marked.branch [
  | then-is_marked w ↦
      let at : ℕ = c.args.sought.now.at / 2 ^ c.loop-class.class % g.row.SETS in
      let lt : at < length c.args.sets.now = omega (arith, c.requires.some, c.requires.sets) in
      rw (w.found-is, w.look-found.ensures) (
        (λ d kind live told f. next_here d c.args.sets.now kind g.row.SETS c.args.sought.now live told f c.loop-class.class c.loop-class.found
            w.index-sets-set.result
            c.requires.some w.index-sets-set.is (c.loop-class.invariant.0 d kind live told f)),
        looked_within c.args.sets.now (hit c.args.sought.now c.loop-class.class
            (c.args.sought.now.at / 2 ^ c.loop-class.class)) at w.index-sets-set.result c.loop-class.found lt
            w.index-sets-set.is c.loop-class.invariant.1,
        omega (arith, c.loop-class-test.true, c.end_of-class-end.ensures.most),
      )
  | else-is_marked w ↦
      rw w.found-is (
        (λ d kind live told f. no_class d c.args.sets.now kind g.row.SETS c.args.sought.now live told f c.loop-class.class c.args.classes c.loop-class.found
            c.requires.some c.requires.marked (sym c.is_marked.ensures ∙ w.if-is_marked.false) (c.loop-class.invariant.0 d kind live told f)),
        c.loop-class.invariant.1,
        omega (arith, c.loop-class-test.true, c.end_of-class-end.ensures.most),
      )
]

pub returns-clause-best : goal.returns-clause-best
returns-clause-best g c = λ d kind live told small f.
    let past : c.end_of-class-end.result ≤ c.loop-class.class = omega (arith, c.loop-class-test.false) in
    let gap : c.loop-class.class + (64 - c.loop-class.class) ≡ 64 = omega (arith, c.loop-class.invariant.2) in
    let more = pow_mono past in
    let above : c.args.classes < 2 ^ c.loop-class.class = omega (arith, c.end_of-class-end.ensures.above, more) in
    last_class d c.args.sets.now kind g.row.SETS c.args.sought.now live told f c.loop-class.found small
    (no_classes d c.args.sets.now kind g.row.SETS c.args.sought.now live told f
    (64 - c.loop-class.class) c.loop-class.class c.args.classes c.loop-class.found gap
    c.requires.some c.requires.marked above (c.loop-class.invariant.0 d kind live told f))

pub returns-clause-stand : goal.returns-clause-stand
returns-clause-stand g c = λ d kind live told f.
    all_stand kind g.row.SETS live d c.args.sets.now f c.loop-class.found c.loop-class.invariant.1 (c.loop-class.invariant.0 d kind live told f).seen
