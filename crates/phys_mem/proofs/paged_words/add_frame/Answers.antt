use Rattle.std.proofs.Common.{◌≡◌, ◌+◌, length, replicate, ap, ◌∙◌, arith}
use Rattle.std.proofs.lemmas.List.{length-append, length-replicate}
use Rattle.phys_mem.proofs.paged_words.add_frame.Goals as goal

pub push_reserved-requires : goal.push_reserved-requires
push_reserved-requires c =
    let loop = c.loop-word in
    let before = c.args.frames.now.items in
    let n : length loop.frames.items ≡ length before + loop._word =
    ap length loop.invariant.items ∙ length-append before (replicate loop._word 0) ∙ ap (λ k. length before + k) (length-replicate loop._word 0) in
    omega (arith, n, loop.invariant.capacity, loop.frames.ok.0)
