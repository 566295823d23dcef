use Rattle.std.proofs.Common.{◌≡◌, ◌++◌, ℕ, List, length, replicate, ap, ◌∙◌, arith}
use Rattle.std.proofs.lemmas.List.{length-replicate}
use Rattle.phys_mem.proofs.Frames.{first_frames, first_words}
use Rattle.phys_mem.proofs.paged_words.PagedWords.zeros.Goals as goal

pub invariant_of-result : goal.invariant_of-result
invariant_of-result c =
    let n = c.div_ceil-pages.result in
    let none : c.in_ok-frame_of.frame_of.items ≡ replicate n 0 = c.in_ok-frame_of.ensures.items_if_clones_equal (λ y h. h) in
    let l : length c.in_ok-frame_of.frame_of.items ≡ n = ap length none ∙ length-replicate {A = ℕ} n 0 in
    let zeros : c.add_frame.new.frames.items ≡ replicate 512 0 =
    c.add_frame.ensures.items ∙ ap (λ (xs : List ℕ). xs ++ replicate 512 0) c.in_ok-frames.ensures.items in (
      first_frames n _ _ _ none zeros (omega (arith, c.add_frame.ensures.capacity, c.in_ok-frames.ensures.capacity)),
      omega (arith, l, c.div_ceil-pages.ensures),
    )

pub returns : goal.returns
returns c =
    first_words c.args.count _ _ (c.add_frame.ensures.items ∙ ap (λ (xs : List ℕ). xs ++ replicate 512 0) c.in_ok-frames.ensures.items)
