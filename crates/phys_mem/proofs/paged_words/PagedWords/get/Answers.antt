use Rattle.std.proofs.Common.{arith}
use Rattle.phys_mem.proofs.Frames.{page_within, place_within, word_is}
use Rattle.phys_mem.proofs.paged_words.PagedWords.get.Goals as goal

pub index-frame-requires : goal.index-frame-requires
index-frame-requires c =
    let page = page_within _ _ _ c.self.invariant.0 _ c.args.index _ c.self.invariant.1 c.self.view_is c.requires in
    omega (arith, page, c.self.inside.frame_of.ok.0)

pub overflow_mul-frame : goal.overflow_mul-frame
overflow_mul-frame c =
    let place = place_within _ _ _ c.self.invariant.0 _ c.args.index _ c.self.invariant.1 c.self.view_is c.requires _ c.index-frame.ensures in
    omega (arith, place, c.self.inside.frames.ok.0)

pub overflow_add-frame : goal.overflow_add-frame
overflow_add-frame c =
    let place = place_within _ _ _ c.self.invariant.0 _ c.args.index _ c.self.invariant.1 c.self.view_is c.requires _ c.index-frame.ensures in
    omega (arith, place, c.self.inside.frames.ok.0)

pub index-requires : goal.index-requires
index-requires c =
    let place = place_within _ _ _ c.self.invariant.0 _ c.args.index _ c.self.invariant.1 c.self.view_is c.requires _ c.index-frame.ensures in
    omega (arith, place, c.self.inside.frames.ok.0)

pub returns : goal.returns
returns c =
    word_is _ _ _ c.self.invariant.0 _ c.args.index _ c.self.invariant.1 c.self.view_is c.requires _ c.index-frame.ensures _ c.index.ensures
