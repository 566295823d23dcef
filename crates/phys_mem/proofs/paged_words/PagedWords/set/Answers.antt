use Rattle.std.proofs.Common.{◌<◌, ℕ, List, length, sym, subst}
use Rattle.phys_mem.specs.Pages.{listed, word_at}
use Rattle.phys_mem.proofs.Frames.{page_within, written_words}
use Rattle.phys_mem.proofs.paged_words.PagedWords.set.Goals as goal

pub frame_for-frame-requires-clause-page : goal.frame_for-frame-requires-clause-page
frame_for-frame-requires-clause-page c = page_within _ _ _ c.self.invariant.0 _ c.args.index _ c.self.invariant.1 c.self.view_is c.requires

pub returns : goal.returns
returns c =
    let w = c.self.inside in
    let f = c.frame_for-frame in
    let word = word_at w.frame_of.items w.frames.items in
    let inside : c.args.index < length (listed w.count 0 word) = subst (λ (v : List ℕ). c.args.index < length v) (sym c.self.view_is) c.requires in
    rw (← c.self.view_is)
    (written_words f.new.frame_of.items f.new.frames.items _ f.ensures.frames c.args.index c.args.value f.result f.ensures.is f.ensures.own w.count word inside
    f.ensures.words)
