use Rattle.std.proofs.Common.{arith}
use Rattle.phys_mem.proofs.Frames.{has_room, more_frames, same_words}
use Rattle.phys_mem.proofs.paged_words.frame_for.Goals as goal

pub add_frame-requires : goal.add_frame-requires
add_frame-requires c = has_room _ _ _ c.requires.frames c.args.page _ c.requires.page c.index-frame.ensures (omega (arith, c.if-frame-gt0.false))

pub returns-clause-frames : goal.returns-clause-frames
returns-clause-frames c =
    rw (c.add_frame.ensures.items, c.add_frame.ensures.capacity)
    (more_frames _ _ _ c.requires.frames c.args.page _ c.requires.page c.index-frame.ensures (omega (arith, c.if-frame-gt0.false)) _
    (omega (arith, c.len-next.ensures, c.args.frames.now.ok.0)))

pub returns-clause-words : goal.returns-clause-words
returns-clause-words c =
    rw c.add_frame.ensures.items
    (same_words _ _ _ c.requires.frames c.args.page _ c.requires.page c.index-frame.ensures (omega (arith, c.if-frame-gt0.false)) _
    (omega (arith, c.len-next.ensures, c.args.frames.now.ok.0)))
