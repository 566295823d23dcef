use Rattle.std.proofs.Common.{◌≡◌, ◌++◌, replicate}
use Rattle.std.specs.Prelude.{vec_capacity}
use Rattle.phys_mem.proofs.paged_words.add_frame.Given as goal

-- so many words of 0 stand behind those of before
abbrev pub invariant-loop-word : goal.invariant-loop-word
invariant-loop-word l = record {
  items : l.frames.items ≡ l.fn.frames.items ++ replicate l._word 0;
  capacity : vec_capacity l.frames ≡ vec_capacity l.fn.frames;
}
