use Rattle.std.proofs.Common.{◌≡◌, take, map, length}
use Rattle.texts.specs.Shown.{shown_byte}
use Rattle.texts.proofs.line.shown_name.Given as goal

-- the bytes so far are shown
abbrev pub invariant-loop-i : goal.invariant-loop-i
invariant-loop-i l = record {
  size : length l.room ≡ 64;
  text : take l.i l.room ≡ map shown_byte (take l.i l.name);
}
