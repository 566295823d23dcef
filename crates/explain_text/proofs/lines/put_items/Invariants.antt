use Rattle.std.proofs.Common.{◌≡◌, ◌≤◌, ◌+◌, ◌*◌, ◌++◌, length, take, flat_map, codes}
use Rattle.explain_text.specs.Texts.{item_text, moment_text}
use Rattle.explain_text.proofs.lines.put_items.Given as goal

-- the lines of the items so far stand
abbrev pub invariant-loop-item : goal.invariant-loop-item
invariant-loop-item g l = record {
  room : length l.line ≤ length l.fn.line + 160 * l.item-index;
  text : l.line ≡ l.fn.line ++ flat_map (item_text l.in_run) (take l.item-index l.items);
  tail : l.ending.tail ≡ moment_text l.in_run l.ending.moment ++ codes "\n";
}
