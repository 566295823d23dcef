use Rattle.std.proofs.Common.{◌≡◌}
use Rattle.toml.specs.View.{members_view, table_view}
use Rattle.reg_file.specs.RegisterFile.{first_unknown}
use Rattle.reg_file.proofs.entries.all_known.Given as goal

-- the keys so far are known
abbrev pub invariant-loop-key : goal.invariant-loop-key
invariant-loop-key l =
    (goal.iterator-loop-key).can_next l.key-iterator ×
    (goal.iterator-loop-key).is_finite l.key-iterator ×
    (first_unknown (members_view l.key-iterator) ≡ first_unknown (table_view l.table))
