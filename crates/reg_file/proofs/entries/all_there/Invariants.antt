use Rattle.std.proofs.Common.{◌≡◌, drop, find, is_none}
use Rattle.toml.specs.View.{table_view}
use Rattle.reg_file.specs.RegisterFile.{entry, needed_regs}
use Rattle.reg_file.proofs.entries.all_there.Given as goal

-- the registers so far are there
abbrev pub invariant-loop-reg : goal.invariant-loop-reg
invariant-loop-reg l =
    find (λ reg. is_none (entry (table_view l.table) reg)) (drop l.reg-index l.reg-items) ≡ find
    (λ reg. is_none (entry (table_view l.table) reg)) needed_regs
