use Rattle.std.proofs.Common.{◌≡◌, drop}
use Rattle.std.specs.Prelude.{bytes_eq}
use Rattle.std.specs.List.{list_any}
use Rattle.sysregs.specs.Names.{reg_key}
use Rattle.reg_file.specs.RegisterFile.{is_known}
use Rattle.reg_file.proofs.entries.known.Given as goal

-- none of the names so far is the key
abbrev pub invariant-loop-reg : goal.invariant-loop-reg
invariant-loop-reg l = list_any (λ reg. bytes_eq l.key (reg_key reg)) (drop l.reg-index l.reg-items) ≡ is_known l.key
