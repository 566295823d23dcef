use Rattle.std.proofs.Common.{sym, subst}
use Rattle.walk_cache.specs.ByKind.{no_rows}
use Rattle.cpu_model.specs.Cores.{AreCaches}
use Rattle.machine.proofs.seat.Seat.opened.Goals as goal

pub returns : goal.returns
returns c h size policy = record {
  number = c.in_ok-cpu.ensures.number;
  bank = c.in_ok-cpu.ensures.bank;
  inbox = c.in-Ok.ensures.items;
  caches = subst (λ n. AreCaches h n no_rows c.in_ok-cpu.cpu) (sym c.in_ok-cpu.ensures.number) (c.in_ok-cpu.ensures.rows h size policy);
}
