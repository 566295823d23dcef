use Rattle.std.proofs.Common.{arith}
use Rattle.std.proofs.lemmas.Result.{err_from_is_err_and}
use Rattle.dump_file.proofs.Openings.{head_ok, head_err}
use Rattle.dump_file.proofs.dump.read_head.Goals as goal

pub returns-in_err-table_at-clause-error : goal.returns-in_err-table_at-clause-error
returns-in_err-table_at-clause-error g c =
    let p = err_from_is_err_and c.from_residual-in_err-table_at.result c.from_residual-in_err-table_at.ensures.1 in
    rw (p.1, p.2)
    (head_err _ _ _ _ _ (omega arith) (omega arith) c.in_ok-fill_from.ensures.bound _ _ c.requires c.in_ok-fill_from.ensures.bytes
    c.in_err-table_at.ensures.table)

pub returns-clause-table : goal.returns-clause-table
returns-clause-table g c =
    head_ok _ _ _ _ _ (omega arith) (omega arith) c.in_ok-fill_from.ensures.bound _ _ c.requires c.in_ok-fill_from.ensures.bytes c.in_ok-table_at.ensures.table
