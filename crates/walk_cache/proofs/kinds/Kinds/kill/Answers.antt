use Rattle.std.proofs.Common.{Bool, not}
use Rattle.std.specs.Prelude.{filter}
use Rattle.tlbi_ops.specs.Covers.{covers}
use Rattle.tagged_tlb.specs.declared.row.Kind.TheVariants.{Leaf1, Table1, Leaf2, Table2}
use Rattle.tagged_tlb.specs.declared.row.Row.{Row}
use Rattle.walk_cache.specs.ByKind.{SetsByKind}
use Rattle.walk_cache.proofs.EachKind.{of_each, one_tied}
use Rattle.walk_cache.proofs.kinds.Kinds.kill.Goals as goal

pub returns : goal.returns
returns g c =
    let s = c.self.inside in
    let old : SetsByKind = record { leaf1 = s.leaf1; table1 = s.table1; leaf2 = s.leaf2; table2 = s.table2 } in
    let new : SetsByKind = record { leaf1 = c.kill.new.self; table1 = c.kill-2.new.self; leaf2 = c.kill-3.new.self; table2 = c.kill-4.new.self } in
    let keep : Row → Bool = λ r. not (covers c.args.inval.now r.tag) in
    rw (← c.self.view_is)
    (λ size live fits f. of_each size (filter keep live) new g.row.LEAVES1 g.row.WAYS1 g.row.TABLES g.row.LEAVES2 g.row.WAYS fits
    (c.kill.ensures Leaf1 live (one_tied size live old Leaf1 g.row.LEAVES1 g.row.WAYS1 fits.leaf1 f))
    (c.kill-2.ensures Table1 live (one_tied size live old Table1 g.row.TABLES g.row.WAYS fits.table1 f))
    (c.kill-3.ensures Leaf2 live (one_tied size live old Leaf2 g.row.LEAVES2 g.row.WAYS fits.leaf2 f))
    (c.kill-4.ensures Table2 live (one_tied size live old Table2 g.row.TABLES g.row.WAYS fits.table2 f)))
