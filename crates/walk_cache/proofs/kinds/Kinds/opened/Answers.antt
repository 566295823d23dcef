use Rattle.std.proofs.Common.{[]}
use Rattle.tagged_tlb.specs.declared.row.Kind.TheVariants.{Leaf1, Table1, Leaf2, Table2}
use Rattle.walk_cache.specs.ByKind.{SetsByKind}
use Rattle.walk_cache.proofs.EachKind.{of_each}
use Rattle.walk_cache.proofs.kinds.Kinds.opened.Goals as goal

pub returns : goal.returns
returns g c = λ size fits.
    let new : SetsByKind = record {
      leaf1 = c.in_ok-leaf1.leaf1;
      table1 = c.in_ok-table1.table1;
      leaf2 = c.in_ok-leaf2.leaf2;
      table2 = c.in_ok-table2.table2;
    } in
    of_each size [] new g.row.LEAVES1 g.row.WAYS1 g.row.TABLES g.row.LEAVES2 g.row.WAYS fits (c.in_ok-leaf1.ensures.tied Leaf1)
    (c.in_ok-table1.ensures.tied Table1) (c.in_ok-leaf2.ensures.tied Leaf2) (c.in_ok-table2.ensures.tied Table2)
