use Rattle.tagged_tlb.specs.declared.row.Kind.TheVariants.{Leaf1, Table1, Leaf2, Table2}
use Rattle.walk_cache.specs.ByKind.{SetsByKind}
use Rattle.walk_cache.proofs.EachKind.{one_tied, found_stand}
use Rattle.walk_cache.proofs.kinds.Kinds.find.Goals as goal

pub returns-in-Leaf1-clause-stand : goal.returns-in-Leaf1-clause-stand
returns-in-Leaf1-clause-stand g c =
    let s = c.self.inside in
    let old : SetsByKind = record { leaf1 = s.leaf1; table1 = s.table1; leaf2 = s.leaf2; table2 = s.table2 } in
    let found = c.find in
    rw (c.in-Leaf1.is, ← c.self.view_is)
    (λ d size live fits told f. found_stand size live old Leaf1 g.row.LEAVES1 g.row.WAYS1 fits.leaf1 d s.leaf1 found.result
    (found.ensures.stand d Leaf1 live told (one_tied size live old Leaf1 g.row.LEAVES1 g.row.WAYS1 fits.leaf1 f)))

pub returns-in-Leaf1-clause-best : goal.returns-in-Leaf1-clause-best
returns-in-Leaf1-clause-best g c =
    let s = c.self.inside in
    let old : SetsByKind = record { leaf1 = s.leaf1; table1 = s.table1; leaf2 = s.leaf2; table2 = s.table2 } in
    rw (c.in-Leaf1.is, ← c.self.view_is)
    (λ d size live fits told small f. c.find.ensures.best d Leaf1 live told small
    (one_tied size live old Leaf1 g.row.LEAVES1 g.row.WAYS1 fits.leaf1 f))

pub returns-in-Table1-clause-stand : goal.returns-in-Table1-clause-stand
returns-in-Table1-clause-stand g c =
    let s = c.self.inside in
    let old : SetsByKind = record { leaf1 = s.leaf1; table1 = s.table1; leaf2 = s.leaf2; table2 = s.table2 } in
    let found = c.find-in-Table1 in
    rw (c.in-Table1.is, ← c.self.view_is)
    (λ d size live fits told f. found_stand size live old Table1 g.row.TABLES g.row.WAYS fits.table1 d s.table1 found.result
    (found.ensures.stand d Table1 live told (one_tied size live old Table1 g.row.TABLES g.row.WAYS fits.table1 f)))

pub returns-in-Table1-clause-best : goal.returns-in-Table1-clause-best
returns-in-Table1-clause-best g c =
    let s = c.self.inside in
    let old : SetsByKind = record { leaf1 = s.leaf1; table1 = s.table1; leaf2 = s.leaf2; table2 = s.table2 } in
    rw (c.in-Table1.is, ← c.self.view_is)
    (λ d size live fits told small f. c.find-in-Table1.ensures.best d Table1 live told small
    (one_tied size live old Table1 g.row.TABLES g.row.WAYS fits.table1 f))

pub returns-in-Leaf2-clause-stand : goal.returns-in-Leaf2-clause-stand
returns-in-Leaf2-clause-stand g c =
    let s = c.self.inside in
    let old : SetsByKind = record { leaf1 = s.leaf1; table1 = s.table1; leaf2 = s.leaf2; table2 = s.table2 } in
    let found = c.find-in-Leaf2 in
    rw (c.in-Leaf2.is, ← c.self.view_is)
    (λ d size live fits told f. found_stand size live old Leaf2 g.row.LEAVES2 g.row.WAYS fits.leaf2 d s.leaf2 found.result
    (found.ensures.stand d Leaf2 live told (one_tied size live old Leaf2 g.row.LEAVES2 g.row.WAYS fits.leaf2 f)))

pub returns-in-Leaf2-clause-best : goal.returns-in-Leaf2-clause-best
returns-in-Leaf2-clause-best g c =
    let s = c.self.inside in
    let old : SetsByKind = record { leaf1 = s.leaf1; table1 = s.table1; leaf2 = s.leaf2; table2 = s.table2 } in
    rw (c.in-Leaf2.is, ← c.self.view_is)
    (λ d size live fits told small f. c.find-in-Leaf2.ensures.best d Leaf2 live told small
    (one_tied size live old Leaf2 g.row.LEAVES2 g.row.WAYS fits.leaf2 f))

pub returns-in-Table2-clause-stand : goal.returns-in-Table2-clause-stand
returns-in-Table2-clause-stand g c =
    let s = c.self.inside in
    let old : SetsByKind = record { leaf1 = s.leaf1; table1 = s.table1; leaf2 = s.leaf2; table2 = s.table2 } in
    let found = c.find-in-Table2 in
    rw (c.in-Table2.is, ← c.self.view_is)
    (λ d size live fits told f. found_stand size live old Table2 g.row.TABLES g.row.WAYS fits.table2 d s.table2 found.result
    (found.ensures.stand d Table2 live told (one_tied size live old Table2 g.row.TABLES g.row.WAYS fits.table2 f)))

pub returns-in-Table2-clause-best : goal.returns-in-Table2-clause-best
returns-in-Table2-clause-best g c =
    let s = c.self.inside in
    let old : SetsByKind = record { leaf1 = s.leaf1; table1 = s.table1; leaf2 = s.leaf2; table2 = s.table2 } in
    rw (c.in-Table2.is, ← c.self.view_is)
    (λ d size live fits told small f. c.find-in-Table2.ensures.best d Table2 live told small
    (one_tied size live old Table2 g.row.TABLES g.row.WAYS fits.table2 f))
