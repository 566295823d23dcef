use Rattle.tagged_tlb.specs.declared.row.Kind.TheVariants.{Leaf1, Table1, Leaf2, Table2}
use Rattle.walk_cache.specs.ByKind.{SetsByKind}
use Rattle.walk_cache.proofs.EachKind.{one_tied, seen_stands}
use Rattle.walk_cache.proofs.kinds.Kinds.deepest.Goals as goal

pub returns-in-Leaf1-clause-stands : goal.returns-in-Leaf1-clause-stands
returns-in-Leaf1-clause-stands g c =
    let s = c.self.inside in
    let old : SetsByKind = record { leaf1 = s.leaf1; table1 = s.table1; leaf2 = s.leaf2; table2 = s.table2 } in
    let found = c.deepest in
    rw (c.in-Leaf1.is, ← c.self.view_is)
    (λ d size live fits f. seen_stands size live old Leaf1 g.row.LEAVES1 g.row.WAYS1 fits.leaf1 d s.leaf1 found.result
    (found.ensures.stands d Leaf1 live (one_tied size live old Leaf1 g.row.LEAVES1 g.row.WAYS1 fits.leaf1 f)))

pub returns-in-Leaf1-clause-least : goal.returns-in-Leaf1-clause-least
returns-in-Leaf1-clause-least g c =
    let s = c.self.inside in
    let old : SetsByKind = record { leaf1 = s.leaf1; table1 = s.table1; leaf2 = s.leaf2; table2 = s.table2 } in
    rw (c.in-Leaf1.is, ← c.self.view_is)
    (λ d size live fits told small f. c.deepest.ensures.least d Leaf1 live told small
    (one_tied size live old Leaf1 g.row.LEAVES1 g.row.WAYS1 fits.leaf1 f))

pub returns-in-Table1-clause-stands : goal.returns-in-Table1-clause-stands
returns-in-Table1-clause-stands g c =
    let s = c.self.inside in
    let old : SetsByKind = record { leaf1 = s.leaf1; table1 = s.table1; leaf2 = s.leaf2; table2 = s.table2 } in
    let found = c.deepest-in-Table1 in
    rw (c.in-Table1.is, ← c.self.view_is)
    (λ d size live fits f. seen_stands size live old Table1 g.row.TABLES g.row.WAYS fits.table1 d s.table1 found.result
    (found.ensures.stands d Table1 live (one_tied size live old Table1 g.row.TABLES g.row.WAYS fits.table1 f)))

pub returns-in-Table1-clause-least : goal.returns-in-Table1-clause-least
returns-in-Table1-clause-least g c =
    let s = c.self.inside in
    let old : SetsByKind = record { leaf1 = s.leaf1; table1 = s.table1; leaf2 = s.leaf2; table2 = s.table2 } in
    rw (c.in-Table1.is, ← c.self.view_is)
    (λ d size live fits told small f. c.deepest-in-Table1.ensures.least d Table1 live told small
    (one_tied size live old Table1 g.row.TABLES g.row.WAYS fits.table1 f))

pub returns-in-Leaf2-clause-stands : goal.returns-in-Leaf2-clause-stands
returns-in-Leaf2-clause-stands g c =
    let s = c.self.inside in
    let old : SetsByKind = record { leaf1 = s.leaf1; table1 = s.table1; leaf2 = s.leaf2; table2 = s.table2 } in
    let found = c.deepest-in-Leaf2 in
    rw (c.in-Leaf2.is, ← c.self.view_is)
    (λ d size live fits f. seen_stands size live old Leaf2 g.row.LEAVES2 g.row.WAYS fits.leaf2 d s.leaf2 found.result
    (found.ensures.stands d Leaf2 live (one_tied size live old Leaf2 g.row.LEAVES2 g.row.WAYS fits.leaf2 f)))

pub returns-in-Leaf2-clause-least : goal.returns-in-Leaf2-clause-least
returns-in-Leaf2-clause-least g c =
    let s = c.self.inside in
    let old : SetsByKind = record { leaf1 = s.leaf1; table1 = s.table1; leaf2 = s.leaf2; table2 = s.table2 } in
    rw (c.in-Leaf2.is, ← c.self.view_is)
    (λ d size live fits told small f. c.deepest-in-Leaf2.ensures.least d Leaf2 live told small
    (one_tied size live old Leaf2 g.row.LEAVES2 g.row.WAYS fits.leaf2 f))

pub returns-in-Table2-clause-stands : goal.returns-in-Table2-clause-stands
returns-in-Table2-clause-stands g c =
    let s = c.self.inside in
    let old : SetsByKind = record { leaf1 = s.leaf1; table1 = s.table1; leaf2 = s.leaf2; table2 = s.table2 } in
    let found = c.deepest-in-Table2 in
    rw (c.in-Table2.is, ← c.self.view_is)
    (λ d size live fits f. seen_stands size live old Table2 g.row.TABLES g.row.WAYS fits.table2 d s.table2 found.result
    (found.ensures.stands d Table2 live (one_tied size live old Table2 g.row.TABLES g.row.WAYS fits.table2 f)))

pub returns-in-Table2-clause-least : goal.returns-in-Table2-clause-least
returns-in-Table2-clause-least g c =
    let s = c.self.inside in
    let old : SetsByKind = record { leaf1 = s.leaf1; table1 = s.table1; leaf2 = s.leaf2; table2 = s.table2 } in
    rw (c.in-Table2.is, ← c.self.view_is)
    (λ d size live fits told small f. c.deepest-in-Table2.ensures.least d Table2 live told small
    (one_tied size live old Table2 g.row.TABLES g.row.WAYS fits.table2 f))
