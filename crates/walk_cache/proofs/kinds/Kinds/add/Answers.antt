use Rattle.std.proofs.Common.{sym, ap, ◌∙◌}
use Rattle.tagged_tlb.specs.declared.row.Row.{Row}
use Rattle.tagged_tlb.specs.declared.row.Kind.TheVariants.{Leaf1, Table1, Leaf2, Table2}
use Rattle.walk_cache.specs.ByKind.{SetsByKind}
use Rattle.walk_cache.proofs.EachKind.{rest_leaf1, rest_table1, rest_leaf2, rest_table2, comes}
use Rattle.walk_cache.proofs.kinds.Kinds.add.Goals as goal

pub returns-in-Leaf1-clause-added : goal.returns-in-Leaf1-clause-added
returns-in-Leaf1-clause-added g c =
    let s = c.self.inside in
    let own = sym (ap (λ (x : Row). x.kind) c.row.view_is) in
    let old : SetsByKind = record { leaf1 = s.leaf1; table1 = s.table1; leaf2 = s.leaf2; table2 = s.table2 } in
    let got = c.add in
    rw (← c.self.view_is)
    (λ h core l fits same at f. comes Leaf1 g.row.LEAVES1 g.row.WAYS1 h fits.leaf1 core l c.args.row.now (own ∙ c.in-Leaf1.is) old
    (record old { leaf1 = got.new.self })
    (rest_leaf1 old got.new.self) f got.result got.new.by (λ shapes tied. got.ensures.added h core l same shapes at tied))

pub returns-in-Table1-clause-added : goal.returns-in-Table1-clause-added
returns-in-Table1-clause-added g c =
    let s = c.self.inside in
    let own = sym (ap (λ (x : Row). x.kind) c.row.view_is) in
    let old : SetsByKind = record { leaf1 = s.leaf1; table1 = s.table1; leaf2 = s.leaf2; table2 = s.table2 } in
    let got = c.add-in-Table1 in
    rw (← c.self.view_is)
    (λ h core l fits same at f. comes Table1 g.row.TABLES g.row.WAYS h fits.table1 core l c.args.row.now (own ∙ c.in-Table1.is) old
    (record old { table1 = got.new.self })
    (rest_table1 old got.new.self) f got.result got.new.by (λ shapes tied. got.ensures.added h core l same shapes at tied))

pub returns-in-Leaf2-clause-added : goal.returns-in-Leaf2-clause-added
returns-in-Leaf2-clause-added g c =
    let s = c.self.inside in
    let own = sym (ap (λ (x : Row). x.kind) c.row.view_is) in
    let old : SetsByKind = record { leaf1 = s.leaf1; table1 = s.table1; leaf2 = s.leaf2; table2 = s.table2 } in
    let got = c.add-in-Leaf2 in
    rw (← c.self.view_is)
    (λ h core l fits same at f. comes Leaf2 g.row.LEAVES2 g.row.WAYS h fits.leaf2 core l c.args.row.now (own
    ∙ c.in-Leaf2.is) old (record old { leaf2 = got.new.self })
    (rest_leaf2 old got.new.self) f got.result got.new.by (λ shapes tied. got.ensures.added h core l same shapes at tied))

pub returns-in-Table2-clause-added : goal.returns-in-Table2-clause-added
returns-in-Table2-clause-added g c =
    let s = c.self.inside in
    let own = sym (ap (λ (x : Row). x.kind) c.row.view_is) in
    let old : SetsByKind = record { leaf1 = s.leaf1; table1 = s.table1; leaf2 = s.leaf2; table2 = s.table2 } in
    let got = c.add-in-Table2 in
    rw (← c.self.view_is)
    (λ h core l fits same at f. comes Table2 g.row.TABLES g.row.WAYS h fits.table2 core l c.args.row.now (own ∙ c.in-Table2.is) old
    (record old { table2 = got.new.self })
    (rest_table2 old got.new.self) f got.result got.new.by (λ shapes tied. got.ensures.added h core l same shapes at tied))
