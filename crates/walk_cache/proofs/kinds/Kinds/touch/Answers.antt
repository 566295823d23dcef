use Rattle.tagged_tlb.specs.declared.row.Kind.TheVariants.{Leaf1, Table1, Leaf2, Table2}
use Rattle.walk_cache.specs.ByKind.{SetsByKind}
use Rattle.walk_cache.proofs.EachKind.{rest_leaf1, rest_table1, rest_leaf2, rest_table2, serves}
use Rattle.walk_cache.proofs.kinds.Kinds.touch.Goals as goal

pub returns-in-Leaf1 : goal.returns-in-Leaf1
returns-in-Leaf1 g c =
    let s = c.self.inside in
    let old : SetsByKind = record { leaf1 = s.leaf1; table1 = s.table1; leaf2 = s.leaf2; table2 = s.table2 } in
    let went = c.touch_made in
    rw (← c.self.view_is)
    (λ size live row fits told f st. serves Leaf1 g.row.LEAVES1 g.row.WAYS1 size fits.leaf1 live told row c.args.service.now c.in-Leaf1.is st old
    (record old { leaf1 = went.new.self }) (rest_leaf1 old went.new.self) f (λ tied stands. went.ensures Leaf1 live row told tied stands))

pub returns-in-Table1 : goal.returns-in-Table1
returns-in-Table1 g c =
    let s = c.self.inside in
    let old : SetsByKind = record { leaf1 = s.leaf1; table1 = s.table1; leaf2 = s.leaf2; table2 = s.table2 } in
    let went = c.touch_made-in-Table1 in
    rw (← c.self.view_is)
    (λ size live row fits told f st. serves Table1 g.row.TABLES g.row.WAYS size fits.table1 live told row c.args.service.now c.in-Table1.is st old
    (record old { table1 = went.new.self }) (rest_table1 old went.new.self) f (λ tied stands. went.ensures Table1 live row told tied stands))

pub returns-in-Leaf2 : goal.returns-in-Leaf2
returns-in-Leaf2 g c =
    let s = c.self.inside in
    let old : SetsByKind = record { leaf1 = s.leaf1; table1 = s.table1; leaf2 = s.leaf2; table2 = s.table2 } in
    let went = c.touch_made-in-Leaf2 in
    rw (← c.self.view_is)
    (λ size live row fits told f st. serves Leaf2 g.row.LEAVES2 g.row.WAYS size fits.leaf2 live told row c.args.service.now c.in-Leaf2.is st old
    (record old { leaf2 = went.new.self }) (rest_leaf2 old went.new.self) f (λ tied stands. went.ensures Leaf2 live row told tied stands))

pub returns-in-Table2 : goal.returns-in-Table2
returns-in-Table2 g c =
    let s = c.self.inside in
    let old : SetsByKind = record { leaf1 = s.leaf1; table1 = s.table1; leaf2 = s.leaf2; table2 = s.table2 } in
    let went = c.touch_made-in-Table2 in
    rw (← c.self.view_is)
    (λ size live row fits told f st. serves Table2 g.row.TABLES g.row.WAYS size fits.table2 live told row c.args.service.now c.in-Table2.is st old
    (record old { table2 = went.new.self }) (rest_table2 old went.new.self) f (λ tied stands. went.ensures Table2 live row told tied stands))
