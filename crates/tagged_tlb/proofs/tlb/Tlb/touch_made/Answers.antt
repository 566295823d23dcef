use Rattle.std.proofs.Common.{◌≡◌, ◌<◌, [], length, get_or, sym, ◌∙◌, subst, arith}
use Rattle.tagged_tlb.specs.declared.row.Row.{Row}
use Rattle.tagged_tlb.specs.Sets.{to_end}
use Rattle.tagged_tlb.specs.Stands.{is_made}
use Rattle.tagged_tlb.specs.Tied.{IsTied}
use Rattle.tagged_tlb.proofs.Deepest.{place_within}
use Rattle.tagged_tlb.proofs.Stands.{set_lt, not_none, row_is}
use Rattle.tagged_tlb.proofs.tlb.Tlb.touch_made.Goals as goal

pub returns-then-set-len : goal.returns-then-set-len
returns-then-set-len g c = rw (← c.self.view_is)
    (λ kind live row told f st.
    let lt = set_lt kind g.row.SETS c.args.set c.args.made live c.self.inside.sets.items row told f st c.requires in
    absurd (omega (arith, lt, c.self.invariant.0, c.len.ensures, c.if-set-len.true)))

pub returns-in-None : goal.returns-in-None
returns-in-None g c = rw (← c.self.view_is)
    (λ kind live row told f st. not_none kind g.row.SETS c.args.set c.args.made live c.self.inside.sets.items row told f st c.requires
    c.index.result.now c.index.ensures (sym c.way_of.ensures ∙ c.in-None.is))

pub touch-requires : goal.touch-requires
touch-requires g c =
    let items = c.self.inside.sets.items in
    let lt : c.args.set < length items = omega (arith, c.len.ensures, c.if-set-len.false) in
    rw (← c.self.view_is) (
      omega arith,
      (
        lt,
        place_within items (is_made c.args.made) c.args.set c.in-Some.way c.index.result.now lt c.index.ensures
            (sym c.way_of.ensures ∙ c.in-Some.is),
      ),
    )

pub returns-in-Some : goal.returns-in-Some
returns-in-Some g c = λ kind live row told f st.
    let items = c.self.inside.sets.items in
    let f2 = subst (λ v. IsTied kind g.row.SETS live v) (sym c.self.view_is) f in
    let same = row_is kind g.row.SETS c.args.set c.args.made live items row told f2 st c.requires c.index.result.now c.index.ensures c.in-Some.way
    (sym c.way_of.ensures ∙ c.in-Some.is) in
    let same2 = subst (λ v. get_or (get_or v c.args.set []) c.in-Some.way row ≡ row) c.self.view_is same in
    subst (λ (v : Row). IsTied kind g.row.SETS (to_end live v) c.touch.new.self) same2 (c.touch.ensures row kind live told f)
