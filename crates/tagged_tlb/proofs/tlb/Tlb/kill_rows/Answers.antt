use Rattle.std.proofs.Common.{◌≡◌, Bool, List, drop, length, map, not, ap, sym, ◌∙◌, subst, arith}
use Rattle.std.specs.Prelude.{vec_len, filter}
use Rattle.std.proofs.lemmas.List.{length-map}
use Rattle.tlbi_ops.specs.Covers.{covers}
use Rattle.tagged_tlb.specs.declared.row.Row.{Row}
use Rattle.tagged_tlb.specs.Classes.{AreMarked}
use Rattle.tagged_tlb.specs.Stages.{AreStaged}
use Rattle.tagged_tlb.proofs.Staged.{staged_kills}
use Rattle.tagged_tlb.proofs.Classes.{marked_kills, marked_empty, kills_none, whole}
use Rattle.tagged_tlb.proofs.tlb.Tlb.kill_rows.Goals as goal

pub invariant_of-self : goal.invariant_of-self
invariant_of-self g c =
    let items : List (List Row) = c.self.inside.sets.items in
    let keep : Row → Bool = λ r. not (covers c.args.inval.now r.tag) in
    let killed : c.kill_each-left.new.sets ≡ map (filter keep) items = c.kill_each-left.ensures.killed ∙ ap (map (filter keep)) c.deref_mut.ensures.value in
    let len : length c.kill_each-left.new.sets ≡ length items = ap length killed ∙ length-map items (filter keep) in
    let all : vec_len c.self.inside.sets ≡ length c.kill_each-left.new.sets = omega (arith, len) in (
      c.self.invariant.0,
      rw (whole (vec_len c.self.inside.sets) c.kill_each-left.new.sets (drop (length c.kill_each-left.new.sets) items) all)
          (marked_empty 0 c.kill_each-left.new.sets (c.kill_each-left.ensures.none c.if-not-left.true)),
      rw (whole (vec_len c.self.inside.sets) c.kill_each-left.new.sets (drop (length c.kill_each-left.new.sets) items) all)
          (subst (AreStaged c.self.inside.stages) (sym killed) (staged_kills c.self.inside.stages keep items c.self.invariant.2)),
    )

pub invariant_of-self-else-not-left : goal.invariant_of-self-else-not-left
invariant_of-self-else-not-left g c =
    let items : List (List Row) = c.self.inside.sets.items in
    let keep : Row → Bool = λ r. not (covers c.args.inval.now r.tag) in
    let killed : c.kill_each-left.new.sets ≡ map (filter keep) items = c.kill_each-left.ensures.killed ∙ ap (map (filter keep)) c.deref_mut.ensures.value in
    let len : length c.kill_each-left.new.sets ≡ length items = ap length killed ∙ length-map items (filter keep) in
    let all : vec_len c.self.inside.sets ≡ length c.kill_each-left.new.sets = omega (arith, len) in (
      c.self.invariant.0,
      rw (whole (vec_len c.self.inside.sets) c.kill_each-left.new.sets (drop (length c.kill_each-left.new.sets) items) all)
          (subst (AreMarked c.self.inside.classes) (sym killed) (marked_kills c.self.inside.classes keep items c.self.invariant.1)),
      rw (whole (vec_len c.self.inside.sets) c.kill_each-left.new.sets (drop (length c.kill_each-left.new.sets) items) all)
          (subst (AreStaged c.self.inside.stages) (sym killed) (staged_kills c.self.inside.stages keep items c.self.invariant.2)),
    )

pub returns-else-self-ne0 : goal.returns-else-self-ne0
returns-else-self-ne0 g c =
    let items : List (List Row) = c.self.inside.sets.items in
    let keep : Row → Bool = λ r. not (covers c.args.inval.now r.tag) in
    rw (← c.self.view_is)
    (sym (kills_none keep items (subst (λ m. AreMarked m items) c.if-self-ne0.false c.self.invariant.1)))
