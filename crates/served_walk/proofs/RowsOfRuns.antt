-- The rows of a core can serve, over every run.
use Rattle.std.proofs.Common.{◌≡◌, ℕ, false, true, List, [], ◌∷◌, Option, inl, inr, refl}
use Rattle.sysregs.specs.declared.regs.Side.{Side}
use Rattle.sysregs.specs.declared.regs.Side.TheVariants.{Low}
use Rattle.sysregs.specs.Sides.{side_of}
use Rattle.trails.specs.Lengths.{most_items, most_items2}
use Rattle.walk_spec.specs.Ask.{ask, done}
use Rattle.walk_spec.specs.Needs.{regime_of}
use Rattle.walk_spec.specs.Steps.{reaches}
use Rattle.walk_spec.specs.BothStages.{walk}
use Rattle.machine_spec.specs.Header.{Header}
use Rattle.tagged_tlb.specs.declared.row.Kind.{Kind}
use Rattle.tagged_tlb.specs.declared.row.Kind.TheVariants.{Leaf1, Table1, Leaf2, Table2}
use Rattle.machine_spec.specs.Marks.{Mark}
use Rattle.tagged_tlb.specs.declared.row.Row.{Row}
use Rattle.machine_spec.specs.Machine.{core_numbered, world_after, run_of}
use Rattle.tagged_tlb.specs.Sets.{is_row}
use Rattle.tagged_tlb.specs.Tied.{IsOther, AreToldApart}
use Rattle.machine_laws.specs.Leaving.{In, uses_of}
use Rattle.machine_laws.proofs.Trees.{chain, flat}
use Rattle.machine_laws.proofs.Facts.{regime_for, IsStored, sided, IsRowBy, view_of}
use Rattle.machine_laws.proofs.Gone.{AreRanked}
use Rattle.machine_laws.proofs.LeavingRuns.{run_ranked}
use Rattle.machine_laws.proofs.Theorem.{facts_of_run}
use Rattle.machine_laws.proofs.Promised.{all_served, all_made}
use Rattle.served_walk.specs.CanServe.{ServesAs, RowsCanServe}
use Rattle.served_walk.proofs.Depth.{on_length, chain_most, walk_most}
use Rattle.served_walk.proofs.Servable.{leaf1_ends, leaf2_ends, table2_needs, table1_serves}

serves_as : (P : Side → Mark → Option ℕ → Type 0) (r : Row) (kind : Kind) → IsRowBy P r kind → ServesAs r kind
serves_as P r Leaf1 h = λ a m.
    let c = r.key.config in
    let l = h a m in (
      leaf1_ends (P (side_of a.va)) c r r.trail a m.on m.accepted l,
      on_length (regime_for c a) most_items (walk c false a) (done (reaches l.landing)) r.trail (walk_most c false a) l.on,
    )
serves_as P r Table1 h = λ a m.
    let c = r.key.config in
    let t = h.1 a m in (
      table1_serves (P (side_of a.va)) c r.trail a t t.to_table,
      on_length (regime_for c a) most_items (walk c true a) (flat (regime_for c a) t.plan) r.trail (walk_most c true a) t.on,
    )
serves_as P r Leaf2 h = λ s x held ok.
    let c = r.key.config in
    let l = h.2 s false x held in (
      leaf2_ends (P s) c s x r.trail ok r.region.class l,
      on_length (regime_of c s) most_items2 (chain (regime_of c s) false x) (done (reaches l.leaf)) r.trail (chain_most c s false x ok) l.on,
    )
serves_as P r Table2 h = λ s x held ok.
    let c = r.key.config in
    let t = h.2 s false x held in (
      table2_needs (P s) c s x r.trail ok t,
      on_length (regime_of c s) most_items2 (chain (regime_of c s) false x) (ask t.need t.go) r.trail (chain_most c s false x ok) t.on,
    )

other_of : (r : Row) (rows : List Row) → ((s : Row) → In s rows → is_row r s ≡ false) → IsOther r rows
other_of r [] h = tt
other_of r (s ∷ rows) h = (h s (inl refl), other_of r rows (λ x i. h x (inr i)))

told_of : (h : Header) (c : ℕ) (u rows : List Row) → AreRanked h c u rows → AreToldApart rows
told_of h c u [] a = tt
told_of h c u (r ∷ rows) a = (other_of r rows (λ s i. (a.0 s i).0), told_of h c u rows a.1)

pub rows_can_serve : RowsCanServe
rows_can_serve h events own c lt =
    let w = world_after h events in
    let ranked = (run_ranked h c lt events).1 in
    let facts = (facts_of_run all_served all_made h events own).each c Low lt in
    record {
      told = told_of h c (uses_of h c events) (core_numbered w c).cache.rows ranked.ranked;
      before = ranked.below;
      serves = λ r i. serves_as (λ s. IsStored (sided (view_of h (run_of h events) c Low) s) (core_numbered w c).inbox r) r r.kind (facts.rows r i);
    }
