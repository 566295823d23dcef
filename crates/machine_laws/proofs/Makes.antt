-- Every reply makes rows well: the rows behind the step have their facts, and are told apart.
use Rattle.std.proofs.Common.{◌≡◌, ℕ, Bool, true, false, cond, List, [], ◌++◌, ◌/◌, ◌^◌}
use Rattle.std.proofs.Common.{◌⊎◌, inl, inr, refl, sym, ◌∙◌, subst, Option, Some, None}
use Rattle.std.specs.Prelude.{fold}
use Rattle.std.proofs.lemmas.Bool.{eq-eqb}
use Rattle.sysregs.specs.Sides.{side_of}
use Rattle.trails.specs.declared.outcome.Access.{Access}
use Rattle.trails.specs.declared.step.Step.{Step}
use Rattle.tlbi_ops.specs.declared.inval.Inval.{Inval}
use Rattle.tagged_tlb.specs.declared.row.Made.{Made}
use Rattle.walk_spec.specs.Ask.{done, ask, Fed, ended, lacks}
use Rattle.walk_spec.specs.declared.region.Region.{Region}
use Rattle.walk_spec.specs.Needs.{Need}
use Rattle.walk_spec.specs.Steps.{End}
use Rattle.walk_spec.specs.Stage1.{untagged}
use Rattle.walk_spec.specs.BothStages.{Landing}
use Rattle.tagged_tlb.specs.declared.row.Kind.TheVariants.{Leaf1}
use Rattle.tagged_tlb.specs.Shapes.{keeps_rows}
use Rattle.machine_spec.specs.Moments.{regs_after}
use Rattle.machine_spec.specs.Marks.{Mark, marks}
use Rattle.machine_spec.specs.Kept.{View, now}
use Rattle.tagged_tlb.specs.declared.row.Row.{Row}
use Rattle.tagged_tlb.specs.Rows.{holds}
use Rattle.machine_spec.specs.Made.{Maker, rows_of, combined_rows, rows_made}
use Rattle.tagged_tlb.specs.Sets.{added, touched}
use Rattle.machine_spec.specs.Served.{came, Reply}
use Rattle.machine_spec.specs.Machine.{Core}
use Rattle.machine_laws.proofs.Facts.{In, sided, regime_for, IsStored, IsRowBy, IsRow, IsApart1, Facts}
use Rattle.machine_laws.proofs.Laws.{Laws}
use Rattle.machine_laws.proofs.Lists.{In-append}
use Rattle.machine_laws.proofs.Fine.{config_at, here, UsedBy, ServedOk, longer, issued_now, MadeOk, MakesWell}
use Rattle.machine_laws.proofs.Making.{rows_of_words}
use Rattle.machine_laws.proofs.Combined.{combined_row, end_class, renumbered, numbered_cases, made_one}
use Rattle.machine_laws.proofs.Added.{IsKeyed, apart_added, within_touched, apart_touched, other_asid, made_same}
use Rattle.machine_laws.proofs.Sets.{all_added}
use Rattle.machine_laws.proofs.Lasting.{numbered_by}

-- NUMBERS

stored_numbered : (v : View) (inbox : List Inval) (r : Row) (d : Made) (m : Mark) (o : Option ℕ) → IsStored v inbox r m o
    → IsStored v inbox (renumbered r d) m o
stored_numbered v inbox r d m None f = record { before = f.before; held = f.held; word = f.word; tag_is = f.tag_is; pending = f.pending; asid = f.asid }
stored_numbered v inbox r d m (Some u) f = f

-- a row's fact doesn't look at its number
row_numbered : (v : View) (inbox : List Inval) (r : Row) (d : Made) → IsRow v inbox r → IsRow v inbox (renumbered r d)
row_numbered v inbox r d h =
    numbered_by (λ s. IsStored (sided v s) inbox r) (λ s. IsStored (sided v s) inbox (renumbered r d))
    (λ s. stored_numbered (sided v s) inbox r d) r d r.kind h

keyed_of : (v : View) (inbox : List Inval) (r : Row) → IsRow v inbox r → IsKeyed r
keyed_of v inbox r h e = let q = subst (IsRowBy (λ s. IsStored (sided v s) inbox r) r) e h in (q.0, q.1)

-- THE ROWS OF A STEP

module _ (laws : Laws) (v : View) (w : Core) (a : Access) (s : Step) (r : Reply) (side : v.side ≡ side_of a.va)
    (none : (i : Inval) → issued_now v s.event ≡ Some i → ⊥) (f : Facts v w)
    (ok : ServedOk v w.cache.rows a r) where
  abbrev maker : Maker
  maker = record { regs = regs_after v.core v.log; step = now v }

  abbrev met : List Mark
  met = marks (regime_for (config_at v) a) (here v a) r.items

  abbrev Then : Row → Type 0
  Then x = IsRow (longer v s) w.inbox x

  abbrev news : Fed Need (End Landing) → List Row
  news end = rows_made maker (untagged a.va) r.items met end

  before_numbers : (end : Fed Need (End Landing)) → UsedBy v a r (came end) → (z : Row)
      → In z (rows_of maker [] [] met) ⊎ In z (combined_rows maker (untagged a.va) r.items met end) → Then z
  before_numbers (ended e) u z (inl i) = rows_of_words laws v s none w.inbox a side r.items (done e) u.on u.used z i
  before_numbers (ended e) u z (inr i) = combined_row laws v s none w.inbox a side r.items e u.on u.used z i
  before_numbers (lacks n) u z (inl i) = rows_of_words laws v s none w.inbox a side r.items (ask n u.0) u.1.on u.1.used z i
  before_numbers (lacks n) u z (inr i) = absurd i

  have_facts : (end : Fed Need (End Landing)) → UsedBy v a r (came end) → (x : Row) → In x (news end) → Then x
  have_facts end u x i =
      let c = numbered_cases 0 (rows_of maker [] [] met ++ combined_rows maker (untagged a.va) r.items met end) x i in
      subst Then (sym c.2.1) (row_numbered (longer v s) w.inbox c.0 c.2.0
      (before_numbers end u c.0 (In-append (rows_of maker [] [] met) (combined_rows maker (untagged a.va) r.items met end) c.0 c.1)))

  -- no combined row before the step serves the same as one that was made
  alone : (end : Fed Need (End Landing)) (y : Row) → In y (news end) → y.kind ≡ Leaf1 → (x : Row) → In x w.cache.rows → IsApart1 x y
  alone end y i ly x ix =
      let d = made_one maker (untagged a.va) r.items met end y i ly in
      let n : ℕ = end_class end in
      let held : holds y.region (untagged a.va) ≡ true =
      subst (λ (z : Region). holds z (untagged a.va) ≡ true) (sym d.region_is) (eq-eqb (untagged a.va / 2 ^ n) (untagged a.va / 2 ^ n) refl) in
      other_asid (regs_after v.core v.log) (untagged a.va) x y (ok.alone d.mark_of d.last_is d.read x ix) d.key_is held

  filled_well : (b : Bool) (end : Fed Need (End Landing)) → UsedBy v a r (came end) →
      MadeOk v s w (cond b (fold (added v.header v.core) (record w.cache { rows = touched v.header.policy w.cache.rows r.by }) (news end)) w.cache)
  filled_well false end u = record { rows = λ x i. inl i; apart = f.apart }
  filled_well true end u =
      let served = within_touched w.cache.rows f.apart v.header.policy r.by ok.live in
      record {
        rows = λ x i. elim (all_added v.header v.core (news end) (record w.cache { rows = touched v.header.policy w.cache.rows r.by }) x i) [
          | inl m ↦ inl (served x m)
          | inr m ↦ inr (have_facts end u x m)
        ];
        apart = apart_added v.header v.core w.cache.rows (news end) (λ x i. keyed_of v w.inbox x (f.rows x i))
            (λ x i. keyed_of (longer v s) w.inbox x (have_facts end u x i)) (alone end)
            (λ x y ix iy lx ly.
            made_same maker (end_class end) (untagged a.va) met y x (ly ∙ sym lx) (made_one maker (untagged a.va) r.items met end y iy ly)
            (made_one maker (untagged a.va) r.items met end x ix lx))
            (news end) (record w.cache { rows = touched v.header.policy w.cache.rows r.by }) (λ x i. i) (λ x i. inl (served x i))
            (apart_touched w.cache.rows f.apart v.header.policy r.by ok.live);
      }

pub makes_well : Laws → MakesWell
makes_well laws v w a s r end side none f ok halt = filled_well laws v w a s r side none f ok (keeps_rows v.header.size) end (subst (UsedBy v a r) halt ok.used)
