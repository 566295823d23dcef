-- The shapes of each size, and what caches in them keep.
use Rattle.std.proofs.Common.{◌≡◌, ℕ, true, List, [], refl, ap, sym, ◌∙◌, subst}
use Rattle.std.specs.Prelude.{fold}
use Rattle.std.proofs.lemmas.Bool.{both_ways}
use Rattle.trace_lang.specs.declared.header.Size.{Size}
use Rattle.trace_lang.specs.declared.header.Size.TheVariants.{NoRows, Small, Medium, Large}
use Rattle.trace_lang.specs.Traces.{Header}
use Rattle.tlbi_ops.specs.declared.inval.Inval.{Inval}
use Rattle.tagged_tlb.specs.declared.row.Row.{Row}
use Rattle.tagged_tlb.specs.declared.chooser.Chooser.{Chooser}
use Rattle.tagged_tlb.specs.Shapes.{keeps_rows}
use Rattle.tagged_tlb.specs.Sets.{Cache, to_end}
use Rattle.machine_spec.specs.Machine.{killed}
use Rattle.walk_cache.specs.declared.caches.Held.{Held}
use Rattle.served_walk.specs.declared.met.Service.{Service}
use Rattle.walk_cache.specs.ByKind.{CachesState, HasShapes, AreTied, AreCachesOf, no_rows}
use Rattle.walk_cache.specs.Services.{AreServices}
use Rattle.walk_cache.specs.Sized.{size_of, sets_held, state_of}
use Rattle.walk_cache.proofs.Moves.{none_served}

pub small_fits : (size : Size) → size ≡ Small → HasShapes size 1 8 1 1 8
small_fits size e = subst (λ s. HasShapes s 1 8 1 1 8) (sym e) (record { leaf1 = refl; table1 = refl; leaf2 = refl; table2 = refl })

pub medium_fits : (size : Size) → size ≡ Medium → HasShapes size 16 4 4 8 4
medium_fits size e = subst (λ s. HasShapes s 16 4 4 8 4) (sym e) (record { leaf1 = refl; table1 = refl; leaf2 = refl; table2 = refl })

pub large_fits : (size : Size) → size ≡ Large → HasShapes size 64 8 16 32 4
large_fits size e = subst (λ s. HasShapes s 64 8 16 32 4) (sym e) (record { leaf1 = refl; table1 = refl; leaf2 = refl; table2 = refl })

pub small_keeps : (size : Size) → size ≡ Small → keeps_rows size ≡ true
small_keeps size e = ap keeps_rows e

pub medium_keeps : (size : Size) → size ≡ Medium → keeps_rows size ≡ true
medium_keeps size e = ap keeps_rows e

pub large_keeps : (size : Size) → size ≡ Large → keeps_rows size ≡ true
large_keeps size e = ap keeps_rows e

-- ROWS GO OR MOVE

module _ (h : Header) (core : ℕ) (l : Cache) (held : Held) (by : Chooser) (f : AreCachesOf h core l (state_of held by)) where
  pub kept : (rows : List Row) (held2 : Held) → keeps_rows h.size ≡ true → size_of held2 ≡ size_of held → AreTied h.size rows (sets_held held2)
      → AreCachesOf h core (record l { rows = rows }) (state_of held2 by)
  kept rows held2 keeps same tied = record {
    size_is = f.size_is ∙ sym same;
    policy_is = f.policy_is;
    tied = tied;
    at = f.at;
    empty = λ e. absurd (both_ways (keeps_rows h.size) e keeps);
  }

-- WITHOUT ROWS

module _ (h : Header) (core : ℕ) (l : Cache) (v : CachesState) (f : AreCachesOf h core l v) (none : v.size ≡ NoRows) where
  pub none_is : l ≡ no_rows
  none_is =
      let e = f.empty (ap keeps_rows (f.size_is ∙ none)) in
      ap (λ rows. record { rows = rows; evictions = l.evictions }) e.0 ∙ ap (λ n. record { rows = []; evictions = n }) e.1

  same : AreCachesOf h core no_rows v
  same = subst (λ x. AreCachesOf h core x v) none_is f

  pub none_killed : (i : Inval) → AreCachesOf h core (killed l i) v
  none_killed i = subst (λ x. AreCachesOf h core (killed x i) v) (sym none_is) same

  pub none_moved : (services : List Service) (served : List Row) → AreServices h.size l.rows services served
      → AreCachesOf h core (record l { rows = fold to_end l.rows served }) v
  none_moved services served a =
      subst (λ (x : Cache). AreServices h.size x.rows services served → AreCachesOf h core (record x { rows = fold to_end x.rows served }) v) (sym none_is)
      (λ b. subst (λ s. AreCachesOf h core (record no_rows { rows = fold to_end [] s }) v) (sym (none_served h.size services served b)) same) a
