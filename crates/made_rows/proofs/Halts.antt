-- How a service halts: at an end of the walk, or for want of what the walk asks.
use Rattle.std.proofs.Common.{Bool, true, false, not, cond, List, [], ◌∷◌, Option, Some, None}
use Rattle.std.specs.Prelude.{◌&&◌}
use Rattle.sysregs.specs.Registers.{config_of}
use Rattle.sysregs.specs.Sides.{side_of}
use Rattle.trails.specs.declared.item.Item.{Item}
use Rattle.trails.specs.declared.outcome.Access.{Access}
use Rattle.tagged_tlb.specs.declared.row.Kind.TheVariants.{Leaf1, Table1, Leaf2, Table2}
use Rattle.tagged_tlb.specs.declared.row.Row.{Row}
use Rattle.tagged_tlb.specs.Rows.{matches, matches1, matching, deepest}
use Rattle.walk_spec.specs.Ask.{Ask, done, ask, Fed, ended, lacks}
use Rattle.walk_spec.specs.Needs.{Need, stage1_base, stage2_base, word}
use Rattle.walk_spec.specs.Steps.{End}
use Rattle.walk_spec.specs.Stage1.{untagged}
use Rattle.walk_spec.specs.BothStages.{Landing, is_refused1, walk}
use Rattle.walk_spec.specs.Fresh.{given}
use Rattle.machine_spec.specs.Made.{key_of}
use Rattle.machine_spec.specs.Served.{Halt, came, clash, Supplied, gives, halts, supplied_by, chain_by, begun2, chain_of, Place, fresh_of, supply}
use Rattle.machine_spec.specs.Served.{goes_on, serve, taken, begun1, combined, served}
use Rattle.made_rows.proofs.Ends.{IsLow, Ends, IsEnd, IsLanding, walk_ends}

-- a walk that was fed came to one of its ends, or lacks what it asks
abbrev pub IsFed : Fed Need (End Landing) → Type 0
IsFed (ended e) = IsEnd IsLanding e
IsFed (lacks n) = IsLow n

abbrev pub IsHalt : Halt → Type 0
IsHalt (came end) = IsFed end
IsHalt (clash one two) = Unit {0}

abbrev IsSupplied : Supplied → Type 0
IsSupplied (gives i rest by) = Unit {0}
IsSupplied (halts h) = IsHalt h

supplied_is : (n : Need) (o : Option Item) → IsLow n → IsSupplied (supplied_by n o)
supplied_is n None l = l
supplied_is n (Some i) l = tt

module _ (otherwise : Supplied) (rest : IsSupplied otherwise) where
  chain_is : (r : Row) (trail : List Item) → IsSupplied (chain_by r otherwise trail)
  chain_is r [] = rest
  chain_is r (i ∷ trail) = tt

  begun2_is : (t : Option Row) → IsSupplied (begun2 otherwise t)
  begun2_is None = rest
  begun2_is (Some r) = chain_is r r.trail

  chain_of_is : (leaves : List Row) (t : Option Row) → IsSupplied (chain_of otherwise leaves t)
  chain_of_is [] t = begun2_is t
  chain_of_is (r ∷ []) t = chain_is r r.trail
  chain_of_is (r ∷ s ∷ more) t = tt

module _ (sup : Need → Supplied) (is : (n : Need) → IsLow n → IsSupplied (sup n)) where
  goes_halt : (v : Supplied) (k : Item → Ask Need Item (End Landing)) → IsSupplied v
      → ((items : List Item) (i : Item) → IsHalt (serve sup items (k i)).halt) → IsHalt (goes_on v (λ i rest. serve sup rest (k i))).halt
  goes_halt (gives i rest by) k h g = g rest i
  goes_halt (halts halt) k h g = h

  serve_halt : (t : Ask Need Item (End Landing)) → Ends (IsEnd IsLanding) t → (items : List Item) → IsHalt (serve sup items t).halt
  serve_halt (done e) h [] = h
  serve_halt (done e) h (i ∷ items) = h
  serve_halt (ask n k) h [] = goes_halt (sup n) k (is n h.0) (λ items i. serve_halt (k i) (h.1 i) items)
  serve_halt (ask n k) h (i ∷ items) = serve_halt (k i) (h.1 i) items

taken_halt : (t : Ask Need Item (End Landing)) → Ends (IsEnd IsLanding) t → (items : List Item) → IsHalt (taken items t).halt
taken_halt (done e) h [] = h
taken_halt (done e) h (i ∷ items) = h
taken_halt (ask n k) h [] = h.0
taken_halt (ask n k) h (i ∷ items) = taken_halt (k i) (h.1 i) items

module _ (p : Place) (a : Access) where
  fresh_is : (n : Need) → IsLow n → IsSupplied (fresh_of p a n)
  fresh_is n l = supplied_is n (given p.regs (side_of a.va) p.memory p.step n) l

  supply_is : (n : Need) → IsLow n → IsSupplied (supply p a n)
  supply_is stage1_base l = fresh_is stage1_base l
  supply_is (stage2_base x) l =
      chain_of_is (fresh_of p a (stage2_base x)) (fresh_is (stage2_base x) l) (matching (matches Leaf2 (key_of p.regs) x) p.rows)
      (deepest (matches Table2 (key_of p.regs) x) p.rows)
  supply_is (word w) l = fresh_is (word w) l

  module _ (w : Ask Need Item (End Landing)) (h : Ends (IsEnd IsLanding) w) where
    begun1_halt : (t : Option Row) → IsHalt (begun1 t (λ items. serve (supply p a) items w)).halt
    begun1_halt None = serve_halt (supply p a) supply_is w h []
    begun1_halt (Some r) = serve_halt (supply p a) supply_is w h r.trail

    combined_halt : (leaves : List Row) (t : Option Row) → IsHalt (combined leaves t (supply p a) w).halt
    combined_halt [] t = begun1_halt t
    combined_halt (r ∷ []) t = taken_halt w h r.trail
    combined_halt (r ∷ s ∷ more) t = tt

  abbrev its_walk : Ask Need Item (End Landing)
  its_walk = walk (config_of p.regs) true a

  abbrev leaves : List Row
  leaves = matching (matches1 Leaf1 (key_of p.regs) (untagged a.va)) p.rows

  abbrev the_table : Option Row
  the_table = deepest (matches1 Table1 (key_of p.regs) (untagged a.va)) p.rows

  served_if : (on : Bool) → IsHalt (cond on (combined leaves the_table (supply p a) its_walk) (serve (supply p a) [] its_walk)).halt
  served_if true = combined_halt its_walk (walk_ends (config_of p.regs) true a) leaves the_table
  served_if false = serve_halt (supply p a) supply_is its_walk (walk_ends (config_of p.regs) true a) []

  -- whatever rows there are
  pub served_halt : IsHalt (served p a).halt
  served_halt = served_if ((config_of p.regs).m && not (is_refused1 (config_of p.regs) a))
