-- An access over rows, as code does it: both stages.
use Rattle.std.proofs.Common.{◌≡◌, ℕ, ◌+◌, ◌≤◌, true, false, List, [], ◌++◌, length, length-append, refl, sym}
use Rattle.std.proofs.Common.{ap, ◌∙◌, subst, append_assoc, append-nil, arith, Option, Some, None, Ok, Err}
use Rattle.std.specs.Prelude.{map, IfErr}
use Rattle.sysregs.specs.declared.regs.Config.{Config}
use Rattle.sysregs.specs.Registers.{config_of}
use Rattle.sysregs.specs.Sides.{side_of}
use Rattle.trails.specs.declared.item.Item.{Item}
use Rattle.trails.specs.declared.outcome.Access.{Access}
use Rattle.trails.specs.declared.outcome.Outcome.{Outcome}
use Rattle.trails.specs.declared.outcome.Stop.{Stop}
use Rattle.trails.specs.declared.outcome.Stop.TheVariants.{Fault as FaultStop, Absent, Conflict}
use Rattle.trails.specs.Lengths.{most_items, most_items2}
use Rattle.walk_spec.specs.declared.entry.Table1.{Table1}
use Rattle.walk_spec.specs.declared.leaf.Leaf1.{Leaf1}
use Rattle.walk_spec.specs.declared.leaf.Leaf2.{Leaf2}
use Rattle.walk_spec.specs.Ask.{Ask, done, after}
use Rattle.walk_spec.specs.Needs.{Need, Regime, regime_of}
use Rattle.walk_spec.specs.Steps.{End, stops, reaches}
use Rattle.walk_spec.specs.Stage1.{Asked, stage1_from}
use Rattle.walk_spec.specs.BothStages.{Landing, asked, landed, judged2, stage2_behind, outcome_of}
use Rattle.translate.specs.Parts.{leaf1_or_off, out_of}
use Rattle.tagged_tlb.specs.declared.row.Kind.{Kind}
use Rattle.tagged_tlb.specs.declared.row.Row.{Row}
use Rattle.tagged_tlb.specs.declared.found.Slot.{Slot}
use Rattle.machine_spec.specs.Served.{Supplied, supply}
use Rattle.machine_laws.proofs.Stands.{on_after}
use Rattle.served_walk.specs.declared.met.Met.{Met}
use Rattle.served_walk.specs.declared.met.Service.{Service}
use Rattle.served_walk.specs.declared.scene.Scene.{Scene}
use Rattle.served_walk.specs.ServedWord.{WasServed}
use Rattle.served_walk.specs.Shows.{comes_out}
use Rattle.served_walk.specs.Meets.{place_with, service_row, second_in}
use Rattle.served_walk.specs.Chained.{Holds, RowAt, ChainGave, MayConflict, HasSecondRoom}
use Rattle.served_walk.specs.RowGiven.{KeptGave}
use Rattle.served_walk.specs.Accessed.{WholeGave, BelowGave}
use Rattle.served_walk.proofs.RowStage.{map_both, services_both}
use Rattle.served_walk.proofs.Whole.{was_stop, was_leaf, was_end, answered, both_flat, both_ends, both_stop2}

pub comes_answered : (e : End Landing) → outcome_of e ≡ comes_out (answered e)
comes_answered (reaches l) = refl
comes_answered (stops f) = refl

pub answered_room : (new : List Item) (m : Met) (e : End Landing) → IfErr (answered e) (HasSecondRoom new m)
answered_room new m (reaches l) = tt
answered_room new m (stops f) = tt

-- the output is that of the leaf
pub out_is : (c : Config) (a : Access) (leaf : Option Leaf1) → out_of a leaf ≡ (leaf1_or_off c a leaf).out
out_is c a None = refl
out_is c a (Some l) = refl

-- a conflict behind a trail that leaves room
second_room : (old new : List Item) (m : Met) (x : Stop) → MayConflict old new m x → length old + most_items2 ≤ most_items → HasSecondRoom new m x
second_room old new m (FaultStop f) h l = tt
second_room old new m (Absent s k p w) h l = tt
second_room old new m Conflict h l = omega (arith, h, l)

short_room : (new : List Item) (m : Met) (x : Stop) → length new + most_items2 ≤ most_items → HasSecondRoom new m x
short_room new m (FaultStop f) l = tt
short_room new m (Absent s k p w) l = tt
short_room new m Conflict l = omega (arith, l)

module _ {F : Type 0} (may : Holds F) (at : RowAt F) (z : Scene F) (a : Access) where
  abbrev pub c : Config
  c = config_of z.force.now

  abbrev pub q : Asked
  q = asked c true a

  abbrev pub row : Row → Kind → Slot → Row
  row d k v = at z.finds.now k v d

  abbrev pub rows : Row → List Service → List Row
  rows d l = map (service_row (row d)) l

  abbrev pub sup : List Row → Need → Supplied
  sup live = supply (place_with z live) a

  abbrev Output : End Leaf1 → Ask Need Item (End Landing)
  Output = stage2_behind q

  -- STAGE 2 OF THE OUTPUT

  pub flat_output : (l : Leaf1) (m : Met) (old : List Item) (o : Outcome) → c.vm ≡ false → o ≡ outcome_of (reaches (landed l))
      → WholeGave may at z a 1 (Output (reaches l)) m m old old o
  flat_output l m old o v e = record {
    result = Ok (landed l);
    outcome = e;
    room = tt;
    gave = record {
      items = [];
      grown = sym (append-nil old);
      services = [];
      noted = sym (append-nil m.services.items);
      few = omega arith;
      served = λ room live k d.
          record {
            live = tt;
            was = both_flat c a (sup live) (done (reaches l)) [] [] (second_in m) l (second_in m) v (was_end (sup live) (reaches l) (second_in m));
          };
    };
  }

  pub ends_output : (l : Leaf1) (n : Leaf2) (before met : Met) (old new : List Item) (o : Outcome) → c.vm ≡ true
      → o ≡ outcome_of (judged2 true a l (reaches n)) → ChainGave may at z false l.out before met old new (Ok n)
      → WholeGave may at z a 1 (Output (reaches l)) before met old new o
  ends_output l n before met old new o v e g = record {
    result = answered (judged2 true a l (reaches n));
    outcome = e ∙ comes_answered (judged2 true a l (reaches n));
    room = answered_room new met (judged2 true a l (reaches n));
    gave = record {
      items = g.items;
      grown = g.grown;
      services = g.services;
      noted = g.noted;
      few = g.few;
      served = λ room live k d.
          let w = g.served (omega (arith, room)) live k d in
          record {
            live = w.live;
            was = both_ends c a (sup live) (done (reaches l)) [] [] (second_in met) l v (was_end (sup live) (reaches l) (second_in met)) g.items
                (rows d g.services) (second_in met) n (w.was a (side_of a.va));
          };
    };
  }

  pub stop_output : (l : Leaf1) (x : Stop) (before met : Met) (old new : List Item) → c.vm ≡ true
      → ChainGave may at z false l.out before met old new (Err x)
      → MayConflict old new met x → length old + most_items2 ≤ most_items
      → WholeGave may at z a 1 (Output (reaches l)) before met old new (comes_out (Err x))
  stop_output l x before met old new v g h k = record {
    result = Err x;
    outcome = refl;
    room = second_room old new met x h k;
    gave = record {
      items = g.items;
      grown = g.grown;
      services = g.services;
      noted = g.noted;
      few = g.few;
      served = λ room live k d.
          let w = g.served (omega (arith, room)) live k d in
          record {
            live = w.live;
            was = both_stop2 c a (sup live) (done (reaches l)) [] [] (second_in met) l v (was_end (sup live) (reaches l) (second_in met)) g.items
                (rows d g.services) (second_in met) x (w.was a (side_of a.va));
          };
    };
  }

  -- BOTH STAGES BEHIND A TABLE

  module _ (left : ℕ) (t : Table1) (kept : List Item) (before mid : Met) (old new : List Item) where
    abbrev r : Regime
    r = regime_of c (side_of a.va)

    -- stage 1 reached a leaf
    pub below_gave : (l : Leaf1) (met : Met) (last : List Item) (o : Outcome) → KeptGave may at z a left t kept before mid old new (Ok l)
        → WholeGave may at z a 1 (Output (reaches l)) mid met new last o → BelowGave may at z a left t kept before met old last o
    below_gave l met last o k h =
        let g = k.gave in
        let y = h.gave in
        let n : length (g.services ++ y.services) ≡ length g.services + length y.services = length-append g.services y.services in
        let j : length mid.services.items ≡ length before.services.items + length g.services = ap length g.noted ∙ length-append before.services.items
        g.services in
        let gf = g.few in
        let yf = y.few in
        record {
          below = after k.below Output;
          on = on_after r (stage1_from q left t) k.below Output kept k.on;
          gave = record {
            result = h.result;
            outcome = h.outcome;
            room = h.room;
            gave = record {
              items = g.items ++ y.items;
              grown = y.grown ∙ ap (λ u. u ++ y.items) g.grown ∙ append_assoc (old ++ kept) g.items y.items;
              services = g.services ++ y.services;
              noted = y.noted ∙ ap (λ u. u ++ y.services) g.noted ∙ append_assoc before.services.items g.services y.services;
              few = omega (arith, n, gf, yf);
              served = λ room live m d.
                  let v = g.served (omega (arith, room)) live m d in
                  let w = y.served (omega (arith, room, j, gf)) live m d in
                  record {
                    live = services_both (row d) live g.services y.services v.live w.live;
                    was = subst (λ u. WasServed (sup live) (after k.below Output) (g.items ++ y.items) u (second_in met) h.result)
                        (sym (map_both (service_row (row d)) g.services y.services))
                        (was_leaf (sup live) k.below Output g.items (rows d g.services) (second_in mid) l y.items (rows d y.services) (second_in met) h.result
                        v.was w.was);
                  };
            };
          };
        }

    -- it stopped
    pub below_stop : (x : Stop) → KeptGave may at z a left t kept before mid old new (Err x) → length new + most_items2 ≤ most_items
        → BelowGave may at z a left t kept before mid old new (comes_out (Err x))
    below_stop x k h =
        let g = k.gave in
        let gf = g.few in
        record {
          below = after k.below Output;
          on = on_after r (stage1_from q left t) k.below Output kept k.on;
          gave = record {
            result = Err x;
            outcome = refl;
            room = short_room new mid x h;
            gave = record {
              items = g.items;
              grown = g.grown;
              services = g.services;
              noted = g.noted;
              few = omega (arith, gf);
              served = λ room live m d.
                  let v = g.served (omega (arith, room)) live m d in
                  record {
                    live = v.live;
                    was = was_stop (sup live) k.below Output g.items (rows d g.services) (second_in mid) x (λ e. refl) v.was;
                  };
            };
          };
        }
