-- The whole walk behind a table of stage 1, for each access of the table's region.
use Rattle.std.proofs.Common.{◌≡◌, ℕ, zero, suc, ◌≤◌, List, [], ◌∷◌, ◌++◌, refl, sym, ap, ◌∙◌}
use Rattle.std.proofs.Common.{arith, Bool, true, false, cond, inl, inr, Err, Result, subst, append-nil, pos}
use Rattle.std.specs.Prelude.{None}
use Rattle.geometry.specs.Tables.{class_of, level_of, most_left}
use Rattle.sysregs.specs.declared.regs.Config.{Config}
use Rattle.sysregs.specs.declared.regs.Side.{Side}
use Rattle.sysregs.specs.Sides.{side_of}
use Rattle.permissions.specs.declared.bits.TableBits.{TableBits}
use Rattle.permissions.specs.Rights.{joined}
use Rattle.fault_codes.specs.declared.fault.Fault.{Fault}
use Rattle.fault_codes.specs.declared.fault.Stage.TheVariants.{S1, S2}
use Rattle.fault_codes.specs.declared.fault.Class.TheVariants.{Translation}
use Rattle.descriptors.specs.declared.kinds.Kind1.TheVariants.{Table}
use Rattle.descriptors.specs.Meaning.{means1_of}
use Rattle.trails.specs.declared.item.Item.{Item}
use Rattle.trails.specs.declared.item.What.TheVariants.{Word}
use Rattle.trails.specs.declared.outcome.Access.{Access}
use Rattle.walk_spec.specs.declared.entry.Table1.{Table1}
use Rattle.walk_spec.specs.declared.entry.Entry1.{Entry1}
use Rattle.walk_spec.specs.declared.leaf.Leaf1.{Leaf1}
use Rattle.walk_spec.specs.Ask.{Ask, done, ask, after, Stands, needs, bad, ends, on}
use Rattle.walk_spec.specs.Needs.{Regime, Need, stage2_base, fits}
use Rattle.walk_spec.specs.Steps.{End, stops, reaches}
use Rattle.walk_spec.specs.Stage2.{walk2, walk2_behind, fault2, is_refused2}
use Rattle.walk_spec.specs.Stage1.{untagged, fault1, entry1, asked2, read1_by}
use Rattle.walk_spec.specs.BothStages.{Landing, landed, judged2, stage2_behind, is_refused1, stage1_on, stage1_off, is_refused_off, off_leaf, walk_by}
use Rattle.walk_laws.specs.Shift.{IsOpen}
use Rattle.walk_laws.proofs.Stepping.{Takes, InStep, LastIs, UsesAll, takes_all, takes_after, done_takes, last_back, step_after}
use Rattle.walk_laws.proofs.Places.{SameRegion}
use Rattle.walk_laws.proofs.Levels.{beneath, levels, levels_is, onward}
use Rattle.walk_laws.proofs.Sound.{IsOfFields}
use Rattle.walk_laws.proofs.Tables2.{level_of_one, fit_level, no_mapping}
use Rattle.walk_laws.proofs.Stage1.{had_by, under, Turn1, table, leaf, fault, turn1, by1, down1, class1, Same1}
use Rattle.walk_laws.proofs.Stage1.{behind1, Stepped1, stepped1, last_stage2, two_stages}

-- a walk goes on, or it has ended in a fault of stage 2 at level 0
abbrev pub Opens : {L : Type 0} → Ask Need Item (End L) → Type 0
Opens (ask n k) = Unit {0}
Opens (done (stops f)) = (f.stage ≡ S2) × (f.level ≡ pos 0)
Opens (done (reaches l)) = ⊥

opens : {L : Type 0} (f : Need → Item → Bool) (u : Ask Need Item (End L)) → IsOpen (on f u []) → Opens u
opens f (ask n k) h = h
opens f (done (stops d)) h = h
opens f (done (reaches l)) h = h

pub is_open : {L : Type 0} (f : Need → Item → Bool) (u : Ask Need Item (End L)) → Opens u → IsOpen (on f u [])
is_open f (ask n k) h = h
is_open f (done (stops d)) h = h
is_open f (done (reaches l)) h = h

uses_open : {L : Type 0} (s : Stands Need Item (End L)) → IsOpen s → UsesAll s
uses_open (needs n) h = tt
uses_open bad h = h
uses_open (ends (stops f) []) h = tt
uses_open (ends (stops f) (i ∷ items)) h = h
uses_open (ends (reaches l) items) h = absurd h

stage1_closed : (f : Fault) → f.stage ≡ S1 → f.stage ≡ S2 → ⊥
stage1_closed f h k = let q : S1 ≡ S2 = sym h ∙ k in cc

table_of : (c : Config) (s : Side) (left left' next : ℕ) (bits : TableBits) (i i' : Item) → i ≡ i' → left ≡ left' →
    means1_of c s left i.value ≡ Table next bits → means1_of c s left' i'.value ≡ Table next bits
table_of c s left left' next bits i i' e l m = rw (← e, ← l) m

class_of_table : (r : Regime) (j : Bool) (left next : ℕ) (bits : TableBits) (i : Item) → means1_of r.config r.side left i.value ≡ Table next bits →
    class_of r.stage1.granule left ≤ class1 r j left i
class_of_table r j left next bits i m = rw m (omega arith)

module _ (r : Regime) (j : Bool) where
  -- stage 2 of the output takes no word of stage 1
  output_stage2 : (a : Access) (l : Leaf1) (vm : Bool) (k : Item) (items : List Item) (u : Ask Need Item (End Landing)) (i : Item) →
      Takes (fits r) (cond vm (after (walk2 (asked2 r false l.out)) (λ e. done (judged2 j a l e))) (done (reaches (landed l)))) (k ∷ items) u →
      LastIs (k ∷ items) i → i.stage ≡ S1 → ⊥
  output_stage2 a l false k items u i h e o = h
  output_stage2 a l true k items u i h e o =
      elim (takes_after (fits r) (walk2 (asked2 r false l.out)) (λ e. done (judged2 j a l e)) (k ∷ items) u h) as (λ _. ⊥) [
        | inl w ↦ two_stages i o (last_stage2 r false l.out (k ∷ items) (ask w.0 w.1) i w.2 e)
        | inr w ↦ (let z = (done_takes (fits r) (judged2 j a l w.0) w.2 u w.5).0 in
            let s : k ∷ items ≡ w.1 = w.3 ∙ ap (λ y. w.1 ++ y) z ∙ append-nil w.1 in
            two_stages i o (last_stage2 r false l.out w.1 (done w.0) i w.4 (subst (λ (z : List Item). LastIs z i) s e)))
      ]

  behind_stage2 : (a : Access) (e : End Leaf1) (k : Item) (items : List Item) (u : Ask Need Item (End Landing)) (i : Item) →
      Takes (fits r) (stage2_behind (under r j a) e) (k ∷ items) u → LastIs (k ∷ items) i → i.stage ≡ S1 → ⊥
  behind_stage2 a (stops f) k items u i h l o = h
  behind_stage2 a (reaches d) k items u i h l o = output_stage2 a d r.config.vm k items u i h l o

  -- a whole walk with stage 1 on or off
  abbrev Whole : Bool → Access → Ask Need Item (End Landing)
  Whole m z = after (cond m (stage1_on (under r j z)) (stage1_off (under r j z))) (stage2_behind (under r j z))

  -- the last item was taken by stage 1, which is on
  abbrev Within : Bool → Access → List Item → Ask Need Item (End Landing) → Type 0
  Within m a items u = (m ≡ true)
      × ((w : Ask Need Item (End Leaf1)) × Takes (fits r) (stage1_on (under r j a)) items w × (u ≡ after w (stage2_behind (under r j a))))

  within_end : (a : Access) (front rest : List Item) (e : End Leaf1) (u : Ask Need Item (End Landing)) (i : Item) →
      Takes (fits r) (stage1_on (under r j a)) front (done e) → Takes (fits r) (stage2_behind (under r j a) e) rest u → LastIs (front ++ rest) i →
      i.stage ≡ S1 → Within true a (front ++ rest) u
  within_end a front [] e u i w h l o = (refl, (done e, rw append-nil w, h))
  within_end a front (k ∷ rest) e u i w h l o = absurd (behind_stage2 a e k rest u i h (last_back front k rest i l) o)

  within : (m : Bool) (a : Access) (items : List Item) (u : Ask Need Item (End Landing)) (i : Item) → Takes (fits r) (Whole m a) items u
      → LastIs items i →
      i.stage ≡ S1 → Within m a items u
  within false a [] u i h l o = absurd l
  within false a (k ∷ items) u i h l o = absurd (behind_stage2 a (cond (is_refused_off r.config a) (stops _)
      (reaches (off_leaf r.config a))) k items u i h l o)
  within true a items u i h l o =
      elim (takes_after (fits r) (stage1_on (under r j a)) (stage2_behind (under r j a)) items u h) as (λ _. Within true a items u) [
        | inl w ↦ (refl, (ask w.0 w.1, w.2, w.3))
        | inr w ↦ rw w.3 (within_end a w.1 w.2 w.0 u i w.4 w.5 (rw w.3 at l) o)
      ]

  abbrev Behind : Access → Ask Need Item (End Leaf1) → Ask Need Item (End Landing)
  Behind a u = after u (stage2_behind (under r j a))

  module _ (b : Access) where
    -- a table's entry opens, whatever it is
    opens_deep : (refused : Bool) (e : Entry1) (g : Result Item Fault → Ask Need Item (End Leaf1)) → ((d : Fault) → g (Err d) ≡ done (stops d)) →
        Opens (Behind b (after (after (cond refused (done (stops (fault2 (asked2 r true e.place) Translation most_left)))
        (ask (stage2_base e.place) (λ i. walk2_behind (asked2 r true e.place) i.value))) (read1_by r.config e)) g))
    opens_deep true e g h = rw (h (fault2 (asked2 r true e.place) Translation most_left)) (refl, refl)
    opens_deep false e g h = tt

    opens_had : (vm : Bool) (e : Entry1) (g : Result Item Fault → Ask Need Item (End Leaf1)) → ((d : Fault) → g (Err d) ≡ done (stops d)) →
        Opens (Behind b (after (had_by r e vm) g))
    opens_had true e g h = opens_deep (is_refused2 r.config e.place) e g h
    opens_had false e g h = tt

    opens_levels : (left : ℕ) (t : Table1) → Opens (Behind b (levels (down1 r j b) left t))
    opens_levels left t =
        rw (levels_is (down1 r j b) left t)
        (opens_had r.config.vm (entry1 (under r j b) left t) (onward (beneath (down1 r j b) left) (by1 r j b left t)) (λ d. refl))

  opens_beneath : (a b : Access) (left : ℕ) (t : Table1) → Opens (Behind a (beneath (down1 r j a) left t))
      → Opens (Behind b (beneath (down1 r j b) left t))
  opens_beneath a b zero t h = h
  opens_beneath a b (suc left) t h = opens_levels b left t

  -- behind a table both walks are open, if one is
  opens_behind : (a b : Access) (left : ℕ) (t : Table1) (i : Item) (next : ℕ) (bits : TableBits)
      → means1_of r.config r.side left i.value ≡ Table next bits →
      Turn1 r left i → Opens (Behind a (behind1 r j a b a left t i)) → Opens (Behind b (behind1 r j a b b left t i))
  opens_behind a b left t i next bits m (table n s al d) h =
      let w : Opens (Behind a (beneath (down1 r j a) left record { address = n; bits = joined t.bits s })) = rw (d j a t) at h in
      rw (d j b t) (opens_beneath a b left record { address = n; bits = joined t.bits s } w)
  opens_behind a b left t i next bits m (leaf f e d) h = absurd (no_mapping (f.out, f.contiguous) None refl (rw m at e))
  opens_behind a b left t i next bits m (fault k d) h =
      let w : Opens (Behind a (done (stops (fault1 k left)))) = rw (d j a t) at h in
      absurd (stage1_closed (fault1 k left) refl w.0)

  -- What is known of an open walk whose last item is a table of stage 1: the table's class is small, and the walk of each
  -- access of its region that is not refused goes in step with it, and is open too.
  pub record Opened (a b : Access) (left : ℕ) (items : List Item) : Type 0 where
    pub most : class_of r.stage1.granule left ≤ 52
    pub shift : Same1 r j a b (class_of r.stage1.granule left) → is_refused1 r.config b ≡ false → (u : Ask Need Item (End Landing))
        × (v : Ask Need Item (End Landing)) × InStep (fits r) (SameRegion r) (walk_by (under r j a)) (walk_by (under r j b)) items u v × Opens u × Opens v

  abbrev OpenedBy : Bool → (a b : Access) (left : ℕ) (items : List Item) → Type 0
  OpenedBy m a b left items = (class_of r.stage1.granule left ≤ 52)
      × (Same1 r j a b (class_of r.stage1.granule left) → is_refused1 r.config b ≡ false
      → (u : Ask Need Item (End Landing)) × (v : Ask Need Item (End Landing))
      × InStep (fits r) (SameRegion r) (Whole m a) (Whole m b) items u v × Opens u × Opens v)

  opened_at : (a b : Access) (items : List Item) (i : Item) (left next : ℕ) (bits : TableBits) (u : Ask Need Item (End Leaf1)) → LastIs items i
      → i.stage ≡ S1 →
      i.what ≡ Word → i.level ≡ level_of left → means1_of r.config r.side left i.value ≡ Table next bits → Opens (Behind a u)
      → Stepped1 r j a b items u →
      OpenedBy true a b left items
  opened_at a b items i left next bits u l o v e m h w =
      let q : i ≡ w.item = w.is_last i l o v in
      let n : left ≡ w.left = level_of_one left w.left (sym e ∙ ap (λ z. z.level) q
      ∙ fit_level r S1 w.left w.fit.0 false (untagged a.va) w.table.address w.item w.fit.1) in
      let m' = table_of r.config r.side left w.left next bits i w.item q n m in
      let c = class_of_table r j w.left next bits w.item m' in
      let d = w.lower in
      let s = w.sound.input in
      let k : class_of r.stage1.granule left ≡ class_of r.stage1.granule w.left = ap (λ z. class_of r.stage1.granule z) n in (
        omega (arith, d, s, k),
        λ same ok. (
            let st = step_after (fits r) (SameRegion r) (stage1_on (under r j a)) (stage1_on (under r j b)) (stage2_behind (under r j a))
            (stage2_behind (under r j b)) items _ _ (w.shift (class_of r.stage1.granule left) (omega (arith, c, k)) same ok) in (
              Behind a u,
              Behind b (behind1 r j a b b w.left w.table w.item),
              st,
              h,
              opens_behind a b w.left w.table w.item next bits m' (turn1 r w.left w.item)
                  (rw w.left_as at h),
            )),
      )

  opened_by : (m : Bool) (a b : Access) (items : List Item) (i : Item) (left next : ℕ) (bits : TableBits) → IsOfFields r → r.side ≡ side_of a.va →
      LastIs items i → i.stage ≡ S1 → i.what ≡ Word → i.level ≡ level_of left → means1_of r.config r.side left i.value ≡ Table next bits →
      (u : Ask Need Item (End Landing)) → Opens u → Within m a items u → OpenedBy m a b left items
  opened_by false a b items i left next bits f side l o v e m u h w = (let q : false ≡ true = w.0 in absurd cc)
  opened_by true a b items i left next bits f side l o v e m u h w =
      opened_at a b items i left next bits w.1.0 l o v e m (rw w.1.2 at h) (stepped1 r j a b f side items w.1.0 w.1.1 (inr (i, l, (o, v))))

  -- Where the last item is a table of stage 1 and the walk is open, it goes in step with that of each access of the table's
  -- region that is not refused, which is open too.
  pub tables1_in_step : (a b : Access) (items : List Item) (i : Item) (left next : ℕ) (bits : TableBits) → IsOfFields r → r.side ≡ side_of a.va →
      LastIs items i → i.stage ≡ S1 → i.what ≡ Word → i.level ≡ level_of left → means1_of r.config r.side left i.value ≡ Table next bits →
      IsOpen (on (fits r) (walk_by (under r j a)) items) → Opened a b left items
  tables1_in_step a b items i left next bits f side l o v e m h =
      let t = takes_all (fits r) (walk_by (under r j a)) items (uses_open _ h) in
      let d = opened_by r.config.m a b items i left next bits f side l o v e m t.0 (opens (fits r) t.0 (rw t.2 at h)) (within r.config.m a items t.0 i t.1 l o)
      in
      record { most = d.0; shift = d.1 }
