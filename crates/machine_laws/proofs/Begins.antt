-- What the rows of stage 2 give: each chain begins well.
use Rattle.std.proofs.Common.{◌≡◌, ℕ, zero, suc, Bool, true, false, cond, List, [], ◌∷◌, length, inl}
use Rattle.std.proofs.Common.{inr, refl, sym, ap, ◌∙◌, subst, Option, Some, None, arith}
use Rattle.std.proofs.lemmas.List.{take_all}
use Rattle.std.proofs.lemmas.Bool.{both_ways}
use Rattle.sysregs.specs.Registers.{config_of, asid_of, vmid_of}
use Rattle.sysregs.specs.Sides.{side_of}
use Rattle.trails.specs.declared.item.Item.{Item}
use Rattle.trails.specs.declared.outcome.Access.{Access}
use Rattle.tlbi_ops.specs.Covers.{covers}
use Rattle.table_reads.specs.Places.{is_too_large}
use Rattle.walk_spec.specs.declared.leaf.Leaf2.{Leaf2}
use Rattle.walk_spec.specs.Ask.{done, ask}
use Rattle.walk_spec.specs.Needs.{Regime, regime_of, stage2_base, fits}
use Rattle.walk_spec.specs.Steps.{stops, reaches}
use Rattle.geometry.specs.Tables.{most_left}
use Rattle.fault_codes.specs.declared.fault.Class.TheVariants.{AddressSize}
use Rattle.walk_spec.specs.Stage2.{walk2_behind, walk2_from, Asked2, fault2}
use Rattle.walk_spec.specs.Stage1.{asked2}
use Rattle.walk_spec.specs.Fresh.{start_base2}
use Rattle.table_reads.specs.Numbers.{sizes2}
use Rattle.table_reads.specs.Items.{base_item}
use Rattle.fault_codes.specs.declared.fault.Stage.TheVariants.{S2}
use Rattle.tagged_tlb.specs.declared.row.Kind.{Kind}
use Rattle.tagged_tlb.specs.declared.row.Kind.TheVariants.{Leaf2 as leaf2, Table2 as table2}
use Rattle.machine_spec.specs.Moments.{regs_after}
use Rattle.machine_spec.specs.Marks.{Mark, mark, marks, is_first, has_asid}
use Rattle.machine_spec.specs.Uses.{AllUsed, LastIs}
use Rattle.machine_spec.specs.Kept.{View, now, regs_when, IsHeld, IsKeptItem, IsNowBase}
use Rattle.machine_spec.specs.Allowed.{last_entry}
use Rattle.tagged_tlb.specs.declared.row.Row.{Row}
use Rattle.tagged_tlb.specs.Rows.{matches, matching, deepest}
use Rattle.machine_spec.specs.Made.{key_of}
use Rattle.machine_spec.specs.Served.{Supplied, chain_by, begun2, chain_of, fresh_of, supply}
use Rattle.machine_spec.specs.Machine.{Core}
use Rattle.machine_laws.proofs.Trees.{chain, IsWords, IsWord, AllSecond}
use Rattle.machine_laws.proofs.Facts.{In, sided, regime_for, IsStored, IsLeafRow2, IsTableRow2, IsRowBy, IsApart, AllApart, Facts}
use Rattle.machine_laws.proofs.Laws.{Laws}
use Rattle.machine_laws.proofs.Stands.{second_marks, words_second, mark_first, mark_item, marks_nil}
use Rattle.machine_laws.proofs.Uses.{second_map, use_second, above_second, last_map}
use Rattle.machine_laws.proofs.Fine.{Good, place_of, config_at, Whole, Begins}
use Rattle.machine_laws.proofs.Found.{In-matching, In-deepest, apart_matching, Match, matched, region_same}

-- the registers of now are those behind the log
pub regs_now : (v : View) → regs_when v (now v) ≡ regs_after v.core v.log
regs_now v = ap (regs_after v.core) (take_all (length v.log) v.log (omega arith))

-- the items of a chain are of stage 2
pub chain_second : (laws : Laws) (r : Regime) (p : Bool) (x : ℕ) (items : List Item) → AllSecond (marks r (chain r p x) items)
chain_second laws r p x items =
    second_marks r (chain r p x) items (refl, λ i. words_second (walk2_behind (asked2 r p x) i.value) (laws.behind_words r p x i.value))

-- an item of stage 2 has no ASID
pub no_asid : (m : Mark) → is_first m ≡ false → has_asid m ≡ true → ⊥
no_asid m h e = both_ways (has_asid m) (rw h refl) e

word_base : (k : ℕ) (m : Mark) → IsWord m → IsNowBase k m
word_base k m h = λ b. absurd (both_ways m.base h b)

pub last_word_base : (k : ℕ) (ms : List Mark) → LastIs IsWord ms → LastIs (IsNowBase k) ms
last_word_base k ms h = last_map IsWord (IsNowBase k) (word_base k) ms h

from_asks : (q : Asked2) (left base : ℕ) (l : Leaf2) → walk2_from q left base ≡ done (reaches l) → ⊥
from_asks q zero base l e = absurd cc
from_asks q (suc left) base l e = absurd cc

behind_if : (q : Asked2) (base : ℕ) (l : Leaf2) (b : Bool)
    → cond b (done (stops (fault2 q AddressSize most_left))) (walk2_from q q.sizes.start base) ≡ done (reaches l) → ⊥
behind_if q base l true e = absurd cc
behind_if q base l false e = from_asks q q.sizes.start base l e

-- behind a base comes no leaf
behind_asks : (q : Asked2) (base : ℕ) (l : Leaf2) → walk2_behind q base ≡ done (reaches l) → ⊥
behind_asks q base l e = behind_if q base l (is_too_large q.sizes base) e

module _ (v : View) (w : Core) (f : Facts v w) where
  -- what a row that matches shares with now
  pub record Same (r : Row) : Type 0 where
    pub config_same : r.key.config ≡ config_at v
    pub vmid_same : r.key.vmid ≡ vmid_of (regs_after v.core v.log)

  held_now : (r : Row) → Same r → (m : Mark) → IsHeld v r.key.config r.key.vmid m → IsHeld v (config_of (regs_when v (now v)))
      (vmid_of (regs_when v (now v))) m
  held_now r s m h =
      subst (λ n. IsHeld v (config_of (regs_when v (now v))) n m) (s.vmid_same ∙ sym (ap vmid_of (regs_now v)))
      (subst (λ c. IsHeld v c r.key.vmid m) (s.config_same ∙ sym (ap config_of (regs_now v))) h)

  kept_now : (r : Row) → Same r → (m : Mark) (u : ℕ) → IsKeptItem v r.key.config r.key.vmid m u
      → IsKeptItem v (config_of (regs_when v (now v))) (vmid_of (regs_when v (now v))) m u
  kept_now r s m u h =
      subst (λ n. IsKeptItem v (config_of (regs_when v (now v))) n m u) (s.vmid_same ∙ sym (ap vmid_of (regs_now v)))
      (subst (λ c. IsKeptItem v c r.key.vmid m u) (s.config_same ∙ sym (ap config_of (regs_now v))) h)

  -- what is stored in a row that matches is good now
  pub stored_good : (r : Row) → Same r → (m : Mark) (o : Option ℕ) → (has_asid m ≡ true → r.global ≡ false
      → r.key.asid ≡ asid_of (regs_after v.core v.log)) →
      IsStored v w.inbox r m o → Good v m o
  stored_good r s m None asid h = (
    record {
      past = omega (arith, h.before);
      held = held_now r s m h.held;
      at_base = λ b. absurd (both_ways m.base h.word b);
      live = λ b k i past at reach cov done. (f.mail i (h.pending k i past at reach (subst (λ t. covers i t ≡ true) h.tag_is cov))).1 done;
      asid = λ n. (h.asid n).0 ∙ asid n (h.asid n).1 ∙ sym (ap asid_of (regs_now v));
    },
    omega arith,
  )
  stored_good r s m (Some u) asid h = (kept_now r s m u h.0, omega (arith, h.1))

  -- the last item of a row's chain is a word
  pub last_stored : (r : Row) (ms : List Mark) → AllSecond ms → AllUsed (IsStored v w.inbox r) None ms → LastIs IsWord ms
  last_stored r [] s h = tt
  last_stored r (m ∷ []) s h = let l : IsStored v w.inbox r m None = subst (IsStored v w.inbox r m) (use_second None m [] s.0) h.0 in l.word
  last_stored r (m ∷ n ∷ ms) s h = last_stored r (n ∷ ms) s.1 (subst (λ o. AllUsed (IsStored v w.inbox r) o (n ∷ ms)) (above_second None m s.0) h.1)

  module _ (laws : Laws) (a : Access) (side : v.side ≡ side_of a.va) where
    abbrev pub rg : Regime
    rg = regime_for (config_at v) a

    view_is : sided v (side_of a.va) ≡ v
    view_is = ap (sided v) (sym side)

    second_used : (r : Row) → Same r → (p : Bool) (x : ℕ) (items : List Item) → AllUsed (IsStored v w.inbox r) None (marks rg (chain rg p x) items) →
        AllUsed (Good v) None (marks rg (chain rg p x) items)
    second_used r s p x items h =
        second_map (IsStored v w.inbox r) (Good v) (λ m o e q. stored_good r s m o (λ n g. absurd (no_asid m e n)) q) None (marks rg (chain rg p x) items)
        (chain_second laws rg p x items) h

    -- a row's chain, as it stands under the register fields of now
    leaf_now : (r : Row) → Same r → (p : Bool) (x : ℕ)
        → IsLeafRow2 (IsStored (sided v (side_of a.va)) w.inbox r) (regime_of r.key.config (side_of a.va)) p r.trail x r.region.class →
        IsLeafRow2 (IsStored v w.inbox r) rg p r.trail x r.region.class
    leaf_now r s p x h =
        subst (λ u. IsLeafRow2 (IsStored u w.inbox r) rg p r.trail x r.region.class) view_is
        (subst (λ c. IsLeafRow2 (IsStored (sided v (side_of a.va)) w.inbox r) (regime_of c (side_of a.va)) p r.trail x r.region.class) s.config_same h)

    table_now : (r : Row) → Same r → (p : Bool) (x : ℕ)
        → IsTableRow2 (IsStored (sided v (side_of a.va)) w.inbox r) (regime_of r.key.config (side_of a.va)) p r.trail x →
        IsTableRow2 (IsStored v w.inbox r) rg p r.trail x
    table_now r s p x h =
        subst (λ u. IsTableRow2 (IsStored u w.inbox r) rg p r.trail x) view_is
        (subst (λ c. IsTableRow2 (IsStored (sided v (side_of a.va)) w.inbox r) (regime_of c (side_of a.va)) p r.trail x) s.config_same h)

    -- ONE ROW

    leaf_start : (r : Row) (p : Bool) (x : ℕ) (otherwise : Supplied) (items : List Item) → Same r
        → IsLeafRow2 (IsStored v w.inbox r) rg p items x r.region.class →
        Begins v rg p x (chain_by r otherwise items)
    leaf_start r p x o [] s h = let e : done (reaches h.leaf) ≡ chain rg p x = h.on in absurd cc
    leaf_start r p x o (i ∷ rest) s h =
        let last = laws.chain_word rg p x i rest h.leaf h.on in
        record {
          left = done (reaches h.leaf);
          words = tt;
          on = h.on;
          used = second_used r s p x (i ∷ rest) h.stored;
          last_base = last_word_base (now v) (marks rg (chain rg p x) (i ∷ rest)) last;
          goes = λ g e. absurd cc;
          word = λ l e. last;
        }

    table_start : (r : Row) (p : Bool) (x : ℕ) (otherwise : Supplied) (items : List Item) → Same r → IsTableRow2 (IsStored v w.inbox r) rg p items x →
        Begins v rg p x (chain_by r otherwise items)
    table_start r p x o [] s h = let e : ask h.need h.go ≡ chain rg p x = h.on in let k : IsWords (chain rg p x) = subst IsWords e h.words in
        absurd (both_ways true k.1 refl)
    table_start r p x o (i ∷ rest) s h =
        let last = last_stored r (marks rg (chain rg p x) (i ∷ rest)) (chain_second laws rg p x (i ∷ rest)) h.stored in
        record {
          left = ask h.need h.go;
          words = h.words;
          on = h.on;
          used = second_used r s p x (i ∷ rest) h.stored;
          last_base = last_word_base (now v) (marks rg (chain rg p x) (i ∷ rest)) last;
          goes = λ g e. absurd cc;
          word = λ l e. absurd cc;
        }

    -- what a row of this kind promises
    as_kind : (kind : Kind) (r : Row) → r.kind ≡ kind → In r w.cache.rows → IsRowBy (λ s. IsStored (sided v s) w.inbox r) r kind
    as_kind kind r e i = subst (IsRowBy (λ s. IsStored (sided v s) w.inbox r) r) e (f.rows r i)

    pub same_by : (kind : Kind) (x : ℕ) (r : Row) → Match kind (key_of (regs_after v.core v.log)) x r → Same r
    same_by kind x r m = record { config_same = m.config; vmid_same = m.vmid }

    -- THE REGISTER

    -- the base that the register gives now
    abbrev pub base_now : Item
    base_now = base_item (now v) S2 (sizes2 (config_at v)) (start_base2 (regs_after v.core v.log))

    module _ (fresh : (x : ℕ) → (fits rg (stage2_base x) base_now ≡ true) × Good v (mark rg (stage2_base x) base_now) None) where
      base_start : (p : Bool) (x : ℕ) → Begins v rg p x (fresh_of (place_of v w.cache.rows) a (stage2_base x))
      base_start p x =
          let m : Mark = mark rg (stage2_base x) base_now in
          let g : Good v m None = (fresh x).1 in
          record {
            left = walk2_behind (asked2 rg p x) base_now.value;
            words = laws.behind_words rg p x base_now.value;
            on = ((fresh x).0, refl);
            used = subst (λ ms. AllUsed (Good v) None (m ∷ ms)) (sym (marks_nil rg (walk2_behind (asked2 rg p x) base_now.value)))
                (subst (Good v m) (sym (use_second None m [] (mark_first rg (stage2_base x) base_now))) g, tt);
            last_base =
                subst (λ ms. LastIs (IsNowBase (now v)) (m ∷ ms)) (sym (marks_nil rg (walk2_behind (asked2 rg p x) base_now.value)))
                (λ b. ap (λ (i : Item). i.moment) (mark_item rg (stage2_base x) base_now));
            goes = λ g e. (refl, refl);
            word = λ l e. absurd (behind_asks (asked2 rg p x) base_now.value l e);
          }

      -- SEVERAL ROWS

      leaf_of_row : (p : Bool) (x : ℕ) (r : Row) → In r (matching (matches leaf2 (key_of (regs_after v.core v.log)) x) w.cache.rows)
          → Same r × IsLeafRow2 (IsStored v w.inbox r) rg p r.trail x r.region.class
      leaf_of_row p x r h =
          let m = In-matching (matches leaf2 (key_of (regs_after v.core v.log)) x) w.cache.rows r h in
          let t = matched leaf2 (key_of (regs_after v.core v.log)) x r m.1 in
          let s = same_by leaf2 x r t in
          (s, leaf_now r s p x ((as_kind leaf2 r t.kind_is m.0).2 (side_of a.va) p x t.held))

      by_table : (p : Bool) (x : ℕ) (o : Option Row) → deepest (matches table2 (key_of (regs_after v.core v.log)) x) w.cache.rows ≡ o
          → Begins v rg p x (begun2 (fresh_of (place_of v w.cache.rows) a (stage2_base x)) o)
      by_table p x None e = base_start p x
      by_table p x (Some r) e =
          let m = In-deepest (matches table2 (key_of (regs_after v.core v.log)) x) w.cache.rows r e in
          let t = matched table2 (key_of (regs_after v.core v.log)) x r m.1 in
          let s = same_by table2 x r t in
          table_start r p x (fresh_of (place_of v w.cache.rows) a (stage2_base x)) r.trail s
          (table_now r s p x ((as_kind table2 r t.kind_is m.0).2 (side_of a.va) p x t.held))

      whole_of : (p : Bool) (x : ℕ) (r : Row) → Same r × IsLeafRow2 (IsStored v w.inbox r) rg p r.trail x r.region.class → Whole v rg p x r.trail
      whole_of p x r h = record {
        leaf = h.1.leaf;
        on = h.1.on;
        used = second_used r h.0 p x r.trail h.1.stored;
        last_base =
            last_word_base (now v) (marks rg (chain rg p x) r.trail)
            (last_stored r (marks rg (chain rg p x) r.trail) (chain_second laws rg p x r.trail) h.1.stored);
      }

      -- two rows that match differ in their last items
      two_differ : (p : Bool) (x : ℕ) (r s : Row) → IsApart r s → In r (matching (matches leaf2 (key_of (regs_after v.core v.log)) x) w.cache.rows) →
          In s (matching (matches leaf2 (key_of (regs_after v.core v.log)) x) w.cache.rows) → last_entry r.trail ≡ last_entry s.trail → ⊥
      two_differ p x r s apart ir is e =
          let key = key_of (regs_after v.core v.log) in
          let mr = matched leaf2 key x r (In-matching (matches leaf2 key x) w.cache.rows r ir).1 in
          let ms = matched leaf2 key x s (In-matching (matches leaf2 key x) w.cache.rows s is).1 in
          let lr = (leaf_of_row p x r ir).1 in
          let ls = (leaf_of_row p x s is).1 in
          let c : r.region.class ≡ s.region.class = sym lr.class_is ∙ laws.keys2 rg p x r.trail s.trail lr.leaf ls.leaf lr.on ls.on e ∙ ls.class_is in
          apart.0 mr.kind_is ms.kind_is (mr.config ∙ sym ms.config) (mr.vmid ∙ sym ms.vmid) (region_same r s x mr.held ms.held c)

      by_rows : (p : Bool) (x : ℕ) (rs : List Row) → matching (matches leaf2 (key_of (regs_after v.core v.log)) x) w.cache.rows ≡ rs →
          Begins v rg p x
          (chain_of (fresh_of (place_of v w.cache.rows) a (stage2_base x)) rs (deepest (matches table2 (key_of (regs_after v.core v.log)) x) w.cache.rows))
      by_rows p x [] e = by_table p x (deepest (matches table2 (key_of (regs_after v.core v.log)) x) w.cache.rows) refl
      by_rows p x (r ∷ []) e =
          let h = leaf_of_row p x r (subst (In r) (sym e) (inl refl)) in
          leaf_start r p x (fresh_of (place_of v w.cache.rows) a (stage2_base x)) r.trail h.0 h.1
      by_rows p x (r ∷ s ∷ more) e =
          let t = matching (matches leaf2 (key_of (regs_after v.core v.log)) x) w.cache.rows in
          let apart : AllApart (r ∷ s ∷ more) = subst AllApart e (apart_matching (matches leaf2
          (key_of (regs_after v.core v.log)) x) w.cache.rows f.apart) in
          let ir : In r t = subst (In r) (sym e) (inl refl) in
          let is : In s t = subst (In s) (sym e) (inr (inl refl)) in
          (whole_of p x r (leaf_of_row p x r ir), whole_of p x s (leaf_of_row p x s is), two_differ p x r s (apart.0 s (inl refl)) ir is)

      pub begins : (p : Bool) (x : ℕ) → Begins v rg p x (supply (place_of v w.cache.rows) a (stage2_base x))
      begins p x = by_rows p x (matching (matches leaf2 (key_of (regs_after v.core v.log)) x) w.cache.rows) refl
