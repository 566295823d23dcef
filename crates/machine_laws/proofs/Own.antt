-- A row serves only under its own register fields and VMID.
use Rattle.std.proofs.Common.{◌≡◌, ℕ, Bool, true, false, not, cond, List, [], ◌∷◌, inl, inr, refl, sym, subst, Option, Some, None}
use Rattle.std.specs.Prelude.{filter, All, ◌==◌, ◌&&◌, ◌||◌}
use Rattle.std.proofs.lemmas.Bool.{and_from, and_parts, eqb-true}
use Rattle.std.proofs.lemmas.List.Elements.{All-nil, All-cons, All-head, All-tail}
use Rattle.sysregs.specs.Equality.{same_fields}
use Rattle.sysregs.specs.Registers.{config_of, vmid_of}
use Rattle.sysregs.specs.Sides.{side_of}
use Rattle.sysregs.proofs.Configs.{fields_same}
use Rattle.trails.specs.declared.item.Item.{Item}
use Rattle.trails.specs.declared.outcome.Access.{Access}
use Rattle.tagged_tlb.specs.declared.row.Key.{Key}
use Rattle.walk_spec.specs.Ask.{Ask}
use Rattle.walk_spec.specs.Needs.{Need, stage1_base, stage2_base, word}
use Rattle.walk_spec.specs.Steps.{End}
use Rattle.walk_spec.specs.Stage1.{untagged}
use Rattle.walk_spec.specs.BothStages.{Landing, is_refused1, walk}
use Rattle.walk_spec.specs.Fresh.{given}
use Rattle.tagged_tlb.specs.declared.row.Kind.{Kind}
use Rattle.tagged_tlb.specs.declared.row.Kind.TheVariants.{Leaf1, Table1, Leaf2, Table2}
use Rattle.tagged_tlb.specs.declared.row.Row.{Row}
use Rattle.tagged_tlb.specs.Rows.{same_kind, holds, matches, matches1, matching, deepest}
use Rattle.machine_spec.specs.Made.{key_of}
use Rattle.machine_spec.specs.Served.{Place, Supplied, supplied_by, chain_by, begun2, chain_of, fresh_of, supply, serve, begun1, combined, served}
use Rattle.machine_laws.specs.Rules.{RowsServeTheirOwn}
use Rattle.machine_laws.proofs.Facts.{In}
use Rattle.machine_laws.proofs.Lists.{In-filter, In-from_filter}
use Rattle.machine_laws.proofs.Found.{In-matching, In-deepest, NamesLive, serve_live, taken_none}

-- the register fields and the VMID are those of a key
abbrev pub is_own : Key → Row → Bool
is_own k r = (r.key.vmid == k.vmid) && same_fields r.key.config k.config

own_by : (a b c d : Bool) → (a && b && c && d) ≡ true → (c && d) ≡ true
own_by a b c d h =
    let p = and_parts (a && b && c) d h in
    and_from c d (and_parts (a && b) c p.0).1 p.1

own_if : (kind : Kind) (k : Key) (x : ℕ) (r : Row) → matches kind k x r ≡ true → is_own k r ≡ true
own_if kind k x r h = own_by (same_kind r.kind kind) (holds r.region x) (r.key.vmid == k.vmid) (same_fields r.key.config k.config) h

supplied_none : (rows : List Row) (n : Need) (o : Option Item) → NamesLive rows (supplied_by n o)
supplied_none rows n None = tt
supplied_none rows n (Some i) = λ x m. absurd m

-- the rows that a chain names are among the leaves and tables that were found
module _ (rows : List Row) (otherwise : Supplied) (rest : NamesLive rows otherwise) where
  chain_named : (r : Row) → In r rows → (trail : List Item) → NamesLive rows (chain_by r otherwise trail)
  chain_named r i [] = rest
  chain_named r i (t ∷ trail) = λ x m. elim m [ inl e ↦ subst (λ y. In y rows) (sym e) i | inr j ↦ absurd j ]

  begun2_named : (t : Option Row) → ((r : Row) → t ≡ Some r → In r rows) → NamesLive rows (begun2 otherwise t)
  begun2_named None h = rest
  begun2_named (Some r) h = chain_named r (h r refl) r.trail

  chain_of_named : (leaves : List Row) (t : Option Row) → ((r : Row) → In r leaves → In r rows) → ((r : Row) → t ≡ Some r → In r rows)
      → NamesLive rows (chain_of otherwise leaves t)
  chain_of_named [] t hl ht = begun2_named t ht
  chain_of_named (r ∷ []) t hl ht = chain_named r (hl r (inl refl)) r.trail
  chain_of_named (r ∷ s ∷ more) t hl ht = tt

module _ (p : Place) (a : Access) where
  -- the live rows of these register fields and this VMID
  abbrev pub own_rows : List Row
  own_rows = filter (is_own (key_of p.regs)) p.rows

  matched_own : (kind : Kind) (x : ℕ) (r : Row) → In r (matching (matches kind (key_of p.regs) x) p.rows) → In r own_rows
  matched_own kind x r i =
      let m = In-matching (matches kind (key_of p.regs) x) p.rows r i in
      In-filter (is_own (key_of p.regs)) p.rows r m.0 (own_if kind (key_of p.regs) x r m.1)

  deepest_own : (kind : Kind) (x : ℕ) (r : Row) → deepest (matches kind (key_of p.regs) x) p.rows ≡ Some r → In r own_rows
  deepest_own kind x r e =
      let m = In-deepest (matches kind (key_of p.regs) x) p.rows r e in
      In-filter (is_own (key_of p.regs)) p.rows r m.0 (own_if kind (key_of p.regs) x r m.1)

  matched1_own : (kind : Kind) (x : ℕ) (r : Row) → In r (matching (matches1 kind (key_of p.regs) x) p.rows) → In r own_rows
  matched1_own kind x r i =
      let k : Key = key_of p.regs in
      let m = In-matching (matches1 kind k x) p.rows r i in
      In-filter (is_own k) p.rows r m.0 (own_if kind k x r (and_parts (matches kind k x r) (r.global || (r.key.asid == k.asid)) m.1).0)

  deepest1_own : (kind : Kind) (x : ℕ) (r : Row) → deepest (matches1 kind (key_of p.regs) x) p.rows ≡ Some r → In r own_rows
  deepest1_own kind x r e =
      let k : Key = key_of p.regs in
      let m = In-deepest (matches1 kind k x) p.rows r e in
      In-filter (is_own k) p.rows r m.0 (own_if kind k x r (and_parts (matches kind k x r) (r.global || (r.key.asid == k.asid)) m.1).0)

  fresh_named : (n : Need) → NamesLive own_rows (fresh_of p a n)
  fresh_named n = supplied_none own_rows n (given p.regs (side_of a.va) p.memory p.step n)

  supply_named : (n : Need) → NamesLive own_rows (supply p a n)
  supply_named stage1_base = fresh_named stage1_base
  supply_named (stage2_base x) =
      chain_of_named own_rows (fresh_of p a (stage2_base x)) (fresh_named (stage2_base x)) (matching (matches Leaf2 (key_of p.regs) x) p.rows)
      (deepest (matches Table2 (key_of p.regs) x) p.rows) (matched_own Leaf2 x) (deepest_own Table2 x)
  supply_named (word w) = fresh_named (word w)

  begun1_own : (w : Ask Need Item (End Landing)) (t : Option Row) → ((r : Row) → t ≡ Some r → In r own_rows)
      → (x : Row) → In x (begun1 t (λ items. serve (supply p a) items w)).by → In x own_rows
  begun1_own w None h x m = serve_live (supply p a) own_rows supply_named w [] x m
  begun1_own w (Some r) h x (inl e) = subst (λ y. In y own_rows) (sym e) (h r refl)
  begun1_own w (Some r) h x (inr m) = serve_live (supply p a) own_rows supply_named w r.trail x m

  combined_own : (w : Ask Need Item (End Landing)) (leaves : List Row) (t : Option Row) → ((r : Row) → In r leaves → In r own_rows)
      → ((r : Row) → t ≡ Some r → In r own_rows) → (x : Row) → In x (combined leaves t (supply p a) w).by → In x own_rows
  combined_own w [] t hl ht x m = begun1_own w t ht x m
  combined_own w (r ∷ []) t hl ht x (inl e) = subst (λ y. In y own_rows) (sym e) (hl r (inl refl))
  combined_own w (r ∷ []) t hl ht x (inr m) = absurd (taken_none w r.trail x m)
  combined_own w (r ∷ s ∷ more) t hl ht x m = absurd m

  abbrev its_walk : Ask Need Item (End Landing)
  its_walk = walk (config_of p.regs) true a

  abbrev leaves : List Row
  leaves = matching (matches1 Leaf1 (key_of p.regs) (untagged a.va)) p.rows

  abbrev the_table : Option Row
  the_table = deepest (matches1 Table1 (key_of p.regs) (untagged a.va)) p.rows

  served_if : (on : Bool) (x : Row) → In x (cond on (combined leaves the_table (supply p a) its_walk) (serve (supply p a) [] its_walk)).by → In x own_rows
  served_if true x m = combined_own its_walk leaves the_table (matched1_own Leaf1 (untagged a.va)) (deepest1_own Table1 (untagged a.va)) x m
  served_if false x m = serve_live (supply p a) own_rows supply_named its_walk [] x m

  -- a row that served is live, and of the register fields and the VMID
  pub served_own : (x : Row) → In x (served p a).by → In x own_rows
  served_own x m = served_if ((config_of p.regs).m && not (is_refused1 (config_of p.regs) a)) x m

  pub served_live : (x : Row) → In x (served p a).by → In x p.rows
  served_live x m = (In-from_filter (is_own (key_of p.regs)) p.rows x (served_own x m)).0

-- `All` by membership, and back
pub all_of_in : {X : Type 0} (P : X → Type 0) (xs : List X) → ((x : X) → In x xs → P x) → All P xs
all_of_in P [] h = All-nil P
all_of_in P (x ∷ xs) h = All-cons P x xs (h x (inl refl)) (all_of_in P xs (λ y i. h y (inr i)))

pub in_of_all : {X : Type 0} (P : X → Type 0) (xs : List X) → All P xs → (x : X) → In x xs → P x
in_of_all P [] all x i = absurd i
in_of_all P (y ∷ ys) all x (inl e) = subst P (sym e) (All-head P y ys all)
in_of_all P (y ∷ ys) all x (inr i) = in_of_all P ys (All-tail P y ys all) x i

pub rows_serve_their_own : RowsServeTheirOwn
rows_serve_their_own p a =
    all_of_in (λ (r : Row). (r.key.config ≡ config_of p.regs) × (r.key.vmid ≡ vmid_of p.regs)) (served p a).by
    (λ r i.
    let k : Key = key_of p.regs in
    let own = (In-from_filter (is_own k) p.rows r (served_own p a r i)).1 in
    let parts = and_parts (r.key.vmid == k.vmid) (same_fields r.key.config k.config) own in
    (fields_same r.key.config k.config parts.1, eqb-true r.key.vmid k.vmid parts.0))
