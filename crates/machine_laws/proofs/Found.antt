-- What lookups among rows find, and that the rows which served are live.
use Rattle.std.proofs.Common.{◌≡◌, ℕ, Bool, true, false, cond, List, [], ◌∷◌, ◌⊎◌, inl, inr, refl}
use Rattle.std.proofs.Common.{sym, ap, ◌∙◌, subst, Option, Some, None, ◌/◌, ◌^◌}
use Rattle.std.specs.Prelude.{filter, ◌==◌, ◌&&◌, ◌||◌, nat_lt}
use Rattle.std.proofs.lemmas.Bool.{eqb-true, both_ways, and_parts}
use Rattle.std.proofs.lemmas.Option.{same_Some}
use Rattle.sysregs.specs.Equality.{same_fields}
use Rattle.sysregs.proofs.Configs.{fields_same}
use Rattle.trails.specs.declared.item.Item.{Item}
use Rattle.tagged_tlb.specs.declared.row.Key.{Key}
use Rattle.walk_spec.specs.Ask.{Ask, done, ask}
use Rattle.walk_spec.specs.Needs.{Need}
use Rattle.walk_spec.specs.Steps.{End}
use Rattle.walk_spec.specs.BothStages.{Landing}
use Rattle.tagged_tlb.specs.declared.row.Kind.{Kind}
use Rattle.tagged_tlb.specs.declared.row.Row.{Row}
use Rattle.tagged_tlb.specs.Rows.{same_kind, holds, matches, matches1, is_older, inserted, by_making, matching, closer, deepest}
use Rattle.machine_spec.specs.Served.{Supplied, gives, halts, goes_on, serve, taken}
use Rattle.machine_laws.proofs.Facts.{In, IsApart, AllApart}
use Rattle.machine_laws.proofs.Lists.{In-from_filter, In-append, none_some}
use Rattle.machine_laws.proofs.Pairs.{pairs_filter}
use Rattle.machine_laws.proofs.Equal.{kind_same}

-- IN THE ORDER OF MAKING

inserted_if : (r s x : Row) (rs ns : List Row) (b : Bool) → (In x ns → In x (r ∷ rs)) → In x (cond b (r ∷ s ∷ rs) (s ∷ ns))
    → In x (r ∷ s ∷ rs)
inserted_if r s x rs ns true h i = i
inserted_if r s x rs ns false h (inl e) = inr (inl e)
inserted_if r s x rs ns false h (inr i) = elim (h i) [ inl e ↦ inl e | inr j ↦ inr (inr j) ]

In-inserted : (r x : Row) (rs : List Row) → In x (inserted r rs) → In x (r ∷ rs)
In-inserted r x [] i = i
In-inserted r x (s ∷ rs) i = inserted_if r s x rs (inserted r rs) (is_older r.made s.made) (In-inserted r x rs) i

pub In-by_making : (x : Row) (rs : List Row) → In x (by_making rs) → In x rs
In-by_making x [] i = i
In-by_making x (r ∷ rs) i = elim (In-inserted r x (by_making rs) i) [ inl e ↦ inl e | inr j ↦ inr (In-by_making x rs j) ]

pub In-matching : (test : Row → Bool) (rows : List Row) (x : Row) → In x (matching test rows) → In x rows × (test x ≡ true)
In-matching test rows x i = In-from_filter test rows x (In-by_making x (filter test rows) i)

-- being apart has no order
pub apart_sym : (r s : Row) → IsApart r s → IsApart s r
apart_sym r s h = (
  (λ ls lr cf vm rg. h.0 lr ls (sym cf) (sym vm) (sym rg)),
  λ ls lr cf vm rg gl. let d = h.1 lr ls (sym cf) (sym vm) (sym rg) (sym gl) in (gl ∙ d.0, λ e. d.1 (sym e)),
)

apart_inserted_if : (r s : Row) (rs ns : List Row) (b : Bool) → AllApart (r ∷ s ∷ rs) → ((x : Row) → In x ns → IsApart s x) → AllApart ns
    → AllApart (cond b (r ∷ s ∷ rs) (s ∷ ns))
apart_inserted_if r s rs ns true a h n = a
apart_inserted_if r s rs ns false a h n = (h, n)

apart_inserted : (r : Row) (rs : List Row) → ((s : Row) → In s rs → IsApart r s) → AllApart rs → AllApart (inserted r rs)
apart_inserted r [] h a = (h, a)
apart_inserted r (s ∷ rs) h a =
    apart_inserted_if r s rs (inserted r rs) (is_older r.made s.made) (h, a)
    (λ x i. elim (In-inserted r x rs i) [ inl e ↦ subst (IsApart s) (sym e) (apart_sym r s (h s (inl refl))) | inr j ↦ a.0 x j ])
    (apart_inserted r rs (λ x i. h x (inr i)) a.1)

pub apart_by_making : (rs : List Row) → AllApart rs → AllApart (by_making rs)
apart_by_making [] a = tt
apart_by_making (r ∷ rs) a = apart_inserted r (by_making rs) (λ s i. a.0 s (In-by_making s rs i)) (apart_by_making rs a.1)

pub apart_matching : (test : Row → Bool) (rows : List Row) → AllApart rows → AllApart (matching test rows)
apart_matching test rows a = apart_by_making (filter test rows) (pairs_filter IsApart test rows a)

-- THE DEEPEST

closer_if : (r x s : Row) (b : Bool) → cond b (Some s) (Some r) ≡ Some x → (x ≡ r) ⊎ (◌≡◌ {A = Option Row} (Some s) (Some x))
closer_if r x s true h = inr h
closer_if r x s false h = inl (sym (same_Some r x h))

closer_case : (r x : Row) (o : Option Row) → closer r o ≡ Some x → (x ≡ r) ⊎ (o ≡ Some x)
closer_case r x None h = inl (sym (same_Some r x h))
closer_case r x (Some s) h = closer_if r x s (nat_lt s.region.class r.region.class) h

deepest_if : (test : Row → Bool) (r x : Row) (rs : List Row) (b : Bool) → test r ≡ b → (deepest test rs ≡ Some x → In x rs × (test x ≡ true)) →
    cond b (closer r (deepest test rs)) (deepest test rs) ≡ Some x → In x (r ∷ rs) × (test x ≡ true)
deepest_if test r x rs true e rec h = elim (closer_case r x (deepest test rs) h) [ inl q ↦ (inl q, ap test q ∙ e) | inr q ↦ (inr (rec q).0, (rec q).1) ]
deepest_if test r x rs false e rec h = (inr (rec h).0, (rec h).1)

pub In-deepest : (test : Row → Bool) (rows : List Row) (x : Row) → deepest test rows ≡ Some x → In x rows × (test x ≡ true)
In-deepest test [] x h = none_some x h
In-deepest test (r ∷ rs) x h = deepest_if test r x rs (test r) refl (In-deepest test rs x) h

-- WHAT A MATCH TELLS

pub record Match (kind : Kind) (k : Key) (x : ℕ) (r : Row) : Type 0 where
  pub kind_is : r.kind ≡ kind
  pub held : holds r.region x ≡ true
  pub vmid : r.key.vmid ≡ k.vmid
  pub config : r.key.config ≡ k.config

pub matched : (kind : Kind) (k : Key) (x : ℕ) (r : Row) → matches kind k x r ≡ true → Match kind k x r
matched kind k x r h =
    let p = and_parts (same_kind r.kind kind && holds r.region x && (r.key.vmid == k.vmid)) (same_fields r.key.config k.config) h in
    let q = and_parts (same_kind r.kind kind && holds r.region x) (r.key.vmid == k.vmid) p.0 in
    let s = and_parts (same_kind r.kind kind) (holds r.region x) q.0 in
    record { kind_is = kind_same r.kind kind s.0; held = s.1; vmid = eqb-true r.key.vmid k.vmid q.1; config = fields_same r.key.config k.config p.1 }

asid_or : (g b : Bool) → (g || b) ≡ true → g ≡ false → b ≡ true
asid_or true b h e = absurd (both_ways true e refl)
asid_or false b h e = h

-- one of stage 1 also has the ASID, unless its leaf is global
pub matched1 : (kind : Kind) (k : Key) (x : ℕ) (r : Row) → matches1 kind k x r ≡ true
    → Match kind k x r × (r.global ≡ false → r.key.asid ≡ k.asid)
matched1 kind k x r h =
    let p = and_parts (matches kind k x r) (r.global || (r.key.asid == k.asid)) h in
    (matched kind k x r p.0, λ e. eqb-true r.key.asid k.asid (asid_or r.global (r.key.asid == k.asid) p.1 e))

-- the same region, where both hold an address and have one class
pub region_same : (r s : Row) (x : ℕ) → holds r.region x ≡ true → holds s.region x ≡ true → r.region.class ≡ s.region.class
    → r.region ≡ s.region
region_same r s x hr hs e =
    let a : x / 2 ^ r.region.class ≡ r.region.start = eqb-true (x / 2 ^ r.region.class) r.region.start hr in
    let b : x / 2 ^ s.region.class ≡ s.region.start = eqb-true (x / 2 ^ s.region.class) s.region.start hs in
    let c : r.region.start ≡ s.region.start = sym a ∙ ap (λ n. x / 2 ^ n) e ∙ b in
    λ j. record { class = e j; start = c j }

-- THE ROWS THAT SERVED

-- the rows that a supply names
abbrev pub NamesLive : List Row → Supplied → Type 0
NamesLive rows (gives i rest by) = (x : Row) → In x by → In x rows
NamesLive rows (halts h) = Unit {0}

module _ (sup : Need → Supplied) (rows : List Row) (live : (n : Need) → NamesLive rows (sup n)) where
  serve_by : (v : Supplied) (k : Item → Ask Need Item (End Landing)) → NamesLive rows v →
      ((items : List Item) (i : Item) (x : Row) → In x (serve sup items (k i)).by → In x rows) →
      (x : Row) → In x (goes_on v (λ i rest. serve sup rest (k i))).by → In x rows
  serve_by (gives i rest by) k h rec x m = elim (In-append by (serve sup rest (k i)).by x m) [ inl j ↦ h x j | inr j ↦ rec rest i x j ]
  serve_by (halts h) k g rec x m = absurd m

  pub serve_live : (t : Ask Need Item (End Landing)) (items : List Item) (x : Row) → In x (serve sup items t).by → In x rows
  serve_live (done e) [] x m = absurd m
  serve_live (done e) (i ∷ items) x m = absurd m
  serve_live (ask n k) [] x m = serve_by (sup n) k (live n) (λ items i. serve_live (k i) items) x m
  serve_live (ask n k) (i ∷ items) x m = serve_live (k i) items x m

pub taken_none : (t : Ask Need Item (End Landing)) (items : List Item) (x : Row) → In x (taken items t).by → ⊥
taken_none (done e) [] x m = m
taken_none (done e) (i ∷ items) x m = m
taken_none (ask n k) [] x m = m
taken_none (ask n k) (i ∷ items) x m = taken_none (k i) items x m
