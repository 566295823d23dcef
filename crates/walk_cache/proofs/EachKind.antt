-- The caches of each kind against the list, kind by kind.
use Rattle.std.proofs.Common.{◌≡◌, ℕ, Bool, true, false, List, Option, refl, sym, subst}
use Rattle.std.specs.Prelude.{IfSome}
use Rattle.std.proofs.lemmas.Bool.{both_ways}
use Rattle.trace_lang.specs.declared.header.Size.{Size}
use Rattle.trace_lang.specs.Traces.{Header}
use Rattle.tagged_tlb.specs.declared.row.Kind.{Kind}
use Rattle.tagged_tlb.specs.declared.row.Kind.TheVariants.{Leaf1, Table1, Leaf2, Table2}
use Rattle.tagged_tlb.specs.declared.row.Row.{Row}
use Rattle.tagged_tlb.specs.declared.chooser.Chooser.{Chooser}
use Rattle.tagged_tlb.specs.Shapes.{Shape, shape, shape_of}
use Rattle.tagged_tlb.specs.Rows.{same_kind}
use Rattle.tagged_tlb.specs.Sets.{Cache, added, to_end}
use Rattle.tagged_tlb.specs.Tied.{IsTied, IsAdded, AreToldApart}
use Rattle.tagged_tlb.specs.declared.found.Found.{Found}
use Rattle.tagged_tlb.specs.declared.found.Seen.{Seen}
use Rattle.tagged_tlb.specs.Found.{AllSeen, seen_row}
use Rattle.tagged_tlb.specs.Stands.{Stands}
use Rattle.tagged_tlb.proofs.Ties.{kind_is, others_tied}
use Rattle.served_walk.specs.declared.met.Service.{Service}
use Rattle.walk_cache.specs.Services.{service_of, IsService}
use Rattle.walk_cache.specs.ByKind.{SetsByKind, sets_of, sets_in, AreTied, HasShapes, IsAddedTo}
use Rattle.walk_cache.proofs.Moves.{end_elsewhere}

-- what holds of each kind
pub each : (P : Kind → Type 0) → P Leaf1 → P Table1 → P Leaf2 → P Table2 → (k : Kind) → P k
each P a b c d Leaf1 = a
each P a b c d Table1 = b
each P a b c d Leaf2 = c
each P a b c d Table2 = d

-- the other kinds have the sets that they had
abbrev pub Rest : (k : Kind) (old new : SetsByKind) → Type 0
Rest k old new = (j : Kind) → same_kind j k ≡ false → sets_of new j ≡ sets_of old j

pub rest_leaf1 : (old : SetsByKind) (sets : List (List Row)) → Rest Leaf1 old (record old { leaf1 = sets })
rest_leaf1 old sets =
    each (λ j. same_kind j Leaf1 ≡ false → sets_of (record old { leaf1 = sets }) j ≡ sets_of old j) (λ q. absurd (both_ways true q refl)) (λ _. refl)
    (λ _. refl) (λ _. refl)

pub rest_table1 : (old : SetsByKind) (sets : List (List Row)) → Rest Table1 old (record old { table1 = sets })
rest_table1 old sets =
    each (λ j. same_kind j Table1 ≡ false → sets_of (record old { table1 = sets }) j ≡ sets_of old j) (λ _. refl) (λ q. absurd (both_ways true q refl))
    (λ _. refl) (λ _. refl)

pub rest_leaf2 : (old : SetsByKind) (sets : List (List Row)) → Rest Leaf2 old (record old { leaf2 = sets })
rest_leaf2 old sets =
    each (λ j. same_kind j Leaf2 ≡ false → sets_of (record old { leaf2 = sets }) j ≡ sets_of old j) (λ _. refl) (λ _. refl)
    (λ q. absurd (both_ways true q refl)) (λ _. refl)

pub rest_table2 : (old : SetsByKind) (sets : List (List Row)) → Rest Table2 old (record old { table2 = sets })
rest_table2 old sets =
    each (λ j. same_kind j Table2 ≡ false → sets_of (record old { table2 = sets }) j ≡ sets_of old j) (λ _. refl) (λ _. refl) (λ _. refl)
    (λ q. absurd (both_ways true q refl))

-- BY THE NUMBERS OF SHAPES

module _ (size : Size) (live : List Row) (v : SetsByKind) where
  pub of_each : (leaves1 ways1 tables leaves2 ways : ℕ) → HasShapes size leaves1 ways1 tables leaves2 ways → IsTied Leaf1 leaves1 live v.leaf1
      → IsTied Table1 tables live v.table1 → IsTied Leaf2 leaves2 live v.leaf2 → IsTied Table2 tables live v.table2 → AreTied size live v
  of_each leaves1 ways1 tables leaves2 ways fits a b c d =
      each (λ k. IsTied k (sets_in size k) live (sets_of v k)) (subst (λ (s : Shape). IsTied Leaf1 s.sets live v.leaf1) (sym fits.leaf1) a)
      (subst (λ (s : Shape). IsTied Table1 s.sets live v.table1) (sym fits.table1) b) (subst (λ (s : Shape). IsTied Leaf2 s.sets live v.leaf2)
      (sym fits.leaf2) c) (subst (λ (s : Shape). IsTied Table2 s.sets live v.table2) (sym fits.table2) d)

  module _ (k : Kind) (n ways : ℕ) (fits : shape_of size k ≡ shape n ways) where
    pub one_tied : AreTied size live v → IsTied k n live (sets_of v k)
    one_tied f = subst (λ (s : Shape). IsTied k s.sets live (sets_of v k)) fits (f k)

    pub found_stand : (d : Row) (sets : List (List Row)) (found : Found) → AllSeen (λ s. Stands k n s.slot.set s.made live (seen_row d sets s)) found
        → AllSeen (λ s. IsService size live (service_of k s) (seen_row d sets s)) found
    found_stand d sets found h =
        subst (λ (x : Shape). AllSeen (λ s. Stands k x.sets s.slot.set s.made live (seen_row d sets s)) found) (sym fits) h

    pub seen_stands : (d : Row) (sets : List (List Row)) (found : Option Seen)
        → IfSome found (λ s. Stands k n s.slot.set s.made live (seen_row d sets s))
        → IfSome found (λ s. IsService size live (service_of k s) (seen_row d sets s))
    seen_stands d sets found h =
        subst (λ (x : Shape). IfSome found (λ s. Stands k x.sets s.slot.set s.made live (seen_row d sets s))) (sym fits) h

-- A ROW COMES INTO THE CACHE OF ITS KIND

module _ (k : Kind) (n ways : ℕ) (h : Header) (fits : shape_of h.size k ≡ shape n ways) (core : ℕ) (l : Cache) (r : Row) (own : r.kind ≡ k)
    (old new : SetsByKind) (rest : Rest k old new) (f : AreTied h.size l.rows old) (lost : Bool) (by : Chooser) where
  own_fits : shape_of h.size r.kind ≡ shape n ways
  own_fits = subst (λ j. shape_of h.size j ≡ shape n ways) (sym own) fits

  comes_by : IsTied r.kind n (added h core l r).rows (sets_of new k) → (j : Kind) (b : Bool) → same_kind j k ≡ b
      → IsTied j (sets_in h.size j) (added h core l r).rows (sets_of new j)
  comes_by mine j true e =
      subst (λ i. IsTied i (sets_in h.size i) (added h core l r).rows (sets_of new i)) (sym (kind_is j k e))
      (subst (λ (s : Shape). IsTied k s.sets (added h core l r).rows (sets_of new k)) (sym fits)
      (subst (λ i. IsTied i n (added h core l r).rows (sets_of new k)) own mine))
  comes_by mine j false e =
      subst (λ sets. IsTied j (sets_in h.size j) (added h core l r).rows sets) (sym (rest j e))
      (others_tied h core n ways l r own_fits j (sets_in h.size j) (subst (λ i. same_kind j i ≡ false) (sym own) e) (sets_of old j) (f j))

  -- its own cache says what it got
  pub comes : (shape_of h.size r.kind ≡ shape n ways → IsTied r.kind n l.rows (sets_of old k)
      → IsAdded r.kind n core l (added h core l r) lost by (sets_of new k)) → IsAddedTo h core l r lost by new
  comes got =
      let a = got own_fits (subst (λ i. IsTied i n l.rows (sets_of old k)) (sym own) (one_tied h.size l.rows old k n ways fits f)) in
      record { tied = λ j. comes_by a.tied j (same_kind j k) refl; at = a.at; count = a.count }

-- A ROW SERVES

module _ (k : Kind) (n ways : ℕ) (size : Size) (fits : shape_of size k ≡ shape n ways) (live : List Row) (told : AreToldApart live) (r : Row)
    (service : Service) (own : service.kind ≡ k) (st : IsService size live service r) (old new : SetsByKind) (rest : Rest k old new)
    (f : AreTied size live old) where
  stands : Stands k n service.seen.slot.set service.seen.made live r
  stands =
      subst (λ (s : Shape). Stands k s.sets service.seen.slot.set service.seen.made live r) fits
      (subst (λ j. Stands j (sets_in size j) service.seen.slot.set service.seen.made live r) own st)

  serves_by : IsTied k n (to_end live r) (sets_of new k) → (j : Kind) (b : Bool) → same_kind j k ≡ b
      → IsTied j (sets_in size j) (to_end live r) (sets_of new j)
  serves_by mine j true e =
      subst (λ i. IsTied i (sets_in size i) (to_end live r) (sets_of new i)) (sym (kind_is j k e))
      (subst (λ (s : Shape). IsTied k s.sets (to_end live r) (sets_of new k)) (sym fits) mine)
  serves_by mine j false e =
      subst (λ sets. IsTied j (sets_in size j) (to_end live r) sets) (sym (rest j e))
      (end_elsewhere j (sets_in size j) live told r stands.held (subst (λ i. same_kind j i ≡ false) (sym stands.kind_is) e) (sets_of old j) (f j))

  -- its own cache says where it went
  pub serves : (IsTied k n live (sets_of old k) → Stands k n service.seen.slot.set service.seen.made live r → IsTied k n (to_end live r) (sets_of new k))
      → AreTied size (to_end live r) new
  serves went = λ j. serves_by (went (one_tied size live old k n ways fits f) stands) j (same_kind j k) refl
