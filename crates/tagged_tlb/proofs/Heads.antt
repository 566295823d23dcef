-- Heads that move, and trails that stay.
use Rattle.std.proofs.Common.{◌≡◌, ℕ, zero, suc, ◌<◌, ◌≤◌, ◌+◌, ◌||◌, cond, inl, inr, Some}
use Rattle.std.proofs.Common.{List, [], ◌∷◌, ◌++◌, length, get_or, set, map, refl, ap}
use Rattle.std.proofs.Common.{sym, ◌∙◌, subst, arith}
use Rattle.std.specs.Prelude.{◌==◌, filter, Bool, true, false, not}
use Rattle.std.specs.List.{remove, list_any}
use Rattle.std.proofs.lemmas.Bool.{eq-eqb, ne_eqb, cases_eq}
use Rattle.std.proofs.lemmas.List.{map-append, get_or-set_same, get_or-set_other, get_or_default}
use Rattle.trails.specs.declared.item.Item.{Item}
use Rattle.tlbi_ops.specs.declared.inval.Inval.{Inval}
use Rattle.tlbi_ops.specs.Covers.{covers}
use Rattle.tagged_tlb.specs.declared.row.Row.{Row}
use Rattle.tagged_tlb.specs.declared.head.Head.{Head}
use Rattle.tagged_tlb.specs.declared.row.Made.{Made}
use Rattle.tagged_tlb.specs.declared.found.Found.{Found}
use Rattle.tagged_tlb.specs.Found.{met, looked, first_hit, seen_at}
use Rattle.tagged_tlb.specs.Slots.{row_of, head_with, one, uses, among, HeadsBelow, AreBelow, IsSpread, spares}

map_remove : {X Y : Type 0} (f : X → Y) (xs : List X) (i : ℕ) → i < length xs → map f (remove xs i) ≡ remove (map f xs) i
map_remove f [] i h = absurd (omega (arith, h))
map_remove f (x ∷ xs) zero h = refl
map_remove f (x ∷ xs) (suc i) h = ap (λ v. f x ∷ v) (map_remove f xs i (omega (arith, h)))

map_get : {X Y : Type 0} (f : X → Y) (xs : List X) (i : ℕ) (d : X) (e : Y) → i < length xs → get_or (map f xs) i e ≡ f (get_or xs i d)
map_get f [] i d e h = absurd (omega (arith, h))
map_get f (x ∷ xs) zero d e h = refl
map_get f (x ∷ xs) (suc i) d e h = map_get f xs i d e (omega (arith, h))

uses_push : (s : ℕ) (hs : List Head) (h : Head) → uses s (hs ++ h ∷ []) ≡ uses s hs + one (h.slot == s)
uses_push s [] h = omega arith
uses_push s (x ∷ hs) h = let e = uses_push s hs h in omega (arith, e)

uses_remove : (s : ℕ) (hs : List Head) (i : ℕ) (d : Head) → i < length hs → uses s (remove hs i) + one ((get_or hs i d).slot == s) ≡ uses s hs
uses_remove s [] i d h = absurd (omega (arith, h))
uses_remove s (x ∷ hs) zero d h = omega arith
uses_remove s (x ∷ hs) (suc i) d h = let e = uses_remove s hs i d (omega (arith, h)) in omega (arith, e)

among_remove : (s : ℕ) (ts : List ℕ) (i : ℕ) (d : ℕ) → i < length ts → among s (remove ts i) + one (get_or ts i d == s) ≡ among s ts
among_remove s [] i d h = absurd (omega (arith, h))
among_remove s (x ∷ ts) zero d h = omega arith
among_remove s (x ∷ ts) (suc i) d h = let e = among_remove s ts i d (omega (arith, h)) in omega (arith, e)

below_push : (n : ℕ) (hs : List Head) (h : Head) → HeadsBelow n hs → h.slot < n → HeadsBelow n (hs ++ h ∷ [])
below_push n [] h b l = (l, tt)
below_push n (x ∷ hs) h b l = (b.0, below_push n hs h b.1 l)

below_remove : (n : ℕ) (hs : List Head) (i : ℕ) → i < length hs → HeadsBelow n hs → HeadsBelow n (remove hs i)
below_remove n [] i h b = absurd (omega (arith, h))
below_remove n (x ∷ hs) zero h b = b.1
below_remove n (x ∷ hs) (suc i) h b = (b.0, below_remove n hs i (omega (arith, h)) b.1)

below_at : (n : ℕ) (hs : List Head) (i : ℕ) (d : Head) → i < length hs → HeadsBelow n hs → (get_or hs i d).slot < n
below_at n [] i d h b = absurd (omega (arith, h))
below_at n (x ∷ hs) zero d h b = b.0
below_at n (x ∷ hs) (suc i) d h b = below_at n hs i d (omega (arith, h)) b.1

free_remove : (n : ℕ) (ts : List ℕ) (i : ℕ) → i < length ts → AreBelow n ts → AreBelow n (remove ts i)
free_remove n [] i h b = absurd (omega (arith, h))
free_remove n (x ∷ ts) zero h b = b.1
free_remove n (x ∷ ts) (suc i) h b = (b.0, free_remove n ts i (omega (arith, h)) b.1)

free_at : (n : ℕ) (ts : List ℕ) (i : ℕ) (d : ℕ) → i < length ts → AreBelow n ts → get_or ts i d < n
free_at n [] i d h b = absurd (omega (arith, h))
free_at n (x ∷ ts) zero d h b = b.0
free_at n (x ∷ ts) (suc i) d h b = free_at n ts i d (omega (arith, h)) b.1

itself : (t : ℕ) → one (t == t) ≡ 1
itself t = ap one (eq-eqb t t refl)

-- a trail that no head has
one_fresh : (trails : List (List Item)) (t : ℕ) (v : List Item) (h : Head) → (h.slot ≡ t → ⊥) → row_of (set trails t v) h ≡ row_of trails h
one_fresh trails t v h ne = rw (get_or-set_other trails t h.slot v [] ne) refl

fresh : (trails : List (List Item)) (t : ℕ) (v : List Item) (hs : List Head) → uses t hs ≡ 0
    → map (row_of (set trails t v)) hs ≡ map (row_of trails) hs
fresh trails t v [] z = refl
fresh trails t v (h ∷ hs) z =
    let zs : uses t hs ≡ 0 = omega (arith, z) in
    let z1 : one (h.slot == t) ≡ 0 = omega (arith, z) in
    let ne : h.slot ≡ t → ⊥ = λ e. let y : one (h.slot == t) ≡ 1 = ap one (eq-eqb h.slot t e) in omega (arith, y, z1) in
    rw (one_fresh trails t v h ne, fresh trails t v hs zs) refl

own : (trails : List (List Item)) (t : ℕ) (r : Row) → t < length trails → row_of (set trails t r.trail) (head_with r t) ≡ r
own trails t r h = rw (get_or-set_same trails t r.trail [] h) refl

module _ (n : ℕ) (heads : List Head) (free : List ℕ) (f : IsSpread n heads free) where
  -- A HEAD MOVES, OR ANOTHER TAKES ITS SLOT

  module _ (way : ℕ) (d : Head) (within : way < length heads) where
    pub slot_below : (get_or heads way d).slot < n
    slot_below = below_at n heads way d within f.heads_below

    pub moved : (h : Head) → h.slot ≡ (get_or heads way d).slot → IsSpread n (remove heads way ++ h ∷ []) free
    moved h e = record {
      once = λ s.
          let a = uses_push s (remove heads way) h in
          let b = uses_remove s heads way d within in
          let k : one (h.slot == s) ≡ one ((get_or heads way d).slot == s) = ap (λ v. one (v == s)) e in
          let o = f.once s in omega (arith, a, b, k, o);
      heads_below = below_push n (remove heads way) h (below_remove n heads way within f.heads_below) (subst (λ v. v < n) (sym e) slot_below);
      free_below = f.free_below;
    }

    unused : uses (get_or heads way d).slot (remove heads way) ≡ 0
    unused =
        let t : ℕ = (get_or heads way d).slot in
        let b = uses_remove t heads way d within in
        let k = itself t in
        let o = f.once t in omega (arith, b, k, o)

    pub moved_view : (trails : List (List Item)) (e : Row) → map (row_of trails) (remove heads way ++ get_or heads way d ∷ [])
        ≡ remove (map (row_of trails) heads) way ++ get_or (map (row_of trails) heads) way e ∷ []
    moved_view trails e =
        map-append (row_of trails) (remove heads way) (get_or heads way d ∷ [])
        ∙ ap (λ v. v ++ row_of trails (get_or heads way d) ∷ []) (map_remove (row_of trails) heads way within)
        ∙ ap (λ v. remove (map (row_of trails) heads) way ++ v ∷ []) (sym (map_get (row_of trails) heads way d e within))

    pub full_view : (trails : List (List Item)) (r : Row) → length trails ≡ n
        → map (row_of (set trails (get_or heads way d).slot r.trail)) (remove heads way ++ head_with r (get_or heads way d).slot ∷ [])
        ≡ remove (map (row_of trails) heads) way ++ r ∷ []
    full_view trails r l =
        let t : ℕ = (get_or heads way d).slot in
        let lt : t < length trails = subst (λ v. t < v) (sym l) slot_below in
        map-append (row_of (set trails t r.trail)) (remove heads way) (head_with r t ∷ [])
        ∙ ap (λ v. v ++ row_of (set trails t r.trail) (head_with r t) ∷ []) (fresh trails t r.trail (remove heads way) unused
        ∙ map_remove (row_of trails) heads way within)
        ∙ ap (λ v. remove (map (row_of trails) heads) way ++ v ∷ []) (own trails t r lt)

    pub full_here : (trails : List (List Item)) (r : Row) → length trails ≡ n → d ≡ get_or heads way d
        → map (row_of (set trails d.slot r.trail)) (remove heads way ++ head_with r d.slot ∷ []) ≡ remove (map (row_of trails) heads) way ++ r ∷ []
    full_here trails r l value =
        subst (λ (v : Head). map (row_of (set trails v.slot r.trail)) (remove heads way ++ head_with r v.slot ∷ []) ≡ remove (map
        (row_of trails) heads) way ++ r ∷ [])
        (sym value) (full_view trails r l)

  -- A FREE SLOT IS TAKEN

  module _ (i d : ℕ) (within : i < length free) where
    pub free_slot_below : get_or free i d < n
    free_slot_below = free_at n free i d within f.free_below

    pub taken : (h : Head) → h.slot ≡ get_or free i d → IsSpread n (heads ++ h ∷ []) (remove free i)
    taken h e = record {
      once = λ s.
          let a = uses_push s heads h in
          let b = among_remove s free i d within in
          let k : one (h.slot == s) ≡ one (get_or free i d == s) = ap (λ v. one (v == s)) e in
          let o = f.once s in omega (arith, a, b, k, o);
      heads_below = below_push n heads h f.heads_below (subst (λ v. v < n) (sym e) free_slot_below);
      free_below = free_remove n free i within f.free_below;
    }

    unused_free : uses (get_or free i d) heads ≡ 0
    unused_free =
        let t : ℕ = get_or free i d in
        let b = among_remove t free i d within in
        let k = itself t in
        let o = f.once t in omega (arith, b, k, o)

    pub room_view : (trails : List (List Item)) (r : Row) → length trails ≡ n
        → map (row_of (set trails (get_or free i d) r.trail)) (heads ++ head_with r (get_or free i d) ∷ []) ≡ map (row_of trails) heads ++ r ∷ []
    room_view trails r l =
        let t : ℕ = get_or free i d in
        let lt : t < length trails = subst (λ v. t < v) (sym l) free_slot_below in
        map-append (row_of (set trails t r.trail)) heads (head_with r t ∷ [])
        ∙ ap (λ v. v ++ row_of (set trails t r.trail) (head_with r t) ∷ []) (fresh trails t r.trail heads unused_free)
        ∙ ap (λ v. map (row_of trails) heads ++ v ∷ []) (own trails t r lt)

    pub room_here : (trails : List (List Item)) (r : Row) → length trails ≡ n → d ≡ get_or free i d
        → map (row_of (set trails d r.trail)) (heads ++ head_with r d ∷ []) ≡ map (row_of trails) heads ++ r ∷ []
    room_here trails r l value =
        subst (λ v. map (row_of (set trails v r.trail)) (heads ++ head_with r v ∷ []) ≡ map (row_of trails) heads ++ r ∷ []) (sym value)
        (room_view trails r l)

-- A NEW SLOT

uses_none : (n : ℕ) (hs : List Head) → HeadsBelow n hs → uses n hs ≡ 0
uses_none n [] b = refl
uses_none n (h ∷ hs) b =
    let e : (h.slot == n) ≡ false = ne_eqb h.slot n (λ q. let l = b.0 in omega (arith, q, l)) in
    let z : one (h.slot == n) ≡ 0 = ap one e in
    let rest = uses_none n hs b.1 in omega (arith, z, rest)

among_none : (n : ℕ) (ts : List ℕ) → AreBelow n ts → among n ts ≡ 0
among_none n [] b = refl
among_none n (t ∷ ts) b =
    let e : (t == n) ≡ false = ne_eqb t n (λ q. let l = b.0 in omega (arith, q, l)) in
    let z : one (t == n) ≡ 0 = ap one e in
    let rest = among_none n ts b.1 in omega (arith, z, rest)

heads_wider : (n : ℕ) (hs : List Head) → HeadsBelow n hs → HeadsBelow (n + 1) hs
heads_wider n [] b = tt
heads_wider n (h ∷ hs) b = ((let l = b.0 in omega (arith, l)), heads_wider n hs b.1)

free_wider : (n : ℕ) (ts : List ℕ) → AreBelow n ts → AreBelow (n + 1) ts
free_wider n [] b = tt
free_wider n (t ∷ ts) b = ((let l = b.0 in omega (arith, l)), free_wider n ts b.1)

-- a head takes the slot that follows those in use
pub grown : (n : ℕ) (heads : List Head) (free : List ℕ) → IsSpread n heads free → (h : Head) → h.slot ≡ n
    → IsSpread (n + 1) (heads ++ h ∷ []) free
grown n heads free f h e = record {
  once = λ s. elim (cases_eq n s) [
    | inl q ↦
        let a = uses_push s heads h in
        let b : uses s heads ≡ 0 = subst (λ v. uses v heads ≡ 0) q (uses_none n heads f.heads_below) in
        let c : among s free ≡ 0 = subst (λ v. among v free ≡ 0) q (among_none n free f.free_below) in
        let k = one_most (h.slot == s) in omega (arith, a, b, c, k)
    | inr ne ↦
        let a = uses_push s heads h in
        let z : one (h.slot == s) ≡ 0 = ap one (ne_eqb h.slot s (λ q. ne (sym e ∙ q))) in
        let o = f.once s in omega (arith, a, z, o)
  ];
  heads_below = below_push (n + 1) heads h (heads_wider n heads f.heads_below) (omega (arith, e));
  free_below = free_wider n free f.free_below;
}
  where
    one_most : (b : Bool) → one b ≤ 1
    one_most true = omega arith
    one_most false = omega arith

get_left : {X : Type 0} (xs ys : List X) (i : ℕ) (d : X) → i < length xs → get_or (xs ++ ys) i d ≡ get_or xs i d
get_left [] ys i d h = absurd (omega (arith, h))
get_left (x ∷ xs) ys zero d h = refl
get_left (x ∷ xs) ys (suc i) d h = get_left xs ys i d (omega (arith, h))

get_last : {X : Type 0} (xs : List X) (x d : X) → get_or (xs ++ x ∷ []) (length xs) d ≡ x
get_last [] x d = refl
get_last (y ∷ ys) x d = get_last ys x d

-- trails that follow don't count
same_rows : (trails more : List (List Item)) (hs : List Head) → HeadsBelow (length trails) hs → map (row_of (trails ++ more)) hs ≡ map (row_of trails) hs
same_rows trails more [] b = refl
same_rows trails more (h ∷ hs) b =
    let e : row_of (trails ++ more) h ≡ row_of trails h = rw (get_left trails more h.slot [] b.0) refl in
    rw (e, same_rows trails more hs b.1) refl

pub grown_view : (trails : List (List Item)) (heads : List Head) (free : List ℕ) (r : Row) → IsSpread (length trails) heads free
    → map (row_of (trails ++ r.trail ∷ [])) (heads ++ head_with r (length trails) ∷ []) ≡ map (row_of trails) heads ++ r ∷ []
grown_view trails heads free r f =
    let own_row : row_of (trails ++ r.trail ∷ []) (head_with r (length trails)) ≡ r = rw (get_last trails r.trail []) refl in
    map-append (row_of (trails ++ r.trail ∷ [])) heads (head_with r (length trails) ∷ [])
    ∙ ap (λ v. v ++ row_of (trails ++ r.trail ∷ []) (head_with r (length trails)) ∷ []) (same_rows trails (r.trail ∷ []) heads f.heads_below)
    ∙ ap (λ v. map (row_of trails) heads ++ v ∷ []) own_row

pub grown_here : (n : ℕ) (trails : List (List Item)) (heads : List Head) (free : List ℕ) (r : Row) → length trails ≡ n → IsSpread n heads free
    → map (row_of (trails ++ r.trail ∷ [])) (heads ++ head_with r n ∷ []) ≡ map (row_of trails) heads ++ r ∷ []
grown_here n trails heads free r l f =
    subst (λ k. map (row_of (trails ++ r.trail ∷ [])) (heads ++ head_with r k ∷ []) ≡ map (row_of trails) heads ++ r ∷ []) l
    (grown_view trails heads free r (subst (λ k. IsSpread k heads free) (sym l) f))

-- ROWS GO

abbrev pub stays : Inval → Head → Bool
stays i h = not (covers i h.tag)

going : (i : Inval) (s : ℕ) (h : Head) (hs : List Head) (b : Bool) → uses s (filter (stays i) hs) + among s (spares i hs) ≡ uses s hs
    → uses s (cond (not b) (h ∷ filter (stays i) hs) (filter (stays i) hs)) + among s (cond b (h.slot ∷ spares i hs) (spares i hs)) ≡ one
    (h.slot == s) + uses s hs
going i s h hs true rest = omega (arith, rest)
going i s h hs false rest = omega (arith, rest)

gone : (i : Inval) (s : ℕ) (hs : List Head) → uses s (filter (stays i) hs) + among s (spares i hs) ≡ uses s hs
gone i s [] = refl
gone i s (h ∷ hs) = going i s h hs (covers i h.tag) (gone i s hs)

among_append : (s : ℕ) (ts us : List ℕ) → among s (ts ++ us) ≡ among s ts + among s us
among_append s [] us = omega arith
among_append s (t ∷ ts) us = let e = among_append s ts us in omega (arith, e)

counting : (i : Inval) (h : Head) (hs : List Head) (b : Bool) → length (filter (stays i) hs) + length (spares i hs) ≡ length hs
    → length (cond (not b) (h ∷ filter (stays i) hs) (filter (stays i) hs)) + length (cond b (h.slot ∷ spares i hs) (spares i hs)) ≡ suc (length hs)
counting i h hs true rest = omega (arith, rest)
counting i h hs false rest = omega (arith, rest)

pub counted : (i : Inval) (hs : List Head) → length (filter (stays i) hs) + length (spares i hs) ≡ length hs
counted i [] = refl
counted i (h ∷ hs) = counting i h hs (covers i h.tag) (counted i hs)

staying_below : (n : ℕ) (i : Inval) (h : Head) (hs : List Head) (b : Bool) → h.slot < n → HeadsBelow n (filter (stays i) hs)
    → HeadsBelow n (cond (not b) (h ∷ filter (stays i) hs) (filter (stays i) hs))
staying_below n i h hs true l rest = rest
staying_below n i h hs false l rest = (l, rest)

stays_below : (n : ℕ) (i : Inval) (hs : List Head) → HeadsBelow n hs → HeadsBelow n (filter (stays i) hs)
stays_below n i [] b = tt
stays_below n i (h ∷ hs) b = staying_below n i h hs (covers i h.tag) b.0 (stays_below n i hs b.1)

sparing_below : (n : ℕ) (i : Inval) (h : Head) (hs : List Head) (b : Bool) → h.slot < n → AreBelow n (spares i hs)
    → AreBelow n (cond b (h.slot ∷ spares i hs) (spares i hs))
sparing_below n i h hs true l rest = (l, rest)
sparing_below n i h hs false l rest = rest

spares_below : (n : ℕ) (i : Inval) (hs : List Head) → HeadsBelow n hs → AreBelow n (spares i hs)
spares_below n i [] b = tt
spares_below n i (h ∷ hs) b = sparing_below n i h hs (covers i h.tag) b.0 (spares_below n i hs b.1)

below_append : (n : ℕ) (ts us : List ℕ) → AreBelow n ts → AreBelow n us → AreBelow n (ts ++ us)
below_append n [] us b c = c
below_append n (t ∷ ts) us b c = (b.0, below_append n ts us b.1 c)

-- the slots of those that go are free
pub killed_spread : (n : ℕ) (i : Inval) (heads : List Head) (free : List ℕ) → IsSpread n heads free
    → IsSpread n (filter (stays i) heads) (free ++ spares i heads)
killed_spread n i heads free f = record {
  once = λ s. let a = gone i s heads in let b = among_append s free (spares i heads) in let o = f.once s in omega (arith, a, b, o);
  heads_below = stays_below n i heads f.heads_below;
  free_below = below_append n free (spares i heads) f.free_below (spares_below n i heads f.heads_below);
}

all_if : (i : Inval) (h : Head) (hs : List Head) (b : Bool) → length (cond b (h.slot ∷ spares i hs) (spares i hs)) ≡ 0 → (length (spares i hs) ≡ 0
    → filter (stays i) hs ≡ hs)
    → cond (not b) (h ∷ filter (stays i) hs) (filter (stays i) hs) ≡ h ∷ hs
all_if i h hs true e rest = absurd (omega (arith, e))
all_if i h hs false e rest = ap (λ v. h ∷ v) (rest e)

-- none goes where no slot becomes free
pub all_stay : (i : Inval) (hs : List Head) → length (spares i hs) ≡ 0 → filter (stays i) hs ≡ hs
all_stay i [] e = refl
all_stay i (h ∷ hs) e = all_if i h hs (covers i h.tag) e (all_stay i hs)

viewing : (i : Inval) (trails : List (List Item)) (h : Head) (hs : List Head) (b : Bool)
    → filter (λ (r : Row). not (covers i r.tag)) (map (row_of trails) hs) ≡ map (row_of trails) (filter (stays i) hs)
    → cond (not b) (row_of trails h ∷ filter (λ (r : Row). not (covers i r.tag)) (map (row_of trails) hs)) (filter (λ (r : Row). not (covers i r.tag))
    (map (row_of trails) hs))
    ≡ map (row_of trails) (cond (not b) (h ∷ filter (stays i) hs) (filter (stays i) hs))
viewing i trails h hs true rest = rest
viewing i trails h hs false rest = ap (λ v. row_of trails h ∷ v) rest

pub killed_view : (i : Inval) (trails : List (List Item)) (hs : List Head)
    → filter (λ (r : Row). not (covers i r.tag)) (map (row_of trails) hs) ≡ map (row_of trails) (filter (stays i) hs)
killed_view i trails [] = refl
killed_view i trails (h ∷ hs) = viewing i trails h hs (covers i h.tag) (killed_view i trails hs)

-- WHAT IS ASKED OF HEADS

pub any_map : {X Y : Type 0} (p : Y → Bool) (f : X → Y) (xs : List X) → list_any p (map f xs) ≡ list_any (λ x. p (f x)) xs
any_map p f [] = refl
any_map p f (x ∷ xs) = ap (λ v. p (f x) || v) (any_map p f xs)

pub looked_map : {X Y : Type 0} (test : Y → Bool) (made : Y → Made) (f : X → Y) (test2 : X → Bool) (made2 : X → Made)
    → ((x : X) → test (f x) ≡ test2 x)
    → ((x : X) → made (f x) ≡ made2 x)
    → (set way : ℕ) (found : Found) (xs : List X) → looked test made set way found (map f xs) ≡ looked test2 made2 set way found xs
looked_map test made f test2 made2 h k set way found [] = refl
looked_map test made f test2 made2 h k set way found (x ∷ xs) =
    looked_map test made f test2 made2 h k set (way + 1) (cond (test (f x)) (met found (seen_at set way (made (f x)))) found) xs
    ∙ ap (λ v. looked test2 made2 set (way + 1) (cond v (met found (seen_at set way (made (f x)))) found) xs) (h x)
    ∙ ap (λ v. looked test2 made2 set (way + 1) (cond (test2 x) (met found (seen_at set way v)) found) xs) (k x)

pub first_map : {X Y : Type 0} (test : Y → Bool) (f : X → Y) (test2 : X → Bool) → ((x : X) → test (f x) ≡ test2 x) → (way : ℕ) (xs : List X)
    → first_hit test way (map f xs) ≡ first_hit test2 way xs
first_map test f test2 h way [] = refl
first_map test f test2 h way (x ∷ xs) =
    ap (λ v. cond (test (f x)) (Some way) v) (first_map test f test2 h (way + 1) xs) ∙ ap (λ v. cond v (Some way) (first_hit test2 (way + 1) xs)) (h x)

-- the trail of a row
pub trail_at : (n : ℕ) (trails : List (List Item)) (hs : List Head) (i : ℕ) (h : Head) (e : List Item) (d : Row) → i < length hs → h ≡ get_or hs i h
    → h.slot < length trails
    → get_or trails h.slot e ≡ (get_or (map (row_of trails) hs) i d).trail
trail_at n trails hs i h e d lt value within =
    get_or_default trails h.slot e [] within ∙ ap (λ (v : Head). get_or trails v.slot []) value
    ∙ ap (λ (v : Row). v.trail) (sym (map_get (row_of trails) hs i h d lt))
