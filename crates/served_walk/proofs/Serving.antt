-- Laws of serving.
use Rattle.std.proofs.Common.{◌≡◌, List, [], ◌∷◌, ◌++◌, refl, sym, ap, ◌∙◌, append_assoc, append-nil}
use Rattle.trails.specs.declared.item.Item.{Item}
use Rattle.walk_spec.specs.Ask.{Ask, done, ask, after}
use Rattle.walk_spec.specs.Needs.{Regime, Need}
use Rattle.walk_spec.specs.Steps.{End}
use Rattle.walk_spec.specs.BothStages.{Landing}
use Rattle.tagged_tlb.specs.declared.row.Row.{Row}
use Rattle.machine_spec.specs.Served.{Supplied, gives, halts, serve, goes_on, Reply}
use Rattle.machine_laws.specs.Standing.{IsOn}
use Rattle.served_walk.specs.ServeAt.{StopAt, fed, breaks, ReplyAt, push_at, goes_at, serve_at, reply_of, behind, then_stop, then_at}

-- SERVE IS AN INSTANCE

goes_is : (s : Supplied) (f : Item → List Item → Reply) (g : Item → List Item → ReplyAt (End Landing))
    → ((i : Item) (rest : List Item) → f i rest ≡ reply_of (g i rest)) → goes_on s f ≡ reply_of (goes_at s g)
goes_is (gives i rest rows) f g h = ap (λ (r : Reply). record { items = i ∷ r.items; halt = r.halt; by = rows ++ r.by }) (h i rest)
goes_is (halts h) f g e = refl

pub serve_is : (sup : Need → Supplied) (items : List Item) (t : Ask Need Item (End Landing)) → serve sup items t ≡ reply_of (serve_at sup items t)
serve_is sup items (done e) = refl
serve_is sup [] (ask n k) = goes_is (sup n) (λ i rest. serve sup rest (k i)) (λ i rest. serve_at sup rest (k i)) (λ i rest. serve_is sup rest (k i))
serve_is sup (i ∷ items) (ask n k) = ap (λ (r : Reply). record { items = i ∷ r.items; halt = r.halt; by = r.by }) (serve_is sup items (k i))

-- SEQUENCING

module _ {A B : Type 0} where
  push_stop : (i : Item) (rows : List Row) (items : List Item) (by : List Row) (s : StopAt A) (f : A → List Item → ReplyAt B)
      → push_at i rows (then_stop items by s f) ≡ then_stop (i ∷ items) (rows ++ by) s f
  push_stop i rows items by (fed a left) f =
      ap (λ l. record { items = i ∷ items ++ (f a left).items; stop = (f a left).stop; by = l }) (sym (append_assoc rows by (f a left).by))
  push_stop i rows items by (breaks h) f = refl

  push_then : (i : Item) (rows : List Row) (r : ReplyAt A) (f : A → List Item → ReplyAt B) → push_at i rows (then_at r f) ≡ then_at (push_at i rows r) f
  push_then i rows r f = push_stop i rows r.items r.by r.stop f

  goes_then : (s : Supplied) (g : Item → List Item → ReplyAt A) (h : Item → List Item → ReplyAt B) (f : A → List Item → ReplyAt B)
      → ((i : Item) (rest : List Item) → h i rest ≡ then_at (g i rest) f) → goes_at s h ≡ then_at (goes_at s g) f
  goes_then (gives i rest rows) g h f e = ap (push_at i rows) (e i rest) ∙ push_then i rows (g i rest) f
  goes_then (halts q) g h f e = refl

  -- serving one walk and then another is serving the one, and then the other with the items that are left over
  pub serve_after : (sup : Need → Supplied) (items : List Item) (t : Ask Need Item A) (f : A → Ask Need Item B)
      → serve_at sup items (after t f) ≡ then_at (serve_at sup items t) (λ a left. serve_at sup left (f a))
  serve_after sup items (done a) f = refl
  serve_after sup [] (ask n k) f = goes_then (sup n) (λ i rest. serve_at sup rest (k i)) (λ i rest. serve_at sup rest (after (k i) f))
      (λ a left. serve_at sup left (f a)) (λ i rest. serve_after sup rest (k i) f)
  serve_after sup (i ∷ items) (ask n k) f = ap (push_at i []) (serve_after sup items (k i) f)
      ∙ push_then i [] (serve_at sup items (k i)) (λ a left. serve_at sup left (f a))

-- BEHIND ITEMS

-- items that are there already and on which the walk stands come first
pub serve_front : {A : Type 0} (r : Regime) (sup : Need → Supplied) (front rest : List Item) (t u : Ask Need Item A) → IsOn r t front u
    → serve_at sup (front ++ rest) t ≡ behind front [] (serve_at sup rest u)
serve_front r sup [] rest t u e = ap (serve_at sup rest) (sym e)
serve_front r sup (i ∷ front) rest (done a) u e = absurd e
serve_front r sup (i ∷ front) rest (ask n k) u e = ap (push_at i []) (serve_front r sup front rest (k i) u e.1)

-- a walk that ends on some of them leaves the others over
pub serve_ends : {A : Type 0} (r : Regime) (sup : Need → Supplied) (front rest : List Item) (t : Ask Need Item A) (a : A) → IsOn r t front (done a)
    → serve_at sup (front ++ rest) t ≡ record { items = front; stop = fed a rest; by = [] }
serve_ends r sup front rest t a h = serve_front r sup front rest t (done a) h ∙ ap (λ l. record { items = l; stop = fed a rest; by = [] }) (append-nil front)
