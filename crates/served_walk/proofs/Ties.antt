-- From the clauses of replay and replay2 to what the definitions serve.
use Rattle.std.proofs.Common.{◌≡◌, ℕ, Bool, true, false, cond, List, [], ◌∷◌, ◌++◌, length, take, refl, sym, ap, ◌∙◌, subst, append-nil}
use Rattle.sysregs.specs.declared.regs.Config.{Config}
use Rattle.sysregs.specs.Sides.{side_of}
use Rattle.trails.specs.declared.item.Item.{Item}
use Rattle.trails.specs.declared.outcome.Access.{Access}
use Rattle.trails.specs.declared.outcome.Outcome.{Outcome}
use Rattle.walk_spec.specs.Ask.{Ask, done, ask, Stands, needs, bad, ends, on, ended}
use Rattle.walk_spec.specs.Needs.{Regime, regime_of, Need, fits}
use Rattle.walk_spec.specs.Steps.{End}
use Rattle.walk_spec.specs.BothStages.{Landing, walk, outcome_of}
use Rattle.tagged_tlb.specs.declared.row.Row.{Row}
use Rattle.machine_spec.specs.Served.{Supplied, came, pushed, halted, serve, taken, credited, begun1, combined}
use Rattle.machine_laws.specs.Standing.{IsOn}
use Rattle.translate.specs.Replayed.{EndsOn}
use Rattle.served_walk.specs.ServeAt.{serve_at, reply_of, behind}
use Rattle.served_walk.proofs.Serving.{serve_is, serve_front, serve_ends}

-- FROM STANDING TO TREES

fit_ends : {A : Type 0} (b : Bool) (u : Stands Need Item A) (a : A) (rest : List Item) → cond b u bad ≡ ends a rest → (b ≡ true) × (u ≡ ends a rest)
fit_ends true u a rest h = (refl, h)
fit_ends false u a rest h = absurd cc

fit_needs : {A : Type 0} (b : Bool) (u : Stands Need Item A) (n : Need) → cond b u bad ≡ needs n → (b ≡ true) × (u ≡ needs n)
fit_needs true u n h = (refl, h)
fit_needs false u n h = absurd cc

-- a walk that ends on the whole of a list has ended on it
pub ends_on : {A : Type 0} (r : Regime) (t : Ask Need Item A) (items : List Item) (a : A) → on (fits r) t items ≡ ends a [] → IsOn r t items (done a)
ends_on r (done b) [] a h = let e : a ≡ b = cc in ap done e
ends_on r (done b) (i ∷ items) a h = absurd cc
ends_on r (ask n k) [] a h = absurd cc
ends_on r (ask n k) (i ∷ items) a h =
    let d = fit_ends (fits r n i) (on (fits r) (k i) items) a [] h in
    (d.0, ends_on r (k i) items a d.1)

-- a walk that needs something behind a list asks for it there
pub needs_on : {A : Type 0} (r : Regime) (t : Ask Need Item A) (items : List Item) (n : Need) → on (fits r) t items ≡ needs n
    → (k : Item → Ask Need Item A) × IsOn r t items (ask n k)
needs_on r (done b) items n h = absurd cc
needs_on r (ask m k) [] n h = let e : n ≡ m = cc in (k, ap (λ z. ask z k) e)
needs_on r (ask m k) (i ∷ items) n h =
    let d = fit_needs (fits r m i) (on (fits r) (k i) items) n h in
    let q = needs_on r (k i) items n d.1 in
    (q.0, (d.0, q.1))

-- A COMBINED ROW

taken_nil : (items : List Item) (e : End Landing) → taken items (done e) ≡ halted (came (ended e))
taken_nil [] e = refl
taken_nil (i ∷ items) e = refl

taken_front : (r : Regime) (t : Ask Need Item (End Landing)) (e : End Landing) (front rest : List Item) → IsOn r t front (done e)
    → taken (front ++ rest) t ≡ record { items = front; halt = came (ended e); by = [] }
taken_front r t e [] rest h = subst (λ w. taken rest w ≡ record { items = []; halt = came (ended e); by = [] }) h (taken_nil rest e)
taken_front r (done b) e (x ∷ front) rest h = absurd h
taken_front r (ask n k) e (x ∷ front) rest h = ap (pushed x []) (taken_front r (k x) e front rest h.1)

take_front : (front rest : List Item) → take (length front) (front ++ rest) ≡ front
take_front [] rest = refl
take_front (i ∷ front) rest = ap (λ l. i ∷ l) (take_front front rest)

-- the walk has ended on a front of a trail
pub front_ended : (c : Config) (a : Access) (trail : List Item) (len : ℕ) (o : Outcome) (d : EndsOn c a trail len o)
    → IsOn (regime_of c (side_of a.va)) (walk c true a) (take len trail) (done d.0)
front_ended c a trail len o d =
    let r : Regime = regime_of c (side_of a.va) in
    let f : take len trail ≡ d.1 = ap (λ n. take n trail) d.4 ∙ ap (λ l. take (length d.1) l) d.3 ∙ take_front d.1 d.2 in
    subst (λ l. IsOn r (walk c true a) l (done d.0)) (sym f) (ends_on r (walk c true a) d.1 d.0 d.5)

-- what replay answers as ended is what is taken of the trail
pub taken_ends : (c : Config) (a : Access) (trail : List Item) (len : ℕ) (o : Outcome) (d : EndsOn c a trail len o)
    → taken trail (walk c true a) ≡ record { items = take len trail; halt = came (ended d.0); by = [] }
taken_ends c a trail len o d =
    let r : Regime = regime_of c (side_of a.va) in
    let f : take len trail ≡ d.1 = ap (λ n. take n trail) d.4 ∙ ap (λ l. take (length d.1) l) d.3 ∙ take_front d.1 d.2 in
    let t : taken trail (walk c true a) ≡ record { items = d.1; halt = came (ended d.0); by = [] } = ap (λ l. taken l (walk c true a)) d.3
    ∙ taken_front r (walk c true a) d.0 d.1 d.2 (ends_on r (walk c true a) d.1 d.0 d.5) in
    t ∙ ap (λ l. record { items = l; halt = came (ended d.0); by = [] }) (sym f)

pub taken_is : (c : Config) (a : Access) (trail : List Item) (len : ℕ) (o : Outcome) → EndsOn c a trail len o
    → (e : End Landing) × (taken trail (walk c true a) ≡ record { items = take len trail; halt = came (ended e); by = [] }) × (o ≡ outcome_of e)
taken_is c a trail len o d = (d.0, taken_ends c a trail len o d, d.6)

-- the same of a walk that is served from the trail on: the items behind its end are left over
pub ended_is : (c : Config) (a : Access) (sup : Need → Supplied) (trail : List Item) (len : ℕ) (o : Outcome) → (d : EndsOn c a trail len o)
    → serve sup trail (walk c true a) ≡ record { items = take len trail; halt = came (ended d.0); by = [] }
ended_is c a sup trail len o d =
    let r : Regime = regime_of c (side_of a.va) in
    let f : take len trail ≡ d.1 = ap (λ n. take n trail) d.4 ∙ ap (λ l. take (length d.1) l) d.3 ∙ take_front d.1 d.2 in
    serve_is sup trail (walk c true a) ∙ ap (λ l. reply_of (serve_at sup l (walk c true a))) d.3
    ∙ ap reply_of (serve_ends r sup d.1 d.2 (walk c true a) d.0 (ends_on r (walk c true a) d.1 d.0 d.5))
    ∙ ap (λ l. record { items = l; halt = came (ended d.0); by = [] }) (sym f)

-- the one combined row that matches
pub leaf1_served : (c : Config) (a : Access) (row : Row) (leaves : List Row) (table : Rattle.std.specs.Prelude.Option Row) (sup : Need
    → Supplied) (len : ℕ) (o : Outcome) → leaves ≡ row ∷ [] → EndsOn c a row.trail len o →
    (e : End Landing) × (combined leaves table sup (walk c true a) ≡ record { items = take len row.trail; halt = came (ended e); by = row ∷ [] })
    × (o ≡ outcome_of e)
leaf1_served c a row leaves table sup len o one h =
    let d = taken_is c a row.trail len o h in
    (d.0, ap (λ l. combined l table sup (walk c true a)) one ∙ ap (credited row) d.1, d.2)

-- A TABLE OF STAGE 1

-- where the walk that is left behind a row's trail is known as a tree, that is served
pub table1_served : (r : Regime) (row : Row) (sup : Need → Supplied) (t u : Ask Need Item (End Landing)) → IsOn r t row.trail u →
    begun1 (Rattle.std.specs.Prelude.Some row) (λ items. serve sup items t) ≡ reply_of (behind row.trail (row ∷ []) (serve_at sup [] u))
table1_served r row sup t u h =
    let e : serve sup row.trail t ≡ reply_of (behind row.trail [] (serve_at sup [] u)) = serve_is sup row.trail t
    ∙ ap (λ l. reply_of (serve_at sup l t)) (sym (append-nil row.trail)) ∙ ap reply_of (serve_front r sup row.trail [] t u h) in
    ap (credited row) e
