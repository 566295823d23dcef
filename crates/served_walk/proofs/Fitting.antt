-- What is served stands on the walk, where what is supplied fits.
use Rattle.std.proofs.Common.{◌≡◌, ℕ, zero, suc, Bool, true, false, cond, List, [], ◌∷◌, refl, Ok, Err, Result, Option, Some, None}
use Rattle.std.specs.Prelude.{option_map}
use Rattle.sysregs.specs.Registers.{config_of}
use Rattle.sysregs.specs.Sides.{side_of}
use Rattle.fault_codes.specs.declared.fault.Fault.{Fault}
use Rattle.fault_codes.specs.declared.fault.Class.TheVariants.{Translation, AddressSize, Permission}
use Rattle.fault_codes.specs.declared.fault.Stage.TheVariants.{S2}
use Rattle.geometry.specs.Tables.{most_left}
use Rattle.permissions.specs.Rights.{no_bits}
use Rattle.trails.specs.declared.item.Item.{Item}
use Rattle.trails.specs.declared.outcome.Access.{Access}
use Rattle.table_reads.specs.declared.lead.Lead.{Lead}
use Rattle.table_reads.specs.declared.lead.Lead.TheVariants.{Down, Reached, Stopped}
use Rattle.table_reads.specs.Places.{place_of, is_too_large}
use Rattle.walk_spec.specs.declared.entry.Entry1.{Entry1}
use Rattle.walk_spec.specs.declared.entry.Table1.{Table1}
use Rattle.walk_spec.specs.declared.leaf.Leaf1.{Leaf1}
use Rattle.walk_spec.specs.declared.leaf.Leaf2.{Leaf2}
use Rattle.walk_spec.specs.Ask.{Ask, done, ask, after, finer, go_on}
use Rattle.walk_spec.specs.Needs.{Regime, regime_of, Need, stage1_base, stage2_base, word, WordNeed, fits, needed_item}
use Rattle.walk_spec.specs.Steps.{End, stops, reaches, step_then}
use Rattle.walk_spec.specs.Stage2.{Asked2, fault2, step2, walk2, walk2_from, walk2_behind, is_refused2}
use Rattle.walk_spec.specs.Stage1.{Asked, asked2, fault1, walk1_from, read1, read1_by, is_readable, word_of, stage1_from}
use Rattle.walk_spec.specs.BothStages.{Landing, asked, judged2, landed, stage1, stage1_on, stage1_off, stage1_behind, stage2_behind, walk, is_refused1}
use Rattle.walk_spec.specs.Fresh.{start_base1, start_base2}
use Rattle.stage1_walk.specs.Kept.{needed1}
use Rattle.tagged_tlb.specs.declared.row.Row.{Row}
use Rattle.tagged_tlb.specs.Rows.{matches, matching, deepest}
use Rattle.machine_spec.specs.Served.{Supplied, gives, halts, chain_by, chain_of, fresh_of, Place, supply, supplied_by}
use Rattle.tagged_tlb.specs.declared.row.Kind.TheVariants.{Leaf2 as OfLeaf2, Table2 as OfTable2}
use Rattle.machine_spec.specs.Made.{key_of}
use Rattle.machine_laws.specs.Standing.{IsOn}
use Rattle.machine_laws.proofs.Trees.{chain}
use Rattle.machine_laws.proofs.Stands.{on_after}
use Rattle.machine_laws.proofs.Serve.{fits_base1, fits_base2, fits_needed}
use Rattle.served_walk.specs.ServeAt.{StopAt, fed, breaks, serve_at, goes_at}

module _ (r : Regime) (sup : Need → Supplied) where
  -- what is supplied for a need stands on the walk that needs it
  abbrev pub FitsHere : {A : Type 0} → Ask Need Item A → Supplied → Type 0
  FitsHere {A} t (gives i rest rows) = (u : Ask Need Item A) × IsOn r t (i ∷ rest) u
  FitsHere t (halts h) = Unit {0}

  abbrev pub IsFit : {A : Type 0} → Ask Need Item A → Type 0
  IsFit (done a) = Unit {0}
  IsFit (ask n k) = FitsHere (ask n k) (sup n) × ((i : Item) → IsFit (k i))

  -- the items stand on the walk, up to where the service stopped; nothing is left over
  abbrev pub OnStop : {A : Type 0} → Ask Need Item A → List Item → StopAt A → Type 0
  OnStop t items (fed a left) = IsOn r t items (done a) × (left ≡ [])
  OnStop {A} t items (breaks h) = (n : Need) × (k : Item → Ask Need Item A) × IsOn r t items (ask n k) × (sup n ≡ halts h)

  module _ {A : Type 0} where
    more_on : (n : Need) (k : Item → Ask Need Item A) (i : Item) → fits r n i ≡ true → (items : List Item) (s : StopAt A) → OnStop (k i) items s
        → OnStop (ask n k) (i ∷ items) s
    more_on n k i f items (fed a left) h = ((f, h.0), h.1)
    more_on n k i f items (breaks q) h = (h.0, h.1, (f, h.2), h.3)

    goes_on_stop : (n : Need) (k : Item → Ask Need Item A) (s : Supplied) → sup n ≡ s → FitsHere (ask n k) s
        → ((i : Item) (rest : List Item) (u : Ask Need Item A) → IsOn r (k i) rest u → let y = serve_at sup rest (k i) in OnStop (k i) y.items y.stop) →
        let y = goes_at s (λ i rest. serve_at sup rest (k i)) in OnStop (ask n k) y.items y.stop
    goes_on_stop n k (gives i rest rows) e h rec = more_on n k i h.1.0 (serve_at sup rest (k i)).items (serve_at sup rest (k i)).stop (rec i rest h.0 h.1.1)
    goes_on_stop n k (halts q) e h rec = (n, k, refl, e)

    -- what is served stands on the walk
    pub serve_on : (t u : Ask Need Item A) (queue : List Item) → IsOn r t queue u → IsFit t → let y = serve_at sup queue t in OnStop t y.items y.stop
    serve_on (done a) u [] h f = (refl, refl)
    serve_on (done a) u (i ∷ queue) h f = absurd h
    serve_on (ask n k) u [] h f = goes_on_stop n k (sup n) refl f.0 (λ i rest v g. serve_on (k i) v rest g (f.1 i))
    serve_on (ask n k) u (i ∷ queue) h f = more_on n k i h.0 (serve_at sup queue (k i)).items (serve_at sup queue (k i)).stop
        (serve_on (k i) u queue h.1 (f.1 i))

  fit_after_here : {A B : Type 0} (t : Ask Need Item A) (f : A → Ask Need Item B) (s : Supplied) → FitsHere t s → FitsHere (after t f) s
  fit_after_here t f (gives i rest rows) h = (after h.0 f, on_after r t h.0 f (i ∷ rest) h.1)
  fit_after_here t f (halts q) h = tt

  pub fit_after : {A B : Type 0} (t : Ask Need Item A) (f : A → Ask Need Item B) → IsFit t → ((a : A) → IsFit (f a)) → IsFit (after t f)
  fit_after (done a) f h g = g a
  fit_after (ask n k) f h g = (fit_after_here (ask n k) f (sup n) h.0, λ i. fit_after (k i) f (h.1 i) g)

  fit_if : {A : Type 0} (b : Bool) (t u : Ask Need Item A) → (b ≡ true → IsFit t) → (b ≡ false → IsFit u) → IsFit (cond b t u)
  fit_if true t u h g = h refl
  fit_if false t u h g = g refl

module _ (place : Place) (a : Access) where
  abbrev pub rg : Regime
  rg = regime_of (config_of place.regs) (side_of a.va)

  abbrev pub sup : Need → Supplied
  sup = supply place a

  abbrev pub Fit : {A : Type 0} → Ask Need Item A → Type 0
  Fit t = IsFit rg sup t

  word_by : {A : Type 0} (w : WordNeed) (k : Item → Ask Need Item A) (o : Option ℕ)
      → FitsHere rg sup (ask (word w) k) (supplied_by (word w) (option_map (needed_item place.step w) o))
  word_by w k None = tt
  word_by w k (Some v) = (k (needed_item place.step w v), (fits_needed rg w place.step v, refl))

  word_fit : {A : Type 0} (w : WordNeed) (k : Item → Ask Need Item A) → ((i : Item) → Fit (k i)) → Fit (ask (word w) k)
  word_fit w k h = (word_by w k (place.memory w.place), h)

  step2_fit : (below : ℕ → Ask Need Item (End Leaf2)) (s : Lead Leaf2 ℕ) → ((t : ℕ) → Fit (below t)) → Fit (step_then below s)
  step2_fit below (Down t) h = h t
  step2_fit below (Reached l) h = tt
  step2_fit below (Stopped f) h = tt

  abbrev Word2 : Asked2 → ℕ → ℕ → WordNeed
  Word2 q left t = record { stage = S2; left = left; place = place_of q.sizes left t q.ipa; s1ptw = q.s1ptw; address = q.ipa; table = t }

  abbrev Last2 : Asked2 → ℕ → Ask Need Item (End Leaf2)
  Last2 q t = done (stops (fault2 q Translation 0))

  from2_fit : (q : Asked2) (left table : ℕ) → Fit (walk2_from q left table)
  from2_fit q zero table = word_fit (Word2 q 0 table) (λ i. step_then (Last2 q) (step2 q 0 i.pa i.value))
      (λ i. step2_fit (Last2 q) (step2 q 0 i.pa i.value) (λ t. tt))
  from2_fit q (suc left) table = word_fit (Word2 q (suc left) table) (λ i. step_then (walk2_from q left) (step2 q (suc left) i.pa i.value))
      (λ i. step2_fit (walk2_from q left) (step2 q (suc left) i.pa i.value) (λ t. from2_fit q left t))

  abbrev Ready : Item → Ask Need Item (Result Item Fault)
  Ready i = done (Ok i)

  read1_fit : (e : Entry1) (p : ℕ) → Fit (read1 e p)
  read1_fit e p = word_fit (needed1 e p) Ready (λ i. tt)

  -- what is asked of rows: each chain that is supplied stands on the chain of its IPA
  abbrev pub ChainsFit : Type 0
  ChainsFit = (p : Bool) (x : ℕ) → is_refused2 (config_of place.regs) x ≡ false → FitsHere rg sup (chain rg p x) (sup (stage2_base x))

  module _ (chains : ChainsFit) where
    pub walk2_fit : (p : Bool) (x : ℕ) → Fit (walk2 (asked2 rg p x))
    walk2_fit p x =
        fit_if rg sup (is_refused2 rg.config x) (done (stops (fault2 (asked2 rg p x) Translation most_left))) (chain rg p x) (λ e. tt)
        (λ e. (
          chains p x e,
          λ i. fit_if rg sup (is_too_large rg.stage2 i.value) (done (stops (fault2 (asked2 rg p x) AddressSize most_left)))
              (walk2_from (asked2 rg p x) rg.stage2.start i.value) (λ b. tt) (λ b. from2_fit (asked2 rg p x) rg.stage2.start i.value),
        ))

    read_fit : (e : Entry1) (d : End Leaf2) → Fit (read1_by rg.config e d)
    read_fit e (stops f) = tt
    read_fit e (reaches l) = fit_if rg sup (is_readable rg.config l) (read1 e l.pa)
        (done (Err record { stage = S2; level = l.level; class = Permission; s1ptw = true })) (λ b. read1_fit e l.pa) (λ b. tt)

    pub word_of_fit : (e : Entry1) → Fit (word_of rg e)
    word_of_fit e = fit_if rg sup rg.config.vm (after (walk2 (asked2 rg true e.place)) (read1_by rg.config e)) (read1 e e.place)
        (λ b. fit_after rg sup (walk2 (asked2 rg true e.place)) (read1_by rg.config e) (walk2_fit true e.place) (λ d. read_fit e d))
        (λ b. read1_fit e e.place)

    go_fit : (k : Item → Ask Need Item (End Leaf1)) (d : Result Item Fault) → ((i : Item) → Fit (k i)) → Fit (go_on stops k d)
    go_fit k (Ok i) h = h i
    go_fit k (Err f) h = tt

    -- the finer walk of any walk over entries
    pub finer_fit : (t : Ask Entry1 Item (End Leaf1)) → Fit (finer stops (word_of rg) t)
    finer_fit (done e) = tt
    finer_fit (ask e k) = fit_after rg sup (word_of rg e) (go_on stops (λ i. finer stops (word_of rg) (k i))) (word_of_fit e)
        (λ d. go_fit (λ i. finer stops (word_of rg) (k i)) d (λ i. finer_fit (k i)))

    abbrev q : Asked
    q = asked (config_of place.regs) true a

    abbrev Judge : Leaf1 → End Leaf2 → Ask Need Item (End Landing)
    Judge l e = done (judged2 true a l e)

    output_fit : (e : End Leaf1) → Fit (stage2_behind q e)
    output_fit (stops f) = tt
    output_fit (reaches l) = fit_if rg sup rg.config.vm (after (walk2 (asked2 rg false l.out)) (λ e. done (judged2 true a l e)))
        (done (reaches (landed l))) (λ b. fit_after rg sup (walk2 (asked2 rg false l.out)) (Judge l) (walk2_fit false l.out) (λ d. tt)) (λ b. tt)

    stage1_fit : Fit (stage1 q)
    stage1_fit =
        fit_if rg sup rg.config.m (stage1_on q) (stage1_off q)
        (λ b. fit_if rg sup (is_refused1 rg.config a) (done (stops (fault1 Translation most_left))) (ask stage1_base (λ i. stage1_behind q i.value))
        (λ d. tt)
        (λ d. (
          (stage1_behind q (start_base1 place.regs (side_of a.va)), (fits_base1 place.regs (side_of a.va) place.step, refl)),
          λ i. fit_if rg sup
              (is_too_large rg.stage1 i.value) (done (stops (fault1 AddressSize most_left)))
              (stage1_from q rg.stage1.start record { address = i.value; bits = no_bits }) (λ z. tt)
              (λ z. finer_fit (walk1_from q rg.stage1.start record { address = i.value; bits = no_bits })),
        )))
        (λ b. tt)

    -- the whole walk, and the walk from a table
    pub walk_fit : Fit (walk (config_of place.regs) true a)
    walk_fit = fit_after rg sup (stage1 q) (stage2_behind q) stage1_fit output_fit

    pub from_table_fit : (left : ℕ) (t : Table1) → Fit (after (stage1_from q left t) (stage2_behind q))
    from_table_fit left t = fit_after rg sup (stage1_from q left t) (stage2_behind q) (finer_fit (walk1_from q left t)) output_fit

    -- so what is served for an access stands on its walk
    pub served_on : (queue : List Item) (u : Ask Need Item (End Landing)) → IsOn rg (walk (config_of place.regs) true a) queue u
        → let y = serve_at sup queue (walk (config_of place.regs) true a) in OnStop rg sup (walk (config_of place.regs) true a) y.items y.stop
    served_on queue u h = serve_on rg sup (walk (config_of place.regs) true a) u queue h walk_fit

-- ROWS WHOSE TRAILS STAND ON CHAINS

module _ (place : Place) (a : Access) where
  chain_fits : (p : Bool) (x : ℕ) (row : Row) (other : Supplied) (trail : List Item) → FitsHere (rg place a) (sup place a) (chain (rg place a) p x) other
      → (u : Ask Need Item (End Leaf2)) → IsOn (rg place a) (chain (rg place a) p x) trail u →
      FitsHere (rg place a) (sup place a) (chain (rg place a) p x) (chain_by row other trail)
  chain_fits p x row other [] o u h = o
  chain_fits p x row other (i ∷ rest) o u h = (u, h)

  -- the rows that match stand on the chain of the IPA; the facts on rows say so (IsLeafRow2, IsTableRow2)
  pub record ChainsStand (p : Bool) (x : ℕ) (leaves : List Row) (table : Option Row) : Type 0 where
    pub leaf : (r : Row) → leaves ≡ r ∷ [] → (u : Ask Need Item (End Leaf2)) × IsOn (rg place a) (chain (rg place a) p x) r.trail u
    pub below : (r : Row) → table ≡ Some r → (u : Ask Need Item (End Leaf2)) × IsOn (rg place a) (chain (rg place a) p x) r.trail u

  by_found : (p : Bool) (x : ℕ) (leaves : List Row) (table : Option Row) → ChainsStand p x leaves table
      → FitsHere (rg place a) (sup place a) (chain (rg place a) p x) (chain_of (fresh_of place a (stage2_base x)) leaves table)
  by_found p x [] None h = (walk2_behind (asked2 (rg place a) p x) (start_base2 place.regs), (fits_base2 place.regs (side_of a.va) x place.step, refl))
  by_found p x [] (Some r) h =
      let d = h.below r refl in
      chain_fits p x r (fresh_of place a (stage2_base x)) r.trail
      (walk2_behind (asked2 (rg place a) p x) (start_base2 place.regs), (fits_base2 place.regs (side_of a.va) x place.step, refl)) d.0 d.1
  by_found p x (r ∷ []) t h =
      let d = h.leaf r refl in
      chain_fits p x r (fresh_of place a (stage2_base x)) r.trail
      (walk2_behind (asked2 (rg place a) p x) (start_base2 place.regs), (fits_base2 place.regs (side_of a.va) x place.step, refl)) d.0 d.1
  by_found p x (r ∷ s ∷ more) t h = tt

  pub chains_fit : ((p : Bool) (x : ℕ) → is_refused2 (config_of place.regs) x ≡ false
      → ChainsStand p x (matching (matches OfLeaf2 (key_of place.regs) x) place.rows) (deepest (matches OfTable2 (key_of place.regs) x) place.rows))
      → ChainsFit place a
  chains_fit h p x ok = by_found p x (matching (matches OfLeaf2 (key_of place.regs) x) place.rows)
      (deepest (matches OfTable2 (key_of place.regs) x) place.rows) (h p x ok)
