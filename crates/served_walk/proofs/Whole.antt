-- Both stages of an access behind what a row gave, and the four ways in which an access is served.
use Rattle.std.proofs.Common.{◌≡◌, ℕ, ◌-◌, Bool, true, false, cond, List, [], ◌∷◌, ◌++◌, length, length-append, take}
use Rattle.std.proofs.Common.{refl, sym, ap, ◌∙◌, subst, append_assoc, append-nil, arith, Ok, Err, Result, Some}
use Rattle.sysregs.specs.declared.regs.Config.{Config}
use Rattle.fault_codes.specs.declared.fault.Fault.{Fault}
use Rattle.trails.specs.declared.item.Item.{Item}
use Rattle.trails.specs.declared.outcome.Access.{Access}
use Rattle.trails.specs.declared.outcome.Stop.{Stop}
use Rattle.trails.specs.declared.outcome.Stop.TheVariants.{Fault as FaultStop}
use Rattle.walk_spec.specs.declared.leaf.Leaf1.{Leaf1}
use Rattle.walk_spec.specs.declared.leaf.Leaf2.{Leaf2}
use Rattle.walk_spec.specs.Ask.{Ask, done, after, ended, lacks}
use Rattle.walk_spec.specs.Needs.{Need, stage1_base, stage2_base, word}
use Rattle.walk_spec.specs.Steps.{End, stops, reaches}
use Rattle.walk_spec.specs.Stage2.{walk2}
use Rattle.walk_spec.specs.Stage1.{Asked, asked2}
use Rattle.walk_spec.specs.BothStages.{Landing, asked, landed, judged2, stage2_behind}
use Rattle.tagged_tlb.specs.declared.row.Row.{Row}
use Rattle.machine_spec.specs.Served.{Supplied, came, clash}
use Rattle.served_walk.specs.ServeAt.{StopAt, fed, breaks, ReplyAt, serve_at, reply_of, behind, then_at}
use Rattle.served_walk.specs.ServedWord.{Second, first_chain, shown, TellsLeaf, WasServed}
use Rattle.served_walk.specs.Shows.{Shows, second_of, comes_out}
use Rattle.served_walk.proofs.Serving.{serve_after}
use Rattle.served_walk.proofs.Parts.{was_behind, goes_leaf}

-- WALKS THAT GO ON

module _ {L M : Type 0} (sup : Need → Supplied) (t : Ask Need Item (End L)) (f : End L
    → Ask Need Item (End M)) (items : List Item) (rows : List Row) (two : Second) where
  stop_goes : (x : Stop) (xs : List Item) (by : List Row) (y : StopAt (End L)) → ((d : Fault) → f (stops d) ≡ done (stops d))
      → TellsLeaf {L = L} (Err x) two y →
      let z = then_at record { items = xs; stop = y; by = by } (λ a left. serve_at sup left (f a)) in (shown z ≡ xs ++ first_chain y) × (z.by ≡ by)
      × TellsLeaf {L = M} (Err x) two z.stop
  stop_goes x xs by (fed (reaches l) left) g h = absurd h
  stop_goes x xs by (fed (stops d) left) g h =
      let e : serve_at sup left (f (stops d)) ≡ record { items = []; stop = fed (stops d) left; by = [] } = ap (serve_at sup left) (g d) in
      rw e (ap (λ l. l ++ []) (append-nil xs), append-nil by, h)
  stop_goes x xs by (breaks q) g h = (refl, refl, h)

  -- a stop stops what would go on
  pub was_stop : (x : Stop) → ((d : Fault) → f (stops d) ≡ done (stops d)) → WasServed sup t items rows two (Err x)
      → WasServed sup (after t f) items rows two (Err x)
  was_stop x g w =
      let y = serve_at sup [] t in
      let d = stop_goes x y.items y.by y.stop g w.told in
      let q : serve_at sup [] (after t f) ≡ then_at y (λ a left. serve_at sup left (f a)) = serve_after sup [] t f in
      record {
        items_are = w.items_are ∙ sym d.0 ∙ ap shown (sym q);
        by_is = w.by_is ∙ sym d.1
            ∙ ap (λ z. z.by) (sym q);
        told = subst (λ z. TellsLeaf {L = M} (Err x) two z.stop) (sym q) d.2;
      }

  -- behind a leaf it goes on
  pub was_leaf : (l : L) (more : List Item) (by : List Row) (two2 : Second) (r : Result M Stop) → WasServed sup t items rows two (Ok l)
      → WasServed sup (f (reaches l)) more by two2 r → WasServed sup (after t f) (items ++ more) (rows ++ by) two2 r
  was_leaf l more by two2 r w v = was_behind sup (after t f) (f (reaches l)) items more rows by two2 r (goes_leaf sup t f items rows two l w) v

-- an end and its answer
abbrev pub answered : {L : Type 0} → End L → Result L Stop
answered (reaches l) = Ok l
answered (stops f) = Err (FaultStop f)

pub was_end : {L : Type 0} (sup : Need → Supplied) (e : End L) (two : Second) → WasServed {L = L} sup (done e) [] [] two (answered e)
was_end sup (reaches l) two = record { items_are = refl; by_is = refl; told = refl }
was_end sup (stops f) two = record { items_are = refl; by_is = refl; told = (refl, refl) }

-- BOTH STAGES

module _ (c : Config) (a : Access) (sup : Need → Supplied) (t1 : Ask Need Item (End Leaf1)) (items : List Item) (rows : List Row) (two : Second) where
  abbrev q : Asked
  q = asked c true a

  abbrev Both : Ask Need Item (End Landing)
  Both = after t1 (stage2_behind q)

  pub both_stop1 : (x : Stop) → WasServed sup t1 items rows two (Err x) → WasServed sup Both items rows two (Err x)
  both_stop1 x w = was_stop sup t1 (stage2_behind q) items rows two x (λ d. refl) w

  abbrev Output : Leaf1 → Ask Need Item (End Landing)
  Output l = after (walk2 (asked2 q.regime false l.out)) (λ e. done (judged2 true a l e))

  vm_on : (b : Bool) (t u : Ask Need Item (End Landing)) → b ≡ true → t ≡ cond b t u
  vm_on true t u h = refl
  vm_on false t u h = absurd cc

  vm_off : (b : Bool) (t u : Ask Need Item (End Landing)) → b ≡ false → u ≡ cond b t u
  vm_off true t u h = absurd cc
  vm_off false t u h = refl

  -- stage 2 is off
  pub both_flat : (l : Leaf1) (two2 : Second) → c.vm ≡ false → WasServed sup t1 items rows two (Ok l)
      → WasServed sup Both items rows two2 (Ok (landed l))
  both_flat l two2 v w =
      let o : WasServed sup (stage2_behind q (reaches l)) [] [] two2 (Ok (landed l)) = subst (λ t. WasServed sup t [] [] two2 (Ok (landed l)))
      (vm_off c.vm (Output l) (done (reaches (landed l))) v) (was_end sup (reaches (landed l)) two2) in
      subst (λ b. WasServed sup Both items b two2 (Ok (landed l))) (append-nil rows)
      (subst (λ z. WasServed sup Both z (rows
      ++ []) two2 (Ok (landed l))) (append-nil items) (was_leaf sup t1 (stage2_behind q) items rows two l [] [] two2 (Ok (landed l)) w o))

  module _ (l : Leaf1) (v : c.vm ≡ true) (w : WasServed sup t1 items rows two (Ok l)) (more : List Item) (by : List Row) (two2 : Second) where
    output_of : (r : Result Landing Stop) → WasServed sup (Output l) more by two2 r → WasServed sup Both (items ++ more) (rows ++ by) two2 r
    output_of r o = was_leaf sup t1 (stage2_behind q) items rows two l more by two2 r w
        (subst (λ t. WasServed sup t more by two2 r) (vm_on c.vm (Output l) (done (reaches (landed l))) v) o)

    -- both stages reached a leaf
    pub both_ends : (m : Leaf2) → WasServed sup (walk2 (asked2 q.regime false l.out)) more by two2 (Ok m)
        → WasServed sup Both (items ++ more) (rows ++ by) two2 (answered (judged2 true a l (reaches m)))
    both_ends m o =
        let r = answered (judged2 true a l (reaches m)) in
        let z = was_leaf sup (walk2 (asked2 q.regime false l.out)) (λ e. done (judged2 true a l e)) more by two2 m [] [] two2 r o
        (was_end sup (judged2 true a l (reaches m)) two2) in
        output_of r (subst (λ b. WasServed sup (Output l) more b two2 r) (append-nil by) (subst (λ k. WasServed sup (Output l) k (by
        ++ []) two2 r) (append-nil more) z))

    -- stage 2 of the output stopped
    pub both_stop2 : (x : Stop) → WasServed sup (walk2 (asked2 q.regime false l.out)) more by two2 (Err x)
        → WasServed sup Both (items ++ more) (rows ++ by) two2 (Err x)
    both_stop2 x o = output_of (Err x) (was_stop sup (walk2 (asked2 q.regime false l.out)) (λ e. done (judged2 true a l e)) more by two2 x (λ d. refl) o)

-- WHAT IS SHOWN

take_front : (front rest : List Item) (n : ℕ) → n ≡ length front → take n (front ++ rest) ≡ front
take_front front rest n e = ap (λ k. take k (front ++ rest)) e ∙ all front where
  all : (xs : List Item) → take (length xs) (xs ++ rest) ≡ xs
  all [] = refl
  all (x ∷ xs) = ap (λ l. x ∷ l) (all xs)

module _ (pre : List Item) (pr : List Row) (two : Second) where
  abbrev Shown : ReplyAt (End Landing) → Result Landing Stop → Type 0
  Shown y r = Shows (reply_of (behind pre pr y)) (pre ++ shown y) (second_of r (pre ++ shown y) two) (pr ++ y.by) (comes_out r)

  nothing_more : (xs : List Item) → pre ++ (xs ++ []) ≡ pre ++ xs
  nothing_more xs = ap (λ l. pre ++ l) (append-nil xs)

  second_is : (xs one other : List Item) → two.chain ≡ other → two.instead ≡ length one
      → take (length (pre ++ (xs ++ one)) - two.instead) (pre ++ (xs ++ one)) ++ two.chain ≡ (pre ++ xs) ++ other
  second_is xs one other t n =
      let w : pre ++ (xs ++ one) ≡ (pre ++ xs) ++ one = sym (append_assoc pre xs one) in
      let k : length (pre ++ (xs ++ one)) - two.instead ≡ length (pre ++ xs) = omega (arith, n, ap length w, length-append (pre ++ xs) one) in
      let f : take (length (pre ++ (xs ++ one)) - two.instead) (pre ++ (xs ++ one)) ≡ pre ++ xs = ap (take (length (pre ++ (xs ++ one)) - two.instead)) w
      ∙ take_front (pre ++ xs) one _ k in
      ap (λ l. l ++ two.chain) f ∙ ap (λ l. (pre ++ xs) ++ l) t

  shown_by : (xs : List Item) (by : List Row) (s : StopAt (End Landing)) (r : Result Landing Stop) → TellsLeaf r two s
      → Shown (record { items = xs; stop = s; by = by }) r
  shown_by xs by s (Ok l) h = rw h (record { halt = (nothing_more xs, refl, refl); by_is = refl })
  shown_by xs by (fed (reaches l) left) (Err x) h = absurd h
  shown_by xs by (fed (stops f) left) (Err x) h = rw h.0 (record { halt = (nothing_more xs, refl, refl); by_is = refl })
  shown_by xs by (breaks (came (ended e))) (Err x) h = absurd h
  shown_by xs by (breaks (came (lacks stage1_base))) (Err x) h = absurd h
  shown_by xs by (breaks (came (lacks (stage2_base y)))) (Err x) h = absurd h
  shown_by xs by (breaks (came (lacks (word w)))) (Err x) h = rw h (record { halt = (nothing_more xs, refl, refl); by_is = refl })
  shown_by xs by (breaks (clash one other)) (Err x) h = rw h.0
      (record { halt = (sym (append_assoc pre xs one), ap (λ l. Some l) (second_is xs one other h.1 h.2), refl); by_is = refl })

  -- what was served behind items and rows is what is shown of it
  pub shows : (sup : Need → Supplied) (t : Ask Need Item (End Landing)) (items : List Item) (rows : List Row) (r : Result Landing Stop)
      → WasServed sup t items rows two r →
      Shows (reply_of (behind pre pr (serve_at sup [] t))) (pre ++ items) (second_of r (pre ++ items) two) (pr ++ rows) (comes_out r)
  shows sup t items rows r w =
      let y = serve_at sup [] t in
      let h = shown_by y.items y.by y.stop r w.told in
      subst (λ b. Shows (reply_of (behind pre pr y)) (pre ++ items) (second_of r (pre ++ items) two) (pr ++ b) (comes_out r)) (sym w.by_is)
      (subst (λ l. Shows (reply_of (behind pre pr y)) (pre ++ l) (second_of r (pre ++ l) two) (pr ++ y.by) (comes_out r)) (sym w.items_are) h)
