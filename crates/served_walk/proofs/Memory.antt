-- What a walk over the words of memory took is what is served.
use Rattle.std.proofs.Common.{◌≡◌, List, [], ◌∷◌, ◌++◌, inl, inr, refl, sym, ap, ◌∙◌, subst, append-nil, Result, Some, None}
use Rattle.std.specs.Prelude.{◌⊎◌}
use Rattle.trails.specs.declared.item.Item.{Item}
use Rattle.trails.specs.declared.outcome.Access.{Access}
use Rattle.trails.specs.declared.outcome.Stop.{Stop}
use Rattle.walk_spec.specs.Ask.{Ask, done, ask, Fed, ended, lacks, Took}
use Rattle.walk_spec.specs.Needs.{Need, stage1_base, stage2_base, word, WordNeed}
use Rattle.walk_spec.specs.Steps.{End, stops, reaches}
use Rattle.walk_spec.specs.Walked.{Walked, ReadsWord, LacksFor, result_of}
use Rattle.machine_spec.specs.Served.{Supplied, gives, halts, came, Place, supply}
use Rattle.served_walk.specs.ServeAt.{StopAt, fed, breaks, push_at, goes_at, serve_at}
use Rattle.served_walk.specs.ServedWord.{Second, first_chain, shown, TellsLeaf, WasServed}

abbrev pub stop_fed : {A : Type 0} → Fed Need A → StopAt A
stop_fed (ended a) = fed a []
stop_fed (lacks n) = breaks (came (lacks n))

-- what answers a need is what is supplied, and what is lacking is not
pub took_served : {A : Type 0} (reads : Need → Item → Type 0) (sup : Need → Supplied)
    → ((n : Need) (i : Item) → reads n i → sup n ≡ gives i [] [])
    → (t : Ask Need Item A) (items : List Item) (e : Fed Need A) →
    Took reads t items e → ((n : Need) → e ≡ lacks n → sup n ≡ halts (came (lacks n)))
    → serve_at sup [] t ≡ record { items = items; stop = stop_fed e; by = [] }
took_served reads sup g (done a) items e h l = rw (h.0, h.1) refl
took_served reads sup g (ask n k) [] e h l = ap (λ s. goes_at s (λ i rest. serve_at sup rest (k i))) (l n h)
    ∙ ap (λ z. record { items = []; stop = stop_fed z; by = [] }) (sym h)
took_served reads sup g (ask n k) (i ∷ items) e h l =
    ap (λ s. goes_at s (λ i rest. serve_at sup rest (k i))) (g n i h.0) ∙ ap (push_at i []) (took_served reads sup g (k i) items e h.1 l)

module _ (place : Place) (a : Access) where
  reads_given : (n : Need) (i : Item) → ReadsWord place.step (Some place.memory) n i → supply place a n ≡ gives i [] []
  reads_given stage1_base i h = absurd h
  reads_given (stage2_base x) i h = absurd h
  reads_given (word w) i h = rw h.1 (ap (λ j. gives j [] []) (sym h.0))

  misses : (w : WordNeed) (F : Type 0) → (F → ⊥) → (place.memory w.place ≡ None) ⊎ F → place.memory w.place ≡ None
  misses w F never (inl e) = e
  misses w F never (inr f) = absurd (never f)

  lacks_given : {A : Type 0} (F : Type 0) → (F → ⊥) → (e : Fed Need A) → LacksFor (Some place.memory) F e → (n : Need) → e ≡ lacks n
      → supply place a n ≡ halts (came (lacks n))
  lacks_given F never (ended b) h n q = absurd cc
  lacks_given F never (lacks stage1_base) h n q = absurd h
  lacks_given F never (lacks (stage2_base x)) h n q = absurd h
  lacks_given F never (lacks (word w)) h n q =
      let m : n ≡ word w = cc in
      let none : place.memory w.place ≡ None = misses w F never h in
      subst (λ z. supply place a z ≡ halts (came (lacks z))) (sym m) (rw none refl)

  told_fed : {L : Type 0} (F : Type 0) (two : Second) (e : Fed Need (End L)) (r : Result L Stop) → LacksFor (Some place.memory) F e → r ≡ result_of e
      → (TellsLeaf r two (stop_fed e)) × (first_chain (stop_fed e) ≡ [])
  told_fed {L} F two (ended (stops f)) r h q = (subst (λ z. TellsLeaf {L = L} z two (fed (stops f) [])) (sym q) (refl, refl), refl)
  told_fed {L} F two (ended (reaches l)) r h q = (subst (λ z. TellsLeaf {L = L} z two (fed (reaches l) [])) (sym q) refl, refl)
  told_fed F two (lacks stage1_base) r h q = absurd h
  told_fed F two (lacks (stage2_base x)) r h q = absurd h
  told_fed {L} F two (lacks (word w)) r h q = (subst (λ z. TellsLeaf {L = L} z two (breaks (came (lacks (word w))))) (sym q) refl, refl)

  -- a walk over the words of memory is served without rows
  pub was_walked : {L : Type 0} (F : Type 0) → (F → ⊥) → (t : Ask Need Item (End L)) (old new : List Item) (r : Result L Stop) (two : Second)
      → (w : Walked (ReadsWord place.step (Some place.memory)) (Some place.memory) F t old new r) → WasServed (supply place a) t w.more [] two r
  was_walked F never t old new r two w =
      let e = took_served (ReadsWord place.step (Some place.memory)) (supply place a) reads_given t w.more w.end w.took (lacks_given F never w.end w.cause) in
      let d = told_fed F two w.end r w.cause w.answer in
      record {
        items_are = sym (ap shown e ∙ ap (λ l. w.more ++ l) d.1 ∙ append-nil w.more);
        by_is = sym (ap (λ y. y.by) e);
        told = subst (λ y. TellsLeaf r two y.stop) (sym e) d.0;
      }

  pub walked_served : {L : Type 0} (F : Type 0) → (F → ⊥) → (t : Ask Need Item (End L)) (old new : List Item) (r : Result L Stop) (two : Second)
      → Walked (ReadsWord place.step (Some place.memory)) (Some place.memory) F t old new r →
      (items : List Item) × (new ≡ old ++ items) × WasServed (supply place a) t items [] two r
  walked_served F never t old new r two w = (w.more, w.grown, was_walked F never t old new r two w)
