-- A walk of one stage from its base: what is refused before the base, and what a base above the output size ends in.
use Rattle.std.proofs.Common.{◌≡◌, ℕ, List, [], ◌∷◌, refl, sym, ap, ◌∙◌, Bool, true, false, cond, inl, inr}
use Rattle.fault_codes.specs.declared.fault.Fault.{Fault}
use Rattle.trails.specs.declared.item.Item.{Item}
use Rattle.trails.specs.declared.item.What.TheVariants.{Base, Word}
use Rattle.walk_spec.specs.Ask.{Ask, done, ask}
use Rattle.walk_spec.specs.Needs.{Need}
use Rattle.walk_spec.specs.Steps.{End, stops, reaches}
use Rattle.walk_laws.proofs.Stepping.{Takes, LastIs}
use Rattle.walk_laws.proofs.Levels.{Closes}

-- how a stage begins: its base's need, what is too large, and the faults of what is refused and what is too large
pub record Root : Type 0 where
  pub need : Need
  pub is_large : ℕ → Bool
  pub refusal : Fault
  pub excess : Fault

-- behind a base
abbrev pub rooted_behind : {L : Type 0} → (root : Root) (walk : ℕ → Ask Need Item (End L)) (large : Bool) (base : ℕ) → Ask Need Item (End L)
rooted_behind o walk large base = cond large (done (stops o.excess)) (walk base)

-- the stage from its base, refused or not
abbrev pub rooted : {L : Type 0} → (root : Root) (walk : ℕ → Ask Need Item (End L)) (refused : Bool) → Ask Need Item (End L)
rooted o walk refused = cond refused (done (stops o.refusal)) (ask o.need (λ i. rooted_behind o walk (o.is_large i.value) i.value))

-- a word that is of the stage
abbrev pub WordOf : (own : Item → Type 0) → Item → Type 0
WordOf own i = own i × (i.what ≡ Word)

-- The stage took a base and went on, and its items close behind the base.
pub record Rooted {L : Type 0} (fits : Need → Item → Bool) (own : Item → Type 0) (root : Root) (walk : ℕ →
    Ask Need Item (End L)) (refused : Bool) (items : List Item) (left : Ask Need Item (End L)) : Type 0 where
  pub base : Item
  pub rest : List Item
  pub split : items ≡ base ∷ rest
  pub accepted : refused ≡ false
  pub fit : fits root.need base ≡ true
  pub within : root.is_large base.value ≡ false
  pub taken : Takes fits (walk base.value) rest left
  pub closes : Closes own rest left
  pub is_last : (i : Item) → LastIs (base ∷ rest) i → i.what ≡ Word → LastIs rest i

module _ {L : Type 0} (fits : Need → Item → Bool) (own : Item → Type 0) (o : Root) (walk : ℕ → Ask Need Item (End L)) (is_base : (i : Item) →
    fits o.need i ≡ true → i.what ≡ Base) where
  no_word : (b i : Item) → fits o.need b ≡ true → b ≡ i → i.what ≡ Word → ⊥
  no_word b i f e w = let q : Base ≡ Word = sym (is_base b f) ∙ ap (λ z. z.what) e ∙ w in cc

  last_behind : (b : Item) (rest : List Item) (i : Item) → fits o.need b ≡ true → LastIs (b ∷ rest) i → i.what ≡ Word → LastIs rest i
  last_behind b [] i f l w = absurd (no_word b i f l w)
  last_behind b (k ∷ rest) i f l w = l

  closes_behind : (b : Item) (rest : List Item) (u : Ask Need Item (End L)) → fits o.need b ≡ true → Closes (WordOf own) (b ∷ rest) u
      → Closes own rest u
  closes_behind b rest u f (inl l) = inl l
  closes_behind b rest u f (inr i) = inr (i.0, last_behind b rest i.0 f i.1 i.2.1, i.2.0)

  -- what stopped at its base doesn't close
  no_close : (b : Item) (d : Fault) (u : Ask Need Item (End L)) → fits o.need b ≡ true → u ≡ done (stops d) → Closes (WordOf own) (b ∷ []) u → ⊥
  no_close b d u f e (inl l) = let q : done (reaches l.0) ≡ done (stops d) = sym l.1 ∙ e in cc
  no_close b d u f e (inr i) = no_word b i.0 f i.1 i.2.1

  -- nor does what took nothing
  no_close_none : (u : Ask Need Item (End L)) → ((l : L) → u ≡ done (reaches l) → ⊥) → Closes (WordOf own) [] u → ⊥
  no_close_none u n (inl l) = n l.0 l.1
  no_close_none u n (inr i) = i.1

  behind_base : (b : Item) (rest : List Item) (u : Ask Need Item (End L)) (large : Bool) → o.is_large b.value ≡ large → fits o.need b ≡ true →
      Takes fits (rooted_behind o walk large b.value) rest u → Closes (WordOf own) (b ∷ rest) u → Rooted fits own o walk false (b ∷ rest) u
  behind_base b [] u true e f w c = absurd (no_close b o.excess u f w c)
  behind_base b (k ∷ rest) u true e f w c = absurd w
  behind_base b rest u false e f w c =
      record {
        base = b;
        rest = rest;
        split = refl;
        accepted = refl;
        fit = f;
        within = e;
        taken = w;
        closes = closes_behind b rest u f c;
        is_last = λ i l v. last_behind b rest i f l v;
      }

  -- a stage whose items end at a leaf, or with a word, has taken a base
  pub from_root : (refused : Bool) (items : List Item) (u : Ask Need Item (End L)) → Takes fits (rooted o walk refused) items u
      → Closes (WordOf own) items u →
      Rooted fits own o walk refused items u
  from_root true [] u h c = absurd (no_close_none u (λ l e. (let q : done (reaches l) ≡ done (stops o.refusal) = sym e ∙ h in cc)) c)
  from_root true (b ∷ rest) u h c = absurd h
  from_root false [] u h c = absurd
      (no_close_none u (λ l e. (let q : done (reaches l) ≡ ask o.need (λ i. rooted_behind o walk (o.is_large i.value) i.value) = sym e ∙ h in cc)) c)
  from_root false (b ∷ rest) u h c = behind_base b rest u (o.is_large b.value) refl h.0 h.1 c
