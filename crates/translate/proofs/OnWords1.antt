-- How the words of stage 1 stand on kept items.
use Rattle.std.proofs.Common.{◌≡◌, ℕ, zero, suc, ◌+◌, ◌<◌, List, [], ◌∷◌, ◌++◌, length, drop}
use Rattle.std.proofs.Common.{add-one, get_or, refl, sym, ap, ◌∙◌, true, false, Bool, arith, Err}
use Rattle.std.specs.Prelude.{◌&&◌}
use Rattle.fault_codes.specs.declared.fault.Fault.{Fault}
use Rattle.trails.specs.declared.item.Item.{Item}
use Rattle.walk_spec.specs.declared.entry.Entry1.{Entry1}
use Rattle.walk_spec.specs.declared.leaf.Leaf2.{Leaf2}
use Rattle.walk_spec.specs.Ask.{done, after, Stands, ends, on}
use Rattle.walk_spec.specs.Needs.{Need, Regime, word, fits}
use Rattle.walk_spec.specs.Steps.{End, reaches}
use Rattle.walk_spec.specs.Stage2.{walk2}
use Rattle.walk_spec.specs.Stage1.{asked2, is_readable, read1, read1_by, word_of}
use Rattle.walk_spec.proofs.Standing.{on_after, then_on}
use Rattle.stage1_walk.specs.Kept.{needed1}
use Rattle.translate.specs.Parts.{unreadable}
use Rattle.translate.specs.Standing.{is_word1}
use Rattle.translate.proofs.Choices.{on_with, off_with}

split_suc : (items : List Item) (at : ℕ) (i : Item) → at < length items → i ≡ get_or items at i
    → (front : List Item) × (items ≡ front ++ i ∷ drop (suc at) items)
split_suc [] at i l e = absurd (omega arith)
split_suc (j ∷ items) zero i l e = ([], ap (λ z. z ∷ items) (sym e))
split_suc (j ∷ items) (suc at) i l e =
    let less : at < length items = omega arith in
    let d = split_suc items at i less e in
    (j ∷ d.0, ap (λ z. j ∷ z) d.1)

-- an item of a list has the items before it and those behind it
pub split_at : (items : List Item) (at : ℕ) (i : Item) → at < length items → i ≡ get_or items at i
    → (front : List Item) × (items ≡ front ++ i ∷ drop (at + 1) items)
split_at items at i l e = rw add-one (split_suc items at i l e)

first_true : (a b : Bool) → (a && b) ≡ true → a ≡ true
first_true true b h = refl
first_true false b h = absurd cc

-- the word of an entry is one of stage 1 with so many levels left
pub fits_is_word1 : (r : Regime) (e : Entry1) (p : ℕ) (i : Item) → true ≡ fits r (word (needed1 e p)) i → is_word1 e.left i ≡ true
unfolding fits
fits_is_word1 r e p i h = first_true (is_word1 e.left i) _ (sym h)

module _ (r : Regime) (e : Entry1) (items : List Item) where
  -- with stage 2 off
  pub word_flat : r.config.vm ≡ false → on (fits r) (word_of r e) items ≡ on (fits r) (read1 e e.place) items
  word_flat v = ap (λ t. on (fits r) t items) (off_with r.config.vm v (after (walk2 (asked2 r true e.place)) (read1_by r.config e)) (read1 e e.place))

  module _ (v : r.config.vm ≡ true) where
    -- with stage 2 on it stands by how stage 2 stands
    pub word_deep : (s : Stands Need Item (End Leaf2)) → on (fits r) (walk2 (asked2 r true e.place)) items ≡ s
        → on (fits r) (word_of r e) items ≡ then_on s (λ d rest. on (fits r) (read1_by r.config e d) rest)
    word_deep s h =
        ap (λ t. on (fits r) t items) (on_with r.config.vm v (after (walk2 (asked2 r true e.place)) (read1_by r.config e)) (read1 e e.place))
        ∙ on_after (fits r) (walk2 (asked2 r true e.place)) (read1_by r.config e) items
        ∙ ap (λ z. then_on z (λ d rest. on (fits r) (read1_by r.config e d) rest)) h

    module _ (l : Leaf2) (rest : List Item) (h : on (fits r) (walk2 (asked2 r true e.place)) items ≡ ends (reaches l) rest) where
      pub word_denied : (f : Fault) → is_readable r.config l ≡ false → f ≡ unreadable l → on (fits r) (word_of r e) items ≡ ends (Err f) rest
      word_denied f d q =
          word_deep _ h ∙ ap (λ t. on (fits r) t rest) (off_with (is_readable r.config l) d (read1 e l.pa) (done (Err (unreadable l))))
          ∙ ap (λ z. ends (Err z) rest) (sym q)

      pub word_read : is_readable r.config l ≡ true → on (fits r) (word_of r e) items ≡ on (fits r) (read1 e l.pa) rest
      word_read d = word_deep _ h ∙ ap (λ t. on (fits r) t rest) (on_with (is_readable r.config l) d (read1 e l.pa) (done (Err (unreadable l))))
