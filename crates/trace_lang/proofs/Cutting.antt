-- A list cut at its first element that passes, and what is left to read behind a cut.
use Rattle.std.proofs.Common.{◌≡◌, ℕ, zero, suc, ◌+◌, ◌-◌, ◌<◌, ◌≤◌, ◌==◌, ◌++◌, not, eqb, cond, ◌&&◌, List, []}
use Rattle.std.proofs.Common.{◌∷◌, length, filter, take, drop, get_or, Option, Some, None, Bool, true, false, sym, ◌∙◌, ap, refl, arith, add-one}
use Rattle.std.proofs.lemmas.List.{take_rest, take-append-drop, length-append}
use Rattle.std.specs.Prelude.{bytes_eq}
use Rattle.std.proofs.lemmas.Bool.{both_ways, eqb-true}
use Rattle.std.proofs.lemmas.Slice.Eq.{bytes_eq-Decides}
use Rattle.std.proofs.Math.Seq.{drop-append_seam}
use Rattle.trace_lang.specs.Lines.{without_return}
use Rattle.std.specs.List.{list_all, slice_split, onto_first}
use Rattle.std.proofs.lemmas.List.Splits.{slice_split-cons_yes, slice_split-cons_no}
use Rattle.trace_lang.specs.Words.{is_blank}
use Rattle.trace_lang.specs.Views.{parts_behind}

pub cut_at : (p : ℕ → Bool) (xs : List ℕ) (i : ℕ) → i < length xs → ((k : ℕ) → k < i → p (get_or xs k 0) ≡ false)
    → p (get_or xs i 0) ≡ true →
    slice_split p xs ≡ take i xs ∷ slice_split p (drop (suc i) xs)
cut_at p [] i h f t = absurd (omega arith)
cut_at p (x ∷ xs) zero h f t = slice_split-cons_yes p x xs t
cut_at p (x ∷ xs) (suc i) h f t = slice_split-cons_no p x xs (f 0 (omega arith))
    ∙ ap (onto_first x) (cut_at p xs i (omega arith) (λ k l. f (suc k) (omega arith)) t)

pub not_cut : (p : ℕ → Bool) (xs : List ℕ) → ((k : ℕ) → k < length xs → p (get_or xs k 0) ≡ false) → slice_split p xs ≡ xs ∷ []
not_cut p [] f = refl
not_cut p (x ∷ xs) f = slice_split-cons_no p x xs (f 0 (omega arith)) ∙ ap (onto_first x) (not_cut p xs (λ k l. f (suc k) (omega arith)))

-- as a loop over places leaves it
pub cut_here : (p : ℕ → Bool) (xs : List ℕ) (i : ℕ) → i < length xs → ((k : ℕ) → k < i → p (get_or xs k 0) ≡ false)
    → p (get_or xs i 0) ≡ true →
    slice_split p xs ≡ take i xs ∷ slice_split p (take (length xs - (i + 1)) (drop (i + 1) xs))
cut_here p xs i h f t = cut_at p xs i h f t
    ∙ ap (λ (ys : List ℕ). take i xs ∷ slice_split p ys) (ap (λ (j : ℕ). drop j xs) (sym (add-one i)) ∙ sym (take_rest xs (i + 1)))

pub cut_nowhere : (p : ℕ → Bool) (xs : List ℕ) (i : ℕ) → length xs ≤ i → ((k : ℕ) → k < i → p (get_or xs k 0) ≡ false)
    → slice_split p xs ≡ xs ∷ []
cut_nowhere p xs i h f = not_cut p xs (λ k l. f k (omega arith))

-- the first elements all pass
pub all_here : (p : ℕ → Bool) (xs : List ℕ) (i : ℕ) → i < length xs → ((k : ℕ) → k < i → p (get_or xs k 0) ≡ true) →
    list_all p xs ≡ (p (get_or xs i 0) && list_all p (drop (suc i) xs))
all_here p [] i h f = absurd (omega arith)
all_here p (x ∷ xs) zero h f = refl
all_here p (x ∷ xs) (suc i) h f = ap (λ b. b && list_all p xs) (f 0 (omega arith)) ∙ all_here p xs i (omega arith) (λ k l. f (suc k) (omega arith))

-- as a loop over places leaves it
pub all_behind : (p : ℕ → Bool) (xs : List ℕ) (i : ℕ) → i < length xs → ((k : ℕ) → k < i → p (get_or xs k 0) ≡ true)
    → p (get_or xs i 0) ≡ true →
    list_all p xs ≡ list_all p (take (length xs - (i + 1)) (drop (i + 1) xs))
all_behind p xs i h f t =
    all_here p xs i h f ∙ ap (λ b. b && list_all p (drop (suc i) xs)) t
    ∙ ap (list_all p) (ap (λ (j : ℕ). drop j xs) (sym (add-one i)) ∙ sym (take_rest xs (i + 1)))

pub all_passed : (p : ℕ → Bool) (xs : List ℕ) → ((k : ℕ) → k < length xs → p (get_or xs k 0) ≡ true) → list_all p xs ≡ true
all_passed p [] f = refl
all_passed p (x ∷ xs) f = ap (λ b. b && list_all p xs) (f 0 (omega arith)) ∙ all_passed p xs (λ k l. f (suc k) (omega arith))

abbrev pub left : Option (List ℕ) → ℕ
left None = 0
left (Some text) = length text + 1

abbrev pub words_behind : Option (List ℕ) → List (List ℕ)
words_behind rest = filter (λ w. not (length w == 0)) (parts_behind is_blank rest)

-- AN END THAT IS TAKEN OFF

pub stripped : (w s t : List ℕ) → bytes_eq (drop (length w - length s) w) s ≡ true → t ≡ take (length w - length s) w → t ++ s ≡ w
stripped w s t h e =
    ap (λ u. u ++ s) e ∙ ap (λ u. take (length w - length s) w ++ u) (sym ((bytes_eq-Decides (drop (length w - length s) w) s).0 h))
    ∙ take-append-drop (length w - length s) w

last_part : (t s : List ℕ) → drop (length (t ++ s) - length s) (t ++ s) ≡ s
last_part t s =
    let n : length (t ++ s) - length s ≡ length t = let l = length-append t s in omega (arith, l) in
    ap (λ k. drop k (t ++ s)) n ∙ drop-append_seam t s

pub not_stripped : (w s : List ℕ) → bytes_eq (drop (length w - length s) w) s ≡ false → (t : List ℕ) → t ++ s ≡ w → ⊥
not_stripped w s h t e =
    both_ways (bytes_eq (drop (length w - length s) w) s) h ((bytes_eq-Decides (drop (length w - length s) w) s).1
    (ap (λ u. drop (length u - length s) u) (sym e) ∙ last_part t s))

return_off : (text : List ℕ) → without_return (text ++ 0x0d ∷ []) ≡ text
return_off [] = refl
return_off (b ∷ []) = refl
return_off (b ∷ c ∷ text) = ap (λ ys. b ∷ ys) (return_off (c ∷ text))

-- a line with a carriage return at its end
pub returned : (line s text : List ℕ) → s ≡ 0x0d ∷ [] → text ++ s ≡ line → text ≡ without_return line
returned line s text h e = sym (ap without_return (sym e ∙ ap (λ u. text ++ u) h) ∙ return_off text)

not_this : (b : ℕ) (line : List ℕ) (t : Bool) → eqb b 0x0d ≡ t → (b ≡ 0x0d → ⊥) → line ≡ cond (eqb b 0x0d) [] line
not_this b line true h k = absurd (k (eqb-true b 0x0d h))
not_this b line false h k = rw h refl

no_return : (line : List ℕ) → ((text : List ℕ) → text ++ 0x0d ∷ [] ≡ line → ⊥) → line ≡ without_return line
no_return [] k = refl
no_return (b ∷ []) k = not_this b (b ∷ []) (eqb b 0x0d) refl (λ e. k [] (ap (λ x. x ∷ []) (sym e)))
no_return (b ∷ c ∷ line) k = ap (λ ys. b ∷ ys) (no_return (c ∷ line) (λ t e. k (b ∷ t) (ap (λ ys. b ∷ ys) e)))

-- a line without one
pub not_returned : (line s : List ℕ) → s ≡ 0x0d ∷ [] → ((text : List ℕ) → text ++ s ≡ line → ⊥) → line ≡ without_return line
not_returned line s h k = no_return line (λ t e. k t (ap (λ u. t ++ u) h ∙ e))
