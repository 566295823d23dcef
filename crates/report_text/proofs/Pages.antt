-- A page: what was handed on of a text, and what waits.
use Rattle.std.proofs.Common.{◌≡◌, ℕ, ◌+◌, List, [], ◌++◌, length, take, min, Option, Result, Ok}
use Rattle.std.proofs.Common.{Err, sym, ◌∙◌, ap, append_assoc, append-nil, arith, subst}
use Rattle.std.proofs.Math.Seq.{take-append-add}
use Rattle.std.proofs.lemmas.List.{take-append-le}
use Rattle.std.proofs.lemmas.Grind.{common_steps}
use Rattle.explain_text.specs.Written.{Appended, Wrote}
use Rattle.explain_text.proofs.Sinks.{appended_then}
use Rattle.report_text.specs.Waits.{Handed, Started, Adds, HandsOn}

-- all that waits is handed on
goes : (a b : Option (List ℕ)) (s : List ℕ) → Appended a b s → (before : Option (List ℕ)) (text : List ℕ) → Handed before a s text
    → Handed before b [] text
goes a b s w before text h = (h.0 ++ s, appended_then before a b h.0 s h.1 w, append-nil (h.0 ++ s) ∙ h.2)

-- a part of it is
fails : (a b : Option (List ℕ)) (s : List ℕ) → (k : ℕ) × Appended a b (take k s) → (before : Option (List ℕ)) (text : List ℕ)
    → Handed before a s text
    → Started before b text
fails a b s w before text h =
    let same : take (length h.0 + w.0) text ≡ h.0 ++ take w.0 s = ap (take (length h.0 + w.0)) (sym h.2) ∙ take-append-add h.0 s w.0 in
    (length h.0 + w.0, subst (λ (t : List ℕ). Appended before b t) (sym same) (appended_then before a b h.0 (take w.0 s) h.1 w.1))

-- a part of the text is a part of a longer one
front_take : (k : ℕ) (s t : List ℕ) → take (min k (length s)) (s ++ t) ≡ take k s
front_take k s t = grind (arith, common_steps, take-append-le)

pub started_in : (before now : Option (List ℕ)) (s t : List ℕ) → Started before now s → Started before now (s ++ t)
started_in before now s t h = (min h.0 (length s), rw front_take h.1)

-- one more text waits
waits_more : (before now : Option (List ℕ)) (w v s text : List ℕ) → Handed before now w text → v ≡ w ++ s → Handed before now v (text ++ s)
waits_more before now w v s text h p =
    (h.0, h.1, ap (λ (x : List ℕ). h.0 ++ x) p ∙ sym (append_assoc h.0 w s) ∙ ap (λ (x : List ℕ). x ++ s) h.2)

-- it waits, and then what waits may be handed on
pub adds : {T E : Type 0} (a b : Option (List ℕ)) (r : Result T E) (w v left s : List ℕ) → v ≡ w ++ s → HandsOn a b r v left → Adds a b r w left s
adds a b (Ok x) w v left s p q = λ before front h. q before (front ++ s) (waits_more before a w v s front h p)
adds a b (Err x) w v left s p q = λ before front h. q before (front ++ s) (waits_more before a w v s front h p)

-- all that waits is handed on, or a first part of it
pub handed : {T E : Type 0} (a b : Option (List ℕ)) (r : Result T E) (s left : List ℕ) → left ≡ [] → Wrote a b r s → HandsOn a b r s left
handed a b (Ok x) s left e w = λ before text h. subst (λ (t : List ℕ). Handed before b t text) (sym e) (goes a b s w before text h)
handed a b (Err x) s left e w = fails a b s w
