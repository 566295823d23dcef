-- Counts of failures over several calls, and the count of one of two names.
use Rattle.std.proofs.Common.{◌≡◌, ℕ, ◌≤◌, List, Bool, true, false, bytes_eq, refl, sym, ◌∙◌, subst, arith, Decides}
use Rattle.std.proofs.lemmas.Slice.Eq.{bytes_eq-Decides}
use Rattle.dump_file.specs.Counted.{OthersStay, NoneFalls}

pub others_then : {name : List ℕ} {a b c m n o : List ℕ → ℕ} → OthersStay name a b m n → OthersStay name b c n o → OthersStay name a c m o
others_then h k = λ other e. ((k other e).0 ∙ (h other e).0, (k other e).1 ∙ (h other e).1)

-- where the counts of the name that was asked for don't fall, none does
pub none_falls : (name : List ℕ) (a b m n : List ℕ → ℕ) → a name ≤ b name → m name ≤ n name → OthersStay name a b m n
    → NoneFalls a b × NoneFalls m n
none_falls name a b m n h k o = (
  λ x. (by_name x (bytes_eq x name) (bytes_eq-Decides x name)).0,
  λ x. (by_name x (bytes_eq x name) (bytes_eq-Decides x name)).1,
)
  where
    by_name : (x : List ℕ) (same : Bool) → Decides same (x ≡ name) → (a x ≤ b x) × (m x ≤ n x)
    by_name x true e = (subst (λ z. a z ≤ b z) (sym (e.0 refl)) h, subst (λ z. m z ≤ n z) (sym (e.0 refl)) k)
    by_name x false e = let p = o x (λ same. absurd (let bad : false ≡ true = e.1 same in cc)) in (let q = p.0 in omega arith, let q = p.1 in omega arith)
