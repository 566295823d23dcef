-- What reads keep, they keep from one to the next.
use Rattle.std.proofs.Common.{ℕ, ◌<◌, ◌≤◌, List, refl, ◌∙◌, subst, arith, inl, inr}
use Rattle.std.proofs.lemmas.Bool.{cases_lt}
use Rattle.bitwords.specs.Causes.{Rose}
use Rattle.table_reads.proofs.Weaker.{rose_weaker}
use Rattle.dump_file.specs.Held.{Holding}
use Rattle.answers.specs.Supplies.{Keeps, KeepsLoan}

-- no number is below itself
not_below : (n : ℕ) (A : Type 0) → n < n → A
not_below n A h = absurd (omega arith)

-- one of two counts in turn rose where their count together did
rose_then : (a b c : ℕ) (p q r : ℕ) → p ≤ q → q ≤ r → (a < b → Rose p q) → (b < c → Rose q r) → a < c → Rose p r
rose_then a b c p q r h k l m n =
    elim (cases_lt a b) [ inl x ↦ rose_weaker p p r q (omega arith) k (l x) | inr x ↦ rose_weaker p q r r h (omega arith) (m (omega arith)) ]

-- one read and then another of the same file
both : {F : Type 0} (holds : F → List ℕ → Holding) (faults missing : F → List ℕ → ℕ) (name : List ℕ) (s t u : F) (m n o : ℕ)
    → Keeps holds faults missing name s t m n → Keeps holds faults missing name t u n o
    → Keeps holds faults missing name s u m o
both holds faults missing name s t u m n o h k = record {
  held = k.held ∙ h.held;
  later = (let a = h.later in let b = k.later in omega arith);
  ended = (let a = h.ended in let b = k.ended in omega arith);
  failed = rose_then m n o (faults s name) (faults t name) (faults u name) h.later k.later h.failed k.failed;
}

module _ {F N : Type 0} (holds : F → List ℕ → Holding) (faults missing : F → List ℕ → ℕ) where
  -- no read at all
  pub keeps_here : (x : N) (name : List ℕ) (s : F) (n : ℕ) → KeepsLoan holds faults missing x x name name s s n n
  keeps_here x name s n = record {
    loan = refl;
    name = refl;
    keeps = record {
      held = refl;
      later = omega arith;
      ended = omega arith;
      failed = λ h. not_below n (Rose (faults s name) (faults s name)) h;
    };
  }

  pub keeps_then : (x y z : N) (a b c : List ℕ) (s t u : F) (m n o : ℕ) → KeepsLoan holds faults missing x y a b s t m n
      → KeepsLoan holds faults missing y z b c t u n o → KeepsLoan holds faults missing x z a c s u m o
  keeps_then x y z a b c s t u m n o h k = record {
    loan = k.loan ∙ h.loan;
    name = k.name ∙ h.name;
    keeps = both holds faults missing a s t u m n o h.keeps (subst (λ name. Keeps holds faults missing name t u n o) h.name k.keeps);
  }
