-- The generator of the random policy.
use Rattle.std.proofs.Common.{◌≡◌, ℕ, zero, suc, ◌+◌, refl, ap, ◌∙◌, subst, arith}
use Rattle.std.specs.Prelude.{◌%◌, ◌^◌}
use Rattle.trace_lang.specs.declared.header.Policy.{Policy}
use Rattle.trace_lang.specs.declared.header.Policy.TheVariants.{Lru, Fifo, Random}
use Rattle.tagged_tlb.specs.Tied.{next_drawn as next, last_drawn, IsAtBy}

drawn_next : (x n : ℕ) → next (last_drawn x n) ≡ last_drawn x (suc n)
drawn_next x zero = refl
drawn_next x (suc n) = refl

-- one draw more
pub drew : (p : Policy) (core n last new : ℕ) → new ≡ next last → IsAtBy p core n last → IsAtBy p core (n + 1) new
drew Lru core n last new e h = tt
drew Fifo core n last new e h = tt
drew (Random start) core n last new e h =
    let s : suc n ≡ n + 1 = omega arith in
    subst (λ k. new ≡ last_drawn ((start + core) % 2 ^ 64) k) s (e ∙ ap next h ∙ drawn_next ((start + core) % 2 ^ 64) n)
