-- An access without rows.
use Rattle.std.proofs.Common.{◌≡◌, ℕ, List, false, refl, sym, ap, ◌∙◌, arith, Some, None, subst}
use Rattle.bitwords.specs.Causes.{Rose}
use Rattle.sysregs.specs.declared.regs.Regs.{Regs}
use Rattle.sysregs.specs.Registers.{asid_of, vmid_of}
use Rattle.trails.specs.declared.item.Item.{Item}
use Rattle.trails.specs.declared.outcome.Access.{Access}
use Rattle.trails.specs.declared.outcome.Outcome.{Outcome}
use Rattle.trails.specs.declared.step.Answer.{Answer}
use Rattle.table_reads.specs.Memory.{Memory}
use Rattle.trace_lang.specs.declared.header.Size.{Size}
use Rattle.trace_lang.specs.declared.header.Size.TheVariants.{NoRows, Small, Medium, Large}
use Rattle.tagged_tlb.specs.Shapes.{keeps_rows}
use Rattle.walk_spec.specs.Walked.{IsFresh}
use Rattle.machine_spec.specs.Header.{Header}
use Rattle.tagged_tlb.specs.Sets.{Cache}
use Rattle.machine_spec.specs.Machine.{Visited, visited}
use Rattle.machine_laws.proofs.NoRows.{fresh_answer, visited_fresh}
use Rattle.cpu_model.specs.Cores.{CoreState, AreCaches, visit_at}

-- a count that stands at 0 did not rise
not_risen : Rose 0 0 → ⊥
not_risen r = omega (arith, r)

-- an answer without rows
abbrev pub plain : Regs → Outcome → List Item → Answer
plain regs o items = record {
  asid = asid_of regs;
  vmid = vmid_of regs;
  outcome = o;
  first = items;
  second = None;
  old = false;
  stale = false;
  evicted = 0;
}

no_size : (size : Size) → keeps_rows size ≡ false → size ≡ NoRows
no_size NoRows h = refl
no_size Small h = absurd cc
no_size Medium h = absurd cc
no_size Large h = absurd cc

module _ (c : CoreState) (m : Memory) (k : ℕ) (a : Access) (none : keeps_rows c.caches.size ≡ false) (h : Header) (l : Cache)
    (held : AreCaches h c.number l c) where
  fresh : visited (visit_at h c l m k) a ≡ record { answer = fresh_answer (visit_at h c l m k).place a; cache = l }
  fresh =
      let size : keeps_rows h.size ≡ false = ap keeps_rows held.size_is ∙ none in
      visited_fresh (visit_at h c l m k) a (no_size h.size size) (held.empty size).0

  pub answered : (o : Outcome) (items : List Item) → IsFresh c.bank.regs a k (Some m) (Rose 0 0) items o
      → plain c.bank.regs o items ≡ (visited (visit_at h c l m k) a).answer
  answered o items is =
      let e = is m refl not_risen in
      rw (e.0, e.1) (sym (ap (λ (v : Visited). v.answer) fresh))

  pub kept : AreCaches h c.number (visited (visit_at h c l m k) a).cache c
  kept = subst (λ (x : Cache). AreCaches h c.number x c) (sym (ap (λ (v : Visited). v.cache) fresh)) held
