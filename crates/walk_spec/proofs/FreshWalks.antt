-- A walk over a told memory that did not fail is the fresh walk.
use Rattle.std.proofs.Common.{◌≡◌, ℕ, List, refl, sym, ap, ◌∙◌, inl, inr}
use Rattle.std.specs.Prelude.{Some, true}
use Rattle.sysregs.specs.declared.regs.Regs.{Regs}
use Rattle.sysregs.specs.declared.regs.Side.{Side}
use Rattle.sysregs.specs.Registers.{config_of}
use Rattle.sysregs.specs.Sides.{side_of}
use Rattle.trails.specs.declared.item.Item.{Item}
use Rattle.trails.specs.declared.outcome.Access.{Access}
use Rattle.trails.specs.declared.outcome.Outcome.{Outcome}
use Rattle.table_reads.specs.Memory.{Memory, Told}
use Rattle.walk_spec.specs.Ask.{Fed, ended, lacks}
use Rattle.walk_spec.specs.Needs.{Need, stage1_base, stage2_base, word}
use Rattle.walk_spec.specs.Steps.{End}
use Rattle.walk_spec.specs.BothStages.{Landing, walk}
use Rattle.walk_spec.specs.Fresh.{given, fed_outcome, fresh_items, fresh_outcome}
use Rattle.walk_spec.specs.Walked.{ReadsNow, LacksFor, WalkedWhole, IsFresh}
use Rattle.walk_spec.proofs.Feeding.{took_weaker, fed_took, EndsAsGiven}

-- what was read is what is given
read_given : (regs : Regs) (s : Side) (now : ℕ) (m : Memory) (n : Need) (i : Item) → ReadsNow regs s now (Some m) n i → given regs s m now n ≡ Some i
read_given regs s now m stage1_base i h = ap (λ z. Some z) (sym h)
read_given regs s now m (stage2_base _) i h = ap (λ z. Some z) (sym h)
read_given regs s now m (word w) i h = rw h.1 (ap (λ z. Some z) (sym h.0))

-- what lacked is not given
lacks_given : (regs : Regs) (s : Side) (now : ℕ) (m : Memory) (F : Type 0) → (F → ⊥) → (e : Fed Need (End Landing)) → LacksFor (Some m) F e →
    EndsAsGiven (given regs s m now) e
lacks_given regs s now m F f (ended a) h = tt
lacks_given regs s now m F f (lacks stage1_base) h = absurd h
lacks_given regs s now m F f (lacks (stage2_base _)) h = absurd h
lacks_given regs s now m F f (lacks (word w)) (inl h) = rw h refl
lacks_given regs s now m F f (lacks (word w)) (inr h) = absurd (f h)

fresh_told : (regs : Regs) (a : Access) (now : ℕ) (m : Memory) (F : Type 0) (items : List Item) (o : Outcome) → (F → ⊥) →
    WalkedWhole regs a now (Some m) F items o → (items ≡ fresh_items m regs a now) × (o ≡ fresh_outcome m regs a now)
fresh_told regs a now m F items o f w =
    let d = fed_took (given regs (side_of a.va) m now) (walk (config_of regs) true a) items w.end
    (took_weaker (ReadsNow regs (side_of a.va) now (Some m)) (λ n i. given regs (side_of a.va) m now n ≡ Some i) (read_given regs (side_of a.va) now m)
    (walk (config_of regs) true a) items w.end w.took) (lacks_given regs (side_of a.va) now m F f w.end w.cause) in
    (d.0, w.answer ∙ ap fed_outcome d.1)

pub fresh : (regs : Regs) (a : Access) (now : ℕ) (told : Told) (F : Type 0) (items : List Item) (o : Outcome) → WalkedWhole regs a now told F items o →
    IsFresh regs a now told F items o
fresh regs a now told F items o w m e f = fresh_told regs a now m F items o f (rw e at w)
