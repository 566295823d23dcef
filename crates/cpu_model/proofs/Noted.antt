-- The rows that served, by the sets in which they stand.
use Rattle.std.proofs.Common.{◌≡◌, ◌≤◌, List, [], ◌∷◌, length, map, get_or, sym, ap, ◌∙◌, subst, inl, inr, arith}
use Rattle.std.specs.Prelude.{false}
use Rattle.std.proofs.lemmas.Bool.{cases_lt}
use Rattle.std.proofs.lemmas.List.{get_or_past}
use Rattle.fault_codes.specs.declared.fault.Stage.TheVariants.{S1}
use Rattle.trace_lang.specs.declared.header.Size.{Size}
use Rattle.tagged_tlb.specs.declared.row.Kind.{Kind}
use Rattle.tagged_tlb.specs.declared.row.Kind.TheVariants.{Leaf1, Table1, Leaf2, Table2}
use Rattle.tagged_tlb.specs.declared.row.Row.{Row}
use Rattle.tagged_tlb.specs.declared.found.Slot.{Slot}
use Rattle.tagged_tlb.specs.Found.{IsWithin, slot_row}
use Rattle.tagged_tlb.proofs.Stands.{stands}
use Rattle.machine_spec.specs.Moments.{no_bank}
use Rattle.machine_spec.specs.Made.{key_of, made_in}
use Rattle.walk_cache.specs.ByKind.{SetsByKind, AreTied, sets_of, sets_in}
use Rattle.walk_cache.specs.Services.{IsService, AreServices}
use Rattle.served_walk.specs.declared.met.Service.{Service}
use Rattle.served_walk.specs.Meets.{service_row, AreServices as AreServed, IsServiceOf}

-- a row of a kind
abbrev pub some_row : Kind → Row
some_row k = record {
  trail = [];
  tag = record { start = 0; class = 0; granule = 0; asid = 0; vmid = 0; stage = S1; table = false; global = false };
  key = key_of no_bank.regs;
  region = record { class = 0; start = 0 };
  made = made_in 0 0;
  kind = k;
  global = false;
}

abbrev other_kind : Kind → Kind
other_kind Leaf1 = Table1
other_kind Table1 = Leaf1
other_kind Leaf2 = Leaf1
other_kind Table2 = Leaf1

no_other : (k : Kind) → other_kind k ≡ k → ⊥
no_other Leaf1 h = absurd cc
no_other Table1 h = absurd cc
no_other Leaf2 h = absurd cc
no_other Table2 h = absurd cc

-- what is at a slot where no row stands is the default
past_way : (sets : List (List Row)) (s : Slot) (d : Row) → length (get_or sets s.set []) ≤ s.way → slot_row d sets s ≡ d
past_way sets s d h = get_or_past (get_or sets s.set []) s.way d h

past_set : (sets : List (List Row)) (s : Slot) (d : Row) → length sets ≤ s.set → slot_row d sets s ≡ d
past_set sets s d h =
    let e : get_or sets s.set [] ≡ [] = get_or_past sets s.set [] h in
    past_way sets s d (subst (λ (xs : List Row). length xs ≤ s.way) (sym e) (omega arith))

-- a row stands at a slot, where it has its kind whatever the default
within : (sets : List (List Row)) (s : Slot) (k : Kind) → (slot_row (some_row (other_kind k)) sets s).kind ≡ k → IsWithin sets s
within sets s k h = elim (cases_lt s.set (length sets)) as (λ _. IsWithin sets s) [
  | inl a ↦ elim (cases_lt s.way (length (get_or sets s.set []))) as (λ _. IsWithin sets s) [
    | inl b ↦ (a, b)
    | inr b ↦ absurd (no_other k (sym (ap (λ (r : Row). r.kind) (past_way sets s (some_row (other_kind k)) b)) ∙ h))
  ]
  | inr a ↦ absurd (no_other k (sym (ap (λ (r : Row). r.kind) (past_set sets s (some_row (other_kind k)) a)) ∙ h))
]

module _ (size : Size) (live : List Row) (sets : SetsByKind) (tied : AreTied size live sets) where
  abbrev pub at : Row → Kind → Slot → Row
  at d k s = slot_row d (sets_of sets k) s

  one_served : (s : Service) → ((d : Row) → IsServiceOf (at d) live s) → (d : Row) → IsService size live s (service_row (at d) s)
  one_served s h d =
      stands s.kind (sets_in size s.kind) live d (sets_of sets s.kind) (tied s.kind) s.seen
      (within (sets_of sets s.kind) s.seen.slot s.kind (h (some_row (other_kind s.kind))).kind) (h d).made

  -- the rows at the slots serve
  pub services_are : (services : List Service) → ((d : Row) → AreServed (at d) live services) → (d : Row)
      → AreServices size live services (map (service_row (at d)) services)
  services_are [] h d = tt
  services_are (s ∷ services) h d = (one_served s (λ e. (h e).0) d, services_are services (λ e. (h e).1) d)
