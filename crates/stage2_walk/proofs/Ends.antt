-- What the last word of a walk gives, apart from where it leads.
use Rattle.std.proofs.Common.{◌≡◌, ℕ, Bool, true, false, not, sym, ap, ◌∙◌, inl, inr}
use Rattle.std.specs.Prelude.{◌==◌, if◌then◌else◌}
use Rattle.std.proofs.lemmas.Bool.{cases_Bool}
use Rattle.bitwords.specs.Fields.{bit, bits_of}
use Rattle.geometry.specs.Tables.{class_of, has_block}
use Rattle.sysregs.specs.Registers.{granule_of}
use Rattle.fault_codes.specs.declared.fault.Fault.{Fault}
use Rattle.descriptors.specs.Meaning.{means2_of, address_in}
use Rattle.table_reads.specs.declared.lead.Lead.{Lead}
use Rattle.table_reads.specs.declared.lead.Lead.TheVariants.{Down, Reached, Stopped}
use Rattle.walk_spec.specs.declared.leaf.Leaf2.{Leaf2}
use Rattle.walk_spec.specs.Stage2.{Asked2, leaf2_of, step2}
use Rattle.stage2_walk.specs.declared.step.Last2.{Last2}
use Rattle.stage2_walk.specs.SoundSteps.{leaf_at}

abbrev same : (a b : Lead Leaf2 ℕ) → Type 0
same a b = a ≡ b

reached_by : (large off : Bool) (a b : Fault) (k l : Leaf2) → same (Reached l) (if large then Stopped a else (if not off then Stopped b else Reached k))
    → l ≡ k
reached_by true off a b k l h = absurd cc
reached_by false true a b k l h = cc
reached_by false false a b k l h = absurd cc

large_down : (large : Bool) (a : Fault) (next : ℕ) (l : Leaf2) (A : Type 0) → same (Reached l) (if large then Stopped a else Down next) → A
large_down true a next l A h = absurd cc
large_down false a next l A h = absurd cc

given : (q : Asked2) (last : Last2) (l : Leaf2) → l ≡ leaf2_of q last.left last.place record {
  out = address_in (granule_of q.config.tg2) last.word (class_of (granule_of q.config.tg2) last.left);
  mem_attr = bits_of last.word 5 2;
  xn = bits_of last.word 54 53;
  sh = bits_of last.word 9 8;
  read = bit last.word 6;
  write = bit last.word 7;
  dbm = bit last.word 51;
  contiguous = bit last.word 52;
} → l ≡ leaf_at q last l.pa l.class
given q last l h = h ∙ sym (ap (λ k. leaf_at q last k.pa k.class) h)

-- a leaf gives what its word says
pub reached_is : (q : Asked2) (last : Last2) (l : Leaf2) → Reached l ≡ step2 q last.left last.place last.word → l ≡ leaf_at q last l.pa l.class
unfolding step2 means2_of
reached_is q last l h =
    let g = granule_of q.config.tg2 in
    let w = last.word in
    elim (cases_Bool (bit w 0)) [
      | inl x ↦ elim (cases_Bool (bit w 1)) [
        | inl y ↦ elim (cases_Bool (last.left == 0)) [
          | inl z ↦ (let f = rw (x, y, z) at h in given q last l (reached_by _ _ _ _ _ l f))
          | inr z ↦ (let f = rw (x, y, z) at h in large_down _ _ _ l _ f)
        ]
        | inr y ↦ elim (cases_Bool (has_block g last.left)) [
          | inl z ↦ (let f = rw (x, y, z) at h in given q last l (reached_by _ _ _ _ _ l f))
          | inr z ↦ (let f = rw (x, y, z) at h in absurd cc)
        ]
      ]
      | inr x ↦ (let f = rw x at h in absurd cc)
    ]
