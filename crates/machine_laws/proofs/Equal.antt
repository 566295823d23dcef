-- The test for equal kinds is what it says.
use Rattle.std.proofs.Common.{◌≡◌, true, refl}
use Rattle.tagged_tlb.specs.declared.row.Kind.{Kind}
use Rattle.tagged_tlb.specs.declared.row.Kind.TheVariants.{Leaf1, Table1, Leaf2, Table2}
use Rattle.tagged_tlb.specs.Rows.{same_kind}

pub kind_same : (a b : Kind) → same_kind a b ≡ true → a ≡ b
kind_same Leaf1 Leaf1 h = refl
kind_same Leaf1 Table1 h = absurd cc
kind_same Leaf1 Leaf2 h = absurd cc
kind_same Leaf1 Table2 h = absurd cc
kind_same Table1 Leaf1 h = absurd cc
kind_same Table1 Table1 h = refl
kind_same Table1 Leaf2 h = absurd cc
kind_same Table1 Table2 h = absurd cc
kind_same Leaf2 Leaf1 h = absurd cc
kind_same Leaf2 Table1 h = absurd cc
kind_same Leaf2 Leaf2 h = refl
kind_same Leaf2 Table2 h = absurd cc
kind_same Table2 Leaf1 h = absurd cc
kind_same Table2 Table1 h = absurd cc
kind_same Table2 Leaf2 h = absurd cc
kind_same Table2 Table2 h = refl
