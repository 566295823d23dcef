-- The stages of which rows may be there, and those of which an invalidation takes rows.
use Rattle.std.specs.Prelude.{◌≡◌, Bool, true, false, ◌&&◌, ◌||◌, List, [], ◌∷◌}
use Rattle.sysregs.specs.declared.ops.Scope.{Scope}
use Rattle.sysregs.specs.declared.ops.Scope.TheVariants.{All, Vmid, Stage1, Asid, PageVa, PageIpa, RangeVa, RangeIpa}
use Rattle.sysregs.specs.Ops.{form_of}
use Rattle.fault_codes.specs.declared.fault.Stage.{Stage}
use Rattle.fault_codes.specs.declared.fault.Stage.TheVariants.{S1, S2}
use Rattle.tlbi_ops.specs.declared.inval.Inval.{Inval}
use Rattle.tagged_tlb.specs.declared.row.Row.{Row}
use Rattle.tagged_tlb.specs.declared.stages.Stages.{Stages}

abbrev pub may_have : (stages : Stages) (stage : Stage) → Bool
may_have s S1 = s.stage1
may_have s S2 = s.stage2

abbrev pub with_stage : (stages : Stages) (stage : Stage) → Stages
with_stage s S1 = record { stage1 = true; stage2 = s.stage2 }
with_stage s S2 = record { stage1 = s.stage1; stage2 = true }

-- the stage of each row may be there
abbrev pub AllStaged : (stages : Stages) (rows : List Row) → Type 0
AllStaged s [] = Unit {0}
AllStaged s (r ∷ rows) = (may_have s r.tag.stage ≡ true) × AllStaged s rows

-- so it is in each set
abbrev pub AreStaged : (stages : Stages) (sets : List (List Row)) → Type 0
AreStaged s [] = Unit {0}
AreStaged s (rows ∷ sets) = AllStaged s rows × AreStaged s sets

-- an operation of a scope may take rows of stage 1
abbrev pub takes_stage1 : (scope : Scope) → Bool
takes_stage1 All = true
takes_stage1 Vmid = true
takes_stage1 Stage1 = true
takes_stage1 Asid = true
takes_stage1 PageVa = true
takes_stage1 PageIpa = false
takes_stage1 RangeVa = true
takes_stage1 RangeIpa = false

-- and rows of stage 2
abbrev pub takes_stage2 : (scope : Scope) → Bool
takes_stage2 All = true
takes_stage2 Vmid = true
takes_stage2 Stage1 = false
takes_stage2 Asid = false
takes_stage2 PageVa = false
takes_stage2 PageIpa = true
takes_stage2 RangeVa = false
takes_stage2 RangeIpa = true

-- an invalidation may take a row of these stages
abbrev pub may_take : (stages : Stages) (inval : Inval) → Bool
may_take s i = (s.stage1 && takes_stage1 (form_of i.op).scope) || (s.stage2 && takes_stage2 (form_of i.op).scope)
