-- How a walk through stage 2 stands on items that were kept.
use Rattle.std.specs.Prelude.{ℕ, ◌≡◌, ◌≤◌, Bool, List, length, drop}
use Rattle.geometry.specs.Tables.{level_of}
use Rattle.sysregs.specs.declared.regs.Config.{Config}
use Rattle.fault_codes.specs.declared.fault.Stage.TheVariants.{S2}
use Rattle.trails.specs.declared.item.Item.{Item}
use Rattle.table_reads.specs.Numbers.{sizes2}
use Rattle.walk_spec.specs.declared.leaf.Leaf2.{Leaf2}
use Rattle.walk_spec.specs.Ask.{Stands, needs, bad, ends}
use Rattle.walk_spec.specs.Needs.{Need, stage2_base, word, WordNeed}
use Rattle.walk_spec.specs.Steps.{End, stops, reaches}
use Rattle.walk_spec.specs.Stage2.{Asked2}
use Rattle.stage2_walk.specs.declared.walk.From2.{From2}
use Rattle.stage2_walk.specs.declared.stand.Stood2.{Stood2}
use Rattle.stage2_walk.specs.declared.stand.Stood2.TheVariants.{Found, Refused, Within, Before, Unfit}
use Rattle.stage2_walk.specs.Clauses.{IsTableOf}

-- what stage 2 is asked for an IPA, with the numbers of the register fields
abbrev pub asked2_at : (config : Config) (s1ptw : Bool) (ipa : ℕ) → Asked2
asked2_at c s1ptw ipa = record { config = c; sizes = sizes2 c; s1ptw = s1ptw; ipa = ipa }

-- a table with so many levels left
abbrev pub table_at : (left base : ℕ) → From2
table_at left base = record { base = base; level = level_of left }

-- the word that is needed of a table
abbrev pub needed : (asked : Asked2) (left table place : ℕ) → WordNeed
needed q left table place = record { stage = S2; left = left; place = place; s1ptw = q.s1ptw; address = q.ipa; table = table }

-- the walk needs a word of this table
abbrev pub NeedsOf : (from : From2) (stands : Stands Need Item (End Leaf2)) → Type 0
NeedsOf from s = (w : WordNeed) × (s ≡ needs (word w)) × (from ≡ table_at w.left w.table)

-- what is answered for how the walk stands on the items from a place on
abbrev pub IsStood2 : (config : Config) (items : List Item) (stood : Stood2) (stands : Stands Need Item (End Leaf2)) → Type 0
IsStood2 c items (Found l at) s = (at ≤ length items) × (s ≡ ends (reaches l) (drop at items))
IsStood2 c items (Refused f at) s = (at ≤ length items) × (s ≡ ends (stops f) (drop at items))
IsStood2 c items (Within from) s = IsTableOf c from × NeedsOf from s
IsStood2 c items Before s = (ipa : ℕ) × (s ≡ needs (stage2_base ipa))
IsStood2 c items Unfit s = s ≡ bad
