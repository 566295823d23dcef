-- What is known of the items of a trail when they are judged (this project's own rules).
use Rattle.std.specs.Prelude.{◌≡◌, true, List, All}
use Rattle.sysregs.specs.declared.regs.Regs.{Regs}
use Rattle.sysregs.specs.declared.regs.Side.{Side}
use Rattle.sysregs.specs.Registers.{config_of}
use Rattle.trails.specs.declared.item.Item.{Item}
use Rattle.trails.specs.declared.item.What.TheVariants.{Base}
use Rattle.walk_spec.specs.Needs.{regime_of}
use Rattle.made_rows.specs.Sized.{is_sized}

-- where the item is a base, the sizes of its stage are in range
abbrev pub HasSizes : (regs : Regs) (side : Side) (item : Item) → Type 0
HasSizes regs s i = i.what ≡ Base → is_sized (regime_of (config_of regs) s) i.stage ≡ true

abbrev pub HaveSizes : (regs : Regs) (side : Side) (items : List Item) → Type 0
HaveSizes regs s items = All (HasSizes regs s) items
