-- Fault status codes (DDI 0487, the fault status codes of ESR_ELx.ISS).
use Rattle.std.specs.Prelude.{ℕ, ◌+◌, ◌≤◌, ℤ, pos, negsuc}
use Rattle.fault_codes.specs.declared.fault.Fault.{Fault}
use Rattle.fault_codes.specs.declared.fault.Class.{Class}
use Rattle.fault_codes.specs.declared.fault.Class.TheVariants.{Translation, AddressSize, AccessFlag, Permission, External, Conflict}

-- the code at a level: that of level 0 plus the level, or the one of level -1
abbrev pub by_level : (level : ℤ) (first below : ℕ) → ℕ
by_level (pos l) first below = first + l
by_level (negsuc _) first below = below

-- the code of a class at a level; access flag and permission faults have no level -1
abbrev pub code_at : (class : Class) (level : ℤ) → ℕ
code_at AddressSize l = by_level l 0x00 0x29
code_at Translation l = by_level l 0x04 0x2b
code_at AccessFlag l = by_level l 0x08 0x08
code_at Permission l = by_level l 0x0c 0x0c
code_at External l = by_level l 0x14 0x13
code_at Conflict l = 0x30

-- the code of a fault
abbrev pub status_of : (fault : Fault) → ℕ
status_of f = code_at f.class f.level

-- the levels that a class has: from -1 to 3, and -1 with neither access flag nor permission
abbrev pub HasLevel : (class : Class) (level : ℤ) → Type 0
HasLevel c (pos l) = l ≤ 3
HasLevel AccessFlag (negsuc n) = ⊥
HasLevel Permission (negsuc n) = ⊥
HasLevel c (negsuc n) = n ≤ 0

-- the fault has a level that its class has
abbrev pub HasStatus : (fault : Fault) → Type 0
HasStatus f = HasLevel f.class f.level
