-- The walk of an access through both stages (DDI 0487, AArch64.FullTranslate).
use Rattle.std.specs.Prelude.{ℕ, ◌+◌, ◌-◌, ◌%◌, ◌^◌, Bool, true, false, not, ◌&&◌, ◌||◌, ◌==◌, nat_le, pos, if◌then◌else◌}
use Rattle.bitwords.specs.Fields.{bits_of, bit}
use Rattle.geometry.specs.Tables.{most_left, input_size}
use Rattle.sysregs.specs.declared.regs.Config.{Config}
use Rattle.sysregs.specs.Sides.{side_of, txsz_of, epd_of, tbi_of, tbid_of, e0pd_of}
use Rattle.permissions.specs.declared.set.Perms.{Perms}
use Rattle.permissions.specs.declared.bits.El.{El}
use Rattle.permissions.specs.declared.bits.El.TheVariants.{El0, El1}
use Rattle.permissions.specs.declared.bits.Kind.{Kind}
use Rattle.permissions.specs.declared.bits.Kind.TheVariants.{Read, Write, Fetch}
use Rattle.permissions.specs.Rights.{perms_of, all_rights, both_give, no_bits, is_allowed2}
use Rattle.attributes.specs.declared.kinds.MemType.{MemType}
use Rattle.attributes.specs.declared.kinds.Share.{Share}
use Rattle.attributes.specs.declared.kinds.Share.TheVariants.{Osh}
use Rattle.attributes.specs.Memory.{combined, alone, off_type}
use Rattle.fault_codes.specs.declared.fault.Stage.TheVariants.{S2}
use Rattle.fault_codes.specs.declared.fault.Class.TheVariants.{Translation, AddressSize, Permission}
use Rattle.trails.specs.declared.item.Item.{Item}
use Rattle.trails.specs.declared.outcome.Access.{Access}
use Rattle.trails.specs.declared.outcome.Outcome.{Outcome}
use Rattle.trails.specs.declared.outcome.Outcome.TheVariants.{Mapped, Faulted}
use Rattle.table_reads.specs.Numbers.{is_sized1}
use Rattle.table_reads.specs.Places.{is_too_large}
use Rattle.walk_spec.specs.declared.leaf.Leaf1.{Leaf1}
use Rattle.walk_spec.specs.declared.leaf.Leaf2.{Leaf2}
use Rattle.walk_spec.specs.Ask.{Ask, done, ask, after}
use Rattle.walk_spec.specs.Needs.{Need, stage1_base, regime_of}
use Rattle.walk_spec.specs.Steps.{End, stops, reaches}
use Rattle.walk_spec.specs.Stage2.{walk2}
use Rattle.walk_spec.specs.Stage1.{Asked, asked2, fault1, stage1_from}

-- Where both stages lead: the address, what both permit, type and shareability, and the class of the piece of both
-- leaves around the address.
pub record Landing : Type 0 where
  pub class : ℕ
  pub pa : ℕ
  pub perms : Perms
  pub mem : MemType
  pub sh : Share

-- a leaf of stage 1 with stage 2 off
abbrev pub landed : (leaf : Leaf1) → Landing
landed l = let t = alone l.mem l.sh in record { class = l.class; pa = l.out; perms = l.perms; mem = t.0; sh = t.1 }

-- the smaller of two classes
abbrev pub smaller : (a b : ℕ) → ℕ
smaller a b = if nat_le a b then a else b

-- the leaves of both stages
abbrev pub piece : (leaf1 : Leaf1) (leaf2 : Leaf2) → Landing
piece l m =
    let t = combined l.mem l.sh m.mem m.sh in
    record { class = smaller l.class m.class; pa = m.pa; perms = perms_of (both_give l.perms m.perms); mem = t.0; sh = t.1 }

-- where it is judged, an access that stage 2 doesn't permit is a permission fault
abbrev pub judged2 : (judged : Bool) (access : Access) (leaf1 : Leaf1) (end : End Leaf2) → End Landing
judged2 judged a l (stops f) = stops f
judged2 judged a l (reaches m) =
    if judged && not (is_allowed2 m.perms a.el a.kind) then stops record { stage = S2; level = m.level; class = Permission; s1ptw = false }
    else reaches (piece l m)

-- stage 2 of the output of stage 1
abbrev pub stage2_behind : (asked : Asked) (end : End Leaf1) → Ask Need Item (End Landing)
stage2_behind q (stops f) = done (stops f)
stage2_behind q (reaches l) =
    if q.regime.config.vm then after (walk2 (asked2 q.regime false l.out)) (λ e. done (judged2 q.judged q.access l e)) else done (reaches (landed l))

-- an instruction fetch
abbrev pub is_fetch : (kind : Kind) → Bool
is_fetch Read = false
is_fetch Write = false
is_fetch Fetch = true

-- an access of EL0
abbrev pub is_el0 : (el : El) → Bool
is_el0 El0 = true
is_el0 El1 = false

-- the highest bit that counts: VA bits 63 to 56 are a tag where the side's TBI is 1, but for a fetch with TBID
abbrev pub top_bit : (config : Config) (access : Access) → ℕ
top_bit c a = let s = side_of a.va in if tbi_of c s && not (is_fetch a.kind && tbid_of c s) then 55 else 63

-- VA bits from the top bit down to the input size are all equal to bit 55
abbrev pub is_in_range : (config : Config) (access : Access) (input : ℕ) → Bool
is_in_range c a input = let top = top_bit c a in bits_of a.va top input == (if bit a.va 55 then 2 ^ (top - input + 1) - 1 else 0)

-- Stage 1 refuses an address before any table: TxSZ out of range (this project's own rule: a translation fault), a VA
-- bit that differs, EL0 with E0PD, or EPD.
unfoldable pub is_refused1 : (config : Config) (access : Access) → Bool
is_refused1 c a =
    let s = side_of a.va in
    not (is_sized1 c s) || not (is_in_range c a (input_size (txsz_of c s))) || (is_el0 a.el && e0pd_of c s) || epd_of c s

-- behind the base; its fault is of level 0
abbrev pub stage1_behind : (asked : Asked) (base : ℕ) → Ask Need Item (End Leaf1)
stage1_behind q base =
    if is_too_large q.regime.stage1 base then done (stops (fault1 AddressSize most_left))
    else stage1_from q q.regime.stage1.start record { address = base; bits = no_bits }

-- stage 1 while it is on; what is refused before the base is a fault of level 0
abbrev pub stage1_on : (asked : Asked) → Ask Need Item (End Leaf1)
stage1_on q = if is_refused1 q.regime.config q.access then done (stops (fault1 Translation most_left)) else ask stage1_base (λ i. stage1_behind q i.value)

-- what stage 1 gives while it is off (SCTLR_EL1.M is 0): VA bits 51 to 0, and all rights
abbrev pub off_leaf : (config : Config) (access : Access) → Leaf1
off_leaf c a =
    record { level = pos 0; class = 52; out = a.va % 2 ^ 52; perms = perms_of all_rights; mem = off_type (is_fetch a.kind) c.i; sh = Osh; global = true }

-- with stage 1 off: an address of more than 52 bits
abbrev pub is_refused_off : (config : Config) (access : Access) → Bool
is_refused_off c a = not (bits_of a.va (top_bit c a) 52 == 0)

-- stage 1 while it is off; its fault is of level 0
abbrev pub stage1_off : (asked : Asked) → Ask Need Item (End Leaf1)
stage1_off q = done (if is_refused_off q.regime.config q.access then stops (fault1 AddressSize most_left) else reaches (off_leaf q.regime.config q.access))

-- stage 1, on or off
abbrev pub stage1 : (asked : Asked) → Ask Need Item (End Leaf1)
stage1 q = if q.regime.config.m then stage1_on q else stage1_off q

-- the walk for an access, judged or not: stage 1, and then stage 2 of its output
abbrev pub walk_by : (asked : Asked) → Ask Need Item (End Landing)
walk_by q = after (stage1 q) (stage2_behind q)

-- an access under register fields
abbrev pub asked : (config : Config) (judged : Bool) (access : Access) → Asked
asked c judged a = record { regime = regime_of c (side_of a.va); judged = judged; access = a }

-- the walk by the register fields alone
abbrev pub walk : (config : Config) (judged : Bool) (access : Access) → Ask Need Item (End Landing)
walk c judged a = walk_by (asked c judged a)

-- how an access comes out
abbrev pub outcome_of : (end : End Landing) → Outcome
outcome_of (stops f) = Faulted f
outcome_of (reaches l) = Mapped l.pa l.perms l.mem l.sh
