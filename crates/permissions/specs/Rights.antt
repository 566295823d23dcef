-- What a stage permits (DDI 0487, memory access control). R, W and X stand for read, write and fetch, and the digit for
-- the exception level.
use Rattle.std.specs.Prelude.{ℕ, ◌+◌, ◌*◌, Bool, true, false, not, ◌&&◌, ◌||◌, ◌==◌, if◌then◌else◌}
use Rattle.bitwords.specs.Fields.{bit}
use Rattle.permissions.specs.declared.set.Perms.{Perms}
use Rattle.permissions.specs.declared.bits.El.{El}
use Rattle.permissions.specs.declared.bits.El.TheVariants.{El0, El1}
use Rattle.permissions.specs.declared.bits.Kind.{Kind}
use Rattle.permissions.specs.declared.bits.Kind.TheVariants.{Read, Write, Fetch}
use Rattle.permissions.specs.declared.bits.Bits1.{Bits1}
use Rattle.permissions.specs.declared.bits.TableBits.{TableBits}

-- the six rights
pub record Rights : Type 0 where
  pub r0 : Bool
  pub w0 : Bool
  pub x0 : Bool
  pub r1 : Bool
  pub w1 : Bool
  pub x1 : Bool

-- a right as a bit
abbrev pub weight : (given : Bool) → ℕ
weight b = if b then 1 else 0

-- the set of these rights, as its bits
unfoldable pub perms_of : (rights : Rights) → Perms
perms_of r = record { 0 = weight r.r0 + 2 * weight r.w0 + 4 * weight r.x0 + 8 * weight r.r1 + 16 * weight r.w1 + 32 * weight r.x1 }

-- the bits of a set
unfoldable pub set_bits : (perms : Perms) → ℕ
set_bits p = p.0

-- whether a set has the right at this place: R0, W0, X0, R1, W1, X1 are 0 to 5
unfoldable pub has : (perms : Perms) (place : ℕ) → Bool
has p place = bit p.0 place

-- what a stage that is off gives
abbrev pub all_rights : Rights
all_rights = record { r0 = true; w0 = true; x0 = true; r1 = true; w1 = true; x1 = true }

-- what both sets give
abbrev pub both_give : (perms1 perms2 : Perms) → Rights
both_give p q = record {
  r0 = has p 0 && has q 0;
  w0 = has p 1 && has q 1;
  x0 = has p 2 && has q 2;
  r1 = has p 3 && has q 3;
  w1 = has p 4 && has q 4;
  x1 = has p 5 && has q 5;
}

-- no bit of any table
abbrev pub no_bits : TableBits
no_bits = record { no_el0 = false; read_only = false; pxn = false; uxn = false }

-- a bit counts where any table above the leaf has it
abbrev pub joined : (tables more : TableBits) → TableBits
joined a b = record { no_el0 = a.no_el0 || b.no_el0; read_only = a.read_only || b.read_only; pxn = a.pxn || b.pxn; uxn = a.uxn || b.uxn }

-- AP[2], which DBM turns where hardware manages dirty state, and then APTable[1] (that order is this project's own rule)
abbrev pub is_read_only : (leaf : Bits1) (tables : TableBits) (dirty : Bool) → Bool
is_read_only leaf tables dirty = tables.read_only || (leaf.read_only && not (dirty && leaf.dbm))

-- AP[1], cleared by APTable[0]
abbrev pub is_user : (leaf : Bits1) (tables : TableBits) → Bool
is_user leaf tables = leaf.el0 && not tables.no_el0

-- UXN and UXNTable
abbrev pub is_uxn : (leaf : Bits1) (tables : TableBits) → Bool
is_uxn leaf tables = leaf.uxn || tables.uxn

-- PXN and PXNTable
abbrev pub is_pxn : (leaf : Bits1) (tables : TableBits) → Bool
is_pxn leaf tables = leaf.pxn || tables.pxn

-- Stage 1: EL1 always reads; what EL0 may write, EL1 may not fetch; with WXN nobody fetches what it may write.
abbrev pub rights1 : (leaf : Bits1) (tables : TableBits) (dirty wxn : Bool) → Rights
rights1 leaf tables dirty wxn =
    let ro = is_read_only leaf tables dirty in
    let user = is_user leaf tables in
    record {
      r0 = user;
      w0 = user && not ro;
      x0 = not (is_uxn leaf tables) && not (wxn && (user && not ro));
      r1 = true;
      w1 = not ro;
      x1 = not (is_pxn leaf tables) && not (user && not ro) && not (wxn && not ro);
    }

-- Stage 2: S2AP, which DBM turns where hardware manages dirty state, and XN[1:0]. A fetch also needs read (this
-- project's own rule).
abbrev pub rights2 : (read write : Bool) (xn : ℕ) (dbm dirty : Bool) → Rights
rights2 read write xn dbm dirty =
    let writes = write || (dirty && dbm) in
    record { r0 = read; w0 = writes; x0 = read && (xn == 0 || xn == 1); r1 = read; w1 = writes; x1 = read && (xn == 0 || xn == 3) }

-- the place of the right that an access needs
abbrev pub needed : (el : El) (kind : Kind) → ℕ
needed El0 Read = 0
needed El0 Write = 1
needed El0 Fetch = 2
needed El1 Read = 3
needed El1 Write = 4
needed El1 Fetch = 5

-- PSTATE.PAN bears on reads and writes at EL1
abbrev pub is_guarded : (el : El) (kind : Kind) → Bool
is_guarded El0 kind = false
is_guarded El1 Read = true
is_guarded El1 Write = true
is_guarded El1 Fetch = false

-- Stage 1 permits an access. PAN refuses what EL0 may read, and with EPAN what EL0 may fetch, as far as UXN tells (what
-- EPAN refuses is a profile of this project).
unfoldable pub is_allowed1 : (perms : Perms) (uxn : Bool) (el : El) (kind : Kind) (pan epan : Bool) → Bool
is_allowed1 p uxn el kind pan epan = has p (needed el kind) && not (pan && is_guarded el kind && (has p 0 || (epan && not uxn)))

-- Stage 2 permits an access.
unfoldable pub is_allowed2 : (perms : Perms) (el : El) (kind : Kind) → Bool
is_allowed2 p el kind = has p (needed el kind)
