-- Laws of what the stages permit (DDI 0487, memory access control).
use Rattle.std.specs.Prelude.{ℕ, ◌≡◌, ◌≢◌, Bool, true, false, IsTrue, ◌&&◌, ◌||◌, not}
use Rattle.permissions.specs.Rights.{perms_of, has, joined, both_give, rights1, rights2, needed, is_allowed1}
use Rattle.permissions.specs.declared.set.Perms.{Perms}
use Rattle.permissions.specs.declared.bits.El.{El}
use Rattle.permissions.specs.declared.bits.El.TheVariants.{El0, El1}
use Rattle.permissions.specs.declared.bits.Kind.{Kind}
use Rattle.permissions.specs.declared.bits.Kind.TheVariants.{Read, Write, Fetch}
use Rattle.permissions.specs.declared.bits.Bits1.{Bits1}
use Rattle.permissions.specs.declared.bits.TableBits.{TableBits}

-- whether a set gives the right that an access needs
abbrev pub may : (perms : Perms) (el : El) (kind : Kind) → Bool
may p el kind = has p (needed el kind)

-- the set of rights that stage 1 gives to a leaf under these tables
abbrev pub set_of1 : (leaf : Bits1) (tables : TableBits) (dirty wxn : Bool) → Perms
set_of1 leaf tables dirty wxn = perms_of (rights1 leaf tables dirty wxn)

-- the set of rights that stage 2 gives to a leaf
abbrev pub set_of2 : (read write : Bool) (xn : ℕ) (dbm dirty : Bool) → Perms
set_of2 read write xn dbm dirty = perms_of (rights2 read write xn dbm dirty)

-- whether the first set gives what an access needs, and the second doesn't
abbrev pub taken : (before after : Perms) (el : El) (kind : Kind) → Bool
taken before after el kind = may before el kind && not (may after el kind)

-- Further bits of tables give no right to read or write.
abbrev pub TablesOnlyTake : Type 0
TablesOnlyTake =
    (leaf : Bits1) → (tables more : TableBits) → (dirty wxn : Bool) → (el : El) → (kind : Kind) → kind ≢ Fetch →
    IsTrue (may (set_of1 leaf (joined tables more) dirty wxn) el kind) → IsTrue (may (set_of1 leaf tables dirty wxn) el kind)

-- PXNTable and UXNTable give no right at all.
abbrev pub FetchBitsOnlyTake : Type 0
FetchBitsOnlyTake =
    (leaf : Bits1) → (tables more : TableBits) → (dirty wxn : Bool)
    → more.no_el0 ≡ false → more.read_only ≡ false → (el : El) → (kind : Kind) →
    IsTrue (may (set_of1 leaf (joined tables more) dirty wxn) el kind) → IsTrue (may (set_of1 leaf tables dirty wxn) el kind)

-- Where the second set gives an exception level a fetch that the first doesn't, it lacks a write that the first gives.
abbrev pub FetchForWrite : (before after : Perms) (el : El) → Type 0
FetchForWrite before after el =
    IsTrue (may after el Fetch) → may before el Fetch ≡ false → IsTrue (taken before after El0 Write || taken before after El1 Write)

-- APTable gives a right to fetch only where it takes a right to write, which had stood against it.
abbrev pub FetchesComeOfWrites : Type 0
FetchesComeOfWrites =
    (leaf : Bits1) → (tables more : TableBits) → (dirty wxn : Bool) → (el : El) →
    FetchForWrite (set_of1 leaf tables dirty wxn) (set_of1 leaf (joined tables more) dirty wxn) el

-- With WXN no exception level fetches what it may write.
abbrev pub NoFetchOfWritable : Type 0
NoFetchOfWritable =
    (leaf : Bits1) → (tables : TableBits) → (dirty : Bool) → (el : El) →
    IsTrue (may (set_of1 leaf tables dirty true) el Write) → may (set_of1 leaf tables dirty true) el Fetch ≡ false

-- What EL0 may write, EL1 may not fetch.
abbrev pub NoFetchOfUserWritable : Type 0
NoFetchOfUserWritable =
    (leaf : Bits1) → (tables : TableBits) → (dirty wxn : Bool) →
    IsTrue (may (set_of1 leaf tables dirty wxn) El0 Write) → may (set_of1 leaf tables dirty wxn) El1 Fetch ≡ false

-- Stage 1 lets EL1 read all that it maps, as long as PAN is 0.
abbrev pub El1Reads : Type 0
El1Reads =
    (leaf : Bits1) → (tables : TableBits) → (dirty wxn uxn epan : Bool) →
    IsTrue (is_allowed1 (set_of1 leaf tables dirty wxn) uxn El1 Read false epan)

-- At stage 2 a fetch needs read.
abbrev pub FetchNeedsRead : Type 0
FetchNeedsRead =
    (read write dbm dirty : Bool) → (xn : ℕ) → (el : El) →
    IsTrue (may (set_of2 read write xn dbm dirty) el Fetch) → IsTrue (may (set_of2 read write xn dbm dirty) el Read)

-- PAN and EPAN bear on no access at EL0.
abbrev pub PanSparesEl0 : Type 0
PanSparesEl0 = (p : Perms) → (uxn pan epan : Bool) → (kind : Kind) → is_allowed1 p uxn El0 kind pan epan ≡ may p El0 kind

-- PAN and EPAN bear on no fetch.
abbrev pub PanSparesFetches : Type 0
PanSparesFetches = (p : Perms) → (uxn pan epan : Bool) → (el : El) → is_allowed1 p uxn el Fetch pan epan ≡ may p el Fetch

-- EPAN bears on no access while PAN is 0.
abbrev pub EpanNeedsPan : Type 0
EpanNeedsPan = (p : Perms) → (uxn epan : Bool) → (el : El) → (kind : Kind) → is_allowed1 p uxn el kind false epan ≡ may p el kind

-- The rights of both stages are those that each of them gives.
abbrev pub BothIsIntersection : Type 0
BothIsIntersection = (p q : Perms) → (el : El) → (kind : Kind) → may (perms_of (both_give p q)) el kind ≡ (may p el kind && may q el kind)
