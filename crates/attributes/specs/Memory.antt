-- Memory types and shareability (DDI 0487, MAIR_EL1, the stage 2 memory attributes, and their combination).
use Rattle.std.specs.Prelude.{ℕ, ◌*◌, ◌/◌, ◌%◌, ◌^◌, Bool, true, false, ◌==◌, ◌&&◌, nat_lt, Option, Some, None, if◌then◌else◌}
use Rattle.bitwords.specs.Fields.{bit}
use Rattle.attributes.specs.declared.kinds.Cache.{Cache}
use Rattle.attributes.specs.declared.kinds.Cache.TheVariants.{Nc, Wt, Wb}
use Rattle.attributes.specs.declared.kinds.Device.{Device}
use Rattle.attributes.specs.declared.kinds.Device.TheVariants.{NGnRnE, NGnRE, NGRE, GRE}
use Rattle.attributes.specs.declared.kinds.MemType.{MemType}
use Rattle.attributes.specs.declared.kinds.MemType.TheVariants.{Device as AsDevice, Normal}
use Rattle.attributes.specs.declared.kinds.Share.{Share}
use Rattle.attributes.specs.declared.kinds.Share.TheVariants.{Nsh, Ish, Osh}

-- the two bits that name a kind of Device memory
abbrev pub device_of : (code : ℕ) → Device
device_of code = if code == 0 then NGnRnE else (if code == 1 then NGnRE else (if code == 2 then NGRE else GRE))

-- half a byte of MAIR_EL1: 0100 Non-cacheable, 00RW and 10RW write-through, 01RW and 11RW write-back, 0xRW transient
abbrev pub cache_of : (code : ℕ) → Option Cache
cache_of code =
    let read = bit code 1 in
    let write = bit code 0 in
    if code == 0 then None
    else (if code == 4 then Some Nc
    else (if nat_lt code 4 then Some (Wt true read write)
    else (if nat_lt code 8 then Some (Wb true read write)
    else (if nat_lt code 12 then Some (Wt false read write) else Some (Wb false read write)))))

-- reserved bytes are Device-nGnRnE (this project's own rule)
abbrev pub normal_of : (outer inner : Option Cache) → MemType
normal_of (Some outer) (Some inner) = Normal outer inner false
normal_of (Some outer) None = AsDevice NGnRnE
normal_of None inner = AsDevice NGnRnE

-- a byte of MAIR_EL1: 0000dd00 is Device, 0xf0 is tagged, else the halves are the outer and the inner cacheability
abbrev pub mair_of : (byte : ℕ) → MemType
mair_of byte =
    if byte / 16 == 0 && byte % 4 == 0 then AsDevice (device_of (byte / 4))
    else (if byte == 0xf0 then Normal (Wb false true true) (Wb false true true) true else normal_of (cache_of (byte / 16)) (cache_of (byte % 16)))

-- the byte that AttrIndx names
abbrev pub attr_byte : (mair index : ℕ) → ℕ
attr_byte mair index = mair / 2 ^ (8 * index) % 256

-- two bits of a stage 2 MemAttr, without hints; inner 00 is read as Non-cacheable (this project's own rule)
abbrev pub cache2_of : (code : ℕ) → Cache
cache2_of code = if code == 3 then Wb false false false else (if code == 2 then Wt false false false else Nc)

-- a stage 2 MemAttr[3:0]: 00dd is Device, else outer and inner
abbrev pub s2_attr_of : (code : ℕ) → MemType
s2_attr_of code = if code / 4 == 0 then AsDevice (device_of code) else Normal (cache2_of (code / 4)) (cache2_of (code % 4)) false

-- SH[1:0]; 01 is read as Non-shareable (this project's own rule)
abbrev pub share_of : (code : ℕ) → Share
share_of code = if code == 2 then Osh else (if code == 3 then Ish else Nsh)

-- the stronger of two kinds of Device memory
abbrev pub stronger : (one other : Device) → Device
stronger NGnRnE b = NGnRnE
stronger NGnRE NGnRnE = NGnRnE
stronger NGnRE b = NGnRE
stronger NGRE NGnRnE = NGnRnE
stronger NGRE NGnRE = NGnRE
stronger NGRE b = NGRE
stronger GRE b = b

-- the weaker of two cacheabilities, with the hints of stage 1, the first
abbrev pub weaker : (cache1 cache2 : Cache) → Cache
weaker Nc b = Nc
weaker (Wt t r w) Nc = Nc
weaker (Wt t r w) b = Wt t r w
weaker (Wb t r w) Nc = Nc
weaker (Wb t r w) (Wt _ _ _) = Wt t r w
weaker (Wb t r w) (Wb _ _ _) = Wb t r w

-- a cacheability is write-back
abbrev pub is_write_back : (cache : Cache) → Bool
is_write_back Nc = false
is_write_back (Wt _ _ _) = false
is_write_back (Wb _ _ _) = true

-- tagged stays only where both cacheabilities stay write-back (this project's own rule)
abbrev pub still_tagged : (outer inner : Cache) (tagged : Bool) → MemType
still_tagged outer inner tagged = Normal outer inner (tagged && is_write_back outer && is_write_back inner)

-- the types of both stages: Device wins
abbrev pub type_of_both : (type1 type2 : MemType) → MemType
type_of_both (AsDevice a) (AsDevice b) = AsDevice (stronger a b)
type_of_both (AsDevice a) (Normal _ _ _) = AsDevice a
type_of_both (Normal _ _ _) (AsDevice b) = AsDevice b
type_of_both (Normal outer inner tagged) (Normal outer' inner' _) = still_tagged (weaker outer outer') (weaker inner inner') tagged

-- the wider shareability of both stages
abbrev pub wider : (one other : Share) → Share
wider Osh b = Osh
wider Ish Osh = Osh
wider Ish b = Ish
wider Nsh b = b

-- Device and wholly Non-cacheable memory is Outer Shareable
abbrev pub raised : (mem : MemType) (share : Share) → Share
raised (AsDevice _) s = Osh
raised (Normal Nc Nc _) s = Osh
raised (Normal _ _ _) s = s

-- memory is Device
abbrev pub is_device : (mem : MemType) → Bool
is_device (AsDevice _) = true
is_device (Normal _ _ _) = false

-- type and shareability of both stages together
abbrev pub combined : (type1 : MemType) (share1 : Share) (type2 : MemType) (share2 : Share) → MemType × Share
combined m1 s1 m2 s2 = let m = type_of_both m1 m2 in (m, raised m (wider s1 s2))

-- type and shareability of one stage alone
abbrev pub alone : (mem : MemType) (share : Share) → MemType × Share
alone m s = (m, raised m s)

-- stage 1 off: data is Device-nGnRnE; a fetch is write-through with read allocation where SCTLR_EL1.I is 1 (this
-- project's own rule), else Non-cacheable
abbrev pub off_type : (fetch cached : Bool) → MemType
off_type fetch cached = if fetch then (if cached then Normal (Wt false true false) (Wt false true false) false else Normal Nc Nc false) else AsDevice NGnRnE
