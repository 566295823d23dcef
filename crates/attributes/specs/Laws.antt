-- Laws of the combination of both stages' memory types (DDI 0487, combining stage 1 and stage 2 attributes).
use Rattle.std.specs.Prelude.{ℕ, ◌≡◌, ◌<◌, ◌≤◌, Bool, false, ◌&&◌, ◌==◌, min, max}
use Rattle.attributes.specs.Memory.{combined, alone, mair_of, s2_attr_of}
use Rattle.attributes.specs.declared.kinds.Cache.{Cache}
use Rattle.attributes.specs.declared.kinds.Cache.TheVariants.{Nc, Wt, Wb}
use Rattle.attributes.specs.declared.kinds.Device.{Device}
use Rattle.attributes.specs.declared.kinds.Device.TheVariants.{NGnRnE, NGnRE, NGRE, GRE}
use Rattle.attributes.specs.declared.kinds.MemType.{MemType}
use Rattle.attributes.specs.declared.kinds.MemType.TheVariants.{Device as AsDevice, Normal}
use Rattle.attributes.specs.declared.kinds.Share.{Share}
use Rattle.attributes.specs.declared.kinds.Share.TheVariants.{Nsh, Ish, Osh}

-- cacheability from the weakest up
abbrev pub cache_rank : (cache : Cache) → ℕ
cache_rank Nc = 1
cache_rank (Wt _ _ _) = 2
cache_rank (Wb _ _ _) = 3

-- the outer cacheability of a type, Device below all
abbrev pub outer_rank : (mem : MemType) → ℕ
outer_rank (AsDevice _) = 0
outer_rank (Normal outer _ _) = cache_rank outer

-- the inner cacheability of a type, Device below all
abbrev pub inner_rank : (mem : MemType) → ℕ
inner_rank (AsDevice _) = 0
inner_rank (Normal _ inner _) = cache_rank inner

-- how strong a kind of Device memory is, the strongest first
abbrev pub device_rank : (device : Device) → ℕ
device_rank NGnRnE = 0
device_rank NGnRE = 1
device_rank NGRE = 2
device_rank GRE = 3

-- the kinds of Device memory from the strongest up, and Normal memory above them
abbrev pub kind_rank : (mem : MemType) → ℕ
kind_rank (AsDevice kind) = device_rank kind
kind_rank (Normal _ _ _) = 4

-- Normal memory that is tagged
abbrev pub is_tagged : (mem : MemType) → Bool
is_tagged (AsDevice _) = false
is_tagged (Normal _ _ tagged) = tagged

-- shareability from the narrowest up
abbrev pub share_rank : (share : Share) → ℕ
share_rank Nsh = 0
share_rank Ish = 1
share_rank Osh = 2

-- transience, read allocation and write allocation
abbrev pub hints_of : (cache : Cache) → Bool × Bool × Bool
hints_of Nc = (false, false, false)
hints_of (Wt t r w) = (t, r, w)
hints_of (Wb t r w) = (t, r, w)

-- the hints of the outer cacheability
abbrev pub outer_hints : (mem : MemType) → Bool × Bool × Bool
outer_hints (AsDevice _) = (false, false, false)
outer_hints (Normal outer _ _) = hints_of outer

-- the hints of the inner cacheability
abbrev pub inner_hints : (mem : MemType) → Bool × Bool × Bool
inner_hints (AsDevice _) = (false, false, false)
inner_hints (Normal _ inner _) = hints_of inner

-- the memory type that both stages give
abbrev pub mem_of : (type1 : MemType) (share1 : Share) (type2 : MemType) (share2 : Share) → MemType
mem_of m1 s1 m2 s2 = (combined m1 s1 m2 s2).0

-- the shareability that both stages give
abbrev pub sh_of : (type1 : MemType) (share1 : Share) (type2 : MemType) (share2 : Share) → Share
sh_of m1 s1 m2 s2 = (combined m1 s1 m2 s2).1

-- The outer and the inner cacheability are the weaker of both stages, and Device where either is Device.
abbrev pub WeakerCacheability : Type 0
WeakerCacheability =
    (m1 m2 : MemType) → (s1 s2 : Share) →
    (outer_rank (mem_of m1 s1 m2 s2) ≡ min (outer_rank m1) (outer_rank m2)) × (inner_rank (mem_of m1 s1 m2 s2) ≡ min (inner_rank m1) (inner_rank m2))

-- The kind of Device memory is the stronger of both stages, and Normal memory counts as weaker than all.
abbrev pub StrongerDevice : Type 0
StrongerDevice = (m1 m2 : MemType) → (s1 s2 : Share) → kind_rank (mem_of m1 s1 m2 s2) ≡ min (kind_rank m1) (kind_rank m2)

-- The hints are those of stage 1 wherever the memory is still cached.
abbrev pub HintsOfStage1 : Type 0
HintsOfStage1 =
    (m1 m2 : MemType) → (s1 s2 : Share) →
    (1 < outer_rank (mem_of m1 s1 m2 s2) → outer_hints (mem_of m1 s1 m2 s2) ≡ outer_hints m1) ×
    (1 < inner_rank (mem_of m1 s1 m2 s2) → inner_hints (mem_of m1 s1 m2 s2) ≡ inner_hints m1)

-- Memory is tagged exactly where stage 1 is tagged and both cacheabilities of the result are write-back.
abbrev pub TaggedWriteBack : Type 0
TaggedWriteBack =
    (m1 m2 : MemType) → (s1 s2 : Share) →
    is_tagged (mem_of m1 s1 m2 s2) ≡ (is_tagged m1 && outer_rank (mem_of m1 s1 m2 s2) == 3 && inner_rank (mem_of m1 s1 m2 s2) == 3)

-- Device memory and wholly Non-cacheable memory is Outer Shareable.
abbrev pub UncachedIsOuterShareable : Type 0
UncachedIsOuterShareable =
    (m1 m2 : MemType) → (s1 s2 : Share) →
    outer_rank (mem_of m1 s1 m2 s2) ≤ 1 → inner_rank (mem_of m1 s1 m2 s2) ≤ 1 → sh_of m1 s1 m2 s2 ≡ Osh

-- Other memory has the wider shareability of both stages.
abbrev pub CachedIsWider : Type 0
CachedIsWider =
    (m1 m2 : MemType) → (s1 s2 : Share) →
    1 < max (outer_rank (mem_of m1 s1 m2 s2)) (inner_rank (mem_of m1 s1 m2 s2)) → share_rank (sh_of m1 s1 m2 s2) ≡ max (share_rank s1) (share_rank s2)

-- A stage 2 that is write-back and Non-shareable leaves what stage 1 says.
abbrev pub WriteBackLeavesStage1 : Type 0
WriteBackLeavesStage1 = (byte : ℕ) → (s : Share) → combined (mair_of byte) s (s2_attr_of 15) Nsh ≡ alone (mair_of byte) s
