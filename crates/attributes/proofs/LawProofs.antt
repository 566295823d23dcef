-- The laws, by cases on both types.
use Rattle.std.proofs.Common.{◌≡◌, ◌/◌, ◌%◌, Bool, true, false, cond, Option, Some, None, eqb, arith}
use Rattle.std.specs.Prelude.{◌&&◌}
use Rattle.std.proofs.lemmas.Grind.{common_steps}
use Rattle.attributes.specs.Memory.{cache_of, device_of, normal_of, s2_attr_of, combined, alone}
use Rattle.attributes.specs.Laws.{WeakerCacheability, StrongerDevice, HintsOfStage1, TaggedWriteBack}
use Rattle.attributes.specs.Laws.{UncachedIsOuterShareable, CachedIsWider, WriteBackLeavesStage1}
use Rattle.attributes.specs.declared.kinds.Cache.{Cache}
use Rattle.attributes.specs.declared.kinds.Cache.TheVariants.{Wb}
use Rattle.attributes.specs.declared.kinds.Device.{Device}
use Rattle.attributes.specs.declared.kinds.Device.TheVariants.{NGnRnE}
use Rattle.attributes.specs.declared.kinds.MemType.{MemType}
use Rattle.attributes.specs.declared.kinds.MemType.TheVariants.{Device as AsDevice, Normal}
use Rattle.attributes.specs.declared.kinds.Share.{Share}
use Rattle.attributes.specs.declared.kinds.Share.TheVariants.{Nsh}

pub weaker_of_both : WeakerCacheability
weaker_of_both m1 m2 s1 s2 = grind (arith, common_steps)

pub stronger_of_both : StrongerDevice
stronger_of_both m1 m2 s1 s2 = grind (arith, common_steps)

pub hints_of_both : HintsOfStage1
hints_of_both m1 m2 s1 s2 = grind (arith, common_steps)

pub tagged_of_both : TaggedWriteBack
tagged_of_both m1 m2 s1 s2 = grind (arith, common_steps)

pub uncached : UncachedIsOuterShareable
uncached m1 m2 s1 s2 a b = grind (arith, common_steps)

pub cached : CachedIsWider
cached m1 m2 s1 s2 a = grind (arith, common_steps)

abbrev Left : Share → MemType → Type 0
Left s m = combined m s (s2_attr_of 15) Nsh ≡ alone m s

left_device : (d : Device) → (s : Share) → Left s (AsDevice d)
left_device d s = grind (arith, common_steps)

left_untagged : (outer inner : Cache) → (s : Share) → Left s (Normal outer inner false)
left_untagged outer inner s = grind (arith, common_steps)

left_normal : (outer inner : Option Cache) → (s : Share) → Left s (normal_of outer inner)
left_normal (Some outer) (Some inner) s = left_untagged outer inner s
left_normal (Some outer) None s = left_device NGnRnE s
left_normal None inner s = left_device NGnRnE s

left_tagged : (s : Share) → Left s (Normal (Wb false true true) (Wb false true true) true)
left_tagged s = grind (arith, common_steps)

either : (b : Bool) → (m n : MemType) → (s : Share) → Left s m → Left s n → Left s (cond b m n)
either true m n s a b = a
either false m n s a b = b

pub left_alone : WriteBackLeavesStage1
left_alone byte s =
    let normal = normal_of (cache_of (byte / 16)) (cache_of (byte % 16)) in
    let tagged = Normal (Wb false true true) (Wb false true true) true in
    let device = device_of (byte / 4) in
    either (eqb (byte / 16) 0 && eqb (byte % 4) 0) (AsDevice device) (cond (eqb byte 0xf0) tagged normal) s (left_device device s)
    (either (eqb byte 0xf0) tagged normal s (left_tagged s) (left_normal (cache_of (byte / 16)) (cache_of (byte % 16)) s))
