-- The line of an access that is mapped. Its form is this project's own rule.
use Rattle.std.specs.Prelude.{ℕ, List, [], ◌∷◌, ◌++◌, Bool, if◌then◌else◌, codes}
use Rattle.permissions.specs.Rights.{has, needed}
use Rattle.permissions.specs.declared.set.Perms.{Perms}
use Rattle.permissions.specs.declared.bits.El.{El}
use Rattle.permissions.specs.declared.bits.El.TheVariants.{El0, El1}
use Rattle.permissions.specs.declared.bits.Kind.TheVariants.{Read, Write, Fetch}
use Rattle.attributes.specs.declared.kinds.Cache.{Cache}
use Rattle.attributes.specs.declared.kinds.Cache.TheVariants.{Nc, Wt, Wb}
use Rattle.attributes.specs.declared.kinds.Device.{Device}
use Rattle.attributes.specs.declared.kinds.Device.TheVariants.{NGnRnE, NGnRE, NGRE, GRE}
use Rattle.attributes.specs.declared.kinds.MemType.{MemType}
use Rattle.attributes.specs.declared.kinds.MemType.TheVariants.{Device as AsDevice, Normal}
use Rattle.attributes.specs.declared.kinds.Share.{Share}
use Rattle.attributes.specs.declared.kinds.Share.TheVariants.{Nsh, Ish, Osh}
use Rattle.texts.specs.Texts.{joined_text, hex_text}
use Rattle.explain_text.specs.Texts.{shown_if}

-- a right by its letter, or `-`
abbrev pub right_text : (given : Bool) (letter : List ℕ) → List ℕ
right_text given letter = if given then letter else codes "-"

-- rights to read, write and fetch
abbrev pub letters_text : (read write fetch : Bool) → List ℕ
letters_text read write fetch = joined_text (right_text read (codes "r") ∷ right_text write (codes "w") ∷ right_text fetch (codes "x") ∷ [])

-- the rights of an exception level
abbrev pub rights_text : (perms : Perms) (el : El) → List ℕ
rights_text p el = letters_text (has p (needed el Read)) (has p (needed el Write)) (has p (needed el Fetch))

-- allocation hints: read, write and transient
abbrev pub hints_text : (transient read write : Bool) → List ℕ
hints_text transient read write =
    joined_text (shown_if read (codes "+r") ∷ shown_if write (codes "+w") ∷ shown_if transient (codes "+t") ∷ [])

-- how Normal memory is cached at one level
abbrev pub cache_text : (cache : Cache) → List ℕ
cache_text Nc = codes "nc"
cache_text (Wt transient read write) = codes "wt" ++ hints_text transient read write
cache_text (Wb transient read write) = codes "wb" ++ hints_text transient read write

-- a kind of Device memory
abbrev pub device_text : (kind : Device) → List ℕ
device_text NGnRnE = codes "device-nGnRnE"
device_text NGnRE = codes "device-nGnRE"
device_text NGRE = codes "device-nGRE"
device_text GRE = codes "device-GRE"

-- Normal memory
abbrev pub normal_text : (outer inner : Cache) (tagged : Bool) → List ℕ
normal_text outer inner tagged =
    joined_text (codes "normal outer " ∷ cache_text outer ∷ codes " inner " ∷ cache_text inner ∷ shown_if tagged (codes " tagged") ∷ [])

-- a memory type
abbrev pub mem_text : (mem : MemType) → List ℕ
mem_text (AsDevice kind) = device_text kind
mem_text (Normal outer inner tagged) = normal_text outer inner tagged

-- a shareability
abbrev pub share_text : (share : Share) → List ℕ
share_text Nsh = codes "nsh"
share_text Ish = codes "ish"
share_text Osh = codes "osh"

-- the line of an access that is mapped: where it goes, the rights there, the memory type and the shareability
abbrev pub mapped_text : (pa : ℕ) (perms : Perms) (mem : MemType) (share : Share) → List ℕ
mapped_text pa p mem share =
    joined_text
    (codes "mapped " ∷ hex_text pa ∷ codes " el0 " ∷ rights_text p El0 ∷ codes " el1 " ∷ rights_text p El1 ∷
    codes " " ∷ mem_text mem ∷ codes " " ∷ share_text share ∷ codes "\n" ∷ [])
