-- Words for worked walks: memories, registers, accesses, items and outcomes; and what the checker unfolds to compute them.
use Rattle.std.proofs.Common.{◌≡◌, ℕ, ◌+◌, List, [], ◌∷◌, Bool, false, true, pos}
use Rattle.std.specs.Prelude.{⊤, Some, None, ◌==◌, ◌||◌, nat_le, if◌then◌else◌, codes}
use Prim.Native.String.{String}
use Rattle.sysregs.specs.declared.regs.Regs.{Regs}
use Rattle.sysregs.specs.Registers.{zero_regs, config_of}
use Rattle.sysregs.specs.Sides.{side_of}
use Rattle.permissions.specs.declared.bits.El.{El}
use Rattle.permissions.specs.declared.bits.El.TheVariants.{El1}
use Rattle.permissions.specs.declared.bits.Kind.{Kind}
use Rattle.permissions.specs.declared.bits.Kind.TheVariants.{Read}
use Rattle.permissions.specs.declared.set.Perms.{Perms}
use Rattle.permissions.specs.Rights.{perms_of, has, is_allowed1, is_allowed2}
use Rattle.attributes.specs.declared.kinds.Cache.{Cache}
use Rattle.attributes.specs.declared.kinds.Cache.TheVariants.{Wt, Wb}
use Rattle.attributes.specs.declared.kinds.MemType.{MemType}
use Rattle.attributes.specs.declared.kinds.MemType.TheVariants.{Normal}
use Rattle.attributes.specs.declared.kinds.Share.{Share}
use Rattle.fault_codes.specs.declared.fault.Stage.{Stage}
use Rattle.fault_codes.specs.declared.fault.Stage.TheVariants.{S1, S2}
use Rattle.fault_codes.specs.declared.fault.Class.{Class}
use Rattle.descriptors.specs.Meaning.{means1_of, means2_of}
use Rattle.trails.specs.declared.item.Item.{Item}
use Rattle.trails.specs.declared.item.What.TheVariants.{Base, Word}
use Rattle.trails.specs.declared.outcome.Access.{Access}
use Rattle.trails.specs.declared.outcome.Outcome.{Outcome}
use Rattle.trails.specs.declared.outcome.Outcome.TheVariants.{Faulted, Absent}
use Rattle.table_reads.specs.Numbers.{sizes1, sizes2}
use Rattle.table_reads.specs.Places.{place_of}
use Rattle.table_reads.specs.Memory.{Memory}
use Rattle.walk_spec.specs.Ask.{Stands, on, needs, ends}
use Rattle.walk_spec.specs.Needs.{Need, word, regime_of, fits}
use Rattle.walk_spec.specs.Steps.{End, reaches}
use Rattle.walk_spec.specs.Stage2.{step2, is_refused2}
use Rattle.walk_spec.specs.Stage1.{step1}
use Rattle.walk_spec.specs.BothStages.{Landing, is_refused1, walk}
use Rattle.walk_spec.specs.Fresh.{fresh_items, fresh_outcome}

-- what unfolds where a walk of written-out registers and words is computed
unfoldable pub on_worked_walks : ⊤
unfolding sizes1 sizes2 fits means1_of means2_of place_of step1 step2 is_refused1 is_refused2 has is_allowed1 is_allowed2 perms_of
on_worked_walks = tt

abbrev pub value_at : List (ℕ × ℕ) → ℕ → ℕ
value_at [] p = 0
value_at (w ∷ words) p = if w.0 == p then w.1 else value_at words p

-- memory of so many bytes, all 0 but for the words of a list
abbrev pub image : ℕ → List (ℕ × ℕ) → Memory
image size words p = if nat_le (p + 8) size then Some (value_at words p) else None

-- memory of the words of a list alone
abbrev pub words_at : List (ℕ × ℕ) → Memory
words_at [] p = None
words_at (w ∷ words) p = if w.0 == p then Some w.1 else words_at words p

-- four tables of 4 KB that lead to the last level's word for the page at 0x40201000
abbrev pub tables : ℕ → List (ℕ × ℕ)
tables last = (0x1000, 0x2003) ∷ (0x2008, 0x3003) ∷ (0x3008, 0x4003) ∷ (0x4008, last) ∷ []

-- stage 1 alone, with MAIR_EL1 0
abbrev pub stage1_regs : ℕ → ℕ → Regs
stage1_regs tcr ttbr0 = record zero_regs { sctlr_el1 = 1; tcr_el1 = tcr; ttbr0_el1 = ttbr0 }

-- 48 bits and 4 KB on both sides, IPS 48 bits, A1, AS and TBI0
abbrev pub user_regs : Regs
user_regs = record zero_regs { sctlr_el1 = 0x1005; tcr_el1 = 0x35b5503510; ttbr0_el1 = 0x1000; ttbr1_el1 = 0x1234000000001000; mair_el1 = 0x40044ffff }

-- stage 2 alone
abbrev pub stage2_regs : ℕ → ℕ → Regs
stage2_regs vtcr vttbr = record zero_regs { hcr_el2 = 1; vtcr_el2 = vtcr; vttbr_el2 = vttbr }

-- stage 1 alone, with one table of 4 KB pages and 48 bits of output
abbrev pub page_regs : Regs
page_regs = stage1_regs 0x50000002b 0x1000

-- the same below a stage 2 of one table at 0x8000
abbrev pub nested_regs : Regs
nested_regs = record page_regs { hcr_el2 = 1; vtcr_el2 = 0x500eb; vttbr_el2 = 0x8000 }

abbrev pub access : ℕ → El → Kind → Bool → Access
access va el kind pan = record { va = va; el = el; kind = kind; pan = pan }

abbrev pub kernel_read : ℕ → Access
kernel_read va = access va El1 Read false

abbrev pub base : Stage → ℕ → ℕ → Item
base s level p = record { stage = s; level = pos level; what = Base; pa = p; value = p; moment = 0 }

abbrev pub item : Stage → ℕ → ℕ → ℕ → Item
item s level p v = record { stage = s; level = pos level; what = Word; pa = p; value = v; moment = 0 }

-- the items of words that are read in turn, each a level below the one before
abbrev pub descending : Stage → ℕ → List (ℕ × ℕ) → List Item
descending s level [] = []
descending s level (w ∷ words) = item s level w.0 w.1 ∷ descending s (level + 1) words

-- the items of one stage: its base, and then the words
abbrev pub descent : Stage → ℕ → ℕ → List (ℕ × ℕ) → List Item
descent s level p words = base s level p ∷ descending s level words

-- the items of a stage 2 of one table at 0x8000
abbrev pub one_page : ℕ → ℕ → List Item
one_page p v = descent S2 3 0x8000 ((p, v) ∷ [])

-- a letter stands in a text
abbrev pub shows : ℕ → List ℕ → Bool
shows letter [] = false
shows letter (c ∷ text) = c == letter || shows letter text

-- rights of EL0 and then of EL1, written as r, w and x with a dash for each that lacks
abbrev pub rights : String → String → Perms
rights el0 el1 =
    let a = codes el0 in
    let b = codes el1 in
    perms_of record { r0 = shows 114 a; w0 = shows 119 a; x0 = shows 120 a; r1 = shows 114 b; w1 = shows 119 b; x1 = shows 120 b }

-- write-back with hints: r and w for allocation, t for transient
abbrev pub wb : String → Cache
wb hints = let h = codes hints in Wb (shows 116 h) (shows 114 h) (shows 119 h)

-- write-through with hints
abbrev pub wt : String → Cache
wt hints = let h = codes hints in Wt (shows 116 h) (shows 114 h) (shows 119 h)

-- Normal memory that isn't tagged
abbrev pub normal : Cache → Cache → MemType
normal outer inner = Normal outer inner false

abbrev pub fault : Stage → ℕ → Class → Outcome
fault s level class = Faulted record { stage = s; level = pos level; class = class; s1ptw = false }

-- a fault of stage 2 for the place of a stage 1 descriptor
abbrev pub descriptor_fault : ℕ → Class → Outcome
descriptor_fault level class = Faulted record { stage = S2; level = pos level; class = class; s1ptw = true }

abbrev pub absent : Stage → ℕ → ℕ → Outcome
absent s level p = Absent s (pos level) p false

-- a stage 2 word that memory lacks, for the place of a stage 1 descriptor
abbrev pub descriptor_absent : ℕ → ℕ → Outcome
descriptor_absent level p = Absent S2 (pos level) p true

-- items and outcome of the fresh walk
abbrev pub Comes : Regs → Memory → Access → List Item → Outcome → Type 0
Comes regs m a read o = (fresh_items m regs a 0 ≡ read) × (fresh_outcome m regs a 0 ≡ o)

-- the same where stage 1 alone reads all words of the memory in turn, from a start level and a base
abbrev pub Comes1 : Regs → Access → ℕ → ℕ → List (ℕ × ℕ) → Outcome → Type 0
Comes1 regs a level p words o = Comes regs (words_at words) a (descent S1 level p words) o

-- and where stage 2 alone does
abbrev pub Comes2 : Regs → Access → ℕ → ℕ → List (ℕ × ℕ) → Outcome → Type 0
Comes2 regs a level p words o = Comes regs (words_at words) a (descent S2 level p words) o

-- how the walk of a read at EL1 stands on given items
abbrev pub stands : Regs → ℕ → List Item → Stands Need Item (End Landing)
stands regs va list = on (fits (regime_of (config_of regs) (side_of va))) (walk (config_of regs) true (kernel_read va)) list

-- it ends at a leaf of this class, and took all items
abbrev pub lands : ℕ → ℕ → Perms → MemType → Share → Stands Need Item (End Landing)
lands class p perms mem sh = ends (reaches record { class = class; pa = p; perms = perms; mem = mem; sh = sh }) []

-- it needs one more word, with so many levels left, at a place in a table, for an address
abbrev pub wants_word : Stage → ℕ → ℕ → ℕ → ℕ → Stands Need Item (End Landing)
wants_word s left p table x = needs (word record { stage = s; left = left; place = p; s1ptw = false; address = x; table = table })
