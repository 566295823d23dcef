-- Wrong answers behind small runs, each beside one that is allowed and differs from it in one thing. A core has a table at 0x1000,
-- whose first word leads to a table at 0x2000 with the words of two pages, and reads under ASID 1. They are this project's own.
use Rattle.std.specs.Prelude.{ℕ, ◌+◌, ◌*◌, ◌^◌, Bool, true, false, List, [], ◌∷◌, ◌++◌, pos, Some, None}
use Rattle.sysregs.specs.declared.regs.Reg.TheVariants.{SctlrEl1, TcrEl1, Ttbr0El1, HcrEl2, VtcrEl2, VttbrEl2}
use Rattle.sysregs.specs.declared.regs.Op.TheVariants.{Vae1, Ipas2le1}
use Rattle.permissions.specs.declared.bits.El.{El}
use Rattle.permissions.specs.declared.bits.El.TheVariants.{El0, El1}
use Rattle.permissions.specs.declared.bits.Kind.TheVariants.{Read}
use Rattle.permissions.specs.Rights.{perms_of}
use Rattle.attributes.specs.declared.kinds.Device.TheVariants.{NGnRnE}
use Rattle.attributes.specs.declared.kinds.MemType.TheVariants.{Device}
use Rattle.attributes.specs.declared.kinds.Share.TheVariants.{Osh}
use Rattle.fault_codes.specs.declared.fault.Class.{Class}
use Rattle.fault_codes.specs.declared.fault.Class.TheVariants.{Translation, Permission}
use Rattle.fault_codes.specs.declared.fault.Stage.TheVariants.{S1, S2}
use Rattle.trails.specs.declared.item.Item.{Item}
use Rattle.trails.specs.declared.item.What.TheVariants.{Base, Word}
use Rattle.trails.specs.declared.outcome.Access.{Access}
use Rattle.trails.specs.declared.outcome.Outcome.{Outcome}
use Rattle.trails.specs.declared.outcome.Outcome.TheVariants.{Mapped, Faulted, Conflict}
use Rattle.trails.specs.declared.event.Barrier.TheVariants.{Nsh, Ish}
use Rattle.trails.specs.declared.event.Origin.TheVariants.{El1 as FromEl1, El2 as FromEl2}
use Rattle.trails.specs.declared.event.Event.{Event}
use Rattle.trails.specs.declared.event.Event.TheVariants.{Store, Msr, Isb, Tlbi, Dsb, Access as AccessOf}
use Rattle.trails.specs.declared.step.Answer.{Answer}
use Rattle.trace_lang.specs.declared.header.Size.TheVariants.{Small}
use Rattle.trace_lang.specs.declared.header.Policy.TheVariants.{Fifo}
use Rattle.machine_spec.specs.Header.{Header}
use Rattle.machine_spec.specs.Allowed.{IsAllowed}
use Rattle.machine_spec.specs.Machine.{run_of}

-- two cores with small caches
abbrev pub two_cores : Header
two_cores = record { cores = 2; ranges = (0, 0x20000) ∷ []; size = Small; policy = Fifo }

-- the words of the pages: rights of EL1 alone, and global or not
abbrev pub global_page : ℕ
global_page = 0x10403

abbrev pub asid_page : ℕ
asid_page = 0x10c03

abbrev pub other_page : ℕ
other_page = 0x11c03

-- the base with an ASID above it
abbrev pub base_of : (asid : ℕ) → ℕ
base_of asid = asid * 2 ^ 48 + 0x1000

-- a read of one of the two pages
abbrev pub read : (el : El) (page : ℕ) → Access
read el page = record { va = page * 0x1000; el = el; kind = Read; pan = false }

-- Seven events: both tables, of which the first page has this word, and registers in force. Then, at moment 7, the first page is read.
abbrev pub read_once : (word : ℕ) → List Event
read_once word =
    Store 0 0x1000 0x2003 ∷ Store 0 0x2000 word ∷ Store 0 0x2008 other_page ∷ Msr 0 TcrEl1 0x27 ∷ Msr 0 Ttbr0El1 (base_of 1) ∷
    Msr 0 SctlrEl1 1 ∷ Isb 0 ∷ AccessOf 0 (read El1 0) ∷ []

-- an invalidation of one of the pages for ASID 1, by a core
abbrev pub page_gone : (core page : ℕ) (shared : Bool) → Event
page_gone core page shared = Tlbi core FromEl1 Vae1 shared (2 ^ 48 + page)

-- the base, the table and the leaf of a page, each with its moment
abbrev pub item : (level place value moment : ℕ) → Item
item level place value k = record { stage = S1; level = pos level; what = Word; pa = place; value = value; moment = k }

abbrev pub front : (base_read table_read : ℕ) → List Item
front b t = record { stage = S1; level = pos 2; what = Base; pa = 0x1000; value = 0x1000; moment = b } ∷ item 2 0x1000 0x2003 t ∷ []

abbrev pub trail : (base_read table_read leaf_read page word : ℕ) → List Item
trail b t l page word = front b t ++ item 3 (0x2000 + page * 8) word l ∷ []

-- a translation by a page that EL1 alone may read
abbrev pub to : (place : ℕ) → Outcome
to p = Mapped p (perms_of record { r0 = false; w0 = false; x0 = true; r1 = true; w1 = true; x1 = true }) (Device NGnRnE) Osh

-- a fault of the last level
abbrev pub fault : (class : Class) → Outcome
fault class = Faulted record { stage = S1; level = pos 3; class = class; s1ptw = false }

-- an answer under an ASID, old or not, of a trail on which nothing has changed since
abbrev pub told : (asid : ℕ) (outcome : Outcome) (old : Bool) (items : List Item) → Answer
told asid o old items = record { asid = asid; vmid = 0; outcome = o; first = items; second = None; old = old; stale = false; evicted = 0 }

-- an answer of core 0 behind these events is allowed
abbrev pub Allows : (events : List Event) (access : Access) (answer : Answer) → Type 0
Allows events a r = IsAllowed two_cores (run_of two_cores events) record { event = AccessOf 0 a; answer = Some r }

-- it isn't
abbrev pub Refuses : (events : List Event) (access : Access) (answer : Answer) → Type 0
Refuses events a r = Allows events a r → ⊥

-- A leaf that isn't global serves no other ASID, and neither does a table; a global leaf does.
abbrev pub under_asid_2 : (word : ℕ) → List Event
under_asid_2 word = read_once word ++ Msr 0 Ttbr0El1 (base_of 2) ∷ Isb 0 ∷ []

pub record LeavesOfTheirAsid : Type 0 where
  pub wrong : Refuses (under_asid_2 asid_page) (read El1 0) (told 2 (to 0x10000) true (trail 7 7 7 0 asid_page))
  pub right : Allows (under_asid_2 global_page) (read El1 0) (told 2 (to 0x10000) true (trail 7 7 7 0 global_page))
  pub wrong_table : Refuses (under_asid_2 asid_page) (read El1 1) (told 2 (to 0x11000) true (trail 7 7 10 1 other_page))

-- the first page's old translation
abbrev pub old_page : Answer
old_page = told 1 (to 0x10000) true (trail 7 7 7 0 asid_page)

-- A leaf isn't relied on once a covering invalidation is complete, and is until then. One of another core is complete by the DSB ISH
-- of that core.
pub record LeavesUpToTheirEnd : Type 0 where
  pub wrong : Refuses (read_once asid_page ++ page_gone 0 0 false ∷ Dsb 0 Nsh ∷ []) (read El1 0) old_page
  pub right : Allows (read_once asid_page ++ page_gone 0 0 false ∷ []) (read El1 0) old_page
  pub wrong_of_another : Refuses (read_once asid_page ++ page_gone 1 0 true ∷ Dsb 1 Ish ∷ []) (read El1 0) old_page
  pub right_of_another : Allows (read_once asid_page ++ page_gone 1 0 true ∷ Dsb 0 Ish ∷ []) (read El1 0) old_page

-- A table is relied on up to the read of the next descriptor. An invalidation of the other page covers it and not the leaf: complete
-- behind that read it doesn't matter, and complete before it the table may not be used.
abbrev pub other_gone : List Event
other_gone = read_once asid_page ++ page_gone 0 1 false ∷ Dsb 0 Nsh ∷ []

pub record TablesUpToTheirUse : Type 0 where
  pub right : Allows other_gone (read El1 0) old_page
  pub wrong : Refuses other_gone (read El1 1) (told 1 (to 0x11000) true (trail 7 7 10 1 other_page))

-- The same below a stage 2: its table at 0x8000 leads to a table at 0x9000 with a leaf for each page of stage 1's tables and for both
-- pages. Fifteen events, and the first page is read at moment 15.
abbrev pub read_below : List Event
read_below =
    Store 0 0x1000 0x2003 ∷ Store 0 0x2000 asid_page ∷ Store 0 0x2008 other_page ∷ Store 0 0x8000 0x9003 ∷ Store 0 0x9008 0x14ff ∷
    Store 0 0x9010 0x24ff ∷ Store 0 0x9080 0x104ff ∷ Store 0 0x9088 0x114ff ∷ Msr 0 TcrEl1 0x27 ∷ Msr 0 Ttbr0El1 (base_of 1) ∷
    Msr 0 VtcrEl2 0x27 ∷ Msr 0 VttbrEl2 0x8000 ∷ Msr 0 HcrEl2 1 ∷ Msr 0 SctlrEl1 1 ∷ Isb 0 ∷ AccessOf 0 (read El1 0) ∷ []

-- the chain of stage 2 to a leaf, with the moments of its front and of the leaf
abbrev pub chain : (read_front read_leaf page : ℕ) → List Item
chain k l page =
    record { stage = S2; level = pos 2; what = Base; pa = 0x8000; value = 0x8000; moment = k }
    ∷ record { stage = S2; level = pos 2; what = Word; pa = 0x8000; value = 0x9003; moment = k }
    ∷ record { stage = S2; level = pos 3; what = Word; pa = 0x9000 + page * 8; value = page * 0x1000 + 0x4ff; moment = l } ∷ []

-- the trail of a page, all of moment 15 but for the leaves of stage 1 and of its output
abbrev pub trail_below : (read_leaf page word : ℕ) → List Item
trail_below l page word =
    record { stage = S1; level = pos 2; what = Base; pa = 0x1000; value = 0x1000; moment = 15 }
    ∷ chain 15 15 1 ++ item 2 0x1000 0x2003 15
    ∷ chain 15 15 2 ++ item 3 (0x2000 + page * 8) word l ∷ chain 15 l (0x10 + page)

-- an invalidation of the stage 2 leaf of the second table
abbrev pub leaf2_gone : Event
leaf2_gone = Tlbi 0 FromEl2 Ipas2le1 false 2

-- A chain of stage 2 is relied on up to the read of the stage 1 word that it led to. Behind that read an invalidation of its leaf
-- doesn't matter, and complete before it the leaf may not be used.
pub record ChainsUpToTheirUse : Type 0 where
  pub right : Allows (read_below ++ leaf2_gone ∷ Dsb 0 Nsh ∷ []) (read El1 0) (told 1 (to 0x10000) true (trail_below 15 0 asid_page))
  pub right_before : Allows (read_below ++ leaf2_gone ∷ []) (read El1 1) (told 1 (to 0x11000) true (trail_below 17 1 other_page))
  pub wrong : Refuses (read_below ++ leaf2_gone ∷ Dsb 0 Nsh ∷ []) (read El1 1) (told 1 (to 0x11000) true (trail_below 18 1 other_page))

-- A base is of the moment at which the first word behind it was read: not later, and not earlier.
pub record BasesOfTheirWord : Type 0 where
  pub right : Allows (read_once asid_page) (read El1 1) (told 1 (to 0x11000) true (trail 7 7 8 1 other_page))
  pub later : Refuses (read_once asid_page) (read El1 1) (told 1 (to 0x11000) true (trail 8 7 8 1 other_page))
  pub earlier : Refuses (read_once asid_page) (read El1 1) (told 1 (to 0x11000) true (trail 7 8 8 1 other_page))

-- A word that gives a translation fault is read now, and an old leaf may give a permission fault.
pub record FaultsOfNow : Type 0 where
  pub right : Allows (read_once 0) (read El1 0) (told 1 (fault Translation) true (trail 7 7 8 0 0))
  pub wrong : Refuses (read_once 0) (read El1 0) (told 1 (fault Translation) true (trail 7 7 7 0 0))
  pub old_leaf : Allows (read_once asid_page) (read El0 0) (told 1 (fault Permission) true (trail 7 7 7 0 asid_page))

-- Each access is judged, whatever the row that serves it was made for.
pub record AccessesAreJudged : Type 0 where
  pub right : Allows (read_once asid_page) (read El1 0) old_page
  pub wrong : Refuses (read_once asid_page) (read El0 0) old_page

-- A conflict isn't of a trail that ends before its leaf.
abbrev pub conflict : (first second : List Item) → Answer
conflict first second = record (told 1 Conflict true first) { second = Some second }

pub record ConflictsOfLeaves : Type 0 where
  pub first : Refuses (read_once asid_page) (read El1 0) (conflict (front 7 7) (trail 7 7 7 0 asid_page))
  pub second : Refuses (read_once asid_page) (read El1 0) (conflict (trail 7 7 7 0 asid_page) (front 7 7))

-- All of them.
pub record WrongAnswersAreRefused : Type 0 where
  pub asid : LeavesOfTheirAsid
  pub leaves : LeavesUpToTheirEnd
  pub tables : TablesUpToTheirUse
  pub chains : ChainsUpToTheirUse
  pub bases : BasesOfTheirWord
  pub faults : FaultsOfNow
  pub judged : AccessesAreJudged
  pub conflicts : ConflictsOfLeaves
