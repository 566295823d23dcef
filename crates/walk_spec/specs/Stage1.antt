-- Stage 1: from an address to a leaf, over the words of its tables (DDI 0487, AArch64.S1Translate and the stage 1 table
-- walk), and how each word is had.
use Rattle.std.specs.Prelude.{ℕ, ◌%◌, ◌^◌, zero, suc, Bool, true, false, not, ◌&&◌, ◌||◌, if◌then◌else◌, List, Result, Ok, Err}
use Rattle.geometry.specs.Tables.{level_of}
use Rattle.geometry.specs.Runs.{leaf_class, goes_to}
use Rattle.sysregs.specs.declared.regs.Config.{Config}
use Rattle.sysregs.specs.declared.regs.Side.{Side}
use Rattle.permissions.specs.declared.bits.El.TheVariants.{El1}
use Rattle.permissions.specs.declared.bits.Kind.TheVariants.{Read}
use Rattle.permissions.specs.Rights.{perms_of, rights1, joined, is_uxn, is_allowed1, is_allowed2}
use Rattle.attributes.specs.Memory.{mair_of, attr_byte, share_of, is_device}
use Rattle.fault_codes.specs.declared.fault.Stage.TheVariants.{S1, S2}
use Rattle.fault_codes.specs.declared.fault.Class.{Class}
use Rattle.fault_codes.specs.declared.fault.Class.TheVariants.{Translation, AddressSize, AccessFlag, Permission}
use Rattle.fault_codes.specs.declared.fault.Fault.{Fault}
use Rattle.descriptors.specs.declared.kinds.Kind1.{Kind1}
use Rattle.descriptors.specs.declared.kinds.Kind1.TheVariants.{Invalid, Table, Leaf}
use Rattle.descriptors.specs.Meaning.{means1_of}
use Rattle.trails.specs.declared.item.Item.{Item}
use Rattle.trails.specs.declared.outcome.Access.{Access}
use Rattle.table_reads.specs.declared.lead.Lead.{Lead}
use Rattle.table_reads.specs.declared.lead.Lead.TheVariants.{Down, Reached, Stopped}
use Rattle.table_reads.specs.Places.{place_of, is_too_large}
use Rattle.table_reads.specs.Items.{fault_at}
use Rattle.walk_spec.specs.declared.entry.Table1.{Table1}
use Rattle.walk_spec.specs.declared.entry.Entry1.{Entry1}
use Rattle.walk_spec.specs.declared.leaf.Leaf1.{Leaf1}
use Rattle.walk_spec.specs.declared.leaf.Leaf2.{Leaf2}
use Rattle.walk_spec.specs.declared.leaf.Fields1.{Fields1}
use Rattle.walk_spec.specs.Ask.{Ask, done, ask, after, finer, Stands, on}
use Rattle.walk_spec.specs.Needs.{Regime, Need, word, fits, regime_of}
use Rattle.walk_spec.specs.Steps.{End, stops, reaches, step_then}
use Rattle.walk_spec.specs.Stage2.{Asked2, walk2}

-- what is asked: where an access goes under a regime, and whether it is judged by permissions
pub record Asked : Type 0 where
  pub regime : Regime
  pub judged : Bool
  pub access : Access

-- the address as indices and offsets see it, without what stands above bit 55
abbrev pub untagged : (va : ℕ) → ℕ
untagged va = va % 2 ^ 56

-- a fault of stage 1 with so many levels left
abbrev pub fault1 : (class : Class) (left : ℕ) → Fault
fault1 class left = fault_at S1 false class left

-- what a block or page at a place gives
abbrev pub leaf1_of : (regime : Regime) (entry : Entry1) (place : ℕ) (fields : Fields1) → Leaf1
leaf1_of r e place f =
    let class = leaf_class r.stage1.granule r.stage1.input e.left f.out f.contiguous place in
    let dirty = r.config.ha1 && r.config.hd1 in
    record {
      level = level_of e.left;
      class = class;
      out = goes_to f.out class e.address;
      perms = perms_of (rights1 f.bits e.table.bits dirty r.config.wxn);
      mem = mair_of (attr_byte r.config.mair f.attr_index);
      sh = share_of f.sh;
      global = f.global;
    }

-- where a leaf is judged, an access that stage 1 doesn't permit is a permission fault
abbrev pub judged1 : (config : Config) (judged : Bool) (access : Access) (left : ℕ) (uxn : Bool) (leaf : Leaf1) → Lead Leaf1 Table1
judged1 c judged a left uxn l = if judged && not (is_allowed1 l.perms uxn a.el a.kind a.pan c.epan) then Stopped (fault1 Permission left) else Reached l

-- the faults come in the order: translation, address size, access flag, permission
abbrev pub step1_by : (asked : Asked) (entry : Entry1) (place : ℕ) (kind : Kind1) → Lead Leaf1 Table1
step1_by q e place Invalid = Stopped (fault1 Translation e.left)
step1_by q e place (Table table bits) =
    if is_too_large q.regime.stage1 table then Stopped (fault1 AddressSize e.left) else Down record { address = table; bits = joined e.table.bits bits }
step1_by q e place (Leaf out attr_index bits sh af global contiguous) =
    if is_too_large q.regime.stage1 out then Stopped (fault1 AddressSize e.left)
    else (if not (af || q.regime.config.ha1) then Stopped (fault1 AccessFlag e.left)
    else (let fields : Fields1 = record { out = out; attr_index = attr_index; sh = sh; bits = bits; global = global; contiguous = contiguous } in
    judged1 q.regime.config q.judged q.access e.left (is_uxn bits e.table.bits) (leaf1_of q.regime e place fields)))

-- what a word leads to that stands at a physical place
unfoldable pub step1 : (asked : Asked) (entry : Entry1) (place value : ℕ) → Lead Leaf1 Table1
step1 q e place v = step1_by q e place (means1_of q.regime.config q.regime.side e.left v)

-- the entry that the address selects in a table
abbrev pub entry1 : (asked : Asked) (left : ℕ) (table : Table1) → Entry1
entry1 q left t =
    let address = untagged q.access.va in
    record { table = t; place = place_of q.regime.stage1 left t.address address; address = address; left = left }

-- one level
abbrev pub level1 : (asked : Asked) (left : ℕ) (table : Table1) → Ask Entry1 Item (Lead Leaf1 Table1)
level1 q left t = let e = entry1 q left t in ask e (λ i. done (step1 q e i.pa i.value))

-- from a given table down, over entries; the last level has no tables
abbrev pub walk1_from : (asked : Asked) (left : ℕ) (table : Table1) → Ask Entry1 Item (End Leaf1)
walk1_from q zero t = after (level1 q 0 t) (step_then (λ _. done (stops (fault1 Translation 0))))
walk1_from q (suc left) t = after (level1 q (suc left) t) (step_then (walk1_from q left))

-- the word of an entry, read at a physical place
abbrev pub read1 : (entry : Entry1) (place : ℕ) → Ask Need Item (Result Item Fault)
read1 e place = ask (word record { stage = S1; left = e.left; place = place; s1ptw = false; address = e.address; table = e.table.address }) (λ i. done (Ok i))

-- stage 2 lets a descriptor be read: as a read at EL1, and with HCR_EL2.PTW not from Device memory
abbrev pub is_readable : (config : Config) (leaf : Leaf2) → Bool
is_readable c l = is_allowed2 l.perms El1 Read && not (c.ptw && is_device l.mem)

-- what stage 2 found at the entry's place decides whether its word is read
abbrev pub read1_by : (config : Config) (entry : Entry1) (end : End Leaf2) → Ask Need Item (Result Item Fault)
read1_by c e (stops f) = done (Err f)
read1_by c e (reaches l) = if is_readable c l then read1 e l.pa else done (Err record { stage = S2; level = l.level; class = Permission; s1ptw = true })

-- stage 2 of an IPA under a regime
abbrev pub asked2 : (regime : Regime) (s1ptw : Bool) (ipa : ℕ) → Asked2
asked2 r s1ptw ipa = record { config = r.config; sizes = r.stage2; s1ptw = s1ptw; ipa = ipa }

-- how stage 2 for an IPA stands on a list of items
abbrev pub stands2 : (config : Config) (side : Side) (s1ptw : Bool) (ipa : ℕ) (items : List Item) → Stands Need Item (End Leaf2)
stands2 c s s1ptw ipa items = on (fits (regime_of c s)) (walk2 (asked2 (regime_of c s) s1ptw ipa)) items

-- how the word of an entry is had: with stage 2 on, its place is translated first
abbrev pub word_of : (regime : Regime) (entry : Entry1) → Ask Need Item (Result Item Fault)
word_of r e = if r.config.vm then after (walk2 (asked2 r true e.place)) (read1_by r.config e) else read1 e e.place

-- from a given table down, with the stage 2 of each word
abbrev pub stage1_from : (asked : Asked) (left : ℕ) (table : Table1) → Ask Need Item (End Leaf1)
stage1_from q left t = finer stops (word_of q.regime) (walk1_from q left t)
