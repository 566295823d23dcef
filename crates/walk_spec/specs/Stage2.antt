-- Stage 2: from an IPA to a leaf (DDI 0487, AArch64.S2Translate and the stage 2 table walk).
use Rattle.std.specs.Prelude.{ℕ, ◌^◌, zero, suc, Bool, not, ◌&&◌, ◌||◌, nat_lt, if◌then◌else◌}
use Rattle.geometry.specs.Tables.{most_left, level_of, input_size}
use Rattle.geometry.specs.Runs.{leaf_class, goes_to}
use Rattle.sysregs.specs.declared.regs.Config.{Config}
use Rattle.permissions.specs.Rights.{perms_of, rights2}
use Rattle.attributes.specs.Memory.{s2_attr_of, share_of}
use Rattle.fault_codes.specs.declared.fault.Stage.TheVariants.{S2}
use Rattle.fault_codes.specs.declared.fault.Class.{Class}
use Rattle.fault_codes.specs.declared.fault.Class.TheVariants.{Translation, AddressSize, AccessFlag}
use Rattle.fault_codes.specs.declared.fault.Fault.{Fault}
use Rattle.descriptors.specs.declared.kinds.Kind2.{Kind2}
use Rattle.descriptors.specs.declared.kinds.Kind2.TheVariants.{Invalid, Table, Leaf}
use Rattle.descriptors.specs.Meaning.{means2_of}
use Rattle.trails.specs.declared.item.Item.{Item}
use Rattle.table_reads.specs.declared.sizes.Sizes.{Sizes}
use Rattle.table_reads.specs.declared.lead.Lead.{Lead}
use Rattle.table_reads.specs.declared.lead.Lead.TheVariants.{Down, Reached, Stopped}
use Rattle.table_reads.specs.Numbers.{is_sized2}
use Rattle.table_reads.specs.Places.{place_of, is_too_large}
use Rattle.table_reads.specs.Items.{fault_at}
use Rattle.walk_spec.specs.declared.leaf.Leaf2.{Leaf2}
use Rattle.walk_spec.specs.declared.leaf.Fields2.{Fields2}
use Rattle.walk_spec.specs.Ask.{Ask, done, ask, after}
use Rattle.walk_spec.specs.Needs.{Need, stage2_base, word}
use Rattle.walk_spec.specs.Steps.{End, stops, step_then}

-- what stage 2 is asked: where an IPA goes, under these register fields and numbers. The mark s1ptw says that it is the
-- place of a stage 1 descriptor.
pub record Asked2 : Type 0 where
  pub config : Config
  pub sizes : Sizes
  pub s1ptw : Bool
  pub ipa : ℕ

-- a fault of stage 2 with so many levels left
abbrev pub fault2 : (asked : Asked2) (class : Class) (left : ℕ) → Fault
fault2 q class left = fault_at S2 q.s1ptw class left

-- what a block or page at a place gives
abbrev pub leaf2_of : (asked : Asked2) (left place : ℕ) (fields : Fields2) → Leaf2
leaf2_of q left place f =
    let class = leaf_class q.sizes.granule q.sizes.input left f.out f.contiguous place in
    let dirty = q.config.ha2 && q.config.hd2 in
    record {
      level = level_of left;
      class = class;
      pa = goes_to f.out class q.ipa;
      perms = perms_of (rights2 f.read f.write f.xn f.dbm dirty);
      mem = s2_attr_of f.mem_attr;
      sh = share_of f.sh;
    }

-- an invalid word is a translation fault; an address at or above the output size is an address size fault; a leaf whose
-- access flag is 0, and hardware doesn't set it, is an access flag fault
abbrev pub step2_by : (asked : Asked2) (left place : ℕ) (kind : Kind2) → Lead Leaf2 ℕ
step2_by q left place Invalid = Stopped (fault2 q Translation left)
step2_by q left place (Table table) = if is_too_large q.sizes table then Stopped (fault2 q AddressSize left) else Down table
step2_by q left place (Leaf out mem_attr read write xn sh af dbm contiguous) =
    if is_too_large q.sizes out then Stopped (fault2 q AddressSize left)
    else (if not (af || q.config.ha2) then Stopped (fault2 q AccessFlag left)
    else Reached (leaf2_of q left place record {
      out = out;
      mem_attr = mem_attr;
      xn = xn;
      sh = sh;
      read = read;
      write = write;
      dbm = dbm;
      contiguous = contiguous;
    }))

-- what a word leads to that stands at a place
unfoldable pub step2 : (asked : Asked2) (left place value : ℕ) → Lead Leaf2 ℕ
step2 q left place v = step2_by q left place (means2_of q.config left v)

-- one level
abbrev pub level2 : (asked : Asked2) (left table : ℕ) → Ask Need Item (Lead Leaf2 ℕ)
level2 q left table =
    let place = place_of q.sizes left table q.ipa in
    ask (word record { stage = S2; left = left; place = place; s1ptw = q.s1ptw; address = q.ipa; table = table }) (λ i. done (step2 q left i.pa i.value))

-- from a given table down; the last level has no tables
abbrev pub walk2_from : (asked : Asked2) (left table : ℕ) → Ask Need Item (End Leaf2)
walk2_from q zero table = after (level2 q 0 table) (step_then (λ _. done (stops (fault2 q Translation 0))))
walk2_from q (suc left) table = after (level2 q (suc left) table) (step_then (walk2_from q left))

-- T0SZ is out of range, SL0 is invalid, the input size doesn't suit the start level, or the IPA is out of range
unfoldable pub is_refused2 : (config : Config) (ipa : ℕ) → Bool
is_refused2 c ipa = not (is_sized2 c && nat_lt ipa (2 ^ input_size c.t2sz))

-- behind the base; its fault is of level 0
abbrev pub walk2_behind : (asked : Asked2) (base : ℕ) → Ask Need Item (End Leaf2)
walk2_behind q base = if is_too_large q.sizes base then done (stops (fault2 q AddressSize most_left)) else walk2_from q q.sizes.start base

-- stage 2 for an IPA; what is refused before the base is a fault of level 0
abbrev pub walk2 : (asked : Asked2) → Ask Need Item (End Leaf2)
walk2 q = if is_refused2 q.config q.ipa then done (stops (fault2 q Translation most_left)) else ask (stage2_base q.ipa) (λ i. walk2_behind q i.value)
