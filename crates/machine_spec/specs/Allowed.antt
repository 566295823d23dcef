-- Which steps are allowed: what is promised of each answer of a machine, whatever rows it keeps.
use Rattle.std.specs.Prelude.{◌≡◌, ◌⊎◌, ℕ, Bool, true, false, not, ◌==◌, ◌&&◌, if◌then◌else◌, nat_lt, ℤ, List, []}
use Rattle.std.specs.Prelude.{◌∷◌, ◌++◌, take, slice_get, Option, Some, None}
use Rattle.std.specs.List.{list_any}
use Rattle.std.specs.Option.{option_or}
use Rattle.sysregs.specs.declared.regs.Regs.{Regs}
use Rattle.sysregs.specs.declared.regs.Config.{Config}
use Rattle.sysregs.specs.declared.regs.Side.{Side}
use Rattle.sysregs.specs.Registers.{config_of, asid_of, vmid_of}
use Rattle.sysregs.specs.Sides.{side_of}
use Rattle.fault_codes.specs.declared.fault.Stage.{Stage}
use Rattle.fault_codes.specs.declared.fault.Class.{Class}
use Rattle.fault_codes.specs.declared.fault.Class.TheVariants.{Translation, AddressSize, AccessFlag, Permission, External, Conflict as ConflictClass}
use Rattle.trails.specs.declared.item.Item.{Item}
use Rattle.trails.specs.declared.outcome.Access.{Access}
use Rattle.trails.specs.declared.outcome.Outcome.{Outcome}
use Rattle.trails.specs.declared.outcome.Outcome.TheVariants.{Mapped, Faulted, Absent, Conflict}
use Rattle.trails.specs.declared.event.Event.{Event}
use Rattle.trails.specs.declared.event.Event.TheVariants.{Access as AccessOf, Prefetch}
use Rattle.trails.specs.declared.step.Answer.{Answer}
use Rattle.trails.specs.declared.step.Step.{Step}
use Rattle.table_reads.specs.Memory.{Memory}
use Rattle.tlbi_ops.specs.Covers.{is_stage1}
use Rattle.walk_spec.specs.declared.leaf.Leaf2.{Leaf2}
use Rattle.walk_spec.specs.Ask.{needs, ends, lacks}
use Rattle.walk_spec.specs.Needs.{stage2_base, word, WordNeed, is_base, stage_eq, regime_of}
use Rattle.walk_spec.specs.Steps.{End, reaches}
use Rattle.walk_spec.specs.Stage1.{stands2}
use Rattle.walk_spec.specs.BothStages.{Landing, walk, outcome_of}
use Rattle.walk_spec.specs.Fresh.{fed_outcome}
use Rattle.walk_laws.specs.Shift.{stands}
use Rattle.machine_spec.specs.Header.{Header}
use Rattle.machine_spec.specs.Moments.{memory_after}
use Rattle.machine_spec.specs.Marks.{Mark, marks}
use Rattle.machine_spec.specs.Uses.{LastIs}
use Rattle.machine_spec.specs.Kept.{View, now, regs_when, base_by, IsKept}

-- an item of an earlier moment
abbrev pub is_earlier : (moment : ℕ) (item : Item) → Bool
is_earlier k i = nat_lt i.moment k

-- a place holds this word
abbrev pub has_word : (found : Option ℕ) (value : ℕ) → Bool
has_word None v = false
has_word (Some w) v = w == v

-- an item that differs from now: its place holds another word, or the register gives another base
abbrev pub is_changed : (registers : Regs) (side : Side) (memory : Memory) (item : Item) → Bool
is_changed regs s m i = if is_base i.what then not (i.value == base_by regs s i.stage) else not (has_word (m i.pa) i.value)

-- whether a fault is of a class that a word itself gives: translation, address size, access flag
abbrev pub is_of_word : (class : Class) → Bool
is_of_word Translation = true
is_of_word AddressSize = true
is_of_word AccessFlag = true
is_of_word Permission = false
is_of_word External = false
is_of_word ConflictClass = false

-- an item of the fault's stage was read now
abbrev pub IsNowOf : (stage : Stage) (moment : ℕ) (mark : Mark) → Type 0
IsNowOf s k m = stage_eq m.stage s ≡ true → m.item.moment ≡ k

-- the word that gives a translation, address size or access flag fault was read now
abbrev pub FaultIsRead : (moment : ℕ) (marks : List Mark) (outcome : Outcome) → Type 0
FaultIsRead k ms (Mapped pa perms mem sh) = Unit {0}
FaultIsRead k ms (Faulted f) = is_of_word f.class ≡ true → LastIs (IsNowOf f.stage k) ms
FaultIsRead k ms (Absent s level pa s1ptw) = Unit {0}
FaultIsRead k ms Conflict = Unit {0}

-- place, level and value of an item
abbrev pub Entry : Type 0
Entry = ℕ × ℤ × ℕ

abbrev pub entry_of : (item : Item) → Entry
entry_of i = (i.pa, i.level, i.value)

-- the last item
abbrev pub last_entry : (items : List Item) → Option Entry
last_entry [] = None
last_entry (i ∷ items) = option_or (last_entry items) (Some (entry_of i))

-- the last item of stage 1
abbrev pub last_entry1 : (items : List Item) → Option Entry
last_entry1 [] = None
last_entry1 (i ∷ items) = option_or (last_entry1 items) (if is_stage1 i.stage then Some (entry_of i) else None)

-- what is judged: the view of the core, and the access
pub record Case : Type 0 where
  pub view : View
  pub access : Access

-- the register fields of now
abbrev pub config_now : (case : Case) → Config
config_now q = config_of (regs_when q.view (now q.view))

-- how the walk of the access stands on items under the register fields of now
abbrev pub Ends : (case : Case) (judged : Bool) (items : List Item) (end : End Landing) → Type 0
Ends q judged items e = stands (config_now q) judged q.access items ≡ ends e []

-- the items as this walk meets them
abbrev pub marks_now : (case : Case) (judged : Bool) (items : List Item) → List Mark
marks_now q judged items =
    let c = config_now q in
    marks (regime_of c (side_of q.access.va)) (walk c judged q.access) items

-- the trail of this walk is kept
abbrev pub Keeps : (case : Case) (judged : Bool) (items : List Item) → Type 0
Keeps q judged items = IsKept q.view (marks_now q judged items)

-- a translation, or a fault: that of the walk on the trail
pub record IsEnded (q : Case) (first : List Item) (second : Option (List Item)) (outcome : Outcome) : Type 0 where
  pub end : End Landing
  pub walk_ends : Ends q true first end
  pub is : outcome ≡ outcome_of end
  pub kept : Keeps q true first
  pub read : FaultIsRead (now q.view) (marks_now q true first) outcome
  pub alone : second ≡ None

-- a place that memory lacks: that of the word which the walk needs behind the trail
pub record IsLacking (q : Case) (first : List Item) (second : Option (List Item)) (outcome : Outcome) : Type 0 where
  pub need : WordNeed
  pub walk_needs : stands (config_now q) true q.access first ≡ needs (word need)
  pub is : outcome ≡ fed_outcome (lacks (word need))
  pub lacking : memory_after q.view.header q.view.log need.place ≡ None
  pub kept : Keeps q true first
  pub alone : second ≡ None

-- two trails that both lead to a translation, by rights or not, and differ in their last stage 1 items or their last items
pub record IsTwice (q : Case) (first second : List Item) : Type 0 where
  pub on : (config_now q).m ≡ true
  pub lands_first : (l : Landing) × Ends q false first (reaches l)
  pub lands_second : (l : Landing) × Ends q false second (reaches l)
  pub differ : last_entry1 first ≡ last_entry1 second → last_entry first ≡ last_entry second → ⊥
  pub kept_first : Keeps q false first
  pub kept_second : Keeps q false second

-- a chain of stage 2 that reaches a leaf for an IPA
abbrev pub Reaches : (case : Case) (ipa : ℕ) (items : List Item) → Type 0
Reaches q x items = (s1ptw : Bool) × (l : Leaf2) × (stands2 (config_now q) (side_of q.access.va) s1ptw x items ≡ ends (reaches l) [])

-- two trails with one front, behind which stage 2 is walked, and then two chains that both reach a leaf and differ in their
-- last items
pub record IsForked (q : Case) (first second : List Item) : Type 0 where
  pub front : List Item
  pub ipa : ℕ
  pub one : List Item
  pub two : List Item
  pub first_is : first ≡ front ++ one
  pub second_is : second ≡ front ++ two
  pub walk_needs : stands (config_now q) true q.access front ≡ needs (stage2_base ipa)
  pub reaches_one : Reaches q ipa one
  pub reaches_two : Reaches q ipa two
  pub differ : last_entry one ≡ last_entry two → ⊥
  pub kept_first : Keeps q true first
  pub kept_second : Keeps q true second

-- a conflict of two trails
pub record IsConflict (q : Case) (first : List Item) (second : Option (List Item)) : Type 0 where
  pub other : List Item
  pub both : second ≡ Some other
  pub how : IsTwice q first other ⊎ IsForked q first other

-- an outcome is right by its trails
abbrev pub IsRight : (case : Case) (first : List Item) (second : Option (List Item)) (outcome : Outcome) → Type 0
IsRight q first second (Mapped pa perms mem sh) = IsEnded q first second (Mapped pa perms mem sh)
IsRight q first second (Faulted f) = IsEnded q first second (Faulted f)
IsRight q first second (Absent s level pa s1ptw) = IsLacking q first second (Absent s level pa s1ptw)
IsRight q first second Conflict = IsConflict q first second

abbrev pub is_conflict : (outcome : Outcome) → Bool
is_conflict (Mapped pa perms mem sh) = false
is_conflict (Faulted f) = false
is_conflict (Absent s level pa s1ptw) = false
is_conflict Conflict = true

-- an answer: its ASID and VMID are those of now, and it says whether its first trail is old, and whether stale
pub record IsAnswer (q : Case) (r : Answer) : Type 0 where
  pub asid_is : r.asid ≡ asid_of (regs_when q.view (now q.view))
  pub vmid_is : r.vmid ≡ vmid_of (regs_when q.view (now q.view))
  pub old_is : r.old ≡ list_any (is_earlier (now q.view)) r.first
  pub stale_is : r.stale ≡ (not (is_conflict r.outcome)
      && list_any (is_changed (regs_when q.view (now q.view)) q.view.side (memory_after q.view.header q.view.log)) r.first)
  pub right : IsRight q r.first r.second r.outcome

-- an access by a core behind a log
abbrev pub case_of : (header : Header) (log : List Step) (core : ℕ) (access : Access) → Case
case_of h log c a = record { view = record { header = h; log = log; core = c; side = side_of a.va }; access = a }

-- an access or a prefetch has an answer
abbrev pub IsAnswered : (header : Header) (log : List Step) (core : ℕ) (access : Access) (answer : Option Answer) → Type 0
IsAnswered h log c a None = ⊥
IsAnswered h log c a (Some r) = IsAnswer (case_of h log c a) r

-- an event's answer is allowed behind a log; the other events have none
abbrev pub IsAllowedFor : (header : Header) (log : List Step) (event : Event) (answer : Option Answer) → Type 0
IsAllowedFor h log (AccessOf core access) r = IsAnswered h log core access r
IsAllowedFor h log (Prefetch core access) r = IsAnswered h log core access r
IsAllowedFor h log _ r = r ≡ None

-- a step is allowed behind a log
abbrev pub IsAllowed : (header : Header) (log : List Step) (step : Step) → Type 0
IsAllowed h log s = IsAllowedFor h log s.event s.answer

-- each step of a log is allowed behind those before it
abbrev pub AllAllowed : (header : Header) (log : List Step) → Type 0
AllAllowed h log = (k : ℕ) (s : Step) → slice_get log k ≡ Some s → IsAllowed h (take k log) s
