-- The trace of the drill: four cores whose tables change while they access memory through them (this project's own rule).
use Rattle.std.specs.Prelude.{ℕ, zero, suc, ◌+◌, ◌*◌, ◌/◌, ◌%◌, ◌^◌, ◌==◌, nat_lt, true}
use Rattle.std.specs.Prelude.{false, if◌then◌else◌, List, [], ◌∷◌, ◌++◌, map}
use Rattle.std.specs.List.{range_with_len}
use Rattle.sysregs.specs.declared.regs.Reg.TheVariants.{TcrEl1, Ttbr0El1, SctlrEl1}
use Rattle.sysregs.specs.declared.regs.Op.TheVariants.{Vaae1, Vmalle1}
use Rattle.permissions.specs.declared.bits.El.TheVariants.{El1}
use Rattle.permissions.specs.declared.bits.Kind.TheVariants.{Read}
use Rattle.trails.specs.declared.outcome.Access.{Access}
use Rattle.trails.specs.declared.event.Event.{Event}
use Rattle.trails.specs.declared.event.Event.TheVariants.{Store, Msr, Isb, Tlbi, Dsb, Deliver, Access as AccessOf, Prefetch}
use Rattle.trails.specs.declared.event.Origin.TheVariants.{El1 as FromEl1}
use Rattle.trails.specs.declared.event.Barrier.TheVariants.{Ish}
use Rattle.trace_lang.specs.declared.header.Size.TheVariants.{Small}
use Rattle.trace_lang.specs.declared.header.Policy.TheVariants.{Fifo}
use Rattle.trace_lang.specs.Traces.{Parts, parts_of}

-- TABLES AND REGISTERS

-- where the descriptor of page j of table i stands, and where that page lies, in bytes
abbrev pub word_place : (i j : ℕ) → ℕ
word_place i j = 0x4000 + 0x1000 * i + 8 * j

abbrev pub page_place : (i j : ℕ) → ℕ
page_place i j = 0x100000 + 0x1000 * (16 * i + j)

-- tables of levels 0 and 1
abbrev pub top : List Event
top = Store 0 0x1000 0x2003 ∷ Store 0 0x2008 0x3003 ∷ []

-- that of level 2, an entry for each of four tables of level 3
abbrev pub level2_at : (i : ℕ) → Event
level2_at i = Store 0 (0x3000 + 8 * i) (0x4003 + 0x1000 * i)

-- those of level 3, sixteen pages each; the odd ones are of one ASID alone
abbrev pub leaf_at : (k : ℕ) → Event
leaf_at k = Store 0 (word_place (k / 16) (k % 16)) (page_place (k / 16) (k % 16) + (if k % 2 == 0 then 0x403 else 0xc03))

-- the registers of a core, whose ASID is its number plus one
abbrev pub register_by : (core turn : ℕ) → Event
register_by c zero = Msr c TcrEl1 0x10
register_by c (suc zero) = Msr c Ttbr0El1 (0x1000 + (c + 1) * 2 ^ 48)
register_by c (suc (suc zero)) = Msr c SctlrEl1 0x1
register_by c (suc (suc (suc n))) = Isb c

abbrev pub register_at : (k : ℕ) → Event
register_at k = register_by (k / 4) (k % 4)

abbrev pub upto : (count : ℕ) → List ℕ
upto n = range_with_len 0 n

abbrev pub setup : List Event
setup = top ++ map level2_at (upto 4) ++ map leaf_at (upto 64) ++ map register_at (upto 16)

-- DRAWS

-- the number that follows one in the generator, and what is drawn by it
abbrev pub next : (x : ℕ) → ℕ
next x = (x * 6364136223846793005 + 1442695040888963407) % 2 ^ 64

abbrev pub drawn : (x : ℕ) → ℕ
drawn x = x / 2 ^ 33

-- an access of EL1 without PAN that reads page j of table i
abbrev pub read_of : (i j : ℕ) → Access
read_of i j = record { va = 0x40000000 + 0x200000 * i + 0x1000 * j; el = El1; kind = Read; pan = false }

-- the event of four draws: ten times of sixteen an access, and else one of six others
abbrev pub event_by : (turn core i j : ℕ) → Event
event_by a c i j =
    if nat_lt a 10 then AccessOf c (read_of i j)
    else if a == 10 then Prefetch c (read_of i j)
    else if a == 11 then Store c (word_place i j) (page_place j i + 0x403)
    else if a == 12 then Tlbi c FromEl1 Vaae1 true ((read_of i j).va / 0x1000)
    else if a == 13 then Dsb c Ish
    else if a == 14 then Deliver c
    else Tlbi c FromEl1 Vmalle1 false 0

-- the event that is drawn behind a number of the generator
abbrev pub event_after : (x : ℕ) → Event
event_after x =
    event_by (drawn (next x) % 16) (drawn (next (next x)) % 4) (drawn (next (next (next x))) % 4) (drawn (next (next (next (next x)))) % 16)

abbrev pub behind_event : (x : ℕ) → ℕ
behind_event x = next (next (next (next x)))

-- so many events
unfoldable pub events_from : (count : ℕ) (x : ℕ) → List Event
events_from zero x = []
events_from (suc n) x = event_after x ∷ events_from n (behind_event x)

-- THE WHOLE

abbrev pub drawn_events : ℕ
drawn_events = 20000

-- the trace whose draws begin at a number
abbrev pub drill_of : (start : ℕ) → Parts
drill_of start = parts_of 4 ((0, 0x200000) ∷ []) Small Fifo (setup ++ events_from drawn_events start)
