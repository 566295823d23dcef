-- Worked runs, computed. Written by scripts/worked_runs.py from traces and their reports.
use Rattle.std.proofs.Common.{[], ◌∷◌, true, false, refl}
use Rattle.std.specs.Prelude.{Some}
use Rattle.sysregs.specs.declared.regs.Reg.TheVariants.{HcrEl2, MairEl1, SctlrEl1, TcrEl1, Ttbr0El1, Ttbr1El1, VtcrEl2, VttbrEl2}
use Rattle.sysregs.specs.declared.regs.Op.TheVariants.{Vmalle1, Vae1, Vaae1, Vale1, Vaale1, Aside1, Ipas2e1, Ipas2le1, Vmalls12e1}
use Rattle.sysregs.specs.declared.regs.Op.TheVariants.{Alle1, Rvae1, Rvaae1, Rvale1, Rvaale1, Ripas2e1, Ripas2le1}
use Rattle.permissions.specs.declared.bits.El.TheVariants.{El0, El1}
use Rattle.permissions.specs.declared.bits.Kind.TheVariants.{Read, Write, Fetch}
use Rattle.attributes.specs.declared.kinds.Cache.TheVariants.{Nc}
use Rattle.attributes.specs.declared.kinds.Device.TheVariants.{NGnRnE}
use Rattle.attributes.specs.declared.kinds.MemType.TheVariants.{Device, Normal}
use Rattle.attributes.specs.declared.kinds.Share.TheVariants.{Nsh, Osh}
use Rattle.fault_codes.specs.declared.fault.Stage.TheVariants.{S1, S2}
use Rattle.fault_codes.specs.declared.fault.Class.TheVariants.{AddressSize, External, Translation}
use Rattle.trails.specs.declared.event.Barrier.TheVariants.{Nsh as DsbNsh, Ish as DsbIsh, Sy as DsbSy}
use Rattle.trails.specs.declared.event.Origin.TheVariants.{El1 as FromEl1, El2 as FromEl2}
use Rattle.trails.specs.declared.event.Event.TheVariants.{Store, Msr, Settle, Isb, Tlbi, Dsb, Deliver, Access}
use Rattle.trace_lang.specs.declared.header.Size.TheVariants.{NoRows}
use Rattle.trace_lang.specs.declared.header.Policy.TheVariants.{Fifo}
use Rattle.walk_spec.proofs.Worked.{on_worked_walks, access, wb}
use Rattle.machine_spec.proofs.Worked.{header, on_worked_runs, Comes, told, mapped, fault, fault2, start1, start2, word1, word2}

-- the 65th queued register write lets the oldest one take effect, and no other
register_queue_of_64 : Comes (header 1 ((0x0, 0x20000) ∷ []) NoRows Fifo)
    (Store 0 0x1000 0x4403 ∷ Store 0 0x2000 0x5403 ∷ Store 0 0x3000 0x6403 ∷ Msr 0 TcrEl1 0x30 ∷ Msr 0 Ttbr0El1 0x1000 ∷ Msr 0 SctlrEl1 0x1 ∷
    Isb 0 ∷
    Msr 0 Ttbr0El1 0x2000 ∷ Msr 0 Ttbr0El1 0x3000 ∷ Msr 0 MairEl1 0x44 ∷ Msr 0 MairEl1 0x44 ∷ Msr 0 MairEl1 0x44 ∷ Msr 0 MairEl1 0x44 ∷
    Msr 0 MairEl1 0x44 ∷ Msr 0 MairEl1 0x44 ∷ Msr 0 MairEl1 0x44 ∷ Msr 0 MairEl1 0x44 ∷ Msr 0 MairEl1 0x44 ∷ Msr 0 MairEl1 0x44 ∷
    Msr 0 MairEl1 0x44 ∷ Msr 0 MairEl1 0x44 ∷ Msr 0 MairEl1 0x44 ∷ Msr 0 MairEl1 0x44 ∷ Msr 0 MairEl1 0x44 ∷ Msr 0 MairEl1 0x44 ∷
    Msr 0 MairEl1 0x44 ∷ Msr 0 MairEl1 0x44 ∷ Msr 0 MairEl1 0x44 ∷ Msr 0 MairEl1 0x44 ∷ Msr 0 MairEl1 0x44 ∷ Msr 0 MairEl1 0x44 ∷
    Msr 0 MairEl1 0x44 ∷ Msr 0 MairEl1 0x44 ∷ Msr 0 MairEl1 0x44 ∷ Msr 0 MairEl1 0x44 ∷ Msr 0 MairEl1 0x44 ∷ Msr 0 MairEl1 0x44 ∷
    Msr 0 MairEl1 0x44 ∷ Msr 0 MairEl1 0x44 ∷ Msr 0 MairEl1 0x44 ∷ Msr 0 MairEl1 0x44 ∷ Msr 0 MairEl1 0x44 ∷ Msr 0 MairEl1 0x44 ∷
    Msr 0 MairEl1 0x44 ∷ Msr 0 MairEl1 0x44 ∷ Msr 0 MairEl1 0x44 ∷ Msr 0 MairEl1 0x44 ∷ Msr 0 MairEl1 0x44 ∷ Msr 0 MairEl1 0x44 ∷
    Msr 0 MairEl1 0x44 ∷ Msr 0 MairEl1 0x44 ∷ Msr 0 MairEl1 0x44 ∷ Msr 0 MairEl1 0x44 ∷ Msr 0 MairEl1 0x44 ∷ Msr 0 MairEl1 0x44 ∷
    Msr 0 MairEl1 0x44 ∷ Msr 0 MairEl1 0x44 ∷ Msr 0 MairEl1 0x44 ∷ Msr 0 MairEl1 0x44 ∷ Msr 0 MairEl1 0x44 ∷ Msr 0 MairEl1 0x44 ∷
    Msr 0 MairEl1 0x44 ∷ Msr 0 MairEl1 0x44 ∷ Msr 0 MairEl1 0x44 ∷ Msr 0 MairEl1 0x44 ∷ Msr 0 MairEl1 0x44 ∷ Msr 0 MairEl1 0x44 ∷
    Msr 0 MairEl1 0x44 ∷ Msr 0 MairEl1 0x44 ∷ Msr 0 MairEl1 0x44 ∷ Msr 0 MairEl1 0x44 ∷ Access 0 (access 0xabc El1 Read false) ∷
    Msr 0 MairEl1 0xff ∷
    Access 0 (access 0xabc El1 Read false) ∷ Isb 0 ∷ Access 0 (access 0xabc El1 Read false) ∷ [])
    (told 71 0x0 0x0 (mapped 0x4abc "--x" "rwx" (Device NGnRnE) Osh)
    (start1 3 0x1000 71 ∷ word1 3 0x1000 0x4403 71 ∷ []) ∷
    told 73 0x0 0x0 (mapped 0x5abc "--x" "rwx" (Device NGnRnE) Osh)
    (start1 3 0x2000 73 ∷ word1 3 0x2000 0x5403 73 ∷ []) ∷
    told 75 0x0 0x0 (mapped 0x6abc "--x" "rwx" (Normal (wb "rw") (wb "rw") false) Nsh)
    (start1 3 0x3000 75 ∷ word1 3 0x3000 0x6403 75 ∷ []) ∷ [])
    (Some (3 ∷ 0 ∷ 3 ∷ 0 ∷ 0 ∷ 0 ∷ 0 ∷ 0 ∷ []))
unfolding on_worked_walks on_worked_runs
register_queue_of_64 = (refl, refl)

-- AS and VS give the widths of ASID and VMID, and A1 says whose ASID counts, also with both stages off
widths_of_asid_and_vmid : Comes (header 1 ((0x0, 0x20000) ∷ []) NoRows Fifo)
    (Msr 0 Ttbr0El1 0x1234000000001000 ∷ Msr 0 Ttbr1El1 0x5678000000002000 ∷ Msr 0 VttbrEl2 0x9abc000000000000 ∷ Isb 0 ∷
    Access 0 (access 0xabc El0 Write false) ∷ Msr 0 TcrEl1 0x1000000000 ∷ Msr 0 VtcrEl2 0x80000 ∷ Isb 0 ∷ Access 0 (access 0xabc El0 Write false) ∷
    Msr 0 TcrEl1 0x400000 ∷ Isb 0 ∷ Access 0 (access 0xabc El1 Fetch false) ∷ Msr 0 TcrEl1 0x1000400000 ∷ Isb 0 ∷
    Access 0 (access 0xabc El1 Fetch false) ∷ [])
    (told 4 0x34 0xbc (mapped 0xabc "rwx" "rwx" (Device NGnRnE) Osh)
    ([]) ∷
    told 8 0x1234 0x9abc (mapped 0xabc "rwx" "rwx" (Device NGnRnE) Osh)
    ([]) ∷
    told 11 0x78 0x9abc (mapped 0xabc "rwx" "rwx" (Normal Nc Nc false) Osh)
    ([]) ∷
    told 14 0x5678 0x9abc (mapped 0xabc "rwx" "rwx" (Normal Nc Nc false) Osh)
    ([]) ∷ [])
    (Some (4 ∷ 0 ∷ 4 ∷ 0 ∷ 0 ∷ 0 ∷ 0 ∷ 0 ∷ []))
unfolding on_worked_walks on_worked_runs
widths_of_asid_and_vmid = (refl, refl)

-- a descriptor that memory lacks is an external abort; the trail ends before it, and it counts as faulted
external_abort_on_a_walk : Comes (header 1 ((0x0, 0x9000) ∷ []) NoRows Fifo)
    (Store 0 0x1000 0x20003 ∷ Store 0 0x1008 0x8003 ∷ Store 0 0x8008 0x80403 ∷ Msr 0 TcrEl1 0x27 ∷ Msr 0 Ttbr0El1 0x1000 ∷ Msr 0 SctlrEl1 0x1 ∷
    Isb 0 ∷ Access 0 (access 0xabc El1 Read false) ∷ Access 0 (access 0x201abc El1 Read false) ∷ Msr 0 Ttbr0El1 0x30000 ∷ Isb 0 ∷
    Access 0 (access 0xabc El1 Read false) ∷ Msr 0 VtcrEl2 0xf0 ∷ Msr 0 VttbrEl2 0x30000 ∷ Msr 0 HcrEl2 0x1 ∷ Msr 0 Ttbr0El1 0x1000 ∷ Isb 0 ∷
    Access 0 (access 0xabc El1 Read false) ∷ Msr 0 SctlrEl1 0x0 ∷ Isb 0 ∷ Access 0 (access 0xabc El1 Read false) ∷ [])
    (told 7 0x0 0x0 (fault S1 3 External)
    (start1 2 0x1000 7 ∷ word1 2 0x1000 0x20003 7 ∷ []) ∷
    told 8 0x0 0x0 (mapped 0x80abc "--x" "rwx" (Device NGnRnE) Osh)
    (start1 2 0x1000 8 ∷ word1 2 0x1008 0x8003 8 ∷ word1 3 0x8008 0x80403 8 ∷ []) ∷
    told 11 0x0 0x0 (fault S1 2 External)
    (start1 2 0x30000 11 ∷ []) ∷
    told 17 0x0 0x0 (fault2 3 External)
    (start1 2 0x1000 17 ∷ start2 3 0x30000 17 ∷ []) ∷
    told 20 0x0 0x0 (fault S2 3 External)
    (start2 3 0x30000 20 ∷ []) ∷ [])
    (Some (5 ∷ 0 ∷ 1 ∷ 4 ∷ 0 ∷ 0 ∷ 0 ∷ 0 ∷ []))
unfolding on_worked_walks on_worked_runs
external_abort_on_a_walk = (refl, refl)

-- a register write waits in the queue of its core: settle takes the oldest, isb all, oldest first, and no other core
-- is changed
register_writes_wait : Comes (header 2 ((0x0, 0x20000) ∷ []) NoRows Fifo)
    (Store 0 0x1000 0x4403 ∷ Store 0 0x2000 0x5403 ∷ Store 0 0x3000 0x6403 ∷ Msr 0 TcrEl1 0x30 ∷ Msr 0 Ttbr0El1 0x1000 ∷ Msr 0 SctlrEl1 0x1 ∷
    Isb 1 ∷
    Access 0 (access 0xabc El1 Read false) ∷ Isb 0 ∷ Msr 0 Ttbr0El1 0x2000 ∷ Msr 0 Ttbr0El1 0x3000 ∷ Access 0 (access 0xabc El1 Read false) ∷
    Settle 0 ∷ Access 0 (access 0xabc El1 Read false) ∷ Settle 0 ∷ Settle 0 ∷ Access 0 (access 0xabc El1 Read false) ∷ Msr 0 Ttbr0El1 0x1000 ∷
    Msr 0 Ttbr0El1 0x2000 ∷ Isb 0 ∷ Access 0 (access 0xabc El1 Read false) ∷ Access 1 (access 0xabc El1 Read false) ∷ [])
    (told 7 0x0 0x0 (mapped 0xabc "rwx" "rwx" (Device NGnRnE) Osh)
    ([]) ∷
    told 11 0x0 0x0 (mapped 0x4abc "--x" "rwx" (Device NGnRnE) Osh)
    (start1 3 0x1000 11 ∷ word1 3 0x1000 0x4403 11 ∷ []) ∷
    told 13 0x0 0x0 (mapped 0x5abc "--x" "rwx" (Device NGnRnE) Osh)
    (start1 3 0x2000 13 ∷ word1 3 0x2000 0x5403 13 ∷ []) ∷
    told 16 0x0 0x0 (mapped 0x6abc "--x" "rwx" (Device NGnRnE) Osh)
    (start1 3 0x3000 16 ∷ word1 3 0x3000 0x6403 16 ∷ []) ∷
    told 20 0x0 0x0 (mapped 0x5abc "--x" "rwx" (Device NGnRnE) Osh)
    (start1 3 0x2000 20 ∷ word1 3 0x2000 0x5403 20 ∷ []) ∷
    told 21 0x0 0x0 (mapped 0xabc "rwx" "rwx" (Device NGnRnE) Osh)
    ([]) ∷ [])
    (Some (6 ∷ 0 ∷ 6 ∷ 0 ∷ 0 ∷ 0 ∷ 0 ∷ 0 ∷ []))
unfolding on_worked_walks on_worked_runs
register_writes_wait = (refl, refl)

-- with stage 1 off the address goes through stage 2: tag byte by TBI and TBID, address size, input range, then all
-- tables of the first level
stage1_off_stage2_on : Comes (header 1 ((0x0, 0x20000) ∷ []) NoRows Fifo)
    (Store 0 0x8018 0x54c3 ∷ Store 0 0x11000 0x400004fd ∷ Msr 0 TcrEl1 0x8002000000000 ∷ Msr 0 VtcrEl2 0xf0 ∷ Msr 0 VttbrEl2 0x8000 ∷
    Msr 0 HcrEl2 0x1 ∷ Isb 0 ∷ Access 0 (access 0x3abc El0 Write false) ∷ Access 0 (access 0xff00000000003abc El0 Read false) ∷
    Access 0 (access 0xff00000000003abc El1 Fetch false) ∷ Access 0 (access 0x10000000003abc El1 Read false) ∷
    Access 0 (access 0x13abc El1 Read false) ∷ Msr 0 VtcrEl2 0x1e ∷ Msr 0 VttbrEl2 0x13000 ∷ Isb 0 ∷ Access 0 (access 0x40000abc El1 Read false) ∷
    Access 0 (access 0xabc El1 Read false) ∷ [])
    (told 7 0x0 0x0 (mapped 0x5abc "rwx" "rwx" (Device NGnRnE) Osh)
    (start2 3 0x8000 7 ∷ word2 3 0x8018 0x54c3 7 ∷ []) ∷
    told 8 0x0 0x0 (mapped 0x5abc "rwx" "rwx" (Device NGnRnE) Osh)
    (start2 3 0x8000 8 ∷ word2 3 0x8018 0x54c3 8 ∷ []) ∷
    told 9 0x0 0x0 (fault S1 0 AddressSize)
    ([]) ∷
    told 10 0x0 0x0 (fault S1 0 AddressSize)
    ([]) ∷
    told 11 0x0 0x0 (fault S2 0 Translation)
    ([]) ∷
    told 15 0x0 0x0 (mapped 0x40000abc "rwx" "rwx" (Device NGnRnE) Osh)
    (start2 2 0x10000 15 ∷ word2 2 0x11000 0x400004fd 15 ∷ []) ∷
    told 16 0x0 0x0 (fault S2 2 Translation)
    (start2 2 0x10000 16 ∷ word2 2 0x10000 0x0 16 ∷ []) ∷ [])
    (Some (7 ∷ 0 ∷ 3 ∷ 4 ∷ 0 ∷ 0 ∷ 0 ∷ 0 ∷ []))
unfolding on_worked_walks on_worked_runs
stage1_off_stage2_on = (refl, refl)

-- blanks, tabs, comments, line ends, numbers of both forms with leading zeros, and a line of 200 bytes before its
-- end
forms_of_the_text : Comes (header 01 ((0, 65536) ∷ (0x0000000000010000, 0x1000) ∷ []) NoRows Fifo)
    (Store 0x0 4096 21507 ∷ Msr 00 TcrEl1 48 ∷ Msr 0 Ttbr0El1 0xABCD000000001000 ∷ Msr 0 SctlrEl1 1 ∷ Isb 0x0000000000000000 ∷
    Access 0 (access 0x0000000000000aBc El1 Read false) ∷ Access 0 (access 18446744073709551615 El0 Read true) ∷ [])
    (told 5 0xcd 0x0 (mapped 0x5abc "--x" "rwx" (Device NGnRnE) Osh)
    (start1 3 0x1000 5 ∷ word1 3 0x1000 0x5403 5 ∷ []) ∷
    told 6 0xcd 0x0 (fault S1 0 Translation)
    ([]) ∷ [])
    (Some (2 ∷ 0 ∷ 1 ∷ 1 ∷ 0 ∷ 0 ∷ 0 ∷ 0 ∷ []))
unfolding on_worked_walks on_worked_runs
forms_of_the_text = (refl, refl)

-- every name and form is taken; messages and barriers settle no register write and change no fresh walk
messages_without_rows : Comes (header 2 ((0x0, 0x20000) ∷ []) NoRows Fifo)
    (Store 0 0x1000 0x5403 ∷ Store 0 0x2000 0x6403 ∷ Msr 0 TcrEl1 0x30 ∷ Msr 0 Ttbr0El1 0x3000000001000 ∷ Msr 0 SctlrEl1 0x1 ∷ Isb 0 ∷
    Msr 0 Ttbr0El1 0x3000000002000 ∷ Tlbi 0 FromEl1 Vmalle1 false 0 ∷ Tlbi 0 FromEl1 Vmalle1 true 0 ∷ Tlbi 0 FromEl1 Vae1 false 0x3000000000000 ∷
    Tlbi 0 FromEl1 Vae1 true 0x3000000000000 ∷ Tlbi 0 FromEl1 Vaae1 false 0x0 ∷ Tlbi 0 FromEl1 Vaae1 true 0x0 ∷
    Tlbi 0 FromEl1 Vale1 false 0x3000000000000 ∷ Tlbi 0 FromEl1 Vale1 true 0x3000000000000 ∷ Tlbi 0 FromEl1 Vaale1 false 0x0 ∷
    Tlbi 0 FromEl1 Vaale1 true 0x0 ∷ Tlbi 0 FromEl1 Aside1 false 0x3000000000000 ∷ Tlbi 0 FromEl1 Aside1 true 0x3000000000000 ∷
    Tlbi 0 FromEl1 Rvae1 false 0x400000000000 ∷ Tlbi 0 FromEl1 Rvae1 true 0x400000000000 ∷ Tlbi 0 FromEl1 Rvaae1 false 0x400000000000 ∷
    Tlbi 0 FromEl1 Rvaae1 true 0x400000000000 ∷ Tlbi 0 FromEl1 Rvale1 false 0x400000000000 ∷ Tlbi 0 FromEl1 Rvale1 true 0x400000000000 ∷
    Tlbi 0 FromEl1 Rvaale1 false 0x400000000000 ∷ Tlbi 0 FromEl1 Rvaale1 true 0x400000000000 ∷ Tlbi 1 FromEl2 Vmalle1 false 0 ∷
    Tlbi 1 FromEl2 Vmalle1 true 0 ∷ Tlbi 1 FromEl2 Vae1 false 0x3000000000000 ∷ Tlbi 1 FromEl2 Vae1 true 0x3000000000000 ∷
    Tlbi 1 FromEl2 Vaae1 false 0x0 ∷ Tlbi 1 FromEl2 Vaae1 true 0x0 ∷ Tlbi 1 FromEl2 Vale1 false 0x3000000000000 ∷
    Tlbi 1 FromEl2 Vale1 true 0x3000000000000 ∷ Tlbi 1 FromEl2 Vaale1 false 0x0 ∷ Tlbi 1 FromEl2 Vaale1 true 0x0 ∷
    Tlbi 1 FromEl2 Aside1 false 0x3000000000000 ∷ Tlbi 1 FromEl2 Aside1 true 0x3000000000000 ∷ Tlbi 1 FromEl2 Rvae1 false 0x400000000000 ∷
    Tlbi 1 FromEl2 Rvae1 true 0x400000000000 ∷ Tlbi 1 FromEl2 Rvaae1 false 0x400000000000 ∷ Tlbi 1 FromEl2 Rvaae1 true 0x400000000000 ∷
    Tlbi 1 FromEl2 Rvale1 false 0x400000000000 ∷ Tlbi 1 FromEl2 Rvale1 true 0x400000000000 ∷ Tlbi 1 FromEl2 Rvaale1 false 0x400000000000 ∷
    Tlbi 1 FromEl2 Rvaale1 true 0x400000000000 ∷ Tlbi 1 FromEl2 Ipas2e1 false 0x0 ∷ Tlbi 1 FromEl2 Ipas2e1 true 0x0 ∷
    Tlbi 1 FromEl2 Ipas2le1 false 0x0 ∷ Tlbi 1 FromEl2 Ipas2le1 true 0x0 ∷ Tlbi 1 FromEl2 Vmalls12e1 false 0 ∷ Tlbi 1 FromEl2 Vmalls12e1 true 0 ∷
    Tlbi 1 FromEl2 Alle1 false 0 ∷ Tlbi 1 FromEl2 Alle1 true 0 ∷ Tlbi 1 FromEl2 Ripas2e1 false 0x400000000000 ∷
    Tlbi 1 FromEl2 Ripas2e1 true 0x400000000000 ∷ Tlbi 1 FromEl2 Ripas2le1 false 0x400000000000 ∷ Tlbi 1 FromEl2 Ripas2le1 true 0x400000000000 ∷
    Access 0 (access 0xabc El1 Read false) ∷ Deliver 0 ∷ Dsb 0 DsbNsh ∷ Dsb 1 DsbIsh ∷ Dsb 0 DsbSy ∷ Deliver 0 ∷
    Access 0 (access 0xabc El1 Read false) ∷ Isb 0 ∷ Access 0 (access 0xabc El1 Read false) ∷ [])
    (told 59 0x3 0x0 (mapped 0x5abc "--x" "rwx" (Device NGnRnE) Osh)
    (start1 3 0x1000 59 ∷ word1 3 0x1000 0x5403 59 ∷ []) ∷
    told 65 0x3 0x0 (mapped 0x5abc "--x" "rwx" (Device NGnRnE) Osh)
    (start1 3 0x1000 65 ∷ word1 3 0x1000 0x5403 65 ∷ []) ∷
    told 67 0x3 0x0 (mapped 0x6abc "--x" "rwx" (Device NGnRnE) Osh)
    (start1 3 0x2000 67 ∷ word1 3 0x2000 0x6403 67 ∷ []) ∷ [])
    (Some (3 ∷ 0 ∷ 3 ∷ 0 ∷ 0 ∷ 0 ∷ 0 ∷ 0 ∷ []))
unfolding on_worked_walks on_worked_runs
messages_without_rows = (refl, refl)
