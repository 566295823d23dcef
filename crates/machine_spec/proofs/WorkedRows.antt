-- Worked runs, computed. Written by scripts/worked_runs.py from traces and their reports.
use Rattle.std.proofs.Common.{[], ◌∷◌, true, false, refl}
use Rattle.std.specs.Prelude.{Some, None}
use Rattle.sysregs.specs.declared.regs.Reg.TheVariants.{HcrEl2, MairEl1, SctlrEl1, TcrEl1, Ttbr0El1, VtcrEl2, VttbrEl2}
use Rattle.sysregs.specs.declared.regs.Op.TheVariants.{Vmalle1, Vae1, Ipas2e1, Rvae1}
use Rattle.permissions.specs.declared.bits.El.TheVariants.{El1}
use Rattle.permissions.specs.declared.bits.Kind.TheVariants.{Read}
use Rattle.attributes.specs.declared.kinds.Device.TheVariants.{NGnRnE}
use Rattle.attributes.specs.declared.kinds.MemType.TheVariants.{Device}
use Rattle.attributes.specs.declared.kinds.Share.TheVariants.{Osh}
use Rattle.fault_codes.specs.declared.fault.Stage.TheVariants.{S1}
use Rattle.fault_codes.specs.declared.fault.Class.TheVariants.{Translation}
use Rattle.trails.specs.declared.event.Barrier.TheVariants.{Nsh as DsbNsh, Ish as DsbIsh}
use Rattle.trails.specs.declared.event.Origin.TheVariants.{El1 as FromEl1, El2 as FromEl2}
use Rattle.trails.specs.declared.event.Event.TheVariants.{Store, Msr, Settle, Isb, Tlbi, Dsb, Access, Prefetch}
use Rattle.trace_lang.specs.declared.header.Size.TheVariants.{Medium, NoRows, Small}
use Rattle.trace_lang.specs.declared.header.Policy.TheVariants.{Lru, Fifo, Random}
use Rattle.walk_spec.proofs.Worked.{on_worked_walks, access}
use Rattle.machine_spec.proofs.Worked.{header, on_worked_runs, Comes, told, conflict_told, mapped, fault, fault2, start1, start2, word1, word2}

-- a range removes the row
a_range_removes_the_row : Comes (header 2 ((0x0, 0x10000) ∷ []) Small Fifo)
    (Store 0 0x1000 0x2003 ∷ Store 0 0x2008 0x3003 ∷ Store 0 0x3008 0x4003 ∷ Store 0 0x4008 0x5403 ∷ Msr 0 TcrEl1 0x10 ∷ Msr 0 Ttbr0El1 0x1000 ∷
    Msr 0 SctlrEl1 0x1 ∷ Isb 0 ∷ Msr 1 TcrEl1 0x10 ∷ Msr 1 Ttbr0El1 0x1000 ∷ Msr 1 SctlrEl1 0x1 ∷ Isb 1 ∷
    Access 1 (access 0x40201abc El1 Read false) ∷ Store 0 0x4008 0x0 ∷ Tlbi 0 FromEl1 Rvae1 true 0x400000040200 ∷ Dsb 0 DsbIsh ∷
    Access 1 (access 0x40201abc El1 Read false) ∷ [])
    (told 16 0x0 0x0 (fault S1 3 Translation)
    (start1 0 0x1000 16 ∷ word1 0 0x1000 0x2003 16 ∷ word1 1 0x2008 0x3003 16 ∷ word1 2 0x3008 0x4003 16 ∷ word1 3 0x4008 0x0 16 ∷ []) ∷ [])
    (None)
unfolding on_worked_walks on_worked_runs
a_range_removes_the_row = (refl, tt)

-- broadcast removes the row of another core
broadcast_removes_the_row_of_another_core : Comes (header 2 ((0x0, 0x10000) ∷ []) Small Fifo)
    (Store 0 0x1000 0x2003 ∷ Store 0 0x2008 0x3003 ∷ Store 0 0x3008 0x4003 ∷ Store 0 0x4008 0x5403 ∷ Msr 0 TcrEl1 0x10 ∷ Msr 0 Ttbr0El1 0x1000 ∷
    Msr 0 SctlrEl1 0x1 ∷ Isb 0 ∷ Msr 1 TcrEl1 0x10 ∷ Msr 1 Ttbr0El1 0x1000 ∷ Msr 1 SctlrEl1 0x1 ∷ Isb 1 ∷
    Access 1 (access 0x40201abc El1 Read false) ∷ Store 0 0x4008 0x0 ∷ Tlbi 0 FromEl1 Vae1 true 0x40201 ∷ Dsb 0 DsbIsh ∷
    Access 1 (access 0x40201abc El1 Read false) ∷ [])
    (told 16 0x0 0x0 (fault S1 3 Translation)
    (start1 0 0x1000 16 ∷ word1 0 0x1000 0x2003 16 ∷ word1 1 0x2008 0x3003 16 ∷ word1 2 0x3008 0x4003 16 ∷ word1 3 0x4008 0x0 16 ∷ []) ∷ [])
    (None)
unfolding on_worked_walks on_worked_runs
broadcast_removes_the_row_of_another_core = (refl, tt)

-- cached leaf outlives a store
cached_leaf_outlives_a_store : Comes (header 2 ((0x0, 0x10000) ∷ []) Small Fifo)
    (Store 0 0x1000 0x2003 ∷ Store 0 0x2008 0x3003 ∷ Store 0 0x3008 0x4003 ∷ Store 0 0x4008 0x5403 ∷ Msr 0 TcrEl1 0x10 ∷ Msr 0 Ttbr0El1 0x1000 ∷
    Msr 0 SctlrEl1 0x1 ∷ Isb 0 ∷ Access 0 (access 0x40201abc El1 Read false) ∷ Store 0 0x4008 0x0 ∷ Access 0 (access 0x40201abc El1 Read false) ∷ [])
    (told 8 0x0 0x0 (mapped 0x5abc "--x" "rwx" (Device NGnRnE) Osh)
    (start1 0 0x1000 8 ∷ word1 0 0x1000 0x2003 8 ∷ word1 1 0x2008 0x3003 8 ∷ word1 2 0x3008 0x4003 8 ∷ word1 3 0x4008 0x5403 8 ∷ []) ∷
    told 10 0x0 0x0 (mapped 0x5abc "--x" "rwx" (Device NGnRnE) Osh)
    (start1 0 0x1000 8 ∷ word1 0 0x1000 0x2003 8 ∷ word1 1 0x2008 0x3003 8 ∷ word1 2 0x3008 0x4003 8 ∷ word1 3 0x4008 0x5403 8 ∷ []) ∷ [])
    (Some (2 ∷ 0 ∷ 2 ∷ 0 ∷ 0 ∷ 1 ∷ 1 ∷ 0 ∷ []))
unfolding on_worked_walks on_worked_runs
cached_leaf_outlives_a_store = (refl, refl)

-- dsb nsh completes no broadcast
dsb_nsh_completes_no_broadcast : Comes (header 2 ((0x0, 0x10000) ∷ []) Small Fifo)
    (Store 0 0x1000 0x2003 ∷ Store 0 0x2008 0x3003 ∷ Store 0 0x3008 0x4003 ∷ Store 0 0x4008 0x5403 ∷ Msr 0 TcrEl1 0x10 ∷ Msr 0 Ttbr0El1 0x1000 ∷
    Msr 0 SctlrEl1 0x1 ∷ Isb 0 ∷ Msr 1 TcrEl1 0x10 ∷ Msr 1 Ttbr0El1 0x1000 ∷ Msr 1 SctlrEl1 0x1 ∷ Isb 1 ∷
    Access 1 (access 0x40201abc El1 Read false) ∷ Store 0 0x4008 0x0 ∷ Tlbi 0 FromEl1 Vae1 true 0x40201 ∷ Dsb 0 DsbNsh ∷
    Access 1 (access 0x40201abc El1 Read false) ∷ [])
    (told 16 0x0 0x0 (mapped 0x5abc "--x" "rwx" (Device NGnRnE) Osh)
    (start1 0 0x1000 12 ∷ word1 0 0x1000 0x2003 12 ∷ word1 1 0x2008 0x3003 12 ∷ word1 2 0x3008 0x4003 12 ∷ word1 3 0x4008 0x5403 12 ∷ []) ∷ [])
    (None)
unfolding on_worked_walks on_worked_runs
dsb_nsh_completes_no_broadcast = (refl, tt)

-- fifo drops the used page
fifo_drops_the_used_page : Comes (header 2 ((0x0, 0x10000) ∷ []) Small Fifo)
    (Store 0 0x1000 0x2003 ∷ Store 0 0x2008 0x3003 ∷ Store 0 0x3008 0x4003 ∷ Store 0 0x4000 0x5403 ∷ Store 0 0x4008 0x6403 ∷ Store 0 0x4010 0x7403 ∷
    Store 0 0x4018 0x8403 ∷ Store 0 0x4020 0x9403 ∷ Store 0 0x4028 0xa403 ∷ Store 0 0x4030 0xb403 ∷ Store 0 0x4038 0xc403 ∷ Store 0 0x4040 0xd403 ∷
    Msr 0 TcrEl1 0x10 ∷ Msr 0 Ttbr0El1 0x1000 ∷ Msr 0 SctlrEl1 0x1 ∷ Isb 0 ∷ Access 0 (access 0x40200000 El1 Read false) ∷
    Access 0 (access 0x40201000 El1 Read false) ∷ Access 0 (access 0x40202000 El1 Read false) ∷ Access 0 (access 0x40203000 El1 Read false) ∷
    Access 0 (access 0x40204000 El1 Read false) ∷ Access 0 (access 0x40205000 El1 Read false) ∷ Access 0 (access 0x40206000 El1 Read false) ∷
    Access 0 (access 0x40207000 El1 Read false) ∷ Access 0 (access 0x40200000 El1 Read false) ∷ Access 0 (access 0x40208000 El1 Read false) ∷
    Access 0 (access 0x40200000 El1 Read false) ∷ Access 0 (access 0x40201000 El1 Read false) ∷ [])
    (told 26 0x0 0x0 (mapped 0x5000 "--x" "rwx" (Device NGnRnE) Osh)
    (start1 0 0x1000 16 ∷ word1 0 0x1000 0x2003 16 ∷ word1 1 0x2008 0x3003 16 ∷ word1 2 0x3008 0x4003 16 ∷ word1 3 0x4000 0x5403 26 ∷ []) ∷ [])
    (Some (12 ∷ 0 ∷ 12 ∷ 0 ∷ 0 ∷ 11 ∷ 0 ∷ 3 ∷ []))
unfolding on_worked_walks on_worked_runs
fifo_drops_the_used_page = (refl, refl)

-- fresh without rows
fresh_without_rows : Comes (header 2 ((0x0, 0x10000) ∷ []) NoRows Fifo)
    (Store 0 0x1000 0x2003 ∷ Store 0 0x2008 0x3003 ∷ Store 0 0x3008 0x4003 ∷ Store 0 0x4008 0x5403 ∷ Msr 0 TcrEl1 0x10 ∷ Msr 0 Ttbr0El1 0x1000 ∷
    Msr 0 SctlrEl1 0x1 ∷ Isb 0 ∷ Access 0 (access 0x40201abc El1 Read false) ∷ Store 0 0x4008 0x0 ∷ Access 0 (access 0x40201abc El1 Read false) ∷ [])
    (told 8 0x0 0x0 (mapped 0x5abc "--x" "rwx" (Device NGnRnE) Osh)
    (start1 0 0x1000 8 ∷ word1 0 0x1000 0x2003 8 ∷ word1 1 0x2008 0x3003 8 ∷ word1 2 0x3008 0x4003 8 ∷ word1 3 0x4008 0x5403 8 ∷ []) ∷
    told 10 0x0 0x0 (fault S1 3 Translation)
    (start1 0 0x1000 10 ∷ word1 0 0x1000 0x2003 10 ∷ word1 1 0x2008 0x3003 10 ∷ word1 2 0x3008 0x4003 10 ∷ word1 3 0x4008 0x0 10 ∷ []) ∷ [])
    (Some (2 ∷ 0 ∷ 1 ∷ 1 ∷ 0 ∷ 0 ∷ 0 ∷ 0 ∷ []))
unfolding on_worked_walks on_worked_runs
fresh_without_rows = (refl, refl)

-- full inbox delivers the oldest
full_inbox_delivers_the_oldest : Comes (header 2 ((0x0, 0x10000) ∷ []) Small Fifo)
    (Store 0 0x1000 0x2003 ∷ Store 0 0x2008 0x3003 ∷ Store 0 0x3008 0x4003 ∷ Store 0 0x4008 0x5403 ∷ Msr 0 TcrEl1 0x10 ∷ Msr 0 Ttbr0El1 0x1000 ∷
    Msr 0 SctlrEl1 0x1 ∷ Isb 0 ∷ Access 0 (access 0x40201abc El1 Read false) ∷ Store 0 0x4008 0x0 ∷ Tlbi 0 FromEl1 Vae1 false 0x40201 ∷
    Tlbi 0 FromEl1 Vae1 false 0x1 ∷ Tlbi 0 FromEl1 Vae1 false 0x1 ∷ Tlbi 0 FromEl1 Vae1 false 0x1 ∷ Tlbi 0 FromEl1 Vae1 false 0x1 ∷
    Tlbi 0 FromEl1 Vae1 false 0x1 ∷ Tlbi 0 FromEl1 Vae1 false 0x1 ∷ Tlbi 0 FromEl1 Vae1 false 0x1 ∷ Tlbi 0 FromEl1 Vae1 false 0x1 ∷
    Tlbi 0 FromEl1 Vae1 false 0x1 ∷ Tlbi 0 FromEl1 Vae1 false 0x1 ∷ Tlbi 0 FromEl1 Vae1 false 0x1 ∷ Tlbi 0 FromEl1 Vae1 false 0x1 ∷
    Tlbi 0 FromEl1 Vae1 false 0x1 ∷ Tlbi 0 FromEl1 Vae1 false 0x1 ∷ Tlbi 0 FromEl1 Vae1 false 0x1 ∷ Tlbi 0 FromEl1 Vae1 false 0x1 ∷
    Tlbi 0 FromEl1 Vae1 false 0x1 ∷ Tlbi 0 FromEl1 Vae1 false 0x1 ∷ Tlbi 0 FromEl1 Vae1 false 0x1 ∷ Tlbi 0 FromEl1 Vae1 false 0x1 ∷
    Tlbi 0 FromEl1 Vae1 false 0x1 ∷ Tlbi 0 FromEl1 Vae1 false 0x1 ∷ Tlbi 0 FromEl1 Vae1 false 0x1 ∷ Tlbi 0 FromEl1 Vae1 false 0x1 ∷
    Tlbi 0 FromEl1 Vae1 false 0x1 ∷ Tlbi 0 FromEl1 Vae1 false 0x1 ∷ Tlbi 0 FromEl1 Vae1 false 0x1 ∷ Tlbi 0 FromEl1 Vae1 false 0x1 ∷
    Tlbi 0 FromEl1 Vae1 false 0x1 ∷ Tlbi 0 FromEl1 Vae1 false 0x1 ∷ Tlbi 0 FromEl1 Vae1 false 0x1 ∷ Tlbi 0 FromEl1 Vae1 false 0x1 ∷
    Tlbi 0 FromEl1 Vae1 false 0x1 ∷ Tlbi 0 FromEl1 Vae1 false 0x1 ∷ Tlbi 0 FromEl1 Vae1 false 0x1 ∷ Tlbi 0 FromEl1 Vae1 false 0x1 ∷
    Tlbi 0 FromEl1 Vae1 false 0x1 ∷ Tlbi 0 FromEl1 Vae1 false 0x1 ∷ Tlbi 0 FromEl1 Vae1 false 0x1 ∷ Tlbi 0 FromEl1 Vae1 false 0x1 ∷
    Tlbi 0 FromEl1 Vae1 false 0x1 ∷ Tlbi 0 FromEl1 Vae1 false 0x1 ∷ Tlbi 0 FromEl1 Vae1 false 0x1 ∷ Tlbi 0 FromEl1 Vae1 false 0x1 ∷
    Tlbi 0 FromEl1 Vae1 false 0x1 ∷ Tlbi 0 FromEl1 Vae1 false 0x1 ∷ Tlbi 0 FromEl1 Vae1 false 0x1 ∷ Tlbi 0 FromEl1 Vae1 false 0x1 ∷
    Tlbi 0 FromEl1 Vae1 false 0x1 ∷ Tlbi 0 FromEl1 Vae1 false 0x1 ∷ Tlbi 0 FromEl1 Vae1 false 0x1 ∷ Tlbi 0 FromEl1 Vae1 false 0x1 ∷
    Tlbi 0 FromEl1 Vae1 false 0x1 ∷ Tlbi 0 FromEl1 Vae1 false 0x1 ∷ Tlbi 0 FromEl1 Vae1 false 0x1 ∷ Tlbi 0 FromEl1 Vae1 false 0x1 ∷
    Tlbi 0 FromEl1 Vae1 false 0x1 ∷ Tlbi 0 FromEl1 Vae1 false 0x1 ∷ Tlbi 0 FromEl1 Vae1 false 0x1 ∷ Tlbi 0 FromEl1 Vae1 false 0x1 ∷
    Tlbi 0 FromEl1 Vae1 false 0x1 ∷ Tlbi 0 FromEl1 Vae1 false 0x1 ∷ Tlbi 0 FromEl1 Vae1 false 0x1 ∷ Tlbi 0 FromEl1 Vae1 false 0x1 ∷
    Access 0 (access 0x40201abc El1 Read false) ∷ [])
    (told 75 0x0 0x0 (fault S1 3 Translation)
    (start1 0 0x1000 75 ∷ word1 0 0x1000 0x2003 75 ∷ word1 1 0x2008 0x3003 75 ∷ word1 2 0x3008 0x4003 75 ∷ word1 3 0x4008 0x0 75 ∷ []) ∷ [])
    (None)
unfolding on_worked_walks on_worked_runs
full_inbox_delivers_the_oldest = (refl, tt)

-- full queue settles the oldest
full_queue_settles_the_oldest : Comes (header 2 ((0x0, 0x10000) ∷ []) NoRows Fifo)
    (Store 0 0x1000 0x2003 ∷ Store 0 0x2008 0x3003 ∷ Store 0 0x3008 0x4003 ∷ Store 0 0x4008 0x5403 ∷ Msr 0 TcrEl1 0x10 ∷ Msr 0 Ttbr0El1 0x1000 ∷
    Msr 0 SctlrEl1 0x1 ∷ Isb 0 ∷ Msr 0 Ttbr0El1 0x6000 ∷ Msr 0 MairEl1 0x0 ∷ Msr 0 MairEl1 0x0 ∷ Msr 0 MairEl1 0x0 ∷ Msr 0 MairEl1 0x0 ∷
    Msr 0 MairEl1 0x0 ∷ Msr 0 MairEl1 0x0 ∷ Msr 0 MairEl1 0x0 ∷ Msr 0 MairEl1 0x0 ∷ Msr 0 MairEl1 0x0 ∷ Msr 0 MairEl1 0x0 ∷ Msr 0 MairEl1 0x0 ∷
    Msr 0 MairEl1 0x0 ∷ Msr 0 MairEl1 0x0 ∷ Msr 0 MairEl1 0x0 ∷ Msr 0 MairEl1 0x0 ∷ Msr 0 MairEl1 0x0 ∷ Msr 0 MairEl1 0x0 ∷ Msr 0 MairEl1 0x0 ∷
    Msr 0 MairEl1 0x0 ∷ Msr 0 MairEl1 0x0 ∷ Msr 0 MairEl1 0x0 ∷ Msr 0 MairEl1 0x0 ∷ Msr 0 MairEl1 0x0 ∷ Msr 0 MairEl1 0x0 ∷ Msr 0 MairEl1 0x0 ∷
    Msr 0 MairEl1 0x0 ∷ Msr 0 MairEl1 0x0 ∷ Msr 0 MairEl1 0x0 ∷ Msr 0 MairEl1 0x0 ∷ Msr 0 MairEl1 0x0 ∷ Msr 0 MairEl1 0x0 ∷ Msr 0 MairEl1 0x0 ∷
    Msr 0 MairEl1 0x0 ∷ Msr 0 MairEl1 0x0 ∷ Msr 0 MairEl1 0x0 ∷ Msr 0 MairEl1 0x0 ∷ Msr 0 MairEl1 0x0 ∷ Msr 0 MairEl1 0x0 ∷ Msr 0 MairEl1 0x0 ∷
    Msr 0 MairEl1 0x0 ∷ Msr 0 MairEl1 0x0 ∷ Msr 0 MairEl1 0x0 ∷ Msr 0 MairEl1 0x0 ∷ Msr 0 MairEl1 0x0 ∷ Msr 0 MairEl1 0x0 ∷ Msr 0 MairEl1 0x0 ∷
    Msr 0 MairEl1 0x0 ∷ Msr 0 MairEl1 0x0 ∷ Msr 0 MairEl1 0x0 ∷ Msr 0 MairEl1 0x0 ∷ Msr 0 MairEl1 0x0 ∷ Msr 0 MairEl1 0x0 ∷ Msr 0 MairEl1 0x0 ∷
    Msr 0 MairEl1 0x0 ∷ Msr 0 MairEl1 0x0 ∷ Msr 0 MairEl1 0x0 ∷ Msr 0 MairEl1 0x0 ∷ Msr 0 MairEl1 0x0 ∷ Msr 0 MairEl1 0x0 ∷ Msr 0 MairEl1 0x0 ∷
    Msr 0 MairEl1 0x0 ∷ Msr 0 MairEl1 0x0 ∷ Msr 0 MairEl1 0x0 ∷ Msr 0 MairEl1 0x0 ∷ Access 0 (access 0x40201abc El1 Read false) ∷ [])
    (told 73 0x0 0x0 (fault S1 0 Translation)
    (start1 0 0x6000 73 ∷ word1 0 0x6000 0x0 73 ∷ []) ∷ [])
    (None)
unfolding on_worked_walks on_worked_runs
full_queue_settles_the_oldest = (refl, tt)

-- global leaf of another asid
global_leaf_of_another_asid : Comes (header 2 ((0x0, 0x10000) ∷ []) Small Fifo)
    (Store 0 0x1000 0x2003 ∷ Store 0 0x2008 0x3003 ∷ Store 0 0x3008 0x4003 ∷ Store 0 0x4008 0x5403 ∷ Msr 0 TcrEl1 0x10 ∷
    Msr 0 Ttbr0El1 0x1000000001000 ∷ Msr 0 SctlrEl1 0x1 ∷ Isb 0 ∷ Access 0 (access 0x40201abc El1 Read false) ∷ Msr 0 Ttbr0El1 0x2000000001000 ∷
    Isb 0 ∷ Access 0 (access 0x40201abc El1 Read false) ∷ [])
    (told 11 0x2 0x0 (mapped 0x5abc "--x" "rwx" (Device NGnRnE) Osh)
    (start1 0 0x1000 8 ∷ word1 0 0x1000 0x2003 8 ∷ word1 1 0x2008 0x3003 8 ∷ word1 2 0x3008 0x4003 8 ∷ word1 3 0x4008 0x5403 8 ∷ []) ∷ [])
    (None)
unfolding on_worked_walks on_worked_runs
global_leaf_of_another_asid = (refl, tt)

-- inbox of 64 waits
inbox_of_64_waits : Comes (header 2 ((0x0, 0x10000) ∷ []) Small Fifo)
    (Store 0 0x1000 0x2003 ∷ Store 0 0x2008 0x3003 ∷ Store 0 0x3008 0x4003 ∷ Store 0 0x4008 0x5403 ∷ Msr 0 TcrEl1 0x10 ∷ Msr 0 Ttbr0El1 0x1000 ∷
    Msr 0 SctlrEl1 0x1 ∷ Isb 0 ∷ Access 0 (access 0x40201abc El1 Read false) ∷ Store 0 0x4008 0x0 ∷ Tlbi 0 FromEl1 Vae1 false 0x40201 ∷
    Tlbi 0 FromEl1 Vae1 false 0x1 ∷ Tlbi 0 FromEl1 Vae1 false 0x1 ∷ Tlbi 0 FromEl1 Vae1 false 0x1 ∷ Tlbi 0 FromEl1 Vae1 false 0x1 ∷
    Tlbi 0 FromEl1 Vae1 false 0x1 ∷ Tlbi 0 FromEl1 Vae1 false 0x1 ∷ Tlbi 0 FromEl1 Vae1 false 0x1 ∷ Tlbi 0 FromEl1 Vae1 false 0x1 ∷
    Tlbi 0 FromEl1 Vae1 false 0x1 ∷ Tlbi 0 FromEl1 Vae1 false 0x1 ∷ Tlbi 0 FromEl1 Vae1 false 0x1 ∷ Tlbi 0 FromEl1 Vae1 false 0x1 ∷
    Tlbi 0 FromEl1 Vae1 false 0x1 ∷ Tlbi 0 FromEl1 Vae1 false 0x1 ∷ Tlbi 0 FromEl1 Vae1 false 0x1 ∷ Tlbi 0 FromEl1 Vae1 false 0x1 ∷
    Tlbi 0 FromEl1 Vae1 false 0x1 ∷ Tlbi 0 FromEl1 Vae1 false 0x1 ∷ Tlbi 0 FromEl1 Vae1 false 0x1 ∷ Tlbi 0 FromEl1 Vae1 false 0x1 ∷
    Tlbi 0 FromEl1 Vae1 false 0x1 ∷ Tlbi 0 FromEl1 Vae1 false 0x1 ∷ Tlbi 0 FromEl1 Vae1 false 0x1 ∷ Tlbi 0 FromEl1 Vae1 false 0x1 ∷
    Tlbi 0 FromEl1 Vae1 false 0x1 ∷ Tlbi 0 FromEl1 Vae1 false 0x1 ∷ Tlbi 0 FromEl1 Vae1 false 0x1 ∷ Tlbi 0 FromEl1 Vae1 false 0x1 ∷
    Tlbi 0 FromEl1 Vae1 false 0x1 ∷ Tlbi 0 FromEl1 Vae1 false 0x1 ∷ Tlbi 0 FromEl1 Vae1 false 0x1 ∷ Tlbi 0 FromEl1 Vae1 false 0x1 ∷
    Tlbi 0 FromEl1 Vae1 false 0x1 ∷ Tlbi 0 FromEl1 Vae1 false 0x1 ∷ Tlbi 0 FromEl1 Vae1 false 0x1 ∷ Tlbi 0 FromEl1 Vae1 false 0x1 ∷
    Tlbi 0 FromEl1 Vae1 false 0x1 ∷ Tlbi 0 FromEl1 Vae1 false 0x1 ∷ Tlbi 0 FromEl1 Vae1 false 0x1 ∷ Tlbi 0 FromEl1 Vae1 false 0x1 ∷
    Tlbi 0 FromEl1 Vae1 false 0x1 ∷ Tlbi 0 FromEl1 Vae1 false 0x1 ∷ Tlbi 0 FromEl1 Vae1 false 0x1 ∷ Tlbi 0 FromEl1 Vae1 false 0x1 ∷
    Tlbi 0 FromEl1 Vae1 false 0x1 ∷ Tlbi 0 FromEl1 Vae1 false 0x1 ∷ Tlbi 0 FromEl1 Vae1 false 0x1 ∷ Tlbi 0 FromEl1 Vae1 false 0x1 ∷
    Tlbi 0 FromEl1 Vae1 false 0x1 ∷ Tlbi 0 FromEl1 Vae1 false 0x1 ∷ Tlbi 0 FromEl1 Vae1 false 0x1 ∷ Tlbi 0 FromEl1 Vae1 false 0x1 ∷
    Tlbi 0 FromEl1 Vae1 false 0x1 ∷ Tlbi 0 FromEl1 Vae1 false 0x1 ∷ Tlbi 0 FromEl1 Vae1 false 0x1 ∷ Tlbi 0 FromEl1 Vae1 false 0x1 ∷
    Tlbi 0 FromEl1 Vae1 false 0x1 ∷ Tlbi 0 FromEl1 Vae1 false 0x1 ∷ Tlbi 0 FromEl1 Vae1 false 0x1 ∷ Tlbi 0 FromEl1 Vae1 false 0x1 ∷
    Tlbi 0 FromEl1 Vae1 false 0x1 ∷ Tlbi 0 FromEl1 Vae1 false 0x1 ∷ Tlbi 0 FromEl1 Vae1 false 0x1 ∷ Access 0 (access 0x40201abc El1 Read false) ∷ [])
    (told 74 0x0 0x0 (mapped 0x5abc "--x" "rwx" (Device NGnRnE) Osh)
    (start1 0 0x1000 8 ∷ word1 0 0x1000 0x2003 8 ∷ word1 1 0x2008 0x3003 8 ∷ word1 2 0x3008 0x4003 8 ∷ word1 3 0x4008 0x5403 8 ∷ []) ∷ [])
    (None)
unfolding on_worked_walks on_worked_runs
inbox_of_64_waits = (refl, tt)

-- ipa form leaves combined rows
ipa_form_leaves_combined_rows : Comes (header 2 ((0x0, 0x10000) ∷ []) Small Fifo)
    (Store 0 0x1000 0x2003 ∷ Store 0 0x2008 0x3003 ∷ Store 0 0x3008 0x4003 ∷ Store 0 0x4008 0x5403 ∷ Store 0 0x8000 0x4fd ∷ Msr 0 TcrEl1 0x10 ∷
    Msr 0 Ttbr0El1 0x1000 ∷ Msr 0 VtcrEl2 0x20058 ∷ Msr 0 VttbrEl2 0x8000 ∷ Msr 0 HcrEl2 0x1 ∷ Msr 0 SctlrEl1 0x1 ∷ Isb 0 ∷
    Access 0 (access 0x40201abc El1 Read false) ∷ Store 0 0x8000 0x0 ∷ Tlbi 0 FromEl2 Ipas2e1 true 0x5 ∷ Dsb 0 DsbIsh ∷
    Access 0 (access 0x40201abc El1 Read false) ∷ Tlbi 0 FromEl1 Vmalle1 true 0 ∷ Dsb 0 DsbIsh ∷ Access 0 (access 0x40201abc El1 Read false) ∷ [])
    (told 12 0x0 0x0 (mapped 0x5abc "--x" "rwx" (Device NGnRnE) Osh)
    (start1 0 0x1000 12 ∷ start2 1 0x8000 12 ∷ word2 1 0x8000 0x4fd 12 ∷ word1 0 0x1000 0x2003 12 ∷ start2 1 0x8000 12 ∷
    word2 1 0x8000 0x4fd 12 ∷ word1 1 0x2008 0x3003 12 ∷ start2 1 0x8000 12 ∷ word2 1 0x8000 0x4fd 12 ∷ word1 2 0x3008 0x4003 12 ∷
    start2 1 0x8000 12 ∷ word2 1 0x8000 0x4fd 12 ∷ word1 3 0x4008 0x5403 12 ∷ start2 1 0x8000 12 ∷ word2 1 0x8000 0x4fd 12 ∷ []) ∷
    told 16 0x0 0x0 (mapped 0x5abc "--x" "rwx" (Device NGnRnE) Osh)
    (start1 0 0x1000 12 ∷ start2 1 0x8000 12 ∷ word2 1 0x8000 0x4fd 12 ∷ word1 0 0x1000 0x2003 12 ∷ start2 1 0x8000 12 ∷
    word2 1 0x8000 0x4fd 12 ∷ word1 1 0x2008 0x3003 12 ∷ start2 1 0x8000 12 ∷ word2 1 0x8000 0x4fd 12 ∷ word1 2 0x3008 0x4003 12 ∷
    start2 1 0x8000 12 ∷ word2 1 0x8000 0x4fd 12 ∷ word1 3 0x4008 0x5403 12 ∷ start2 1 0x8000 12 ∷ word2 1 0x8000 0x4fd 12 ∷ []) ∷
    told 19 0x0 0x0 (fault2 1 Translation)
    (start1 0 0x1000 19 ∷ start2 1 0x8000 19 ∷ word2 1 0x8000 0x0 19 ∷ []) ∷ [])
    (None)
unfolding on_worked_walks on_worked_runs
ipa_form_leaves_combined_rows = (refl, tt)

-- leaf of another asid
leaf_of_another_asid : Comes (header 2 ((0x0, 0x10000) ∷ []) Small Fifo)
    (Store 0 0x1000 0x2003 ∷ Store 0 0x2008 0x3003 ∷ Store 0 0x3008 0x4003 ∷ Store 0 0x4008 0x5c03 ∷ Msr 0 TcrEl1 0x10 ∷
    Msr 0 Ttbr0El1 0x1000000001000 ∷ Msr 0 SctlrEl1 0x1 ∷ Isb 0 ∷ Access 0 (access 0x40201abc El1 Read false) ∷ Msr 0 Ttbr0El1 0x2000000001000 ∷
    Isb 0 ∷ Access 0 (access 0x40201abc El1 Read false) ∷ [])
    (told 11 0x2 0x0 (mapped 0x5abc "--x" "rwx" (Device NGnRnE) Osh)
    (start1 0 0x1000 11 ∷ word1 0 0x1000 0x2003 11 ∷ word1 1 0x2008 0x3003 11 ∷ word1 2 0x3008 0x4003 11 ∷ word1 3 0x4008 0x5c03 11 ∷ []) ∷ [])
    (None)
unfolding on_worked_walks on_worked_runs
leaf_of_another_asid = (refl, tt)

-- lru keeps the used page
lru_keeps_the_used_page : Comes (header 2 ((0x0, 0x10000) ∷ []) Small Lru)
    (Store 0 0x1000 0x2003 ∷ Store 0 0x2008 0x3003 ∷ Store 0 0x3008 0x4003 ∷ Store 0 0x4000 0x5403 ∷ Store 0 0x4008 0x6403 ∷ Store 0 0x4010 0x7403 ∷
    Store 0 0x4018 0x8403 ∷ Store 0 0x4020 0x9403 ∷ Store 0 0x4028 0xa403 ∷ Store 0 0x4030 0xb403 ∷ Store 0 0x4038 0xc403 ∷ Store 0 0x4040 0xd403 ∷
    Msr 0 TcrEl1 0x10 ∷ Msr 0 Ttbr0El1 0x1000 ∷ Msr 0 SctlrEl1 0x1 ∷ Isb 0 ∷ Access 0 (access 0x40200000 El1 Read false) ∷
    Access 0 (access 0x40201000 El1 Read false) ∷ Access 0 (access 0x40202000 El1 Read false) ∷ Access 0 (access 0x40203000 El1 Read false) ∷
    Access 0 (access 0x40204000 El1 Read false) ∷ Access 0 (access 0x40205000 El1 Read false) ∷ Access 0 (access 0x40206000 El1 Read false) ∷
    Access 0 (access 0x40207000 El1 Read false) ∷ Access 0 (access 0x40200000 El1 Read false) ∷ Access 0 (access 0x40208000 El1 Read false) ∷
    Access 0 (access 0x40200000 El1 Read false) ∷ Access 0 (access 0x40201000 El1 Read false) ∷ [])
    (told 26 0x0 0x0 (mapped 0x5000 "--x" "rwx" (Device NGnRnE) Osh)
    (start1 0 0x1000 16 ∷ word1 0 0x1000 0x2003 16 ∷ word1 1 0x2008 0x3003 16 ∷ word1 2 0x3008 0x4003 16 ∷ word1 3 0x4000 0x5403 16 ∷ []) ∷
    told 27 0x0 0x0 (mapped 0x6000 "--x" "rwx" (Device NGnRnE) Osh)
    (start1 0 0x1000 16 ∷ word1 0 0x1000 0x2003 16 ∷ word1 1 0x2008 0x3003 16 ∷ word1 2 0x3008 0x4003 16 ∷ word1 3 0x4008 0x6403 27 ∷ []) ∷ [])
    (Some (12 ∷ 0 ∷ 12 ∷ 0 ∷ 0 ∷ 11 ∷ 0 ∷ 2 ∷ []))
unfolding on_worked_walks on_worked_runs
lru_keeps_the_used_page = (refl, refl)

-- misplaced run is ignored
misplaced_run_is_ignored : Comes (header 2 ((0x0, 0x10000) ∷ []) Small Fifo)
    (Store 0 0x1000 0x2003 ∷ Store 0 0x2008 0x3003 ∷ Store 0 0x3008 0x4003 ∷ Store 0 0x4008 0x10000000015403 ∷ Msr 0 TcrEl1 0x10 ∷
    Msr 0 Ttbr0El1 0x1000 ∷ Msr 0 SctlrEl1 0x1 ∷ Isb 0 ∷ Access 0 (access 0x40201abc El1 Read false) ∷ Access 0 (access 0x40202000 El1 Read false) ∷
    [])
    (told 9 0x0 0x0 (fault S1 3 Translation)
    (start1 0 0x1000 8 ∷ word1 0 0x1000 0x2003 8 ∷ word1 1 0x2008 0x3003 8 ∷ word1 2 0x3008 0x4003 8 ∷ word1 3 0x4010 0x0 9 ∷ []) ∷ [])
    (None)
unfolding on_worked_walks on_worked_runs
misplaced_run_is_ignored = (refl, tt)

-- nine pages in sets
nine_pages_in_sets : Comes (header 2 ((0x0, 0x10000) ∷ []) Medium Fifo)
    (Store 0 0x1000 0x2003 ∷ Store 0 0x2008 0x3003 ∷ Store 0 0x3008 0x4003 ∷ Store 0 0x4000 0x5403 ∷ Store 0 0x4008 0x6403 ∷ Store 0 0x4010 0x7403 ∷
    Store 0 0x4018 0x8403 ∷ Store 0 0x4020 0x9403 ∷ Store 0 0x4028 0xa403 ∷ Store 0 0x4030 0xb403 ∷ Store 0 0x4038 0xc403 ∷ Store 0 0x4040 0xd403 ∷
    Msr 0 TcrEl1 0x10 ∷ Msr 0 Ttbr0El1 0x1000 ∷ Msr 0 SctlrEl1 0x1 ∷ Isb 0 ∷ Access 0 (access 0x40200000 El1 Read false) ∷
    Access 0 (access 0x40201000 El1 Read false) ∷ Access 0 (access 0x40202000 El1 Read false) ∷ Access 0 (access 0x40203000 El1 Read false) ∷
    Access 0 (access 0x40204000 El1 Read false) ∷ Access 0 (access 0x40205000 El1 Read false) ∷ Access 0 (access 0x40206000 El1 Read false) ∷
    Access 0 (access 0x40207000 El1 Read false) ∷ Access 0 (access 0x40208000 El1 Read false) ∷ Access 0 (access 0x40200000 El1 Read false) ∷ [])
    (told 25 0x0 0x0 (mapped 0x5000 "--x" "rwx" (Device NGnRnE) Osh)
    (start1 0 0x1000 16 ∷ word1 0 0x1000 0x2003 16 ∷ word1 1 0x2008 0x3003 16 ∷ word1 2 0x3008 0x4003 16 ∷ word1 3 0x4000 0x5403 16 ∷ []) ∷ [])
    (Some (10 ∷ 0 ∷ 10 ∷ 0 ∷ 0 ∷ 9 ∷ 0 ∷ 0 ∷ []))
unfolding on_worked_walks on_worked_runs
nine_pages_in_sets = (refl, refl)

-- ninth page evicts a drawn one
ninth_page_evicts_a_drawn_one : Comes (header 2 ((0x0, 0x10000) ∷ []) Small (Random 0x0))
    (Store 0 0x1000 0x2003 ∷ Store 0 0x2008 0x3003 ∷ Store 0 0x3008 0x4003 ∷ Store 0 0x4000 0x5403 ∷ Store 0 0x4008 0x6403 ∷ Store 0 0x4010 0x7403 ∷
    Store 0 0x4018 0x8403 ∷ Store 0 0x4020 0x9403 ∷ Store 0 0x4028 0xa403 ∷ Store 0 0x4030 0xb403 ∷ Store 0 0x4038 0xc403 ∷ Store 0 0x4040 0xd403 ∷
    Msr 0 TcrEl1 0x10 ∷ Msr 0 Ttbr0El1 0x1000 ∷ Msr 0 SctlrEl1 0x1 ∷ Isb 0 ∷ Access 0 (access 0x40200000 El1 Read false) ∷
    Access 0 (access 0x40201000 El1 Read false) ∷ Access 0 (access 0x40202000 El1 Read false) ∷ Access 0 (access 0x40203000 El1 Read false) ∷
    Access 0 (access 0x40204000 El1 Read false) ∷ Access 0 (access 0x40205000 El1 Read false) ∷ Access 0 (access 0x40206000 El1 Read false) ∷
    Access 0 (access 0x40207000 El1 Read false) ∷ Access 0 (access 0x40208000 El1 Read false) ∷ Access 0 (access 0x40200000 El1 Read false) ∷ [])
    (told 25 0x0 0x0 (mapped 0x5000 "--x" "rwx" (Device NGnRnE) Osh)
    (start1 0 0x1000 16 ∷ word1 0 0x1000 0x2003 16 ∷ word1 1 0x2008 0x3003 16 ∷ word1 2 0x3008 0x4003 16 ∷ word1 3 0x4000 0x5403 16 ∷ []) ∷ [])
    (Some (10 ∷ 0 ∷ 10 ∷ 0 ∷ 0 ∷ 9 ∷ 0 ∷ 1 ∷ []))
unfolding on_worked_walks on_worked_runs
ninth_page_evicts_a_drawn_one = (refl, refl)

-- ninth page evicts the first
ninth_page_evicts_the_first : Comes (header 2 ((0x0, 0x10000) ∷ []) Small Fifo)
    (Store 0 0x1000 0x2003 ∷ Store 0 0x2008 0x3003 ∷ Store 0 0x3008 0x4003 ∷ Store 0 0x4000 0x5403 ∷ Store 0 0x4008 0x6403 ∷ Store 0 0x4010 0x7403 ∷
    Store 0 0x4018 0x8403 ∷ Store 0 0x4020 0x9403 ∷ Store 0 0x4028 0xa403 ∷ Store 0 0x4030 0xb403 ∷ Store 0 0x4038 0xc403 ∷ Store 0 0x4040 0xd403 ∷
    Msr 0 TcrEl1 0x10 ∷ Msr 0 Ttbr0El1 0x1000 ∷ Msr 0 SctlrEl1 0x1 ∷ Isb 0 ∷ Access 0 (access 0x40200000 El1 Read false) ∷
    Access 0 (access 0x40201000 El1 Read false) ∷ Access 0 (access 0x40202000 El1 Read false) ∷ Access 0 (access 0x40203000 El1 Read false) ∷
    Access 0 (access 0x40204000 El1 Read false) ∷ Access 0 (access 0x40205000 El1 Read false) ∷ Access 0 (access 0x40206000 El1 Read false) ∷
    Access 0 (access 0x40207000 El1 Read false) ∷ Access 0 (access 0x40208000 El1 Read false) ∷ Access 0 (access 0x40200000 El1 Read false) ∷ [])
    (told 25 0x0 0x0 (mapped 0x5000 "--x" "rwx" (Device NGnRnE) Osh)
    (start1 0 0x1000 16 ∷ word1 0 0x1000 0x2003 16 ∷ word1 1 0x2008 0x3003 16 ∷ word1 2 0x3008 0x4003 16 ∷ word1 3 0x4000 0x5403 25 ∷ []) ∷ [])
    (Some (10 ∷ 0 ∷ 10 ∷ 0 ∷ 0 ∷ 9 ∷ 0 ∷ 2 ∷ []))
unfolding on_worked_walks on_worked_runs
ninth_page_evicts_the_first = (refl, refl)

-- page beside a block
page_beside_a_block : Comes (header 2 ((0x0, 0x10000) ∷ []) Small Fifo)
    (Store 0 0x1000 0x2003 ∷ Store 0 0x2008 0x3003 ∷ Store 0 0x3008 0x4003 ∷ Store 0 0x4008 0x5403 ∷ Msr 0 TcrEl1 0x10 ∷ Msr 0 Ttbr0El1 0x1000 ∷
    Msr 0 SctlrEl1 0x1 ∷ Isb 0 ∷ Access 0 (access 0x40201abc El1 Read false) ∷ Store 0 0x3008 0x600401 ∷ Tlbi 0 FromEl1 Vae1 false 0x40202 ∷
    Dsb 0 DsbNsh ∷ Access 0 (access 0x40202000 El1 Read false) ∷ Access 0 (access 0x40201abc El1 Read false) ∷ [])
    (told 12 0x0 0x0 (mapped 0x602000 "--x" "rwx" (Device NGnRnE) Osh)
    (start1 0 0x1000 12 ∷ word1 0 0x1000 0x2003 12 ∷ word1 1 0x2008 0x3003 12 ∷ word1 2 0x3008 0x600401 12 ∷ []) ∷
    conflict_told 13 0x0 0x0
    (start1 0 0x1000 8 ∷ word1 0 0x1000 0x2003 8 ∷ word1 1 0x2008 0x3003 8 ∷ word1 2 0x3008 0x4003 8 ∷ word1 3 0x4008 0x5403 8 ∷ [])
    (start1 0 0x1000 12 ∷ word1 0 0x1000 0x2003 12 ∷ word1 1 0x2008 0x3003 12 ∷ word1 2 0x3008 0x600401 12 ∷ []) ∷ [])
    (None)
unfolding on_worked_walks on_worked_runs
page_beside_a_block = (refl, tt)

-- prefetch makes rows
prefetch_makes_rows : Comes (header 2 ((0x0, 0x10000) ∷ []) Small Fifo)
    (Store 0 0x1000 0x2003 ∷ Store 0 0x2008 0x3003 ∷ Store 0 0x3008 0x4003 ∷ Store 0 0x4008 0x5403 ∷ Msr 0 TcrEl1 0x10 ∷ Msr 0 Ttbr0El1 0x1000 ∷
    Msr 0 SctlrEl1 0x1 ∷ Isb 0 ∷ Prefetch 0 (access 0x40201abc El1 Read false) ∷ Store 0 0x4008 0x0 ∷ Access 0 (access 0x40201abc El1 Read false) ∷
    [])
    (told 8 0x0 0x0 (mapped 0x5abc "--x" "rwx" (Device NGnRnE) Osh)
    (start1 0 0x1000 8 ∷ word1 0 0x1000 0x2003 8 ∷ word1 1 0x2008 0x3003 8 ∷ word1 2 0x3008 0x4003 8 ∷ word1 3 0x4008 0x5403 8 ∷ []) ∷
    told 10 0x0 0x0 (mapped 0x5abc "--x" "rwx" (Device NGnRnE) Osh)
    (start1 0 0x1000 8 ∷ word1 0 0x1000 0x2003 8 ∷ word1 1 0x2008 0x3003 8 ∷ word1 2 0x3008 0x4003 8 ∷ word1 3 0x4008 0x5403 8 ∷ []) ∷ [])
    (Some (1 ∷ 1 ∷ 2 ∷ 0 ∷ 0 ∷ 1 ∷ 1 ∷ 0 ∷ []))
unfolding on_worked_walks on_worked_runs
prefetch_makes_rows = (refl, refl)

-- run serves its pages
run_serves_its_pages : Comes (header 2 ((0x0, 0x10000) ∷ []) Small Fifo)
    (Store 0 0x1000 0x2003 ∷ Store 0 0x2008 0x3003 ∷ Store 0 0x3008 0x4003 ∷ Store 0 0x4008 0x10000000011403 ∷ Msr 0 TcrEl1 0x10 ∷
    Msr 0 Ttbr0El1 0x1000 ∷ Msr 0 SctlrEl1 0x1 ∷ Isb 0 ∷ Access 0 (access 0x40201abc El1 Read false) ∷ Access 0 (access 0x40202000 El1 Read false) ∷
    [])
    (told 8 0x0 0x0 (mapped 0x11abc "--x" "rwx" (Device NGnRnE) Osh)
    (start1 0 0x1000 8 ∷ word1 0 0x1000 0x2003 8 ∷ word1 1 0x2008 0x3003 8 ∷ word1 2 0x3008 0x4003 8 ∷ word1 3 0x4008 0x10000000011403 8 ∷ []) ∷
    told 9 0x0 0x0 (mapped 0x12000 "--x" "rwx" (Device NGnRnE) Osh)
    (start1 0 0x1000 8 ∷ word1 0 0x1000 0x2003 8 ∷ word1 1 0x2008 0x3003 8 ∷ word1 2 0x3008 0x4003 8 ∷ word1 3 0x4008 0x10000000011403 8 ∷ []) ∷ [])
    (None)
unfolding on_worked_walks on_worked_runs
run_serves_its_pages = (refl, tt)

-- tables of both stages serve
tables_of_both_stages_serve : Comes (header 2 ((0x0, 0x10000) ∷ []) Small Fifo)
    (Store 0 0x1000 0x2003 ∷ Store 0 0x2008 0x3003 ∷ Store 0 0x3008 0x4003 ∷ Store 0 0x4008 0x5403 ∷ Store 0 0x8000 0x4fd ∷ Msr 0 TcrEl1 0x10 ∷
    Msr 0 Ttbr0El1 0x1000 ∷ Msr 0 VtcrEl2 0x20058 ∷ Msr 0 VttbrEl2 0x8000 ∷ Msr 0 HcrEl2 0x1 ∷ Msr 0 SctlrEl1 0x1 ∷ Isb 0 ∷
    Access 0 (access 0x40201abc El1 Read false) ∷ Store 0 0x8000 0x0 ∷ Access 0 (access 0x40202000 El1 Read false) ∷ [])
    (told 14 0x0 0x0 (fault S1 3 Translation)
    (start1 0 0x1000 12 ∷ start2 1 0x8000 12 ∷ word2 1 0x8000 0x4fd 12 ∷ word1 0 0x1000 0x2003 12 ∷ start2 1 0x8000 12 ∷
    word2 1 0x8000 0x4fd 12 ∷ word1 1 0x2008 0x3003 12 ∷ start2 1 0x8000 12 ∷ word2 1 0x8000 0x4fd 12 ∷ word1 2 0x3008 0x4003 12 ∷
    start2 1 0x8000 12 ∷ word2 1 0x8000 0x4fd 12 ∷ word1 3 0x4010 0x0 14 ∷ []) ∷ [])
    (None)
unfolding on_worked_walks on_worked_runs
tables_of_both_stages_serve = (refl, tt)

-- write of a base waits
write_of_a_base_waits : Comes (header 2 ((0x0, 0x10000) ∷ []) NoRows Fifo)
    (Store 0 0x1000 0x2003 ∷ Store 0 0x2008 0x3003 ∷ Store 0 0x3008 0x4003 ∷ Store 0 0x4008 0x5403 ∷ Msr 0 TcrEl1 0x10 ∷ Msr 0 Ttbr0El1 0x1000 ∷
    Msr 0 SctlrEl1 0x1 ∷ Isb 0 ∷ Msr 0 Ttbr0El1 0x6000 ∷ Access 0 (access 0x40201abc El1 Read false) ∷ Settle 0 ∷
    Access 0 (access 0x40201abc El1 Read false) ∷ [])
    (told 9 0x0 0x0 (mapped 0x5abc "--x" "rwx" (Device NGnRnE) Osh)
    (start1 0 0x1000 9 ∷ word1 0 0x1000 0x2003 9 ∷ word1 1 0x2008 0x3003 9 ∷ word1 2 0x3008 0x4003 9 ∷ word1 3 0x4008 0x5403 9 ∷ []) ∷
    told 11 0x0 0x0 (fault S1 0 Translation)
    (start1 0 0x6000 11 ∷ word1 0 0x6000 0x0 11 ∷ []) ∷ [])
    (None)
unfolding on_worked_walks on_worked_runs
write_of_a_base_waits = (refl, tt)
