-- Worked runs, computed. Written by scripts/worked_runs.py from traces and their reports.
use Rattle.std.proofs.Common.{[], ◌∷◌, true, false, refl}
use Rattle.std.specs.Prelude.{Some}
use Rattle.sysregs.specs.declared.regs.Reg.TheVariants.{HcrEl2, MairEl1, SctlrEl1, TcrEl1, Ttbr0El1, VtcrEl2, VttbrEl2}
use Rattle.sysregs.specs.declared.regs.Op.TheVariants.{Vae1, Vale1, Aside1, Ipas2e1, Ipas2le1, Rvae1}
use Rattle.permissions.specs.declared.bits.El.TheVariants.{El0, El1}
use Rattle.permissions.specs.declared.bits.Kind.TheVariants.{Read, Write, Fetch}
use Rattle.attributes.specs.declared.kinds.Device.TheVariants.{NGnRnE}
use Rattle.attributes.specs.declared.kinds.MemType.TheVariants.{Device, Normal}
use Rattle.attributes.specs.declared.kinds.Share.TheVariants.{Nsh, Osh}
use Rattle.fault_codes.specs.declared.fault.Stage.TheVariants.{S1, S2}
use Rattle.fault_codes.specs.declared.fault.Class.TheVariants.{AccessFlag, AddressSize, External, Permission, Translation}
use Rattle.trails.specs.declared.event.Barrier.TheVariants.{Nsh as DsbNsh}
use Rattle.trails.specs.declared.event.Origin.TheVariants.{El1 as FromEl1, El2 as FromEl2}
use Rattle.trails.specs.declared.event.Event.TheVariants.{Store, Msr, Isb, Tlbi, Dsb, Access, Prefetch}
use Rattle.trace_lang.specs.declared.header.Size.TheVariants.{Small}
use Rattle.trace_lang.specs.declared.header.Policy.TheVariants.{Fifo}
use Rattle.walk_spec.proofs.Worked.{on_worked_walks, access, wb}
use Rattle.machine_spec.proofs.Worked.{header, on_worked_runs, Comes, told, conflict_told, mapped, fault, fault2, start1, start2, word1, word2}

-- several matching rows are a conflict that shows the two made first; it adds and removes nothing, counts as old and
-- never as stale
conflict_of_three_rows : Comes (header 1 ((0x0, 0x20000) ∷ []) Small Fifo)
    (Store 0 0x1018 0x4c03 ∷ Store 0 0x1028 0x10000000015c03 ∷ Store 0 0x1038 0x10000000017403 ∷ Msr 0 TcrEl1 0x30 ∷ Msr 0 Ttbr0El1 0x1000000001000 ∷
    Msr 0 SctlrEl1 0x1 ∷ Isb 0 ∷ Access 0 (access 0x3abc El1 Read false) ∷ Access 0 (access 0x5abc El1 Read false) ∷ Msr 0 Ttbr0El1 0x2000000001000 ∷
    Isb 0 ∷ Access 0 (access 0x7abc El1 Read false) ∷ Msr 0 Ttbr0El1 0x1000000001000 ∷ Isb 0 ∷ Access 0 (access 0x3abc El0 Read false) ∷
    Store 0 0x1018 0x4403 ∷ Access 0 (access 0x3abc El1 Read false) ∷ Access 0 (access 0x5abc El1 Read false) ∷
    Tlbi 0 FromEl1 Aside1 false 0x1000000000000 ∷ Dsb 0 DsbNsh ∷ Access 0 (access 0x3abc El1 Read false) ∷ [])
    (told 7 0x1 0x0 (mapped 0x4abc "--x" "rwx" (Device NGnRnE) Osh)
    (start1 3 0x1000 7 ∷ word1 3 0x1018 0x4c03 7 ∷ []) ∷
    told 8 0x1 0x0 (mapped 0x15abc "--x" "rwx" (Device NGnRnE) Osh)
    (start1 3 0x1000 8 ∷ word1 3 0x1028 0x10000000015c03 8 ∷ []) ∷
    told 11 0x2 0x0 (mapped 0x17abc "--x" "rwx" (Device NGnRnE) Osh)
    (start1 3 0x1000 11 ∷ word1 3 0x1038 0x10000000017403 11 ∷ []) ∷
    conflict_told 14 0x1 0x0
    (start1 3 0x1000 7 ∷ word1 3 0x1018 0x4c03 7 ∷ [])
    (start1 3 0x1000 8 ∷ word1 3 0x1028 0x10000000015c03 8 ∷ []) ∷
    conflict_told 16 0x1 0x0
    (start1 3 0x1000 7 ∷ word1 3 0x1018 0x4c03 7 ∷ [])
    (start1 3 0x1000 8 ∷ word1 3 0x1028 0x10000000015c03 8 ∷ []) ∷
    conflict_told 17 0x1 0x0
    (start1 3 0x1000 8 ∷ word1 3 0x1028 0x10000000015c03 8 ∷ [])
    (start1 3 0x1000 11 ∷ word1 3 0x1038 0x10000000017403 11 ∷ []) ∷
    told 20 0x1 0x0 (mapped 0x13abc "--x" "rwx" (Device NGnRnE) Osh)
    (start1 3 0x1000 11 ∷ word1 3 0x1038 0x10000000017403 11 ∷ []) ∷ [])
    (Some (7 ∷ 0 ∷ 4 ∷ 0 ∷ 3 ∷ 4 ∷ 0 ∷ 0 ∷ []))
unfolding on_worked_walks on_worked_runs
conflict_of_three_rows = (refl, refl)

-- rows serve only under an equal Config and stay while another one holds; another base serves the old trail, which
-- is stale
config_parts_rows : Comes (header 1 ((0x0, 0x20000) ∷ []) Small Fifo)
    (Store 0 0x1000 0x4403 ∷ Store 0 0x2000 0x5403 ∷ Msr 0 TcrEl1 0x30 ∷ Msr 0 Ttbr0El1 0x1000 ∷ Msr 0 SctlrEl1 0x1 ∷ Isb 0 ∷
    Access 0 (access 0xabc El1 Read false) ∷ Msr 0 MairEl1 0xff ∷ Isb 0 ∷ Access 0 (access 0xabc El1 Read false) ∷
    Access 0 (access 0xabc El1 Read false) ∷ Msr 0 MairEl1 0x0 ∷ Msr 0 Ttbr0El1 0x2000 ∷ Isb 0 ∷ Access 0 (access 0xabc El1 Read false) ∷
    Store 0 0x1000 0x0 ∷ Access 0 (access 0xabc El0 Read false) ∷ [])
    (told 6 0x0 0x0 (mapped 0x4abc "--x" "rwx" (Device NGnRnE) Osh)
    (start1 3 0x1000 6 ∷ word1 3 0x1000 0x4403 6 ∷ []) ∷
    told 9 0x0 0x0 (mapped 0x4abc "--x" "rwx" (Normal (wb "rw") (wb "rw") false) Nsh)
    (start1 3 0x1000 9 ∷ word1 3 0x1000 0x4403 9 ∷ []) ∷
    told 10 0x0 0x0 (mapped 0x4abc "--x" "rwx" (Normal (wb "rw") (wb "rw") false) Nsh)
    (start1 3 0x1000 9 ∷ word1 3 0x1000 0x4403 9 ∷ []) ∷
    told 14 0x0 0x0 (mapped 0x4abc "--x" "rwx" (Device NGnRnE) Osh)
    (start1 3 0x1000 6 ∷ word1 3 0x1000 0x4403 6 ∷ []) ∷
    told 16 0x0 0x0 (fault S1 3 Permission)
    (start1 3 0x1000 6 ∷ word1 3 0x1000 0x4403 6 ∷ []) ∷ [])
    (Some (5 ∷ 0 ∷ 4 ∷ 1 ∷ 0 ∷ 3 ∷ 2 ∷ 0 ∷ []))
unfolding on_worked_walks on_worked_runs
config_parts_rows = (refl, refl)

-- a run is one row that any of its pages removes; the bit is ignored where the output isn't placed as the run needs
-- or the run exceeds the input range
contiguous_bit : Comes (header 1 ((0x0, 0x20000) ∷ []) Small Fifo)
    (Store 0 0x1018 0x10000000013403 ∷ Store 0 0x1048 0x10000000018403 ∷ Msr 0 TcrEl1 0x30 ∷ Msr 0 Ttbr0El1 0x1000 ∷ Msr 0 SctlrEl1 0x1 ∷ Isb 0 ∷
    Access 0 (access 0x3abc El1 Read false) ∷ Access 0 (access 0x9abc El1 Read false) ∷ Tlbi 0 FromEl1 Vale1 false 0x9 ∷ Dsb 0 DsbNsh ∷
    Access 0 (access 0x9abc El1 Read false) ∷ Access 0 (access 0x3abc El1 Read false) ∷ Tlbi 0 FromEl1 Rvae1 false 0x40000000000e ∷ Dsb 0 DsbNsh ∷
    Access 0 (access 0x9abc El1 Read false) ∷ Store 0 0x2000 0x10000002000401 ∷ Store 0 0x2008 0x10000002200401 ∷ Msr 0 TcrEl1 0x28 ∷
    Msr 0 Ttbr0El1 0x2000 ∷ Isb 0 ∷ Access 0 (access 0xabc El1 Read false) ∷ Access 0 (access 0x200abc El1 Read false) ∷ [])
    (told 6 0x0 0x0 (mapped 0x13abc "--x" "rwx" (Device NGnRnE) Osh)
    (start1 3 0x1000 6 ∷ word1 3 0x1018 0x10000000013403 6 ∷ []) ∷
    told 7 0x0 0x0 (mapped 0x19abc "--x" "rwx" (Device NGnRnE) Osh)
    (start1 3 0x1000 6 ∷ word1 3 0x1018 0x10000000013403 6 ∷ []) ∷
    told 10 0x0 0x0 (mapped 0x18abc "--x" "rwx" (Device NGnRnE) Osh)
    (start1 3 0x1000 10 ∷ word1 3 0x1048 0x10000000018403 10 ∷ []) ∷
    told 11 0x0 0x0 (mapped 0x13abc "--x" "rwx" (Device NGnRnE) Osh)
    (start1 3 0x1000 11 ∷ word1 3 0x1018 0x10000000013403 11 ∷ []) ∷
    told 14 0x0 0x0 (mapped 0x18abc "--x" "rwx" (Device NGnRnE) Osh)
    (start1 3 0x1000 10 ∷ word1 3 0x1048 0x10000000018403 10 ∷ []) ∷
    told 20 0x0 0x0 (mapped 0x2000abc "--x" "rwx" (Device NGnRnE) Osh)
    (start1 2 0x2000 20 ∷ word1 2 0x2000 0x10000002000401 20 ∷ []) ∷
    told 21 0x0 0x0 (mapped 0x2200abc "--x" "rwx" (Device NGnRnE) Osh)
    (start1 2 0x2000 21 ∷ word1 2 0x2008 0x10000002200401 21 ∷ []) ∷ [])
    (Some (7 ∷ 0 ∷ 7 ∷ 0 ∷ 0 ∷ 2 ∷ 0 ∷ 0 ∷ []))
unfolding on_worked_walks on_worked_runs
contiguous_bit = (refl, refl)

-- the rights of a row's trail are judged for each access, with PAN, and a refusal stays one; a refused or faulting
-- leaf makes no row
rights_and_refusals : Comes (header 1 ((0x0, 0x20000) ∷ []) Small Fifo)
    (Store 0 0x1000 0x4483 ∷ Store 0 0x1008 0x5443 ∷ Store 0 0x1010 0x6403 ∷ Store 0 0x1018 0x7003 ∷ Msr 0 TcrEl1 0x30 ∷ Msr 0 Ttbr0El1 0x1000 ∷
    Msr 0 SctlrEl1 0x1 ∷ Isb 0 ∷ Access 0 (access 0xabc El1 Read false) ∷ Access 0 (access 0x1abc El1 Read false) ∷
    Access 0 (access 0x2abc El0 Read false) ∷ Access 0 (access 0x3abc El1 Read false) ∷ Store 0 0x1000 0x4443 ∷ Store 0 0x1010 0x6443 ∷
    Store 0 0x1018 0x7443 ∷ Access 0 (access 0xabc El0 Read false) ∷ Access 0 (access 0xabc El1 Write false) ∷
    Access 0 (access 0x1abc El1 Read true) ∷ Access 0 (access 0x1abc El0 Write false) ∷ Access 0 (access 0x2abc El0 Read false) ∷
    Access 0 (access 0x3abc El1 Read false) ∷ [])
    (told 8 0x0 0x0 (mapped 0x4abc "--x" "r-x" (Device NGnRnE) Osh)
    (start1 3 0x1000 8 ∷ word1 3 0x1000 0x4483 8 ∷ []) ∷
    told 9 0x0 0x0 (mapped 0x5abc "rwx" "rw-" (Device NGnRnE) Osh)
    (start1 3 0x1000 9 ∷ word1 3 0x1008 0x5443 9 ∷ []) ∷
    told 10 0x0 0x0 (fault S1 3 Permission)
    (start1 3 0x1000 10 ∷ word1 3 0x1010 0x6403 10 ∷ []) ∷
    told 11 0x0 0x0 (fault S1 3 AccessFlag)
    (start1 3 0x1000 11 ∷ word1 3 0x1018 0x7003 11 ∷ []) ∷
    told 15 0x0 0x0 (fault S1 3 Permission)
    (start1 3 0x1000 8 ∷ word1 3 0x1000 0x4483 8 ∷ []) ∷
    told 16 0x0 0x0 (fault S1 3 Permission)
    (start1 3 0x1000 8 ∷ word1 3 0x1000 0x4483 8 ∷ []) ∷
    told 17 0x0 0x0 (fault S1 3 Permission)
    (start1 3 0x1000 9 ∷ word1 3 0x1008 0x5443 9 ∷ []) ∷
    told 18 0x0 0x0 (mapped 0x5abc "rwx" "rw-" (Device NGnRnE) Osh)
    (start1 3 0x1000 9 ∷ word1 3 0x1008 0x5443 9 ∷ []) ∷
    told 19 0x0 0x0 (mapped 0x6abc "rwx" "rw-" (Device NGnRnE) Osh)
    (start1 3 0x1000 19 ∷ word1 3 0x1010 0x6443 19 ∷ []) ∷
    told 20 0x0 0x0 (mapped 0x7abc "rwx" "rw-" (Device NGnRnE) Osh)
    (start1 3 0x1000 20 ∷ word1 3 0x1018 0x7443 20 ∷ []) ∷ [])
    (Some (10 ∷ 0 ∷ 5 ∷ 5 ∷ 0 ∷ 4 ∷ 2 ∷ 0 ∷ []))
unfolding on_worked_walks on_worked_runs
rights_and_refusals = (refl, refl)

-- a row that is a stage 2 page's piece of a block: both stages' rights are judged on it, no IPA form takes it, and
-- it goes with any address of the block
piece_of_a_block : Comes (header 1 ((0x0, 0x20000) ∷ []) Small Fifo)
    (Store 0 0x1000 0x401 ∷ Store 0 0x8008 0x14c3 ∷ Store 0 0x8018 0x5443 ∷ Msr 0 TcrEl1 0x27 ∷ Msr 0 Ttbr0El1 0x1000 ∷ Msr 0 VtcrEl2 0xf0 ∷
    Msr 0 VttbrEl2 0x8000 ∷ Msr 0 HcrEl2 0x1 ∷ Msr 0 SctlrEl1 0x1 ∷ Isb 0 ∷ Access 0 (access 0x3abc El1 Read false) ∷
    Access 0 (access 0x3abc El1 Write false) ∷ Access 0 (access 0x3abc El0 Read false) ∷ Store 0 0x8018 0x64c3 ∷ Tlbi 0 FromEl2 Ipas2e1 false 0x1 ∷
    Tlbi 0 FromEl2 Ipas2e1 false 0x3 ∷ Dsb 0 DsbNsh ∷ Access 0 (access 0x3abc El1 Fetch false) ∷ Tlbi 0 FromEl1 Vae1 false 0x9 ∷ Dsb 0 DsbNsh ∷
    Access 0 (access 0x3abc El1 Read false) ∷ [])
    (told 10 0x0 0x0 (mapped 0x5abc "--x" "r-x" (Device NGnRnE) Osh)
    (start1 2 0x1000 10 ∷ start2 3 0x8000 10 ∷ word2 3 0x8008 0x14c3 10 ∷ word1 2 0x1000 0x401 10 ∷ start2 3 0x8000 10 ∷
    word2 3 0x8018 0x5443 10 ∷ []) ∷
    told 11 0x0 0x0 (fault S2 3 Permission)
    (start1 2 0x1000 10 ∷ start2 3 0x8000 10 ∷ word2 3 0x8008 0x14c3 10 ∷ word1 2 0x1000 0x401 10 ∷ start2 3 0x8000 10 ∷
    word2 3 0x8018 0x5443 10 ∷ []) ∷
    told 12 0x0 0x0 (fault S1 2 Permission)
    (start1 2 0x1000 10 ∷ start2 3 0x8000 10 ∷ word2 3 0x8008 0x14c3 10 ∷ word1 2 0x1000 0x401 10 ∷ []) ∷
    told 17 0x0 0x0 (mapped 0x5abc "--x" "r-x" (Device NGnRnE) Osh)
    (start1 2 0x1000 10 ∷ start2 3 0x8000 10 ∷ word2 3 0x8008 0x14c3 10 ∷ word1 2 0x1000 0x401 10 ∷ start2 3 0x8000 10 ∷
    word2 3 0x8018 0x5443 10 ∷ []) ∷
    told 20 0x0 0x0 (mapped 0x6abc "--x" "rwx" (Device NGnRnE) Osh)
    (start1 2 0x1000 20 ∷ start2 3 0x8000 20 ∷ word2 3 0x8008 0x14c3 20 ∷ word1 2 0x1000 0x401 20 ∷ start2 3 0x8000 20 ∷
    word2 3 0x8018 0x64c3 20 ∷ []) ∷ [])
    (Some (5 ∷ 0 ∷ 3 ∷ 2 ∷ 0 ∷ 3 ∷ 1 ∷ 0 ∷ []))
unfolding on_worked_walks on_worked_runs
piece_of_a_block = (refl, refl)

-- a combined row reaches as far as the smaller leaf: of a stage 1 run the stage 2 page, of a stage 2 run the stage 1
-- page
row_is_the_smaller_leaf : Comes (header 1 ((0x0, 0x20000) ∷ []) Small Fifo)
    (Store 0 0x1018 0x10000000003403 ∷ Store 0 0x1020 0x14403 ∷ Store 0 0x1028 0x15403 ∷ Store 0 0x8008 0x14c3 ∷ Store 0 0x8018 0x34c3 ∷
    Store 0 0x80a0 0x100000000344c3 ∷ Store 0 0x80a8 0x100000000354c3 ∷ Msr 0 TcrEl1 0x30 ∷ Msr 0 Ttbr0El1 0x1000 ∷ Msr 0 VtcrEl2 0xef ∷
    Msr 0 VttbrEl2 0x8000 ∷ Msr 0 HcrEl2 0x1 ∷ Msr 0 SctlrEl1 0x1 ∷ Isb 0 ∷ Access 0 (access 0x3abc El1 Read false) ∷
    Tlbi 0 FromEl2 Ipas2e1 false 0x1 ∷ Dsb 0 DsbNsh ∷ Access 0 (access 0x4abc El1 Read false) ∷ Tlbi 0 FromEl2 Ipas2e1 false 0x1 ∷
    Tlbi 0 FromEl2 Ipas2e1 false 0x14 ∷ Dsb 0 DsbNsh ∷ Access 0 (access 0x5abc El1 Read false) ∷ Access 0 (access 0x4abc El1 Read false) ∷
    Access 0 (access 0x3abc El1 Read false) ∷ [])
    (told 14 0x0 0x0 (mapped 0x3abc "--x" "rwx" (Device NGnRnE) Osh)
    (start1 3 0x1000 14 ∷ start2 3 0x8000 14 ∷ word2 3 0x8008 0x14c3 14 ∷ word1 3 0x1018 0x10000000003403 14 ∷ start2 3 0x8000 14 ∷
    word2 3 0x8018 0x34c3 14 ∷ []) ∷
    told 17 0x0 0x0 (mapped 0x34abc "--x" "rwx" (Device NGnRnE) Osh)
    (start1 3 0x1000 17 ∷ start2 3 0x8000 17 ∷ word2 3 0x8008 0x14c3 17 ∷ word1 3 0x1020 0x14403 17 ∷ start2 3 0x8000 17 ∷
    word2 3 0x80a0 0x100000000344c3 17 ∷ []) ∷
    told 21 0x0 0x0 (mapped 0x35abc "--x" "rwx" (Device NGnRnE) Osh)
    (start1 3 0x1000 21 ∷ start2 3 0x8000 21 ∷ word2 3 0x8008 0x14c3 21 ∷ word1 3 0x1028 0x15403 21 ∷ start2 3 0x8000 21 ∷
    word2 3 0x80a8 0x100000000354c3 21 ∷ []) ∷
    told 22 0x0 0x0 (mapped 0x34abc "--x" "rwx" (Device NGnRnE) Osh)
    (start1 3 0x1000 17 ∷ start2 3 0x8000 17 ∷ word2 3 0x8008 0x14c3 17 ∷ word1 3 0x1020 0x14403 17 ∷ start2 3 0x8000 17 ∷
    word2 3 0x80a0 0x100000000344c3 17 ∷ []) ∷
    told 23 0x0 0x0 (mapped 0x3abc "--x" "rwx" (Device NGnRnE) Osh)
    (start1 3 0x1000 14 ∷ start2 3 0x8000 14 ∷ word2 3 0x8008 0x14c3 14 ∷ word1 3 0x1018 0x10000000003403 14 ∷ start2 3 0x8000 14 ∷
    word2 3 0x8018 0x34c3 14 ∷ []) ∷ [])
    (Some (5 ∷ 0 ∷ 5 ∷ 0 ∷ 0 ∷ 2 ∷ 0 ∷ 0 ∷ []))
unfolding on_worked_walks on_worked_runs
row_is_the_smaller_leaf = (refl, refl)

-- two stage 2 leaves that match an output or a descriptor's place are a conflict: the trail so far, then either
-- chain; it keeps nothing that it read
conflict_inside_a_chain : Comes (header 1 ((0x0, 0x20000) ∷ []) Small Fifo)
    (Store 0 0x1000 0x2003 ∷ Store 0 0x1008 0x2003 ∷ Store 0 0x2000 0x13403 ∷ Store 0 0x2008 0x15403 ∷ Store 0 0x8008 0x14c3 ∷
    Store 0 0x8010 0x24c3 ∷
    Store 0 0x8098 0x34c3 ∷ Store 0 0x80a8 0x100000000354c3 ∷ Msr 0 TcrEl1 0x27 ∷ Msr 0 Ttbr0El1 0x1000 ∷ Msr 0 VtcrEl2 0xef ∷
    Msr 0 VttbrEl2 0x8000 ∷ Msr 0 HcrEl2 0x1 ∷ Msr 0 SctlrEl1 0x1 ∷ Isb 0 ∷ Access 0 (access 0xabc El1 Read false) ∷
    Access 0 (access 0x1abc El1 Read false) ∷ Store 0 0x8098 0x0 ∷ Access 0 (access 0x200abc El1 Read false) ∷
    Access 0 (access 0x200abc El1 Read false) ∷ Access 0 (access 0x201abc El1 Read false) ∷ Access 0 (access 0xabc El1 Read false) ∷
    Store 0 0x2010 0x5403 ∷ Store 0 0x8028 0x100000000054c3 ∷ Access 0 (access 0x2abc El1 Read false) ∷ Access 0 (access 0x400abc El1 Read false) ∷ [])
    (told 15 0x0 0x0 (mapped 0x3abc "--x" "rwx" (Device NGnRnE) Osh)
    (start1 2 0x1000 15 ∷ start2 3 0x8000 15 ∷ word2 3 0x8008 0x14c3 15 ∷ word1 2 0x1000 0x2003 15 ∷ start2 3 0x8000 15 ∷
    word2 3 0x8010 0x24c3 15 ∷ word1 3 0x2000 0x13403 15 ∷ start2 3 0x8000 15 ∷ word2 3 0x8098 0x34c3 15 ∷ []) ∷
    told 16 0x0 0x0 (mapped 0x35abc "--x" "rwx" (Device NGnRnE) Osh)
    (start1 2 0x1000 15 ∷ start2 3 0x8000 15 ∷ word2 3 0x8008 0x14c3 15 ∷ word1 2 0x1000 0x2003 15 ∷ start2 3 0x8000 15 ∷
    word2 3 0x8010 0x24c3 15 ∷ word1 3 0x2008 0x15403 16 ∷ start2 3 0x8000 16 ∷ word2 3 0x80a8 0x100000000354c3 16 ∷ []) ∷
    conflict_told 18 0x0 0x0
    (start1 2 0x1000 18 ∷ start2 3 0x8000 15 ∷ word2 3 0x8008 0x14c3 15 ∷ word1 2 0x1008 0x2003 18 ∷ start2 3 0x8000 15 ∷
    word2 3 0x8010 0x24c3 15 ∷ word1 3 0x2000 0x13403 18 ∷ start2 3 0x8000 15 ∷ word2 3 0x8098 0x34c3 15 ∷ [])
    (start1 2 0x1000 18 ∷ start2 3 0x8000 15 ∷ word2 3 0x8008 0x14c3 15 ∷ word1 2 0x1008 0x2003 18 ∷ start2 3 0x8000 15 ∷
    word2 3 0x8010 0x24c3 15 ∷ word1 3 0x2000 0x13403 18 ∷ start2 3 0x8000 16 ∷ word2 3 0x80a8 0x100000000354c3 16 ∷ []) ∷
    conflict_told 19 0x0 0x0
    (start1 2 0x1000 19 ∷ start2 3 0x8000 15 ∷ word2 3 0x8008 0x14c3 15 ∷ word1 2 0x1008 0x2003 19 ∷ start2 3 0x8000 15 ∷
    word2 3 0x8010 0x24c3 15 ∷ word1 3 0x2000 0x13403 19 ∷ start2 3 0x8000 15 ∷ word2 3 0x8098 0x34c3 15 ∷ [])
    (start1 2 0x1000 19 ∷ start2 3 0x8000 15 ∷ word2 3 0x8008 0x14c3 15 ∷ word1 2 0x1008 0x2003 19 ∷ start2 3 0x8000 15 ∷
    word2 3 0x8010 0x24c3 15 ∷ word1 3 0x2000 0x13403 19 ∷ start2 3 0x8000 16 ∷ word2 3 0x80a8 0x100000000354c3 16 ∷ []) ∷
    told 20 0x0 0x0 (mapped 0x35abc "--x" "rwx" (Device NGnRnE) Osh)
    (start1 2 0x1000 20 ∷ start2 3 0x8000 15 ∷ word2 3 0x8008 0x14c3 15 ∷ word1 2 0x1008 0x2003 20 ∷ start2 3 0x8000 15 ∷
    word2 3 0x8010 0x24c3 15 ∷ word1 3 0x2008 0x15403 20 ∷ start2 3 0x8000 16 ∷ word2 3 0x80a8 0x100000000354c3 16 ∷ []) ∷
    told 21 0x0 0x0 (mapped 0x3abc "--x" "rwx" (Device NGnRnE) Osh)
    (start1 2 0x1000 15 ∷ start2 3 0x8000 15 ∷ word2 3 0x8008 0x14c3 15 ∷ word1 2 0x1000 0x2003 15 ∷ start2 3 0x8000 15 ∷
    word2 3 0x8010 0x24c3 15 ∷ word1 3 0x2000 0x13403 15 ∷ start2 3 0x8000 15 ∷ word2 3 0x8098 0x34c3 15 ∷ []) ∷
    told 24 0x0 0x0 (mapped 0x5abc "--x" "rwx" (Device NGnRnE) Osh)
    (start1 2 0x1000 15 ∷ start2 3 0x8000 15 ∷ word2 3 0x8008 0x14c3 15 ∷ word1 2 0x1000 0x2003 15 ∷ start2 3 0x8000 15 ∷
    word2 3 0x8010 0x24c3 15 ∷ word1 3 0x2010 0x5403 24 ∷ start2 3 0x8000 24 ∷ word2 3 0x8028 0x100000000054c3 24 ∷ []) ∷
    conflict_told 25 0x0 0x0
    (start1 2 0x1000 25 ∷ start2 3 0x8000 15 ∷ word2 3 0x8008 0x14c3 15 ∷ [])
    (start1 2 0x1000 25 ∷ start2 3 0x8000 24 ∷ word2 3 0x8028 0x100000000054c3 24 ∷ []) ∷ [])
    (Some (8 ∷ 0 ∷ 5 ∷ 0 ∷ 3 ∷ 7 ∷ 1 ∷ 0 ∷ []))
unfolding on_worked_walks on_worked_runs
conflict_inside_a_chain = (refl, refl)

-- a prefetch makes rows and is served by them, counts apart from accesses, and its faults, old and stale answers
-- count
prefetch_makes_and_uses_rows : Comes (header 1 ((0x0, 0x20000) ∷ []) Small Fifo)
    (Store 0 0x1000 0x2003 ∷ Store 0 0x2000 0x4403 ∷ Msr 0 TcrEl1 0x27 ∷ Msr 0 Ttbr0El1 0x1000 ∷ Msr 0 SctlrEl1 0x1 ∷ Isb 0 ∷
    Prefetch 0 (access 0xabc El0 Write false) ∷ Prefetch 0 (access 0x1abc El1 Write false) ∷ Prefetch 0 (access 0xabc El1 Read false) ∷
    Store 0 0x2000 0x0 ∷ Prefetch 0 (access 0xabc El1 Fetch false) ∷ Access 0 (access 0xabc El1 Read false) ∷ [])
    (told 6 0x0 0x0 (fault S1 3 Permission)
    (start1 2 0x1000 6 ∷ word1 2 0x1000 0x2003 6 ∷ word1 3 0x2000 0x4403 6 ∷ []) ∷
    told 7 0x0 0x0 (fault S1 3 Translation)
    (start1 2 0x1000 6 ∷ word1 2 0x1000 0x2003 6 ∷ word1 3 0x2008 0x0 7 ∷ []) ∷
    told 8 0x0 0x0 (mapped 0x4abc "--x" "rwx" (Device NGnRnE) Osh)
    (start1 2 0x1000 6 ∷ word1 2 0x1000 0x2003 6 ∷ word1 3 0x2000 0x4403 8 ∷ []) ∷
    told 10 0x0 0x0 (mapped 0x4abc "--x" "rwx" (Device NGnRnE) Osh)
    (start1 2 0x1000 6 ∷ word1 2 0x1000 0x2003 6 ∷ word1 3 0x2000 0x4403 8 ∷ []) ∷
    told 11 0x0 0x0 (mapped 0x4abc "--x" "rwx" (Device NGnRnE) Osh)
    (start1 2 0x1000 6 ∷ word1 2 0x1000 0x2003 6 ∷ word1 3 0x2000 0x4403 8 ∷ []) ∷ [])
    (Some (1 ∷ 4 ∷ 3 ∷ 2 ∷ 0 ∷ 4 ∷ 2 ∷ 0 ∷ []))
unfolding on_worked_walks on_worked_runs
prefetch_makes_and_uses_rows = (refl, refl)

-- a stage 2 leaf that refuses a descriptor's read as Device under PTW, or the access, is kept; one without access
-- flag or with its address out of size isn't
which_stage2_leaves_are_kept : Comes (header 1 ((0x0, 0x20000) ∷ []) Small Fifo)
    (Store 0 0x1000 0x3403 ∷ Store 0 0x1008 0x4403 ∷ Store 0 0x1010 0x5403 ∷ Store 0 0x8008 0x14c3 ∷ Store 0 0x8018 0x5483 ∷ Store 0 0x8020 0x60c3 ∷
    Store 0 0x8028 0x1000074c3 ∷ Msr 0 TcrEl1 0x30 ∷ Msr 0 Ttbr0El1 0x1000 ∷ Msr 0 VtcrEl2 0xf0 ∷ Msr 0 VttbrEl2 0x8000 ∷ Msr 0 HcrEl2 0x5 ∷
    Msr 0 SctlrEl1 0x1 ∷ Isb 0 ∷ Access 0 (access 0xabc El1 Read false) ∷ Store 0 0x8008 0x14ff ∷ Access 0 (access 0xabc El1 Read false) ∷
    Tlbi 0 FromEl2 Ipas2le1 false 0x1 ∷ Dsb 0 DsbNsh ∷ Access 0 (access 0xabc El1 Read false) ∷ Store 0 0x8018 0x54c3 ∷
    Access 0 (access 0xabc El1 Write false) ∷ Access 0 (access 0xabc El1 Read false) ∷ Access 0 (access 0x1abc El1 Read false) ∷
    Access 0 (access 0x2abc El1 Read false) ∷ Store 0 0x8020 0x64c3 ∷ Store 0 0x8028 0x74c3 ∷ Access 0 (access 0x1abc El1 Read false) ∷
    Access 0 (access 0x2abc El1 Read false) ∷ [])
    (told 14 0x0 0x0 (fault2 3 Permission)
    (start1 3 0x1000 14 ∷ start2 3 0x8000 14 ∷ word2 3 0x8008 0x14c3 14 ∷ []) ∷
    told 16 0x0 0x0 (fault2 3 Permission)
    (start1 3 0x1000 16 ∷ start2 3 0x8000 14 ∷ word2 3 0x8008 0x14c3 14 ∷ []) ∷
    told 19 0x0 0x0 (fault S2 3 Permission)
    (start1 3 0x1000 19 ∷ start2 3 0x8000 19 ∷ word2 3 0x8008 0x14ff 19 ∷ word1 3 0x1000 0x3403 19 ∷ start2 3 0x8000 19 ∷
    word2 3 0x8018 0x5483 19 ∷ []) ∷
    told 21 0x0 0x0 (mapped 0x5abc "---" "-w-" (Device NGnRnE) Osh)
    (start1 3 0x1000 21 ∷ start2 3 0x8000 19 ∷ word2 3 0x8008 0x14ff 19 ∷ word1 3 0x1000 0x3403 21 ∷ start2 3 0x8000 19 ∷
    word2 3 0x8018 0x5483 19 ∷ []) ∷
    told 22 0x0 0x0 (fault S2 3 Permission)
    (start1 3 0x1000 21 ∷ start2 3 0x8000 19 ∷ word2 3 0x8008 0x14ff 19 ∷ word1 3 0x1000 0x3403 21 ∷ start2 3 0x8000 19 ∷
    word2 3 0x8018 0x5483 19 ∷ []) ∷
    told 23 0x0 0x0 (fault S2 3 AccessFlag)
    (start1 3 0x1000 23 ∷ start2 3 0x8000 19 ∷ word2 3 0x8008 0x14ff 19 ∷ word1 3 0x1008 0x4403 23 ∷ start2 3 0x8000 23 ∷
    word2 3 0x8020 0x60c3 23 ∷ []) ∷
    told 24 0x0 0x0 (fault S2 3 AddressSize)
    (start1 3 0x1000 24 ∷ start2 3 0x8000 19 ∷ word2 3 0x8008 0x14ff 19 ∷ word1 3 0x1010 0x5403 24 ∷ start2 3 0x8000 24 ∷
    word2 3 0x8028 0x1000074c3 24 ∷ []) ∷
    told 27 0x0 0x0 (mapped 0x6abc "--x" "rwx" (Device NGnRnE) Osh)
    (start1 3 0x1000 27 ∷ start2 3 0x8000 19 ∷ word2 3 0x8008 0x14ff 19 ∷ word1 3 0x1008 0x4403 27 ∷ start2 3 0x8000 27 ∷
    word2 3 0x8020 0x64c3 27 ∷ []) ∷
    told 28 0x0 0x0 (mapped 0x7abc "--x" "rwx" (Device NGnRnE) Osh)
    (start1 3 0x1000 28 ∷ start2 3 0x8000 19 ∷ word2 3 0x8008 0x14ff 19 ∷ word1 3 0x1010 0x5403 28 ∷ start2 3 0x8000 28 ∷
    word2 3 0x8028 0x74c3 28 ∷ []) ∷ [])
    (Some (9 ∷ 0 ∷ 3 ∷ 6 ∷ 0 ∷ 7 ∷ 3 ∷ 0 ∷ []))
unfolding on_worked_walks on_worked_runs
which_stage2_leaves_are_kept = (refl, refl)

-- a table is kept with its bits whatever its next word gave, but not where its own address is out of size; it begins
-- the walks of its region
tables_are_kept : Comes (header 1 ((0x0, 0x20000) ∷ []) Small Fifo)
    (Store 0 0x1000 0x2000000000002003 ∷ Store 0 0x1008 0x90003 ∷ Store 0 0x1010 0x100002003 ∷ Store 0 0x2000 0x4443 ∷ Store 0 0x2008 0x5443 ∷
    Msr 0 TcrEl1 0x27 ∷ Msr 0 Ttbr0El1 0x1000 ∷ Msr 0 SctlrEl1 0x1 ∷ Isb 0 ∷ Access 0 (access 0x2abc El1 Read false) ∷
    Access 0 (access 0x200abc El1 Read false) ∷ Access 0 (access 0x400abc El1 Read false) ∷ Store 0 0x1000 0x0 ∷ Store 0 0x1008 0x0 ∷
    Store 0 0x1010 0x2003 ∷ Access 0 (access 0xabc El1 Read false) ∷ Access 0 (access 0xabc El0 Read false) ∷
    Access 0 (access 0x1abc El0 Read false) ∷ Access 0 (access 0x1abc El1 Read false) ∷ Access 0 (access 0x200abc El1 Read false) ∷
    Access 0 (access 0x400abc El1 Read false) ∷ [])
    (told 9 0x0 0x0 (fault S1 3 Translation)
    (start1 2 0x1000 9 ∷ word1 2 0x1000 0x2000000000002003 9 ∷ word1 3 0x2010 0x0 9 ∷ []) ∷
    told 10 0x0 0x0 (fault S1 3 External)
    (start1 2 0x1000 10 ∷ word1 2 0x1008 0x90003 10 ∷ []) ∷
    told 11 0x0 0x0 (fault S1 2 AddressSize)
    (start1 2 0x1000 11 ∷ word1 2 0x1010 0x100002003 11 ∷ []) ∷
    told 15 0x0 0x0 (mapped 0x4abc "--x" "rwx" (Device NGnRnE) Osh)
    (start1 2 0x1000 9 ∷ word1 2 0x1000 0x2000000000002003 9 ∷ word1 3 0x2000 0x4443 15 ∷ []) ∷
    told 16 0x0 0x0 (fault S1 3 Permission)
    (start1 2 0x1000 9 ∷ word1 2 0x1000 0x2000000000002003 9 ∷ word1 3 0x2000 0x4443 15 ∷ []) ∷
    told 17 0x0 0x0 (fault S1 3 Permission)
    (start1 2 0x1000 9 ∷ word1 2 0x1000 0x2000000000002003 9 ∷ word1 3 0x2008 0x5443 17 ∷ []) ∷
    told 18 0x0 0x0 (mapped 0x5abc "--x" "rwx" (Device NGnRnE) Osh)
    (start1 2 0x1000 9 ∷ word1 2 0x1000 0x2000000000002003 9 ∷ word1 3 0x2008 0x5443 18 ∷ []) ∷
    told 19 0x0 0x0 (fault S1 3 External)
    (start1 2 0x1000 10 ∷ word1 2 0x1008 0x90003 10 ∷ []) ∷
    told 20 0x0 0x0 (mapped 0x4abc "rwx" "rw-" (Device NGnRnE) Osh)
    (start1 2 0x1000 20 ∷ word1 2 0x1010 0x2003 20 ∷ word1 3 0x2000 0x4443 20 ∷ []) ∷ [])
    (Some (9 ∷ 0 ∷ 3 ∷ 6 ∷ 0 ∷ 5 ∷ 5 ∷ 0 ∷ []))
unfolding on_worked_walks on_worked_runs
tables_are_kept = (refl, refl)

-- stage 2 rows serve under every ASID of their VMID, for descriptors and output; stage 1 tables serve under their
-- own ASID alone
stage2_rows_know_no_asid : Comes (header 1 ((0x0, 0x20000) ∷ []) Small Fifo)
    (Store 0 0x1000 0x2003 ∷ Store 0 0x2000 0x3403 ∷ Store 0 0x8008 0x14c3 ∷ Store 0 0x8010 0x24c3 ∷ Store 0 0x8018 0x54c3 ∷ Msr 0 TcrEl1 0x27 ∷
    Msr 0 Ttbr0El1 0x1000000001000 ∷ Msr 0 VtcrEl2 0xf0 ∷ Msr 0 VttbrEl2 0x1000000008000 ∷ Msr 0 HcrEl2 0x1 ∷ Msr 0 SctlrEl1 0x1 ∷ Isb 0 ∷
    Access 0 (access 0xabc El1 Read false) ∷ Msr 0 Ttbr0El1 0x2000000001000 ∷ Isb 0 ∷ Access 0 (access 0xabc El1 Read false) ∷
    Access 0 (access 0x1abc El1 Read false) ∷ Msr 0 VttbrEl2 0x2000000008000 ∷ Isb 0 ∷ Access 0 (access 0xabc El1 Read false) ∷ [])
    (told 12 0x1 0x1 (mapped 0x5abc "--x" "rwx" (Device NGnRnE) Osh)
    (start1 2 0x1000 12 ∷ start2 3 0x8000 12 ∷ word2 3 0x8008 0x14c3 12 ∷ word1 2 0x1000 0x2003 12 ∷ start2 3 0x8000 12 ∷
    word2 3 0x8010 0x24c3 12 ∷ word1 3 0x2000 0x3403 12 ∷ start2 3 0x8000 12 ∷ word2 3 0x8018 0x54c3 12 ∷ []) ∷
    told 15 0x2 0x1 (mapped 0x5abc "--x" "rwx" (Device NGnRnE) Osh)
    (start1 2 0x1000 12 ∷ start2 3 0x8000 12 ∷ word2 3 0x8008 0x14c3 12 ∷ word1 2 0x1000 0x2003 12 ∷ start2 3 0x8000 12 ∷
    word2 3 0x8010 0x24c3 12 ∷ word1 3 0x2000 0x3403 12 ∷ start2 3 0x8000 12 ∷ word2 3 0x8018 0x54c3 12 ∷ []) ∷
    told 16 0x2 0x1 (fault S1 3 Translation)
    (start1 2 0x1000 16 ∷ start2 3 0x8000 12 ∷ word2 3 0x8008 0x14c3 12 ∷ word1 2 0x1000 0x2003 16 ∷ start2 3 0x8000 12 ∷
    word2 3 0x8010 0x24c3 12 ∷ word1 3 0x2008 0x0 16 ∷ []) ∷
    told 19 0x2 0x2 (mapped 0x5abc "--x" "rwx" (Device NGnRnE) Osh)
    (start1 2 0x1000 19 ∷ start2 3 0x8000 19 ∷ word2 3 0x8008 0x14c3 19 ∷ word1 2 0x1000 0x2003 19 ∷ start2 3 0x8000 19 ∷
    word2 3 0x8010 0x24c3 19 ∷ word1 3 0x2000 0x3403 19 ∷ start2 3 0x8000 19 ∷ word2 3 0x8018 0x54c3 19 ∷ []) ∷ [])
    (Some (4 ∷ 0 ∷ 3 ∷ 1 ∷ 0 ∷ 2 ∷ 0 ∷ 0 ∷ []))
unfolding on_worked_walks on_worked_runs
stage2_rows_know_no_asid = (refl, refl)

-- of the kept tables the one of the smallest region begins the walk, in both stages, newer or not; a stage 2 leaf
-- comes before a table
smallest_table_serves : Comes (header 1 ((0x0, 0x20000) ∷ []) Small Fifo)
    (Store 0 0x1000 0x2003 ∷ Store 0 0x2000 0x3003 ∷ Store 0 0x3000 0x44ff ∷ Store 0 0x3008 0x54ff ∷ Msr 0 VtcrEl2 0x59 ∷ Msr 0 VttbrEl2 0x1000 ∷
    Msr 0 HcrEl2 0x1 ∷ Isb 0 ∷ Access 0 (access 0xabc El1 Read false) ∷ Access 0 (access 0xabc El1 Read false) ∷
    Access 0 (access 0x1abc El1 Read false) ∷ Tlbi 0 FromEl2 Ipas2e1 false 0x200 ∷ Dsb 0 DsbNsh ∷ Access 0 (access 0x200abc El1 Read false) ∷
    Access 0 (access 0x2abc El1 Read false) ∷ Msr 0 HcrEl2 0x0 ∷ Msr 0 TcrEl1 0x19 ∷ Msr 0 Ttbr0El1 0x1000 ∷ Msr 0 SctlrEl1 0x1 ∷ Isb 0 ∷
    Access 0 (access 0xabc El1 Read false) ∷ Access 0 (access 0x1abc El1 Read false) ∷ Tlbi 0 FromEl1 Vae1 false 0x200 ∷ Dsb 0 DsbNsh ∷
    Access 0 (access 0x200abc El1 Read false) ∷ Access 0 (access 0x2abc El1 Read false) ∷ [])
    (told 8 0x0 0x0 (mapped 0x4abc "rwx" "rwx" (Device NGnRnE) Osh)
    (start2 1 0x1000 8 ∷ word2 1 0x1000 0x2003 8 ∷ word2 2 0x2000 0x3003 8 ∷ word2 3 0x3000 0x44ff 8 ∷ []) ∷
    told 9 0x0 0x0 (mapped 0x4abc "rwx" "rwx" (Device NGnRnE) Osh)
    (start2 1 0x1000 8 ∷ word2 1 0x1000 0x2003 8 ∷ word2 2 0x2000 0x3003 8 ∷ word2 3 0x3000 0x44ff 8 ∷ []) ∷
    told 10 0x0 0x0 (mapped 0x5abc "rwx" "rwx" (Device NGnRnE) Osh)
    (start2 1 0x1000 8 ∷ word2 1 0x1000 0x2003 8 ∷ word2 2 0x2000 0x3003 8 ∷ word2 3 0x3008 0x54ff 10 ∷ []) ∷
    told 13 0x0 0x0 (fault S2 2 Translation)
    (start2 1 0x1000 13 ∷ word2 1 0x1000 0x2003 13 ∷ word2 2 0x2008 0x0 13 ∷ []) ∷
    told 14 0x0 0x0 (fault S2 3 Translation)
    (start2 1 0x1000 8 ∷ word2 1 0x1000 0x2003 8 ∷ word2 2 0x2000 0x3003 8 ∷ word2 3 0x3010 0x0 14 ∷ []) ∷
    told 20 0x0 0x0 (mapped 0x4abc "r-x" "r-x" (Device NGnRnE) Osh)
    (start1 1 0x1000 20 ∷ word1 1 0x1000 0x2003 20 ∷ word1 2 0x2000 0x3003 20 ∷ word1 3 0x3000 0x44ff 20 ∷ []) ∷
    told 21 0x0 0x0 (mapped 0x5abc "r-x" "r-x" (Device NGnRnE) Osh)
    (start1 1 0x1000 20 ∷ word1 1 0x1000 0x2003 20 ∷ word1 2 0x2000 0x3003 20 ∷ word1 3 0x3008 0x54ff 21 ∷ []) ∷
    told 24 0x0 0x0 (fault S1 2 Translation)
    (start1 1 0x1000 24 ∷ word1 1 0x1000 0x2003 24 ∷ word1 2 0x2008 0x0 24 ∷ []) ∷
    told 25 0x0 0x0 (fault S1 3 Translation)
    (start1 1 0x1000 20 ∷ word1 1 0x1000 0x2003 20 ∷ word1 2 0x2000 0x3003 20 ∷ word1 3 0x3010 0x0 25 ∷ []) ∷ [])
    (Some (9 ∷ 0 ∷ 5 ∷ 4 ∷ 0 ∷ 5 ∷ 0 ∷ 0 ∷ []))
unfolding on_worked_walks on_worked_runs
smallest_table_serves = (refl, refl)
