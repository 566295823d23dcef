-- Worked runs, computed. Written by scripts/worked_runs.py from traces and their reports.
use Rattle.std.proofs.Common.{[], ◌∷◌, false, refl}
use Rattle.std.specs.Prelude.{Some}
use Rattle.sysregs.specs.declared.regs.Reg.TheVariants.{HcrEl2, SctlrEl1, TcrEl1, Ttbr0El1, VtcrEl2, VttbrEl2}
use Rattle.sysregs.specs.declared.regs.Op.TheVariants.{Vmalle1, Vae1}
use Rattle.permissions.specs.declared.bits.El.TheVariants.{El0, El1}
use Rattle.permissions.specs.declared.bits.Kind.TheVariants.{Read}
use Rattle.attributes.specs.declared.kinds.Device.TheVariants.{NGnRnE}
use Rattle.attributes.specs.declared.kinds.MemType.TheVariants.{Device}
use Rattle.attributes.specs.declared.kinds.Share.TheVariants.{Osh}
use Rattle.fault_codes.specs.declared.fault.Stage.TheVariants.{S1, S2}
use Rattle.fault_codes.specs.declared.fault.Class.TheVariants.{Permission, Translation}
use Rattle.trails.specs.declared.event.Barrier.TheVariants.{Nsh as DsbNsh}
use Rattle.trails.specs.declared.event.Origin.TheVariants.{El1 as FromEl1}
use Rattle.trails.specs.declared.event.Event.TheVariants.{Store, Msr, Isb, Tlbi, Dsb, Access}
use Rattle.trace_lang.specs.declared.header.Size.TheVariants.{Large, Medium, Small}
use Rattle.trace_lang.specs.declared.header.Policy.TheVariants.{Lru, Fifo, Random}
use Rattle.walk_spec.proofs.Worked.{on_worked_walks, access}
use Rattle.machine_spec.proofs.Worked.{header, on_worked_runs, Comes, told, conflict_told, mapped, fault, start1, start2, word1, word2}

-- a full set loses its oldest row, a removal keeps the order of the others, and a service moves nothing
first_in_first_out : Comes (header 1 ((0x0, 0x20000) ∷ []) Small Fifo)
    (Store 0 0x1000 0x4403 ∷ Store 0 0x1008 0x5403 ∷ Store 0 0x1010 0x6403 ∷ Store 0 0x1018 0x7403 ∷ Store 0 0x1020 0x8403 ∷ Store 0 0x1028 0x9403 ∷
    Store 0 0x1030 0xa403 ∷ Store 0 0x1038 0xb403 ∷ Store 0 0x1040 0xc403 ∷ Msr 0 TcrEl1 0x30 ∷ Msr 0 Ttbr0El1 0x1000 ∷ Msr 0 SctlrEl1 0x1 ∷
    Isb 0 ∷
    Access 0 (access 0xabc El1 Read false) ∷ Access 0 (access 0x1abc El1 Read false) ∷ Access 0 (access 0x2abc El1 Read false) ∷
    Access 0 (access 0x3abc El1 Read false) ∷ Access 0 (access 0x4abc El1 Read false) ∷ Access 0 (access 0x5abc El1 Read false) ∷
    Access 0 (access 0x6abc El1 Read false) ∷ Access 0 (access 0x7abc El1 Read false) ∷ Access 0 (access 0xabc El1 Read false) ∷
    Tlbi 0 FromEl1 Vae1 false 0x2 ∷ Dsb 0 DsbNsh ∷ Access 0 (access 0x8abc El1 Read false) ∷ Access 0 (access 0x2abc El1 Read false) ∷
    Access 0 (access 0xabc El1 Read false) ∷ Access 0 (access 0x1abc El1 Read false) ∷ Access 0 (access 0x7abc El1 Read false) ∷
    Access 0 (access 0x3abc El1 Read false) ∷ [])
    (told 13 0x0 0x0 (mapped 0x4abc "--x" "rwx" (Device NGnRnE) Osh)
    (start1 3 0x1000 13 ∷ word1 3 0x1000 0x4403 13 ∷ []) ∷
    told 14 0x0 0x0 (mapped 0x5abc "--x" "rwx" (Device NGnRnE) Osh)
    (start1 3 0x1000 14 ∷ word1 3 0x1008 0x5403 14 ∷ []) ∷
    told 15 0x0 0x0 (mapped 0x6abc "--x" "rwx" (Device NGnRnE) Osh)
    (start1 3 0x1000 15 ∷ word1 3 0x1010 0x6403 15 ∷ []) ∷
    told 16 0x0 0x0 (mapped 0x7abc "--x" "rwx" (Device NGnRnE) Osh)
    (start1 3 0x1000 16 ∷ word1 3 0x1018 0x7403 16 ∷ []) ∷
    told 17 0x0 0x0 (mapped 0x8abc "--x" "rwx" (Device NGnRnE) Osh)
    (start1 3 0x1000 17 ∷ word1 3 0x1020 0x8403 17 ∷ []) ∷
    told 18 0x0 0x0 (mapped 0x9abc "--x" "rwx" (Device NGnRnE) Osh)
    (start1 3 0x1000 18 ∷ word1 3 0x1028 0x9403 18 ∷ []) ∷
    told 19 0x0 0x0 (mapped 0xaabc "--x" "rwx" (Device NGnRnE) Osh)
    (start1 3 0x1000 19 ∷ word1 3 0x1030 0xa403 19 ∷ []) ∷
    told 20 0x0 0x0 (mapped 0xbabc "--x" "rwx" (Device NGnRnE) Osh)
    (start1 3 0x1000 20 ∷ word1 3 0x1038 0xb403 20 ∷ []) ∷
    told 21 0x0 0x0 (mapped 0x4abc "--x" "rwx" (Device NGnRnE) Osh)
    (start1 3 0x1000 13 ∷ word1 3 0x1000 0x4403 13 ∷ []) ∷
    told 24 0x0 0x0 (mapped 0xcabc "--x" "rwx" (Device NGnRnE) Osh)
    (start1 3 0x1000 24 ∷ word1 3 0x1040 0xc403 24 ∷ []) ∷
    told 25 0x0 0x0 (mapped 0x6abc "--x" "rwx" (Device NGnRnE) Osh)
    (start1 3 0x1000 25 ∷ word1 3 0x1010 0x6403 25 ∷ []) ∷
    told 26 0x0 0x0 (mapped 0x4abc "--x" "rwx" (Device NGnRnE) Osh)
    (start1 3 0x1000 26 ∷ word1 3 0x1000 0x4403 26 ∷ []) ∷
    told 27 0x0 0x0 (mapped 0x5abc "--x" "rwx" (Device NGnRnE) Osh)
    (start1 3 0x1000 27 ∷ word1 3 0x1008 0x5403 27 ∷ []) ∷
    told 28 0x0 0x0 (mapped 0xbabc "--x" "rwx" (Device NGnRnE) Osh)
    (start1 3 0x1000 20 ∷ word1 3 0x1038 0xb403 20 ∷ []) ∷
    told 29 0x0 0x0 (mapped 0x7abc "--x" "rwx" (Device NGnRnE) Osh)
    (start1 3 0x1000 29 ∷ word1 3 0x1018 0x7403 29 ∷ []) ∷ [])
    (Some (15 ∷ 0 ∷ 15 ∷ 0 ∷ 0 ∷ 2 ∷ 0 ∷ 4 ∷ []))
unfolding on_worked_walks on_worked_runs
first_in_first_out = (refl, refl)

-- small: each of the four caches holds eight rows, tables and leaves of a stage apart
eight_rows_of_each_kind : Comes (header 1 ((0x0, 0x20000) ∷ []) Small Fifo)
    (Store 0 0x1000 0x2003 ∷ Store 0 0x1008 0x2003 ∷ Store 0 0x1010 0x2003 ∷ Store 0 0x1018 0x2003 ∷ Store 0 0x2000 0x3003 ∷ Store 0 0x2008 0x3003 ∷
    Store 0 0x3000 0x44c3 ∷ Msr 0 TcrEl1 0x20 ∷ Msr 0 Ttbr0El1 0x1000 ∷ Msr 0 SctlrEl1 0x1 ∷ Isb 0 ∷ Access 0 (access 0x0 El1 Read false) ∷
    Access 0 (access 0x40000000 El1 Read false) ∷ Access 0 (access 0x80000000 El1 Read false) ∷ Access 0 (access 0xc0000000 El1 Read false) ∷
    Access 0 (access 0x200000 El1 Read false) ∷ Access 0 (access 0x1000 El1 Read false) ∷ Msr 0 SctlrEl1 0x0 ∷ Msr 0 VtcrEl2 0x60 ∷
    Msr 0 VttbrEl2 0x1000 ∷ Msr 0 HcrEl2 0x1 ∷ Isb 0 ∷ Access 0 (access 0x0 El1 Read false) ∷ Access 0 (access 0x40000000 El1 Read false) ∷
    Access 0 (access 0x80000000 El1 Read false) ∷ Access 0 (access 0xc0000000 El1 Read false) ∷ Access 0 (access 0x200000 El1 Read false) ∷
    Access 0 (access 0x1000 El1 Read false) ∷ Access 0 (access 0x40200000 El1 Read false) ∷ Access 0 (access 0x80200000 El1 Read false) ∷
    Access 0 (access 0xc0200000 El1 Read false) ∷ Store 0 0x3008 0x54c3 ∷ Access 0 (access 0xc0201000 El1 Read false) ∷
    Access 0 (access 0x0 El1 Read false) ∷ [])
    (told 11 0x0 0x0 (mapped 0x4000 "r-x" "r-x" (Device NGnRnE) Osh)
    (start1 1 0x1000 11 ∷ word1 1 0x1000 0x2003 11 ∷ word1 2 0x2000 0x3003 11 ∷ word1 3 0x3000 0x44c3 11 ∷ []) ∷
    told 12 0x0 0x0 (mapped 0x4000 "r-x" "r-x" (Device NGnRnE) Osh)
    (start1 1 0x1000 12 ∷ word1 1 0x1008 0x2003 12 ∷ word1 2 0x2000 0x3003 12 ∷ word1 3 0x3000 0x44c3 12 ∷ []) ∷
    told 13 0x0 0x0 (mapped 0x4000 "r-x" "r-x" (Device NGnRnE) Osh)
    (start1 1 0x1000 13 ∷ word1 1 0x1010 0x2003 13 ∷ word1 2 0x2000 0x3003 13 ∷ word1 3 0x3000 0x44c3 13 ∷ []) ∷
    told 14 0x0 0x0 (mapped 0x4000 "r-x" "r-x" (Device NGnRnE) Osh)
    (start1 1 0x1000 14 ∷ word1 1 0x1018 0x2003 14 ∷ word1 2 0x2000 0x3003 14 ∷ word1 3 0x3000 0x44c3 14 ∷ []) ∷
    told 15 0x0 0x0 (mapped 0x4000 "r-x" "r-x" (Device NGnRnE) Osh)
    (start1 1 0x1000 11 ∷ word1 1 0x1000 0x2003 11 ∷ word1 2 0x2008 0x3003 15 ∷ word1 3 0x3000 0x44c3 15 ∷ []) ∷
    told 16 0x0 0x0 (fault S1 3 Translation)
    (start1 1 0x1000 11 ∷ word1 1 0x1000 0x2003 11 ∷ word1 2 0x2000 0x3003 11 ∷ word1 3 0x3008 0x0 16 ∷ []) ∷
    told 22 0x0 0x0 (mapped 0x4000 "rwx" "rwx" (Device NGnRnE) Osh)
    (start2 1 0x1000 22 ∷ word2 1 0x1000 0x2003 22 ∷ word2 2 0x2000 0x3003 22 ∷ word2 3 0x3000 0x44c3 22 ∷ []) ∷
    told 23 0x0 0x0 (mapped 0x4000 "rwx" "rwx" (Device NGnRnE) Osh)
    (start2 1 0x1000 23 ∷ word2 1 0x1008 0x2003 23 ∷ word2 2 0x2000 0x3003 23 ∷ word2 3 0x3000 0x44c3 23 ∷ []) ∷
    told 24 0x0 0x0 (mapped 0x4000 "rwx" "rwx" (Device NGnRnE) Osh)
    (start2 1 0x1000 24 ∷ word2 1 0x1010 0x2003 24 ∷ word2 2 0x2000 0x3003 24 ∷ word2 3 0x3000 0x44c3 24 ∷ []) ∷
    told 25 0x0 0x0 (mapped 0x4000 "rwx" "rwx" (Device NGnRnE) Osh)
    (start2 1 0x1000 25 ∷ word2 1 0x1018 0x2003 25 ∷ word2 2 0x2000 0x3003 25 ∷ word2 3 0x3000 0x44c3 25 ∷ []) ∷
    told 26 0x0 0x0 (mapped 0x4000 "rwx" "rwx" (Device NGnRnE) Osh)
    (start2 1 0x1000 22 ∷ word2 1 0x1000 0x2003 22 ∷ word2 2 0x2008 0x3003 26 ∷ word2 3 0x3000 0x44c3 26 ∷ []) ∷
    told 27 0x0 0x0 (fault S2 3 Translation)
    (start2 1 0x1000 22 ∷ word2 1 0x1000 0x2003 22 ∷ word2 2 0x2000 0x3003 22 ∷ word2 3 0x3008 0x0 27 ∷ []) ∷
    told 28 0x0 0x0 (mapped 0x4000 "rwx" "rwx" (Device NGnRnE) Osh)
    (start2 1 0x1000 23 ∷ word2 1 0x1008 0x2003 23 ∷ word2 2 0x2008 0x3003 28 ∷ word2 3 0x3000 0x44c3 28 ∷ []) ∷
    told 29 0x0 0x0 (mapped 0x4000 "rwx" "rwx" (Device NGnRnE) Osh)
    (start2 1 0x1000 24 ∷ word2 1 0x1010 0x2003 24 ∷ word2 2 0x2008 0x3003 29 ∷ word2 3 0x3000 0x44c3 29 ∷ []) ∷
    told 30 0x0 0x0 (mapped 0x4000 "rwx" "rwx" (Device NGnRnE) Osh)
    (start2 1 0x1000 25 ∷ word2 1 0x1018 0x2003 25 ∷ word2 2 0x2008 0x3003 30 ∷ word2 3 0x3000 0x44c3 30 ∷ []) ∷
    told 32 0x0 0x0 (mapped 0x5000 "rwx" "rwx" (Device NGnRnE) Osh)
    (start2 1 0x1000 25 ∷ word2 1 0x1018 0x2003 25 ∷ word2 2 0x2008 0x3003 30 ∷ word2 3 0x3008 0x54c3 32 ∷ []) ∷
    told 33 0x0 0x0 (mapped 0x4000 "rwx" "rwx" (Device NGnRnE) Osh)
    (start2 1 0x1000 33 ∷ word2 1 0x1000 0x2003 33 ∷ word2 2 0x2000 0x3003 33 ∷ word2 3 0x3000 0x44c3 33 ∷ []) ∷ [])
    (Some (17 ∷ 0 ∷ 15 ∷ 2 ∷ 0 ∷ 8 ∷ 0 ∷ 9 ∷ []))
unfolding on_worked_walks on_worked_runs
eight_rows_of_each_kind = (refl, refl)

-- under lru a row that serves becomes the newest, also where it refuses the access; a conflict moves nothing and
-- shows the two made first
lru_and_services : Comes (header 1 ((0x0, 0x20000) ∷ []) Medium Lru)
    (Store 0 0x1000 0x400401 ∷ Store 0 0x1008 0x10000002200c01 ∷ Store 0 0x1080 0x600401 ∷ Store 0 0x1100 0x800401 ∷ Store 0 0x1180 0xa00401 ∷
    Msr 0 TcrEl1 0x24 ∷ Msr 0 Ttbr0El1 0x1000000001000 ∷ Msr 0 SctlrEl1 0x1 ∷ Isb 0 ∷ Access 0 (access 0x0 El1 Read false) ∷
    Access 0 (access 0x2000000 El1 Read false) ∷ Access 0 (access 0x4000000 El1 Read false) ∷ Msr 0 Ttbr0El1 0x2000000001000 ∷ Isb 0 ∷
    Access 0 (access 0x200000 El1 Read false) ∷ Msr 0 Ttbr0El1 0x1000000001000 ∷ Isb 0 ∷ Access 0 (access 0x0 El0 Read false) ∷
    Access 0 (access 0x2000000 El1 Read false) ∷ Access 0 (access 0x4000000 El1 Read false) ∷ Msr 0 Ttbr0El1 0x2000000001000 ∷ Isb 0 ∷
    Access 0 (access 0x0 El1 Read false) ∷ Access 0 (access 0x6000000 El1 Read false) ∷ Access 0 (access 0x0 El1 Read false) ∷ [])
    (told 9 0x1 0x0 (mapped 0x400000 "--x" "rwx" (Device NGnRnE) Osh)
    (start1 2 0x1000 9 ∷ word1 2 0x1000 0x400401 9 ∷ []) ∷
    told 10 0x1 0x0 (mapped 0x600000 "--x" "rwx" (Device NGnRnE) Osh)
    (start1 2 0x1000 10 ∷ word1 2 0x1080 0x600401 10 ∷ []) ∷
    told 11 0x1 0x0 (mapped 0x800000 "--x" "rwx" (Device NGnRnE) Osh)
    (start1 2 0x1000 11 ∷ word1 2 0x1100 0x800401 11 ∷ []) ∷
    told 14 0x2 0x0 (mapped 0x2200000 "--x" "rwx" (Device NGnRnE) Osh)
    (start1 2 0x1000 14 ∷ word1 2 0x1008 0x10000002200c01 14 ∷ []) ∷
    told 17 0x1 0x0 (fault S1 2 Permission)
    (start1 2 0x1000 9 ∷ word1 2 0x1000 0x400401 9 ∷ []) ∷
    told 18 0x1 0x0 (mapped 0x600000 "--x" "rwx" (Device NGnRnE) Osh)
    (start1 2 0x1000 10 ∷ word1 2 0x1080 0x600401 10 ∷ []) ∷
    told 19 0x1 0x0 (mapped 0x800000 "--x" "rwx" (Device NGnRnE) Osh)
    (start1 2 0x1000 11 ∷ word1 2 0x1100 0x800401 11 ∷ []) ∷
    conflict_told 22 0x2 0x0
    (start1 2 0x1000 9 ∷ word1 2 0x1000 0x400401 9 ∷ [])
    (start1 2 0x1000 14 ∷ word1 2 0x1008 0x10000002200c01 14 ∷ []) ∷
    told 23 0x2 0x0 (mapped 0xa00000 "--x" "rwx" (Device NGnRnE) Osh)
    (start1 2 0x1000 23 ∷ word1 2 0x1180 0xa00401 23 ∷ []) ∷
    told 24 0x2 0x0 (mapped 0x400000 "--x" "rwx" (Device NGnRnE) Osh)
    (start1 2 0x1000 9 ∷ word1 2 0x1000 0x400401 9 ∷ []) ∷ [])
    (Some (10 ∷ 0 ∷ 8 ∷ 1 ∷ 1 ∷ 5 ∷ 0 ∷ 1 ∷ []))
unfolding on_worked_walks on_worked_runs
lru_and_services = (refl, refl)

-- a step that ends in a conflict gives no service, not even of the table that began its walk
lru_and_a_conflict_in_a_chain : Comes (header 1 ((0x0, 0x20000) ∷ []) Medium Lru)
    (Store 0 0x1000 0x2003 ∷ Store 0 0x1020 0x2003 ∷ Store 0 0x1040 0x2003 ∷ Store 0 0x1060 0x2003 ∷ Store 0 0x1080 0x2003 ∷
    Store 0 0x2000 0x13403 ∷
    Store 0 0x2008 0x15403 ∷ Store 0 0x2018 0x13403 ∷ Store 0 0x8008 0x14c3 ∷ Store 0 0x8010 0x24c3 ∷ Store 0 0x8098 0x34c3 ∷
    Store 0 0x80a8 0x100000000354c3 ∷ Msr 0 TcrEl1 0x24 ∷ Msr 0 Ttbr0El1 0x1000 ∷ Msr 0 VtcrEl2 0xef ∷ Msr 0 VttbrEl2 0x8000 ∷ Msr 0 HcrEl2 0x1 ∷
    Msr 0 SctlrEl1 0x1 ∷ Isb 0 ∷ Access 0 (access 0x0 El1 Read false) ∷ Access 0 (access 0x1000 El1 Read false) ∷
    Access 0 (access 0x802000 El1 Read false) ∷ Access 0 (access 0x1002000 El1 Read false) ∷ Access 0 (access 0x1802000 El1 Read false) ∷
    Access 0 (access 0x3000 El1 Read false) ∷ Access 0 (access 0x2002000 El1 Read false) ∷ Access 0 (access 0x2000 El1 Read false) ∷ [])
    (told 19 0x0 0x0 (mapped 0x3000 "--x" "rwx" (Device NGnRnE) Osh)
    (start1 2 0x1000 19 ∷ start2 3 0x8000 19 ∷ word2 3 0x8008 0x14c3 19 ∷ word1 2 0x1000 0x2003 19 ∷ start2 3 0x8000 19 ∷
    word2 3 0x8010 0x24c3 19 ∷ word1 3 0x2000 0x13403 19 ∷ start2 3 0x8000 19 ∷ word2 3 0x8098 0x34c3 19 ∷ []) ∷
    told 20 0x0 0x0 (mapped 0x35000 "--x" "rwx" (Device NGnRnE) Osh)
    (start1 2 0x1000 19 ∷ start2 3 0x8000 19 ∷ word2 3 0x8008 0x14c3 19 ∷ word1 2 0x1000 0x2003 19 ∷ start2 3 0x8000 19 ∷
    word2 3 0x8010 0x24c3 19 ∷ word1 3 0x2008 0x15403 20 ∷ start2 3 0x8000 20 ∷ word2 3 0x80a8 0x100000000354c3 20 ∷ []) ∷
    told 21 0x0 0x0 (fault S1 3 Translation)
    (start1 2 0x1000 21 ∷ start2 3 0x8000 19 ∷ word2 3 0x8008 0x14c3 19 ∷ word1 2 0x1020 0x2003 21 ∷ start2 3 0x8000 19 ∷
    word2 3 0x8010 0x24c3 19 ∷ word1 3 0x2010 0x0 21 ∷ []) ∷
    told 22 0x0 0x0 (fault S1 3 Translation)
    (start1 2 0x1000 22 ∷ start2 3 0x8000 19 ∷ word2 3 0x8008 0x14c3 19 ∷ word1 2 0x1040 0x2003 22 ∷ start2 3 0x8000 19 ∷
    word2 3 0x8010 0x24c3 19 ∷ word1 3 0x2010 0x0 22 ∷ []) ∷
    told 23 0x0 0x0 (fault S1 3 Translation)
    (start1 2 0x1000 23 ∷ start2 3 0x8000 19 ∷ word2 3 0x8008 0x14c3 19 ∷ word1 2 0x1060 0x2003 23 ∷ start2 3 0x8000 19 ∷
    word2 3 0x8010 0x24c3 19 ∷ word1 3 0x2010 0x0 23 ∷ []) ∷
    conflict_told 24 0x0 0x0
    (start1 2 0x1000 19 ∷ start2 3 0x8000 19 ∷ word2 3 0x8008 0x14c3 19 ∷ word1 2 0x1000 0x2003 19 ∷ start2 3 0x8000 19 ∷
    word2 3 0x8010 0x24c3 19 ∷ word1 3 0x2018 0x13403 24 ∷ start2 3 0x8000 19 ∷ word2 3 0x8098 0x34c3 19 ∷ [])
    (start1 2 0x1000 19 ∷ start2 3 0x8000 19 ∷ word2 3 0x8008 0x14c3 19 ∷ word1 2 0x1000 0x2003 19 ∷ start2 3 0x8000 19 ∷
    word2 3 0x8010 0x24c3 19 ∷ word1 3 0x2018 0x13403 24 ∷ start2 3 0x8000 20 ∷ word2 3 0x80a8 0x100000000354c3 20 ∷ []) ∷
    told 25 0x0 0x0 (fault S1 3 Translation)
    (start1 2 0x1000 25 ∷ start2 3 0x8000 19 ∷ word2 3 0x8008 0x14c3 19 ∷ word1 2 0x1080 0x2003 25 ∷ start2 3 0x8000 19 ∷
    word2 3 0x8010 0x24c3 19 ∷ word1 3 0x2010 0x0 25 ∷ []) ∷
    told 26 0x0 0x0 (fault S1 3 Translation)
    (start1 2 0x1000 26 ∷ start2 3 0x8000 19 ∷ word2 3 0x8008 0x14c3 19 ∷ word1 2 0x1000 0x2003 26 ∷ start2 3 0x8000 19 ∷
    word2 3 0x8010 0x24c3 19 ∷ word1 3 0x2010 0x0 26 ∷ []) ∷ [])
    (Some (8 ∷ 0 ∷ 2 ∷ 5 ∷ 1 ∷ 7 ∷ 0 ∷ 2 ∷ []))
unfolding on_worked_walks on_worked_runs
lru_and_a_conflict_in_a_chain = (refl, refl)

-- a draw is made for each eviction, by one row of draws for all caches of a core, which begins at START + core
random_draws : Comes (header 2 ((0x0, 0x20000) ∷ []) Medium (Random 0xffffffffffffffff))
    (Store 0 0x1000 0x2003 ∷ Store 0 0x1020 0x2003 ∷ Store 0 0x1040 0x2003 ∷ Store 0 0x1060 0x2003 ∷ Store 0 0x1080 0x2003 ∷ Store 0 0x10a0 0x2003 ∷
    Store 0 0x2000 0x4403 ∷ Msr 0 TcrEl1 0x24 ∷ Msr 0 Ttbr0El1 0x1000 ∷ Msr 0 SctlrEl1 0x1 ∷ Isb 0 ∷ Msr 1 TcrEl1 0x24 ∷ Msr 1 Ttbr0El1 0x1000 ∷
    Msr 1 SctlrEl1 0x1 ∷ Isb 1 ∷ Access 0 (access 0x0 El1 Read false) ∷ Access 0 (access 0x800000 El1 Read false) ∷
    Access 0 (access 0x1000000 El1 Read false) ∷ Access 0 (access 0x1800000 El1 Read false) ∷ Access 0 (access 0x0 El1 Read false) ∷
    Access 0 (access 0x2000000 El1 Read false) ∷ Access 0 (access 0x2800000 El1 Read false) ∷ Access 0 (access 0x0 El1 Read false) ∷
    Access 0 (access 0x800000 El1 Read false) ∷ Access 1 (access 0x0 El1 Read false) ∷ Access 1 (access 0x800000 El1 Read false) ∷
    Access 1 (access 0x1000000 El1 Read false) ∷ Access 1 (access 0x1800000 El1 Read false) ∷ Access 1 (access 0x2000000 El1 Read false) ∷
    Access 1 (access 0x0 El1 Read false) ∷ Access 1 (access 0x800000 El1 Read false) ∷ [])
    (told 15 0x0 0x0 (mapped 0x4000 "--x" "rwx" (Device NGnRnE) Osh)
    (start1 2 0x1000 15 ∷ word1 2 0x1000 0x2003 15 ∷ word1 3 0x2000 0x4403 15 ∷ []) ∷
    told 16 0x0 0x0 (mapped 0x4000 "--x" "rwx" (Device NGnRnE) Osh)
    (start1 2 0x1000 16 ∷ word1 2 0x1020 0x2003 16 ∷ word1 3 0x2000 0x4403 16 ∷ []) ∷
    told 17 0x0 0x0 (mapped 0x4000 "--x" "rwx" (Device NGnRnE) Osh)
    (start1 2 0x1000 17 ∷ word1 2 0x1040 0x2003 17 ∷ word1 3 0x2000 0x4403 17 ∷ []) ∷
    told 18 0x0 0x0 (mapped 0x4000 "--x" "rwx" (Device NGnRnE) Osh)
    (start1 2 0x1000 18 ∷ word1 2 0x1060 0x2003 18 ∷ word1 3 0x2000 0x4403 18 ∷ []) ∷
    told 19 0x0 0x0 (mapped 0x4000 "--x" "rwx" (Device NGnRnE) Osh)
    (start1 2 0x1000 15 ∷ word1 2 0x1000 0x2003 15 ∷ word1 3 0x2000 0x4403 15 ∷ []) ∷
    told 20 0x0 0x0 (mapped 0x4000 "--x" "rwx" (Device NGnRnE) Osh)
    (start1 2 0x1000 20 ∷ word1 2 0x1080 0x2003 20 ∷ word1 3 0x2000 0x4403 20 ∷ []) ∷
    told 21 0x0 0x0 (mapped 0x4000 "--x" "rwx" (Device NGnRnE) Osh)
    (start1 2 0x1000 21 ∷ word1 2 0x10a0 0x2003 21 ∷ word1 3 0x2000 0x4403 21 ∷ []) ∷
    told 22 0x0 0x0 (mapped 0x4000 "--x" "rwx" (Device NGnRnE) Osh)
    (start1 2 0x1000 15 ∷ word1 2 0x1000 0x2003 15 ∷ word1 3 0x2000 0x4403 15 ∷ []) ∷
    told 23 0x0 0x0 (mapped 0x4000 "--x" "rwx" (Device NGnRnE) Osh)
    (start1 2 0x1000 16 ∷ word1 2 0x1020 0x2003 16 ∷ word1 3 0x2000 0x4403 16 ∷ []) ∷
    told 24 0x0 0x0 (mapped 0x4000 "--x" "rwx" (Device NGnRnE) Osh)
    (start1 2 0x1000 24 ∷ word1 2 0x1000 0x2003 24 ∷ word1 3 0x2000 0x4403 24 ∷ []) ∷
    told 25 0x0 0x0 (mapped 0x4000 "--x" "rwx" (Device NGnRnE) Osh)
    (start1 2 0x1000 25 ∷ word1 2 0x1020 0x2003 25 ∷ word1 3 0x2000 0x4403 25 ∷ []) ∷
    told 26 0x0 0x0 (mapped 0x4000 "--x" "rwx" (Device NGnRnE) Osh)
    (start1 2 0x1000 26 ∷ word1 2 0x1040 0x2003 26 ∷ word1 3 0x2000 0x4403 26 ∷ []) ∷
    told 27 0x0 0x0 (mapped 0x4000 "--x" "rwx" (Device NGnRnE) Osh)
    (start1 2 0x1000 27 ∷ word1 2 0x1060 0x2003 27 ∷ word1 3 0x2000 0x4403 27 ∷ []) ∷
    told 28 0x0 0x0 (mapped 0x4000 "--x" "rwx" (Device NGnRnE) Osh)
    (start1 2 0x1000 28 ∷ word1 2 0x1080 0x2003 28 ∷ word1 3 0x2000 0x4403 28 ∷ []) ∷
    told 29 0x0 0x0 (mapped 0x4000 "--x" "rwx" (Device NGnRnE) Osh)
    (start1 2 0x1000 24 ∷ word1 2 0x1000 0x2003 24 ∷ word1 3 0x2000 0x4403 29 ∷ []) ∷
    told 30 0x0 0x0 (mapped 0x4000 "--x" "rwx" (Device NGnRnE) Osh)
    (start1 2 0x1000 25 ∷ word1 2 0x1020 0x2003 25 ∷ word1 3 0x2000 0x4403 25 ∷ []) ∷ [])
    (Some (16 ∷ 0 ∷ 16 ∷ 0 ∷ 0 ∷ 5 ∷ 0 ∷ 7 ∷ []))
unfolding on_worked_walks on_worked_runs
random_draws = (refl, refl)

-- medium: a combined row stands in set start div 2^class mod 16 of four rows, and a full set loses a row while
-- others are empty
sets_of_combined_rows : Comes (header 1 ((0x0, 0x20000) ∷ []) Medium Fifo)
    (Store 0 0x1000 0x200401 ∷ Store 0 0x1040 0x400401 ∷ Store 0 0x1080 0x600401 ∷ Store 0 0x1100 0x800401 ∷ Store 0 0x1180 0xa00401 ∷
    Store 0 0x1200 0xc00401 ∷ Msr 0 TcrEl1 0x24 ∷ Msr 0 Ttbr0El1 0x1000 ∷ Msr 0 SctlrEl1 0x1 ∷ Isb 0 ∷ Access 0 (access 0x1000000 El1 Read false) ∷
    Access 0 (access 0x0 El1 Read false) ∷ Access 0 (access 0x2000000 El1 Read false) ∷ Access 0 (access 0x4000000 El1 Read false) ∷
    Access 0 (access 0x6000000 El1 Read false) ∷ Access 0 (access 0x1000000 El1 Read false) ∷ Access 0 (access 0x8000000 El1 Read false) ∷
    Access 0 (access 0x0 El1 Read false) ∷ Access 0 (access 0x4000000 El1 Read false) ∷ [])
    (told 10 0x0 0x0 (mapped 0x400000 "--x" "rwx" (Device NGnRnE) Osh)
    (start1 2 0x1000 10 ∷ word1 2 0x1040 0x400401 10 ∷ []) ∷
    told 11 0x0 0x0 (mapped 0x200000 "--x" "rwx" (Device NGnRnE) Osh)
    (start1 2 0x1000 11 ∷ word1 2 0x1000 0x200401 11 ∷ []) ∷
    told 12 0x0 0x0 (mapped 0x600000 "--x" "rwx" (Device NGnRnE) Osh)
    (start1 2 0x1000 12 ∷ word1 2 0x1080 0x600401 12 ∷ []) ∷
    told 13 0x0 0x0 (mapped 0x800000 "--x" "rwx" (Device NGnRnE) Osh)
    (start1 2 0x1000 13 ∷ word1 2 0x1100 0x800401 13 ∷ []) ∷
    told 14 0x0 0x0 (mapped 0xa00000 "--x" "rwx" (Device NGnRnE) Osh)
    (start1 2 0x1000 14 ∷ word1 2 0x1180 0xa00401 14 ∷ []) ∷
    told 15 0x0 0x0 (mapped 0x400000 "--x" "rwx" (Device NGnRnE) Osh)
    (start1 2 0x1000 10 ∷ word1 2 0x1040 0x400401 10 ∷ []) ∷
    told 16 0x0 0x0 (mapped 0xc00000 "--x" "rwx" (Device NGnRnE) Osh)
    (start1 2 0x1000 16 ∷ word1 2 0x1200 0xc00401 16 ∷ []) ∷
    told 17 0x0 0x0 (mapped 0x200000 "--x" "rwx" (Device NGnRnE) Osh)
    (start1 2 0x1000 17 ∷ word1 2 0x1000 0x200401 17 ∷ []) ∷
    told 18 0x0 0x0 (mapped 0x800000 "--x" "rwx" (Device NGnRnE) Osh)
    (start1 2 0x1000 13 ∷ word1 2 0x1100 0x800401 13 ∷ []) ∷ [])
    (Some (9 ∷ 0 ∷ 9 ∷ 0 ∷ 0 ∷ 2 ∷ 0 ∷ 2 ∷ []))
unfolding on_worked_walks on_worked_runs
sets_of_combined_rows = (refl, refl)

-- medium: a stage 2 leaf stands in set start div 2^class mod 8 of four rows
sets_of_stage2_leaves : Comes (header 1 ((0x0, 0x20000) ∷ []) Medium Fifo)
    (Store 0 0x8000 0x14ff ∷ Store 0 0x8020 0x24ff ∷ Store 0 0x8040 0x34ff ∷ Store 0 0x8080 0x44ff ∷ Store 0 0x80c0 0x54ff ∷ Store 0 0x8100 0x64ff ∷
    Msr 0 VtcrEl2 0xee ∷ Msr 0 VttbrEl2 0x8000 ∷ Msr 0 HcrEl2 0x1 ∷ Isb 0 ∷ Access 0 (access 0x4000 El1 Read false) ∷
    Access 0 (access 0x0 El1 Read false) ∷ Access 0 (access 0x8000 El1 Read false) ∷ Access 0 (access 0x10000 El1 Read false) ∷
    Access 0 (access 0x18000 El1 Read false) ∷ Access 0 (access 0x4000 El1 Read false) ∷ Access 0 (access 0x20000 El1 Read false) ∷
    Access 0 (access 0x0 El1 Read false) ∷ Access 0 (access 0x10000 El1 Read false) ∷ [])
    (told 10 0x0 0x0 (mapped 0x2000 "rwx" "rwx" (Device NGnRnE) Osh)
    (start2 3 0x8000 10 ∷ word2 3 0x8020 0x24ff 10 ∷ []) ∷
    told 11 0x0 0x0 (mapped 0x1000 "rwx" "rwx" (Device NGnRnE) Osh)
    (start2 3 0x8000 11 ∷ word2 3 0x8000 0x14ff 11 ∷ []) ∷
    told 12 0x0 0x0 (mapped 0x3000 "rwx" "rwx" (Device NGnRnE) Osh)
    (start2 3 0x8000 12 ∷ word2 3 0x8040 0x34ff 12 ∷ []) ∷
    told 13 0x0 0x0 (mapped 0x4000 "rwx" "rwx" (Device NGnRnE) Osh)
    (start2 3 0x8000 13 ∷ word2 3 0x8080 0x44ff 13 ∷ []) ∷
    told 14 0x0 0x0 (mapped 0x5000 "rwx" "rwx" (Device NGnRnE) Osh)
    (start2 3 0x8000 14 ∷ word2 3 0x80c0 0x54ff 14 ∷ []) ∷
    told 15 0x0 0x0 (mapped 0x2000 "rwx" "rwx" (Device NGnRnE) Osh)
    (start2 3 0x8000 10 ∷ word2 3 0x8020 0x24ff 10 ∷ []) ∷
    told 16 0x0 0x0 (mapped 0x6000 "rwx" "rwx" (Device NGnRnE) Osh)
    (start2 3 0x8000 16 ∷ word2 3 0x8100 0x64ff 16 ∷ []) ∷
    told 17 0x0 0x0 (mapped 0x1000 "rwx" "rwx" (Device NGnRnE) Osh)
    (start2 3 0x8000 17 ∷ word2 3 0x8000 0x14ff 17 ∷ []) ∷
    told 18 0x0 0x0 (mapped 0x4000 "rwx" "rwx" (Device NGnRnE) Osh)
    (start2 3 0x8000 13 ∷ word2 3 0x8080 0x44ff 13 ∷ []) ∷ [])
    (Some (9 ∷ 0 ∷ 9 ∷ 0 ∷ 0 ∷ 2 ∷ 0 ∷ 2 ∷ []))
unfolding on_worked_walks on_worked_runs
sets_of_stage2_leaves = (refl, refl)

-- a table read again in a step makes a row again where its first row was evicted by the step's other rows
equal_rows_of_one_step : Comes (header 1 ((0x0, 0x20000) ∷ []) Medium Fifo)
    (Store 0 0x1000 0x100004003 ∷ Store 0 0x4000 0x200005003 ∷ Store 0 0x5000 0x6403 ∷ Store 0 0x8000 0x9003 ∷ Store 0 0x8020 0x9003 ∷
    Store 0 0x8040 0x9003 ∷ Store 0 0x9000 0xa003 ∷ Store 0 0xa008 0x14ff ∷ Store 0 0xa010 0x24ff ∷ Store 0 0xa020 0x44ff ∷ Store 0 0xa028 0x54ff ∷
    Store 0 0xa030 0x64ff ∷ Msr 0 TcrEl1 0x100000021 ∷ Msr 0 Ttbr0El1 0x1000 ∷ Msr 0 VtcrEl2 0x1005c ∷ Msr 0 VttbrEl2 0x8000 ∷ Msr 0 HcrEl2 0x1 ∷
    Msr 0 SctlrEl1 0x1 ∷ Isb 0 ∷ Access 0 (access 0xabc El1 Read false) ∷ Access 0 (access 0x1abc El1 Read false) ∷ [])
    (told 19 0x0 0x0 (mapped 0x6abc "--x" "rwx" (Device NGnRnE) Osh)
    (start1 1 0x1000 19 ∷ start2 1 0x8000 19 ∷ word2 1 0x8000 0x9003 19 ∷ word2 2 0x9000 0xa003 19 ∷ word2 3 0xa008 0x14ff 19 ∷
    word1 1 0x1000 0x100004003 19 ∷ start2 1 0x8000 19 ∷ word2 1 0x8020 0x9003 19 ∷ word2 2 0x9000 0xa003 19 ∷ word2 3 0xa020 0x44ff 19 ∷
    word1 2 0x4000 0x200005003 19 ∷ start2 1 0x8000 19 ∷ word2 1 0x8040 0x9003 19 ∷ word2 2 0x9000 0xa003 19 ∷ word2 3 0xa028 0x54ff 19 ∷
    word1 3 0x5000 0x6403 19 ∷ start2 1 0x8000 19 ∷ word2 1 0x8000 0x9003 19 ∷ word2 2 0x9000 0xa003 19 ∷ word2 3 0xa030 0x64ff 19 ∷ []) ∷
    told 20 0x0 0x0 (fault S1 3 Translation)
    (start1 1 0x1000 19 ∷ start2 1 0x8000 19 ∷ word2 1 0x8000 0x9003 19 ∷ word2 2 0x9000 0xa003 19 ∷ word2 3 0xa008 0x14ff 19 ∷
    word1 1 0x1000 0x100004003 19 ∷ start2 1 0x8000 19 ∷ word2 1 0x8020 0x9003 19 ∷ word2 2 0x9000 0xa003 19 ∷ word2 3 0xa020 0x44ff 19 ∷
    word1 2 0x4000 0x200005003 19 ∷ start2 1 0x8000 19 ∷ word2 1 0x8040 0x9003 19 ∷ word2 2 0x9000 0xa003 19 ∷ word2 3 0xa028 0x54ff 19 ∷
    word1 3 0x5008 0x0 20 ∷ []) ∷ [])
    (Some (2 ∷ 0 ∷ 1 ∷ 1 ∷ 0 ∷ 1 ∷ 0 ∷ 4 ∷ []))
unfolding on_worked_walks on_worked_runs
equal_rows_of_one_step = (refl, refl)

-- under lru a table that begins a walk becomes the newest whatever the outcome, but comes before the rows that the
-- step makes
lru_and_tables : Comes (header 1 ((0x0, 0x20000) ∷ []) Medium Lru)
    (Store 0 0x1000 0x2003 ∷ Store 0 0x2000 0x3003 ∷ Store 0 0x2020 0x3003 ∷ Store 0 0x2040 0x3003 ∷ Store 0 0x2060 0x3003 ∷ Msr 0 TcrEl1 0x21 ∷
    Msr 0 Ttbr0El1 0x1000000001000 ∷ Msr 0 SctlrEl1 0x1 ∷ Isb 0 ∷ Access 0 (access 0x0 El1 Read false) ∷ Access 0 (access 0x800000 El1 Read false) ∷
    Access 0 (access 0x1000000 El1 Read false) ∷ Access 0 (access 0x1800000 El1 Read false) ∷ Access 0 (access 0x1000 El1 Read false) ∷
    Msr 0 Ttbr0El1 0x2000000001000 ∷ Isb 0 ∷ Access 0 (access 0x0 El1 Read false) ∷ Access 0 (access 0x800000 El1 Read false) ∷
    Msr 0 Ttbr0El1 0x1000000001000 ∷ Isb 0 ∷ Access 0 (access 0x2000 El1 Read false) ∷ [])
    (told 9 0x1 0x0 (fault S1 3 Translation)
    (start1 1 0x1000 9 ∷ word1 1 0x1000 0x2003 9 ∷ word1 2 0x2000 0x3003 9 ∷ word1 3 0x3000 0x0 9 ∷ []) ∷
    told 10 0x1 0x0 (fault S1 3 Translation)
    (start1 1 0x1000 9 ∷ word1 1 0x1000 0x2003 9 ∷ word1 2 0x2020 0x3003 10 ∷ word1 3 0x3000 0x0 10 ∷ []) ∷
    told 11 0x1 0x0 (fault S1 3 Translation)
    (start1 1 0x1000 9 ∷ word1 1 0x1000 0x2003 9 ∷ word1 2 0x2040 0x3003 11 ∷ word1 3 0x3000 0x0 11 ∷ []) ∷
    told 12 0x1 0x0 (fault S1 3 Translation)
    (start1 1 0x1000 9 ∷ word1 1 0x1000 0x2003 9 ∷ word1 2 0x2060 0x3003 12 ∷ word1 3 0x3000 0x0 12 ∷ []) ∷
    told 13 0x1 0x0 (fault S1 3 Translation)
    (start1 1 0x1000 9 ∷ word1 1 0x1000 0x2003 9 ∷ word1 2 0x2000 0x3003 13 ∷ word1 3 0x3008 0x0 13 ∷ []) ∷
    told 16 0x2 0x0 (fault S1 3 Translation)
    (start1 1 0x1000 16 ∷ word1 1 0x1000 0x2003 16 ∷ word1 2 0x2000 0x3003 16 ∷ word1 3 0x3000 0x0 16 ∷ []) ∷
    told 17 0x2 0x0 (fault S1 3 Translation)
    (start1 1 0x1000 16 ∷ word1 1 0x1000 0x2003 16 ∷ word1 2 0x2020 0x3003 17 ∷ word1 3 0x3000 0x0 17 ∷ []) ∷
    told 20 0x1 0x0 (fault S1 3 Translation)
    (start1 1 0x1000 9 ∷ word1 1 0x1000 0x2003 9 ∷ word1 2 0x2000 0x3003 13 ∷ word1 3 0x3010 0x0 20 ∷ []) ∷ [])
    (Some (8 ∷ 0 ∷ 0 ∷ 8 ∷ 0 ∷ 6 ∷ 0 ∷ 5 ∷ []))
unfolding on_worked_walks on_worked_runs
lru_and_tables = (refl, refl)

-- large: a combined row stands in set start div 2^class mod 64 of eight rows, a stage 2 leaf in one mod 32 of four;
-- ASIDs share a set
sets_of_large : Comes (header 1 ((0x0, 0x20000) ∷ []) Large Fifo)
    (Store 0 0x1000 0x200c01 ∷ Store 0 0x1100 0x400c01 ∷ Store 0 0x1200 0x600c01 ∷ Store 0 0x1400 0x800c01 ∷ Msr 0 TcrEl1 0x22 ∷
    Msr 0 SctlrEl1 0x1 ∷
    Msr 0 Ttbr0El1 0x1000000001000 ∷ Isb 0 ∷ Access 0 (access 0x4000000 El1 Read false) ∷ Access 0 (access 0x0 El1 Read false) ∷
    Access 0 (access 0x8000000 El1 Read false) ∷ Access 0 (access 0x10000000 El1 Read false) ∷ Msr 0 Ttbr0El1 0x2000000001000 ∷ Isb 0 ∷
    Access 0 (access 0x4000000 El1 Read false) ∷ Access 0 (access 0x0 El1 Read false) ∷ Access 0 (access 0x8000000 El1 Read false) ∷
    Access 0 (access 0x10000000 El1 Read false) ∷ Msr 0 Ttbr0El1 0x3000000001000 ∷ Isb 0 ∷ Access 0 (access 0x0 El1 Read false) ∷
    Access 0 (access 0x8000000 El1 Read false) ∷ Access 0 (access 0x10000000 El1 Read false) ∷ Store 0 0x8000 0x14ff ∷ Store 0 0x8080 0x24ff ∷
    Store 0 0x8100 0x34ff ∷ Store 0 0x8200 0x44ff ∷ Store 0 0x8300 0x54ff ∷ Store 0 0x8400 0x64ff ∷ Msr 0 SctlrEl1 0x0 ∷ Msr 0 VtcrEl2 0xec ∷
    Msr 0 VttbrEl2 0x8000 ∷ Msr 0 HcrEl2 0x1 ∷ Isb 0 ∷ Access 0 (access 0x10000 El1 Read false) ∷ Access 0 (access 0x0 El1 Read false) ∷
    Access 0 (access 0x20000 El1 Read false) ∷ Access 0 (access 0x40000 El1 Read false) ∷ Access 0 (access 0x60000 El1 Read false) ∷
    Access 0 (access 0x10000 El1 Read false) ∷ Access 0 (access 0x80000 El1 Read false) ∷ Access 0 (access 0x0 El1 Read false) ∷ [])
    (told 8 0x1 0x0 (mapped 0x400000 "--x" "rwx" (Device NGnRnE) Osh)
    (start1 2 0x1000 8 ∷ word1 2 0x1100 0x400c01 8 ∷ []) ∷
    told 9 0x1 0x0 (mapped 0x200000 "--x" "rwx" (Device NGnRnE) Osh)
    (start1 2 0x1000 9 ∷ word1 2 0x1000 0x200c01 9 ∷ []) ∷
    told 10 0x1 0x0 (mapped 0x600000 "--x" "rwx" (Device NGnRnE) Osh)
    (start1 2 0x1000 10 ∷ word1 2 0x1200 0x600c01 10 ∷ []) ∷
    told 11 0x1 0x0 (mapped 0x800000 "--x" "rwx" (Device NGnRnE) Osh)
    (start1 2 0x1000 11 ∷ word1 2 0x1400 0x800c01 11 ∷ []) ∷
    told 14 0x2 0x0 (mapped 0x400000 "--x" "rwx" (Device NGnRnE) Osh)
    (start1 2 0x1000 14 ∷ word1 2 0x1100 0x400c01 14 ∷ []) ∷
    told 15 0x2 0x0 (mapped 0x200000 "--x" "rwx" (Device NGnRnE) Osh)
    (start1 2 0x1000 15 ∷ word1 2 0x1000 0x200c01 15 ∷ []) ∷
    told 16 0x2 0x0 (mapped 0x600000 "--x" "rwx" (Device NGnRnE) Osh)
    (start1 2 0x1000 16 ∷ word1 2 0x1200 0x600c01 16 ∷ []) ∷
    told 17 0x2 0x0 (mapped 0x800000 "--x" "rwx" (Device NGnRnE) Osh)
    (start1 2 0x1000 17 ∷ word1 2 0x1400 0x800c01 17 ∷ []) ∷
    told 20 0x3 0x0 (mapped 0x200000 "--x" "rwx" (Device NGnRnE) Osh)
    (start1 2 0x1000 20 ∷ word1 2 0x1000 0x200c01 20 ∷ []) ∷
    told 21 0x3 0x0 (mapped 0x600000 "--x" "rwx" (Device NGnRnE) Osh)
    (start1 2 0x1000 21 ∷ word1 2 0x1200 0x600c01 21 ∷ []) ∷
    told 22 0x3 0x0 (mapped 0x800000 "--x" "rwx" (Device NGnRnE) Osh)
    (start1 2 0x1000 22 ∷ word1 2 0x1400 0x800c01 22 ∷ []) ∷
    told 34 0x3 0x0 (mapped 0x2000 "rwx" "rwx" (Device NGnRnE) Osh)
    (start2 3 0x8000 34 ∷ word2 3 0x8080 0x24ff 34 ∷ []) ∷
    told 35 0x3 0x0 (mapped 0x1000 "rwx" "rwx" (Device NGnRnE) Osh)
    (start2 3 0x8000 35 ∷ word2 3 0x8000 0x14ff 35 ∷ []) ∷
    told 36 0x3 0x0 (mapped 0x3000 "rwx" "rwx" (Device NGnRnE) Osh)
    (start2 3 0x8000 36 ∷ word2 3 0x8100 0x34ff 36 ∷ []) ∷
    told 37 0x3 0x0 (mapped 0x4000 "rwx" "rwx" (Device NGnRnE) Osh)
    (start2 3 0x8000 37 ∷ word2 3 0x8200 0x44ff 37 ∷ []) ∷
    told 38 0x3 0x0 (mapped 0x5000 "rwx" "rwx" (Device NGnRnE) Osh)
    (start2 3 0x8000 38 ∷ word2 3 0x8300 0x54ff 38 ∷ []) ∷
    told 39 0x3 0x0 (mapped 0x2000 "rwx" "rwx" (Device NGnRnE) Osh)
    (start2 3 0x8000 34 ∷ word2 3 0x8080 0x24ff 34 ∷ []) ∷
    told 40 0x3 0x0 (mapped 0x6000 "rwx" "rwx" (Device NGnRnE) Osh)
    (start2 3 0x8000 40 ∷ word2 3 0x8400 0x64ff 40 ∷ []) ∷
    told 41 0x3 0x0 (mapped 0x1000 "rwx" "rwx" (Device NGnRnE) Osh)
    (start2 3 0x8000 41 ∷ word2 3 0x8000 0x14ff 41 ∷ []) ∷ [])
    (Some (19 ∷ 0 ∷ 19 ∷ 0 ∷ 0 ∷ 1 ∷ 0 ∷ 3 ∷ []))
unfolding on_worked_walks on_worked_runs
sets_of_large = (refl, refl)

-- under lru every service of a step counts, not the first alone: a stage 2 leaf that served behind a stage 1 table
-- stays
lru_services_after_the_first : Comes (header 1 ((0x0, 0x20000) ∷ []) Small Lru)
    (Store 0 0x1000 0x2003 ∷ Store 0 0x2000 0x10403 ∷ Store 0 0x2008 0x11403 ∷ Store 0 0x2010 0x12403 ∷ Store 0 0x2018 0x13403 ∷
    Store 0 0x2020 0x14403 ∷ Store 0 0x2028 0x15403 ∷ Store 0 0x2030 0x16403 ∷ Store 0 0x2038 0x17403 ∷ Store 0 0x2040 0x18403 ∷
    Store 0 0x2048 0x19403 ∷ Store 0 0x2050 0x1a403 ∷ Store 0 0x2058 0x1b403 ∷ Store 0 0x8000 0x9003 ∷ Store 0 0x9008 0x14ff ∷
    Store 0 0x9010 0x24ff ∷ Store 0 0x9080 0x104ff ∷ Store 0 0x9088 0x114ff ∷ Store 0 0x9090 0x124ff ∷ Store 0 0x9098 0x134ff ∷
    Store 0 0x90a0 0x144ff ∷ Store 0 0x90a8 0x154ff ∷ Store 0 0x90b0 0x164ff ∷ Store 0 0x90b8 0x174ff ∷ Store 0 0x90c0 0x184ff ∷
    Store 0 0x90c8 0x194ff ∷ Store 0 0x90d0 0x1a4ff ∷ Store 0 0x90d8 0x1b4ff ∷ Msr 0 TcrEl1 0x27 ∷ Msr 0 Ttbr0El1 0x1000 ∷ Msr 0 VtcrEl2 0x27 ∷
    Msr 0 VttbrEl2 0x8000 ∷ Msr 0 HcrEl2 0x1 ∷ Msr 0 SctlrEl1 0x1 ∷ Isb 0 ∷ Access 0 (access 0x0 El1 Read false) ∷
    Access 0 (access 0x1000 El1 Read false) ∷ Access 0 (access 0x2000 El1 Read false) ∷ Access 0 (access 0x3000 El1 Read false) ∷
    Access 0 (access 0x4000 El1 Read false) ∷ Access 0 (access 0x5000 El1 Read false) ∷ Access 0 (access 0x6000 El1 Read false) ∷
    Access 0 (access 0x7000 El1 Read false) ∷ Access 0 (access 0x8000 El1 Read false) ∷ [])
    (told 35 0x0 0x0 (mapped 0x10000 "--x" "rwx" (Device NGnRnE) Osh)
    (start1 2 0x1000 35 ∷ start2 2 0x8000 35 ∷ word2 2 0x8000 0x9003 35 ∷ word2 3 0x9008 0x14ff 35 ∷ word1 2 0x1000 0x2003 35 ∷
    start2 2 0x8000 35 ∷ word2 2 0x8000 0x9003 35 ∷ word2 3 0x9010 0x24ff 35 ∷ word1 3 0x2000 0x10403 35 ∷ start2 2 0x8000 35 ∷
    word2 2 0x8000 0x9003 35 ∷ word2 3 0x9080 0x104ff 35 ∷ []) ∷
    told 36 0x0 0x0 (mapped 0x11000 "--x" "rwx" (Device NGnRnE) Osh)
    (start1 2 0x1000 35 ∷ start2 2 0x8000 35 ∷ word2 2 0x8000 0x9003 35 ∷ word2 3 0x9008 0x14ff 35 ∷ word1 2 0x1000 0x2003 35 ∷
    start2 2 0x8000 35 ∷ word2 2 0x8000 0x9003 35 ∷ word2 3 0x9010 0x24ff 35 ∷ word1 3 0x2008 0x11403 36 ∷ start2 2 0x8000 35 ∷
    word2 2 0x8000 0x9003 35 ∷ word2 3 0x9088 0x114ff 36 ∷ []) ∷
    told 37 0x0 0x0 (mapped 0x12000 "--x" "rwx" (Device NGnRnE) Osh)
    (start1 2 0x1000 35 ∷ start2 2 0x8000 35 ∷ word2 2 0x8000 0x9003 35 ∷ word2 3 0x9008 0x14ff 35 ∷ word1 2 0x1000 0x2003 35 ∷
    start2 2 0x8000 35 ∷ word2 2 0x8000 0x9003 35 ∷ word2 3 0x9010 0x24ff 35 ∷ word1 3 0x2010 0x12403 37 ∷ start2 2 0x8000 35 ∷
    word2 2 0x8000 0x9003 35 ∷ word2 3 0x9090 0x124ff 37 ∷ []) ∷
    told 38 0x0 0x0 (mapped 0x13000 "--x" "rwx" (Device NGnRnE) Osh)
    (start1 2 0x1000 35 ∷ start2 2 0x8000 35 ∷ word2 2 0x8000 0x9003 35 ∷ word2 3 0x9008 0x14ff 35 ∷ word1 2 0x1000 0x2003 35 ∷
    start2 2 0x8000 35 ∷ word2 2 0x8000 0x9003 35 ∷ word2 3 0x9010 0x24ff 35 ∷ word1 3 0x2018 0x13403 38 ∷ start2 2 0x8000 35 ∷
    word2 2 0x8000 0x9003 35 ∷ word2 3 0x9098 0x134ff 38 ∷ []) ∷
    told 39 0x0 0x0 (mapped 0x14000 "--x" "rwx" (Device NGnRnE) Osh)
    (start1 2 0x1000 35 ∷ start2 2 0x8000 35 ∷ word2 2 0x8000 0x9003 35 ∷ word2 3 0x9008 0x14ff 35 ∷ word1 2 0x1000 0x2003 35 ∷
    start2 2 0x8000 35 ∷ word2 2 0x8000 0x9003 35 ∷ word2 3 0x9010 0x24ff 35 ∷ word1 3 0x2020 0x14403 39 ∷ start2 2 0x8000 35 ∷
    word2 2 0x8000 0x9003 35 ∷ word2 3 0x90a0 0x144ff 39 ∷ []) ∷
    told 40 0x0 0x0 (mapped 0x15000 "--x" "rwx" (Device NGnRnE) Osh)
    (start1 2 0x1000 35 ∷ start2 2 0x8000 35 ∷ word2 2 0x8000 0x9003 35 ∷ word2 3 0x9008 0x14ff 35 ∷ word1 2 0x1000 0x2003 35 ∷
    start2 2 0x8000 35 ∷ word2 2 0x8000 0x9003 35 ∷ word2 3 0x9010 0x24ff 35 ∷ word1 3 0x2028 0x15403 40 ∷ start2 2 0x8000 35 ∷
    word2 2 0x8000 0x9003 35 ∷ word2 3 0x90a8 0x154ff 40 ∷ []) ∷
    told 41 0x0 0x0 (mapped 0x16000 "--x" "rwx" (Device NGnRnE) Osh)
    (start1 2 0x1000 35 ∷ start2 2 0x8000 35 ∷ word2 2 0x8000 0x9003 35 ∷ word2 3 0x9008 0x14ff 35 ∷ word1 2 0x1000 0x2003 35 ∷
    start2 2 0x8000 35 ∷ word2 2 0x8000 0x9003 35 ∷ word2 3 0x9010 0x24ff 35 ∷ word1 3 0x2030 0x16403 41 ∷ start2 2 0x8000 35 ∷
    word2 2 0x8000 0x9003 35 ∷ word2 3 0x90b0 0x164ff 41 ∷ []) ∷
    told 42 0x0 0x0 (mapped 0x17000 "--x" "rwx" (Device NGnRnE) Osh)
    (start1 2 0x1000 35 ∷ start2 2 0x8000 35 ∷ word2 2 0x8000 0x9003 35 ∷ word2 3 0x9008 0x14ff 35 ∷ word1 2 0x1000 0x2003 35 ∷
    start2 2 0x8000 35 ∷ word2 2 0x8000 0x9003 35 ∷ word2 3 0x9010 0x24ff 35 ∷ word1 3 0x2038 0x17403 42 ∷ start2 2 0x8000 35 ∷
    word2 2 0x8000 0x9003 35 ∷ word2 3 0x90b8 0x174ff 42 ∷ []) ∷
    told 43 0x0 0x0 (mapped 0x18000 "--x" "rwx" (Device NGnRnE) Osh)
    (start1 2 0x1000 35 ∷ start2 2 0x8000 35 ∷ word2 2 0x8000 0x9003 35 ∷ word2 3 0x9008 0x14ff 35 ∷ word1 2 0x1000 0x2003 35 ∷
    start2 2 0x8000 35 ∷ word2 2 0x8000 0x9003 35 ∷ word2 3 0x9010 0x24ff 35 ∷ word1 3 0x2040 0x18403 43 ∷ start2 2 0x8000 35 ∷
    word2 2 0x8000 0x9003 35 ∷ word2 3 0x90c0 0x184ff 43 ∷ []) ∷ [])
    (Some (9 ∷ 0 ∷ 9 ∷ 0 ∷ 0 ∷ 8 ∷ 0 ∷ 4 ∷ []))
unfolding on_worked_walks on_worked_runs
lru_services_after_the_first = (refl, refl)

-- under lru the services of one step count in the order of the trail: the one that served first leaves first
lru_services_in_order : Comes (header 1 ((0x0, 0x20000) ∷ []) Small Lru)
    (Store 0 0x1000 0x2003 ∷ Store 0 0x2000 0x10403 ∷ Store 0 0x2008 0x11403 ∷ Store 0 0x2010 0x12403 ∷ Store 0 0x2018 0x13403 ∷
    Store 0 0x2020 0x14403 ∷ Store 0 0x2028 0x15403 ∷ Store 0 0x2030 0x16403 ∷ Store 0 0x2038 0x17403 ∷ Store 0 0x2040 0x18403 ∷
    Store 0 0x2048 0x19403 ∷ Store 0 0x2050 0x1a403 ∷ Store 0 0x2058 0x1b403 ∷ Store 0 0x8000 0x9003 ∷ Store 0 0x9008 0x14ff ∷
    Store 0 0x9010 0x24ff ∷ Store 0 0x9080 0x104ff ∷ Store 0 0x9088 0x114ff ∷ Store 0 0x9090 0x124ff ∷ Store 0 0x9098 0x134ff ∷
    Store 0 0x90a0 0x144ff ∷ Store 0 0x90a8 0x154ff ∷ Store 0 0x90b0 0x164ff ∷ Store 0 0x90b8 0x174ff ∷ Store 0 0x90c0 0x184ff ∷
    Store 0 0x90c8 0x194ff ∷ Store 0 0x90d0 0x1a4ff ∷ Store 0 0x90d8 0x1b4ff ∷ Msr 0 TcrEl1 0x27 ∷ Msr 0 Ttbr0El1 0x1000 ∷ Msr 0 VtcrEl2 0x27 ∷
    Msr 0 VttbrEl2 0x8000 ∷ Msr 0 HcrEl2 0x1 ∷ Msr 0 SctlrEl1 0x1 ∷ Isb 0 ∷ Access 0 (access 0x0 El1 Read false) ∷
    Access 0 (access 0x1000 El1 Read false) ∷ Access 0 (access 0x2000 El1 Read false) ∷ Access 0 (access 0x3000 El1 Read false) ∷
    Tlbi 0 FromEl1 Vmalle1 false 0 ∷ Dsb 0 DsbNsh ∷ Access 0 (access 0x0 El1 Read false) ∷ Access 0 (access 0x4000 El1 Read false) ∷
    Access 0 (access 0x5000 El1 Read false) ∷ Access 0 (access 0x6000 El1 Read false) ∷ Access 0 (access 0x7000 El1 Read false) ∷
    Access 0 (access 0x8000 El1 Read false) ∷ Access 0 (access 0x9000 El1 Read false) ∷ Tlbi 0 FromEl1 Vmalle1 false 0 ∷ Dsb 0 DsbNsh ∷
    Access 0 (access 0x0 El1 Read false) ∷ [])
    (told 35 0x0 0x0 (mapped 0x10000 "--x" "rwx" (Device NGnRnE) Osh)
    (start1 2 0x1000 35 ∷ start2 2 0x8000 35 ∷ word2 2 0x8000 0x9003 35 ∷ word2 3 0x9008 0x14ff 35 ∷ word1 2 0x1000 0x2003 35 ∷
    start2 2 0x8000 35 ∷ word2 2 0x8000 0x9003 35 ∷ word2 3 0x9010 0x24ff 35 ∷ word1 3 0x2000 0x10403 35 ∷ start2 2 0x8000 35 ∷
    word2 2 0x8000 0x9003 35 ∷ word2 3 0x9080 0x104ff 35 ∷ []) ∷
    told 36 0x0 0x0 (mapped 0x11000 "--x" "rwx" (Device NGnRnE) Osh)
    (start1 2 0x1000 35 ∷ start2 2 0x8000 35 ∷ word2 2 0x8000 0x9003 35 ∷ word2 3 0x9008 0x14ff 35 ∷ word1 2 0x1000 0x2003 35 ∷
    start2 2 0x8000 35 ∷ word2 2 0x8000 0x9003 35 ∷ word2 3 0x9010 0x24ff 35 ∷ word1 3 0x2008 0x11403 36 ∷ start2 2 0x8000 35 ∷
    word2 2 0x8000 0x9003 35 ∷ word2 3 0x9088 0x114ff 36 ∷ []) ∷
    told 37 0x0 0x0 (mapped 0x12000 "--x" "rwx" (Device NGnRnE) Osh)
    (start1 2 0x1000 35 ∷ start2 2 0x8000 35 ∷ word2 2 0x8000 0x9003 35 ∷ word2 3 0x9008 0x14ff 35 ∷ word1 2 0x1000 0x2003 35 ∷
    start2 2 0x8000 35 ∷ word2 2 0x8000 0x9003 35 ∷ word2 3 0x9010 0x24ff 35 ∷ word1 3 0x2010 0x12403 37 ∷ start2 2 0x8000 35 ∷
    word2 2 0x8000 0x9003 35 ∷ word2 3 0x9090 0x124ff 37 ∷ []) ∷
    told 38 0x0 0x0 (mapped 0x13000 "--x" "rwx" (Device NGnRnE) Osh)
    (start1 2 0x1000 35 ∷ start2 2 0x8000 35 ∷ word2 2 0x8000 0x9003 35 ∷ word2 3 0x9008 0x14ff 35 ∷ word1 2 0x1000 0x2003 35 ∷
    start2 2 0x8000 35 ∷ word2 2 0x8000 0x9003 35 ∷ word2 3 0x9010 0x24ff 35 ∷ word1 3 0x2018 0x13403 38 ∷ start2 2 0x8000 35 ∷
    word2 2 0x8000 0x9003 35 ∷ word2 3 0x9098 0x134ff 38 ∷ []) ∷
    told 41 0x0 0x0 (mapped 0x10000 "--x" "rwx" (Device NGnRnE) Osh)
    (start1 2 0x1000 41 ∷ start2 2 0x8000 35 ∷ word2 2 0x8000 0x9003 35 ∷ word2 3 0x9008 0x14ff 35 ∷ word1 2 0x1000 0x2003 41 ∷
    start2 2 0x8000 35 ∷ word2 2 0x8000 0x9003 35 ∷ word2 3 0x9010 0x24ff 35 ∷ word1 3 0x2000 0x10403 41 ∷ start2 2 0x8000 35 ∷
    word2 2 0x8000 0x9003 35 ∷ word2 3 0x9080 0x104ff 35 ∷ []) ∷
    told 42 0x0 0x0 (mapped 0x14000 "--x" "rwx" (Device NGnRnE) Osh)
    (start1 2 0x1000 41 ∷ start2 2 0x8000 35 ∷ word2 2 0x8000 0x9003 35 ∷ word2 3 0x9008 0x14ff 35 ∷ word1 2 0x1000 0x2003 41 ∷
    start2 2 0x8000 35 ∷ word2 2 0x8000 0x9003 35 ∷ word2 3 0x9010 0x24ff 35 ∷ word1 3 0x2020 0x14403 42 ∷ start2 2 0x8000 35 ∷
    word2 2 0x8000 0x9003 35 ∷ word2 3 0x90a0 0x144ff 42 ∷ []) ∷
    told 43 0x0 0x0 (mapped 0x15000 "--x" "rwx" (Device NGnRnE) Osh)
    (start1 2 0x1000 41 ∷ start2 2 0x8000 35 ∷ word2 2 0x8000 0x9003 35 ∷ word2 3 0x9008 0x14ff 35 ∷ word1 2 0x1000 0x2003 41 ∷
    start2 2 0x8000 35 ∷ word2 2 0x8000 0x9003 35 ∷ word2 3 0x9010 0x24ff 35 ∷ word1 3 0x2028 0x15403 43 ∷ start2 2 0x8000 35 ∷
    word2 2 0x8000 0x9003 35 ∷ word2 3 0x90a8 0x154ff 43 ∷ []) ∷
    told 44 0x0 0x0 (mapped 0x16000 "--x" "rwx" (Device NGnRnE) Osh)
    (start1 2 0x1000 41 ∷ start2 2 0x8000 35 ∷ word2 2 0x8000 0x9003 35 ∷ word2 3 0x9008 0x14ff 35 ∷ word1 2 0x1000 0x2003 41 ∷
    start2 2 0x8000 35 ∷ word2 2 0x8000 0x9003 35 ∷ word2 3 0x9010 0x24ff 35 ∷ word1 3 0x2030 0x16403 44 ∷ start2 2 0x8000 35 ∷
    word2 2 0x8000 0x9003 35 ∷ word2 3 0x90b0 0x164ff 44 ∷ []) ∷
    told 45 0x0 0x0 (mapped 0x17000 "--x" "rwx" (Device NGnRnE) Osh)
    (start1 2 0x1000 41 ∷ start2 2 0x8000 35 ∷ word2 2 0x8000 0x9003 35 ∷ word2 3 0x9008 0x14ff 35 ∷ word1 2 0x1000 0x2003 41 ∷
    start2 2 0x8000 35 ∷ word2 2 0x8000 0x9003 35 ∷ word2 3 0x9010 0x24ff 35 ∷ word1 3 0x2038 0x17403 45 ∷ start2 2 0x8000 35 ∷
    word2 2 0x8000 0x9003 35 ∷ word2 3 0x90b8 0x174ff 45 ∷ []) ∷
    told 46 0x0 0x0 (mapped 0x18000 "--x" "rwx" (Device NGnRnE) Osh)
    (start1 2 0x1000 41 ∷ start2 2 0x8000 35 ∷ word2 2 0x8000 0x9003 35 ∷ word2 3 0x9008 0x14ff 35 ∷ word1 2 0x1000 0x2003 41 ∷
    start2 2 0x8000 35 ∷ word2 2 0x8000 0x9003 35 ∷ word2 3 0x9010 0x24ff 35 ∷ word1 3 0x2040 0x18403 46 ∷ start2 2 0x8000 35 ∷
    word2 2 0x8000 0x9003 35 ∷ word2 3 0x90c0 0x184ff 46 ∷ []) ∷
    told 47 0x0 0x0 (mapped 0x19000 "--x" "rwx" (Device NGnRnE) Osh)
    (start1 2 0x1000 41 ∷ start2 2 0x8000 35 ∷ word2 2 0x8000 0x9003 35 ∷ word2 3 0x9008 0x14ff 35 ∷ word1 2 0x1000 0x2003 41 ∷
    start2 2 0x8000 35 ∷ word2 2 0x8000 0x9003 35 ∷ word2 3 0x9010 0x24ff 35 ∷ word1 3 0x2048 0x19403 47 ∷ start2 2 0x8000 35 ∷
    word2 2 0x8000 0x9003 35 ∷ word2 3 0x90c8 0x194ff 47 ∷ []) ∷
    told 50 0x0 0x0 (mapped 0x10000 "--x" "rwx" (Device NGnRnE) Osh)
    (start1 2 0x1000 50 ∷ start2 2 0x8000 35 ∷ word2 2 0x8000 0x9003 35 ∷ word2 3 0x9008 0x14ff 50 ∷ word1 2 0x1000 0x2003 50 ∷
    start2 2 0x8000 35 ∷ word2 2 0x8000 0x9003 35 ∷ word2 3 0x9010 0x24ff 35 ∷ word1 3 0x2000 0x10403 50 ∷ start2 2 0x8000 35 ∷
    word2 2 0x8000 0x9003 35 ∷ word2 3 0x9080 0x104ff 35 ∷ []) ∷ [])
    (Some (12 ∷ 0 ∷ 12 ∷ 0 ∷ 0 ∷ 11 ∷ 0 ∷ 5 ∷ []))
unfolding on_worked_walks on_worked_runs
lru_services_in_order = (refl, refl)
