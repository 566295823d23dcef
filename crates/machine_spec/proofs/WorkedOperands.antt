-- Worked runs, computed. Written by scripts/worked_runs.py from traces and their reports.
use Rattle.std.proofs.Common.{[], ◌∷◌, true, false, refl}
use Rattle.std.specs.Prelude.{Some}
use Rattle.sysregs.specs.declared.regs.Reg.TheVariants.{HcrEl2, SctlrEl1, TcrEl1, Ttbr0El1, Ttbr1El1, VtcrEl2, VttbrEl2}
use Rattle.sysregs.specs.declared.regs.Op.TheVariants.{Vmalle1, Vae1, Vaae1, Vale1, Vaale1, Aside1, Rvae1, Rvaae1, Ripas2e1}
use Rattle.permissions.specs.declared.bits.El.TheVariants.{El0, El1}
use Rattle.permissions.specs.declared.bits.Kind.TheVariants.{Read}
use Rattle.attributes.specs.declared.kinds.Device.TheVariants.{NGnRnE}
use Rattle.attributes.specs.declared.kinds.MemType.TheVariants.{Device}
use Rattle.attributes.specs.declared.kinds.Share.TheVariants.{Osh}
use Rattle.fault_codes.specs.declared.fault.Stage.TheVariants.{S1}
use Rattle.fault_codes.specs.declared.fault.Class.TheVariants.{Translation}
use Rattle.trails.specs.declared.event.Barrier.TheVariants.{Nsh as DsbNsh, Ish as DsbIsh}
use Rattle.trails.specs.declared.event.Origin.TheVariants.{El1 as FromEl1, El2 as FromEl2}
use Rattle.trails.specs.declared.event.Event.TheVariants.{Store, Msr, Isb, Tlbi, Dsb, Access}
use Rattle.trace_lang.specs.declared.header.Size.TheVariants.{Small}
use Rattle.trace_lang.specs.declared.header.Policy.TheVariants.{Fifo}
use Rattle.walk_spec.proofs.Worked.{on_worked_walks, access}
use Rattle.machine_spec.proofs.Worked.{header, on_worked_runs, Comes, told, mapped, fault, start1, start2, word1, word2}

-- VAE1 and VALE1 take non-global leaves of the named ASID and global ones of every ASID; VAAE1 and VAALE1 name none
va_forms_and_the_asid : Comes (header 2 ((0x0, 0x20000) ∷ []) Small Fifo)
    (Store 0 0x1000 0x4c03 ∷ Store 0 0x1008 0x5403 ∷ Store 0 0x1010 0x6c03 ∷ Store 0 0x1018 0x7403 ∷ Msr 0 TcrEl1 0x30 ∷
    Msr 0 Ttbr0El1 0x1000000001000 ∷ Msr 0 SctlrEl1 0x1 ∷ Isb 0 ∷ Access 0 (access 0xabc El1 Read false) ∷ Access 0 (access 0x1abc El1 Read false) ∷
    Access 0 (access 0x2abc El1 Read false) ∷ Access 0 (access 0x3abc El1 Read false) ∷ Tlbi 1 FromEl1 Vae1 true 0x2000000000000 ∷
    Tlbi 1 FromEl1 Vae1 true 0x2000000000001 ∷ Tlbi 1 FromEl1 Vale1 true 0x2000000000002 ∷ Tlbi 1 FromEl1 Vale1 true 0x2000000000003 ∷ Dsb 1 DsbIsh ∷
    Access 0 (access 0xabc El1 Read false) ∷ Access 0 (access 0x1abc El1 Read false) ∷ Access 0 (access 0x2abc El1 Read false) ∷
    Access 0 (access 0x3abc El1 Read false) ∷ Tlbi 1 FromEl1 Vaale1 true 0x2000000000000 ∷ Tlbi 1 FromEl1 Vaale1 true 0x2000000000001 ∷
    Tlbi 1 FromEl1 Vaae1 true 0x2000000000002 ∷ Tlbi 1 FromEl1 Vale1 true 0x1000000000003 ∷ Dsb 1 DsbIsh ∷ Access 0 (access 0xabc El1 Read false) ∷
    Access 0 (access 0x1abc El1 Read false) ∷ Access 0 (access 0x2abc El1 Read false) ∷ Access 0 (access 0x3abc El1 Read false) ∷ [])
    (told 8 0x1 0x0 (mapped 0x4abc "--x" "rwx" (Device NGnRnE) Osh)
    (start1 3 0x1000 8 ∷ word1 3 0x1000 0x4c03 8 ∷ []) ∷
    told 9 0x1 0x0 (mapped 0x5abc "--x" "rwx" (Device NGnRnE) Osh)
    (start1 3 0x1000 9 ∷ word1 3 0x1008 0x5403 9 ∷ []) ∷
    told 10 0x1 0x0 (mapped 0x6abc "--x" "rwx" (Device NGnRnE) Osh)
    (start1 3 0x1000 10 ∷ word1 3 0x1010 0x6c03 10 ∷ []) ∷
    told 11 0x1 0x0 (mapped 0x7abc "--x" "rwx" (Device NGnRnE) Osh)
    (start1 3 0x1000 11 ∷ word1 3 0x1018 0x7403 11 ∷ []) ∷
    told 17 0x1 0x0 (mapped 0x4abc "--x" "rwx" (Device NGnRnE) Osh)
    (start1 3 0x1000 8 ∷ word1 3 0x1000 0x4c03 8 ∷ []) ∷
    told 18 0x1 0x0 (mapped 0x5abc "--x" "rwx" (Device NGnRnE) Osh)
    (start1 3 0x1000 18 ∷ word1 3 0x1008 0x5403 18 ∷ []) ∷
    told 19 0x1 0x0 (mapped 0x6abc "--x" "rwx" (Device NGnRnE) Osh)
    (start1 3 0x1000 10 ∷ word1 3 0x1010 0x6c03 10 ∷ []) ∷
    told 20 0x1 0x0 (mapped 0x7abc "--x" "rwx" (Device NGnRnE) Osh)
    (start1 3 0x1000 20 ∷ word1 3 0x1018 0x7403 20 ∷ []) ∷
    told 26 0x1 0x0 (mapped 0x4abc "--x" "rwx" (Device NGnRnE) Osh)
    (start1 3 0x1000 26 ∷ word1 3 0x1000 0x4c03 26 ∷ []) ∷
    told 27 0x1 0x0 (mapped 0x5abc "--x" "rwx" (Device NGnRnE) Osh)
    (start1 3 0x1000 27 ∷ word1 3 0x1008 0x5403 27 ∷ []) ∷
    told 28 0x1 0x0 (mapped 0x6abc "--x" "rwx" (Device NGnRnE) Osh)
    (start1 3 0x1000 28 ∷ word1 3 0x1010 0x6c03 28 ∷ []) ∷
    told 29 0x1 0x0 (mapped 0x7abc "--x" "rwx" (Device NGnRnE) Osh)
    (start1 3 0x1000 29 ∷ word1 3 0x1018 0x7403 29 ∷ []) ∷ [])
    (Some (12 ∷ 0 ∷ 12 ∷ 0 ∷ 0 ∷ 2 ∷ 0 ∷ 0 ∷ []))
unfolding on_worked_walks on_worked_runs
va_forms_and_the_asid = (refl, refl)

-- where the issuer's AS is 0 at the issue the upper eight bits of an operand's ASID are read as 0, else all sixteen
-- count
operand_asid_of_eight_bits : Comes (header 1 ((0x0, 0x20000) ∷ []) Small Fifo)
    (Store 0 0x1000 0x4c03 ∷ Msr 0 TcrEl1 0x30 ∷ Msr 0 Ttbr0El1 0x301000000001000 ∷ Msr 0 SctlrEl1 0x1 ∷ Isb 0 ∷
    Access 0 (access 0xabc El1 Read false) ∷ Msr 0 TcrEl1 0x1000000030 ∷ Isb 0 ∷ Tlbi 0 FromEl1 Vae1 false 0x701000000000000 ∷ Msr 0 TcrEl1 0x30 ∷
    Isb 0 ∷ Dsb 0 DsbNsh ∷ Access 0 (access 0xabc El1 Read false) ∷ Tlbi 0 FromEl1 Vae1 false 0x701000000000000 ∷ Dsb 0 DsbNsh ∷
    Access 0 (access 0xabc El1 Read false) ∷ Msr 0 TcrEl1 0x1000000030 ∷ Isb 0 ∷ Access 0 (access 0xabc El1 Read false) ∷
    Tlbi 0 FromEl1 Vae1 false 0x1000000000000 ∷ Tlbi 0 FromEl1 Aside1 false 0x701000000000000 ∷ Dsb 0 DsbNsh ∷
    Access 0 (access 0xabc El1 Read false) ∷ Tlbi 0 FromEl1 Aside1 false 0x301000000000000 ∷ Dsb 0 DsbNsh ∷ Access 0 (access 0xabc El1 Read false) ∷
    [])
    (told 5 0x1 0x0 (mapped 0x4abc "--x" "rwx" (Device NGnRnE) Osh)
    (start1 3 0x1000 5 ∷ word1 3 0x1000 0x4c03 5 ∷ []) ∷
    told 12 0x1 0x0 (mapped 0x4abc "--x" "rwx" (Device NGnRnE) Osh)
    (start1 3 0x1000 5 ∷ word1 3 0x1000 0x4c03 5 ∷ []) ∷
    told 15 0x1 0x0 (mapped 0x4abc "--x" "rwx" (Device NGnRnE) Osh)
    (start1 3 0x1000 15 ∷ word1 3 0x1000 0x4c03 15 ∷ []) ∷
    told 18 0x301 0x0 (mapped 0x4abc "--x" "rwx" (Device NGnRnE) Osh)
    (start1 3 0x1000 18 ∷ word1 3 0x1000 0x4c03 18 ∷ []) ∷
    told 22 0x301 0x0 (mapped 0x4abc "--x" "rwx" (Device NGnRnE) Osh)
    (start1 3 0x1000 18 ∷ word1 3 0x1000 0x4c03 18 ∷ []) ∷
    told 25 0x301 0x0 (mapped 0x4abc "--x" "rwx" (Device NGnRnE) Osh)
    (start1 3 0x1000 25 ∷ word1 3 0x1000 0x4c03 25 ∷ []) ∷ [])
    (Some (6 ∷ 0 ∷ 6 ∷ 0 ∷ 0 ∷ 2 ∷ 0 ∷ 0 ∷ []))
unfolding on_worked_walks on_worked_runs
operand_asid_of_eight_bits = (refl, refl)

-- a range covers rows of its own granule alone, counted in that granule; TG 00 covers nothing
range_of_the_rows_granule : Comes (header 1 ((0x0, 0x20000) ∷ []) Small Fifo)
    (Store 0 0x1000 0x10403 ∷ Store 0 0x1008 0x14403 ∷ Store 0 0x1010 0x18403 ∷ Msr 0 TcrEl1 0x8030 ∷ Msr 0 Ttbr0El1 0x1000 ∷ Msr 0 SctlrEl1 0x1 ∷
    Isb 0 ∷ Access 0 (access 0xabc El1 Read false) ∷ Access 0 (access 0x8abc El1 Read false) ∷ Tlbi 0 FromEl1 Rvae1 false 0x0 ∷
    Tlbi 0 FromEl1 Rvae1 false 0x400000000000 ∷ Tlbi 0 FromEl1 Rvae1 false 0xc00000000000 ∷ Dsb 0 DsbNsh ∷ Access 0 (access 0xabc El1 Read false) ∷
    Tlbi 0 FromEl1 Rvae1 false 0x800000000001 ∷ Dsb 0 DsbNsh ∷ Access 0 (access 0xabc El1 Read false) ∷ Access 0 (access 0x8abc El1 Read false) ∷
    Access 0 (access 0x4abc El1 Read false) ∷ Tlbi 0 FromEl1 Rvae1 false 0x800000000000 ∷ Dsb 0 DsbNsh ∷ Access 0 (access 0x4abc El1 Read false) ∷
    Access 0 (access 0x8abc El1 Read false) ∷ [])
    (told 7 0x0 0x0 (mapped 0x10abc "--x" "rwx" (Device NGnRnE) Osh)
    (start1 3 0x1000 7 ∷ word1 3 0x1000 0x10403 7 ∷ []) ∷
    told 8 0x0 0x0 (mapped 0x18abc "--x" "rwx" (Device NGnRnE) Osh)
    (start1 3 0x1000 8 ∷ word1 3 0x1010 0x18403 8 ∷ []) ∷
    told 13 0x0 0x0 (mapped 0x10abc "--x" "rwx" (Device NGnRnE) Osh)
    (start1 3 0x1000 7 ∷ word1 3 0x1000 0x10403 7 ∷ []) ∷
    told 16 0x0 0x0 (mapped 0x10abc "--x" "rwx" (Device NGnRnE) Osh)
    (start1 3 0x1000 7 ∷ word1 3 0x1000 0x10403 7 ∷ []) ∷
    told 17 0x0 0x0 (mapped 0x18abc "--x" "rwx" (Device NGnRnE) Osh)
    (start1 3 0x1000 17 ∷ word1 3 0x1010 0x18403 17 ∷ []) ∷
    told 18 0x0 0x0 (mapped 0x14abc "--x" "rwx" (Device NGnRnE) Osh)
    (start1 3 0x1000 18 ∷ word1 3 0x1008 0x14403 18 ∷ []) ∷
    told 21 0x0 0x0 (mapped 0x14abc "--x" "rwx" (Device NGnRnE) Osh)
    (start1 3 0x1000 21 ∷ word1 3 0x1008 0x14403 21 ∷ []) ∷
    told 22 0x0 0x0 (mapped 0x18abc "--x" "rwx" (Device NGnRnE) Osh)
    (start1 3 0x1000 17 ∷ word1 3 0x1010 0x18403 17 ∷ []) ∷ [])
    (Some (8 ∷ 0 ∷ 8 ∷ 0 ∷ 0 ∷ 3 ∷ 0 ∷ 0 ∷ []))
unfolding on_worked_walks on_worked_runs
range_of_the_rows_granule = (refl, refl)

-- a range has (NUM + 1) * 2^(5 * SCALE + 1) granules and covers every row that shares an address with it; TG 00
-- covers nothing
range_scale_and_num : Comes (header 1 ((0x0, 0x20000) ∷ []) Small Fifo)
    (Store 0 0x1000 0x400401 ∷ Store 0 0x1008 0x600401 ∷ Msr 0 TcrEl1 0x27 ∷ Msr 0 Ttbr0El1 0x1000 ∷ Msr 0 SctlrEl1 0x1 ∷ Isb 0 ∷
    Access 0 (access 0xabc El1 Read false) ∷ Access 0 (access 0x200abc El1 Read false) ∷ Tlbi 0 FromEl1 Rvaae1 false 0x200 ∷
    Tlbi 0 FromEl1 Rvaae1 false 0x4000000001fe ∷ Dsb 0 DsbNsh ∷ Access 0 (access 0x200abc El1 Read false) ∷ Access 0 (access 0xabc El1 Read false) ∷
    Tlbi 0 FromEl1 Rvaae1 false 0x4008000001fd ∷ Dsb 0 DsbNsh ∷ Access 0 (access 0x200abc El1 Read false) ∷
    Tlbi 0 FromEl1 Rvaae1 false 0x5000000001c0 ∷ Dsb 0 DsbNsh ∷ Access 0 (access 0x200abc El1 Read false) ∷
    Tlbi 0 FromEl1 Rvaae1 false 0x5000000001c1 ∷ Dsb 0 DsbNsh ∷ Access 0 (access 0x200abc El1 Read false) ∷ Access 0 (access 0xabc El1 Read false) ∷
    [])
    (told 6 0x0 0x0 (mapped 0x400abc "--x" "rwx" (Device NGnRnE) Osh)
    (start1 2 0x1000 6 ∷ word1 2 0x1000 0x400401 6 ∷ []) ∷
    told 7 0x0 0x0 (mapped 0x600abc "--x" "rwx" (Device NGnRnE) Osh)
    (start1 2 0x1000 7 ∷ word1 2 0x1008 0x600401 7 ∷ []) ∷
    told 11 0x0 0x0 (mapped 0x600abc "--x" "rwx" (Device NGnRnE) Osh)
    (start1 2 0x1000 7 ∷ word1 2 0x1008 0x600401 7 ∷ []) ∷
    told 12 0x0 0x0 (mapped 0x400abc "--x" "rwx" (Device NGnRnE) Osh)
    (start1 2 0x1000 12 ∷ word1 2 0x1000 0x400401 12 ∷ []) ∷
    told 15 0x0 0x0 (mapped 0x600abc "--x" "rwx" (Device NGnRnE) Osh)
    (start1 2 0x1000 7 ∷ word1 2 0x1008 0x600401 7 ∷ []) ∷
    told 18 0x0 0x0 (mapped 0x600abc "--x" "rwx" (Device NGnRnE) Osh)
    (start1 2 0x1000 7 ∷ word1 2 0x1008 0x600401 7 ∷ []) ∷
    told 21 0x0 0x0 (mapped 0x600abc "--x" "rwx" (Device NGnRnE) Osh)
    (start1 2 0x1000 21 ∷ word1 2 0x1008 0x600401 21 ∷ []) ∷
    told 22 0x0 0x0 (mapped 0x400abc "--x" "rwx" (Device NGnRnE) Osh)
    (start1 2 0x1000 22 ∷ word1 2 0x1000 0x400401 22 ∷ []) ∷ [])
    (Some (8 ∷ 0 ∷ 8 ∷ 0 ∷ 0 ∷ 3 ∷ 0 ∷ 0 ∷ []))
unfolding on_worked_walks on_worked_runs
range_scale_and_num = (refl, refl)

-- a VA range needs the granule of stage 1, an IPA range that of stage 2
ranges_of_both_stages : Comes (header 1 ((0x0, 0x20000) ∷ []) Small Fifo)
    (Store 0 0x1000 0x3403 ∷ Store 0 0x8000 0x4c3 ∷ Msr 0 TcrEl1 0x30 ∷ Msr 0 Ttbr0El1 0x1000 ∷ Msr 0 VtcrEl2 0x402f ∷ Msr 0 VttbrEl2 0x8000 ∷
    Msr 0 HcrEl2 0x1 ∷ Msr 0 SctlrEl1 0x1 ∷ Isb 0 ∷ Access 0 (access 0xabc El1 Read false) ∷ Tlbi 0 FromEl1 Rvae1 false 0xc00000000000 ∷
    Tlbi 0 FromEl2 Ripas2e1 false 0x400000000000 ∷ Dsb 0 DsbNsh ∷ Access 0 (access 0xabc El1 Read false) ∷
    Tlbi 0 FromEl1 Rvae1 false 0x400000000000 ∷ Dsb 0 DsbNsh ∷ Access 0 (access 0xabc El1 Read false) ∷ Tlbi 0 FromEl1 Rvae1 false 0x400000000000 ∷
    Tlbi 0 FromEl2 Ripas2e1 false 0xc00000000000 ∷ Dsb 0 DsbNsh ∷ Access 0 (access 0xabc El1 Read false) ∷ [])
    (told 9 0x0 0x0 (mapped 0x3abc "--x" "rwx" (Device NGnRnE) Osh)
    (start1 3 0x1000 9 ∷ start2 3 0x8000 9 ∷ word2 3 0x8000 0x4c3 9 ∷ word1 3 0x1000 0x3403 9 ∷ start2 3 0x8000 9 ∷ word2 3 0x8000 0x4c3 9 ∷ []) ∷
    told 13 0x0 0x0 (mapped 0x3abc "--x" "rwx" (Device NGnRnE) Osh)
    (start1 3 0x1000 9 ∷ start2 3 0x8000 9 ∷ word2 3 0x8000 0x4c3 9 ∷ word1 3 0x1000 0x3403 9 ∷ start2 3 0x8000 9 ∷ word2 3 0x8000 0x4c3 9 ∷ []) ∷
    told 16 0x0 0x0 (mapped 0x3abc "--x" "rwx" (Device NGnRnE) Osh)
    (start1 3 0x1000 16 ∷ start2 3 0x8000 9 ∷ word2 3 0x8000 0x4c3 9 ∷ word1 3 0x1000 0x3403 16 ∷ start2 3 0x8000 9 ∷ word2 3 0x8000 0x4c3 9 ∷
    []) ∷
    told 20 0x0 0x0 (mapped 0x3abc "--x" "rwx" (Device NGnRnE) Osh)
    (start1 3 0x1000 20 ∷ start2 3 0x8000 20 ∷ word2 3 0x8000 0x4c3 20 ∷ word1 3 0x1000 0x3403 20 ∷ start2 3 0x8000 20 ∷
    word2 3 0x8000 0x4c3 20 ∷ []) ∷ [])
    (Some (4 ∷ 0 ∷ 4 ∷ 0 ∷ 0 ∷ 2 ∷ 0 ∷ 0 ∷ []))
unfolding on_worked_walks on_worked_runs
ranges_of_both_stages = (refl, refl)

-- VA bits 55 to 0 are compared: no tag, no TTL, no extended page operand, but an extended start of a range, which
-- ends at the top; what refuses an address comes before any row
addresses_and_rows : Comes (header 1 ((0x0, 0x20000) ∷ []) Small Fifo)
    (Store 0 0x2078 0x4403 ∷ Store 0 0x1000 0x8403 ∷ Store 0 0x1018 0xc403 ∷ Msr 0 Ttbr1El1 0x2000 ∷ Msr 0 TcrEl1 0x100002080308030 ∷
    Msr 0 Ttbr0El1 0x1000 ∷ Msr 0 SctlrEl1 0x1 ∷ Isb 0 ∷ Access 0 (access 0xfffffffffffffabc El1 Read false) ∷
    Access 0 (access 0xfffffffffffffabc El0 Read false) ∷ Access 0 (access 0x5afffffffffffabc El1 Read false) ∷
    Access 0 (access 0xabc El1 Read false) ∷ Access 0 (access 0xfabc El1 Read false) ∷ Access 0 (access 0x5a0000000000fdef El1 Read false) ∷
    Tlbi 0 FromEl1 Vae1 false 0x50000000000f ∷ Tlbi 0 FromEl1 Vae1 false 0xfffffffff ∷ Dsb 0 DsbNsh ∷
    Access 0 (access 0xfffffffffffffabc El1 Read false) ∷ Access 0 (access 0xfabc El1 Read false) ∷ Tlbi 0 FromEl1 Rvae1 false 0x403fffffffff ∷
    Dsb 0 DsbNsh ∷ Access 0 (access 0xfffffffffffffabc El1 Read false) ∷ Access 0 (access 0xabc El1 Read false) ∷
    Access 0 (access 0xfabc El1 Read false) ∷ Tlbi 0 FromEl1 Vae1 false 0xfffffffffff ∷ Dsb 0 DsbNsh ∷
    Access 0 (access 0xfffffffffffffabc El1 Read false) ∷ [])
    (told 8 0x0 0x0 (mapped 0x4abc "--x" "rwx" (Device NGnRnE) Osh)
    (start1 3 0x2000 8 ∷ word1 3 0x2078 0x4403 8 ∷ []) ∷
    told 9 0x0 0x0 (fault S1 0 Translation)
    ([]) ∷
    told 10 0x0 0x0 (fault S1 0 Translation)
    ([]) ∷
    told 11 0x0 0x0 (mapped 0x8abc "--x" "rwx" (Device NGnRnE) Osh)
    (start1 3 0x1000 11 ∷ word1 3 0x1000 0x8403 11 ∷ []) ∷
    told 12 0x0 0x0 (mapped 0xfabc "--x" "rwx" (Device NGnRnE) Osh)
    (start1 3 0x1000 12 ∷ word1 3 0x1018 0xc403 12 ∷ []) ∷
    told 13 0x0 0x0 (mapped 0xfdef "--x" "rwx" (Device NGnRnE) Osh)
    (start1 3 0x1000 12 ∷ word1 3 0x1018 0xc403 12 ∷ []) ∷
    told 17 0x0 0x0 (mapped 0x4abc "--x" "rwx" (Device NGnRnE) Osh)
    (start1 3 0x2000 8 ∷ word1 3 0x2078 0x4403 8 ∷ []) ∷
    told 18 0x0 0x0 (mapped 0xfabc "--x" "rwx" (Device NGnRnE) Osh)
    (start1 3 0x1000 18 ∷ word1 3 0x1018 0xc403 18 ∷ []) ∷
    told 21 0x0 0x0 (mapped 0x4abc "--x" "rwx" (Device NGnRnE) Osh)
    (start1 3 0x2000 21 ∷ word1 3 0x2078 0x4403 21 ∷ []) ∷
    told 22 0x0 0x0 (mapped 0x8abc "--x" "rwx" (Device NGnRnE) Osh)
    (start1 3 0x1000 11 ∷ word1 3 0x1000 0x8403 11 ∷ []) ∷
    told 23 0x0 0x0 (mapped 0xfabc "--x" "rwx" (Device NGnRnE) Osh)
    (start1 3 0x1000 18 ∷ word1 3 0x1018 0xc403 18 ∷ []) ∷
    told 26 0x0 0x0 (mapped 0x4abc "--x" "rwx" (Device NGnRnE) Osh)
    (start1 3 0x2000 26 ∷ word1 3 0x2078 0x4403 26 ∷ []) ∷ [])
    (Some (12 ∷ 0 ∷ 10 ∷ 2 ∷ 0 ∷ 4 ∷ 0 ∷ 0 ∷ []))
unfolding on_worked_walks on_worked_runs
addresses_and_rows = (refl, refl)

-- a non-global leaf serves under its ASID alone, a global one under every ASID, and ASIDE1 spares it; A1 names the
-- ASID of both sides
asid_and_global_leaves : Comes (header 1 ((0x0, 0x20000) ∷ []) Small Fifo)
    (Store 0 0x1000 0x4c03 ∷ Store 0 0x1008 0x5403 ∷ Msr 0 Ttbr1El1 0x1000000000000 ∷ Msr 0 TcrEl1 0x400030 ∷ Msr 0 Ttbr0El1 0x2000000001000 ∷
    Msr 0 SctlrEl1 0x1 ∷ Isb 0 ∷ Access 0 (access 0xabc El1 Read false) ∷ Access 0 (access 0x1abc El1 Read false) ∷ Msr 0 Ttbr1El1 0x2000000000000 ∷
    Isb 0 ∷ Access 0 (access 0xabc El1 Read false) ∷ Access 0 (access 0x1abc El1 Read false) ∷ Access 0 (access 0xabc El1 Read false) ∷
    Tlbi 0 FromEl1 Aside1 false 0x2000000000000 ∷ Dsb 0 DsbNsh ∷ Msr 0 Ttbr1El1 0x1000000000000 ∷ Isb 0 ∷ Access 0 (access 0xabc El1 Read false) ∷
    Access 0 (access 0x1abc El1 Read false) ∷ Tlbi 0 FromEl1 Aside1 false 0x1000000000000 ∷ Dsb 0 DsbNsh ∷ Access 0 (access 0xabc El1 Read false) ∷
    Access 0 (access 0x1abc El1 Read false) ∷ Tlbi 0 FromEl1 Vmalle1 false 0 ∷ Dsb 0 DsbNsh ∷ Access 0 (access 0x1abc El1 Read false) ∷ [])
    (told 7 0x1 0x0 (mapped 0x4abc "--x" "rwx" (Device NGnRnE) Osh)
    (start1 3 0x1000 7 ∷ word1 3 0x1000 0x4c03 7 ∷ []) ∷
    told 8 0x1 0x0 (mapped 0x5abc "--x" "rwx" (Device NGnRnE) Osh)
    (start1 3 0x1000 8 ∷ word1 3 0x1008 0x5403 8 ∷ []) ∷
    told 11 0x2 0x0 (mapped 0x4abc "--x" "rwx" (Device NGnRnE) Osh)
    (start1 3 0x1000 11 ∷ word1 3 0x1000 0x4c03 11 ∷ []) ∷
    told 12 0x2 0x0 (mapped 0x5abc "--x" "rwx" (Device NGnRnE) Osh)
    (start1 3 0x1000 8 ∷ word1 3 0x1008 0x5403 8 ∷ []) ∷
    told 13 0x2 0x0 (mapped 0x4abc "--x" "rwx" (Device NGnRnE) Osh)
    (start1 3 0x1000 11 ∷ word1 3 0x1000 0x4c03 11 ∷ []) ∷
    told 18 0x1 0x0 (mapped 0x4abc "--x" "rwx" (Device NGnRnE) Osh)
    (start1 3 0x1000 7 ∷ word1 3 0x1000 0x4c03 7 ∷ []) ∷
    told 19 0x1 0x0 (mapped 0x5abc "--x" "rwx" (Device NGnRnE) Osh)
    (start1 3 0x1000 8 ∷ word1 3 0x1008 0x5403 8 ∷ []) ∷
    told 22 0x1 0x0 (mapped 0x4abc "--x" "rwx" (Device NGnRnE) Osh)
    (start1 3 0x1000 22 ∷ word1 3 0x1000 0x4c03 22 ∷ []) ∷
    told 23 0x1 0x0 (mapped 0x5abc "--x" "rwx" (Device NGnRnE) Osh)
    (start1 3 0x1000 8 ∷ word1 3 0x1008 0x5403 8 ∷ []) ∷
    told 26 0x1 0x0 (mapped 0x5abc "--x" "rwx" (Device NGnRnE) Osh)
    (start1 3 0x1000 26 ∷ word1 3 0x1008 0x5403 26 ∷ []) ∷ [])
    (Some (10 ∷ 0 ∷ 10 ∷ 0 ∷ 0 ∷ 5 ∷ 0 ∷ 0 ∷ []))
unfolding on_worked_walks on_worked_runs
asid_and_global_leaves = (refl, refl)
