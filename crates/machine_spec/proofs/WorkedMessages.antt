-- Worked runs, computed. Written by scripts/worked_runs.py from traces and their reports.
use Rattle.std.proofs.Common.{[], ◌∷◌, true, false, refl}
use Rattle.std.specs.Prelude.{Some}
use Rattle.sysregs.specs.declared.regs.Reg.TheVariants.{HcrEl2, SctlrEl1, TcrEl1, Ttbr0El1, VtcrEl2, VttbrEl2}
use Rattle.sysregs.specs.declared.regs.Op.TheVariants.{Vmalle1, Vae1, Vaae1, Vale1, Vaale1, Aside1, Ipas2e1, Ipas2le1, Vmalls12e1}
use Rattle.sysregs.specs.declared.regs.Op.TheVariants.{Alle1, Rvae1, Rvaae1, Rvale1, Rvaale1, Ripas2e1, Ripas2le1}
use Rattle.permissions.specs.declared.bits.El.TheVariants.{El1}
use Rattle.permissions.specs.declared.bits.Kind.TheVariants.{Read}
use Rattle.attributes.specs.declared.kinds.Device.TheVariants.{NGnRnE}
use Rattle.attributes.specs.declared.kinds.MemType.TheVariants.{Device}
use Rattle.attributes.specs.declared.kinds.Share.TheVariants.{Osh}
use Rattle.trails.specs.declared.event.Barrier.TheVariants.{Nsh as DsbNsh, Ish as DsbIsh, Sy as DsbSy}
use Rattle.trails.specs.declared.event.Origin.TheVariants.{El1 as FromEl1, El2 as FromEl2}
use Rattle.trails.specs.declared.event.Event.TheVariants.{Store, Msr, Isb, Tlbi, Dsb, Deliver, Access}
use Rattle.trace_lang.specs.declared.header.Size.TheVariants.{Small}
use Rattle.trace_lang.specs.declared.header.Policy.TheVariants.{Fifo}
use Rattle.walk_spec.proofs.Worked.{on_worked_walks, access}
use Rattle.machine_spec.proofs.Worked.{header, on_worked_runs, Comes, told, mapped, start1, start2, word1, word2}

-- dsb nsh doesn't complete a broadcast invalidation, not even at its issuer; it completes a local one behind it
dsb_nsh_spares_broadcast : Comes (header 1 ((0x0, 0x20000) ∷ []) Small Fifo)
    (Store 0 0x1000 0x4403 ∷ Msr 0 TcrEl1 0x30 ∷ Msr 0 Ttbr0El1 0x1000 ∷ Msr 0 SctlrEl1 0x1 ∷ Isb 0 ∷ Access 0 (access 0xabc El1 Read false) ∷
    Store 0 0x1000 0x5403 ∷ Tlbi 0 FromEl1 Vae1 true 0x0 ∷ Access 0 (access 0xabc El1 Read false) ∷ Dsb 0 DsbNsh ∷
    Access 0 (access 0xabc El1 Read false) ∷ Dsb 0 DsbIsh ∷ Access 0 (access 0xabc El1 Read false) ∷ Store 0 0x1000 0x6403 ∷
    Tlbi 0 FromEl1 Vae1 true 0x9 ∷ Tlbi 0 FromEl1 Vae1 false 0x0 ∷ Access 0 (access 0xabc El1 Read false) ∷ Isb 0 ∷
    Access 0 (access 0xabc El1 Read false) ∷ Dsb 0 DsbNsh ∷ Access 0 (access 0xabc El1 Read false) ∷ [])
    (told 5 0x0 0x0 (mapped 0x4abc "--x" "rwx" (Device NGnRnE) Osh)
    (start1 3 0x1000 5 ∷ word1 3 0x1000 0x4403 5 ∷ []) ∷
    told 8 0x0 0x0 (mapped 0x4abc "--x" "rwx" (Device NGnRnE) Osh)
    (start1 3 0x1000 5 ∷ word1 3 0x1000 0x4403 5 ∷ []) ∷
    told 10 0x0 0x0 (mapped 0x4abc "--x" "rwx" (Device NGnRnE) Osh)
    (start1 3 0x1000 5 ∷ word1 3 0x1000 0x4403 5 ∷ []) ∷
    told 12 0x0 0x0 (mapped 0x5abc "--x" "rwx" (Device NGnRnE) Osh)
    (start1 3 0x1000 12 ∷ word1 3 0x1000 0x5403 12 ∷ []) ∷
    told 16 0x0 0x0 (mapped 0x5abc "--x" "rwx" (Device NGnRnE) Osh)
    (start1 3 0x1000 12 ∷ word1 3 0x1000 0x5403 12 ∷ []) ∷
    told 18 0x0 0x0 (mapped 0x5abc "--x" "rwx" (Device NGnRnE) Osh)
    (start1 3 0x1000 12 ∷ word1 3 0x1000 0x5403 12 ∷ []) ∷
    told 20 0x0 0x0 (mapped 0x6abc "--x" "rwx" (Device NGnRnE) Osh)
    (start1 3 0x1000 20 ∷ word1 3 0x1000 0x6403 20 ∷ []) ∷ [])
    (Some (7 ∷ 0 ∷ 7 ∷ 0 ∷ 0 ∷ 4 ∷ 4 ∷ 0 ∷ []))
unfolding on_worked_walks on_worked_runs
dsb_nsh_spares_broadcast = (refl, refl)

-- a dsb completes the messages of its own core, local and broadcast, in every inbox; sy does what ish does
dsb_of_the_issuer : Comes (header 2 ((0x0, 0x20000) ∷ []) Small Fifo)
    (Store 0 0x1000 0x4403 ∷ Msr 0 TcrEl1 0x30 ∷ Msr 0 Ttbr0El1 0x1000 ∷ Msr 0 SctlrEl1 0x1 ∷ Isb 0 ∷ Msr 1 TcrEl1 0x30 ∷ Msr 1 Ttbr0El1 0x1000 ∷
    Msr 1 SctlrEl1 0x1 ∷ Isb 1 ∷ Access 0 (access 0xabc El1 Read false) ∷ Access 1 (access 0xabc El1 Read false) ∷ Store 0 0x1000 0x5403 ∷
    Tlbi 1 FromEl1 Vae1 true 0x9 ∷ Tlbi 0 FromEl1 Vmalle1 false 0 ∷ Dsb 1 DsbNsh ∷ Access 0 (access 0xabc El1 Read false) ∷ Dsb 0 DsbIsh ∷
    Access 0 (access 0xabc El1 Read false) ∷ Access 1 (access 0xabc El1 Read false) ∷ Tlbi 1 FromEl1 Vae1 true 0x9 ∷ Tlbi 0 FromEl1 Vmalle1 true 0 ∷
    Dsb 1 DsbIsh ∷ Access 1 (access 0xabc El1 Read false) ∷ Tlbi 1 FromEl1 Vae1 true 0x9 ∷ Dsb 0 DsbSy ∷ Access 1 (access 0xabc El1 Read false) ∷
    Access 0 (access 0xabc El1 Read false) ∷ [])
    (told 9 0x0 0x0 (mapped 0x4abc "--x" "rwx" (Device NGnRnE) Osh)
    (start1 3 0x1000 9 ∷ word1 3 0x1000 0x4403 9 ∷ []) ∷
    told 10 0x0 0x0 (mapped 0x4abc "--x" "rwx" (Device NGnRnE) Osh)
    (start1 3 0x1000 10 ∷ word1 3 0x1000 0x4403 10 ∷ []) ∷
    told 15 0x0 0x0 (mapped 0x4abc "--x" "rwx" (Device NGnRnE) Osh)
    (start1 3 0x1000 9 ∷ word1 3 0x1000 0x4403 9 ∷ []) ∷
    told 17 0x0 0x0 (mapped 0x5abc "--x" "rwx" (Device NGnRnE) Osh)
    (start1 3 0x1000 17 ∷ word1 3 0x1000 0x5403 17 ∷ []) ∷
    told 18 0x0 0x0 (mapped 0x4abc "--x" "rwx" (Device NGnRnE) Osh)
    (start1 3 0x1000 10 ∷ word1 3 0x1000 0x4403 10 ∷ []) ∷
    told 22 0x0 0x0 (mapped 0x4abc "--x" "rwx" (Device NGnRnE) Osh)
    (start1 3 0x1000 10 ∷ word1 3 0x1000 0x4403 10 ∷ []) ∷
    told 25 0x0 0x0 (mapped 0x5abc "--x" "rwx" (Device NGnRnE) Osh)
    (start1 3 0x1000 25 ∷ word1 3 0x1000 0x5403 25 ∷ []) ∷
    told 26 0x0 0x0 (mapped 0x5abc "--x" "rwx" (Device NGnRnE) Osh)
    (start1 3 0x1000 26 ∷ word1 3 0x1000 0x5403 26 ∷ []) ∷ [])
    (Some (8 ∷ 0 ∷ 8 ∷ 0 ∷ 0 ∷ 3 ∷ 3 ∷ 0 ∷ []))
unfolding on_worked_walks on_worked_runs
dsb_of_the_issuer = (refl, refl)

-- under FB a local form issued at el1 is broadcast in every respect, and one issued at el2 stays local
fb_makes_local_forms_broadcast : Comes (header 2 ((0x0, 0x20000) ∷ []) Small Fifo)
    (Store 0 0x1000 0x4403 ∷ Msr 0 HcrEl2 0x200 ∷ Msr 0 TcrEl1 0x30 ∷ Msr 0 Ttbr0El1 0x1000 ∷ Msr 0 SctlrEl1 0x1 ∷ Isb 0 ∷ Msr 1 TcrEl1 0x30 ∷
    Msr 1 Ttbr0El1 0x1000 ∷ Msr 1 SctlrEl1 0x1 ∷ Isb 1 ∷ Access 0 (access 0xabc El1 Read false) ∷ Access 1 (access 0xabc El1 Read false) ∷
    Store 0 0x1000 0x5403 ∷ Tlbi 0 FromEl1 Rvae1 false 0x400000000000 ∷ Dsb 0 DsbNsh ∷ Access 0 (access 0xabc El1 Read false) ∷
    Access 1 (access 0xabc El1 Read false) ∷ Dsb 0 DsbIsh ∷ Access 0 (access 0xabc El1 Read false) ∷ Access 1 (access 0xabc El1 Read false) ∷
    Store 0 0x1000 0x6403 ∷ Tlbi 0 FromEl1 Vmalle1 false 0 ∷ Dsb 0 DsbIsh ∷ Access 1 (access 0xabc El1 Read false) ∷ Store 0 0x1000 0x7403 ∷
    Tlbi 0 FromEl2 Vmalle1 false 0 ∷ Dsb 0 DsbIsh ∷ Access 0 (access 0xabc El1 Read false) ∷ Access 1 (access 0xabc El1 Read false) ∷ [])
    (told 10 0x0 0x0 (mapped 0x4abc "--x" "rwx" (Device NGnRnE) Osh)
    (start1 3 0x1000 10 ∷ word1 3 0x1000 0x4403 10 ∷ []) ∷
    told 11 0x0 0x0 (mapped 0x4abc "--x" "rwx" (Device NGnRnE) Osh)
    (start1 3 0x1000 11 ∷ word1 3 0x1000 0x4403 11 ∷ []) ∷
    told 15 0x0 0x0 (mapped 0x4abc "--x" "rwx" (Device NGnRnE) Osh)
    (start1 3 0x1000 10 ∷ word1 3 0x1000 0x4403 10 ∷ []) ∷
    told 16 0x0 0x0 (mapped 0x4abc "--x" "rwx" (Device NGnRnE) Osh)
    (start1 3 0x1000 11 ∷ word1 3 0x1000 0x4403 11 ∷ []) ∷
    told 18 0x0 0x0 (mapped 0x5abc "--x" "rwx" (Device NGnRnE) Osh)
    (start1 3 0x1000 18 ∷ word1 3 0x1000 0x5403 18 ∷ []) ∷
    told 19 0x0 0x0 (mapped 0x5abc "--x" "rwx" (Device NGnRnE) Osh)
    (start1 3 0x1000 19 ∷ word1 3 0x1000 0x5403 19 ∷ []) ∷
    told 23 0x0 0x0 (mapped 0x6abc "--x" "rwx" (Device NGnRnE) Osh)
    (start1 3 0x1000 23 ∷ word1 3 0x1000 0x6403 23 ∷ []) ∷
    told 27 0x0 0x0 (mapped 0x7abc "--x" "rwx" (Device NGnRnE) Osh)
    (start1 3 0x1000 27 ∷ word1 3 0x1000 0x7403 27 ∷ []) ∷
    told 28 0x0 0x0 (mapped 0x6abc "--x" "rwx" (Device NGnRnE) Osh)
    (start1 3 0x1000 23 ∷ word1 3 0x1000 0x6403 23 ∷ []) ∷ [])
    (Some (9 ∷ 0 ∷ 9 ∷ 0 ∷ 0 ∷ 3 ∷ 3 ∷ 0 ∷ []))
unfolding on_worked_walks on_worked_runs
fb_makes_local_forms_broadcast = (refl, refl)

-- the 65th message in an inbox lets the oldest one take effect, and no other
inbox_of_64 : Comes (header 1 ((0x0, 0x20000) ∷ []) Small Fifo)
    (Store 0 0x1000 0x4403 ∷ Store 0 0x1008 0x5403 ∷ Store 0 0x1010 0x6403 ∷ Msr 0 TcrEl1 0x30 ∷ Msr 0 Ttbr0El1 0x1000 ∷ Msr 0 SctlrEl1 0x1 ∷
    Isb 0 ∷
    Access 0 (access 0xabc El1 Read false) ∷ Access 0 (access 0x1abc El1 Read false) ∷ Access 0 (access 0x2abc El1 Read false) ∷
    Store 0 0x1000 0x7403 ∷ Store 0 0x1008 0x7403 ∷ Store 0 0x1010 0x7403 ∷ Tlbi 0 FromEl1 Vae1 false 0x0 ∷ Tlbi 0 FromEl1 Vae1 false 0x1 ∷
    Tlbi 0 FromEl1 Vae1 false 0xf ∷ Tlbi 0 FromEl1 Vae1 false 0xf ∷ Tlbi 0 FromEl1 Vae1 false 0xf ∷ Tlbi 0 FromEl1 Vae1 false 0xf ∷
    Tlbi 0 FromEl1 Vae1 false 0xf ∷ Tlbi 0 FromEl1 Vae1 false 0xf ∷ Tlbi 0 FromEl1 Vae1 false 0xf ∷ Tlbi 0 FromEl1 Vae1 false 0xf ∷
    Tlbi 0 FromEl1 Vae1 false 0xf ∷ Tlbi 0 FromEl1 Vae1 false 0xf ∷ Tlbi 0 FromEl1 Vae1 false 0xf ∷ Tlbi 0 FromEl1 Vae1 false 0xf ∷
    Tlbi 0 FromEl1 Vae1 false 0xf ∷ Tlbi 0 FromEl1 Vae1 false 0xf ∷ Tlbi 0 FromEl1 Vae1 false 0xf ∷ Tlbi 0 FromEl1 Vae1 false 0xf ∷
    Tlbi 0 FromEl1 Vae1 false 0xf ∷ Tlbi 0 FromEl1 Vae1 false 0xf ∷ Tlbi 0 FromEl1 Vae1 false 0xf ∷ Tlbi 0 FromEl1 Vae1 false 0xf ∷
    Tlbi 0 FromEl1 Vae1 false 0xf ∷ Tlbi 0 FromEl1 Vae1 false 0xf ∷ Tlbi 0 FromEl1 Vae1 false 0xf ∷ Tlbi 0 FromEl1 Vae1 false 0xf ∷
    Tlbi 0 FromEl1 Vae1 false 0xf ∷ Tlbi 0 FromEl1 Vae1 false 0xf ∷ Tlbi 0 FromEl1 Vae1 false 0xf ∷ Tlbi 0 FromEl1 Vae1 false 0xf ∷
    Tlbi 0 FromEl1 Vae1 false 0xf ∷ Tlbi 0 FromEl1 Vae1 false 0xf ∷ Tlbi 0 FromEl1 Vae1 false 0xf ∷ Tlbi 0 FromEl1 Vae1 false 0xf ∷
    Tlbi 0 FromEl1 Vae1 false 0xf ∷ Tlbi 0 FromEl1 Vae1 false 0xf ∷ Tlbi 0 FromEl1 Vae1 false 0xf ∷ Tlbi 0 FromEl1 Vae1 false 0xf ∷
    Tlbi 0 FromEl1 Vae1 false 0xf ∷ Tlbi 0 FromEl1 Vae1 false 0xf ∷ Tlbi 0 FromEl1 Vae1 false 0xf ∷ Tlbi 0 FromEl1 Vae1 false 0xf ∷
    Tlbi 0 FromEl1 Vae1 false 0xf ∷ Tlbi 0 FromEl1 Vae1 false 0xf ∷ Tlbi 0 FromEl1 Vae1 false 0xf ∷ Tlbi 0 FromEl1 Vae1 false 0xf ∷
    Tlbi 0 FromEl1 Vae1 false 0xf ∷ Tlbi 0 FromEl1 Vae1 false 0xf ∷ Tlbi 0 FromEl1 Vae1 false 0xf ∷ Tlbi 0 FromEl1 Vae1 false 0xf ∷
    Tlbi 0 FromEl1 Vae1 false 0xf ∷ Tlbi 0 FromEl1 Vae1 false 0xf ∷ Tlbi 0 FromEl1 Vae1 false 0xf ∷ Tlbi 0 FromEl1 Vae1 false 0xf ∷
    Tlbi 0 FromEl1 Vae1 false 0xf ∷ Tlbi 0 FromEl1 Vae1 false 0xf ∷ Tlbi 0 FromEl1 Vae1 false 0xf ∷ Tlbi 0 FromEl1 Vae1 false 0xf ∷
    Tlbi 0 FromEl1 Vae1 false 0xf ∷ Tlbi 0 FromEl1 Vae1 false 0xf ∷ Tlbi 0 FromEl1 Vae1 false 0xf ∷ Tlbi 0 FromEl1 Vae1 false 0xf ∷
    Tlbi 0 FromEl1 Vae1 false 0xf ∷ Tlbi 0 FromEl1 Vae1 false 0xf ∷ Access 0 (access 0xabc El1 Read false) ∷ Tlbi 0 FromEl1 Vae1 false 0x2 ∷
    Access 0 (access 0xabc El1 Read false) ∷ Access 0 (access 0x1abc El1 Read false) ∷ Access 0 (access 0x2abc El1 Read false) ∷ Dsb 0 DsbNsh ∷
    Access 0 (access 0x2abc El1 Read false) ∷ [])
    (told 7 0x0 0x0 (mapped 0x4abc "--x" "rwx" (Device NGnRnE) Osh)
    (start1 3 0x1000 7 ∷ word1 3 0x1000 0x4403 7 ∷ []) ∷
    told 8 0x0 0x0 (mapped 0x5abc "--x" "rwx" (Device NGnRnE) Osh)
    (start1 3 0x1000 8 ∷ word1 3 0x1008 0x5403 8 ∷ []) ∷
    told 9 0x0 0x0 (mapped 0x6abc "--x" "rwx" (Device NGnRnE) Osh)
    (start1 3 0x1000 9 ∷ word1 3 0x1010 0x6403 9 ∷ []) ∷
    told 77 0x0 0x0 (mapped 0x4abc "--x" "rwx" (Device NGnRnE) Osh)
    (start1 3 0x1000 7 ∷ word1 3 0x1000 0x4403 7 ∷ []) ∷
    told 79 0x0 0x0 (mapped 0x7abc "--x" "rwx" (Device NGnRnE) Osh)
    (start1 3 0x1000 79 ∷ word1 3 0x1000 0x7403 79 ∷ []) ∷
    told 80 0x0 0x0 (mapped 0x5abc "--x" "rwx" (Device NGnRnE) Osh)
    (start1 3 0x1000 8 ∷ word1 3 0x1008 0x5403 8 ∷ []) ∷
    told 81 0x0 0x0 (mapped 0x6abc "--x" "rwx" (Device NGnRnE) Osh)
    (start1 3 0x1000 9 ∷ word1 3 0x1010 0x6403 9 ∷ []) ∷
    told 83 0x0 0x0 (mapped 0x7abc "--x" "rwx" (Device NGnRnE) Osh)
    (start1 3 0x1000 83 ∷ word1 3 0x1010 0x7403 83 ∷ []) ∷ [])
    (Some (8 ∷ 0 ∷ 8 ∷ 0 ∷ 0 ∷ 3 ∷ 3 ∷ 0 ∷ []))
unfolding on_worked_walks on_worked_runs
inbox_of_64 = (refl, refl)

-- rows and messages carry the VMID, also while stage 2 is off; a message has the effective one of its issuer at its
-- issue
message_keeps_its_vmid : Comes (header 2 ((0x0, 0x20000) ∷ []) Small Fifo)
    (Store 0 0x1000 0x4403 ∷ Msr 0 VttbrEl2 0x1000000000000 ∷ Msr 1 VttbrEl2 0x2000000000000 ∷ Msr 0 TcrEl1 0x30 ∷ Msr 0 Ttbr0El1 0x1000 ∷
    Msr 0 SctlrEl1 0x1 ∷ Isb 0 ∷ Msr 1 TcrEl1 0x30 ∷ Msr 1 Ttbr0El1 0x1000 ∷ Msr 1 SctlrEl1 0x1 ∷ Isb 1 ∷ Access 0 (access 0xabc El1 Read false) ∷
    Access 1 (access 0xabc El1 Read false) ∷ Store 0 0x1000 0x5403 ∷ Msr 0 VttbrEl2 0x2000000000000 ∷ Tlbi 0 FromEl1 Vmalle1 true 0 ∷ Isb 0 ∷
    Access 0 (access 0xabc El1 Read false) ∷ Dsb 0 DsbIsh ∷ Access 0 (access 0xabc El1 Read false) ∷ Access 1 (access 0xabc El1 Read false) ∷
    Msr 0 VttbrEl2 0x1000000000000 ∷ Isb 0 ∷ Access 0 (access 0xabc El1 Read false) ∷ [])
    (told 11 0x0 0x1 (mapped 0x4abc "--x" "rwx" (Device NGnRnE) Osh)
    (start1 3 0x1000 11 ∷ word1 3 0x1000 0x4403 11 ∷ []) ∷
    told 12 0x0 0x2 (mapped 0x4abc "--x" "rwx" (Device NGnRnE) Osh)
    (start1 3 0x1000 12 ∷ word1 3 0x1000 0x4403 12 ∷ []) ∷
    told 17 0x0 0x2 (mapped 0x5abc "--x" "rwx" (Device NGnRnE) Osh)
    (start1 3 0x1000 17 ∷ word1 3 0x1000 0x5403 17 ∷ []) ∷
    told 19 0x0 0x2 (mapped 0x5abc "--x" "rwx" (Device NGnRnE) Osh)
    (start1 3 0x1000 17 ∷ word1 3 0x1000 0x5403 17 ∷ []) ∷
    told 20 0x0 0x2 (mapped 0x4abc "--x" "rwx" (Device NGnRnE) Osh)
    (start1 3 0x1000 12 ∷ word1 3 0x1000 0x4403 12 ∷ []) ∷
    told 23 0x0 0x1 (mapped 0x5abc "--x" "rwx" (Device NGnRnE) Osh)
    (start1 3 0x1000 23 ∷ word1 3 0x1000 0x5403 23 ∷ []) ∷ [])
    (Some (6 ∷ 0 ∷ 6 ∷ 0 ∷ 0 ∷ 2 ∷ 1 ∷ 0 ∷ []))
unfolding on_worked_walks on_worked_runs
message_keeps_its_vmid = (refl, refl)

-- deliver lets the oldest message of its own core take effect, on all rows that the core has then, also those made
-- after the issue
deliver_takes_the_oldest : Comes (header 2 ((0x0, 0x20000) ∷ []) Small Fifo)
    (Store 0 0x1000 0x4403 ∷ Store 0 0x1008 0x5403 ∷ Msr 0 TcrEl1 0x30 ∷ Msr 0 Ttbr0El1 0x1000 ∷ Msr 0 SctlrEl1 0x1 ∷ Isb 0 ∷ Msr 1 TcrEl1 0x30 ∷
    Msr 1 Ttbr0El1 0x1000 ∷ Msr 1 SctlrEl1 0x1 ∷ Isb 1 ∷ Access 0 (access 0xabc El1 Read false) ∷ Access 0 (access 0x1abc El1 Read false) ∷
    Access 1 (access 0xabc El1 Read false) ∷ Store 0 0x1000 0x6403 ∷ Deliver 0 ∷ Tlbi 1 FromEl1 Vae1 true 0x0 ∷ Tlbi 1 FromEl1 Vae1 true 0x1 ∷
    Access 1 (access 0x1abc El1 Read false) ∷ Store 0 0x1008 0x7403 ∷ Deliver 0 ∷ Access 0 (access 0xabc El1 Read false) ∷
    Access 0 (access 0x1abc El1 Read false) ∷ Access 1 (access 0xabc El1 Read false) ∷ Deliver 1 ∷ Access 1 (access 0xabc El1 Read false) ∷
    Access 1 (access 0x1abc El1 Read false) ∷ Deliver 1 ∷ Access 1 (access 0x1abc El1 Read false) ∷ [])
    (told 10 0x0 0x0 (mapped 0x4abc "--x" "rwx" (Device NGnRnE) Osh)
    (start1 3 0x1000 10 ∷ word1 3 0x1000 0x4403 10 ∷ []) ∷
    told 11 0x0 0x0 (mapped 0x5abc "--x" "rwx" (Device NGnRnE) Osh)
    (start1 3 0x1000 11 ∷ word1 3 0x1008 0x5403 11 ∷ []) ∷
    told 12 0x0 0x0 (mapped 0x4abc "--x" "rwx" (Device NGnRnE) Osh)
    (start1 3 0x1000 12 ∷ word1 3 0x1000 0x4403 12 ∷ []) ∷
    told 17 0x0 0x0 (mapped 0x5abc "--x" "rwx" (Device NGnRnE) Osh)
    (start1 3 0x1000 17 ∷ word1 3 0x1008 0x5403 17 ∷ []) ∷
    told 20 0x0 0x0 (mapped 0x6abc "--x" "rwx" (Device NGnRnE) Osh)
    (start1 3 0x1000 20 ∷ word1 3 0x1000 0x6403 20 ∷ []) ∷
    told 21 0x0 0x0 (mapped 0x5abc "--x" "rwx" (Device NGnRnE) Osh)
    (start1 3 0x1000 11 ∷ word1 3 0x1008 0x5403 11 ∷ []) ∷
    told 22 0x0 0x0 (mapped 0x4abc "--x" "rwx" (Device NGnRnE) Osh)
    (start1 3 0x1000 12 ∷ word1 3 0x1000 0x4403 12 ∷ []) ∷
    told 24 0x0 0x0 (mapped 0x6abc "--x" "rwx" (Device NGnRnE) Osh)
    (start1 3 0x1000 24 ∷ word1 3 0x1000 0x6403 24 ∷ []) ∷
    told 25 0x0 0x0 (mapped 0x5abc "--x" "rwx" (Device NGnRnE) Osh)
    (start1 3 0x1000 17 ∷ word1 3 0x1008 0x5403 17 ∷ []) ∷
    told 27 0x0 0x0 (mapped 0x7abc "--x" "rwx" (Device NGnRnE) Osh)
    (start1 3 0x1000 27 ∷ word1 3 0x1008 0x7403 27 ∷ []) ∷ [])
    (Some (10 ∷ 0 ∷ 10 ∷ 0 ∷ 0 ∷ 3 ∷ 3 ∷ 0 ∷ []))
unfolding on_worked_walks on_worked_runs
deliver_takes_the_oldest = (refl, refl)

-- VMALLS12E1 takes every row of its VMID and none of another, ALLE1 those of all
every_row_of_a_vmid : Comes (header 1 ((0x0, 0x20000) ∷ []) Small Fifo)
    (Store 0 0x1000 0x3403 ∷ Store 0 0x8008 0x14c3 ∷ Store 0 0x8018 0x54c3 ∷ Msr 0 TcrEl1 0x30 ∷ Msr 0 Ttbr0El1 0x1000 ∷ Msr 0 VtcrEl2 0xf0 ∷
    Msr 0 VttbrEl2 0x1000000008000 ∷ Msr 0 HcrEl2 0x1 ∷ Msr 0 SctlrEl1 0x1 ∷ Isb 0 ∷ Access 0 (access 0xabc El1 Read false) ∷
    Msr 0 VttbrEl2 0x2000000008000 ∷ Isb 0 ∷ Access 0 (access 0xabc El1 Read false) ∷ Tlbi 0 FromEl2 Vmalls12e1 false 0 ∷ Dsb 0 DsbNsh ∷
    Access 0 (access 0xabc El1 Read false) ∷ Msr 0 VttbrEl2 0x1000000008000 ∷ Isb 0 ∷ Access 0 (access 0xabc El1 Read false) ∷
    Tlbi 0 FromEl2 Alle1 false 0 ∷ Dsb 0 DsbNsh ∷ Access 0 (access 0xabc El1 Read false) ∷ Msr 0 VttbrEl2 0x2000000008000 ∷ Isb 0 ∷
    Access 0 (access 0xabc El1 Read false) ∷ [])
    (told 10 0x0 0x1 (mapped 0x5abc "--x" "rwx" (Device NGnRnE) Osh)
    (start1 3 0x1000 10 ∷ start2 3 0x8000 10 ∷ word2 3 0x8008 0x14c3 10 ∷ word1 3 0x1000 0x3403 10 ∷ start2 3 0x8000 10 ∷
    word2 3 0x8018 0x54c3 10 ∷ []) ∷
    told 13 0x0 0x2 (mapped 0x5abc "--x" "rwx" (Device NGnRnE) Osh)
    (start1 3 0x1000 13 ∷ start2 3 0x8000 13 ∷ word2 3 0x8008 0x14c3 13 ∷ word1 3 0x1000 0x3403 13 ∷ start2 3 0x8000 13 ∷
    word2 3 0x8018 0x54c3 13 ∷ []) ∷
    told 16 0x0 0x2 (mapped 0x5abc "--x" "rwx" (Device NGnRnE) Osh)
    (start1 3 0x1000 16 ∷ start2 3 0x8000 16 ∷ word2 3 0x8008 0x14c3 16 ∷ word1 3 0x1000 0x3403 16 ∷ start2 3 0x8000 16 ∷
    word2 3 0x8018 0x54c3 16 ∷ []) ∷
    told 19 0x0 0x1 (mapped 0x5abc "--x" "rwx" (Device NGnRnE) Osh)
    (start1 3 0x1000 10 ∷ start2 3 0x8000 10 ∷ word2 3 0x8008 0x14c3 10 ∷ word1 3 0x1000 0x3403 10 ∷ start2 3 0x8000 10 ∷
    word2 3 0x8018 0x54c3 10 ∷ []) ∷
    told 22 0x0 0x1 (mapped 0x5abc "--x" "rwx" (Device NGnRnE) Osh)
    (start1 3 0x1000 22 ∷ start2 3 0x8000 22 ∷ word2 3 0x8008 0x14c3 22 ∷ word1 3 0x1000 0x3403 22 ∷ start2 3 0x8000 22 ∷
    word2 3 0x8018 0x54c3 22 ∷ []) ∷
    told 25 0x0 0x2 (mapped 0x5abc "--x" "rwx" (Device NGnRnE) Osh)
    (start1 3 0x1000 25 ∷ start2 3 0x8000 25 ∷ word2 3 0x8008 0x14c3 25 ∷ word1 3 0x1000 0x3403 25 ∷ start2 3 0x8000 25 ∷
    word2 3 0x8018 0x54c3 25 ∷ []) ∷ [])
    (Some (6 ∷ 0 ∷ 6 ∷ 0 ∷ 0 ∷ 1 ∷ 0 ∷ 0 ∷ []))
unfolding on_worked_walks on_worked_runs
every_row_of_a_vmid = (refl, refl)

-- VALE1, VAALE1 and their ranges take leaves alone; VAE1, VAAE1, their ranges, ASIDE1 and VMALLE1 take tables too;
-- FB makes each of the ten broadcast
last_level_forms_spare_tables : Comes (header 2 ((0x0, 0x20000) ∷ []) Small Fifo)
    (Store 0 0x1000 0x2003 ∷ Store 0 0x2000 0x4c03 ∷ Msr 0 TcrEl1 0x27 ∷ Msr 0 Ttbr0El1 0x1000000001000 ∷ Msr 0 SctlrEl1 0x1 ∷ Isb 0 ∷
    Access 0 (access 0xabc El1 Read false) ∷ Msr 1 HcrEl2 0x200 ∷ Isb 1 ∷ Tlbi 1 FromEl1 Vale1 false 0x1000000000000 ∷ Dsb 1 DsbIsh ∷
    Access 0 (access 0xabc El1 Read false) ∷ Tlbi 1 FromEl1 Vaale1 false 0x0 ∷ Dsb 1 DsbIsh ∷ Access 0 (access 0xabc El1 Read false) ∷
    Tlbi 1 FromEl1 Rvale1 false 0x1400000000000 ∷ Dsb 1 DsbIsh ∷ Access 0 (access 0xabc El1 Read false) ∷
    Tlbi 1 FromEl1 Rvaale1 false 0x400000000000 ∷ Dsb 1 DsbIsh ∷ Access 0 (access 0xabc El1 Read false) ∷ Tlbi 1 FromEl1 Vae1 false 0x1000000000000 ∷
    Dsb 1 DsbIsh ∷ Access 0 (access 0xabc El1 Read false) ∷ Tlbi 1 FromEl1 Vaae1 false 0x0 ∷ Dsb 1 DsbIsh ∷ Access 0 (access 0xabc El1 Read false) ∷
    Tlbi 1 FromEl1 Rvae1 false 0x1400000000000 ∷ Dsb 1 DsbIsh ∷ Access 0 (access 0xabc El1 Read false) ∷ Tlbi 1 FromEl1 Rvaae1 false 0x400000000000 ∷
    Dsb 1 DsbIsh ∷ Access 0 (access 0xabc El1 Read false) ∷ Tlbi 1 FromEl1 Aside1 false 0x1000000000000 ∷ Dsb 1 DsbIsh ∷
    Access 0 (access 0xabc El1 Read false) ∷ Tlbi 1 FromEl1 Vmalle1 false 0 ∷ Dsb 1 DsbIsh ∷ Access 0 (access 0xabc El1 Read false) ∷ [])
    (told 6 0x1 0x0 (mapped 0x4abc "--x" "rwx" (Device NGnRnE) Osh)
    (start1 2 0x1000 6 ∷ word1 2 0x1000 0x2003 6 ∷ word1 3 0x2000 0x4c03 6 ∷ []) ∷
    told 11 0x1 0x0 (mapped 0x4abc "--x" "rwx" (Device NGnRnE) Osh)
    (start1 2 0x1000 6 ∷ word1 2 0x1000 0x2003 6 ∷ word1 3 0x2000 0x4c03 11 ∷ []) ∷
    told 14 0x1 0x0 (mapped 0x4abc "--x" "rwx" (Device NGnRnE) Osh)
    (start1 2 0x1000 6 ∷ word1 2 0x1000 0x2003 6 ∷ word1 3 0x2000 0x4c03 14 ∷ []) ∷
    told 17 0x1 0x0 (mapped 0x4abc "--x" "rwx" (Device NGnRnE) Osh)
    (start1 2 0x1000 6 ∷ word1 2 0x1000 0x2003 6 ∷ word1 3 0x2000 0x4c03 17 ∷ []) ∷
    told 20 0x1 0x0 (mapped 0x4abc "--x" "rwx" (Device NGnRnE) Osh)
    (start1 2 0x1000 6 ∷ word1 2 0x1000 0x2003 6 ∷ word1 3 0x2000 0x4c03 20 ∷ []) ∷
    told 23 0x1 0x0 (mapped 0x4abc "--x" "rwx" (Device NGnRnE) Osh)
    (start1 2 0x1000 23 ∷ word1 2 0x1000 0x2003 23 ∷ word1 3 0x2000 0x4c03 23 ∷ []) ∷
    told 26 0x1 0x0 (mapped 0x4abc "--x" "rwx" (Device NGnRnE) Osh)
    (start1 2 0x1000 26 ∷ word1 2 0x1000 0x2003 26 ∷ word1 3 0x2000 0x4c03 26 ∷ []) ∷
    told 29 0x1 0x0 (mapped 0x4abc "--x" "rwx" (Device NGnRnE) Osh)
    (start1 2 0x1000 29 ∷ word1 2 0x1000 0x2003 29 ∷ word1 3 0x2000 0x4c03 29 ∷ []) ∷
    told 32 0x1 0x0 (mapped 0x4abc "--x" "rwx" (Device NGnRnE) Osh)
    (start1 2 0x1000 32 ∷ word1 2 0x1000 0x2003 32 ∷ word1 3 0x2000 0x4c03 32 ∷ []) ∷
    told 35 0x1 0x0 (mapped 0x4abc "--x" "rwx" (Device NGnRnE) Osh)
    (start1 2 0x1000 35 ∷ word1 2 0x1000 0x2003 35 ∷ word1 3 0x2000 0x4c03 35 ∷ []) ∷
    told 38 0x1 0x0 (mapped 0x4abc "--x" "rwx" (Device NGnRnE) Osh)
    (start1 2 0x1000 38 ∷ word1 2 0x1000 0x2003 38 ∷ word1 3 0x2000 0x4c03 38 ∷ []) ∷ [])
    (Some (11 ∷ 0 ∷ 11 ∷ 0 ∷ 0 ∷ 4 ∷ 0 ∷ 0 ∷ []))
unfolding on_worked_walks on_worked_runs
last_level_forms_spare_tables = (refl, refl)

-- an IPA form takes the stage 2 rows and no combined row, though that one's trail has their words; VAE1 and VMALLE1
-- take the combined row alone
ipa_forms_spare_combined_rows : Comes (header 1 ((0x0, 0x20000) ∷ []) Small Fifo)
    (Store 0 0x1000 0x3403 ∷ Store 0 0x8008 0x14c3 ∷ Store 0 0x8018 0x54c3 ∷ Msr 0 TcrEl1 0x30 ∷ Msr 0 Ttbr0El1 0x1000 ∷ Msr 0 VtcrEl2 0xf0 ∷
    Msr 0 VttbrEl2 0x8000 ∷ Msr 0 HcrEl2 0x1 ∷ Msr 0 SctlrEl1 0x1 ∷ Isb 0 ∷ Access 0 (access 0xabc El1 Read false) ∷
    Tlbi 0 FromEl2 Ipas2e1 false 0x0 ∷ Tlbi 0 FromEl2 Ipas2e1 false 0x1 ∷ Tlbi 0 FromEl2 Ripas2e1 false 0x400000000002 ∷ Dsb 0 DsbNsh ∷
    Access 0 (access 0xabc El1 Read false) ∷ Tlbi 0 FromEl1 Vae1 false 0x0 ∷ Dsb 0 DsbNsh ∷ Access 0 (access 0xabc El1 Read false) ∷
    Tlbi 0 FromEl1 Vmalle1 false 0 ∷ Dsb 0 DsbNsh ∷ Access 0 (access 0xabc El1 Read false) ∷ Tlbi 0 FromEl2 Vmalls12e1 false 0 ∷ Dsb 0 DsbNsh ∷
    Access 0 (access 0xabc El1 Read false) ∷ [])
    (told 10 0x0 0x0 (mapped 0x5abc "--x" "rwx" (Device NGnRnE) Osh)
    (start1 3 0x1000 10 ∷ start2 3 0x8000 10 ∷ word2 3 0x8008 0x14c3 10 ∷ word1 3 0x1000 0x3403 10 ∷ start2 3 0x8000 10 ∷
    word2 3 0x8018 0x54c3 10 ∷ []) ∷
    told 15 0x0 0x0 (mapped 0x5abc "--x" "rwx" (Device NGnRnE) Osh)
    (start1 3 0x1000 10 ∷ start2 3 0x8000 10 ∷ word2 3 0x8008 0x14c3 10 ∷ word1 3 0x1000 0x3403 10 ∷ start2 3 0x8000 10 ∷
    word2 3 0x8018 0x54c3 10 ∷ []) ∷
    told 18 0x0 0x0 (mapped 0x5abc "--x" "rwx" (Device NGnRnE) Osh)
    (start1 3 0x1000 18 ∷ start2 3 0x8000 18 ∷ word2 3 0x8008 0x14c3 18 ∷ word1 3 0x1000 0x3403 18 ∷ start2 3 0x8000 18 ∷
    word2 3 0x8018 0x54c3 18 ∷ []) ∷
    told 21 0x0 0x0 (mapped 0x5abc "--x" "rwx" (Device NGnRnE) Osh)
    (start1 3 0x1000 21 ∷ start2 3 0x8000 18 ∷ word2 3 0x8008 0x14c3 18 ∷ word1 3 0x1000 0x3403 21 ∷ start2 3 0x8000 18 ∷
    word2 3 0x8018 0x54c3 18 ∷ []) ∷
    told 24 0x0 0x0 (mapped 0x5abc "--x" "rwx" (Device NGnRnE) Osh)
    (start1 3 0x1000 24 ∷ start2 3 0x8000 24 ∷ word2 3 0x8008 0x14c3 24 ∷ word1 3 0x1000 0x3403 24 ∷ start2 3 0x8000 24 ∷
    word2 3 0x8018 0x54c3 24 ∷ []) ∷ [])
    (Some (5 ∷ 0 ∷ 5 ∷ 0 ∷ 0 ∷ 2 ∷ 0 ∷ 0 ∷ []))
unfolding on_worked_walks on_worked_runs
ipa_forms_spare_combined_rows = (refl, refl)

-- IPAS2LE1 and its range take stage 2 leaves alone, IPAS2E1 and its range tables too, VA forms neither; IS forms
-- reach another core
last_level_ipa_forms : Comes (header 2 ((0x0, 0x20000) ∷ []) Small Fifo)
    (Store 0 0x1000 0x2003 ∷ Store 0 0x2000 0x44ff ∷ Msr 0 VtcrEl2 0x27 ∷ Msr 0 VttbrEl2 0x1000 ∷ Msr 0 HcrEl2 0x1 ∷ Isb 0 ∷
    Access 0 (access 0xabc El1 Read false) ∷ Tlbi 1 FromEl2 Vaae1 true 0x0 ∷ Dsb 1 DsbIsh ∷ Access 0 (access 0xabc El1 Read false) ∷
    Tlbi 1 FromEl2 Ipas2le1 true 0x8000500000000000 ∷ Dsb 1 DsbIsh ∷ Access 0 (access 0xabc El1 Read false) ∷
    Tlbi 1 FromEl2 Ripas2le1 true 0x404000000000 ∷ Dsb 1 DsbIsh ∷ Access 0 (access 0xabc El1 Read false) ∷ Tlbi 1 FromEl2 Ipas2e1 true 0x0 ∷
    Dsb 1 DsbIsh ∷ Access 0 (access 0xabc El1 Read false) ∷ Tlbi 1 FromEl2 Ripas2e1 true 0x400000000000 ∷ Dsb 1 DsbIsh ∷
    Access 0 (access 0xabc El1 Read false) ∷ Tlbi 1 FromEl2 Vmalls12e1 true 0 ∷ Dsb 1 DsbIsh ∷ Access 0 (access 0xabc El1 Read false) ∷
    Tlbi 1 FromEl2 Alle1 true 0 ∷ Dsb 1 DsbIsh ∷ Access 0 (access 0xabc El1 Read false) ∷ [])
    (told 6 0x0 0x0 (mapped 0x4abc "rwx" "rwx" (Device NGnRnE) Osh)
    (start2 2 0x1000 6 ∷ word2 2 0x1000 0x2003 6 ∷ word2 3 0x2000 0x44ff 6 ∷ []) ∷
    told 9 0x0 0x0 (mapped 0x4abc "rwx" "rwx" (Device NGnRnE) Osh)
    (start2 2 0x1000 6 ∷ word2 2 0x1000 0x2003 6 ∷ word2 3 0x2000 0x44ff 6 ∷ []) ∷
    told 12 0x0 0x0 (mapped 0x4abc "rwx" "rwx" (Device NGnRnE) Osh)
    (start2 2 0x1000 6 ∷ word2 2 0x1000 0x2003 6 ∷ word2 3 0x2000 0x44ff 12 ∷ []) ∷
    told 15 0x0 0x0 (mapped 0x4abc "rwx" "rwx" (Device NGnRnE) Osh)
    (start2 2 0x1000 6 ∷ word2 2 0x1000 0x2003 6 ∷ word2 3 0x2000 0x44ff 15 ∷ []) ∷
    told 18 0x0 0x0 (mapped 0x4abc "rwx" "rwx" (Device NGnRnE) Osh)
    (start2 2 0x1000 18 ∷ word2 2 0x1000 0x2003 18 ∷ word2 3 0x2000 0x44ff 18 ∷ []) ∷
    told 21 0x0 0x0 (mapped 0x4abc "rwx" "rwx" (Device NGnRnE) Osh)
    (start2 2 0x1000 21 ∷ word2 2 0x1000 0x2003 21 ∷ word2 3 0x2000 0x44ff 21 ∷ []) ∷
    told 24 0x0 0x0 (mapped 0x4abc "rwx" "rwx" (Device NGnRnE) Osh)
    (start2 2 0x1000 24 ∷ word2 2 0x1000 0x2003 24 ∷ word2 3 0x2000 0x44ff 24 ∷ []) ∷
    told 27 0x0 0x0 (mapped 0x4abc "rwx" "rwx" (Device NGnRnE) Osh)
    (start2 2 0x1000 27 ∷ word2 2 0x1000 0x2003 27 ∷ word2 3 0x2000 0x44ff 27 ∷ []) ∷ [])
    (Some (8 ∷ 0 ∷ 8 ∷ 0 ∷ 0 ∷ 3 ∷ 0 ∷ 0 ∷ []))
unfolding on_worked_walks on_worked_runs
last_level_ipa_forms = (refl, refl)
