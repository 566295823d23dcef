-- Worked traces.
use Rattle.std.proofs.Common.{◌≡◌, List, ℕ, [], ◌∷◌, ◌++◌, Ok, Err, codes, refl, true, false}
use Rattle.sysregs.specs.declared.regs.Reg.TheVariants.{TcrEl1, HcrEl2}
use Rattle.sysregs.specs.declared.regs.Op.TheVariants.{Vae1, Alle1}
use Rattle.sysregs.specs.declared.regs.Field.TheVariants.{Fwb}
use Rattle.permissions.specs.declared.bits.El.TheVariants.{El0}
use Rattle.permissions.specs.declared.bits.Kind.TheVariants.{Read}
use Rattle.trails.specs.declared.event.Event.TheVariants.{Store, Msr, Isb, Tlbi, Access}
use Rattle.trails.specs.declared.event.Origin.TheVariants.{El1, El2}
use Rattle.trace_lang.specs.declared.header.Size.TheVariants.{NoRows}
use Rattle.trace_lang.specs.declared.header.Policy.TheVariants.{Fifo}
use Rattle.trace_lang.specs.declared.refusals.TraceRefusal.TheVariants.{BadWord, OutOfRange, Unsupported, NotAtEl1, NoHeader, NoEnd, AfterEnd}
use Rattle.trace_lang.specs.Traces.{parts_of}
use Rattle.trace_lang.specs.Lines.{trace_of}

-- the lines before the events, of which there are 4
abbrev header : List ℕ
header = codes "cores 2\nmemory 0x0 0x1000\ncaches none\npolicy fifo\n"

reads_a_header : trace_of (header ++ codes "end") ≡ Ok (parts_of 2 ((0, 4096) ∷ []) NoRows Fifo [])
reads_a_header = refl

reads_events
    : trace_of
    (header ++ codes "store 1 0xff8 7\r\n\t# none\n\nmsr 0 TCR_EL1 0x10\nisb 0\ntlbi 0 el2 ALLE1\ntlbi 0 el1 VAE1IS 5\naccess 1 el0 read 4096 pan\nend\n")
    ≡ Ok (parts_of 2 ((0, 4096) ∷ []) NoRows Fifo (
    Store 1 0xff8 7 ∷ Msr 0 TcrEl1 16 ∷ Isb 0 ∷ Tlbi 0 El2 Alle1 false 0 ∷ Tlbi 0 El1 Vae1 true 5
    ∷ Access 1 record { va = 4096; el = El0; kind = Read; pan = true } ∷ []))
reads_events = refl

nothing : trace_of [] ≡ Err NoHeader
nothing = refl

no_end : trace_of header ≡ Err NoEnd
no_end = refl

refuses_a_store_across_the_end_of_a_range : trace_of (header ++ codes "store 0 0x1000 0\nend\n") ≡ Err (OutOfRange 5 3)
refuses_a_store_across_the_end_of_a_range = refl

refuses_ranges_that_share_a_byte : trace_of (codes "cores 1\nmemory 0x1000 0x1000\nmemory 0 0x1008\n") ≡ Err (OutOfRange 3 2)
refuses_ranges_that_share_a_byte = refl

refuses_a_field : trace_of (header ++ codes "msr 0 HCR_EL2 0x400000000000\n") ≡ Err (Unsupported 5 record { reg = HcrEl2; field = Fwb })
refuses_a_field = refl

refuses_an_operation_at_el1 : trace_of (header ++ codes "isb 0\n\ntlbi 0 el1 ALLE1\n") ≡ Err (NotAtEl1 7)
refuses_an_operation_at_el1 = refl

refuses_a_word_too_many_first : trace_of (header ++ codes "tlbi 0 el1 ALLE1 0\n") ≡ Err (BadWord 5 5)
refuses_a_word_too_many_first = refl

refuses_a_line_behind_the_end : trace_of (header ++ codes "end\n#\nend\n") ≡ Err (AfterEnd 7)
refuses_a_line_behind_the_end = refl
