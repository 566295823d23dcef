-- Worked lines.
use Rattle.std.proofs.Common.{◌≡◌, ◌++◌, true, false, codes, refl, pos, negsuc}
use Rattle.std.specs.Fmt.{digits}
use Rattle.permissions.specs.Rights.{has}
use Rattle.permissions.specs.declared.bits.El.TheVariants.{El0, El1}
use Rattle.permissions.specs.declared.bits.Kind.TheVariants.{Read, Write}
use Rattle.attributes.specs.declared.kinds.Cache.TheVariants.{Nc, Wt, Wb}
use Rattle.attributes.specs.declared.kinds.Device.TheVariants.{NGnRnE}
use Rattle.attributes.specs.declared.kinds.MemType.TheVariants.{Device, Normal}
use Rattle.attributes.specs.declared.kinds.Share.TheVariants.{Nsh, Ish, Osh}
use Rattle.fault_codes.specs.declared.fault.Stage.TheVariants.{S1, S2}
use Rattle.fault_codes.specs.declared.fault.Class.TheVariants.{Permission}
use Rattle.trails.specs.declared.item.What.TheVariants.{Base, Word}
use Rattle.trails.specs.declared.outcome.Outcome.TheVariants.{Mapped, Faulted, Absent, Conflict}
use Rattle.explain_text.specs.Texts.{item_text}
use Rattle.explain_text.specs.Explained.{access_text, outcome_text}

-- a page of Normal memory, with the rights R0, W0, R1 and W1
normal_page
    : outcome_text false (Mapped 0x5abc (record { 0 = 27 }) (Normal (Wb false true true) (Wb false true true) false) Ish)
    ≡ codes "mapped 0x5abc el0 rw- el1 rw- normal outer wb+r+w inner wb+r+w ish\n"
unfolding has digits
normal_page = refl

-- a page of Device memory, with the rights X0, R1, W1 and X1
device_page
    : outcome_text true (Mapped 0x2000000051234 (record { 0 = 60 }) (Device NGnRnE) Osh)
    ≡ codes "mapped 0x2000000051234 el0 --x el1 rwx device-nGnRnE osh\n"
unfolding has digits
device_page = refl

-- hints in their order
hinted_page
    : outcome_text true (Mapped 0 (record { 0 = 0 }) (Normal (Wt true true false) (Wb true false true) true) Nsh)
    ≡ codes "mapped 0x0 el0 --- el1 --- normal outer wt+r+t inner wb+w+t tagged nsh\n"
unfolding has digits
hinted_page = refl

uncached_page
    : outcome_text false (Mapped 0 (record { 0 = 63 }) (Normal Nc Nc false) Osh)
    ≡ codes "mapped 0x0 el0 rwx el1 rwx normal outer nc inner nc osh\n"
unfolding has digits
uncached_page = refl

conflict : outcome_text true Conflict ≡ codes "conflict fsc 0x30\n"
conflict = refl

-- an access, its address tagged
tagged_access
    : access_text (codes "access") (record { va = 0xb400000040201abc; el = El0; kind = Read; pan = false }) 0x1234 0 ++ codes "\n"
    ≡ codes "access 0xb400000040201abc el0 read asid 0x1234 vmid 0x0\n"
unfolding digits
tagged_access = refl

-- an access with PAN, behind another word
guarded_access
    : access_text (codes "at 7 access") (record { va = 0; el = El1; kind = Write; pan = true }) 0 0xab
    ≡ codes "at 7 access 0x0 el1 write pan asid 0x0 vmid 0xab"
unfolding digits
guarded_access = refl

-- faults of both stages
permission_fault
    : outcome_text false (Faulted (record { stage = S1; level = pos 3; class = Permission; s1ptw = false }))
    ≡ codes "fault stage 1 level 3 permission fsc 0x0f\n"
unfolding digits
permission_fault = refl

marked_fault
    : outcome_text false (Faulted (record { stage = S2; level = pos 1; class = Permission; s1ptw = true }))
    ≡ codes "fault stage 2 level 1 permission fsc 0x0d s1ptw\n"
unfolding digits
marked_fault = refl

-- a word that memory lacks
absent_word
    : outcome_text false (Absent S1 (pos 2) 0x2008 false) ≡ codes "absent stage 1 level 2 at 0x2008\n"
unfolding digits
absent_word = refl

-- the same in a run
absent_in_run
    : outcome_text true (Absent S1 (pos 2) 0x2008 false) ≡ codes "fault stage 1 level 2 external fsc 0x16\n"
unfolding digits
absent_in_run = refl

-- items with and without moments
word_in_run
    : item_text true (record { pa = 0x4008; value = 0x5403; moment = 8; stage = S1; level = pos 3; what = Word })
    ≡ codes "s1 word level 3 at 0x4008 value 0x5403 moment 8\n"
unfolding digits
word_in_run = refl

base_alone
    : item_text false (record { pa = 0x1000; value = 0x1000; moment = 8; stage = S2; level = negsuc 0; what = Base })
    ≡ codes "s2 base level -1 at 0x1000\n"
unfolding digits
base_alone = refl
