-- The text of a walk over a file that did not fail.
use Rattle.std.proofs.Common.{ℕ, ◌≤◌, List, None, refl, arith}
use Rattle.bitwords.specs.Causes.{Rose}
use Rattle.sysregs.specs.declared.regs.Regs.{Regs}
use Rattle.trails.specs.declared.item.Item.{Item}
use Rattle.trails.specs.declared.outcome.Access.{Access}
use Rattle.trails.specs.declared.outcome.Outcome.{Outcome}
use Rattle.walk_spec.specs.Walked.{IsFresh, WalkedWhole}
use Rattle.walk_spec.proofs.Walks.{lacks_weaker}
use Rattle.dump_file.specs.Held.{Holding, Untold, Absent, Bytes}
use Rattle.dump_file.specs.Kept.{Opened}
use Rattle.dump_file.specs.Dumps.{IsOpened}
use Rattle.explain_text.specs.Explained.{explain_text}
use Rattle.answers.specs.Supplies.{image_memory, dump_memory}
use Rattle.answers.specs.Texts.{raw_regs, raw_access, raw_text}
use Rattle.answers.specs.Raw.{IsRawTextThere}
use Rattle.answers.specs.Explain.{IsTextOver}

rose_none : (n : ℕ) → n ≤ 0 → Rose 0 n → ⊥
rose_none n h r = absurd (omega arith)

-- over an image
pub text_there : (h : Holding) (image : List ℕ) (tcr ttbr0 va n : ℕ) (items : List Item) (o : Outcome) → n ≤ 0
    → WalkedWhole (raw_regs tcr ttbr0) (raw_access va) 0 (image_memory h) (Rose 0 n) items o
    → IsFresh (raw_regs tcr ttbr0) (raw_access va) 0 (image_memory h) (Rose 0 n) items o
    → IsRawTextThere h record { image = image; tcr = tcr; ttbr0 = ttbr0; va = va } (raw_text va items o)
text_there Untold image tcr ttbr0 va n items o h w f =
    (items, o, record { end = w.end; took = w.took; cause = lacks_weaker None (Rose 0 n) ⊥ (rose_none n h) w.end w.cause; answer = w.answer }, refl)
text_there Absent image tcr ttbr0 va n items o h w f = tt
text_there (Bytes bytes) image tcr ttbr0 va n items o h w f = let e = f _ refl (rose_none n h) in rw (e.0, e.1) refl

-- over a dump
pub text_over : (h : Holding) (dump : Opened) (regs : Regs) (access : Access) (n : ℕ) (items : List Item) (o : Outcome) → n ≤ 0
    → IsOpened h dump
    → WalkedWhole regs access 0 (dump_memory h dump.segments) (Rose 0 n) items o
    → IsFresh regs access 0 (dump_memory h dump.segments) (Rose 0 n) items o
    → IsTextOver h regs access (explain_text regs access items o)
text_over Untold dump regs access n items o h k w f =
    (items, o, record { end = w.end; took = w.took; cause = lacks_weaker None (Rose 0 n) ⊥ (rose_none n h) w.end w.cause; answer = w.answer }, refl)
text_over Absent dump regs access n items o h k w f = k
text_over (Bytes bytes) dump regs access n items o h k w f =
    let e = f _ refl (rose_none n h) in (dump.segments, k.segments, rw (e.0, e.1) refl)
