-- What a trace that was read whole says.
use Rattle.std.proofs.Common.{◌≡◌, ℕ, ◌<◌, ◌≤◌, List, length, take, min, Result, Ok, Err, sym, ◌∙◌, ap, subst, refl, arith}
use Rattle.std.specs.Result.{IfErr}
use Rattle.std.proofs.lemmas.List.{take_all, take_min}
use Rattle.table_reads.proofs.Weaker.{rose_weaker}
use Rattle.dump_file.specs.Held.{Holding, Untold, Absent, Bytes}
use Rattle.dump_file.specs.Filled.{IsFilled}
use Rattle.dump_file.specs.Opening.{IsOfSize}
use Rattle.trace_lang.specs.declared.refusals.TraceRefusal.{TraceRefusal}
use Rattle.trace_lang.specs.Traces.{Parts}
use Rattle.trace_lang.specs.Lines.{trace_of}
use Rattle.run_answer.specs.Run.{IsTraceOf, IsWhole, FailsBy}
use Rattle.statuses.specs.Stops.{AsTrace, reason, IsRefusedBy}
use Rattle.statuses.specs.declared.status.Why.TheVariants.{Trace}
use Rattle.statuses.specs.declared.status.Status.{Status}
use Rattle.statuses.specs.declared.status.Status.TheVariants.{Done, Usage, NoFile, Refused, ReadFault, WriteFault, NoMemory}

-- a slice that was filled, cut where it ends
pub whole_in : (h : Holding) (m n room count : ℕ) (new : List ℕ) → length new ≡ room → IsFilled h m n 0 new count → IsWhole h room (take count new)
whole_in Untold m n room count new l f = tt
whole_in Absent m n room count new l f = rw f refl
whole_in (Bytes bytes) m n room count new l f =
    let many : count ≡ min room (length bytes) = (let e = f.0 in omega arith) in
    f.1 ∙ ap (λ k. take k bytes) many ∙ take_min room bytes

-- more room than the file has bytes
all_of : (bytes all : List ℕ) (room : ℕ) → length all < room → bytes ≡ take room all → bytes ≡ all
all_of bytes all room h e = e ∙ take_all room all (omega arith)

module _ (size room : ℕ) (bytes : List ℕ) (s : size < room) where
  pub is_trace : (h : Holding) (t : Parts) → IsOfSize h size → IsWhole h room bytes → trace_of bytes ≡ Ok t → IsTraceOf h t
  is_trace Untold t o w e = tt
  is_trace Absent t o w e = o
  is_trace (Bytes all) t o w e = ap trace_of (sym (all_of bytes all room (subst (λ z. z < room) o s) w)) ∙ e

  pub is_refused : (h : Holding) (why : TraceRefusal) → IsOfSize h size → IsWhole h room bytes → trace_of bytes ≡ Err why
      → IsRefusedBy h AsTrace (Trace why)
  is_refused Untold why o w e = tt
  is_refused Absent why o w e = o
  is_refused (Bytes all) why o w e = ap (reason Trace) (ap trace_of (sym (all_of bytes all room (subst (λ z. z < room) o s) w)) ∙ e)

-- what failed in a later part failed in the whole
fails_weaker : (a b c : ℕ) (status : Status) → a ≤ b → FailsBy b c status → FailsBy a c status
fails_weaker a b c ReadFault l f = rose_weaker a b c c l (omega arith) f
fails_weaker a b c NoMemory l f = tt
fails_weaker a b c Done l f = f
fails_weaker a b c Usage l f = f
fails_weaker a b c WriteFault l f = f
fails_weaker a b c (NoFile name) l f = f
fails_weaker a b c (Refused why) l f = f

pub fails_later : {A : Type 0} (r : Result A Status) (a b c : ℕ) → a ≤ b → IfErr r (FailsBy b c) → IfErr r (FailsBy a c)
fails_later (Ok x) a b c l f = tt
fails_later (Err status) a b c l f = fails_weaker a b c status l f
