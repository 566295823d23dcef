-- What the read of a header says of a dump.
use Rattle.std.proofs.Common.{◌≡◌, ℕ, ◌≤◌, List, length, take, Ok, Err, sym, ◌∙◌, ap, arith, take_all}
use Rattle.dump_file.specs.Held.{Holding, Untold, Absent, Bytes}
use Rattle.dump_file.specs.Filled.{IsFilled}
use Rattle.dump_file.specs.DumpOf.{table_of, dump_by}
use Rattle.dump_file.specs.Dumps.{IsRefusal}
use Rattle.dump_file.specs.Opening.{IsOfSize, IsTable}
use Rattle.dump_file.specs.declared.header.TableAt.{TableAt}
use Rattle.dump_file.specs.declared.refusal.DumpRefusal.{DumpRefusal}

module _ (before now n : ℕ) (new : List ℕ) (size : ℕ) (l : length new ≡ 64) (k : 64 ≤ n) (b : n ≤ length new) where
  head_is : (bytes : List ℕ) → IsFilled (Bytes bytes) before now 0 new n → new ≡ take 64 bytes
  head_is bytes f =
      let same : n ≡ 64 = omega arith in
      let all : take n new ≡ new = take_all n new (omega arith) in
      sym all ∙ f.1 ∙ ap (λ (m : ℕ). take m bytes) same

  -- a header that names a table
  pub head_ok : (held : Holding) (t : TableAt) → IsOfSize held size → IsFilled held before now 0 new n
      → table_of new size ≡ Ok (record { place = t.place; count = t.count }) → IsTable held t
  head_ok Untold t h f e = tt
  head_ok Absent t h f e = tt
  head_ok (Bytes bytes) t h f e = ap (λ (x : List ℕ). table_of x (length bytes)) (sym (head_is bytes f)) ∙ ap (table_of new) (sym h) ∙ e

  -- a header that is refused
  pub head_err : (held : Holding) (why : DumpRefusal) → IsOfSize held size → IsFilled held before now 0 new n → table_of new size ≡ Err why
      → IsRefusal held why
  head_err Untold why h f e = tt
  head_err Absent why h f e = h
  head_err (Bytes bytes) why h f e = ap (dump_by bytes) (ap (λ (x : List ℕ). table_of x (length bytes)) (sym (head_is bytes f))
      ∙ ap (table_of new) (sym h) ∙ e)
