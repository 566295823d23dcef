-- What an image and a dump say as supplies of words.
use Rattle.std.specs.Prelude.{ℕ, ◌≡◌, ◌≤◌, ◌<◌, List, Some, None}
use Rattle.bitwords.specs.Causes.{Rose}
use Rattle.table_reads.specs.Memory.{Told}
use Rattle.dump_file.specs.Held.{Holding, Untold, Absent, Bytes}
use Rattle.dump_file.specs.DumpOf.{dump_word}
use Rattle.dump_file.specs.declared.dump.Segment.{Segment}
use Rattle.answers.specs.Image.{image_word}

-- the memory that a file stands for as an image, where its bytes are told
abbrev pub image_memory : Holding → Told
image_memory Untold = None
image_memory Absent = Some (λ _. None)
image_memory (Bytes bytes) = Some (image_word bytes)

-- the memory that it stands for as a dump with these segments, where its bytes are told
abbrev pub dump_memory : Holding → List Segment → Told
dump_memory Untold segments = None
dump_memory Absent segments = None
dump_memory (Bytes bytes) segments = Some (dump_word bytes segments)

-- what words that are read of one file keep, where m and n count the failed reads before and after: the files hold the
-- same, the file's counts do not fall, and its faults rose where a read failed
pub record Keeps {F : Type 0} (holds : F → List ℕ → Holding) (faults missing : F → List ℕ → ℕ) (name : List ℕ) (s t : F)
    (m n : ℕ) : Type 0 where
  pub held : holds t ≡ holds s
  pub later : faults s name ≤ faults t name
  pub ended : missing s name ≤ missing t name
  pub failed : m < n → Rose (faults s name) (faults t name)

-- the same of a file and files that are borrowed under a name, both of which stay
pub record KeepsLoan {F N : Type 0} (holds : F → List ℕ → Holding) (faults missing : F → List ℕ → ℕ) (x y : N) (before after : List ℕ) (s t : F)
    (m n : ℕ) : Type 0 where
  pub loan : y ≡ x
  pub name : after ≡ before
  pub keeps : Keeps holds faults missing before s t m n
