-- What files in memory hold.
use Rattle.std.specs.Prelude.{ℕ, List, [], ◌∷◌, string_bytes, bytes_eq, if◌then◌else◌}
use Rattle.dump_file.specs.Held.{Holding, Absent, Bytes}
use Rattle.dump_file.specs.declared.files.MemoryFile.{MemoryFile}

-- the bytes of the first file of that name
abbrev pub held_of : List MemoryFile → List ℕ → Holding
held_of [] name = Absent
held_of (file ∷ files) name = if bytes_eq (string_bytes file.name) name then Bytes file.bytes.items else held_of files name
