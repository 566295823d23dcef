use Rattle.std.proofs.Common.{◌≡◌, drop}
use Rattle.dump_file.specs.FilesInMemory.{held_of}
use Rattle.dump_file.proofs.files.find.Given as goal

-- no file so far had the name
abbrev pub invariant-loop-file : goal.invariant-loop-file
invariant-loop-file l = held_of (drop l.file-index l.files) l.name ≡ held_of l.files l.name
