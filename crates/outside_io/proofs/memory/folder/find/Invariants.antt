use Rattle.std.proofs.Common.{◌≡◌, map, drop}
use Rattle.outside_io.specs.Files.{bytes_at, file_of}
use Rattle.outside_io.proofs.memory.folder.find.Given as goal

abbrev pub invariant-loop-name : goal.invariant-loop-name
invariant-loop-name l = bytes_at l.path (map file_of l.files) ≡ bytes_at l.path (map file_of (drop l.name-index l.files))
