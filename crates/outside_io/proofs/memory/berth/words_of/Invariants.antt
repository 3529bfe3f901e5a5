use Rattle.std.proofs.Common.{◌≡◌, ◌++◌, map, drop, string_bytes}
use Rattle.outside_io.proofs.memory.berth.words_of.Given as goal

abbrev pub invariant-loop-word : goal.invariant-loop-word
invariant-loop-word l = map string_bytes l.copies.items ++ map string_bytes (drop l.word-index l.words) ≡ map string_bytes l.words
