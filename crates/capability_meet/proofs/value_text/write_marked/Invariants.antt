use Rattle.std.proofs.Common.{◌≡◌, ◌++◌, drop}
use Rattle.capability_meet.specs.ValueText.{marked}
use Rattle.capability_meet.proofs.value_text.write_marked.Given as goal

abbrev pub invariant-loop-byte : goal.invariant-loop-byte
invariant-loop-byte l = l.out.items ++ marked (drop l.byte-index l.bytes) ≡ l.initial.out.items ++ marked l.bytes
