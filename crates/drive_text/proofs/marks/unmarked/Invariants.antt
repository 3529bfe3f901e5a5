use Rattle.std.proofs.Common.{◌≡◌, false, ◌++◌, drop, option_map}
use Rattle.drive_text.specs.Marks.{body_from}
use Rattle.drive_text.proofs.marks.unmarked.Given as goal

abbrev pub invariant-loop-byte : goal.invariant-loop-byte
invariant-loop-byte l = body_from false l.text ≡ option_map (λ rest. l.bytes.items ++ rest) (body_from l.in_mark (drop l.byte-index l.text))
