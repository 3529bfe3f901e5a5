use Rattle.std.proofs.Common.{◌≡◌, ◌++◌, take}
use Rattle.drive_text.specs.Marks.{text_of_body}
use Rattle.drive_text.proofs.marks.write_all_marked.Given as goal

abbrev pub invariant-loop-byte : goal.invariant-loop-byte
invariant-loop-byte l = l.text.items ≡ l.initial.text.items ++ text_of_body (take l.byte-index l.body)
