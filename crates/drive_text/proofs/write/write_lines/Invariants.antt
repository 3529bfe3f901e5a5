use Rattle.std.proofs.Common.{◌≡◌, ◌++◌, take}
use Rattle.drive_text.specs.Outs.{out_lines}
use Rattle.drive_text.proofs.write.write_lines.Given as goal

abbrev pub invariant-loop-out : goal.invariant-loop-out
invariant-loop-out l = l.text.items ≡ l.initial.text.items ++ out_lines (take l.out-index l.out-items)
