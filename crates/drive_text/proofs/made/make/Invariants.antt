use Rattle.std.proofs.Common.{◌≡◌, map, take}
use Rattle.drive_text.specs.Spellings.{spelled}
use Rattle.drive_text.proofs.made.make.Given as goal

abbrev pub invariant-loop-cause : goal.invariant-loop-cause
invariant-loop-cause l = l.lines.items ≡ map spelled (take l.cause-index l.cause-items)
