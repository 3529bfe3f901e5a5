use Rattle.std.proofs.Common.{◌≡◌, drop}
use Rattle.drive_text.specs.Numbers.{digits_from}
use Rattle.drive_text.proofs.read.number_of.Given as goal

abbrev pub invariant-loop-digit : goal.invariant-loop-digit
invariant-loop-digit l = digits_from 0 l.text ≡ digits_from l.number (drop l.digit-index l.text)
