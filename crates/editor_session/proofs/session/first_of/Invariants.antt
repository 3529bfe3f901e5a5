use Rattle.std.proofs.Common.{◌≡◌}
use Rattle.editor_session.specs.Sessions.{first_of}
use Rattle.editor_session.proofs.session.first_of.Given as goal

abbrev pub invariant-loop-number : goal.invariant-loop-number
invariant-loop-number l = first_of l.number-iterator ≡ first_of l.numbers.keys
