-- Bytes that write a number.
use Rattle.mux_turns.proofs.Numbers.{number_utf8}
use Rattle.mux_turns.proofs.answered.read.Goals as goal

pub returns-in-Err-clause-number : goal.returns-in-Err-clause-number
returns-in-Err-clause-number c = λ n h is. absurd (c.in-Err.ensures.cases.0 (number_utf8 c.args.bytes.now n h is))
