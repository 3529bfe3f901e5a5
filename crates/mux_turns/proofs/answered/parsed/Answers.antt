-- A text that writes a number.
use Rattle.mux_turns.proofs.Numbers.{parsed_err, parsed_ok}
use Rattle.mux_turns.proofs.answered.parsed.Goals as goal

pub returns-in-Ok-clause-number : goal.returns-in-Ok-clause-number
returns-in-Ok-clause-number c = λ n h is. parsed_ok n c.in-Ok.n c.args.text.now c.parse.result h is c.parse.ensures.value.0 c.in-Ok.is

pub returns-in-Err-clause-number : goal.returns-in-Err-clause-number
returns-in-Err-clause-number c = λ n h is. parsed_err n _ c.args.text.now c.parse.result h is c.parse.ensures.value.0 c.in-Err.is
