use Rattle.std.proofs.Common.{arith, ◌∙◌}
use Rattle.lspmux_words.proofs.Spelled.{number_found, number_missed}
use Rattle.lspmux_words.proofs.number.number.Goals as goal

pub returns-in-Ok-clause-value : goal.returns-in-Ok-clause-value
returns-in-Ok-clause-value c =
    c.number_if.ensures.value ∙ number_found c.args.low c.args.high c.args.text.now c.parse.result (omega (arith, c.ranges.high.fits)) c.parse.ensures.value.0 c.in-Ok.number c.in-Ok.is

pub returns-in-Err-clause-value : goal.returns-in-Err-clause-value
returns-in-Err-clause-value c =
    number_missed c.args.low c.args.high c.args.text.now c.parse.result (omega (arith, c.ranges.high.fits)) c.parse.ensures.value.0 c.in-Err._error c.in-Err.is
