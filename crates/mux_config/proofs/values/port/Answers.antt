use Rattle.std.proofs.Common.{◌≡◌, true, arith}
use Rattle.std.proofs.lemmas.Grind.{common_steps}
use Rattle.mux_config.specs.Settings.{is_numeral}
use Rattle.mux_config.proofs.Places.{port_none}
use Rattle.mux_config.proofs.values.port.Goals as goal

pub returns-in-Err : goal.returns-in-Err
returns-in-Err c =
    let numeral : is_numeral c.args.text.now ≡ true = grind (arith, common_steps) in
    port_none c.args.text.now c.parse.result c.in-Err._error c.parse.ensures.value.0 c.in-Err.is numeral
