use Rattle.mux_config.proofs.Places.{stripped}
use Rattle.mux_config.proofs.values.behind.Goals as goal

pub returns : goal.returns
returns c = stripped c.args.prefix.now c.args.text.now c.strip_prefix.result c.strip_prefix.ensures.cases
