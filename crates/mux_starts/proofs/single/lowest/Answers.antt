-- The first of a list.
use Rattle.std.proofs.Common.{◌∙◌}
use Rattle.mux_starts.proofs.Singles.{first_there}
use Rattle.mux_starts.proofs.single.lowest.Goals as goal

pub returns : goal.returns
returns c = c.copied.ensures ∙ (c.first.ensures.value ∙ first_there c.args.numbers.now)
