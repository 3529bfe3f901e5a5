use Rattle.std.proofs.Common.{◌∙◌}
use Rattle.json_nodes.proofs.values.Values.text.Goals as goal

pub returns : goal.returns
returns c = λ s cs a. c.new.ensures ∙ c.in_ok-text.ensures cs (c.string.ensures.spelled s cs a)
