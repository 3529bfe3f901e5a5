use Rattle.std.proofs.Common.{ap, ◌∙◌}
use Rattle.std.specs.Ordering.{nat_cmp}
use Rattle.std.specs.Cmp.Lexicographic.{slice_cmp}
use Rattle.std.specs.BTreeMap.{get_by}
use Rattle.json_nodes.proofs.index.number_of.Goals as goal

pub returns : goal.returns
returns c = λ cs h. c.copied.ensures ∙ c.get.ensures.value ∙ ap (λ bs. get_by (λ name. slice_cmp nat_cmp bs name.items) c.args.last.now) (c.as_slice.ensures.value ∙ c.in-Ok.ensures cs h)
