use Rattle.json_text.specs.Json.{array}
use Rattle.capability_meet.proofs.Lists.{at_indexed_array}
use Rattle.capability_meet.proofs.order.items_below.Goals as goal

pub returns : goal.returns
returns c = λ s r js ks a b. c.items_among.ensures s r js ks a (at_indexed_array c.new-right.result c.args.right c.args.other (array r ks) c.new-right.ensures.values c.new-right.ensures.node b)
