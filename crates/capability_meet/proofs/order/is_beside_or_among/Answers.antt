use Rattle.json_nodes.specs.Values.{doc_of}
use Rattle.capability_meet.proofs.Equals.{beside_among}
use Rattle.capability_meet.proofs.order.is_beside_or_among.Goals as goal

pub returns-then-same : goal.returns-then-same
returns-then-same c = λ t r ks n a b f. beside_among (doc_of c.args.right.now.values) c.args.right.now.node n c.in-Some.item t r ks c.args.beside c.same.result c.in-Some.is f (λ u h. c.same.ensures.test t u a h) c.if-same.true

pub returns : goal.returns
returns c = λ t r ks n a b f. c.has.ensures t r ks a b
