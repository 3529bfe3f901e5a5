use Rattle.std.proofs.Common.{subst, sym}
use Rattle.json_nodes.specs.At.{At}
use Rattle.json_nodes.specs.Doc.{Doc}
use Rattle.capability_meet.proofs.Equals.{bares_below}
use Rattle.capability_meet.proofs.order.below.Goals as goal

pub returns-then-same_bytes : goal.returns-then-same_bytes
returns-then-same_bytes c = λ t u a b.
    bares_below t u c.same_bytes.result (c.same_bytes.ensures.says t u (subst (λ (d : Doc). At d c.args.x t) (sym c.values-left.ensures.same) a) (subst (λ (d : Doc). At d c.args.y u) (sym c.values-right.ensures.same) b) c.if-same_bytes.true) c.if-same_bytes.true
