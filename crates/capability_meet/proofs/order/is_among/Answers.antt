use Rattle.std.proofs.Common.{true, ◌||◌, sym, ◌∙◌, ap}
use Rattle.json_nodes.specs.At.{At}
use Rattle.capability_meet.specs.Order.{is_among}
use Rattle.json_nodes.specs.Values.{doc_of}
use Rattle.capability_meet.proofs.Walks.{items_go, items_stop, items_done}
use Rattle.capability_meet.proofs.order.is_among.Goals as goal

pub returns-then-same : goal.returns-then-same
returns-then-same c = λ t r ks a b.
    items_stop (doc_of c.args.right) c.args.other (λ t. At (doc_of c.args.left) c.args.node t) is_among is_among c.loop-next.next c.in-Some.item true c.loop-next.invariant c.in-Some.is
    (λ t a u rest m. ap (λ v. v || is_among t rest) (sym (c.same.ensures.test t u a m) ∙ c.if-same.true)) t a r ks b

pub loop-next-preserved : goal.loop-next-preserved
loop-next-preserved c =
    items_go (doc_of c.args.right) c.args.other (λ t. At (doc_of c.args.left) c.args.node t) is_among is_among is_among c.loop-next.next c.next-next.result c.in-Some.item c.loop-next.invariant c.in-Some.is
    (λ k n t u a. c.next-next.ensures.next k n t u a) c.next-next.ensures.inside
    (λ t a u rest m. ap (λ v. v || is_among t rest) (sym (c.same.ensures.test t u a m) ∙ c.if-same.false))

pub returns : goal.returns
returns c = λ t r ks a b. items_done (doc_of c.args.right) c.args.other (λ t. At (doc_of c.args.left) c.args.node t) is_among is_among c.loop-next.next c.loop-next.invariant c.in_default.is t a r ks b
