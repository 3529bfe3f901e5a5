use Rattle.std.proofs.Common.{false, ◌&&◌, sym, ◌∙◌, ap}
use Rattle.json_text.specs.declared.span.Span.{Span}
use Rattle.json_text.specs.Json.{array}
use Rattle.json_nodes.specs.At.{At}
use Rattle.capability_meet.specs.Order.{items_below}
use Rattle.json_nodes.specs.Values.{doc_of}
use Rattle.capability_meet.proofs.Equals.{some_next}
use Rattle.capability_meet.proofs.Walks.{items_go, items_stop, items_done}
use Rattle.capability_meet.proofs.order.items_among.Goals as goal

pub returns-then-not-is_beside_or_among : goal.returns-then-not-is_beside_or_among
returns-then-not-is_beside_or_among c = λ s r js ks a b.
    items_stop (doc_of c.args.left) c.args.node (λ ks. (r : Span) × At (doc_of c.args.right.now.values) c.args.right.now.node (array r ks)) (λ ks js. items_below js ks) (λ ks js. items_below js ks) c.loop-next.next c.in-Some.item false c.loop-next.invariant.0 c.in-Some.is
    (λ ks k u rest m. let p = c.loop-next.invariant.1.place k.0 ks k.1 in ap (λ v. v && items_below rest ks) (sym (c.is_beside_or_among.ensures u k.0 ks p.0 m k.1 p.1) ∙ c.if-not-is_beside_or_among.true)) ks (r, b) s js a

pub loop-next-preserved : goal.loop-next-preserved
loop-next-preserved c = (
  items_go (doc_of c.args.left) c.args.node (λ ks. (r : Span) × At (doc_of c.args.right.now.values) c.args.right.now.node (array r ks)) (λ ks js. items_below js ks) (λ ks js. items_below js ks) (λ ks js. items_below js ks) c.loop-next.next c.next-next.result c.in-Some.item c.loop-next.invariant.0 c.in-Some.is
      (λ k n t u a. c.next-next.ensures.next k n t u a) c.next-next.ensures.inside
      (λ ks k u rest m. let p = c.loop-next.invariant.1.place k.0 ks k.1 in ap (λ v. v && items_below rest ks) (sym (c.is_beside_or_among.ensures u k.0 ks p.0 m k.1 p.1) ∙ c.if-not-is_beside_or_among.false)),
  some_next (doc_of c.args.right.now.values) c.args.right.now.node c.loop-next.beside c.maybe_next-beside.result c.loop-next.invariant.1 (λ k n s js. c.maybe_next-beside.ensures.next k n (array s js)) c.maybe_next-beside.ensures.inside,
)

pub returns : goal.returns
returns c = λ s r js ks a b. items_done (doc_of c.args.left) c.args.node (λ ks. (r : Span) × At (doc_of c.args.right.now.values) c.args.right.now.node (array r ks)) (λ ks js. items_below js ks) (λ ks js. items_below js ks) c.loop-next.next c.loop-next.invariant.0 c.in_default.is ks (r, b) s js a
