use Rattle.std.proofs.Common.{◌++◌, sym, ◌∙◌, append-nil, false}
use Rattle.json_text.specs.declared.span.Span.{Span}
use Rattle.json_text.specs.Json.{array}
use Rattle.json_nodes.specs.At.{At}
use Rattle.capability_meet.specs.OnePass.{items_met}
use Rattle.capability_meet.specs.Parts.{listed}
use Rattle.json_nodes.specs.Values.{doc_of}
use Rattle.capability_meet.proofs.Walks.{items_go, items_done}
use Rattle.capability_meet.proofs.written.write_items.Goals as goal

pub loop-next-preserved : goal.loop-next-preserved
loop-next-preserved c =
    items_go (doc_of c.args.left) c.args.node (λ ks. (r : Span) × At (doc_of c.args.right.now.values) c.args.right.now.node (array r ks)) _ (λ ks js. c.loop-next.out.items ++ listed c.loop-next.started (items_met c.args.left.bytes.now js ks)) (λ ks js. c.write_item.new.out.items ++ listed c.in_ok-started.started (items_met c.args.left.bytes.now js ks))
    c.loop-next.next c.next-next.result c.in-Some.item c.loop-next.invariant c.in-Some.is
    (λ k n t u a. c.next-next.ensures.next k n t u a) c.next-next.ensures.inside
    (λ ks k u rest m. sym (c.in_ok-started.ensures k.0 u rest ks m k.1))

pub returns : goal.returns
returns c = λ s r js ks a b. sym (append-nil c.loop-next.out.items) ∙ items_done (doc_of c.args.left) c.args.node (λ ks. (r : Span) × At (doc_of c.args.right.now.values) c.args.right.now.node (array r ks)) (λ ks js. c.args.out.now.items ++ listed false (items_met c.args.left.bytes.now js ks)) (λ ks js. c.loop-next.out.items ++ listed c.loop-next.started (items_met c.args.left.bytes.now js ks)) c.loop-next.next c.loop-next.invariant c.in_default.is ks (r, b) s js a
