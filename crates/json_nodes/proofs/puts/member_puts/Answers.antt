use Rattle.json_nodes.specs.Values.{doc_of}
use Rattle.json_nodes.specs.Doc.{Doc}
use Rattle.json_nodes.specs.Puts.{text_for}
use Rattle.json_nodes.proofs.Putting.{putting_on, putting_ends}
use Rattle.json_nodes.proofs.puts.member_puts.Goals as goal

pub loop-next-preserved : goal.loop-next-preserved
loop-next-preserved c =
    let doc : Doc = doc_of c.args.values in
    putting_on (text_for c.args.puts.now) doc c.args.node c.in-Some.member c.loop-next.next c.next-next.result c.loop-next.changes.items c.add_put.new.changes.items c.loop-next.invariant c.in-Some.is
    (λ k n s ms u h. c.in_ok-add_put.ensures k n s ms u h) (λ k n t u a. c.next-next.ensures.next k n t u a) c.next-next.ensures.inside

pub returns : goal.returns
returns c = λ s ms a. putting_ends (text_for c.args.puts.now) (doc_of c.args.values) c.args.node s ms c.loop-next.next c.loop-next.changes.items c.loop-next.invariant c.in_default.is a
