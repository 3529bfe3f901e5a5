use Rattle.std.specs.Str.{chars}
use Rattle.json_nodes.specs.Values.{doc_of}
use Rattle.json_nodes.specs.Doc.{Doc}
use Rattle.json_nodes.proofs.Members.{walking_found, walking_on, walking_ends}
use Rattle.json_nodes.proofs.member.last_named.Goals as goal
use Rattle.json_nodes.proofs.member.last_named.Goals.{then-is_named, else-is_named}

pub loop-next-preserved : goal.loop-next-preserved
loop-next-preserved c =
    let cs = chars c.args.name.now in
    let doc : Doc = doc_of c.args.values in
    elim c.if-is_named.branch [
      | then-is_named w ↦ walking_found cs doc c.args.node c.in-Some.member c.loop-next.next c.next-next.result c.loop-next.found c.if-is_named.found c.is_named.result c.loop-next.invariant c.in-Some.is w.if-is_named.true w.found-is c.is_named.ensures (λ k n t u a. c.next-next.ensures.next k n t u a) c.next-next.ensures.inside
      | else-is_named w ↦ walking_on cs doc c.args.node c.in-Some.member c.loop-next.next c.next-next.result c.loop-next.found c.if-is_named.found c.is_named.result c.loop-next.invariant c.in-Some.is w.if-is_named.false w.found-is c.is_named.ensures (λ k n t u a. c.next-next.ensures.next k n t u a) c.next-next.ensures.inside
    ]

pub returns-clause-member : goal.returns-clause-member
returns-clause-member c = λ s ms a. walking_ends (chars c.args.name.now) (doc_of c.args.values) c.args.node s ms c.loop-next.next c.loop-next.found c.loop-next.invariant c.in_default.is a
