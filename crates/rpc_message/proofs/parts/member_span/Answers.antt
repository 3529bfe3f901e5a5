use Rattle.std.specs.Str.{chars}
use Rattle.json_span.specs.json_nodes.specs.Values.{doc_of}
use Rattle.json_span.specs.json_nodes.specs.Doc.{Doc}
use Rattle.rpc_message.proofs.Standing.{placed, not_placed}
use Rattle.rpc_message.proofs.parts.member_span.Goals as goal

pub returns-in-Some : goal.returns-in-Some
returns-in-Some c = λ j h.
    let doc : Doc = doc_of c.args.values in
    placed (chars c.args.name.now) doc j c.root_member.result c.in-Some.node c.span.result h (c.root_member.ensures.member j h) c.in-Some.is
    (λ t a. c.span.ensures.span t a)

pub returns-in-None : goal.returns-in-None
returns-in-None c = λ j h.
    let doc : Doc = doc_of c.args.values in
    not_placed (chars c.args.name.now) doc j c.root_member.result h (c.root_member.ensures.member j h) c.in-None.is
