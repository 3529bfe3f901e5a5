use Rattle.std.proofs.Common.{◌∙◌}
use Rattle.std.specs.Str.{chars}
use Rattle.json_span.specs.json_nodes.specs.Values.{doc_of}
use Rattle.json_span.specs.json_nodes.specs.Doc.{Doc}
use Rattle.rpc_message.proofs.Standing.{member_part, no_member}
use Rattle.rpc_message.proofs.parts.member_bytes.Goals as goal

pub returns-in-Some : goal.returns-in-Some
returns-in-Some c = λ j h.
    let doc : Doc = doc_of c.args.values in
    member_part (chars c.args.name.now) doc j c.root_member.result c.in-Some.node c.bytes.result.now h (c.root_member.ensures.member j h) c.in-Some.is (λ t a. c.bytes.ensures.place t a)

pub returns-in-None : goal.returns-in-None
returns-in-None c = λ j h.
    let doc : Doc = doc_of c.args.values in
    c.as_bytes.ensures.value ∙ no_member (chars c.args.name.now) doc j c.root_member.result h (c.root_member.ensures.member j h) c.in-None.is
