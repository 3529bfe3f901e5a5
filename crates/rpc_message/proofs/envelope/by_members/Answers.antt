use Rattle.std.proofs.Common.{true, refl, sym}
use Rattle.json_span.specs.json_nodes.specs.Values.{doc_of}
use Rattle.json_span.specs.json_nodes.specs.Doc.{Doc}
use Rattle.rpc_message.proofs.Enveloped.{told_called, told_answered, made_called, made_answered}
use Rattle.rpc_message.proofs.envelope.by_members.Goals as goal

pub returns-in-Some-clause-tells : goal.returns-in-Some-clause-tells
returns-in-Some-clause-tells c = λ j a h.
    let doc : Doc = doc_of c.args.values in
    told_called doc j c.called.result true (sym h) refl c.in-Some.method c.member.result c.member-id.result c.member-in-Some.result
    (c.member.ensures.member j a) c.in-Some.is (c.member-id.ensures.member j a) (c.member-in-Some.ensures.member j a) (λ m i p f v x y z. c.called.ensures.tells m i p f v x y z)

pub returns-in-Some-clause-members : goal.returns-in-Some-clause-members
returns-in-Some-clause-members c = λ j a.
    let doc : Doc = doc_of c.args.values in
    made_called doc j c.called.result c.in-Some.method c.member.result c.member-id.result c.member-in-Some.result
    (c.member.ensures.member j a) c.in-Some.is (c.member-id.ensures.member j a) (c.member-in-Some.ensures.member j a) (λ m i p f v x y z. c.called.ensures.members m i p f v x y z)

pub returns-in-None-clause-tells : goal.returns-in-None-clause-tells
returns-in-None-clause-tells c = λ j a h.
    let doc : Doc = doc_of c.args.values in
    told_answered doc j c.answered.result true (sym h) refl c.member.result c.member-id.result c.member-in-None.result c.member-in-None-2.result
    (c.member.ensures.member j a) c.in-None.is (c.member-id.ensures.member j a) (c.member-in-None.ensures.member j a) (c.member-in-None-2.ensures.member j a) (λ i f v x y z. c.answered.ensures.tells i f v x y z)

pub returns-in-None-clause-members : goal.returns-in-None-clause-members
returns-in-None-clause-members c = λ j a.
    let doc : Doc = doc_of c.args.values in
    made_answered doc j c.answered.result c.member.result c.member-id.result c.member-in-None.result c.member-in-None-2.result
    (c.member.ensures.member j a) c.in-None.is (c.member-id.ensures.member j a) (c.member-in-None.ensures.member j a) (c.member-in-None-2.ensures.member j a) (λ i p f v x y z. c.answered.ensures.members i p f v x y z)
