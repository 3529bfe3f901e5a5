use Rattle.std.proofs.Common.{codes}
use Rattle.std.specs.Str.{chars}
use Rattle.json_text.specs.Named.{named_in}
use Rattle.json_span.specs.json_nodes.specs.Values.{doc_of}
use Rattle.json_span.specs.json_nodes.specs.Doc.{Doc}
use Rattle.rpc_message.proofs.Enveloped.{both_tests, first_fails, not_enveloped}
use Rattle.rpc_message.proofs.envelope.is_enveloped.Goals as goal

pub returns-then-once : goal.returns-then-once
returns-then-once c = λ j a.
    let doc : Doc = doc_of c.args.values in
    both_tests doc j c.kind.result c.in_ok-once-in-Object.once c.in-Object.is (c.kind.ensures j a) a (λ s ms b. c.in_ok-once-in-Object.ensures s ms b) c.is_two.result c.if-once.true
    (c.is_two.ensures (named_in (chars (codes "jsonrpc")) j) (c.member.ensures.member j a))

pub returns-else-once : goal.returns-else-once
returns-else-once c = λ j a.
    let doc : Doc = doc_of c.args.values in
    first_fails doc j c.kind.result c.in_ok-once-in-Object.once c.in-Object.is (c.kind.ensures j a) a (λ s ms b. c.in_ok-once-in-Object.ensures s ms b) c.if-once.false

pub returns-in_default : goal.returns-in_default
returns-in_default c = λ j a. not_enveloped j c.kind.result c.in_default.not-Object (c.kind.ensures j a)
