use Rattle.json_span.specs.json_nodes.specs.Values.{doc_of}
use Rattle.json_span.specs.json_nodes.specs.At.{Found}
use Rattle.json_span.specs.json_nodes.specs.Doc.{Doc}
use Rattle.std.proofs.Common.{subst}
use Rattle.rpc_message.proofs.KindTests.{text_two}
use Rattle.rpc_message.proofs.envelope.is_two.Goals as goal

pub returns-in-Text : goal.returns-in-Text
returns-in-Text c = λ o f.
    let doc : Doc = doc_of c.args.values in
    text_two doc o c.in-Some.node c.kind.result c.spells_text.result c.string.result.now c.in-Text.is (λ t a. c.kind.ensures t a) (λ s cs a. c.string.ensures.spelled s cs a) c.spells_text.ensures
    (subst (λ z. Found doc o z) c.in-Some.is f)
