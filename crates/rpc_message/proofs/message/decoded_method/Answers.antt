use Rattle.json_span.specs.json_nodes.specs.Values.{doc_of}
use Rattle.json_span.specs.json_nodes.specs.Doc.{Doc}
use Rattle.rpc_message.proofs.Reading.{method_inside, method_named}
use Rattle.rpc_message.proofs.message.decoded_method.Goals as goal

pub text-requires : goal.text-requires
text-requires c =
    let doc : Doc = doc_of c.args.values in
    method_inside doc c.args.envelope c.in-Request.method c.requires.0 c.in-Request.is c.requires.1

pub returns-in_ok-text-in-Request : goal.returns-in_ok-text-in-Request
returns-in_ok-text-in-Request c =
    let doc : Doc = doc_of c.args.values in
    method_named doc c.args.envelope c.in-Request.method c.in_ok-text-in-Request.field-0 c.in-Request.is c.in_ok-text-in-Request.ensures
