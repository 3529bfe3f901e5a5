use Rattle.json_text.specs.Named.{named_in}
use Rattle.std.specs.Str.{chars}
use Rattle.json_span.specs.json_nodes.specs.Values.{doc_of}
use Rattle.doc_text.proofs.Reading.{number_found}
use Rattle.doc_text.proofs.read.coordinate.Goals as goal

pub returns-in-Number : goal.returns-in-Number
returns-in-Number c = λ t a.
    number_found c.args.tape.now (doc_of c.values.result) (named_in (chars c.args.name.now) t) c.in_ok-node.node c.kind.result c.bytes.result.now c.unsigned.result c.in-Number.is
    c.values.ensures.same c.kind.ensures c.bytes.ensures.spelled c.unsigned.ensures (c.in_ok-node.ensures.member t a)
