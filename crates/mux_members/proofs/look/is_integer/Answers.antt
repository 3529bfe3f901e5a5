use Rattle.mux_members.proofs.Looks.{integer_found}
use Rattle.json_nodes.specs.Values.{doc_of}
use Rattle.mux_members.proofs.look.is_integer.Goals as goal

pub returns-in-Number : goal.returns-in-Number
returns-in-Number c = λ o f.
    integer_found c.args.tape.now (doc_of c.values.result) o c.args.node c.in-Some.node c.kind.result c.bytes.result.now c.is_integer.result c.in-Number.is (c.in-Some.ensures.same o f)
    c.values.ensures.same c.kind.ensures c.bytes.ensures.spelled c.is_integer.ensures f
