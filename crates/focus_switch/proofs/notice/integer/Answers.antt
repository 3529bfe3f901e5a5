use Rattle.std.proofs.Common.{subst}
use Rattle.json_nodes.specs.At.{Found}
use Rattle.json_nodes.specs.Values.{doc_of}
use Rattle.focus_switch.proofs.Noticed.{integer_found}
use Rattle.focus_switch.proofs.notice.integer.Goals as goal

pub returns-in-Number : goal.returns-in-Number
returns-in-Number c = λ o f.
    integer_found c.args.tape.now (doc_of c.values.result) o c.in-Some.node c.kind.result c.bytes.result.now c.whole.result c.in-Number.is
    c.values.ensures.same c.kind.ensures c.bytes.ensures.spelled c.whole.ensures (subst (λ z. Found c.args.tape.now o z) c.in-Some.is f)
