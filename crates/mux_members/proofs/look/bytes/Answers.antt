use Rattle.std.proofs.Common.{Some}
use Rattle.json_nodes.specs.Values.{doc_of}
use Rattle.mux_members.proofs.Looks.{value_found, spells_nothing}
use Rattle.mux_members.proofs.look.bytes.Goals as goal

pub returns-in-Some : goal.returns-in-Some
returns-in-Some c = λ t f.
    value_found c.args.tape.now (doc_of c.values.result) c.args.node c.in-Some.node t c.bytes.result.now (c.in-Some.ensures.same (Some t) f) c.values.ensures.same c.bytes.ensures.spelled f

pub returns-in-None : goal.returns-in-None
returns-in-None c = λ t f. absurd (spells_nothing c.args.tape.now c.args.node c.within.result t c.in-None.is (c.within.ensures.same (Some t) f) f)
