use Rattle.std.proofs.Common.{Some}
use Rattle.json_text.specs.Json.{string}
use Rattle.json_nodes.specs.Values.{doc_of}
use Rattle.mux_members.proofs.Looks.{spells_name, spells_nothing}
use Rattle.mux_members.proofs.look.spells.Goals as goal

pub returns-in-Some : goal.returns-in-Some
returns-in-Some c = λ ascii s cs f.
    spells_name c.args.tape.now (doc_of c.values.result) c.args.node c.in-Some.node s cs c.args.name.now c.string.result.now c.spells_text.result ascii (c.in-Some.ensures.same (Some (string s cs)) f)
    c.values.ensures.same (λ s cs a. c.string.ensures.spelled s cs a) c.spells_text.ensures f

pub returns-in-None : goal.returns-in-None
returns-in-None c = λ ascii s cs f. absurd (spells_nothing c.args.tape.now c.args.node c.within.result (string s cs) c.in-None.is (c.within.ensures.same (Some (string s cs)) f) f)
