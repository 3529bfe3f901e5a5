use Rattle.std.proofs.Common.{ap, not, ◌∙◌}
use Rattle.json_text.specs.Json.{object}
use Rattle.json_nodes.specs.Values.{doc_of}
use Rattle.json_nodes.proofs.ByName.{is_last, number_is}
use Rattle.json_nodes.proofs.index.Indexed.is_last.Goals as goal

pub returns-in-Some : goal.returns-in-Some
returns-in-Some c = λ n s u ms cs a h. c.is_number.ensures ∙ is_last (doc_of c.args.self.now.values) c.args.self.now.node n c.args.member s u ms cs c.in-Some.found a h
    (number_is (doc_of c.args.self.now.values) c.args.self.now.node s ms cs c.args.self.now.last c.kept.result c.in-Some.found c.requires.indexed c.in-Some.is (c.kept.ensures cs (c.name.ensures.spelled c.args.self.now.node n (object s ms) u cs a h)) a.parent)

pub returns-in-None : goal.returns-in-None
returns-in-None c = λ n s u ms cs a h. ap not (c.is_named_again.ensures c.args.self.now.node n s u ms cs a h (c.next.ensures.next c.args.self.now.node n (object s ms) u a))
