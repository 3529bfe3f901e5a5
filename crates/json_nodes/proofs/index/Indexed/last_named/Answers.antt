use Rattle.std.proofs.Common.{subst, sym}
use Rattle.json_text.specs.Json.{object}
use Rattle.json_text.specs.Named.{named}
use Rattle.json_nodes.specs.At.{Found}
use Rattle.json_nodes.specs.Values.{doc_of}
use Rattle.json_nodes.proofs.ByName.{found_last, number_is}
use Rattle.json_nodes.proofs.index.Indexed.last_named.Goals as goal

pub returns-in-Some-clause-named : goal.returns-in-Some-clause-named
returns-in-Some-clause-named c = λ s ms cs a h.
    let found = found_last (doc_of c.args.self.now.values) c.args.self.now.node s ms cs c.in-Some.found a (number_is (doc_of c.args.self.now.values) c.args.self.now.node s ms cs c.args.self.now.last c.kept.result c.in-Some.found c.requires.indexed c.in-Some.is (c.kept.ensures cs h) a) in
    subst (λ o. Found (doc_of c.args.self.now.values) (named cs ms) o) (sym (c.within.ensures.same (named cs ms) found)) found

pub returns-in-None-clause-named : goal.returns-in-None-clause-named
returns-in-None-clause-named c = λ s ms cs a h. c.last_spelled.ensures.named c.args.self.now.node 0 s ms cs h (c.first.ensures.first (object s ms) a)
