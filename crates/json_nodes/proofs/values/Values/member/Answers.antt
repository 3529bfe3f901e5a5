use Rattle.std.specs.Str.{chars}
use Rattle.std.proofs.Common.{subst}
use Rattle.json_text.specs.Json.{Json}
use Rattle.json_nodes.specs.Values.{doc_of}
use Rattle.json_nodes.specs.At.{At}
use Rattle.json_nodes.specs.Doc.{Doc}
use Rattle.json_nodes.proofs.Members.{of_object, of_other}
use Rattle.json_nodes.proofs.values.Values.member.Goals as goal

pub returns-in-Object-clause-member : goal.returns-in-Object-clause-member
returns-in-Object-clause-member c = λ t a.
    let doc : Doc = doc_of c.args.self in
    of_object (chars c.args.name.now) doc c.last_named.result c.kind.result t c.in-Object.is (c.kind.ensures t a) (λ s ms e. c.last_named.ensures.member s ms (subst (λ (u : Json). At doc c.args.node u) e a))

pub returns-in_default-clause-member : goal.returns-in_default-clause-member
returns-in_default-clause-member c = λ t a. of_other (chars c.args.name.now) (doc_of c.args.self) c.kind.result t c.in_default.not-Object (c.kind.ensures t a)
