use Rattle.json_nodes.specs.Values.{doc_of}
use Rattle.capability_meet.proofs.Names.{name_law}
use Rattle.diagnostics_route.proofs.without.name_place.Goals as goal

pub returns : goal.returns
returns c = λ k n s p ms rest cs u a h. name_law (doc_of c.args.values) k n c.args.node s p ms rest cs u _ a h
