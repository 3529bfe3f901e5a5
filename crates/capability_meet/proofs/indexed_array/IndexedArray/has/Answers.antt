use Rattle.json_nodes.specs.Values.{doc_of}
use Rattle.capability_meet.proofs.Lists.{kept_among}
use Rattle.capability_meet.proofs.indexed_array.IndexedArray.has.Goals as goal

pub returns-in-Some : goal.returns-in-Some
returns-in-Some c = λ t r ks a b. kept_among (doc_of c.args.self.now.values) c.args.self.now.node r ks t c.args.self.now.texts c.has_kept.result c.in-Some.answer c.requires.indexed b c.in-Some.is (c.has_kept.ensures t a)
