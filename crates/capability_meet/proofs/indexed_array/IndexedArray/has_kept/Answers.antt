use Rattle.capability_meet.proofs.Lists.{text_kept}
use Rattle.capability_meet.proofs.indexed_array.IndexedArray.has_kept.Goals as goal

pub returns-in-Some : goal.returns-in-Some
returns-in-Some c = λ t a. text_kept t c.args.self.now.texts c.in-Some.texts c.has_text.result c.in-Some.is (c.has_text.ensures t a)
