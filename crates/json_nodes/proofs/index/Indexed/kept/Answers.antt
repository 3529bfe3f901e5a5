use Rattle.json_nodes.proofs.ByName.{kept_in}
use Rattle.json_nodes.proofs.index.Indexed.kept.Goals as goal

pub returns-in-Some : goal.returns-in-Some
returns-in-Some c = λ cs h. kept_in c.args.self.now.last c.in-Some.last c.number_of.result cs c.in-Some.is (c.number_of.ensures cs h)
