use Rattle.json_nodes.proofs.Bounds.{root_inside}
use Rattle.json_nodes.proofs.Numbers.{root_at}
use Rattle.json_span.proofs.tape.Tape.root.Goals as goal

pub returns-clause-inside : goal.returns-clause-inside
returns-clause-inside c = rw (← c.self.view_is) (root_inside _ c.self.invariant.0 c.self.invariant.1)

pub returns-clause-text : goal.returns-clause-text
returns-clause-text c = rw (← c.self.view_is) c.self.invariant

pub returns-clause-value : goal.returns-clause-value
returns-clause-value c = root_at c.args.self.now
