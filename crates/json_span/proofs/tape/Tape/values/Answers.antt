use Rattle.json_span.proofs.tape.Tape.values.Goals as goal

pub returns-clause-text : goal.returns-clause-text
returns-clause-text c = rw (← c.self.view_is) c.self.invariant
