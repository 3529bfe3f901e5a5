use Rattle.json_span.proofs.tape.Tape.within.Goals as goal

pub returns-clause-same : goal.returns-clause-same
returns-clause-same c = rw (← c.values.ensures.same) c.within.ensures.same
