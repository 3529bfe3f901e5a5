use Rattle.json_span.proofs.tape.Tape.kind.Goals as goal

pub returns : goal.returns
returns c = rw (← c.values.ensures.same) c.kind.ensures
