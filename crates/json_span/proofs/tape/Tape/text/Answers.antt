use Rattle.json_span.proofs.tape.Tape.text.Goals as goal

pub returns : goal.returns
returns c = rw (← c.values.ensures.same) c.text.ensures
