use Rattle.json_span.proofs.tape.Tape.maybe_kind.Goals as goal

pub returns : goal.returns
returns c = rw (← c.values.ensures.same) c.maybe_kind.ensures
