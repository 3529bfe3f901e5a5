use Rattle.json_span.proofs.tape.Tape.maybe_member.Goals as goal

pub returns-clause-member : goal.returns-clause-member
returns-clause-member c = rw (← c.values.ensures.same) c.maybe_member.ensures.member
