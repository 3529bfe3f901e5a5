use Rattle.json_span.proofs.tape.Tape.next.Goals as goal

pub returns-clause-next : goal.returns-clause-next
returns-clause-next c = rw (← c.values.ensures.same) c.next.ensures.next

pub returns-clause-root : goal.returns-clause-root
returns-clause-root c = rw (← c.values.ensures.same) c.next.ensures.root
