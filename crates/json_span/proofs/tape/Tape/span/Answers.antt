use Rattle.json_span.proofs.Tapes.{span_inside}
use Rattle.json_span.proofs.tape.Tape.span.Goals as goal

pub returns-clause-span : goal.returns-clause-span
returns-clause-span c = rw (← c.values.ensures.same) c.span.ensures.span

pub returns-clause-text : goal.returns-clause-text
returns-clause-text c = rw (← c.values.ensures.same) c.span.ensures.text

pub returns-clause-inside : goal.returns-clause-inside
returns-clause-inside c = span_inside c.args.self.now c.values.ensures.text.0 c.args.node c.span.result c.values.ensures.text.1 c.requires (returns-clause-span c)
