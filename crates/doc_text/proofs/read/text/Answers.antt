use Rattle.doc_text.proofs.Reading.{no_text, with_text}
use Rattle.doc_text.proofs.read.text.Goals as goal

pub returns-in-None : goal.returns-in-None
returns-in-None c = λ t a. no_text c.args.tape.now t (c.in-None.ensures.member t a)

pub returns-in-Some : goal.returns-in-Some
returns-in-Some c = λ t a. with_text c.args.tape.now t c.in-Some.node c.string_text.result (c.in-Some.ensures.member t a) (λ u b. c.string_text.ensures u b)
