use Rattle.std.proofs.Common.{◌∙◌, None, Some}
use Rattle.doc_text.proofs.Reading.{no_range, with_range}
use Rattle.doc_text.proofs.read.extent.Goals as goal

pub returns-in_err-part-in-Some : goal.returns-in_err-part-in-Some
returns-in_err-part-in-Some c = λ t a. c.from_residual.ensures ∙ with_range c.args.tape.now t c.in-Some.node None (c.in-Some.ensures.member t a) (λ u b. c.in_err-part-in-Some.ensures u b)

pub returns-in-None : goal.returns-in-None
returns-in-None c = λ t a. no_range c.args.tape.now t (c.in-None.ensures.member t a)

pub returns-in_ok-part-in-Some : goal.returns-in_ok-part-in-Some
returns-in_ok-part-in-Some c = λ t a. with_range c.args.tape.now t c.in-Some.node (Some c.in_ok-part-in-Some.part) (c.in-Some.ensures.member t a) (λ u b. c.in_ok-part-in-Some.ensures u b)
