use Rattle.std.proofs.Common.{◌∙◌, None, Some}
use Rattle.doc_text.proofs.Reading.{no_start, with_start}
use Rattle.doc_text.proofs.read.range.Goals as goal

pub returns-in_err-start : goal.returns-in_err-start
returns-in_err-start c = λ t a. c.from_residual.ensures ∙ no_start t (c.in_err-start.ensures t a)

pub returns-in_err-end : goal.returns-in_err-end
returns-in_err-end c = λ t a. c.from_residual-in_err-end.ensures ∙ with_start t c.in_ok-start.start None (c.in_ok-start.ensures t a) (c.in_err-end.ensures t a)

pub returns : goal.returns
returns c = λ t a. with_start t c.in_ok-start.start (Some c.in_ok-end.end) (c.in_ok-start.ensures t a) (c.in_ok-end.ensures t a)
