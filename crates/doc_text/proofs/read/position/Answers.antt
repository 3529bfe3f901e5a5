use Rattle.std.proofs.Common.{◌∙◌, None, Some}
use Rattle.doc_text.proofs.Reading.{no_line, with_line}
use Rattle.doc_text.proofs.read.position.Goals as goal

pub returns-in_err-line : goal.returns-in_err-line
returns-in_err-line c = λ t a. c.from_residual.ensures ∙ no_line t (c.in_err-line.ensures t a)

pub returns-in_err-character : goal.returns-in_err-character
returns-in_err-character c = λ t a. c.from_residual-in_err-character.ensures ∙ with_line t c.in_ok-line.line None (c.in_ok-line.ensures t a) (c.in_err-character.ensures t a)

pub returns : goal.returns
returns c = λ t a. with_line t c.in_ok-line.line (Some c.in_ok-character.character) (c.in_ok-line.ensures t a) (c.in_ok-character.ensures t a)
