-- What an editor is shown of the last list of a document.
use Rattle.std.proofs.Common.{ap, ◌∙◌}
use Rattle.std.specs.Option.{option_and_then}
use Rattle.std.proofs.lemmas.Result.{IfOk-weaker}
use Rattle.mux_editors.specs.Shows.{full_text}
use Rattle.mux_editors.proofs.shows.last_text.Goals as goal

pub returns-in-None : goal.returns-in-None
returns-in-None c = λ settings events x here ready k. ap (option_and_then (full_text settings x.life.start c.args.e events)) (c.in-None.ensures settings events x here ready k.0)

pub returns-in-Some : goal.returns-in-Some
returns-in-Some c = λ settings events x here ready k. IfOk-weaker c.full_text.result _ _
    (λ text is. is ∙ ap (option_and_then (full_text settings x.life.start c.args.e events)) (c.in-Some.ensures settings events x here ready k.0)) (c.full_text.ensures settings events x here ready k)
