-- The request with an editor's own versions.
use Rattle.std.proofs.Common.{◌≡◌, ◌∙◌, subst}
use Rattle.std.specs.Prelude.{IfOk}
use Rattle.response_route.specs.Asked.{asked_text}
use Rattle.mux_starts.proofs.applied.edit_text.Goals as goal

pub returns : goal.returns
returns c = λ body r read means. subst (λ w. IfOk c.asked.result (λ text. text ≡ asked_text r body w)) (c.as_bytes.ensures.value ∙ c.format.ensures.text) (c.asked.ensures body r read means)
