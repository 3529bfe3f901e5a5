-- A notification with the daemon's token.
use Rattle.std.proofs.Common.{◌≡◌, subst, ◌∙◌}
use Rattle.std.specs.Prelude.{IfOk}
use Rattle.group_facts.specs.group_rows.specs.Tokens.{marked_text}
use Rattle.mux_turns.proofs.creates.told_text.Goals as goal

pub returns : goal.returns
returns c = λ body method params read says.
    subst (λ w. IfOk c.marked_text.result (λ text. text ≡ marked_text w body)) (c.deref.ensures.value ∙ c.in_ok-token.ensures) (c.marked_text.ensures body method params read says)
