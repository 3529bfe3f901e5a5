-- The number of the daemon's token that a notification names.
use Rattle.std.proofs.Common.{codes, refl, subst, sym, ◌∙◌}
use Rattle.event_model.specs.Members.{named_of}
use Rattle.mux_turns.specs.Tokens.{WritesMark}
use Rattle.mux_turns.proofs.Marks.{mark_of, no_mark}
use Rattle.mux_turns.proofs.tokens.marked.Goals as goal

pub returns-in-Some : goal.returns-in-Some
returns-in-Some c = λ body method params read says.
    mark_of (named_of (codes "token") params) c.in-Some.cs c.mark_in.result (sym c.in-Some.is ∙ c.in_ok-token.ensures.told refl body method params read says) (subst (λ w. WritesMark w c.mark_in.result) c.bytes.ensures c.mark_in.ensures)

pub returns-in-None : goal.returns-in-None
returns-in-None c = λ body method params read says.
    no_mark (named_of (codes "token") params) (sym c.in-None.is ∙ c.in_ok-token.ensures.told refl body method params read says)
