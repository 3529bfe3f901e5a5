-- The number of the daemon's token of a start that a notification names.
use Rattle.std.proofs.Common.{codes, refl, subst, sym, ◌∙◌}
use Rattle.event_model.specs.Members.{named_of}
use Rattle.mux_turns.specs.Creates.{WritesCreated}
use Rattle.mux_turns.proofs.CreatedMarks.{created_of_text, no_created_text}
use Rattle.mux_turns.proofs.creates.created_mark.Goals as goal

pub returns-in_ok-front-in-Some : goal.returns-in_ok-front-in-Some
returns-in_ok-front-in-Some c = λ body method params read says.
    created_of_text c.args.s c.ranges.s.fits (named_of (codes "token") params) c.in-Some.cs c.created_in.result (sym c.in-Some.is ∙ c.in_ok-token.ensures.told refl body method params read says)
    (subst (λ w. WritesCreated c.args.s w c.created_in.result) c.bytes.ensures (c.created_in.ensures c.args.s (c.deref.ensures.value ∙ c.in_ok-front-in-Some.ensures)))

pub returns-in-None : goal.returns-in-None
returns-in-None c = λ body method params read says.
    no_created_text c.args.s c.ranges.s.fits (named_of (codes "token") params) (sym c.in-None.is ∙ c.in_ok-token.ensures.told refl body method params read says)
