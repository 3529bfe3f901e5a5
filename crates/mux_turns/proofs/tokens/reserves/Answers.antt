-- Whether a request has a reserved token.
use Rattle.std.proofs.Common.{codes, refl}
use Rattle.event_model.specs.Members.{named_of, params_of}
use Rattle.group_facts.specs.group_rows.specs.Reserved.{is_reserved}
use Rattle.group_facts.specs.mux_members.proofs.Bared.{either_second}
use Rattle.mux_turns.proofs.tokens.reserves.Goals as goal

pub returns-else-work : goal.returns-else-work
returns-else-work c = λ body method id params read says.
    let at = params_of body in
    either_second (is_reserved (named_of (codes "workDoneToken") at)) (is_reserved (named_of (codes "partialResultToken") at)) c.in_ok-work.work c.in_ok-partial.partial
    (c.in_ok-work.ensures refl body method id params read says) c.if-work.false (c.in_ok-partial.ensures refl body method id params read says)
