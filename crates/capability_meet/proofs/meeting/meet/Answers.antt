use Rattle.std.proofs.Common.{subst}
use Rattle.capability_meet.specs.Answers.{Answers}
use Rattle.capability_meet.proofs.Passes.{meet_pass}
use Rattle.capability_meet.proofs.meeting.meet.Goals as goal

pub returns : goal.returns
returns c = subst (λ o. Answers c.meet_at.result o) (meet_pass c.args.a.now c.args.b.now) c.meet_at.ensures
