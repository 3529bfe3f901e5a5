use Rattle.std.proofs.Common.{subst}
use Rattle.capability_meet.specs.Answers.{Answers}
use Rattle.capability_meet.proofs.Passes.{declared_pass}
use Rattle.capability_meet.proofs.meeting.declared_under.Goals as goal

pub returns : goal.returns
returns c = subst (λ o. Answers c.meet_at.result o) (declared_pass c.args.capabilities.now c.args.ceiling.now) c.meet_at.ensures
