use Rattle.std.proofs.Common.{List, subst}
use Rattle.mux_history.specs.declared.cause.Cause.{Cause}
use Rattle.make_program.specs.Runs.{Driven}
use Rattle.make_program.proofs.causes.drive_made.Goals as goal

pub returns-in-Ok-clause-driven : goal.returns-in-Ok-clause-driven
returns-in-Ok-clause-driven g c =
    subst (λ (causes : List Cause). Driven g.J.Journal.told c.args.hub.now.settings causes c.drive_causes.new.hub c.drive_causes.result) c.in-Ok.ensures.causes c.drive_causes.ensures.driven
