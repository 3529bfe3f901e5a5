use Rattle.mux_hub.proofs.Stopped.{asked_stops, stays_stopped}
use Rattle.mux_service.proofs.named.NamedHubSteps.step.Goals as goal

pub returns-in-Ok-clause-stops : goal.returns-in-Ok-clause-stops
returns-in-Ok-clause-stops g c = λ history h asks. asked_stops history c.args.cause c.in-Ok.outs asks

pub returns-in-Ok-clause-stays : goal.returns-in-Ok-clause-stays
returns-in-Ok-clause-stays g c = λ history h was. stays_stopped history c.args.cause c.in-Ok.outs was
