-- Whether an editor that is served changes the configuration.
use Rattle.std.proofs.Common.{codes, ◌&&◌, ap, sym, ◌∙◌}
use Rattle.event_model.specs.Event.{notifies}
use Rattle.event_model.specs.Phases.{is_served}
use Rattle.rpc_message.specs.Message.{message_of}
use Rattle.mux_editors.proofs.passed.is_configured.Goals as goal

pub returns-then-is_served : goal.returns-then-is_served
returns-then-is_served c = λ settings before body read st.
    c.configures.ensures body read ∙ sym (ap (λ b. b && notifies (codes "workspace/didChangeConfiguration") (message_of body)) (ap is_served (sym (c.phase.ensures settings before st)) ∙ (sym c.is_served.ensures ∙ c.if-is_served.true)))

pub returns-else-is_served : goal.returns-else-is_served
returns-else-is_served c = λ settings before body read st.
    c.if-is_served.false ∙ sym (ap (λ b. b && notifies (codes "workspace/didChangeConfiguration") (message_of body)) (ap is_served (sym (c.phase.ensures settings before st)) ∙ (sym c.is_served.ensures ∙ c.if-is_served.false)))
