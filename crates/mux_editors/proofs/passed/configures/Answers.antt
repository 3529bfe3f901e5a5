-- Whether a message changes the configuration.
use Rattle.std.proofs.Common.{option_map, ap, sym, ◌∙◌}
use Rattle.std.specs.Prelude.{Some}
use Rattle.rpc_message.specs.Message.{message_of}
use Rattle.mux_editors.proofs.Configuring.{names_change, names_none, notes_none}
use Rattle.mux_editors.proofs.passed.configures.Goals as goal

pub returns-in-Some : goal.returns-in-Some
returns-in-Some c = λ body read.
    names_change (message_of body) c.in-Some.method.now c.names_configuration.result (c.sort.ensures body read ∙ ap (λ x. Some x) c.in-Notification.is)
    (sym (ap (λ o. option_map (λ b. b.now) o) c.in-Some.is) ∙ c.method.ensures body read) c.names_configuration.ensures

pub returns-in-None : goal.returns-in-None
returns-in-None c = λ body read.
    names_none (message_of body) (c.sort.ensures body read ∙ ap (λ x. Some x) c.in-Notification.is) (sym (ap (λ o. option_map (λ b. b.now) o) c.in-None.is) ∙ c.method.ensures body read)

pub returns-in-Request : goal.returns-in-Request
returns-in-Request c = λ body read. notes_none (message_of body) c.sort.result (c.sort.ensures body read) c.in-Request.is
