-- Whether a request is `shutdown`, by its characters.
use Rattle.std.proofs.Common.{ap, sym, ◌∙◌}
use Rattle.std.specs.Prelude.{option_map}
use Rattle.event_model.proofs.Places.{same_item}
use Rattle.rpc_message.specs.Parsed.{method_of}
use Rattle.mux_debts.proofs.Going.{shutdown_name}
use Rattle.mux_debts.proofs.pays.is_shutdown.Goals as goal

pub returns-in-Some : goal.returns-in-Some
returns-in-Some c = λ body method id params read says.
    shutdown_name c.in-Some.method.now method c.names_shutdown.result (same_item (sym (ap (option_map (λ b. b.now)) c.in-Some.is) ∙ (c.method.ensures body read ∙ ap method_of says))) c.names_shutdown.ensures

pub returns-in-None : goal.returns-in-None
returns-in-None c = λ body method id params read says.
    absurd (let clash = sym (ap (option_map (λ b. b.now)) c.in-None.is) ∙ (c.method.ensures body read ∙ ap method_of says) in cc)
