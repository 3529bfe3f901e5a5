-- The characters of a request's method.
use Rattle.std.proofs.Common.{ap, sym, ◌∙◌}
use Rattle.std.specs.Prelude.{option_map}
use Rattle.event_model.proofs.Places.{same_item}
use Rattle.rpc_message.specs.Parsed.{method_of}
use Rattle.mux_debts.proofs.notes.method_in.Goals as goal

pub returns-in_ok-from_slice-in-Some : goal.returns-in_ok-from_slice-in-Some
returns-in_ok-from_slice-in-Some c = λ body method id params read says.
    c.in_ok-from_slice-in-Some.ensures.items ∙ same_item (sym (ap (option_map (λ b. b.now)) c.in-Some.is) ∙ (c.method.ensures body read ∙ ap method_of says))

pub returns-in-None : goal.returns-in-None
returns-in-None c = λ body method id params read says.
    absurd (let clash = sym (ap (option_map (λ b. b.now)) c.in-None.is) ∙ (c.method.ensures body read ∙ ap method_of says) in cc)
