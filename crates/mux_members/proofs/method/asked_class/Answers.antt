use Rattle.std.proofs.Common.{option_map, ◌∙◌, ap}
use Rattle.lsp_method.specs.Class.{server_request}
use Rattle.mux_members.proofs.Encoded.{asked_encoded}
use Rattle.mux_members.proofs.Told.{method_told, no_method_told}
use Rattle.mux_members.proofs.method.asked_class.Goals as goal

pub returns-in-Some : goal.returns-in-Some
returns-in-Some c = λ bytes method id params read is.
    c.class.ensures ∙ ap server_request (method_told bytes c.in-Some.method.now id method params is (option_map (λ b. b.now) c.method.result) (ap (λ o. option_map (λ b. b.now) o) c.in-Some.is) (c.method.ensures bytes read)) ∙ asked_encoded method

pub returns-in-None : goal.returns-in-None
returns-in-None c = λ bytes method id params read is. absurd (no_method_told bytes id method params is (option_map (λ b. b.now) c.method.result) (ap (λ o. option_map (λ b. b.now) o) c.in-None.is) (c.method.ensures bytes read))
