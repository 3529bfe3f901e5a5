use Rattle.std.proofs.Common.{option_map, ◌∙◌, ap}
use Rattle.mux_members.proofs.Encoded.{dollar_encoded}
use Rattle.mux_members.proofs.Told.{method_told, no_method_told}
use Rattle.mux_model.specs.Methods.{is_dollar}
use Rattle.mux_members.proofs.method.is_dollar.Goals as goal

pub returns-in-Some : goal.returns-in-Some
returns-in-Some c = λ bytes method id params read is.
    c.names_dollar.ensures ∙ ap is_dollar (method_told bytes c.in-Some.method.now id method params is (option_map (λ b. b.now) c.method.result) (ap (λ o. option_map (λ b. b.now) o) c.in-Some.is) (c.method.ensures bytes read)) ∙ dollar_encoded method

pub returns-in-None : goal.returns-in-None
returns-in-None c = λ bytes method id params read is. absurd (no_method_told bytes id method params is (option_map (λ b. b.now) c.method.result) (ap (λ o. option_map (λ b. b.now) o) c.in-None.is) (c.method.ensures bytes read))
