use Rattle.std.proofs.Common.{option_map, ◌∙◌, ap}
use Rattle.lsp_method.specs.Class.{server_notification}
use Rattle.mux_members.proofs.Encoded.{told_encoded}
use Rattle.mux_members.proofs.Told.{notice_told, no_notice_told}
use Rattle.mux_members.proofs.method.told_class.Goals as goal

pub returns-in-Some : goal.returns-in-Some
returns-in-Some c = λ bytes method params read is.
    c.class.ensures ∙ ap server_notification (notice_told bytes c.in-Some.method.now method params is (option_map (λ b. b.now) c.method.result) (ap (λ o. option_map (λ b. b.now) o) c.in-Some.is) (c.method.ensures bytes read)) ∙ told_encoded method

pub returns-in-None : goal.returns-in-None
returns-in-None c = λ bytes method params read is. absurd (no_notice_told bytes method params is (option_map (λ b. b.now) c.method.result) (ap (λ o. option_map (λ b. b.now) o) c.in-None.is) (c.method.ensures bytes read))
