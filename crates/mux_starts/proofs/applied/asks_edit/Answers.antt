-- A request that asks for an edit.
use Rattle.std.proofs.Common.{◌∙◌, ap, bytes_eq, codes, option_map, refl}
use Rattle.mux_members.proofs.Told.{method_told, no_method_told}
use Rattle.mux_starts.proofs.Applying.{named_so}
use Rattle.mux_starts.proofs.applied.asks_edit.Goals as goal

pub returns-in-Some : goal.returns-in-Some
returns-in-Some c = λ body method id params read says.
    c.is_edit.ensures
    ∙ (ap (bytes_eq (codes "workspace/applyEdit")) (method_told body c.in-Some.method.now id method params says (option_map (λ b. b.now) c.method.result) (ap (λ o. option_map (λ b. b.now) o) c.in-Some.is) (c.method.ensures body read))
    ∙ named_so method (codes "workspace/applyEdit") refl)

pub returns-in-None : goal.returns-in-None
returns-in-None c = λ body method id params read says. absurd (no_method_told body id method params says (option_map (λ b. b.now) c.method.result) (ap (λ o. option_map (λ b. b.now) o) c.in-None.is) (c.method.ensures body read))
