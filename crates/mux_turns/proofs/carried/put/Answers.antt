-- Those that stay, and the new one.
use Rattle.std.proofs.Common.{rules, ap, ◌∙◌, ◌++◌, ◌∷◌, []}
use Rattle.std.proofs.lemmas.Fn.{filter_same}
use Rattle.mux_turns.specs.Carried.{stays}
use Rattle.mux_turns.proofs.carried.put.Goals as goal

pub returns : goal.returns
returns c =
    c.in_ok-push.ensures.items ∙ ap (λ cs. cs ++ record { group = c.args.g; body = c.args.body } ∷ []) (filter_same _ (stays c.args.tables.now.groups.groups c.args.g) _ (λ x b f k. search rules) _ _ c.retain.ensures.filtered)
