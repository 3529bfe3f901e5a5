-- Those of others stay.
use Rattle.std.proofs.Common.{rules, ap, not, ◌∙◌}
use Rattle.std.proofs.lemmas.Fn.{filter_same}
use Rattle.refresh_debts.specs.declared.debts.Debt.{Debt}
use Rattle.refresh_debts.specs.Tables.{is_at, without}
use Rattle.refresh_debts.proofs.debts.Debts.over.Goals as goal

pub returns : goal.returns
returns c = filter_same _ (λ (d : Debt). not (is_at c.args.start d)) _ (λ x b f k. search rules) _ _ c.retain.ensures.filtered ∙ ap (without (is_at c.args.start)) c.self.view_is
