-- Those of others stay.
use Rattle.std.proofs.Common.{rules, ap, not, ◌∙◌}
use Rattle.std.proofs.lemmas.Fn.{filter_same}
use Rattle.refresh_debts.specs.declared.debts.Debt.{Debt}
use Rattle.refresh_debts.specs.Tables.{is_same, without}
use Rattle.refresh_debts.proofs.debts.Debts.settle.Goals as goal

pub returns : goal.returns
returns c = filter_same _ (λ (d : Debt). not (is_same c.args.start c.args.editor c.args.method.now d)) _ (λ x b f k. search rules) _ _ c.retain.ensures.filtered ∙ ap (without (is_same c.args.start c.args.editor c.args.method.now)) c.self.view_is
