use Rattle.std.proofs.Common.{◌∙◌, ap}
use Rattle.std.proofs.lemmas.Result.{IfOk-weaker}
use Rattle.ask_route.specs.Tables.{is_with}
use Rattle.ask_route.specs.Rows.{Numbered, chosen, numbers_with}
use Rattle.ask_route.proofs.Keeping.{with_found}
use Rattle.ask_route.proofs.rows.Rows.with.Goals as goal

pub returns-in-Some-clause-all : goal.returns-in-Some-clause-all
returns-in-Some-clause-all c = IfOk-weaker c.all_with.result _ _
    (λ found h. h ∙ (ap (chosen (is_with c.args.holder) c.self.inside.rows.entries) c.in-Some.ensures ∙ (with_found c.self.inside.rows.entries c.self.inside.next c.self.inside.numbers.by_id c.self.inside.numbers.by_number c.self.inside.numbers.by_editor c.self.invariant c.args.holder ∙ ap (λ (t : Numbered). numbers_with (is_with c.args.holder) t.rows) c.self.view_is))) c.all_with.ensures

pub returns-in-None-clause-all : goal.returns-in-None-clause-all
returns-in-None-clause-all c =
    c.new.ensures.items ∙ (ap (chosen (is_with c.args.holder) c.self.inside.rows.entries) c.in-None.ensures ∙ (with_found c.self.inside.rows.entries c.self.inside.next c.self.inside.numbers.by_id c.self.inside.numbers.by_number c.self.inside.numbers.by_editor c.self.invariant c.args.holder ∙ ap (λ (t : Numbered). numbers_with (is_with c.args.holder) t.rows) c.self.view_is))
