use Rattle.std.proofs.Common.{◌∙◌, ap}
use Rattle.ask_route.specs.Tables.{is_seated}
use Rattle.ask_route.specs.Rows.{Numbered, first_number, first_with}
use Rattle.ask_route.proofs.Keeping.{seated_found}
use Rattle.ask_route.proofs.rows.Rows.seated.Goals as goal

pub returns-in-Some-clause-first : goal.returns-in-Some-clause-first
returns-in-Some-clause-first c =
    c.first_seated.ensures ∙ (ap (first_number (is_seated c.args.editor c.args.number) c.self.inside.rows.entries) c.in-Some.ensures ∙ (seated_found c.self.inside.rows.entries c.self.inside.next c.self.inside.numbers.by_id c.self.inside.numbers.by_number c.self.inside.numbers.by_editor c.self.invariant c.args.editor c.args.number ∙ ap (λ (t : Numbered). first_with (is_seated c.args.editor c.args.number) t.rows) c.self.view_is))

pub returns-in-None-clause-first : goal.returns-in-None-clause-first
returns-in-None-clause-first c =
    ap (first_number (is_seated c.args.editor c.args.number) c.self.inside.rows.entries) c.in-None.ensures ∙ (seated_found c.self.inside.rows.entries c.self.inside.next c.self.inside.numbers.by_id c.self.inside.numbers.by_number c.self.inside.numbers.by_editor c.self.invariant c.args.editor c.args.number ∙ ap (λ (t : Numbered). first_with (is_seated c.args.editor c.args.number) t.rows) c.self.view_is)
