use Rattle.std.proofs.Common.{◌∙◌, ap}
use Rattle.numbered_rows.specs.Rows.{first_number, first_with}
use Rattle.held_requests.specs.Tables.{is_of}
use Rattle.held_requests.specs.Rows.{Numbered}
use Rattle.held_requests.proofs.Keeping.{of_found}
use Rattle.held_requests.proofs.rows.Rows.first.Goals as goal

pub returns-in-Some-clause-first : goal.returns-in-Some-clause-first
returns-in-Some-clause-first c =
    c.first_of.ensures ∙ (ap (first_number (is_of c.args.editor) c.self.inside.rows.entries) c.in-Some.ensures
    ∙ (of_found c.self.inside.rows.entries c.self.inside.next c.self.inside.editors c.self.invariant c.args.editor ∙ ap (λ (t : Numbered). first_with (is_of c.args.editor) t.rows) c.self.view_is))

pub returns-in-None-clause-first : goal.returns-in-None-clause-first
returns-in-None-clause-first c =
    ap (first_number (is_of c.args.editor) c.self.inside.rows.entries) c.in-None.ensures
    ∙ (of_found c.self.inside.rows.entries c.self.inside.next c.self.inside.editors c.self.invariant c.args.editor ∙ ap (λ (t : Numbered). first_with (is_of c.args.editor) t.rows) c.self.view_is)
