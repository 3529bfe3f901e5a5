use Rattle.std.proofs.Common.{◌∙◌, ap}
use Rattle.id_rewrite.specs.Forms.{same_form}
use Rattle.progress_route.specs.Names.{Numbered, first_number, first_with}
use Rattle.progress_route.proofs.Keeping.{under_found}
use Rattle.progress_route.proofs.names.Names.number_of.Goals as goal

pub returns-in-Some : goal.returns-in-Some
returns-in-Some c =
    c.first_under.ensures ∙ (ap (first_number (same_form c.args.text.now) c.self.inside.rows.entries) c.in-Some.ensures ∙ (under_found c.self.inside.rows.entries c.self.inside.next c.self.inside.index c.self.invariant c.args.text.now ∙ ap (λ (t : Numbered). first_with (same_form c.args.text.now) t.rows) c.self.view_is))

pub returns-in-None : goal.returns-in-None
returns-in-None c =
    ap (first_number (same_form c.args.text.now) c.self.inside.rows.entries) c.in-None.ensures ∙ (under_found c.self.inside.rows.entries c.self.inside.next c.self.inside.index c.self.invariant c.args.text.now ∙ ap (λ (t : Numbered). first_with (same_form c.args.text.now) t.rows) c.self.view_is)
