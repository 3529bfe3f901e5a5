use Rattle.std.proofs.Common.{◌∙◌, ap}
use Rattle.std.specs.Map.{values_of}
use Rattle.std.proofs.lemmas.Result.{IfOk-weaker}
use Rattle.ask_route.specs.Tables.{numbers_of}
use Rattle.ask_route.specs.Rows.{Numbered, numbers_among}
use Rattle.ask_route.proofs.Keeping.{numbers_found}
use Rattle.ask_route.proofs.rows.Rows.numbers_of.Goals as goal

pub returns-in-Some : goal.returns-in-Some
returns-in-Some c = IfOk-weaker c.all_numbers.result _ _
    (λ found h. h ∙ (ap (numbers_among c.args.editor c.self.inside.rows.entries) c.in-Some.ensures ∙ (numbers_found c.self.inside.rows.entries c.self.inside.next c.self.inside.numbers.by_id c.self.inside.numbers.by_number c.self.inside.numbers.by_editor c.self.invariant c.args.editor ∙ ap (λ (t : Numbered). numbers_of c.args.editor (values_of t.rows)) c.self.view_is))) c.all_numbers.ensures

pub returns-in-None : goal.returns-in-None
returns-in-None c =
    c.new.ensures.items ∙ (ap (numbers_among c.args.editor c.self.inside.rows.entries) c.in-None.ensures ∙ (numbers_found c.self.inside.rows.entries c.self.inside.next c.self.inside.numbers.by_id c.self.inside.numbers.by_number c.self.inside.numbers.by_editor c.self.invariant c.args.editor ∙ ap (λ (t : Numbered). numbers_of c.args.editor (values_of t.rows)) c.self.view_is))
