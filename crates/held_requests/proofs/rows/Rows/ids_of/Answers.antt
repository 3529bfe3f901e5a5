use Rattle.std.proofs.Common.{◌∙◌, ap}
use Rattle.std.specs.Map.{values_of}
use Rattle.std.proofs.lemmas.Result.{IfOk-weaker}
use Rattle.numbered_rows.specs.Rows.{rows_among}
use Rattle.held_requests.specs.Tables.{ids_of, is_of, of_editor}
use Rattle.held_requests.specs.Rows.{Numbered}
use Rattle.held_requests.proofs.Keeping.{all_found}
use Rattle.held_requests.proofs.rows.Rows.ids_of.Goals as goal

pub returns-in-Some : goal.returns-in-Some
returns-in-Some c = IfOk-weaker c.all_ids.result _ _
    (λ ids h. h ∙ (ap (λ ns. ids_of (rows_among (is_of c.args.editor) c.self.inside.rows.entries ns)) c.in-Some.ensures
    ∙ (ap ids_of (all_found c.self.inside.rows.entries c.self.inside.next c.self.inside.editors c.self.invariant c.args.editor) ∙ ap (λ (t : Numbered). ids_of (of_editor c.args.editor (values_of t.rows))) c.self.view_is))) c.all_ids.ensures

pub returns-in-None : goal.returns-in-None
returns-in-None c =
    c.new.ensures.items ∙ (ap (λ ns. ids_of (rows_among (is_of c.args.editor) c.self.inside.rows.entries ns)) c.in-None.ensures
    ∙ (ap ids_of (all_found c.self.inside.rows.entries c.self.inside.next c.self.inside.editors c.self.invariant c.args.editor) ∙ ap (λ (t : Numbered). ids_of (of_editor c.args.editor (values_of t.rows))) c.self.view_is))
