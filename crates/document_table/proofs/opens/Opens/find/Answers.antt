use Rattle.std.proofs.Common.{◌∙◌, ap, sym, find}
use Rattle.document_model.specs.Opens.{is_open_at}
use Rattle.document_table.specs.Shown.{all_numbered}
use Rattle.document_table.proofs.Numbering.{none_with}
use Rattle.document_table.proofs.Standing.{number_found, row_found}
use Rattle.document_table.proofs.opens.Opens.find.Goals as goal

pub returns-in-Some : goal.returns-in-Some
returns-in-Some g c =
    let rows = all_numbered g.T.Text.bytes c.self.inside.rows.entries in
    c.at.ensures ∙ (row_found rows c.self.inside.next c.self.inside.numbers.by_uri c.self.inside.numbers.by_editor c.self.invariant c.args.editor c.args.uri.now c.in-Some.number
    (sym (number_found rows c.self.inside.next c.self.inside.numbers.by_uri c.self.inside.numbers.by_editor c.self.invariant c.args.editor c.args.uri.now) ∙ sym c.in-Some.ensures)
    ∙ ap (find (is_open_at c.args.editor c.args.uri.now)) c.self.view_is)

pub returns-in-None : goal.returns-in-None
returns-in-None g c =
    let rows = all_numbered g.T.Text.bytes c.self.inside.rows.entries in
    sym (none_with (is_open_at c.args.editor c.args.uri.now) rows (sym (number_found rows c.self.inside.next c.self.inside.numbers.by_uri c.self.inside.numbers.by_editor c.self.invariant c.args.editor c.args.uri.now) ∙ sym c.in-None.ensures))
    ∙ ap (find (is_open_at c.args.editor c.args.uri.now)) c.self.view_is
