use Rattle.std.proofs.Common.{◌∙◌, ap}
use Rattle.std.proofs.lemmas.Result.{IfOk-weaker}
use Rattle.document_table.specs.Rows.{uris_of}
use Rattle.document_table.specs.Shown.{all_numbered}
use Rattle.document_table.proofs.Standing.{uris_found}
use Rattle.document_table.proofs.opens.Opens.uris_of.Goals as goal

pub returns : goal.returns
returns g c = IfOk-weaker c.uris_under.result _ _
    (λ uris h. h ∙ (uris_found (all_numbered g.T.Text.bytes c.self.inside.rows.entries) c.self.inside.next c.self.inside.numbers.by_uri c.self.inside.numbers.by_editor c.self.invariant c.args.editor c.ranges.editor.fits ∙ ap (uris_of c.args.editor) c.self.view_is)) c.uris_under.ensures
