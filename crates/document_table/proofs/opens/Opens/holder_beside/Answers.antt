use Rattle.std.proofs.Common.{◌∙◌, ap}
use Rattle.document_model.specs.Opens.{holder_beside}
use Rattle.document_table.specs.Shown.{all_numbered}
use Rattle.document_table.proofs.Standing.{beside_found}
use Rattle.document_table.proofs.opens.Opens.holder_beside.Goals as goal

pub returns : goal.returns
returns g c = c.latest_under.ensures ∙ (beside_found (all_numbered g.T.Text.bytes c.self.inside.rows.entries) c.self.inside.next c.self.inside.numbers.by_uri c.self.inside.numbers.by_editor c.self.invariant c.args.editor c.args.uri.now ∙ ap (holder_beside c.args.editor c.args.uri.now) c.self.view_is)
