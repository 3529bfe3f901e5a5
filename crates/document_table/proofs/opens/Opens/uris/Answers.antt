use Rattle.std.proofs.Common.{◌∙◌, List, ap, map}
use Rattle.std.proofs.lemmas.Result.{IfOk-weaker}
use Rattle.document_model.specs.Opens.{Open}
use Rattle.document_table.proofs.Mapping.{uris_shown}
use Rattle.document_table.proofs.opens.Opens.uris.Goals as goal

pub returns : goal.returns
returns g c = IfOk-weaker c.all_uris.result _ _ (λ uris h. h ∙ (uris_shown g.T.Text.bytes c.self.inside.rows.entries ∙ ap (map (λ (o : Open). o.uri)) c.self.view_is)) c.all_uris.ensures
