use Rattle.std.proofs.Common.{◌≡◌, ◌++◌, map}
use Rattle.std.specs.BTreeMap.{values}
use Rattle.document_model.specs.Opens.{Open}
use Rattle.document_table.specs.Shown.{all_bytes, shown}
use Rattle.document_table.proofs.rows.all_uris.Given as goal

abbrev pub invariant-loop-opening : goal.invariant-loop-opening
invariant-loop-opening g l = all_bytes l.uris.items ++ map (λ (o : Open). o.uri) (map (shown g.T.Text.bytes) l.opening-iterator) ≡ map (λ (o : Open). o.uri) (map (shown g.T.Text.bytes) (values l.rows))
