use Rattle.document_table.proofs.Mapping.{at_is}
use Rattle.document_table.proofs.rows.at.Goals as goal

pub returns : goal.returns
returns g c = at_is g.T.Text.bytes c.args.number c.args.rows.now.entries c.get.result c.get.ensures.value
