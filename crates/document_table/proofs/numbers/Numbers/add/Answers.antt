use Rattle.document_table.proofs.Keeping.{index_undone}
use Rattle.document_table.proofs.numbers.Numbers.add.Goals as goal

pub returns-in-Err-clause-err_uris : goal.returns-in-Err-clause-err_uris
returns-in-Err-clause-err_uris c = index_undone c.args.uri.now c.args.number c.args.self.now.by_uri _ _ c.requires c.in_ok-add.ensures.ok c.remove.ensures
