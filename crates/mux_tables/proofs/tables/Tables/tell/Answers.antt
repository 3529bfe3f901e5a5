-- A body to an editor.
use Rattle.std.proofs.Common.{refl}
use Rattle.mux_tables.proofs.DocumentSaid.{told_documents}
use Rattle.mux_tables.proofs.tables.Tables.tell.Goals as goal

pub returns-clause-documents : goal.returns-clause-documents
returns-clause-documents c = λ settings owed base ds. told_documents settings owed c.args.self.now c.args.self.now base c.args.outs.now c.push.new.self c.args.e c.args.body refl refl refl c.in_ok-push.ensures.ok ds
