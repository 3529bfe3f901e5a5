-- The first `lspmux/open` of a new editor.
use Rattle.std.proofs.Common.{refl}
use Rattle.mux_tables.proofs.Heard.{open_moves}
use Rattle.mux_tables.proofs.DocumentHeard.{heard_documents}
use Rattle.rpc_message.specs.Message.{message_of}
use Rattle.mux_tables.proofs.tables.Tables.hear_open.Goals as goal

pub returns-clause-stands : goal.returns-clause-stands
returns-clause-stands c = λ settings events body s first is. open_moves settings c.args.self.now _ events c.args.e body c.args.server c.requires c.mean.ensures refl refl refl refl first is refl s

pub returns-clause-documents : goal.returns-clause-documents
returns-clause-documents c = λ settings owed events body q ds. heard_documents settings owed c.args.self.now _ events c.args.e body (message_of body) q refl refl refl ds
