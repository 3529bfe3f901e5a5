-- The editor asks to shut down.
use Rattle.std.proofs.Common.{refl}
use Rattle.rpc_message.specs.Message.{message_of}
use Rattle.mux_tables.proofs.Downs.{shutdown_moves}
use Rattle.mux_tables.proofs.DocumentLeft.{home_seen, shutdown_documents}
use Rattle.mux_tables.proofs.tables.Tables.hear_shutdown.Goals as goal

pub returns-clause-stands : goal.returns-clause-stands
returns-clause-stands c = λ settings events body served asks st. shutdown_moves settings c.args.self.now _ events c.args.e body c.requires c.set.ensures refl refl refl refl refl c.in_ok-forget_editor.ensures.table c.in_ok-forget_editor.ensures.rising refl refl served asks st

pub returns-clause-documents : goal.returns-clause-documents
returns-clause-documents c = λ settings events body served asks st ds.
    shutdown_documents settings c.args.self.now _ events c.args.e body (message_of body) c.group-home.result c.in_ok-owed.owed served asks (home_seen settings c.args.self.now events c.args.e c.group-home.result c.requires c.group-home.ensures st) refl refl st c.place_in-place.result c.place_in-place.ensures c.in_ok-owed.ensures ds
