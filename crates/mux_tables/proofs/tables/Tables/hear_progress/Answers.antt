-- A start tells of a token.
use Rattle.std.proofs.Common.{◌&&◌, refl, ap, sym}
use Rattle.std.specs.Prelude.{None}
use Rattle.rpc_message.specs.Message.{message_of}
use Rattle.event_model.specs.Stages.{is_first_result, is_initializing}
use Rattle.mux_tables.proofs.Creating.{progress_by}
use Rattle.mux_tables.proofs.DocumentHeard.{answer_documents_by}
use Rattle.mux_tables.proofs.Parking.{not_spawning}
use Rattle.mux_tables.proofs.Sent.{same_set}
use Rattle.mux_tables.proofs.Starts.{read_here}
use Rattle.mux_tables.proofs.tables.Tables.hear_progress.Goals as goal

pub returns-clause-stands : goal.returns-clause-stands
returns-clause-stands c = λ settings events method params s x i is ready at says tells names_it text begun ends st.
    progress_by settings c.args.self.now _ events c.args.g s c.start-s.result x c.index.result.now is at c.requires c.index.ensures ready c.start-s.ensures refl refl refl refl refl refl refl refl st c.args.body.now method c.args.token.now params i c.args.kind c.in_ok-_due.ensures.table says tells names_it text begun ends

pub returns-clause-documents : goal.returns-clause-documents
returns-clause-documents c = λ settings owed events method params s x is ready at says st ds.
    let z = c.index.result.now in
    answer_documents_by settings owed c.args.self.now _ events c.args.g s x z z c.args.body.now (message_of c.args.body.now) None is at c.requires c.index.ensures
    (ap (λ m. is_first_result m && is_initializing x.life.stage) says) (not_spawning x.life.stage ready) refl refl (sym (same_set c.args.self.now.lasts.items c.args.g z (read_here c.args.self.now.lasts.items c.args.g z c.requires c.index.ensures))) refl refl st ds
