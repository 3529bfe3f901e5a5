-- A message that places nobody, and stops nothing.
use Rattle.std.proofs.Common.{refl}
use Rattle.mux_history.specs.declared.cause.Cause.TheVariants.{FromEditor}
use Rattle.event_model.specs.Event.{heard}
use Rattle.mux_tables.proofs.TokenMoves.{origins_stay}
use Rattle.mux_tables.proofs.Heard.{set_moves}
use Rattle.mux_tables.proofs.DocumentHeard.{heard_documents}
use Rattle.rpc_message.specs.Message.{message_of}
use Rattle.mux_tables.proofs.tables.Tables.hear_editor.Goals as goal
use Rattle.mux_tables.proofs.HeldMoves.{heard_stay}

pub returns-clause-stands : goal.returns-clause-stands
returns-clause-stands c = λ settings events body s silent leaves unheld stays goes off step. set_moves settings c.args.self.now _ events c.args.e body c.args.phase c.requires.editor c.set.ensures refl refl (origins_stay settings c.args.self.now.origins c.args.self.now.origins events (heard (FromEditor c.args.e body)) refl leaves (heard_stay settings c.args.self.now.editors events c.args.e body s.house.editors unheld)) refl stays step silent refl refl goes off s

pub returns-clause-documents : goal.returns-clause-documents
returns-clause-documents c = λ settings owed events body q ds. heard_documents settings owed c.args.self.now _ events c.args.e body (message_of body) q refl refl refl ds
