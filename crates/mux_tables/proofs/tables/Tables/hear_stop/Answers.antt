-- All groups end.
use Rattle.std.proofs.Common.{refl, ◌∙◌}
use Rattle.mux_history.specs.declared.cause.Cause.TheVariants.{FromEditor}
use Rattle.event_model.specs.Event.{heard}
use Rattle.mux_tables.proofs.TokenMoves.{origins_stay}
use Rattle.mux_tables.proofs.Heard.{stop_moves, stop_silent, stop_takes, stop_unheld}
use Rattle.mux_tables.proofs.DocumentHeard.{heard_documents, stop_unchanged}
use Rattle.mux_tables.proofs.Live.{live_so}
use Rattle.rpc_message.specs.Message.{message_of}
use Rattle.mux_tables.proofs.tables.Tables.hear_stop.Goals as goal
use Rattle.mux_tables.proofs.HeldMoves.{heard_stay}

pub returns-clause-stands : goal.returns-clause-stands
returns-clause-stands c = λ settings events body s stays stop step. stop_moves settings c.args.self.now _ events c.args.e body c.args.phase c.requires.editor c.set.ensures refl refl (origins_stay settings c.args.self.now.origins c.args.self.now.origins events (heard (FromEditor c.args.e body)) refl (stop_takes settings events c.args.e (message_of body) stop) (heard_stay settings c.args.self.now.editors events c.args.e body s.house.editors (stop_unheld settings events c.args.e body (message_of body) stop))) refl stays step (stop_silent settings events c.args.e (message_of body) stop) c.deref.result.now (c.deref.ensures.value ∙ c.in_ok-live.ensures) c.end_all.ensures refl stop s

pub returns-clause-live : goal.returns-clause-live
returns-clause-live c = λ settings events st. live_so settings c.args.self.now events _ st c.in_ok-live.ensures

pub returns-clause-documents : goal.returns-clause-documents
returns-clause-documents c = λ settings owed events body stop ds. heard_documents settings owed c.args.self.now _ events c.args.e body (message_of body) (stop_unchanged events c.args.e (message_of body) stop) refl refl refl ds
