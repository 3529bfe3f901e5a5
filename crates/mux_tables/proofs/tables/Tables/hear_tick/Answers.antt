-- The time goes on.
use Rattle.std.proofs.Common.{refl, ◌∙◌}
use Rattle.mux_tables.proofs.Ends.{due_seen}
use Rattle.mux_tables.proofs.Heard.{ticked_moves}
use Rattle.mux_tables.proofs.DocumentMoves.{quiet_documents}
use Rattle.mux_tables.proofs.Noting.{left_stays}
use Rattle.mux_history.specs.declared.cause.Cause.TheVariants.{Tick}
use Rattle.event_model.specs.Event.{heard}
use Rattle.mux_tables.proofs.tables.Tables.hear_tick.Goals as goal

pub returns-clause-stands : goal.returns-clause-stands
returns-clause-stands c = λ settings events st. ticked_moves settings c.args.self.now _ events c.args.now c.later-now.result c.deref.result.now c.later-now.ensures refl refl (c.deref.ensures.value ∙ c.in_ok-due.ensures) c.end_all.ensures refl refl refl st

pub returns-clause-documents : goal.returns-clause-documents
returns-clause-documents c = λ settings owed events ds. quiet_documents settings owed c.args.self.now _ events (heard (Tick c.args.now)) refl refl refl refl refl (λ g o k. refl) (left_stays events (heard (Tick c.args.now)) refl) ds

pub returns-clause-due : goal.returns-clause-due
returns-clause-due c = λ settings events st. due_seen settings events c.args.now c.later-now.result c.args.self.now c.in_ok-due.due.items c.later-now.ensures c.in_ok-due.ensures st.house
