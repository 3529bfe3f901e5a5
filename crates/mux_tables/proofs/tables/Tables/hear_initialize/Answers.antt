-- An editor is placed.
use Rattle.std.proofs.Common.{refl, ap}
use Rattle.editor_session.specs.Sessions.{is_gone}
use Rattle.group_words.specs.Houses.{declared_for}
use Rattle.mux_tables.proofs.Heard.{initialized_moves}
use Rattle.mux_tables.proofs.Seated.{joined_inside}
use Rattle.mux_tables.proofs.DocumentHeard.{first_unchanged, heard_documents}
use Rattle.rpc_message.specs.Message.{message_of}
use Rattle.mux_tables.proofs.tables.Tables.hear_initialize.Goals as goal

pub returns-clause-moves : goal.returns-clause-moves
returns-clause-moves c = λ settings before x body st at new first own k d.
    let given = declared_for settings before c.args.e body in
    initialized_moves settings before c.args.e body c.args.self.now _ c.place.new.self x c.in_ok-placed.placed c.args.key given c.args.id first at new own k refl (c.in_ok-placed.ensures.placed given d) (c.in_ok-placed.ensures.ok given d) c.join.ensures (c.seat.ensures.sits x at (ap is_gone new)) refl refl refl refl st

pub returns-clause-inside : goal.returns-clause-inside
returns-clause-inside c = joined_inside c.in_ok-placed.placed c.place.new.self c.join.new.groups c.join.ensures c.in_ok-placed.ensures.inside

pub returns-clause-documents : goal.returns-clause-documents
returns-clause-documents c = λ settings owed before x body st at new ds. heard_documents settings owed c.args.self.now _ before c.args.e body (message_of body) (first_unchanged settings c.args.self.now before c.args.e x (message_of body) at new st) refl refl refl ds

pub returns-clause-count : goal.returns-clause-count
returns-clause-count c = c.seat.ensures.count
