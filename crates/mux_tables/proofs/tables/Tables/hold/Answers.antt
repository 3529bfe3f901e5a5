-- A request waits.
use Rattle.std.proofs.Common.{[], ◌∷◌, ◌++◌, refl, ap, length, subst, ◌∙◌}
use Rattle.std.proofs.lemmas.List.{length-set}
use Rattle.mux_waits.specs.held_requests.specs.Tables.{asked}
use Rattle.mux_waits.specs.Rows.{Becomes}
use Rattle.rpc_message.specs.Message.{message_of}
use Rattle.mux_tables.proofs.DocumentHeard.{heard_documents}
use Rattle.mux_tables.proofs.Held.{hold_moves, hold_unchanged}
use Rattle.mux_tables.proofs.tables.Tables.hold.Goals as goal

pub returns-clause-count : goal.returns-clause-count
returns-clause-count c = ap length c.set.ensures ∙ length-set c.args.self.now.editors c.args.e _

pub returns-clause-stands : goal.returns-clause-stands
returns-clause-stands c = λ settings events st home served asks restarts named step.
    hold_moves settings c.args.self.now _ events c.args.e c.args.g c.args.body c.args.phase c.requires.editor c.set.ensures refl refl refl refl refl refl refl c.requires.room
    (subst (λ id. Becomes c.args.g (λ rs. rs ++ asked c.args.e id c.args.body ∷ []) c.args.self.now.origins.waiting c.put.new.self) named c.in_ok-put.ensures) home served asks restarts step st

pub returns-clause-documents : goal.returns-clause-documents
returns-clause-documents c = λ settings owed events asks ds. heard_documents settings owed c.args.self.now _ events c.args.e c.args.body (message_of c.args.body) (hold_unchanged events c.args.e c.args.body asks) refl refl refl ds
