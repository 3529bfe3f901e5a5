-- What is no request, of an editor that isn't served.
use Rattle.std.proofs.Common.{◌≡◌, true, false, codes, sym, ◌∙◌}
use Rattle.event_model.specs.Event.{notifies}
use Rattle.rpc_message.specs.Message.{message_of}
use Rattle.mux_starts.specs.mux_tables.specs.Documents.{AllStand}
use Rattle.mux_entries.proofs.EditorBuilt.{unserved_keeps}
use Rattle.mux_entries.proofs.EditorRows.{done_alike, done_quietly, exit_named, exit_silent}
use Rattle.mux_editors.proofs.Takings.{takes_unserved}
use Rattle.mux_entries.proofs.editors.from_aside.Goals as goal

pub returns-in_ok-take_exit-clause-does : goal.returns-in_ok-take_exit-clause-does
returns-in_ok-take_exit-clause-does c = λ settings before body read aside unserved silent first settled st ds.
    let exits : notifies (codes "exit") (message_of body) ≡ true = sym (c.is_exit.ensures body read) ∙ c.if-is_exit.true in
    done_alike (λ k events. AllStand settings k events) (exit_named settings before c.args.e (message_of body) exits) (c.in_ok-take_exit.ensures.does settings before body exits first st ds)

pub returns-else-is_exit-clause-does : goal.returns-else-is_exit-clause-does
returns-else-is_exit-clause-does c = λ settings before body read aside unserved silent first settled st ds.
    let stays : notifies (codes "exit") (message_of body) ≡ false = sym (c.is_exit.ensures body read) ∙ c.if-is_exit.false in
    done_alike (λ k events. AllStand settings k events) (exit_silent settings before c.args.e (message_of body) stays)
    (done_quietly (λ k events. AllStand settings k events) first (c.take_quiet.ensures.does settings before body read aside (unserved_keeps before c.args.e (message_of body) unserved) silent (takes_unserved settings before settled c.args.tables.now st c.args.e (message_of body) unserved) st ds))
