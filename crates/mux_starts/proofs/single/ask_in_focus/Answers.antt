-- The editor in focus is asked, by the method.
use Rattle.std.proofs.Common.{refl, sym, ◌∙◌}
use Rattle.event_model.proofs.Frames.{never}
use Rattle.mux_tables.specs.Documents.{AllStand}
use Rattle.mux_turns.proofs.Matched.{done_alike}
use Rattle.mux_turns.proofs.Rows.{is_first, is_second}
use Rattle.mux_starts.proofs.single.ask_in_focus.Goals as goal

pub returns-in_ok-take_edit-clause-does : goal.returns-in_ok-take_edit-clause-does
returns-in_ok-take_edit-clause-does c = λ settings before body method id params s x read says one hasty fresh runs first here ready at meant st ds.
    done_alike (λ k events. AllStand settings k events) (is_first refl (sym (c.asks_edit.ensures body method id params read says) ∙ c.if-asks_edit.true))
    (c.in_ok-take_edit.ensures.does settings before body method id params s x read says one hasty fresh runs first here ready at meant st ds)

pub returns-in_ok-ask_alone-clause-does : goal.returns-in_ok-ask_alone-clause-does
returns-in_ok-ask_alone-clause-does c = λ settings before body method id params s x read says one hasty fresh runs first here ready at meant st ds.
    done_alike (λ k events. AllStand settings k events) (is_second refl (sym (c.asks_edit.ensures body method id params read says) ∙ c.if-asks_edit.false))
    (c.in_ok-ask_alone.ensures.does settings before body method id params s x read says one (λ on. never (sym on ∙ hasty)) fresh runs first here ready at st ds)
