-- A whole request for an edit.
use Rattle.std.proofs.Common.{◌<◌, length, ap, refl, subst, sym, ◌∙◌}
use Rattle.std.specs.Prelude.{slice_get}
use Rattle.event_model.specs.Event.{with_cause}
use Rattle.event_model.specs.Stages.{is_first_result}
use Rattle.group_rows.specs.AskRows.{ask_edit}
use Rattle.group_words.specs.Houses.{is_first_error}
use Rattle.mux_history.specs.declared.cause.Cause.TheVariants.{FromServer}
use Rattle.rpc_message.specs.Message.{message_of}
use Rattle.mux_tables.specs.Documents.{AllStand, nothing_owed}
use Rattle.mux_starts.proofs.Early.{asked_named}
use Rattle.mux_turns.proofs.Matched.{not_early, not_first, not_spawning, whole_entry}
use Rattle.mux_starts.proofs.Parking.{hasty, other_keeps, single_other}
use Rattle.mux_starts.proofs.Singles.{puts_one, runs_here, still}
use Rattle.mux_starts.proofs.Uncreated.{other_creates, single_creates}
use Rattle.mux_starts.proofs.Unlisted.{asks_unlisted}
use Rattle.mux_starts.proofs.applied.take_edit.Goals as goal

pub ask_edit-requires-clause-editor : goal.ask_edit-requires-clause-editor
ask_edit-requires-clause-editor c = subst (λ n. c.args.e < n) (sym (ap length c.hear_answer.ensures.editors)) c.requires.editor

pub returns-clause-does : goal.returns-clause-does
returns-clause-does c = λ settings before body method id params s x read says one off fresh runs first here ready at meant st ds.
    let m = message_of body in
    let base = with_cause before (FromServer s body) in
    let t = c.args.tables.now in
    let u = c.hear_answer.new.self in
    let v = c.ask_edit.new.tables in
    let xs = c.args.outs.now in
    let ys = c.ask_edit.new.outs in
    let stay = hasty settings before s body id method params says off in
    let moved = c.hear_answer.ensures.moves settings before s body x here at (not_early (is_first_result m) x.life.stage ready) (not_first (is_first_error m) x.life.stage ready) stay (other_keeps settings before s body id method params says (single_other method one)) (asks_unlisted before s body id method params says) (other_creates settings before s body id method params says (single_creates method one)) (asked_named m id method params says) st in
    let docs = c.hear_answer.ensures.documents settings nothing_owed before s body x here at (not_first (is_first_result m) x.life.stage ready) (λ e. not_spawning x.life.stage ready e) st ds in
    let y = still t u c.args.g s x here at ready c.hear_answer.ensures.starts c.hear_answer.ensures.stages in
    let there = ap (λ ns. slice_get ns c.args.g) c.hear_answer.ensures.starts ∙ at in
    whole_entry (λ k events. AllStand settings k events) (ask_edit settings before s body c.args.e) base (u, nothing_owed) (v, nothing_owed) xs ys first (moved, docs)
    (c.in_ok-ask_edit.ensures.does settings before base body method id params s y.start read says (single_creates method one) y.at y.ready there (runs_here settings before s body xs first c.args.e runs)
    (puts_one settings before s body method id params xs first says one stay fresh s refl) meant (c.in_ok-now.ensures.versions settings before s x here ready at st ds))
