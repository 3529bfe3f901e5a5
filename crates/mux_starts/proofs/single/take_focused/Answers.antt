-- The editor in focus is asked, or the request refused.
use Rattle.std.proofs.Common.{◌≡◌, true, ◌<◌, length, ap, sym, subst, ◌∙◌}
use Rattle.std.specs.Prelude.{IfSome, slice_get}
use Rattle.mux_history.specs.declared.cause.Cause.TheVariants.{FromServer}
use Rattle.mux_history.specs.declared.out.Out.TheVariants.{ToServer}
use Rattle.event_model.specs.Event.{with_cause}
use Rattle.event_model.specs.Phases.{desk_of, is_running}
use Rattle.event_model.specs.Row.{on, send}
use Rattle.event_model.specs.Stages.{is_first_result}
use Rattle.event_model.proofs.Turns.{alike, does_alike}
use Rattle.group_rows.specs.AskRows.{ask_in_focus, focused_row}
use Rattle.group_rows.specs.Asks.{running_in}
use Rattle.group_rows.specs.Forwarded.{forwarding_of}
use Rattle.group_words.specs.Houses.{is_first_error}
use Rattle.rpc_message.specs.Message.{id_bytes, message_of}
use Rattle.rpc_message.specs.Texts.{error_text, request_failed}
use Rattle.mux_tables.specs.Documents.{AllStand, nothing_owed}
use Rattle.mux_starts.proofs.Early.{asked_named}
use Rattle.mux_turns.proofs.Matched.{done_alike, not_early, not_first, not_spawning, whole_entry}
use Rattle.mux_starts.proofs.Parking.{hasty, other_keeps, single_other}
use Rattle.mux_starts.proofs.Singles.{all_running, focus_has, fresh_here}
use Rattle.mux_starts.proofs.Uncreated.{other_creates, single_creates}
use Rattle.mux_starts.proofs.Unlisted.{asks_unlisted}
use Rattle.mux_starts.proofs.single.take_focused.Goals as goal

pub ask_in_focus-requires-clause-editor : goal.ask_in_focus-requires-clause-editor
ask_in_focus-requires-clause-editor c = subst (λ o. IfSome o (λ e. e < length c.args.tables.now.editors)) c.in-Some.is c.in_ok-focus.ensures.inside

pub returns-in_ok-deny-in-None-clause-does : goal.returns-in_ok-deny-in-None-clause-does
returns-in_ok-deny-in-None-clause-does c = λ settings before body method id params s x read says one off fresh first here ready at meant st ds.
    let m = message_of body in
    let base = with_cause before (FromServer s body) in
    let u = c.hear_answer.new.self in
    let xs = c.args.outs.now in
    let ys = c.deny.new.outs in
    let stay = hasty settings before s body id method params says off in
    let moved = c.hear_answer.ensures.moves settings before s body x here at (not_early (is_first_result m) x.life.stage ready) (not_first (is_first_error m) x.life.stage ready) stay (other_keeps settings before s body id method params says (single_other method one)) (asks_unlisted before s body id method params says) (other_creates settings before s body id method params says (single_creates method one)) (asked_named m id method params says) st in
    let docs = c.hear_answer.ensures.documents settings nothing_owed before s body x here at (not_first (is_first_result m) x.life.stage ready) (λ e. not_spawning x.life.stage ready e) st ds in
    let none = sym (c.in_ok-focus.ensures.focus settings before s x here at st) ∙ c.in-None.is in
    whole_entry (λ k events. AllStand settings k events) (focused_row settings before x.life.group s body method) base (u, nothing_owed) (u, nothing_owed) xs ys first (moved, docs)
    (does_alike (λ _. alike (ap (λ o. on o (send (ToServer s (error_text (id_bytes body) request_failed))) (ask_in_focus settings before s body method)) none))
    (c.in_ok-deny-in-None.ensures.does settings base body method id params s read says (ap (λ ns. slice_get ns c.args.g) c.hear_answer.ensures.starts ∙ at) (fresh_here settings before s body xs first id stay fresh)))

pub returns-in_ok-ask_in_focus-in-Some-clause-does : goal.returns-in_ok-ask_in_focus-in-Some-clause-does
returns-in_ok-ask_in_focus-in-Some-clause-does c = λ settings before body method id params s x read says one off fresh first here ready at meant st ds.
    let e = c.in-Some.e in
    let some = sym (c.in_ok-focus.ensures.focus settings before s x here at st) ∙ c.in-Some.is in
    let runs = focus_has (λ n. is_running (desk_of n before).phase ≡ true) (running_in settings x.life.group before) (forwarding_of settings s before).open_requests e (all_running settings x.life.group before) some in
    done_alike (λ k events. AllStand settings k events) (alike (ap (λ o. on o (send (ToServer s (error_text (id_bytes body) request_failed))) (ask_in_focus settings before s body method)) some))
    (c.in_ok-ask_in_focus-in-Some.ensures.does settings before body method id params s x read says one off fresh runs first here ready at meant st ds)
