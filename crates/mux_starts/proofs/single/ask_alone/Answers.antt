-- An editor is asked alone.
use Rattle.std.proofs.Common.{◌<◌, length, ap, subst, sym}
use Rattle.event_model.specs.Event.{with_cause}
use Rattle.event_model.specs.Stages.{is_first_result}
use Rattle.group_rows.specs.AskRows.{ask}
use Rattle.group_words.specs.Houses.{is_first_error}
use Rattle.mux_history.specs.declared.cause.Cause.TheVariants.{FromServer}
use Rattle.rpc_message.specs.Message.{message_of}
use Rattle.mux_tables.specs.Documents.{AllStand, nothing_owed}
use Rattle.mux_tables.proofs.DocumentOwed.{all_does}
use Rattle.mux_starts.proofs.Early.{asked_named}
use Rattle.mux_turns.proofs.Matched.{not_early, not_first, not_spawning, whole_entry}
use Rattle.mux_starts.proofs.Parking.{attended, other_keeps, single_other}
use Rattle.mux_starts.proofs.Singles.{puts_one, runs_here, still}
use Rattle.mux_starts.proofs.Uncreated.{other_creates, single_creates}
use Rattle.mux_starts.proofs.Unlisted.{asks_unlisted}
use Rattle.mux_starts.proofs.single.ask_alone.Goals as goal

pub put-requires-clause-editor : goal.put-requires-clause-editor
put-requires-clause-editor c = subst (λ n. c.args.e < n) (sym (ap length c.hear_answer.ensures.editors)) c.requires.editor

pub returns-clause-does : goal.returns-clause-does
returns-clause-does c = λ settings before body method id params s x read says one attends fresh runs first here ready at st ds.
    let m = message_of body in
    let base = with_cause before (FromServer s body) in
    let u = c.hear_answer.new.self in
    let v = c.put.new.self in
    let e = c.args.e in
    let xs = c.args.outs.now in
    let ys = c.put.new.outs in
    let stay = attended settings before s body id method params says attends in
    let moved = c.hear_answer.ensures.moves settings before s body x here at (not_early (is_first_result m) x.life.stage ready) (not_first (is_first_error m) x.life.stage ready) stay (other_keeps settings before s body id method params says (single_other method one)) (asks_unlisted before s body id method params says) (other_creates settings before s body id method params says (single_creates method one)) (asked_named m id method params says) st in
    let docs = c.hear_answer.ensures.documents settings nothing_owed before s body x here at (not_first (is_first_result m) x.life.stage ready) (λ e. not_spawning x.life.stage ready e) st ds in
    let y = still c.args.tables.now u c.args.g s x here at ready c.hear_answer.ensures.starts c.hear_answer.ensures.stages in
    whole_entry (λ k events. AllStand settings k events) (ask body e) base (u, nothing_owed) (v, nothing_owed) xs ys first (moved, docs)
    (all_does settings u v nothing_owed nothing_owed base xs ys
    (c.in_ok-put.ensures.does settings base body method id params y.start y.at y.ready read says (single_creates method one) (runs_here settings before s body xs first e runs) (puts_one settings before s body method id params xs first says one stay fresh y.start.life.start y.own))
    (λ _ d. c.in_ok-put.ensures.documents settings nothing_owed base d))
