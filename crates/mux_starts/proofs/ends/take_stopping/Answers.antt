-- A message of a start that was sent `shutdown`.
use Rattle.std.proofs.Common.{ap, refl, sym, ◌∙◌}
use Rattle.std.specs.Prelude.{slice_get}
use Rattle.event_model.specs.Event.{with_cause}
use Rattle.event_model.specs.Stages.{Life, is_first_result, is_ready}
use Rattle.event_model.proofs.Places.{item_at}
use Rattle.event_model.proofs.Turns.{does_alike, does_nothing}
use Rattle.group_rows.specs.Rows.{stopping_row}
use Rattle.group_words.specs.Houses.{is_first_error}
use Rattle.mux_history.specs.declared.cause.Cause.TheVariants.{FromServer}
use Rattle.mux_tables.specs.Documents.{AllStand, nothing_owed}
use Rattle.rpc_message.specs.Message.{message_of}
use Rattle.mux_turns.proofs.Matched.{whole_entry}
use Rattle.mux_turns.proofs.Ready.{start_from}
use Rattle.mux_turns.proofs.Rows.{is_first, is_second}
use Rattle.mux_starts.proofs.Parking.{unready, unready_keeps}
use Rattle.mux_starts.proofs.Stopped.{is_late, late_begun, late_moved, late_runs, late_spawned, last_life}
use Rattle.mux_starts.proofs.Uncreated.{unready_creates}
use Rattle.mux_starts.proofs.Unlisted.{unready_unlisted}
use Rattle.mux_starts.proofs.ends.take_stopping.Goals as goal

pub returns-then-not-answers-clause-does : goal.returns-then-not-answers-clause-does
returns-then-not-answers-clause-does c = λ settings before body s read first at counted st ds.
    let t = c.args.tables.now in
    let m = message_of body in
    let x = start_from t.lasts.items c.args.g s at in
    let late = ap is_late (c.requires.stopping x.0 x.1) in
    let stage = x.0.life.stage in
    let named = c.answered_number-n.ensures body read in
    let unheard = ap (λ (l : Life). is_ready l.stage) (last_life settings t before c.args.g s x.0 x.1 at st) ∙ ap is_ready (c.requires.stopping x.0 x.1) in
    let heard = c.hear_answer.ensures.moves settings before s body x.0 x.1 at (late_begun (is_first_result m) stage late) (late_moved (is_first_error m) stage late) (unready settings before s body unheard) (unready_keeps settings before s body unheard) (unready_unlisted before s body unheard) (unready_creates settings before s body unheard) named st in
    let docs = c.hear_answer.ensures.documents settings nothing_owed before s body x.0 x.1 at (late_moved (is_first_result m) stage late) (late_spawned stage late) st ds in
    let off = sym (c.answers_shutdown-answers.ensures settings before s m at counted named st) ∙ c.if-not-answers.true in
    whole_entry (λ k events. AllStand settings k events) (stopping_row s before m) (with_cause before (FromServer s body)) (c.hear_answer.new.self, nothing_owed) (c.hear_answer.new.self, nothing_owed) c.args.outs.now c.args.outs.now first (heard, docs)
    (does_alike (λ _. is_second refl off) does_nothing)

pub exit_server-requires-clause-runs : goal.exit_server-requires-clause-runs
exit_server-requires-clause-runs c = λ w here ended.
    let z = item_at c.args.tables.now.lasts.items c.args.g c.requires.group in
    late_runs c.args.tables.now c.hear_answer.new.self c.args.g z.0 w z.1 here c.hear_answer.ensures.stages (c.requires.stopping z.0 z.1) ended

pub returns-clause-does : goal.returns-clause-does
returns-clause-does c = λ settings before body s read first at counted st ds.
    let t = c.args.tables.now in
    let m = message_of body in
    let x = start_from t.lasts.items c.args.g s at in
    let late = ap is_late (c.requires.stopping x.0 x.1) in
    let stage = x.0.life.stage in
    let named = c.answered_number-n.ensures body read in
    let unheard = ap (λ (l : Life). is_ready l.stage) (last_life settings t before c.args.g s x.0 x.1 at st) ∙ ap is_ready (c.requires.stopping x.0 x.1) in
    let heard = c.hear_answer.ensures.moves settings before s body x.0 x.1 at (late_begun (is_first_result m) stage late) (late_moved (is_first_error m) stage late) (unready settings before s body unheard) (unready_keeps settings before s body unheard) (unready_unlisted before s body unheard) (unready_creates settings before s body unheard) named st in
    let docs = c.hear_answer.ensures.documents settings nothing_owed before s body x.0 x.1 at (late_moved (is_first_result m) stage late) (late_spawned stage late) st ds in
    let on = sym (c.answers_shutdown-answers.ensures settings before s m at counted named st) ∙ c.if-not-answers.false in
    let base = with_cause before (FromServer s body) in
    whole_entry (λ k events. AllStand settings k events) (stopping_row s before m) base (c.hear_answer.new.self, nothing_owed) (c.exit_server.new.tables, nothing_owed) c.args.outs.now c.exit_server.new.outs first (heard, docs)
    (does_alike (λ _. is_first refl on) (c.in_ok-exit_server.ensures.does settings base s (ap (λ ns. slice_get ns c.args.g) c.hear_answer.ensures.starts ∙ at)))
