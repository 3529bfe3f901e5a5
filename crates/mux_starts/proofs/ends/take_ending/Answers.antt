-- A message of a start that is to end.
use Rattle.std.proofs.Common.{[], ap, refl, ◌∙◌}
use Rattle.event_model.specs.Event.{with_cause}
use Rattle.event_model.specs.Stages.{Life, is_first_result, is_ready}
use Rattle.event_model.proofs.Turns.{alike, does_alike, does_nothing}
use Rattle.group_rows.specs.Rows.{from_server, row_of}
use Rattle.group_words.specs.Houses.{is_first_error}
use Rattle.mux_history.specs.declared.cause.Cause.TheVariants.{FromServer}
use Rattle.mux_tables.specs.Documents.{AllStand, nothing_owed}
use Rattle.rpc_message.specs.Message.{message_of}
use Rattle.mux_turns.proofs.Matched.{whole_entry}
use Rattle.mux_turns.proofs.Ready.{start_from}
use Rattle.mux_starts.proofs.Parking.{unready, unready_keeps}
use Rattle.mux_starts.proofs.Stopped.{is_late, last_life, late_begun, late_moved, late_spawned}
use Rattle.mux_starts.proofs.Uncreated.{unready_creates}
use Rattle.mux_starts.proofs.Unlisted.{unready_unlisted}
use Rattle.mux_starts.proofs.ends.take_ending.Goals as goal

pub returns-clause-does : goal.returns-clause-does
returns-clause-does c = λ settings before body s read at st ds.
    let t = c.args.tables.now in
    let m = message_of body in
    let x = start_from t.lasts.items c.args.g s at in
    let late = ap is_late (c.requires.ending x.0 x.1) in
    let stage = x.0.life.stage in
    let named = c.answered_number.ensures body read in
    let unheard = ap (λ (l : Life). is_ready l.stage) (last_life settings t before c.args.g s x.0 x.1 at st) ∙ ap is_ready (c.requires.ending x.0 x.1) in
    let heard = c.hear_answer.ensures.moves settings before s body x.0 x.1 at (late_begun (is_first_result m) stage late) (late_moved (is_first_error m) stage late) (unready settings before s body unheard) (unready_keeps settings before s body unheard) (unready_unlisted before s body unheard) (unready_creates settings before s body unheard) named st in
    let docs = c.hear_answer.ensures.documents settings nothing_owed before s body x.0 x.1 at (late_moved (is_first_result m) stage late) (late_spawned stage late) st ds in
    let stands = ap (λ (l : Life). l.stage) (last_life settings t before c.args.g s x.0 x.1 at st) ∙ c.requires.ending x.0 x.1 in
    whole_entry (λ k events. AllStand settings k events) (row_of settings before (FromServer s body)) (with_cause before (FromServer s body)) (c.hear_answer.new.self, nothing_owed) (c.hear_answer.new.self, nothing_owed) [] [] refl (heard, docs)
    (does_alike (λ _. alike (ap (from_server settings s before body m) stands)) does_nothing)
