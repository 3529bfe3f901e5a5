-- A start cancels what it asked.
use Rattle.std.proofs.Common.{sym, ◌∙◌}
use Rattle.event_model.specs.Event.{with_cause}
use Rattle.event_model.specs.Stages.{is_first_result}
use Rattle.event_model.proofs.Turns.{does_alike, does_nothing}
use Rattle.group_rows.specs.AskRows.{cancelled_row}
use Rattle.group_words.specs.Houses.{is_first_error}
use Rattle.mux_history.specs.declared.cause.Cause.TheVariants.{FromServer}
use Rattle.rpc_message.specs.Message.{message_of}
use Rattle.mux_tables.specs.Documents.{AllStand, nothing_owed}
use Rattle.mux_tables.proofs.Starts.{start_at_place}
use Rattle.mux_starts.proofs.Early.{noticed_named}
use Rattle.mux_starts.proofs.Parking.{noticed, noticed_keeps}
use Rattle.mux_turns.proofs.Matched.{not_early, not_first, not_spawning, whole_entry}
use Rattle.mux_tables.specs.Stands.{of_asks}
use Rattle.mux_tables.proofs.Refusing.{ready_asks}
use Rattle.group_rows.specs.Asks.{asks_of}
use Rattle.group_rows.specs.Waiting.{named_id}
use Rattle.mux_starts.proofs.Recalls.{recalls_none, recalls_one, seat_small}
use Rattle.mux_starts.proofs.Uncreated.{other_tells}
use Rattle.mux_starts.proofs.Unlisted.{tells_unlisted}
use Rattle.mux_starts.proofs.recalled.take_recall.Goals as goal

pub returns-in-None-clause-does : goal.returns-in-None-clause-does
returns-in-None-clause-does c = λ settings before body method params s x read says untelling unlisting run first here ready at st ds.
    let m = message_of body in
    let base = with_cause before (FromServer s body) in
    let u = c.hear_answer.new.self in
    let xs = c.args.outs.now in
    let own = start_at_place c.args.tables.now.lasts.items c.args.g s x here at in
    let moved = c.hear_answer.ensures.moves settings before s body x here at (not_early (is_first_result m) x.life.stage ready) (not_first (is_first_error m) x.life.stage ready) (noticed settings before s body method params says) (noticed_keeps settings before s body method params says) (tells_unlisted before s body method params says unlisting) (other_tells settings before s body method params says untelling) (noticed_named m method params says) st in
    let docs = c.hear_answer.ensures.documents settings nothing_owed before s body x here at (not_first (is_first_result m) x.life.stage ready) (λ e. not_spawning x.life.stage ready e) st ds in
    whole_entry (λ k events. AllStand settings k events) (cancelled_row settings s before params) base (u, nothing_owed) (u, nothing_owed) xs xs first (moved, docs)
    (does_alike (λ _. recalls_none settings s x.life.start before params own (sym c.in-None.is ∙ c.named-seat.ensures settings before body method params x read says here ready st)) does_nothing)

pub returns-in_ok-recall-in-Some-clause-does : goal.returns-in_ok-recall-in-Some-clause-does
returns-in_ok-recall-in-Some-clause-does c = λ settings before body method params s x read says untelling unlisting run first here ready at st ds.
    let m = message_of body in
    let base = with_cause before (FromServer s body) in
    let u = c.hear_answer.new.self in
    let xs = c.args.outs.now in
    let own = start_at_place c.args.tables.now.lasts.items c.args.g s x here at in
    let seen = sym c.in-Some.is ∙ c.named-seat.ensures settings before body method params x read says here ready st in
    let asked = (ready_asks x.life.stage before (asks_of settings x.life.start before) x.asks ready ((st.lasts.each c.args.g x here).parts of_asks)).asked in
    let low = seat_small (named_id params) before (asks_of settings x.life.start before) c.in-Some.seat seen asked in
    let moved = c.hear_answer.ensures.moves settings before s body x here at (not_early (is_first_result m) x.life.stage ready) (not_first (is_first_error m) x.life.stage ready) (noticed settings before s body method params says) (noticed_keeps settings before s body method params says) (tells_unlisted before s body method params says unlisting) (other_tells settings before s body method params says untelling) (noticed_named m method params says) st in
    let docs = c.hear_answer.ensures.documents settings nothing_owed before s body x here at (not_first (is_first_result m) x.life.stage ready) (λ e. not_spawning x.life.stage ready e) st ds in
    whole_entry (λ k events. AllStand settings k events) (cancelled_row settings s before params) base (u, nothing_owed) (u, nothing_owed) xs c.recall.new.outs first (moved, docs)
    (does_alike (λ _. recalls_one settings s x.life.start before params c.in-Some.seat own seen run) (c.in_ok-recall-in-Some.ensures.does settings base low))
