-- A whole request for the folders of the group.
use Rattle.std.proofs.Common.{ap, subst, sym, ◌∙◌}
use Rattle.std.specs.Prelude.{slice_get}
use Rattle.mux_history.specs.declared.cause.Cause.TheVariants.{FromServer}
use Rattle.mux_history.specs.declared.out.Out.TheVariants.{ToServer}
use Rattle.event_model.specs.Does.{Does}
use Rattle.event_model.specs.Event.{behind, with_cause}
use Rattle.event_model.specs.Row.{nothing, on, send}
use Rattle.event_model.specs.Stages.{is_first_result}
use Rattle.event_model.proofs.Turns.{alike, does_alike, does_nothing}
use Rattle.mux_turns.specs.group_facts.specs.Facts.{IsWritten}
use Rattle.mux_turns.specs.group_facts.proofs.Forwards.{get_all}
use Rattle.group_rows.specs.AskRows.{folders_row}
use Rattle.group_rows.specs.Asks.{asking_of}
use Rattle.group_words.specs.declared.kept.Kept.{Kept}
use Rattle.group_words.specs.Houses.{groups_of, is_first_error}
use Rattle.group_words.specs.Rows.{folders_text}
use Rattle.rpc_message.specs.Message.{id_bytes, message_of}
use Rattle.rpc_message.specs.Texts.{ok_text}
use Rattle.mux_tables.specs.Documents.{AllStand, nothing_owed}
use Rattle.mux_tables.proofs.DocumentOwed.{all_does}
use Rattle.mux_starts.proofs.Early.{asked_named}
use Rattle.mux_turns.proofs.Folders.{answer_none, answer_some}
use Rattle.mux_turns.proofs.Matched.{not_early, not_first, not_spawning, whole_entry}
use Rattle.mux_starts.proofs.Parking.{hasty, other_keeps}
use Rattle.mux_starts.proofs.Singles.{fresh_here, lists_one, none_under}
use Rattle.mux_starts.proofs.Uncreated.{other_creates}
use Rattle.mux_starts.proofs.Unlisted.{asks_unlisted}
use Rattle.mux_starts.proofs.folders.take_folders.Goals as goal

pub returns-in-None-clause-does : goal.returns-in-None-clause-does
returns-in-None-clause-does c = λ settings before body method id params s x read says off other uncreating fresh first here ready at known settled st ds.
    let m = message_of body in
    let base = with_cause before (FromServer s body) in
    let u = c.hear_answer.new.self in
    let xs = c.args.outs.now in
    let stay = hasty settings before s body id method params says off in
    let moved = c.hear_answer.ensures.moves settings before s body x here at (not_early (is_first_result m) x.life.stage ready) (not_first (is_first_error m) x.life.stage ready) stay (other_keeps settings before s body id method params says other) (asks_unlisted before s body id method params says) (other_creates settings before s body id method params says uncreating) (asked_named m id method params says) st in
    let docs = c.hear_answer.ensures.documents settings nothing_owed before s body x here at (not_first (is_first_result m) x.life.stage ready) (λ e. not_spawning x.life.stage ready e) st ds in
    let none = answer_none (λ (k : Kept). ok_text (id_bytes body) (folders_text k.key.folders)) (slice_get (groups_of settings before) x.life.group) (sym c.in-None.is ∙ c.in_ok-answer.ensures settings before body x read here settled st) in
    whole_entry (λ k events. AllStand settings k events) (folders_row settings before x.life.group s body) base (u, nothing_owed) (u, nothing_owed) xs xs first (moved, docs)
    (does_alike (λ _. alike (ap (λ o. on o nothing (λ (k : Kept). send (ToServer s (ok_text (id_bytes body) (folders_text k.key.folders))))) none)) does_nothing)

pub returns-in_ok-respond-in-Some-clause-does : goal.returns-in_ok-respond-in-Some-clause-does
returns-in_ok-respond-in-Some-clause-does c = λ settings before body method id params s x read says off other uncreating fresh first here ready at known settled st ds.
    let m = message_of body in
    let base = with_cause before (FromServer s body) in
    let u = c.hear_answer.new.self in
    let xs = c.args.outs.now in
    let ys = c.respond.new.outs in
    let text = c.in-Some.text in
    let stay = hasty settings before s body id method params says off in
    let moved = c.hear_answer.ensures.moves settings before s body x here at (not_early (is_first_result m) x.life.stage ready) (not_first (is_first_error m) x.life.stage ready) stay (other_keeps settings before s body id method params says other) (asks_unlisted before s body id method params says) (other_creates settings before s body id method params says uncreating) (asked_named m id method params says) st in
    let docs = c.hear_answer.ensures.documents settings nothing_owed before s body x here at (not_first (is_first_result m) x.life.stage ready) (λ e. not_spawning x.life.stage ready e) st ds in
    let kept = answer_some (λ (k : Kept). ok_text (id_bytes body) (folders_text k.key.folders)) (slice_get (groups_of settings before) x.life.group) text (sym c.in-Some.is ∙ c.in_ok-answer.ensures settings before body x read here settled st) in
    let one = lists_one text body method id params says kept.0 (get_all IsWritten (groups_of settings before) x.life.group kept.0 known.written kept.1) kept.2 in
    let open_none = none_under text id (asking_of settings s (behind base xs)) one.answers (fresh_here settings before s body xs first id stay fresh) in
    whole_entry (λ k events. AllStand settings k events) (folders_row settings before x.life.group s body) base (u, nothing_owed) (u, nothing_owed) xs ys first (moved, docs)
    (does_alike (λ _. alike (ap (λ o. on o nothing (λ (k : Kept). send (ToServer s (ok_text (id_bytes body) (folders_text k.key.folders))))) kept.1))
    (subst (λ w. Does (λ k events. AllStand settings k events) (send (ToServer s w)) base (u, nothing_owed) xs (u, nothing_owed) ys) kept.2
    (all_does settings u u nothing_owed nothing_owed base xs ys
    (c.in_ok-respond-in-Some.ensures.does settings base s (ap (λ ns. slice_get ns c.args.g) c.hear_answer.ensures.starts ∙ at) one.runs one.counts open_none.asks open_none.parked)
    (λ _ d. c.in_ok-respond-in-Some.ensures.documents settings nothing_owed base one.says one.aside d))))
