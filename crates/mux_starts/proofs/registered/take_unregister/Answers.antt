-- S7: a whole request that takes back.
use Rattle.std.proofs.Common.{◌<◌, length, Some, ap, subst, sym, ◌∙◌}
use Rattle.std.specs.Prelude.{option_map, slice_get}
use Rattle.std.specs.List.{All}
use Rattle.mux_history.specs.declared.cause.Cause.TheVariants.{FromServer}
use Rattle.event_model.specs.Event.{with_cause}
use Rattle.event_model.specs.Stages.{is_first_result}
use Rattle.event_model.proofs.Turns.{does_alike}
use Rattle.group_rows.specs.Asks.{may_wait, running_in}
use Rattle.group_rows.specs.Created.{names_create}
use Rattle.group_rows.specs.Live.{if_live, live_of}
use Rattle.group_rows.specs.LiveRows.{unregister_row}
use Rattle.group_words.specs.Houses.{is_first_error}
use Rattle.rpc_message.specs.Message.{message_of}
use Rattle.std.specs.Option.{option_and_then}
use Rattle.mux_tables.specs.Documents.{AllStand, nothing_owed}
use Rattle.mux_tables.proofs.Registering.{kept_live}
use Rattle.mux_turns.proofs.Matched.{not_early, not_first, not_spawning, whole_entry}
use Rattle.mux_starts.proofs.Early.{asked_named}
use Rattle.mux_starts.proofs.Parking.{hasty}
use Rattle.mux_starts.proofs.Registering.{kept_row}
use Rattle.mux_starts.proofs.Singles.{fresh_here}
use Rattle.mux_starts.proofs.Uncreated.{other_creates}
use Rattle.mux_starts.proofs.Unlisted.{asks_unlisted}
use Rattle.mux_starts.proofs.registered.take_unregister.Goals as goal

pub take_back-requires-clause-editors : goal.take_back-requires-clause-editors
take_back-requires-clause-editors c = subst (λ ns. All (λ e. e < length c.args.tables.now.editors) ns) (sym c.deref-in-Some.ensures.value) c.in_ok-numbers.ensures.inside

pub returns-in-None-clause-does : goal.returns-in-None-clause-does
returns-in-None-clause-does c = λ settings before body method id params s x read says class fresh first here ready at st ds.
    let m = message_of body in
    let base = with_cause before (FromServer s body) in
    let u = c.hear_answer.new.self in
    let xs = c.args.outs.now in
    let ys = c.decline.new.outs in
    let none = ap (option_and_then (if_live (live_of settings s before))) (sym (c.in_ok-found.ensures body read) ∙ ap (option_map (λ v. v.items)) c.in-None.is) in
    let stay = hasty settings before s body id method params says (ap may_wait class) in
    let moved = c.hear_answer.ensures.moves settings before s body x here at (not_early (is_first_result m) x.life.stage ready) (not_first (is_first_error m) x.life.stage ready) stay (kept_live settings s s before body method m id params says class none) (asks_unlisted before s body id method params says) (other_creates settings before s body id method params says (ap names_create class)) (asked_named m id method params says) st in
    let docs = c.hear_answer.ensures.documents settings nothing_owed before s body x here at (not_first (is_first_result m) x.life.stage ready) (λ e. not_spawning x.life.stage ready e) st ds in
    whole_entry (λ k events. AllStand settings k events) (unregister_row settings before x.life.group s body) base (u, nothing_owed) (u, nothing_owed) xs ys first (moved, docs)
    (does_alike (λ _. kept_row settings before x.life.group s body none)
    (c.in_ok-decline-in-None.ensures.does settings base body method id params s read says (ap (λ ns. slice_get ns c.args.g) c.hear_answer.ensures.starts ∙ at) (fresh_here settings before s body xs first id stay fresh)))

pub returns-clause-does : goal.returns-clause-does
returns-clause-does c = λ settings before body method id params s x read says class fresh first here ready at st ds.
    let named = sym (c.in_ok-found.ensures body read) ∙ (ap (option_map (λ v. v.items)) c.in-Some.is ∙ ap Some (sym c.deref.ensures.value)) in
    let those = c.deref-in-Some.ensures.value ∙ (c.in_ok-numbers.ensures.those settings before st ∙ ap (λ h. running_in settings h before) (c.group_number-group.ensures x here)) in
    c.in_ok-take_back-in-Some.ensures.does settings before body method id params s x read says class named those fresh first here ready at st ds
