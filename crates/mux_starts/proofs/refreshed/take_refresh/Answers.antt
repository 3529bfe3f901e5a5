-- The start is answered, and each editor that runs is asked.
use Rattle.std.proofs.Common.{◌≡◌, ◌<◌, filter, length, true, ap, codes, sym, subst, ◌∙◌}
use Rattle.std.specs.Prelude.{slice_get}
use Rattle.std.specs.List.{All, AllByRecursion}
use Rattle.mux_history.specs.declared.cause.Cause.TheVariants.{FromServer}
use Rattle.mux_history.specs.declared.out.Out.TheVariants.{ToServer}
use Rattle.event_model.specs.Does.{Does}
use Rattle.event_model.specs.Event.{behind, with_cause}
use Rattle.event_model.specs.Phases.{desk_of, is_running}
use Rattle.event_model.specs.Row.{after, each, send}
use Rattle.event_model.specs.Stages.{is_first_result}
use Rattle.event_model.proofs.Turns.{does_knowing, does_then}
use Rattle.group_rows.specs.AskRows.{ask, refresh_row}
use Rattle.group_rows.specs.Asks.{asking_of, running_in}
use Rattle.group_rows.specs.Debts.{agrees_on_all}
use Rattle.group_words.specs.Houses.{is_first_error}
use Rattle.rpc_message.specs.Message.{message_of}
use Rattle.rpc_message.specs.Texts.{ok_text}
use Rattle.mux_tables.specs.Documents.{AllStand, nothing_owed}
use Rattle.mux_tables.proofs.DocumentOwed.{all_does}
use Rattle.mux_tables.proofs.Starts.{start_at_place}
use Rattle.mux_starts.proofs.Early.{asked_named}
use Rattle.mux_turns.proofs.Matched.{not_early, not_first, not_spawning, whole_entry}
use Rattle.mux_starts.proofs.Parking.{hasty, many_hasty, other_keeps}
use Rattle.mux_starts.proofs.Refreshing.{all_chosen, answered_keeps, kept_all}
use Rattle.mux_starts.proofs.Singles.{all_running, fresh_here, grants_one, none_under, rests_all, runs_here}
use Rattle.mux_starts.proofs.Uncreated.{other_creates}
use Rattle.mux_starts.proofs.Unlisted.{asks_unlisted}
use Rattle.mux_starts.proofs.refreshed.take_refresh.Goals as goal

pub ask_all-requires : goal.ask_all-requires
ask_all-requires c = subst (λ ns. All (λ e. e < length c.hear_answer.new.self.editors) ns) (sym c.deref-2.ensures.value)
    (c.in_ok-those.ensures.inside (length c.hear_answer.new.self.editors) (subst (λ ns. All (λ e. e < length c.hear_answer.new.self.editors) ns) (sym c.deref.ensures.value)
    (subst (λ n. All (λ e. e < n) c.in_ok-numbers.numbers.items) (sym (ap length c.hear_answer.ensures.editors)) c.in_ok-numbers.ensures.inside)))

pub returns-clause-does : goal.returns-clause-does
returns-clause-does c = λ settings before body method id params s x read says many impatient other uncreating fresh first here ready at st ds.
    let m = message_of body in
    let base = with_cause before (FromServer s body) in
    let u = c.hear_answer.new.self in
    let v = c.ask_all.new.tables in
    let xs = c.args.outs.now in
    let ys = c.respond.new.outs in
    let zs = c.ask_all.new.outs in
    let text = c.in_ok-text.text in
    let is = c.in_ok-text.ensures ∙ ap (λ w. ok_text w (codes "null")) (c.id_bytes.ensures body read) in
    let k = grants_one text body method id params says is in
    let all = c.deref.ensures.value ∙ (c.in_ok-numbers.ensures.those settings before st ∙ ap (λ h. running_in settings h before) (c.group_number-group.ensures x here)) in
    let those = c.deref-2.ensures.value ∙ (c.in_ok-those.ensures.those settings before x here ready st ds
    ∙ (ap (filter (agrees_on_all settings x.life.start before)) all ∙ ap (λ n. filter (agrees_on_all settings n before) (running_in settings x.life.group before)) (start_at_place c.args.tables.now.lasts.items c.args.g s x here at))) in
    let stay = hasty settings before s body id method params says (many_hasty method many) in
    let moved = c.hear_answer.ensures.moves settings before s body x here at (not_early (is_first_result m) x.life.stage ready) (not_first (is_first_error m) x.life.stage ready) stay (other_keeps settings before s body id method params says other) (asks_unlisted before s body id method params says) (other_creates settings before s body id method params says uncreating) (asked_named m id method params says) st in
    let docs = c.hear_answer.ensures.documents settings nothing_owed before s body x here at (not_first (is_first_result m) x.life.stage ready) (λ e. not_spawning x.life.stage ready e) st ds in
    let open_none = none_under text id (asking_of settings s (behind base xs)) k.answers (fresh_here settings before s body xs first id stay fresh) in
    let granted = all_does settings u u nothing_owed nothing_owed base xs ys
    (c.in_ok-respond.ensures.does settings base s (ap (λ ns. slice_get ns c.args.g) c.hear_answer.ensures.starts ∙ at) k.runs k.counts open_none.asks open_none.parked)
    (λ _ d. c.in_ok-respond.ensures.documents settings nothing_owed base k.says k.aside d) in
    let numbers = filter (agrees_on_all settings s before) (running_in settings x.life.group before) in
    let runs = kept_all numbers before (behind base xs) (λ e h. runs_here settings before s body xs first e h) (all_chosen (λ e. is_running (desk_of e before).phase ≡ true) (agrees_on_all settings s before) (running_in settings x.life.group before) (all_running settings x.life.group before)) in
    let idle = rests_all settings before s body xs first method id params says many in
    whole_entry (λ k events. AllStand settings k events) (refresh_row settings before x.life.group s body) base (u, nothing_owed) (v, nothing_owed) xs zs first (moved, docs)
    (subst (λ w. Does (λ k events. AllStand settings k events) (after (send (ToServer s w)) (each (ask body) numbers)) base (u, nothing_owed) xs (v, nothing_owed) zs) is
    (does_knowing (λ known.
    let kept = answered_keeps settings s text base xs ys (granted.done known).outs in
    does_then granted (subst (λ ns. Does (λ k events. AllStand settings k events) (each (ask body) ns) base (u, nothing_owed) ys (v, nothing_owed) zs) those
    (c.in_ok-ask_all.ensures.does settings base body method id params read says uncreating impatient (subst (λ ns. AllByRecursion (λ e. is_running (desk_of e (behind base ys)).phase ≡ true) ns) (sym those) (kept_all numbers (behind base xs) (behind base ys) (λ e h. ap is_running (kept.phases e) ∙ h) runs))
    (λ n. kept.rests n (idle n)))))))
