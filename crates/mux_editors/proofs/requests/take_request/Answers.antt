-- A request is sent on, or refused.
use Rattle.std.proofs.Common.{◌<◌, ap, subst, sym, ◌∙◌}
use Rattle.event_model.specs.Does.{Does}
use Rattle.event_model.specs.Event.{with_cause}
use Rattle.event_model.specs.Row.{◌⨾◌}
use Rattle.event_model.proofs.Places.{item_at, same_item}
use Rattle.event_model.proofs.Turns.{does_alike}
use Rattle.group_rows.specs.Rows.{forward, sync_row}
use Rattle.mux_history.specs.declared.cause.Cause.TheVariants.{FromEditor}
use Rattle.rpc_message.specs.Message.{message_of}
use Rattle.mux_tables.specs.declared.tables.Start.{Start}
use Rattle.mux_tables.specs.Documents.{AllStand, nothing_owed}
use Rattle.mux_tables.specs.Resumes.{unasked}
use Rattle.mux_tables.specs.Stands.{is_answer}
use Rattle.mux_tables.proofs.Asking.{answers_none}
use Rattle.mux_tables.proofs.DocumentOwed.{all_does, number_there}
use Rattle.mux_tables.specs.mux_tokens.proofs.Stays.{takes_none}
use Rattle.mux_editors.proofs.Beginning.{by_kept, same_kept, same_length}
use Rattle.mux_editors.proofs.Classes.{not_own, serves}
use Rattle.mux_editors.proofs.Runs.{no_shutdown, then_rest}
use Rattle.event_model.specs.Spawns.{start_of}
use Rattle.event_model.specs.Stages.{Life, is_ready}
use Rattle.mux_tables.specs.Stands.{of_life}
use Rattle.mux_editors.proofs.KeptBack.{full_ready}
use Rattle.mux_editors.proofs.Serving.{request_keeps, request_makes}
use Rattle.mux_editors.proofs.Staying.{unheld_refused, unheld_reserved}
use Rattle.mux_editors.proofs.requests.take_request.Goals as goal

pub returns-then-reserved-clause-does : goal.returns-then-reserved-clause-does
returns-then-reserved-clause-does c = λ settings before body method id params read says other served single first meant settled st ds.
    let e = c.args.e in
    let m = message_of body in
    let base = with_cause before (FromEditor e body) in
    let u = c.hear_running.new.tables in
    let xs = c.hear_running.new.outs in
    let serve = serves method (not_own method other) in
    let reserved = sym (c.in_ok-reserved.ensures body method id params read says) ∙ c.if-reserved.true in
    let begun = c.in_ok-hear_running.ensures.begun settings before body served (request_makes method id params serve m says) (answers_none settings e m before (ap is_answer says)) (takes_none settings e m before (no_shutdown m (request_makes method id params serve m says)) (ap is_answer says)) (unheld_reserved settings e body m before id method params says reserved) (request_keeps method id params serve before e m says) first meant settled st ds in
    then_rest begun.done (all_does settings u c.refuse_reserved.new.tables nothing_owed nothing_owed base xs c.refuse_reserved.new.outs
    (c.in_ok-refuse_reserved.ensures.does settings before base body method id params read says reserved) (λ _ d. c.in_ok-refuse_reserved.ensures.documents settings nothing_owed base d))

pub returns-in_ok-take_untaken-in-None-clause-does : goal.returns-in_ok-take_untaken-in-None-clause-does
returns-in_ok-take_untaken-in-None-clause-does c = λ settings before body method id params read says other served single first meant settled st ds.
    let free = sym (c.in_ok-reserved.ensures body method id params read says) ∙ c.if-reserved.false in
    c.in_ok-take_untaken-in-None.ensures.does settings before body method id params read says other served single free (c.in-None.ensures.waits settings before body free st) first meant settled st ds

pub returns-in_ok-send_on-in-Some-clause-does : goal.returns-in_ok-send_on-in-Some-clause-does
returns-in_ok-send_on-in-Some-clause-does c = λ settings before body method id params read says other served single first meant settled st ds.
    let e = c.args.e in
    let m = message_of body in
    let t = c.args.tables.now in
    let u = c.hear_running-in-Some.new.tables in
    let xs = c.hear_running-in-Some.new.outs in
    let g = c.in-Some.g in
    let x = item_at t.lasts.items g c.in-Some.ensures.inside in
    let y = same_kept unasked u.lasts.items t.lasts.items (sym c.in_ok-hear_running-in-Some.ensures.rest) g x.0 x.1 in
    let s = x.0.life.start in
    let last = st.lasts.each g x.0 x.1 in
    let ready = ap (λ (l : Life). is_ready l.stage) (last.parts of_life) ∙ ap is_ready (c.in-Some.ensures.takes x.0 x.1).0 in
    let serve = serves method (not_own method other) in
    let begun = c.in_ok-hear_running-in-Some.ensures.begun settings before body served (request_makes method id params serve m says) (answers_none settings e m before (ap is_answer says)) (takes_none settings e m before (no_shutdown m (request_makes method id params serve m says)) (ap is_answer says)) (unheld_refused settings e body m before (λ h home. full_ready settings before e body h s (ap (λ n. start_of n before) (same_item (sym home ∙ c.in-Some.ensures.home settings before x.0 x.1 st)) ∙ last.start) ready)) (request_keeps method id params serve before e m says) first meant settled st ds in
    then_rest begun.done (does_alike (λ _. c.in-Some.ensures.goes settings before body s x.0 x.1 (number_there t.lasts.items g x.0 x.1) (sym (c.in_ok-reserved.ensures body method id params read says) ∙ c.if-reserved.false) st)
    (by_kept (λ n k. Does (λ k events. AllStand settings k events) (sync_row settings before n k e ⨾ forward settings k body) (with_cause before (FromEditor e body)) (u, nothing_owed) xs (c.send_on.new.tables, nothing_owed) c.send_on.new.outs) x.0 y.0 y.1.1
    (c.in_ok-send_on-in-Some.ensures.does settings before body method id params y.0.life.start read says other begun.asks (number_there u.lasts.items g y.0 y.1.0) y.0 y.1.0)))

pub send_on-requires-clause-group : goal.send_on-requires-clause-group
send_on-requires-clause-group c = subst (λ n. c.in-Some.g < n) (sym (same_length unasked c.args.tables.now.lasts.items c.hear_running-in-Some.new.tables.lasts.items c.in_ok-hear_running-in-Some.ensures.rest)) c.in-Some.ensures.inside

pub send_on-requires-clause-takes : goal.send_on-requires-clause-takes
send_on-requires-clause-takes c = λ y at.
    let x = same_kept unasked c.args.tables.now.lasts.items c.hear_running-in-Some.new.tables.lasts.items c.in_ok-hear_running-in-Some.ensures.rest c.in-Some.g y at in
    let takes = c.in-Some.ensures.takes x.0 x.1.0 in
    (ap (λ (w : Start). w.life.stage) x.1.1 ∙ takes.0, subst (λ (w : Start). w.ids.next < w.ids.limit) (sym x.1.1) takes.1)
