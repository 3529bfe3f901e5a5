-- A notification goes on, or gives nothing.
use Rattle.std.proofs.Common.{◌<◌, ap, subst, sym, ◌∙◌, codes}
use Rattle.event_model.specs.Does.{Does}
use Rattle.event_model.specs.Event.{requests, with_cause}
use Rattle.event_model.specs.Row.{send, ◌⨾◌}
use Rattle.event_model.proofs.Places.{item_at}
use Rattle.event_model.proofs.Turns.{does_alike, does_nothing}
use Rattle.group_rows.specs.Rows.{sync_row}
use Rattle.group_rows.proofs.Going.{no_exit}
use Rattle.mux_history.specs.declared.cause.Cause.TheVariants.{FromEditor}
use Rattle.mux_history.specs.declared.out.Out.TheVariants.{ToServer}
use Rattle.rpc_message.specs.Message.{message_of}
use Rattle.mux_tables.specs.declared.tables.Start.{Start}
use Rattle.mux_tables.specs.Documents.{AllStand, nothing_owed}
use Rattle.mux_tables.specs.Resumes.{unasked}
use Rattle.mux_tables.specs.Stands.{is_answer}
use Rattle.mux_tables.proofs.Asking.{answers_none}
use Rattle.mux_tables.proofs.DocumentOwed.{number_there}
use Rattle.mux_tables.specs.mux_tokens.proofs.Stays.{takes_none}
use Rattle.mux_tables.specs.mux_waits.proofs.Unheld.{unheld_by}
use Rattle.group_rows.specs.Waiting.{is_for_start}
use Rattle.mux_editors.proofs.Beginning.{by_kept, same_kept, same_length}
use Rattle.mux_editors.proofs.Passing.{passed_keeps}
use Rattle.mux_editors.proofs.Runs.{then_rest}
use Rattle.mux_editors.proofs.Serving.{notice_makes}
use Rattle.mux_editors.proofs.passed.take_passed.Goals as goal

pub returns-in-None-clause-does : goal.returns-in-None-clause-does
returns-in-None-clause-does c = λ settings before body method params read says going served first meant settled st ds.
    let e = c.args.e in
    let m = message_of body in
    let begun = c.in_ok-hear_running.ensures.begun settings before body served (notice_makes method params (no_exit method going) m says) (answers_none settings e m before (ap is_answer says)) (takes_none settings e m before (ap (requests (codes "shutdown")) says) (ap is_answer says)) (unheld_by settings e body m before (ap (is_for_start before e body) says)) (passed_keeps method params going before e body says) first meant settled st ds in
    then_rest begun.done (does_alike (λ _. c.in-None.ensures.silent settings before body st) does_nothing)

pub returns-in_ok-go_on-in-Some-clause-does : goal.returns-in_ok-go_on-in-Some-clause-does
returns-in_ok-go_on-in-Some-clause-does c = λ settings before body method params read says going served first meant settled st ds.
    let e = c.args.e in
    let m = message_of body in
    let t = c.args.tables.now in
    let u = c.hear_running.new.tables in
    let xs = c.hear_running.new.outs in
    let g = c.in-Some.g in
    let x = item_at t.lasts.items g c.in-Some.ensures.inside in
    let y = same_kept unasked u.lasts.items t.lasts.items (sym c.in_ok-hear_running.ensures.rest) g x.0 x.1 in
    let begun = c.in_ok-hear_running.ensures.begun settings before body served (notice_makes method params (no_exit method going) m says) (answers_none settings e m before (ap is_answer says)) (takes_none settings e m before (ap (requests (codes "shutdown")) says) (ap is_answer says)) (unheld_by settings e body m before (ap (is_for_start before e body) says)) (passed_keeps method params going before e body says) first meant settled st ds in
    then_rest begun.done (does_alike (λ _. c.in-Some.ensures.goes settings before body x.0.life.start x.0 x.1 (number_there t.lasts.items g x.0 x.1) st)
    (by_kept (λ n k. Does (λ k events. AllStand settings k events) (sync_row settings before n k e ⨾ send (ToServer k body)) (with_cause before (FromEditor e body)) (u, nothing_owed) xs (c.go_on.new.tables, nothing_owed) c.go_on.new.outs) x.0 y.0 y.1.1
    (c.in_ok-go_on-in-Some.ensures.does settings before body method params y.0.life.start read says going begun.asks (number_there u.lasts.items g y.0 y.1.0) y.0 y.1.0)))

pub go_on-requires-clause-group : goal.go_on-requires-clause-group
go_on-requires-clause-group c = subst (λ n. c.in-Some.g < n) (sym (same_length unasked c.args.tables.now.lasts.items c.hear_running.new.tables.lasts.items c.in_ok-hear_running.ensures.rest)) c.in-Some.ensures.inside

pub go_on-requires-clause-ready : goal.go_on-requires-clause-ready
go_on-requires-clause-ready c = λ y at.
    let x = same_kept unasked c.args.tables.now.lasts.items c.hear_running.new.tables.lasts.items c.in_ok-hear_running.ensures.rest c.in-Some.g y at in
    ap (λ (w : Start). w.life.stage) x.1.1 ∙ c.in-Some.ensures.ready x.0 x.1.0
