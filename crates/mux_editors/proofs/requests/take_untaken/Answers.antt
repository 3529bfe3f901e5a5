-- A request that no start takes waits, or is refused.
use Rattle.std.proofs.Common.{ap}
use Rattle.event_model.specs.Event.{with_cause}
use Rattle.event_model.proofs.Turns.{alike_then, does_alike, does_nothing}
use Rattle.mux_history.specs.declared.cause.Cause.TheVariants.{FromEditor}
use Rattle.rpc_message.specs.Message.{message_of}
use Rattle.mux_tables.specs.Documents.{nothing_owed}
use Rattle.mux_tables.specs.Stands.{is_answer}
use Rattle.mux_tables.proofs.Asking.{answers_none}
use Rattle.mux_tables.proofs.DocumentOwed.{all_does}
use Rattle.mux_tables.specs.mux_tokens.proofs.Stays.{takes_none}
use Rattle.mux_editors.proofs.Classes.{not_own, serves}
use Rattle.mux_editors.proofs.KeptBack.{asks_start, both_hold, refused_here, waits_here}
use Rattle.mux_editors.proofs.Runs.{no_shutdown, then_rest}
use Rattle.mux_editors.proofs.Serving.{request_keeps, request_makes}
use Rattle.mux_editors.proofs.Staying.{unheld_refused}
use Rattle.mux_editors.proofs.requests.take_untaken.Goals as goal

pub returns-in_ok-keep_back-in-Some-clause-does : goal.returns-in_ok-keep_back-in-Some-clause-does
returns-in_ok-keep_back-in-Some-clause-does c = λ settings before body method id params read says other served single free row first meant settled st ds.
    let m = message_of body in
    let serve = serves method (not_own method other) in
    let here = c.in-Some.ensures.held settings before body read st in
    let asks = asks_start before c.args.e body m id method params says other (not_own method other) single free in
    let begun = c.in_ok-keep_back-in-Some.ensures.begun settings before body method id params read says asks here.0 here.1 served (request_makes method id params serve m says) first meant settled st ds in
    then_rest begun.done (does_alike (λ _. alike_then row (waits_here settings before c.args.e body c.in-Some.g here.0 (both_hold here.1 here.2))) does_nothing)

pub returns-in_ok-refuse_request-in-None-clause-does : goal.returns-in_ok-refuse_request-in-None-clause-does
returns-in_ok-refuse_request-in-None-clause-does c = λ settings before body method id params read says other served single free row first meant settled st ds.
    let e = c.args.e in
    let m = message_of body in
    let base = with_cause before (FromEditor e body) in
    let u = c.hear_running.new.tables in
    let xs = c.hear_running.new.outs in
    let serve = serves method (not_own method other) in
    let full = c.in-None.ensures.full settings before body read settled served st in
    let begun = c.in_ok-hear_running-in-None.ensures.begun settings before body served (request_makes method id params serve m says) (answers_none settings e m before (ap is_answer says)) (takes_none settings e m before (no_shutdown m (request_makes method id params serve m says)) (ap is_answer says)) (unheld_refused settings e body m before full) (request_keeps method id params serve before e m says) first meant settled st ds in
    then_rest begun.done (all_does settings u c.refuse_request.new.tables nothing_owed nothing_owed base xs c.refuse_request.new.outs
    (c.in_ok-refuse_request-in-None.ensures.does settings before base body method id params read says (alike_then row (refused_here settings before e body full))) (λ _ d. c.in_ok-refuse_request-in-None.ensures.documents settings nothing_owed base d))
