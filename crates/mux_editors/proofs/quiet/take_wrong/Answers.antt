-- A request that an editor which is served may not send.
use Rattle.std.proofs.Common.{ap}
use Rattle.event_model.specs.Event.{with_cause}
use Rattle.mux_history.specs.declared.cause.Cause.TheVariants.{FromEditor}
use Rattle.rpc_message.specs.Message.{message_of}
use Rattle.mux_tables.specs.Documents.{nothing_owed}
use Rattle.mux_tables.proofs.DocumentOwed.{all_does}
use Rattle.mux_tables.specs.Stands.{is_answer}
use Rattle.mux_tables.proofs.Asking.{answers_none}
use Rattle.mux_tables.specs.mux_tokens.proofs.Stays.{takes_none}
use Rattle.mux_editors.proofs.Classes.{misplaced_serves}
use Rattle.mux_editors.proofs.Runs.{no_shutdown, then_rest}
use Rattle.mux_editors.proofs.Serving.{request_keeps, request_makes}
use Rattle.mux_editors.proofs.Staying.{unheld_misplaced}
use Rattle.mux_editors.proofs.quiet.take_wrong.Goals as goal

pub returns-clause-does : goal.returns-clause-does
returns-clause-does c = λ settings before body method id params read says wrong served first meant settled st ds.
    let e = c.args.e in
    let m = message_of body in
    let base = with_cause before (FromEditor e body) in
    let u = c.hear_running.new.tables in
    let xs = c.hear_running.new.outs in
    let serve = misplaced_serves method wrong in
    let begun = c.in_ok-hear_running.ensures.begun settings before body served (request_makes method id params serve m says) (answers_none settings e m before (ap is_answer says)) (takes_none settings e m before (no_shutdown m (request_makes method id params serve m says)) (ap is_answer says)) (unheld_misplaced settings e body m before id method params says wrong) (request_keeps method id params serve before e m says) first meant settled st ds in
    then_rest begun.done (all_does settings u c.refuse_wrong.new.tables nothing_owed nothing_owed base xs c.refuse_wrong.new.outs (c.in_ok-refuse_wrong.ensures.does settings base body method id params read says) (λ _ d. c.in_ok-refuse_wrong.ensures.documents settings nothing_owed base d))
