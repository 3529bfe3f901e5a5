-- A response of an editor that is served.
use Rattle.std.proofs.Common.{ap, sym, subst, ◌∙◌}
use Rattle.event_model.specs.Spawns.{start_of}
use Rattle.event_model.specs.Stages.{is_ready}
use Rattle.event_model.proofs.Places.{item_at}
use Rattle.event_model.proofs.Turns.{does_alike, does_nothing}
use Rattle.rpc_message.specs.Message.{message_of}
use Rattle.mux_tables.specs.Stands.{AnswersOne}
use Rattle.mux_tables.proofs.DocumentOwed.{number_there}
use Rattle.mux_tables.proofs.Homes.{group_seen}
use Rattle.mux_tables.proofs.Lasts.{same_place}
use Rattle.mux_editors.proofs.Handing.{ended_reply, ended_silent, reply_keeps, reply_makes, unready_reply}
use Rattle.mux_editors.proofs.Runs.{then_rest}
use Rattle.mux_editors.proofs.Takings.{takes_ended}
use Rattle.mux_editors.proofs.Staying.{unheld_response}
use Rattle.mux_editors.proofs.handed.take_reply.Goals as goal

pub returns-in_ok-hear_running-in-None-clause-does : goal.returns-in_ok-hear_running-in-None-clause-does
returns-in_ok-hear_running-in-None-clause-does c = λ settings before body g s read response served home last one meant first settled st ds.
    let e = c.args.e in
    let m = message_of body in
    let over = ended_reply settings before e g s body home last (c.in-None.ensures.none settings before st) in
    let silent = ended_silent settings before e g s body home last over one in
    let untaken = takes_ended settings before settled c.args.tables.now st e g s m home last over in
    let begun = c.in_ok-hear_running-in-None.ensures.begun settings before body served (reply_makes m response) silent untaken (unheld_response settings e body m before response) (reply_keeps before e m response) first meant settled st ds in
    then_rest begun.done (does_alike (λ _. unready_reply settings before e g s body home last (ap is_ready over)) does_nothing)

pub returns-in_ok-reply_at-in-Some-clause-does : goal.returns-in_ok-reply_at-in-Some-clause-does
returns-in_ok-reply_at-in-Some-clause-does c = λ settings before body g s read response served home last one meant first settled st ds.
    let t = c.args.tables.now in
    let p = c.in-Some.g in
    let x = item_at t.lasts.items p c.in-Some.ensures.inside in
    let own = c.in-Some.ensures.home settings before x.0 x.1 st in
    let seen = (group_seen settings t before p x.0.life.start x.0 st x.1 (number_there t.lasts.items p x.0 x.1)).1 in
    let same = same_place (sym last ∙ (ap (λ k. start_of k before) (same_place (sym home ∙ own)) ∙ seen)) in
    c.in_ok-reply_at-in-Some.ensures.does settings before body x.0 read response served x.1 own (subst (λ n. AnswersOne settings n c.args.e (message_of body) before) same one) meant first settled st ds
