-- An editor joins a group whose start is ready.
use Rattle.std.proofs.Common.{ap, sym, subst, ◌∙◌}
use Rattle.event_model.specs.Event.{behind, with_cause}
use Rattle.event_model.proofs.Places.{same_item}
use Rattle.event_model.proofs.Turns.{does_knowing}
use Rattle.mux_history.specs.declared.cause.Cause.TheVariants.{FromEditor}
use Rattle.rpc_message.specs.Texts.{ok_text}
use Rattle.mux_tables.specs.Documents.{nothing_owed}
use Rattle.mux_tables.specs.mux_waits.specs.Stands.{AnswersId}
use Rattle.mux_turns.proofs.Joining.{joins_ready, was_shown}
use Rattle.mux_turns.proofs.Welcoming.{kept_none}
use Rattle.mux_turns.proofs.placing.welcome.Goals as goal

pub returns-in-None-clause-does : goal.returns-in-None-clause-does
returns-in-None-clause-does c = λ settings before body method id params h s read says new mine starts ready whole first.
    let base = with_cause before (FromEditor c.args.e body) in
    does_knowing (λ k. kept_none (was_shown settings c.args.tables.now c.args.tables.now before c.args.e h s body method id params c.args.outs.now c.args.outs.now first says new starts ready _ c.args.g c.requires.group mine
    (λ n at r. c.in-None.ensures settings (behind base c.args.outs.now) n at k.0 r) k.0).2)

pub returns-in_ok-welcome-in-Some-clause-does : goal.returns-in_ok-welcome-in-Some-clause-does
returns-in_ok-welcome-in-Some-clause-does c = λ settings before body method id params h s read says new mine starts ready whole first.
    let base = with_cause before (FromEditor c.args.e body) in
    let text = c.in_ok-text-in-Some.text in
    does_knowing (λ k.
    let was = was_shown settings c.args.tables.now c.welcome.new.self before c.args.e h s body method id params c.args.outs.now c.welcome.new.outs first says new starts ready _ c.args.g c.requires.group mine
    (λ n at r. c.in-Some.ensures settings (behind base c.args.outs.now) n at k.0 r) k.0 in
    joins_ready settings c.args.tables.now c.welcome.new.self before c.args.e h s body method id params c.args.outs.now c.welcome.new.outs first says new starts ready was.0 text c.bytes.result.now was.1 (whole was.0 was.1)
    (c.in_ok-text-in-Some.ensures ∙ ap (λ w. ok_text w c.bytes.result.now) (c.id_bytes-id.ensures body read)) (c.bytes.ensures ∙ same_item was.2)
    (λ w a. c.in_ok-welcome-in-Some.ensures.does settings base w (subst (λ i. AnswersId i text) (sym (c.id_bytes-id.ensures body read)) a)) (λ ds. c.in_ok-welcome-in-Some.ensures.documents settings nothing_owed base ds))
