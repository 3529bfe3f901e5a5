-- An editor that waits is answered.
use Rattle.std.proofs.Common.{ap, subst, sym, ◌∙◌}
use Rattle.event_model.proofs.Places.{same_item}
use Rattle.rpc_message.specs.Texts.{ok_text}
use Rattle.mux_tables.specs.Documents.{nothing_owed}
use Rattle.mux_tables.specs.mux_waits.specs.Stands.{AnswersId}
use Rattle.mux_turns.proofs.Welcoming.{greets, kept_none, tells_none, tells_one}
use Rattle.mux_starts.proofs.results.greet.Goals as goal

pub returns-in-None-clause-told : goal.returns-in-None-clause-told
returns-in-None-clause-told c = tells_none c.args.outs.now

pub returns-in-None-clause-does : goal.returns-in-None-clause-does
returns-in-None-clause-does c = λ settings base body are shown greeted kept. kept_none (c.in-None.ensures ∙ kept)

pub returns-in_ok-welcome-in-Some-clause-told : goal.returns-in_ok-welcome-in-Some-clause-told
returns-in_ok-welcome-in-Some-clause-told c = tells_one c.args.outs.now c.welcome.new.outs c.args.e c.in_ok-text-in-Some.text c.in_ok-welcome-in-Some.ensures.outs

pub returns-in_ok-welcome-in-Some-clause-does : goal.returns-in_ok-welcome-in-Some-clause-does
returns-in_ok-welcome-in-Some-clause-does c = λ settings base body are shown greeted kept.
    let it = c.in_ok-own-in-Some.ensures ∙ same_item (c.in-Some.ensures ∙ kept) in
    let own = c.bytes.ensures ∙ it in
    greets settings c.args.tables.now c.welcome.new.self base c.args.outs.now c.welcome.new.outs c.args.e body c.in_ok-text-in-Some.text c.args.shown.now greeted shown
    (c.in_ok-text-in-Some.ensures ∙ ap (λ w. ok_text w c.args.shown.now) own) are
    (λ w answers. c.in_ok-welcome-in-Some.ensures.does settings base w (subst (λ i. AnswersId i c.in_ok-text-in-Some.text) (sym (c.bytes-in-Some.ensures ∙ it)) answers)) (λ ds. c.in_ok-welcome-in-Some.ensures.documents settings nothing_owed base ds)
