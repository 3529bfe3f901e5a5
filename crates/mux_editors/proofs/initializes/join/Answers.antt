-- An editor joins a group.
use Rattle.std.proofs.Common.{ap, sym, ◌∙◌}
use Rattle.event_model.specs.Event.{with_cause}
use Rattle.event_model.specs.Stages.{Life, is_ready}
use Rattle.mux_history.specs.declared.cause.Cause.TheVariants.{FromEditor}
use Rattle.mux_tables.proofs.Starts.{start_there}
use Rattle.mux_turns.proofs.Welcoming.{result_shown}
use Rattle.mux_editors.proofs.Initializing.{joins_ended, joins_unready, joins_waits, life_heard, starts_heard}
use Rattle.mux_editors.proofs.initializes.join.Goals as goal

pub returns-in-None-clause-does : goal.returns-in-None-clause-does
returns-in-None-clause-does c = λ settings before body method id params read says new results first st.
    let base = with_cause before (FromEditor c.args.e body) in
    joins_waits settings c.args.tables.now before c.args.e body c.args.g c.args.outs.now first (λ k. joins_ended base c.args.e body c.args.g (c.in-None.ensures.none settings base k))

pub returns-then-not-is_ready-clause-does : goal.returns-then-not-is_ready-clause-does
returns-then-not-is_ready-clause-does c = λ settings before body method id params read says new results first st.
    let base = with_cause before (FromEditor c.args.e body) in
    let s = start_there c.args.tables.now.lasts.items c.in-Some.place c.in-Some.ensures.inside in
    joins_waits settings c.args.tables.now before c.args.e body c.args.g c.args.outs.now first
    (λ k. joins_unready base c.args.e body c.args.g s.0 c.stage.result (c.in-Some.ensures.start settings base s.0 s.1 k) (c.stage.ensures settings base s.0 s.1 k) (sym c.is_ready.ensures ∙ c.if-not-is_ready.true))

pub returns-in_ok-welcome-in-Some-clause-does : goal.returns-in_ok-welcome-in-Some-clause-does
returns-in_ok-welcome-in-Some-clause-does c = λ settings before body method id params read says new results first st.
    let e = c.args.e in
    let base = with_cause before (FromEditor e body) in
    let t = c.args.tables.now in
    let s = start_there t.lasts.items c.in-Some.place c.in-Some.ensures.inside in
    let starts = sym (starts_heard before e body c.args.g) ∙ c.in-Some.ensures.start settings base s.0 s.1 st.0 in
    let ready = ap (λ (l : Life). is_ready l.stage) (sym (life_heard before e body s.0)) ∙ (ap is_ready (sym (c.stage.ensures settings base s.0 s.1 st.0)) ∙ (sym c.is_ready.ensures ∙ c.if-not-is_ready.false)) in
    (c.in_ok-welcome-in-Some.ensures.does settings before body method id params c.args.g s.0 read says new c.in-Some.ensures.number starts ready (λ given gave. result_shown given (results.each s.0 given gave)) first)
