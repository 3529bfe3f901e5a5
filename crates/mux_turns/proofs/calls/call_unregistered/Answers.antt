-- An editor is told of registrations under its next number.
use Rattle.std.proofs.Common.{subst}
use Rattle.mux_history.specs.declared.out.Out.TheVariants.{ToEditor}
use Rattle.event_model.specs.Does.{Does}
use Rattle.event_model.specs.Event.{behind}
use Rattle.event_model.specs.Row.{send}
use Rattle.group_facts.specs.group_rows.specs.Live.{unregister_text}
use Rattle.mux_tables.specs.Documents.{AllStand}
use Rattle.mux_tables.proofs.DocumentOwed.{all_does}
use Rattle.mux_tables.proofs.Numbering.{none_numbered, one_numbered}
use Rattle.mux_turns.proofs.Called.{next_call}
use Rattle.mux_turns.proofs.calls.call_unregistered.Goals as goal

pub returns-in_default-clause-does : goal.returns-in_default-clause-does
returns-in_default-clause-does c = λ settings owed base call runs none.
    let e = c.args.e in
    let xs = c.args.outs.now in
    none_numbered (λ k events. AllStand settings k events) (λ n. send (ToEditor e (unregister_text c.args.items.now n))) e base xs (c.args.tables.now, owed)
    (λ st. c.in_default.ensures settings (behind base xs) runs st.0)

pub returns-clause-does : goal.returns-clause-does
returns-clause-does c = λ settings owed base call runs none.
    let t = c.args.tables.now in
    let u = c.call.new.self in
    let e = c.args.e in
    let n = c.in-Some.n in
    let xs = c.args.outs.now in
    let ys = c.call.new.outs in
    let now = behind base xs in
    let is = c.in_ok-text.ensures in
    one_numbered (λ k events. AllStand settings k events) (λ n. send (ToEditor e (unregister_text c.args.items.now n))) e base xs (t, owed) n (λ st. c.in-Some.ensures settings now runs st.0) (u, owed) ys
    (λ left next.
    let one = next_call (unregister_text c.args.items.now) call e n now c.in_ok-text.text is left next in
    subst (λ w. Does (λ k events. AllStand settings k events) (send (ToEditor e w)) base (t, owed) xs (u, owed) ys) is
    (all_does settings t u owed owed base xs ys (c.in_ok-call.ensures.does settings base call.method one.0 runs one.1 call.impatient call.uncreating none)
    (λ _ d. c.in_ok-call.ensures.documents settings owed base d)))
