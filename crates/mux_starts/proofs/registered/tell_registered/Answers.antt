-- An editor is told of what comes again, and of what is registered.
use Rattle.event_model.specs.Event.{behind}
use Rattle.event_model.proofs.Turns.{does_knowing, does_then}
use Rattle.group_rows.specs.Live.{unregister_text}
use Rattle.group_rows.specs.LiveRows.{has_some, unregister_any}
use Rattle.mux_tables.specs.Documents.{nothing_owed}
use Rattle.mux_turns.proofs.Called.{any_quiet, quiet_behind, rests_on, runs_on}
use Rattle.mux_starts.proofs.registered.tell_registered.Goals as goal

pub returns-clause-does : goal.returns-clause-does
returns-clause-does c = λ settings base gone items runs none.
    let e = c.args.e in
    let rs = c.args.gone.now in
    let xs = c.args.outs.now in
    let ys = c.call_unregistered_any.new.outs in
    let now = behind base xs in
    let mid = behind base ys in
    let one = c.in_ok-call_unregistered_any.ensures.does settings nothing_owed base gone runs none in
    does_knowing (λ k.
    let quiet = quiet_behind settings (unregister_any rs e) base xs ys (one.done k).outs (any_quiet settings (unregister_text rs) gone (has_some rs) e now) in
    does_then one (c.in_ok-call_registered.ensures.does settings nothing_owed base items (runs_on settings now mid quiet e runs) (rests_on settings now mid quiet none)))
