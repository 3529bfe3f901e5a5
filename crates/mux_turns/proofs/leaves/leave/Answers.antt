-- What was looked up is cancelled, and what was asked is refused.
use Rattle.std.proofs.Common.{subst}
use Rattle.event_model.specs.Does.{Does}
use Rattle.event_model.specs.Row.{each}
use Rattle.event_model.proofs.Places.{item_at}
use Rattle.event_model.proofs.Turns.{does_alike, does_then}
use Rattle.group_facts.specs.group_rows.specs.Leaves.{cancel}
use Rattle.mux_tables.specs.Stands.{Stands, number_in}
use Rattle.mux_turns.proofs.Departing.{mapped_on}
use Rattle.mux_turns.proofs.Stays.{refuses_as, stays}
use Rattle.mux_turns.proofs.leaves.leave.Goals as goal

pub returns-in_ok-refuse_asks-in-Some-clause-does : goal.returns-in_ok-refuse_asks-in-Some-clause-does
returns-in_ok-refuse_asks-in-Some-clause-does c = λ settings before base e leaves.
    let t = c.args.tables.now in
    let mid = c.cancel_all.new.tables in
    let g = c.in-Some.left.group in
    let kept = rw c.in-Some.is at leaves in
    let inside = rw c.in-Some.is at c.requires in
    let x = item_at t.lasts.items g inside in
    let k = kept x.0 x.1 in
    let s = x.0.life.start in
    let y = stays t mid g x.0 x.1 k.0 c.in_ok-cancel_all-in-Some.ensures.starts c.in_ok-cancel_all-in-Some.ensures.stages c.in_ok-cancel_all-in-Some.ensures.asks in
    does_alike (λ _. k.1) (does_then
    (subst (λ ns. Does (λ t events. Stands settings t events) (each (cancel s) ns) base t c.args.outs.now mid c.cancel_all.new.outs) c.deref.ensures.value (c.in_ok-cancel_all-in-Some.ensures.does settings base s (mapped_on number_in t.lasts.items g x.0 x.1)))
    (refuses_as settings base t mid c.refuse_asks.new.self c.cancel_all.new.outs c.refuse_asks.new.outs g c.in-Some.left.editor x.0 y (c.in_ok-refuse_asks-in-Some.ensures.does settings base y.start y.at y.ready)))

pub returns-in_ok-refuse_asks-in-Some-clause-documents : goal.returns-in_ok-refuse_asks-in-Some-clause-documents
returns-in_ok-refuse_asks-in-Some-clause-documents c = λ settings owed before base e leaves st ds.
    let t = c.args.tables.now in
    let mid = c.cancel_all.new.tables in
    let g = c.in-Some.left.group in
    let kept = rw c.in-Some.is at leaves in
    let inside = rw c.in-Some.is at c.requires in
    let x = item_at t.lasts.items g inside in
    let k = kept x.0 x.1 in
    let y = stays t mid g x.0 x.1 k.0 c.in_ok-cancel_all-in-Some.ensures.starts c.in_ok-cancel_all-in-Some.ensures.stages c.in_ok-cancel_all-in-Some.ensures.asks in
    c.in_ok-refuse_asks-in-Some.ensures.documents settings owed base y.start y.at y.ready
    ((c.in_ok-cancel_all-in-Some.ensures.does settings base x.0.life.start (mapped_on number_in t.lasts.items g x.0 x.1)).done st).stands (c.in_ok-cancel_all-in-Some.ensures.documents settings owed base ds)
