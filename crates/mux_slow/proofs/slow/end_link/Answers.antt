-- Its link is to be ended, and it leaves.
use Rattle.std.proofs.Common.{ap, map, subst, sym}
use Rattle.event_model.specs.Event.{behind}
use Rattle.event_model.proofs.Turns.{does_knowing, does_then}
use Rattle.mux_tables.specs.Documents.{nothing_owed}
use Rattle.mux_tables.specs.Stands.{house_in, number_in, stage_in}
use Rattle.mux_tables.proofs.DocumentOwed.{all_does}
use Rattle.mux_turns.specs.Leavings.{Leaves}
use Rattle.mux_turns.proofs.Departing.{owing_of, pays_later}
use Rattle.mux_slow.proofs.slow.end_link.Goals as goal

pub returns-clause-does : goal.returns-clause-does
returns-clause-does c = λ settings base. does_knowing (λ s.
    let e = c.args.e in
    let t = c.args.tables.now in
    let v = c.close.new.self in
    let xs = c.args.outs.now in
    let place = behind base xs in
    let left = c.in_ok-owed.ensures.documents settings base s.0 s.1 in
    let o = owing_of settings place e t s.0 v (behind base c.close.new.outs) c.in_ok-owed.owed left in
    let lasts = c.close.ensures.lasts in
    let pays = pays_later settings place e t v c.in_ok-owed.owed o.0 (ap (λ ls. map number_in ls.items) lasts) (ap (λ ls. map stage_in ls.items) lasts) (ap (λ ls. map house_in ls.items) lasts) o.1.0 in
    let leaves = subst (λ ns. Leaves settings place e ns c.in_ok-left.left) (sym (ap (λ ls. ls.items) lasts)) (c.in_ok-left.ensures.leaves settings place s.0) in
    does_then (all_does settings t v nothing_owed o.0 base xs c.close.new.outs (c.in_ok-owed.ensures.does settings base) (λ _ _. o.1.1)) (c.in_ok-depart.ensures.does settings place base e o.0 leaves pays))
