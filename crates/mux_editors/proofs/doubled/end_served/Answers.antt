-- A `shutdown` under an id that is open.
use Rattle.std.proofs.Common.{ap, map, subst, sym, ◌∙◌}
use Rattle.event_model.specs.Event.{with_cause}
use Rattle.event_model.specs.Phases.{desk_of, is_served}
use Rattle.event_model.proofs.Turns.{does_then}
use Rattle.group_rows.specs.Rows.{closing_row}
use Rattle.mux_history.specs.declared.cause.Cause.TheVariants.{FromEditor}
use Rattle.mux_tables.specs.Documents.{AllStand, DocumentsStand, nothing_owed}
use Rattle.mux_tables.specs.Stands.{Stands, house_in, number_in, stage_in}
use Rattle.mux_tables.proofs.DocumentOwed.{all_does}
use Rattle.mux_turns.specs.Leavings.{Leaves}
use Rattle.mux_turns.proofs.Departing.{behind_first, owing_of, pays_later}
use Rattle.mux_editors.proofs.Doubling.{down_now}
use Rattle.mux_turns.proofs.Matched.{whole_entry}
use Rattle.mux_editors.proofs.doubled.end_served.Goals as goal

pub returns-clause-does : goal.returns-clause-does
returns-clause-does c = λ settings before body asks served first st ds.
    let e = c.args.e in
    let base = with_cause before (FromEditor e body) in
    let t = c.args.tables.now in
    let u = c.hear_shutdown.new.self in
    let v = c.close.new.self in
    let xs = c.args.outs.now in
    let heard = c.in_ok-owed.ensures.stands settings before body served asks st in
    let lasts = c.close.ensures.lasts ∙ c.hear_shutdown.ensures.lasts in
    let o = owing_of settings before e t st u base c.in_ok-owed.owed (c.in_ok-owed.ensures.documents settings before body served asks st ds) in
    let there = behind_first base xs first in
    let unserved = ap (λ es. is_served (desk_of e es).phase) there ∙ ap is_served (down_now before e body asks served) in
    let closed = c.in_ok-close.ensures.unserved settings o.0 base (subst (λ es. Stands settings u es) (sym there) heard) unserved (subst (λ es. DocumentsStand settings o.0 u es) (sym there) o.1.1) in
    let pays = pays_later settings before e t v c.in_ok-owed.owed o.0 (ap (λ ls. map number_in ls.items) lasts) (ap (λ ls. map stage_in ls.items) lasts) (ap (λ ls. map house_in ls.items) lasts) o.1.0 in
    let leaves = subst (λ ns. Leaves settings before e ns c.in_ok-left.left) (sym (ap (λ ls. ls.items) lasts)) (c.in_ok-left.ensures.leaves settings before st) in
    whole_entry (λ k events. AllStand settings k events) (closing_row settings before e) base (u, o.0) (c.depart.new.tables, nothing_owed) xs c.depart.new.outs first (heard, o.1.1)
    (does_then (all_does settings u v o.0 o.0 base xs c.close.new.outs (c.in_ok-close.ensures.does settings base) (λ _ _. closed.1)) (c.in_ok-depart.ensures.does settings before base e o.0 leaves pays))
