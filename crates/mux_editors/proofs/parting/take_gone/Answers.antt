-- Its link is gone.
use Rattle.std.proofs.Common.{ap, map, refl, subst, sym, ◌∙◌}
use Rattle.event_model.specs.Event.{with_cause}
use Rattle.event_model.specs.Phases.{desk_of, is_served}
use Rattle.event_model.proofs.Turns.{does_alike, does_nothing}
use Rattle.group_rows.specs.Rows.{gone_row}
use Rattle.mux_history.specs.declared.cause.Cause.TheVariants.{EditorGone}
use Rattle.mux_tables.specs.Documents.{AllStand, nothing_owed}
use Rattle.mux_tables.specs.Stands.{house_in, number_in, stage_in}
use Rattle.mux_turns.specs.Leavings.{Leaves}
use Rattle.mux_turns.proofs.Departing.{owing_of, pays_later}
use Rattle.mux_turns.proofs.Matched.{whole_entry}
use Rattle.mux_turns.proofs.Rows.{is_first, is_second}
use Rattle.mux_editors.proofs.parting.take_gone.Goals as goal

pub returns-in_ok-depart-clause-does : goal.returns-in_ok-depart-clause-does
returns-in_ok-depart-clause-does c = λ settings before why first st ds.
    let e = c.args.e in
    let base = with_cause before (EditorGone e why) in
    let t = c.args.tables.now in
    let u = c.hear_gone.new.self in
    let lasts = c.hear_gone.ensures.lasts in
    let served = ap is_served (sym (c.phase_of-phase.ensures.stands settings before st)) ∙ (sym c.is_served.ensures ∙ c.if-is_served.true) in
    let o = owing_of settings before e t st u base c.in_ok-owed.owed (c.in_ok-owed.ensures.documents settings before why st ds) in
    let pays = pays_later settings before e t u c.in_ok-owed.owed o.0 (ap (λ ls. map number_in ls.items) lasts) (ap (λ ls. map stage_in ls.items) lasts) (ap (λ ls. map house_in ls.items) lasts) o.1.0 in
    let leaves = subst (λ ns. Leaves settings before e ns c.in_ok-left.left) (sym (ap (λ ls. ls.items) lasts)) (c.in_ok-left.ensures.leaves settings before st) in
    whole_entry (λ k events. AllStand settings k events) (gone_row settings before e (desk_of e before).phase) base (u, o.0) (c.depart.new.tables, nothing_owed) c.args.outs.now c.depart.new.outs first
    (c.in_ok-owed.ensures.stands settings before why st, o.1.1) (does_alike (λ _. is_first refl served) (c.in_ok-depart.ensures.does settings before base e o.0 leaves pays))

pub returns-in_ok-hear_gone-clause-does : goal.returns-in_ok-hear_gone-clause-does
returns-in_ok-hear_gone-clause-does c = λ settings before why first st ds.
    let e = c.args.e in
    let base = with_cause before (EditorGone e why) in
    let u = c.hear_gone-else-is_served.new.self in
    let unserved = ap is_served (sym (c.phase_of-phase.ensures.stands settings before st)) ∙ (sym c.is_served.ensures ∙ c.if-is_served.false) in
    let docs = c.in_ok-hear_gone.ensures.unserved settings before why st unserved ds in
    whole_entry (λ k events. AllStand settings k events) (gone_row settings before e (desk_of e before).phase) base (u, nothing_owed) (u, nothing_owed) c.args.outs.now c.args.outs.now first
    (c.in_ok-hear_gone.ensures.stands settings before why st, docs.1) (does_alike (λ _. is_second refl unserved) does_nothing)
