-- The lowest editor that runs is asked.
use Rattle.std.proofs.Common.{◌≡◌, true, ◌<◌, length, ap, sym, ◌∙◌}
use Rattle.std.specs.Prelude.{None, Some}
use Rattle.event_model.specs.Event.{with_cause}
use Rattle.event_model.specs.Phases.{desk_of, is_running}
use Rattle.event_model.specs.Row.{nothing, on}
use Rattle.event_model.proofs.Turns.{alike, does_alike, does_nothing}
use Rattle.group_rows.specs.AskRows.{ask, lowest_row}
use Rattle.group_rows.specs.Asks.{first_in, running_in}
use Rattle.mux_history.specs.declared.cause.Cause.TheVariants.{FromServer}
use Rattle.mux_tables.specs.Documents.{AllStand, nothing_owed}
use Rattle.mux_tables.proofs.Homes.{group_seen}
use Rattle.mux_turns.proofs.Matched.{done_alike, whole_entry}
use Rattle.mux_starts.proofs.Parking.{patient_single, runs_there}
use Rattle.mux_starts.proofs.Singles.{all_running, first_has, first_within}
use Rattle.mux_starts.proofs.single.take_lowest.Goals as goal

pub ask_alone-requires-clause-editor : goal.ask_alone-requires-clause-editor
ask_alone-requires-clause-editor c = first_within (λ e. e < length c.args.tables.now.editors) c.in_ok-numbers.numbers.items c.in-Some.e c.in_ok-numbers.ensures.inside (ap first_in (sym c.deref.ensures.value) ∙ (sym c.lowest.ensures ∙ c.in-Some.is))

pub returns-in-None-clause-does : goal.returns-in-None-clause-does
returns-in-None-clause-does c = λ settings before body method id params s x read says patient fresh first here ready at st ds.
    let base = with_cause before (FromServer s body) in
    let u = c.park.new.self in
    let xs = c.args.outs.now in
    let those = c.deref.ensures.value ∙ (c.in_ok-numbers.ensures.those settings before st ∙ ap (λ h. running_in settings h before) (c.group_number-group.ensures x here)) in
    let none = ap first_in (sym those) ∙ (sym c.lowest.ensures ∙ c.in-None.is) in
    let absent = runs_there settings before s x.life.group None (group_seen settings c.args.tables.now before c.args.g s x st here at).0 none in
    let moved = c.in_ok-park-in-None.ensures.stands settings before body method id params s x here ready at read says patient fresh absent st in
    let docs = c.in_ok-park-in-None.ensures.documents settings nothing_owed before body method id params s x here ready at says st ds in
    whole_entry (λ k events. AllStand settings k events) (lowest_row settings before x.life.group body) base (u, nothing_owed) (u, nothing_owed) xs xs first (moved, docs)
    (does_alike (λ _. alike (ap (λ o. on o nothing (ask body)) none)) does_nothing)

pub returns-clause-does : goal.returns-clause-does
returns-clause-does c = λ settings before body method id params s x read says patient fresh first here ready at st ds.
    let e = c.in-Some.e in
    let those = c.deref.ensures.value ∙ (c.in_ok-numbers.ensures.those settings before st ∙ ap (λ h. running_in settings h before) (c.group_number-group.ensures x here)) in
    let some = ap first_in (sym those) ∙ (sym c.lowest.ensures ∙ c.in-Some.is) in
    let runs = first_has (λ n. is_running (desk_of n before).phase ≡ true) (running_in settings x.life.group before) e (all_running settings x.life.group before) some in
    let there = runs_there settings before s x.life.group (Some e) (group_seen settings c.args.tables.now before c.args.g s x st here at).0 some in
    done_alike (λ k events. AllStand settings k events) (alike (ap (λ o. on o nothing (ask body)) some))
    (c.in_ok-ask_alone-in-Some.ensures.does settings before body method id params s x read says (patient_single method patient) (λ _. there) fresh runs first here ready at st ds)
