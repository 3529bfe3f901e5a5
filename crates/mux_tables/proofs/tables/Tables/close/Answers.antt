-- The editor is closed.
use Rattle.std.proofs.Common.{List, ap, length, subst, ◌∙◌}
use Rattle.std.specs.Prelude.{slice_get}
use Rattle.std.proofs.lemmas.List.{length-set}
use Rattle.focus_switch.specs.Documents.{Documents}
use Rattle.focus_switch.specs.Rows.{leave_row}
use Rattle.std.specs.Map.{keys_of}
use Rattle.std.specs.List.Sorted.{IsStrictlySortedBy}
use Rattle.std.specs.Ordering.{nat_cmp}
use Rattle.mux_tokens.specs.Rows.{left_each}
use Rattle.mux_tables.specs.declared.tables.Origins.{Origins}
use Rattle.mux_tables.specs.declared.tables.Start.{Start}
use Rattle.mux_tables.specs.Documents.{StepFrom}
use Rattle.mux_tables.specs.Stands.{IsPlace}
use Rattle.mux_tables.specs.Names.{id_in}
use Rattle.event_model.specs.Phases.{phase_closed}
use Rattle.mux_tables.proofs.Phased.{closed_id}
use Rattle.mux_tables.proofs.Said.{close_does}
use Rattle.mux_tables.proofs.Waits.{ids_kept}
use Rattle.mux_tables.proofs.DocumentLeft.{closed_ahead, closed_documents, closed_unserved}
use Rattle.mux_tables.proofs.DocumentOwing.{closed_owing}
use Rattle.mux_tables.proofs.tables.Tables.close.Goals as goal
use Rattle.std.specs.Prelude.{filter, not}
use Rattle.mux_waits.specs.Rows.{BecomesAt}
use Rattle.mux_waits.specs.held_requests.specs.Tables.{is_of}

pub returns-clause-count : goal.returns-clause-count
returns-clause-count c = ap length (c.in_ok-empty.ensures.editors ∙ c.set.ensures) ∙ length-set c.args.self.now.editors c.args.e _

pub returns-clause-ids : goal.returns-clause-ids
returns-clause-ids c = λ n. ap (λ xs. id_in (slice_get xs n)) (c.in_ok-empty.ensures.editors ∙ c.set.ensures)
    ∙ ids_kept c.args.self.now.editors c.args.e _ c.requires (closed_id c.args.self.now.editors c.args.e c.closed.result (c.closed.ensures ∙ ap phase_closed c.phase-phase.ensures.phase)) n

pub returns-clause-does : goal.returns-clause-does
returns-clause-does c = λ settings base.
    close_does settings c.args.self.now _ c.args.outs.now c.push.new.self base c.args.e c.set.new.self c.phase-phase.result c.closed.result c.group-home.result c.is_begun.result c.requires c.phase-phase.ensures.phase c.group-home.ensures c.closed.ensures c.is_begun.ensures c.set.ensures
    c.in_ok-empty.ensures.editors c.in_ok-empty.ensures.course c.in_ok-empty.ensures.lasts (ap (λ v. v.groups) c.in_ok-empty.ensures.origins) (ap (λ v. v.stopping) c.in_ok-empty.ensures.origins) (c.in_ok-forget_editor.ensures.table ∙ ap (λ v. left_each c.args.e (keys_of v.created) v.created) c.in_ok-empty.ensures.origins) (subst (λ (v : Origins). IsStrictlySortedBy nat_cmp (keys_of v.created)) c.in_ok-empty.ensures.origins c.in_ok-forget_editor.ensures.rising) c.in_ok-empty.ensures.requests c.in_ok-empty.ensures.groups (subst (λ (v : Origins). BecomesAt c.group-home.result (filter (λ q. not (is_of c.args.e q))) v.waiting c.leave.new.self) c.in_ok-empty.ensures.origins c.leave.ensures) c.in_ok-push.ensures.ok

pub returns-clause-documents : goal.returns-clause-documents
returns-clause-documents c = λ settings base st ds.
    closed_documents settings c.args.self.now _ base c.args.outs.now c.push.new.self c.args.e c.group-home.result c.place_in-place.result c.in_ok-owed.owed c.requires c.group-home.ensures (subst (λ (v : List Start). IsPlace v c.group-home.result c.place_in-place.result) (ap (λ v. v.items) c.in_ok-empty.ensures.lasts) c.place_in-place.ensures) c.in_ok-empty.ensures.lasts c.in_ok-empty.ensures.versions
    (subst (λ (v : List Documents). StepFrom (leave_row c.args.e) c.place_in-place.result v c.in_ok-owed.owed c.leave-2.new.documents.items) (ap (λ v. v.items) c.in_ok-empty.ensures.documents) c.in_ok-owed.ensures) c.in_ok-push.ensures.ok st ds

pub returns-clause-owing : goal.returns-clause-owing
returns-clause-owing c = λ settings owing base st ds.
    closed_owing settings owing c.args.self.now _ base c.args.outs.now c.push.new.self c.args.e c.group-home.result c.place_in-place.result c.in_ok-owed.owed c.requires c.group-home.ensures (subst (λ (v : List Start). IsPlace v c.group-home.result c.place_in-place.result) (ap (λ v. v.items) c.in_ok-empty.ensures.lasts) c.place_in-place.ensures) c.in_ok-empty.ensures.lasts c.in_ok-empty.ensures.versions
    (subst (λ (v : List Documents). StepFrom (leave_row c.args.e) c.place_in-place.result v c.in_ok-owed.owed c.leave-2.new.documents.items) (ap (λ v. v.items) c.in_ok-empty.ensures.documents) c.in_ok-owed.ensures) c.in_ok-push.ensures.ok st ds

pub returns-clause-unserved : goal.returns-clause-unserved
returns-clause-unserved c = λ settings owing base st unserved ds.
    closed_unserved settings owing c.args.self.now _ base c.args.outs.now c.push.new.self c.args.e c.group-home.result c.place_in-place.result c.in_ok-owed.owed c.requires c.group-home.ensures c.in_ok-empty.ensures.lasts c.in_ok-empty.ensures.versions
    (subst (λ (v : List Documents). StepFrom (leave_row c.args.e) c.place_in-place.result v c.in_ok-owed.owed c.leave-2.new.documents.items) (ap (λ v. v.items) c.in_ok-empty.ensures.documents) c.in_ok-owed.ensures) c.in_ok-push.ensures.ok st unserved ds

pub returns-clause-ahead : goal.returns-clause-ahead
returns-clause-ahead c = λ settings owing base more off ds.
    closed_ahead settings owing c.args.self.now _ base c.args.outs.now c.push.new.self more c.args.e c.place_in-place.result c.in_ok-owed.owed c.in_ok-empty.ensures.lasts c.in_ok-empty.ensures.versions
    (subst (λ (v : List Documents). StepFrom (leave_row c.args.e) c.place_in-place.result v c.in_ok-owed.owed c.leave-2.new.documents.items) (ap (λ v. v.items) c.in_ok-empty.ensures.documents) c.in_ok-owed.ensures) c.in_ok-push.ensures.ok off ds
