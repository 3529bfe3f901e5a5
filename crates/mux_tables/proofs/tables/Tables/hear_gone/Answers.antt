-- The editor is gone.
use Rattle.std.proofs.Common.{List, ap, subst, ◌∙◌}
use Rattle.focus_switch.specs.Documents.{Documents}
use Rattle.focus_switch.specs.Rows.{leave_row}
use Rattle.std.specs.Map.{keys_of}
use Rattle.std.specs.List.Sorted.{IsStrictlySortedBy}
use Rattle.std.specs.Ordering.{nat_cmp}
use Rattle.mux_tokens.specs.Rows.{left_each}
use Rattle.mux_tables.specs.declared.tables.Origins.{Origins}
use Rattle.mux_tables.specs.declared.tables.Start.{Start}
use Rattle.mux_tables.specs.Documents.{StepFrom}
use Rattle.mux_tables.specs.Stands.{IsPlace}
use Rattle.mux_tables.proofs.Heard.{gone_heard}
use Rattle.mux_tables.proofs.DocumentLeft.{gone_documents, gone_unserved}
use Rattle.mux_tables.proofs.tables.Tables.hear_gone.Goals as goal
use Rattle.std.specs.Prelude.{filter, not}
use Rattle.mux_waits.specs.Rows.{BecomesAt}
use Rattle.mux_waits.specs.held_requests.specs.Tables.{is_of}

pub returns-clause-stands : goal.returns-clause-stands
returns-clause-stands c = λ settings events why st.
    gone_heard settings c.args.self.now _ events c.args.e why c.leave.new.self c.phase-phase.result c.group-home.result c.is_begun.result c.requires c.phase-phase.ensures.phase c.group-home.ensures c.is_begun.ensures c.leave.ensures
    c.in_ok-empty.ensures.editors c.in_ok-empty.ensures.course c.in_ok-empty.ensures.lasts (ap (λ v. v.groups) c.in_ok-empty.ensures.origins) (ap (λ v. v.stopping) c.in_ok-empty.ensures.origins) (c.in_ok-forget_editor.ensures.table ∙ ap (λ v. left_each c.args.e (keys_of v.created) v.created) c.in_ok-empty.ensures.origins) (subst (λ (v : Origins). IsStrictlySortedBy nat_cmp (keys_of v.created)) c.in_ok-empty.ensures.origins c.in_ok-forget_editor.ensures.rising) c.in_ok-empty.ensures.requests c.in_ok-empty.ensures.groups (subst (λ (v : Origins). BecomesAt c.group-home.result (filter (λ q. not (is_of c.args.e q))) v.waiting c.leave-2.new.self) c.in_ok-empty.ensures.origins c.leave-2.ensures) st

pub returns-clause-documents : goal.returns-clause-documents
returns-clause-documents c = λ settings events why st ds.
    gone_documents settings c.args.self.now _ events c.args.e why c.group-home.result c.place_in-place.result c.in_ok-owed.owed c.requires c.group-home.ensures (subst (λ (v : List Start). IsPlace v c.group-home.result c.place_in-place.result) (ap (λ v. v.items) c.in_ok-empty.ensures.lasts) c.place_in-place.ensures) c.in_ok-empty.ensures.lasts c.in_ok-empty.ensures.versions
    (subst (λ (v : List Documents). StepFrom (leave_row c.args.e) c.place_in-place.result v c.in_ok-owed.owed c.leave-3.new.documents.items) (ap (λ v. v.items) c.in_ok-empty.ensures.documents) c.in_ok-owed.ensures) st ds

pub returns-clause-unserved : goal.returns-clause-unserved
returns-clause-unserved c = λ settings events why st unserved ds.
    gone_unserved settings c.args.self.now _ events c.args.e why c.group-home.result c.place_in-place.result c.in_ok-owed.owed c.requires c.group-home.ensures c.in_ok-empty.ensures.lasts c.in_ok-empty.ensures.versions
    (subst (λ (v : List Documents). StepFrom (leave_row c.args.e) c.place_in-place.result v c.in_ok-owed.owed c.leave-3.new.documents.items) (ap (λ v. v.items) c.in_ok-empty.ensures.documents) c.in_ok-owed.ensures) st unserved ds
