-- Its link is to be ended, and it leaves.
use Rattle.std.proofs.Common.{ap, map, subst, sym, ◌∙◌}
use Rattle.event_model.specs.Event.{behind, with_cause}
use Rattle.event_model.proofs.Turns.{does_then}
use Rattle.group_rows.specs.Rows.{closing_row}
use Rattle.group_words.specs.Houses.{home_of}
use Rattle.mux_history.specs.declared.cause.Cause.TheVariants.{FromEditor}
use Rattle.mux_tables.specs.Documents as documents
use Rattle.mux_tables.specs.Documents.{AllStand, DocumentsStand, nothing_owed}
use Rattle.mux_tables.specs.Stands.{Stands, house_in, number_in, stage_in, start_for}
use Rattle.mux_tables.proofs.DocumentOwed.{all_does}
use Rattle.mux_turns.specs.Leavings.{Leaves}
use Rattle.mux_turns.proofs.Departing.{behind_first, left_before, owing_of, pays_later}
use Rattle.mux_turns.proofs.Matched.{whole_entry}
use Rattle.mux_editors.proofs.parting.end_link.Goals as goal

pub returns-clause-does : goal.returns-clause-does
returns-clause-does c = λ settings before body silent untaken unheld placed stopped unopened quiet stays first st ds.
    let e = c.args.e in
    let base = with_cause before (FromEditor e body) in
    let t = c.args.tables.now in
    let u = c.hear_editor.new.self in
    let v = c.close.new.self in
    let xs = c.args.outs.now in
    let heard = c.hear_editor.ensures.stands settings before body st silent untaken unheld placed stopped unopened stays in
    let docs = c.hear_editor.ensures.documents settings nothing_owed before body quiet ds in
    let lasts = c.close.ensures.lasts ∙ c.hear_editor.ensures.lasts in
    let there = behind_first base xs first in
    let left = subst (λ es. documents.Leaves settings es e (home_of settings e es) (start_for settings e es) c.in_ok-owed.owed v (behind base c.close.new.outs)) there
    (c.in_ok-owed.ensures.documents settings base (subst (λ es. Stands settings u es) (sym there) heard) (subst (λ es. DocumentsStand settings nothing_owed u es) (sym there) docs)) in
    let o = owing_of settings before e t st v (behind base c.close.new.outs) c.in_ok-owed.owed (left_before settings before e body placed quiet v (behind base c.close.new.outs) c.in_ok-owed.owed left) in
    let pays = pays_later settings before e t v c.in_ok-owed.owed o.0 (ap (λ ls. map number_in ls.items) lasts) (ap (λ ls. map stage_in ls.items) lasts) (ap (λ ls. map house_in ls.items) lasts) o.1.0 in
    let leaves = subst (λ ns. Leaves settings before e ns c.in_ok-left.left) (sym (ap (λ ls. ls.items) lasts)) (c.in_ok-left.ensures.leaves settings before st) in
    whole_entry (λ k events. AllStand settings k events) (closing_row settings before e) base (u, nothing_owed) (c.depart.new.tables, nothing_owed) xs c.depart.new.outs first (heard, docs)
    (does_then (all_does settings u v nothing_owed o.0 base xs c.close.new.outs (c.in_ok-owed.ensures.does settings base) (λ _ _. o.1.1)) (c.in_ok-depart.ensures.does settings before base e o.0 leaves pays))
