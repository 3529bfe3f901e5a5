-- What a start tells of an open request goes to its editor, and what it tells of a token that it created to those that took it.
use Rattle.std.proofs.Common.{ap, subst, ◌∙◌}
use Rattle.std.specs.Prelude.{None, Some, slice_get}
use Rattle.event_model.specs.Event.{with_cause}
use Rattle.event_model.proofs.Turns.{alike_then, does_alike, does_nothing}
use Rattle.group_rows.specs.CreatedRows.{progress_row}
use Rattle.mux_history.specs.declared.cause.Cause.TheVariants.{FromServer}
use Rattle.mux_starts.specs.Creates.{Dues}
use Rattle.mux_starts.specs.Progress.{Passes}
use Rattle.mux_tables.specs.Documents.{AllStand, nothing_owed}
use Rattle.mux_tables.proofs.Homes.{group_seen}
use Rattle.mux_tables.proofs.Publishing.{progress_apart}
use Rattle.mux_tables.proofs.Starts.{start_at_place}
use Rattle.mux_starts.proofs.Progressing.{due_seen, tells_nothing, tells_those}
use Rattle.mux_turns.proofs.Matched.{whole_entry}
use Rattle.mux_starts.proofs.progress.take_progress.Goals as goal

pub returns-in_ok-tell-in-Some-clause-does : goal.returns-in_ok-tell-in-Some-clause-does
returns-in_ok-tell-in-Some-clause-does c = λ settings before body method params s x read says tells first here ready at st ds.
    let base = with_cause before (FromServer s body) in
    let u = c.hear.new.tables in
    let xs = c.args.outs.now in
    let passes = subst (Passes settings s before body method params) c.in-Some.is (c.in_ok-told.ensures settings before body method params s read says at st) in
    let due = c.in_ok-due.ensures settings before body method params x read says here st in
    let stands = c.in_ok-hear.ensures.stands settings before body method params s x read says tells (c.is_some.ensures ∙ due_seen settings before x.life.group x.life.start params c.in_ok-due.due due) here ready at st ds in
    whole_entry (λ k events. AllStand settings k events) (progress_row settings s before body params) base (u, nothing_owed) (u, nothing_owed) xs c.tell.new.outs first stands
    (does_alike (λ _. passes.1) (c.in_ok-tell-in-Some.ensures.does settings base method passes.0.0 (progress_apart method tells) passes.0.1))

pub returns-in_ok-tell_due-in-Some-due-clause-does : goal.returns-in_ok-tell_due-in-Some-due-clause-does
returns-in_ok-tell_due-in-Some-due-clause-does c = λ settings before body method params s x read says tells first here ready at st ds.
    let base = with_cause before (FromServer s body) in
    let t = c.args.tables.now in
    let u = c.hear.new.tables in
    let xs = c.args.outs.now in
    let own = start_at_place t.lasts.items c.args.g s x here at in
    let other = subst (Passes settings s before body method params) c.in-None.is (c.in_ok-told.ensures settings before body method params s read says at st) in
    let due = c.in_ok-due.ensures settings before body method params x read says here st in
    let stands = c.in_ok-hear.ensures.stands settings before body method params s x read says tells (c.is_some.ensures ∙ due_seen settings before x.life.group x.life.start params c.in_ok-due.due due) here ready at st ds in
    let some = subst (λ n. Dues settings before x.life.group n params (Some c.in-Some-due.due)) own (subst (Dues settings before x.life.group x.life.start params) c.in-Some-due.is due) in
    whole_entry (λ k events. AllStand settings k events) (progress_row settings s before body params) base (u, nothing_owed) (u, nothing_owed) xs c.tell_due.new.outs first stands
    (does_alike (λ _. alike_then other (tells_those settings before x.life.group s params body c.in-Some-due.due (group_seen settings t before c.args.g s x st here at).0 some))
    (c.in_ok-tell_due-in-Some-due.ensures.does settings base body method params s read says (progress_apart method tells) (ap (λ ns. slice_get ns c.args.g) c.hear.ensures.starts ∙ at)))

pub returns-in-None-due-clause-does : goal.returns-in-None-due-clause-does
returns-in-None-due-clause-does c = λ settings before body method params s x read says tells first here ready at st ds.
    let base = with_cause before (FromServer s body) in
    let t = c.args.tables.now in
    let u = c.hear.new.tables in
    let xs = c.args.outs.now in
    let own = start_at_place t.lasts.items c.args.g s x here at in
    let other = subst (Passes settings s before body method params) c.in-None.is (c.in_ok-told.ensures settings before body method params s read says at st) in
    let due = c.in_ok-due.ensures settings before body method params x read says here st in
    let stands = c.in_ok-hear.ensures.stands settings before body method params s x read says tells (c.is_some.ensures ∙ due_seen settings before x.life.group x.life.start params c.in_ok-due.due due) here ready at st ds in
    let none = subst (λ n. Dues settings before x.life.group n params None) own (subst (Dues settings before x.life.group x.life.start params) c.in-None-due.is due) in
    whole_entry (λ k events. AllStand settings k events) (progress_row settings s before body params) base (u, nothing_owed) (u, nothing_owed) xs xs first stands
    (does_alike (λ _. alike_then other (tells_nothing settings before x.life.group s params body none)) does_nothing)
