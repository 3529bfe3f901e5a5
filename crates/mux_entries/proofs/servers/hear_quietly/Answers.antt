-- What answers nothing.
use Rattle.std.proofs.Common.{[], ◌&&◌, ap, refl}
use Rattle.event_model.specs.Event.{with_cause}
use Rattle.event_model.specs.Stages.{is_initializing}
use Rattle.event_model.proofs.Places.{item_at}
use Rattle.event_model.proofs.Turns.{does_alike, does_nothing}
use Rattle.group_rows.specs.Rows.{row_of}
use Rattle.mux_history.specs.declared.cause.Cause.TheVariants.{FromServer}
use Rattle.mux_starts.specs.mux_tables.specs.Documents.{AllStand, nothing_owed}
use Rattle.mux_starts.specs.mux_tables.specs.Stands.{is_early}
use Rattle.mux_starts.proofs.Parking.{unasked, unasked_keeps}
use Rattle.mux_editors.proofs.Turns.{whole_entry}
use Rattle.mux_entries.proofs.Said.{runs_late, stage_here}
use Rattle.mux_entries.proofs.servers.hear_quietly.Goals as goal

pub returns-clause-does : goal.returns-clause-does
returns-clause-does c = λ settings before body s unasks created unlisted first refused names silent at run st ds.
    let u = c.hear_answer.new.self in
    let x = item_at c.args.tables.now.lasts.items c.args.g c.requires in
    let stage = x.0.life.stage in
    let heard = c.hear_answer.ensures.moves settings before s body x.0 x.1 at (ap (λ b. b && is_early stage) first) (ap (λ b. b && is_initializing stage) refused) (unasked settings before s body unasks) (unasked_keeps settings before s body unasks) unlisted created names st in
    let docs = c.hear_answer.ensures.documents settings nothing_owed before s body x.0 x.1 at (ap (λ b. b && is_initializing stage) first) (runs_late s before stage run (stage_here settings c.args.tables.now before c.args.g s x.0 x.1 at st)) st ds in
    whole_entry (λ k events. AllStand settings k events) (row_of settings before (FromServer s body)) (with_cause before (FromServer s body)) (u, nothing_owed) (u, nothing_owed) [] [] refl (heard, docs)
    (does_alike (λ _. silent) does_nothing)
