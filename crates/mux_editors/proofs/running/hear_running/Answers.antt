-- A message by which an editor runs.
use Rattle.std.proofs.Common.{map, ap, ◌∙◌}
use Rattle.event_model.specs.Phases.{desk_of}
use Rattle.rpc_message.specs.Message.{message_of}
use Rattle.mux_tables.specs.Documents.{nothing_owed}
use Rattle.mux_tables.specs.Resumes.{unasked}
use Rattle.mux_editors.proofs.Asides.{old_unopened}
use Rattle.mux_editors.proofs.Runs.{runs_now, runs_stops}
use Rattle.mux_editors.proofs.Serving.{not_new, unplaced}
use Rattle.mux_editors.proofs.Takings.{can_begin}
use Rattle.mux_editors.proofs.running.hear_running.Goals as goal

pub returns-clause-rest : goal.returns-clause-rest
returns-clause-rest c = c.in_ok-begin.ensures.rest ∙ ap (λ ls. map unasked ls.items) c.hear_editor.ensures.lasts

pub returns-clause-begun : goal.returns-clause-begun
returns-clause-begun c = λ settings before body served runs none untaken unheld quiet first meant settled st ds.
    let e = c.args.e in
    let m = message_of body in
    let heard = c.hear_editor.ensures.stands settings before body st none untaken unheld (unplaced (desk_of e before).phase m served) (runs_stops m runs before e) (old_unopened settings.servers before e m (not_new (desk_of e before).phase served)) (runs_now settings before e body served runs) in
    c.in_ok-begin.ensures.begun settings nothing_owed before body served runs (c.may_begin-begins.ensures settings before st) first (can_begin settings before meant settled c.args.tables.now c.args.e body st ds) heard (c.hear_editor.ensures.documents settings nothing_owed before body quiet ds)
