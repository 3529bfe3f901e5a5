-- Another message of a start that gave no result yet.
use Rattle.std.proofs.Common.{ap, ◌∙◌}
use Rattle.std.specs.Prelude.{Some}
use Rattle.event_model.specs.Stages.{life_of, is_ready}
use Rattle.event_model.proofs.Places.{item_at}
use Rattle.rpc_message.specs.Message.{message_of}
use Rattle.mux_starts.specs.mux_tables.specs.Documents.{AllStand}
use Rattle.mux_entries.proofs.EditorRows.{asks_by_sort, done_alike, done_quietly, not_request}
use Rattle.mux_entries.proofs.Questions.{no_request}
use Rattle.mux_entries.proofs.Said.{hasty_here, other_row, stage_here}
use Rattle.mux_starts.proofs.Uncreated.{unready_creates}
use Rattle.mux_starts.proofs.Unlisted.{unready_unlisted}
use Rattle.mux_entries.proofs.servers.take_other.Goals as goal

pub returns-in_ok-take_hasty-in-Request-clause-does : goal.returns-in_ok-take_hasty-in-Request-clause-does
returns-in_ok-take_hasty-in-Request-clause-does c = λ settings before body s read first at run other refused st ds.
    let t = c.args.tables.now in
    let m = message_of body in
    let x = item_at t.lasts.items c.args.g c.requires.group in
    let stage = stage_here settings t before c.args.g s x.0 x.1 at st ∙ c.requires.stage x.0 x.1 in
    let asks = asks_by_sort m (c.sort.ensures body read ∙ ap (λ x. Some x) c.in-Request.is) in
    done_alike (λ k events. AllStand settings k events) (hasty_here settings s before body m (life_of s before).stage stage other refused asks.id asks.method asks.params asks.is)
    (c.in_ok-take_hasty-in-Request.ensures.does settings before body asks.method asks.id asks.params s read asks.is first at st ds)

pub returns-in_default-clause-does : goal.returns-in_default-clause-does
returns-in_default-clause-does c = λ settings before body s read first at run other refused st ds.
    let t = c.args.tables.now in
    let m = message_of body in
    let x = item_at t.lasts.items c.args.g c.requires.group in
    let stage = stage_here settings t before c.args.g s x.0 x.1 at st ∙ c.requires.stage x.0 x.1 in
    let unasked = not_request m c.sort.result (c.sort.ensures body read) c.in_default.not-Request in
    done_quietly (λ k events. AllStand settings k events) first
    (c.hear_quietly.ensures.does settings before body s (no_request m unasked) (unready_creates settings before s body (ap is_ready stage)) (unready_unlisted before s body (ap is_ready stage)) other refused (c.answered_number.ensures body read) (other_row settings s before body m (life_of s before).stage stage other refused unasked) at run st ds)
