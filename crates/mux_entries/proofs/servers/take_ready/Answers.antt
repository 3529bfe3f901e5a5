-- A message of a start that is ready.
use Rattle.std.proofs.Common.{ap, ◌∙◌}
use Rattle.std.specs.Prelude.{Some}
use Rattle.event_model.proofs.Places.{item_at}
use Rattle.rpc_message.specs.Message.{message_of, notification, request}
use Rattle.mux_starts.specs.group_facts.proofs.StopDown.{ready_unstopped}
use Rattle.mux_starts.specs.mux_tables.specs.Documents.{AllStand}
use Rattle.mux_entries.proofs.EditorRows.{asks_by_sort, done_alike, notes_by_sort, unasking, unnoting}
use Rattle.mux_entries.proofs.Said.{answer_here, asked, stage_here}
use Rattle.mux_entries.proofs.Questions.{asks_here, no_request}
use Rattle.mux_starts.proofs.Uncreated.{answers_create}
use Rattle.mux_starts.proofs.Unlisted.{answers_unlisted}
use Rattle.mux_entries.proofs.servers.take_ready.Goals as goal

pub returns-in_ok-take_question-in-Request-clause-does : goal.returns-in_ok-take_question-in-Request-clause-does
returns-in_ok-take_question-in-Request-clause-does c = λ settings before body s read first at known settled st ds.
    let t = c.args.tables.now in
    let x = item_at t.lasts.items c.args.g c.requires.group in
    let ready = c.requires.stage x.0 x.1 in
    let stage = stage_here settings t before c.args.g s x.0 x.1 at st ∙ ready in
    let asks = asks_by_sort (message_of body) (c.sort.ensures body read ∙ ap (λ k. Some k) c.in-Request.is) in
    done_alike (λ k events. AllStand settings k events) (asks_here settings before s body (request asks.id asks.method asks.params) stage asks.is)
    (c.in_ok-take_question-in-Request.ensures.does settings before body asks.method asks.id asks.params s x.0 read asks.is first x.1 ready at known settled st ds)

pub returns-in_ok-take_telling-in-Notification-clause-does : goal.returns-in_ok-take_telling-in-Notification-clause-does
returns-in_ok-take_telling-in-Notification-clause-does c = λ settings before body s read first at known settled st ds.
    let t = c.args.tables.now in
    let x = item_at t.lasts.items c.args.g c.requires.group in
    let ready = c.requires.stage x.0 x.1 in
    let stage = stage_here settings t before c.args.g s x.0 x.1 at st ∙ ready in
    let notes = notes_by_sort (message_of body) (c.sort.ensures body read ∙ ap (λ k. Some k) c.in-Notification.is) in
    done_alike (λ k events. AllStand settings k events) (asks_here settings before s body (notification notes.method notes.params) stage notes.is)
    (c.in_ok-take_telling-in-Notification.ensures.does settings before body notes.method notes.params s x.0 read notes.is first known settled x.1 ready at st ds)

pub returns-in_ok-take_answer-in-Result-clause-does : goal.returns-in_ok-take_answer-in-Result-clause-does
returns-in_ok-take_answer-in-Result-clause-does c = λ settings before body s read first at known settled st ds.
    let t = c.args.tables.now in
    let m = message_of body in
    let x = item_at t.lasts.items c.args.g c.requires.group in
    let ready = c.requires.stage x.0 x.1 in
    let stage = stage_here settings t before c.args.g s x.0 x.1 at st ∙ ready in
    let unasked = unasking m c.sort.result (c.sort.ensures body read) c.in-Result.is in
    let unnoted = unnoting m c.sort.result (c.sort.ensures body read) c.in-Result.is in
    done_alike (λ k events. AllStand settings k events) (answer_here settings before s body stage unasked unnoted)
    (c.in_ok-take_answer-in-Result.ensures.does settings before body s x.0 read (no_request m unasked) (answers_create settings before s body (no_request m unasked) unnoted) (answers_unlisted before s body unnoted) first x.1 ready at (asked settings before s m (known.asked (ready_unstopped settings before settled s stage))) known.meant st ds)
