-- A message of an editor that is served.
use Rattle.std.proofs.Common.{ap, ◌∙◌}
use Rattle.std.specs.Prelude.{Some}
use Rattle.event_model.specs.Phases.{desk_of}
use Rattle.mux_starts.specs.group_facts.proofs.Quits.{not_stopped}
use Rattle.rpc_message.specs.Message.{message_of, notification, request}
use Rattle.mux_starts.specs.mux_tables.specs.Documents.{AllStand}
use Rattle.mux_entries.proofs.EditorAsks.{asked_by_one}
use Rattle.group_words.specs.Houses.{is_doubled}
use Rattle.mux_entries.proofs.EditorBuilt.{served_needs, served_there, single_served, standard_asks, unasked_when}
use Rattle.mux_entries.proofs.EditorRows.{answered, asks_by_sort, done_alike, is_answer, notes_by_sort, read_well, served, unasking, unnoting}
use Rattle.mux_entries.proofs.editors.from_served.Goals as goal

pub returns-in_ok-from_asking-in-Request-clause-does : goal.returns-in_ok-from_asking-in-Request-clause-does
returns-in_ok-from_asking-in-Request-clause-does c = λ settings before body read serves first known settled single none st ds.
    let e = c.args.e in
    let m = message_of body in
    let p = (desk_of e before).phase in
    let asks = asks_by_sort m (c.sort.ensures body read ∙ ap (λ x. Some x) c.in-Request.is) in
    let sort = standard_asks asks.method (unasked_when p m asks.id asks.method asks.params asks.is (served_there p serves) none) in
    done_alike (λ k events. AllStand settings k events) (served settings before e body (request asks.id asks.method asks.params) asks.is serves (read_well c.args.message.now body read) single none)
    (c.in_ok-from_asking-in-Request.ensures.does settings before body asks.method asks.id asks.params read asks.is sort serves (single_served p (is_doubled before e m) serves single) first known.meant settled st ds)

pub returns-in_ok-from_noting-in-Notification-clause-does : goal.returns-in_ok-from_noting-in-Notification-clause-does
returns-in_ok-from_noting-in-Notification-clause-does c = λ settings before body read serves first known settled single none st ds.
    let e = c.args.e in
    let m = message_of body in
    let p = (desk_of e before).phase in
    let notes = notes_by_sort m (c.sort.ensures body read ∙ ap (λ x. Some x) c.in-Notification.is) in
    done_alike (λ k events. AllStand settings k events) (served settings before e body (notification notes.method notes.params) notes.is serves (read_well c.args.message.now body read) single none)
    (c.in_ok-from_noting-in-Notification.ensures.does settings before body notes.method notes.params read notes.is serves first known settled st ds)

pub returns-in_ok-take_reply-in-Result-clause-does : goal.returns-in_ok-take_reply-in-Result-clause-does
returns-in_ok-take_reply-in-Result-clause-does c = λ settings before body read serves first known settled single none st ds.
    let e = c.args.e in
    let m = message_of body in
    let unasked = unasking m c.sort.result (c.sort.ensures body read) c.in-Result.is in
    let unnoted = unnoting m c.sort.result (c.sort.ensures body read) c.in-Result.is in
    let well = read_well c.args.message.now body read in
    let seat = settled.seated e (served_needs (desk_of e before).phase serves) in
    done_alike (λ k events. AllStand settings k events) (answered settings before e body unasked unnoted serves well single none)
    (c.in_ok-take_reply-in-Result.ensures.does settings before body seat.group seat.start read (is_answer m unasked unnoted well) serves seat.home seat.last (asked_by_one settings before e seat.group seat.start m (not_stopped before known.quit e (served_there (desk_of e before).phase serves)) settled seat.home seat.last) known.meant first settled st ds)
