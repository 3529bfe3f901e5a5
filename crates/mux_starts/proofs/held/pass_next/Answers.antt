-- It goes on, or is refused.
use Rattle.std.proofs.Common.{ltb-true, nat_lt}
use Rattle.event_model.specs.Event.{behind}
use Rattle.event_model.specs.Stages.{is_ready, life_of}
use Rattle.event_model.proofs.Places.{item_at}
use Rattle.group_rows.specs.Rows.{has_room}
use Rattle.mux_starts.proofs.Passing.{ready_here, room_gone, room_left}
use Rattle.mux_starts.proofs.held.pass_next.Goals as goal

pub send_next-requires-clause-left : goal.send_next-requires-clause-left
send_next-requires-clause-left c = λ x here. ltb-true x.ids.next x.ids.limit (room_left (is_ready x.life.stage) (nat_lt x.ids.next x.ids.limit) c.can_ask.result (c.can_ask.ensures.takes x here) c.if-can_ask.true)

pub returns-then-can_ask-clause-does : goal.returns-then-can_ask-clause-does
returns-then-can_ask-clause-does c = λ settings base s at idle.
    let now = behind base c.args.outs.now in
    c.send_next.ensures.does settings base s at idle (λ st. room_left (is_ready (life_of s now).stage) (has_room settings s now) c.can_ask.result (c.can_ask.ensures.stands settings now s at st) c.if-can_ask.true)

pub returns-else-can_ask-clause-does : goal.returns-else-can_ask-clause-does
returns-else-can_ask-clause-does c = λ settings base s at idle.
    let now = behind base c.args.outs.now in
    let z = item_at c.args.tables.now.lasts.items c.args.g c.requires.group in
    c.refuse_next.ensures.does settings base s (λ st. room_gone (is_ready (life_of s now).stage) (has_room settings s now) c.can_ask.result (c.can_ask.ensures.stands settings now s at st) c.if-can_ask.false
    (ready_here settings c.args.tables.now c.args.g s now z.0 z.1 at (c.requires.ready z.0 z.1) st))
