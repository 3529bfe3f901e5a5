-- Which group's last start takes a request.
use Rattle.mux_tables.proofs.Starts.{start_there}
use Rattle.mux_turns.proofs.Ready.{taken}
use Rattle.mux_turns.proofs.Rows.{asked_at, unasked_at}
use Rattle.event_model.proofs.Places.{item_at}
use Rattle.mux_tables.proofs.Homes.{group_seen}
use Rattle.mux_turns.proofs.refusals.asked_at.Goals as goal

pub returns-then-can_ask-clause-home : goal.returns-then-can_ask-clause-home
returns-then-can_ask-clause-home c = λ settings before x at st. c.in_ok-g.ensures.home settings before x at st

pub returns-then-can_ask-clause-takes : goal.returns-then-can_ask-clause-takes
returns-then-can_ask-clause-takes c = λ x at. taken x c.can_ask.result (c.can_ask.ensures.takes x at) c.if-can_ask.true

pub returns-else-can_ask-clause-waits : goal.returns-else-can_ask-clause-waits
returns-else-can_ask-clause-waits c = λ settings before body free st.
    let s = start_there c.args.tables.now.lasts.items c.in_ok-g.g c.in_ok-g.ensures.inside in
    let x = item_at c.args.tables.now.lasts.items c.in_ok-g.g c.in_ok-g.ensures.inside in
    unasked_at settings before c.args.e body free x.0.life.group s.0 c.can_ask.result (c.in_ok-g.ensures.home settings before x.0 x.1 st) (group_seen settings c.args.tables.now before c.in_ok-g.g s.0 x.0 st x.1 s.1).1 (c.can_ask.ensures.stands settings before s.0 s.1 st) c.if-can_ask.false

pub returns-then-can_ask-clause-goes : goal.returns-then-can_ask-clause-goes
returns-then-can_ask-clause-goes c = λ settings before body s x here number free st.
    asked_at settings before c.args.e body free x.life.group s c.can_ask.result (c.in_ok-g.ensures.home settings before x here st) (group_seen settings c.args.tables.now before c.in_ok-g.g s x st here number).1 (c.can_ask.ensures.stands settings before s number st) c.if-can_ask.true
