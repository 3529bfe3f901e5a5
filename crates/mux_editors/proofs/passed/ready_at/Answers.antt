-- Which group's last start is told.
use Rattle.std.proofs.Common.{ap, sym, ◌∙◌}
use Rattle.mux_tables.proofs.Starts.{start_there}
use Rattle.mux_editors.proofs.Passing.{stage_there}
use Rattle.mux_turns.proofs.Ready.{is_that_ready}
use Rattle.mux_turns.proofs.Rows.{noted_at, unnoted_at}
use Rattle.event_model.specs.Stages.{is_ready, life_of}
use Rattle.event_model.proofs.Places.{item_at}
use Rattle.mux_tables.proofs.Homes.{group_seen}
use Rattle.mux_tables.proofs.Lasts.{same_place}
use Rattle.mux_editors.proofs.passed.ready_at.Goals as goal

pub returns-then-is_ready-clause-ready : goal.returns-then-is_ready-clause-ready
returns-then-is_ready-clause-ready c = λ x at. is_that_ready x.life.stage (ap is_ready (sym (c.stage_at.ensures x at)) ∙ (sym c.is_ready.ensures ∙ c.if-is_ready.true))

pub returns-then-is_ready-clause-goes : goal.returns-then-is_ready-clause-goes
returns-then-is_ready-clause-goes c = λ settings before body s x here number st.
    noted_at settings before c.args.e body x.life.group s c.stage_at.result (c.in_ok-g.ensures.home settings before x here st) (group_seen settings c.args.tables.now before c.in_ok-g.g s x st here number).1
    (stage_there settings c.args.tables.now before c.in_ok-g.g s c.stage_at.result st number c.stage_at.ensures) (sym c.is_ready.ensures ∙ c.if-is_ready.true)

pub returns-else-is_ready-clause-silent : goal.returns-else-is_ready-clause-silent
returns-else-is_ready-clause-silent c = λ settings before body st.
    let s = start_there c.args.tables.now.lasts.items c.in_ok-g.g c.in_ok-g.ensures.inside in
    let x = item_at c.args.tables.now.lasts.items c.in_ok-g.g c.in_ok-g.ensures.inside in
    unnoted_at settings before c.args.e body x.0.life.group s.0 c.stage_at.result (c.in_ok-g.ensures.home settings before x.0 x.1 st) (group_seen settings c.args.tables.now before c.in_ok-g.g s.0 x.0 st x.1 s.1).1
    (stage_there settings c.args.tables.now before c.in_ok-g.g s.0 c.stage_at.result st s.1 c.stage_at.ensures) (sym c.is_ready.ensures ∙ c.if-is_ready.false)

pub returns-else-is_ready-clause-unready : goal.returns-else-is_ready-clause-unready
returns-else-is_ready-clause-unready c = λ settings events s st at.
    let n = start_there c.args.tables.now.lasts.items c.in_ok-g.g c.in_ok-g.ensures.inside in
    let own = same_place (sym at ∙ c.in_ok-g.ensures.start settings events n.0 n.1 st) in
    ap (λ k. is_ready (life_of k events).stage) own ∙ (ap is_ready (sym (stage_there settings c.args.tables.now events c.in_ok-g.g n.0 c.stage_at.result st n.1 c.stage_at.ensures)) ∙ (sym c.is_ready.ensures ∙ c.if-is_ready.false))
