-- What an editor leaves.
use Rattle.std.proofs.Common.{ap, sym, ◌∙◌}
use Rattle.event_model.specs.Stages.{is_ready}
use Rattle.event_model.proofs.Places.{item_at}
use Rattle.mux_tables.proofs.Homes.{group_seen}
use Rattle.mux_tables.proofs.Starts.{start_there}
use Rattle.mux_tables.specs.Stands.{number_in, of_asks}
use Rattle.mux_tables.proofs.Refusing.{ready_asks}
use Rattle.group_facts.specs.group_rows.specs.Asks.{asks_of}
use Rattle.mux_turns.proofs.Departing.{mapped_on}
use Rattle.mux_turns.proofs.Stays.{kept_stage}
use Rattle.mux_turns.proofs.Ready.{is_that_ready}
use Rattle.mux_turns.proofs.Rows.{ready_left, unready_left}
use Rattle.mux_turns.proofs.leaves.leaving.Goals as goal

pub returns-then-not-is_ready-clause-leaves : goal.returns-then-not-is_ready-clause-leaves
returns-then-not-is_ready-clause-leaves c = λ settings before st.
    let g = c.in-Some.group in
    let s = start_there c.args.tables.now.lasts.items g c.in-Some.ensures.inside in
    let x = item_at c.args.tables.now.lasts.items g c.in-Some.ensures.inside in
    unready_left settings before c.args.e x.0.life.group s.0 c.stage.result (c.in-Some.ensures.home settings before x.0 x.1 st) (group_seen settings c.args.tables.now before g s.0 x.0 st x.1 s.1).1
    (c.stage.ensures settings before s.0 s.1 st) (sym c.is_ready.ensures ∙ c.if-not-is_ready.true)

pub returns-clause-leaves : goal.returns-clause-leaves
returns-clause-leaves c = λ settings before st x here.
    let t = c.args.tables.now in
    let g = c.in-Some.group in
    let s = x.life.start in
    let at = mapped_on number_in t.lasts.items g x here in
    let ready = sym c.is_ready.ensures ∙ c.if-not-is_ready.false in
    let stage = is_that_ready x.life.stage (ap is_ready (sym (kept_stage settings t before g x st here) ∙ sym (c.stage.ensures settings before s at st)) ∙ ready) in
    let asked = ready_asks x.life.stage before (asks_of settings s before) x.asks stage ((st.lasts.each g x here).parts of_asks) in (
      stage,
      ready_left settings before c.args.e x.life.group s c.stage.result c.in_ok-requests.requests.items x.asks asked.same (c.in-Some.ensures.home settings before x here st) (group_seen settings t before g s x st here at).1
          (c.stage.ensures settings before s at st) ready (c.in_ok-requests.ensures settings before s at st),
    )
