-- Whether an editor that joins a group waits.
use Rattle.std.proofs.Common.{ap, sym, ◌∙◌}
use Rattle.event_model.specs.Stages.{is_ready}
use Rattle.mux_tables.proofs.Starts.{start_there}
use Rattle.mux_turns.proofs.Ready.{is_so}
use Rattle.mux_turns.proofs.placing.waits.Goals as goal

pub returns-in-Some-clause-ready : goal.returns-in-Some-clause-ready
returns-in-Some-clause-ready c = λ off settings before st.
    let s = start_there c.args.tables.now.lasts.items c.in-Some.g c.in-Some.ensures.inside in
    (s.0, c.in-Some.ensures.start settings before s.0 s.1 st, ap is_ready (sym (c.stage.ensures settings before s.0 s.1 st)) ∙ (sym c.is_ready.ensures ∙ is_so c.is_ready.result off))
