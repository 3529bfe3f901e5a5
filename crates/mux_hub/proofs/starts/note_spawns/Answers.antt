use Rattle.std.proofs.Common.{◌++◌, [], ◌∷◌, take, ap, sym, ◌∙◌}
use Rattle.event_model.specs.Event.{behind, said}
use Rattle.mux_hub.specs.Starts.{servers_of}
use Rattle.mux_hub.proofs.Spawned.{rest_keeps}
use Rattle.mux_causes.proofs.Counting.{behind_next}
use Rattle.mux_hub.proofs.starts.note_spawns.Goals as goal

pub loop-out-preserved : goal.loop-out-preserved
loop-out-preserved c = λ settings base d st is.
    let here = c.loop-out.invariant settings base d st is in
    c.in_ok-note_spawn.ensures settings (behind base (take c.loop-out.out-index c.as_slice-out-items.result.now)) (behind base c.as_slice-out-items.result.now) d st
    (rest_keeps settings base c.as_slice-out-items.result.now c.loop-out.out-index) here
    ∙ (ap (λ o. servers_of settings (behind base (take c.loop-out.out-index c.as_slice-out-items.result.now) ++ said o ∷ [])) c.out-item.is
    ∙ ap (servers_of settings) (sym (behind_next base c.as_slice-out-items.result.now c.loop-out.out-index c.out-item.result c.loop-out-test.true)))
