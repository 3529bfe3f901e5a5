-- Those before are to end.
use Rattle.std.proofs.Common.{◌≡◌, List, take}
use Rattle.event_model.specs.Does.{Does}
use Rattle.event_model.specs.Event.{Event, behind}
use Rattle.event_model.specs.Row.{each, send}
use Rattle.event_model.specs.Settings.{Settings}
use Rattle.mux_history.specs.declared.out.Out.TheVariants.{EndServer}
use Rattle.mux_tables.specs.Documents.{AllStand, nothing_owed}
use Rattle.mux_starts.specs.Stops.{AreStopping}
use Rattle.mux_starts.proofs.ticks.end_programs.Given as goal

abbrev pub invariant-loop-s : goal.invariant-loop-s
invariant-loop-s l = record {
  requests : l.tables.requests ≡ l.initial.tables.requests;
  versions : l.tables.versions ≡ l.initial.tables.versions;
  does : (settings : Settings) (base : List Event) → AreStopping (behind base l.initial.outs) l.starts
      → Does (λ k events. AllStand settings k events) (each (λ s. send (EndServer s)) (take l.s-index l.starts)) base (l.initial.tables, nothing_owed) l.initial.outs (l.tables, nothing_owed) l.outs;
}
