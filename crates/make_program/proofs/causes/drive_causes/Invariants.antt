-- The hub stands for those so far.
use Rattle.std.proofs.Common.{◌≡◌, ◌≤◌, ◌++◌, false, length}
use Rattle.std.specs.List.{AllByRecursion}
use Rattle.std.specs.Vec.Iter.{into_iter_items, into_iter_len}
use Rattle.mux_history.specs.Cores.{body_length}
use Rattle.mux_history.specs.declared.cause.Cause.{Cause}
use Rattle.mux_hub.specs.Hubs.{HubStands}
use Rattle.make_program.specs.Counts.{counts_of}
use Rattle.make_program.specs.Runs.{history_of}
use Rattle.make_program.proofs.causes.drive_causes.Given as goal

abbrev pub invariant-loop-cause : goal.invariant-loop-cause
invariant-loop-cause g l = record {
  all : l.yielded ++ into_iter_items l.cause-iterator ≡ l.fn.causes.items;
  left : into_iter_len l.cause-iterator ≡ length (into_iter_items l.cause-iterator);
  small : AllByRecursion (λ (cause : Cause). body_length cause ≤ 268435456) (into_iter_items l.cause-iterator);
  stands : HubStands g.J.Journal.told l.hub (history_of l.initial.hub.settings l.yielded);
  settings : l.hub.settings ≡ l.initial.hub.settings;
  ready : l.hub.spent ≡ false;
  counts : l.counts ≡ counts_of (history_of l.initial.hub.settings l.yielded);
  few : l.counts.causes ≤ 9223372036854775807;
  later : g.J.Journal.faults l.initial.hub.journal ≤ g.J.Journal.faults l.hub.journal;
}
