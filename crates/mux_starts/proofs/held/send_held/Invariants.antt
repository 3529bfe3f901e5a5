-- Those before went on.
use Rattle.std.proofs.Common.{◌≡◌, ℕ, List, length, map}
use Rattle.std.specs.Prelude.{Some, slice_get}
use Rattle.event_model.specs.Event.{Event}
use Rattle.event_model.specs.Settings.{Settings}
use Rattle.mux_tables.specs.mux_waits.specs.Rows.{held_of}
use Rattle.mux_tables.specs.Stands.{house_in, number_in, stage_in}
use Rattle.mux_starts.specs.Held.{AreSent, IsIdle}
use Rattle.mux_starts.proofs.Passing.{to_do}
use Rattle.mux_starts.proofs.held.send_held.Given as goal

abbrev pub decreases-loop-more : goal.decreases-loop-more
decreases-loop-more l = to_do l.more (length (held_of l.group l.tables.origins.waiting))

abbrev pub invariant-loop-more : goal.invariant-loop-more
invariant-loop-more l = record {
  requests : l.tables.requests ≡ l.initial.tables.requests;
  versions : l.tables.versions ≡ l.initial.tables.versions;
  starts : map number_in l.tables.lasts.items ≡ map number_in l.initial.tables.lasts.items;
  stages : map stage_in l.tables.lasts.items ≡ map stage_in l.initial.tables.lasts.items;
  groups : map house_in l.tables.lasts.items ≡ map house_in l.initial.tables.lasts.items;
  does : (settings : Settings) (base : List Event) (s : ℕ) → slice_get (map number_in l.initial.tables.lasts.items) l.g ≡ Some s → IsIdle settings s base → AreSent settings base l.group s l.more l.initial.tables l.initial.outs l.tables l.outs;
}
