-- Those so far were told, and what is left is for editors that are there.
use Rattle.std.proofs.Common.{◌≡◌, ◌++◌, List, length}
use Rattle.std.specs.List.{AllByRecursion}
use Rattle.std.specs.Vec.Iter.{into_iter_items, into_iter_len}
use Rattle.event_model.specs.Does.{Does}
use Rattle.event_model.specs.Event.{Event}
use Rattle.event_model.specs.Row.{each}
use Rattle.event_model.specs.Settings.{Settings}
use Rattle.mux_starts.specs.Lists.{IsInside, IsListed, tell}
use Rattle.mux_tables.specs.Documents.{AllStand, nothing_owed}
use Rattle.mux_starts.proofs.lists.tell_each.Given as goal

abbrev pub invariant-loop-telling : goal.invariant-loop-telling
invariant-loop-telling l = record {
  all : l.yielded ++ into_iter_items l.telling-iterator ≡ l.fn.tellings.items;
  left : into_iter_len l.telling-iterator ≡ length (into_iter_items l.telling-iterator);
  inside : AllByRecursion (IsInside (length l.tables.editors)) (into_iter_items l.telling-iterator);
  requests : l.tables.requests ≡ l.initial.tables.requests;
  versions : l.tables.versions ≡ l.initial.tables.versions;
  does : (settings : Settings) (base : List Event) → AllByRecursion (IsListed l.uri l.empty) l.fn.tellings.items
      → Does (λ k events. AllStand settings k events) (each tell l.yielded) base (l.initial.tables, nothing_owed) l.initial.outs (l.tables, nothing_owed) l.outs
      × AllByRecursion (IsListed l.uri l.empty) (into_iter_items l.telling-iterator);
}
