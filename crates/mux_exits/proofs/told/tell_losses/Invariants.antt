-- Those so far were told.
use Rattle.std.proofs.Common.{◌≡◌, ◌++◌, ℕ, List, length}
use Rattle.std.specs.Prelude.{None}
use Rattle.std.specs.List.{AllByRecursion}
use Rattle.std.specs.Vec.Iter.{into_iter_items, into_iter_len}
use Rattle.event_model.specs.Does.{Does}
use Rattle.event_model.specs.Event.{Event, behind}
use Rattle.event_model.specs.Row.{each}
use Rattle.event_model.specs.Settings.{Settings}
use Rattle.group_rows.specs.Asks.{asking_of}
use Rattle.group_rows.specs.Live.{unregister_text}
use Rattle.mux_exits.specs.Losses.{CanLose, loss_row}
use Rattle.mux_tables.specs.Documents.{AllStand, nothing_owed}
use Rattle.mux_turns.specs.Calls.{IsCall}
use Rattle.mux_exits.proofs.told.tell_losses.Given as goal

abbrev pub invariant-loop-loss : goal.invariant-loop-loss
invariant-loop-loss l = record {
  all : l.yielded ++ into_iter_items l.loss-iterator ≡ l.fn.losses.items;
  left : into_iter_len l.loss-iterator ≡ length (into_iter_items l.loss-iterator);
  count : length l.tables.editors ≡ length l.initial.tables.editors;
  requests : l.tables.requests ≡ l.initial.tables.requests;
  versions : l.tables.versions ≡ l.initial.tables.versions;
  lasts : l.tables.lasts ≡ l.initial.tables.lasts;
  does : (settings : Settings) (base : List Event) → IsCall (unregister_text l.live) → AllByRecursion (CanLose (behind base l.initial.outs)) l.fn.losses.items
      → ((s : ℕ) → (asking_of settings s (behind base l.initial.outs)).asker ≡ None)
      → Does (λ k events. AllStand settings k events) (each (loss_row l.live) l.yielded) base (l.initial.tables, nothing_owed) l.initial.outs (l.tables, nothing_owed) l.outs;
}
