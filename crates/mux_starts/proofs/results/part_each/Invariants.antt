-- Those before are parted with.
use Rattle.std.proofs.Common.{◌≡◌, length, take}
use Rattle.event_model.specs.Row.{each}
use Rattle.group_rows.specs.Waiting.{part}
use Rattle.mux_starts.specs.Parted.{PartedBy}
use Rattle.mux_starts.proofs.results.part_each.Given as goal

abbrev pub invariant-loop-e : goal.invariant-loop-e
invariant-loop-e l = record {
  count : length l.tables.editors ≡ length l.initial.tables.editors;
  requests : l.tables.requests ≡ l.initial.tables.requests;
  versions : l.tables.versions ≡ l.initial.tables.versions;
  lasts : l.tables.lasts ≡ l.initial.tables.lasts;
  parted : PartedBy (λ settings. each (part settings l.g) (take l.e-index l.editors)) (take l.e-index l.editors) l.initial.tables l.tables l.initial.outs l.outs;
}
