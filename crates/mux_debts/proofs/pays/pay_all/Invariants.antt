-- Those before are asked.
use Rattle.std.proofs.Common.{◌≡◌, List, length, take}
use Rattle.std.specs.List.{AllByRecursion}
use Rattle.event_model.specs.Does.{Does}
use Rattle.event_model.specs.Event.{Event, behind}
use Rattle.event_model.specs.Row.{each}
use Rattle.event_model.specs.Settings.{Settings}
use Rattle.group_rows.specs.Debts.{IsDebt}
use Rattle.mux_tables.specs.Documents.{AllStand, nothing_owed}
use Rattle.mux_debts.specs.Going.{CanPay, pays}
use Rattle.mux_debts.proofs.pays.pay_all.Given as goal

abbrev pub invariant-loop-debt : goal.invariant-loop-debt
invariant-loop-debt l = record {
  count : length l.tables.editors ≡ length l.initial.tables.editors;
  requests : l.tables.requests ≡ l.initial.tables.requests;
  versions : l.tables.versions ≡ l.initial.tables.versions;
  does : (settings : Settings) (base : List Event) → AllByRecursion IsDebt l.due → CanPay settings l.e (behind base l.initial.outs)
      → Does (λ k events. AllStand settings k events) (each (pays l.e) (take l.debt-index l.due)) base (l.initial.tables, nothing_owed) l.initial.outs (l.tables, nothing_owed) l.outs;
}
