-- When a table of debts stands for events.
use Rattle.std.specs.Prelude.{◌≡◌, ℕ, List}
use Rattle.refresh_debts.specs.declared.debts.Debt.{Debt}
use Rattle.refresh_debts.specs.Tables.{of}
use Rattle.event_model.specs.Event.{Event}
use Rattle.event_model.specs.Settings.{Settings}
use Rattle.group_rows.specs.Debts.{debts_of}

-- it has what each start owes to each editor
abbrev pub DebtsStand : Settings → List Debt → List Event → Type 0
DebtsStand settings rows events = (s e : ℕ) → of s e rows ≡ debts_of settings s e events
