-- What a table of debts has behind what a start, or an editor, says.
use Rattle.std.specs.Prelude.{ℕ, Bool, false, List, fold}
use Rattle.rpc_message.specs.Message.{Message, request}
use Rattle.refresh_debts.specs.declared.debts.Debt.{Debt}
use Rattle.event_model.specs.Event.{Event}
use Rattle.event_model.specs.Settings.{Settings}
use Rattle.group_rows.specs.Debts.{agrees_on_all, asks_anew, debt_of, owed_by}

-- a start wants something asked anew
abbrev pub wants : Settings → ℕ → List Event → Message → Bool
wants settings s before (request id method params) = asks_anew settings s before id method
wants settings s before other = false

-- it is noted of an editor, and of several
abbrev pub noted : Settings → ℕ → List Event → List ℕ → List ℕ → List Debt → ℕ → List Debt
noted settings s before body method ds e = owed_by (agrees_on_all settings s before e) (debt_of s e method body) ds

abbrev pub all_noted : Settings → ℕ → List Event → List ℕ → List ℕ → List ℕ → List Debt → List Debt
all_noted settings s before body method es ds = fold (noted settings s before body method) ds es
