-- What is looked at before the row of an editor's message.
use Rattle.std.specs.Prelude.{◌≡◌, ℕ, Bool, ◌||◌, List, [], bytes_eq, codes}
use Rattle.std.specs.Prelude.{Option, Some, None}
use Rattle.json_text.specs.Json.{Json}
use Rattle.rpc_message.specs.Message.{Id, message_of, request}
use Rattle.event_model.specs.Event.{Event}
use Rattle.event_model.specs.declared.phase.Phase.TheVariants.{Running}
use Rattle.event_model.specs.Phases.{desk_of, is_multiplexer_request}
use Rattle.event_model.specs.Row.{Row}
use Rattle.event_model.specs.Settings.{Settings}
use Rattle.mux_turns.specs.mux_tables.specs.Stands.{start_for}
use Rattle.refresh_debts.specs.declared.debts.Debt.{Debt}
use Rattle.group_rows.specs.AskRows.{ask}
use Rattle.group_rows.specs.Asks.{asking_of}
use Rattle.group_rows.specs.Debts.{debts_due}
use Rattle.group_rows.specs.Waiting.{is_misplaced}

-- a request is none for a start, by its method
abbrev pub is_aside : Id → List ℕ → Option Json → Bool
is_aside id method params = is_multiplexer_request (request id method params) || (is_misplaced method || bytes_eq (codes "shutdown") method)

-- what the last start of its group owes it, where there is one
abbrev pub IsDueOf : Settings → List Event → ℕ → List ℕ → List Debt → Option ℕ → Type 0
IsDueOf settings before e body due None = due ≡ []
IsDueOf settings before e body due (Some s) = due ≡ debts_due settings s before e body (message_of body)

abbrev pub IsDue : Settings → List Event → ℕ → List ℕ → List Debt → Type 0
IsDue settings before e body due = IsDueOf settings before e body due (start_for settings e before)

-- an editor runs, and no request is at work that one editor answers
pub record CanPay (settings : Settings) (e : ℕ) (events : List Event) : Type 0 where
  pub runs : (desk_of e events).phase ≡ Running
  pub idle : (s : ℕ) → (asking_of settings s events).asker ≡ None

-- it is asked what is owed
abbrev pub pays : ℕ → Debt → Row
pays e d = ask d.body e
