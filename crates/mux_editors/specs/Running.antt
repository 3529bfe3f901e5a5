-- L2: an editor that begins to run by its message is told of what is registered at its group's last start, and asked what waits there.
use Rattle.std.specs.Prelude.{◌≡◌, ℕ, Bool, true, false, List, []}
use Rattle.std.specs.Prelude.{None}
use Rattle.std.specs.List.{AllByRecursion}
use Rattle.document_model.specs.Texts.{found}
use Rattle.mux_history.specs.declared.cause.Cause.TheVariants.{FromEditor}
use Rattle.mux_history.specs.declared.out.Out.{Out}
use Rattle.rpc_message.specs.Message.{Message, message_of}
use Rattle.event_model.specs.declared.phase.Phase.{Phase}
use Rattle.event_model.specs.declared.phase.Phase.TheVariants.{Answered}
use Rattle.event_model.specs.Does.{Done}
use Rattle.event_model.specs.Event.{Event, with_cause}
use Rattle.event_model.specs.Phases.{desk_of, makes_running}
use Rattle.event_model.specs.Row.{Row, choose, nothing}
use Rattle.event_model.specs.Settings.{Settings}
use Rattle.event_model.specs.Stages.{is_ready, life_of}
use Rattle.mux_turns.specs.group_facts.specs.Facts.{Meant}
use Rattle.mux_turns.specs.group_facts.specs.Why.{IsQuestion}
use Rattle.group_rows.specs.Answers.{shared_texts}
use Rattle.group_rows.specs.AskRows.{run_row}
use Rattle.group_rows.specs.Created.{Taking, created_of, is_at}
use Rattle.mux_tables.specs.declared.tables.Tables.{Tables}
use Rattle.mux_tables.specs.Documents.{AllStand, Owed}
use Rattle.mux_turns.specs.Creates.{AreSmall}

-- its `initialize` was answered, and by no message since does it run
abbrev pub may_begin : Phase → Bool
may_begin Answered = true
may_begin _ = false

abbrev pub running_at : Settings → List Event → ℕ → Message → Phase → Row
running_at settings before e m Answered = choose (makes_running m) (run_row settings before e) nothing
running_at settings before e m other = nothing

abbrev pub running_row : Settings → List Event → ℕ → Message → Row
running_row settings before e m = running_at settings before e m (desk_of e before).phase

-- behind the message it was told and asked that, and nothing else was sent
pub record Begun (settings : Settings) (before : List Event) (e : ℕ) (body : List ℕ) (owed : Owed) (t : Tables) (sent : List Out) : Type 0 where
  pub done : Done (λ k events. AllStand settings k events) (running_row settings before e (message_of body)) (with_cause before (FromEditor e body)) [] (t, owed) sent
  pub asks : AllByRecursion (IsQuestion e) sent

-- an editor was asked to take no token
abbrev pub AreUnasked : ℕ → List Taking → Type 0
AreUnasked e cs = AllByRecursion (λ (c : Taking). is_at e c ≡ false) cs

-- one that doesn't run yet was asked to take none, and has no document open where a start is ready; numerals tell apart the starts that have tokens, and the events are of causes and outs
pub record CanBegin (settings : Settings) (before : List Event) (e : ℕ) (body : List ℕ) : Type 0 where
  pub unasked : may_begin (desk_of e before).phase ≡ true → (s : ℕ) → AreUnasked e (created_of settings s before).takings
  pub unopened : may_begin (desk_of e before).phase ≡ true → (s : ℕ) → is_ready (life_of s before).stage ≡ true → (u : List ℕ) → found e u (shared_texts settings s before) ≡ None
  pub small : AreSmall settings (with_cause before (FromEditor e body))
  pub meant : Meant before
