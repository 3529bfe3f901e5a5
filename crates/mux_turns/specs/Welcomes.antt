-- What an editor that waits asked, and what it is shown.
use Rattle.std.specs.Prelude.{◌≡◌, ℕ, Bool, true, false, List, ◌++◌}
use Rattle.std.specs.Prelude.{Option}
use Rattle.std.specs.List.{AllByRecursion}
use Rattle.mux_history.specs.declared.out.Out.{Out}
use Rattle.mux_history.specs.declared.out.Out.TheVariants.{ToEditor, ToServer}
use Rattle.event_model.specs.declared.phase.Phase.{Phase}
use Rattle.json_text.specs.Json.{Json}
use Rattle.rpc_message.specs.Message.{Id, message_of, request, result_bytes}
use Rattle.rpc_message.specs.ValueTexts.{IsShallowText}
use Rattle.event_model.specs.declared.phase.Phase.TheVariants.{Waiting, Answered}
use Rattle.event_model.specs.Event.{Event}
use Rattle.event_model.specs.Phases.{desk_of}
use Rattle.group_words.specs.Rows.{shown_of}

-- its `initialize` is a request
pub record IsAsking (events : List Event) (e : ℕ) : Type 0 where
  pub name : Id
  pub method : List ℕ
  pub params : Option Json
  pub says : message_of (desk_of e events).initialize ≡ request name method params

abbrev pub AllAsking : List Event → Type 0
AllAsking events = (e : ℕ) → (desk_of e events).phase ≡ Waiting → IsAsking events e

-- what editors are shown of a start's result is the text of a value
pub record IsShown (body : List ℕ) : Type 0 where
  pub value : Json
  pub text : IsShallowText 1023 value (shown_of (result_bytes body))

-- it waits, or was answered just now
abbrev pub is_greeted : Phase → Bool
is_greeted Waiting = true
is_greeted Answered = true
is_greeted _ = false

pub record IsGreeted (events : List Event) (e : ℕ) : Type 0 where
  pub phase : is_greeted (desk_of e events).phase ≡ true
  pub asks : IsAsking events e

-- bodies to editors and starts
abbrev pub IsBody : Out → Type 0
IsBody (ToEditor e body) = Unit {0}
IsBody (ToServer s body) = Unit {0}
IsBody other = ⊥

abbrev pub AreBodies : List Out → Type 0
AreBodies xs = AllByRecursion IsBody xs

-- bodies to editors
abbrev pub IsToEditor : Out → Type 0
IsToEditor (ToEditor e body) = Unit {0}
IsToEditor other = ⊥

-- only such are said behind those that were
pub record Informs (xs ys : List Out) : Type 0 where
  pub more : List Out
  pub is : ys ≡ xs ++ more
  pub all : AllByRecursion IsToEditor more

-- some are said behind those that were
pub record Tells (xs ys : List Out) : Type 0 where
  pub more : List Out
  pub is : ys ≡ xs ++ more
  pub bodies : AreBodies more
