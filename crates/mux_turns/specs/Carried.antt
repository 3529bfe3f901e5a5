-- When what groups carry from one of their starts to the next stands for events.
use Rattle.std.specs.Prelude.{◌≡◌, ℕ, ◌≤◌, Bool, true, false, not, ◌&&◌, List, [], ◌∷◌, ◌++◌, codes, filter, if◌then◌else◌, length, nat_eq, option_map}
use Rattle.std.specs.Prelude.{Option, Some, None}
use Rattle.json_text.specs.Json.{Json}
use Rattle.json_text.specs.Tree.{tree_of}
use Rattle.json_nodes.specs.Doc.{Doc}
use Rattle.capability_meet.specs.Answers.{IsRead}
use Rattle.rpc_message.specs.Message.{result_bytes}
use Rattle.event_model.specs.Event.{Event}
use Rattle.event_model.specs.Members.{named_of}
use Rattle.event_model.specs.Settings.{Settings}
use Rattle.group_words.specs.declared.kept.Kept.{Kept}
use Rattle.group_words.specs.Houses.{groups_of}
use Rattle.group_words.specs.Rows.{shown_of}
use Rattle.group_facts.specs.Lively.{lives_at}
use Rattle.group_facts.specs.group_rows.specs.Earlier.{configuration_of, given_of, same_shown}
use Rattle.mux_turns.specs.declared.carried.Carried.{Carried}

-- the bytes were read, or they are no JSON text
abbrev pub ReadsTo : Option Doc → List ℕ → Type 0
ReadsTo None bytes = tree_of bytes ≡ None
ReadsTo (Some doc) bytes = IsRead doc bytes

-- the capabilities in the text of a result
abbrev pub capabilities_in : List ℕ → Option Json
capabilities_in text = named_of (codes "capabilities") (tree_of text)

-- S2: those that editors are shown now aren't those of an earlier text
abbrev pub differs_shown : Option (List ℕ) → List ℕ → Bool
differs_shown None shown = false
differs_shown (Some earlier) shown = not (same_shown (capabilities_in earlier) (capabilities_in shown))

-- the body of a group
abbrev pub carried : ℕ → List Carried → Option (List ℕ)
carried g [] = None
carried g (c ∷ cs) = if nat_eq c.group g then Some c.body else carried g cs

-- it has another one from now on, and those of groups that live no more are dropped
abbrev pub stays : List Kept → ℕ → Carried → Bool
stays groups g c = not (nat_eq c.group g) && lives_at c.group groups

abbrev pub with_carried : List Kept → ℕ → List ℕ → List Carried → List Carried
with_carried groups g body cs = filter (stays groups g) cs ++ record { group = g; body = body } ∷ []

pub record CarriesView : Type 0 where
  pub shown : List Carried
  pub configurations : List Carried

-- what editors were shown of the body with the result
abbrev pub shown_text : List ℕ → List ℕ
shown_text body = shown_of (result_bytes body)

-- a group that wasn't founded has nothing
pub record Bare (settings : Settings) (carries : CarriesView) (events : List Event) (g : ℕ) : Type 0 where
  pub shown : carried g carries.shown ≡ None
  pub configuration : carried g carries.configurations ≡ None
  pub given : given_of g events ≡ None
  pub configured : configuration_of settings g events ≡ None

-- of a group that lives it is the last result that a start of it gave, and the last configuration
pub record CarriedStand (settings : Settings) (carries : CarriesView) (events : List Event) : Type 0 where
  pub shown : (g : ℕ) → lives_at g (groups_of settings events) ≡ true → carried g carries.shown ≡ option_map shown_text (given_of g events)
  pub configuration : (g : ℕ) → lives_at g (groups_of settings events) ≡ true → carried g carries.configurations ≡ configuration_of settings g events
  pub bare : (g : ℕ) → length (groups_of settings events) ≤ g → Bare settings carries events g
