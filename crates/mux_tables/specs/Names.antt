-- The ids of editors' `initialize`, as they are kept.
use Rattle.std.specs.Prelude.{◌≡◌, ℕ, List}
use Rattle.std.specs.Prelude.{Option, Some, None, slice_get}
use Rattle.rpc_message.specs.Message.{id_bytes}
use Rattle.editor_session.specs.declared.session.Session.{Session}
use Rattle.event_model.specs.declared.phase.Phase.TheVariants.{New, Waiting}
use Rattle.event_model.specs.Event.{Event}
use Rattle.event_model.specs.Phases.{Desk, desk_of}
use Rattle.event_model.specs.Settings.{Settings}
use Rattle.group_words.specs.Houses.{home_of}

-- what is kept of one
abbrev pub id_in : Option Session → Option (List ℕ)
id_in None = None
id_in (Some s) = s.id

-- of an editor that waits in a group, it is its own; one that is new is in no group
pub record NameStands (desk : Desk) (home : Option ℕ) (id : Option (List ℕ)) : Type 0 where
  pub own : (g : ℕ) → desk.phase ≡ Waiting → home ≡ Some g → id ≡ Some (id_bytes desk.initialize)
  pub unplaced : desk.phase ≡ New → home ≡ None

abbrev pub NamesStand : Settings → List Session → List Event → Type 0
NamesStand settings sessions events = (e : ℕ) → NameStands (desk_of e events) (home_of settings e events) (id_in (slice_get sessions e))
