-- When the documents that are kept of a group stand for the events.
use Rattle.std.specs.Prelude.{◌≡◌, ℕ, List}
use Rattle.std.specs.Prelude.{Some}
use Rattle.position_codec.specs.declared.Encoding.{Encoding}
use Rattle.document_model.specs.Orderly.{AllSpelt, Orderly}
use Rattle.document_laws.specs.Follows.{Held, texts_in}
use Rattle.event_model.specs.Event.{Event}
use Rattle.event_model.specs.Settings.{Settings}
use Rattle.focus_switch.specs.declared.held.Held as kept
use Rattle.focus_switch.specs.Documents.{Documents, held_of}
use Rattle.group_rows.specs.Lists.{changed_of, sayings_of}
use Rattle.group_rows.specs.mux_model.specs.Documents as starts
use Rattle.group_rows.specs.mux_model.specs.Documents.{held_at}
use Rattle.group_rows.specs.Texts.{encoding_of, texts_of}

-- what its editors have open, and how positions count
pub record TextsStand (settings : Settings) (g : ℕ) (d : Documents) (events : List Event) : Type 0 where
  pub texts : texts_of settings g events ≡ texts_in d
  pub encoding : encoding_of g events ≡ d.encoding
  pub orderly : Orderly (texts_in d)
  pub spelt : AllSpelt d.opens

-- how many notifications on documents a start was sent, and how many as of the last one on each document that it has
pub record CountsStand (s : ℕ) (d : Documents) (events : List Event) : Type 0 where
  pub sent : d.sent ≡ sayings_of s events
  pub changed : (u : List ℕ) (h : kept.Held) → held_of u d.helds ≡ Some h → h.sent ≡ changed_of s u events

-- and what a ready start of its has
pub record HeldStands (s : ℕ) (code : Encoding) (d : Documents) (events : List Event) : Type 0 where
  pub start : d.start ≡ Some s
  pub known : d.encoding ≡ Some code
  pub given : starts.encoding_of s events ≡ Some code
  pub held : Held d (λ u. held_at s u events)
  pub counts : CountsStand s d events
