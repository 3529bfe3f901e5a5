-- A start that is ready and its group count positions in one way (LSP 3.17, PositionEncodingKind).
use Rattle.std.specs.Prelude.{◌≡◌, ℕ, List}
use Rattle.std.specs.Prelude.{Some}
use Rattle.mux_history.specs.declared.entry.Entry.{Entry}
use Rattle.position_codec.specs.declared.Encoding.{Encoding}
use Rattle.event_model.specs.declared.stage.Stage.TheVariants.{Ready}
use Rattle.event_model.specs.Event.{Event, events_of}
use Rattle.event_model.specs.Spawns.{group_of}
use Rattle.event_model.specs.Stages.{life_of}
use Rattle.mux_model.specs.Documents as starts
use Rattle.group_rows.specs.Texts.{encoding_of}

-- the start gave this encoding, and what the editors of its group have open counts by it
pub record CountsBy (g s : ℕ) (events : List Event) : Type 0 where
  pub code : Encoding
  pub given : starts.encoding_of s events ≡ Some code
  pub known : encoding_of g events ≡ Some code

-- so it is of each start that is ready behind these entries
abbrev pub OneEncoding : List Entry → Type 0
OneEncoding history = (g s : ℕ) → (life_of s (events_of history)).stage ≡ Ready → group_of s (events_of history) ≡ Some g → CountsBy g s (events_of history)
