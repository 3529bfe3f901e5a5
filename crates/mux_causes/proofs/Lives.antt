-- A start that is kept, by the events.
use Rattle.std.proofs.Common.{◌≡◌, ℕ, ◌<◌, List, map, length, get_or, subst}
use Rattle.std.specs.Prelude.{Some, slice_get}
use Rattle.event_model.specs.Event.{Event}
use Rattle.event_model.specs.Settings.{Settings}
use Rattle.event_model.specs.Stages.{life_of}
use Rattle.mux_turns.specs.mux_tables.specs.declared.tables.Start.{Start}
use Rattle.mux_turns.specs.mux_tables.specs.declared.tables.Tables.{Tables}
use Rattle.mux_turns.specs.mux_tables.specs.Stands.{Stands, number_in, of_life}
use Rattle.mux_turns.specs.mux_tables.proofs.Starts.{read_here, start_at_place}

-- the last start of a group, as it is kept
pub last_life : (settings : Settings) (t : Tables) (events : List Event) (g s : ℕ) (z : Start) → Stands settings t events → slice_get (map number_in t.lasts.items) g ≡ Some s → g < length t.lasts.items → z ≡ get_or t.lasts.items g z
    → life_of s events ≡ record { stage = z.life.stage; started = z.started }
last_life settings t events g s z st at within read =
    let here = read_here t.lasts.items g z within read in
    subst (λ n. life_of n events ≡ record { stage = z.life.stage; started = z.started }) (start_at_place t.lasts.items g s z here at) ((st.lasts.each g z here).parts of_life)
