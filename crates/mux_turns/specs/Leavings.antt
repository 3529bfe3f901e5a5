-- What an editor that leaves has open, as its row reads it, and what is to be sent for it.
use Rattle.std.specs.Prelude.{◌≡◌, ℕ, true, List, [], map}
use Rattle.std.specs.Prelude.{Option, Some, None, slice_get}
use Rattle.mux_history.specs.declared.out.Out.{Out}
use Rattle.event_model.specs.declared.stage.Stage.{Stage}
use Rattle.event_model.specs.declared.stage.Stage.TheVariants.{Ready}
use Rattle.event_model.specs.Does.{Alike}
use Rattle.event_model.specs.Event.{Event}
use Rattle.event_model.specs.Row.{nothing, each, ◌⨾◌}
use Rattle.event_model.specs.Settings.{Settings}
use Rattle.event_model.specs.Stages.{is_ready, life_of}
use Rattle.group_words.specs.Houses.{home_of}
use Rattle.group_facts.specs.group_rows.specs.Leaves.{cancel, cancels_row}
use Rattle.mux_tables.specs.declared.tables.Start.{Start}
use Rattle.mux_tables.specs.declared.tables.Tables.{Tables}
use Rattle.mux_tables.specs.Documents.{Owed, leaving, nothing_owed, owes, to}
use Rattle.mux_tables.specs.Refusals.{of_editor, refusal}
use Rattle.mux_tables.specs.Stands.{house_in, number_in, stage_in, start_for}
use Rattle.mux_turns.specs.declared.leaves.Departure.{Departure}

-- the row of e's cancels and refusals cancels what was looked up, and refuses what the start asked of it; `lasts` are the last starts of the groups
abbrev pub Leaves : Settings → List Event → ℕ → List Start → Option Departure → Type 0
Leaves settings before e lasts None = Alike (cancels_row settings before e) nothing
Leaves settings before e lasts (Some l) = (x : Start) → slice_get lasts l.group ≡ Some x → (x.life.stage ≡ Ready)
    × Alike (cancels_row settings before e) (each (cancel x.life.start) l.requests.items ⨾ each (refusal x.life.start) (of_editor l.editor x.asks))

-- and what the start is owed for its documents is paid: by the group of the editor, and its start; `lasts` are the last starts, `stages`
-- where they stand, and `groups` their groups
abbrev pub PaysAt : Settings → List Event → ℕ → List ℕ → List Stage → List ℕ → Option ℕ → Option ℕ → List Out → Owed → Type 0
PaysAt settings before e lasts stages groups (Some g) (Some s) owed owing = (owed ≡ to s (leaving settings before g s e)) × (owing ≡ owes g (leaving settings before g s e))
    × (is_ready (life_of s before).stage ≡ true → (place : ℕ) × (slice_get lasts place ≡ Some s) × (slice_get stages place ≡ Some Ready) × (slice_get groups place ≡ Some g))
PaysAt settings before e lasts stages groups home start owed owing = (owed ≡ []) × (owing ≡ nothing_owed)

abbrev pub Pays : Settings → List Event → ℕ → Tables → List Out → Owed → Type 0
Pays settings before e t owed owing = PaysAt settings before e (map number_in t.lasts.items) (map stage_in t.lasts.items) (map house_in t.lasts.items) (home_of settings e before) (start_for settings e before) owed owing
