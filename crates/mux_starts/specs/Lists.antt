-- What editors are shown of a list of diagnostics, as the row reads it.
use Rattle.std.specs.Prelude.{ℕ, ◌<◌, Bool, List, [], ◌∷◌, ◌++◌, if◌then◌else◌}
use Rattle.mux_history.specs.declared.out.Out.{Out}
use Rattle.mux_history.specs.declared.out.Out.TheVariants.{ToEditor}
use Rattle.event_model.specs.Event.{Event}
use Rattle.event_model.specs.Row.{Row, send}
use Rattle.event_model.specs.Settings.{Settings}
use Rattle.group_rows.specs.diagnostics_route.specs.declared.last_list.LastList.{LastList}
use Rattle.group_rows.specs.diagnostics_route.specs.Shown.{fits, shown_text}
use Rattle.group_rows.specs.Lists.{agreement_at, version_at}
use Rattle.mux_starts.specs.declared.progress.Telling.{Telling}
use Rattle.mux_tables.specs.Stands.{IsListOf}

-- an editor that a list of start s fits is shown it
abbrev pub shown_to : Settings → List Event → ℕ → LastList → ℕ → List Telling
shown_to settings before s l e = if fits l (agreement_at settings s e before l.uri) then record { editor = e; text = shown_text (version_at settings s e before l.uri) l.body } ∷ [] else []

abbrev pub all_shown : Settings → List Event → ℕ → LastList → List ℕ → List Telling
all_shown settings before s l [] = []
all_shown settings before s l (e ∷ es) = shown_to settings before s l e ++ all_shown settings before s l es

-- it is told so
abbrev pub told : Telling → Out
told t = ToEditor t.editor t.text

abbrev pub tell : Telling → Row
tell t = send (told t)

-- it is for an editor below this number
abbrev pub IsInside : ℕ → Telling → Type 0
IsInside n t = t.editor < n

-- it is a list of diagnostics of the document of a URI, which is empty or isn't
abbrev pub IsListed : List ℕ → Bool → Telling → Type 0
IsListed uri empty t = IsListOf uri empty t.text
