-- S15, and the parts of E12 and L2: the last lists of diagnostics that editors are sent (LSP 3.17, Publish Diagnostics).
use Rattle.std.specs.Prelude.{ℕ, List, find}
use Rattle.mux_history.specs.declared.out.Out.TheVariants.{ToEditor}
use Rattle.response_route.specs.document_model.specs.Sayings.{Saying, opens}
use Rattle.event_model.specs.Event.{Event}
use Rattle.event_model.specs.Row.{Row, nothing, send, choose, look, each, on}
use Rattle.event_model.specs.Settings.{Settings}
use Rattle.event_model.specs.Spawns.{group_of}
use Rattle.diagnostics_route.specs.declared.last_list.LastList.{LastList}
use Rattle.diagnostics_route.specs.Published.{published}
use Rattle.diagnostics_route.specs.Rows.{is_of}
use Rattle.diagnostics_route.specs.Shown.{fits, shown_text}
use Rattle.group_rows.specs.Asks.{running_in}
use Rattle.group_rows.specs.Lists.{agreement_at, lists_of, sayings_of, version_at}

-- S15: a list goes to an editor that it fits, with the editor's own version
abbrev pub show : Settings → List Event → ℕ → ℕ → LastList → Row
show settings events s e l = choose (fits l (agreement_at settings s e events l.uri)) (send (ToEditor e (shown_text (version_at settings s e events l.uri) l.body))) nothing

-- S15: a list that comes is shown to each editor that runs
abbrev pub list_row : Settings → ℕ → List Event → List ℕ → Row
list_row settings s before body = on (published (sayings_of s before) body) nothing
    (λ l. on (group_of s before) nothing (λ g. each (λ e. show settings before s e l) (running_in settings g before)))

-- a last list that isn't empty
abbrev pub show_full : Settings → List Event → ℕ → ℕ → LastList → Row
show_full settings events s e l = choose l.empty nothing (show settings events s e l)

-- E12: an editor that opened a document is shown the last list of it, by what the start was sent by then
abbrev pub show_opened : Settings → ℕ → ℕ → Saying → Row
show_opened settings s e (opens u l v t) = look (λ events. on (find (is_of u) (lists_of s events)) nothing (show_full settings events s e))
show_opened settings s e other = nothing

-- L2: an editor that begins to run is shown each, in the order of their documents' first lists
abbrev pub show_all : Settings → List Event → ℕ → ℕ → Row
show_all settings before e s = each (show_full settings before s e) (lists_of s before)
