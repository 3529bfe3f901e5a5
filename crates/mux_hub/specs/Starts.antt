-- The servers and the folders of the starts.
use Rattle.std.specs.Prelude.{◌≡◌, ℕ, List, [], ◌∷◌, ◌++◌}
use Rattle.std.specs.Prelude.{Option, Some, None, slice_get}
use Rattle.std.specs.Option.{option_and_then}
use Rattle.mux_history.specs.declared.out.Out.TheVariants.{Spawn}
use Rattle.event_model.specs.Event.{Event, did}
use Rattle.event_model.specs.Settings.{Settings}
use Rattle.event_model.specs.Spawns.{group_of}
use Rattle.group_words.specs.declared.kept.Kept.{Kept}
use Rattle.group_words.specs.Houses.{groups_of}
use Rattle.group_words.specs.Past.{past}
use Rattle.start_folder.specs.Paths.{path_of}

-- the place of a group's server; of no group, that of the default one
abbrev pub server_in : ℕ → Option Kept → ℕ
server_in default None = default
server_in default (Some x) = x.key.server

-- of each start, by its number: the server of its group, as it was spawned
abbrev pub servers_next : Settings → List Event → List ℕ → Event → List ℕ
servers_next settings before servers (did (Spawn s g) m) = servers ++ server_in settings.default (slice_get (groups_of settings before) g) ∷ []
servers_next settings before servers other = servers

abbrev pub servers_of : Settings → List Event → List ℕ
servers_of settings events = past (servers_next settings) [] [] events

-- the groups of both have the same servers
abbrev pub SameServers : Settings → List Event → List Event → Type 0
SameServers settings before now = (g : ℕ) → server_in settings.default (slice_get (groups_of settings now) g) ≡ server_in settings.default (slice_get (groups_of settings before) g)

-- the folder of a group's programs: that of the first of its folders
abbrev pub first_path : List (List ℕ × List ℕ) → Option (List ℕ)
first_path [] = None
first_path (x ∷ xs) = path_of x.0

abbrev pub folder_in : Option Kept → Option (List ℕ)
folder_in None = None
folder_in (Some x) = first_path x.key.folders

-- the folder of a start's program: that of its group, as long as this lives
abbrev pub folder_at : Settings → List Event → ℕ → Option (List ℕ)
folder_at settings events s = option_and_then (λ g. folder_in (slice_get (groups_of settings events) g)) (group_of s events)
