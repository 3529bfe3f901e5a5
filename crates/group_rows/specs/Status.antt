-- E5: what `lspmux/status` tells of the live groups.
use Rattle.std.specs.Prelude.{ℕ, ◌^◌, Bool, ◌&&◌, List, [], ◌∷◌, ◌++◌, map, filter, flat_map, length, codes, decimal, nat_lt, bytes_eq, encode_utf8_all, if◌then◌else◌}
use Rattle.std.specs.Prelude.{slice_get}
use Rattle.std.specs.Option.{option_map_or}
use Rattle.std.specs.Str.{all_scalars, chars}
use Rattle.json.specs.Print.{quoted}
use Rattle.group_words.specs.capability_meet.specs.Parts.{bracketed}
use Rattle.event_model.specs.declared.settings.Server.{Server}
use Rattle.event_model.specs.declared.stage.Stage.{Stage}
use Rattle.event_model.specs.declared.stage.Stage.TheVariants.{Spawning, Initializing}
use Rattle.event_model.specs.Event.{Event}
use Rattle.event_model.specs.Phases.{desk_of, is_begun, is_there}
use Rattle.event_model.specs.Settings.{Settings}
use Rattle.event_model.specs.Spawns.{start_of}
use Rattle.event_model.specs.Stages.{life_of}
use Rattle.group_words.specs.declared.kept.Kept.{Kept}
use Rattle.group_words.specs.Houses.{editors_in, groups_of, home_of}
use Rattle.group_words.specs.Placing.{all_from, is_live}
use Rattle.group_rows.specs.Forwarded.{Forwarded, forwarding_of}

-- a number of 64 bits; a greater one, which no machine counts to, is null
abbrev pub number_text : ℕ → List ℕ
number_text n = if nat_lt n (2 ^ 64) then decimal n else codes "null"

abbrev pub numbers_text : List ℕ → List ℕ
numbers_text numbers = bracketed (map number_text numbers)

-- a name, as a string; one that is no UTF-8 (RFC 3629) is empty
abbrev pub is_utf8 : List ℕ → Bool
is_utf8 bytes = all_scalars (chars bytes) && bytes_eq (encode_utf8_all (chars bytes)) bytes

abbrev pub name_text : List ℕ → List ℕ
name_text name = quoted (if is_utf8 name then name else [])

-- a live group's start is ready, or will be
abbrev pub state_text : Stage → List ℕ
state_text Spawning = codes "\"spawning\""
state_text Initializing = codes "\"initializing\""
state_text other = codes "\"ready\""

-- what is told of a group
pub record Item : Type 0 where
  pub group : ℕ
  pub server : List ℕ
  pub start : ℕ
  pub stage : Stage
  pub editors : List ℕ
  pub asked : ℕ

abbrev pub item_text : Item → List ℕ
item_text x = codes "{\"group\":" ++ number_text x.group ++ codes ",\"server\":" ++ name_text x.server ++ codes ",\"start\":" ++ number_text x.start ++ codes ",\"state\":" ++ state_text x.stage
    ++ codes ",\"editors\":" ++ numbers_text x.editors ++ codes ",\"open\":" ++ number_text x.asked ++ codes "}"

abbrev pub status_text : List Item → List ℕ
status_text items = codes "{\"groups\":" ++ bracketed (map item_text items) ++ codes "}"

-- the name of a group's server
abbrev pub name_of : List Server → Kept → List ℕ
name_of servers x = option_map_or (λ (server : Server). server.name) (slice_get servers x.key.server) []

abbrev pub server_of : Settings → List Event → ℕ → List ℕ
server_of settings before g = option_map_or (name_of settings.servers) (slice_get (groups_of settings before) g) []

-- how many requests a start has to answer whose editors are there: also those that were cancelled, and those of editors that are down
abbrev pub asked_at : Settings → List Event → ℕ → ℕ
asked_at settings before s = length (filter (λ (f : Forwarded). is_there (desk_of f.editor before).phase) (forwarding_of settings s before).open_requests)

abbrev pub item_at : Settings → List Event → ℕ → ℕ → Item
item_at settings before g s = record {
  group = g;
  server = server_of settings before g;
  start = s;
  stage = (life_of s before).stage;
  editors = editors_in is_begun g (λ e. home_of settings e before) before;
  asked = asked_at settings before s;
}

-- a live group has a start
abbrev pub item_in : Settings → List Event → ℕ → List Item
item_in settings before g = option_map_or (λ s. item_at settings before g s ∷ []) (start_of g before) []

-- one for each live group, rising
abbrev pub items_of : Settings → List Event → List Item
items_of settings before = flat_map (item_in settings before) (all_from 0 is_live (groups_of settings before))
