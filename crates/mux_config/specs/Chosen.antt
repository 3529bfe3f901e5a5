-- What settings say, over the table that a TOML document is, and the ranges that each daemon's settings keep.
use Rattle.std.specs.Prelude.{◌≡◌, ◌≤◌, ◌<◌, ℕ, suc, true, if◌then◌else◌, List, [], ◌∷◌, length, map, bytes_eq, codes, IsUtf8, IfSome}
use Rattle.std.specs.Prelude.{Option, Some, None, option_and_then, unwrap_or, Vec, String, string_bytes}
use Rattle.std.specs.Ordering.{nat_cmp}
use Rattle.std.specs.Cmp.Lexicographic.{slice_cmp}
use Rattle.std.specs.List.{AllByRecursion}
use Rattle.std.specs.List.Sorted.{IsStrictlySortedBy}
use Rattle.json_text.specs.Tree.{tree_of}
use Rattle.event_model.specs.Settings.{Settings}
use Rattle.event_model.specs.declared.settings.Limits.{Limits}
use Rattle.event_model.specs.declared.settings.Server.{Server}
use Rattle.outside_io.specs.Doors.{Address, unix, tcp, streams, address_of}
use Rattle.outside_io.specs.declared.door.Place.{Place}
use Rattle.std.specs.declared.alloc.Global.{Global}
use Rattle.toml.specs.Data.{Data, string, array, table, Items, no_items, item, Members, no_members, member, get, get_member, as_str, as_array}
use Rattle.mux_config.specs.Settings.{bounds_of, number_in, place_in, servers_in, is_object}
use Rattle.mux_config.specs.declared.keys.Span.{Span}

-- the settings of a daemon: its place, its links at one time, the bytes of a body, the hub's settings, and a command for each server
pub record Chosen : Type 0 where
  pub place : Address
  pub links : ℕ
  pub content : ℕ
  pub hub : Settings
  pub commands : List (List (List ℕ))

-- the settings that the fields of a `Config` are
abbrev pub chosen_by : Place → ℕ → ℕ → Limits → ℕ → List Server → List (Vec (String Global) Global) → Chosen
chosen_by place links content limits default servers commands = record {
  place = address_of place;
  links = links;
  content = content;
  hub = record { limits = limits; servers = servers; default = default };
  commands = map (λ words. map string_bytes words.items) commands;
}

-- the number of a key, or its default
abbrev pub number_or : Option Span → Option Data → ℕ
number_or None d = 0
number_or (Some s) d = unwrap_or (option_and_then (λ d. number_in s.low s.high d) d) s.default

abbrev pub number_at : Members → List ℕ → ℕ
number_at ms key = number_or (bounds_of key) (get_member key ms)

abbrev pub place_at : Members → Address
place_at ms = unwrap_or (option_and_then place_in (get_member (codes "place") ms)) (unix (codes "/tmp/lspmux.sock"))

abbrev pub limits_at : Members → Limits
limits_at ms = record {
  groups = number_at ms (codes "groups");
  restarts = number_at ms (codes "restarts");
  idle = number_at ms (codes "idle");
  grace = number_at ms (codes "grace");
  backlog = number_at ms (codes "backlog");
  requests = number_at ms (codes "requests");
  versions = number_at ms (codes "versions");
}

-- how many names stand before a name
abbrev pub names_before : List ℕ → Members → ℕ
names_before name no_members = 0
names_before name (member key d ms) = if bytes_eq key name then 0 else suc (names_before name ms)

-- the place of the server that is meant where an editor names none: the first, if the settings name none
abbrev pub default_place : Option (List ℕ) → Members → ℕ
default_place None servers = 0
default_place (Some name) servers = names_before name servers

abbrev pub default_at : Members → Members → ℕ
default_at ms servers = default_place (option_and_then as_str (get_member (codes "default") ms)) servers

abbrev pub server_of : List ℕ → Data → Server
server_of name d = record { name = name; ceiling = option_and_then as_str (get (codes "ceiling") d) }

abbrev pub servers_of : Members → List Server
servers_of no_members = []
servers_of (member name d ms) = server_of name d ∷ servers_of ms

-- the strings among some values
abbrev pub strings_of : Items → List (List ℕ)
strings_of no_items = []
strings_of (item (string s) ds) = s ∷ strings_of ds
strings_of (item _ ds) = strings_of ds

abbrev pub words_of : Option Items → List (List ℕ)
words_of None = []
words_of (Some ds) = strings_of ds

abbrev pub command_of : Data → List (List ℕ)
command_of d = words_of (option_and_then as_array (get (codes "command") d))

abbrev pub commands_of : Members → List (List (List ℕ))
commands_of no_members = []
commands_of (member name d ms) = command_of d ∷ commands_of ms

-- what a table says, with these servers
abbrev pub chosen_with : Members → Members → Chosen
chosen_with ms servers = record {
  place = place_at ms;
  links = number_at ms (codes "links");
  content = number_at ms (codes "content");
  hub = record { limits = limits_at ms; servers = servers_of servers; default = default_at ms servers };
  commands = commands_of servers;
}

abbrev pub chosen_in : Members → Option Members → Chosen
chosen_in ms None = chosen_with ms no_members
chosen_in ms (Some servers) = chosen_with ms servers

-- what a table says
abbrev pub chosen_of : Members → Chosen
chosen_of ms = chosen_in ms (servers_in ms)

-- the table of one server `main`, whose command is `rust-analyzer`
abbrev pub built_in : Members
built_in = member (codes "server") (table (member (codes "main") (table (member (codes "command") (array (item (string (codes "rust-analyzer")) no_items)) no_members)) no_members)) no_members

-- ranges

abbrev pub IsWithin : ℕ → ℕ → ℕ → Type 0
IsWithin low high n = (low ≤ n) × (n ≤ high)

-- the length of a path, or the number of a port, and the greatest that it may be; there are the standard input and output once
abbrev pub size_of : Address → ℕ
size_of (unix path) = length path
size_of (tcp port) = port
size_of streams = 1

abbrev pub most_of : Address → ℕ
most_of (unix path) = 100
most_of (tcp port) = 65535
most_of streams = 1

abbrev pub IsPlace : Address → Type 0
IsPlace a = IsWithin 1 (most_of a) (size_of a)

-- each number of the limits is in its range
pub record AreLimits (l : Limits) : Type 0 where
  pub groups : IsWithin 1 16 l.groups
  pub restarts : IsWithin 0 1000 l.restarts
  pub idle : IsWithin 0 86400 l.idle
  pub grace : IsWithin 0 3600 l.grace
  pub backlog : IsWithin 1024 1073741824 l.backlog
  pub requests : IsWithin 3 2147483647 l.requests
  pub versions : IsWithin 2 2147483647 l.versions

-- the text of a JSON object (RFC 8259) that nests at most 1,024 deep
abbrev pub IsCeiling : List ℕ → Type 0
IsCeiling text = (length text ≤ 1048576) × (is_object (tree_of text) ≡ true)

abbrev pub names_of : List Server → List (List ℕ)
names_of servers = map (λ s. s.name) servers

-- names are UTF-8, and ascend in byte order, so no two are equal
pub record AreServers (servers : List Server) : Type 0 where
  pub count : IsWithin 1 1024 (length servers)
  pub texts : AllByRecursion IsUtf8 (names_of servers)
  pub ascend : IsStrictlySortedBy (slice_cmp nat_cmp) (names_of servers)
  pub ceilings : AllByRecursion (λ s. IfSome s.ceiling IsCeiling) servers

-- what is true of the settings of every daemon
pub record IsInRange (c : Chosen) : Type 0 where
  pub place : IsPlace c.place
  pub links : IsWithin 1 32 c.links
  pub content : IsWithin 1024 268435456 c.content
  pub limits : AreLimits c.hub.limits
  pub servers : AreServers c.hub.servers
  pub default : c.hub.default < length c.hub.servers
  pub commands : length c.commands ≡ length c.hub.servers
  pub words : AllByRecursion (λ words. 1 ≤ length words) c.commands
