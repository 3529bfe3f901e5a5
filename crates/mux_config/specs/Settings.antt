-- What is wrong with the settings of a daemon, over the table that a TOML document is.
use Rattle.std.specs.Prelude.{ℕ, suc, ℤ, pos, negsuc, Bool, true, false, not, ◌&&◌, eqb, nat_eq, nat_le, slice_index, List, [], ◌∷◌, ◌++◌, length, drop, bytes_eq, codes, is_some, if◌then◌else◌}
use Rattle.std.specs.Prelude.{Option, Some, None, option_map, option_and_then}
use Rattle.std.specs.Option.{option_or}
use Rattle.std.specs.List.{starts_with}
use Rattle.std.specs.Str.{all_ascii_digits}
use Rattle.std.specs.Str.Parse.{digits_value}
use Rattle.json_text.specs.declared.kind.Kind.{Kind}
use Rattle.json_text.specs.declared.kind.Kind.TheVariants.{Object}
use Rattle.json_text.specs.Json.{Json, object}
use Rattle.json_text.specs.Tree.{tree_of}
use Rattle.outside_io.specs.Doors.{Address, unix, tcp, streams}
use Rattle.toml.specs.Data.{Data, string, integer, array, table, Items, no_items, item, Members, no_members, member, get_member, as_str, as_table}
use Rattle.mux_config.specs.Faults.{Fault, first_in}
use Rattle.mux_config.specs.declared.first.Sort.{Sort}
use Rattle.mux_config.specs.declared.first.Sort.TheVariants.{Unknown, Missing, Range}
use Rattle.mux_config.specs.declared.keys.Span.{Span}

-- numbers of a range

abbrev pub within : ℕ → ℕ → ℤ → Option ℕ
within low high (pos n) = if nat_le low n && nat_le n high then Some n else None
within low high (negsuc n) = None

abbrev pub number_in : ℕ → ℕ → Data → Option ℕ
number_in low high (integer z) = within low high z
number_in low high _ = None

-- the least and the greatest number of a key, and its default
abbrev pub span : ℕ → ℕ → ℕ → Option Span
span low high default = Some (record { low = low; high = high; default = default })

abbrev pub bounds_of : List ℕ → Option Span
bounds_of key =
    if bytes_eq key (codes "links") then span 1 32 32 else
    if bytes_eq key (codes "groups") then span 1 16 8 else
    if bytes_eq key (codes "restarts") then span 0 1000 5 else
    if bytes_eq key (codes "idle") then span 0 86400 300 else
    if bytes_eq key (codes "grace") then span 0 3600 5 else
    if bytes_eq key (codes "content") then span 1024 268435456 67108864 else
    if bytes_eq key (codes "backlog") then span 1024 1073741824 134217728 else
    if bytes_eq key (codes "requests") then span 3 2147483647 2147483647 else
    if bytes_eq key (codes "versions") then span 2 2147483647 2147483647 else None

-- places: `unix:PATH`, `tcp:PORT` and `streams`

-- what follows a prefix
abbrev pub behind : List ℕ → List ℕ → Option (List ℕ)
behind prefix text = if starts_with eqb text prefix then Some (drop (length prefix) text) else None

abbrev pub path_place : List ℕ → Option Address
path_place path = if nat_le 1 (length path) && nat_le (length path) 100 then Some (unix path) else None

-- digits, the first of them no zero
abbrev pub is_numeral : List ℕ → Bool
is_numeral text = nat_le 1 (length text) && (not (nat_eq (slice_index text 0) 48) && all_ascii_digits text)

abbrev pub port_in : List ℕ → Option ℕ
port_in text = if is_numeral text && nat_le (digits_value 10 text) 65535 then Some (digits_value 10 text) else None

abbrev pub streams_place : List ℕ → Option Address
streams_place text = if bytes_eq text (codes "streams") then Some streams else None

abbrev pub text_place : List ℕ → Option Address
text_place text = option_or (option_and_then path_place (behind (codes "unix:") text)) (option_or (option_map tcp (option_and_then port_in (behind (codes "tcp:") text))) (streams_place text))

abbrev pub place_in : Data → Option Address
place_in d = option_and_then text_place (as_str d)

-- commands and ceilings

abbrev pub is_string : Data → Bool
is_string (string s) = true
is_string _ = false

abbrev pub all_strings : Items → Bool
all_strings no_items = true
all_strings (item d ds) = is_string d && all_strings ds

abbrev pub has_item : Items → Bool
has_item no_items = false
has_item (item d ds) = true

abbrev pub is_command : Data → Bool
is_command (array ds) = has_item ds && all_strings ds
is_command _ = false

abbrev pub is_object : Option Json → Bool
is_object (Some (object s ms)) = true
is_object _ = false

abbrev pub is_object_kind : Kind → Bool
is_object_kind Object = true
is_object_kind _ = false

abbrev pub is_ceiling : Data → Bool
is_ceiling (string s) = nat_le (length s) 1048576 && is_object (tree_of s)
is_ceiling _ = false

-- what is wrong with a server

abbrev pub server_path : List ℕ → List ℕ
server_path name = codes "server." ++ name

abbrev pub key_path : List ℕ → List ℕ → List ℕ
key_path name key = server_path name ++ (codes "." ++ key)

abbrev pub range_unless : Bool → Option Sort
range_unless fits = if fits then None else Some Range

-- what is wrong with a server's key
abbrev pub wrong_key : List ℕ → Data → Option Sort
wrong_key key d = if bytes_eq key (codes "command") then range_unless (is_command d) else if bytes_eq key (codes "ceiling") then range_unless (is_ceiling d) else Some Unknown

abbrev pub fault_at : List ℕ → Option Sort → List Fault
fault_at path None = []
fault_at path (Some s) = record { sort = s; path = path } ∷ []

abbrev pub key_faults : List ℕ → List ℕ → Data → List Fault
key_faults name key d = fault_at (key_path name key) (wrong_key key d)

abbrev pub missing_unless : Bool → List ℕ → List Fault
missing_unless there path = if there then [] else record { sort = Missing; path = path } ∷ []

abbrev pub keys_faults : List ℕ → Members → List Fault
keys_faults name no_members = []
keys_faults name (member key d ms) = key_faults name key d ++ keys_faults name ms

abbrev pub server_faults : List ℕ → Data → List Fault
server_faults name (table ms) = keys_faults name ms ++ missing_unless (is_some (get_member (codes "command") ms)) (key_path name (codes "command"))
server_faults name _ = record { sort = Range; path = server_path name } ∷ []

abbrev pub servers_faults : Members → List Fault
servers_faults no_members = []
servers_faults (member name d ms) = server_faults name d ++ servers_faults ms

-- what is wrong with a key at the top

abbrev pub servers_in : Members → Option Members
servers_in ms = option_and_then as_table (get_member (codes "server") ms)

abbrev pub count : Members → ℕ
count no_members = 0
count (member key d ms) = suc (count ms)

-- whether a value names one of the servers
abbrev pub is_server : Members → Data → Bool
is_server ms d = is_some (option_and_then (λ name. option_and_then (λ servers. get_member name servers) (servers_in ms)) (as_str d))

abbrev pub are_few : Option Members → Bool
are_few None = false
are_few (Some servers) = nat_le (count servers) 1024

abbrev pub are_servers : Data → Bool
are_servers d = are_few (as_table d)

abbrev pub wrong_number : Option Span → Data → Option Sort
wrong_number None d = Some Unknown
wrong_number (Some s) d = range_unless (is_some (number_in s.low s.high d))

abbrev pub wrong_at : Members → List ℕ → Data → Option Sort
wrong_at ms key d =
    if bytes_eq key (codes "place") then range_unless (is_some (place_in d)) else
    if bytes_eq key (codes "default") then range_unless (is_server ms d) else
    if bytes_eq key (codes "server") then range_unless (are_servers d) else wrong_number (bounds_of key) d

-- the faults of some of the keys of the settings
abbrev pub top_faults : Members → Members → List Fault
top_faults ms no_members = []
top_faults ms (member key d more) = fault_at key (wrong_at ms key d) ++ top_faults ms more

-- whether something is said of servers: an empty table says nothing
abbrev pub holds_servers : Option Members → Bool
holds_servers None = true
holds_servers (Some servers) = nat_le 1 (count servers)

abbrev pub says_servers : Option Data → Bool
says_servers None = false
says_servers (Some d) = holds_servers (as_table d)

abbrev pub faults_in_servers : Option Members → List Fault
faults_in_servers None = []
faults_in_servers (Some servers) = servers_faults servers

-- all that is wrong with settings
abbrev pub faults_of : Members → List Fault
faults_of ms = top_faults ms ms ++ (missing_unless (says_servers (get_member (codes "server") ms)) (codes "server") ++ faults_in_servers (servers_in ms))

-- the least unknown path, else the least missing one, else the least one out of range
abbrev pub fault_of : Members → Option Fault
fault_of ms = first_in None (faults_of ms)
