-- The groups, and which editor is in which, by the history: one fold, since an editor is placed by what the groups were before.
use Rattle.std.specs.Prelude.{ℕ, ◌+◌, max, Bool, true, false, not, ◌&&◌, List, [], ◌∷◌, ◌++◌, length, map, fold, codes, nat_eq, nat_lt, nat_le, bytes_eq, if◌then◌else◌, encode_utf8_all, position}
use Rattle.std.specs.Prelude.{Option, Some, None, Ok, Err}
use Rattle.std.specs.List.{filter, range_with_len, slice_get}
use Rattle.json_text.specs.Json.{Json, object}
use Rattle.url.specs.Parser.{Parsed, parse_url}
use Rattle.url.specs.Parts.{Parts, serialize}
use Rattle.mux_history.specs.declared.cause.Cause.TheVariants.{Joined, FromEditor, EditorGone, StartFailed, FromServer, ServerGone, Tick}
use Rattle.mux_history.specs.declared.out.Out.TheVariants.{CloseEditor}
use Rattle.event_model.specs.rpc_message.specs.Message.{Message, request, error, integer}
use Rattle.capability_meet.specs.DeclaredTree.{declared_of}
use Rattle.event_model.specs.declared.settings.Server.{Server}
use Rattle.event_model.specs.declared.phase.Phase.{Phase}
use Rattle.event_model.specs.Event.{Event, took, did, requests}
use Rattle.event_model.specs.Members.{params_of, named_of, string_of, listed, options_of, bytes_if}
use Rattle.event_model.specs.Phases.{desk_of, editors_of, is_begun, is_new, is_there, needs_server}
use Rattle.event_model.specs.Requests.{open_of, is_open}
use Rattle.event_model.specs.Settings.{Settings}
use Rattle.event_model.specs.Spawns.{group_of}
use Rattle.event_model.specs.Stages.{is_initializing, life_of}
use Rattle.group_words.specs.declared.kept.Kept.{Kept}
use Rattle.group_words.specs.declared.placed.Placed.{Placed}
use Rattle.group_words.specs.Keys.{Common}
use Rattle.group_words.specs.Past.{past}
use Rattle.group_words.specs.Placing.{changed, ended, exited, idle_from, is_due, end_where, is_live, placed_in, with_editor, home_by}

-- the time is the greatest tick so far
abbrev pub time_behind : ℕ → Event → ℕ
time_behind now (took (Tick t) m) = max now t
time_behind now other = now

abbrev pub time_of : List Event → ℕ
time_of events = fold time_behind 0 events

-- E4: whether an editor sent `lspmux/open` since it joined, and the server that the first one names. It is read before the editor's `initialize` alone, so what it sends behind that, or with its link to be ended, counts nowhere.
pub record Meant : Type 0 where
  pub opened : Bool
  pub server : Option ℕ

-- the place of the first server of this name
abbrev pub place_named : List ℕ → List Server → Option ℕ
place_named name servers = position (λ (server : Server). bytes_eq server.name name) servers

-- by the characters of the name that the params of a body give
abbrev pub server_named : List Server → Option (List ℕ) → Option ℕ
server_named servers None = None
server_named servers (Some cs) = place_named (encode_utf8_all cs) servers

abbrev pub server_asked : List Server → List ℕ → Option ℕ
server_asked servers body = server_named servers (string_of (named_of (codes "server") (params_of body)))

abbrev pub no_meant : Meant
no_meant = record { opened = false; server = None }

abbrev pub meant_behind : List Server → ℕ → Meant → Event → Meant
meant_behind servers e x (took (Joined n) m) = if nat_eq n e then no_meant else x
meant_behind servers e x (took (FromEditor n body) m) = if nat_eq n e && (requests (codes "lspmux/open") m && not x.opened) then record { opened = true; server = server_asked servers body } else x
meant_behind servers e x other = x

abbrev pub meant_of : List Server → ℕ → List Event → Meant
meant_of servers e events = fold (meant_behind servers e) no_meant events

abbrev pub given_or : {A : Type 0} → Option A → A → A
given_or (Some a) d = a
given_or None d = d

abbrev pub server_for : Settings → ℕ → List Event → ℕ
server_for settings e before = given_or (meant_of settings.servers e before).server settings.default

-- the folders of an initialize: each uri and name
abbrev pub folder_of : Option (List ℕ) → Option (List ℕ) → List (List ℕ × List ℕ)
folder_of None name = []
folder_of (Some uri) name = (encode_utf8_all uri, encode_utf8_all (given_or name uri)) ∷ []

abbrev pub folders_in : List Json → List (List ℕ × List ℕ)
folders_in [] = []
folders_in (j ∷ js) = folder_of (string_of (named_of (codes "uri") (Some j))) (string_of (named_of (codes "name") (Some j))) ++ folders_in js

abbrev pub or_root : List (List ℕ × List ℕ) → Option (List ℕ) → List (List ℕ × List ℕ)
or_root (x ∷ xs) root = x ∷ xs
or_root [] root = folder_of root None

abbrev pub folders_of : Option Json → List (List ℕ × List ℕ)
folders_of params = or_root (folders_in (listed (named_of (codes "workspaceFolders") params))) (string_of (named_of (codes "rootUri") params))

-- the normal form of a URI: of a text of at most 65,536 bytes that is a URL, the URL as it is written (URL Standard, sections 4.4 and
-- 4.5); else the text
abbrev pub serialized_or : List ℕ → Parsed Parts → List ℕ
serialized_or text (Ok url) = serialize url
serialized_or text (Err e) = text

abbrev pub normalised : List ℕ → List ℕ
normalised text = if nat_lt 65536 (length text) then text else serialized_or text (parse_url None text)

-- of which one trailing slash is removed
abbrev pub without_slash : List ℕ → List ℕ
without_slash [] = []
without_slash (b ∷ []) = if nat_eq b 47 then [] else b ∷ []
without_slash (b ∷ c ∷ bs) = b ∷ without_slash (c ∷ bs)

abbrev pub normal_of : List ℕ × List ℕ → List ℕ
normal_of folder = without_slash (normalised folder.0)

abbrev pub key_for : Settings → List Event → ℕ → List ℕ → Common
key_for settings before e body = record {
  server = server_for settings e before;
  folders = folders_of (params_of body);
  normal = map normal_of (folders_of (params_of body));
  options = options_of body;
}

-- what an editor offers, and what of it is declared to a server
abbrev pub is_object : Option Json → Bool
is_object (Some (object s ms)) = true
is_object _ = false

abbrev pub offered : List ℕ → List ℕ
offered body = if is_object (named_of (codes "capabilities") (params_of body)) then given_or (bytes_if (codes "capabilities") (params_of body) body) (codes "{}") else codes "{}"

abbrev pub ceiling_of : Option Server → List ℕ → List ℕ
ceiling_of None capabilities = capabilities
ceiling_of (Some server) capabilities = given_or server.ceiling capabilities

abbrev pub declared_for : Settings → List Event → ℕ → List ℕ → List ℕ
declared_for settings before e body = given_or (declared_of (offered body) (ceiling_of (slice_get settings.servers (server_for settings e before)) (offered body))) (codes "{}")

-- the groups, and the group of each editor: that in which it was placed, until its link ended
pub record House : Type 0 where
  pub home : ℕ → Option ℕ
  pub groups : List Kept

abbrev pub is_home : ℕ → Option ℕ → Bool
is_home g None = false
is_home g (Some h) = nat_eq h g

-- the editors of group g in such a phase, rising
abbrev pub editors_in : (Phase → Bool) → ℕ → (ℕ → Option ℕ) → List Event → List ℕ
editors_in test g home events = filter (λ e. test (desk_of e events).phase && is_home g (home e)) (range_with_len 0 (editors_of events))

abbrev pub has_editor : (Phase → Bool) → ℕ → (ℕ → Option ℕ) → List Event → Bool
has_editor test g home events = nat_lt 0 (length (editors_in test g home events))

-- E7: the message places its editor
abbrev pub places : Phase → Message → Bool
places phase m = is_new phase && requests (codes "initialize") m

-- E4: the message is the first `lspmux/open` of an editor that is new
abbrev pub is_first_open : List Server → List Event → ℕ → Message → Bool
is_first_open servers before e m = is_new (desk_of e before).phase && (requests (codes "lspmux/open") m && not (meant_of servers e before).opened)

-- E3: the message is a request under an id that is open at its editor
abbrev pub is_doubled : List Event → ℕ → Message → Bool
is_doubled before e (request id method params) = is_open id (open_of e before)
is_doubled before e other = false

-- E6: the message stops all, unless its id is open (E3)
abbrev pub stops : List Event → ℕ → Message → Bool
stops before e m = requests (codes "lspmux/stop") m && (is_there (desk_of e before).phase && not (is_begun (desk_of e before).phase && is_doubled before e m))

abbrev pub placed_for : Settings → List Event → ℕ → List ℕ → List Kept → Placed
placed_for settings before e body groups = placed_in settings.limits.groups (key_for settings before e body) (declared_for settings before e body) groups

abbrev pub groups_hear : Settings → List Event → ℕ → List ℕ → Message → List Kept → List Kept
groups_hear settings before e body m groups =
    if places (desk_of e before).phase m then with_editor (placed_for settings before e body groups) (key_for settings before e body) (declared_for settings before e body) groups
    else if stops before e m then end_where is_live groups else groups

-- an editor leaves, and its group is idle where it was the last
abbrev pub idle_if_live : ℕ → Kept → Kept
idle_if_live now x = if x.live then idle_from now x else x

abbrev pub emptied : Option ℕ → Bool → (ℕ → Bool) → ℕ → List Kept → List Kept
emptied None was stays now groups = groups
emptied (Some g) was stays now groups = if was && not (stays g) then changed g (idle_if_live now) groups else groups

abbrev pub groups_left : List Event → Event → ℕ → House → List Kept
groups_left before event e x = emptied (x.home e) (is_begun (desk_of e before).phase) (λ g. has_editor is_begun g x.home (before ++ event ∷ [])) (time_of before) x.groups

-- X1 to X3: a start of a live group ended; S3: it refuses its initialize
abbrev pub exit_of : ℕ → Bool → Kept → Kept
exit_of restarts wanted x = if x.live then (if wanted && nat_le (x.exits + 1) restarts then exited x else ended (exited x)) else x

abbrev pub at_group : Option ℕ → (ℕ → Kept → Kept) → List Kept → List Kept
at_group None f groups = groups
at_group (Some g) f groups = changed g (f g) groups

abbrev pub groups_lose : Settings → List Event → ℕ → House → List Kept
groups_lose settings before s x = at_group (group_of s before) (λ g. exit_of settings.limits.restarts (has_editor needs_server g x.home before)) x.groups

abbrev pub is_first_error : Message → Bool
is_first_error (error (Some (integer n)) e) = bytes_eq n (codes "1")
is_first_error _ = false

abbrev pub groups_refused : List Event → ℕ → Message → List Kept → List Kept
groups_refused before s m groups = if is_first_error m && is_initializing (life_of s before).stage then at_group (group_of s before) (λ g. ended) groups else groups

abbrev pub groups_next : Settings → List Event → House → Event → List Kept
groups_next settings before x (took (FromEditor e body) m) = groups_hear settings before e body m x.groups
groups_next settings before x (took (EditorGone e why) m) = groups_left before (took (EditorGone e why) m) e x
groups_next settings before x (took (FromServer s body) m) = groups_refused before s m x.groups
groups_next settings before x (took (StartFailed s) m) = groups_lose settings before s x
groups_next settings before x (took (ServerGone s) m) = groups_lose settings before s x
groups_next settings before x (took (Tick t) m) = end_where (is_due settings.limits.idle (max (time_of before) t)) x.groups
groups_next settings before x (did (CloseEditor e) m) = groups_left before (did (CloseEditor e) m) e x
groups_next settings before x other = x.groups

abbrev pub home_next : Settings → List Event → House → Event → ℕ → Option ℕ
home_next settings before x (took (FromEditor e body) m) n = if nat_eq e n && places (desk_of e before).phase m then home_by (placed_for settings before e body x.groups) (x.home n) else x.home n
home_next settings before x (took (EditorGone e why) m) n = if nat_eq e n then None else x.home n
home_next settings before x other n = x.home n

abbrev pub house_next : Settings → List Event → House → Event → House
house_next settings before x event = record { home = λ n. home_next settings before x event n; groups = groups_next settings before x event }

abbrev pub no_house : House
no_house = record { home = λ n. None; groups = [] }

abbrev pub house_of : Settings → List Event → House
house_of settings events = past (house_next settings) [] no_house events

abbrev pub groups_of : Settings → List Event → List Kept
groups_of settings events = (house_of settings events).groups

abbrev pub home_of : Settings → ℕ → List Event → Option ℕ
home_of settings e events = (house_of settings events).home e
