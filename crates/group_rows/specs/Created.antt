-- The tokens for progress that a start creates, and what editors are asked of them (LSP 3.17, Work Done Progress, Server Initiated Progress, `window/workDoneProgress/create` and `$/progress`).
use Rattle.std.specs.Prelude.{ℕ, ◌+◌, ◌^◌, Bool, true, false, not, ◌&&◌, ◌||◌, List, [], ◌∷◌, ◌++◌, codes, decimal, filter, find, flat_map, is_some, length, map, nat_eq, nat_lt, bytes_eq, if◌then◌else◌}
use Rattle.std.specs.Prelude.{Option, Some, None}
use Rattle.std.specs.List.{list_any}
use Rattle.std.specs.Option.{option_and_then, option_map, option_map_or}
use Rattle.json_text.specs.Json.{Json}
use Rattle.mux_history.specs.declared.cause.Cause.TheVariants.{FromEditor, EditorGone, FromServer, StartFailed, ServerGone}
use Rattle.mux_history.specs.declared.out.Out.TheVariants.{ToEditor, CloseEditor}
use Rattle.lsp_method.specs.Class.{class_of}
use Rattle.lsp_method.specs.declared.variants.Class.{Class}
use Rattle.lsp_method.specs.declared.variants.Class.TheVariants.{Create, Progress}
use Rattle.lsp_method.specs.declared.variants.Origin.TheVariants.{Server}
use Rattle.rpc_message.specs.Message.{Message, request, notification, result, Id, id_of, same_id}
use Rattle.event_model.specs.Event.{Event, took, did, requests}
use Rattle.event_model.specs.Members.{named_of, params_of, string_of}
use Rattle.event_model.specs.Requests.{answered_id}
use Rattle.event_model.specs.Settings.{Settings}
use Rattle.event_model.specs.Stages.{life_of, is_ready}
use Rattle.group_words.specs.Past.{past}
use Rattle.group_rows.specs.Asks.{next_ask}
use Rattle.group_rows.specs.Forwarded.{names, token_in}
use Rattle.group_rows.specs.Live.{is_heard}
use Rattle.group_rows.specs.Reserved.{is_reserved}

-- the characters of the daemon's own token of start s and number k, and its text
abbrev pub created_mark : ℕ → ℕ → List ℕ
created_mark s k = codes "lspmux:" ++ decimal s ++ codes ":" ++ decimal k

abbrev pub created_text : ℕ → ℕ → List ℕ
created_text s k = codes "\"lspmux:" ++ decimal s ++ codes ":" ++ decimal k ++ codes "\""

-- a token that lives: its number among those that the start created, from 1; what it is, and its bytes as the start wrote them; and its first `begin`
pub record Token : Type 0 where
  pub number : ℕ
  pub id : Id
  pub text : List ℕ
  pub begin : Option (List ℕ)

-- a token that an editor was asked to take, under the editor's number: whether it accepted; the bodies that are held until it answers; and whether a `begin` was sent there, or is held
pub record Taking : Type 0 where
  pub editor : ℕ
  pub number : ℕ
  pub token : ℕ
  pub accepted : Bool
  pub held : List (List ℕ)
  pub begun : Bool

-- at a start: the number of its next token, those that live, in the order of creation, and what editors were asked to take, in the order of asking: until they refuse or leave, or a token that they accepted has ended
pub record Created : Type 0 where
  pub next : ℕ
  pub tokens : List Token
  pub takings : List Taking

abbrev pub no_created : Created
no_created = record { next = 1; tokens = []; takings = [] }

-- the token that params name
abbrev pub named_token : Option Json → Option Id
named_token params = option_and_then id_of (named_of (codes "token") params)

-- a live token that is the same
abbrev pub is_called : Id → Token → Bool
is_called id t = same_id id t.id

abbrev pub token_called : Option Id → Created → Option Token
token_called None x = None
token_called (Some id) x = find (is_called id) x.tokens

-- a live token of this number
abbrev pub is_numbered : ℕ → Token → Bool
is_numbered k t = nat_eq t.number k

abbrev pub lives : ℕ → Created → Bool
lives k x = list_any (is_numbered k) x.tokens

-- the live token that params name as editors know it
abbrev pub is_marked : ℕ → Option Json → Token → Bool
is_marked s token t = option_map_or (bytes_eq (created_mark s t.number)) (string_of token) false

abbrev pub token_marked : ℕ → Option Json → Created → Option Token
token_marked s params x = find (is_marked s (named_of (codes "token") params)) x.tokens

-- S8: what a request creates: an integer or a string that doesn't begin as the daemon's own tokens do, and that doesn't live; numbers are below 2^64
abbrev pub token_of : ℕ → Id → List ℕ → Token
token_of k id text = record { number = k; id = id; text = text; begin = None }

abbrev pub if_new : List ℕ → Created → Id → Option Token
if_new body x id = if is_some (token_called (Some id) x) then None else option_map (token_of x.next id) (token_in (codes "token") body)

abbrev pub may_create : List ℕ → Created → Bool
may_create body x = nat_lt x.next (2 ^ 64) && not (is_reserved (named_of (codes "token") (params_of body)))

abbrev pub created_token : List ℕ → Created → Option Token
created_token body x = if may_create body x then option_and_then (if_new body x) (named_token (params_of body)) else None

abbrev pub with_token : Option Token → Created → Created
with_token None x = x
with_token (Some t) x = record { next = x.next + 1; tokens = x.tokens ++ t ∷ []; takings = x.takings }

-- an editor is asked to take a token: where that has begun, its first `begin` is held from then on
abbrev pub held_first : Option (List ℕ) → List (List ℕ)
held_first None = []
held_first (Some body) = body ∷ []

abbrev pub asked : ℕ → ℕ → Token → Taking
asked e n t = record { editor = e; number = n; token = t.number; accepted = false; held = held_first t.begin; begun = is_some t.begin }

abbrev pub with_asked : ℕ → ℕ → Option Token → Created → Created
with_asked e n None x = x
with_asked e n (Some t) x = record { next = x.next; tokens = x.tokens; takings = x.takings ++ asked e n t ∷ [] }

-- what kind of progress params tell of, where that is a string
abbrev pub is_kind : List ℕ → Option Json → Bool
is_kind kind params = option_map_or (bytes_eq kind) (string_of (named_of (codes "kind") (named_of (codes "value") params))) false

abbrev pub is_begin : Option Json → Bool
is_begin params = is_kind (codes "begin") params

abbrev pub is_end : Option Json → Bool
is_end params = is_kind (codes "end") params

-- S13: so many bodies are held of a token for an editor, and behind them its end
abbrev pub held_most : ℕ
held_most = 1024

abbrev pub may_hold : Option Json → List (List ℕ) → Bool
may_hold params held = nat_lt (length held) held_most || is_end params

abbrev pub held_more : List ℕ → Option Json → Taking → Taking
held_more body params c = if may_hold params c.held then record c { held = c.held ++ body ∷ []; begun = c.begun || is_begin params } else c

-- progress of a token is sent to an editor that accepted it, and held for one that hasn't answered
abbrev pub told_more : List ℕ → Option Json → Taking → Taking
told_more body params c = if c.accepted then record c { begun = c.begun || is_begin params } else held_more body params c

abbrev pub told : ℕ → List ℕ → Option Json → Taking → Taking
told k body params c = if nat_eq c.token k then told_more body params c else c

-- the end of a token that an editor accepted is the last that it hears of it
abbrev pub is_over : ℕ → Option Json → Taking → Bool
is_over k params c = is_end params && (c.accepted && nat_eq c.token k)

-- the first `begin` of a token is kept, and its end ends it
abbrev pub first_begin : List ℕ → Option Json → Option (List ℕ) → Option (List ℕ)
first_begin body params (Some first) = Some first
first_begin body params None = if is_begin params then Some body else None

abbrev pub begun_by : ℕ → List ℕ → Option Json → Token → Token
begun_by k body params t = if is_numbered k t then record t { begin = first_begin body params t.begin } else t

abbrev pub is_ended_by : ℕ → Option Json → Token → Bool
is_ended_by k params t = is_end params && is_numbered k t

abbrev pub progressed : List ℕ → Option Json → Option Token → Created → Created
progressed body params None x = x
progressed body params (Some t) x = record {
  next = x.next;
  tokens = filter (λ u. not (is_ended_by t.number params u)) (map (begun_by t.number body params) x.tokens);
  takings = map (told t.number body params) (filter (λ c. not (is_over t.number params c)) x.takings);
}

-- E19: a response of editor e under this id says whether it takes a token
abbrev pub is_answered : ℕ → Option Id → Taking → Bool
is_answered e id c = not c.accepted && (nat_eq c.editor e && names id c.number)

-- by a result it accepts; of a token that has ended nothing follows what was held
abbrev pub accepts : Message → Bool
accepts (result id r) = true
accepts other = false

abbrev pub settled : Message → Created → Taking → List Taking
settled m x c = if accepts m && lives c.token x then record c { accepted = true; held = [] } ∷ [] else []

abbrev pub answered : ℕ → Message → Created → Created
answered e m x = record { next = x.next; tokens = x.tokens; takings = flat_map (λ c. if is_answered e (answered_id m) c then settled m x c else c ∷ []) x.takings }

-- an editor leaves
abbrev pub is_at : ℕ → Taking → Bool
is_at e c = nat_eq c.editor e

abbrev pub left : ℕ → Created → Created
left e x = record { next = x.next; tokens = x.tokens; takings = filter (λ c. not (is_at e c)) x.takings }

abbrev pub spoken : ℕ → Message → Created → Created
spoken e m x = if requests (codes "shutdown") m then left e x else answered e m x

-- a request that creates a token, and a notification that tells of one
abbrev pub names_create : Class → Bool
names_create Create = true
names_create _ = false

abbrev pub names_progress : Class → Bool
names_progress Progress = true
names_progress _ = false

abbrev pub is_creating : List ℕ → Bool
is_creating method = names_create (class_of method Server false)

abbrev pub is_progress : List ℕ → Bool
is_progress method = names_progress (class_of method Server true)

-- a token lives from its create until its end, or until the start's program ends; an editor takes it from its own body on
abbrev pub created_next : Settings → ℕ → List Event → Created → Event → Created
created_next settings s before x (took (FromServer n body) (request id method params)) = if nat_eq n s && (is_creating method && is_heard settings s before id) then with_token (created_token body x) x else x
created_next settings s before x (took (FromServer n body) (notification method params)) = if nat_eq n s && (is_progress method && is_ready (life_of s before).stage) then progressed body params (token_called (named_token params) x) x else x
created_next settings s before x (took (FromEditor e body) m) = spoken e m x
created_next settings s before x (took (EditorGone e why) m) = left e x
created_next settings s before x (took (StartFailed n) m) = if nat_eq n s then no_created else x
created_next settings s before x (took (ServerGone n) m) = if nat_eq n s then no_created else x
created_next settings s before x (did (ToEditor e body) (request id method params)) = if is_creating method then with_asked e (next_ask e before) (token_marked s params x) x else x
created_next settings s before x (did (CloseEditor e) m) = left e x
created_next settings s before x other = x

abbrev pub created_of : Settings → ℕ → List Event → Created
created_of settings s events = past (created_next settings s) [] no_created events

-- an editor accepted a token that lives
abbrev pub has_accepted : ℕ → ℕ → Created → Bool
has_accepted e k x = list_any (λ c. c.accepted && (is_at e c && nat_eq c.token k)) x.takings
