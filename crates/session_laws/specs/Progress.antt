-- Tokens for progress, by which the rules of both sides of a session speak: those that come with requests, and those that a server creates at its client (LSP 3.17, Progress Support, Work Done Progress and Partial Result Progress).
use Rattle.std.specs.Prelude.{ℕ, Bool, true, false, not, ◌&&◌, ◌||◌, List, [], ◌∷◌, ◌++◌, bytes_eq, codes, filter, flat_map, if◌then◌else◌}
use Rattle.std.specs.Prelude.{Option, Some, None}
use Rattle.std.specs.Option.{option_and_then, option_map_or}
use Rattle.json_text.specs.Json.{Json}
use Rattle.rpc_message.specs.Message.{Message, Id, request, notification, result, error, id_of}
use Rattle.event_model.specs.Event.{same_id}
use Rattle.event_model.specs.Members.{named_of, string_of}
use Rattle.event_model.specs.Requests.{is_open, without}

-- the token of this name: an integer or a string, of the last member of the name; tokens are compared as ids are
abbrev pub token_at : List ℕ → Option Json → Option Id
token_at name params = option_and_then id_of (named_of name params)

abbrev pub tokens_at : List ℕ → Option Json → List Id
tokens_at name params = option_map_or (λ (token : Id). token ∷ []) (token_at name params) []

-- a request by its id, with the tokens that it brings
pub record Tokened : Type 0 where
  pub id : Id
  pub tokens : List Id

-- a response under this id answers it
abbrev pub is_answered : Option Id → Tokened → Bool
is_answered None r = false
is_answered (Some id) r = same_id id r.id

abbrev pub unanswered : Option Id → List Tokened → List Tokened
unanswered id rs = filter (λ r. not (is_answered id r)) rs

abbrev pub tokens_in : List Tokened → List Id
tokens_in rs = flat_map (λ (r : Tokened). r.tokens) rs

-- what a server creates: its requests `window/workDoneProgress/create` that have no response yet, and the tokens of those that got a result, until it tells progress of the kind `end` of them
pub record Creates : Type 0 where
  pub asked : List Tokened
  pub created : List Id

abbrev pub no_creates : Creates
no_creates = record { asked = []; created = [] }

-- progress of the kind `end` (LSP 3.17, Work Done Progress End)
abbrev pub is_end : Option Json → Bool
is_end params = option_map_or (bytes_eq (codes "end")) (string_of (named_of (codes "kind") (named_of (codes "value") params))) false

-- behind a message of the server
abbrev pub creates_told : Creates → Message → Creates
creates_told x (request id method params) = if bytes_eq method (codes "window/workDoneProgress/create") then record { asked = x.asked ++ record { id = id; tokens = tokens_at (codes "token") params } ∷ []; created = x.created } else x
creates_told x (notification method params) = if bytes_eq method (codes "$/progress") && is_end params then record { asked = x.asked; created = without (token_at (codes "token") params) x.created } else x
creates_told x other = x

-- and behind one of the client
abbrev pub creates_heard : Creates → Message → Creates
creates_heard x (result id r) = record { asked = unanswered id x.asked; created = x.created ++ tokens_in (filter (is_answered id) x.asked) }
creates_heard x (error id e) = record { asked = unanswered id x.asked; created = x.created }
creates_heard x other = x

-- a notification of this method names one of these tokens
abbrev pub is_one : Option Id → List Id → Bool
is_one None tokens = false
is_one (Some token) tokens = is_open token tokens

abbrev pub names_one : List ℕ → List Id → Message → Bool
names_one name tokens (notification method params) = not (bytes_eq method name) || is_one (token_at (codes "token") params) tokens
names_one name tokens other = true
