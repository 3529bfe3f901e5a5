-- The requests of editors that were sent on to a start of a server, by their numbers (JSON-RPC 2.0, section 4: an id is the client's own, and its response has it).
use Rattle.std.specs.Prelude.{ℕ, ◌+◌, Bool, true, false, not, List, [], ◌∷◌, ◌++◌, map, filter, find, codes, nat_eq, nat_lt, bytes_eq, decimal, if◌then◌else◌}
use Rattle.std.specs.Prelude.{Option, Some, None}
use Rattle.std.specs.Option.{option_and_then}
use Rattle.json_text.specs.Json.{Json, number}
use Rattle.mux_history.specs.declared.cause.Cause.TheVariants.{FromEditor, FromServer, StartFailed, ServerGone}
use Rattle.mux_history.specs.declared.out.Out.TheVariants.{ToServer}
use Rattle.rpc_message.specs.Message.{Message, request, notification, Id, integer, id_bytes, message_of}
use Rattle.event_model.specs.Event.{Event, took, did}
use Rattle.event_model.specs.Requests.{answered_id, is_own}
use Rattle.event_model.specs.Members.{bytes_if, is_token, named_of, params_of}
use Rattle.event_model.specs.Settings.{Settings}
use Rattle.held_requests.specs.declared.request.Request.{Request}
use Rattle.group_words.specs.Past.{past}
use Rattle.group_rows.specs.Waiting.{first_waiting}

-- whose request is at work, the bytes of its id, and those of its tokens for progress, where it has them (LSP 3.17, Work Done Progress and Partial Result Progress)
pub record Sender : Type 0 where
  pub editor : ℕ
  pub id : List ℕ
  pub work : Option (List ℕ)
  pub partial : Option (List ℕ)

-- a request that was sent on and isn't answered
pub record Forwarded : Type 0 where
  pub number : ℕ
  pub editor : ℕ
  pub id : List ℕ
  pub work : Option (List ℕ)
  pub partial : Option (List ℕ)
  pub cancelled : Bool

-- at a start: whose request is at work, the number that comes next, and the requests that it has to answer, in the order of their numbers
pub record Forwarding : Type 0 where
  pub sender : Option Sender
  pub next : ℕ
  pub open_requests : List Forwarded

-- a token of its params, by its name; the last member of the name counts
abbrev pub token_in : List ℕ → List ℕ → Option (List ℕ)
token_in name body = if is_token (named_of name (params_of body)) then bytes_if name (params_of body) body else None

abbrev pub sender_of : ℕ → List ℕ → Message → Option Sender
sender_of e body (request id method ps) = Some (record { editor = e; id = id_bytes body; work = token_in (codes "workDoneToken") body; partial = token_in (codes "partialResultToken") body })
sender_of e body other = None

-- S2: a request that waited is sent by the start's own result, in whose entry none is at work
abbrev pub sender_waiting : Request → Option Sender
sender_waiting r = sender_of r.editor r.body (message_of r.body)

abbrev pub first_sender : Settings → ℕ → List Event → Option Sender
first_sender settings s events = option_and_then sender_waiting (first_waiting settings s events)

abbrev pub sender_or : Option Sender → Option Sender → Option Sender
sender_or (Some sender) first = Some sender
sender_or None first = first

abbrev pub numbered : Option Sender → ℕ → List Forwarded
numbered None n = []
numbered (Some sender) n = record { number = n; editor = sender.editor; id = sender.id; work = sender.work; partial = sender.partial; cancelled = false } ∷ []

-- this id of a response writes this number
abbrev pub names : Option Id → ℕ → Bool
names (Some (integer digits)) n = bytes_eq digits (decimal n)
names other n = false

abbrev pub answered_by : Option Id → Forwarded → Bool
answered_by id f = names id f.number

-- what `$/cancelRequest` names (LSP 3.17, Cancellation Support)
abbrev pub is_written : Option Json → ℕ → Bool
is_written (Some (number s digits)) n = bytes_eq digits (decimal n)
is_written other n = false

abbrev pub cancelled_by : Option Json → Forwarded → Forwarded
cancelled_by id f = if is_written id f.number then record f { cancelled = true } else f

-- the daemon's own `initialize` and `shutdown` are no editor's: they have the numbers before 2, and behind the last
abbrev pub forwards : Option Sender → Forwarding → Message → Forwarding
forwards first x (request id method ps) = if is_own method then x else record { sender = x.sender; next = x.next + 1; open_requests = x.open_requests ++ numbered (sender_or x.sender first) x.next }
forwards first x (notification method ps) = if bytes_eq method (codes "$/cancelRequest") then record { sender = x.sender; next = x.next; open_requests = map (cancelled_by (named_of (codes "id") ps)) x.open_requests } else x
forwards first x other = x

-- a body that its open requests, or their numbers, speak of
abbrev pub moves_ids : Message → Bool
moves_ids (request id method ps) = not (is_own method)
moves_ids (notification method ps) = bytes_eq method (codes "$/cancelRequest")
moves_ids other = false

abbrev pub no_forwarding : Forwarding
no_forwarding = record { sender = None; next = 2; open_requests = [] }

-- a request is open from its own body to the start until the start's response, or the end of its program
abbrev pub forwarding_next : Settings → ℕ → List Event → Forwarding → Event → Forwarding
forwarding_next settings s before x (took (FromEditor e body) m) = record { sender = sender_of e body m; next = x.next; open_requests = x.open_requests }
forwarding_next settings s before x (took (FromServer n body) m) = record { sender = None; next = x.next; open_requests = if nat_eq n s then filter (λ f. not (answered_by (answered_id m) f)) x.open_requests else x.open_requests }
forwarding_next settings s before x (took (StartFailed n) m) = if nat_eq n s then no_forwarding else record { sender = None; next = x.next; open_requests = x.open_requests }
forwarding_next settings s before x (took (ServerGone n) m) = if nat_eq n s then no_forwarding else record { sender = None; next = x.next; open_requests = x.open_requests }
forwarding_next settings s before x (took cause m) = record { sender = None; next = x.next; open_requests = x.open_requests }
forwarding_next settings s before x (did (ToServer n body) m) = if nat_eq n s then forwards (first_sender settings s before) x m else x
forwarding_next settings s before x (did out m) = x

abbrev pub forwarding_of : Settings → ℕ → List Event → Forwarding
forwarding_of settings s events = past (forwarding_next settings s) [] no_forwarding events

-- a number is left for one more
abbrev pub has_room : Settings → ℕ → List Event → Bool
has_room settings s events = nat_lt (forwarding_of settings s events).next settings.limits.requests

-- the open request of a number
abbrev pub is_under : ℕ → Forwarded → Bool
is_under n f = nat_eq f.number n

abbrev pub forwarded_under : ℕ → List Forwarded → Option Forwarded
forwarded_under n fs = find (is_under n) fs

-- the numbers of an editor's open requests, rising
abbrev pub is_of : ℕ → Forwarded → Bool
is_of e f = nat_eq f.editor e

abbrev pub numbers_of : ℕ → List Forwarded → List ℕ
numbers_of e fs = map (λ f. f.number) (filter (is_of e) fs)
