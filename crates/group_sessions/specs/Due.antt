-- What editors are told of a token that a start created, and what they are due: the start's messages of it since they accepted it, and before these what was held until then; and behind them an `end`, as the start's program ends before the token (LSP 3.17, Work Done Progress, Server Initiated Progress).
use Rattle.std.specs.Prelude.{◌≡◌, ℕ, ◌^◌, ◌≤◌, ◌<◌, Bool, true, false, not, ◌&&◌, List, [], ◌∷◌, ◌++◌, bytes_eq, codes, drop, filter, flat_map, map, nat_eq, take, if◌then◌else◌}
use Rattle.std.specs.Prelude.{Option, Some, None}
use Rattle.std.specs.List.{list_any}
use Rattle.std.specs.Option.{option_map_or}
use Rattle.mux_history.specs.declared.cause.Cause.TheVariants.{FromEditor, EditorGone, FromServer, StartFailed, ServerGone}
use Rattle.mux_history.specs.declared.entry.Entry.{Entry}
use Rattle.mux_history.specs.declared.out.Out.TheVariants.{CloseEditor, ToEditor}
use Rattle.rpc_message.specs.Message.{Id, Message, message_of, notification, request}
use Rattle.event_model.specs.Event.{Event, did, events_of, requests, took}
use Rattle.event_model.specs.Members.{named_of, string_of}
use Rattle.event_model.specs.Requests.{answered_id}
use Rattle.event_model.specs.Settings.{Settings}
use Rattle.event_model.specs.Spawns.{starts_of}
use Rattle.event_model.specs.Stages.{is_ready, life_of}
use Rattle.group_words.specs.Past.{past}
use Rattle.group_rows.specs.Asks.{next_ask}
use Rattle.group_rows.specs.Created.{Token, accepts, created_mark, created_of, created_text, held_most, is_begin, is_creating, is_end, is_numbered, is_progress, named_token, token_called, token_marked}
use Rattle.group_rows.specs.ExitRows.{end_text}
use Rattle.group_rows.specs.Forwarded.{names}
use Rattle.group_rows.specs.Tokens.{marked_text}

-- What an event is to one token of a start and one editor: the start tells of the token; the editor is asked to take it, under a number; the editor responds, under an id, by a result or not; it leaves; the start's program ends; or it is nothing to them
pub data Word : Type 0 where
  tells : List ℕ → Word
  asks : ℕ → Word
  replies : Option Id → Bool → Word
  parts : Word
  breaks : Word
  rests : Word

abbrev pub told_by : ℕ → List ℕ → Option Token → Word
told_by k body None = rests
told_by k body (Some t) = if is_numbered k t then tells body else rests

abbrev pub asked_by : ℕ → ℕ → Option Token → Word
asked_by k n None = rests
asked_by k n (Some t) = if is_numbered k t then asks n else rests

abbrev pub spoken_by : Message → Word
spoken_by m = if requests (codes "shutdown") m then parts else replies (answered_id m) (accepts m)

-- token k of start s, and editor e
abbrev pub word : Settings → ℕ → ℕ → ℕ → List Event → Event → Word
word settings s k e before (took (FromServer n body) (notification method params)) = if nat_eq n s && (is_progress method && is_ready (life_of s before).stage) then told_by k body (token_called (named_token params) (created_of settings s before)) else rests
word settings s k e before (did (ToEditor n body) (request id method params)) = if nat_eq n e && is_creating method then asked_by k (next_ask n before) (token_marked s params (created_of settings s before)) else rests
word settings s k e before (took (FromEditor n body) m) = if nat_eq n e then spoken_by m else rests
word settings s k e before (took (EditorGone n why) m) = if nat_eq n e then parts else rests
word settings s k e before (did (CloseEditor n) m) = if nat_eq n e then parts else rests
word settings s k e before (took (StartFailed n) m) = if nat_eq n s then breaks else rests
word settings s k e before (took (ServerGone n) m) = if nat_eq n s then breaks else rests
word settings s k e before other = rests

abbrev pub words : Settings → ℕ → ℕ → ℕ → List Event → List Word
words settings s k e events = past (λ before ws event. ws ++ word settings s k e before event ∷ []) [] [] events

-- those before the first that is so, and those from it on
abbrev pub until : (Word → Bool) → List Word → List Word
until test [] = []
until test (w ∷ ws) = if test w then [] else w ∷ until test ws

abbrev pub since : (Word → Bool) → List Word → List Word
since test [] = []
since test (w ∷ ws) = if test w then w ∷ ws else since test ws

-- the bodies of the start's messages
abbrev pub body_in : Word → List (List ℕ)
body_in (tells body) = body ∷ []
body_in other = []

abbrev pub bodies : List Word → List (List ℕ)
bodies ws = flat_map body_in ws

-- a body that begins a token, and one that ends it
abbrev pub is_beginning : Message → Bool
is_beginning (notification method params) = is_begin params
is_beginning other = false

abbrev pub is_ending : Message → Bool
is_ending (notification method params) = is_end params
is_ending other = false

abbrev pub begins : List ℕ → Bool
begins body = is_beginning (message_of body)

abbrev pub ends : List ℕ → Bool
ends body = is_ending (message_of body)

-- the first of these that begins the token
abbrev pub opening : List (List ℕ) → List (List ℕ)
opening xs = take 1 (filter begins xs)

-- what is held of these: as many as may be, and behind them an end
abbrev pub held_of : ℕ → List (List ℕ) → List (List ℕ)
held_of most xs = take most xs ++ filter ends (drop most xs)

abbrev pub is_asks : Word → Bool
is_asks (asks n) = true
is_asks other = false

abbrev pub is_parts : Word → Bool
is_parts parts = true
is_parts breaks = true
is_parts other = false

-- what the editor was asked under this number is settled: by its response, or since it leaves, or the program ends
abbrev pub settles : ℕ → Word → Bool
settles n (replies id agrees) = names id n
settles n parts = true
settles n breaks = true
settles n other = false

-- an editor that agrees is due what was held until then, and each message from then on
abbrev pub due_settled : List (List ℕ) → List Word → List (List ℕ)
due_settled xs (replies id true ∷ ws) = held_of held_most xs ++ bodies (until is_parts ws)
due_settled xs other = []

-- what is held: the first `begin` of those before it was asked, and each message from then on
abbrev pub due_asked : List (List ℕ) → List Word → List (List ℕ)
due_asked first (asks n ∷ ws) = due_settled (first ++ bodies (until (settles n) ws)) (since (settles n) ws)
due_asked first other = []

abbrev pub due : List Word → List (List ℕ)
due ws = due_asked (opening (bodies (until is_asks ws))) (since is_asks ws)

-- an editor agreed, and didn't leave before the program ended
abbrev pub breaks_off : List Word → Bool
breaks_off (breaks ∷ ws) = true
breaks_off other = false

abbrev pub cut_settled : List Word → Bool
cut_settled (replies id true ∷ ws) = breaks_off (since is_parts ws)
cut_settled other = false

abbrev pub cut_asked : List Word → Bool
cut_asked (asks n ∷ ws) = cut_settled (since (settles n) ws)
cut_asked other = false

abbrev pub is_cut : List Word → Bool
is_cut ws = cut_asked (since is_asks ws)

-- it is told then that the token ends, where it was told that it begins, and of no end
abbrev pub is_open_yet : List (List ℕ) → Bool
is_open_yet xs = list_any begins xs && not (list_any ends xs)

abbrev pub is_closing : List Word → Bool
is_closing ws = is_cut ws && is_open_yet (due ws)

-- under the daemon's own token of it
abbrev pub closing : ℕ → ℕ → Bool → List (List ℕ)
closing s k cut = if cut then end_text (created_text s k) ∷ [] else []

abbrev pub progress_due : Settings → ℕ → ℕ → ℕ → List Event → List (List ℕ)
progress_due settings s k e events = map (marked_text (created_text s k)) (due (words settings s k e events)) ++ closing s k (is_closing (words settings s k e events))

-- what the editor was sent of the daemon's own token
abbrev pub names_mark : ℕ → ℕ → Message → Bool
names_mark s k (notification method params) = bytes_eq method (codes "$/progress") && option_map_or (bytes_eq (created_mark s k)) (string_of (named_of (codes "token") params)) false
names_mark s k other = false

abbrev pub sent_by : ℕ → ℕ → ℕ → Event → List (List ℕ)
sent_by s k e (did (ToEditor n body) m) = if nat_eq n e && names_mark s k m then body ∷ [] else []
sent_by s k e other = []

abbrev pub progress_sent : ℕ → ℕ → ℕ → List Event → List (List ℕ)
progress_sent s k e events = flat_map (sent_by s k e) events

-- each editor was sent of each token what it is due, as long as numerals tell starts and tokens apart
abbrev pub KeepsDue : Settings → List Entry → Type 0
KeepsDue settings history = starts_of (events_of history) ≤ 2 ^ 64 → (s k e : ℕ) → s < 2 ^ 64 → k < 2 ^ 64 → progress_sent s k e (events_of history) ≡ progress_due settings s k e (events_of history)
