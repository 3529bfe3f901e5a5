-- X1 and X2: what the editors of a group lose with the program of its last start, in the order in which they are told so.
use Rattle.std.specs.Prelude.{◌≡◌, ℕ, ◌<◌, Bool, true, false, not, List, [], ◌∷◌, ◌++◌, filter, map, None, Option, Some, IsUtf8, if◌then◌else◌}
use Rattle.std.specs.List.{flat_map}
use Rattle.mux_history.specs.declared.out.Out.TheVariants.{ToEditor}
use Rattle.rpc_message.specs.Message.{Message, error, message_of, notification}
use Rattle.rpc_message.specs.Texts.{error_text, request_failed}
use Rattle.event_model.specs.Event.{Event}
use Rattle.event_model.specs.Phases.{desk_of, is_running}
use Rattle.event_model.specs.Row.{Row, send}
use Rattle.event_model.specs.Settings.{Settings}
use Rattle.event_model.specs.Stages.{is_ready, life_of}
use Rattle.group_rows.specs.Asks.{asks_of, members_in, running_in}
use Rattle.group_rows.specs.Created.{created_of, created_text}
use Rattle.group_rows.specs.diagnostics_route.specs.declared.last_list.LastList.{LastList}
use Rattle.group_rows.specs.ExitRows.{empty_text, end_text, is_full}
use Rattle.group_rows.specs.Forwarded.{forwarding_of}
use Rattle.group_rows.specs.Leaves.{cancel_text}
use Rattle.group_rows.specs.Lists.{is_publishing, lists_of}
use Rattle.group_rows.specs.Live.{live_of}
use Rattle.group_rows.specs.LiveRows.{unregister_any}
use Rattle.group_rows.specs.registrations.specs.declared.registration.Registration.{Registration}
use Rattle.mux_exits.specs.declared.losses.Loss.{Loss}
use Rattle.mux_exits.specs.declared.losses.Loss.TheVariants.{Emptied, Refused, Told, Unregistered}
use Rattle.mux_tables.specs.Losses.{open_asks}
use Rattle.mux_tables.specs.Halts.{ids_at}
use Rattle.mux_tables.specs.mux_tokens.specs.Ends.{begun_tokens, unanswered_takes}
use Rattle.mux_turns.specs.Initials.{IsNamed}

-- X1: the requests of these ids fail at the editor
abbrev pub refused : ℕ → List (List ℕ) → List Loss
refused e ids = map (λ id. Refused e id) ids

abbrev pub lost_sent : Settings → List Event → ℕ → ℕ → List Loss
lost_sent settings before s e = refused e (ids_at e (forwarding_of settings s before).open_requests)

-- X2: tokens of start s end there, by their numbers
abbrev pub ended : ℕ → ℕ → List ℕ → List Loss
ended s e numbers = map (λ k. Told e (end_text (created_text s k))) numbers

-- X2: requests to the editor are cancelled, by their numbers
abbrev pub cancelled : ℕ → List ℕ → List Loss
cancelled e numbers = map (λ n. Told e (cancel_text n)) numbers

-- X2: of these lists those that aren't empty at the editor are to be, by their documents (LSP 3.17, Publish Diagnostics)
abbrev pub emptied : List Event → ℕ → List LastList → List Loss
emptied before e lists = map (λ (l : LastList). Emptied e l.uri) (filter (λ (l : LastList). is_full e l.uri before) lists)

-- the same of one, where there is one
abbrev pub emptied_at : List Event → ℕ → Option LastList → List Loss
emptied_at before e None = []
emptied_at before e (Some l) = emptied before e (l ∷ [])

-- X2: all that an editor that runs loses
abbrev pub lost_start : Settings → List Event → ℕ → ℕ → List Loss
lost_start settings before s e = ended s e (begun_tokens e (created_of settings s before))
    ++ (cancelled e (unanswered_takes e (created_of settings s before)) ++ (cancelled e (open_asks e (asks_of settings s before)) ++ Unregistered e ∷ emptied before e (lists_of s before)))

-- X1 and X2: the editors of a group, rising; and where the start is ready those that run
abbrev pub lost_at : Settings → List Event → ℕ → ℕ → List Loss
lost_at settings before s g = flat_map (lost_sent settings before s) (members_in settings g before)
    ++ (if is_ready (life_of s before).stage then flat_map (lost_start settings before s) (running_in settings g before) else [])

-- what is registered at a start that is ready
abbrev pub live_at : Settings → List Event → ℕ → List Registration
live_at settings before s = if is_ready (life_of s before).stage then live_of settings s before else []

-- an editor is told so, while these are what is registered
abbrev pub loss_row : List Registration → Loss → Row
loss_row live (Refused e id) = send (ToEditor e (error_text id request_failed))
loss_row live (Told e text) = send (ToEditor e text)
loss_row live (Unregistered e) = unregister_any live e
loss_row live (Emptied e uri) = send (ToEditor e (empty_text uri))

-- a notification that lists no diagnostics
abbrev pub is_notice : Message → Bool
is_notice (notification method params) = not (is_publishing method)
is_notice other = false

-- neither a request, nor a result, nor a list of diagnostics
abbrev pub is_mild : Message → Bool
is_mild (error id x) = true
is_mild (notification method params) = not (is_publishing method)
is_mild other = false

-- an editor runs
abbrev pub Runs : List Event → ℕ → Type 0
Runs events e = is_running (desk_of e events).phase ≡ true

-- an editor may be told so
abbrev pub CanLose : List Event → Loss → Type 0
CanLose now (Refused e id) = IsNamed id
CanLose now (Told e text) = is_notice (message_of text) ≡ true
CanLose now (Unregistered e) = Runs now e
CanLose now (Emptied e uri) = IsUtf8 uri

-- one of which more is kept than where it stands is among the first so many
abbrev pub IsInside : ℕ → Loss → Type 0
IsInside n (Refused e id) = Unit {0}
IsInside n (Told e text) = Unit {0}
IsInside n (Unregistered e) = e < n
IsInside n (Emptied e uri) = e < n
