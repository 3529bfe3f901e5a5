-- What a start asks of editors: its requests that wait for the answer of one editor, those that wait until an editor runs, and the numbers under which editors are asked (LSP 3.17, Base Protocol, Request Message).
use Rattle.std.specs.Prelude.{ℕ, ◌+◌, ◌^◌, Bool, true, false, not, ◌&&◌, ◌||◌, List, [], ◌∷◌, ◌++◌, filter, fold, is_some, nat_eq, nat_lt, if◌then◌else◌}
use Rattle.std.specs.Prelude.{Option, Some, None}
use Rattle.std.specs.List.{list_any}
use Rattle.std.specs.Option.{option_and_then, option_map_or}
use Rattle.mux_history.specs.declared.cause.Cause.TheVariants.{FromEditor, FromServer, StartFailed, ServerGone}
use Rattle.mux_history.specs.declared.out.Out.TheVariants.{ToEditor, ToServer}
use Rattle.lsp_method.specs.Class.{class_of}
use Rattle.lsp_method.specs.declared.variants.Class.{Class}
use Rattle.lsp_method.specs.declared.variants.Class.TheVariants.{Focused, Lowest}
use Rattle.lsp_method.specs.declared.variants.Origin.TheVariants.{Server}
use Rattle.rpc_message.specs.Message.{Message, request, Id, id_bytes, same_id}
use Rattle.event_model.specs.Event.{Event, took, did}
use Rattle.event_model.specs.Phases.{is_begun, is_running}
use Rattle.event_model.specs.Requests.{answered_id}
use Rattle.event_model.specs.Settings.{Settings}
use Rattle.event_model.specs.Spawns.{group_of, start_of}
use Rattle.event_model.specs.Stages.{life_of, is_ready}
use Rattle.group_words.specs.Houses.{editors_in, home_of}
use Rattle.group_words.specs.Past.{past}
use Rattle.group_rows.specs.Forwarded.{names}

-- the editors of a group, rising
abbrev pub members_in : Settings → ℕ → List Event → List ℕ
members_in settings g events = editors_in is_begun g (λ e. home_of settings e events) events

-- those that run
abbrev pub running_in : Settings → ℕ → List Event → List ℕ
running_in settings g events = editors_in is_running g (λ e. home_of settings e events) events

abbrev pub first_in : List ℕ → Option ℕ
first_in [] = None
first_in (e ∷ es) = Some e

-- an editor of the start's group runs
abbrev pub has_running : Settings → List Event → ℕ → Bool
has_running settings events s = option_map_or (λ g. is_some (first_in (running_in settings g events))) (group_of s events) false

-- the start is the last one of the editor's group
abbrev pub serves : Settings → List Event → ℕ → ℕ → Bool
serves settings events s e = option_map_or (nat_eq s) (option_and_then (λ g. start_of g events) (home_of settings e events)) false

-- the number of the next request to editor e: the first has 1
abbrev pub asked_behind : ℕ → ℕ → Event → ℕ
asked_behind e n (did (ToEditor k body) (request id method ps)) = if nat_eq k e then n + 1 else n
asked_behind e n other = n

abbrev pub next_ask : ℕ → List Event → ℕ
next_ask e events = fold (asked_behind e) 1 events

-- the numbers of requests to an editor are below 2^64
abbrev pub has_number : ℕ → List Event → Bool
has_number e events = nat_lt (next_ask e events) (2 ^ 64)

-- S11 and S12: one editor answers a request of this method
abbrev pub goes_to_one : Class → Bool
goes_to_one Focused = true
goes_to_one Lowest = true
goes_to_one _ = false

abbrev pub is_single : List ℕ → Bool
is_single method = goes_to_one (class_of method Server false)

-- S12: it may wait until an editor runs
abbrev pub may_wait : Class → Bool
may_wait Lowest = true
may_wait _ = false

abbrev pub is_patient : List ℕ → Bool
is_patient method = may_wait (class_of method Server false)

-- a request of a start, by its id and the bytes of that
pub record Asker : Type 0 where
  pub id : Id
  pub bytes : List ℕ

-- a request of a start that an editor was asked under a number of its own, and that isn't answered
pub record Ask : Type 0 where
  pub id : Id
  pub bytes : List ℕ
  pub editor : ℕ
  pub number : ℕ

-- a request of a start that waits until an editor runs
pub record Parked : Type 0 where
  pub id : Id
  pub body : List ℕ

-- at a start: its request that is at work, where one editor answers it; the editor whose message is at work; the asks, in the order in which editors were asked; and what waits until an editor runs, in the order of arrival
pub record Asking : Type 0 where
  pub asker : Option Asker
  pub runs : Option ℕ
  pub asks : List Ask
  pub parked : List Parked

abbrev pub asker_of : List ℕ → Message → Option Asker
asker_of body (request id method ps) = if is_single method then Some (record { id = id; bytes = id_bytes body }) else None
asker_of body other = None

abbrev pub put : Option Asker → ℕ → ℕ → List Ask
put None e n = []
put (Some a) e n = record { id = a.id; bytes = a.bytes; editor = e; number = n } ∷ []

-- E19: a response of editor e under this id answers the ask
abbrev pub is_seated : ℕ → Option Id → Ask → Bool
is_seated e id a = nat_eq a.editor e && names id a.number

-- the ask has this id at its start, and so has what waits
abbrev pub is_under : Option Id → Ask → Bool
is_under None a = false
is_under (Some id) a = same_id id a.id

abbrev pub waits_under : Option Id → Parked → Bool
waits_under None p = false
waits_under (Some id) p = same_id id p.id

-- an editor was asked
abbrev pub is_with : ℕ → Ask → Bool
is_with e a = nat_eq a.editor e

abbrev pub no_asking : Asking
no_asking = record { asker = None; runs = None; asks = []; parked = [] }

abbrev pub idle_asking : Asking → Asking
idle_asking x = record { asker = None; runs = None; asks = x.asks; parked = x.parked }

-- a request under this id is open
abbrev pub is_taken : Option Id → Asking → Bool
is_taken id x = list_any (is_under id) x.asks || list_any (waits_under id) x.parked

-- S12: a request that one editor answers, the lowest, waits where none runs
abbrev pub parks : Settings → ℕ → List Event → Asking → List ℕ → Message → List Parked
parks settings s before x body (request id method ps) =
    if is_patient method && (is_ready (life_of s before).stage && (not (is_taken (Some id) x) && not (has_running settings before s))) then record { id = id; body = body } ∷ [] else []
parks settings s before x body other = []

-- L2: what came first is asked of an editor that begins to run
abbrev pub unparked : ℕ → ℕ → Asking → List Parked → Asking
unparked e n x [] = x
unparked e n x (p ∷ ps) = record { asker = x.asker; runs = x.runs; asks = x.asks ++ record { id = p.id; bytes = id_bytes p.body; editor = e; number = n } ∷ []; parked = ps }

-- the message at work is the editor's
abbrev pub is_own_work : ℕ → Option ℕ → Bool
is_own_work e None = false
is_own_work e (Some n) = nat_eq n e

-- an editor is asked by this method: what the request at work asks, or, by its own message, what waited at the start of its group
abbrev pub asked_next : Bool → ℕ → ℕ → Asking → Option Asker → Asking
asked_next resumes e n x (Some a) = record { asker = x.asker; runs = x.runs; asks = x.asks ++ put (Some a) e n; parked = x.parked }
asked_next resumes e n x None = if resumes then unparked e n x x.parked else x

-- an ask is open from its own body to the editor until the editor's response, or until the start is answered, or its program ends
abbrev pub asking_next : Settings → ℕ → List Event → Asking → Event → Asking
asking_next settings s before x (took (FromServer n body) m) = if nat_eq n s then record { asker = asker_of body m; runs = None; asks = x.asks; parked = x.parked ++ parks settings s before x body m } else idle_asking x
asking_next settings s before x (took (FromEditor e body) m) = record { asker = None; runs = Some e; asks = filter (λ a. not (is_seated e (answered_id m) a)) x.asks; parked = x.parked }
asking_next settings s before x (took (StartFailed n) m) = if nat_eq n s then no_asking else idle_asking x
asking_next settings s before x (took (ServerGone n) m) = if nat_eq n s then no_asking else idle_asking x
asking_next settings s before x (took cause m) = idle_asking x
asking_next settings s before x (did (ToEditor e body) (request id method ps)) = asked_next (is_own_work e x.runs && (is_patient method && serves settings before s e)) e (next_ask e before) x x.asker
asking_next settings s before x (did (ToServer n body) m) =
    if nat_eq n s then record { asker = x.asker; runs = x.runs; asks = filter (λ a. not (is_under (answered_id m) a)) x.asks; parked = filter (λ p. not (waits_under (answered_id m) p)) x.parked } else x
asking_next settings s before x (did out m) = x

abbrev pub asking_of : Settings → ℕ → List Event → Asking
asking_of settings s events = past (asking_next settings s) [] no_asking events

abbrev pub asks_of : Settings → ℕ → List Event → List Ask
asks_of settings s events = (asking_of settings s events).asks

abbrev pub parked_of : Settings → ℕ → List Event → List Parked
parked_of settings s events = (asking_of settings s events).parked
