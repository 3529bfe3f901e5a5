-- Made inputs: four editors with one document, which ask and change it in turns that are drawn, and a server that answers and exits.
use Rattle.std.specs.Prelude.{ℕ, zero, suc, ◌+◌, ◌*◌, ◌/◌, ◌%◌, ◌^◌, ◌&&◌, List, [], ◌∷◌, ◌++◌, codes, decimal, map, nat_eq, nat_le, nat_lt, if◌then◌else◌}
use Rattle.mux_history.specs.declared.cause.Cause.{Cause}
use Rattle.mux_history.specs.declared.cause.Cause.TheVariants.{Joined, FromEditor, Started, FromServer, ServerGone}
use Rattle.drive_text.specs.declared.made.Greeting.{Greeting}
use Rattle.drive_text.specs.declared.made.Greeting.TheVariants as greeting
use Rattle.drive_text.specs.declared.made.Maker.{Maker}
use Rattle.drive_text.specs.declared.made.Turn.{Turn}
use Rattle.drive_text.specs.declared.made.Turn.TheVariants as turn
use Rattle.drive_text.specs.Spellings.{spelled}

-- the generator's next state, and what is drawn of it
abbrev pub next_state : ℕ → ℕ
next_state x = (x * 6364136223846793005 + 1442695040888963407) % 2 ^ 64

abbrev pub drawn : ℕ → ℕ
drawn x = x / 2 ^ 33

-- the bodies
abbrev pub init_body : List ℕ
init_body = codes "{\"jsonrpc\":\"2.0\",\"id\":0,\"method\":\"initialize\",\"params\":{\"rootUri\":\"file:///w\",\"capabilities\":{}}}"

abbrev pub initialized_body : List ℕ
initialized_body = codes "{\"jsonrpc\":\"2.0\",\"method\":\"initialized\",\"params\":{}}"

abbrev pub open_body : List ℕ
open_body = codes "{\"jsonrpc\":\"2.0\",\"method\":\"textDocument/didOpen\",\"params\":{\"textDocument\":{\"uri\":\"file:///d\",\"languageId\":\"x\",\"version\":1,\"text\":\"t\"}}}"

abbrev pub result_body : List ℕ
result_body = codes "{\"jsonrpc\":\"2.0\",\"id\":1,\"result\":{\"capabilities\":{}}}"

abbrev pub hover_body : ℕ → List ℕ
hover_body i = codes "{\"jsonrpc\":\"2.0\",\"id\":" ++ (decimal i ++ codes ",\"method\":\"textDocument/hover\",\"params\":{}}")

abbrev pub null_body : ℕ → List ℕ
null_body n = codes "{\"jsonrpc\":\"2.0\",\"id\":" ++ (decimal n ++ codes ",\"result\":null}")

-- the whole text `t` and i, as version i + 1
abbrev pub full_body : ℕ → List ℕ
full_body i = codes "{\"jsonrpc\":\"2.0\",\"method\":\"textDocument/didChange\",\"params\":{\"textDocument\":{\"uri\":\"file:///d\",\"version\":"
    ++ (decimal (i + 1) ++ (codes "},\"contentChanges\":[{\"text\":\"t" ++ (decimal i ++ codes "\"}]}}")))

-- the opening
abbrev pub greeting_of : Greeting → ℕ → Cause
greeting_of greeting.Join e = Joined e
greeting_of greeting.Initialize e = FromEditor e init_body
greeting_of greeting.Initialized e = FromEditor e initialized_body
greeting_of greeting.Open e = FromEditor e open_body

abbrev pub greetings : Greeting → List Cause
greetings g = greeting_of g 0 ∷ greeting_of g 1 ∷ greeting_of g 2 ∷ greeting_of g 3 ∷ []

abbrev pub opening : List Cause
opening = greetings greeting.Join ++ (greetings greeting.Initialize ++ (Started 0 ∷ FromServer 0 result_body ∷ (greetings greeting.Initialized ++ greetings greeting.Open)))

-- what is done where c was drawn
abbrev pub turn_of : ℕ → ℕ → Turn
turn_of start c =
    if nat_eq c 7 && nat_lt start 5 then turn.Exit else
    (if nat_le 4 c && nat_le c 6 then turn.Change else
    (if nat_eq c 3 then turn.Ask else turn.AskAndAnswer))

abbrev pub turn_causes : ℕ → ℕ → Maker → Turn → List Cause
turn_causes i e m turn.Exit = ServerGone m.start ∷ Started (m.start + 1) ∷ FromServer (m.start + 1) result_body ∷ []
turn_causes i e m turn.Change = FromEditor e (full_body i) ∷ []
turn_causes i e m turn.Ask = FromEditor e (hover_body i) ∷ []
turn_causes i e m turn.AskAndAnswer = FromEditor e (hover_body i) ∷ FromServer m.start (null_body (m.asked + 2)) ∷ []

abbrev pub turned : ℕ → Maker → Turn → Maker
turned state m turn.Exit = record { state = state; start = m.start + 1; asked = 0 }
turned state m turn.Change = record { state = state; start = m.start; asked = m.asked }
turned state m turn.Ask = record { state = state; start = m.start; asked = m.asked + 1 }
turned state m turn.AskAndAnswer = record { state = state; start = m.start; asked = m.asked + 1 }

-- the turn behind a state: two draws, the first modulo 4 an editor, the second modulo 8 what is done
abbrev pub second : Maker → ℕ
second m = next_state (next_state m.state)

abbrev pub turn_at : Maker → Turn
turn_at m = turn_of m.start (drawn (second m) % 8)

abbrev pub step_causes : ℕ → Maker → List Cause
step_causes i m = turn_causes i (drawn (next_state m.state) % 4) m (turn_at m)

abbrev pub step_state : Maker → Maker
step_state m = turned (second m) m (turn_at m)

-- the state behind so many turns, and their causes
unfoldable pub state_after : ℕ → ℕ → Maker
state_after seed zero = record { state = seed; start = 0; asked = 0 }
state_after seed (suc i) = step_state (state_after seed i)

unfoldable pub turns : ℕ → ℕ → List Cause
turns seed zero = []
turns seed (suc i) = turns seed i ++ step_causes (suc i) (state_after seed i)

abbrev pub made : ℕ → ℕ → List Cause
made n seed = opening ++ turns seed n

-- their lines, without line feeds
abbrev pub made_lines : ℕ → ℕ → List (List ℕ)
made_lines n seed = map spelled (made n seed)
