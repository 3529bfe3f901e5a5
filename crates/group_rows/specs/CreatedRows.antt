-- S8, S13 and E11, of the tokens for progress that a start creates beside those of requests; E19, of an editor's answer whether it takes one; and the part of L2 (LSP 3.17, Work Done Progress).
use Rattle.std.specs.Prelude.{ℕ, List, ◌++◌, codes, filter, find}
use Rattle.std.specs.Prelude.{Option, Some}
use Rattle.json_text.specs.Json.{Json}
use Rattle.mux_history.specs.declared.out.Out.TheVariants.{ToEditor, ToServer}
use Rattle.rpc_message.specs.Message.{Message}
use Rattle.rpc_message.specs.Texts.{request_text}
use Rattle.event_model.specs.Event.{Event}
use Rattle.event_model.specs.Members.{named_of}
use Rattle.event_model.specs.Phases.{desk_of, is_running}
use Rattle.event_model.specs.Requests.{answered_id}
use Rattle.event_model.specs.Row.{Row, nothing, send, choose, each, on, ◌⨾◌}
use Rattle.event_model.specs.Settings.{Settings}
use Rattle.event_model.specs.Spawns.{group_of, start_of}
use Rattle.event_model.specs.Stages.{life_of, is_ready}
use Rattle.group_words.specs.Houses.{home_of}
use Rattle.group_rows.specs.Asks.{running_in}
use Rattle.group_rows.specs.Created.{Taking, Token, accepts, created_of, created_text, has_accepted, is_answered, named_token, created_token, token_called, token_marked}
use Rattle.group_rows.specs.Forwarded.{forwarding_of}
use Rattle.group_rows.specs.LiveRows.{accept, call, decline}
use Rattle.group_rows.specs.Tokens.{cancel_work, is_told, is_worked, marked_text, tell_progress}

-- `create(n, T)`: an editor is asked to take a token, under the daemon's own text
abbrev pub create_params : ℕ → ℕ → List ℕ
create_params s k = codes "{\"token\":" ++ created_text s k ++ codes "}"

abbrev pub create_text : ℕ → ℕ → ℕ → List ℕ
create_text s k n = request_text n (codes "window/workDoneProgress/create") (Some (create_params s k))

abbrev pub offer : ℕ → ℕ → Token → Row
offer s e t = call (create_text s t.number) e

-- S8: each editor that runs is asked to take what the start creates
abbrev pub create_row : Settings → List Event → ℕ → ℕ → List ℕ → Row
create_row settings before g s body = on (created_token body (created_of settings s before)) (decline s body)
    (λ t. accept s body ⨾ each (λ e. offer s e t) (running_in settings g before))

-- L2: an editor that begins to run is asked to take each token that lives, in the order of creation
abbrev pub offer_all : Settings → List Event → ℕ → ℕ → Row
offer_all settings before e s = each (offer s e) (created_of settings s before).tokens

-- an editor is told of a token under the daemon's own text
abbrev pub tell : ℕ → ℕ → ℕ → List ℕ → Row
tell s k e body = send (ToEditor e (marked_text (created_text s k) body))

-- S13: progress of a token that lives goes to each editor that runs and accepted it
abbrev pub takers : Settings → List Event → ℕ → ℕ → Token → List ℕ
takers settings before g s t = filter (λ e. has_accepted e t.number (created_of settings s before)) (running_in settings g before)

abbrev pub tell_takers : Settings → List Event → ℕ → List ℕ → Token → Row
tell_takers settings before s body t = on (group_of s before) nothing (λ g. each (λ e. tell s t.number e body) (takers settings before g s t))

abbrev pub created_row : Settings → ℕ → List Event → List ℕ → Option Json → Row
created_row settings s before body params = on (token_called (named_token params) (created_of settings s before)) nothing (tell_takers settings before s body)

-- S13: by its token progress is of an open request, or of a token that the start created
abbrev pub progress_row : Settings → ℕ → List Event → List ℕ → Option Json → Row
progress_row settings s before body params = on (find (is_told before (named_of (codes "token") params)) (forwarding_of settings s before).open_requests)
    (created_row settings s before body params) (tell_progress body (named_of (codes "token") params))

-- E19: an editor that accepts a token gets what was held for it, in order
abbrev pub hand_out : ℕ → ℕ → Message → Taking → Row
hand_out s e m c = choose (accepts m) (each (tell s c.token e) c.held) nothing

-- a message by which an editor begins to run answers nothing of what it is asked then
abbrev pub taking_row : Settings → List Event → ℕ → Message → ℕ → Row
taking_row settings before e m s = choose (is_running (desk_of e before).phase) (on (find (is_answered e (answered_id m)) (created_of settings s before).takings) nothing (hand_out s e m)) nothing

-- E11: an editor cancels the work of a token that it accepted, which goes on with the start's own bytes (LSP 3.17, Work Done Progress, Cancelling)
abbrev pub cancel_created : Settings → List Event → ℕ → List ℕ → ℕ → Token → Row
cancel_created settings before e body s t = choose (has_accepted e t.number (created_of settings s before)) (send (ToServer s (marked_text t.text body))) nothing

abbrev pub created_work : Settings → List Event → ℕ → List ℕ → Option Json → ℕ → Row
created_work settings before e body params s = on (token_marked s params (created_of settings s before)) nothing (cancel_created settings before e body s)

-- E11: work of an open request of its own, or of a token that it accepted
abbrev pub work_at : Settings → List Event → ℕ → List ℕ → Option Json → ℕ → Row
work_at settings before e body params s = choose (is_ready (life_of s before).stage)
    (on (find (is_worked e (named_of (codes "token") params)) (forwarding_of settings s before).open_requests) (created_work settings before e body params s) (cancel_work s body)) nothing

abbrev pub work_row : Settings → List Event → ℕ → List ℕ → Option Json → Row
work_row settings before e body params = on (home_of settings e before) nothing (λ g. on (start_of g before) nothing (work_at settings before e body params))
