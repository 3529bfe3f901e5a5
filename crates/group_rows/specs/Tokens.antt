-- Tokens for progress of editors' requests: what a start gets in their place, and what an editor is told of them (LSP 3.17, Work Done Progress and Partial Result Progress).
use Rattle.std.specs.Prelude.{ℕ, ◌+◌, ◌*◌, Bool, true, false, ◌&&◌, List, [], ◌++◌, codes, decimal, is_some, bytes_eq, if◌then◌else◌}
use Rattle.std.specs.Prelude.{Option, Some, None}
use Rattle.std.specs.Option.{option_and_then, option_map_or}
use Rattle.json_text.specs.Json.{Json, string}
use Rattle.json_text.specs.Replace.{Edit, replace}
use Rattle.response_route.specs.json_nodes.specs.Puts.{put_edits}
use Rattle.rpc_message.specs.Changed.{changed_text}
use Rattle.rpc_message.specs.Message.{id_of, same_id}
use Rattle.mux_history.specs.declared.out.Out.TheVariants.{ToEditor, ToServer}
use Rattle.event_model.specs.declared.phase.Phase.{Phase}
use Rattle.event_model.specs.declared.phase.Phase.TheVariants.{Running, Down}
use Rattle.event_model.specs.Event.{Event}
use Rattle.event_model.specs.Members.{is_token, named_of, params_of}
use Rattle.event_model.specs.Phases.{desk_of}
use Rattle.event_model.specs.Row.{Row, nothing, send, on}
use Rattle.group_rows.specs.Waiting.{id_meant}
use Rattle.group_rows.specs.Forwarded.{Forwarded, is_of}

-- the characters of the daemon's own token of a number, and its text
abbrev pub mark : ℕ → List ℕ
mark k = codes "lspmux:" ++ decimal k

abbrev pub mark_text : ℕ → List ℕ
mark_text k = codes "\"lspmux:" ++ decimal k ++ codes "\""

-- request n has two: for its work done, and for its partial results
abbrev pub work_mark : ℕ → ℕ
work_mark n = 2 * n

abbrev pub partial_mark : ℕ → ℕ
partial_mark n = 2 * n + 1

-- in the place of each token of a name, where the last one is an integer or a string
abbrev pub new_token : ℕ → Json → List ℕ → Option (List ℕ)
new_token n params name =
    if bytes_eq (codes "workDoneToken") name && is_token (named_of (codes "workDoneToken") (Some params)) then Some (mark_text (work_mark n))
    else if bytes_eq (codes "partialResultToken") name && is_token (named_of (codes "partialResultToken") (Some params)) then Some (mark_text (partial_mark n)) else None

abbrev pub token_edits : ℕ → Option Json → List Edit
token_edits n (Some params) = put_edits (new_token n params) params
token_edits n None = []

-- E10: a request as it goes to a start: under its number, with the daemon's tokens, and all else as it came
abbrev pub forwarded_text : ℕ → List ℕ → List ℕ
forwarded_text n body = changed_text body (decimal n) (token_edits n (params_of body))

-- the editor's own token that a token of a start stands for, of this request
abbrev pub is_mark : Option Json → ℕ → Bool
is_mark (Some (string s cs)) k = bytes_eq cs (mark k)
is_mark other k = false

abbrev pub own_token : Option Json → Forwarded → Option (List ℕ)
own_token token f = if is_mark token (work_mark f.number) then f.work else if is_mark token (partial_mark f.number) then f.partial else None

-- a body with other bytes in place of each `token` of its params, and all else as it came
abbrev pub new_mark : List ℕ → List ℕ → Option (List ℕ)
new_mark text name = if bytes_eq (codes "token") name then Some text else None

abbrev pub mark_edits : List ℕ → Option Json → List Edit
mark_edits text (Some params) = put_edits (new_mark text) params
mark_edits text None = []

abbrev pub marked_text : List ℕ → List ℕ → List ℕ
marked_text text body = replace body (mark_edits text (params_of body))

-- an editor that runs or is down: it may hear more than responses (LSP 3.17, Initialize Request)
abbrev pub listens : Phase → Bool
listens Running = true
listens Down = true
listens other = false

-- S13: what a start tells of an open request goes to its editor, while it runs or is down, with the editor's own token
abbrev pub is_told : List Event → Option Json → Forwarded → Bool
is_told before token f = is_some (own_token token f) && listens (desk_of f.editor before).phase

abbrev pub tell_progress : List ℕ → Option Json → Forwarded → Row
tell_progress body token f = on (own_token token f) nothing (λ text. send (ToEditor f.editor (marked_text text body)))

-- E11: an editor cancels the work of an open request of its own, by its token, which goes on as the daemon's (LSP 3.17, Work Done Progress, Cancelling)
abbrev pub is_token_of : Option Json → Option (List ℕ) → Bool
is_token_of token None = false
is_token_of token (Some bytes) = option_map_or (λ id. option_map_or (same_id id) (id_meant bytes) false) (option_and_then id_of token) false

abbrev pub is_worked : ℕ → Option Json → Forwarded → Bool
is_worked e token f = is_of e f && is_token_of token f.work

abbrev pub cancel_work : ℕ → List ℕ → Forwarded → Row
cancel_work s body f = send (ToServer s (marked_text (mark_text (work_mark f.number)) body))
