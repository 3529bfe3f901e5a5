-- S6 to S12, S14, S15 and L2: what a ready start asks of editors and tells them, and E19: what it gets of their answers.
use Rattle.std.specs.Prelude.{ℕ, Bool, false, List, bytes_eq, filter, find, codes, decimal, nat_eq}
use Rattle.std.specs.Prelude.{Option, Some, None, slice_get}
use Rattle.std.specs.List.{last_or, list_any}
use Rattle.std.specs.Option.{option_and_then, option_map}
use Rattle.json_text.specs.Json.{Json}
use Rattle.mux_history.specs.declared.out.Out.TheVariants.{ToEditor, ToServer}
use Rattle.lsp_method.specs.Class.{class_of}
use Rattle.lsp_method.specs.declared.variants.Class.{Class}
use Rattle.lsp_method.specs.declared.variants.Class.TheVariants.{Broadcast, Cancel, Create, Diagnostics, Focused, Folders, Lowest, Progress, Refresh, Register, Unregister}
use Rattle.lsp_method.specs.declared.variants.Origin.TheVariants.{Server}
use Rattle.rpc_message.specs.Message.{Id, Message, id_bytes, id_of}
use Rattle.rpc_message.specs.Texts.{error_text, ok_text, request_failed, with_id_text}
use Rattle.event_model.specs.Event.{Event}
use Rattle.event_model.specs.Members.{named_of}
use Rattle.event_model.specs.Phases.{desk_of, is_running}
use Rattle.event_model.specs.Requests.{answered_id}
use Rattle.event_model.specs.Row.{Row, nothing, send, choose, look, each, on, ◌⨾◌}
use Rattle.event_model.specs.Settings.{Settings}
use Rattle.event_model.specs.Spawns.{group_of, start_of}
use Rattle.event_model.specs.Stages.{life_of, is_ready}
use Rattle.response_route.specs.Asked.{asked_text, not_applied}
use Rattle.response_route.specs.Edits.{Renaming}
use Rattle.response_route.specs.Versions.{version_now}
use Rattle.refresh_debts.specs.declared.debts.Debt.{Debt}
use Rattle.group_words.specs.Houses.{groups_of, home_of}
use Rattle.group_words.specs.Rows.{folders_text}
use Rattle.group_rows.specs.Answers.{agreed_version, stamp_at}
use Rattle.group_rows.specs.Asks.{Ask, Parked, asking_of, asks_of, first_in, has_number, is_seated, is_taken, is_under, next_ask, parked_of, running_in}
use Rattle.group_rows.specs.CreatedRows.{create_row, offer_all, progress_row, taking_row}
use Rattle.group_rows.specs.Debts.{agrees_on_all, debts_due}
use Rattle.group_rows.specs.Forwarded.{Forwarded, forwarding_of}
use Rattle.group_rows.specs.Leaves.{cancel_text}
use Rattle.group_rows.specs.ListRows.{list_row, show_all}
use Rattle.group_rows.specs.LiveRows.{register_row, restore, unregister_row}

-- the editor is asked what the start asks, under the editor's next number, while one is left
abbrev pub ask : List ℕ → ℕ → Row
ask body e = look (λ events. choose (has_number e events) (send (ToEditor e (with_id_text body (decimal (next_ask e events))))) nothing)

-- S9: the start is answered at once, and each editor that runs and agrees on all that it has open is asked; the others are owed it (LSP 3.17, the refresh requests of Language Features)
abbrev pub refresh_row : Settings → List Event → ℕ → ℕ → List ℕ → Row
refresh_row settings before g s body = send (ToServer s (ok_text (id_bytes body) (codes "null"))) ⨾ each (ask body) (filter (agrees_on_all settings s before) (running_in settings g before))

-- L3, behind E10, E16 and E17: behind a message of its own that goes on the editor is asked what the start owes it, in the order in which that came to be
abbrev pub debts_at : Settings → List Event → ℕ → List ℕ → Message → ℕ → Row
debts_at settings before e body m s = each (λ (d : Debt). ask d.body e) (debts_due settings s before e body m)

abbrev pub debts_row : Settings → List Event → ℕ → List ℕ → Message → Row
debts_row settings before e body m = on (home_of settings e before) nothing (λ g. on (start_of g before) nothing (debts_at settings before e body m))

-- S10: the folders of the group (LSP 3.17, WorkspaceFolders Request)
abbrev pub folders_row : Settings → List Event → ℕ → ℕ → List ℕ → Row
folders_row settings before g s body = on (slice_get (groups_of settings before) g) nothing (λ x. send (ToServer s (ok_text (id_bytes body) (folders_text x.key.folders))))

-- of these editors, the one whose request at the start is the last of those that are open, else the first
abbrev pub is_among : List ℕ → Forwarded → Bool
is_among es f = list_any (nat_eq f.editor) es

abbrev pub last_among : List ℕ → List Forwarded → Option ℕ
last_among es fs = option_map (λ (f : Forwarded). f.editor) (last_or None (filter (is_among es) fs))

abbrev pub else_first : Option ℕ → List ℕ → Option ℕ
else_first None es = first_in es
else_first (Some e) es = Some e

abbrev pub in_focus : List ℕ → List Forwarded → Option ℕ
in_focus es fs = else_first (last_among es fs) es

-- V3: the version that an editor knows a document by, in place of its start's
abbrev pub current_version : Settings → List Event → ℕ → ℕ → Renaming
current_version settings before s e u digits = version_now digits (stamp_at agreed_version settings s e before u) None

-- an edit that is to be applied (LSP 3.17, ApplyWorkspaceEdit Request) is asked with the editor's own versions; where one stands for no text that it has, the start is told that it wasn't applied
abbrev pub is_edit : List ℕ → Bool
is_edit method = bytes_eq (codes "workspace/applyEdit") method

abbrev pub edited : ℕ → List ℕ → ℕ → Option (List ℕ) → Row
edited s body e None = send (ToServer s (ok_text (id_bytes body) not_applied))
edited s body e (Some text) = send (ToEditor e text)

abbrev pub ask_edit : Settings → List Event → ℕ → List ℕ → ℕ → Row
ask_edit settings before s body e = look (λ events. choose (has_number e events) (edited s body e (asked_text (current_version settings before s e) body (decimal (next_ask e events)))) nothing)

-- S11: the editor in focus is asked; where none runs the start is refused
abbrev pub ask_in_focus : Settings → List Event → ℕ → List ℕ → List ℕ → ℕ → Row
ask_in_focus settings before s body method e = choose (is_edit method) (ask_edit settings before s body e) (ask body e)

abbrev pub focused_row : Settings → List Event → ℕ → ℕ → List ℕ → List ℕ → Row
focused_row settings before g s body method = on (in_focus (running_in settings g before) (forwarding_of settings s before).open_requests) (send (ToServer s (error_text (id_bytes body) request_failed))) (ask_in_focus settings before s body method)

-- S12: the lowest editor is asked; where none runs the request waits
abbrev pub lowest_row : Settings → List Event → ℕ → List ℕ → Row
lowest_row settings before g body = on (first_in (running_in settings g before)) nothing (ask body)

abbrev pub asking_row : Settings → List Event → ℕ → ℕ → List ℕ → List ℕ → Class → Row
asking_row settings before g s body method Refresh = refresh_row settings before g s body
asking_row settings before g s body method Folders = folders_row settings before g s body
asking_row settings before g s body method Focused = focused_row settings before g s body method
asking_row settings before g s body method Lowest = lowest_row settings before g body
asking_row settings before g s body method Register = register_row settings before g s body
asking_row settings before g s body method Unregister = unregister_row settings before g s body
asking_row settings before g s body method Create = create_row settings before g s body
asking_row settings before g s body method _ = nothing

-- L2: an editor begins to run: it is told of what is registered at its group's start, asked to take the tokens that live there, shown the last lists that fit it, and then asked what waited there
abbrev pub run_at : Settings → List Event → ℕ → ℕ → Row
run_at settings before e s = choose (is_ready (life_of s before).stage) (restore settings before e s ⨾ (offer_all settings before e s ⨾ (show_all settings before e s ⨾ each (λ (p : Parked). ask p.body e) (parked_of settings s before)))) nothing

abbrev pub run_row : Settings → List Event → ℕ → Row
run_row settings before e = on (home_of settings e before) nothing (λ g. on (start_of g before) nothing (run_at settings before e))

-- a request under the id of an open ask gives nothing
abbrev pub question_row : Settings → ℕ → List Event → List ℕ → Id → List ℕ → Row
question_row settings s before body id method = choose (is_taken (Some id) (asking_of settings s before)) nothing
    (on (group_of s before) nothing (λ g. asking_row settings before g s body method (class_of method Server false)))

-- S14: the editor that was asked, while it runs, is told that the answer is awaited no more (LSP 3.17, Cancellation Support)
abbrev pub cancel_ask : List Event → Ask → Row
cancel_ask before a = choose (is_running (desk_of a.editor before).phase) (send (ToEditor a.editor (cancel_text a.number))) nothing

abbrev pub cancelled_row : Settings → ℕ → List Event → Option Json → Row
cancelled_row settings s before params = on (find (is_under (option_and_then id_of (named_of (codes "id") params))) (asks_of settings s before)) nothing (cancel_ask before)

-- a notification without a row of its own goes to each editor that runs
abbrev pub broadcast : List ℕ → ℕ → Row
broadcast body e = send (ToEditor e body)

abbrev pub broadcast_row : Settings → List Event → ℕ → List ℕ → Row
broadcast_row settings before s body = on (group_of s before) nothing (λ g. each (broadcast body) (running_in settings g before))

abbrev pub notified_row : Settings → ℕ → List Event → List ℕ → Option Json → Class → Row
notified_row settings s before body params Cancel = cancelled_row settings s before params
notified_row settings s before body params Progress = progress_row settings s before body params
notified_row settings s before body params Diagnostics = list_row settings s before body
notified_row settings s before body params Broadcast = broadcast_row settings before s body
notified_row settings s before body params _ = nothing

-- E19: a response under the number of an open ask goes to the start under the start's own id; one under another number may say whether the editor takes a token
abbrev pub hand_back : ℕ → List ℕ → Ask → Row
hand_back s body a = send (ToServer s (with_id_text body a.bytes))

abbrev pub response_at : Settings → List Event → ℕ → List ℕ → Message → ℕ → Row
response_at settings before e body m s = choose (is_ready (life_of s before).stage) (on (find (is_seated e (answered_id m)) (asks_of settings s before)) (taking_row settings before e m s) (hand_back s body)) nothing

abbrev pub response_row : Settings → List Event → ℕ → List ℕ → Message → Row
response_row settings before e body m = on (home_of settings e before) nothing (λ g. on (start_of g before) nothing (response_at settings before e body m))
