-- E7 as a row.
use Rattle.std.specs.Prelude.{ℕ, Bool, true, false, List, [], ◌∷◌, ◌++◌, map, fold, codes, nat_eq, if◌then◌else◌}
use Rattle.std.specs.Prelude.{Option, Some, None}
use Rattle.std.specs.Option.{option_map}
use Rattle.json.specs.Print.{quoted}
use Rattle.json_text.specs.declared.kind.Word.TheVariants.{True}
use Rattle.json_text.specs.Json.{Json, word}
use Rattle.json_text.specs.Tree.{tree_of}
use Rattle.mux_history.specs.declared.cause.Cause.{Cause}
use Rattle.mux_history.specs.declared.cause.Cause.TheVariants.{FromEditor, FromServer}
use Rattle.mux_history.specs.declared.out.Out.{Out}
use Rattle.mux_history.specs.declared.out.Out.TheVariants.{ToEditor, ToServer, CloseEditor, EndServer, Spawn}
use Rattle.event_model.specs.rpc_message.specs.Message.{message_of, id_bytes, result_bytes}
use Rattle.event_model.specs.rpc_message.specs.Texts.{ok_text, error_text, initialize_text, request_text, request_failed}
use Rattle.capability_meet.specs.Parts.{bracketed}
use Rattle.event_model.specs.Members.{named_of}
use Rattle.group_words.specs.declared.kept.Kept.{Kept}
use Rattle.capability_meet.specs.Shown.{shown_text}
use Rattle.event_model.specs.declared.stage.Stage.{Stage}
use Rattle.event_model.specs.declared.stage.Stage.TheVariants.{Spawning, Initializing, Ready}
use Rattle.event_model.specs.Event.{Event, took, behind, with_cause}
use Rattle.event_model.specs.Phases.{desk_of}
use Rattle.event_model.specs.Requests.{next_number}
use Rattle.event_model.specs.Row.{Row, nothing, send, choose, look, outs, on, ◌⨾◌}
use Rattle.event_model.specs.Settings.{Settings}
use Rattle.event_model.specs.Spawns.{starts_of, start_of}
use Rattle.event_model.specs.Stages.{life_of, is_first_result, is_ready}
use Rattle.group_words.specs.declared.placed.Placed.{Placed}
use Rattle.group_words.specs.declared.placed.Placed.TheVariants.{Joins, New, Evicts, TooMany}
use Rattle.group_words.specs.Houses.{groups_of, places, placed_for, given_or}

-- the body with the result that start s gave
abbrev pub result_behind : ℕ → Option (List ℕ) → Event → Option (List ℕ)
result_behind s None (took (FromServer n body) m) = if nat_eq n s then (if is_first_result m then Some body else None) else None
result_behind s given other = given

abbrev pub result_of : ℕ → List Event → Option (List ℕ)
result_of s events = fold (result_behind s) None events

-- an editor is shown it
abbrev pub shown_of : List ℕ → List ℕ
shown_of result = given_or (option_map (shown_text result) (tree_of result)) []

abbrev pub answer_with : ℕ → List ℕ → List ℕ → Row
answer_with e body given = send (ToEditor e (ok_text (id_bytes body) (shown_of (result_bytes given))))

abbrev pub welcomed : ℕ → List ℕ → List Event → ℕ → Row
welcomed e body before s = choose (is_ready (life_of s before).stage) (on (result_of s before) nothing (answer_with e body)) nothing

-- end(g)
abbrev pub end_start : ℕ → Stage → Row
end_start s Ready = look (λ events. send (ToServer s (request_text (next_number s events) (codes "shutdown") None)))
end_start s Spawning = send (EndServer s)
end_start s Initializing = send (EndServer s)
end_start s other = nothing

abbrev pub end_group : ℕ → Row
end_group g = look (λ events. on (start_of g events) nothing (λ s. end_start s (life_of s events).stage))

abbrev pub spawn : ℕ → Row
spawn g = look (λ events. send (Spawn (starts_of events) g))

-- E7
abbrev pub placed_row : ℕ → List ℕ → List Event → Placed → Row
placed_row e body before (Joins g) = on (start_of g before) nothing (welcomed e body before)
placed_row e body before (New g) = spawn g
placed_row e body before (Evicts a g) = end_group a ⨾ spawn g
placed_row e body before TooMany = send (ToEditor e (error_text (id_bytes body) request_failed)) ⨾ send (CloseEditor e)

abbrev pub initialize_row : Settings → List Event → ℕ → List ℕ → Row
initialize_row settings before e body = placed_row e body before (placed_for settings before e body (groups_of settings before))

abbrev pub row_of : Settings → List Event → Cause → Row
row_of settings before (FromEditor e body) = choose (places (desk_of e before).phase (message_of body)) (initialize_row settings before e body) nothing
row_of settings before other = nothing

abbrev pub outs_of : Settings → List Event → Cause → List Out
outs_of settings before cause = outs (row_of settings before cause) (with_cause before cause)

abbrev pub outs_from : Settings → List Event → List Cause → List (List Out)
outs_from settings events [] = []
outs_from settings events (cause ∷ causes) = let xs = outs_of settings events cause in xs ∷ outs_from settings (behind (with_cause events cause) xs) causes

abbrev pub events_from : Settings → List Event → List Cause → List Event
events_from settings events [] = events
events_from settings events (cause ∷ causes) = events_from settings (behind (with_cause events cause) (outs_of settings events cause)) causes

-- the daemon's initialize to the starts of a group
abbrev pub root_of : List (List ℕ × List ℕ) → List ℕ
root_of [] = codes "null"
root_of (folder ∷ folders) = quoted folder.0

abbrev pub folder_text : List ℕ × List ℕ → List ℕ
folder_text folder = codes "{\"uri\":" ++ quoted folder.0 ++ codes ",\"name\":" ++ quoted folder.1 ++ codes "}"

abbrev pub folders_text : List (List ℕ × List ℕ) → List ℕ
folders_text [] = codes "null"
folders_text folders = bracketed (map folder_text folders)

abbrev pub is_true : Option Json → Bool
is_true (Some (word s True)) = true
is_true _ = false

abbrev pub wants_folders : List ℕ → Bool
wants_folders declared = is_true (named_of (codes "workspaceFolders") (named_of (codes "workspace") (tree_of declared)))

abbrev pub initialize_of : Kept → List ℕ
initialize_of group = initialize_text (root_of group.key.folders) group.key.options group.declared (if wants_folders group.declared then Some (folders_text group.key.folders) else None)
