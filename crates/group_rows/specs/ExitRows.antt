-- X1 to X3: the program of a start ends, or couldn't be run, while the start's group lives: what the group's editors are told, and what becomes of the group (LSP 3.17, Lifecycle Messages).
use Rattle.std.specs.Prelude.{ℕ, ◌+◌, Bool, false, not, ◌&&◌, List, ◌++◌, codes, filter, nat_eq, nat_le, bytes_eq, fold, if◌then◌else◌}
use Rattle.std.specs.Prelude.{Option, Some, None, slice_get}
use Rattle.std.specs.List.{list_any}
use Rattle.std.specs.Option.{option_map_or}
use Rattle.json.specs.Print.{quoted}
use Rattle.rpc_message.specs.Message.{notification}
use Rattle.rpc_message.specs.Texts.{notification_text}
use Rattle.mux_history.specs.declared.out.Out.TheVariants.{ToEditor}
use Rattle.event_model.specs.Event.{Event, did}
use Rattle.event_model.specs.Phases.{needs_server}
use Rattle.event_model.specs.Row.{Row, nothing, send, choose, each, on, ◌⨾◌}
use Rattle.event_model.specs.Settings.{Settings}
use Rattle.event_model.specs.Spawns.{group_of}
use Rattle.event_model.specs.Stages.{is_ready, life_of}
use Rattle.diagnostics_route.specs.declared.last_list.LastList.{LastList}
use Rattle.diagnostics_route.specs.Published.{published}
use Rattle.group_words.specs.declared.kept.Kept.{Kept}
use Rattle.group_words.specs.Houses.{groups_of, has_editor, home_of}
use Rattle.group_words.specs.Rows.{spawn}
use Rattle.group_rows.specs.Asks.{Ask, asks_of, is_with, members_in, running_in}
use Rattle.group_rows.specs.Created.{Created, Taking, Token, created_of, created_text, is_at}
use Rattle.group_rows.specs.Forwarded.{forwarding_of, is_of}
use Rattle.group_rows.specs.Leaves.{cancel_text}
use Rattle.group_rows.specs.Lists.{is_publishing, lists_of}
use Rattle.group_rows.specs.Live.{live_of}
use Rattle.group_rows.specs.LiveRows.{unregister_any}
use Rattle.group_rows.specs.StopRows.{lose_request, refuse_initialize}
use Rattle.group_rows.specs.Waiting.{part}

-- X1: each of an editor's requests that the start has to answer is refused, by its number
abbrev pub lose_sent : Settings → List Event → ℕ → ℕ → Row
lose_sent settings before s e = each lose_request (filter (is_of e) (forwarding_of settings s before).open_requests)

-- X2: a token that the editor accepted, and of which it was told a `begin` and no `end`, ends there (LSP 3.17, Work Done Progress)
abbrev pub end_params : List ℕ → List ℕ
end_params token = codes "{\"token\":" ++ token ++ codes ",\"value\":{\"kind\":\"end\"}}"

abbrev pub end_text : List ℕ → List ℕ
end_text token = notification_text (codes "$/progress") (Some (end_params token))

abbrev pub begun_at : ℕ → ℕ → Taking → Bool
begun_at e k c = c.begun && (c.accepted && (is_at e c && nat_eq c.token k))

abbrev pub has_begun : ℕ → ℕ → Created → Bool
has_begun e k x = list_any (begun_at e k) x.takings

abbrev pub end_token : ℕ → ℕ → Created → Token → Row
end_token s e x t = choose (has_begun e t.number x) (send (ToEditor e (end_text (created_text s t.number)))) nothing

-- X2: what the editor was asked and didn't answer is cancelled (LSP 3.17, Cancellation Support): first whether it takes a token, then the start's own requests
abbrev pub unanswered_at : ℕ → Taking → Bool
unanswered_at e c = not c.accepted && is_at e c

abbrev pub cancel_take : ℕ → Taking → Row
cancel_take e c = send (ToEditor e (cancel_text c.number))

abbrev pub cancel_ask : ℕ → Ask → Row
cancel_ask e a = send (ToEditor e (cancel_text a.number))

-- X2: the last list of a document that the editor was sent isn't empty
abbrev pub full_by : Option LastList → List ℕ → Bool → Bool
full_by None u full = full
full_by (Some l) u full = if bytes_eq l.uri u then not l.empty else full

abbrev pub full_behind : ℕ → List ℕ → Bool → Event → Bool
full_behind e u full (did (ToEditor n body) (notification method params)) = if nat_eq n e && is_publishing method then full_by (published 0 body) u full else full
full_behind e u full other = full

abbrev pub is_full : ℕ → List ℕ → List Event → Bool
is_full e u events = fold (full_behind e u) false events

-- X2: it is sent an empty one (LSP 3.17, Publish Diagnostics)
abbrev pub empty_params : List ℕ → List ℕ
empty_params u = codes "{\"uri\":" ++ quoted u ++ codes ",\"diagnostics\":[]}"

abbrev pub empty_text : List ℕ → List ℕ
empty_text u = notification_text (codes "textDocument/publishDiagnostics") (Some (empty_params u))

abbrev pub empty_list : List Event → ℕ → LastList → Row
empty_list before e l = choose (is_full e l.uri before) (send (ToEditor e (empty_text l.uri))) nothing

-- X2, for an editor that runs; a start that isn't ready asked and told nothing
abbrev pub lose_start : Settings → List Event → ℕ → ℕ → Row
lose_start settings before s e =
    each (end_token s e (created_of settings s before)) (created_of settings s before).tokens
    ⨾ (each (cancel_take e) (filter (unanswered_at e) (created_of settings s before).takings)
    ⨾ (each (cancel_ask e) (filter (is_with e) (asks_of settings s before))
    ⨾ (unregister_any (live_of settings s before) e ⨾ each (empty_list before e) (lists_of s before))))

-- X3: an editor whose `initialize` waits is refused that, each is refused its requests that wait, and the link of each is to be ended
abbrev pub turn_out : Settings → ℕ → ℕ → Row
turn_out settings g e = refuse_initialize e ⨾ part settings g e

-- X3: where an editor needs the server, and the group's starts ended no more often than they may, there is a new start, else the group ends
abbrev pub starts_again : Settings → List Event → ℕ → Kept → Bool
starts_again settings before g x = has_editor needs_server g (λ e. home_of settings e before) before && nat_le (x.exits + 1) settings.limits.restarts

abbrev pub exit_in : Settings → List Event → ℕ → ℕ → Kept → Row
exit_in settings before s g x = choose x.live
    (each (lose_sent settings before s) (members_in settings g before)
    ⨾ (choose (is_ready (life_of s before).stage) (each (lose_start settings before s) (running_in settings g before)) nothing
    ⨾ choose (starts_again settings before g x) (spawn g) (each (turn_out settings g) (members_in settings g before)))) nothing

abbrev pub lost_row : Settings → List Event → ℕ → Row
lost_row settings before s = on (group_of s before) nothing (λ g. on (slice_get (groups_of settings before) g) nothing (exit_in settings before s g))

-- the group of the start lives, and goes on with a new one; or it ends
abbrev pub comes_again : Settings → List Event → ℕ → Kept → Bool
comes_again settings before g x = x.live && starts_again settings before g x

abbrev pub comes_to_end : Settings → List Event → ℕ → Kept → Bool
comes_to_end settings before g x = x.live && not (starts_again settings before g x)

abbrev pub of_group : Settings → List Event → ℕ → (ℕ → Kept → Bool) → Bool
of_group settings before s test = option_map_or (λ g. option_map_or (test g) (slice_get (groups_of settings before) g) false) (group_of s before) false

abbrev pub begins_again : Settings → List Event → ℕ → Bool
begins_again settings before s = of_group settings before s (comes_again settings before)

abbrev pub ends_group : Settings → List Event → ℕ → Bool
ends_group settings before s = of_group settings before s (comes_to_end settings before)
