-- E6: an editor stops the multiplexer; and J1 behind that.
use Rattle.std.specs.Prelude.{ℕ, Bool, true, false, List, [], codes, filter, if◌then◌else◌}
use Rattle.std.specs.List.{range_with_len}
use Rattle.mux_history.specs.declared.cause.Cause.TheVariants.{FromEditor}
use Rattle.mux_history.specs.declared.out.Out.TheVariants.{ToEditor, CloseEditor}
use Rattle.rpc_message.specs.Message.{id_bytes}
use Rattle.rpc_message.specs.Texts.{error_text, ok_text, request_failed}
use Rattle.event_model.specs.Event.{Event, took}
use Rattle.event_model.specs.Phases.{desk_of, editors_of, is_there, is_waiting}
use Rattle.event_model.specs.Row.{Row, nothing, send, choose, look, each, on, ◌⨾◌}
use Rattle.event_model.specs.Settings.{Settings}
use Rattle.event_model.specs.Spawns.{start_of}
use Rattle.group_words.specs.Houses.{groups_of, home_of, stops}
use Rattle.group_words.specs.Past.{past}
use Rattle.group_words.specs.Placing.{all_from, is_live}
use Rattle.group_words.specs.Rows.{end_group}
use Rattle.group_rows.specs.Forwarded.{Forwarded, forwarding_of, is_of}
use Rattle.group_rows.specs.Waiting.{refuse_held}

-- the editors that are there, rising
abbrev pub there_in : List Event → List ℕ
there_in events = filter (λ e. is_there (desk_of e events).phase) (range_with_len 0 (editors_of events))

-- its `initialize` is refused, where that waits
abbrev pub refuse_initialize : ℕ → Row
refuse_initialize e = look (λ events. choose (is_waiting (desk_of e events).phase) (send (ToEditor e (error_text (id_bytes (desk_of e events).initialize) request_failed))) nothing)

-- and each of its requests that a start has to answer, in the order in which they came
abbrev pub lose_request : Forwarded → Row
lose_request f = send (ToEditor f.editor (error_text f.id request_failed))

abbrev pub lose_requests : Settings → List Event → ℕ → Row
lose_requests settings before e = on (home_of settings e before) nothing (λ g. on (start_of g before) nothing (λ s. each lose_request (filter (is_of e) (forwarding_of settings s before).open_requests)))

-- and each that waits until a start is ready
abbrev pub lose_waiting : Settings → List Event → ℕ → Row
lose_waiting settings before e = on (home_of settings e before) nothing (λ g. refuse_held settings g e)

abbrev pub refuse_open : Settings → List Event → ℕ → Row
refuse_open settings before e = refuse_initialize e ⨾ (lose_requests settings before e ⨾ lose_waiting settings before e)

abbrev pub close_each : List ℕ → Row
close_each es = each (λ e. send (CloseEditor e)) es

-- E6: it is answered; what else is open is refused, editor by editor; each link is to be ended; and the groups that live end, rising
abbrev pub stop_row : Settings → List Event → ℕ → List ℕ → Row
stop_row settings before e body = send (ToEditor e (ok_text (id_bytes body) (codes "null")))
    ⨾ (each (refuse_open settings before) (there_in before) ⨾ (close_each (there_in before) ⨾ each end_group (all_from 0 is_live (groups_of settings before))))

-- whether the multiplexer was stopped
abbrev pub stopped_next : List Event → Bool → Event → Bool
stopped_next before stopped (took (FromEditor e body) m) = if stops before e m then true else stopped
stopped_next before stopped other = stopped

abbrev pub stopped : List Event → Bool
stopped events = past stopped_next [] false events

-- J1: behind that the link of an editor that joins is to be ended
abbrev pub joined_row : List Event → ℕ → Row
joined_row before e = choose (stopped before) (send (CloseEditor e)) nothing
