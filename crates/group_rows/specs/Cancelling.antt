-- E11: an editor's `$/cancelRequest` goes on under the number of the request that it names (LSP 3.17, Cancellation Support).
use Rattle.std.specs.Prelude.{ℕ, Bool, false, ◌&&◌, List, [], codes, find, bytes_eq, decimal, if◌then◌else◌}
use Rattle.std.specs.Prelude.{Option, Some, None}
use Rattle.std.specs.Option.{option_and_then, option_map_or}
use Rattle.json_text.specs.Json.{Json}
use Rattle.json_text.specs.Replace.{Edit, replace}
use Rattle.response_route.specs.json_nodes.specs.Puts.{put_edits}
use Rattle.mux_history.specs.declared.out.Out.TheVariants.{ToServer}
use Rattle.rpc_message.specs.Message.{Id, same_id}
use Rattle.event_model.specs.Event.{Event}
use Rattle.event_model.specs.Members.{params_of}
use Rattle.event_model.specs.Row.{Row, nothing, send, choose, on}
use Rattle.event_model.specs.Settings.{Settings}
use Rattle.event_model.specs.Spawns.{start_of}
use Rattle.event_model.specs.Stages.{life_of, is_ready}
use Rattle.group_words.specs.Houses.{home_of}
use Rattle.group_rows.specs.Forwarded.{Forwarded, forwarding_of, is_of}
use Rattle.group_rows.specs.Waiting.{id_meant, named_id}

-- a request of e under this id
abbrev pub is_called : ℕ → Id → Forwarded → Bool
is_called e id f = is_of e f && option_map_or (same_id id) (id_meant f.id) false

-- a request that was cancelled takes no second cancel
abbrev pub uncancelled_number : Forwarded → Option ℕ
uncancelled_number f = if f.cancelled then None else Some f.number

-- the number of the open request of e that these params name
abbrev pub number_called : ℕ → Id → List Forwarded → Option ℕ
number_called e id fs = option_and_then uncancelled_number (find (is_called e id) fs)

abbrev pub number_named : ℕ → Option Json → List Forwarded → Option ℕ
number_named e params fs = option_and_then (λ id. number_called e id fs) (named_id params)

-- the body with the number in place of each `id` of its params, and all else as it came
abbrev pub new_id : List ℕ → List ℕ → Option (List ℕ)
new_id digits name = if bytes_eq (codes "id") name then Some digits else None

abbrev pub id_puts : List ℕ → Option Json → List Edit
id_puts digits (Some params) = put_edits (new_id digits) params
id_puts digits None = []

abbrev pub numbered_text : ℕ → List ℕ → List ℕ
numbered_text n body = replace body (id_puts (decimal n) (params_of body))

-- it goes to the start of the editor's group, where the start is ready, without a sync
abbrev pub cancelling_at : Settings → List Event → ℕ → List ℕ → Option Json → ℕ → Row
cancelling_at settings before e body params s = choose (is_ready (life_of s before).stage)
    (on (number_named e params (forwarding_of settings s before).open_requests) nothing (λ n. send (ToServer s (numbered_text n body)))) nothing

abbrev pub cancelling_row : Settings → List Event → ℕ → List ℕ → Option Json → Row
cancelling_row settings before e body params = on (home_of settings e before) nothing (λ g. on (start_of g before) nothing (λ s. cancelling_at settings before e body params s))
