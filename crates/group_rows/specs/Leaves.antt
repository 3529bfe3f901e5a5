-- L1: what a start is sent where an editor of its group leaves.
use Rattle.std.specs.Prelude.{ℕ, not, List, ◌++◌, filter, flat_map, codes, decimal, nat_eq}
use Rattle.std.specs.Prelude.{Option, Some}
use Rattle.mux_history.specs.declared.out.Out.TheVariants.{ToServer}
use Rattle.response_route.specs.document_model.specs.Helds.{HeldText}
use Rattle.response_route.specs.document_model.specs.Opens.{Open, holder_beside}
use Rattle.response_route.specs.document_model.specs.Rows.{sent_close}
use Rattle.rpc_message.specs.Texts.{error_text, notification_text, request_failed}
use Rattle.event_model.specs.Event.{Event}
use Rattle.event_model.specs.Row.{Row, nothing, send, choose, each, on, ◌⨾◌}
use Rattle.event_model.specs.Settings.{Settings}
use Rattle.event_model.specs.Spawns.{start_of}
use Rattle.event_model.specs.Stages.{life_of, is_ready}
use Rattle.registrations.specs.mux_model.specs.Documents.{held_at}
use Rattle.registrations.specs.mux_model.specs.Rows.{to_start}
use Rattle.group_words.specs.Houses.{home_of}
use Rattle.group_rows.specs.Asks.{Ask, asks_of, is_with}
use Rattle.group_rows.specs.Forwarded.{Forwarded, forwarding_of, numbers_of}
use Rattle.group_rows.specs.Texts.{texts_of}

-- a request is cancelled by its number (LSP 3.17, Cancellation Support)
abbrev pub cancel_params : ℕ → List ℕ
cancel_params n = codes "{\"id\":" ++ decimal n ++ codes "}"

abbrev pub cancel_text : ℕ → List ℕ
cancel_text n = notification_text (codes "$/cancelRequest") (Some (cancel_params n))

-- the numbers, rising, of an editor's open requests that it didn't cancel
abbrev pub uncancelled_of : ℕ → List Forwarded → List ℕ
uncancelled_of e fs = numbers_of e (filter (λ f. not f.cancelled) fs)

abbrev pub cancel : ℕ → ℕ → Row
cancel s n = send (ToServer s (cancel_text n))

-- these are cancelled at a start that is ready
abbrev pub cancels : Settings → List Event → ℕ → ℕ → Row
cancels settings before s e = choose (is_ready (life_of s before).stage) (each (cancel s) (uncancelled_of e (forwarding_of settings s before).open_requests)) nothing

-- each request of the start that waits for the editor's answer is refused
abbrev pub refuse : ℕ → Ask → Row
refuse s a = send (ToServer s (error_text a.bytes request_failed))

abbrev pub refusals : Settings → List Event → ℕ → ℕ → Row
refusals settings before s e = choose (is_ready (life_of s before).stage) (each (refuse s) (filter (is_with e) (asks_of settings s before))) nothing

-- it closes each of its documents, in the order of opening
abbrev pub left : ℕ → ℕ → List Open → Option HeldText → Open → List (List ℕ)
left versions e all held o = sent_close versions o.uri (holder_beside e o.uri all) held

abbrev pub leave_bodies : ℕ → (List ℕ → Option HeldText) → ℕ → List Open → List Open → List (List ℕ)
leave_bodies versions held e all os = flat_map (λ (o : Open). left versions e all (held o.uri) o) (filter (λ (o : Open). nat_eq o.editor e) os)

-- and then the editor's documents are closed there
abbrev pub closings : Settings → List Event → ℕ → ℕ → ℕ → Row
closings settings before g s e = choose (is_ready (life_of s before).stage)
    (to_start s (leave_bodies settings.limits.versions (λ u. held_at s u before) e (texts_of settings g before).opens (texts_of settings g before).opens)) nothing

abbrev pub cancels_row : Settings → List Event → ℕ → Row
cancels_row settings before e = on (home_of settings e before) nothing (λ g. on (start_of g before) nothing (λ s. cancels settings before s e ⨾ refusals settings before s e))

abbrev pub leave_row : Settings → List Event → ℕ → Row
leave_row settings before e = on (home_of settings e before) nothing (λ g. on (start_of g before) nothing (λ s. cancels settings before s e ⨾ (refusals settings before s e ⨾ closings settings before g s e)))
