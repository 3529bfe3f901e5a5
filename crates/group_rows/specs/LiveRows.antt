-- S6, S7 and the first part of L2: what editors are told of registrations (LSP 3.17, Register Capability and Unregister Capability).
use Rattle.std.specs.Prelude.{ℕ, Bool, true, false, List, [], ◌∷◌, codes}
use Rattle.mux_history.specs.declared.out.Out.TheVariants.{ToEditor, ToServer}
use Rattle.rpc_message.specs.Message.{id_bytes}
use Rattle.rpc_message.specs.Texts.{error_text, invalid_params, ok_text}
use Rattle.event_model.specs.Event.{Event}
use Rattle.event_model.specs.Row.{Row, nothing, send, choose, look, each, on, ◌⨾◌}
use Rattle.event_model.specs.Settings.{Settings}
use Rattle.registrations.specs.declared.registration.Registration.{Registration}
use Rattle.registrations.specs.Items.{again, registered}
use Rattle.group_rows.specs.Asks.{has_number, next_ask, running_in}
use Rattle.group_rows.specs.Live.{live_of, register_text, taken_back, unregister_text}

-- the editor is asked this, under its next number, while one is left
abbrev pub call : (ℕ → List ℕ) → ℕ → Row
call text e = look (λ events. choose (has_number e events) (send (ToEditor e (text (next_ask e events)))) nothing)

abbrev pub has_some : List Registration → Bool
has_some [] = false
has_some (r ∷ rs) = true

-- these are taken back, and those registered, where there are any
abbrev pub unregister_any : List Registration → ℕ → Row
unregister_any rs e = choose (has_some rs) (call (unregister_text rs) e) nothing

abbrev pub register_any : List Registration → ℕ → Row
register_any rs e = choose (has_some rs) (call (register_text rs) e) nothing

-- S6: each editor that runs is told of what comes again, that it is taken back, and then of what is registered
abbrev pub registering : List Registration → List Registration → ℕ → Row
registering gone items e = unregister_any gone e ⨾ call (register_text items) e

abbrev pub accept : ℕ → List ℕ → Row
accept s body = send (ToServer s (ok_text (id_bytes body) (codes "null")))

abbrev pub decline : ℕ → List ℕ → Row
decline s body = send (ToServer s (error_text (id_bytes body) invalid_params))

abbrev pub register_row : Settings → List Event → ℕ → ℕ → List ℕ → Row
register_row settings before g s body = on (registered body) (decline s body)
    (λ items. accept s body ⨾ each (registering (again items (live_of settings s before)) items) (running_in settings g before))

-- S7: each is told of what is taken back, in the order of registration
abbrev pub unregister_row : Settings → List Event → ℕ → ℕ → List ℕ → Row
unregister_row settings before g s body = on (taken_back body (live_of settings s before)) (decline s body)
    (λ items. accept s body ⨾ each (call (unregister_text (again items (live_of settings s before)))) (running_in settings g before))

-- L2: an editor that begins to run is told of all that is registered
abbrev pub restore : Settings → List Event → ℕ → ℕ → Row
restore settings before e s = register_any (live_of settings s before) e
