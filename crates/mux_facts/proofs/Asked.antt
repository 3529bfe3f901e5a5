-- What is open, and who got a result to `initialize`, behind a message.
use Rattle.std.proofs.Common.{◌≡◌, Bool, true, false, List, [], ◌∷◌, if◌then◌else◌}
use Rattle.rpc_message.specs.Message.{Message, request, notification, result, error, not_json, not_message, Id}
use Rattle.event_model.specs.Phases.{Desk}
use Rattle.event_model.specs.Requests.{is_open, with_request}
use Rattle.mux_facts.proofs.Why.{is_early}
use Rattle.mux_facts.proofs.Words.{open_more}

pub hears_open : (b : Bool) (m : Message) (ids : List Id) (i : Id) → is_open i ids ≡ true → is_open i (if b then with_request m ids else ids) ≡ true
hears_open true (request id method params) ids i h = open_more i ids (id ∷ []) h
hears_open true (notification method params) ids i h = h
hears_open true (result id r) ids i h = h
hears_open true (error id e) ids i h = h
hears_open true not_json ids i h = h
hears_open true not_message ids i h = h
hears_open false m ids i h = h

pub either_late : (b : Bool) (x y : Desk) → is_early x.phase ≡ false → is_early y.phase ≡ false → is_early (if b then x else y).phase ≡ false
either_late true x y h g = h
either_late false x y h g = g
