-- Rows of the routing table that speak of no group.
use Rattle.std.specs.Prelude.{ℕ, zero, suc, List, [], ◌∷◌, ◌++◌, codes}
use Rattle.mux_history.specs.declared.out.Out.TheVariants.{ToEditor, ToServer}
use Rattle.event_model.specs.Messages.{Message, not_json}
use Rattle.event_model.specs.Messages.{error_text, Code, parse_error, invalid_request}
use Rattle.event_model.specs.declared.phase.Phase.{Phase}
use Rattle.event_model.specs.Phases.{is_there}
use Rattle.event_model.specs.Row.{Row, nothing, send, choose, each}

-- bodies to a start, one behind the other
abbrev pub to_start : ℕ → List (List ℕ) → Row
to_start s bodies = each (λ body. send (ToServer s body)) bodies

-- E2: a body that is no message is answered under a null id (JSON-RPC 2.0, section 5)
abbrev pub malformed_code : Message → Code
malformed_code not_json = parse_error
malformed_code other = invalid_request

abbrev pub malformed_text : Message → List ℕ
malformed_text m = error_text (codes "null") (malformed_code m)

abbrev pub malformed_row : ℕ → Message → Phase → Row
malformed_row e m phase = choose (is_there phase) (send (ToEditor e (malformed_text m))) nothing

-- the numbers below this one, rising
abbrev pub below : ℕ → List ℕ
below zero = []
below (suc n) = below n ++ n ∷ []
