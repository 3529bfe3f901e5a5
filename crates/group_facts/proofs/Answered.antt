-- What an editor gets of an answer is a response under its own id.
use Rattle.std.proofs.Common.{◌≡◌, ℕ, true, List, refl, inl, inr}
use Rattle.std.specs.Prelude.{Some}
use Rattle.rpc_message.specs.Message.{Message, request, notification, result, error, not_json, not_message, Id, message_of}
use Rattle.rpc_message.specs.ValueTexts.{IsIdText}
use Rattle.rpc_message.proofs.Fixed.{id_as_response}
use Rattle.group_rows.specs.response_route.specs.Answers.{GivesFlat, Responds, answer_text}
use Rattle.group_rows.specs.response_route.specs.Edits.{Renaming}
use Rattle.group_rows.specs.response_route.proofs.Responding.{error_responds, result_responds}
use Rattle.mux_facts.specs.Allowed.{is_response}
use Rattle.mux_facts.proofs.Bodies.{IsResponseTo, is_error, is_result}

response_to : (id : Id) (m : Message) → Responds (Some id) m → IsResponseTo id m
response_to id m (inl p) = is_result p.0 p.1
response_to id m (inr p) = is_error p.0 p.1

pub answer_says : (r : Renaming) → GivesFlat r → (body w : List ℕ) (id : Id) → is_response (message_of body) ≡ true → IsIdText id w → IsResponseTo id (message_of (answer_text r body w))
answer_says r gives body w id h text = go (message_of body) refl h
  where
    go : (m : Message) → message_of body ≡ m → is_response m ≡ true → IsResponseTo id (message_of (answer_text r body w))
    go (result k v) e h = response_to id (message_of (answer_text r body w)) (result_responds body w k (Some id) v e (id_as_response id w text) r gives)
    go (error k x) e h = response_to id (message_of (answer_text r body w)) (error_responds r body w k (Some id) x e (id_as_response id w text))
    go (request k method params) e h = absurd (cc)
    go (notification method params) e h = absurd (cc)
    go not_json e h = absurd (cc)
    go not_message e h = absurd (cc)
