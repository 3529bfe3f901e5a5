-- What editors are told of registrations, under any number.
use Rattle.std.specs.Prelude.{◌≡◌, ℕ, ◌<◌, ◌^◌, false, List, decimal}
use Rattle.std.specs.Prelude.{Option}
use Rattle.json_text.specs.Json.{Json}
use Rattle.rpc_message.specs.Message.{integer, message_of, request}
use Rattle.group_facts.specs.group_rows.specs.Asks.{is_patient}
use Rattle.group_facts.specs.group_rows.specs.Created.{is_creating}

-- under each number of 64 bits a request, of one method, by which nothing that waits goes on, and which offers no token
pub record IsCall (text : ℕ → List ℕ) : Type 0 where
  pub method : List ℕ
  pub impatient : is_patient method ≡ false
  pub uncreating : is_creating method ≡ false
  pub says : (n : ℕ) → n < 2 ^ 64 → (params : Option Json) × (message_of (text n) ≡ request (integer (decimal n)) method params)
