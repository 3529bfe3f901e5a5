-- The result null under the id of a request.
use Rattle.std.proofs.Common.{◌≡◌, ℕ, List, codes, refl, Option, Some, arith}
use Rattle.json_text.specs.declared.kind.Word.TheVariants.{Null}
use Rattle.json_text.specs.Json.{Json, word}
use Rattle.rpc_message.specs.Message.{request, result, Id, id_bytes, message_of}
use Rattle.rpc_message.specs.Texts.{ok_text}
use Rattle.rpc_message.specs.ValueTexts.{IsValueText}
use Rattle.rpc_message.proofs.Fixed.{id_as_response, ok_law}
use Rattle.rpc_message.proofs.Ids.{request_id_bytes}

pub null_value : IsValueText (word (record { from = 0; to = 0 }) Null) (codes "null")
null_value = record { tree = word (record { from = 0; to = 4 }) Null; stands = (refl, refl); same = refl }

pub null_said : (body : List ℕ) (id : Id) (method : List ℕ) (params : Option Json) → message_of body ≡ request id method params
    → message_of (ok_text (id_bytes body) (codes "null")) ≡ result (Some id) (word (record { from = 0; to = 0 }) Null)
null_said body id method params says = ok_law (Some id) (word (record { from = 0; to = 0 }) Null) (id_bytes body) (codes "null") (id_as_response id (id_bytes body) (request_id_bytes body id method params says)) null_value (omega arith)
