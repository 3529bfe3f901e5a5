-- Bodies read by the checker.
use Rattle.std.proofs.Common.{◌≡◌, refl}
use Rattle.std.specs.Prelude.{Some, codes}
use Rattle.json_text.specs.Computes.{computes}
use Rattle.json_text.specs.Bare.{nowhere}
use Rattle.json_text.specs.Named.{named}
use Rattle.json_text.specs.Json.{number, object, no_members, member}
use Rattle.rpc_message.specs.Message.{message_of, no_name_twice, is_integer, request, integer, result, not_message}
use Rattle.rpc_message.specs.Texts.{ok_text, with_id_text}

hover : message_of (codes "{\"jsonrpc\":\"2.0\", \"id\":7, \"method\":\"textDocument/hover\", \"params\":{\"x\":1.50 }}")
    ≡ request (integer (codes "7")) (codes "textDocument/hover") (Some (object nowhere (member nowhere (codes "x") (number nowhere (codes "1.50")) no_members)))
unfolding computes message_of named no_name_twice is_integer
hover = refl

hover_sent : with_id_text (codes "{\"jsonrpc\":\"2.0\", \"id\":7, \"method\":\"textDocument/hover\", \"params\":{\"x\":1.50 }}") (codes "2")
    ≡ codes "{\"jsonrpc\":\"2.0\", \"id\":2, \"method\":\"textDocument/hover\", \"params\":{\"x\":1.50 }}"
unfolding computes message_of named no_name_twice is_integer with_id_text
hover_sent = refl

answer : message_of (ok_text (codes "1") (codes "{}")) ≡ result (Some (integer (codes "1"))) (object nowhere no_members)
unfolding computes message_of named no_name_twice is_integer
answer = refl

doubled : message_of (codes "{\"jsonrpc\":\"2.0\",\"id\":1,\"id\":1,\"result\":1}") ≡ not_message
unfolding computes message_of named no_name_twice is_integer
doubled = refl
