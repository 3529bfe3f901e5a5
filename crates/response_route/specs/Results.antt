-- The documents with versions of a body's result.
use Rattle.std.specs.Prelude.{ℕ, List, []}
use Rattle.std.specs.Prelude.{Option, Some, None}
use Rattle.std.specs.Option.{option_and_then}
use Rattle.json_text.specs.Json.{Json}
use Rattle.json_text.specs.Tree.{tree_of}
use Rattle.rpc_message.specs.Message.{message_of}
use Rattle.rpc_message.specs.Parsed.{result_in}
use Rattle.response_route.specs.Edits.{documents_of}

-- the documents with versions of a body's result, if it has one
abbrev pub value_documents : Option Json → List Json
value_documents (Some j) = documents_of j
value_documents None = []

abbrev pub documents_in : List ℕ → List Json
documents_in body = value_documents (option_and_then (result_in (message_of body)) (tree_of body))
