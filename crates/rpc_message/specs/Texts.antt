-- The fixed texts, byte for byte. ID, R and items are bytes as they came.
use Rattle.std.specs.Prelude.{ℕ, ℤ, negsuc, List, [], ◌∷◌, ◌++◌, codes, decimal}
use Rattle.std.specs.Fmt.{signed_decimal}
use Rattle.json.specs.Print.{quoted}
use Rattle.std.specs.Prelude.{Option, Some, None}
use Rattle.json_text.specs.declared.span.Span.{Span}
use Rattle.json_text.specs.declared.kind.Word.TheVariants.{Null}
use Rattle.json_text.specs.Bare.{nowhere}
use Rattle.json_text.specs.Json.{Json, word, number, string, object, Members, no_members, member}
use Rattle.json_text.specs.Replace.{replace}
use Rattle.json_text.specs.Tree.{tree_of}
use Rattle.rpc_message.specs.Message.{place_in}

-- a result: `ok ID R`
abbrev pub ok_text : List ℕ → List ℕ → List ℕ
ok_text id r = codes "{\"jsonrpc\":\"2.0\",\"id\":" ++ id ++ codes ",\"result\":" ++ r ++ codes "}"

-- the error codes of JSON-RPC 2.0, section 5.1, and LSP 3.17, and their messages
pub data Code : Type 0 where
  parse_error : Code
  invalid_request : Code
  method_not_found : Code
  invalid_params : Code
  server_not_initialized : Code
  request_cancelled : Code
  content_modified : Code
  request_failed : Code

abbrev pub code_text : Code → List ℕ
code_text parse_error = codes "-32700"
code_text invalid_request = codes "-32600"
code_text method_not_found = codes "-32601"
code_text invalid_params = codes "-32602"
code_text server_not_initialized = codes "-32002"
code_text request_cancelled = codes "-32800"
code_text content_modified = codes "-32801"
code_text request_failed = codes "-32803"

-- the same as numbers; `negsuc n` is below zero by n + 1
abbrev pub code_number : Code → ℤ
code_number parse_error = negsuc 32699
code_number invalid_request = negsuc 32599
code_number method_not_found = negsuc 32600
code_number invalid_params = negsuc 32601
code_number server_not_initialized = negsuc 32001
code_number request_cancelled = negsuc 32799
code_number content_modified = negsuc 32800
code_number request_failed = negsuc 32802

abbrev pub code_message : Code → List ℕ
code_message parse_error = codes "Parse error"
code_message invalid_request = codes "Invalid Request"
code_message method_not_found = codes "Method not found"
code_message invalid_params = codes "Invalid params"
code_message server_not_initialized = codes "Server not initialized"
code_message request_cancelled = codes "Request cancelled"
code_message content_modified = codes "Content modified"
code_message request_failed = codes "Request failed"

-- an error: `error ID C`
abbrev pub error_text : List ℕ → Code → List ℕ
error_text id c = codes "{\"jsonrpc\":\"2.0\",\"id\":" ++ id ++ codes ",\"error\":{\"code\":" ++ code_text c ++ codes ",\"message\":\"" ++ code_message c ++ codes "\"}}"

-- an error of any code and message
abbrev pub error_reply_text : List ℕ → ℤ → List ℕ → List ℕ
error_reply_text id code message = codes "{\"jsonrpc\":\"2.0\",\"id\":" ++ id ++ codes ",\"error\":{\"code\":" ++ signed_decimal code ++ codes ",\"message\":" ++ quoted message ++ codes "}}"

abbrev pub initialized_text : List ℕ
initialized_text = codes "{\"jsonrpc\":\"2.0\",\"method\":\"initialized\",\"params\":{}}"

-- the tree of an error, by its code's digits and the characters of its message
abbrev pub failure_tree : List ℕ → List ℕ → Json
failure_tree digits message = object nowhere (member nowhere (codes "code") (number nowhere digits) (member nowhere (codes "message") (string nowhere message) no_members))

abbrev pub error_tree : Code → Json
error_tree c = failure_tree (code_text c) (code_message c)

-- a member that may be there or not
abbrev pub optional_text : List ℕ → Option (List ℕ) → List ℕ
optional_text name None = []
optional_text name (Some bytes) = name ++ bytes

abbrev pub optional_member : List ℕ → Option Json → Members → Members
optional_member name None ms = ms
optional_member name (Some j) ms = member nowhere name j ms

-- a request and a notification, whose params may be there or not
abbrev pub request_text : ℕ → List ℕ → Option (List ℕ) → List ℕ
request_text n method params = codes "{\"jsonrpc\":\"2.0\",\"id\":" ++ decimal n ++ codes ",\"method\":" ++ quoted method ++ optional_text (codes ",\"params\":") params ++ codes "}"

abbrev pub notification_text : List ℕ → Option (List ℕ) → List ℕ
notification_text method params = codes "{\"jsonrpc\":\"2.0\",\"method\":" ++ quoted method ++ optional_text (codes ",\"params\":") params ++ codes "}"

-- LSP 3.17, Initialize Request: with the root (null or a URI), the client's options, its capabilities and its workspace folders
abbrev pub initialize_text : List ℕ → Option (List ℕ) → List ℕ → Option (List ℕ) → List ℕ
initialize_text root options capabilities folders = codes "{\"jsonrpc\":\"2.0\",\"id\":1,\"method\":\"initialize\",\"params\":{\"processId\":null,\"clientInfo\":{\"name\":\"lspmux\"},\"rootUri\":" ++ root
    ++ optional_text (codes ",\"initializationOptions\":") options ++ codes ",\"capabilities\":" ++ capabilities ++ codes ",\"trace\":\"off\""
    ++ optional_text (codes ",\"workspaceFolders\":") folders ++ codes "}}"

-- its params
abbrev pub initialize_params : Json → Option Json → Json → Option Json → Json
initialize_params root options capabilities folders = object nowhere (member nowhere (codes "processId") (word nowhere Null)
    (member nowhere (codes "clientInfo") (object nowhere (member nowhere (codes "name") (string nowhere (codes "lspmux")) no_members))
    (member nowhere (codes "rootUri") root (optional_member (codes "initializationOptions") options
    (member nowhere (codes "capabilities") capabilities (member nowhere (codes "trace") (string nowhere (codes "off"))
    (optional_member (codes "workspaceFolders") folders no_members)))))))

-- a body with other bytes as its id, and all else as it came
abbrev pub with_id_at : List ℕ → List ℕ → Option Span → List ℕ
with_id_at bytes id (Some s) = replace bytes (record { span = s; text = id } ∷ [])
with_id_at bytes id None = bytes

unfoldable pub with_id_text : List ℕ → List ℕ → List ℕ
with_id_text bytes id = with_id_at bytes id (place_in (codes "id") (tree_of bytes))
