-- What the routing table reads in the params and results of bodies (LSP 3.17, initialize, ProgressToken, and VersionedTextDocumentIdentifier).
use Rattle.std.specs.Prelude.{ℕ, Bool, false, ◌&&◌, ◌||◌, List, [], codes, is_some, if◌then◌else◌}
use Rattle.std.specs.Prelude.{Option, Some, None}
use Rattle.std.specs.List.{list_any}
use Rattle.rpc_message.specs.json_text.specs.Json.{Json, string, array, object}
use Rattle.rpc_message.specs.json_text.specs.Named.{named_in, items_list, named}
use Rattle.rpc_message.specs.json_text.specs.Tree.{tree_of}
use Rattle.rpc_message.specs.Message.{place_in, slice_of, is_integer_value, is_string_value}

abbrev pub named_of : List ℕ → Option Json → Option Json
named_of name None = None
named_of name (Some j) = named_in name j

abbrev pub params_of : List ℕ → Option Json
params_of body = named_of (codes "params") (tree_of body)

abbrev pub string_of : Option Json → Option (List ℕ)
string_of (Some (string s cs)) = Some cs
string_of _ = None

abbrev pub listed : Option Json → List Json
listed (Some (array s js)) = items_list js
listed _ = []

-- the bytes of a member, where it is there
abbrev pub bytes_if : List ℕ → Option Json → List ℕ → Option (List ℕ)
bytes_if name tree body = if is_some (named_of name tree) then Some (slice_of body (place_in name tree)) else None

abbrev pub options_of : List ℕ → Option (List ℕ)
options_of body = bytes_if (codes "initializationOptions") (params_of body) body

-- a progress token (LSP 3.17, ProgressToken)
abbrev pub is_token : Option Json → Bool
is_token j = is_integer_value j || is_string_value j

abbrev pub has_token : Option Json → Bool
has_token params = is_token (named_of (codes "workDoneToken") params) || is_token (named_of (codes "partialResultToken") params)

-- the document edits of a workspace edit that have a version (LSP 3.17, TextDocumentEdit)
abbrev pub has_version : Option Json → Bool
has_version document = is_string_value (named_of (codes "uri") document) && is_integer_value (named_of (codes "version") document)

abbrev pub is_versioned_edit : Json → Bool
is_versioned_edit j = has_version (named_in (codes "textDocument") j)

abbrev pub has_versions : Option Json → Bool
has_versions edit = list_any is_versioned_edit (listed (named_of (codes "documentChanges") edit))

-- some version is read in a result: in itself, in its `edit`, or in the `edit` of one of its items
abbrev pub reads_versions : Json → Bool
reads_versions (object s ms) = has_versions (Some (object s ms)) || has_versions (named (codes "edit") ms)
reads_versions (array s js) = list_any (λ j. has_versions (named_in (codes "edit") j)) (items_list js)
reads_versions _ = false
