-- V3: what an editor gets of a request `workspace/applyEdit` of a start (LSP 3.17, ApplyWorkspaceEditParams): under another id, and each version of a document in its edit is the editor's own.
use Rattle.std.specs.Prelude.{◌≡◌, ℕ, List, [], codes}
use Rattle.std.specs.Prelude.{Option, Some, None}
use Rattle.std.specs.Option.{option_and_then, option_map}
use Rattle.json_text.specs.declared.kind.Word.TheVariants.{False}
use Rattle.json_text.specs.Bare.{nowhere}
use Rattle.json_text.specs.Json.{Json, word, string, object, no_members, member}
use Rattle.json_text.specs.Tree.{tree_of}
use Rattle.rpc_message.specs.Changed.{changed_text}
use Rattle.rpc_message.specs.Message.{Id, Message, message_of, request}
use Rattle.rpc_message.specs.Parsed.{params_in}
use Rattle.response_route.specs.Edits.{Renaming, action_documents, all_edits}

-- the documents with versions of params, if there are some
abbrev pub edit_documents : Option Json → List Json
edit_documents (Some j) = action_documents j
edit_documents None = []

-- of a body's params
abbrev pub documents_asked : List ℕ → List Json
documents_asked body = edit_documents (option_and_then (params_in (message_of body)) (tree_of body))

-- the body that the editor gets, by the start's; none where a version stands for no text that the editor has
abbrev pub asked_text : Renaming → List ℕ → List ℕ → Option (List ℕ)
asked_text r body id = option_map (λ es. changed_text body id es) (all_edits r (documents_asked body))

-- a request of this method under this id
abbrev pub Asks : Id → List ℕ → Message → Type 0
Asks id method m = (params : Option Json) × (m ≡ request id method params)

-- the result that the start gets where nobody is asked (LSP 3.17, ApplyWorkspaceEditResult)
abbrev pub not_applied : List ℕ
not_applied = codes "{\"applied\":false,\"failureReason\":\"Content modified\"}"

-- what it says
abbrev pub refusal_tree : Json
refusal_tree = object nowhere (member nowhere (codes "applied") (word nowhere False) (member nowhere (codes "failureReason") (string nowhere (codes "Content modified")) no_members))
