-- Where a result has versions of documents, and the edits that put others there (LSP 3.17, WorkspaceEdit, TextDocumentEdit, OptionalVersionedTextDocumentIdentifier, CodeAction).
-- Where a name stands more than once in an object, its last member counts; but each `version` of a document is replaced.
use Rattle.std.specs.Prelude.{ℕ, Bool, true, false, List, [], ◌∷◌, ◌++◌, codes, flat_map, nat_le, if◌then◌else◌}
use Rattle.std.specs.Prelude.{Option, Some, None}
use Rattle.std.specs.Option.{option_and_then, option_map}
use Rattle.json_text.specs.Json.{Json, array, object, span_of}
use Rattle.json_text.specs.Named.{items_list, named_in}
use Rattle.json_text.specs.Replace.{Edit}
use Rattle.json_nodes.specs.Puts.{put_edits}
use Rattle.document_model.specs.doc_text.specs.Changes.{string_text}
use Rattle.document_model.specs.Notices.{integer_text, new_version}
use Rattle.event_model.specs.Members.{has_version, listed, named_of}

-- a document, where it has a version: its uri is a string, and its version an integer
abbrev pub versioned : Option Json → List Json
versioned None = []
versioned (Some j) = if has_version (Some j) then j ∷ [] else []

-- of one of `documentChanges`; those that create, rename or delete files have no document
abbrev pub change_documents : Json → List Json
change_documents change = versioned (named_in (codes "textDocument") change)

-- of a WorkspaceEdit
abbrev pub workspace_documents : Option Json → List Json
workspace_documents edit = flat_map change_documents (listed (named_of (codes "documentChanges") edit))

-- of a CodeAction
abbrev pub action_documents : Json → List Json
action_documents action = workspace_documents (named_in (codes "edit") action)

-- of two members of an object, the first one stands in front, or one of them isn't there
abbrev pub in_front : Option Json → Option Json → Bool
in_front (Some j) (Some k) = nat_le (span_of j).to (span_of k).from
in_front (Some j) None = true
in_front None k = true

-- an object is read as a WorkspaceEdit and as a CodeAction
abbrev pub object_documents : Json → List Json
object_documents j = if in_front (named_in (codes "documentChanges") j) (named_in (codes "edit") j) then workspace_documents (Some j) ++ action_documents j else action_documents j ++ workspace_documents (Some j)

-- the documents with versions of a result, in the order of their places: of an object, or of an array of CodeActions
abbrev pub documents_of : Json → List Json
documents_of (object s ms) = object_documents (object s ms)
documents_of (array s js) = flat_map action_documents (items_list js)
documents_of other = []

abbrev pub are_some : List Json → Bool
are_some [] = false
are_some (j ∷ js) = true

-- by a document's URI and a version's digits: the bytes that come in its place, or none where the version stands for no text that the reader has
abbrev pub Renaming : Type 0
Renaming = List ℕ → List ℕ → Option (List ℕ)

abbrev pub renamed : Renaming → Json → Option (List ℕ) → Option (List ℕ) → Option (List Edit)
renamed r document (Some uri) (Some digits) = option_map (λ text. put_edits (new_version text) document) (r uri digits)
renamed r document (Some uri) None = Some []
renamed r document None digits = Some []

abbrev pub document_edits : Renaming → Json → Option (List Edit)
document_edits r j = renamed r j (option_and_then string_text (named_in (codes "uri") j)) (option_and_then integer_text (named_in (codes "version") j))

-- the edits of both, or none where one is refused
abbrev pub joined : Option (List Edit) → Option (List Edit) → Option (List Edit)
joined (Some es) (Some fs) = Some (es ++ fs)
joined (Some es) None = None
joined None fs = None

abbrev pub all_edits : Renaming → List Json → Option (List Edit)
all_edits r [] = Some []
all_edits r (j ∷ js) = joined (document_edits r j) (all_edits r js)

-- a result's edits, or none where a version of it is refused
abbrev pub result_edits : Renaming → Json → Option (List Edit)
result_edits r j = all_edits r (documents_of j)
