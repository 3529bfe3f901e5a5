-- S5: what the editor that asked gets of an answer: under its own id, and each version of a document in its result is its own (JSON-RPC 2.0, section 5).
-- V2: where one stands for no text that the editor has, it gets an error (LSP 3.17, ContentModified).
use Rattle.std.specs.Prelude.{◌≡◌, ◌⊎◌, ℕ, List}
use Rattle.std.specs.Prelude.{Option, Some, None}
use Rattle.json_text.specs.Json.{Json, depth}
use Rattle.json_text.specs.Replace.{Edit}
use Rattle.rpc_message.specs.Changed.{changed_text}
use Rattle.rpc_message.specs.Message.{Id, Message, error, result}
use Rattle.rpc_message.specs.Texts.{content_modified, error_text}
use Rattle.rpc_message.specs.ValueTexts.{IsValueText}
use Rattle.response_route.specs.Edits.{Renaming, all_edits}
use Rattle.response_route.specs.Results.{documents_in}

abbrev pub answer_with : Option (List Edit) → List ℕ → List ℕ → List ℕ
answer_with (Some es) body id = changed_text body id es
answer_with None body id = error_text id content_modified

-- the body that the editor gets, by the start's
abbrev pub answer_text : Renaming → List ℕ → List ℕ → List ℕ
answer_text r body id = answer_with (all_edits r (documents_in body)) body id

-- the bytes are those of a value that has no others in it
abbrev pub IsFlatText : List ℕ → Type 0
IsFlatText text = (v : Json) × IsValueText v text × (depth v ≡ 0)

-- what comes in place of versions is such a value
abbrev pub GivesFlat : Renaming → Type 0
GivesFlat r = (u digits text : List ℕ) → r u digits ≡ Some text → IsFlatText text

-- a response under this id
abbrev pub Responds : Option Id → Message → Type 0
Responds id m = ((v : Json) × (m ≡ result id v)) ⊎ ((x : Json) × (m ≡ error id x))
