-- What a notification says of a document (LSP 3.17, DidOpenTextDocumentParams, DidChangeTextDocumentParams and DidCloseTextDocumentParams).
use Rattle.std.specs.Prelude.{ℕ, Bool, true, false, List, codes, bytes_eq, if◌then◌else◌}
use Rattle.std.specs.Prelude.{Option, Some, None}
use Rattle.std.specs.Option.{option_and_then}
use Rattle.json_text.specs.Json.{Json}
use Rattle.json_text.specs.Named.{named_in}
use Rattle.rpc_message.specs.Message.{Message, notification}
use Rattle.doc_text.specs.Changes.{string_text}
use Rattle.document_model.specs.Notices.{integer_text}

-- A document is opened, with its URI, its language, its version and its text; it is changed, to a version, by a list of changes; it is closed.
-- A version is its digits. `misshapen` is said by a notification of one of these methods that lacks a part; `nothing` by any other message.
pub data Saying : Type 0 where
  opens : List ℕ → List ℕ → List ℕ → List ℕ → Saying
  changes : List ℕ → List ℕ → Json → Saying
  closes : List ℕ → Saying
  misshapen : Saying
  nothing : Saying

-- a member of a value that may be there
abbrev pub member_of : List ℕ → Option Json → Option Json
member_of name o = option_and_then (named_in name) o

abbrev pub string_at : List ℕ → Option Json → Option (List ℕ)
string_at name o = option_and_then string_text (member_of name o)

abbrev pub integer_at : List ℕ → Option Json → Option (List ℕ)
integer_at name o = option_and_then integer_text (member_of name o)

abbrev pub opening : Option (List ℕ) → Option (List ℕ) → Option (List ℕ) → Option (List ℕ) → Saying
opening (Some u) (Some l) (Some v) (Some t) = opens u l v t
opening (Some u) (Some l) (Some v) None = misshapen
opening (Some u) (Some l) None t = misshapen
opening (Some u) None v t = misshapen
opening None l v t = misshapen

abbrev pub changing : Option (List ℕ) → Option (List ℕ) → Option Json → Saying
changing (Some u) (Some v) (Some cs) = changes u v cs
changing (Some u) (Some v) None = misshapen
changing (Some u) None cs = misshapen
changing None v cs = misshapen

abbrev pub closing : Option (List ℕ) → Saying
closing (Some u) = closes u
closing None = misshapen

abbrev pub opening_by : Option Json → Saying
opening_by document = opening (string_at (codes "uri") document) (string_at (codes "languageId") document) (integer_at (codes "version") document) (string_at (codes "text") document)

abbrev pub changing_by : Option Json → Option Json → Saying
changing_by document cs = changing (string_at (codes "uri") document) (integer_at (codes "version") document) cs

abbrev pub closing_by : Option Json → Saying
closing_by document = closing (string_at (codes "uri") document)

abbrev pub saying_by : List ℕ → Option Json → Saying
saying_by method params = if bytes_eq (codes "textDocument/didOpen") method then opening_by (member_of (codes "textDocument") params)
    else if bytes_eq (codes "textDocument/didChange") method then changing_by (member_of (codes "textDocument") params) (member_of (codes "contentChanges") params)
    else if bytes_eq (codes "textDocument/didClose") method then closing_by (member_of (codes "textDocument") params)
    else nothing

abbrev pub saying_of : Message → Saying
saying_of (notification method params) = saying_by method params
saying_of other = nothing

-- a message speaks of a document, in the right shape or not
abbrev pub speaks : Saying → Bool
speaks nothing = false
speaks _ = true
