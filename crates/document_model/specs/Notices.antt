-- What a didChange says (LSP 3.17, DidChangeTextDocumentParams), and the same with another version.
-- Where a name stands more than once in an object, its last member counts.
use Rattle.std.specs.Prelude.{ℕ, List, [], codes, bytes_eq, decimal, if◌then◌else◌}
use Rattle.std.specs.Prelude.{Option, Some, None}
use Rattle.std.specs.Option.{option_and_then}
use Rattle.json_text.specs.Json.{Json, number}
use Rattle.json_text.specs.Named.{named_in}
use Rattle.json_text.specs.Replace.{Edit, replace}
use Rattle.rpc_message.specs.Values.{put_edits}
use Rattle.rpc_message.specs.Message.{is_integer}
use Rattle.doc_text.specs.Changes.{string_text}

abbrev pub document_in : Json → Option Json
document_in t = option_and_then (named_in (codes "textDocument")) (named_in (codes "params") t)

abbrev pub integer_text : Json → Option (List ℕ)
integer_text (number s ds) = if is_integer ds then Some ds else None
integer_text _ = None

abbrev pub uri_in : Json → Option (List ℕ)
uri_in t = option_and_then string_text (option_and_then (named_in (codes "uri")) (document_in t))

abbrev pub version_in : Json → Option (List ℕ)
version_in t = option_and_then integer_text (option_and_then (named_in (codes "version")) (document_in t))

abbrev pub changes_in : Json → Option Json
changes_in t = option_and_then (named_in (codes "contentChanges")) (named_in (codes "params") t)

pub record DidChange : Type 0 where
  pub uri : List ℕ
  pub version : List ℕ
  pub changes : Json

abbrev pub did_change_of : Option (List ℕ) → Option (List ℕ) → Option Json → Option DidChange
did_change_of (Some u) (Some v) (Some cs) = Some (record { uri = u; version = v; changes = cs })
did_change_of (Some u) (Some v) None = None
did_change_of (Some u) None cs = None
did_change_of None v cs = None

abbrev pub did_change : Json → Option DidChange
did_change t = did_change_of (uri_in t) (version_in t) (changes_in t)

-- these bytes for the name `version`
abbrev pub new_version : List ℕ → List ℕ → Option (List ℕ)
new_version text cs = if bytes_eq (codes "version") cs then Some text else None

-- each `version` of the document with another value
abbrev pub edits_in : List ℕ → Option Json → List Edit
edits_in text (Some j) = put_edits (new_version text) j
edits_in text None = []

-- the body of this tree, with another version
abbrev pub with_version : ℕ → List ℕ → Json → List ℕ
with_version v body t = replace body (edits_in (decimal v) (document_in t))
