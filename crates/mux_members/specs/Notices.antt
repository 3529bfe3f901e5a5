-- What is read of a document in a notification (LSP 3.17, Text Document Synchronization).
use Rattle.std.specs.Prelude.{◌≡◌, ℕ, Bool, ◌&&◌, ◌||◌, List, codes, bytes_eq, IsUtf8}
use Rattle.std.specs.Prelude.{Option, Some, None}
use Rattle.json_text.specs.Json.{Json}
use Rattle.rpc_message.specs.Message.{is_integer_value, is_string_value}
use Rattle.mux_model.specs.event_model.specs.Members.{named_of}
use Rattle.mux_model.specs.Sayings.{Saying, opens, changes, closes, misshapen, nothing}
use Rattle.mux_members.specs.declared.notice.Notice.{Notice}
use Rattle.mux_members.specs.declared.notice.Notice.TheVariants.{Opens, Changes, Closes, Nothing}

-- the answer says the same of a document
abbrev pub Says : Notice → Saying → Type 0
Says (Opens uri language version text) (opens u l v t) = (uri ≡ u) × (language ≡ l) × (version ≡ v) × (text ≡ t)
Says Changes (changes u v cs) = Unit {0}
Says (Closes uri) (closes u) = uri ≡ u
Says Nothing misshapen = Unit {0}
Says Nothing nothing = Unit {0}
Says _ _ = ⊥

-- its parts are texts
abbrev pub AreTexts : Notice → Type 0
AreTexts (Opens uri language version text) = IsUtf8 uri × IsUtf8 language × IsUtf8 text
AreTexts Changes = Unit {0}
AreTexts (Closes uri) = IsUtf8 uri
AreTexts Nothing = Unit {0}

-- a text, where it is there
abbrev pub IsTextIf : Option (List ℕ) → Type 0
IsTextIf (Some text) = IsUtf8 text
IsTextIf None = Unit {0}

-- E12: the document that it opens
abbrev pub uri_opened : Saying → Option (List ℕ)
uri_opened (opens u l v t) = Some u
uri_opened other = None

-- a document that is opened has all its other parts
abbrev pub is_whole : Option Json → Bool
is_whole o = is_string_value (named_of (codes "languageId") o) && (is_integer_value (named_of (codes "version") o) && is_string_value (named_of (codes "text") o))

-- whether a method is one of the three
abbrev pub is_of_documents : List ℕ → Bool
is_of_documents cs = bytes_eq (codes "textDocument/didOpen") cs || (bytes_eq (codes "textDocument/didChange") cs || bytes_eq (codes "textDocument/didClose") cs)
