-- What a start of a server has of a document: the fold of the didOpen, didChange and didClose that it was sent (LSP 3.17, Text Document Synchronization).
use Rattle.std.specs.Prelude.{ℕ, ◌+◌, ◌-◌, ◌*◌, List, fold, bytes_eq, if◌then◌else◌}
use Rattle.std.specs.Prelude.{Option, Some, None}
use Rattle.std.specs.Option.{unwrap_or}
use Rattle.json_text.specs.Json.{Json}
use Rattle.doc_text.specs.position_codec.specs.declared.Encoding.{Encoding}
use Rattle.document_model.specs.Sayings.{Saying, opens, changes, closes, misshapen, nothing}
use Rattle.document_model.specs.Texts.{text_after}

-- its version, its language and its text; a language lasts until the document is closed
pub record HeldText : Type 0 where
  pub version : ℕ
  pub language : List ℕ
  pub text : List ℕ

-- the number that digits write
abbrev pub number_of : List ℕ → ℕ
number_of digits = fold (λ n d. n * 10 + (d - 48)) 0 digits

-- a document that isn't held can't be changed
abbrev pub changed_held : Option Encoding → List ℕ → Json → Option HeldText → Option HeldText
changed_held encoding v cs None = None
changed_held encoding v cs (Some h) = Some (record { version = number_of v; language = h.language; text = unwrap_or (text_after encoding cs h.text) h.text })

-- what a start has of u behind one more message to it
abbrev pub told : Option Encoding → List ℕ → Option HeldText → Saying → Option HeldText
told encoding u h (opens w l v t) = if bytes_eq u w then Some (record { version = number_of v; language = l; text = t }) else h
told encoding u h (changes w v cs) = if bytes_eq u w then changed_held encoding v cs h else h
told encoding u h (closes w) = if bytes_eq u w then None else h
told encoding u h misshapen = h
told encoding u h nothing = h
