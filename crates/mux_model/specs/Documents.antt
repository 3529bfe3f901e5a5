-- How a start counts positions, and what it has of a document, by the history (LSP 3.17, Text Document Synchronization).
use Rattle.std.specs.Prelude.{ℕ, not, List, filter, fold, codes, nat_eq, bytes_eq, if◌then◌else◌}
use Rattle.std.specs.Prelude.{Option, Some, None}
use Rattle.document_model.specs.json_text.specs.Json.{Json}
use Rattle.document_model.specs.json_text.specs.Named.{named_in}
use Rattle.mux_history.specs.declared.cause.Cause.TheVariants.{FromServer}
use Rattle.mux_history.specs.declared.out.Out.TheVariants.{ToServer}
use Rattle.event_model.specs.Messages.{Message, result, integer}
use Rattle.position_codec.specs.declared.Encoding.{Encoding}
use Rattle.position_codec.specs.declared.Encoding.TheVariants.{Utf8, Utf16, Utf32}
use Rattle.document_model.specs.Opens.{Open}
use Rattle.document_model.specs.Helds.{HeldText, told}
use Rattle.document_model.specs.Sayings.{saying_of}
use Rattle.document_model.specs.Texts.{Texts}
use Rattle.event_model.specs.Event.{Event, took, did}
use Rattle.event_model.specs.Members.{named_of, string_of}

-- How positions count (LSP 3.17, PositionEncodingKind): as the result of `initialize` says, and else by units of UTF-16.
abbrev pub encoding_named : Option (List ℕ) → Encoding
encoding_named None = Utf16
encoding_named (Some name) = if bytes_eq name (codes "utf-8") then Utf8 else if bytes_eq name (codes "utf-32") then Utf32 else Utf16

abbrev pub encoding_in : Json → Encoding
encoding_in r = encoding_named (string_of (named_of (codes "positionEncoding") (named_in (codes "capabilities") r)))

-- of the result of the daemon's own initialize
abbrev pub encoding_by : Message → Option Encoding
encoding_by (result (Some (integer n)) r) = if bytes_eq n (codes "1") then Some (encoding_in r) else None
encoding_by _ = None

-- the encoding that start s gave
abbrev pub encoding_behind : ℕ → Option Encoding → Event → Option Encoding
encoding_behind s None (took (FromServer n body) m) = if nat_eq n s then encoding_by m else None
encoding_behind s given other = given

abbrev pub encoding_of : ℕ → List Event → Option Encoding
encoding_of s events = fold (encoding_behind s) None events

-- the documents of e end
abbrev pub without_editor : ℕ → Texts → Texts
without_editor e x = record { turn = x.turn; opens = filter (λ (o : Open). not (nat_eq o.editor e)) x.opens }

-- what start s has of the document u, with the encoding that it gave
pub record Sent : Type 0 where
  pub encoding : Option Encoding
  pub held : Option HeldText

abbrev pub held_behind : ℕ → List ℕ → Option Encoding → Option HeldText → Event → Option HeldText
held_behind s u encoding h (did (ToServer n body) m) = if nat_eq n s then told encoding u h (saying_of m) else h
held_behind s u encoding h other = h

abbrev pub sent_behind : ℕ → List ℕ → Sent → Event → Sent
sent_behind s u x event = record { encoding = encoding_behind s x.encoding event; held = held_behind s u x.encoding x.held event }

abbrev pub sent_of : ℕ → List ℕ → List Event → Sent
sent_of s u events = fold (sent_behind s u) (record { encoding = None; held = None }) events

abbrev pub held_at : ℕ → List ℕ → List Event → Option HeldText
held_at s u events = (sent_of s u events).held
