-- What editors have open: the fold of the didOpen, didChange and didClose of theirs that are accepted (LSP 3.17, Text Document Synchronization).
use Rattle.std.specs.Prelude.{ℕ, ◌+◌, List, []}
use Rattle.std.specs.Prelude.{Option, find}
use Rattle.std.specs.Option.{option_and_then, option_map, option_map_or}
use Rattle.json_text.specs.Json.{Json}
use Rattle.doc_text.specs.position_codec.specs.declared.Encoding.{Encoding}
use Rattle.doc_text.specs.Changes.{text_behind}
use Rattle.document_model.specs.Opens.{Open, is_open_at, put_open, drop_open}
use Rattle.document_model.specs.Sayings.{Saying, opens, changes, closes, misshapen, nothing}

-- the documents that are open, in the order of opening, and how many openings and changes were accepted so far
pub record Texts : Type 0 where
  pub turn : ℕ
  pub opens : List Open

abbrev pub no_texts : Texts
no_texts = record { turn = 0; opens = [] }

-- e's document u, where it is open there
abbrev pub found : ℕ → List ℕ → Texts → Option Open
found e u x = find (is_open_at e u) x.opens

-- e's last touch of a document is its opening or change
abbrev pub touched : Open → Texts → Texts
touched o x = record { turn = x.turn + 1; opens = put_open o x.opens }

abbrev pub opened : ℕ → List ℕ → List ℕ → List ℕ → List ℕ → Texts → Open
opened e u l v t x = record { editor = e; uri = u; language = l; version = v; text = t; touched = x.turn }

-- positions count in the encoding that the server gave
abbrev pub text_after : Option Encoding → Json → List ℕ → Option (List ℕ)
text_after encoding cs t = option_and_then (λ code. text_behind code cs t) encoding

-- the document behind a change, where it is open at e and the changes have the right shape
abbrev pub changed : Option Encoding → ℕ → List ℕ → List ℕ → Json → Texts → Option Open
changed encoding e u v cs x = option_and_then (λ (o : Open). option_map (λ t. record { editor = e; uri = u; language = o.language; version = v; text = t; touched = x.turn }) (text_after encoding cs o.text)) (found e u x)

abbrev pub texts_behind : Option Encoding → ℕ → Saying → Texts → Texts
texts_behind encoding e (opens u l v t) x = touched (opened e u l v t x) x
texts_behind encoding e (changes u v cs) x = option_map_or (λ o. touched o x) (changed encoding e u v cs x) x
texts_behind encoding e (closes u) x = record { turn = x.turn; opens = drop_open e u x.opens }
texts_behind encoding e misshapen x = x
texts_behind encoding e nothing x = x
