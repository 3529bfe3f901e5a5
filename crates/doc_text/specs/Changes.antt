-- Changes of a text: LSP 3.17, Position, Range, TextDocumentContentChangeEvent and DidChangeTextDocumentParams.
-- Where a name stands more than once in an object, its last member counts.
use Rattle.std.specs.Prelude.{ℕ, max, List, [], ◌∷◌, length, fold, codes, encode_utf8_all}
use Rattle.std.specs.Prelude.{Option, Some, None}
use Rattle.std.specs.List.{replace_range}
use Rattle.std.specs.Option.{option_map, option_and_then}
use Rattle.std.specs.Str.{chars}
use Rattle.json_text.specs.Json.{Json, number, string, array}
use Rattle.json_text.specs.Named.{named_in, items_list}
use Rattle.position_codec.specs.declared.Encoding.{Encoding}
use Rattle.position_codec.specs.Position.{lines, offset_at}
use Rattle.doc_text.specs.declared.change.Position.{Position}
use Rattle.doc_text.specs.declared.change.Range.{Range}
use Rattle.doc_text.specs.declared.change.Extent.{Extent}
use Rattle.doc_text.specs.declared.change.Extent.TheVariants.{Whole, Part}
use Rattle.doc_text.specs.declared.change.ContentChange.{ContentChange}
use Rattle.doc_text.specs.Numbers.{unsigned}

-- both, where both are there
abbrev pub both : {A B C : Type 0} → (A → B → C) → Option A → Option B → Option C
both f (Some a) (Some b) = Some (f a b)
both f (Some a) None = None
both f None b = None

abbrev pub coordinate : Option Json → Option ℕ
coordinate (Some (number s ds)) = unsigned ds
coordinate _ = None

abbrev pub position_of : Json → Option Position
position_of t = both (λ l c. record { line = l; character = c }) (coordinate (named_in (codes "line") t)) (coordinate (named_in (codes "character") t))

abbrev pub position_in : Option Json → Option Position
position_in o = option_and_then position_of o

abbrev pub range_of : Json → Option Range
range_of t = both (λ s e. record { start = s; end = e }) (position_in (named_in (codes "start") t)) (position_in (named_in (codes "end") t))

-- without a range, the whole
abbrev pub extent_in : Option Json → Option Extent
extent_in None = Some Whole
extent_in (Some t) = option_map Part (range_of t)

abbrev pub extent_of : Json → Option Extent
extent_of t = extent_in (named_in (codes "range") t)

abbrev pub string_text : Json → Option (List ℕ)
string_text (string s cs) = Some (encode_utf8_all cs)
string_text _ = None

abbrev pub text_of : Json → Option (List ℕ)
text_of t = option_and_then string_text (named_in (codes "text") t)

abbrev pub change_of : Json → Option ContentChange
change_of t = both (λ p x. record { extent = p; text = x }) (extent_of t) (text_of t)

abbrev pub all_changes : List Json → Option (List ContentChange)
all_changes [] = Some []
all_changes (t ∷ ts) = both (λ c cs. c ∷ cs) (change_of t) (all_changes ts)

abbrev pub changes_of : Json → Option (List ContentChange)
changes_of (array s ts) = all_changes (items_list ts)
changes_of _ = None

abbrev pub offset_in : Encoding → Position → List ℕ → ℕ
offset_in e p text = offset_at e p.line p.character (lines (chars text))

-- from which byte to which a change replaces: an end before the start means the start
abbrev pub place_in : Encoding → Extent → List ℕ → ℕ × ℕ
place_in e Whole text = (0, length text)
place_in e (Part r) text = (offset_in e r.start text, max (offset_in e r.start text) (offset_in e r.end text))

abbrev pub changed : Encoding → ContentChange → List ℕ → List ℕ
changed e c text = replace_range text (place_in e c.extent text).0 (place_in e c.extent text).1 c.text

-- each change is made in the text that the one before left
abbrev pub changed_all : Encoding → List ContentChange → List ℕ → List ℕ
changed_all e cs text = fold (λ now c. changed e c now) text cs

-- the text behind the changes that a value lists, where it is a list of changes
abbrev pub text_behind : Encoding → Json → List ℕ → Option (List ℕ)
text_behind e t text = option_map (λ cs. changed_all e cs text) (changes_of t)
