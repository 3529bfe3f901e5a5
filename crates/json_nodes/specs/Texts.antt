-- Where in the bytes of a text its values and its strings stand.
use Rattle.std.specs.Prelude.{ℕ, ◌+◌, ◌-◌, ◌≤◌, List, [], ◌∷◌, length, take, drop}
use Rattle.json_text.specs.declared.span.Span.{Span}
use Rattle.json_text.specs.Json.{Json, word, number, string, array, object, Members, no_members, member, value, span_of}
use Rattle.json_text.specs.String.{SpellsCharacters}

-- the bytes from one place to another
abbrev pub between : ℕ → ℕ → List ℕ → List ℕ
between from to bytes = take (to - from) (drop from bytes)

-- the bytes in a value's span are a spelling of it
pub record IsSpelledAt (bytes : List ℕ) (t : Json) : Type 0 where
  pub rises : (span_of t).from ≤ (span_of t).to
  pub fits : (span_of t).to ≤ length bytes
  pub text : value t (span_of t).from (between (span_of t).from (span_of t).to bytes)

-- the bytes in this span are a string of these characters: between its quotation marks they are spelled
pub record IsStringAt (bytes : List ℕ) (s : Span) (cs : List ℕ) : Type 0 where
  pub rises : s.from + 2 ≤ s.to
  pub fits : s.to ≤ length bytes
  pub text : SpellsCharacters cs (between (s.from + 1) (s.to - 1) bytes)

-- the names of an object's members, in order
abbrev pub member_names : Members → List (List ℕ)
member_names no_members = []
member_names (member s cs j ms) = cs ∷ member_names ms

abbrev pub names : Json → List (List ℕ)
names (object s ms) = member_names ms
names (word s w) = []
names (number s ds) = []
names (string s cs) = []
names (array s js) = []

-- where the names of an object's members stand, with their quotation marks, in order
abbrev pub member_name_spans : Members → List Span
member_name_spans no_members = []
member_name_spans (member s cs j ms) = s ∷ member_name_spans ms

abbrev pub name_spans : Json → List Span
name_spans (object s ms) = member_name_spans ms
name_spans (word s w) = []
name_spans (number s ds) = []
name_spans (string s cs) = []
name_spans (array s js) = []
