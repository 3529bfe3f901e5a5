-- What the members of a list of changes say.
use Rattle.std.proofs.Common.{◌≡◌, ℕ, List, codes, refl, sym, ◌∙◌, ap, ap₂, subst}
use Rattle.std.specs.Prelude.{Option, Some, None, Result, Ok, Err, IfOk, IsOk, IsUtf8, encode_utf8_all}
use Rattle.std.specs.Option.{option_map, option_and_then}
use Rattle.std.specs.Str.{chars}
use Rattle.json_text.specs.declared.span.Span.{Span}
use Rattle.json_text.specs.declared.kind.Kind.{Kind}
use Rattle.json_text.specs.declared.kind.Kind.TheVariants as kind
use Rattle.json_text.specs.Json.{Json, word, number, string, array, object, value, span_of}
use Rattle.json_text.specs.Named.{named_in}
use Rattle.json_text.specs.String.{SpellsCharacters}
use Rattle.json_span.proofs.Scalars.{scalar_characters, utf8_characters}
use Rattle.json_span.specs.json_nodes.specs.At.{At, Found}
use Rattle.json_span.specs.json_nodes.specs.Doc.{Doc}
use Rattle.json_span.specs.json_nodes.specs.Nodes.{kind_of}
use Rattle.json_span.specs.json_nodes.proofs.Sames.{number_of, string_of}
use Rattle.doc_text.specs.declared.change.Position.{Position}
use Rattle.doc_text.specs.declared.change.Range.{Range}
use Rattle.doc_text.specs.declared.change.Extent.TheVariants.{Whole, Part}
use Rattle.doc_text.specs.declared.fault.ChangeFault.{ChangeFault}
use Rattle.doc_text.specs.Changes.{both, coordinate, position_of, position_in, range_of, extent_in, extent_of, string_text, text_of, changes_of}
use Rattle.doc_text.specs.Found.{Gives}
use Rattle.doc_text.specs.Numbers.{unsigned}

-- the characters of the names

line_chars : chars (codes "line") ≡ codes "line"
unfolding chars
line_chars = refl

character_chars : chars (codes "character") ≡ codes "character"
unfolding chars
character_chars = refl

start_chars : chars (codes "start") ≡ codes "start"
unfolding chars
start_chars = refl

end_chars : chars (codes "end") ≡ codes "end"
unfolding chars
end_chars = refl

range_chars : chars (codes "range") ≡ codes "range"
unfolding chars
range_chars = refl

text_chars : chars (codes "text") ≡ codes "text"
unfolding chars
text_chars = refl

-- an answer that is there, and one that isn't

found_none : (doc : Doc) (o : Option Json) → Found doc o None → o ≡ None
found_none doc None h = refl
found_none doc (Some t) h = absurd h

found_some : (doc : Doc) (o : Option Json) (k : ℕ) → Found doc o (Some k) → (t : Json) × (o ≡ Some t) × At doc k t
found_some doc None k h = absurd h
found_some doc (Some t) k h = (t, refl, h)

-- numbers

number_told : (t : Json) (x : Kind) (at : ℕ) (w : List ℕ) (b : Option ℕ) → x ≡ kind.Number → x ≡ kind_of t → value t at w → b ≡ unsigned w → b ≡ coordinate (Some t)
number_told t x at w b e f v h = let k : (s : Span) × (ds : List ℕ) × (t ≡ number s ds) = number_of t (sym f ∙ e) in go k.0 k.1 k.2
  where
    go : (s : Span) (ds : List ℕ) → t ≡ number s ds → b ≡ coordinate (Some t)
    go s ds g = let spelled : value (number s ds) at w = subst (λ z. value z at w) g v in
        h ∙ ap unsigned spelled.0.0 ∙ sym (ap (λ z. coordinate (Some z)) g)

pub number_found : (doc d : Doc) (o : Option Json) (n : ℕ) (x : Kind) (w : List ℕ) (b : Option ℕ) → x ≡ kind.Number → d ≡ doc → ((t : Json) → At doc n t → x ≡ kind_of t)
    → ((t : Json) → At d n t → value t (span_of t).from w) → b ≡ unsigned w → Found doc o (Some n) → b ≡ coordinate o
number_found doc d o n x w b e same told text h f = let q : (t : Json) × (o ≡ Some t) × At doc n t = found_some doc o n f in
    number_told q.0 x (span_of q.0).from w b e (told q.0 q.2) (text q.0 (subst (λ z. At z n q.0) (sym same) q.2)) h ∙ ap coordinate (sym q.1)

-- positions and ranges

abbrev place_at : ℕ → ℕ → Position
place_at l c = record { line = l; character = c }

abbrev from_to : Position → Position → Range
from_to s e = record { start = s; end = e }

pub no_line : (t : Json) → None ≡ coordinate (named_in (chars (codes "line")) t) → None ≡ position_of t
no_line t e = ap (λ a. both place_at a (coordinate (named_in (codes "character") t))) (e ∙ ap (λ n. coordinate (named_in n t)) line_chars)

pub with_line : (t : Json) (l : ℕ) (c : Option ℕ) → Some l ≡ coordinate (named_in (chars (codes "line")) t) → c ≡ coordinate (named_in (chars (codes "character")) t) → both place_at (Some l) c ≡ position_of t
with_line t l c e f = ap₂ (λ a b. both place_at a b) (e ∙ ap (λ n. coordinate (named_in n t)) line_chars) (f ∙ ap (λ n. coordinate (named_in n t)) character_chars)

pub no_start : (t : Json) → None ≡ position_in (named_in (chars (codes "start")) t) → None ≡ range_of t
no_start t e = ap (λ a. both from_to a (position_in (named_in (codes "end") t))) (e ∙ ap (λ n. position_in (named_in n t)) start_chars)

pub with_start : (t : Json) (s : Position) (e : Option Position) → Some s ≡ position_in (named_in (chars (codes "start")) t) → e ≡ position_in (named_in (chars (codes "end")) t) → both from_to (Some s) e ≡ range_of t
with_start t s e g f = ap₂ (λ a b. both from_to a b) (g ∙ ap (λ n. position_in (named_in n t)) start_chars) (f ∙ ap (λ n. position_in (named_in n t)) end_chars)

-- what a change replaces

pub no_range : (doc : Doc) (t : Json) → Found doc (named_in (chars (codes "range")) t) None → Some Whole ≡ extent_of t
no_range doc t h = ap extent_in (sym (found_none doc (named_in (chars (codes "range")) t) h) ∙ ap (λ n. named_in n t) range_chars)

pub with_range : (doc : Doc) (t : Json) (k : ℕ) (r : Option Range) → Found doc (named_in (chars (codes "range")) t) (Some k) → ((u : Json) → At doc k u → r ≡ range_of u) → option_map Part r ≡ extent_of t
with_range doc t k r h f = let q : (u : Json) × (named_in (chars (codes "range")) t ≡ Some u) × At doc k u = found_some doc (named_in (chars (codes "range")) t) k h in
    ap (λ z. option_map Part z) (f q.0 q.2) ∙ ap extent_in (sym q.1 ∙ ap (λ n. named_in n t) range_chars)

-- its text

pub no_text : (doc : Doc) (t : Json) → Found doc (named_in (chars (codes "text")) t) None → text_of t ≡ None
no_text doc t h = ap (λ o. option_and_then string_text o) (sym (ap (λ n. named_in n t) text_chars) ∙ found_none doc (named_in (chars (codes "text")) t) h)

pub with_text : (doc : Doc) (t : Json) (k : ℕ) (r : Result (List ℕ) ChangeFault) → Found doc (named_in (chars (codes "text")) t) (Some k) → ((u : Json) → At doc k u → Gives (λ x. x) r (string_text u)) → Gives (λ x. x) r (text_of t)
with_text doc t k r h f = let q : (u : Json) × (named_in (chars (codes "text")) t ≡ Some u) × At doc k u = found_some doc (named_in (chars (codes "text")) t) k h in
    subst (λ z. Gives (λ x. x) r z) (ap (λ o. option_and_then string_text o) (sym q.1 ∙ ap (λ n. named_in n t) text_chars)) (f q.0 q.2)

pub no_string : (t : Json) (x : Kind) → (x ≡ kind.Text → ⊥) → x ≡ kind_of t → string_text t ≡ None
no_string (string s cs) x n e = absurd (n e)
no_string (word s w) x n e = refl
no_string (number s ds) x n e = refl
no_string (array s js) x n e = refl
no_string (object s ms) x n e = refl

pub string_given : (d : Doc) (k : ℕ) (t : Json) (x : Kind) (raw decoded : List ℕ) (r : Result (List ℕ) ChangeFault) → x ≡ kind.Text → x ≡ kind_of t → At d k t → ((s : Span) (cs : List ℕ) → At d k (string s cs) → SpellsCharacters cs raw)
    → ((cs : List ℕ) → SpellsCharacters cs raw → decoded ≡ encode_utf8_all cs) → IfOk r (λ x. x ≡ decoded) → (IsUtf8 decoded → IsOk r) → Gives (λ x. x) r (string_text t)
string_given d k t x raw decoded r e f a text read ok succeeds = let q : (s : Span) × (cs : List ℕ) × (t ≡ string s cs) = string_of t (sym f ∙ e) in go q.0 q.1 q.2
  where
    given : (s : Span) (cs : List ℕ) → t ≡ string s cs → decoded ≡ encode_utf8_all cs → (r : Result (List ℕ) ChangeFault) → IfOk r (λ x. x ≡ decoded) → IsOk r → Gives (λ x. x) r (string_text t)
    given s cs g h (Ok y) e ok = ap string_text g ∙ ap Some (sym h ∙ sym e)
    given s cs g h (Err y) e ok = absurd (cc)

    go : (s : Span) (cs : List ℕ) → t ≡ string s cs → Gives (λ x. x) r (string_text t)
    go s cs g =
        let spelled : SpellsCharacters cs raw = text s cs (subst (λ z. At d k z) g a) in
        let is : decoded ≡ encode_utf8_all cs = read cs spelled in
        let good : IsUtf8 (encode_utf8_all cs) = (utf8_characters cs (scalar_characters cs raw spelled)).0 in
        given s cs g is r ok (succeeds (subst IsUtf8 (sym is) good))

-- a list of changes is an array

pub no_array : (t : Json) (x : Kind) → (x ≡ kind.Array → ⊥) → x ≡ kind_of t → changes_of t ≡ None
no_array (array s js) x n e = absurd (n e)
no_array (word s w) x n e = refl
no_array (number s ds) x n e = refl
no_array (string s cs) x n e = refl
no_array (object s ms) x n e = refl
