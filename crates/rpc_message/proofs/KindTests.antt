-- The tests of an envelope, by the kinds of its values.
use Rattle.std.proofs.Common.{◌≡◌, ℕ, Bool, true, false, ◌&&◌, ◌↔◌, ◌⊎◌, inl, inr, List, Option, Some, None, is_some, codes, IsTrue, bytes_eq, if◌then◌else◌, refl, sym, ◌∙◌, ap, subst}
use Rattle.std.specs.Str.{chars}
use Rattle.json_text.specs.declared.span.Span.{Span}
use Rattle.json_text.specs.declared.kind.Kind.{Kind}
use Rattle.json_text.specs.declared.kind.Kind.TheVariants as kind
use Rattle.json_text.specs.declared.kind.Word.TheVariants.{Null, False, True}
use Rattle.json_text.specs.Json.{Json, word, number, string, array, object, value}
use Rattle.json_text.specs.Named.{named_in}
use Rattle.json_text.specs.String.{SpellsCharacters}
use Rattle.json_span.specs.json_nodes.specs.At.{At, Found}
use Rattle.json_span.specs.json_nodes.specs.Doc.{Doc}
use Rattle.json_span.specs.json_nodes.specs.Nodes.{kind_of}
use Rattle.json_span.specs.json_nodes.proofs.Sames.{number_of, string_of, word_null}
use Rattle.json_span.specs.json_nodes.proofs.Spelling.{decided}
use Rattle.rpc_message.specs.Message.{integer, is_integer, integer_if, id_of, response_id, is_two, is_error, is_integer_value, is_string_value}

some_integer : (b : Bool) (ds : List ℕ) → is_some (integer_if b ds) ≡ b
some_integer true ds = refl
some_integer false ds = refl

pub number_id : (t : Json) (x : Kind) (b : Bool) (at : ℕ) (w : List ℕ) → x ≡ kind.Number → x ≡ kind_of t → value t at w → b ≡ is_integer w → b ≡ is_some (id_of t)
number_id t x b at w e f v h = let k : (s : Span) × (ds : List ℕ) × (t ≡ number s ds) = number_of t (sym f ∙ e) in go k.0 k.1 k.2
  where
    go : (s : Span) (ds : List ℕ) → t ≡ number s ds → b ≡ is_some (id_of t)
    go s ds g = let spelled : value (number s ds) at w = subst (λ z. value z at w) g v in
        h ∙ ap is_integer spelled.0.0 ∙ sym (ap (λ z. is_some (id_of z)) g ∙ some_integer (is_integer ds) ds)

pub text_id : (t : Json) (x : Kind) → x ≡ kind.Text → x ≡ kind_of t → true ≡ is_some (id_of t)
text_id t x e f = let k : (s : Span) × (cs : List ℕ) × (t ≡ string s cs) = string_of t (sym f ∙ e) in sym (ap (λ z. is_some (id_of z)) k.2)

pub no_id : (t : Json) (x : Kind) → (x ≡ kind.Number → ⊥) → (x ≡ kind.Text → ⊥) → x ≡ kind_of t → false ≡ is_some (id_of t)
no_id (number s ds) x n k e = absurd (n e)
no_id (string s cs) x n k e = absurd (k e)
no_id (word s w) x n k e = refl
no_id (array s js) x n k e = refl
no_id (object s ms) x n k e = refl

some_response : (b : Bool) (ds : List ℕ) → is_some (if b then Some (Some (integer ds)) else None) ≡ b
some_response true ds = refl
some_response false ds = refl

pub number_response : (t : Json) (x : Kind) (b : Bool) (at : ℕ) (w : List ℕ) → x ≡ kind.Number → x ≡ kind_of t → value t at w → b ≡ is_integer w → b ≡ is_some (response_id t)
number_response t x b at w e f v h = let k : (s : Span) × (ds : List ℕ) × (t ≡ number s ds) = number_of t (sym f ∙ e) in go k.0 k.1 k.2
  where
    go : (s : Span) (ds : List ℕ) → t ≡ number s ds → b ≡ is_some (response_id t)
    go s ds g = let spelled : value (number s ds) at w = subst (λ z. value z at w) g v in
        h ∙ ap is_integer spelled.0.0 ∙ sym (ap (λ z. is_some (response_id z)) g ∙ some_response (is_integer ds) ds)

text_response : (t : Json) (x : Kind) → x ≡ kind.Text → x ≡ kind_of t → true ≡ is_some (response_id t)
text_response t x e f = let k : (s : Span) × (cs : List ℕ) × (t ≡ string s cs) = string_of t (sym f ∙ e) in sym (ap (λ z. is_some (response_id z)) k.2)

null_response : (t : Json) (x : Kind) → x ≡ kind.Null → x ≡ kind_of t → true ≡ is_some (response_id t)
null_response t x e f = let k : (s : Span) × (t ≡ word s Null) = word_null t (sym f ∙ e) in sym (ap (λ z. is_some (response_id z)) k.1)

pub text_or_null : (t : Json) (x : Kind) → (x ≡ kind.Text) ⊎ (x ≡ kind.Null) → x ≡ kind_of t → true ≡ is_some (response_id t)
text_or_null t x (inl e) f = text_response t x e f
text_or_null t x (inr e) f = null_response t x e f

pub no_response : (t : Json) (x : Kind) → (x ≡ kind.Number → ⊥) → (x ≡ kind.Text → ⊥) → (x ≡ kind.Null → ⊥) → x ≡ kind_of t → false ≡ is_some (response_id t)
no_response (number s ds) x n k m e = absurd (n e)
no_response (string s cs) x n k m e = absurd (k e)
no_response (word s Null) x n k m e = absurd (m e)
no_response (word s False) x n k m e = refl
no_response (word s True) x n k m e = refl
no_response (array s js) x n k m e = refl
no_response (object s ms) x n k m e = refl

two_chars : chars (codes "2.0") ≡ codes "2.0"
unfolding chars
two_chars = refl

pub text_two : (doc : Doc) (o : Option Json) (n : ℕ) (x : Kind) (b : Bool) (raw : List ℕ) → x ≡ kind.Text → ((t : Json) → At doc n t → x ≡ kind_of t) → ((s : Span) (cs : List ℕ) → At doc n (string s cs) → SpellsCharacters cs raw)
    → ((cs : List ℕ) → SpellsCharacters cs raw → IsTrue b ↔ (cs ≡ chars (codes "2.0"))) → Found doc o (Some n) → b ≡ is_two o
text_two doc None n x b raw e k sp te f = absurd f
text_two doc (Some t) n x b raw e k sp te f = let q : (s : Span) × (cs : List ℕ) × (t ≡ string s cs) = string_of t (sym (k t f) ∙ e) in go q.0 q.1 q.2
  where
    go : (s : Span) (cs : List ℕ) → t ≡ string s cs → b ≡ is_two (Some t)
    go s cs g = decided b cs (chars (codes "2.0")) (te cs (sp s cs (subst (λ z. At doc n z) g f))) ∙ ap (λ z. bytes_eq cs z) two_chars ∙ sym (ap (λ z. is_two (Some z)) g)

error_members : (t : Json) → is_error t ≡ (is_integer_value (named_in (codes "code") t) && is_string_value (named_in (codes "message") t))
error_members (object s ms) = refl
error_members (word s w) = refl
error_members (number s ds) = refl
error_members (string s cs) = refl
error_members (array s js) = refl

code_chars : chars (codes "code") ≡ codes "code"
unfolding chars
code_chars = refl

message_chars : chars (codes "message") ≡ codes "message"
unfolding chars
message_chars = refl

pub error_and : (t : Json) (x y : Bool) → x ≡ is_integer_value (named_in (chars (codes "code")) t) → y ≡ is_string_value (named_in (chars (codes "message")) t) → x ≡ true → y ≡ is_error t
error_and t x y e f h =
    let code : is_integer_value (named_in (codes "code") t) ≡ true = sym (ap (λ z. is_integer_value (named_in z t)) code_chars) ∙ sym e ∙ h in
    f ∙ ap (λ z. is_string_value (named_in z t)) message_chars ∙ sym (error_members t ∙ ap (λ z. z && is_string_value (named_in (codes "message") t)) code)

pub error_not : (t : Json) (x : Bool) → x ≡ is_integer_value (named_in (chars (codes "code")) t) → x ≡ false → x ≡ is_error t
error_not t x e h =
    let code : is_integer_value (named_in (codes "code") t) ≡ false = sym (ap (λ z. is_integer_value (named_in z t)) code_chars) ∙ sym e ∙ h in
    h ∙ sym (error_members t ∙ ap (λ z. z && is_string_value (named_in (codes "message") t)) code)
