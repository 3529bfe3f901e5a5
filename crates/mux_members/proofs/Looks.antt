-- What the look-ups over a text find.
use Rattle.std.proofs.Common.{◌≡◌, ℕ, Bool, true, List, IsTrue, ◌↔◌, sym, ◌∙◌, ap, subst}
use Rattle.std.specs.Prelude.{Option, Some, None, bytes_eq}
use Rattle.std.specs.Option.{option_and_then}
use Rattle.std.specs.Str.{chars}
use Rattle.json_text.specs.declared.span.Span.{Span}
use Rattle.json_text.specs.declared.kind.Kind.{Kind}
use Rattle.json_text.specs.declared.kind.Kind.TheVariants as kind
use Rattle.json_text.specs.Json.{Json, number, string, value, span_of}
use Rattle.json_text.specs.Named.{named_in}
use Rattle.json_text.specs.String.{SpellsCharacters}
use Rattle.json_nodes.specs.At.{At, Found}
use Rattle.json_nodes.specs.Doc.{Doc}
use Rattle.json_nodes.specs.Nodes.{kind_of}
use Rattle.json_nodes.proofs.Sames.{number_of}
use Rattle.rpc_message.specs.Message.{is_integer, is_integer_value}
use Rattle.json_nodes.proofs.Spelling.{named_so}
use Rattle.mux_model.specs.event_model.specs.Members.{named_of}
use Rattle.mux_members.specs.Finds.{is_ascii}
use Rattle.mux_members.proofs.Encoded.{ascii_chars}

pub member_found : (doc : Doc) (o : Option Json) (answer : Option ℕ) (name : List ℕ) → is_ascii name ≡ true → Found doc (option_and_then (named_in (chars name)) o) answer → Found doc (named_of name o) answer
member_found doc (Some t) answer name ascii h = subst (λ z. Found doc (named_in z t) answer) (ascii_chars name ascii) h
member_found doc None answer name ascii h = h

pub spells_name : (doc d : Doc) (place : Option ℕ) (n : ℕ) (s : Span) (cs name raw : List ℕ) (b : Bool) → is_ascii name ≡ true → Some n ≡ place → d ≡ doc → ((s : Span) (cs : List ℕ) → At d n (string s cs) → SpellsCharacters cs raw)
    → ((cs : List ℕ) → SpellsCharacters cs raw → IsTrue b ↔ (cs ≡ chars name)) → Found doc (Some (string s cs)) place → b ≡ bytes_eq name cs
spells_name doc d place n s cs name raw b ascii same is text test f =
    let a : At doc n (string s cs) = subst (λ z. Found doc (Some (string s cs)) z) (sym same) f in
    named_so b cs (chars name) (test cs (text s cs (subst (λ z. At z n (string s cs)) (sym is) a))) ∙ ap (λ z. bytes_eq z cs) (ascii_chars name ascii)

pub spells_nothing : (doc : Doc) (place inside : Option ℕ) (t : Json) → inside ≡ None → inside ≡ place → Found doc (Some t) place → ⊥
spells_nothing doc place inside t e same f = subst (λ z. Found doc (Some t) z) (sym same ∙ e) f

integer_number : (t : Json) (x : Kind) (at : ℕ) (w : List ℕ) (b : Bool) → x ≡ kind.Number → x ≡ kind_of t → value t at w → b ≡ is_integer w → b ≡ is_integer_value (Some t)
integer_number t x at w b e f v h = let k : (s : Span) × (ds : List ℕ) × (t ≡ number s ds) = number_of t (sym f ∙ e) in go k.0 k.1 k.2
  where
    go : (s : Span) (ds : List ℕ) → t ≡ number s ds → b ≡ is_integer_value (Some t)
    go s ds g = let spelled : value (number s ds) at w = subst (λ z. value z at w) g v in
        h ∙ ap is_integer spelled.0.0 ∙ sym (ap (λ z. is_integer_value (Some z)) g)

pub integer_found : (doc d : Doc) (o : Option Json) (place : Option ℕ) (n : ℕ) (x : Kind) (w : List ℕ) (b : Bool) → x ≡ kind.Number → Some n ≡ place → d ≡ doc → ((t : Json) → At doc n t → x ≡ kind_of t)
    → ((t : Json) → At d n t → value t (span_of t).from w) → b ≡ is_integer w → Found doc o place → b ≡ is_integer_value o
integer_found doc d o place n x w b e same is told text h f = go o (subst (λ z. Found doc o z) (sym same) f)
  where
    go : (o : Option Json) → Found doc o (Some n) → b ≡ is_integer_value o
    go (Some t) a = integer_number t x (span_of t).from w b e (told t a) (text t (subst (λ z. At z n t) (sym is) a)) h
    go None a = absurd a

pub value_found : (doc d : Doc) (place : Option ℕ) (n : ℕ) (t : Json) (w : List ℕ) → Some n ≡ place → d ≡ doc → ((t : Json) → At d n t → value t (span_of t).from w) → Found doc (Some t) place → value t (span_of t).from w
value_found doc d place n t w same is text f = text t (subst (λ z. At z n t) (sym is) (subst (λ z. Found doc (Some t) z) (sym same) f))
