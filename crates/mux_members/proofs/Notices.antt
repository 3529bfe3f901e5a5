-- What a notification says of a document.
use Rattle.std.proofs.Common.{◌≡◌, ℕ, Bool, true, false, List, codes, Option, Some, None, refl, sym, ◌∙◌, ap, ap₂, subst}
use Rattle.std.specs.Prelude.{IsUtf8, encode_utf8_all, bytes_eq, if◌then◌else◌}
use Rattle.std.specs.Option.{option_and_then}
use Rattle.json_text.specs.declared.span.Span.{Span}
use Rattle.json_text.specs.Json.{Json, word, number, string, array, object, value, span_of}
use Rattle.json_nodes.specs.At.{At, Found}
use Rattle.json_nodes.specs.Doc.{Doc}
use Rattle.json_nodes.proofs.Spelled.{string_text}
use Rattle.json_nodes.specs.json_token.proofs.Scalars.{scalar_characters, utf8_characters}
use Rattle.rpc_message.specs.Message.{is_integer_value, is_string_value}
use Rattle.mux_model.specs.Sayings.{integer_text}
use Rattle.mux_model.specs.Sayings.{Saying, nothing, member_of, opening_by, changing_by, closing_by, saying_by}
use Rattle.mux_model.specs.event_model.specs.Members.{named_of}

-- a string's characters are a text
pub text_utf8 : (doc : Doc) (o : Option Json) (place : Option ℕ) (n : ℕ) (text : List ℕ) → Some n ≡ place → is_string_value o ≡ true → ((s : Span) (cs : List ℕ) → At doc n (string s cs) → text ≡ encode_utf8_all cs) → Found doc o place → IsUtf8 text
text_utf8 doc o place n text same is decoded f = go o is (subst (λ z. Found doc o z) (sym same) f)
  where
    go : (o : Option Json) → is_string_value o ≡ true → Found doc o (Some n) → IsUtf8 text
    go (Some (string s cs)) e a = subst IsUtf8 (sym (decoded s cs a)) (utf8_characters cs (scalar_characters cs _ (string_text doc n s cs a).text)).0
    go (Some (word s w)) e a = absurd (cc)
    go (Some (number s ds)) e a = absurd (cc)
    go (Some (array s js)) e a = absurd (cc)
    go (Some (object s ms)) e a = absurd (cc)
    go None e a = absurd (cc)

-- an integer's digits are its text
pub integer_digits : (doc : Doc) (o : Option Json) (place : Option ℕ) (w : List ℕ) → is_integer_value o ≡ true → ((t : Json) → Found doc (Some t) place → value t (span_of t).from w) → Found doc o place → ◌≡◌ {A = Option (List ℕ)} (Some w) (option_and_then integer_text o)
integer_digits doc (Some (number s ds)) place w e text f = ap (λ (z : List ℕ). Some z) (text (number s ds) f).0.0 ∙ sym (ap (λ b. if b then Some ds else None) e)
integer_digits doc (Some (word s x)) place w e text f = absurd (cc)
integer_digits doc (Some (string s cs)) place w e text f = absurd (cc)
integer_digits doc (Some (array s js)) place w e text f = absurd (cc)
integer_digits doc (Some (object s ms)) place w e text f = absurd (cc)
integer_digits doc None place w e text f = absurd (cc)

pub member_same : (name : List ℕ) (o : Option Json) → named_of name o ≡ member_of name o
member_same name None = refl
member_same name (Some j) = refl

-- which of the three methods it is

first_of : (x y z : Bool) (a b c : Saying) → x ≡ true → a ≡ (if x then a else if y then b else if z then c else nothing)
first_of true y z a b c e = refl
first_of false y z a b c e = absurd (cc)

second_of : (x y z : Bool) (a b c : Saying) → x ≡ false → y ≡ true → b ≡ (if x then a else if y then b else if z then c else nothing)
second_of false true z a b c e f = refl
second_of false false z a b c e f = absurd (cc)
second_of true y z a b c e f = absurd (cc)

third_of : (x y z : Bool) (a b c : Saying) → x ≡ false → y ≡ false → z ≡ true → c ≡ (if x then a else if y then b else if z then c else nothing)
third_of false false true a b c e f g = refl
third_of false false false a b c e f g = absurd (cc)
third_of false true z a b c e f g = absurd (cc)
third_of true y z a b c e f g = absurd (cc)

none_of : (x y z : Bool) (a b c : Saying) → x ≡ false → y ≡ false → z ≡ false → nothing ≡ (if x then a else if y then b else if z then c else nothing)
none_of false false false a b c e f g = refl
none_of false false true a b c e f g = absurd (cc)
none_of false true z a b c e f g = absurd (cc)
none_of true y z a b c e f g = absurd (cc)

module _ (cs : List ℕ) (o : Option Json) where
  abbrev is_open : Bool
  is_open = bytes_eq (codes "textDocument/didOpen") cs

  abbrev is_change : Bool
  is_change = bytes_eq (codes "textDocument/didChange") cs

  abbrev is_close : Bool
  is_close = bytes_eq (codes "textDocument/didClose") cs

  abbrev document : Option Json
  document = member_of (codes "textDocument") o

  abbrev edits : Option Json
  edits = member_of (codes "contentChanges") o

  pub said_open : is_open ≡ true → opening_by (named_of (codes "textDocument") o) ≡ saying_by cs o
  said_open e = ap opening_by (member_same (codes "textDocument") o) ∙ first_of is_open is_change is_close (opening_by document) (changing_by document edits) (closing_by document) e

  pub said_change : is_open ≡ false → is_change ≡ true → changing_by (named_of (codes "textDocument") o) (named_of (codes "contentChanges") o) ≡ saying_by cs o
  said_change e f = ap₂ (λ d c. changing_by d c) (member_same (codes "textDocument") o) (member_same (codes "contentChanges") o) ∙ second_of is_open is_change is_close (opening_by document) (changing_by document edits) (closing_by document) e f

  pub said_close : is_open ≡ false → is_change ≡ false → is_close ≡ true → closing_by (named_of (codes "textDocument") o) ≡ saying_by cs o
  said_close e f g = ap closing_by (member_same (codes "textDocument") o) ∙ third_of is_open is_change is_close (opening_by document) (changing_by document edits) (closing_by document) e f g

  pub said_other : is_open ≡ false → is_change ≡ false → is_close ≡ false → nothing ≡ saying_by cs o
  said_other e f g = none_of is_open is_change is_close (opening_by document) (changing_by document edits) (closing_by document) e f g
