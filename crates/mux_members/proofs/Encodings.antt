-- How positions count, by a result.
use Rattle.std.proofs.Common.{◌≡◌, ℕ, Bool, true, false, ◌&&◌, List, [], ◌∷◌, codes, Option, Some, None, refl, sym, ◌∙◌, ap, ap₂, subst}
use Rattle.std.specs.Prelude.{bytes_eq, option_map, if◌then◌else◌}
use Rattle.std.proofs.lemmas.Cmp.{nat_eq_equiv}
use Rattle.json_text.specs.declared.span.Span.{Span}
use Rattle.json_text.specs.Bare.{bare}
use Rattle.json_text.specs.Json.{Json, word, number, string, array, object}
use Rattle.json_text.specs.Named.{named_in}
use Rattle.json_nodes.specs.At.{Found}
use Rattle.json_nodes.specs.Doc.{Doc}
use Rattle.position_codec.specs.declared.Encoding.{Encoding}
use Rattle.position_codec.specs.declared.Encoding.TheVariants.{Utf8, Utf16, Utf32}
use Rattle.rpc_message.specs.declared.envelope.Envelope.{Envelope}
use Rattle.rpc_message.specs.declared.envelope.Envelope.TheVariants.{Request, Notification, Outcome, Failure}
use Rattle.rpc_message.specs.Envelopes.{Tells}
use Rattle.rpc_message.specs.Message.{Id, Message, request, notification, result, error, result_tree, is_string_value}
use Rattle.mux_model.specs.Documents.{encoding_in, encoding_named}
use Rattle.mux_model.specs.event_model.specs.Members.{named_of, string_of}
use Rattle.mux_members.specs.Envelopes.{outcome_value}
use Rattle.mux_members.specs.Results.{value_encoding}
use Rattle.mux_members.proofs.Bared.{in_bare, of_bare}

eq_turned : (xs ys : List ℕ) → bytes_eq xs ys ≡ bytes_eq ys xs
eq_turned [] [] = refl
eq_turned [] (y ∷ ys) = refl
eq_turned (x ∷ xs) [] = refl
eq_turned (x ∷ xs) (y ∷ ys) = ap₂ (λ a b. a && b) (nat_eq_equiv.symm x y) (eq_turned xs ys)

-- the name of an encoding
abbrev pub name_in : Option Json → Option Json
name_in o = named_of (codes "positionEncoding") (named_of (codes "capabilities") o)

pub by_name : (o : Option Json) → encoding_named (string_of (name_in o)) ≡ value_encoding o
by_name None = refl
by_name (Some j) = refl

pub no_name : (o : Option Json) → is_string_value o ≡ false → Utf16 ≡ encoding_named (string_of o)
no_name None e = refl
no_name (Some (word s w)) e = refl
no_name (Some (number s ds)) e = refl
no_name (Some (array s js)) e = refl
no_name (Some (object s ms)) e = refl
no_name (Some (string s cs)) e = absurd (cc)

string_there : (o : Option Json) → is_string_value o ≡ true → (s : Span) × (cs : List ℕ) × (o ≡ Some (string s cs))
string_there (Some (string s cs)) e = (s, cs, refl)
string_there None e = absurd (cc)
string_there (Some (word s w)) e = absurd (cc)
string_there (Some (number s ds)) e = absurd (cc)
string_there (Some (array s js)) e = absurd (cc)
string_there (Some (object s ms)) e = absurd (cc)

abbrev pub name_of : Bool → Bool → Encoding
name_of x y = if x then Utf8 else if y then Utf32 else Utf16

-- by the tests of the two names
tested : (cs : List ℕ) (x y : Bool) → x ≡ bytes_eq (codes "utf-8") cs → y ≡ bytes_eq (codes "utf-32") cs → name_of x y ≡ encoding_named (Some cs)
tested cs x y e f = ap₂ (λ a b. name_of a b) (e ∙ eq_turned (codes "utf-8") cs) (f ∙ eq_turned (codes "utf-32") cs)

-- what a string tells by such a test
abbrev pub Tested : Doc → Option ℕ → List ℕ → Bool → Type 0
Tested doc place name b = (s : Span) (cs : List ℕ) → Found doc (Some (string s cs)) place → b ≡ bytes_eq name cs

module _ (doc : Doc) (o : Option Json) (place : Option ℕ) (is : is_string_value o ≡ true) (f : Found doc o place) where
  pub named_utf8 : (x : Bool) → Tested doc place (codes "utf-8") x → x ≡ true → Utf8 ≡ encoding_named (string_of o)
  named_utf8 x test e =
      let t : (s : Span) × (cs : List ℕ) × (o ≡ Some (string s cs)) = string_there o is in
      let y : Bool = bytes_eq (codes "utf-32") t.1 in
      sym (ap (λ b. name_of b y) e) ∙ tested t.1 x y (test t.0 t.1 (subst (λ z. Found doc z place) t.2 f)) refl ∙ sym (ap (λ z. encoding_named (string_of z)) t.2)

  pub named_other : (x y : Bool) (r : Encoding) → Tested doc place (codes "utf-8") x → Tested doc place (codes "utf-32") y → r ≡ name_of x y → r ≡ encoding_named (string_of o)
  named_other x y r first second e =
      let t : (s : Span) × (cs : List ℕ) × (o ≡ Some (string s cs)) = string_there o is in
      let there : Found doc (Some (string t.0 t.1)) place = subst (λ z. Found doc z place) t.2 f in
      e ∙ tested t.1 x y (first t.0 t.1 there) (second t.0 t.1 there) ∙ sym (ap (λ z. encoding_named (string_of z)) t.2)

pub name_utf32 : (x y : Bool) → x ≡ false → y ≡ true → Utf32 ≡ name_of x y
name_utf32 false true e f = refl
name_utf32 false false e f = absurd (cc)
name_utf32 true y e f = absurd (cc)

pub name_other : (x y : Bool) → x ≡ false → y ≡ false → Utf16 ≡ name_of x y
name_other false false e f = refl
name_other false true e f = absurd (cc)
name_other true y e f = absurd (cc)

-- of a message

string_bare : (o : Option Json) → string_of (option_map bare o) ≡ string_of o
string_bare None = refl
string_bare (Some (string s cs)) = refl
string_bare (Some (word s w)) = refl
string_bare (Some (number s ds)) = refl
string_bare (Some (array s js)) = refl
string_bare (Some (object s ms)) = refl

encoding_bare : (o : Option Json) → encoding_in (result_tree o) ≡ value_encoding o
encoding_bare None = refl
encoding_bare (Some j) = ap encoding_named (ap (λ z. string_of (named_of (codes "positionEncoding") z)) (in_bare (codes "capabilities") j) ∙ ap string_of (of_bare (codes "positionEncoding") (named_in (codes "capabilities") j)) ∙ string_bare (name_in (Some j)))

pub told_encoding : (doc : Doc) (e : Envelope) (m : Message) (id : Option Id) (value : Json) (r : Encoding) → Tells doc e m → m ≡ result id value → ((o : Option Json) → Found doc o (outcome_value e) → r ≡ value_encoding o) → r ≡ encoding_in value
told_encoding doc (Outcome i v) m id value r t h tell =
    let same : value ≡ result_tree t.value = (let is : m ≡ result t.id (result_tree t.value) = t.is in cc) in
    tell t.value t.value_stands ∙ sym (ap encoding_in same ∙ encoding_bare t.value)
told_encoding doc (Request i n p) m id value r t h tell = absurd (let is : m ≡ request t.id t.method (option_map bare t.params) = t.is in cc)
told_encoding doc (Notification n p) m id value r t h tell = absurd (let is : m ≡ notification t.method (option_map bare t.params) = t.is in cc)
told_encoding doc (Failure i f) m id value r t h tell = absurd (let is : m ≡ error t.id (bare t.failure) = t.is in cc)
