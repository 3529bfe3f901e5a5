-- The words on members don't see places.
use Rattle.std.proofs.Common.{◌≡◌, ℕ, Bool, true, false, ◌||◌, List, codes, refl, ◌∙◌, ap, ap₂}
use Rattle.std.specs.Prelude.{Option, Some, None, option_map}
use Rattle.json_text.specs.Bare.{bare}
use Rattle.json_text.specs.Json.{Json, word, number, string, array, object}
use Rattle.json_text.specs.Named.{named_in}
use Rattle.json_text.proofs.Put.{named_bare}
use Rattle.rpc_message.specs.Message.{is_integer_value, is_string_value}
use Rattle.mux_model.specs.event_model.specs.Members.{named_of, is_token, has_token}

pub in_bare : (cs : List ℕ) (j : Json) → named_in cs (bare j) ≡ option_map bare (named_in cs j)
in_bare cs (object s ms) = named_bare cs ms
in_bare cs (word s w) = refl
in_bare cs (number s ds) = refl
in_bare cs (string s ds) = refl
in_bare cs (array s js) = refl

pub of_bare : (cs : List ℕ) (o : Option Json) → named_of cs (option_map bare o) ≡ option_map bare (named_of cs o)
of_bare cs (Some j) = in_bare cs j
of_bare cs None = refl

pub integer_bare : (o : Option Json) → is_integer_value (option_map bare o) ≡ is_integer_value o
integer_bare None = refl
integer_bare (Some (string s cs)) = refl
integer_bare (Some (word s w)) = refl
integer_bare (Some (number s ds)) = refl
integer_bare (Some (array s js)) = refl
integer_bare (Some (object s ms)) = refl

pub string_bare : (o : Option Json) → is_string_value (option_map bare o) ≡ is_string_value o
string_bare None = refl
string_bare (Some (string s cs)) = refl
string_bare (Some (word s w)) = refl
string_bare (Some (number s ds)) = refl
string_bare (Some (array s js)) = refl
string_bare (Some (object s ms)) = refl

token_bare : (o : Option Json) → is_token (option_map bare o) ≡ is_token o
token_bare o = ap₂ (λ a b. a || b) (integer_bare o) (string_bare o)

named_token : (cs : List ℕ) (o : Option Json) → is_token (named_of cs (option_map bare o)) ≡ is_token (named_of cs o)
named_token cs o = ap is_token (of_bare cs o) ∙ token_bare (named_of cs o)

pub params_token : (o : Option Json) → has_token (option_map bare o) ≡ has_token o
params_token o = ap₂ (λ a b. a || b) (named_token (codes "workDoneToken") o) (named_token (codes "partialResultToken") o)

pub either_first : (a b x : Bool) → x ≡ a → x ≡ true → x ≡ (a || b)
either_first true b x e h = e
either_first false b x e h = absurd (cc)

pub either_second : (a b x y : Bool) → x ≡ a → x ≡ false → y ≡ b → y ≡ (a || b)
either_second false b x y e h f = f
either_second true b x y e h f = absurd (cc)
