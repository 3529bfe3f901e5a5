-- Members of params, by what a message and its body say of them.
use Rattle.std.proofs.Common.{◌≡◌, ℕ, List, Bool, true, false, codes, Option, Some, None, option_map, refl, sym, ◌∙◌, ap, if◌then◌else◌}
use Rattle.json_text.specs.Bare.{bare}
use Rattle.json_text.specs.Json.{Json, word, number, string, array, object}
use Rattle.json_text.specs.declared.kind.Word.TheVariants.{Null, False, True}
use Rattle.json_text.specs.Named.{named_in}
use Rattle.json_nodes.specs.Doc.{Doc}
use Rattle.mux_model.specs.document_model.specs.Sayings.{string_at}
use Rattle.rpc_message.specs.Envelopes.{not_null}
use Rattle.rpc_message.specs.Message.{Id, message_of, request}
use Rattle.rpc_message.specs.Parsed.{FoundBare, IsRead, Parsed, params_in}
use Rattle.mux_model.specs.event_model.specs.Members.{bytes_if, is_token, named_of, params_of}
use Rattle.mux_members.specs.Tokens.{text_of, token_bytes}
use Rattle.mux_members.proofs.Bared.{of_bare}
use Rattle.mux_members.proofs.Roots.{read_params}

-- params that are null have no members
named_null : (name : List ℕ) (o : Option Json) → named_of name (not_null o) ≡ named_of name o
named_null name None = refl
named_null name (Some (word s Null)) = refl
named_null name (Some (word s False)) = refl
named_null name (Some (word s True)) = refl
named_null name (Some (number s ds)) = refl
named_null name (Some (string s cs)) = refl
named_null name (Some (array s js)) = refl
named_null name (Some (object s ms)) = refl

bytes_null : (name : List ℕ) (o : Option Json) (body : List ℕ) → bytes_if name (not_null o) body ≡ bytes_if name o body
bytes_null name None body = refl
bytes_null name (Some (word s Null)) body = refl
bytes_null name (Some (word s False)) body = refl
bytes_null name (Some (word s True)) body = refl
bytes_null name (Some (number s ds)) body = refl
bytes_null name (Some (string s cs)) body = refl
bytes_null name (Some (array s js)) body = refl
bytes_null name (Some (object s ms)) body = refl

-- a member's characters

text_bare : (o : Option Json) → text_of (option_map bare o) ≡ text_of o
text_bare None = refl
text_bare (Some (word s w)) = refl
text_bare (Some (number s ds)) = refl
text_bare (Some (string s cs)) = refl
text_bare (Some (array s js)) = refl
text_bare (Some (object s ms)) = refl

at_named : (name : List ℕ) (o : Option Json) → string_at name o ≡ text_of (named_of name o)
at_named name None = refl
at_named name (Some t) = refl

-- of a request, by its body
module _ (m : Parsed) (body method : List ℕ) (id : Id) (params : Option Json) (read : IsRead m body) (says : message_of body ≡ request id method params) (name : List ℕ) where
  abbrev found : Option Json
  found = params_in (message_of body) read.tree

  abbrev root : Option Json
  root = named_in (codes "params") read.tree

  found_is : found ≡ not_null root
  found_is = ap (λ z. params_in z read.tree) says

  pub text_asked : string_at name found ≡ text_of (named_of name (params_of body))
  text_asked = at_named name found ∙ ap text_of (ap (named_of name) found_is ∙ named_null name root ∙ sym (ap (named_of name) (read_params m body read)))

  pub token_is : is_token (named_of name found) ≡ is_token (named_of name (params_of body))
  token_is = ap is_token (ap (named_of name) found_is ∙ named_null name root ∙ sym (ap (named_of name) (read_params m body read)))

  pub bytes_are : bytes_if name found body ≡ bytes_if name (params_of body) body
  bytes_are = ap (λ o. bytes_if name o body) found_is ∙ bytes_null name root body ∙ sym (ap (λ o. bytes_if name o body) (read_params m body read))

  pub token_there : (b : Bool) → b ≡ is_token (named_of name found) → b ≡ true → bytes_if name found body ≡ token_bytes name body
  token_there b is t = bytes_are ∙ sym (ap (λ z. if z then bytes_if name (params_of body) body else None) (sym token_is ∙ (sym is ∙ t)))

  pub no_token : (b : Bool) → b ≡ is_token (named_of name found) → b ≡ false → None ≡ token_bytes name body
  no_token b is f = sym (ap (λ z. if z then bytes_if name (params_of body) body else None) (sym token_is ∙ (sym is ∙ f)))

-- of a notification, by its message
pub text_told : (doc : Doc) (params : Option Json) (answer : Option ℕ) (told : FoundBare doc params answer) (name : List ℕ) → string_at name told.value ≡ text_of (named_of name params)
text_told doc params answer told name = at_named name told.value ∙ sym (ap (λ o. text_of (named_of name o)) told.is ∙ ap text_of (of_bare name told.value) ∙ text_bare (named_of name told.value))
