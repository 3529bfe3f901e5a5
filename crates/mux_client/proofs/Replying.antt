-- Which reply a body is to a request.
use Rattle.std.proofs.Common.{◌≡◌, ℕ, Bool, true, false, ◌&&◌, List, [], ◌∷◌, codes, refl, sym, ap, ◌∙◌, subst, bytes_eq, arith, if◌then◌else◌}
use Rattle.std.specs.Prelude.{Option, Some, None}
use Rattle.std.proofs.lemmas.Fmt.{decimal_digit}
use Rattle.std.proofs.lemmas.Slice.Eq.{bytes_eq-Decides}
use Rattle.json_text.specs.declared.kind.Word.TheVariants.{Null, False, True}
use Rattle.json_text.specs.Json.{Json, word, number, string, array, object, value}
use Rattle.json_text.proofs.Compact.{simple_spells}
use Rattle.rpc_message.specs.Ids.{is_quoted}
use Rattle.rpc_message.specs.Message.{Message, Id, integer, text, request, notification, result, error, not_json, not_message, id_bytes, id_of, integer_if, is_integer, message_of, response_id, same_id}
use Rattle.rpc_message.specs.Sorts.{sort_of}
use Rattle.rpc_message.specs.declared.sort.Sort.{Sort}
use Rattle.rpc_message.specs.declared.sort.Sort.TheVariants as sort
use Rattle.rpc_message.specs.ValueTexts.{IsIdText, IsResponseIdText}
use Rattle.rpc_message.proofs.Decimals.{decimal_law}
use Rattle.rpc_message.proofs.Ids.{error_id_bytes, result_id_bytes}
use Rattle.mux_client.specs.Replies.{SaysSort, reply_sort}
use Rattle.mux_client.specs.Requests.{IsRefusal, IsResult, open_id, question_id}

-- the ids that are sent
pub open_id_text : IsIdText open_id (codes "\"lspmux:open\"")
open_id_text = record {
  tree = string (record { from = 0; to = 13 }) (codes "lspmux:open");
  stands = ((34 ∷ [], codes "lspmux:open\"", refl, refl, (codes "lspmux:open", 34 ∷ [], refl, simple_spells (codes "lspmux:open") refl, refl)), refl);
  is = refl;
}

pub question_id_text : IsIdText question_id (codes "1")
question_id_text = subst (λ digits. IsIdText (integer digits) digits) (decimal_digit 1 (omega arith)) (decimal_law 1 (omega arith))

-- an id is the one that is asked for
abbrev pub is_id : Id → Option Id → Bool
is_id asked None = false
is_id asked (Some i) = same_id i asked

same_is : (i j : Id) → same_id i j ≡ true → i ≡ j
same_is (integer a) (integer b) e = ap integer ((bytes_eq-Decides a b).0 e)
same_is (text a) (text b) e = ap text ((bytes_eq-Decides a b).0 e)
same_is (integer a) (text b) e = absurd (cc)
same_is (text a) (integer b) e = absurd (cc)

same_self : (i : Id) → same_id i i ≡ true
same_self (integer a) = (bytes_eq-Decides a a).1 refl
same_self (text a) = (bytes_eq-Decides a a).1 refl

-- what the test of two ids says of a body's, where the id asked for isn't written as null
module _ (asked : Id) (id w : List ℕ) (b : Bool) (own : IsIdText asked id) (ids : (i j : Id) → IsIdText i w → IsIdText j id → b ≡ same_id i j)
    (plain : (is_quoted w && is_quoted id) ≡ false → b ≡ bytes_eq w id) (no_null : bytes_eq (codes "null") id ≡ false) where
  by_id : (i : Option Id) (t : Json) → value t 0 w → response_id t ≡ Some i → (j : Id) → id_of t ≡ Some j → i ≡ Some j → b ≡ is_id asked i
  by_id i t v e j is same = ids j asked (record { tree = t; stands = v; is = is }) own ∙ ap (is_id asked) (sym same)

  number_told : (i : Option Id) (t : Json) (ds : List ℕ) (x : Bool) → value t 0 w → (if x then Some (Some (integer ds)) else None) ≡ Some i → ((x ≡ true) → id_of t ≡ Some (integer ds)) → response_id t ≡ Some i → b ≡ is_id asked i
  number_told i t ds true v e is r = by_id i t v r (integer ds) (is refl) (let same : Some (integer ds) ≡ i = cc in sym same)
  number_told i t ds false v e is r = absurd (cc)

  null_told : (i : Option Id) → w ≡ codes "null" → ◌≡◌ {A = Option (Option Id)} (Some None) (Some i) → b ≡ is_id asked i
  null_told None e r = plain (ap (λ l. is_quoted l && is_quoted id) e) ∙ (ap (λ l. bytes_eq l id) e ∙ no_null)
  null_told (Some j) e r = absurd (cc)

  told_by : (i : Option Id) (t : Json) → value t 0 w → response_id t ≡ Some i → b ≡ is_id asked i
  told_by i (word s Null) v e = null_told i v.0 e
  told_by i (word s False) v e = absurd (cc)
  told_by i (word s True) v e = absurd (cc)
  told_by i (number s ds) v e = number_told i (number s ds) ds (is_integer ds) v e (λ h. ap (λ x. integer_if x ds) h) e
  told_by i (string s cs) v e = by_id i (string s cs) v e (text cs) refl (let same : Some (text cs) ≡ i = cc in sym same)
  told_by i (array s js) v e = absurd (cc)
  told_by i (object s ms) v e = absurd (cc)

  pub told : (i : Option Id) → IsResponseIdText i w → b ≡ is_id asked i
  told i h = told_by i h.tree h.stands h.is

-- the same where the test was of bytes that are these
pub told_of : (asked : Id) (id v w : List ℕ) (b : Bool) → IsIdText asked id → v ≡ w → ((i j : Id) → IsIdText i v → IsIdText j id → b ≡ same_id i j) → ((is_quoted v && is_quoted id) ≡ false → b ≡ bytes_eq v id)
    → bytes_eq (codes "null") id ≡ false → (i : Option Id) → IsResponseIdText i w → b ≡ is_id asked i
told_of asked id v w b own e ids plain no_null i h = told asked id v b own ids plain no_null i (subst (IsResponseIdText i) (sym e) h)

-- the id is the one asked for
found : (asked : Id) (i : Option Id) (b : Bool) → b ≡ is_id asked i → b ≡ true → i ≡ Some asked
found asked None b e t = absurd (cc)
found asked (Some i) b e t = ap Some (same_is i asked (sym e ∙ t))

module _ (asked : Id) (body : List ℕ) (b : Bool) (ids : (i : Option Id) → IsResponseIdText i (id_bytes body) → b ≡ is_id asked i) where
  result_in : (m : Message) → message_of body ≡ m → sort_of m ≡ Some sort.Result → b ≡ true → IsResult asked body
  result_in (result i v) e s t = (v, e ∙ ap (λ o. result o v) (found asked i b (ids i (result_id_bytes body i v e)) t))
  result_in (request i m ps) e s t = absurd (cc)
  result_in (notification m ps) e s t = absurd (cc)
  result_in (error i f) e s t = absurd (cc)
  result_in not_json e s t = absurd (cc)
  result_in not_message e s t = absurd (cc)

  pub says_result : sort_of (message_of body) ≡ Some sort.Result → b ≡ true → IsResult asked body
  says_result s t = result_in (message_of body) refl s t

  refusal_in : (m : Message) → message_of body ≡ m → sort_of m ≡ Some sort.Error → b ≡ true → IsRefusal asked body
  refusal_in (error i f) e s t = (f, e ∙ ap (λ o. error o f) (found asked i b (ids i (error_id_bytes body i f e)) t))
  refusal_in (request i m ps) e s t = absurd (cc)
  refusal_in (notification m ps) e s t = absurd (cc)
  refusal_in (result i v) e s t = absurd (cc)
  refusal_in not_json e s t = absurd (cc)
  refusal_in not_message e s t = absurd (cc)

  pub says_refusal : sort_of (message_of body) ≡ Some sort.Error → b ≡ true → IsRefusal asked body
  says_refusal s t = refusal_in (message_of body) refl s t

  -- another id
  pub no_result : b ≡ false → IsResult asked body → ⊥
  no_result f h = let t : b ≡ true = ids (Some asked) (result_id_bytes body (Some asked) h.0 h.1) ∙ same_self asked in absurd (let c : true ≡ false = sym t ∙ f in cc)

  pub no_refusal : b ≡ false → IsRefusal asked body → ⊥
  no_refusal f h = let t : b ≡ true = ids (Some asked) (error_id_bytes body (Some asked) h.0 h.1) ∙ same_self asked in absurd (let c : true ≡ false = sym t ∙ f in cc)

-- another sort
pub result_sort : (asked : Id) (body : List ℕ) → IsResult asked body → sort_of (message_of body) ≡ Some sort.Result
result_sort asked body h = ap sort_of h.1

pub refusal_sort : (asked : Id) (body : List ℕ) → IsRefusal asked body → sort_of (message_of body) ≡ Some sort.Error
refusal_sort asked body h = ap sort_of h.1

unclassed : (asked : Id) (body : List ℕ) → sort_of (message_of body) ≡ None → (IsResult asked body → ⊥) × (IsRefusal asked body → ⊥)
unclassed asked body none =
    (λ r. let s : Some sort.Result ≡ None = sym (result_sort asked body r) ∙ none in absurd (cc), λ r. let s : Some sort.Error ≡ None = sym (refusal_sort asked body r) ∙ none in absurd (cc))

-- a body that is no message says nothing of a request
pub unread_json : (asked : Id) (body : List ℕ) → message_of body ≡ not_json → (IsResult asked body → ⊥) × (IsRefusal asked body → ⊥)
unread_json asked body e = unclassed asked body (ap sort_of e)

pub unread_message : (asked : Id) (body : List ℕ) → message_of body ≡ not_message → (IsResult asked body → ⊥) × (IsRefusal asked body → ⊥)
unread_message asked body e = unclassed asked body (ap sort_of e)

-- by the test of the ids and the class
pub same_says : (asked : Id) (body : List ℕ) (b : Bool) (x : Sort) → ((i : Option Id) → IsResponseIdText i (id_bytes body) → b ≡ is_id asked i) → b ≡ true → sort_of (message_of body) ≡ Some x → SaysSort asked body (reply_sort x)
same_says asked body b sort.Result ids t s = says_result asked body b ids s t
same_says asked body b sort.Error ids t s = says_refusal asked body b ids s t
same_says asked body b sort.Request ids t s = (λ r. let q : Some sort.Result ≡ Some sort.Request = sym (result_sort asked body r) ∙ s in absurd (cc), λ r. let q : Some sort.Error ≡ Some sort.Request = sym (refusal_sort asked body r) ∙ s in absurd (cc))
same_says asked body b sort.Notification ids t s =
    (λ r. let q : Some sort.Result ≡ Some sort.Notification = sym (result_sort asked body r) ∙ s in absurd (cc), λ r. let q : Some sort.Error ≡ Some sort.Notification = sym (refusal_sort asked body r) ∙ s in absurd (cc))

pub other_says : (asked : Id) (body : List ℕ) (b : Bool) → ((i : Option Id) → IsResponseIdText i (id_bytes body) → b ≡ is_id asked i) → b ≡ false → (IsResult asked body → ⊥) × (IsRefusal asked body → ⊥)
other_says asked body b ids f = (no_result asked body b ids f, no_refusal asked body b ids f)

-- an answer that refuses is no result
pub no_open_both : (body : List ℕ) → IsRefusal open_id body → IsResult open_id body → ⊥
no_open_both body f r = let q : Some sort.Result ≡ Some sort.Error = sym (result_sort open_id body r) ∙ refusal_sort open_id body f in absurd (cc)
