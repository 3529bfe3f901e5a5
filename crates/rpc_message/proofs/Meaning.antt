-- A message depends on its tree without places alone; so what says a tree is that tree's message.
use Rattle.std.proofs.Common.{◌≡◌, ℕ, ◌≤◌, Bool, true, false, ◌&&◌, not, List, Option, Some, None, is_some, option_map, codes, if◌then◌else◌, refl, sym, ◌∙◌, ap, ap₂, arith}
use Rattle.json_text.specs.Json.{Json, word, number, string, array, object, Members, no_members, member, depth}
use Rattle.json_text.specs.declared.kind.Word.TheVariants.{Null, False, True}
use Rattle.json_text.specs.Bare.{bare, bare_members}
use Rattle.json_text.specs.Named.{named}
use Rattle.json_text.proofs.Forms.{SaysText}
use Rattle.json_text.proofs.Moves.{PlacedText, placed_text}
use Rattle.json_text.proofs.Put.{named_bare, bare_bare}
use Rattle.rpc_message.specs.Message.{Id, Message, result, error, not_message, no_name_twice, id_of, is_two, is_null, are_params, given, result_tree, is_integer_value, is_string_value, is_error, request_if, notification_if, called, response_id, error_if, outcome, response_with, answered, by_method, message_in, message_of}
use Rattle.json_text.proofs.Laws.{tree_complete}

some_bare : (o : Option Json) → is_some (option_map bare o) ≡ is_some o
some_bare (Some j) = refl
some_bare None = refl

pub once_bare : (ms : Members) → no_name_twice (bare_members ms) ≡ no_name_twice ms
unfolding no_name_twice
once_bare no_members = refl
once_bare (member s cs j ms) = ap₂ (λ a b. not a && b) (ap is_some (named_bare cs ms) ∙ some_bare (named cs ms)) (once_bare ms)

two_bare : (o : Option Json) → is_two (option_map bare o) ≡ is_two o
two_bare (Some (string s cs)) = refl
two_bare (Some (word s w)) = refl
two_bare (Some (number s ds)) = refl
two_bare (Some (array s js)) = refl
two_bare (Some (object s ms)) = refl
two_bare None = refl

null_bare : (j : Json) → is_null (bare j) ≡ is_null j
null_bare (string s cs) = refl
null_bare (word s Null) = refl
null_bare (word s False) = refl
null_bare (word s True) = refl
null_bare (number s ds) = refl
null_bare (array s js) = refl
null_bare (object s ms) = refl

pub id_bare : (j : Json) → id_of (bare j) ≡ id_of j
id_bare (string s cs) = refl
id_bare (word s w) = refl
id_bare (number s ds) = refl
id_bare (array s js) = refl
id_bare (object s ms) = refl

pub response_id_bare : (j : Json) → response_id (bare j) ≡ response_id j
response_id_bare (string s cs) = refl
response_id_bare (word s Null) = refl
response_id_bare (word s False) = refl
response_id_bare (word s True) = refl
response_id_bare (number s ds) = refl
response_id_bare (array s js) = refl
response_id_bare (object s ms) = refl

params_bare : (o : Option Json) → are_params (option_map bare o) ≡ are_params o
params_bare None = refl
params_bare (Some (string s cs)) = refl
params_bare (Some (word s Null)) = refl
params_bare (Some (word s False)) = refl
params_bare (Some (word s True)) = refl
params_bare (Some (number s ds)) = refl
params_bare (Some (array s js)) = refl
params_bare (Some (object s ms)) = refl

pub given_bare : (o : Option Json) → given (option_map bare o) ≡ given o
given_bare None = refl
given_bare (Some j) = ap₂ (λ b k. if b then None else Some k) (null_bare j) (bare_bare j)

pub result_bare : (o : Option Json) → result_tree (option_map bare o) ≡ result_tree o
result_bare None = refl
result_bare (Some j) = bare_bare j

integer_bare : (o : Option Json) → is_integer_value (option_map bare o) ≡ is_integer_value o
integer_bare None = refl
integer_bare (Some (string s cs)) = refl
integer_bare (Some (word s w)) = refl
integer_bare (Some (number s ds)) = refl
integer_bare (Some (array s js)) = refl
integer_bare (Some (object s ms)) = refl

string_bare : (o : Option Json) → is_string_value (option_map bare o) ≡ is_string_value o
string_bare None = refl
string_bare (Some (string s cs)) = refl
string_bare (Some (word s w)) = refl
string_bare (Some (number s ds)) = refl
string_bare (Some (array s js)) = refl
string_bare (Some (object s ms)) = refl

error_bare : (j : Json) → is_error (bare j) ≡ is_error j
error_bare (string s cs) = refl
error_bare (word s w) = refl
error_bare (number s ds) = refl
error_bare (array s js) = refl
error_bare (object s ms) = ap₂ (λ a b. a && b) (ap is_integer_value (named_bare (codes "code") ms) ∙ integer_bare (named (codes "code") ms))
    (ap is_string_value (named_bare (codes "message") ms) ∙ string_bare (named (codes "message") ms))

called_bare : (method : List ℕ) (id params : Option Json) → called method (option_map bare id) (option_map bare params) ≡ called method id params
called_bare method (Some id) params = ap₂ (λ b p. request_if b (id_of (bare id)) method p) (params_bare params) (given_bare params)
    ∙ ap (λ i. request_if (are_params params) i method (given params)) (id_bare id)
called_bare method None params = ap₂ (λ b p. notification_if b method p) (params_bare params) (given_bare params)

choice_same : (a b : Bool) (x y z w : Message) → a ≡ b → x ≡ z → y ≡ w → (if a then x else y) ≡ (if b then z else w)
choice_same true true x y z w p q r = q
choice_same false false x y z w p q r = r
choice_same true false x y z w p q r = absurd (cc)
choice_same false true x y z w p q r = absurd (cc)

error_same : (a b : Bool) (id : Option Id) (e : Json) → a ≡ b → error_if a id (bare e) ≡ error_if b id e
error_same true true id e p = ap (λ k. error id k) (bare_bare e)
error_same false false id e p = refl
error_same true false id e p = absurd (cc)
error_same false true id e p = absurd (cc)

outcome_bare : (id : Option Id) (failure value : Option Json) → outcome id (option_map bare failure) (option_map bare value) ≡ outcome id failure value
outcome_bare id (Some e) value = choice_same (is_null (bare e)) (is_null e) (result id (result_tree (option_map bare value))) (error_if (is_error (bare e) && not (is_some (given (option_map bare value)))) id (bare e))
    (result id (result_tree value)) (error_if (is_error e && not (is_some (given value))) id e)
    (null_bare e) (ap (λ v. result id v) (result_bare value))
    (error_same (is_error (bare e) && not (is_some (given (option_map bare value)))) (is_error e && not (is_some (given value))) id e
    (ap₂ (λ a b. a && not (is_some b)) (error_bare e) (given_bare value)))
outcome_bare id None value = ap (λ v. result id v) (result_bare value)

answered_bare : (id failure value : Option Json) → answered (option_map bare id) (option_map bare failure) (option_map bare value) ≡ answered id failure value
answered_bare (Some id) failure value = ap (λ i. response_with i (option_map bare failure) (option_map bare value)) (response_id_bare id) ∙ go (response_id id)
  where
    go : (i : Option (Option Id)) → response_with i (option_map bare failure) (option_map bare value) ≡ response_with i failure value
    go (Some i) = outcome_bare i failure value
    go None = refl
answered_bare None failure value = refl

method_bare : (o : Option Json) (ms : Members) → by_method (option_map bare o) (bare_members ms) ≡ by_method o ms
method_bare (Some (string s method)) ms = ap₂ (λ i p. called method i p) (named_bare (codes "id") ms) (named_bare (codes "params") ms) ∙ called_bare method (named (codes "id") ms) (named (codes "params") ms)
method_bare (Some (word s w)) ms = refl
method_bare (Some (number s ds)) ms = refl
method_bare (Some (array s js)) ms = refl
method_bare (Some (object s ns)) ms = refl
method_bare None ms = three (named (codes "id") (bare_members ms)) (option_map bare (named (codes "id") ms)) (named (codes "error") (bare_members ms)) (option_map bare (named (codes "error") ms))
    (named (codes "result") (bare_members ms)) (option_map bare (named (codes "result") ms)) (named_bare (codes "id") ms) (named_bare (codes "error") ms) (named_bare (codes "result") ms)
    ∙ answered_bare (named (codes "id") ms) (named (codes "error") ms) (named (codes "result") ms)
  where
    three : (a b c d e f : Option Json) → a ≡ b → c ≡ d → e ≡ f → answered a c e ≡ answered b d f
    three a b c d e f p q r = ap₂ (λ x y. answered x y e) p q ∙ ap (λ z. answered b d z) r

-- a message is its tree's without places
pub message_bare : (j : Json) → message_in (Some (bare j)) ≡ message_in (Some j)
message_bare (string s cs) = refl
message_bare (word s w) = refl
message_bare (number s ds) = refl
message_bare (array s js) = refl
message_bare (object s ms) = choice_same (no_name_twice (bare_members ms) && is_two (named (codes "jsonrpc") (bare_members ms))) (no_name_twice ms && is_two (named (codes "jsonrpc") ms))
    (by_method (named (codes "method") (bare_members ms)) (bare_members ms)) not_message (by_method (named (codes "method") ms) ms) not_message
    (ap₂ (λ a b. a && b) (once_bare ms) (ap is_two (named_bare (codes "jsonrpc") ms) ∙ two_bare (named (codes "jsonrpc") ms)))
    (ap (λ o. by_method o (bare_members ms)) (named_bare (codes "method") ms) ∙ method_bare (named (codes "method") ms) ms) refl

pub message_says : (j : Json) (bytes : List ℕ) → SaysText j bytes → depth j ≤ 1024 → message_of bytes ≡ message_in (Some j)
unfolding message_of
message_says j bytes h d =
    let p : PlacedText j bytes = placed_text j bytes h in
    ap message_in (tree_complete bytes p.tree p.text (omega (arith, p.deep))) ∙ sym (message_bare p.tree) ∙ ap (λ k. message_in (Some k)) p.same ∙ message_bare j
