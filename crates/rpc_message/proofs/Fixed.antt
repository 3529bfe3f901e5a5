-- What the fixed texts are, as messages.
use Rattle.std.proofs.Common.{◌≡◌, ℕ, ◌≤◌, Bool, true, false, ◌&&◌, List, [], ◌∷◌, ◌++◌, Option, Some, None, if◌then◌else◌, codes, IsTrue, nat_le, inl, inr, refl, sym, ◌∙◌, ap, subst, arith, append_assoc, append-nil}
use Rattle.std.proofs.lemmas.Bool.{and_parts}
use Rattle.std.specs.Fmt.{signed_decimal, digits}
use Rattle.std.specs.Int.{w32}
use Rattle.std.specs.Int.RustNames.{FitsSigned}
use Rattle.json.specs.Print.{escape_byte, quoted}
use Rattle.json_text.specs.Computes.{computes}
use Rattle.json_text.specs.Json.{Json, word, number, string, array, object, no_members, member, depth}
use Rattle.json_text.specs.declared.kind.Word.TheVariants.{Null}
use Rattle.json_text.specs.Bare.{nowhere}
use Rattle.json_text.specs.Named.{named}
use Rattle.json_text.specs.Number.{is_digit, Digits, IsNumber}
use Rattle.json_text.specs.Read.{all_digits}
use Rattle.json_text.proofs.Compact.{all_simple, simple_string, closing_none, closing_member, compact_object, bare_text}
use Rattle.json_text.proofs.Forms.{says, says_of}
use Rattle.json_text.proofs.Put.{depth_bare}
use Rattle.rpc_message.specs.Message.{Id, integer, notification, result, error, no_name_twice, is_integer, integer_if, id_of, response_id, error_if, response_with, message_of}
use Rattle.rpc_message.specs.Texts.{ok_text, Code, parse_error, invalid_request, method_not_found, invalid_params, server_not_initialized, request_cancelled, content_modified, request_failed, code_text, code_number, code_message, error_reply_text, error_text, error_tree, failure_tree, initialized_text}
use Rattle.rpc_message.specs.ValueTexts.{IsValueText, IsIdText, IsResponseIdText}
use Rattle.rpc_message.proofs.Meaning.{message_says}

-- a response's id is no array and no object
pub response_flat : (u : Json) (i : Option Id) → response_id u ≡ Some i → depth u ≡ 0
response_flat (word s w) i e = refl
response_flat (number s ds) i e = refl
response_flat (string s cs) i e = refl
response_flat (array s js) i e = absurd (cc)
response_flat (object s ms) i e = absurd (cc)

-- an id is a response's id
pub response_is_id : (u : Json) (i : Id) → id_of u ≡ Some i → response_id u ≡ Some (Some i)
response_is_id (word s w) i e = absurd (cc)
response_is_id (number s ds) i e = go (is_integer ds) e
  where
    go : (b : Bool) → integer_if b ds ≡ Some i → (if b then Some (Some (integer ds)) else None) ≡ Some (Some i)
    go true h = ap Some h
    go false h = absurd (cc)
response_is_id (string s cs) i e = ap Some e
response_is_id (array s js) i e = absurd (cc)
response_is_id (object s ms) i e = absurd (cc)

pub id_as_response : (i : Id) (w : List ℕ) → IsIdText i w → IsResponseIdText (Some i) w
id_as_response i w h = record { tree = h.tree; stands = h.stands; is = response_is_id h.tree i h.is }

pub null_as_response : IsResponseIdText None (codes "null")
null_as_response = record { tree = word (record { from = 0; to = 4 }) Null; stands = (refl, refl); is = refl }

ok_tree : Json → Json → Json
ok_tree u v = object nowhere (member nowhere (codes "jsonrpc") (string nowhere (codes "2.0")) (member nowhere (codes "id") u (member nowhere (codes "result") v no_members)))

five : (a b c d e : List ℕ) → (((a ++ b) ++ c) ++ d) ++ e ≡ a ++ (b ++ (c ++ (d ++ e)))
five a b c d e = simp append_assoc

ok_says : (u v : Json) (id r : List ℕ) → says u id → says v r → says (ok_tree u v) (ok_text id r)
unfolding ok_tree
ok_says u v id r h g = subst (λ z. says (ok_tree u v) z) (sym (five (codes "{\"jsonrpc\":\"2.0\",\"id\":") id (codes ",\"result\":") r (codes "}")))
    (compact_object nowhere nowhere (codes "jsonrpc") (string nowhere (codes "2.0")) (member nowhere (codes "id") u (member nowhere (codes "result") v no_members))
    (codes "\"2.0\"") (codes ",\"id\":" ++ (id ++ (codes ",\"result\":" ++ (r ++ codes "}")))) refl (simple_string nowhere (codes "2.0") refl)
    (closing_member nowhere (codes "id") u (member nowhere (codes "result") v no_members) id (codes ",\"result\":" ++ (r ++ codes "}")) refl h
    (closing_member nowhere (codes "result") v no_members r (codes "}") refl g closing_none)))

-- `ok ID R` is a result
pub ok_law : (i : Option Id) (v : Json) (id r : List ℕ) → IsResponseIdText i id → IsValueText v r → depth v ≤ 1023 → message_of (ok_text id r) ≡ result i v
unfolding ok_tree named no_name_twice
ok_law i v id r h g d =
    let flat : depth h.tree ≡ 0 = response_flat h.tree i h.is in
    let deep : depth g.tree ≡ depth v = sym (depth_bare g.tree) ∙ ap depth g.same in
    message_says (ok_tree h.tree g.tree) (ok_text id r) (bare_text (ok_tree h.tree g.tree) (ok_text id r) (ok_says h.tree g.tree id r (says_of h.tree 0 id h.stands) (says_of g.tree 0 r g.stands))) (omega arith)
    ∙ ap (λ o. response_with o None (Some g.tree)) h.is ∙ ap (λ t. result i t) g.same

abbrev error_value : List ℕ → List ℕ → List ℕ
error_value ct cm = codes "{\"code\":" ++ (ct ++ (codes ",\"message\":" ++ ((34 ∷ (cm ++ 34 ∷ [])) ++ codes "}")))

seven : (id ct cm : List ℕ) → codes "{\"jsonrpc\":\"2.0\",\"id\":" ++ id ++ codes ",\"error\":{\"code\":" ++ ct ++ codes ",\"message\":\"" ++ cm ++ codes "\"}}"
    ≡ codes "{\"jsonrpc\":\"2.0\",\"id\":" ++ (id ++ (codes ",\"error\":" ++ (error_value ct cm ++ codes "}")))
seven id ct cm = simp append_assoc

failure_says : (ct cm : List ℕ) → IsNumber ct → IsTrue (all_simple cm) → says (failure_tree ct cm) (error_value ct cm)
failure_says ct cm n h = compact_object nowhere nowhere (codes "code") (number nowhere ct) (member nowhere (codes "message") (string nowhere cm) no_members)
    ct (codes ",\"message\":" ++ ((34 ∷ (cm ++ 34 ∷ [])) ++ codes "}")) refl (refl, n)
    (closing_member nowhere (codes "message") (string nowhere cm) no_members (34 ∷ (cm ++ 34 ∷ [])) (codes "}") refl (simple_string nowhere cm h) closing_none)

unfoldable pub answer_tree : Json → Json → Json
answer_tree u e = object nowhere (member nowhere (codes "jsonrpc") (string nowhere (codes "2.0")) (member nowhere (codes "id") u (member nowhere (codes "error") e no_members)))

pub answer_says : (u e : Json) (id w : List ℕ) → says u id → says e w → says (answer_tree u e) (codes "{\"jsonrpc\":\"2.0\",\"id\":" ++ (id ++ (codes ",\"error\":" ++ (w ++ codes "}"))))
unfolding answer_tree
answer_says u e id w h g = compact_object nowhere nowhere (codes "jsonrpc") (string nowhere (codes "2.0")) (member nowhere (codes "id") u (member nowhere (codes "error") e no_members))
    (codes "\"2.0\"") (codes ",\"id\":" ++ (id ++ (codes ",\"error\":" ++ (w ++ codes "}")))) refl (simple_string nowhere (codes "2.0") refl)
    (closing_member nowhere (codes "id") u (member nowhere (codes "error") e no_members) id (codes ",\"error\":" ++ (w ++ codes "}")) refl h
    (closing_member nowhere (codes "error") e no_members w (codes "}") refl g closing_none))

failure_law : (i : Option Id) (ct cm id : List ℕ) → IsResponseIdText i id → IsNumber ct → is_integer ct ≡ true → IsTrue (all_simple cm)
    → message_of (codes "{\"jsonrpc\":\"2.0\",\"id\":" ++ id ++ codes ",\"error\":{\"code\":" ++ ct ++ codes ",\"message\":\"" ++ cm ++ codes "\"}}") ≡ error i (failure_tree ct cm)
unfolding answer_tree named no_name_twice
failure_law i ct cm id h n whole simple =
    let flat : depth h.tree ≡ 0 = response_flat h.tree i h.is in
    ap message_of (seven id ct cm)
    ∙ message_says (answer_tree h.tree (failure_tree ct cm)) (codes "{\"jsonrpc\":\"2.0\",\"id\":" ++ (id ++ (codes ",\"error\":" ++ (error_value ct cm ++ codes "}"))))
    (bare_text (answer_tree h.tree (failure_tree ct cm)) (codes "{\"jsonrpc\":\"2.0\",\"id\":" ++ (id ++ (codes ",\"error\":" ++ (error_value ct cm ++ codes "}"))))
    (answer_says h.tree (failure_tree ct cm) id (error_value ct cm) (says_of h.tree 0 id h.stands) (failure_says ct cm n simple))) (omega arith)
    ∙ ap (λ o. response_with o (Some (failure_tree ct cm)) None) h.is ∙ ap (λ b. error_if ((b && true) && true) i (failure_tree ct cm)) whole

pub digits_of : (ds : List ℕ) → all_digits ds ≡ true → Digits ds
unfolding all_digits
digits_of [] h = tt
digits_of (d ∷ ds) h = let k : (is_digit d ≡ true) × (all_digits ds ≡ true) = and_parts (is_digit d) (all_digits ds) h in (k.0, digits_of ds k.1)

below_zero : (d : ℕ) (ds : List ℕ) → IsTrue (nat_le 49 d && nat_le d 57) → all_digits ds ≡ true → IsNumber (45 ∷ d ∷ ds)
below_zero d ds h g = (45 ∷ [], d ∷ ds, [], [], inr refl, inr (d, ds, h, digits_of ds g, refl), inl refl, inl refl, ap (λ z. 45 ∷ d ∷ z) (sym (append-nil ds)))

-- `error ID C` is an error
pub error_law : (i : Option Id) (id : List ℕ) (c : Code) → IsResponseIdText i id → message_of (error_text id c) ≡ error i (error_tree c)
unfolding all_digits is_integer
error_law i id parse_error h = failure_law i (codes "-32700") (codes "Parse error") id h (below_zero 51 (codes "2700") refl refl) refl refl
error_law i id invalid_request h = failure_law i (codes "-32600") (codes "Invalid Request") id h (below_zero 51 (codes "2600") refl refl) refl refl
error_law i id method_not_found h = failure_law i (codes "-32601") (codes "Method not found") id h (below_zero 51 (codes "2601") refl refl) refl refl
error_law i id invalid_params h = failure_law i (codes "-32602") (codes "Invalid params") id h (below_zero 51 (codes "2602") refl refl) refl refl
error_law i id server_not_initialized h = failure_law i (codes "-32002") (codes "Server not initialized") id h (below_zero 51 (codes "2002") refl refl) refl refl
error_law i id request_cancelled h = failure_law i (codes "-32800") (codes "Request cancelled") id h (below_zero 51 (codes "2800") refl refl) refl refl
error_law i id content_modified h = failure_law i (codes "-32801") (codes "Content modified") id h (below_zero 51 (codes "2801") refl refl) refl refl
error_law i id request_failed h = failure_law i (codes "-32803") (codes "Request failed") id h (below_zero 51 (codes "2803") refl refl) refl refl

-- `initialized` is a notification with an empty object
pub initialized_law : message_of initialized_text ≡ notification (codes "initialized") (Some (object nowhere no_members))
unfolding computes message_of named no_name_twice is_integer
initialized_law = refl

-- an error of one of these codes is written as any error is

reply_whole : (id ct cm : List ℕ) → codes "{\"jsonrpc\":\"2.0\",\"id\":" ++ id ++ codes ",\"error\":{\"code\":" ++ ct ++ codes ",\"message\":" ++ cm ++ codes "}}"
    ≡ codes "{\"jsonrpc\":\"2.0\",\"id\":" ++ (id ++ (codes ",\"error\":{\"code\":" ++ (ct ++ (codes ",\"message\":" ++ (cm ++ codes "}}")))))
reply_whole id ct cm = simp append_assoc

answer_whole : (id ct cm : List ℕ) → codes "{\"jsonrpc\":\"2.0\",\"id\":" ++ id ++ codes ",\"error\":{\"code\":" ++ ct ++ codes ",\"message\":\"" ++ cm ++ codes "\"}}"
    ≡ codes "{\"jsonrpc\":\"2.0\",\"id\":" ++ (id ++ (codes ",\"error\":{\"code\":" ++ (ct ++ (codes ",\"message\":\"" ++ (cm ++ codes "\"}}")))))
answer_whole id ct cm = simp append_assoc

tail_same : (c : Code) → codes ",\"error\":{\"code\":" ++ (signed_decimal (code_number c) ++ (codes ",\"message\":" ++ (quoted (code_message c) ++ codes "}}")))
    ≡ codes ",\"error\":{\"code\":" ++ (code_text c ++ (codes ",\"message\":\"" ++ (code_message c ++ codes "\"}}")))
unfolding digits escape_byte
tail_same parse_error = refl
tail_same invalid_request = refl
tail_same method_not_found = refl
tail_same invalid_params = refl
tail_same server_not_initialized = refl
tail_same request_cancelled = refl
tail_same content_modified = refl
tail_same request_failed = refl

pub reply_same : (id : List ℕ) (c : Code) → error_reply_text id (code_number c) (code_message c) ≡ error_text id c
reply_same id c = reply_whole id (signed_decimal (code_number c)) (quoted (code_message c))
    ∙ ap (λ z. codes "{\"jsonrpc\":\"2.0\",\"id\":" ++ (id ++ z)) (tail_same c) ∙ sym (answer_whole id (code_text c) (code_message c))

pub number_fits : (c : Code) → FitsSigned w32 (code_number c)
number_fits parse_error = record { sfits = omega arith }
number_fits invalid_request = record { sfits = omega arith }
number_fits method_not_found = record { sfits = omega arith }
number_fits invalid_params = record { sfits = omega arith }
number_fits server_not_initialized = record { sfits = omega arith }
number_fits request_cancelled = record { sfits = omega arith }
number_fits content_modified = record { sfits = omega arith }
number_fits request_failed = record { sfits = omega arith }
