-- What is written anew is a message of its class, with these parts.
use Rattle.std.proofs.Common.{◌≡◌, ℕ, ℤ, ◌^◌, ◌<◌, ◌≤◌, true, ◌&&◌, List, [], ◌∷◌, ◌++◌, Option, Some, None, codes, decimal, IsUtf8, refl, ◌∙◌, ap, arith, append_assoc}
use Rattle.std.specs.Str.{chars}
use Rattle.std.specs.Fmt.{signed_decimal}
use Rattle.std.specs.Int.Signed.{mag}
use Rattle.json.specs.Print.{escape, quoted}
use Rattle.json_text.specs.Bare.{nowhere}
use Rattle.json_text.specs.Json.{Json, number, string, object, no_members, member, depth}
use Rattle.json_text.specs.Named.{named}
use Rattle.json_text.proofs.Compact.{simple_string, closing_none, closing_member, compact_object, bare_text}
use Rattle.json_text.proofs.Forms.{says, says_of}
use Rattle.json_span.proofs.Quoted.{spells_text}
use Rattle.rpc_message.specs.Message.{Id, integer, integer_if, is_integer, request, notification, error, no_name_twice, are_params, given, request_if, notification_if, error_if, response_with, message_in, message_of}
use Rattle.rpc_message.specs.Texts.{error_reply_text, failure_tree, notification_text, optional_member, optional_text, request_text}
use Rattle.rpc_message.specs.ValueTexts.{IsOptionText, IsResponseIdText, option_depth}
use Rattle.rpc_message.proofs.Decimals.{decimal_integer, decimal_number, signed_integer, signed_number}
use Rattle.rpc_message.proofs.Fixed.{answer_says, answer_tree, response_flat}
use Rattle.rpc_message.proofs.Meaning.{message_says}
use Rattle.rpc_message.proofs.Opening.{closing_optional}

quoted_says : (text : List ℕ) → IsUtf8 text → says (string nowhere (chars text)) (quoted text)
quoted_says text u = (34 ∷ [], escape text ++ 34 ∷ [], refl, refl, (escape text, 34 ∷ [], refl, spells_text text u, refl))

-- a request

asked : List ℕ → List ℕ → Option Json → Json
asked digits method params = object nowhere (member nowhere (codes "jsonrpc") (string nowhere (codes "2.0")) (member nowhere (codes "id") (number nowhere digits)
    (member nowhere (codes "method") (string nowhere method) (optional_member (codes "params") params no_members))))

asked_whole : (digits method params : List ℕ) → codes "{\"jsonrpc\":\"2.0\",\"id\":" ++ digits ++ codes ",\"method\":" ++ method ++ params ++ codes "}"
    ≡ codes "{\"jsonrpc\":\"2.0\",\"id\":" ++ (digits ++ (codes ",\"method\":" ++ (method ++ (params ++ codes "}"))))
asked_whole digits method params = simp append_assoc

asked_says : (n : ℕ) (method : List ℕ) (ps : Option Json) (params : Option (List ℕ)) → n < 10 ^ 64 → IsUtf8 method → IsOptionText ps params
    → says (asked (decimal n) (chars method) ps) (codes "{\"jsonrpc\":\"2.0\",\"id\":" ++ (decimal n ++ (codes ",\"method\":" ++ (quoted method ++ (optional_text (codes ",\"params\":") params ++ codes "}")))))
unfolding asked
asked_says n method ps params h u p = compact_object nowhere nowhere (codes "jsonrpc") (string nowhere (codes "2.0"))
    (member nowhere (codes "id") (number nowhere (decimal n)) (member nowhere (codes "method") (string nowhere (chars method)) (optional_member (codes "params") ps no_members)))
    (codes "\"2.0\"") (codes ",\"id\":" ++ (decimal n ++ (codes ",\"method\":" ++ (quoted method ++ (optional_text (codes ",\"params\":") params ++ codes "}"))))) refl (simple_string nowhere (codes "2.0") refl)
    (closing_member nowhere (codes "id") (number nowhere (decimal n)) (member nowhere (codes "method") (string nowhere (chars method)) (optional_member (codes "params") ps no_members))
    (decimal n) (codes ",\"method\":" ++ (quoted method ++ (optional_text (codes ",\"params\":") params ++ codes "}"))) refl (refl, decimal_number n h)
    (closing_member nowhere (codes "method") (string nowhere (chars method)) (optional_member (codes "params") ps no_members) (quoted method) (optional_text (codes ",\"params\":") params ++ codes "}") refl (quoted_says method u)
    (closing_optional (codes "params") ps params no_members (codes "}") refl p closing_none)))

asked_deep : (digits method : List ℕ) (ps : Option Json) → option_depth ps ≤ 1023 → depth (asked digits method ps) ≤ 1024
unfolding asked
asked_deep digits method None h = omega arith
asked_deep digits method (Some p) h = omega arith

asked_message : (n : ℕ) (method : List ℕ) (ps : Option Json) → n < 10 ^ 64 → are_params ps ≡ true → message_in (Some (asked (decimal n) method ps)) ≡ request (integer (decimal n)) method (given ps)
unfolding asked named no_name_twice
asked_message n method None h a = ap (λ b. request_if true (integer_if b (decimal n)) method None) (decimal_integer n h)
asked_message n method (Some p) h a = ap (λ b. request_if b (integer_if (is_integer (decimal n)) (decimal n)) method (given (Some p))) a ∙ ap (λ b. request_if true (integer_if b (decimal n)) method (given (Some p))) (decimal_integer n h)

pub request_law : (n : ℕ) (method : List ℕ) (ps : Option Json) (params : Option (List ℕ)) → n < 2 ^ 128 → IsUtf8 method → IsOptionText ps params → are_params ps ≡ true → option_depth ps ≤ 1023
    → message_of (request_text n method params) ≡ request (integer (decimal n)) (chars method) (given ps)
request_law n method ps params h u p a d =
    let text = codes "{\"jsonrpc\":\"2.0\",\"id\":" ++ (decimal n ++ (codes ",\"method\":" ++ (quoted method ++ (optional_text (codes ",\"params\":") params ++ codes "}")))) in
    let low : n < 10 ^ 64 = omega arith in
    ap message_of (asked_whole (decimal n) (quoted method) (optional_text (codes ",\"params\":") params))
    ∙ message_says (asked (decimal n) (chars method) ps) text (bare_text (asked (decimal n) (chars method) ps) text (asked_says n method ps params low u p)) (asked_deep (decimal n) (chars method) ps d)
    ∙ asked_message n (chars method) ps low a

-- a notification

told : List ℕ → Option Json → Json
told method params = object nowhere (member nowhere (codes "jsonrpc") (string nowhere (codes "2.0")) (member nowhere (codes "method") (string nowhere method) (optional_member (codes "params") params no_members)))

told_whole : (method params : List ℕ) → codes "{\"jsonrpc\":\"2.0\",\"method\":" ++ method ++ params ++ codes "}" ≡ codes "{\"jsonrpc\":\"2.0\",\"method\":" ++ (method ++ (params ++ codes "}"))
told_whole method params = simp append_assoc

told_says : (method : List ℕ) (ps : Option Json) (params : Option (List ℕ)) → IsUtf8 method → IsOptionText ps params
    → says (told (chars method) ps) (codes "{\"jsonrpc\":\"2.0\",\"method\":" ++ (quoted method ++ (optional_text (codes ",\"params\":") params ++ codes "}")))
unfolding told
told_says method ps params u p = compact_object nowhere nowhere (codes "jsonrpc") (string nowhere (codes "2.0"))
    (member nowhere (codes "method") (string nowhere (chars method)) (optional_member (codes "params") ps no_members))
    (codes "\"2.0\"") (codes ",\"method\":" ++ (quoted method ++ (optional_text (codes ",\"params\":") params ++ codes "}"))) refl (simple_string nowhere (codes "2.0") refl)
    (closing_member nowhere (codes "method") (string nowhere (chars method)) (optional_member (codes "params") ps no_members) (quoted method) (optional_text (codes ",\"params\":") params ++ codes "}") refl (quoted_says method u)
    (closing_optional (codes "params") ps params no_members (codes "}") refl p closing_none))

told_deep : (method : List ℕ) (ps : Option Json) → option_depth ps ≤ 1023 → depth (told method ps) ≤ 1024
unfolding told
told_deep method None h = omega arith
told_deep method (Some p) h = omega arith

told_message : (method : List ℕ) (ps : Option Json) → are_params ps ≡ true → message_in (Some (told method ps)) ≡ notification method (given ps)
unfolding told named no_name_twice
told_message method None a = refl
told_message method (Some p) a = ap (λ b. notification_if b method (given (Some p))) a

pub notification_law : (method : List ℕ) (ps : Option Json) (params : Option (List ℕ)) → IsUtf8 method → IsOptionText ps params → are_params ps ≡ true → option_depth ps ≤ 1023
    → message_of (notification_text method params) ≡ notification (chars method) (given ps)
notification_law method ps params u p a d =
    let text = codes "{\"jsonrpc\":\"2.0\",\"method\":" ++ (quoted method ++ (optional_text (codes ",\"params\":") params ++ codes "}")) in
    ap message_of (told_whole (quoted method) (optional_text (codes ",\"params\":") params))
    ∙ message_says (told (chars method) ps) text (bare_text (told (chars method) ps) text (told_says method ps params u p)) (told_deep (chars method) ps d)
    ∙ told_message (chars method) ps a

-- an error

failed_says : (digits text : List ℕ) → says (number nowhere digits) digits → IsUtf8 text → says (failure_tree digits (chars text)) (codes "{\"code\":" ++ (digits ++ (codes ",\"message\":" ++ (quoted text ++ codes "}"))))
failed_says digits text n u = compact_object nowhere nowhere (codes "code") (number nowhere digits) (member nowhere (codes "message") (string nowhere (chars text)) no_members)
    digits (codes ",\"message\":" ++ (quoted text ++ codes "}")) refl n (closing_member nowhere (codes "message") (string nowhere (chars text)) no_members (quoted text) (codes "}") refl (quoted_says text u) closing_none)

failed_whole : (id digits text : List ℕ) → codes "{\"jsonrpc\":\"2.0\",\"id\":" ++ id ++ codes ",\"error\":{\"code\":" ++ digits ++ codes ",\"message\":" ++ text ++ codes "}}"
    ≡ codes "{\"jsonrpc\":\"2.0\",\"id\":" ++ (id ++ (codes ",\"error\":" ++ ((codes "{\"code\":" ++ (digits ++ (codes ",\"message\":" ++ (text ++ codes "}")))) ++ codes "}")))
failed_whole id digits text = simp append_assoc

failed_deep : (u : Json) (digits text : List ℕ) → depth u ≡ 0 → depth (answer_tree u (failure_tree digits text)) ≤ 1024
unfolding answer_tree
failed_deep u digits text h = omega arith

pub error_reply_law : (i : Option Id) (id : List ℕ) (code : ℤ) (text : List ℕ) → IsResponseIdText i id → mag code < 2 ^ 32 → IsUtf8 text
    → message_of (error_reply_text id code text) ≡ error i (failure_tree (signed_decimal code) (chars text))
unfolding answer_tree named no_name_twice
error_reply_law i id code text h n u =
    let flat : depth h.tree ≡ 0 = response_flat h.tree i h.is in
    let digits = signed_decimal code in
    let value = codes "{\"code\":" ++ (digits ++ (codes ",\"message\":" ++ (quoted text ++ codes "}"))) in
    let whole = codes "{\"jsonrpc\":\"2.0\",\"id\":" ++ (id ++ (codes ",\"error\":" ++ (value ++ codes "}"))) in
    ap message_of (failed_whole id digits (quoted text))
    ∙ message_says (answer_tree h.tree (failure_tree digits (chars text))) whole
    (bare_text (answer_tree h.tree (failure_tree digits (chars text))) whole
    (answer_says h.tree (failure_tree digits (chars text)) id value (says_of h.tree 0 id h.stands) (failed_says digits text (refl, signed_number code n) u))) (failed_deep h.tree digits (chars text) flat)
    ∙ ap (λ o. response_with o (Some (failure_tree digits (chars text))) None) h.is ∙ ap (λ b. error_if ((b && true) && true) i (failure_tree digits (chars text))) (signed_integer code n)
