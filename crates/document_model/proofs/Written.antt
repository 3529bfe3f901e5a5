-- What the written notifications say, and the number that `decimal` writes.
use Rattle.std.proofs.Common.{◌≡◌, ℕ, ◌+◌, ◌-◌, ◌*◌, ◌/◌, ◌%◌, ◌^◌, ◌<◌, ◌≤◌, Bool, true, false, List, [], ◌∷◌, ◌++◌, decimal, refl, sym, ◌∙◌, ap, subst, arith, codes, Option, Some, None, IsUtf8, IsTrue, append_assoc, append-nil, ap₂, inl, inr, encode_utf8_all}
use Rattle.std.specs.Prelude.{bytes_eq, if◌then◌else◌}
use Rattle.std.proofs.Math.Seq.{drop-length}
use Rattle.json_text.specs.declared.span.Span.{Span}
use Rattle.json_text.specs.Number.{IsNumber}
use Rattle.doc_text.specs.position_codec.specs.declared.Encoding.{Encoding}
use Rattle.doc_text.specs.Changes.{text_behind}
use Rattle.std.proofs.lemmas.Fmt.{decimal_by_steps_wide}
use Rattle.std.proofs.lemmas.List.Sums.{fold-append}
use Rattle.std.proofs.lemmas.Slice.Eq.{bytes_eq-Decides}
use Rattle.std.proofs.lemmas.Str.{encodes-chars}
use Rattle.std.specs.Str.{chars}
use Rattle.json.specs.Print.{escape, quoted}
use Rattle.json_text.specs.Bare.{bare_members, nowhere}
use Rattle.json_text.specs.Named.{named}
use Rattle.json_text.specs.Json.{Json, number, string, array, object, no_items, item, Members, no_members, member, depth, members_depth}
use Rattle.json_text.proofs.Compact.{all_simple, simple_string, closing_none, closing_member, compact_object, bare_text}
use Rattle.json_text.proofs.Forms.{says}
use Rattle.rpc_message.proofs.Strings.{spells_text}
use Rattle.rpc_message.proofs.Meaning.{message_says}
use Rattle.rpc_message.proofs.Decimals.{decimal_integer, decimal_number}
use Rattle.document_model.specs.Bodies.{open_text, full_text, close_text}
use Rattle.rpc_message.specs.Message.{Message, not_json, not_message, request, notification, result, error, no_name_twice, is_integer, message_in, message_of}
use Rattle.document_model.specs.Helds.{number_of}
use Rattle.document_model.specs.Sayings.{opens, changes, closes, changing, saying_by, saying_of, speaks}

digit_law : (n : ℕ) → n < 10 → number_of ((48 + n) ∷ []) ≡ n
digit_law n h = omega arith

digits_law : (n : ℕ) (ds : List ℕ) → 10 ≤ n → number_of ds ≡ n / 10 → number_of (ds ++ ((48 + n % 10) ∷ [])) ≡ n
digits_law n ds h e = fold-append (λ n d. n * 10 + (d - 48)) 0 ds ((48 + n % 10) ∷ []) ∙ omega (arith, e)

-- the number that `decimal` writes
pub number_law : (n : ℕ) → n < 10 ^ 64 → number_of (decimal n) ≡ n
number_law n h = decimal_by_steps_wide (λ n ds. number_of ds ≡ n) digit_law digits_law n h

-- a notification with these params

noted : List ℕ → Members → Json
noted method ms = object nowhere (member nowhere (codes "jsonrpc") (string nowhere (codes "2.0")) (member nowhere (codes "method") (string nowhere method) (member nowhere (codes "params") (object nowhere ms) no_members)))

noted_says : (method : List ℕ) (ms : Members) (w : List ℕ) → IsTrue (all_simple method) → says (object nowhere ms) w
    → says (noted method ms) (codes "{\"jsonrpc\":\"2.0\",\"method\":" ++ ((34 ∷ (method ++ 34 ∷ [])) ++ (codes ",\"params\":" ++ (w ++ codes "}"))))
unfolding noted
noted_says method ms w s h = compact_object nowhere nowhere (codes "jsonrpc") (string nowhere (codes "2.0"))
    (member nowhere (codes "method") (string nowhere method) (member nowhere (codes "params") (object nowhere ms) no_members))
    (codes "\"2.0\"") (codes ",\"method\":" ++ ((34 ∷ (method ++ 34 ∷ [])) ++ (codes ",\"params\":" ++ (w ++ codes "}")))) refl (simple_string nowhere (codes "2.0") refl)
    (closing_member nowhere (codes "method") (string nowhere method) (member nowhere (codes "params") (object nowhere ms) no_members)
    (34 ∷ (method ++ 34 ∷ [])) (codes ",\"params\":" ++ (w ++ codes "}")) refl (simple_string nowhere method s)
    (closing_member nowhere (codes "params") (object nowhere ms) no_members w (codes "}") refl h closing_none))

noted_deep : (method : List ℕ) (ms : Members) → members_depth ms ≤ 1022 → depth (noted method ms) ≤ 1024
unfolding noted
noted_deep method ms h = omega arith

noted_message : (method : List ℕ) (ms : Members) → message_in (Some (noted method ms)) ≡ notification method (Some (object nowhere (bare_members ms)))
unfolding noted named no_name_twice
noted_message method ms = refl

noted_law : (method : List ℕ) (ms : Members) (w : List ℕ) → IsTrue (all_simple method) → says (object nowhere ms) w → members_depth ms ≤ 1022
    → message_of (codes "{\"jsonrpc\":\"2.0\",\"method\":" ++ ((34 ∷ (method ++ 34 ∷ [])) ++ (codes ",\"params\":" ++ (w ++ codes "}")))) ≡ notification method (Some (object nowhere (bare_members ms)))
noted_law method ms w s h d =
    let text = codes "{\"jsonrpc\":\"2.0\",\"method\":" ++ ((34 ∷ (method ++ 34 ∷ [])) ++ (codes ",\"params\":" ++ (w ++ codes "}"))) in
    message_says (noted method ms) text (bare_text (noted method ms) text (noted_says method ms w s h)) (noted_deep method ms d) ∙ noted_message method ms

-- a quoted text is the string of its characters
quoted_says : (text : List ℕ) → IsUtf8 text → says (string nowhere (chars text)) (quoted text)
quoted_says text u = (34 ∷ [], escape text ++ 34 ∷ [], refl, refl, (escape text, 34 ∷ [], refl, spells_text text u, refl))

-- didClose

closed : List ℕ → Members
closed u = member nowhere (codes "textDocument") (object nowhere (member nowhere (codes "uri") (string nowhere u) no_members)) no_members

closed_whole : (u : List ℕ) → codes "{\"jsonrpc\":\"2.0\",\"method\":\"textDocument/didClose\",\"params\":{\"textDocument\":{\"uri\":" ++ u ++ codes "}}}"
    ≡ codes "{\"jsonrpc\":\"2.0\",\"method\":\"textDocument/didClose\",\"params\":" ++ ((codes "{\"textDocument\":" ++ ((codes "{\"uri\":" ++ (u ++ codes "}")) ++ codes "}")) ++ codes "}")
closed_whole u = simp append_assoc

closed_says : (u : List ℕ) → IsUtf8 u → says (object nowhere (closed (chars u))) (codes "{\"textDocument\":" ++ ((codes "{\"uri\":" ++ (quoted u ++ codes "}")) ++ codes "}"))
unfolding closed
closed_says u h = compact_object nowhere nowhere (codes "textDocument") (object nowhere (member nowhere (codes "uri") (string nowhere (chars u)) no_members)) no_members (codes "{\"uri\":" ++ (quoted u ++ codes "}")) (codes "}") refl
    (compact_object nowhere nowhere (codes "uri") (string nowhere (chars u)) no_members (quoted u) (codes "}") refl (quoted_says u h) closing_none) closing_none

closed_saying : (u : List ℕ) → saying_of (notification (codes "textDocument/didClose") (Some (object nowhere (bare_members (closed u))))) ≡ closes (encode_utf8_all u)
unfolding closed named
closed_saying u = refl

closed_deep : (u : List ℕ) → members_depth (closed u) ≤ 1022
unfolding closed
closed_deep u = omega arith

-- what a written didClose says
pub close_says : (u : List ℕ) → IsUtf8 u → saying_of (message_of (close_text u)) ≡ closes u
close_says u h =
    ap (λ b. saying_of (message_of b)) (closed_whole (quoted u))
    ∙ ap saying_of (noted_law (codes "textDocument/didClose") (closed (chars u)) (codes "{\"textDocument\":" ++ ((codes "{\"uri\":" ++ (quoted u ++ codes "}")) ++ codes "}")) refl (closed_says u h) (closed_deep (chars u)))
    ∙ closed_saying (chars u) ∙ ap closes (encodes-chars u h)

-- didOpen

opened : List ℕ → List ℕ → List ℕ → Members
opened u l t = member nowhere (codes "textDocument") (object nowhere (member nowhere (codes "uri") (string nowhere u) (member nowhere (codes "languageId") (string nowhere l)
    (member nowhere (codes "version") (number nowhere (codes "1")) (member nowhere (codes "text") (string nowhere t) no_members))))) no_members

-- the document from its version on, and the whole of it
version_text : List ℕ → List ℕ
version_text t = codes ",\"version\":1,\"text\":" ++ (t ++ codes "}")

document_text : List ℕ → List ℕ → List ℕ → List ℕ
document_text u l t = codes "{\"uri\":" ++ (u ++ (codes ",\"languageId\":" ++ (l ++ version_text t)))

opened_whole : (u l t : List ℕ) → codes "{\"jsonrpc\":\"2.0\",\"method\":\"textDocument/didOpen\",\"params\":{\"textDocument\":{\"uri\":" ++ u ++ codes ",\"languageId\":" ++ l ++ codes ",\"version\":1,\"text\":" ++ t ++ codes "}}}"
    ≡ codes "{\"jsonrpc\":\"2.0\",\"method\":\"textDocument/didOpen\",\"params\":" ++ ((codes "{\"textDocument\":" ++ (document_text u l t ++ codes "}")) ++ codes "}")
unfolding document_text version_text
opened_whole u l t = simp append_assoc

opened_says : (u l t : List ℕ) → IsUtf8 u → IsUtf8 l → IsUtf8 t → says (object nowhere (opened (chars u) (chars l) (chars t))) (codes "{\"textDocument\":" ++ (document_text (quoted u) (quoted l) (quoted t) ++ codes "}"))
unfolding opened document_text version_text
opened_says u l t h g k =
    let last = member nowhere (codes "text") (string nowhere (chars t)) no_members in
    let versioned = member nowhere (codes "version") (number nowhere (codes "1")) last in
    let behind = member nowhere (codes "languageId") (string nowhere (chars l)) versioned in
    compact_object nowhere nowhere (codes "textDocument") (object nowhere (member nowhere (codes "uri") (string nowhere (chars u)) behind)) no_members
    (document_text (quoted u) (quoted l) (quoted t)) (codes "}") refl
    (compact_object nowhere nowhere (codes "uri") (string nowhere (chars u)) behind (quoted u) (codes ",\"languageId\":" ++ (quoted l ++ version_text (quoted t))) refl (quoted_says u h)
    (closing_member nowhere (codes "languageId") (string nowhere (chars l)) versioned (quoted l) (version_text (quoted t)) refl (quoted_says l g)
    (closing_member nowhere (codes "version") (number nowhere (codes "1")) last (codes "1") (codes ",\"text\":" ++ (quoted t ++ codes "}")) refl (refl, one)
    (closing_member nowhere (codes "text") (string nowhere (chars t)) no_members (quoted t) (codes "}") refl (quoted_says t k) closing_none)))) closing_none
  where
    one : IsNumber (49 ∷ [])
    one = ([], 49 ∷ [], [], [], inl refl, inr (49, [], refl, tt, refl), inl refl, inl refl, refl)

opened_saying : (u l t : List ℕ) → saying_of (notification (codes "textDocument/didOpen") (Some (object nowhere (bare_members (opened u l t))))) ≡ opens (encode_utf8_all u) (encode_utf8_all l) (codes "1") (encode_utf8_all t)
unfolding opened named is_integer
opened_saying u l t = refl

opened_deep : (u l t : List ℕ) → members_depth (opened u l t) ≤ 1022
unfolding opened
opened_deep u l t = omega arith

-- what a written didOpen says
pub open_says : (u l t : List ℕ) → IsUtf8 u → IsUtf8 l → IsUtf8 t → saying_of (message_of (open_text u l t)) ≡ opens u l (codes "1") t
open_says u l t h g k =
    ap (λ b. saying_of (message_of b)) (opened_whole (quoted u) (quoted l) (quoted t))
    ∙ ap saying_of (noted_law (codes "textDocument/didOpen") (opened (chars u) (chars l) (chars t)) (codes "{\"textDocument\":" ++ (document_text (quoted u) (quoted l) (quoted t) ++ codes "}")) refl
    (opened_says u l t h g k) (opened_deep (chars u) (chars l) (chars t)))
    ∙ opened_saying (chars u) (chars l) (chars t)
    ∙ ap (λ x. opens x (encode_utf8_all (chars l)) (codes "1") (encode_utf8_all (chars t))) (encodes-chars u h)
    ∙ ap₂ (λ y z. opens u y (codes "1") z) (encodes-chars l g) (encodes-chars t k)

-- didChange, with the whole text

-- an array of one item
compact_array : (s : Span) (j : Json) (w : List ℕ) → says j w → says (array s (item j no_items)) (91 ∷ (w ++ 93 ∷ []))
compact_array s j w h = (91 ∷ [], w ++ 93 ∷ [], refl, refl, (w, 93 ∷ [], refl, ([], w, refl, tt, (w, [], sym (append-nil w), h, ([], [], refl, tt, refl))), refl))

-- the list of changes, and the params
listed : List ℕ → Json
listed t = array nowhere (item (object nowhere (member nowhere (codes "text") (string nowhere t) no_members)) no_items)

revised : List ℕ → List ℕ → List ℕ → Members
revised u v t = member nowhere (codes "textDocument") (object nowhere (member nowhere (codes "uri") (string nowhere u) (member nowhere (codes "version") (number nowhere v) no_members)))
    (member nowhere (codes "contentChanges") (listed t) no_members)

revised_text : List ℕ → List ℕ → List ℕ → List ℕ
revised_text u v t = codes "{\"textDocument\":" ++ ((codes "{\"uri\":" ++ (u ++ (codes ",\"version\":" ++ (v ++ codes "}")))) ++ (codes ",\"contentChanges\":" ++ ((91 ∷ ((codes "{\"text\":" ++ (t ++ codes "}")) ++ 93 ∷ [])) ++ codes "}")))

revised_whole : (u v t : List ℕ) → codes "{\"jsonrpc\":\"2.0\",\"method\":\"textDocument/didChange\",\"params\":{\"textDocument\":{\"uri\":" ++ u ++ codes ",\"version\":" ++ v ++ codes "},\"contentChanges\":[{\"text\":" ++ t ++ codes "}]}}"
    ≡ codes "{\"jsonrpc\":\"2.0\",\"method\":\"textDocument/didChange\",\"params\":" ++ (revised_text u v t ++ codes "}")
unfolding revised_text
revised_whole u v t = simp append_assoc

revised_says : (u t : List ℕ) (v : ℕ) → IsUtf8 u → IsUtf8 t → v < 10 ^ 64 → says (object nowhere (revised (chars u) (decimal v) (chars t))) (revised_text (quoted u) (decimal v) (quoted t))
unfolding listed revised revised_text
revised_says u t v h g k =
    let versioned = member nowhere (codes "version") (number nowhere (decimal v)) no_members in
    let whole = object nowhere (member nowhere (codes "text") (string nowhere (chars t)) no_members) in
    let whole_text = codes "{\"text\":" ++ (quoted t ++ codes "}") in
    compact_object nowhere nowhere (codes "textDocument") (object nowhere (member nowhere (codes "uri") (string nowhere (chars u)) versioned)) (member nowhere (codes "contentChanges") (listed (chars t)) no_members)
    (codes "{\"uri\":" ++ (quoted u ++ (codes ",\"version\":" ++ (decimal v ++ codes "}")))) (codes ",\"contentChanges\":" ++ ((91 ∷ (whole_text ++ 93 ∷ [])) ++ codes "}")) refl
    (compact_object nowhere nowhere (codes "uri") (string nowhere (chars u)) versioned (quoted u) (codes ",\"version\":" ++ (decimal v ++ codes "}")) refl (quoted_says u h)
    (closing_member nowhere (codes "version") (number nowhere (decimal v)) no_members (decimal v) (codes "}") refl (refl, decimal_number v k) closing_none))
    (closing_member nowhere (codes "contentChanges") (listed (chars t)) no_members (91 ∷ (whole_text ++ 93 ∷ [])) (codes "}") refl
    (compact_array nowhere whole whole_text (compact_object nowhere nowhere (codes "text") (string nowhere (chars t)) no_members (quoted t) (codes "}") refl (quoted_says t g) closing_none)) closing_none)

revised_saying : (u v t : List ℕ) → is_integer v ≡ true → saying_of (notification (codes "textDocument/didChange") (Some (object nowhere (bare_members (revised u v t))))) ≡ changes (encode_utf8_all u) v (listed t)
unfolding listed revised named
revised_saying u v t h = ap (λ b. changing (Some (encode_utf8_all u)) (if b then Some v else None) (Some (listed t))) h

revised_deep : (u v t : List ℕ) → members_depth (revised u v t) ≤ 1022
unfolding listed revised
revised_deep u v t = omega arith

listed_behind : (code : Encoding) (t x : List ℕ) → text_behind code (listed t) x ≡ Some (encode_utf8_all t)
unfolding listed named
listed_behind code t x = ap Some (ap (λ z. encode_utf8_all t ++ z) (drop-length x) ∙ append-nil (encode_utf8_all t))

-- a written didChange changes its document, and its list of changes leaves the text, whatever was there before
pub record FullSays (u : List ℕ) (v : ℕ) (t : List ℕ) : Type 0 where
  pub list : Json
  pub says : saying_of (message_of (full_text u v t)) ≡ changes u (decimal v) list
  pub whole : (code : Encoding) (x : List ℕ) → text_behind code list x ≡ Some t

pub full_says : (u t : List ℕ) (v : ℕ) → IsUtf8 u → IsUtf8 t → v < 10 ^ 64 → FullSays u v t
full_says u t v h g k = record {
  list = listed (chars t);
  says = ap (λ b. saying_of (message_of b)) (revised_whole (quoted u) (decimal v) (quoted t))
      ∙ ap saying_of (noted_law (codes "textDocument/didChange") (revised (chars u) (decimal v) (chars t)) (revised_text (quoted u) (decimal v) (quoted t)) refl (revised_says u t v h g k) (revised_deep (chars u) (decimal v) (chars t)))
      ∙ revised_saying (chars u) (decimal v) (chars t) (decimal_integer v k)
      ∙ ap (λ x. changes x (decimal v) (listed (chars t))) (encodes-chars u h);
  whole = λ code x. listed_behind code (chars t) x ∙ ap Some (encodes-chars t g);
}

-- a message that speaks of a document is a notification, and none of `initialized`
pub record Spoken (m : Message) : Type 0 where
  pub method : List ℕ
  pub params : Option Json
  pub is : m ≡ notification method params
  pub other : bytes_eq (codes "initialized") method ≡ false

spoken_by : (method : List ℕ) (params : Option Json) → speaks (saying_by method params) ≡ true → bytes_eq (codes "initialized") method ≡ false
spoken_by method params h = go (bytes_eq (codes "initialized") method) refl
  where
    go : (b : Bool) → bytes_eq (codes "initialized") method ≡ b → bytes_eq (codes "initialized") method ≡ false
    go false e = e
    go true e = let k : false ≡ true = subst (λ m. speaks (saying_by m params) ≡ true) (sym ((bytes_eq-Decides (codes "initialized") method).0 e)) h in cc

pub spoken : (m : Message) → speaks (saying_of m) ≡ true → Spoken m
spoken (notification method params) h = record { method = method; params = params; is = refl; other = spoken_by method params h }
spoken not_json h = cc
spoken not_message h = cc
spoken (request id method params) h = cc
spoken (result id j) h = cc
spoken (error id j) h = cc
