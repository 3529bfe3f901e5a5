-- The `initialize` request that is written, as a message.
use Rattle.std.proofs.Common.{◌≡◌, ℕ, ◌≤◌, max, List, [], ◌∷◌, ◌++◌, Option, Some, None, codes, IsTrue, inl, inr, refl, sym, ◌∙◌, ap, ap₂, subst, arith, append_assoc}
use Rattle.json_text.specs.Json.{Json, word, number, string, object, Members, no_members, member, depth, members_depth}
use Rattle.json_text.specs.declared.kind.Word.TheVariants.{Null}
use Rattle.json_text.specs.Bare.{bare, bare_members, nowhere}
use Rattle.json_text.specs.Named.{named}
use Rattle.json_text.specs.Number.{IsNumber}
use Rattle.json_text.proofs.Compact.{all_simple, simple_string, Closing, closing_none, closing_member, compact_object, null_word, bare_text}
use Rattle.json_text.proofs.Forms.{says, says_of, says_bare}
use Rattle.json_text.proofs.Put.{bare_bare}
use Rattle.rpc_message.specs.Message.{integer, request, no_name_twice, is_integer, message_in, message_of}
use Rattle.rpc_message.specs.Texts.{optional_text, optional_member, initialize_text, initialize_params}
use Rattle.rpc_message.specs.ValueTexts.{IsValueText, IsOptionText, option_depth}
use Rattle.rpc_message.proofs.Meaning.{message_says}

-- what a value's text says
pub value_says : (v : Json) (w : List ℕ) → IsValueText v w → says v w
value_says v w h = subst (λ k. says k w) h.same (says_bare h.tree w (says_of h.tree 0 w h.stands))

-- and it has no places
pub value_bare : (v : Json) (w : List ℕ) → IsValueText v w → bare v ≡ v
value_bare v w h = ap bare (sym h.same) ∙ bare_bare h.tree ∙ h.same

pub closing_optional : (cs : List ℕ) (o : Option Json) (w : Option (List ℕ)) (ms : Members) (rest : List ℕ) → IsTrue (all_simple cs) → IsOptionText o w → Closing ms rest
    → Closing (optional_member cs o ms) (optional_text (44 ∷ 34 ∷ (cs ++ (34 ∷ 58 ∷ []))) w ++ rest)
closing_optional cs None None ms rest h g c = c
closing_optional cs None (Some w) ms rest h g c = absurd g
closing_optional cs (Some v) None ms rest h g c = absurd g
closing_optional cs (Some v) (Some w) ms rest h g c = subst (λ z. Closing (member nowhere cs v ms) z) (shift cs w rest) (closing_member nowhere cs v ms w rest h (value_says v w g) c)
  where
    shift : (cs w rest : List ℕ) → 44 ∷ 34 ∷ (cs ++ (34 ∷ 58 ∷ (w ++ rest))) ≡ ((44 ∷ 34 ∷ (cs ++ (34 ∷ 58 ∷ []))) ++ w) ++ rest
    shift cs w rest = simp append_assoc

-- the members from `capabilities` on
able_says : (d : Json) (f : Option Json) (capabilities : List ℕ) (folders : Option (List ℕ)) → IsValueText d capabilities → IsOptionText f folders
    → Closing (member nowhere (codes "capabilities") d (member nowhere (codes "trace") (string nowhere (codes "off")) (optional_member (codes "workspaceFolders") f no_members)))
    (codes ",\"capabilities\":" ++ (capabilities ++ (codes ",\"trace\":\"off\"" ++ (optional_text (codes ",\"workspaceFolders\":") folders ++ codes "}"))))
able_says d f capabilities folders h g = closing_member nowhere (codes "capabilities") d (member nowhere (codes "trace") (string nowhere (codes "off")) (optional_member (codes "workspaceFolders") f no_members))
    capabilities (codes ",\"trace\":\"off\"" ++ (optional_text (codes ",\"workspaceFolders\":") folders ++ codes "}")) refl (value_says d capabilities h)
    (closing_member nowhere (codes "trace") (string nowhere (codes "off")) (optional_member (codes "workspaceFolders") f no_members) (codes "\"off\"")
    (optional_text (codes ",\"workspaceFolders\":") folders ++ codes "}") refl (simple_string nowhere (codes "off") refl)
    (closing_optional (codes "workspaceFolders") f folders no_members (codes "}") refl g closing_none))

-- all members, before these
first_says : (u : Json) (o : Option Json) (ms : Members) (root rest : List ℕ) (options : Option (List ℕ)) → IsValueText u root → IsOptionText o options → Closing ms rest
    → says (object nowhere (member nowhere (codes "processId") (word nowhere Null) (member nowhere (codes "clientInfo") (object nowhere (member nowhere (codes "name") (string nowhere (codes "lspmux")) no_members))
    (member nowhere (codes "rootUri") u (optional_member (codes "initializationOptions") o ms)))))
    (codes "{\"processId\":null,\"clientInfo\":{\"name\":\"lspmux\"},\"rootUri\":" ++ (root ++ (optional_text (codes ",\"initializationOptions\":") options ++ rest)))
first_says u o ms root rest options h g c = compact_object nowhere nowhere (codes "processId") (word nowhere Null)
    (member nowhere (codes "clientInfo") (object nowhere (member nowhere (codes "name") (string nowhere (codes "lspmux")) no_members)) (member nowhere (codes "rootUri") u (optional_member (codes "initializationOptions") o ms)))
    (codes "null") (codes ",\"clientInfo\":{\"name\":\"lspmux\"},\"rootUri\":" ++ (root ++ (optional_text (codes ",\"initializationOptions\":") options ++ rest))) refl (null_word nowhere)
    (closing_member nowhere (codes "clientInfo") (object nowhere (member nowhere (codes "name") (string nowhere (codes "lspmux")) no_members)) (member nowhere (codes "rootUri") u (optional_member (codes "initializationOptions") o ms))
    (codes "{\"name\":\"lspmux\"}") (codes ",\"rootUri\":" ++ (root ++ (optional_text (codes ",\"initializationOptions\":") options ++ rest))) refl
    (compact_object nowhere nowhere (codes "name") (string nowhere (codes "lspmux")) no_members (codes "\"lspmux\"") (codes "}") refl (simple_string nowhere (codes "lspmux") refl) closing_none)
    (closing_member nowhere (codes "rootUri") u (optional_member (codes "initializationOptions") o ms) root (optional_text (codes ",\"initializationOptions\":") options ++ rest) refl (value_says u root h)
    (closing_optional (codes "initializationOptions") o options ms rest refl g c)))

-- a request with these params
call_tree : Json → Json
call_tree p = object nowhere (member nowhere (codes "jsonrpc") (string nowhere (codes "2.0")) (member nowhere (codes "id") (number nowhere (codes "1"))
    (member nowhere (codes "method") (string nowhere (codes "initialize")) (member nowhere (codes "params") p no_members))))

call_says : (p : Json) (w : List ℕ) → says p w → says (call_tree p) (codes "{\"jsonrpc\":\"2.0\",\"id\":1,\"method\":\"initialize\",\"params\":" ++ (w ++ codes "}"))
unfolding call_tree
call_says p w h = compact_object nowhere nowhere (codes "jsonrpc") (string nowhere (codes "2.0"))
    (member nowhere (codes "id") (number nowhere (codes "1")) (member nowhere (codes "method") (string nowhere (codes "initialize")) (member nowhere (codes "params") p no_members)))
    (codes "\"2.0\"") (codes ",\"id\":1,\"method\":\"initialize\",\"params\":" ++ (w ++ codes "}")) refl (simple_string nowhere (codes "2.0") refl)
    (closing_member nowhere (codes "id") (number nowhere (codes "1")) (member nowhere (codes "method") (string nowhere (codes "initialize")) (member nowhere (codes "params") p no_members))
    (codes "1") (codes ",\"method\":\"initialize\",\"params\":" ++ (w ++ codes "}")) refl (refl, one)
    (closing_member nowhere (codes "method") (string nowhere (codes "initialize")) (member nowhere (codes "params") p no_members)
    (codes "\"initialize\"") (codes ",\"params\":" ++ (w ++ codes "}")) refl (simple_string nowhere (codes "initialize") refl)
    (closing_member nowhere (codes "params") p no_members w (codes "}") refl h closing_none)))
  where
    one : IsNumber (49 ∷ [])
    one = ([], 49 ∷ [], [], [], inl refl, inr (49, [], refl, tt, refl), inl refl, inl refl, refl)

call_deep : (p : Json) → depth p ≤ 1023 → depth (call_tree p) ≤ 1024
unfolding call_tree
call_deep p h = omega arith

whole : (root o capabilities f : List ℕ) → codes "{\"jsonrpc\":\"2.0\",\"id\":1,\"method\":\"initialize\",\"params\":{\"processId\":null,\"clientInfo\":{\"name\":\"lspmux\"},\"rootUri\":" ++ root
    ++ o ++ codes ",\"capabilities\":" ++ capabilities ++ codes ",\"trace\":\"off\"" ++ f ++ codes "}}"
    ≡ codes "{\"jsonrpc\":\"2.0\",\"id\":1,\"method\":\"initialize\",\"params\":" ++ ((codes "{\"processId\":null,\"clientInfo\":{\"name\":\"lspmux\"},\"rootUri\":" ++ (root ++ (o
    ++ (codes ",\"capabilities\":" ++ (capabilities ++ (codes ",\"trace\":\"off\"" ++ (f ++ codes "}"))))))) ++ codes "}")
whole root o capabilities f = simp append_assoc

optional_bare : (cs : List ℕ) (o : Option Json) (w : Option (List ℕ)) (ms : Members) → IsOptionText o w → bare_members ms ≡ ms → bare_members (optional_member cs o ms) ≡ optional_member cs o ms
optional_bare cs None w ms g h = h
optional_bare cs (Some v) (Some w) ms g h = ap₂ (λ k ks. member nowhere cs k ks) (value_bare v w g) h
optional_bare cs (Some v) None ms g h = absurd g

params_bare : (u d : Json) (o f : Option Json) (root capabilities : List ℕ) (options folders : Option (List ℕ)) → IsValueText u root → IsOptionText o options → IsValueText d capabilities → IsOptionText f folders
    → bare (initialize_params u o d f) ≡ initialize_params u o d f
params_bare u d o f root capabilities options folders h g k l =
    let last : bare_members (optional_member (codes "workspaceFolders") f no_members) ≡ optional_member (codes "workspaceFolders") f no_members = optional_bare (codes "workspaceFolders") f folders no_members l refl in
    let rest : bare_members (member nowhere (codes "capabilities") d (member nowhere (codes "trace") (string nowhere (codes "off")) (optional_member (codes "workspaceFolders") f no_members)))
    ≡ member nowhere (codes "capabilities") d (member nowhere (codes "trace") (string nowhere (codes "off")) (optional_member (codes "workspaceFolders") f no_members))
    = ap₂ (λ x y. member nowhere (codes "capabilities") x (member nowhere (codes "trace") (string nowhere (codes "off")) y)) (value_bare d capabilities k) last in
    ap₂ (λ x y. object nowhere (member nowhere (codes "processId") (word nowhere Null) (member nowhere (codes "clientInfo") (object nowhere (member nowhere (codes "name") (string nowhere (codes "lspmux")) no_members)) (member nowhere (codes "rootUri") x y))))
    (value_bare u root h)
    (optional_bare (codes "initializationOptions") o options (member nowhere (codes "capabilities") d (member nowhere (codes "trace") (string nowhere (codes "off")) (optional_member (codes "workspaceFolders") f no_members))) g rest)

optional_depth : (cs : List ℕ) (o : Option Json) (ms : Members) → members_depth (optional_member cs o ms) ≡ max (option_depth o) (members_depth ms)
optional_depth cs None ms = omega arith
optional_depth cs (Some v) ms = refl

params_depth : (u d : Json) (o f : Option Json) → depth u ≤ 1022 → option_depth o ≤ 1022 → depth d ≤ 1022 → option_depth f ≤ 1022 → depth (initialize_params u o d f) ≤ 1023
params_depth u d o f h g k l = omega (
  arith,
  optional_depth (codes "workspaceFolders") f no_members,
  optional_depth (codes "initializationOptions") o (member nowhere (codes "capabilities") d (member nowhere (codes "trace") (string nowhere (codes "off")) (optional_member (codes "workspaceFolders") f no_members))),
)

params_message : (u d : Json) (o f : Option Json) → message_in (Some (call_tree (initialize_params u o d f))) ≡ request (integer (codes "1")) (codes "initialize") (Some (bare (initialize_params u o d f)))
unfolding call_tree named no_name_twice is_integer
params_message u d o f = refl

-- `initialize` is a request with the id 1 and these params
pub initialize_law : (u d : Json) (o f : Option Json) (root capabilities : List ℕ) (options folders : Option (List ℕ))
    → IsValueText u root → IsOptionText o options → IsValueText d capabilities → IsOptionText f folders → depth u ≤ 1022 → option_depth o ≤ 1022 → depth d ≤ 1022 → option_depth f ≤ 1022
    → message_of (initialize_text root options capabilities folders) ≡ request (integer (codes "1")) (codes "initialize") (Some (initialize_params u o d f))
initialize_law u d o f root capabilities options folders h g k l a b c e =
    ap message_of (whole root (optional_text (codes ",\"initializationOptions\":") options) capabilities (optional_text (codes ",\"workspaceFolders\":") folders))
    ∙ call_message (initialize_params u o d f) (codes "{\"processId\":null,\"clientInfo\":{\"name\":\"lspmux\"},\"rootUri\":" ++ (root ++ (optional_text (codes ",\"initializationOptions\":") options
    ++ (codes ",\"capabilities\":" ++ (capabilities ++ (codes ",\"trace\":\"off\"" ++ (optional_text (codes ",\"workspaceFolders\":") folders ++ codes "}")))))))
    (first_says u o (member nowhere (codes "capabilities") d (member nowhere (codes "trace") (string nowhere (codes "off")) (optional_member (codes "workspaceFolders") f no_members)))
    root (codes ",\"capabilities\":" ++ (capabilities ++ (codes ",\"trace\":\"off\"" ++ (optional_text (codes ",\"workspaceFolders\":") folders ++ codes "}")))) options h g
    (able_says d f capabilities folders k l))
    (params_depth u d o f a b c e)
    ∙ params_message u d o f ∙ ap (λ p. request (integer (codes "1")) (codes "initialize") (Some p)) (params_bare u d o f root capabilities options folders h g k l)
  where
    call_message : (p : Json) (w : List ℕ) → says p w → depth p ≤ 1023 → message_of (codes "{\"jsonrpc\":\"2.0\",\"id\":1,\"method\":\"initialize\",\"params\":" ++ (w ++ codes "}")) ≡ message_in (Some (call_tree p))
    call_message p w h e = message_says (call_tree p) (codes "{\"jsonrpc\":\"2.0\",\"id\":1,\"method\":\"initialize\",\"params\":" ++ (w ++ codes "}"))
        (bare_text (call_tree p) (codes "{\"jsonrpc\":\"2.0\",\"id\":1,\"method\":\"initialize\",\"params\":" ++ (w ++ codes "}")) (call_says p w h)) (call_deep p e)
