-- X2: what an editor is told where a start ends is notifications: that a token ends, and that a list of diagnostics is empty.
use Rattle.std.proofs.Common.{◌≡◌, ℕ, ◌+◌, Bool, true, false, if◌then◌else◌, List, [], ◌∷◌, length, codes, IsUtf8, Option, Some, None, refl, ap, subst, arith}
use Rattle.std.proofs.lemmas.Str.{encodes-chars}
use Rattle.std.specs.Prelude.{encode_utf8_all}
use Rattle.std.specs.Option.{option_and_then, option_map}
use Rattle.std.specs.Str.{chars}
use Rattle.json.specs.Print.{quoted}
use Rattle.json_text.specs.Bare.{nowhere}
use Rattle.json_text.specs.Json.{Json, word, number, string, array, object, no_items, no_members, member, value}
use Rattle.json_text.specs.Named.{named, named_in}
use Rattle.json_text.specs.Paths.{key, value_at}
use Rattle.json_text.specs.Tree.{tree_of}
use Rattle.json_text.proofs.Compact.{closing_member, closing_none, compact_object, simple_string}
use Rattle.json_text.proofs.Forms.{says}
use Rattle.json_text.proofs.Inside.{Inside, path_inside}
use Rattle.json_text.proofs.Laws.{tree_sound}
use Rattle.json_text.proofs.Moves.{placed}
use Rattle.group_words.specs.capability_meet.specs.json_token.proofs.Scalars.{scalar_string, utf8_characters}
use Rattle.rpc_message.specs.Message.{message_of, notification}
use Rattle.rpc_message.specs.ValueTexts.{IsValueText}
use Rattle.rpc_message.proofs.Replies.{notification_law}
use Rattle.event_model.specs.Members.{named_of, params_of}
use Rattle.registrations.specs.mux_members.specs.Finds.{is_array_value}
use Rattle.registrations.specs.mux_members.specs.Members.{string_at}
use Rattle.response_route.specs.document_model.specs.doc_text.specs.Changes.{string_text}
use Rattle.diagnostics_route.specs.declared.last_list.LastList.{LastList}
use Rattle.diagnostics_route.specs.Published.{list_of, published}
use Rattle.group_rows.specs.Created.{created_mark, created_text}
use Rattle.group_rows.specs.ExitRows.{empty_params, empty_text, end_params, end_text}
use Rattle.group_rows.proofs.CreatedTexts.{mark_says}
use Rattle.group_rows.proofs.ListTexts.{Listed, listed_by}
use Rattle.group_rows.proofs.Statuses.{quoted_says}

-- The end of a token

abbrev pub end_tree : ℕ → ℕ → Json
end_tree s k = object nowhere (member nowhere (codes "token") (string nowhere (created_mark s k)) (member nowhere (codes "value") (object nowhere (member nowhere (codes "kind") (string nowhere (codes "end")) no_members)) no_members))

kind_says : says (object nowhere (member nowhere (codes "kind") (string nowhere (codes "end")) no_members)) (codes "{\"kind\":\"end\"}")
kind_says = compact_object nowhere nowhere (codes "kind") (string nowhere (codes "end")) no_members (codes "\"end\"") (codes "}") refl (simple_string nowhere (codes "end") refl) closing_none

end_written : (s k : ℕ) → IsValueText (end_tree s k) (end_params (created_text s k))
end_written s k =
    let p = placed (end_tree s k) 0 (end_params (created_text s k)) (compact_object nowhere nowhere (codes "token") (string nowhere (created_mark s k)) (member nowhere (codes "value") (object nowhere (member nowhere (codes "kind") (string nowhere (codes "end")) no_members)) no_members)
    (created_text s k) (codes ",\"value\":{\"kind\":\"end\"}}") refl (mark_says s k)
    (closing_member nowhere (codes "value") (object nowhere (member nowhere (codes "kind") (string nowhere (codes "end")) no_members)) no_members (codes "{\"kind\":\"end\"}") (codes "}") refl kind_says closing_none)) in
    record { tree = p.tree; stands = p.stands; same = p.same }

pub end_says : (s k : ℕ) → message_of (end_text (created_text s k)) ≡ notification (codes "$/progress") (Some (end_tree s k))
unfolding chars lib.Utf8.encode
end_says s k = notification_law (codes "$/progress") (Some (end_tree s k)) (Some (end_params (created_text s k))) (codes "$/progress", (refl, refl)) (end_written s k) refl (omega arith)

-- A list that is empty

abbrev pub empty_tree : List ℕ → Json
empty_tree u = object nowhere (member nowhere (codes "uri") (string nowhere (chars u)) (member nowhere (codes "diagnostics") (array nowhere no_items) no_members))

none_says : says (array nowhere no_items) (codes "[]")
none_says = (91 ∷ [], 93 ∷ [], refl, refl, ([], 93 ∷ [], refl, tt, refl))

empty_written : (u : List ℕ) → IsUtf8 u → IsValueText (empty_tree u) (empty_params u)
empty_written u spelt =
    let p = placed (empty_tree u) 0 (empty_params u) (compact_object nowhere nowhere (codes "uri") (string nowhere (chars u)) (member nowhere (codes "diagnostics") (array nowhere no_items) no_members)
    (quoted u) (codes ",\"diagnostics\":[]}") refl (quoted_says u spelt)
    (closing_member nowhere (codes "diagnostics") (array nowhere no_items) no_members (codes "[]") (codes "}") refl none_says closing_none)) in
    record { tree = p.tree; stands = p.stands; same = p.same }

pub empty_says : (u : List ℕ) → IsUtf8 u → message_of (empty_text u) ≡ notification (codes "textDocument/publishDiagnostics") (Some (empty_tree u))
unfolding chars lib.Utf8.encode
empty_says u spelt = notification_law (codes "textDocument/publishDiagnostics") (Some (empty_tree u)) (Some (empty_params u)) (codes "textDocument/publishDiagnostics", (refl, refl)) (empty_written u spelt) refl (omega arith)

-- it is an empty list of the document
pub empty_published : (u : List ℕ) → IsUtf8 u → Listed u true (empty_text u)
unfolding named
empty_published u spelt = listed_by (empty_text u) (codes "textDocument/publishDiagnostics") (Some (empty_tree u)) (empty_says u spelt) u true (ap Some (encodes-chars u spelt)) refl refl

-- The uri of a list is UTF-8

record Somewhere (t : Json) : Type 0 where
  at : ℕ
  bytes : List ℕ
  stands : value t at bytes

named_stands : (name : List ℕ) (j t : Json) → Somewhere j → named_in name j ≡ Some t → Somewhere t
unfolding value_at
named_stands name j t h e =
    let i : Inside h.at h.bytes t = path_inside (key name ∷ []) j t (ap (λ o. option_and_then (λ k. Some k) o) e) h.at h.bytes h.stands in
    record { at = h.at + length i.before; bytes = i.bytes; stands = i.stands }

uri_spelt : (body u : List ℕ) → string_at (codes "uri") (params_of body) ≡ Some u → IsUtf8 u
uri_spelt body u is = go (tree_of body) refl is
  where
    by_text : (t : Json) → Somewhere t → string_text t ≡ Some u → IsUtf8 u
    by_text (string s cs) h e = subst IsUtf8 (let same : encode_utf8_all cs ≡ u = cc in same) (utf8_characters cs (scalar_string s cs h.at h.bytes h.stands)).0
    by_text (word s w) h e = absurd (cc)
    by_text (number s ds) h e = absurd (cc)
    by_text (array s js) h e = absurd (cc)
    by_text (object s ms) h e = absurd (cc)

    by_uri : (p : Json) → Somewhere p → (o : Option Json) → named_in (codes "uri") p ≡ o → option_and_then string_text o ≡ Some u → IsUtf8 u
    by_uri p h (Some t) at e = by_text t (named_stands (codes "uri") p t h at) e
    by_uri p h None at e = absurd (cc)

    by_params : (j : Json) → Somewhere j → (o : Option Json) → named_in (codes "params") j ≡ o → string_at (codes "uri") o ≡ Some u → IsUtf8 u
    by_params j h (Some p) at e = by_uri p (named_stands (codes "params") j p h at) (named_in (codes "uri") p) refl e
    by_params j h None at e = absurd (cc)

    go : (o : Option Json) → tree_of body ≡ o → string_at (codes "uri") (named_of (codes "params") o) ≡ Some u → IsUtf8 u
    go None at e = absurd (cc)
    go (Some j) at e = let text = (tree_sound body j at).0 in by_params j (record { at = 0 + length text.0; bytes = text.4.0; stands = text.4.3 }) (named_in (codes "params") j) refl e

pub published_spelt : (place : ℕ) (body : List ℕ) (l : LastList) → published place body ≡ Some l → IsUtf8 l.uri
published_spelt place body l is = go (is_array_value (named_of (codes "diagnostics") (params_of body))) (string_at (codes "uri") (params_of body)) refl is
  where
    go : (b : Bool) (o : Option (List ℕ)) → string_at (codes "uri") (params_of body) ≡ o → (if b then option_map (list_of place body (params_of body)) o else None) ≡ Some l → IsUtf8 l.uri
    go true (Some u) at e = let same : list_of place body (params_of body) u ≡ l = cc in subst IsUtf8 (ap (λ (x : LastList). x.uri) same) (uri_spelt body u at)
    go true None at e = absurd (cc)
    go false o at e = absurd (cc)
