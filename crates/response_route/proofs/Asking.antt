-- What an editor gets of a start's request is a request of its method under another id, and what the start gets where nobody is asked is a result.
use Rattle.std.proofs.Common.{◌≡◌, ℕ, Bool, true, false, List, [], ◌∷◌, ◌++◌, Option, Some, None, codes, refl, sym, ◌∙◌, ap, ap₂, subst, arith}
use Rattle.std.specs.Option.{option_and_then, option_map}
use Rattle.json_text.specs.declared.kind.Word.TheVariants.{False}
use Rattle.json_text.specs.declared.span.Span.{Span}
use Rattle.json_text.specs.Bare.{nowhere}
use Rattle.json_text.specs.Json.{Json, word, number, string, array, object, Members, no_members, member}
use Rattle.json_text.specs.Named.{named}
use Rattle.json_text.specs.Paths.{put_named}
use Rattle.json_text.specs.Replace.{Edit}
use Rattle.json_text.specs.Tree.{tree_of}
use Rattle.json_text.proofs.Compact.{closing_member, closing_none, compact_object, simple_string}
use Rattle.json_text.proofs.Moves.{Placed, placed}
use Rattle.json_text.proofs.Put.{named_put, named_put_other}
use Rattle.rpc_message.specs.Changed.{changed_text}
use Rattle.rpc_message.specs.Envelopes.{by_names, not_null}
use Rattle.rpc_message.specs.Message.{Id, request, request_if, result, are_params, given, id_of, message_of}
use Rattle.rpc_message.specs.Parsed.{params_in}
use Rattle.rpc_message.specs.Texts.{ok_text, with_id_text}
use Rattle.rpc_message.specs.ValueTexts.{IsIdText, IsResponseIdText, IsValueText}
use Rattle.rpc_message.proofs.Alone.{alone_text}
use Rattle.rpc_message.proofs.Bodies.{Envelope, envelope, has_id}
use Rattle.rpc_message.proofs.Fixed.{ok_law}
use Rattle.rpc_message.proofs.Ids.{answered_no_call, id_flat, request_with_id}
use Rattle.response_route.specs.Answers.{GivesFlat}
use Rattle.response_route.specs.Asked.{Asks, asked_text, documents_asked, edit_documents, not_applied, refusal_tree}
use Rattle.response_route.specs.Edits.{Renaming, action_documents, all_edits, are_some}
use Rattle.response_route.proofs.Placing.{Edited, unchanged, changed, changed_is, edited, none_there}
use Rattle.response_route.proofs.Rising.{not_null_is}
use Rattle.response_route.proofs.Swapping.{action_made}

-- a request's method, and that its params are some

module _ (i : Id) (m : List ℕ) (ps : Option Json) where
  called_parts : (b : Bool) (a : Option Id) (n : List ℕ) (g : Option Json) → request_if b a n g ≡ request i m ps → (n ≡ m) × (b ≡ true)
  called_parts true (Some x) n g e = (cc, refl)
  called_parts true None n g e = absurd (cc)
  called_parts false a n g e = absurd (cc)

  request_parts : (o p f v : Option Json) (t : Json) → by_names o (Some t) p f v ≡ request i m ps → (s : Span) × (o ≡ Some (string s m)) × (are_params p ≡ true)
  request_parts (Some (string s n)) p f v t e = let q : (n ≡ m) × (are_params p ≡ true) = called_parts (are_params p) (id_of t) n (given p) e in (s, ap (λ z. Some (string s z)) q.0, q.1)
  request_parts (Some (word s w)) p f v t e = absurd (cc)
  request_parts (Some (number s ds)) p f v t e = absurd (cc)
  request_parts (Some (array s js)) p f v t e = absurd (cc)
  request_parts (Some (object s ms)) p f v t e = absurd (cc)
  request_parts None p f v t e = absurd (answered_no_call i m ps t f v e)

-- a request with another id and other params
new_request : (s : Span) (m : List ℕ) (u q : Json) (k : Id) (f v : Option Json) → are_params (Some q) ≡ true → id_of u ≡ Some k → by_names (Some (string s m)) (Some u) (Some q) f v ≡ request k m (given (Some q))
new_request s m u q k f v e h = ap₂ (λ b i. request_if b i m (given (Some q))) e h

module _ (body w : List ℕ) (i k : Id) (m : List ℕ) (ps : Option Json) (says : message_of body ≡ request i m ps) (id : IsIdText k w) where
  here : Envelope body
  here = envelope body (ap has_id says)

  documents_are : documents_asked body ≡ edit_documents (not_null (named (codes "params") here.members))
  documents_are = ap (λ n. edit_documents (option_and_then (params_in n) (tree_of body))) says ∙ ap (λ o. edit_documents (option_and_then (params_in (request i m ps)) o)) here.tree

  asks_made : (es : List Edit) → Edited (codes "params") here.members es → Asks k m (message_of (changed_text body w es))
  asks_made es (changed p there c) =
      let ls : Members = here.members in
      let q : Json = c.value in
      let ns : Members = put_named (codes "params") q ls in
      let parts : (s : Span) × (named (codes "method") ls ≡ Some (string s m)) × (are_params (named (codes "params") ls) ≡ true)
      = request_parts i m ps (named (codes "method") ls) (named (codes "params") ls) (named (codes "error") ls) (named (codes "result") ls) here.id (sym here.is ∙ says) in (
        given (Some q),
        changed_is body (codes "params") here w id.tree p es refl refl id.stands (id_flat id.tree k id.is) there c
            ∙ ap₂ (λ a b. by_names a (Some id.tree) b (named (codes "error") ns) (named (codes "result") ns)) (named_put_other (codes "params") (codes "method") ls q refl ∙ parts.1) (named_put (codes "params") ls p q there)
            ∙ new_request parts.0 m id.tree q k (named (codes "error") ns) (named (codes "result") ns) (c.params ∙ sym (ap are_params there) ∙ parts.2) id.is,
      )
  asks_made es (unchanged e) = (ps, ap (λ z. message_of (changed_text body w z)) e ∙ ap message_of (alone_text body w) ∙ request_with_id body w i k m ps says id)

  pub request_asks : (r : Renaming) → GivesFlat r → (text : List ℕ) → asked_text r body w ≡ Some text → Asks k m (message_of text)
  request_asks r gives text e = go (all_edits r (documents_asked body)) refl e
    where
      go : (o : Option (List Edit)) → all_edits r (documents_asked body) ≡ o → option_map (λ es. changed_text body w es) o ≡ Some text → Asks k m (message_of text)
      go (Some es) h g = subst (λ z. Asks k m (message_of z)) (let same : changed_text body w es ≡ text = cc in same)
          (asks_made es (edited body (codes "params") here r action_documents (λ p at bs v fs d. action_made r gives p fs d) (not_null (named (codes "params") here.members))
          (λ p d. not_null_is (named (codes "params") here.members) p d) es (sym (ap (all_edits r) documents_are) ∙ h)))
      go None h g = absurd (cc)

pub plain_asked : (r : Renaming) (body w : List ℕ) → are_some (documents_asked body) ≡ false → asked_text r body w ≡ Some (with_id_text body w)
plain_asked r body w e = ap (λ js. option_map (λ es. changed_text body w es) (all_edits r js)) (none_there (documents_asked body) e) ∙ ap Some (alone_text body w)

-- the result where nobody is asked

pub refusal_value : IsValueText refusal_tree not_applied
refusal_value =
    let p : Placed refusal_tree 0 not_applied = placed refusal_tree 0 not_applied
    (compact_object nowhere nowhere (codes "applied") (word nowhere False) (member nowhere (codes "failureReason") (string nowhere (codes "Content modified")) no_members)
    (codes "false") (codes ",\"failureReason\":\"Content modified\"}") refl refl
    (closing_member nowhere (codes "failureReason") (string nowhere (codes "Content modified")) no_members (34 ∷ (codes "Content modified" ++ 34 ∷ [])) (codes "}") refl (simple_string nowhere (codes "Content modified") refl) closing_none)) in
    record { tree = p.tree; stands = p.stands; same = p.same }

pub refusal_result : (i : Option Id) (id : List ℕ) → IsResponseIdText i id → message_of (ok_text id not_applied) ≡ result i refusal_tree
refusal_result i id h = ok_law i refusal_tree id not_applied h refusal_value (omega arith)
