-- What the editor that asked gets is a response under its id.
use Rattle.std.proofs.Common.{◌≡◌, ℕ, Bool, true, false, ◌&&◌, List, [], Option, Some, None, not, is_some, codes, if◌then◌else◌, inl, inr, refl, sym, ◌∙◌, ap, ap₂}
use Rattle.std.specs.Option.{option_and_then}
use Rattle.json_text.specs.Bare.{bare}
use Rattle.json_text.specs.Json.{Json, word, number, string, array, object, Members}
use Rattle.json_text.specs.Named.{named}
use Rattle.json_text.specs.Paths.{put_named}
use Rattle.json_text.specs.Replace.{Edit}
use Rattle.json_text.specs.Tree.{tree_of}
use Rattle.json_text.proofs.Put.{named_put, named_put_other}
use Rattle.rpc_message.specs.Changed.{changed_text}
use Rattle.rpc_message.specs.Envelopes.{by_names}
use Rattle.rpc_message.specs.Message.{Id, result, error, is_null, is_error, id_of, response_id, are_params, given, result_tree, error_if, outcome, response_with, message_of}
use Rattle.rpc_message.specs.Parsed.{result_in}
use Rattle.rpc_message.specs.Texts.{content_modified, error_tree, with_id_text}
use Rattle.rpc_message.specs.ValueTexts.{IsResponseIdText}
use Rattle.rpc_message.proofs.Alone.{alone_text}
use Rattle.rpc_message.proofs.Bodies.{has_id, Envelope, envelope}
use Rattle.rpc_message.proofs.Fixed.{error_law, response_flat}
use Rattle.rpc_message.proofs.Ids.{call_no_result, result_with_id, error_with_id}
use Rattle.response_route.specs.Answers.{GivesFlat, Responds, answer_text, answer_with}
use Rattle.response_route.specs.Edits.{Renaming, all_edits, are_some, documents_of}
use Rattle.response_route.specs.Results.{documents_in, value_documents}
use Rattle.response_route.proofs.Placing.{Edited, unchanged, changed, changed_is, edited, none_there}
use Rattle.response_route.proofs.Swapping.{documents_made}

-- a result with another id and another value

new_outcome : (i : Option Id) (r : Json) (x : Option Id) (f v : Option Json) (k : Option Id) (q : Json) → outcome x f v ≡ result i r → outcome k f (Some q) ≡ result k (bare q)
new_outcome i r x None v k q e = refl
new_outcome i r x (Some f) v k q e = go (is_null f) (is_error f && not (is_some (given v))) (is_error f && not (is_some (given (Some q)))) e
  where
    go : (a b c : Bool) → (if a then result x (result_tree v) else error_if b x f) ≡ result i r → (if a then result k (bare q) else error_if c k f) ≡ result k (bare q)
    go true b c h = refl
    go false true c h = absurd (cc)
    go false false c h = absurd (cc)

new_result : (i : Option Id) (r : Json) (o p f v : Option Json) (t u q : Json) (k : Option Id) → by_names o (Some t) p f v ≡ result i r → response_id u ≡ Some k → by_names o (Some u) p f (Some q) ≡ result k (bare q)
new_result i r (Some (string s n)) p f v t u q k e h = absurd (call_no_result i r (are_params p) (id_of t) n (given p) e)
new_result i r (Some (word s w)) p f v t u q k e h = absurd (cc)
new_result i r (Some (number s ds)) p f v t u q k e h = absurd (cc)
new_result i r (Some (array s js)) p f v t u q k e h = absurd (cc)
new_result i r (Some (object s ms)) p f v t u q k e h = absurd (cc)
new_result i r None p f v t u q k e h = ap (λ x. response_with x f (Some q)) h ∙ go (response_id t) e
  where
    go : (x : Option (Option Id)) → response_with x f v ≡ result i r → outcome k f (Some q) ≡ result k (bare q)
    go (Some x) d = new_outcome i r x f v k q d
    go None d = absurd (cc)

no_documents : (i : Option Id) (x : Json) (o : Option Json) → value_documents (option_and_then (result_in (error i x)) o) ≡ []
no_documents i x (Some t) = refl
no_documents i x None = refl

module _ (body w : List ℕ) (i k : Option Id) (x : Json) (says : message_of body ≡ result i x) (id : IsResponseIdText k w) where
  here : Envelope body
  here = envelope body (ap has_id says)

  result_made : (es : List Edit) → Edited (codes "result") here.members es → (v : Json) × (message_of (changed_text body w es) ≡ result k v)
  result_made es (changed p there m) =
      let ls : Members = here.members in
      let q : Json = m.value in
      let ns : Members = put_named (codes "result") q ls in (
        bare q,
        changed_is body (codes "result") here w id.tree p es refl refl id.stands (response_flat id.tree k id.is) there m
            ∙ ap₂ (λ a b. by_names a (Some id.tree) b (named (codes "error") ns) (named (codes "result") ns)) (named_put_other (codes "result") (codes "method") ls q refl) (named_put_other (codes "result") (codes "params") ls q refl)
            ∙ ap₂ (λ a b. by_names (named (codes "method") ls) (Some id.tree) (named (codes "params") ls) a b) (named_put_other (codes "result") (codes "error") ls q refl) (named_put (codes "result") ls p q there)
            ∙ new_result i x (named (codes "method") ls) (named (codes "params") ls) (named (codes "error") ls) (named (codes "result") ls) here.id id.tree q k (sym here.is ∙ says) id.is,
      )
  result_made es (unchanged e) = (x, ap (λ z. message_of (changed_text body w z)) e ∙ ap message_of (alone_text body w) ∙ result_with_id body w i k x says id)

  documents_are : documents_in body ≡ value_documents (named (codes "result") here.members)
  documents_are = ap (λ m. value_documents (option_and_then (result_in m) (tree_of body))) says ∙ ap (λ o. value_documents (option_and_then (result_in (result i x)) o)) here.tree

  pub result_responds : (r : Renaming) → GivesFlat r → Responds k (message_of (answer_text r body w))
  result_responds r gives = go (all_edits r (documents_in body)) refl
    where
      go : (o : Option (List Edit)) → all_edits r (documents_in body) ≡ o → Responds k (message_of (answer_text r body w))
      go (Some es) e =
          let new : Edited (codes "result") here.members es = edited body (codes "result") here r documents_of (documents_made r gives) (named (codes "result") here.members) (λ p h. h) es (sym (ap (all_edits r) documents_are) ∙ e) in
          let made : (v : Json) × (message_of (changed_text body w es) ≡ result k v) = result_made es new in
          inl (made.0, ap (λ z. message_of (answer_with z body w)) e ∙ made.1)
      go None e = inr (error_tree content_modified, ap (λ z. message_of (answer_with z body w)) e ∙ error_law k w content_modified id)

plainly : (r : Renaming) (body w : List ℕ) → documents_in body ≡ [] → answer_text r body w ≡ with_id_text body w
plainly r body w e = ap (λ z. answer_with (all_edits r z) body w) e ∙ alone_text body w

pub error_responds : (r : Renaming) (body w : List ℕ) (i k : Option Id) (x : Json) → message_of body ≡ error i x → IsResponseIdText k w → Responds k (message_of (answer_text r body w))
error_responds r body w i k x says id = inr (x, ap message_of (plainly r body w (ap (λ m. value_documents (option_and_then (result_in m) (tree_of body))) says ∙ no_documents i x (tree_of body))) ∙ error_with_id body w i k x says id)

pub plain_answer : (r : Renaming) (body w : List ℕ) → are_some (documents_in body) ≡ false → answer_text r body w ≡ with_id_text body w
plain_answer r body w e = plainly r body w (none_there (documents_in body) e)
