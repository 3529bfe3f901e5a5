-- The tokens that a request brings: what is kept of one is its text, and the request's params name it.
use Rattle.std.proofs.Common.{◌≡◌, ℕ, Bool, true, false, ◌||◌, List, [], ◌∷◌, codes, if◌then◌else◌, Option, Some, None, refl, sym, ◌∙◌, ap, subst}
use Rattle.std.specs.Option.{option_and_then, option_map}
use Rattle.json_text.specs.declared.kind.Word.TheVariants.{Null, False, True}
use Rattle.json_text.specs.declared.span.Span.{Span}
use Rattle.json_text.specs.Bare.{bare}
use Rattle.json_text.specs.Json.{Json, word, number, string, array, object, Members, IsText, span_of}
use Rattle.json_text.specs.Named.{named, named_in}
use Rattle.json_text.specs.Paths.{Step, key, value_at}
use Rattle.json_text.specs.Tree.{tree_of}
use Rattle.json_text.proofs.Inside.{InSpan, value_in_span}
use Rattle.json_text.proofs.Laws.{tree_sound}
use Rattle.json_text.proofs.Moves.{Placed, moved}
use Rattle.json_text.proofs.Put.{named_bare}
use Rattle.rpc_message.specs.Envelopes.{by_names}
use Rattle.rpc_message.specs.Message.{Id, integer, text as of_string, are_params, given, id_of, integer_if, is_integer, message_of, request, request_if, slice_of}
use Rattle.rpc_message.specs.ValueTexts.{IsIdText, IsValueText}
use Rattle.rpc_message.proofs.Bodies.{Envelope, envelope, has_id}
use Rattle.rpc_message.proofs.Ids.{answered_no_call}
use Rattle.event_model.specs.Members.{bytes_if, is_token, named_of, params_of}
use Rattle.group_rows.specs.Forwarded.{token_in}
use Rattle.session_laws.specs.Progress.{token_at}
use Rattle.group_sessions.proofs.Marked.{id_bare}

-- A token of a body, by its text

record Scalar (t : Json) (bytes : List ℕ) : Type 0 where
  id : Id
  text : IsIdText id bytes
  is : id_of t ≡ Some id

pub record Brought (name body bytes : List ℕ) : Type 0 where
  pub id : Id
  pub text : IsIdText id bytes
  pub names : token_at name (params_of body) ≡ Some id

scalar_of : (t : Json) (bytes : List ℕ) (id : Id) → IsValueText (bare t) bytes → id_of t ≡ Some id → Scalar t bytes
scalar_of t bytes id w is = record { id = id; text = record { tree = w.tree; stands = w.stands; is = sym (id_bare w.tree) ∙ ap id_of w.same ∙ id_bare t ∙ is }; is = is }

scalar : (t : Json) (bytes : List ℕ) → IsValueText (bare t) bytes → is_token (Some t) ≡ true → Scalar t bytes
scalar (number s ds) bytes w k = go (is_integer ds) refl k
  where
    go : (b : Bool) → is_integer ds ≡ b → (b || false) ≡ true → Scalar (number s ds) bytes
    go true e h = scalar_of (number s ds) bytes (integer ds) w (ap (λ b. integer_if b ds) e)
    go false e h = absurd (cc)
scalar (string s cs) bytes w k = scalar_of (string s cs) bytes (of_string cs) w refl
scalar (word s x) bytes w k = absurd (cc)
scalar (array s js) bytes w k = absurd (cc)
scalar (object s ms) bytes w k = absurd (cc)

pub brought : (name body bytes : List ℕ) → token_in name body ≡ Some bytes → Brought name body bytes
unfolding value_at
brought name body bytes is = by_tree (tree_of body) refl is
  where
    standing : (root : Json) (path : List Step) (t : Json) → IsText body root → value_at path root ≡ Some t → IsValueText (bare t) (slice_of body (Some (span_of t)))
    standing root path t sound at =
        let i : InSpan body t = value_in_span body path root t sound at in
        let m : Placed t 0 (slice_of body (Some (span_of t))) = moved t (span_of t).from (slice_of body (Some (span_of t))) i.stands 0 in
        record { tree = m.tree; stands = m.stands; same = m.same }

    by_member : (root p : Json) → tree_of body ≡ Some root → named_in (codes "params") root ≡ Some p → (s : Span) (ms : Members) → p ≡ object s ms → (o : Option Json) → named name ms ≡ o
        → (if is_token o then bytes_if name (Some p) body else None) ≡ Some bytes → Brought name body bytes
    by_member root p e has s ms shape (Some t) at k = go (is_token (Some t)) refl k
      where
        place : bytes_if name (Some p) body ≡ Some (slice_of body (Some (span_of t)))
        place = ap (λ q. bytes_if name (Some q) body) shape ∙ (rw at refl)

        way : value_at (key (codes "params") ∷ key name ∷ []) root ≡ Some t
        way = ap (λ o. option_and_then (λ k. value_at (key name ∷ []) k) o) has ∙ ap (λ q. option_and_then (λ k. Some k) (named_in name q)) shape ∙ ap (λ o. option_and_then (λ k. Some k) o) at

        named_so : token_at name (params_of body) ≡ id_of t
        named_so = ap (λ o. token_at name (named_of (codes "params") o)) e ∙ ap (λ o. token_at name o) has ∙ ap (λ q. option_and_then id_of (named_in name q)) shape ∙ ap (λ o. option_and_then id_of o) at

        go : (b : Bool) → is_token (Some t) ≡ b → (if b then bytes_if name (Some p) body else None) ≡ Some bytes → Brought name body bytes
        go true token h = subst (λ bs. Brought name body bs) (let same : slice_of body (Some (span_of t)) ≡ bytes = cc in same)
            (let x : Scalar t (slice_of body (Some (span_of t))) = scalar t (slice_of body (Some (span_of t))) (standing root (key (codes "params") ∷ key name ∷ []) t (tree_sound body root e).0 way) token in
            record { id = x.id; text = x.text; names = named_so ∙ x.is })
        go false token h = absurd (cc)
    by_member root p e has s ms shape None at k = absurd (cc)

    by_params : (root : Json) → tree_of body ≡ Some root → (p : Json) → named_in (codes "params") root ≡ Some p → (if is_token (named_in name p) then bytes_if name (Some p) body else None) ≡ Some bytes → Brought name body bytes
    by_params root e (object s ms) has k = by_member root (object s ms) e has s ms refl (named name ms) refl k
    by_params root e (word s w) has k = absurd (cc)
    by_params root e (number s ds) has k = absurd (cc)
    by_params root e (string s cs) has k = absurd (cc)
    by_params root e (array s js) has k = absurd (cc)

    by_root : (root : Json) → tree_of body ≡ Some root → (o : Option Json) → named_in (codes "params") root ≡ o → (if is_token (named_of name o) then bytes_if name o body else None) ≡ Some bytes → Brought name body bytes
    by_root root e (Some p) has k = by_params root e p has k
    by_root root e None has k = absurd (cc)

    by_tree : (o : Option Json) → tree_of body ≡ o → (if is_token (named_of name (named_of (codes "params") o)) then bytes_if name (named_of (codes "params") o) body else None) ≡ Some bytes → Brought name body bytes
    by_tree (Some root) e k = by_root root e (named_in (codes "params") root) refl k
    by_tree None e k = absurd (cc)

-- A request's params have the tokens of its body

option_id_bare : (o : Option Json) → option_and_then id_of (option_map bare o) ≡ option_and_then id_of o
option_id_bare None = refl
option_id_bare (Some j) = id_bare j

token_given : (name : List ℕ) (o : Option Json) → token_at name (given o) ≡ token_at name o
token_given name None = refl
token_given name (Some (object s ms)) = ap (λ o. option_and_then id_of o) (named_bare name ms) ∙ option_id_bare (named name ms)
token_given name (Some (word s Null)) = refl
token_given name (Some (word s False)) = refl
token_given name (Some (word s True)) = refl
token_given name (Some (number s ds)) = refl
token_given name (Some (string s cs)) = refl
token_given name (Some (array s js)) = refl

module _ (i : Id) (m : List ℕ) (ps : Option Json) where
  request_given : (b : Bool) (a : Option Id) (n : List ℕ) (g : Option Json) → request_if b a n g ≡ request i m ps → g ≡ ps
  request_given true (Some x) n g e = cc
  request_given true None n g e = absurd (cc)
  request_given false a n g e = absurd (cc)

  pub params_given : (o p f v : Option Json) (t : Json) → by_names o (Some t) p f v ≡ request i m ps → given p ≡ ps
  params_given (Some (string s n)) p f v t e = request_given (are_params p) (id_of t) n (given p) e
  params_given (Some (word s w)) p f v t e = absurd (cc)
  params_given (Some (number s ds)) p f v t e = absurd (cc)
  params_given (Some (array s js)) p f v t e = absurd (cc)
  params_given (Some (object s ms)) p f v t e = absurd (cc)
  params_given None p f v t e = absurd (answered_no_call i m ps t f v e)

  pub token_request : (name body : List ℕ) → message_of body ≡ request i m ps → token_at name ps ≡ token_at name (params_of body)
  token_request name body says = sym (ap (λ o. token_at name o) is) ∙ token_given name (named (codes "params") v.members) ∙ sym (ap (λ o. token_at name (named_of (codes "params") o)) v.tree)
    where
      v : Envelope body
      v = envelope body (ap has_id says)

      is : given (named (codes "params") v.members) ≡ ps
      is = params_given (named (codes "method") v.members) (named (codes "params") v.members) (named (codes "error") v.members) (named (codes "result") v.members) v.id (sym v.is ∙ says)
