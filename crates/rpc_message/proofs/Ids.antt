-- A body with another id, and the bytes of its id and its result.
use Rattle.std.proofs.Common.{◌≡◌, ℕ, ◌-◌, ◌≤◌, Bool, true, false, ◌&&◌, not, List, [], ◌∷◌, Option, Some, None, is_some, codes, take, drop, if◌then◌else◌, refl, sym, ◌∙◌, ap, ap₂, subst, arith}
use Rattle.json_text.specs.declared.span.Span.{Span}
use Rattle.json_text.specs.Json.{Json, word, number, string, array, object, Members, value, span_of, IsText, depth}
use Rattle.json_text.specs.declared.kind.Word.TheVariants.{Null}
use Rattle.json_text.specs.Bare.{bare, nowhere}
use Rattle.json_text.specs.Named.{named}
use Rattle.json_text.specs.Paths.{put_named}
use Rattle.json_text.specs.Replace.{replace}
use Rattle.json_text.specs.Tree.{tree_of}
use Rattle.json_text.proofs.Depths.{members_deep, named_below}
use Rattle.json_text.proofs.Forms.{says_of}
use Rattle.json_text.proofs.Inside.{InSpan, member_in_span}
use Rattle.json_text.proofs.Laws.{tree_sound}
use Rattle.json_text.proofs.Moves.{Placed, moved}
use Rattle.json_text.proofs.Paths.{member_put}
use Rattle.json_text.proofs.Put.{depth_bare}
use Rattle.json_text.proofs.Swaps.{Replaced}
use Rattle.rpc_message.specs.Message.{Id, request, result, error, id_of, is_null, are_params, given, result_tree, is_error, request_if, response_id, error_if, outcome, response_with, answered, message_of, place_in, slice_of, member_bytes, id_bytes, result_bytes}
use Rattle.rpc_message.specs.Texts.{with_id_at, with_id_text}
use Rattle.rpc_message.specs.ValueTexts.{IsShallowText, IsIdText, IsResponseIdText}
use Rattle.rpc_message.specs.Envelopes.{by_names}
use Rattle.rpc_message.proofs.Bodies.{has_id, Envelope, envelope, put_id}
use Rattle.rpc_message.proofs.Fixed.{response_flat, response_is_id}
use Rattle.rpc_message.proofs.Meaning.{message_says, id_bare, response_id_bare}

module _ (i : Id) (m : List ℕ) (ps : Option Json) where
  called_if : (k : Id) (b : Bool) (a : Option Id) (n : List ℕ) (g : Option Json) → request_if b a n g ≡ request i m ps → request_if b (Some k) n g ≡ request k m ps
  called_if k true (Some x) n g e = cc
  called_if k true None n g e = absurd (cc)
  called_if k false a n g e = absurd (cc)

  called_id : (b : Bool) (a : Option Id) (n : List ℕ) (g : Option Json) → request_if b a n g ≡ request i m ps → a ≡ Some i
  called_id true (Some x) n g e = cc
  called_id true None n g e = absurd (cc)
  called_id false a n g e = absurd (cc)

  error_no_call : (b : Bool) (x : Option Id) (f : Json) → error_if b x f ≡ request i m ps → ⊥
  error_no_call true x f e = cc
  error_no_call false x f e = cc

  outcome_no_call : (x : Option Id) (f v : Option Json) → outcome x f v ≡ request i m ps → ⊥
  outcome_no_call x None v e = cc
  outcome_no_call x (Some f) v e = go (is_null f) (is_error f && not (is_some (given v))) e
    where
      go : (a b : Bool) → (if a then result x (result_tree v) else error_if b x f) ≡ request i m ps → ⊥
      go true b e = cc
      go false b e = error_no_call b x f e

  pub answered_no_call : (t : Json) (f v : Option Json) → answered (Some t) f v ≡ request i m ps → ⊥
  answered_no_call t f v e = go (response_id t) e
    where
      go : (x : Option (Option Id)) → response_with x f v ≡ request i m ps → ⊥
      go (Some x) e = outcome_no_call x f v e
      go None e = cc

  -- a request keeps its method and params, whatever its id
  request_renamed : (o p f v : Option Json) (t u : Json) (k : Id) → by_names o (Some t) p f v ≡ request i m ps → id_of u ≡ Some k → by_names o (Some u) p f v ≡ request k m ps
  request_renamed (Some (string s n)) p f v t u k e h = ap (λ a. request_if (are_params p) a n (given p)) h ∙ called_if k (are_params p) (id_of t) n (given p) e
  request_renamed (Some (word s w)) p f v t u k e h = absurd (cc)
  request_renamed (Some (number s ds)) p f v t u k e h = absurd (cc)
  request_renamed (Some (array s js)) p f v t u k e h = absurd (cc)
  request_renamed (Some (object s ms)) p f v t u k e h = absurd (cc)
  request_renamed None p f v t u k e h = absurd (answered_no_call t f v e)

  request_id : (o p f v : Option Json) (t : Json) → by_names o (Some t) p f v ≡ request i m ps → id_of t ≡ Some i
  request_id (Some (string s n)) p f v t e = called_id (are_params p) (id_of t) n (given p) e
  request_id (Some (word s w)) p f v t e = absurd (cc)
  request_id (Some (number s ds)) p f v t e = absurd (cc)
  request_id (Some (array s js)) p f v t e = absurd (cc)
  request_id (Some (object s ms)) p f v t e = absurd (cc)
  request_id None p f v t e = absurd (answered_no_call t f v e)

module _ (i : Option Id) (r : Json) where
  pub call_no_result : (b : Bool) (a : Option Id) (n : List ℕ) (g : Option Json) → request_if b a n g ≡ result i r → ⊥
  call_no_result true (Some x) n g e = cc
  call_no_result true None n g e = cc
  call_no_result false a n g e = cc

  -- what a result says of its members
  record IsResult (x : Option Id) (f v : Option Json) : Type 0 where
    same : x ≡ i
    is : result_tree v ≡ r
    goes : (k : Option Id) → outcome k f v ≡ result k r

  outcome_result : (x : Option Id) (f v : Option Json) → outcome x f v ≡ result i r → IsResult x f v
  outcome_result x None v e = record { same = cc; is = cc; goes = λ k. ap (λ z. result k z) (let s : result_tree v ≡ r = cc in s) }
  outcome_result x (Some f) v e = go (is_null f) refl (is_error f && not (is_some (given v))) refl e
    where
      go : (a : Bool) → is_null f ≡ a → (b : Bool) → (is_error f && not (is_some (given v))) ≡ b → (if a then result x (result_tree v) else error_if b x f) ≡ result i r → IsResult x (Some f) v
      go true n b l e = record {
        same = cc;
        is = cc;
        goes = λ k. ap (λ c. if c then result k (result_tree v) else error_if (is_error f && not (is_some (given v))) k f) n
            ∙ ap (λ z. result k z) (let s : result_tree v ≡ r = cc in s);
      }
      go false n true l e = absurd (cc)
      go false n false l e = absurd (cc)

  record IsAnswer (t : Json) (f v : Option Json) : Type 0 where
    same : response_id t ≡ Some i
    is : result_tree v ≡ r
    goes : (u : Json) (k : Option Id) → response_id u ≡ Some k → answered (Some u) f v ≡ result k r

  answered_result : (t : Json) (f v : Option Json) → answered (Some t) f v ≡ result i r → IsAnswer t f v
  answered_result t f v e = go (response_id t) refl e
    where
      go : (x : Option (Option Id)) → response_id t ≡ x → response_with x f v ≡ result i r → IsAnswer t f v
      go (Some x) d e = let q : IsResult x f v = outcome_result x f v e in
          record { same = d ∙ ap Some q.same; is = q.is; goes = λ u k h. ap (λ a. response_with a f v) h ∙ q.goes k }
      go None d e = absurd (cc)

  -- and its envelope
  pub record IsResultOf (o p f v : Option Json) (t : Json) : Type 0 where
    pub same : response_id t ≡ Some i
    pub is : result_tree v ≡ r
    pub goes : (u : Json) (k : Option Id) → response_id u ≡ Some k → by_names o (Some u) p f v ≡ result k r

  pub result_of : (o p f v : Option Json) (t : Json) → by_names o (Some t) p f v ≡ result i r → IsResultOf o p f v t
  result_of (Some (string s n)) p f v t e = absurd (call_no_result (are_params p) (id_of t) n (given p) e)
  result_of (Some (word s w)) p f v t e = absurd (cc)
  result_of (Some (number s ds)) p f v t e = absurd (cc)
  result_of (Some (array s js)) p f v t e = absurd (cc)
  result_of (Some (object s ms)) p f v t e = absurd (cc)
  result_of None p f v t e = let q : IsAnswer t f v = answered_result t f v e in record { same = q.same; is = q.is; goes = q.goes }

module _ (i : Option Id) (r : Json) where
  call_no_error : (b : Bool) (a : Option Id) (n : List ℕ) (g : Option Json) → request_if b a n g ≡ error i r → ⊥
  call_no_error true (Some x) n g e = cc
  call_no_error true None n g e = cc
  call_no_error false a n g e = cc

  -- what an error says of its members
  record IsFailure (x : Option Id) (f v : Option Json) : Type 0 where
    failure : Json
    there : f ≡ Some failure
    same : x ≡ i
    is : bare failure ≡ r
    goes : (k : Option Id) → outcome k f v ≡ error k r

  outcome_error : (x : Option Id) (f v : Option Json) → outcome x f v ≡ error i r → IsFailure x f v
  outcome_error x None v e = absurd (cc)
  outcome_error x (Some f) v e = go (is_null f) refl (is_error f && not (is_some (given v))) refl e
    where
      go : (a : Bool) → is_null f ≡ a → (b : Bool) → (is_error f && not (is_some (given v))) ≡ b → (if a then result x (result_tree v) else error_if b x f) ≡ error i r → IsFailure x (Some f) v
      go true n b l e = absurd (cc)
      go false n true l e = let s : bare f ≡ r = cc in record {
        failure = f;
        there = refl;
        same = cc;
        is = s;
        goes = λ k. ap₂ (λ c d. if c then result k (result_tree v) else error_if d k f) n l ∙ ap (λ z. error k z) s;
      }
      go false n false l e = absurd (cc)

  -- and of its envelope
  record IsErrorOf (o p f v : Option Json) (t : Json) : Type 0 where
    failure : Json
    there : f ≡ Some failure
    same : response_id t ≡ Some i
    is : bare failure ≡ r
    goes : (u : Json) (k : Option Id) → response_id u ≡ Some k → by_names o (Some u) p f v ≡ error k r

  answered_error : (t : Json) (p f v : Option Json) → answered (Some t) f v ≡ error i r → IsErrorOf None p f v t
  answered_error t p f v e = go (response_id t) refl e
    where
      go : (x : Option (Option Id)) → response_id t ≡ x → response_with x f v ≡ error i r → IsErrorOf None p f v t
      go (Some x) d e = let q : IsFailure x f v = outcome_error x f v e in
          record { failure = q.failure; there = q.there; same = d ∙ ap Some q.same; is = q.is; goes = λ u k h. ap (λ a. response_with a f v) h ∙ q.goes k }
      go None d e = absurd (cc)

  error_of : (o p f v : Option Json) (t : Json) → by_names o (Some t) p f v ≡ error i r → IsErrorOf o p f v t
  error_of (Some (string s n)) p f v t e = absurd (call_no_error (are_params p) (id_of t) n (given p) e)
  error_of (Some (word s w)) p f v t e = absurd (cc)
  error_of (Some (number s ds)) p f v t e = absurd (cc)
  error_of (Some (array s js)) p f v t e = absurd (cc)
  error_of (Some (object s ms)) p f v t e = absurd (cc)
  error_of None p f v t e = answered_error t p f v e

pub place_of : (cs body : List ℕ) (s : Span) (ms : Members) (t : Json) → tree_of body ≡ Some (object s ms) → named cs ms ≡ Some t → place_in cs (tree_of body) ≡ Some (span_of t)
place_of cs body s ms t e n = ap (place_in cs) e ∙ rw n refl

pub no_place : (cs body : List ℕ) (s : Span) (ms : Members) → tree_of body ≡ Some (object s ms) → named cs ms ≡ None → place_in cs (tree_of body) ≡ None
no_place cs body s ms e n = ap (place_in cs) e ∙ rw n refl

-- the bytes of a member are its value's text
pub member_bytes_law : (cs body : List ℕ) (s : Span) (ms : Members) (t : Json) → tree_of body ≡ Some (object s ms) → named cs ms ≡ Some t → Placed t 0 (member_bytes cs body)
unfolding member_bytes
member_bytes_law cs body s ms t e n =
    let inside : InSpan body t = member_in_span body s cs ms t (tree_sound body (object s ms) e).0 n in
    subst (Placed t 0) (sym (ap (slice_of body) (place_of cs body s ms t e n)))
    (moved t (span_of t).from (take ((span_of t).to - (span_of t).from) (drop (span_of t).from body)) inside.stands 0)

-- the bytes of a member that isn't there
pub no_member_bytes : (cs body : List ℕ) (s : Span) (ms : Members) → tree_of body ≡ Some (object s ms) → named cs ms ≡ None → member_bytes cs body ≡ codes "null"
unfolding member_bytes
no_member_bytes cs body s ms e n = ap (slice_of body) (no_place cs body s ms e n)

-- a body with another id says what its other members say
record Renamed (body w : List ℕ) (v : Envelope body) (u : Json) : Type 0 where
  is : message_of (with_id_text body w) ≡ by_names (named (codes "method") v.members) (Some u) (named (codes "params") v.members) (named (codes "error") v.members) (named (codes "result") v.members)

renamed : (body w : List ℕ) (v : Envelope body) (u : Json) → value u 0 w → depth u ≡ 0 → Renamed body w v u
unfolding with_id_text
renamed body w v u stands flat =
    let sound : IsText body (object v.span v.members) × (depth (object v.span v.members) ≤ 1024) = tree_sound body (object v.span v.members) v.tree in
    let made : Replaced body (record { span = span_of v.id; text = w } ∷ []) (object v.span (put_named (codes "id") u v.members))
    = member_put body v.span (codes "id") v.members v.id u w sound.0 v.named_id (says_of u 0 w stands) in
    let low : depth (object v.span v.members) ≤ 1024 = sound.1 in
    record {
      is = ap (λ o. message_of (with_id_at body w o)) (place_of (codes "id") body v.span v.members v.id v.tree v.named_id)
          ∙ message_says (object v.span (put_named (codes "id") u v.members)) (replace body (record { span = span_of v.id; text = w } ∷ [])) made.says
          (omega (arith, members_deep (codes "id") v.members u))
          ∙ put_id v.span v.members v.id u v.test v.named_id;
    }

pub id_flat : (u : Json) (k : Id) → id_of u ≡ Some k → depth u ≡ 0
id_flat u k h = response_flat u (Some k) (response_is_id u k h)

-- a request with another id is the same request under that id
pub request_with_id : (body w : List ℕ) (i k : Id) (m : List ℕ) (ps : Option Json) → message_of body ≡ request i m ps → IsIdText k w → message_of (with_id_text body w) ≡ request k m ps
request_with_id body w i k m ps e h =
    let v : Envelope body = envelope body (ap has_id e) in
    let q : Renamed body w v h.tree = renamed body w v h.tree h.stands (id_flat h.tree k h.is) in
    q.is ∙ request_renamed i m ps (named (codes "method") v.members) (named (codes "params") v.members) (named (codes "error") v.members) (named (codes "result") v.members) v.id h.tree k (sym v.is ∙ e) h.is

-- a result with another id
pub result_with_id : (body w : List ℕ) (i k : Option Id) (r : Json) → message_of body ≡ result i r → IsResponseIdText k w → message_of (with_id_text body w) ≡ result k r
result_with_id body w i k r e h =
    let v : Envelope body = envelope body (ap has_id e) in
    let q : Renamed body w v h.tree = renamed body w v h.tree h.stands (response_flat h.tree k h.is) in
    let s : IsResultOf i r (named (codes "method") v.members) (named (codes "params") v.members) (named (codes "error") v.members) (named (codes "result") v.members) v.id
    = result_of i r (named (codes "method") v.members) (named (codes "params") v.members) (named (codes "error") v.members) (named (codes "result") v.members) v.id (sym v.is ∙ e) in
    q.is ∙ s.goes h.tree k h.is

-- an error with another id
pub error_with_id : (body w : List ℕ) (i k : Option Id) (r : Json) → message_of body ≡ error i r → IsResponseIdText k w → message_of (with_id_text body w) ≡ error k r
error_with_id body w i k r e h =
    let v : Envelope body = envelope body (ap has_id e) in
    let q : Renamed body w v h.tree = renamed body w v h.tree h.stands (response_flat h.tree k h.is) in
    let s : IsErrorOf i r (named (codes "method") v.members) (named (codes "params") v.members) (named (codes "error") v.members) (named (codes "result") v.members) v.id
    = error_of i r (named (codes "method") v.members) (named (codes "params") v.members) (named (codes "error") v.members) (named (codes "result") v.members) v.id (sym v.is ∙ e) in
    q.is ∙ s.goes h.tree k h.is

id_moved : (t : Json) (k : Id) (w : List ℕ) → Placed t 0 w → id_of t ≡ Some k → IsIdText k w
id_moved t k w p h = record { tree = p.tree; stands = p.stands; is = sym (id_bare p.tree) ∙ ap id_of p.same ∙ id_bare t ∙ h }

response_moved : (t : Json) (k : Option Id) (w : List ℕ) → Placed t 0 w → response_id t ≡ Some k → IsResponseIdText k w
response_moved t k w p h = record { tree = p.tree; stands = p.stands; is = sym (response_id_bare p.tree) ∙ ap response_id p.same ∙ response_id_bare t ∙ h }

-- the bytes of a request's id are the id's text
pub request_id_bytes : (body : List ℕ) (i : Id) (m : List ℕ) (ps : Option Json) → message_of body ≡ request i m ps → IsIdText i (id_bytes body)
request_id_bytes body i m ps e =
    let v : Envelope body = envelope body (ap has_id e) in
    id_moved v.id i (id_bytes body) (member_bytes_law (codes "id") body v.span v.members v.id v.tree v.named_id)
    (request_id i m ps (named (codes "method") v.members) (named (codes "params") v.members) (named (codes "error") v.members) (named (codes "result") v.members) v.id (sym v.is ∙ e))

pub result_id_bytes : (body : List ℕ) (i : Option Id) (r : Json) → message_of body ≡ result i r → IsResponseIdText i (id_bytes body)
result_id_bytes body i r e =
    let v : Envelope body = envelope body (ap has_id e) in
    let s : IsResultOf i r (named (codes "method") v.members) (named (codes "params") v.members) (named (codes "error") v.members) (named (codes "result") v.members) v.id
    = result_of i r (named (codes "method") v.members) (named (codes "params") v.members) (named (codes "error") v.members) (named (codes "result") v.members) v.id (sym v.is ∙ e) in
    response_moved v.id i (id_bytes body) (member_bytes_law (codes "id") body v.span v.members v.id v.tree v.named_id) s.same

pub error_id_bytes : (body : List ℕ) (i : Option Id) (r : Json) → message_of body ≡ error i r → IsResponseIdText i (id_bytes body)
error_id_bytes body i r e =
    let v : Envelope body = envelope body (ap has_id e) in
    let s : IsErrorOf i r (named (codes "method") v.members) (named (codes "params") v.members) (named (codes "error") v.members) (named (codes "result") v.members) v.id
    = error_of i r (named (codes "method") v.members) (named (codes "params") v.members) (named (codes "error") v.members) (named (codes "result") v.members) v.id (sym v.is ∙ e) in
    response_moved v.id i (id_bytes body) (member_bytes_law (codes "id") body v.span v.members v.id v.tree v.named_id) s.same

null_text : IsShallowText 1023 (word nowhere Null) (codes "null")
null_text = record { text = record { tree = word (record { from = 0; to = 4 }) Null; stands = (refl, refl); same = refl }; shallow = omega arith }

value_moved : (d : ℕ) (t : Json) (w : List ℕ) → Placed t 0 w → depth t ≤ d → IsShallowText d (bare t) w
value_moved d t w p h = record { text = record { tree = p.tree; stands = p.stands; same = p.same }; shallow = let e : depth (bare t) ≡ depth t = depth_bare t in omega arith }

result_text : (body : List ℕ) (s : Span) (ms : Members) → tree_of body ≡ Some (object s ms) → (o : Option Json) → named (codes "result") ms ≡ o → IsShallowText 1023 (result_tree o) (result_bytes body)
result_text body s ms e (Some t) n =
    let low : depth (object s ms) ≤ 1024 = (tree_sound body (object s ms) e).1 in
    value_moved 1023 t (result_bytes body) (member_bytes_law (codes "result") body s ms t e n) (omega (arith, named_below (codes "result") ms t n))
result_text body s ms e None n = subst (IsShallowText 1023 (word nowhere Null)) (sym (no_member_bytes (codes "result") body s ms e n)) null_text

-- the bytes of a result are its value's text
pub result_bytes_law : (body : List ℕ) (i : Option Id) (r : Json) → message_of body ≡ result i r → IsShallowText 1023 r (result_bytes body)
result_bytes_law body i r e =
    let v : Envelope body = envelope body (ap has_id e) in
    let s : IsResultOf i r (named (codes "method") v.members) (named (codes "params") v.members) (named (codes "error") v.members) (named (codes "result") v.members) v.id
    = result_of i r (named (codes "method") v.members) (named (codes "params") v.members) (named (codes "error") v.members) (named (codes "result") v.members) v.id (sym v.is ∙ e) in
    subst (λ z. IsShallowText 1023 z (result_bytes body)) s.is (result_text body v.span v.members v.tree (named (codes "result") v.members) refl)
