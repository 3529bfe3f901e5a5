-- The envelope of a message: the members of its object that say what it is.
use Rattle.std.proofs.Common.{◌≡◌, ℕ, Bool, true, false, ◌&&◌, not, List, Option, Some, None, is_some, codes, bytes_eq, if◌then◌else◌, refl, sym, ◌∙◌, ap, ap₂}
use Rattle.json_text.specs.declared.span.Span.{Span}
use Rattle.json_text.specs.Json.{Json, word, number, string, array, object, Members, no_members, member}
use Rattle.json_text.specs.Named.{named}
use Rattle.json_text.specs.Paths.{put_named}
use Rattle.json_text.specs.Tree.{tree_of}
use Rattle.json_text.proofs.Put.{named_put, named_put_other, some_put}
use Rattle.rpc_message.specs.Envelopes.{by_names}
use Rattle.rpc_message.specs.Message.{Message, not_json, not_message, request, notification, result, error, no_name_twice, is_two, are_params, given, notification_if, by_method, message_in, message_of}

pub method_names : (o : Option Json) (ms : Members) → by_method o ms ≡ by_names o (named (codes "id") ms) (named (codes "params") ms) (named (codes "error") ms) (named (codes "result") ms)
method_names (Some (string s method)) ms = refl
method_names (Some (word s w)) ms = refl
method_names (Some (number s ds)) ms = refl
method_names (Some (array s js)) ms = refl
method_names (Some (object s ns)) ms = refl
method_names None ms = refl

-- it is a request or a response
abbrev pub has_id : Message → Bool
has_id (request id method params) = true
has_id (result id value) = true
has_id (error id failure) = true
has_id (notification method params) = false
has_id not_json = false
has_id not_message = false

without_id : (o params failure value : Option Json) → has_id (by_names o None params failure value) ≡ false
without_id (Some (string s method)) params failure value = go (are_params params)
  where
    go : (b : Bool) → has_id (notification_if b method (given params)) ≡ false
    go true = refl
    go false = refl
without_id (Some (word s w)) params failure value = refl
without_id (Some (number s ds)) params failure value = refl
without_id (Some (array s js)) params failure value = refl
without_id (Some (object s ms)) params failure value = refl
without_id None params failure value = refl

-- a body that is a request or a response is an object with an id
pub record Envelope (body : List ℕ) : Type 0 where
  pub span : Span
  pub members : Members
  pub id : Json
  pub tree : tree_of body ≡ Some (object span members)
  pub test : (no_name_twice members && is_two (named (codes "jsonrpc") members)) ≡ true
  pub named_id : named (codes "id") members ≡ Some id
  pub is : message_of body ≡ by_names (named (codes "method") members) (Some id) (named (codes "params") members) (named (codes "error") members) (named (codes "result") members)

pub envelope : (body : List ℕ) → has_id (message_of body) ≡ true → Envelope body
unfolding message_of
envelope body h = go (tree_of body) refl h
  where
    with_id : (s : Span) (ms : Members) → tree_of body ≡ Some (object s ms) → (no_name_twice ms && is_two (named (codes "jsonrpc") ms)) ≡ true → (o : Option Json) → named (codes "id") ms ≡ o
        → has_id (by_names (named (codes "method") ms) o (named (codes "params") ms) (named (codes "error") ms) (named (codes "result") ms)) ≡ true
        → message_in (tree_of body) ≡ by_names (named (codes "method") ms) o (named (codes "params") ms) (named (codes "error") ms) (named (codes "result") ms) → Envelope body
    with_id s ms e t (Some j) f h m = record { span = s; members = ms; id = j; tree = e; test = t; named_id = f; is = m }
    with_id s ms e t None f h m = absurd (let n : has_id (by_names (named (codes "method") ms) None (named (codes "params") ms) (named (codes "error") ms) (named (codes "result") ms)) ≡ false
        = without_id (named (codes "method") ms) (named (codes "params") ms) (named (codes "error") ms) (named (codes "result") ms) in cc)

    tested : (s : Span) (ms : Members) → tree_of body ≡ Some (object s ms) → (b : Bool) → (no_name_twice ms && is_two (named (codes "jsonrpc") ms)) ≡ b
        → has_id (if b then by_method (named (codes "method") ms) ms else not_message) ≡ true
        → message_in (tree_of body) ≡ (if b then by_method (named (codes "method") ms) ms else not_message) → Envelope body
    tested s ms e true t h m = with_id s ms e t (named (codes "id") ms) refl (ap has_id (sym (method_names (named (codes "method") ms) ms)) ∙ h) (m ∙ method_names (named (codes "method") ms) ms)
    tested s ms e false t h m = absurd (cc)

    go : (o : Option Json) → tree_of body ≡ o → has_id (message_in o) ≡ true → Envelope body
    go (Some (object s ms)) e h = tested s ms e (no_name_twice ms && is_two (named (codes "jsonrpc") ms)) refl h (ap message_in e)
    go (Some (string s cs)) e h = absurd (cc)
    go (Some (word s w)) e h = absurd (cc)
    go (Some (number s ds)) e h = absurd (cc)
    go (Some (array s js)) e h = absurd (cc)
    go None e h = absurd (cc)

-- no name comes or goes
pub once_put : (cs : List ℕ) (ms : Members) (u : Json) → no_name_twice (put_named cs u ms) ≡ no_name_twice ms
unfolding no_name_twice put_named
once_put cs no_members u = refl
once_put cs (member s ds j ms) u = go (is_some (named cs ms)) (once_put cs ms u)
  where
    go : (b : Bool) → no_name_twice (put_named cs u ms) ≡ no_name_twice ms
        → no_name_twice (if b then member s ds j (put_named cs u ms) else member s ds (if bytes_eq cs ds then u else j) ms) ≡ (not (is_some (named ds ms)) && no_name_twice ms)
    go true e = ap₂ (λ a b. not a && b) (some_put cs ds ms u) e
    go false e = refl

-- another id
pub put_id : (s : Span) (ms : Members) (t u : Json) → (no_name_twice ms && is_two (named (codes "jsonrpc") ms)) ≡ true → named (codes "id") ms ≡ Some t
    → message_in (Some (object s (put_named (codes "id") u ms))) ≡ by_names (named (codes "method") ms) (Some u) (named (codes "params") ms) (named (codes "error") ms) (named (codes "result") ms)
put_id s ms t u test e =
    let same : (no_name_twice (put_named (codes "id") u ms) && is_two (named (codes "jsonrpc") (put_named (codes "id") u ms))) ≡ true
    = ap₂ (λ a o. a && is_two o) (once_put (codes "id") ms u) (named_put_other (codes "id") (codes "jsonrpc") ms u refl) ∙ test in
    ap (λ b. if b then by_method (named (codes "method") (put_named (codes "id") u ms)) (put_named (codes "id") u ms) else not_message) same
    ∙ method_names (named (codes "method") (put_named (codes "id") u ms)) (put_named (codes "id") u ms)
    ∙ ap₂ (λ a b. by_names a b (named (codes "params") (put_named (codes "id") u ms)) (named (codes "error") (put_named (codes "id") u ms)) (named (codes "result") (put_named (codes "id") u ms)))
    (named_put_other (codes "id") (codes "method") ms u refl) (named_put (codes "id") ms t u e)
    ∙ ap₂ (λ a b. by_names (named (codes "method") ms) (Some u) a b (named (codes "result") (put_named (codes "id") u ms)))
    (named_put_other (codes "id") (codes "params") ms u refl) (named_put_other (codes "id") (codes "error") ms u refl)
    ∙ ap (λ a. by_names (named (codes "method") ms) (Some u) (named (codes "params") ms) (named (codes "error") ms) a) (named_put_other (codes "id") (codes "result") ms u refl)
