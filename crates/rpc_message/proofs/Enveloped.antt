-- What the values of an envelope make, put together.
use Rattle.std.proofs.Common.{◌≡◌, ℕ, Bool, true, false, ◌&&◌, not, List, Option, Some, None, is_some, option_map, codes, if◌then◌else◌, refl, sym, ◌∙◌, ap, ap₂, subst}
use Rattle.std.specs.Prelude.{IfSome}
use Rattle.std.specs.Str.{chars}
use Rattle.json_text.specs.declared.span.Span.{Span}
use Rattle.json_text.specs.declared.kind.Kind.{Kind}
use Rattle.json_text.specs.declared.kind.Kind.TheVariants as kind
use Rattle.json_text.specs.Bare.{bare}
use Rattle.json_text.specs.Json.{Json, word, number, string, array, object, Members}
use Rattle.json_text.specs.Named.{named, named_in}
use Rattle.json_span.specs.json_nodes.specs.At.{At, Found}
use Rattle.json_span.specs.json_nodes.specs.Doc.{Doc}
use Rattle.json_span.specs.json_nodes.specs.Nodes.{kind_of}
use Rattle.json_span.specs.json_nodes.proofs.Sames.{ByMembers, object_of}
use Rattle.rpc_message.specs.declared.envelope.Envelope.{Envelope}
use Rattle.rpc_message.specs.Envelopes.{AreMembers, IsMadeOf, TellsIf, IsRequest, IsNotification, by_names, is_enveloped, not_null}
use Rattle.rpc_message.specs.Message.{Id, Message, not_message, request_if, notification_if, called, are_params, given, id_of, is_null, is_string_value, is_two, no_name_twice, message_in}
use Rattle.rpc_message.proofs.Bodies.{method_names}

-- whether a member's name is no name of those behind it
abbrev pub once_first : Members → List ℕ → Json → Members → Bool
once_first ns cs u ms = not (is_some (named cs ms))

pub once_by : (ns : Members) → ByMembers (λ ms. no_name_twice ms) (once_first ns)
unfolding no_name_twice
once_by ns s cs u ms = refl

jsonrpc_chars : chars (codes "jsonrpc") ≡ codes "jsonrpc"
unfolding chars
jsonrpc_chars = refl

id_chars : chars (codes "id") ≡ codes "id"
unfolding chars
id_chars = refl

method_chars : chars (codes "method") ≡ codes "method"
unfolding chars
method_chars = refl

params_chars : chars (codes "params") ≡ codes "params"
unfolding chars
params_chars = refl

error_chars : chars (codes "error") ≡ codes "error"
unfolding chars
error_chars = refl

result_chars : chars (codes "result") ≡ codes "result"
unfolding chars
result_chars = refl

-- an object is enveloped where both tests hold
module _ (doc : Doc) (j : Json) (x : Kind) (a : Bool) (is : x ≡ kind.Object) (told : x ≡ kind_of j) (stands : At doc 0 j) (once : (s : Span) (ms : Members) → At doc 0 (object s ms) → a ≡ no_name_twice ms) where
  pub both_tests : (b : Bool) → a ≡ true → b ≡ is_two (named_in (chars (codes "jsonrpc")) j) → b ≡ is_enveloped j
  both_tests b h e = let q : (s : Span) × (ms : Members) × (j ≡ object s ms) = object_of j (sym told ∙ is) in go q.0 q.1 q.2
    where
      go : (s : Span) (ms : Members) → j ≡ object s ms → b ≡ is_enveloped j
      go s ms g =
          let first : no_name_twice ms ≡ true = sym (once s ms (subst (λ z. At doc 0 z) g stands)) ∙ h in
          e ∙ ap (λ z. is_two (named_in z j)) jsonrpc_chars ∙ ap (λ z. is_two (named_in (codes "jsonrpc") z)) g
          ∙ sym (ap is_enveloped g ∙ ap (λ z. z && is_two (named (codes "jsonrpc") ms)) first)

  pub first_fails : a ≡ false → a ≡ is_enveloped j
  first_fails h = let q : (s : Span) × (ms : Members) × (j ≡ object s ms) = object_of j (sym told ∙ is) in go q.0 q.1 q.2
    where
      go : (s : Span) (ms : Members) → j ≡ object s ms → a ≡ is_enveloped j
      go s ms g =
          let first : no_name_twice ms ≡ false = sym (once s ms (subst (λ z. At doc 0 z) g stands)) ∙ h in
          h ∙ sym (ap is_enveloped g ∙ ap (λ z. z && is_two (named (codes "jsonrpc") ms)) first)

pub not_enveloped : (j : Json) (x : Kind) → (x ≡ kind.Object → ⊥) → x ≡ kind_of j → false ≡ is_enveloped j
not_enveloped (object s ms) x n e = absurd (n e)
not_enveloped (word s w) x n e = refl
not_enveloped (number s ds) x n e = refl
not_enveloped (string s cs) x n e = refl
not_enveloped (array s js) x n e = refl

module _ (i p f v : Option Json) where
  pub method_no_text : (m : Json) (b : Bool) → b ≡ is_string_value (Some m) → b ≡ false → by_names (Some m) i p f v ≡ not_message
  method_no_text (string s n) b e h = absurd (cc)
  method_no_text (word s w) b e h = refl
  method_no_text (number s ds) b e h = refl
  method_no_text (array s js) b e h = refl
  method_no_text (object s ms) b e h = refl

  called_no_params : (n : List ℕ) (o : Option Json) → are_params p ≡ false → called n o p ≡ not_message
  called_no_params n (Some t) h = ap (λ b. request_if b (id_of t) n (given p)) h
  called_no_params n None h = ap (λ b. notification_if b n (given p)) h

  pub no_params : (m : Json) (b : Bool) → b ≡ are_params p → b ≡ false → by_names (Some m) i p f v ≡ not_message
  no_params (string s n) b e h = called_no_params n i (sym e ∙ h)
  no_params (word s w) b e h = refl
  no_params (number s ds) b e h = refl
  no_params (array s js) b e h = refl
  no_params (object s ms) b e h = refl

given_not_null : (p : Option Json) → given p ≡ option_map bare (not_null p)
given_not_null None = refl
given_not_null (Some j) = go (is_null j)
  where
    go : (b : Bool) → (if b then None else Some (bare j)) ≡ option_map bare (if b then None else Some j)
    go true = refl
    go false = refl

module _ (doc : Doc) (p f v : Option Json) (method : ℕ) (params : Option ℕ) (good : are_params p ≡ true) (params_stand : Found doc (not_null p) params) where
  request_of : (t : Json) (id : ℕ) (s : Span) (n : List ℕ) → At doc method (string s n) → At doc id t → (o : Option Id) → id_of t ≡ o → is_some o ≡ true → IsRequest doc id method params (called n (Some t) p)
  request_of t id s n a b (Some k) e h = record {
    id_tree = t;
    id = k;
    id_stands = b;
    id_is = e;
    span = s;
    method = n;
    method_stands = a;
    params = not_null p;
    params_stand = params_stand;
    is = ap₂ (λ c o. request_if c o n (given p)) good e ∙ ap (λ g. request_if true (Some k) n g) (given_not_null p);
  }
  request_of t id s n a b None e h = absurd (cc)

  pub is_request : (m : Json) (i : Option Json) (id : ℕ) → is_string_value (Some m) ≡ true → At doc method m → Found doc i (Some id) → ((t : Json) → At doc id t → is_some (id_of t) ≡ true) → IsRequest doc id method params (by_names (Some m) i p f v)
  is_request (string s n) (Some t) id e a b h = request_of t id s n a b (id_of t) refl (h t b)
  is_request (string s n) None id e a b h = absurd b
  is_request (word s w) i id e a b h = absurd (cc)
  is_request (number s ds) i id e a b h = absurd (cc)
  is_request (array s js) i id e a b h = absurd (cc)
  is_request (object s ms) i id e a b h = absurd (cc)

  pub is_notification : (m : Json) (i : Option Json) → is_string_value (Some m) ≡ true → At doc method m → Found doc i None → IsNotification doc method params (by_names (Some m) i p f v)
  is_notification (string s n) None e a b = record {
    span = s;
    method = n;
    method_stands = a;
    params = not_null p;
    params_stand = params_stand;
    is = ap (λ c. notification_if c n (given p)) good ∙ ap (λ g. notification_if true n g) (given_not_null p);
  }
  is_notification (string s n) (Some t) e a b = absurd b
  is_notification (word s w) i e a b = absurd (cc)
  is_notification (number s ds) i e a b = absurd (cc)
  is_notification (array s js) i e a b = absurd (cc)
  is_notification (object s ms) i e a b = absurd (cc)

-- a message by its envelope
abbrev named_message : Json → Message
named_message j = by_names (named_in (codes "method") j) (named_in (codes "id") j) (named_in (codes "params") j) (named_in (codes "error") j) (named_in (codes "result") j)

message_enveloped : (j : Json) → message_in (Some j) ≡ (if is_enveloped j then named_message j else not_message)
message_enveloped (object s ms) = ap (λ m. if is_enveloped (object s ms) then m else not_message) (method_names (named (codes "method") ms) ms)
message_enveloped (word s w) = refl
message_enveloped (number s ds) = refl
message_enveloped (string s cs) = refl
message_enveloped (array s js) = refl

pub no_envelope : (j : Json) (b : Bool) → b ≡ is_enveloped j → b ≡ false → message_in (Some j) ≡ not_message
no_envelope j b e h = message_enveloped j ∙ ap (λ c. if c then named_message j else not_message) (sym e ∙ h)

module _ (doc : Doc) (j : Json) (e : Option Envelope) (b : Bool) (test : b ≡ is_enveloped j) (holds : b ≡ true) where
  told_message : TellsIf doc e (named_message j) → TellsIf doc e (message_in (Some j))
  told_message h = subst (λ m. TellsIf doc e m) (sym (message_enveloped j ∙ ap (λ c. if c then named_message j else not_message) (sym test ∙ holds))) h

  pub told_called : (method : ℕ) (found id params : Option ℕ) → Found doc (named_in (chars (codes "method")) j) found → found ≡ Some method → Found doc (named_in (chars (codes "id")) j) id → Found doc (named_in (chars (codes "params")) j) params
      → ((m : Json) (i p f v : Option Json) → At doc method m → Found doc i id → Found doc p params → TellsIf doc e (by_names (Some m) i p f v)) → TellsIf doc e (message_in (Some j))
  told_called method found id params g is h k tell = told_message (go (named_in (codes "method") j) (subst (λ o. Found doc (named_in (codes "method") j) o) is (subst (λ z. Found doc (named_in z j) found) method_chars g)))
    where
      go : (o : Option Json) → Found doc o (Some method) → TellsIf doc e (by_names o (named_in (codes "id") j) (named_in (codes "params") j) (named_in (codes "error") j) (named_in (codes "result") j))
      go (Some m) a = tell m (named_in (codes "id") j) (named_in (codes "params") j) (named_in (codes "error") j) (named_in (codes "result") j) a
          (subst (λ z. Found doc (named_in z j) id) id_chars h) (subst (λ z. Found doc (named_in z j) params) params_chars k)
      go None a = absurd a

  pub told_answered : (found id failure value : Option ℕ) → Found doc (named_in (chars (codes "method")) j) found → found ≡ None → Found doc (named_in (chars (codes "id")) j) id → Found doc (named_in (chars (codes "error")) j) failure → Found doc (named_in (chars (codes "result")) j) value
      → ((i f v : Option Json) → Found doc i id → Found doc f failure → Found doc v value → TellsIf doc e (by_names None i None f v)) → TellsIf doc e (message_in (Some j))
  told_answered found id failure value g is h k l tell = told_message (go (named_in (codes "method") j) (subst (λ o. Found doc (named_in (codes "method") j) o) is (subst (λ z. Found doc (named_in z j) found) method_chars g)))
    where
      go : (o : Option Json) → Found doc o None → TellsIf doc e (by_names o (named_in (codes "id") j) (named_in (codes "params") j) (named_in (codes "error") j) (named_in (codes "result") j))
      go None a = tell (named_in (codes "id") j) (named_in (codes "error") j) (named_in (codes "result") j)
          (subst (λ z. Found doc (named_in z j) id) id_chars h) (subst (λ z. Found doc (named_in z j) failure) error_chars k) (subst (λ z. Found doc (named_in z j) value) result_chars l)
      go (Some m) a = absurd a

-- the values of an envelope are the members of these names
module _ (doc : Doc) (j : Json) (e : Option Envelope) where
  pub made_called : (method : ℕ) (found id params : Option ℕ) → Found doc (named_in (chars (codes "method")) j) found → found ≡ Some method → Found doc (named_in (chars (codes "id")) j) id → Found doc (named_in (chars (codes "params")) j) params
      → ((m : Json) (i p f v : Option Json) → At doc method m → Found doc i id → Found doc p params → IfSome e (λ x. IsMadeOf doc (Some m) i p f v x)) → IfSome e (λ x. AreMembers doc j x)
  made_called method found id params g is h k made = go (named_in (codes "method") j) (subst (λ o. Found doc (named_in (codes "method") j) o) is (subst (λ z. Found doc (named_in z j) found) method_chars g))
    where
      go : (o : Option Json) → Found doc o (Some method) → IfSome e (λ x. IsMadeOf doc o (named_in (codes "id") j) (named_in (codes "params") j) (named_in (codes "error") j) (named_in (codes "result") j) x)
      go (Some m) a = made m (named_in (codes "id") j) (named_in (codes "params") j) (named_in (codes "error") j) (named_in (codes "result") j) a
          (subst (λ z. Found doc (named_in z j) id) id_chars h) (subst (λ z. Found doc (named_in z j) params) params_chars k)
      go None a = absurd a

  pub made_answered : (found id failure value : Option ℕ) → Found doc (named_in (chars (codes "method")) j) found → found ≡ None → Found doc (named_in (chars (codes "id")) j) id → Found doc (named_in (chars (codes "error")) j) failure → Found doc (named_in (chars (codes "result")) j) value
      → ((i p f v : Option Json) → Found doc i id → Found doc f failure → Found doc v value → IfSome e (λ x. IsMadeOf doc None i p f v x)) → IfSome e (λ x. AreMembers doc j x)
  made_answered found id failure value g is h k l made = go (named_in (codes "method") j) (subst (λ o. Found doc (named_in (codes "method") j) o) is (subst (λ z. Found doc (named_in z j) found) method_chars g))
    where
      go : (o : Option Json) → Found doc o None → IfSome e (λ x. IsMadeOf doc o (named_in (codes "id") j) (named_in (codes "params") j) (named_in (codes "error") j) (named_in (codes "result") j) x)
      go None a = made (named_in (codes "id") j) (named_in (codes "params") j) (named_in (codes "error") j) (named_in (codes "result") j)
          (subst (λ z. Found doc (named_in z j) id) id_chars h) (subst (λ z. Found doc (named_in z j) failure) error_chars k) (subst (λ z. Found doc (named_in z j) value) result_chars l)
      go (Some m) a = absurd a
