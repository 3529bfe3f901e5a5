-- What an envelope tells of its message.
use Rattle.std.proofs.Common.{◌≡◌, ℕ, Bool, false, List, Option, Some, None, option_map, sym, ◌∙◌, ap, subst}
use Rattle.std.specs.Prelude.{bytes_eq}
use Rattle.json_text.specs.declared.span.Span.{Span}
use Rattle.json_text.specs.Bare.{bare}
use Rattle.json_text.specs.Json.{Json, string}
use Rattle.json_nodes.specs.At.{At}
use Rattle.json_nodes.specs.Doc.{Doc}
use Rattle.rpc_message.specs.declared.envelope.Envelope.{Envelope}
use Rattle.rpc_message.specs.declared.envelope.Envelope.TheVariants.{Request, Notification, Outcome, Failure}
use Rattle.rpc_message.specs.Envelopes.{Tells}
use Rattle.rpc_message.specs.Message.{Message, message_of, request, notification, result, error}
use Rattle.mux_model.specs.event_model.specs.Event.{notifies, requests}
use Rattle.rpc_message.specs.Message.{Id, result_tree}
use Rattle.std.specs.Prelude.{encode_utf8_all}
use Rattle.rpc_message.specs.Parsed.{FoundBare, method_of}
use Rattle.mux_members.specs.Envelopes.{request_method, notification_method, request_params}

-- an envelope without a method of that sort
pub not_requests : (doc : Doc) (e : Envelope) (m : Message) (name : List ℕ) → Tells doc e m → request_method e ≡ None → false ≡ requests name m
not_requests doc (Request id method params) m name t h = absurd (cc)
not_requests doc (Notification method params) m name t h = ap (requests name) (sym t.is)
not_requests doc (Outcome id value) m name t h = ap (requests name) (sym t.is)
not_requests doc (Failure id failure) m name t h = ap (requests name) (sym t.is)

pub not_notifies : (doc : Doc) (e : Envelope) (m : Message) (name : List ℕ) → Tells doc e m → notification_method e ≡ None → false ≡ notifies name m
not_notifies doc (Notification method params) m name t h = absurd (cc)
not_notifies doc (Request id method params) m name t h = ap (notifies name) (sym t.is)
not_notifies doc (Outcome id value) m name t h = ap (notifies name) (sym t.is)
not_notifies doc (Failure id failure) m name t h = ap (notifies name) (sym t.is)

pub told_requests : (doc : Doc) (e : Envelope) (m : Message) (name : List ℕ) (b : Bool) (n : ℕ) → Tells doc e m → request_method e ≡ Some n → ((s : Span) (cs : List ℕ) → At doc n (string s cs) → b ≡ bytes_eq name cs) → b ≡ requests name m
told_requests doc (Request id method params) m name b n t h tell =
    let same : method ≡ n = cc in
    tell t.span t.method (subst (λ i. At doc i (string t.span t.method)) same t.method_stands) ∙ ap (requests name) (sym t.is)
told_requests doc (Notification method params) m name b n t h tell = absurd (cc)
told_requests doc (Outcome id value) m name b n t h tell = absurd (cc)
told_requests doc (Failure id failure) m name b n t h tell = absurd (cc)

pub told_notifies : (doc : Doc) (e : Envelope) (m : Message) (name : List ℕ) (b : Bool) (n : ℕ) → Tells doc e m → notification_method e ≡ Some n → ((s : Span) (cs : List ℕ) → At doc n (string s cs) → b ≡ bytes_eq name cs) → b ≡ notifies name m
told_notifies doc (Notification method params) m name b n t h tell =
    let same : method ≡ n = cc in
    tell t.span t.method (subst (λ i. At doc i (string t.span t.method)) same t.method_stands) ∙ ap (notifies name) (sym t.is)
told_notifies doc (Request id method params) m name b n t h tell = absurd (cc)
told_notifies doc (Outcome id value) m name b n t h tell = absurd (cc)
told_notifies doc (Failure id failure) m name b n t h tell = absurd (cc)

-- a request's params
pub told_params : (doc : Doc) (e : Envelope) (m : Message) (id : Id) (method : List ℕ) (params : Option Json) → Tells doc e m → m ≡ request id method params → FoundBare doc params (request_params e)
told_params doc (Request i n p) m id method params t h = record { value = t.params; stands = t.params_stand; is = let same : m ≡ request t.id t.method (option_map bare t.params) = t.is in cc }
told_params doc (Notification n p) m id method params t h = absurd (let same : m ≡ notification t.method (option_map bare t.params) = t.is in cc)
told_params doc (Outcome i v) m id method params t h = absurd (let same : m ≡ result t.id (result_tree t.value) = t.is in cc)
told_params doc (Failure i f) m id method params t h = absurd (let same : m ≡ error t.id (bare t.failure) = t.is in cc)

-- the same at another name for the text
pub found_there : (doc d : Doc) (params : Option Json) (told answer : Option ℕ) → d ≡ doc → answer ≡ told → FoundBare doc params told → FoundBare d params answer
found_there doc d params told answer e f h = subst (λ z. FoundBare z params answer) (sym e) (subst (λ z. FoundBare doc params z) (sym f) h)

-- a request's method, in UTF-8
pub method_told : (bytes name : List ℕ) (id : Id) (method : List ℕ) (params : Option Json) → message_of bytes ≡ request id method params → (r : Option (List ℕ)) → r ≡ Some name → r ≡ method_of (message_of bytes) → name ≡ encode_utf8_all method
method_told bytes name id method params is r e h = let same : ◌≡◌ {A = Option (List ℕ)} (Some name) (Some (encode_utf8_all method)) = sym e ∙ h ∙ ap method_of is in cc

pub no_method_told : (bytes : List ℕ) (id : Id) (method : List ℕ) (params : Option Json) → message_of bytes ≡ request id method params → (r : Option (List ℕ)) → r ≡ None → r ≡ method_of (message_of bytes) → ⊥
no_method_told bytes id method params is r e h = let same : ◌≡◌ {A = Option (List ℕ)} None (Some (encode_utf8_all method)) = sym e ∙ h ∙ ap method_of is in cc

pub notice_told : (bytes name : List ℕ) (method : List ℕ) (params : Option Json) → message_of bytes ≡ notification method params → (r : Option (List ℕ)) → r ≡ Some name → r ≡ method_of (message_of bytes) → name ≡ encode_utf8_all method
notice_told bytes name method params is r e h = let same : ◌≡◌ {A = Option (List ℕ)} (Some name) (Some (encode_utf8_all method)) = sym e ∙ h ∙ ap method_of is in cc

pub no_notice_told : (bytes : List ℕ) (method : List ℕ) (params : Option Json) → message_of bytes ≡ notification method params → (r : Option (List ℕ)) → r ≡ None → r ≡ method_of (message_of bytes) → ⊥
no_notice_told bytes method params is r e h = let same : ◌≡◌ {A = Option (List ℕ)} None (Some (encode_utf8_all method)) = sym e ∙ h ∙ ap method_of is in cc
