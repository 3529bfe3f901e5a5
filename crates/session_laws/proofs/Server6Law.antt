-- A cancel names a request that waits for its response.
use Rattle.std.proofs.Common.{◌≡◌, ℕ, Bool, true, false, cond, List, [], ◌∷◌, ◌++◌, codes, bytes_eq, Option, refl, subst}
use Rattle.std.proofs.lemmas.Slice.Eq.{bytes_eq-Decides}
use Rattle.json_text.specs.Json.{Json}
use Rattle.mux_history.specs.declared.out.Out.TheVariants.{ToEditor, ToServer, Spawn, CloseEditor, EndServer}
use Rattle.rpc_message.specs.Message.{Message, request, notification, result, error, not_json, not_message, Id}
use Rattle.document_model.specs.Sayings.{saying_by, saying_of, speaks}
use Rattle.event_model.specs.Event.{Event, took, did}
use Rattle.event_model.specs.Parts.{server_part, is_of_server}
use Rattle.mux_facts.specs.Allowed.{is_response}
use Rattle.mux_facts.proofs.Rules.{word_more}
use Rattle.session_laws.specs.ServerRules.{ServerRule6, may_cancel, waiting_behind, waiting_of}
use Rattle.session_laws.proofs.PartLaws.{is_to_server}

pub free : (part : List Event) (event : Event) → is_to_server event ≡ false → ServerRule6 part event
free part (took cause m) h = tt
free part (did (ToServer s body) m) h = absurd (cc)
free part (did (ToEditor e body) m) h = tt
free part (did (Spawn s g) m) h = tt
free part (did (CloseEditor e) m) h = tt
free part (did (EndServer s) m) h = tt

abbrev pub waiting : ℕ → List Event → List Id
waiting s events = waiting_of (server_part s events)

pub waiting_more : (s : ℕ) (events : List Event) (event : Event) → waiting s (events ++ event ∷ []) ≡ cond (is_of_server s event) (waiting_behind (waiting s events) event) (waiting s events)
waiting_more s events event = word_more waiting_behind [] (is_of_server s) events event

-- what is no cancel may be sent
pub response_free : (ids : List Id) (m : Message) → is_response m ≡ true → may_cancel ids m ≡ true
response_free ids (result id r) h = refl
response_free ids (error id e) h = refl
response_free ids (request id method params) h = absurd (cc)
response_free ids (notification method params) h = absurd (cc)
response_free ids not_json h = absurd (cc)
response_free ids not_message h = absurd (cc)

speaks_freely : (method : List ℕ) (params : Option Json) → speaks (saying_by method params) ≡ true → bytes_eq method (codes "$/cancelRequest") ≡ false
speaks_freely method params h = go (bytes_eq method (codes "$/cancelRequest")) refl
  where
    go : (b : Bool) → bytes_eq method (codes "$/cancelRequest") ≡ b → b ≡ false
    go true e = absurd (let silent : speaks (saying_by (codes "$/cancelRequest") params) ≡ true = subst (λ w. speaks (saying_by w params) ≡ true) ((bytes_eq-Decides method (codes "$/cancelRequest")).0 e) h in cc)
    go false e = refl

pub notice_free : (ids : List Id) (method : List ℕ) (params : Option Json) → bytes_eq method (codes "$/cancelRequest") ≡ false → may_cancel ids (notification method params) ≡ true
notice_free ids method params h = rw (h) refl

pub spoken_free : (ids : List Id) (m : Message) → speaks (saying_of m) ≡ true → may_cancel ids m ≡ true
spoken_free ids (notification method params) h = notice_free ids method params (speaks_freely method params h)
spoken_free ids (request id method params) h = absurd (cc)
spoken_free ids (result id r) h = absurd (cc)
spoken_free ids (error id e) h = absurd (cc)
spoken_free ids not_json h = absurd (cc)
spoken_free ids not_message h = absurd (cc)
