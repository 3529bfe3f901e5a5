-- The requests that a start has to answer, with their tokens, behind one more event of its part.
use Rattle.std.proofs.Common.{◌≡◌, ℕ, Bool, true, false, cond, List, [], ◌∷◌, ◌++◌, bytes_eq, codes, filter, Option, refl, sym, subst}
use Rattle.std.proofs.lemmas.Slice.Eq.{bytes_eq-Decides}
use Rattle.json_text.specs.Json.{Json}
use Rattle.document_model.specs.Sayings.{saying_by, saying_of, speaks}
use Rattle.mux_history.specs.declared.cause.Cause.TheVariants.{Joined, FromEditor, EditorGone, Started, StartFailed, FromServer, ServerGone, Drained, Tick}
use Rattle.mux_history.specs.declared.out.Out.TheVariants.{ToEditor, ToServer, Spawn, CloseEditor, EndServer}
use Rattle.rpc_message.specs.Message.{Id, Message, request, notification, result, error, not_json, not_message}
use Rattle.event_model.specs.Event.{Event, took, did}
use Rattle.event_model.specs.Parts.{server_part, is_of_server}
use Rattle.event_model.specs.Requests.{is_open}
use Rattle.mux_facts.proofs.Rules.{word_more}
use Rattle.mux_facts.proofs.Words.{open_more}
use Rattle.session_laws.specs.Progress.{Creates, Tokened, is_answered, names_one, no_creates, tokens_at, tokens_in}
use Rattle.session_laws.specs.ServerRules.{ServerRule7, creates_behind, creates_of, working_behind, working_of}
use Rattle.session_laws.proofs.PartLaws.{is_to_server}
use Rattle.session_laws.proofs.Tokens.{holds, holds_more}

pub free_7 : (part : List Event) (event : Event) → is_to_server event ≡ false → ServerRule7 part event
free_7 part (took cause m) h = tt
free_7 part (did (ToServer s body) m) h = absurd (cc)
free_7 part (did (ToEditor e body) m) h = tt
free_7 part (did (Spawn s g) m) h = tt
free_7 part (did (CloseEditor e) m) h = tt
free_7 part (did (EndServer s) m) h = tt

abbrev pub working : ℕ → List Event → List Tokened
working s events = working_of (server_part s events)

pub working_more : (s : ℕ) (events : List Event) (event : Event) → working s (events ++ event ∷ []) ≡ cond (is_of_server s event) (working_behind (working s events) event) (working s events)
working_more s events event = word_more working_behind [] (is_of_server s) events event

-- a body to a start brings its token, and nothing else but a message of the start changes what it has to answer
abbrev pub is_from_server : Event → Bool
is_from_server (took (FromServer s body) m) = true
is_from_server other = false

grown : (id token : Id) (rs : List Tokened) (event : Event) → is_from_server event ≡ false → holds id token rs ≡ true → holds id token (working_behind rs event) ≡ true
grown id token rs (did (ToServer s body) (request i method params)) off h = holds_more id token rs (record { id = i; tokens = tokens_at (codes "workDoneToken") params } ∷ []) h
grown id token rs (did (ToServer s body) (notification method params)) off h = h
grown id token rs (did (ToServer s body) (result i r)) off h = h
grown id token rs (did (ToServer s body) (error i r)) off h = h
grown id token rs (did (ToServer s body) not_json) off h = h
grown id token rs (did (ToServer s body) not_message) off h = h
grown id token rs (did (ToEditor e body) m) off h = h
grown id token rs (did (Spawn s g) m) off h = h
grown id token rs (did (CloseEditor e) m) off h = h
grown id token rs (did (EndServer s) m) off h = h
grown id token rs (took (FromServer s body) m) off h = absurd (cc)
grown id token rs (took (FromEditor e body) m) off h = h
grown id token rs (took (Joined e) m) off h = h
grown id token rs (took (EditorGone e why) m) off h = h
grown id token rs (took (Started s) m) off h = h
grown id token rs (took (StartFailed s) m) off h = h
grown id token rs (took (ServerGone s) m) off h = h
grown id token rs (took (Drained e k) m) off h = h
grown id token rs (took (Tick t) m) off h = h

pub working_grows : (s : ℕ) (events : List Event) (event : Event) → is_from_server event ≡ false → (id token : Id) → holds id token (working s events) ≡ true → holds id token (working s (events ++ event ∷ [])) ≡ true
working_grows s events event off id token h = subst (λ rs. holds id token rs ≡ true) (sym (working_more s events event)) (go (is_of_server s event))
  where
    go : (b : Bool) → holds id token (cond b (working_behind (working s events) event) (working s events)) ≡ true
    go true = grown id token (working s events) event off h
    go false = h

-- what a start created stays so until a message of it
abbrev pub creates : ℕ → List Event → Creates
creates s events = creates_of (server_part s events)

pub creates_more : (s : ℕ) (events : List Event) (event : Event) → creates s (events ++ event ∷ []) ≡ cond (is_of_server s event) (creates_behind (creates s events) event) (creates s events)
creates_more s events event = word_more creates_behind no_creates (is_of_server s) events event

created_grown : (token : Id) (x : Creates) (event : Event) → is_from_server event ≡ false → is_open token x.created ≡ true → is_open token (creates_behind x event).created ≡ true
created_grown token x (did (ToServer s body) (result i r)) off h = open_more token x.created (tokens_in (filter (is_answered i) x.asked)) h
created_grown token x (did (ToServer s body) (error i r)) off h = h
created_grown token x (did (ToServer s body) (request i method params)) off h = h
created_grown token x (did (ToServer s body) (notification method params)) off h = h
created_grown token x (did (ToServer s body) not_json) off h = h
created_grown token x (did (ToServer s body) not_message) off h = h
created_grown token x (did (ToEditor e body) m) off h = h
created_grown token x (did (Spawn s g) m) off h = h
created_grown token x (did (CloseEditor e) m) off h = h
created_grown token x (did (EndServer s) m) off h = h
created_grown token x (took (FromServer s body) m) off h = absurd (cc)
created_grown token x (took (FromEditor e body) m) off h = h
created_grown token x (took (Joined e) m) off h = h
created_grown token x (took (EditorGone e why) m) off h = h
created_grown token x (took (Started s) m) off h = h
created_grown token x (took (StartFailed s) m) off h = h
created_grown token x (took (ServerGone s) m) off h = h
created_grown token x (took (Drained e k) m) off h = h
created_grown token x (took (Tick t) m) off h = h

pub creates_grows : (s : ℕ) (events : List Event) (event : Event) → is_from_server event ≡ false → (token : Id) → is_open token (creates s events).created ≡ true → is_open token (creates s (events ++ event ∷ [])).created ≡ true
creates_grows s events event off token h = subst (λ (x : Creates). is_open token x.created ≡ true) (sym (creates_more s events event)) (go (is_of_server s event))
  where
    go : (b : Bool) → is_open token (cond b (creates_behind (creates s events) event) (creates s events)).created ≡ true
    go true = created_grown token (creates s events) event off h
    go false = h

-- what speaks of a document cancels no work
speaks_freely : (method : List ℕ) (params : Option Json) → speaks (saying_by method params) ≡ true → bytes_eq method (codes "window/workDoneProgress/cancel") ≡ false
speaks_freely method params h = go (bytes_eq method (codes "window/workDoneProgress/cancel")) refl
  where
    go : (b : Bool) → bytes_eq method (codes "window/workDoneProgress/cancel") ≡ b → b ≡ false
    go true e = absurd (let silent : speaks (saying_by (codes "window/workDoneProgress/cancel") params) ≡ true = subst (λ w. speaks (saying_by w params) ≡ true) ((bytes_eq-Decides method (codes "window/workDoneProgress/cancel")).0 e) h in cc)
    go false e = refl

pub notice_free : (tokens : List Id) (method : List ℕ) (params : Option Json) → bytes_eq method (codes "window/workDoneProgress/cancel") ≡ false → names_one (codes "window/workDoneProgress/cancel") tokens (notification method params) ≡ true
notice_free tokens method params h = rw (h) refl

pub spoken_free : (tokens : List Id) (m : Message) → speaks (saying_of m) ≡ true → names_one (codes "window/workDoneProgress/cancel") tokens m ≡ true
spoken_free tokens (notification method params) h = notice_free tokens method params (speaks_freely method params h)
spoken_free tokens (request id method params) h = absurd (cc)
spoken_free tokens (result id r) h = absurd (cc)
spoken_free tokens (error id e) h = absurd (cc)
spoken_free tokens not_json h = absurd (cc)
spoken_free tokens not_message h = absurd (cc)
