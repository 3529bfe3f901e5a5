-- The open requests of an editor with their tokens, behind one more event of its part.
use Rattle.std.proofs.Common.{◌≡◌, ℕ, Bool, true, false, cond, List, [], ◌∷◌, ◌++◌, codes, Some, refl, sym, subst}
use Rattle.mux_history.specs.declared.cause.Cause.TheVariants.{Joined, FromEditor, EditorGone, Started, StartFailed, FromServer, ServerGone, Drained, Tick}
use Rattle.mux_history.specs.declared.out.Out.TheVariants.{ToEditor, ToServer, Spawn, CloseEditor, EndServer}
use Rattle.rpc_message.specs.Message.{Id, Message, request, notification, result, error, not_json, not_message}
use Rattle.event_model.specs.Event.{Event, took, did, same_id}
use Rattle.event_model.specs.Parts.{editor_part, is_of_editor}
use Rattle.event_model.specs.Requests.{answered_id}
use Rattle.mux_facts.proofs.Rules.{word_more}
use Rattle.session_laws.specs.ClientRules.{ClientRule6, tokened_behind, tokened_of}
use Rattle.session_laws.specs.Progress.{Tokened, tokens_at}
use Rattle.session_laws.proofs.Client4Law.{is_told}
use Rattle.session_laws.proofs.Tokens.{holds, holds_left, holds_more}

pub free_6 : (part : List Event) (event : Event) → is_told event ≡ false → ClientRule6 part event
free_6 part (took cause m) h = tt
free_6 part (did (ToEditor e body) m) h = absurd (cc)
free_6 part (did (ToServer s body) m) h = tt
free_6 part (did (Spawn s g) m) h = tt
free_6 part (did (CloseEditor e) m) h = tt
free_6 part (did (EndServer s) m) h = tt

abbrev pub tokened : ℕ → List Event → List Tokened
tokened e events = tokened_of (editor_part e events)

pub tokened_more : (e : ℕ) (events : List Event) (event : Event) → tokened e (events ++ event ∷ []) ≡ cond (is_of_editor e event) (tokened_behind (tokened e events) event) (tokened e events)
tokened_more e events event = word_more tokened_behind [] (is_of_editor e) events event

-- a message of an editor brings its tokens, and nothing else but a body to the editor changes what is open
grown : (id token : Id) (rs : List Tokened) (event : Event) → is_told event ≡ false → holds id token rs ≡ true → holds id token (tokened_behind rs event) ≡ true
grown id token rs (took (FromEditor e body) (request i method params)) off h = holds_more id token rs (record { id = i; tokens = tokens_at (codes "workDoneToken") params ++ tokens_at (codes "partialResultToken") params } ∷ []) h
grown id token rs (took (FromEditor e body) (notification method params)) off h = h
grown id token rs (took (FromEditor e body) (result i r)) off h = h
grown id token rs (took (FromEditor e body) (error i r)) off h = h
grown id token rs (took (FromEditor e body) not_json) off h = h
grown id token rs (took (FromEditor e body) not_message) off h = h
grown id token rs (took (Joined e) m) off h = h
grown id token rs (took (EditorGone e why) m) off h = h
grown id token rs (took (Started s) m) off h = h
grown id token rs (took (StartFailed s) m) off h = h
grown id token rs (took (FromServer s body) m) off h = h
grown id token rs (took (ServerGone s) m) off h = h
grown id token rs (took (Drained e k) m) off h = h
grown id token rs (took (Tick t) m) off h = h
grown id token rs (did (ToEditor e body) m) off h = absurd (cc)
grown id token rs (did (ToServer s body) m) off h = h
grown id token rs (did (Spawn s g) m) off h = h
grown id token rs (did (CloseEditor e) m) off h = h
grown id token rs (did (EndServer s) m) off h = h

pub tokened_grows : (e : ℕ) (events : List Event) (event : Event) → is_told event ≡ false → (id token : Id) → holds id token (tokened e events) ≡ true → holds id token (tokened e (events ++ event ∷ [])) ≡ true
tokened_grows e events event off id token h = subst (λ rs. holds id token rs ≡ true) (sym (tokened_more e events event)) (go (is_of_editor e event))
  where
    go : (b : Bool) → holds id token (cond b (tokened_behind (tokened e events) event) (tokened e events)) ≡ true
    go true = grown id token (tokened e events) event off h
    go false = h

-- a body to the editor leaves the requests under other ids
pub tokened_left : (e n : ℕ) (events : List Event) (body : List ℕ) (m : Message) (id token : Id) → (is_of_editor e (did (ToEditor n body) m) ≡ true → (i : Id) → answered_id m ≡ Some i → same_id i id ≡ false)
    → holds id token (tokened e events) ≡ true → holds id token (tokened e (events ++ did (ToEditor n body) m ∷ [])) ≡ true
tokened_left e n events body m id token other h = subst (λ rs. holds id token rs ≡ true) (sym (tokened_more e events (did (ToEditor n body) m))) (go (is_of_editor e (did (ToEditor n body) m)) refl)
  where
    go : (b : Bool) → is_of_editor e (did (ToEditor n body) m) ≡ b → holds id token (cond b (tokened_behind (tokened e events) (did (ToEditor n body) m)) (tokened e events)) ≡ true
    go true same = holds_left (answered_id m) id token (other same) (tokened e events) h
    go false apart = h
