-- The requests to a start are numbered from 1.
use Rattle.std.proofs.Common.{◌≡◌, ℕ, ◌+◌, Bool, true, false, cond, List, [], ◌∷◌, filter, fold, nat_eq, codes, decimal, if◌then◌else◌, Option, refl, sym, ◌∙◌, ap, subst}
use Rattle.std.specs.Fmt.{digits}
use Rattle.mux_history.specs.declared.cause.Cause.TheVariants.{Joined, FromEditor, EditorGone, Started, StartFailed, FromServer, ServerGone, Drained, Tick}
use Rattle.mux_history.specs.declared.out.Out.TheVariants.{ToEditor, ToServer, Spawn, CloseEditor, EndServer}
use Rattle.rpc_message.specs.Message.{Message, request, notification, result, error, not_json, not_message, integer}
use Rattle.event_model.specs.Event.{Event, took, did, heard, with_cause}
use Rattle.event_model.specs.Requests.{number_behind, number_told, next_number}
use Rattle.event_model.specs.Parts.{is_of_server}
use Rattle.session_laws.specs.ServerRules.{requests_behind, HasNumber, ServerRule3}
use Rattle.mux_facts.proofs.Rules.{word_first}
use Rattle.session_laws.proofs.PartLaws.{is_to_server}
use Rattle.mux_history.specs.declared.cause.Cause.{Cause}
use Rattle.document_model.proofs.Written.{Spoken, spoken}
use Rattle.document_model.specs.Sayings.{saying_of, speaks}
use Rattle.json_text.specs.Json.{Json}
use Rattle.mux_facts.proofs.Folds.{number_more}

pub free : (part : List Event) (event : Event) → is_to_server event ≡ false → ServerRule3 part event
free part (took cause m) h = tt
free part (did (ToServer s body) m) h = absurd (cc)
free part (did (ToEditor e body) m) h = tt
free part (did (Spawn s g) m) h = tt
free part (did (CloseEditor e) m) h = tt
free part (did (EndServer s) m) h = tt

-- The next number is one more than the requests that were sent

either : (b : Bool) (n : ℕ) → n ≡ cond b n n
either true n = refl
either false n = refl

sends : (a : ℕ) (n s k : ℕ) (body : List ℕ) (m : Message) (b : Bool) → a ≡ n + 1 → (if b then number_told a m else a) ≡ cond b (requests_behind n (did (ToServer k body) m)) n + 1
sends a n s k body (request id method params) true h = ap (λ z. z + 1) h
sends a n s k body (notification method params) true h = h
sends a n s k body (result id r) true h = h
sends a n s k body (error id e) true h = h
sends a n s k body not_json true h = h
sends a n s k body not_message true h = h
sends a n s k body m false h = h

one_known : (s : ℕ) (a : ℕ) (n : ℕ) (event : Event) → a ≡ n + 1 → number_behind s a event ≡ cond (is_of_server s event) (requests_behind n event) n + 1
one_known s a n (took (Started k) m) h = h ∙ ap (λ z. z + 1) (either (nat_eq k s) n)
one_known s a n (took (StartFailed k) m) h = h ∙ ap (λ z. z + 1) (either (nat_eq k s) n)
one_known s a n (took (FromServer k body) m) h = h ∙ ap (λ z. z + 1) (either (nat_eq k s) n)
one_known s a n (took (ServerGone k) m) h = h ∙ ap (λ z. z + 1) (either (nat_eq k s) n)
one_known s a n (took (FromEditor e body) m) h = h
one_known s a n (took (Joined e) m) h = h
one_known s a n (took (EditorGone e why) m) h = h
one_known s a n (took (Drained e k) m) h = h
one_known s a n (took (Tick t) m) h = h
one_known s a n (did (ToServer k body) m) h = sends a n s k body m (nat_eq k s) h
one_known s a n (did (ToEditor e body) m) h = h
one_known s a n (did (Spawn k g) m) h = h
one_known s a n (did (CloseEditor e) m) h = h
one_known s a n (did (EndServer k) m) h = h ∙ ap (λ z. z + 1) (either (nat_eq k s) n)

pub known : (s : ℕ) (a : ℕ) (n : ℕ) (events : List Event) → a ≡ n + 1 → fold (number_behind s) a events ≡ fold requests_behind n (filter (is_of_server s) events) + 1
known s a n [] h = h
known s a n (event ∷ events) h = known s (number_behind s a event) (cond (is_of_server s event) (requests_behind n event) n) events (one_known s a n event h)
    ∙ ap (λ z. z + 1) (sym (word_first requests_behind n (is_of_server s) event events))

pub the_first : integer (codes "1") ≡ integer (decimal (0 + 1))
unfolding digits
the_first = refl

-- the daemon's own `initialize` as the program begins
pub begun_numbered : (before : List Event) (cause : Cause) (events : List Event) (s : ℕ) (params : Option Json) (m : Message) → next_number s before ≡ 1 → cause ≡ Started s → events ≡ with_cause before cause
    → m ≡ request (integer (codes "1")) (codes "initialize") params → HasNumber (next_number s events) m
begun_numbered before cause events s params m none from place says =
    let next : next_number s events ≡ 1 = ap (λ z. next_number s z) (place ∙ ap (with_cause before) from) ∙ (number_more s before (heard (Started s))) ∙ none in
    subst (λ z. HasNumber (next_number s events) z) (sym says) (the_first ∙ ap (λ n. integer (decimal n)) (sym next))

-- what tells of a document is no request
pub told_numbered : (n : ℕ) (m : Message) → speaks (saying_of m) ≡ true → HasNumber n m
told_numbered n m says = let s : Spoken m = spoken m says in subst (HasNumber n) (sym s.is) tt
