-- Editors that wait are answered.
use Rattle.std.proofs.Common.{◌≡◌, ℕ, ◌<◌, Bool, true, false, ◌&&◌, List, [], ◌∷◌, ◌++◌, length, get_or, refl, ap, sym, subst, ◌∙◌, append-nil, append_assoc, nat_eq, if◌then◌else◌}
use Rattle.std.specs.Prelude.{Option, Some, None, slice_get}
use Rattle.std.specs.List.{All, range_with_len}
use Rattle.std.proofs.lemmas.Bool.{eqb-true}
use Rattle.std.proofs.lemmas.List.Elements.{All-get_or, filter_passes}
use Rattle.std.proofs.lemmas.Slice.Eq.{bytes_eq-Decides}
use Rattle.json_text.specs.Json.{Json}
use Rattle.mux_history.specs.declared.out.Out.{Out}
use Rattle.mux_history.specs.declared.out.Out.TheVariants.{ToEditor, ToServer, Spawn, CloseEditor, EndServer}
use Rattle.rpc_message.specs.Message.{Message, request, notification, result, error, not_json, not_message, Id, id_bytes, message_of, result_bytes, same_id}
use Rattle.rpc_message.specs.Message as messages
use Rattle.rpc_message.specs.Texts.{ok_text}
use Rattle.rpc_message.specs.ValueTexts.{IsShallowText}
use Rattle.rpc_message.proofs.Fixed.{id_as_response, ok_law}
use Rattle.rpc_message.proofs.Ids.{request_id_bytes}
use Rattle.event_model.specs.declared.phase.Phase.{Phase}
use Rattle.event_model.specs.declared.phase.Phase.TheVariants.{Absent, New, Waiting, Answered, Running, Down, Closed, Gone}
use Rattle.event_model.specs.Does.{Does}
use Rattle.event_model.specs.Event.{Event, behind, said}
use Rattle.event_model.specs.Phases.{Desk, desk_behind, desk_of, editors_of, has_id, is_waiting, phase_told}
use Rattle.event_model.specs.Row.{send}
use Rattle.event_model.specs.Requests.{answered_id}
use Rattle.event_model.specs.Settings.{Settings}
use Rattle.event_model.specs.Stages.{is_first_result}
use Rattle.event_model.proofs.Frames.{one_more}
use Rattle.event_model.proofs.Turns.{behind_more, does_look}
use Rattle.mux_tables.specs.editor_session.specs.declared.session.Session.{Session}
use Rattle.group_words.specs.Houses.{home_of, is_home}
use Rattle.group_words.specs.Rows.{shown_of}
use Rattle.group_facts.specs.group_rows.specs.Rows.{waiting_in, welcome}
use Rattle.group_facts.proofs.ShownResult.{shown_value}
use Rattle.mux_tables.specs.declared.tables.Tables.{Tables}
use Rattle.mux_tables.specs.Documents.{AllStand, DocumentsStand, nothing_owed}
use Rattle.mux_tables.specs.Names.{NamesStand, id_in}
use Rattle.mux_tables.specs.Stands.{Stands, Welcomes, is_traced}
use Rattle.mux_tables.specs.mux_waits.specs.Stands.{AnswersId}
use Rattle.mux_tables.proofs.DocumentOwed.{all_does}
use Rattle.mux_tables.proofs.Frames.{itself}
use Rattle.mux_turns.specs.Welcomes.{AllAsking, AreBodies, IsBody, IsGreeted, IsShown, Tells, is_greeted}

same_id_itself : (i : Id) → same_id i i ≡ true
same_id_itself (messages.integer a) = (bytes_eq-Decides a a).1 refl
same_id_itself (messages.text a) = (bytes_eq-Decides a a).1 refl

-- a body to an editor leaves it waiting, or answers it
told_phase : (p : Phase) (i : List ℕ) (m : Message) → is_greeted p ≡ true → is_greeted (phase_told p i m) ≡ true
told_phase Waiting i (result (Some id) r) h = go (has_id id (message_of i))
  where
    go : (b : Bool) → is_greeted (if b then Answered else Waiting) ≡ true
    go true = refl
    go false = refl
told_phase Waiting i (result None r) h = refl
told_phase Waiting i (error id r) h = refl
told_phase Waiting i (request id method ps) h = refl
told_phase Waiting i (notification method ps) h = refl
told_phase Waiting i not_json h = refl
told_phase Waiting i not_message h = refl
told_phase Answered i m h = refl
told_phase Absent i m h = absurd (cc)
told_phase New i m h = absurd (cc)
told_phase Running i m h = absurd (cc)
told_phase Down i m h = absurd (cc)
told_phase Closed i m h = absurd (cc)
told_phase Gone i m h = absurd (cc)

-- its desk, as far as an answer reads it
pub record Calm (before now : Desk) : Type 0 where
  pub phase : is_greeted before.phase ≡ true → is_greeted now.phase ≡ true
  pub initialize : now.initialize ≡ before.initialize

calm_body : (e : ℕ) (d : Desk) (x : Out) → IsBody x → Calm d (desk_behind e d (said x))
calm_body e d (ToEditor n body) h = go (nat_eq n e)
  where
    go : (b : Bool) → Calm d (if b then record { phase = phase_told d.phase d.initialize (message_of body); initialize = d.initialize } else d)
    go true = record { phase = told_phase d.phase d.initialize (message_of body); initialize = refl }
    go false = record { phase = λ k. k; initialize = refl }
calm_body e d (ToServer s body) h = record { phase = λ k. k; initialize = refl }
calm_body e d (Spawn s g) h = absurd h
calm_body e d (CloseEditor n) h = absurd h
calm_body e d (EndServer s) h = absurd h

calm_then : {a b c : Desk} → Calm a b → Calm b c → Calm a c
calm_then p q = record { phase = λ k. q.phase (p.phase k); initialize = q.initialize ∙ p.initialize }

calm_one : (e : ℕ) (events : List Event) (x : Out) → IsBody x → Calm (desk_of e events) (desk_of e (events ++ said x ∷ []))
calm_one e events x h = subst (λ d. Calm (desk_of e events) d) (sym (one_more (desk_behind e) _ _ events (said x) refl)) (calm_body e (desk_of e events) x h)

pub calm_all : (e : ℕ) (events : List Event) (xs : List Out) → AreBodies xs → Calm (desk_of e events) (desk_of e (behind events xs))
calm_all e events [] h = subst (λ es. Calm (desk_of e events) (desk_of e es)) (sym (append-nil events)) (record { phase = λ k. k; initialize = refl })
calm_all e events (x ∷ xs) h = subst (λ es. Calm (desk_of e events) (desk_of e es)) (sym (behind_more events (x ∷ []) xs)) (calm_then (calm_one e events x h.0) (calm_all e (events ++ said x ∷ []) xs h.1))

pub greeted_behind : (base : List Event) (e : ℕ) (xs ys more : List Out) → ys ≡ xs ++ more → AreBodies more → IsGreeted (behind base xs) e → IsGreeted (behind base ys) e
greeted_behind base e xs ys more is h k =
    let c = calm_all e (behind base xs) more h in
    subst (λ es. IsGreeted es e) (sym (ap (behind base) is ∙ behind_more base xs more)) (record { phase = c.phase k.phase; asks = record { name = k.asks.name; method = k.asks.method; params = k.asks.params; says = ap message_of c.initialize ∙ k.asks.says } })

pub same_desk : (base : List Event) (e : ℕ) (xs ys more : List Out) → ys ≡ xs ++ more → AreBodies more → (desk_of e (behind base ys)).initialize ≡ (desk_of e (behind base xs)).initialize
same_desk base e xs ys more is h = ap (λ es. (desk_of e es).initialize) (ap (behind base) is ∙ behind_more base xs more) ∙ (calm_all e (behind base xs) more h).initialize

pub bodies_join : (xs ys : List Out) → AreBodies xs → AreBodies ys → AreBodies (xs ++ ys)
bodies_join [] ys h k = k
bodies_join (x ∷ xs) ys h k = (h.0, bodies_join xs ys h.1 k)

-- what editors are shown of a start's first result
pub result_shown : (body : List ℕ) → is_first_result (message_of body) ≡ true → IsShown body
result_shown body first = let k : (v : Json) × IsShallowText 1023 v (shown_of (result_bytes body)) = shown_value body first in record { value = k.0; text = k.1 }

-- the answer to its `initialize`
module _ (e : ℕ) (events : List Event) (body text shown : List ℕ) (k : IsGreeted events e) (s : IsShown body) (is : text ≡ ok_text (id_bytes (desk_of e events).initialize) shown) (are : shown ≡ shown_of (result_bytes body)) where
  text_says : message_of text ≡ result (Some k.asks.name) s.value
  text_says = ap message_of (is ∙ ap (ok_text (id_bytes (desk_of e events).initialize)) are)
      ∙ ok_law (Some k.asks.name) s.value (id_bytes (desk_of e events).initialize) (shown_of (result_bytes body))
      (id_as_response k.asks.name (id_bytes (desk_of e events).initialize) (request_id_bytes (desk_of e events).initialize k.asks.name k.asks.method k.asks.params k.asks.says)) s.text.text s.text.shallow

  answers : (p : Phase) (i : List ℕ) → is_greeted p ≡ true → message_of i ≡ request k.asks.name k.asks.method k.asks.params → phase_told p i (result (Some k.asks.name) s.value) ≡ Answered
  answers Waiting i h says = rw (says, same_id_itself k.asks.name) refl
  answers Answered i h says = refl
  answers Absent i h says = absurd (cc)
  answers New i h says = absurd (cc)
  answers Running i h says = absurd (cc)
  answers Down i h says = absurd (cc)
  answers Closed i h says = absurd (cc)
  answers Gone i h says = absurd (cc)

  pub answers_its : AnswersId (id_bytes (desk_of e events).initialize) text
  answers_its = record { name = k.asks.name; is = request_id_bytes (desk_of e events).initialize k.asks.name k.asks.method k.asks.params k.asks.says; says = ap answered_id text_says }

  pub welcomes : Welcomes e text events
  welcomes = (ap (λ (d : Desk). d.phase) (one_more (desk_behind e) _ _ events (said (ToEditor e text)) refl) ∙ rw (itself e, text_says) (answers (desk_of e events).phase (desk_of e events).initialize k.phase k.asks.says), ap is_traced text_says)

-- as a row, over all tables
pub answered_does : (settings : Settings) (t u : Tables) (base : List Event) (xs ys : List Out) (e : ℕ) (body text shown : List ℕ) → IsGreeted (behind base xs) e → IsShown body → text ≡ ok_text (id_bytes (desk_of e (behind base xs)).initialize) shown → shown ≡ shown_of (result_bytes body)
    → (Welcomes e text (behind base xs) → AnswersId (id_bytes (desk_of e (behind base xs)).initialize) text → Does (λ t events. Stands settings t events) (send (ToEditor e text)) base t xs u ys) → (DocumentsStand settings nothing_owed t (behind base xs) → DocumentsStand settings nothing_owed u (behind base ys))
    → Does (λ k events. AllStand settings k events) (send (ToEditor e (ok_text (id_bytes (desk_of e (behind base xs)).initialize) (shown_of (result_bytes body))))) base (t, nothing_owed) xs (u, nothing_owed) ys
answered_does settings t u base xs ys e body text shown k s is are d docs =
    subst (λ w. Does (λ k events. AllStand settings k events) (send (ToEditor e w)) base (t, nothing_owed) xs (u, nothing_owed) ys) (is ∙ ap (ok_text (id_bytes (desk_of e (behind base xs)).initialize)) are)
    (all_does settings t u nothing_owed nothing_owed base xs ys (d (welcomes e (behind base xs) body text shown k s is are) (answers_its e (behind base xs) body text shown k s is are)) (λ _ ds. docs ds))

pub greets : (settings : Settings) (t u : Tables) (base : List Event) (xs ys : List Out) (e : ℕ) (body text shown : List ℕ) → IsGreeted (behind base xs) e → IsShown body → text ≡ ok_text (id_bytes (desk_of e (behind base xs)).initialize) shown → shown ≡ shown_of (result_bytes body)
    → (Welcomes e text (behind base xs) → AnswersId (id_bytes (desk_of e (behind base xs)).initialize) text → Does (λ t events. Stands settings t events) (send (ToEditor e text)) base t xs u ys) → (DocumentsStand settings nothing_owed t (behind base xs) → DocumentsStand settings nothing_owed u (behind base ys))
    → Does (λ k events. AllStand settings k events) (welcome body e) base (t, nothing_owed) xs (u, nothing_owed) ys
greets settings t u base xs ys e body text shown k s is are d docs = does_look (λ _. refl) (answered_does settings t u base xs ys e body text shown k s is are d docs)

-- those that wait in a group
that_waits : (p : Phase) → is_waiting p ≡ true → p ≡ Waiting
that_waits Waiting h = refl
that_waits Absent h = absurd (cc)
that_waits New h = absurd (cc)
that_waits Answered h = absurd (cc)
that_waits Running h = absurd (cc)
that_waits Down h = absurd (cc)
that_waits Closed h = absurd (cc)
that_waits Gone h = absurd (cc)

both_true : (a b : Bool) → (a && b) ≡ true → (a ≡ true) × (b ≡ true)
both_true true true h = (refl, refl)
both_true true false h = absurd (cc)
both_true false b h = absurd (cc)

pub home_there : (g : ℕ) (o : Option ℕ) → is_home g o ≡ true → o ≡ Some g
home_there g None h = absurd (cc)
home_there g (Some h) is = ap (λ n. Some n) (eqb-true h g is)

-- what is known of each of these, before the first is answered
abbrev pub AllGreeted : List Session → List Event → List ℕ → Type 0
AllGreeted sessions events numbers = (i : ℕ) → i < length numbers
    → IsGreeted events (get_or numbers i 0) × (id_in (slice_get sessions (get_or numbers i 0)) ≡ Some (id_bytes (desk_of (get_or numbers i 0) events).initialize))

pub all_greeted : (settings : Settings) (sessions : List Session) (events : List Event) (g : ℕ) (numbers : List ℕ) → numbers ≡ waiting_in settings g events → AllAsking events → NamesStand settings sessions events → AllGreeted sessions events numbers
all_greeted settings sessions events g numbers are asking named i l =
    let e = get_or numbers i 0 in
    let test : ℕ → Bool = λ n. is_waiting (desk_of n events).phase && is_home g (home_of settings n events) in
    let passes : All (λ n. test n ≡ true) numbers = subst (λ ns. All (λ n. test n ≡ true) ns) (sym are) (filter_passes test (range_with_len 0 (editors_of events))) in
    let two = both_true (is_waiting (desk_of e events).phase) (is_home g (home_of settings e events)) (All-get_or (λ n. test n ≡ true) numbers i 0 l passes) in
    let waits = that_waits (desk_of e events).phase two.0 in
    (record { phase = ap is_greeted waits; asks = asking e waits }, (named e).own g waits (home_there g (home_of settings e events) two.1))

-- what was said behind what was
pub tells_none : (xs : List Out) → Tells xs xs
tells_none xs = record { more = []; is = sym (append-nil xs); bodies = tt }

pub tells_one : (xs ys : List Out) (e : ℕ) (text : List ℕ) → ys ≡ xs ++ ToEditor e text ∷ [] → Tells xs ys
tells_one xs ys e text is = record { more = ToEditor e text ∷ []; is = is; bodies = (tt, tt) }

pub tells_then : (xs ys zs : List Out) → Tells xs ys → Tells ys zs → Tells xs zs
tells_then xs ys zs p q = record { more = p.more ++ q.more; is = q.is ∙ (ap (λ ws. ws ++ q.more) p.is ∙ append_assoc xs p.more q.more); bodies = bodies_join p.more q.more p.bodies q.bodies }

pub kept_none : {A : Type 0} {w : List ℕ} → ◌≡◌ {A = Option (List ℕ)} None (Some w) → A
kept_none {A} {w} e = absurd (clash w e)
  where
    clash : (w : List ℕ) → ◌≡◌ {A = Option (List ℕ)} None (Some w) → ⊥
    clash w e = cc
