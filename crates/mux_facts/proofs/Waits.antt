-- The initialize of an editor that waits is an open request of it.
use Rattle.std.proofs.Common.{◌≡◌, ℕ, Bool, true, false, List, [], ◌∷◌, ◌++◌, nat_eq, codes, if◌then◌else◌, Option, None, Some, refl, sym, ◌∙◌, ap, subst, subst₂}
use Rattle.std.proofs.lemmas.Slice.Eq.{bytes_eq-Decides}
use Rattle.json_text.specs.Json.{Json}
use Rattle.mux_history.specs.declared.cause.Cause.TheVariants.{FromEditor}
use Rattle.rpc_message.specs.Message.{Message, request, notification, result, error, not_json, not_message, Id, message_of}
use Rattle.event_model.specs.declared.phase.Phase.{Phase}
use Rattle.event_model.specs.declared.phase.Phase.TheVariants.{Absent, New, Waiting, Answered, Running, Down, Closed, Gone}
use Rattle.event_model.specs.Event.{Event, took, requests, same_id}
use Rattle.event_model.specs.Phases.{Desk, desk_of, desk_behind, desk_hears, has_id, phase_told, makes_running}
use Rattle.event_model.specs.Requests.{answered_id, open_of, open_behind, is_open, with_request, without}
use Rattle.mux_facts.proofs.Asked.{hears_open}
use Rattle.mux_facts.proofs.Why.{is_early}
use Rattle.mux_facts.proofs.Folds.{desk_more, opens_more}
use Rattle.mux_facts.proofs.Late.{error_told}
use Rattle.mux_facts.proofs.Words.{open_last, still_open}

-- a body that is an open request `initialize`
pub record Waits (initialize : List ℕ) (ids : List Id) : Type 0 where
  pub id : Id
  pub params : Option Json
  pub asks : message_of initialize ≡ request id (codes "initialize") params
  pub waits : is_open id ids ≡ true

abbrev pub WaitsIf : Phase → List ℕ → List Id → Type 0
WaitsIf Waiting initialize ids = Waits initialize ids
WaitsIf other initialize ids = Unit {0}

abbrev pub WaitsAt : Desk → List Id → Type 0
WaitsAt desk ids = WaitsIf desk.phase desk.initialize ids

abbrev pub AllWaiting : List Event → Type 0
AllWaiting events = (e : ℕ) → WaitsAt (desk_of e events) (open_of e events)

-- what waits in this phase
pub waits_at : (events : List Event) (e : ℕ) → (desk_of e events).phase ≡ Waiting → AllWaiting events → Waits (desk_of e events).initialize (open_of e events)
waits_at events e at h = subst (λ z. WaitsIf z (desk_of e events).initialize (open_of e events)) at (h e)

pub more : (events : List Event) (event : Event) → ((e : ℕ) → WaitsAt (desk_behind e (desk_of e events) event) (open_behind e (open_of e events) event)) → AllWaiting (events ++ event ∷ [])
more events event f e = subst₂ WaitsAt (sym (desk_more e events event)) (sym (opens_more e events event)) (f e)

pick : (b : Bool) (x y : Desk) (ids others : List Id) → (b ≡ true → WaitsAt x ids) → WaitsAt y others → WaitsAt (if b then x else y) (if b then ids else others)
pick true x y ids others f g = f refl
pick false x y ids others f g = g

pub pick_desk : (b : Bool) (x y : Desk) (ids : List Id) → (b ≡ true → WaitsAt x ids) → WaitsAt y ids → WaitsAt (if b then x else y) ids
pick_desk true x y ids f g = f refl
pick_desk false x y ids f g = g

-- A message of the editor

asks_initialize : (body : List ℕ) (ids : List Id) (m : Message) → message_of body ≡ m → requests (codes "initialize") m ≡ true → Waits body (with_request m ids)
asks_initialize body ids (request id method params) e h =
    let same : codes "initialize" ≡ method = (bytes_eq-Decides (codes "initialize") method).0 h in
    record { id = id; params = params; asks = e ∙ ap (λ z. request id z params) (sym same); waits = open_last id ids }
asks_initialize body ids (notification method params) e h = absurd (cc)
asks_initialize body ids (result k r) e h = absurd (cc)
asks_initialize body ids (error k x) e h = absurd (cc)
asks_initialize body ids not_json e h = absurd (cc)
asks_initialize body ids not_message e h = absurd (cc)

hears_waits : (phase : Phase) (initialize body : List ℕ) (ids : List Id) (m : Message) → message_of body ≡ m → WaitsIf phase initialize ids → WaitsAt (desk_hears phase initialize body m) (with_request m ids)
hears_waits Absent initialize body ids m e h = tt
hears_waits New initialize body ids m e h = go (requests (codes "initialize") m) refl
  where
    go : (b : Bool) → requests (codes "initialize") m ≡ b → WaitsAt (if b then record { phase = Waiting; initialize = body } else record { phase = New; initialize = initialize }) (with_request m ids)
    go true r = asks_initialize body ids m e r
    go false r = tt
hears_waits Waiting initialize body ids m e h = record { id = h.id; params = h.params; asks = h.asks; waits = hears_open true m ids h.id h.waits }
hears_waits Answered initialize body ids m e h = go (requests (codes "shutdown") m) (makes_running m)
  where
    go : (a b : Bool) → WaitsIf (if a then Down else if b then Running else Answered) initialize (with_request m ids)
    go true b = tt
    go false true = tt
    go false false = tt
hears_waits Running initialize body ids m e h = go (requests (codes "shutdown") m)
  where
    go : (a : Bool) → WaitsIf (if a then Down else Running) initialize (with_request m ids)
    go true = tt
    go false = tt
hears_waits Down initialize body ids m e h = tt
hears_waits Closed initialize body ids m e h = tt
hears_waits Gone initialize body ids m e h = tt

-- A body to the editor

abbrev pub is_a_result : Message → Bool
is_a_result (result id r) = true
is_a_result other = false

answers_it : (m : Message) (initialize : List ℕ) (ids : List Id) → is_a_result m ≡ true → Waits initialize ids → WaitsIf (phase_told Waiting initialize m) initialize (without (answered_id m) ids)
answers_it (result None r) initialize ids h w = w
answers_it (result (Some k) r) initialize ids h w = go (same_id k w.id) refl
  where
    own : has_id k (message_of initialize) ≡ same_id k w.id
    own = ap (has_id k) w.asks

    go : (b : Bool) → same_id k w.id ≡ b → WaitsIf (if has_id k (message_of initialize) then Answered else Waiting) initialize (without (Some k) ids)
    go true e = subst (λ c. WaitsIf (if c then Answered else Waiting) initialize (without (Some k) ids)) (sym (own ∙ e)) tt
    go false e = subst (λ c. WaitsIf (if c then Answered else Waiting) initialize (without (Some k) ids)) (sym (own ∙ e)) (record { id = w.id; params = w.params; asks = w.asks; waits = still_open k w.id ids w.waits e })
answers_it (error id x) initialize ids h w = absurd (cc)
answers_it (request id method params) initialize ids h w = absurd (cc)
answers_it (notification method params) initialize ids h w = absurd (cc)
answers_it not_json initialize ids h w = absurd (cc)
answers_it not_message initialize ids h w = absurd (cc)

pub told_waits : (phase : Phase) (m : Message) (initialize : List ℕ) (ids : List Id) → (phase ≡ Waiting → is_a_result m ≡ true) → WaitsIf phase initialize ids → WaitsIf (phase_told phase initialize m) initialize (without (answered_id m) ids)
told_waits Waiting m initialize ids f w = answers_it m initialize ids (f refl) w
told_waits Absent m initialize ids f w = tt
told_waits New m initialize ids f w = tt
told_waits Answered m initialize ids f w = tt
told_waits Running m initialize ids f w = tt
told_waits Down m initialize ids f w = tt
told_waits Closed m initialize ids f w = tt
told_waits Gone m initialize ids f w = tt

-- an error under a null id answers none of them
pub null_waits : (b : Bool) (desk : Desk) (ids : List Id) (x : Json) → WaitsAt desk ids
    → WaitsAt (if b then record { phase = phase_told desk.phase desk.initialize (error None x); initialize = desk.initialize } else desk) (if b then without None ids else ids)
null_waits true desk ids x h = subst (λ p. WaitsIf p desk.initialize ids) (sym (error_told desk.phase desk.initialize None x)) h
null_waits false desk ids x h = h

pub from_editor : (events : List Event) (n : ℕ) (body : List ℕ) → AllWaiting events → AllWaiting (events ++ took (FromEditor n body) (message_of body) ∷ [])
from_editor events n body h = more events (took (FromEditor n body) (message_of body)) (λ e. pick (nat_eq n e)
    (desk_hears (desk_of e events).phase (desk_of e events).initialize body (message_of body)) (desk_of e events) (with_request (message_of body) (open_of e events)) (open_of e events)
    (λ same. hears_waits (desk_of e events).phase (desk_of e events).initialize body (open_of e events) (message_of body) refl (h e)) (h e))

pub late_not : (phase : Phase) → is_early phase ≡ false → phase ≡ Waiting → ⊥
late_not phase h at = let e : is_early phase ≡ true = ap is_early at in cc
