-- An editor that is served, behind a message of its own.
use Rattle.std.proofs.Common.{◌≡◌, ℕ, Bool, true, false, ◌&&◌, List, refl, ap, ◌∙◌, codes, bytes_eq}
use Rattle.std.specs.Prelude.{Option}
use Rattle.json_text.specs.Json.{Json}
use Rattle.mux_history.specs.declared.cause.Cause.TheVariants.{FromEditor}
use Rattle.rpc_message.specs.Message.{Message, Id, message_of, notification, request}
use Rattle.event_model.specs.declared.phase.Phase.{Phase}
use Rattle.event_model.specs.declared.phase.Phase.TheVariants.{Absent, New, Waiting, Answered, Running, Down, Closed, Gone}
use Rattle.event_model.specs.Event.{Event, heard, requests, with_cause}
use Rattle.event_model.specs.Phases.{Desk, desk_behind, desk_hears, desk_of, is_new, is_served, makes_running}
use Rattle.event_model.proofs.Frames.{one_more}
use Rattle.group_words.specs.Houses.{places, stops}
use Rattle.mux_tables.specs.Documents.{changes_documents}
use Rattle.mux_tables.proofs.Frames.{itself}
use Rattle.mux_editors.proofs.Classes.{Serves}

and_off : (a : Bool) → (a && false) ≡ false
and_off true = refl
and_off false = refl

pub not_new : (p : Phase) → is_served p ≡ true → is_new p ≡ false
not_new New h = absurd (cc)
not_new other h = refl

pub unplaced : (p : Phase) (m : Message) → is_served p ≡ true → places p m ≡ false
unplaced p m h = ap (λ b. b && requests (codes "initialize") m) (not_new p h)

-- where it stands behind what it said
pub stands_so : (before : List Event) (e : ℕ) (body : List ℕ) (m : Message) (p : Phase) → message_of body ≡ m → ((q : Phase) (i : List ℕ) → is_served q ≡ true → (desk_hears q i body m).phase ≡ p) → is_served (desk_of e before).phase ≡ true
    → (desk_of e (with_cause before (FromEditor e body))).phase ≡ p
stands_so before e body m p says go served = ap (λ (d : Desk). d.phase) (one_more (desk_behind e) _ _ before (heard (FromEditor e body)) refl) ∙ rw (itself e, says) (go (desk_of e before).phase (desk_of e before).initialize served)

-- a request of class Other
module _ (method : List ℕ) (id : Id) (params : Option Json) (s : Serves method) where
  pub request_runs : (body : List ℕ) (q : Phase) (i : List ℕ) → is_served q ≡ true → (desk_hears q i body (request id method params)).phase ≡ Running
  request_runs body Answered i h = rw (s.stays, s.opens, s.status, s.stops) refl
  request_runs body Running i h = rw (s.stays) refl
  request_runs body Absent i h = absurd (cc)
  request_runs body New i h = absurd (cc)
  request_runs body Waiting i h = absurd (cc)
  request_runs body Down i h = absurd (cc)
  request_runs body Closed i h = absurd (cc)
  request_runs body Gone i h = absurd (cc)

  pub request_makes : (m : Message) → m ≡ request id method params → makes_running m ≡ true
  request_makes m says = ap makes_running says ∙ rw (s.stays, s.opens, s.status, s.stops) refl

  pub request_stops : (before : List Event) (e : ℕ) (m : Message) → m ≡ request id method params → stops before e m ≡ false
  request_stops before e m says = rw (says, s.stops) refl

  pub request_keeps : (before : List Event) (e : ℕ) (m : Message) → m ≡ request id method params → changes_documents before e m ≡ false
  request_keeps before e m says = rw (says, s.stays) (and_off (is_served (desk_of e before).phase))

-- `shutdown`
pub shutdown_downs : (method : List ℕ) (id : Id) (params : Option Json) → bytes_eq (codes "shutdown") method ≡ true → (body : List ℕ) (q : Phase) (i : List ℕ) → is_served q ≡ true → (desk_hears q i body (request id method params)).phase ≡ Down
shutdown_downs method id params asks body Answered i h = rw (asks) refl
shutdown_downs method id params asks body Running i h = rw (asks) refl
shutdown_downs method id params asks body Absent i h = absurd (cc)
shutdown_downs method id params asks body New i h = absurd (cc)
shutdown_downs method id params asks body Waiting i h = absurd (cc)
shutdown_downs method id params asks body Down i h = absurd (cc)
shutdown_downs method id params asks body Closed i h = absurd (cc)
shutdown_downs method id params asks body Gone i h = absurd (cc)

-- a notification other than `exit`
module _ (method : List ℕ) (params : Option Json) (stays : bytes_eq (codes "exit") method ≡ false) where
  pub notice_runs : (body : List ℕ) (q : Phase) (i : List ℕ) → is_served q ≡ true → (desk_hears q i body (notification method params)).phase ≡ Running
  notice_runs body Answered i h = rw (stays) refl
  notice_runs body Running i h = refl
  notice_runs body Absent i h = absurd (cc)
  notice_runs body New i h = absurd (cc)
  notice_runs body Waiting i h = absurd (cc)
  notice_runs body Down i h = absurd (cc)
  notice_runs body Closed i h = absurd (cc)
  notice_runs body Gone i h = absurd (cc)

  pub notice_makes : (m : Message) → m ≡ notification method params → makes_running m ≡ true
  notice_makes m says = ap makes_running says ∙ rw (stays) refl

pub notice_stops : (before : List Event) (e : ℕ) (m : Message) (method : List ℕ) (params : Option Json) → m ≡ notification method params → stops before e m ≡ false
notice_stops before e m method params says = rw (says) refl
