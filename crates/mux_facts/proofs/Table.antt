-- What is known of an editor right behind a message of it, and which messages are first results.
use Rattle.std.proofs.Common.{◌≡◌, ℕ, true, false, List, nat_eq, codes, if◌then◌else◌, Option, Some, None, refl, ◌∙◌, ap, ap₂, Bool}
use Rattle.std.proofs.lemmas.Slice.Eq.{bytes_eq-Decides}
use Rattle.json_text.specs.Json.{Json}
use Rattle.mux_history.specs.declared.cause.Cause.TheVariants.{FromEditor}
use Rattle.mux_history.specs.declared.out.Out.TheVariants.{ToEditor}
use Rattle.rpc_message.specs.Message.{Message, request, notification, result, error, not_json, not_message, Id, integer, text, message_of}
use Rattle.event_model.specs.declared.phase.Phase.{Phase}
use Rattle.event_model.specs.declared.phase.Phase.TheVariants.{Absent, New, Waiting, Answered, Running, Down, Closed, Gone}
use Rattle.event_model.specs.Event.{Event, heard, said, with_cause, requests}
use Rattle.event_model.specs.Phases.{Desk, desk_of, desk_behind, desk_hears, phase_told, is_there, makes_running}
use Rattle.event_model.specs.Requests.{open_of, is_open, with_request}
use Rattle.event_model.specs.Phases.{is_waiting}
use Rattle.event_model.specs.Settings.{Settings}
use Rattle.event_model.specs.Stages.{is_first_result}
use Rattle.mux_facts.proofs.Why.{is_early}
use Rattle.mux_facts.proofs.Folds.{desk_more, opens_more}
use Rattle.mux_facts.proofs.Late.{hears_late}
use Rattle.mux_facts.proofs.Words.{same_number, open_last}

-- Behind a request of e

module _ (before : List Event) (e : ℕ) (body : List ℕ) where
  pub late_taken : is_early (desk_of e before).phase ≡ false → is_early (desk_of e (with_cause before (FromEditor e body))).phase ≡ false
  late_taken h = ap (λ (d : Desk). is_early d.phase) (desk_more e before (heard (FromEditor e body)))
      ∙ ap (λ b. is_early (if b then desk_hears (desk_of e before).phase (desk_of e before).initialize body (message_of body) else desk_of e before).phase) (same_number e)
      ∙ hears_late (desk_of e before).phase (desk_of e before).initialize body (message_of body) h

  module _ (id : Id) (method : List ℕ) (params : Option Json) (says : message_of body ≡ request id method params) where
    pub open_taken : is_open id (open_of e (with_cause before (FromEditor e body))) ≡ true
    open_taken = ap (is_open id) (opens_more e before (heard (FromEditor e body)) ∙ ap₂ (λ b m. if b then with_request m (open_of e before) else open_of e before) (same_number e) says)
        ∙ open_last id (open_of e before)

-- a result with the number 1
pub record FirstResult (m : Message) : Type 0 where
  pub r : Json
  pub is : m ≡ result (Some (integer (codes "1"))) r

pub first_result_is : (m : Message) → is_first_result m ≡ true → FirstResult m
first_result_is (result (Some (integer n)) r) h = record { r = r; is = ap (λ z. result (Some (integer z)) r) ((bytes_eq-Decides n (codes "1")).0 h) }
first_result_is (result (Some (text n)) r) h = absurd (cc)
first_result_is (result None r) h = absurd (cc)
first_result_is (error id e) h = absurd (cc)
first_result_is (request id method params) h = absurd (cc)
first_result_is (notification method params) h = absurd (cc)
first_result_is not_json h = absurd (cc)
first_result_is not_message h = absurd (cc)

pub waiting_is : (phase : Phase) → is_waiting phase ≡ true → phase ≡ Waiting
waiting_is Waiting h = refl
waiting_is Absent h = absurd (cc)
waiting_is New h = absurd (cc)
waiting_is Answered h = absurd (cc)
waiting_is Running h = absurd (cc)
waiting_is Down h = absurd (cc)
waiting_is Closed h = absurd (cc)
waiting_is Gone h = absurd (cc)

-- a body to another editor leaves it alone
pub desk_untold : (e n : ℕ) (body : List ℕ) (desk : Desk) → nat_eq n e ≡ false → desk_behind e desk (said (ToEditor n body)) ≡ desk
desk_untold e n body desk h = ap (λ b. if b then record { phase = phase_told desk.phase desk.initialize (message_of body); initialize = desk.initialize } else desk) h

abbrev either_desk : Bool → Desk → Desk → Desk
either_desk b x y = if b then x else y

-- by a message of its own an editor stays there
hears_there : (phase : Phase) (initialize body : List ℕ) (m : Message) → is_there phase ≡ true → is_there (desk_hears phase initialize body m).phase ≡ true
hears_there New initialize body m h = go (requests (codes "initialize") m)
  where
    go : (b : Bool) → is_there (either_desk b (record { phase = Waiting; initialize = body }) (record { phase = New; initialize = initialize })).phase ≡ true
    go true = refl
    go false = refl
hears_there Answered initialize body m h = go (requests (codes "shutdown") m) (makes_running m)
  where
    go : (a b : Bool) → is_there (if a then Down else if b then Running else Answered) ≡ true
    go true b = refl
    go false true = refl
    go false false = refl
hears_there Running initialize body m h = go (requests (codes "shutdown") m)
  where
    go : (a : Bool) → is_there (if a then Down else Running) ≡ true
    go true = refl
    go false = refl
hears_there Waiting initialize body m h = refl
hears_there Down initialize body m h = refl
hears_there Absent initialize body m h = h
hears_there Closed initialize body m h = h
hears_there Gone initialize body m h = h

module _ (settings : Settings) where
  module _ (before : List Event) (e : ℕ) (body : List ℕ) where
    abbrev now : List Event
    now = with_cause before (FromEditor e body)

    pub there_taken : is_there (desk_of e before).phase ≡ true → is_there (desk_of e now).phase ≡ true
    there_taken h = ap (λ (d : Desk). is_there d.phase) (desk_more e before (heard (FromEditor e body)))
        ∙ ap (λ b. is_there (if b then desk_hears (desk_of e before).phase (desk_of e before).initialize body (message_of body) else desk_of e before).phase) (same_number e)
        ∙ hears_there (desk_of e before).phase (desk_of e before).initialize body (message_of body) h
