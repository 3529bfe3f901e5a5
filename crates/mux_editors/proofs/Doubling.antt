-- E3: a request under an id that is open.
use Rattle.std.proofs.Common.{◌≡◌, ℕ, Bool, true, false, not, ◌&&◌, List, refl, ap, ap₂, ◌∙◌, codes, bytes_eq}
use Rattle.std.specs.Prelude.{Option}
use Rattle.json_text.specs.Json.{Json}
use Rattle.lsp_method.specs.Class.{class_of}
use Rattle.lsp_method.specs.declared.variants.Class.{Class}
use Rattle.lsp_method.specs.declared.variants.Class.TheVariants as class
use Rattle.lsp_method.specs.declared.variants.Origin.TheVariants.{Editor}
use Rattle.mux_history.specs.declared.cause.Cause.TheVariants.{FromEditor}
use Rattle.mux_model.specs.Built.{is_other}
use Rattle.mux_model.specs.Methods.{is_wrong}
use Rattle.rpc_message.specs.Message.{Id, Message, message_of, request, notification, result, error, not_json, not_message}
use Rattle.event_model.specs.declared.settings.Server.{Server}
use Rattle.event_model.specs.declared.phase.Phase.{Phase}
use Rattle.event_model.specs.declared.phase.Phase.TheVariants.{Absent, New, Waiting, Answered, Running, Down, Closed, Gone}
use Rattle.event_model.specs.Event.{Event, requests, with_cause}
use Rattle.event_model.specs.Phases.{desk_hears, desk_of, is_begun, is_new, is_served, is_there}
use Rattle.event_model.specs.Requests.{is_open, open_of}
use Rattle.mux_turns.specs.group_facts.specs.Built.{doubles, is_standard}
use Rattle.group_words.specs.Houses.{is_first_open, places, stops}
use Rattle.mux_editors.proofs.Asides.{desk_now, old_unopened}
use Rattle.mux_editors.proofs.Classes.{Serves, first_named, first_serves, is_initialize, not_own, serves, wrong_not_own}
use Rattle.mux_editors.proofs.Serving.{shutdown_downs}

both : (a b : Bool) → (a && b) ≡ true → (a ≡ true) × (b ≡ true)
both true b h = (refl, h)
both false b h = absurd (cc)

and_off : (a : Bool) → (a && false) ≡ false
and_off true = refl
and_off false = refl

pub begun_new : (p : Phase) → is_begun p ≡ true → is_new p ≡ false
begun_new New h = absurd (cc)
begun_new other h = refl

-- one that waits, or is down, stays where it is
begun_stays : (p : Phase) (i body : List ℕ) (m : Message) → is_begun p ≡ true → is_served p ≡ false → (desk_hears p i body m).phase ≡ p
begun_stays Waiting i body m b s = refl
begun_stays Down i body m b s = refl
begun_stays Answered i body m b s = absurd (cc)
begun_stays Running i body m b s = absurd (cc)
begun_stays New i body m b s = absurd (cc)
begun_stays Absent i body m b s = absurd (cc)
begun_stays Closed i body m b s = absurd (cc)
begun_stays Gone i body m b s = absurd (cc)

module _ (before : List Event) (e : ℕ) (id : Id) (method : List ℕ) (params : Option Json) (m : Message) (says : m ≡ request id method params) (doubled : doubles (desk_of e before).phase id (open_of e before) ≡ true) where
  begun : is_begun (desk_of e before).phase ≡ true
  begun = (both (is_begun (desk_of e before).phase) (is_open id (open_of e before)) doubled).0

  open_now : is_open id (open_of e before) ≡ true
  open_now = (both (is_begun (desk_of e before).phase) (is_open id (open_of e before)) doubled).1

  pub doubled_placed : places (desk_of e before).phase m ≡ false
  doubled_placed = ap (λ b. b && requests (codes "initialize") m) (begun_new (desk_of e before).phase begun)

  pub doubled_unopened : (servers : List Server) → is_first_open servers before e m ≡ false
  doubled_unopened servers = old_unopened servers before e m (begun_new (desk_of e before).phase begun)

  pub doubled_stops : stops before e m ≡ false
  doubled_stops = ap (stops before e) says ∙ (ap (λ b. bytes_eq (codes "lspmux/stop") method && (is_there (desk_of e before).phase && not b)) (ap₂ (λ b c. b && c) begun open_now) ∙ (ap (λ b. bytes_eq (codes "lspmux/stop") method && b) (and_off (is_there (desk_of e before).phase)) ∙ and_off (bytes_eq (codes "lspmux/stop") method)))

  pub doubled_stays : (body : List ℕ) → message_of body ≡ m → is_served (desk_of e before).phase ≡ false → (desk_of e (with_cause before (FromEditor e body))).phase ≡ (desk_of e before).phase
  doubled_stays body is unserved = desk_now before e body (desk_of e before).phase (begun_stays (desk_of e before).phase (desk_of e before).initialize body (message_of body) begun unserved)

-- a request of the standard that isn't `shutdown`
pub serves_standard : (method : List ℕ) → is_standard (class_of method Editor false) ≡ true → (class_of method Editor false ≡ class.Shutdown → ⊥) → Serves method
serves_standard method standard other = go (class_of method Editor false) refl standard
  where
    go : (k : Class) → class_of method Editor false ≡ k → is_standard k ≡ true → Serves method
    go class.Initialize is h = first_serves method (first_named method (ap is_initialize is))
    go class.Other is h = serves method (not_own method (ap is_other is))
    go class.Wrong is h = serves method (wrong_not_own method (ap is_wrong is))
    go class.Shutdown is h = absurd (other is)
    go k is h = absurd (cc)

-- `shutdown` takes one that is served down
asks_down : (body : List ℕ) (m : Message) → requests (codes "shutdown") m ≡ true → (q : Phase) (i : List ℕ) → is_served q ≡ true → (desk_hears q i body m).phase ≡ Down
asks_down body (request id method params) asks q i served = shutdown_downs method id params asks body q i served
asks_down body (notification method params) asks q i served = absurd (cc)
asks_down body (result id r) asks q i served = absurd (cc)
asks_down body (error id r) asks q i served = absurd (cc)
asks_down body not_json asks q i served = absurd (cc)
asks_down body not_message asks q i served = absurd (cc)

pub down_now : (before : List Event) (e : ℕ) (body : List ℕ) → requests (codes "shutdown") (message_of body) ≡ true → is_served (desk_of e before).phase ≡ true → (desk_of e (with_cause before (FromEditor e body))).phase ≡ Down
down_now before e body asks served = desk_now before e body Down (asks_down body (message_of body) asks (desk_of e before).phase (desk_of e before).initialize served)
