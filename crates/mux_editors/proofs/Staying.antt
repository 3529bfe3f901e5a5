-- Messages of editors that wait nowhere (E10).
use Rattle.std.proofs.Common.{◌≡◌, ℕ, Bool, true, false, not, ◌&&◌, List, codes, bytes_eq, length, nat_eq, refl, ap, sym, ◌∙◌}
use Rattle.std.specs.Prelude.{Option, Some}
use Rattle.json_text.specs.Json.{Json}
use Rattle.mux_history.specs.declared.cause.Cause.TheVariants.{FromEditor}
use Rattle.rpc_message.specs.Message.{Id, Message, message_of, request, notification, result, error, not_json, not_message}
use Rattle.rpc_message.specs.declared.sort.Sort.TheVariants.{Request}
use Rattle.rpc_message.specs.Sorts.{sort_of}
use Rattle.event_model.specs.Event.{Event, heard, notifies, with_cause}
use Rattle.event_model.specs.Members.{params_of}
use Rattle.event_model.specs.Phases.{desk_of, is_malformed, is_multiplexer_request, is_served}
use Rattle.mux_turns.specs.mux_facts.specs.Allowed.{is_response}
use Rattle.event_model.specs.Settings.{Settings}
use Rattle.event_model.proofs.Frames.{never}
use Rattle.group_rows.specs.Reserved.{reserves}
use Rattle.group_rows.specs.Rows.{may_wait}
use Rattle.group_rows.specs.Waiting.{is_for_start, is_misplaced, is_restarting, waiting_of}
use Rattle.group_words.specs.Houses.{home_of, is_doubled, is_home, places}
use Rattle.group_words.proofs.Frames.{home_more}
use Rattle.mux_tables.specs.mux_waits.specs.held_requests.specs.Tables.{takes}
use Rattle.mux_tables.specs.mux_waits.specs.Stands.{Unheld}
use Rattle.mux_tables.specs.mux_waits.proofs.Unheld.{and_off, unheld_by, unheld_full}

-- an editor that isn't served
pub unheld_unserved : (settings : Settings) (e : ℕ) (body : List ℕ) (m : Message) (events : List Event) → is_served (desk_of e events).phase ≡ false → Unheld settings e body m events
unheld_unserved settings e body m events off g =
    ap (λ b. (is_home g (home_of settings e events) && b) && (is_for_start events e body m && (is_restarting g events && takes e (length body) (waiting_of settings g events)))) off
    ∙ ap (λ b. b && (is_for_start events e body m && (is_restarting g events && takes e (length body) (waiting_of settings g events)))) (and_off (is_home g (home_of settings e events)))

module _ (events : List Event) (e : ℕ) (body : List ℕ) where
  notice_aside : (name : List ℕ) (m : Message) → notifies name m ≡ true → is_for_start events e body m ≡ false
  notice_aside name (request id method params) h = never (sym h)
  notice_aside name (notification method params) h = refl
  notice_aside name (result id r) h = refl
  notice_aside name (error id r) h = refl
  notice_aside name not_json h = refl
  notice_aside name not_message h = refl

  malformed_aside : (m : Message) → is_malformed m ≡ true → is_for_start events e body m ≡ false
  malformed_aside (request id method params) h = absurd (cc)
  malformed_aside (notification method params) h = refl
  malformed_aside (result id r) h = refl
  malformed_aside (error id r) h = refl
  malformed_aside not_json h = refl
  malformed_aside not_message h = refl

  response_aside : (m : Message) → is_response m ≡ true → is_for_start events e body m ≡ false
  response_aside (result id r) h = refl
  response_aside (error id r) h = refl
  response_aside (request id method params) h = absurd (cc)
  response_aside (notification method params) h = refl
  response_aside not_json h = refl
  response_aside not_message h = refl

  unasked_aside : (m : Message) → (sort_of m ≡ Some Request → ⊥) → is_for_start events e body m ≡ false
  unasked_aside (request id method params) other = absurd (other refl)
  unasked_aside (notification method params) other = refl
  unasked_aside (result id r) other = refl
  unasked_aside (error id r) other = refl
  unasked_aside not_json other = refl
  unasked_aside not_message other = refl

  -- of a request, by each of its tests
  module _ (id : Id) (method : List ℕ) (params : Option Json) where
    abbrev tests : Bool → Bool → Bool → Bool → Bool → Bool
    tests doubled own misplaced down reserved = not doubled && (not own && (not misplaced && (not down && not reserved)))

    doubled_aside : is_doubled events e (request id method params) ≡ true → is_for_start events e body (request id method params) ≡ false
    doubled_aside h = ap (λ b. tests b (is_multiplexer_request (request id method params)) (is_misplaced method) (bytes_eq (codes "shutdown") method) (reserves (params_of body))) h

    own_aside : is_multiplexer_request (request id method params) ≡ true → is_for_start events e body (request id method params) ≡ false
    own_aside h = ap (λ b. tests (is_doubled events e (request id method params)) b (is_misplaced method) (bytes_eq (codes "shutdown") method) (reserves (params_of body))) h
        ∙ and_off (not (is_doubled events e (request id method params)))

    misplaced_aside : is_misplaced method ≡ true → is_for_start events e body (request id method params) ≡ false
    misplaced_aside h = ap (λ b. tests (is_doubled events e (request id method params)) (is_multiplexer_request (request id method params)) b (bytes_eq (codes "shutdown") method) (reserves (params_of body))) h
        ∙ (ap (λ b. not (is_doubled events e (request id method params)) && b) (and_off (not (is_multiplexer_request (request id method params)))) ∙ and_off (not (is_doubled events e (request id method params))))

    reserved_aside : reserves (params_of body) ≡ true → is_for_start events e body (request id method params) ≡ false
    reserved_aside h = ap (λ b. tests (is_doubled events e (request id method params)) (is_multiplexer_request (request id method params)) (is_misplaced method) (bytes_eq (codes "shutdown") method) b) h
        ∙ (ap (λ b. not (is_doubled events e (request id method params)) && (not (is_multiplexer_request (request id method params)) && (not (is_misplaced method) && b))) (and_off (not (bytes_eq (codes "shutdown") method)))
        ∙ (ap (λ b. not (is_doubled events e (request id method params)) && (not (is_multiplexer_request (request id method params)) && b)) (and_off (not (is_misplaced method)))
        ∙ (ap (λ b. not (is_doubled events e (request id method params)) && b) (and_off (not (is_multiplexer_request (request id method params)))) ∙ and_off (not (is_doubled events e (request id method params))))))

pub unheld_notice : (settings : Settings) (e : ℕ) (body : List ℕ) (m : Message) (events : List Event) (name : List ℕ) → notifies name m ≡ true → Unheld settings e body m events
unheld_notice settings e body m events name h = unheld_by settings e body m events (notice_aside events e body name m h)

pub unheld_unasked : (settings : Settings) (e : ℕ) (body : List ℕ) (m : Message) (events : List Event) → (sort_of m ≡ Some Request → ⊥) → Unheld settings e body m events
unheld_unasked settings e body m events other = unheld_by settings e body m events (unasked_aside events e body m other)

pub unheld_response : (settings : Settings) (e : ℕ) (body : List ℕ) (m : Message) (events : List Event) → is_response m ≡ true → Unheld settings e body m events
unheld_response settings e body m events h = unheld_by settings e body m events (response_aside events e body m h)

pub unheld_malformed : (settings : Settings) (e : ℕ) (body : List ℕ) (m : Message) (events : List Event) → is_malformed m ≡ true → Unheld settings e body m events
unheld_malformed settings e body m events h = unheld_by settings e body m events (malformed_aside events e body m h)

module _ (settings : Settings) (e : ℕ) (body : List ℕ) (m : Message) (events : List Event) (id : Id) (method : List ℕ) (params : Option Json) (says : m ≡ request id method params) where
  pub unheld_doubled : is_doubled events e (request id method params) ≡ true → Unheld settings e body m events
  unheld_doubled h = unheld_by settings e body m events (ap (is_for_start events e body) says ∙ doubled_aside events e body id method params h)

  pub unheld_own : is_multiplexer_request (request id method params) ≡ true → Unheld settings e body m events
  unheld_own h = unheld_by settings e body m events (ap (is_for_start events e body) says ∙ own_aside events e body id method params h)

  pub unheld_misplaced : is_misplaced method ≡ true → Unheld settings e body m events
  unheld_misplaced h = unheld_by settings e body m events (ap (is_for_start events e body) says ∙ misplaced_aside events e body id method params h)

  pub unheld_reserved : reserves (params_of body) ≡ true → Unheld settings e body m events
  unheld_reserved h = unheld_by settings e body m events (ap (is_for_start events e body) says ∙ reserved_aside events e body id method params h)

-- E10: nor one that isn't to wait
pub unheld_refused : (settings : Settings) (e : ℕ) (body : List ℕ) (m : Message) (events : List Event) → ((g : ℕ) → home_of settings e events ≡ Some g → may_wait settings events e body g ≡ false) → Unheld settings e body m events
unheld_refused settings e body m events off = unheld_full settings e body m events off

-- an editor's message that places it nowhere leaves all where they are
pub home_heard : (settings : Settings) (before : List Event) (e : ℕ) (body : List ℕ) (n : ℕ) → places (desk_of e before).phase (message_of body) ≡ false → home_of settings n (with_cause before (FromEditor e body)) ≡ home_of settings n before
home_heard settings before e body n placed = home_more settings n before (heard (FromEditor e body)) ∙ rw (placed, and_off (nat_eq e n)) refl
