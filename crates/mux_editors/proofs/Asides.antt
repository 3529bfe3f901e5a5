-- Messages of an editor that place it nowhere, and change no document.
use Rattle.std.proofs.Common.{◌≡◌, ℕ, Bool, true, false, not, ◌&&◌, ◌||◌, List, refl, sym, ap, ap₂, ◌∙◌, codes}
use Rattle.std.specs.Prelude.{Some}
use Rattle.document_model.specs.Sayings.{nothing, saying_by, saying_of, speaks}
use Rattle.std.proofs.lemmas.Slice.Eq.{bytes_eq-Decides}
use Rattle.mux_history.specs.declared.cause.Cause.TheVariants.{FromEditor}
use Rattle.rpc_message.specs.declared.sort.Malformed.{Malformed}
use Rattle.rpc_message.specs.declared.sort.Malformed.TheVariants as fault
use Rattle.rpc_message.specs.declared.sort.Sort.TheVariants as sort
use Rattle.rpc_message.specs.Message.{Message, message_of, request, notification, result, error, not_json, not_message}
use Rattle.rpc_message.specs.Sorts.{Refuses, sort_of}
use Rattle.event_model.specs.declared.settings.Server.{Server}
use Rattle.event_model.specs.declared.phase.Phase.{Phase}
use Rattle.event_model.specs.declared.phase.Phase.TheVariants.{Absent, New, Waiting, Answered, Running, Down, Closed, Gone}
use Rattle.event_model.specs.Event.{Event, heard, notifies, requests, with_cause}
use Rattle.event_model.specs.Phases.{Desk, desk_behind, desk_hears, desk_of, is_begun, is_malformed, is_new, is_served, is_there}
use Rattle.event_model.proofs.Frames.{one_more}
use Rattle.mux_turns.specs.group_facts.specs.Facts.{is_early}
use Rattle.group_words.specs.Houses.{is_doubled, is_first_open, meant_of, places, stops}
use Rattle.mux_tables.specs.Stands.{is_answer}
use Rattle.mux_tables.specs.Documents.{changes_documents}
use Rattle.mux_tables.proofs.Frames.{itself}

pub and_off : (a : Bool) → (a && false) ≡ false
and_off true = refl
and_off false = refl

-- it isn't the first `lspmux/open` of a new editor
pub old_unopened : (servers : List Server) (before : List Event) (e : ℕ) (m : Message) → is_new (desk_of e before).phase ≡ false → is_first_open servers before e m ≡ false
old_unopened servers before e m h = ap (λ b. b && (requests (codes "lspmux/open") m && not (meant_of servers e before).opened)) h

pub unnamed_unopened : (servers : List Server) (before : List Event) (e : ℕ) (m : Message) → requests (codes "lspmux/open") m ≡ false → is_first_open servers before e m ≡ false
unnamed_unopened servers before e m h = ap (λ b. is_new (desk_of e before).phase && (b && not (meant_of servers e before).opened)) h ∙ and_off (is_new (desk_of e before).phase)

-- where it stands behind the message
module _ (before : List Event) (e : ℕ) (body : List ℕ) where
  pub desk_now : (p : Phase) → (desk_hears (desk_of e before).phase (desk_of e before).initialize body (message_of body)).phase ≡ p → (desk_of e (with_cause before (FromEditor e body))).phase ≡ p
  desk_now p h = ap (λ (d : Desk). d.phase) (one_more (desk_behind e) _ _ before (heard (FromEditor e body)) refl) ∙ rw (itself e) h

-- a body that is no message
pub refused : (f : Malformed) (m : Message) → (f ≡ fault.Memory → ⊥) → Refuses f m → is_malformed m ≡ true
refused fault.NotJson m none h = ap is_malformed h
refused fault.NotMessage m none h = ap is_malformed h
refused fault.Memory m none h = absurd (none refl)

pub malformed_stays : (p : Phase) (i body : List ℕ) (m : Message) → is_malformed m ≡ true → (desk_hears p i body m).phase ≡ p
malformed_stays New i body not_json h = refl
malformed_stays New i body not_message h = refl
malformed_stays Answered i body not_json h = refl
malformed_stays Answered i body not_message h = refl
malformed_stays Running i body not_json h = refl
malformed_stays Running i body not_message h = refl
malformed_stays Absent i body m h = refl
malformed_stays Waiting i body m h = refl
malformed_stays Down i body m h = refl
malformed_stays Closed i body m h = refl
malformed_stays Gone i body m h = refl
malformed_stays New i body (request id method ps) h = absurd (cc)
malformed_stays New i body (notification method ps) h = absurd (cc)
malformed_stays New i body (result id r) h = absurd (cc)
malformed_stays New i body (error id r) h = absurd (cc)
malformed_stays Answered i body (request id method ps) h = absurd (cc)
malformed_stays Answered i body (notification method ps) h = absurd (cc)
malformed_stays Answered i body (result id r) h = absurd (cc)
malformed_stays Answered i body (error id r) h = absurd (cc)
malformed_stays Running i body (request id method ps) h = absurd (cc)
malformed_stays Running i body (notification method ps) h = absurd (cc)
malformed_stays Running i body (result id r) h = absurd (cc)
malformed_stays Running i body (error id r) h = absurd (cc)

-- what is no request
pub record Aside (before : List Event) (e : ℕ) (m : Message) : Type 0 where
  pub placed : places (desk_of e before).phase m ≡ false
  pub stopped : stops before e m ≡ false
  pub unopened : (servers : List Server) → is_first_open servers before e m ≡ false

pub aside : (before : List Event) (e : ℕ) (m : Message) → (sort_of m ≡ Some sort.Request → ⊥) → Aside before e m
aside before e (request id method ps) h = absurd (h refl)
aside before e (notification method ps) h = record { placed = and_off (is_new (desk_of e before).phase); stopped = refl; unopened = λ servers. and_off (is_new (desk_of e before).phase) }
aside before e (result id r) h = record { placed = and_off (is_new (desk_of e before).phase); stopped = refl; unopened = λ servers. and_off (is_new (desk_of e before).phase) }
aside before e (error id r) h = record { placed = and_off (is_new (desk_of e before).phase); stopped = refl; unopened = λ servers. and_off (is_new (desk_of e before).phase) }
aside before e not_json h = record { placed = and_off (is_new (desk_of e before).phase); stopped = refl; unopened = λ servers. and_off (is_new (desk_of e before).phase) }
aside before e not_message h = record { placed = and_off (is_new (desk_of e before).phase); stopped = refl; unopened = λ servers. and_off (is_new (desk_of e before).phase) }

pub malformed_aside : (m : Message) → is_malformed m ≡ true → sort_of m ≡ Some sort.Request → ⊥
malformed_aside not_json h k = cc
malformed_aside not_message h k = cc
malformed_aside (request id method ps) h k = absurd (cc)
malformed_aside (notification method ps) h k = absurd (cc)
malformed_aside (result id r) h k = absurd (cc)
malformed_aside (error id r) h k = absurd (cc)

pub malformed_keeps : (before : List Event) (e : ℕ) (m : Message) → is_malformed m ≡ true → changes_documents before e m ≡ false
malformed_keeps before e not_json h = and_off (is_served (desk_of e before).phase)
malformed_keeps before e not_message h = and_off (is_served (desk_of e before).phase)
malformed_keeps before e (request id method ps) h = absurd (cc)
malformed_keeps before e (notification method ps) h = absurd (cc)
malformed_keeps before e (result id r) h = absurd (cc)
malformed_keeps before e (error id r) h = absurd (cc)

-- nor does it answer
pub malformed_silent : (m : Message) → is_malformed m ≡ true → is_answer m ≡ false
malformed_silent not_json h = refl
malformed_silent not_message h = refl
malformed_silent (request id method ps) h = refl
malformed_silent (notification method ps) h = refl
malformed_silent (result id r) h = absurd (cc)
malformed_silent (error id r) h = absurd (cc)

pub malformed_shuts : (m : Message) → is_malformed m ≡ true → requests (codes "shutdown") m ≡ false
malformed_shuts not_json h = refl
malformed_shuts not_message h = refl
malformed_shuts (request id method ps) h = absurd (cc)
malformed_shuts (notification method ps) h = refl
malformed_shuts (result id r) h = refl
malformed_shuts (error id r) h = refl

-- `exit` leaves each editor where it is
pub exit_stays : (p : Phase) (i body : List ℕ) (m : Message) → notifies (codes "exit") m ≡ true → (desk_hears p i body m).phase ≡ p
exit_stays New i body (notification method ps) h = refl
exit_stays Answered i body (notification method ps) h = rw (h) refl
exit_stays Running i body (notification method ps) h = refl
exit_stays Absent i body (notification method ps) h = refl
exit_stays Waiting i body (notification method ps) h = refl
exit_stays Down i body (notification method ps) h = refl
exit_stays Closed i body (notification method ps) h = refl
exit_stays Gone i body (notification method ps) h = refl
exit_stays p i body (request id method ps) h = absurd (cc)
exit_stays p i body (result id r) h = absurd (cc)
exit_stays p i body (error id r) h = absurd (cc)
exit_stays p i body not_json h = absurd (cc)
exit_stays p i body not_message h = absurd (cc)

-- it is no request, and speaks of no document
pub exit_aside : (m : Message) → notifies (codes "exit") m ≡ true → sort_of m ≡ Some sort.Request → ⊥
exit_aside (notification method ps) h k = cc
exit_aside (request id method ps) h k = absurd (cc)
exit_aside (result id r) h k = absurd (cc)
exit_aside (error id r) h k = absurd (cc)
exit_aside not_json h k = absurd (cc)
exit_aside not_message h k = absurd (cc)

pub exit_silent : (m : Message) → notifies (codes "exit") m ≡ true → saying_of m ≡ nothing
exit_silent (notification method ps) h = ap (λ w. saying_by w ps) (sym ((bytes_eq-Decides (codes "exit") method).0 h))
exit_silent (request id method ps) h = absurd (cc)
exit_silent (result id r) h = absurd (cc)
exit_silent (error id r) h = absurd (cc)
exit_silent not_json h = absurd (cc)
exit_silent not_message h = absurd (cc)

pub exit_answers : (m : Message) → notifies (codes "exit") m ≡ true → is_answer m ≡ false
exit_answers (notification method ps) h = refl
exit_answers (request id method ps) h = refl
exit_answers (result id r) h = absurd (cc)
exit_answers (error id r) h = absurd (cc)
exit_answers not_json h = refl
exit_answers not_message h = refl

pub exit_shuts : (m : Message) → notifies (codes "exit") m ≡ true → requests (codes "shutdown") m ≡ false
exit_shuts (notification method ps) h = refl
exit_shuts (request id method ps) h = absurd (cc)
exit_shuts (result id r) h = absurd (cc)
exit_shuts (error id r) h = absurd (cc)
exit_shuts not_json h = absurd (cc)
exit_shuts not_message h = absurd (cc)

pub exit_keeps : (before : List Event) (e : ℕ) (m : Message) → notifies (codes "exit") m ≡ true → changes_documents before e m ≡ false
exit_keeps before e m h = ap (λ b. is_served (desk_of e before).phase && b) (ap₂ (λ a x. a || speaks x) (exit_shuts m h) (exit_silent m h)) ∙ and_off (is_served (desk_of e before).phase)

-- before the answer to its `initialize`
pub early_stays : (p : Phase) (i body : List ℕ) (m : Message) → is_early p ≡ true → places p m ≡ false → (desk_hears p i body m).phase ≡ p
early_stays New i body m h k = rw (k) refl
early_stays Absent i body m h k = refl
early_stays Waiting i body m h k = refl
early_stays Answered i body m h k = absurd (cc)
early_stays Running i body m h k = absurd (cc)
early_stays Down i body m h k = absurd (cc)
early_stays Closed i body m h k = absurd (cc)
early_stays Gone i body m h k = absurd (cc)

pub early_unserved : (p : Phase) → is_early p ≡ true → is_served p ≡ false
early_unserved Answered h = absurd (cc)
early_unserved Running h = absurd (cc)
early_unserved New h = refl
early_unserved Absent h = refl
early_unserved Waiting h = refl
early_unserved Down h = absurd (cc)
early_unserved Closed h = absurd (cc)
early_unserved Gone h = absurd (cc)

pub unserved_keeps : (before : List Event) (e : ℕ) (m : Message) → is_served (desk_of e before).phase ≡ false → changes_documents before e m ≡ false
unserved_keeps before e m h = ap (λ b. b && (requests (codes "shutdown") m || speaks (saying_of m))) h

pub early_keeps : (before : List Event) (e : ℕ) (m : Message) → is_early (desk_of e before).phase ≡ true → changes_documents before e m ≡ false
early_keeps before e m h = unserved_keeps before e m (early_unserved (desk_of e before).phase h)

-- where its link is to be ended
module _ (before : List Event) (e : ℕ) (m : Message) (closed : (desk_of e before).phase ≡ Closed) where
  pub closed_placed : places (desk_of e before).phase m ≡ false
  closed_placed = ap (λ p. places p m) closed

  pub closed_stops : stops before e m ≡ false
  closed_stops = ap (λ p. requests (codes "lspmux/stop") m && (is_there p && not (is_begun p && is_doubled before e m))) closed ∙ and_off (requests (codes "lspmux/stop") m)

  pub closed_keeps : changes_documents before e m ≡ false
  closed_keeps = ap (λ p. is_served p && (requests (codes "shutdown") m || speaks (saying_of m))) closed

pub closed_stays : (before : List Event) (e : ℕ) (body : List ℕ) → (desk_of e before).phase ≡ Closed → (desk_of e (with_cause before (FromEditor e body))).phase ≡ Closed
closed_stays before e body closed = desk_now before e body Closed (ap (λ p. (desk_hears p (desk_of e before).initialize body (message_of body)).phase) closed)
