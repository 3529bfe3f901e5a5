-- E3 to E6: a request of the multiplexer's own, and where its editor stands behind it.
use Rattle.std.proofs.Common.{◌≡◌, ℕ, Bool, true, false, not, ◌&&◌, ◌||◌, List, codes, bytes_eq, Option, refl, sym, ap, ◌∙◌}
use Rattle.std.proofs.lemmas.Bool.{and_parts}
use Rattle.std.proofs.lemmas.Slice.Eq.{bytes_eq-Decides}
use Rattle.json_text.specs.Json.{Json}
use Rattle.mux_history.specs.declared.cause.Cause.TheVariants.{FromEditor}
use Rattle.rpc_message.specs.Message.{Message, message_of, request, notification, result, error, not_json, not_message, Id}
use Rattle.event_model.specs.declared.settings.Server.{Server}
use Rattle.event_model.specs.declared.phase.Phase.{Phase}
use Rattle.event_model.specs.declared.phase.Phase.TheVariants.{Absent, New, Waiting, Answered, Running, Down, Closed, Gone}
use Rattle.event_model.specs.Event.{Event, heard, requests, same_id, with_cause}
use Rattle.event_model.specs.Phases.{Desk, desk_behind, desk_hears, desk_of, has_id, is_begun, is_new, is_served, is_there}
use Rattle.event_model.specs.Requests.{is_open, open_of}
use Rattle.event_model.specs.Settings.{Settings}
use Rattle.event_model.proofs.Frames.{one_more}
use Rattle.mux_turns.specs.group_facts.specs.Settled.{IsOnly, Settled}
use Rattle.mux_turns.specs.group_facts.proofs.Multiplexer.{by_names}
use Rattle.mux_turns.specs.group_facts.proofs.Waiting.{new_is}
use Rattle.group_rows.specs.Rows.{asks_lspmux, names_lspmux}
use Rattle.group_words.specs.Houses.{is_doubled, is_first_open, meant_of, places, stops}
use Rattle.mux_turns.specs.mux_facts.proofs.Words.{id_same}
use Rattle.mux_tables.specs.Documents.{changes_documents}
use Rattle.mux_tables.proofs.Frames.{itself}
use Rattle.mux_turns.proofs.Lspmux.{either_asks}
use Rattle.mux_editors.proofs.Asides.{desk_now}

pub status_asks : (m : Message) → requests (codes "lspmux/status") m ≡ true → asks_lspmux m ≡ true
status_asks m h = either_asks m ∙ (ap (λ b. requests (codes "lspmux/open") m || (b || requests (codes "lspmux/stop") m)) h ∙ later (requests (codes "lspmux/open") m))
  where
    later : (a : Bool) → (a || true) ≡ true
    later true = refl
    later false = refl

pub status_unnamed : (m : Message) → requests (codes "lspmux/status") m ≡ true → requests (codes "lspmux/open") m ≡ false
status_unnamed (request id method params) h = ap (bytes_eq (codes "lspmux/open")) (sym ((bytes_eq-Decides (codes "lspmux/status") method).0 h))
status_unnamed (notification method params) h = refl
status_unnamed (result id r) h = refl
status_unnamed (error id x) h = refl
status_unnamed not_json h = refl
status_unnamed not_message h = refl

pub status_unstopped : (m : Message) → requests (codes "lspmux/status") m ≡ true → requests (codes "lspmux/stop") m ≡ false
status_unstopped (request id method params) h = ap (bytes_eq (codes "lspmux/stop")) (sym ((bytes_eq-Decides (codes "lspmux/status") method).0 h))
status_unstopped (notification method params) h = refl
status_unstopped (result id r) h = refl
status_unstopped (error id x) h = refl
status_unstopped not_json h = refl
status_unstopped not_message h = refl

pub open_unstopped : (m : Message) → requests (codes "lspmux/open") m ≡ true → requests (codes "lspmux/stop") m ≡ false
open_unstopped (request id method params) h = ap (bytes_eq (codes "lspmux/stop")) (sym ((bytes_eq-Decides (codes "lspmux/open") method).0 h))
open_unstopped (notification method params) h = refl
open_unstopped (result id r) h = refl
open_unstopped (error id x) h = refl
open_unstopped not_json h = refl
open_unstopped not_message h = refl

pub stop_asks : (m : Message) → requests (codes "lspmux/stop") m ≡ true → asks_lspmux m ≡ true
stop_asks m h = either_asks m ∙ (ap (λ b. requests (codes "lspmux/open") m || (requests (codes "lspmux/status") m || b)) h ∙ later (requests (codes "lspmux/open") m) (requests (codes "lspmux/status") m))
  where
    later : (a b : Bool) → (a || (b || true)) ≡ true
    later true b = refl
    later false true = refl
    later false false = refl

pub open_asks : (m : Message) → requests (codes "lspmux/open") m ≡ true → asks_lspmux m ≡ true
open_asks m h = either_asks m ∙ ap (λ b. b || (requests (codes "lspmux/status") m || requests (codes "lspmux/stop") m)) h

pub other_status : (m : Message) → asks_lspmux m ≡ true → requests (codes "lspmux/open") m ≡ false → requests (codes "lspmux/stop") m ≡ false → requests (codes "lspmux/status") m ≡ true
other_status m asks other goes = only (requests (codes "lspmux/open") m) (requests (codes "lspmux/status") m) (requests (codes "lspmux/stop") m) other goes (sym (either_asks m) ∙ asks)
  where
    only : (a b c : Bool) → a ≡ false → c ≡ false → (a || (b || c)) ≡ true → b ≡ true
    only true b c h k l = absurd (cc)
    only false true c h k l = refl
    only false false true h k l = absurd (cc)
    only false false false h k l = absurd (cc)

pub unasked_open : (m : Message) → asks_lspmux m ≡ false → requests (codes "lspmux/open") m ≡ false
unasked_open m h = first (requests (codes "lspmux/open") m) (sym (either_asks m) ∙ h)
  where
    first : (a : Bool) → (a || (requests (codes "lspmux/status") m || requests (codes "lspmux/stop") m)) ≡ false → a ≡ false
    first true k = absurd (cc)
    first false k = refl

-- its parts
pub record IsLspmux (m : Message) : Type 0 where
  pub id : Id
  pub method : List ℕ
  pub params : Option Json
  pub is : m ≡ request id method params
  pub own : names_lspmux method ≡ true

pub lspmux_is : (m : Message) → asks_lspmux m ≡ true → IsLspmux m
lspmux_is (request id method params) h = record { id = id; method = method; params = params; is = refl; own = h }
lspmux_is (notification method params) h = absurd (cc)
lspmux_is (result id r) h = absurd (cc)
lspmux_is (error id x) h = absurd (cc)
lspmux_is not_json h = absurd (cc)
lspmux_is not_message h = absurd (cc)

and_off : (a : Bool) → (a && false) ≡ false
and_off true = refl
and_off false = refl

-- it leaves its editor where it is
hears_stays : (p : Phase) (i body : List ℕ) (id : Id) (params : Option Json) (method : List ℕ) → names_lspmux method ≡ true → (desk_hears p i body (request id method params)).phase ≡ p
hears_stays Absent i body id params method h = refl
hears_stays New i body id params method h = by_names (λ m. (desk_hears New i body (request id m params)).phase ≡ New) method refl refl refl h
hears_stays Waiting i body id params method h = refl
hears_stays Answered i body id params method h = by_names (λ m. (desk_hears Answered i body (request id m params)).phase ≡ Answered) method refl refl refl h
hears_stays Running i body id params method h = by_names (λ m. (desk_hears Running i body (request id m params)).phase ≡ Running) method refl refl refl h
hears_stays Down i body id params method h = refl
hears_stays Closed i body id params method h = refl
hears_stays Gone i body id params method h = refl

-- nor is it `shutdown`
pub own_shuts : (m : Message) → asks_lspmux m ≡ true → requests (codes "shutdown") m ≡ false
own_shuts m asks = let k = lspmux_is m asks in ap (requests (codes "shutdown")) k.is ∙ by_names (λ w. bytes_eq (codes "shutdown") w ≡ false) k.method refl refl refl k.own

module _ (before : List Event) (e : ℕ) (body : List ℕ) (asks : asks_lspmux (message_of body) ≡ true) where
  abbrev k : IsLspmux (message_of body)
  k = lspmux_is (message_of body) asks

  pub own_stays : (desk_of e (with_cause before (FromEditor e body))).phase ≡ (desk_of e before).phase
  own_stays = desk_now before e body (desk_of e before).phase (ap (λ m. (desk_hears (desk_of e before).phase (desk_of e before).initialize body m).phase) k.is
      ∙ hears_stays (desk_of e before).phase (desk_of e before).initialize body k.id k.params k.method k.own)

  pub own_placed : places (desk_of e before).phase (message_of body) ≡ false
  own_placed = ap (places (desk_of e before).phase) k.is ∙ (ap (λ b. is_new (desk_of e before).phase && b) (by_names (λ m. bytes_eq (codes "initialize") m ≡ false) k.method refl refl refl k.own) ∙ and_off (is_new (desk_of e before).phase))

  pub own_stops : requests (codes "lspmux/stop") (message_of body) ≡ false → stops before e (message_of body) ≡ false
  own_stops goes = ap (λ b. b && (is_there (desk_of e before).phase && not (is_begun (desk_of e before).phase && is_doubled before e (message_of body)))) goes

  pub doubled_stops : (is_begun (desk_of e before).phase && is_doubled before e (message_of body)) ≡ true → stops before e (message_of body) ≡ false
  doubled_stops doubled = ap (λ b. requests (codes "lspmux/stop") (message_of body) && (is_there (desk_of e before).phase && not b)) doubled
      ∙ (ap (λ b. requests (codes "lspmux/stop") (message_of body) && b) (and_off (is_there (desk_of e before).phase)) ∙ and_off (requests (codes "lspmux/stop") (message_of body)))

  pub own_keeps : changes_documents before e (message_of body) ≡ false
  own_keeps = ap (changes_documents before e) k.is ∙ by_names (λ m. changes_documents before e (request k.id m k.params) ≡ false) k.method (and_off (is_served (desk_of e before).phase)) (and_off (is_served (desk_of e before).phase)) (and_off (is_served (desk_of e before).phase)) k.own

  -- where its editor waits, its `initialize` is open under another id
  apart : (id first : Id) (m : Message) → has_id first m ≡ true → same_id id first ≡ false → has_id id m ≡ false
  apart id first (request other method params) own h = ap (same_id id) (sym (id_same first other own)) ∙ h
  apart id first (notification method params) own h = absurd (cc)
  apart id first (result other r) own h = absurd (cc)
  apart id first (error other x) own h = absurd (cc)
  apart id first not_json own h = absurd (cc)
  apart id first not_message own h = absurd (cc)

  or_off : (b : Bool) → (b || false) ≡ false → b ≡ false
  or_off true h = h
  or_off false h = refl

  pub desk_stays : (desk_of e before).phase ≡ Waiting → (desk_of e (with_cause before (FromEditor e body))).initialize ≡ (desk_of e before).initialize
  desk_stays at = ap (λ (d : Desk). d.initialize) (one_more (desk_behind e) _ _ before (heard (FromEditor e body)) refl) ∙ rw (itself e) (ap (λ p. (desk_hears p (desk_of e before).initialize body (message_of body)).initialize) at)

  pub own_others : (settings : Settings) → (is_begun (desk_of e before).phase && is_doubled before e (message_of body)) ≡ false → Settled settings before
      → (desk_of e (with_cause before (FromEditor e body))).phase ≡ Waiting → has_id k.id (message_of (desk_of e (with_cause before (FromEditor e body))).initialize) ≡ false
  own_others settings single known at =
      let waits : (desk_of e before).phase ≡ Waiting = sym own_stays ∙ at in
      let only : IsOnly before e = known.waiting e waits in
      let fresh : is_open k.id (open_of e before) ≡ false = ap (λ m. is_doubled before e m) (sym k.is) ∙ (ap (λ p. is_begun p && is_doubled before e (message_of body)) (sym waits) ∙ single) in
      let other : same_id k.id only.id ≡ false = or_off (same_id k.id only.id) (ap (is_open k.id) (sym only.ids) ∙ fresh) in
      ap (λ i. has_id k.id (message_of i)) (desk_stays waits) ∙ apart k.id only.id (message_of (desk_of e before).initialize) only.asked other

-- the first `lspmux/open` of a new editor
pub first_is : (servers : List Server) (before : List Event) (e : ℕ) (m : Message) → requests (codes "lspmux/open") m ≡ true → (desk_of e before).phase ≡ New → not (meant_of servers e before).opened ≡ is_first_open servers before e m
first_is servers before e m asks new = sym (ap (λ p. is_new p && (requests (codes "lspmux/open") m && not (meant_of servers e before).opened)) new ∙ ap (λ b. b && not (meant_of servers e before).opened) asks)

pub first_new : (servers : List Server) (before : List Event) (e : ℕ) (m : Message) → is_first_open servers before e m ≡ true → (desk_of e before).phase ≡ New
first_new servers before e m first = new_is (desk_of e before).phase (and_parts (is_new (desk_of e before).phase) _ first).0

pub other_phase : (p : Phase) → (p ≡ New → ⊥) → is_new p ≡ false
other_phase New h = absurd (h refl)
other_phase other h = refl
