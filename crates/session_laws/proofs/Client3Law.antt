-- An editor hears nothing but responses before its session is open, and one `initialize` of it gets a result.
use Rattle.std.proofs.Common.{◌≡◌, ℕ, Bool, true, false, not, ◌&&◌, ◌||◌, cond, List, [], ◌∷◌, ◌++◌, nat_eq, codes, if◌then◌else◌, Option, Some, refl, sym, ◌∙◌, ap, ap₂, subst, subst₂, arith}
use Rattle.std.proofs.lemmas.Slice.Eq.{bytes_eq-Decides}
use Rattle.json_text.specs.Json.{Json}
use Rattle.mux_history.specs.declared.cause.Cause.TheVariants.{FromEditor, Joined, EditorGone}
use Rattle.rpc_message.specs.Message.{Message, request, notification, result, error, not_json, not_message, Id, message_of}
use Rattle.event_model.specs.declared.phase.Phase.{Phase}
use Rattle.event_model.specs.declared.phase.Phase.TheVariants.{Absent, New, Waiting, Answered, Running, Down, Closed, Gone}
use Rattle.event_model.specs.Event.{Event, took, requests, heard, with_cause}
use Rattle.event_model.specs.Phases.{is_malformed, Desk, desk_of, desk_behind, desk_hears, has_id, phase_told, is_new, is_there, makes_running, phase_closed, editors_of}
use Rattle.event_model.specs.Requests.{is_open, with_request, without}
use Rattle.event_model.specs.Always.{Always}
use Rattle.session_laws.specs.ClientRules.{Opening, opening_hears, opening_told, opening_behind, opening_of, may_hear, ClientRule3}
use Rattle.event_model.specs.Parts.{editor_part, is_of_editor}
use Rattle.mux_facts.proofs.Bodies.{IsResponseTo, is_result, is_error}
use Rattle.mux_facts.proofs.Why.{is_early}
use Rattle.mux_facts.proofs.Folds.{desk_more}
use Rattle.mux_facts.proofs.Rules.{rule_more, word_more}
use Rattle.mux_facts.proofs.Words.{number_same, same_id_itself}
use Rattle.mux_history.specs.declared.cause.Cause.{Cause}
use Rattle.mux_facts.specs.mux_model.specs.Fits.{fits_behind}
use Rattle.mux_facts.proofs.Editors.{Editors}

-- no `initialize` is open, and none got a result
abbrev pub Fresh : Opening → Type 0
Fresh o = (o.initializes ≡ []) × (o.answered ≡ false)

-- this one alone is open, and none got a result
pub record Expects (initialize : List ℕ) (o : Opening) : Type 0 where
  pub id : Id
  pub params : Option Json
  pub asks : message_of initialize ≡ request id (codes "initialize") params
  pub only : o.initializes ≡ id ∷ []
  pub not_yet : o.answered ≡ false

abbrev pub Link : Phase → List ℕ → Opening → Type 0
Link Absent i o = Fresh o
Link New i o = Fresh o
Link Waiting i o = Expects i o
Link Answered i o = (o.initializes ≡ []) × (o.answered ≡ true)
Link Running i o = (o.initializes ≡ []) × (o.spoke ≡ true)
Link Down i o = (o.initializes ≡ []) × (o.spoke ≡ true)
Link Closed i o = Unit {0}
Link Gone i o = Unit {0}

abbrev pub LinkAt : Desk → Opening → Type 0
LinkAt desk o = Link desk.phase desk.initialize o

-- A message of the editor

same_initializes : (o : Opening) (m : Message) (ids : List Id) → requests (codes "initialize") m ≡ false → o.initializes ≡ ids → (opening_hears o m).initializes ≡ ids
same_initializes o m ids e h = ap (λ b. if b then with_request m o.initializes else o.initializes) e ∙ h

founds : (body : List ℕ) (o : Opening) (m : Message) → message_of body ≡ m → requests (codes "initialize") m ≡ true → Fresh o → Expects body (opening_hears o m)
founds body o (request id method params) says e h = let same : codes "initialize" ≡ method = (bytes_eq-Decides (codes "initialize") method).0 e in record {
  id = id;
  params = params;
  asks = says ∙ ap (λ z. request id z params) (sym same);
  only = ap (λ b. if b then o.initializes ++ id ∷ [] else o.initializes) e ∙ ap (λ ids. ids ++ id ∷ []) h.0;
  not_yet = h.1;
}
founds body o (notification method params) says e h = absurd (cc)
founds body o (result id r) says e h = absurd (cc)
founds body o (error id x) says e h = absurd (cc)
founds body o not_json says e h = absurd (cc)
founds body o not_message says e h = absurd (cc)

-- a message behind the result
pub speaks_now : (a b c : Bool) → b ≡ true → c ≡ false → (a || (b && not c)) ≡ true
speaks_now true b c h k = refl
speaks_now false b c h k = ap₂ (λ x y. x && not y) h k

well_formed : (a b : Bool) → not (a || b) ≡ true → a ≡ false
well_formed false b h = refl
well_formed true b h = absurd (cc)

asked_well : (m : Message) → requests (codes "shutdown") m ≡ true → is_malformed m ≡ false
asked_well (request id method params) h = refl
asked_well (notification method params) h = absurd (cc)
asked_well (result id r) h = absurd (cc)
asked_well (error id x) h = absurd (cc)
asked_well not_json h = absurd (cc)
asked_well not_message h = absurd (cc)

-- which isn't a second `initialize`
hears : (phase : Phase) (i body : List ℕ) (o : Opening) (m : Message) → message_of body ≡ m → (not (is_new phase) && requests (codes "initialize") m) ≡ false → Link phase i o → LinkAt (desk_hears phase i body m) (opening_hears o m)
hears Absent i body o m says none h = (same_initializes o m [] none h.0, h.1)
hears New i body o m says none h = go (requests (codes "initialize") m) refl
  where
    go : (b : Bool) → requests (codes "initialize") m ≡ b → LinkAt (if b then record { phase = Waiting; initialize = body } else record { phase = New; initialize = i }) (opening_hears o m)
    go true e = founds body o m says e h
    go false e = (same_initializes o m [] e h.0, h.1)
hears Waiting i body o m says none h = record { id = h.id; params = h.params; asks = h.asks; only = same_initializes o m (h.id ∷ []) none h.only; not_yet = h.not_yet }
hears Answered i body o m says none h = go (requests (codes "shutdown") m) refl (makes_running m) refl (same_initializes o m [] none h.0)
  where
    go : (a : Bool) → requests (codes "shutdown") m ≡ a → (b : Bool) → makes_running m ≡ b → (opening_hears o m).initializes ≡ [] → Link (if a then Down else if b then Running else Answered) i (opening_hears o m)
    go true shuts b runs e = (e, speaks_now o.spoke o.answered (is_malformed m) h.1 (asked_well m shuts))
    go false on true runs e = (e, speaks_now o.spoke o.answered (is_malformed m) h.1 (well_formed (is_malformed m) _ runs))
    go false on false runs e = (e, h.1)
hears Running i body o m says none h = go (requests (codes "shutdown") m) (same_initializes o m [] none h.0)
  where
    go : (a : Bool) → (opening_hears o m).initializes ≡ [] → Link (if a then Down else Running) i (opening_hears o m)
    go true e = (e, ap (λ b. b || (o.answered && not (is_malformed m))) h.1)
    go false e = (e, ap (λ b. b || (o.answered && not (is_malformed m))) h.1)
hears Down i body o m says none h = (same_initializes o m [] none h.0, ap (λ b. b || (o.answered && not (is_malformed m))) h.1)
hears Closed i body o m says none h = tt
hears Gone i body o m says none h = tt

-- A response to the editor

-- to its one `initialize`
module _ (i : List ℕ) (o : Opening) (w : Expects i o) (m : Message) (r : Json) (says : m ≡ result (Some w.id) r) where
  pub may_welcome : may_hear o m ≡ true
  may_welcome = ap (may_hear o) says ∙ ap (λ b. not (b && is_open w.id o.initializes)) w.not_yet

  pub welcomed : Link (phase_told Waiting i m) i (opening_told o m)
  welcomed = subst (λ z. Link (phase_told Waiting i z) i (opening_told o z)) (sym says)
      (subst (λ b. Link (if b then Answered else Waiting) i (opening_told o (result (Some w.id) r))) (sym (ap (has_id w.id) w.asks ∙ same_id_itself w.id))
      (ap (without (Some w.id)) w.only ∙ ap (λ b. cond (not b) (w.id ∷ []) []) (same_id_itself w.id), or_open o.answered (is_open w.id o.initializes) (ap (is_open w.id) w.only ∙ ap (λ b. b || false) (same_id_itself w.id))))
    where
      or_open : (a b : Bool) → b ≡ true → (a || b) ≡ true
      or_open true b h = refl
      or_open false b h = h

-- to another request
pub late_told : (phase : Phase) (i : List ℕ) (o : Opening) (id : Id) (m : Message) → IsResponseTo id m → is_early phase ≡ false → Link phase i o → Link (phase_told phase i m) i (opening_told o m)
late_told Absent i o id m k late h = absurd (cc)
late_told New i o id m k late h = absurd (cc)
late_told Waiting i o id m k late h = absurd (cc)
late_told Answered i o id m (is_result r e) late h = subst (λ z. Link Answered i (opening_told o z)) (sym e) (ap (without (Some id)) h.0, ap (λ b. b || is_open id o.initializes) h.1)
late_told Answered i o id m (is_error x e) late h = subst (λ z. Link Answered i (opening_told o z)) (sym e) (ap (without (Some id)) h.0, h.1)
late_told Running i o id m (is_result r e) late h = subst (λ z. Link Running i (opening_told o z)) (sym e) (ap (without (Some id)) h.0, h.1)
late_told Running i o id m (is_error x e) late h = subst (λ z. Link Running i (opening_told o z)) (sym e) (ap (without (Some id)) h.0, h.1)
late_told Down i o id m (is_result r e) late h = subst (λ z. Link Down i (opening_told o z)) (sym e) (ap (without (Some id)) h.0, h.1)
late_told Down i o id m (is_error x e) late h = subst (λ z. Link Down i (opening_told o z)) (sym e) (ap (without (Some id)) h.0, h.1)
late_told Closed i o id m k late h = tt
late_told Gone i o id m k late h = tt

pub none_open : (phase : Phase) (i : List ℕ) (o : Opening) → is_there phase ≡ true → is_early phase ≡ false → Link phase i o → o.initializes ≡ []
none_open Absent i o there late h = absurd (cc)
none_open New i o there late h = absurd (cc)
none_open Waiting i o there late h = absurd (cc)
none_open Answered i o there late h = h.0
none_open Running i o there late h = h.0
none_open Down i o there late h = h.0
none_open Closed i o there late h = absurd (cc)
none_open Gone i o there late h = absurd (cc)

pub may_answer : (o : Opening) (id : Id) (m : Message) → IsResponseTo id m → o.initializes ≡ [] → may_hear o m ≡ true
may_answer o id m (is_result r e) h = ap (may_hear o) e ∙ ap (λ ids. not (o.answered && is_open id ids)) h ∙ go o.answered
  where
    go : (b : Bool) → not (b && false) ≡ true
    go true = refl
    go false = refl
may_answer o id m (is_error x e) h = ap (may_hear o) e

-- Each editor, behind one more event

pub record Here (e : ℕ) (events : List Event) : Type 0 where
  pub always : Always ClientRule3 (editor_part e events)
  pub link : LinkAt (desk_of e events) (opening_of (editor_part e events))

abbrev pub opening : ℕ → List Event → Opening
opening e events = opening_of (editor_part e events)

pub one_more : (e : ℕ) (events : List Event) (event : Event) → Always ClientRule3 (editor_part e events) → (is_of_editor e event ≡ true → ClientRule3 (editor_part e events) event)
    → LinkAt (desk_behind e (desk_of e events) event) (cond (is_of_editor e event) (opening_behind (opening e events) event) (opening e events)) → Here e (events ++ event ∷ [])
one_more e events event h rule link = record {
  always = rule_more ClientRule3 (is_of_editor e) events event h rule;
  link = subst₂ LinkAt (sym (desk_more e events event)) (sym (word_more opening_behind (record { initializes = []; answered = false; spoke = false }) (is_of_editor e) events event)) link;
}

pub pick : (b : Bool) (x y : Desk) (v w : Opening) → (b ≡ true → LinkAt x v) → LinkAt y w → LinkAt (if b then x else y) (cond b v w)
pick true x y v w f g = f refl
pick false x y v w f g = g

pub pick_desk : (b : Bool) (x y : Desk) (w : Opening) → (b ≡ true → LinkAt x w) → LinkAt y w → LinkAt (if b then x else y) w
pick_desk true x y w f g = f refl
pick_desk false x y w f g = g

-- a second `initialize` of an editor: a request of this method by one that isn't new
abbrev pub asks_again : List Event → Cause → ℕ → Bool
asks_again before (FromEditor n body) e = nat_eq n e && (not (is_new (desk_of n before).phase) && requests (codes "initialize") (message_of body))
asks_again before other e = false

from_editor : (events : List Event) (n : ℕ) (body : List ℕ) (e : ℕ) → asks_again events (FromEditor n body) e ≡ false → Here e events → Here e (events ++ took (FromEditor n body) (message_of body) ∷ [])
from_editor events n body e none h = one_more e events (took (FromEditor n body) (message_of body)) h.always (λ same. tt)
    (pick (nat_eq n e) (desk_hears (desk_of e events).phase (desk_of e events).initialize body (message_of body)) (desk_of e events) (opening_hears (opening e events) (message_of body)) (opening e events)
    (λ same. hears (desk_of e events).phase (desk_of e events).initialize body (opening e events) (message_of body) refl
    (subst (λ k. (not (is_new (desk_of k events).phase) && requests (codes "initialize") (message_of body)) ≡ false) (number_same n e same)
    (ap (λ b. b && (not (is_new (desk_of n events).phase) && requests (codes "initialize") (message_of body))) (sym same) ∙ none)) h.link) h.link)

-- each editor but one that asks again
pub took_it : (before : List Event) (cause : Cause) → fits_behind before cause ≡ true → Editors before → (e : ℕ) → asks_again before cause e ≡ false → Here e before → Here e (with_cause before cause)
took_it events (Joined n) fits none e once h = one_more e events (took (Joined n) not_message) h.always (λ same. tt) (pick_desk (nat_eq n e) (record { phase = New; initialize = [] }) (desk_of e events) (opening e events)
    (λ same. subst (λ z. Link z (desk_of e events).initialize (opening e events)) (none e (omega (arith, number_same n e same, number_same n (editors_of events) fits))) h.link) h.link)
took_it events (FromEditor n body) fits none e once h = from_editor events n body e once h
took_it events (EditorGone n why) fits none e once h = one_more e events (took (EditorGone n why) not_message) h.always (λ same. tt)
    (pick (nat_eq n e) (record { phase = Gone; initialize = (desk_of e events).initialize }) (desk_of e events) (opening e events) (opening e events) (λ same. tt) h.link)
took_it events cause fits none e once h = one_more e events (heard cause) h.always (λ same. tt) h.link

pub same_request : {i k : Id} {m : List ℕ} {p q : Option Json} → request i m p ≡ request k m q → i ≡ k
same_request h = cc

pub closed_link : (phase : Phase) (initialize : List ℕ) (o : Opening) → Link (phase_closed phase) initialize o
closed_link Gone initialize o = tt
closed_link other initialize o = tt
