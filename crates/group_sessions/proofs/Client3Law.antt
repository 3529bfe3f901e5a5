-- An editor hears nothing but responses before its session is open, and one `initialize` of it gets a result.
use Rattle.std.proofs.Common.{◌≡◌, ℕ, Bool, true, false, not, ◌&&◌, ◌||◌, cond, List, [], ◌∷◌, ◌++◌, nat_eq, codes, decimal, if◌then◌else◌, Option, None, Some, refl, sym, ◌∙◌, ap, subst, subst₂}
use Rattle.json_text.specs.Json.{Json}
use Rattle.mux_history.specs.declared.cause.Cause.{Cause}
use Rattle.mux_history.specs.declared.entry.Entry.{Entry}
use Rattle.mux_history.specs.declared.out.Out.TheVariants.{ToEditor, ToServer, CloseEditor, EndServer, Spawn}
use Rattle.rpc_message.specs.Message.{Message, request, notification, result, error, integer, not_json, not_message, Id, message_of}
use Rattle.event_model.specs.declared.phase.Phase.{Phase}
use Rattle.event_model.specs.declared.phase.Phase.TheVariants.{Absent, New, Waiting, Answered, Running, Down, Closed, Gone}
use Rattle.event_model.specs.Event.{Event, behind, said, same_id, with_cause}
use Rattle.event_model.specs.Always.{Always}
use Rattle.event_model.specs.Parts.{editor_part, is_of_editor}
use Rattle.event_model.specs.Phases.{Desk, desk_of, desk_behind, has_id, is_new, is_there, phase_closed, phase_told}
use Rattle.event_model.specs.Requests.{answered_id, is_open, open_behind, open_of, without}
use Rattle.event_model.specs.Settings.{Settings}
use Rattle.event_model.specs.Spawns.{starts_of}
use Rattle.mux_model.specs.Fits.{fits_behind}
use Rattle.mux_facts.specs.Ranges.{InRange}
use Rattle.mux_facts.proofs.Bodies.{IsResponseTo}
use Rattle.mux_facts.proofs.Folds.{desk_more, opens_more}
use Rattle.mux_facts.proofs.Rules.{rule_more, word_more}
use Rattle.mux_facts.proofs.Waits.{AllWaiting, WaitsAt, WaitsIf}
use Rattle.mux_facts.proofs.Why.{is_early}
use Rattle.mux_facts.proofs.Words.{id_same, number_same}
use Rattle.session_laws.specs.ClientRules.{ClientRule3, KeepsClient3, Opening, may_hear, opening_behind, opening_told}
use Rattle.session_laws.proofs.Client3Law as client_3
use Rattle.session_laws.proofs.Client3Law.{Expects, Link, LinkAt, asks_again, closed_link, late_told, may_answer, may_welcome, none_open, opening, same_request, took_it, welcomed}
use Rattle.group_rows.specs.Rows.{outs_of}
use Rattle.group_rows.specs.Tokens.{listens}
use Rattle.group_facts.specs.Facts.{Asks}
use Rattle.group_facts.specs.Legal.{Legal}
use Rattle.group_facts.specs.Why.{IsBeside, WhyToEditor, calls, rejects, resumes, refuses, answers, turns_away, welcomes, passes, asks, recalls, shows, spreads, progresses, loses, winds_up, pays}
use Rattle.group_facts.proofs.RestLaws.{RestLaw, rest_holds}
use Rattle.group_rows.proofs.Versions.{AllMeant}
use Rattle.group_sessions.proofs.Again.{again_rests}
use Rattle.session_laws.proofs.Client2Law.{is_own_word}
use Rattle.group_rows.specs.Asks.{next_ask}
use Rattle.group_sessions.proofs.Client2Law.{response_to}
use Rattle.group_facts.proofs.SlowRow.{quit_again}

-- Ids that were answered

either : (a b : Bool) → b ≡ true → (a || b) ≡ true
either true b h = refl
either false b h = h

open_before : (k : Option Id) (i : Id) (ids : List Id) → is_open i (without k ids) ≡ true → is_open i ids ≡ true
open_before None i ids h = h
open_before (Some k) i [] h = h
open_before (Some k) i (x ∷ ids) h = go (same_id k x) (λ e. open_before (Some k) i ids e) h
  where
    later : (c : Bool) → (is_open i (without (Some k) ids) ≡ true → is_open i ids ≡ true) → (c || is_open i (without (Some k) ids)) ≡ true → (c || is_open i ids) ≡ true
    later true f e = refl
    later false f e = f e

    go : (b : Bool) → (is_open i (without (Some k) ids) ≡ true → is_open i ids ≡ true) → is_open i (cond (not b) (x ∷ without (Some k) ids) (without (Some k) ids)) ≡ true → (same_id i x || is_open i ids) ≡ true
    go true f e = either (same_id i x) (is_open i ids) (f e)
    go false f e = later (same_id i x) f e

closed_after : (i : Id) (ids : List Id) → is_open i (without (Some i) ids) ≡ false
closed_after i [] = refl
closed_after i (x ∷ ids) = go (same_id i x) refl (closed_after i ids)
  where
    go : (b : Bool) → same_id i x ≡ b → is_open i (without (Some i) ids) ≡ false → is_open i (cond (not b) (x ∷ without (Some i) ids) (without (Some i) ids)) ≡ false
    go true e h = h
    go false e h = ap (λ d. d || is_open i (without (Some i) ids)) e ∙ h

-- what stays open is another id
open_alone : (k : Option Id) (i : Id) (ids : List Id) → is_open i (without k ids) ≡ true → without k (i ∷ []) ≡ i ∷ []
open_alone None i ids h = refl
open_alone (Some k) i ids h = go (same_id k i) refl
  where
    go : (b : Bool) → same_id k i ≡ b → cond (not b) (i ∷ []) [] ≡ i ∷ []
    go true e = absurd (let same : k ≡ i = id_same k i e in let closed : is_open i (without (Some k) ids) ≡ false = ap (λ z. is_open i (without (Some z) ids)) same ∙ closed_after i ids in cc)
    go false e = refl

none_without : (k : Option Id) (ids : List Id) → ids ≡ [] → without k ids ≡ []
none_without None ids h = h
none_without (Some k) ids h = ap (without (Some k)) h

-- An error to an editor leaves the tie, where its `initialize` stays open while it waits

error_link : (phase : Phase) (i : List ℕ) (ids : List Id) (o : Opening) (k : Option Id) (x : Json) → (WaitsIf phase i ids → Link phase i o) → WaitsIf (phase_told phase i (error k x)) i (without k ids) → Link (phase_told phase i (error k x)) i (opening_told o (error k x))
error_link Absent i ids o k x h w = (none_without k o.initializes (h tt).0, (h tt).1)
error_link New i ids o k x h w = (none_without k o.initializes (h tt).0, (h tt).1)
error_link Waiting i ids o k x h w =
    let f : Expects i o = h (record { id = w.id; params = w.params; asks = w.asks; waits = open_before k w.id ids w.waits }) in
    let same : f.id ≡ w.id = same_request (sym f.asks ∙ w.asks) in
    record { id = f.id; params = f.params; asks = f.asks; only = ap (without k) f.only ∙ open_alone k f.id ids (ap (λ z. is_open z (without k ids)) same ∙ w.waits); not_yet = f.not_yet }
error_link Answered i ids o k x h w = (none_without k o.initializes (h tt).0, (h tt).1)
error_link Running i ids o k x h w = (none_without k o.initializes (h tt).0, (h tt).1)
error_link Down i ids o k x h w = (none_without k o.initializes (h tt).0, (h tt).1)
error_link Closed i ids o k x h w = tt
error_link Gone i ids o k x h w = tt

-- A result for another request than the `initialize` of an editor that waits

record IsApart (initialize : List ℕ) (id : Id) : Type 0 where
  first : Id
  params : Option Json
  asks : message_of initialize ≡ request first (codes "initialize") params
  other : same_id id first ≡ false

abbrev Apart : Phase → List ℕ → Id → Type 0
Apart Waiting i id = IsApart i id
Apart phase i id = Unit {0}

not_both : (b : Bool) → not (b && false) ≡ true
not_both true = refl
not_both false = refl

none_may : (o : Opening) (id : Id) → o.initializes ≡ [] → not (o.answered && is_open id o.initializes) ≡ true
none_may o id h = ap (λ ids. not (o.answered && is_open id ids)) h ∙ not_both o.answered

may_reply : (phase : Phase) (i : List ℕ) (o : Opening) (id : Id) (r : Json) → is_there phase ≡ true → Apart phase i id → Link phase i o → may_hear o (result (Some id) r) ≡ true
may_reply New i o id r there apart h = none_may o id h.0
may_reply Waiting i o id r there apart h = ap (λ b. not (b && is_open id o.initializes)) h.not_yet
may_reply Answered i o id r there apart h = none_may o id h.0
may_reply Running i o id r there apart h = none_may o id h.0
may_reply Down i o id r there apart h = none_may o id h.0
may_reply Absent i o id r there apart h = absurd (cc)
may_reply Closed i o id r there apart h = absurd (cc)
may_reply Gone i o id r there apart h = absurd (cc)

none_answered : (o : Opening) (id : Id) → o.initializes ≡ [] → o.answered ≡ false → (o.answered || is_open id o.initializes) ≡ false
none_answered o id h g = ap (λ b. b || is_open id o.initializes) g ∙ ap (is_open id) h

reply_waiting : (i : List ℕ) (o : Opening) (id : Id) (r : Json) → IsApart i id → Expects i o → Link (phase_told Waiting i (result (Some id) r)) i (opening_told o (result (Some id) r))
reply_waiting i o id r apart h = subst (λ b. Link (if b then Answered else Waiting) i (opening_told o (result (Some id) r))) (sym (ap (has_id id) apart.asks ∙ apart.other))
    (record { id = h.id; params = h.params; asks = h.asks; only = ap (without (Some id)) h.only ∙ ap (λ b. cond (not b) (h.id ∷ []) []) other; not_yet = ap (λ b. b || is_open id o.initializes) h.not_yet ∙ ap (is_open id) h.only ∙ ap (λ b. b || false) other })
  where
    other : same_id id h.id ≡ false
    other = ap (same_id id) (same_request (sym h.asks ∙ apart.asks)) ∙ apart.other

reply_link : (phase : Phase) (i : List ℕ) (o : Opening) (id : Id) (r : Json) → Apart phase i id → Link phase i o → Link (phase_told phase i (result (Some id) r)) i (opening_told o (result (Some id) r))
reply_link Absent i o id r apart h = (ap (without (Some id)) h.0, none_answered o id h.0 h.1)
reply_link New i o id r apart h = (ap (without (Some id)) h.0, none_answered o id h.0 h.1)
reply_link Waiting i o id r apart h = reply_waiting i o id r apart h
reply_link Answered i o id r apart h = (ap (without (Some id)) h.0, ap (λ b. b || is_open id o.initializes) h.1)
reply_link Running i o id r apart h = (ap (without (Some id)) h.0, h.1)
reply_link Down i o id r apart h = (ap (without (Some id)) h.0, h.1)
reply_link Closed i o id r apart h = tt
reply_link Gone i o id r apart h = tt

late_waits : (phase : Phase) (i : List ℕ) (ids : List Id) → is_early phase ≡ false → WaitsIf phase i ids
late_waits Waiting i ids late = absurd (cc)
late_waits Absent i ids late = tt
late_waits New i ids late = tt
late_waits Answered i ids late = tt
late_waits Running i ids late = tt
late_waits Down i ids late = tt
late_waits Closed i ids late = tt
late_waits Gone i ids late = tt

-- Each editor, behind one more event

-- the rule holds; and what it heard is tied to its phase, where its `initialize` is open while it waits: one that is turned away waits until it is closed
record Here (e : ℕ) (events : List Event) : Type 0 where
  always : Always ClientRule3 (editor_part e events)
  link : WaitsAt (desk_of e events) (open_of e events) → LinkAt (desk_of e events) (opening e events)

abbrev Everywhere : List Event → Type 0
Everywhere events = (e : ℕ) → Here e events

-- inside of an entry, each editor but one that sent a second `initialize` in it
abbrev Within : List Event → Cause → List Event → Type 0
Within before cause events = (e : ℕ) → asks_again before cause e ≡ false → Here e events

one_more : (e : ℕ) (events : List Event) (event : Event) → Here e events → (is_of_editor e event ≡ true → ClientRule3 (editor_part e events) event)
    → (WaitsAt (desk_behind e (desk_of e events) event) (open_behind e (open_of e events) event) → LinkAt (desk_behind e (desk_of e events) event) (cond (is_of_editor e event) (opening_behind (opening e events) event) (opening e events)))
    → Here e (events ++ event ∷ [])
one_more e events event h rule link = record {
  always = rule_more ClientRule3 (is_of_editor e) events event h.always rule;
  link = λ waits. subst₂ LinkAt (sym (desk_more e events event)) (sym (word_more opening_behind (record { initializes = []; answered = false; spoke = false }) (is_of_editor e) events event))
      (link (subst₂ WaitsAt (desk_more e events event) (opens_more e events event) waits));
}

-- between entries each editor that waits has its `initialize` open
now : (e : ℕ) (events : List Event) → AllWaiting events → Here e events → client_3.Here e events
now e events waits h = record { always = h.always; link = h.link (waits e) }

later : (e : ℕ) (events : List Event) → client_3.Here e events → Here e events
later e events h = record { always = h.always; link = λ waits. h.link }

-- A body to an editor

pick : (b : Bool) (x y : Desk) (p q : List Id) (v w : Opening) → (b ≡ true → WaitsAt x p → LinkAt x v) → (WaitsAt y q → LinkAt y w) → WaitsAt (if b then x else y) (if b then p else q) → LinkAt (if b then x else y) (cond b v w)
pick true x y p q v w f g h = f refl h
pick false x y p q v w f g h = g h

module _ (events : List Event) (n : ℕ) (body : List ℕ) where
  -- the tie of n behind this message
  abbrev Told : ℕ → Message → Type 0
  Told k m = WaitsIf (phase_told (desk_of k events).phase (desk_of k events).initialize m) (desk_of k events).initialize (without (answered_id m) (open_of k events)) → Link (phase_told (desk_of k events).phase (desk_of k events).initialize m) (desk_of k events).initialize (opening_told (opening k events) m)

  -- n may hear it, and is tied behind it
  record Heard : Type 0 where
    may : may_hear (opening n events) (message_of body) ≡ true
    link : Told n (message_of body)

  to_editor : (e : ℕ) → (Here n events → Heard) → Here e events → Here e (events ++ said (ToEditor n body) ∷ [])
  to_editor e f h = one_more e events (said (ToEditor n body)) h (λ same. subst (λ k. may_hear (opening k events) (message_of body) ≡ true) (number_same n e same) (heard same).may)
      (pick (nat_eq n e) (record { phase = phase_told (desk_of e events).phase (desk_of e events).initialize (message_of body); initialize = (desk_of e events).initialize }) (desk_of e events)
      (without (answered_id (message_of body)) (open_of e events)) (open_of e events) (opening_told (opening e events) (message_of body)) (opening e events)
      (λ same. subst (λ k. Told k (message_of body)) (number_same n e same) (heard same).link) h.link)
    where
      heard : nat_eq n e ≡ true → Heard
      heard same = f (subst (λ k. Here k events) (sym (number_same n e same)) h)

  error_told : (k : Option Id) (x : Json) → message_of body ≡ error k x → Here n events → Heard
  error_told k x says h = record {
    may = ap (may_hear (opening n events)) says;
    link = subst (Told n) (sym says) (error_link (desk_of n events).phase (desk_of n events).initialize (open_of n events) (opening n events) k x h.link);
  }

  welcome_told : (id : Id) (params : Option Json) (r : Json) → (desk_of n events).phase ≡ Waiting → message_of (desk_of n events).initialize ≡ request id (codes "initialize") params → is_open id (open_of n events) ≡ true → message_of body ≡ result (Some id) r
      → Here n events → Heard
  welcome_told id params r at names waits says h =
      let w : Expects (desk_of n events).initialize (opening n events) = subst (λ z. Link z (desk_of n events).initialize (opening n events)) at
      (h.link (subst (λ z. WaitsIf z (desk_of n events).initialize (open_of n events)) (sym at) (record { id = id; params = params; asks = names; waits = waits }))) in
      let result_is : message_of body ≡ result (Some w.id) r = says ∙ ap (λ z. result (Some z) r) (same_request (sym names ∙ w.asks)) in
      record {
        may = may_welcome (desk_of n events).initialize (opening n events) w (message_of body) r result_is;
        link = λ left. subst (λ z. Link (phase_told z (desk_of n events).initialize (message_of body)) (desk_of n events).initialize (opening_told (opening n events) (message_of body))) (sym at)
            (welcomed (desk_of n events).initialize (opening n events) w (message_of body) r result_is);
      }

  answer_told : (id : Id) → is_there (desk_of n events).phase ≡ true → is_early (desk_of n events).phase ≡ false → IsResponseTo id (message_of body) → Here n events → Heard
  answer_told id there late response h =
      let link : LinkAt (desk_of n events) (opening n events) = h.link (late_waits (desk_of n events).phase (desk_of n events).initialize (open_of n events) late) in
      record {
        may = may_answer (opening n events) id (message_of body) response (none_open (desk_of n events).phase (desk_of n events).initialize (opening n events) there late link);
        link = λ left. late_told (desk_of n events).phase (desk_of n events).initialize (opening n events) id (message_of body) response late link;
      }

  reply_told : (id : Id) (r : Json) → is_there (desk_of n events).phase ≡ true → ((desk_of n events).phase ≡ Waiting → IsBeside events n id) → message_of body ≡ result (Some id) r → Here n events → Heard
  reply_told id r there others says h =
      let waits : WaitsIf (desk_of n events).phase (desk_of n events).initialize (open_of n events) = beside_waits (desk_of n events).phase refl (λ at. others at) in
      let apart : Apart (desk_of n events).phase (desk_of n events).initialize id = beside_apart (desk_of n events).phase refl (λ at. others at) in
      let link : LinkAt (desk_of n events) (opening n events) = h.link waits in
      record {
        may = ap (may_hear (opening n events)) says ∙ may_reply (desk_of n events).phase (desk_of n events).initialize (opening n events) id r there apart link;
        link = λ left. subst (λ m. Link (phase_told (desk_of n events).phase (desk_of n events).initialize m) (desk_of n events).initialize (opening_told (opening n events) m)) (sym says)
            (reply_link (desk_of n events).phase (desk_of n events).initialize (opening n events) id r apart link);
      }
    where
      beside_waits : (phase : Phase) → (desk_of n events).phase ≡ phase → (phase ≡ Waiting → IsBeside events n id) → WaitsIf phase (desk_of n events).initialize (open_of n events)
      beside_waits Waiting at f = let k : IsBeside events n id = f refl in record { id = k.first; params = (k.waiting).params; asks = (k.waiting).asks; waits = (k.waiting).waits }
      beside_waits Absent at f = tt
      beside_waits New at f = tt
      beside_waits Answered at f = tt
      beside_waits Running at f = tt
      beside_waits Down at f = tt
      beside_waits Closed at f = tt
      beside_waits Gone at f = tt

      beside_apart : (phase : Phase) → (desk_of n events).phase ≡ phase → (phase ≡ Waiting → IsBeside events n id) → Apart phase (desk_of n events).initialize id
      beside_apart Waiting at f = let k : IsBeside events n id = f refl in record { first = k.first; params = (k.waiting).params; asks = (k.waiting).asks; other = k.other }
      beside_apart Absent at f = tt
      beside_apart New at f = tt
      beside_apart Answered at f = tt
      beside_apart Running at f = tt
      beside_apart Down at f = tt
      beside_apart Closed at f = tt
      beside_apart Gone at f = tt

  -- a request or a notification, to an editor that runs or is down
  progress_told : (m : Message) → listens (desk_of n events).phase ≡ true → message_of body ≡ m → is_own_word m ≡ true → Here n events → Heard
  progress_told m hears says own h = go (desk_of n events).phase refl hears
    where
      any_time : (m : Message) → is_own_word m ≡ true → may_hear (opening n events) m ≡ (opening n events).spoke
      any_time (request id method params) own = refl
      any_time (notification method params) own = refl
      any_time (result id r) own = absurd (cc)
      any_time (error id x) own = absurd (cc)
      any_time not_json own = absurd (cc)
      any_time not_message own = absurd (cc)

      untold : (m : Message) → is_own_word m ≡ true → opening_told (opening n events) m ≡ opening n events
      untold (request id method params) own = refl
      untold (notification method params) own = refl
      untold (result id r) own = absurd (cc)
      untold (error id x) own = absurd (cc)
      untold not_json own = absurd (cc)
      untold not_message own = absurd (cc)

      by_link : (p : Phase) → (desk_of n events).phase ≡ p → is_early p ≡ false → (Link p (desk_of n events).initialize (opening n events) → ((opening n events).initializes ≡ []) × ((opening n events).spoke ≡ true))
          → (((opening n events).initializes ≡ []) × ((opening n events).spoke ≡ true) → Link p (desk_of n events).initialize (opening n events)) → ((i : List ℕ) → phase_told p i (message_of body) ≡ p) → Heard
      by_link p at late out back stays =
          let link : ((opening n events).initializes ≡ []) × ((opening n events).spoke ≡ true) = out (subst (λ z. Link z (desk_of n events).initialize (opening n events)) at
          (h.link (late_waits (desk_of n events).phase (desk_of n events).initialize (open_of n events) (ap is_early at ∙ late)))) in
          record {
            may = ap (may_hear (opening n events)) says ∙ any_time m own ∙ link.1;
            link = λ left. subst₂ (λ q o. Link q (desk_of n events).initialize o) (sym (ap (λ q. phase_told q (desk_of n events).initialize (message_of body)) at ∙ stays (desk_of n events).initialize)) (sym (ap (opening_told (opening n events)) says ∙ untold m own)) (back link);
          }

      go : (p : Phase) → (desk_of n events).phase ≡ p → listens p ≡ true → Heard
      go Running at k = by_link Running at refl (λ l. l) (λ l. l) (λ i. refl)
      go Down at k = by_link Down at refl (λ l. l) (λ l. l) (λ i. refl)
      go Absent at k = absurd (cc)
      go New at k = absurd (cc)
      go Waiting at k = absurd (cc)
      go Answered at k = absurd (cc)
      go Closed at k = absurd (cc)
      go Gone at k = absurd (cc)

  asked_told : (m : Message) → (desk_of n events).phase ≡ Running → message_of body ≡ m → is_own_word m ≡ true → Here n events → Heard
  asked_told m running says own h = progress_told m (ap listens running) says own h

  heard_it : (settings : Settings) (before : List Event) (cause : Cause) → WhyToEditor settings before cause events n body → Here n events → Heard
  heard_it settings before cause (rejects k) h = error_told None k.x k.says h
  heard_it settings before cause (refuses k) h = error_told (Some k.id) k.x k.says h
  heard_it settings before cause (loses k) h = error_told (Some k.id) k.x k.says h
  heard_it settings before cause (answers k) h = reply_told k.id k.r k.there k.others k.says h
  heard_it settings before cause (turns_away k) h = error_told (Some k.id) k.x k.says h
  heard_it settings before cause (welcomes k) h = welcome_told k.id (k.waiting).params k.r (k.waiting).phase (k.waiting).asks (k.waiting).waits k.says h
  heard_it settings before cause (asks k) h = asked_told (request (integer (decimal (next_ask n events))) k.method k.params) (k.source).running k.says refl h
  heard_it settings before cause (resumes k) h = asked_told (request (integer (decimal (next_ask n events))) k.method k.params) k.running k.says refl h
  heard_it settings before cause (pays k) h = asked_told (request (integer (decimal (next_ask n events))) (k.debt).method k.params) k.running k.says refl h
  heard_it settings before cause (calls k) h = asked_told (request (integer (decimal (next_ask n events))) k.method k.params) k.running k.says refl h
  heard_it settings before cause (spreads k) h = asked_told (notification k.method k.params) (k.source).running k.says refl h
  heard_it settings before cause (recalls k) h = asked_told (notification (codes "$/cancelRequest") (Some k.params)) (k.source).running k.says refl h
  heard_it settings before cause (progresses k) h = progress_told (notification k.method k.params) k.hears k.says refl h
  heard_it settings before cause (shows k) h = asked_told (notification k.method k.params) k.running k.says refl h
  heard_it settings before cause (winds_up k) h = asked_told (notification k.method (Some k.params)) k.running k.says refl h
  heard_it settings before cause (passes k) h = answer_told k.id k.there k.late (response_to k.id (message_of body) k.response k.answers) h

-- Other outs

pick_closed : (b : Bool) (x y : Desk) (p : List Id) (v : Opening) → LinkAt x v → (WaitsAt y p → LinkAt y v) → WaitsAt (if b then x else y) p → LinkAt (if b then x else y) (cond b v v)
pick_closed true x y p v f g h = f
pick_closed false x y p v f g h = g h

closed : (events : List Event) (n e : ℕ) → Here e events → Here e (events ++ said (CloseEditor n) ∷ [])
closed events n e h = one_more e events (said (CloseEditor n)) h (λ same. tt)
    (pick_closed (nat_eq n e) (record { phase = phase_closed (desk_of e events).phase; initialize = (desk_of e events).initialize }) (desk_of e events) (open_of e events) (opening e events)
    (closed_link (desk_of e events).phase (desk_of e events).initialize (opening e events)) h.link)

-- Behind the entry the one that sent it is tied as well

rests : (settings : Settings) (before : List Event) (cause : Cause) → Asks settings before → AllMeant before → fits_behind before cause ≡ true → AllWaiting before → Everywhere before → Within before cause (behind (with_cause before cause) (outs_of settings before cause))
    → Everywhere (behind (with_cause before cause) (outs_of settings before cause))
rests settings before cause everywhere meant fits waiting h i e = go (asks_again before cause e) refl
  where
    go : (b : Bool) → asks_again before cause e ≡ b → Here e (behind (with_cause before cause) (outs_of settings before cause))
    go true again = later e (behind (with_cause before cause) (outs_of settings before cause)) (again_rests settings before cause e everywhere meant fits waiting again (now e before waiting (h e)))
    go false other = i e other

law : (settings : Settings) → RestLaw settings Everywhere Within
law settings = record {
  took = λ before cause fits known h. λ e other. later e (with_cause before cause) (took_it before cause fits (known.steady).editors e other (now e before known.waiting (h e)));
  to_editor = λ before cause events n body why known here h i. λ e other. to_editor events n body e (heard_it events n body settings before cause why) (i e other);
  to_server = λ before cause events s body why known here h i. λ e other. one_more e events (said (ToServer s body)) (i e other) (λ same. absurd (cc)) (i e other).link;
  close = λ before cause events n turned there known here h i. λ e other. closed events n e (i e other);
  end = λ before cause events s starting known here h i. λ e other. one_more e events (said (EndServer s)) (i e other) (λ same. tt) (i e other).link;
  spawn = λ before cause events g inside known here h i. λ e other. one_more e events (said (Spawn (starts_of events) g)) (i e other) (λ same. tt) (i e other).link;
  rest = λ before cause fits known h i. rests settings before cause (known.steady).asks (known.base).meant fits known.waiting h i;
  turn = λ place e slow known h. λ n other. h n;
  left = λ place e slow known h i. λ n. i n (quit_again e n (not (is_new (desk_of e place).phase)));
}

pub client_3_law : (settings : Settings) → InRange settings → (history : List Entry) → Legal settings history → KeepsClient3 history
client_3_law settings range history legal e = (rest_holds settings range Everywhere Within (law settings) (λ n. record { always = tt; link = λ waits. (refl, refl) }) history legal e).always
