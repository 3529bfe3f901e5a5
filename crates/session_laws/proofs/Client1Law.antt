-- Nothing goes to an editor whose link ended, or was to be ended.
use Rattle.std.proofs.Common.{◌≡◌, ℕ, Bool, true, false, not, cond, List, [], ◌∷◌, ◌++◌, nat_eq, codes, if◌then◌else◌, refl, sym, ap, subst, subst₂, Some, None, arith}
use Rattle.mux_history.specs.declared.cause.Cause.{Cause}
use Rattle.mux_history.specs.declared.cause.Cause.TheVariants.{FromEditor, Joined, EditorGone}
use Rattle.mux_history.specs.declared.out.Out.TheVariants.{ToEditor, ToServer, Spawn, CloseEditor, EndServer}
use Rattle.rpc_message.specs.Message.{Message, result, request, notification, error, not_json, not_message, message_of}
use Rattle.event_model.specs.declared.phase.Phase.{Phase}
use Rattle.event_model.specs.declared.phase.Phase.TheVariants.{Absent, New, Waiting, Answered, Running, Down, Closed, Gone}
use Rattle.event_model.specs.Event.{Event, took, requests, heard, said, with_cause}
use Rattle.event_model.specs.Phases.{Desk, desk_of, desk_behind, desk_hears, has_id, phase_told, is_there, makes_running, phase_closed, editors_of}
use Rattle.event_model.specs.Always.{Always}
use Rattle.event_model.specs.Parts.{editor_part, is_of_editor}
use Rattle.mux_facts.specs.mux_model.specs.Fits.{fits_behind}
use Rattle.mux_facts.proofs.Editors.{Editors}
use Rattle.mux_facts.proofs.Folds.{desk_more}
use Rattle.mux_facts.proofs.Rules.{rule_more, word_more}
use Rattle.mux_facts.proofs.Words.{number_same}
use Rattle.session_laws.specs.ClientRules.{ClientRule1, ended_behind, is_over}

-- its link is as its phase says, where the phase isn't behind the end
abbrev pub Link : Phase → Bool → Type 0
Link Closed over = Unit {0}
Link Gone over = Unit {0}
Link other over = over ≡ false

abbrev pub LinkAt : Desk → Bool → Type 0
LinkAt desk over = Link desk.phase over

-- the rule holds of e's part, and its link is as its phase says
pub record Here (e : ℕ) (events : List Event) : Type 0 where
  pub always : Always ClientRule1 (editor_part e events)
  pub link : LinkAt (desk_of e events) (is_over (editor_part e events))

abbrev pub Everywhere : List Event → Type 0
Everywhere events = (e : ℕ) → Here e events

pub one_more : (e : ℕ) (events : List Event) (event : Event) → Here e events → (is_of_editor e event ≡ true → ClientRule1 (editor_part e events) event)
    → LinkAt (desk_behind e (desk_of e events) event) (cond (is_of_editor e event) (ended_behind (is_over (editor_part e events)) event) (is_over (editor_part e events))) → Here e (events ++ event ∷ [])
one_more e events event h rule link = record {
  always = rule_more ClientRule1 (is_of_editor e) events event h.always rule;
  link = subst₂ LinkAt (sym (desk_more e events event)) (sym (word_more ended_behind false (is_of_editor e) events event)) link;
}

-- an event that leaves the link
pick : (b : Bool) (x y : Desk) (over : Bool) → LinkAt x over → LinkAt y over → LinkAt (if b then x else y) (cond b over over)
pick true x y over h g = h
pick false x y over h g = g

pick_desk : (b : Bool) (x y : Desk) (over : Bool) → (b ≡ true → LinkAt x over) → LinkAt y over → LinkAt (if b then x else y) over
pick_desk true x y over f g = f refl
pick_desk false x y over f g = g

-- an event that ends it
pick_end : (b : Bool) (x y : Desk) (over : Bool) → LinkAt x true → LinkAt y over → LinkAt (if b then x else y) (cond b true over)
pick_end true x y over h g = h
pick_end false x y over h g = g

two_phases : (b : Bool) (x y : Phase) (over : Bool) → Link x over → Link y over → Link (if b then x else y) over
two_phases true x y over h g = h
two_phases false x y over h g = g

two_desks : (b : Bool) (x y : Desk) (over : Bool) → LinkAt x over → LinkAt y over → LinkAt (if b then x else y) over
two_desks true x y over h g = h
two_desks false x y over h g = g

hears : (phase : Phase) (i body : List ℕ) (m : Message) (over : Bool) → Link phase over → LinkAt (desk_hears phase i body m) over
hears Absent i body m over h = h
hears New i body m over h = two_desks (requests (codes "initialize") m) (record { phase = Waiting; initialize = body }) (record { phase = New; initialize = i }) over h h
hears Waiting i body m over h = h
hears Answered i body m over h = two_phases (requests (codes "shutdown") m) Down (if makes_running m then Running else Answered) over h (two_phases (makes_running m) Running Answered over h h)
hears Running i body m over h = two_phases (requests (codes "shutdown") m) Down Running over h h
hears Down i body m over h = h
hears Closed i body m over h = tt
hears Gone i body m over h = tt

told : (phase : Phase) (i : List ℕ) (m : Message) (over : Bool) → Link phase over → Link (phase_told phase i m) over
told Waiting i (result (Some id) r) over h = two_phases (has_id id (message_of i)) Answered Waiting over h h
told Waiting i (result None r) over h = h
told Waiting i (request id method params) over h = h
told Waiting i (notification method params) over h = h
told Waiting i (error id x) over h = h
told Waiting i not_json over h = h
told Waiting i not_message over h = h
told Absent i m over h = h
told New i m over h = h
told Answered i m over h = h
told Running i m over h = h
told Down i m over h = h
told Closed i m over h = tt
told Gone i m over h = tt

closed : (phase : Phase) (over : Bool) → Link (phase_closed phase) over
closed Gone over = tt
closed other over = tt

not_over : (phase : Phase) (over : Bool) → is_there phase ≡ true → Link phase over → not over ≡ true
not_over New over there h = ap not h
not_over Waiting over there h = ap not h
not_over Answered over there h = ap not h
not_over Running over there h = ap not h
not_over Down over there h = ap not h
not_over Absent over there h = absurd (cc)
not_over Closed over there h = absurd (cc)
not_over Gone over there h = absurd (cc)

-- At a cause

pub took_it : (before : List Event) (cause : Cause) → fits_behind before cause ≡ true → Editors before → Everywhere before → Everywhere (with_cause before cause)
took_it events (Joined n) fits none h e = one_more e events (took (Joined n) not_message) (h e) (λ same. tt)
    (pick_desk (nat_eq n e) (record { phase = New; initialize = [] }) (desk_of e events) (is_over (editor_part e events))
    (λ same. subst (λ z. Link z (is_over (editor_part e events))) (none e (omega (arith, number_same n e same, number_same n (editors_of events) fits))) (h e).link) (h e).link)
took_it events (FromEditor n body) fits none h e = one_more e events (took (FromEditor n body) (message_of body)) (h e) (λ same. tt)
    (pick (nat_eq n e) (desk_hears (desk_of e events).phase (desk_of e events).initialize body (message_of body)) (desk_of e events) (is_over (editor_part e events))
    (hears (desk_of e events).phase (desk_of e events).initialize body (message_of body) (is_over (editor_part e events)) (h e).link) (h e).link)
took_it events (EditorGone n why) fits none h e = one_more e events (took (EditorGone n why) not_message) (h e) (λ same. tt)
    (pick_end (nat_eq n e) (record { phase = Gone; initialize = (desk_of e events).initialize }) (desk_of e events) (is_over (editor_part e events)) tt (h e).link)
took_it events cause fits none h e = one_more e events (heard cause) (h e) (λ same. tt) (h e).link

-- At an out

-- a body to an editor that is there
pub to_editor : (events : List Event) (n : ℕ) (body : List ℕ) → is_there (desk_of n events).phase ≡ true → Everywhere events → Everywhere (events ++ said (ToEditor n body) ∷ [])
to_editor events n body there h e = one_more e events (said (ToEditor n body)) (h e)
    (λ same. not_over (desk_of e events).phase (is_over (editor_part e events)) (subst (λ k. is_there (desk_of k events).phase ≡ true) (number_same n e same) there) (h e).link)
    (pick (nat_eq n e) (record { phase = phase_told (desk_of e events).phase (desk_of e events).initialize (message_of body); initialize = (desk_of e events).initialize }) (desk_of e events) (is_over (editor_part e events))
    (told (desk_of e events).phase (desk_of e events).initialize (message_of body) (is_over (editor_part e events)) (h e).link) (h e).link)

pub closes : (events : List Event) (n : ℕ) → Everywhere events → Everywhere (events ++ said (CloseEditor n) ∷ [])
closes events n h e = one_more e events (said (CloseEditor n)) (h e) (λ same. tt)
    (pick_end (nat_eq n e) (record { phase = phase_closed (desk_of e events).phase; initialize = (desk_of e events).initialize }) (desk_of e events) (is_over (editor_part e events)) (closed (desk_of e events).phase true) (h e).link)

pub to_server : (events : List Event) (s : ℕ) (body : List ℕ) → Everywhere events → Everywhere (events ++ said (ToServer s body) ∷ [])
to_server events s body h e = one_more e events (said (ToServer s body)) (h e) (λ same. tt) (h e).link

pub ends : (events : List Event) (s : ℕ) → Everywhere events → Everywhere (events ++ said (EndServer s) ∷ [])
ends events s h e = one_more e events (said (EndServer s)) (h e) (λ same. tt) (h e).link

pub spawns : (events : List Event) (s g : ℕ) → Everywhere events → Everywhere (events ++ said (Spawn s g) ∷ [])
spawns events s g h e = one_more e events (said (Spawn s g)) (h e) (λ same. tt) (h e).link
