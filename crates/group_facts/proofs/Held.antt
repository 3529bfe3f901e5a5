-- Requests that wait: what holds of each of them, one event further, and why each is refused.
use Rattle.std.proofs.Common.{◌≡◌, ℕ, Bool, true, false, not, ◌&&◌, cond, List, [], ◌∷◌, ◌++◌, filter, nat_eq, if◌then◌else◌, Option, None, Some, refl, sym, ◌∙◌, ap, ap₂, subst, arith, codes}
use Rattle.std.specs.Prelude.{drop, find}
use Rattle.std.specs.List.{AllByRecursion}
use Rattle.std.specs.Option.{option_map_or, option_and_then}
use Rattle.json_text.specs.Json.{Json}
use Rattle.mux_history.specs.declared.cause.Cause.{Cause}
use Rattle.mux_history.specs.declared.out.Out.{Out}
use Rattle.mux_history.specs.declared.out.Out.TheVariants.{ToEditor, ToServer, Spawn, CloseEditor, EndServer}
use Rattle.rpc_message.specs.Message.{Message, request, Id, error, message_of, same_id, notification, result, not_json, not_message}
use Rattle.rpc_message.specs.Texts.{error_text, error_tree, request_cancelled, request_failed}
use Rattle.rpc_message.specs.ValueTexts.{IsIdText}
use Rattle.rpc_message.proofs.Fixed.{error_law, id_as_response}
use Rattle.event_model.specs.Event.{Event, behind, did, said}
use Rattle.event_model.specs.Phases.{Desk, desk_behind, desk_of, is_there, phase_closed, phase_told, has_id}
use Rattle.event_model.specs.Requests.{answered_id, is_open, is_own, open_behind, open_of, without}
use Rattle.event_model.specs.Row.{each, outs}
use Rattle.event_model.specs.Settings.{Settings}
use Rattle.event_model.specs.Spawns.{group_of}
use Rattle.mux_facts.proofs.Folds.{desk_more, opens_more}
use Rattle.mux_facts.proofs.Late.{told_late}
use Rattle.mux_facts.proofs.Lists.{all_filtered, all_join, all_of, found_is}
use Rattle.mux_facts.proofs.Reasons.{Because, by_look, by_nothing, by_send, by_then, reasons_keep}
use Rattle.mux_facts.proofs.Waits.{late_not}
use Rattle.mux_facts.proofs.Why.{is_early}
use Rattle.mux_facts.proofs.Keeps.{behind_both}
use Rattle.mux_facts.proofs.Words.{id_same, number_same, same_number, still_open}
use Rattle.event_model.specs.declared.phase.Phase.{Phase}
use Rattle.event_model.specs.declared.phase.Phase.TheVariants.{Absent, New, Waiting, Answered, Running, Down, Closed, Gone}
use Rattle.event_model.proofs.Frames.{never}
use Rattle.group_words.specs.Houses.{home_of, is_home}
use Rattle.group_words.proofs.Frames.{home_stays}
use Rattle.group_rows.specs.held_requests.specs.declared.request.Request.{Request}
use Rattle.group_rows.specs.held_requests.specs.Tables.{is_of, of_editor}
use Rattle.group_rows.specs.Forwarded.{Forwarded}
use Rattle.group_rows.specs.Waiting.{id_meant, is_answered, is_meant, refuse_held, refuse_waiting, waiting_next, waiting_of, without_first, worker_of, part, waiting_named, cancelled_text, named_id}
use Rattle.group_rows.proofs.Cancelling.{text_meant}
use Rattle.group_rows.proofs.Frames.{waiting_more}
use Rattle.group_rows.proofs.Moments.{asks}
use Rattle.group_facts.specs.Facts.{AllHeld, AreHeld, HasOtherId, HaveOtherIds, IsAlone, IsHeld, ends_link}
use Rattle.group_facts.specs.Why.{IsForward, IsRefusal, IsUnheld, Why, refuses}
use Rattle.group_facts.proofs.Apart.{fewer_said, grow, new, one_id}
use Rattle.group_facts.proofs.Askers.{late_said}
use Rattle.group_facts.proofs.HeldOuts.{kept_refused}
use Rattle.group_facts.proofs.Forwards.{Fewer, alone_fewer, zip_all}

-- Lists

pub not_true : (b : Bool) → not b ≡ true → b ≡ false
not_true true h = never (sym h)
not_true false h = refl

-- numbers differ either way round
pub swapped_numbers : (a b : ℕ) → nat_eq a b ≡ false → nat_eq b a ≡ false
swapped_numbers a b other = go (nat_eq b a) refl
  where
    go : (c : Bool) → nat_eq b a ≡ c → c ≡ false
    go true same = never (sym (ap (λ z. nat_eq a z) (number_same b a same) ∙ same_number a) ∙ other)
    go false h = refl

pub others_filtered : (test : Request → Bool) (rs : List Request) → HaveOtherIds rs → HaveOtherIds (filter test rs)
others_filtered test [] h = tt
others_filtered test (r ∷ rs) h = go (test r) (others_filtered test rs h.1)
  where
    go : (b : Bool) → HaveOtherIds (filter test rs) → HaveOtherIds (cond b (r ∷ filter test rs) (filter test rs))
    go true k = (all_filtered (HasOtherId r) (HasOtherId r) test (λ q t o. o) rs h.0, k)
    go false k = k

pub others_joined : (q : Request) (rs : List Request) → HaveOtherIds rs → AllByRecursion (λ (r : Request). HasOtherId r q) rs → HaveOtherIds (rs ++ q ∷ [])
others_joined q [] h k = (tt, tt)
others_joined q (r ∷ rs) h k = (all_join (HasOtherId r) rs (q ∷ []) h.0 (k.0, tt), others_joined q rs h.1 k.1)

-- what a request to a start leaves
pub left_by : (T : List Request → Type 0) → ((rs : List Request) → T rs → T (drop 1 rs)) → (b : Bool) (w : Option ℕ) (m : Message) (rs : List Request) → T rs → T (if b then without_first w m rs else rs)
left_by T f true None (request id method ps) rs h = go (is_own method)
  where
    go : (c : Bool) → T (if c then rs else drop 1 rs)
    go true = h
    go false = f rs h
left_by T f true w m rs h = h
left_by T f false w m rs h = h

pub drop_all : (P : Request → Type 0) (rs : List Request) → AllByRecursion P rs → AllByRecursion P (drop 1 rs)
drop_all P [] h = tt
drop_all P (r ∷ rs) h = h.1

pub drop_others : (rs : List Request) → HaveOtherIds rs → HaveOtherIds (drop 1 rs)
drop_others [] h = tt
drop_others (r ∷ rs) h = h.1

-- a body that is no editor's request leaves what waits
abbrev pub IsQuiet : Out → Type 0
IsQuiet (ToServer n body) = asks (said (ToServer n body)) ≡ false
IsQuiet other = Unit {0}

pub left_quiet : (b : Bool) (w : Option ℕ) (n : ℕ) (body : List ℕ) (m : Message) (rs : List Request) → message_of body ≡ m → asks (said (ToServer n body)) ≡ false → (if b then without_first w m rs else rs) ≡ rs
left_quiet true None n body (request id method ps) rs says quiet = go (is_own method) refl
  where
    go : (c : Bool) → is_own method ≡ c → (if c then rs else drop 1 rs) ≡ rs
    go true own = refl
    go false other = never (ap not (sym other) ∙ (sym (ap (λ z. asks (did (ToServer n body) z)) says) ∙ quiet))
left_quiet true w n body m rs says quiet = refl
left_quiet false w n body m rs says quiet = refl

-- what answers one that is cancelled
pub cancelled_says : (i : Id) (text : List ℕ) → IsIdText i text → (x : Json) × (message_of (cancelled_text text) ≡ error (Some i) x)
cancelled_says i text is = (_, error_law (Some i) text request_cancelled (id_as_response i text is))

-- which is one of those that wait
pub named_held : (settings : Settings) (e : ℕ) (params : Option Json) (events : List Event) (r : Request) (o : Option ℕ) → AllHeld settings events → option_and_then (λ g. waiting_named e params (waiting_of settings g events)) o ≡ Some r → (g : ℕ) × IsHeld settings g events r
named_held settings e params events r None h found = absurd (let clash : ◌≡◌ {A = Option Request} None (Some r) = found in cc)
named_held settings e params events r (Some g) h found = (g, by_id (named_id params) found)
  where
    by_id : (o : Option Id) → option_and_then (λ id. find (is_meant e id) (waiting_of settings g events)) o ≡ Some r → IsHeld settings g events r
    by_id None found = absurd (let clash : ◌≡◌ {A = Option Request} None (Some r) = found in cc)
    by_id (Some id) found = found_is (IsHeld settings g events) (is_meant e id) r (waiting_of settings g events) (h g).each found

-- One that waits

module _ (settings : Settings) (g : ℕ) (events : List Event) where
  -- one event more
  pub held_more : (ev : Event) (r : Request) (k : IsHeld settings g events r) → is_early (desk_behind r.editor (desk_of r.editor events) ev).phase ≡ false → is_there (desk_behind r.editor (desk_of r.editor events) ev).phase ≡ true
      → is_open (k.asker).id (open_behind r.editor (open_of r.editor events) ev) ≡ true → home_of settings r.editor (events ++ ev ∷ []) ≡ Some g → IsAlone settings (events ++ ev ∷ []) r.editor (k.asker).id → IsHeld settings g (events ++ ev ∷ []) r
  held_more ev r k late there waits home alone = record {
    asker = record {
      id = (k.asker).id;
      text = (k.asker).text;
      late = ap (λ (d : Desk). is_early d.phase) (desk_more r.editor events ev) ∙ late;
      waits = ap (is_open (k.asker).id) (opens_more r.editor events ev) ∙ waits;
    };
    there = ap (λ (d : Desk). is_there d.phase) (desk_more r.editor events ev) ∙ there;
    home = home;
    alone = alone;
    method = k.method;
    params = k.params;
    says = k.says;
    bytes = k.bytes;
    other = k.other;
    free = k.free;
  }

  abbrev told : ℕ → List ℕ → List Event
  told n body = events ++ said (ToEditor n body) ∷ []

  -- a body to an editor that answers another request
  pub held_told : (n : ℕ) (body : List ℕ) (r : Request) → IsHeld settings g events r → is_answered n (answered_id (message_of body)) r ≡ false → IsHeld settings g (told n body) r
  held_told n body r k other = held_more (said (ToEditor n body)) r k (late_said events r.editor (k.asker).late (ToEditor n body)) (there (nat_eq n r.editor)) (waits (nat_eq n r.editor) refl)
      (home_stays settings r.editor events (said (ToEditor n body)) refl ∙ k.home) (alone_fewer settings events (told n body) (fewer_said settings events (ToEditor n body) (λ s. refl)) r.editor (k.asker).id k.alone)
    where
      there : (b : Bool) → is_there (if b then record { phase = phase_told (desk_of r.editor events).phase (desk_of r.editor events).initialize (message_of body); initialize = (desk_of r.editor events).initialize } else desk_of r.editor events).phase ≡ true
      there true = ap is_there (told_late (desk_of r.editor events).phase (desk_of r.editor events).initialize (message_of body) (k.asker).late) ∙ k.there
      there false = k.there

      unanswered : nat_eq r.editor n ≡ true → (o : Option Id) → is_answered n o r ≡ false → is_open (k.asker).id (without o (open_of r.editor events)) ≡ true
      unanswered mine None h = (k.asker).waits
      unanswered mine (Some i) h = still_open i (k.asker).id (open_of r.editor events) (k.asker).waits
          (sym (ap₂ (λ b o. b && option_map_or (same_id i) o false) mine (text_meant (k.asker).id r.id (k.asker).text)) ∙ h)

      waits : (b : Bool) → nat_eq n r.editor ≡ b → is_open (k.asker).id (if b then without (answered_id (message_of body)) (open_of r.editor events) else open_of r.editor events) ≡ true
      waits true same = unanswered (ap (λ z. nat_eq r.editor z) (number_same n r.editor same) ∙ same_number r.editor) (answered_id (message_of body)) other
      waits false apart = (k.asker).waits

  -- the link of another editor is to be ended
  pub held_closed : (n : ℕ) (r : Request) → IsHeld settings g events r → is_of n r ≡ false → IsHeld settings g (events ++ said (CloseEditor n) ∷ []) r
  held_closed n r k other = held_more (said (CloseEditor n)) r k (late_said events r.editor (k.asker).late (CloseEditor n)) (there (nat_eq n r.editor) (swapped_numbers r.editor n other)) (k.asker).waits
      (home_stays settings r.editor events (said (CloseEditor n)) refl ∙ k.home) (alone_fewer settings events (events ++ said (CloseEditor n) ∷ []) (fewer_said settings events (CloseEditor n) (λ s. refl)) r.editor (k.asker).id k.alone)
    where
      there : (b : Bool) → b ≡ false → is_there (if b then record { phase = phase_closed (desk_of r.editor events).phase; initialize = (desk_of r.editor events).initialize } else desk_of r.editor events).phase ≡ true
      there true h = never h
      there false h = k.there

  pub held_spawned : (s h : ℕ) (r : Request) → IsHeld settings g events r → IsHeld settings g (events ++ said (Spawn s h) ∷ []) r
  held_spawned s h r k = held_more (said (Spawn s h)) r k (k.asker).late k.there (k.asker).waits (home_stays settings r.editor events (said (Spawn s h)) refl ∙ k.home)
      (alone_fewer settings events (events ++ said (Spawn s h) ∷ []) (fewer_said settings events (Spawn s h) (λ t. refl)) r.editor (k.asker).id k.alone)

  pub held_ended : (s : ℕ) (r : Request) → IsHeld settings g events r → IsHeld settings g (events ++ said (EndServer s) ∷ []) r
  held_ended s r k = held_more (said (EndServer s)) r k (k.asker).late k.there (k.asker).waits (home_stays settings r.editor events (said (EndServer s)) refl ∙ k.home)
      (alone_fewer settings events (events ++ said (EndServer s) ∷ []) (fewer_said settings events (EndServer s) (λ t. refl)) r.editor (k.asker).id k.alone)

  -- a body to a start
  pub held_sent : (n : ℕ) (body : List ℕ) (r : Request) (k : IsHeld settings g events r) → IsAlone settings (events ++ said (ToServer n body) ∷ []) r.editor (k.asker).id → IsHeld settings g (events ++ said (ToServer n body) ∷ []) r
  held_sent n body r k alone = held_more (said (ToServer n body)) r k (k.asker).late k.there (k.asker).waits (home_stays settings r.editor events (said (ToServer n body)) refl ∙ k.home) alone

-- All that wait, behind an out

module _ (settings : Settings) where
  module _ (g : ℕ) (events : List Event) (h : AreHeld settings g events) where
    listed : (ev : Event) (rs : List Request) → waiting_next settings g events (waiting_of settings g events) ev ≡ rs → AllByRecursion (IsHeld settings g (events ++ ev ∷ [])) rs → HaveOtherIds rs → AreHeld settings g (events ++ ev ∷ [])
    listed ev rs is all apart = record {
      each = subst (AllByRecursion (IsHeld settings g (events ++ ev ∷ []))) (sym (waiting_more settings g events ev ∙ is)) all;
      apart = subst HaveOtherIds (sym (waiting_more settings g events ev ∙ is)) apart;
    }

    are_told : (n : ℕ) (body : List ℕ) → AreHeld settings g (events ++ said (ToEditor n body) ∷ [])
    are_told n body = listed (said (ToEditor n body)) (filter (λ r. not (is_answered n (answered_id (message_of body)) r)) (waiting_of settings g events)) refl
        (all_filtered (IsHeld settings g events) (IsHeld settings g (events ++ said (ToEditor n body) ∷ [])) (λ r. not (is_answered n (answered_id (message_of body)) r))
        (λ r t k. held_told settings g events n body r k (not_true (is_answered n (answered_id (message_of body)) r) t)) (waiting_of settings g events) h.each)
        (others_filtered (λ r. not (is_answered n (answered_id (message_of body)) r)) (waiting_of settings g events) h.apart)

    are_closed : (n : ℕ) → AreHeld settings g (events ++ said (CloseEditor n) ∷ [])
    are_closed n = listed (said (CloseEditor n)) (filter (λ r. not (is_of n r)) (waiting_of settings g events)) refl
        (all_filtered (IsHeld settings g events) (IsHeld settings g (events ++ said (CloseEditor n) ∷ [])) (λ r. not (is_of n r)) (λ r t k. held_closed settings g events n r k (not_true (is_of n r) t)) (waiting_of settings g events) h.each)
        (others_filtered (λ r. not (is_of n r)) (waiting_of settings g events) h.apart)

    are_spawned : (s i : ℕ) → AreHeld settings g (events ++ said (Spawn s i) ∷ [])
    are_spawned s i = listed (said (Spawn s i)) (waiting_of settings g events) refl (all_of (IsHeld settings g events) (IsHeld settings g (events ++ said (Spawn s i) ∷ [])) (λ r k. held_spawned settings g events s i r k) (waiting_of settings g events) h.each) h.apart

    are_ended : (s : ℕ) → AreHeld settings g (events ++ said (EndServer s) ∷ [])
    are_ended s = listed (said (EndServer s)) (waiting_of settings g events) refl (all_of (IsHeld settings g events) (IsHeld settings g (events ++ said (EndServer s) ∷ [])) (λ r k. held_ended settings g events s r k) (waiting_of settings g events) h.each) h.apart

    -- a body to a start by which no request is open that wasn't before
    pub are_sent : (n : ℕ) (body : List ℕ) → Fewer settings events (events ++ said (ToServer n body) ∷ []) → AreHeld settings g (events ++ said (ToServer n body) ∷ [])
    are_sent n body fewer = listed (said (ToServer n body)) (if is_home g (group_of n events) then without_first (worker_of events) (message_of body) (waiting_of settings g events) else waiting_of settings g events) refl
        (left_by (AllByRecursion (IsHeld settings g later)) (drop_all (IsHeld settings g later)) (is_home g (group_of n events)) (worker_of events) (message_of body) (waiting_of settings g events)
        (all_of (IsHeld settings g events) (IsHeld settings g later) (λ r k. held_sent settings g events n body r k (alone_fewer settings events later fewer r.editor (k.asker).id k.alone)) (waiting_of settings g events) h.each))
        (left_by HaveOtherIds drop_others (is_home g (group_of n events)) (worker_of events) (message_of body) (waiting_of settings g events) h.apart)
      where
        later : List Event
        later = events ++ said (ToServer n body) ∷ []

    -- an editor's request
    pub are_asked : (before : List Event) (cause : Cause) (n : ℕ) (body : List ℕ) (k : IsForward settings before cause events n body) → AreHeld settings g (events ++ said (ToServer n body) ∷ [])
    unfolding new
    are_asked before cause n body k = record {
      each = zip_all (IsHeld settings g events) (λ (r : Request). r.editor ≡ (k.sender).editor → IsIdText k.id r.id → ⊥) (IsHeld settings g later) still (waiting_of settings g later)
          (subst (AllByRecursion (IsHeld settings g events)) (sym is) (left_by (AllByRecursion (IsHeld settings g events)) (drop_all (IsHeld settings g events)) (is_home g (group_of n events)) (worker_of events) (message_of body) (waiting_of settings g events) h.each))
          (k.unheld g);
      apart = subst HaveOtherIds (sym is) (left_by HaveOtherIds drop_others (is_home g (group_of n events)) (worker_of events) (message_of body) (waiting_of settings g events) h.apart);
    }
      where
        later : List Event
        later = events ++ said (ToServer n body) ∷ []

        is : waiting_of settings g later ≡ (if is_home g (group_of n events) then without_first (worker_of events) (message_of body) (waiting_of settings g events) else waiting_of settings g events)
        is = waiting_more settings g events (said (ToServer n body))

        still : (r : Request) → IsHeld settings g events r → (r.editor ≡ (k.sender).editor → IsIdText k.id r.id → ⊥) → IsHeld settings g later r
        still r w apart = held_sent settings g events n body r w (λ t. grow settings before cause events n body k t (λ (f : Forwarded). f.editor ≡ r.editor → IsIdText (w.asker).id f.id → ⊥) (w.alone t)
            (λ here mine text. apart (sym mine) (subst (λ i. IsIdText i r.id) (one_id (w.asker).id k.id (k.sender).id text k.text) (w.asker).text)))

  pub held_told_all : (events : List Event) (n : ℕ) (body : List ℕ) → AllHeld settings events → AllHeld settings (events ++ said (ToEditor n body) ∷ [])
  held_told_all events n body h g = are_told g events (h g) n body

  pub held_closed_all : (events : List Event) (n : ℕ) → AllHeld settings events → AllHeld settings (events ++ said (CloseEditor n) ∷ [])
  held_closed_all events n h g = are_closed g events (h g) n

  pub held_spawned_all : (events : List Event) (s i : ℕ) → AllHeld settings events → AllHeld settings (events ++ said (Spawn s i) ∷ [])
  held_spawned_all events s i h g = are_spawned g events (h g) s i

  pub held_ended_all : (events : List Event) (s : ℕ) → AllHeld settings events → AllHeld settings (events ++ said (EndServer s) ∷ [])
  held_ended_all events s h g = are_ended g events (h g) s

-- no request waits under an id that isn't open
pub unheld_by : (settings : Settings) (events : List Event) → AllHeld settings events → (e : ℕ) (id : Id) → is_open id (open_of e events) ≡ false → IsUnheld settings events e id
unheld_by settings events h e id fresh g = all_of (IsHeld settings g events) (λ (r : Request). r.editor ≡ e → IsIdText id r.id → ⊥) (λ r k mine text. clash r k mine (one_id id (k.asker).id r.id text (k.asker).text)) (waiting_of settings g events) (h g).each
  where
    clash : (r : Request) (k : IsHeld settings g events r) → r.editor ≡ e → id ≡ (k.asker).id → ⊥
    clash r k mine is = never (sym (subst (λ z. is_open z (open_of r.editor events) ≡ true) (sym is) (k.asker).waits) ∙ ap (λ z. is_open id (open_of z events)) mine ∙ fresh)

-- An editor is there behind a body

told_keeps : (phase : Phase) (initialize : List ℕ) (m : Message) → is_there phase ≡ true → is_there (phase_told phase initialize m) ≡ true
told_keeps Waiting initialize (result (Some id) r) h = go (has_id id (message_of initialize))
  where
    go : (b : Bool) → is_there (if b then Answered else Waiting) ≡ true
    go true = refl
    go false = refl
told_keeps Waiting initialize (result None r) h = refl
told_keeps Waiting initialize (error id x) h = refl
told_keeps Waiting initialize (request id method params) h = refl
told_keeps Waiting initialize (notification method params) h = refl
told_keeps Waiting initialize not_json h = refl
told_keeps Waiting initialize not_message h = refl
told_keeps New initialize m h = refl
told_keeps Answered initialize m h = refl
told_keeps Running initialize m h = refl
told_keeps Down initialize m h = refl
told_keeps Absent initialize m h = h
told_keeps Closed initialize m h = h
told_keeps Gone initialize m h = h

pub there_told : (e k : ℕ) (events : List Event) (text : List ℕ) → is_there (desk_of e events).phase ≡ true → is_there (desk_of e (events ++ said (ToEditor k text) ∷ [])).phase ≡ true
there_told e k events text h = ap (λ (d : Desk). is_there d.phase) (desk_more e events (said (ToEditor k text))) ∙ go (nat_eq k e)
  where
    go : (b : Bool) → is_there (if b then record { phase = phase_told (desk_of e events).phase (desk_of e events).initialize (message_of text); initialize = (desk_of e events).initialize } else desk_of e events).phase ≡ true
    go true = told_keeps (desk_of e events).phase (desk_of e events).initialize (message_of text) h
    go false = h

-- Refusals

pub is_meant_other : (r q : Request) (i : Id) (k : Id) → IsIdText i r.id → IsIdText k q.id → HasOtherId r q → is_meant r.editor i q ≡ false
is_meant_other r q i k text his apart = go (nat_eq q.editor r.editor) refl (same_id i k) refl
  where
    go : (a : Bool) → nat_eq q.editor r.editor ≡ a → (b : Bool) → same_id i k ≡ b → (a && option_map_or (same_id i) (id_meant q.id) false) ≡ false
    go false other b e = refl
    go true same true e = absurd (apart i (number_same q.editor r.editor same) text (subst (λ z. IsIdText z q.id) (sym (id_same i k e)) his))
    go true same false e = ap (λ o. option_map_or (same_id i) o false) (text_meant k q.id his) ∙ e

module _ (settings : Settings) (before : List Event) (cause : Cause) where
  abbrev R : List Event → Out → Type 0
  R events out = Why settings before cause events out

  module _ (g : ℕ) where
    -- by an error of any text
    pub refusing : (events : List Event) (r : Request) (k : IsHeld settings g events r) (text : List ℕ) (x : Json) → message_of text ≡ error (Some (k.asker).id) x → IsRefusal settings events r.editor text
    refusing events r k text x says = record {
      id = (k.asker).id;
      x = x;
      there = k.there;
      waits = (k.asker).waits;
      others = λ at. absurd (late_not (desk_of r.editor events).phase (k.asker).late at);
      alone = k.alone;
      says = says;
    }

    pub refused_says : (events : List Event) (r : Request) (k : IsHeld settings g events r) → message_of (error_text r.id request_failed) ≡ error (Some (k.asker).id) (error_tree request_failed)
    refused_says events r k = error_law (Some (k.asker).id) r.id request_failed (id_as_response (k.asker).id r.id (k.asker).text)

    pub refused_one : (events : List Event) (r : Request) → IsHeld settings g events r → Because R events (refuse_waiting r)
    refused_one events r k = by_send (refuses (refusing events r k (error_text r.id request_failed) (error_tree request_failed) (refused_says events r k)))

    -- the others wait on
    pub refused_other : (events : List Event) (r : Request) (k : IsHeld settings g events r) (q : Request) → HasOtherId r q → IsHeld settings g events q → IsHeld settings g (events ++ said (ToEditor r.editor (error_text r.id request_failed)) ∷ []) q
    refused_other events r k q apart w = held_told settings g events r.editor (error_text r.id request_failed) q w
        (ap (λ m. is_answered r.editor (answered_id m) q) (refused_says events r k) ∙ is_meant_other r q (k.asker).id (w.asker).id (k.asker).text (w.asker).text apart)

    pub refused_each : (rs : List Request) (events : List Event) → AllByRecursion (IsHeld settings g events) rs → HaveOtherIds rs → Because R events (each refuse_waiting rs)
    refused_each [] events h apart = by_nothing
    refused_each (r ∷ rs) events h apart = by_then (refused_one events r h.0)
        (refused_each rs (events ++ said (ToEditor r.editor (error_text r.id request_failed)) ∷ []) (zip_all (HasOtherId r) (IsHeld settings g events) (IsHeld settings g (events ++ said (ToEditor r.editor (error_text r.id request_failed)) ∷ []))
        (λ q a w. refused_other events r h.0 q a w) rs apart.0 h.1) apart.1)

    -- each of an editor's
    pub refuse_held_why : (e : ℕ) (events : List Event) → AllHeld settings events → Because R events (refuse_held settings g e)
    refuse_held_why e events h = by_look (refused_each (of_editor e (waiting_of settings g events)) events
        (all_filtered (IsHeld settings g events) (IsHeld settings g events) (is_of e) (λ r t k. k) (waiting_of settings g events) (h g).each) (others_filtered (is_of e) (waiting_of settings g events) (h g).apart))

-- a request under another id stays open
pub with_each : (P : Request → Type 0) (rs : List Request) (events : List Event) → AllByRecursion P rs → Because (λ places out. (r : Request) × (P r × (out ≡ ToEditor r.editor (error_text r.id request_failed)))) events (each refuse_waiting rs)
with_each P [] events h = by_nothing
with_each P (r ∷ rs) events h = by_then (by_send (r, (h.0, refl))) (with_each P rs (events ++ said (ToEditor r.editor (error_text r.id request_failed)) ∷ []) h.1)

pub open_refused : (settings : Settings) (g e : ℕ) (events : List Event) (id : Id) → AllHeld settings events → IsUnheld settings events e id → is_open id (open_of e events) ≡ true → is_open id (open_of e (behind events (outs (refuse_held settings g e) events))) ≡ true
open_refused settings g e events id held unheld = reasons_keep Refuses (λ places. is_open id (open_of e places) ≡ true) step events (outs (refuse_held settings g e) events) because.why
  where
    Beside : Request → Type 0
    Beside r = (i : Id) × (IsIdText i r.id × (r.editor ≡ e → IsIdText id r.id → ⊥))

    Refuses : List Event → Out → Type 0
    Refuses places out = (r : Request) × (Beside r × (out ≡ ToEditor r.editor (error_text r.id request_failed)))

    because : Because Refuses events (refuse_held settings g e)
    because = by_look (with_each Beside (of_editor e (waiting_of settings g events)) events (all_filtered Beside Beside (is_of e) (λ r t k. k) (waiting_of settings g events)
        (zip_all (IsHeld settings g events) (λ (r : Request). r.editor ≡ e → IsIdText id r.id → ⊥) Beside (λ r k away. ((k.asker).id, ((k.asker).text, away))) (waiting_of settings g events) (held g).each (unheld g))))

    beside : (r : Request) (i : Id) → IsIdText i r.id → (r.editor ≡ e → IsIdText id r.id → ⊥) → (places : List Event) → is_open id (open_of e places) ≡ true → (b : Bool) → nat_eq r.editor e ≡ b
        → is_open id (if b then without (answered_id (message_of (error_text r.id request_failed))) (open_of e places) else open_of e places) ≡ true
    beside r i text away places h false other = h
    beside r i text away places h true same = ap (λ m. is_open id (without (answered_id m) (open_of e places))) (error_law (Some i) r.id request_failed (id_as_response i r.id text)) ∙ still_open i id (open_of e places) h (apart (same_id i id) refl)
      where
        apart : (b : Bool) → same_id i id ≡ b → b ≡ false
        apart true is = absurd (away (number_same r.editor e same) (subst (λ z. IsIdText z r.id) (id_same i id is) text))
        apart false is = refl

    step : (places : List Event) (out : Out) → Refuses places out → is_open id (open_of e places) ≡ true → is_open id (open_of e (places ++ said out ∷ [])) ≡ true
    step places out (r, ((i, (text, away)), is)) h = subst (λ o. is_open id (open_of e (places ++ said o ∷ [])) ≡ true) (sym is)
        (ap (is_open id) (opens_more e places (said (ToEditor r.editor (error_text r.id request_failed)))) ∙ beside r i text away places h (nat_eq r.editor e) refl)

-- so what waits is held, and each editor is there
pub held_refused : (settings : Settings) (g e : ℕ) (events : List Event) → AllHeld settings events → AllHeld settings (behind events (outs (refuse_held settings g e) events))
held_refused settings g e events h = kept_refused settings e (AllHeld settings) (λ places body k. held_told_all settings places e body k) g events h

pub there_refused : (settings : Settings) (g e k : ℕ) (events : List Event) → is_there (desk_of k events).phase ≡ true → is_there (desk_of k (behind events (outs (refuse_held settings g e) events))).phase ≡ true
there_refused settings g e k events h = kept_refused settings e (λ places. is_there (desk_of k places).phase ≡ true) (λ places body. there_told k e places body) g events h

-- each refusal is an error
pub refusals_are : (settings : Settings) (T : Out → Type 0) → ((k : ℕ) (text : List ℕ) (id : Id) (x : Json) → message_of text ≡ error (Some id) x → T (ToEditor k text)) → (g e : ℕ) (events : List Event) → AllHeld settings events
    → AllByRecursion T (outs (refuse_held settings g e) events)
refusals_are settings T tells g e events held = all_said (of_editor e (waiting_of settings g events)) events (all_filtered (IsHeld settings g events) (IsHeld settings g events) (is_of e) (λ r t k. k) (waiting_of settings g events) (held g).each)
  where
    all_said : (rs : List Request) (places : List Event) → AllByRecursion (IsHeld settings g events) rs → AllByRecursion T (outs (each refuse_waiting rs) places)
    all_said [] places h = tt
    all_said (r ∷ rs) places h = (
      tells r.editor (error_text r.id request_failed) ((h.0).asker).id (error_tree request_failed) (error_law (Some ((h.0).asker).id) r.id request_failed (id_as_response ((h.0).asker).id r.id ((h.0).asker).text)),
      all_said rs (places ++ said (ToEditor r.editor (error_text r.id request_failed)) ∷ []) h.1,
    )

-- Why an editor is parted with

-- its link is to be ended by this cause
pub record IsParting (settings : Settings) (before : List Event) (cause : Cause) (e : ℕ) (events : List Event) : Type 0 where
  pub ends : ends_link settings before cause e ≡ true
  pub there : is_there (desk_of e events).phase ≡ true
  pub held : AllHeld settings events

pub part_why : (settings : Settings) (before : List Event) (cause : Cause) (g e : ℕ) (events : List Event) → IsParting settings before cause e events → Because (Why settings before cause) events (part settings g e)
part_why settings before cause g e events h = by_then (refuse_held_why settings before cause g e events h.held) (by_send (h.ends, there_refused settings g e e events h.there))

parting_told : (settings : Settings) (before : List Event) (cause : Cause) (e k : ℕ) (events : List Event) (body : List ℕ) → IsParting settings before cause e events → IsParting settings before cause e (events ++ said (ToEditor k body) ∷ [])
parting_told settings before cause e k events body h = record { ends = h.ends; there = there_told e k events body h.there; held = held_told_all settings events k body h.held }

-- another one stays so
pub part_still : (settings : Settings) (before : List Event) (cause : Cause) (g k e : ℕ) (events : List Event) → nat_eq k e ≡ false → IsParting settings before cause e events → IsParting settings before cause e (behind events (outs (part settings g k) events))
part_still settings before cause g k e events other h = subst (IsParting settings before cause e) (sym (behind_both events (outs (refuse_held settings g k) events) (CloseEditor k ∷ []))) (record {
  ends = mid.ends;
  there = ap (λ (d : Desk). is_there d.phase) (desk_more e place (said (CloseEditor k)))
      ∙ ap (λ b. is_there (if b then record { phase = phase_closed (desk_of e place).phase; initialize = (desk_of e place).initialize } else desk_of e place).phase) other ∙ mid.there;
  held = held_closed_all settings place k mid.held;
})
  where
    place : List Event
    place = behind events (outs (refuse_held settings g k) events)

    mid : IsParting settings before cause e place
    mid = kept_refused settings k (IsParting settings before cause e) (λ places body. parting_told settings before cause e k places body) g events h
