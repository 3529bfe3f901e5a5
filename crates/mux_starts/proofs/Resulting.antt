-- S2: a start's first result: with whom it parts, what the start is told, and the whole entry.
use Rattle.std.proofs.Common.{◌≡◌, ℕ, Bool, true, false, ◌&&◌, List, [], ◌∷◌, ◌++◌, append-nil, codes, nat_eq, refl, ap, ap₂, sym, if◌then◌else◌, subst, ◌∙◌}
use Rattle.std.specs.Prelude.{Option, Some, None, option_map, slice_get}
use Rattle.json_text.specs.Json.{Json}
use Rattle.mux_history.specs.declared.cause.Cause.TheVariants.{FromServer}
use Rattle.mux_history.specs.declared.out.Out.{Out}
use Rattle.mux_history.specs.declared.out.Out.TheVariants.{CloseEditor, EndServer, Spawn, ToEditor, ToServer}
use Rattle.rpc_message.specs.Message.{Message, message_of, notification, result_bytes}
use Rattle.rpc_message.specs.Texts.{initialized_text}
use Rattle.document_model.specs.Sayings.{saying_of}
use Rattle.document_model.specs.Sayings.{nothing as says_nothing}
use Rattle.document_model.specs.Texts.{Texts}
use Rattle.event_model.specs.declared.phase.Phase.TheVariants.{Waiting}
use Rattle.event_model.specs.Does.{Does, Done}
use Rattle.event_model.specs.Event.{Event, behind, heard, notifies, requests, said, with_cause}
use Rattle.event_model.specs.Phases.{desk_of}
use Rattle.event_model.specs.Row.{Row, each, look, on, send, ◌⨾◌}
use Rattle.event_model.specs.Row.{nothing as none_sent}
use Rattle.event_model.specs.Settings.{Settings}
use Rattle.event_model.specs.Spawns.{group_of, start_of}
use Rattle.event_model.specs.Stages.{is_first_result, is_initializing, is_ready, life_of}
use Rattle.event_model.proofs.Frames.{never, one_more}
use Rattle.event_model.proofs.Turns.{alike, behind_more, does_alike, does_knowing, does_look, does_then}
use Rattle.mux_starts.specs.group_facts.specs.Facts.{is_up}
use Rattle.mux_starts.specs.group_facts.specs.Lively.{lives_at}
use Rattle.mux_starts.specs.group_facts.specs.Settled.{Settled}
use Rattle.mux_starts.specs.group_facts.proofs.Configured.{configured, configures_by}
use Rattle.group_rows.specs.Earlier.{configuration_of, configure, differs, given_next, given_of}
use Rattle.group_rows.specs.Forwarded.{moves_ids}
use Rattle.group_rows.specs.Rows.{first_result, replay, replay_bodies, result_in, send_held, waiting_in, welcome}
use Rattle.group_rows.specs.Waiting.{part, worker_behind, worker_of}
use Rattle.group_rows.proofs.Versions.{AllMeant}
use Rattle.group_words.specs.Houses.{groups_of, is_home}
use Rattle.group_words.specs.Rows.{shown_of}
use Rattle.mux_model.specs.Rows.{to_start}
use Rattle.mux_tables.specs.declared.tables.Start.{Start}
use Rattle.mux_tables.specs.declared.tables.Tables.{Tables}
use Rattle.mux_tables.specs.Documents.{AheadStand, AllStand, DocumentsStand, Owed, nothing_owed, owes, replaying}
use Rattle.mux_tables.specs.Stands.{Stands, is_answer}
use Rattle.mux_tables.proofs.DocumentMoves.{documents_at}
use Rattle.mux_tables.proofs.DocumentOwed.{all_does}
use Rattle.mux_turns.specs.Carried.{CarriedStand, CarriesView, carried, differs_shown, shown_text}
use Rattle.mux_turns.specs.Welcomes.{AllAsking}
use Rattle.mux_turns.proofs.Failing.{waits_back}
use Rattle.mux_turns.proofs.Matched.{whole_entry}
use Rattle.mux_starts.specs.Parted.{IsConfigured, configured_row, parted}
use Rattle.mux_starts.specs.Refusing.{Adds}
use Rattle.mux_starts.proofs.Parting.{ahead_does, none_ahead, parted_alike}
use Rattle.mux_starts.proofs.PutOut.{asking_later}
use Rattle.mux_starts.proofs.Replies.{still_asking}

-- What a group carries says whether its editors are shown something else
pub differs_so : (settings : Settings) (carries : CarriesView) (before : List Event) (g : ℕ) (body shown : List ℕ) → CarriedStand settings carries before → lives_at g (groups_of settings before) ≡ true → shown ≡ shown_of (result_bytes body)
    → differs_shown (carried g carries.shown) shown ≡ differs (given_of g before) body
differs_so settings carries before g body shown stand live is = ap (differs_shown (carried g carries.shown)) is ∙ (ap (λ o. differs_shown o (shown_text body)) (stand.shown g live) ∙ go (given_of g before))
  where
    go : (o : Option (List ℕ)) → differs_shown (option_map shown_text o) (shown_text body) ≡ differs o body
    go None = refl
    go (Some earlier) = refl

-- The start is told of the configuration

configuration_quiet : (m : Message) (params : Option Json) → m ≡ notification (codes "workspace/didChangeConfiguration") params → (requests (codes "shutdown") m ≡ false) × ((moves_ids m ≡ false) × ((saying_of m ≡ says_nothing) × (is_answer m ≡ false)))
configuration_quiet m params says = (ap (requests (codes "shutdown")) says, (ap moves_ids says, (ap saying_of says, ap is_answer says)))

pub configures_does : (settings : Settings) (owed : Owed) (t : Tables) (g : ℕ) (base : List Event) (xs ys : List Out) (s : ℕ) (text body : List ℕ) → text ≡ body → notifies (codes "workspace/didChangeConfiguration") (message_of body) ≡ true → worker_of (behind base xs) ≡ None
    → (requests (codes "shutdown") (message_of text) ≡ false → moves_ids (message_of text) ≡ false → ((x : Start) → slice_get t.lasts.items g ≡ Some x → is_ready x.life.stage ≡ true → is_answer (message_of text) ≡ false) → Does (λ t events. Stands settings t events) (send (ToServer s text)) base t xs t ys)
    → ((method : List ℕ) (params : Option Json) → message_of text ≡ notification method params → saying_of (message_of text) ≡ says_nothing → worker_of (behind base xs) ≡ None → DocumentsStand settings owed t (behind base xs) → DocumentsStand settings owed t (behind base ys))
    → Does (λ k events. AllStand settings k events) (send (ToServer s body)) base (t, owed) xs (t, owed) ys
configures_does settings owed t g base xs ys s text body is changes idle tells docs =
    let by = configures_by (message_of text) (ap (λ w. notifies (codes "workspace/didChangeConfiguration") (message_of w)) is ∙ changes) in
    let q = configuration_quiet (message_of text) by.0 by.1 in
    subst (λ w. Does (λ k events. AllStand settings k events) (send (ToServer s w)) base (t, owed) xs (t, owed) ys) is
    (all_does settings t t owed owed base xs ys (tells q.0 (q.1).0 (λ _ _ _. ((q.1).1).1)) (λ _ ds. docs (codes "workspace/didChangeConfiguration") by.0 by.1 ((q.1).1).0 idle ds))

-- what is kept of a group is one
pub configured_so : (settings : Settings) (before : List Event) (g : ℕ) (o : Option (List ℕ)) → o ≡ configuration_of settings g before → AllMeant before → IsConfigured o
configured_so settings before g None is meant = tt
configured_so settings before g (Some body) is meant = configured settings g before meant body (sym is)

-- What holds behind the cause, and the outs so far

idle_still : (events : List Event) (xs : List Out) → worker_of events ≡ None → worker_of (behind events xs) ≡ None
idle_still events [] idle = ap worker_of (append-nil events) ∙ idle
idle_still events (x ∷ xs) idle = ap worker_of (behind_more events (x ∷ []) xs) ∙ idle_still (events ++ said x ∷ []) xs (one_more worker_behind _ _ events (said x) refl ∙ (go x ∙ idle))
  where
    go : (x : Out) → worker_behind (worker_of events) (said x) ≡ worker_of events
    go (ToEditor e body) = refl
    go (ToServer n body) = refl
    go (Spawn n g) = refl
    go (CloseEditor e) = refl
    go (EndServer n) = refl

module _ (before : List Event) (s : ℕ) (body : List ℕ) where
  abbrev base : List Event
  base = with_cause before (FromServer s body)

  pub idle_behind : (xs : List Out) → worker_of (behind base xs) ≡ None
  idle_behind xs = idle_still base xs (one_more worker_behind _ _ before (heard (FromServer s body)) refl)

  pub asking_behind : (xs : List Out) → AllAsking before → AllAsking (behind base xs)
  asking_behind xs asking e at =
      let more : Adds [] xs = record { more = xs; is = refl } in
      let waits : (desk_of e base).phase ≡ Waiting = waits_back e base xs at in
      asking_later base [] xs more e (still_asking before s body [] [] refl asking e (ap (λ es. (desk_of e es).phase) (append-nil base) ∙ waits))

-- the group of a start that is initialized lives
pub up_lives : (settings : Settings) (before : List Event) (g s : ℕ) → Settled settings before → start_of g before ≡ Some s → is_up (life_of s before).stage ≡ true → lives_at g (groups_of settings before) ≡ true
up_lives settings before g s settled last up = go (lives_at g (groups_of settings before)) refl
  where
    go : (b : Bool) → lives_at g (groups_of settings before) ≡ b → b ≡ true
    go true is = refl
    go false is = never (sym up ∙ settled.down g s is last)

-- the result is the group's
pub given_so : (before : List Event) (s h : ℕ) (body : List ℕ) → group_of s before ≡ Some h → is_initializing (life_of s before).stage ≡ true → is_first_result (message_of body) ≡ true → (g : ℕ) (o : Option (List ℕ))
    → given_next g before o (heard (FromServer s body)) ≡ (if nat_eq h g then Some body else o)
given_so before s h body home stage first g o = ap (λ b. if b then Some body else o)
    (ap (λ k. is_home g k && (is_initializing (life_of s before).stage && is_first_result (message_of body))) home ∙ (ap₂ (λ a b. nat_eq h g && (a && b)) stage first ∙ both (nat_eq h g)))
  where
    both : (b : Bool) → (b && true) ≡ b
    both true = refl
    both false = refl

-- The whole entry

-- what it is told of is what is open then
replays_same : (settings : Settings) (owed : Owed) (u : Tables) (a b : List Event) (i : ℕ) (x : Start) → slice_get u.lasts.items i ≡ Some x → DocumentsStand settings owed u a → DocumentsStand settings owed u b → replaying settings b x.life.group ≡ replaying settings a x.life.group
replays_same settings owed u a b i x at first later =
    let d = documents_at settings owed u a i x at first in
    ap (λ (y : Texts). replay_bodies [] y.opens y.opens) ((later.each i x d.0 at d.1).texts.texts ∙ sym (first.each i x d.0 at d.1).texts.texts)

module _ (settings : Settings) (before : List Event) (s g : ℕ) (body : List ℕ) (es : List ℕ) (outs : List Out) (bodies : List (List ℕ)) (u : Tables) (i : ℕ) (x : Start) (home : group_of s before ≡ Some g) (those : es ≡ parted settings before body g)
    (are : bodies ≡ replaying settings (behind (base before s body) outs) g) (at : slice_get u.lasts.items i ≡ Some x) (mine : x.life.group ≡ g) where
  abbrev now : List Event
  now = base before s body

  abbrev All : Tables × Owed → List Event → Type 0
  All k events = AllStand settings k events

  abbrev Ahead : Tables × (Owed × List Out) → List Event → Type 0
  Ahead k events = AheadStand settings k events

  abbrev due : Owed
  due = owes g bodies

  abbrev greeting : Row
  greeting = look (λ events. each (welcome body) (waiting_in settings g events))

  -- behind those that are parted with
  told : (w z : Tables) (ys zs ws us vs os : List Out) → ys ≡ outs → Does All (send (ToServer s initialized_text)) now (u, due) ys (u, due) zs → Does All (configured_row s (configuration_of settings g before)) now (u, due) zs (u, due) ws
      → Does All (to_start s bodies) now (u, due) ws (u, nothing_owed) us → Does All greeting now (u, nothing_owed) us (w, nothing_owed) vs → Does All (send_held settings s g) now (w, nothing_owed) vs (z, nothing_owed) os
      → Does All (send (ToServer s initialized_text) ⨾ (configure settings before s g ⨾ (replay settings s g ⨾ (greeting ⨾ send_held settings s g)))) now (u, due) ys (z, nothing_owed) os
  told w z ys zs ws us vs os first begins configures pays greets sends = does_knowing (λ k.
      let same : DocumentsStand settings due u (behind now ws) → replaying settings (behind now ws) g ≡ bodies = λ m.
      subst (λ n. replaying settings (behind now ws) n ≡ replaying settings (behind now ys) n) mine (replays_same settings due u (behind now ys) (behind now ws) i x at k.1 m)
      ∙ (ap (λ os. replaying settings (behind now os) g) first ∙ sym are) in
      let replays : Does All (replay settings s g) now (u, due) ws (u, nothing_owed) us = does_look (λ m. ap (to_start s) (same m.1)) pays in
      does_then begins (does_then configures (does_then replays (does_then greets sends))))

  pub result_entry : (t w z : Tables) (xs ys zs ws us vs os : List Out) → xs ≡ [] → ys ≡ xs ++ outs → AheadStand settings (t, (due, outs)) now
      → Does Ahead (each (part settings g) es) now (t, (due, outs)) xs (u, (due, [])) ys → Does All (send (ToServer s initialized_text)) now (u, due) ys (u, due) zs → Does All (configured_row s (configuration_of settings g before)) now (u, due) zs (u, due) ws
      → Does All (to_start s bodies) now (u, due) ws (u, nothing_owed) us → Does All greeting now (u, nothing_owed) us (w, nothing_owed) vs → Does All (send_held settings s g) now (w, nothing_owed) vs (z, nothing_owed) os
      → Done All (first_result settings before s body) now [] (z, nothing_owed) os
  result_entry t w z xs ys zs ws us vs os first those_parted all parts begins configures pays greets sends =
      let rest = told w z ys zs ws us vs os (those_parted ∙ ap (λ qs. qs ++ outs) first) begins configures pays greets sends in
      let ahead = ahead_does settings u z due nothing_owed now ys os rest in
      let done = whole_entry Ahead (first_result settings before s body) now (t, (due, outs)) (z, (nothing_owed, [])) xs os first all
      (does_alike (λ _. alike (ap (λ o. on o none_sent (result_in settings before s body)) home)) (does_then (does_alike (λ _. parted_alike settings before body g es those) parts) ahead)) in
      record { outs = done.outs; stands = none_ahead settings z nothing_owed (behind now os) done.stands }
