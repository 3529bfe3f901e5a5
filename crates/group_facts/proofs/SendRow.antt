-- S2: the requests that wait go on to the start that gave its result, one behind the other, each behind a sync; where no number is left they are refused.
use Rattle.std.proofs.Common.{◌≡◌, ℕ, Bool, true, false, not, ◌&&◌, cond, List, [], ◌∷◌, ◌++◌, ◌<◌, ◌^◌, nat_lt, filter, map, nat_eq, codes, decimal, if◌then◌else◌, Option, None, Some, refl, sym, ◌∙◌, ap, ap₂, subst, arith, append-nil, append_assoc, ltb-true}
use Rattle.std.specs.Prelude.{drop, slice_get}
use Rattle.std.specs.List.{AllByRecursion}
use Rattle.std.specs.Option.{option_and_then, option_map_or}
use Rattle.std.proofs.lemmas.List.Elements.{filter-append}
use Rattle.std.proofs.lemmas.List.Sums.{fold-append}
use Rattle.std.proofs.lemmas.Slice.Eq.{bytes_eq-Decides}
use Rattle.json_text.specs.Json.{Json}
use Rattle.mux_history.specs.declared.cause.Cause.{Cause}
use Rattle.mux_history.specs.declared.cause.Cause.TheVariants.{FromServer}
use Rattle.mux_history.specs.declared.out.Out.{Out}
use Rattle.mux_history.specs.declared.out.Out.TheVariants.{ToEditor, ToServer, Spawn, CloseEditor, EndServer}
use Rattle.document_model.specs.Opens.{Open}
use Rattle.rpc_message.specs.Message.{request, Id, id_bytes, integer, text, message_of, same_id}
use Rattle.rpc_message.specs.Texts.{error_text, request_failed}
use Rattle.rpc_message.specs.ValueTexts.{IsIdText}
use Rattle.event_model.specs.declared.stage.Stage.TheVariants.{Ready, Stopping, Initializing}
use Rattle.event_model.specs.Event.{Event, behind, heard, said, with_cause}
use Rattle.event_model.specs.Parts.{is_of_server, server_part}
use Rattle.event_model.specs.Phases.{Desk, is_there}
use Rattle.event_model.specs.Requests.{answered_id, is_open}
use Rattle.event_model.specs.Row.{each, outs, ◌⨾◌, choose}
use Rattle.event_model.specs.Settings.{Settings}
use Rattle.event_model.specs.Spawns.{group_of, start_of}
use Rattle.event_model.specs.Stages.{Life, life_of, stage_told}
use Rattle.event_model.proofs.Frames.{never}
use Rattle.mux_model.specs.Documents.{held_at}
use Rattle.mux_model.proofs.DocumentFolds.{outs_to_start}
use Rattle.mux_facts.specs.Ranges.{InRange}
use Rattle.mux_facts.proofs.Folds.{life_more}
use Rattle.mux_facts.proofs.Keeps.{behind_both}
use Rattle.mux_facts.proofs.Lists.{all_of}
use Rattle.mux_facts.proofs.Reasons.{Because, by_choose, by_look, by_nothing, by_send, by_then}
use Rattle.mux_facts.proofs.Why.{is_early}
use Rattle.mux_facts.proofs.Words.{number_same, same_number}
use Rattle.group_words.specs.Houses.{home_of, is_home}
use Rattle.group_rows.specs.held_requests.specs.declared.request.Request.{Request}
use Rattle.group_rows.specs.Forwarded.{Forwarding, Sender, first_sender, forwarding_of, sender_of, sender_or, sender_waiting, token_in}
use Rattle.group_rows.specs.Rows.{forward, has_room, send_waiting, sync_bodies, sync_row}
use Rattle.group_rows.specs.Texts.{texts_of}
use Rattle.group_rows.specs.Tokens.{forwarded_text}
use Rattle.group_rows.specs.Waiting.{first_waiting, is_answered, is_meant, refuse_waiting, waiting_of, without_first, worker_behind, worker_of}
use Rattle.group_rows.proofs.Cancelling.{text_meant}
use Rattle.group_rows.proofs.Frames.{forwarding_more, waiting_more}
use Rattle.group_rows.proofs.TokenTexts.{forwarded_says}
use Rattle.group_facts.specs.Facts.{AllHeld, HasOtherId, HaveOtherIds, IsHeld, Opened}
use Rattle.group_facts.specs.Why.{IsForward, IsUnheld, Turn, Why, forwarded, greeted, had_waited, stays}
use Rattle.group_facts.proofs.Forwards.{Still, forwards_sender, still_now}
use Rattle.group_facts.proofs.Begun.{start_more}
use Rattle.group_facts.proofs.Held.{are_asked, drop_all, held_told_all, left_by, refused_one, refused_says, is_meant_other}
use Rattle.group_facts.proofs.Housed.{group_more}
use Rattle.group_facts.proofs.Numbered.{no_shutdown}
use Rattle.group_facts.proofs.Opened.{opened_did}
use Rattle.group_facts.proofs.PutOut.{homes_stay}
use Rattle.group_facts.proofs.SharedRows.{AllTold, Held, sync_told}
use Rattle.group_facts.proofs.Tellings.{Calm, tells_row, turn_more}

-- who works stays behind an out
pub worker_said : (events : List Event) (out : Out) → worker_of (events ++ said out ∷ []) ≡ worker_of events
worker_said events out = fold-append worker_behind None events (said out ∷ []) ∙ go out
  where
    go : (o : Out) → worker_behind (worker_of events) (said o) ≡ worker_of events
    go (ToEditor e body) = refl
    go (ToServer n body) = refl
    go (Spawn n g) = refl
    go (CloseEditor e) = refl
    go (EndServer n) = refl

pub worker_answered : (events : List Event) (s : ℕ) (answer : List ℕ) → worker_of (with_cause events (FromServer s answer)) ≡ None
worker_answered events s answer = fold-append worker_behind None events (heard (FromServer s answer) ∷ [])

-- a body to an editor leaves the part of a start
pub turn_told : (before : List Event) (cause : Cause) (events : List Event) (s e : ℕ) (body : List ℕ) → Turn before cause events s → Turn before cause (events ++ said (ToEditor e body) ∷ []) s
turn_told before cause events s e body (stays off) = stays off
turn_told before cause events s e body (greeted xs is) = greeted xs (filter-append (is_of_server s) events (said (ToEditor e body) ∷ []) ∙ (append-nil (server_part s events) ∙ is))

-- where a start was sent notifications and errors alone, what waits is held as it was
pub held_calm : (settings : Settings) (now : List Event) (s : ℕ) (events : List Event) → ((e : ℕ) → home_of settings e events ≡ home_of settings e now) → Still settings now s events → AllHeld settings now → AllHeld settings events
held_calm settings now s events homes still h i = record {
  each = subst (AllByRecursion (IsHeld settings i events)) (sym (still.waiting i)) (all_of (IsHeld settings i now) (IsHeld settings i events) still_held (waiting_of settings i now) (h i).each);
  apart = subst HaveOtherIds (sym (still.waiting i)) (h i).apart;
}
  where
    still_held : (q : Request) → IsHeld settings i now q → IsHeld settings i events q
    still_held q w = record {
      asker = record {
        id = (w.asker).id;
        text = (w.asker).text;
        late = ap (λ (d : Desk). is_early d.phase) (still.desks q.editor) ∙ (w.asker).late;
        waits = ap (is_open (w.asker).id) (still.opens q.editor) ∙ (w.asker).waits;
      };
      there = ap (λ (d : Desk). is_there d.phase) (still.desks q.editor) ∙ w.there;
      home = homes q.editor ∙ w.home;
      alone = still.alone q.editor (w.asker).id w.alone;
      method = w.method;
      params = w.params;
      says = w.says;
      bytes = w.bytes;
      other = w.other;
      free = w.free;
    }

-- one of them is refused, and the others wait on
removed : (settings : Settings) (g : ℕ) (events : List Event) (r : Request) (k : IsHeld settings g events r) (rs : List Request) → AllByRecursion (IsHeld settings g events) rs → AllByRecursion (HasOtherId r) rs
    → filter (λ q. not (is_meant r.editor (k.asker).id q)) (r ∷ rs) ≡ rs
removed settings g events r k rs all apart = ap (λ b. cond (not b) (r ∷ filter test rs) (filter test rs)) its ∙ others rs all apart
  where
    test : Request → Bool
    test q = not (is_meant r.editor (k.asker).id q)

    same_itself : (i : Id) → same_id i i ≡ true
    same_itself (integer a) = (bytes_eq-Decides a a).1 refl
    same_itself (text a) = (bytes_eq-Decides a a).1 refl

    its : is_meant r.editor (k.asker).id r ≡ true
    its = ap₂ (λ a o. a && option_map_or (same_id (k.asker).id) o false) (same_number r.editor) (text_meant (k.asker).id r.id (k.asker).text) ∙ same_itself (k.asker).id

    others : (qs : List Request) → AllByRecursion (IsHeld settings g events) qs → AllByRecursion (HasOtherId r) qs → filter test qs ≡ qs
    others [] h a = refl
    others (q ∷ qs) h a = ap (λ b. cond (not b) (q ∷ filter test qs) (filter test qs)) (is_meant_other r q (k.asker).id ((h.0).asker).id (k.asker).text ((h.0).asker).text a.0) ∙ ap (λ z. q ∷ z) (others qs h.1 a.1)

module _ (settings : Settings) (range : InRange settings) (before : List Event) (s : ℕ) (answer : List ℕ) (g : ℕ) (home : group_of s before ≡ Some g) (stage : (life_of s before).stage ≡ Initializing) where
  abbrev cause : Cause
  cause = FromServer s answer

  abbrev R : List Event → Out → Type 0
  R events out = Why settings before cause events out

  -- at a place where these wait
  pub record Sending (rs : List Request) (events : List Event) : Type 0 where
    pub ready : (life_of s events).stage ≡ Ready
    pub turn : Turn before cause events s
    pub opened : Opened settings events
    pub held : AllHeld settings events
    pub waiting : waiting_of settings g events ≡ rs
    pub idle : (forwarding_of settings s events).sender ≡ None
    pub nobody : worker_of events ≡ None
    pub group : group_of s events ≡ Some g
    pub last : start_of g before ≡ Some s → start_of g events ≡ Some s
    pub outs : List Out
    pub entry : events ≡ behind (with_cause before cause) outs

  module _ (r : Request) (rs : List Request) (events : List Event) (h : Sending (r ∷ rs) events) where
    all_here : AllByRecursion (IsHeld settings g events) (r ∷ rs)
    all_here = subst (AllByRecursion (IsHeld settings g events)) h.waiting (h.held g).each

    apart_here : HaveOtherIds (r ∷ rs)
    apart_here = subst HaveOtherIds h.waiting (h.held g).apart

    abbrev k : IsHeld settings g events r
    k = all_here.0

    -- Where no number is left

    abbrev refusal : List ℕ
    refusal = error_text r.id request_failed

    abbrev refused : List Event
    refused = events ++ said (ToEditor r.editor refusal) ∷ []

    refused_sending : Sending rs refused
    refused_sending = record {
      ready = ap (λ (l : Life). l.stage) (life_more s events (said (ToEditor r.editor refusal))) ∙ h.ready;
      turn = turn_told before cause events s r.editor refusal h.turn;
      opened = opened_did settings events (ToEditor r.editor refusal) h.opened;
      held = held_told_all settings events r.editor refusal h.held;
      waiting = waiting_more settings g events (said (ToEditor r.editor refusal)) ∙ (ap₂ (λ qs m. filter (λ q. not (is_answered r.editor (answered_id m) q)) qs) h.waiting (refused_says settings before cause g events r k)
          ∙ removed settings g events r k rs all_here.1 apart_here.0);
      idle = ap (λ (x : Forwarding). x.sender) (forwarding_more settings s events (said (ToEditor r.editor refusal))) ∙ h.idle;
      nobody = worker_said events (ToEditor r.editor refusal) ∙ h.nobody;
      group = group_more s events (said (ToEditor r.editor refusal)) ∙ h.group;
      last = λ at. start_more g events (said (ToEditor r.editor refusal)) ∙ h.last at;
      outs = h.outs ++ ToEditor r.editor refusal ∷ [];
      entry = ap (λ z. z ++ said (ToEditor r.editor refusal) ∷ []) h.entry ∙ sym (behind_both (with_cause before cause) h.outs (ToEditor r.editor refusal ∷ []));
    }

    -- Where one is left

    abbrev bodies : List (List ℕ)
    bodies = sync_bodies settings.limits.versions (λ u. held_at s u events) r.editor (texts_of settings g events).opens

    itself_held : (os : List Open) → Held settings range before cause events s (λ u. held_at s u events) r.editor events os
    itself_held [] = tt
    itself_held (o ∷ os) = (λ mine. refl, itself_held os)

    told : AllTold settings range before cause events s events bodies
    told = sync_told settings range before cause events s (λ u. held_at s u events) r.editor (texts_of settings g events).opens (h.opened g).orderly.once (h.opened g).spelt events
        (record { still = still_now settings events s h.ready; turn = h.turn }) (itself_held (texts_of settings g events).opens)

    abbrev sync : List Out
    sync = map (λ b. ToServer s b) bodies

    abbrev synced : List Event
    synced = behind events sync

    calm : Calm settings range before cause events s synced
    calm = told.calm

    abbrev still : Still settings events s synced
    still = calm.still

    -- a body to the start keeps these
    record Kept (places : List Event) : Type 0 where
      opened : Opened settings places
      nobody : worker_of places ≡ None
      group : group_of s places ≡ Some g
      last : start_of g before ≡ Some s → start_of g places ≡ Some s

    kept_sent : (places : List Event) (n : ℕ) (body : List ℕ) → Kept places → Kept (places ++ said (ToServer n body) ∷ [])
    kept_sent places n body q = record {
      opened = opened_did settings places (ToServer n body) q.opened;
      nobody = worker_said places (ToServer n body) ∙ q.nobody;
      group = group_more s places (said (ToServer n body)) ∙ q.group;
      last = λ at. start_more g places (said (ToServer n body)) ∙ q.last at;
    }

    kept_synced : (bs : List (List ℕ)) (places : List Event) → Kept places → Kept (behind places (map (λ b. ToServer s b) bs))
    kept_synced [] places q = subst Kept (sym (append-nil places)) q
    kept_synced (b ∷ bs) places q = subst Kept (append_assoc places (said (ToServer s b) ∷ []) (map said (map (λ b. ToServer s b) bs))) (kept_synced bs (places ++ said (ToServer s b) ∷ []) (kept_sent places s b q))

    there : Kept synced
    there = kept_synced bodies events (record { opened = h.opened; nobody = h.nobody; group = h.group; last = h.last })

    -- what waits is held behind the sync too
    held_synced : AllHeld settings synced
    held_synced = held_calm settings events s synced (λ e. homes_stay settings e events sync) still h.held

    module _ (room : has_room settings s events ≡ true) where
      abbrev next : ℕ
      next = (forwarding_of settings s synced).next

      abbrev text_now : List ℕ
      text_now = forwarded_text next r.body

      abbrev gone : List Event
      gone = synced ++ said (ToServer s text_now) ∷ []

      abbrev sender : Sender
      sender = record { editor = r.editor; id = id_bytes r.body; work = token_in (codes "workDoneToken") r.body; partial = token_in (codes "partialResultToken") r.body }

      room_there : nat_lt next settings.limits.requests ≡ true
      room_there = ap (λ n. nat_lt n settings.limits.requests) still.next ∙ room

      low : next < 2 ^ 64
      low = let below : next < settings.limits.requests = ltb-true next settings.limits.requests room_there in let wide : settings.limits.requests < 2 ^ 32 = range.requests in omega (arith, below, wide)

      new : (new : Option Json) × (message_of text_now ≡ request (integer (decimal next)) k.method new)
      new = forwarded_says next r.body (k.asker).id k.method k.params low k.says

      waiting_synced : waiting_of settings g synced ≡ r ∷ rs
      waiting_synced = still.waiting g ∙ h.waiting

      first : first_waiting settings s synced ≡ Some r
      first = ap (λ o. option_and_then (λ i. slice_get (waiting_of settings i synced) 0) o) there.group ∙ ap (λ qs. slice_get qs 0) waiting_synced

      own_sender : sender_waiting r ≡ Some sender
      own_sender = ap (sender_of r.editor r.body) k.says

      -- what waits behind it
      waiting_gone : waiting_of settings g gone ≡ rs
      waiting_gone = waiting_more settings g synced (said (ToServer s text_now))
          ∙ (ap (λ o. if is_home g o then without_first (worker_of synced) (message_of text_now) (waiting_of settings g synced) else waiting_of settings g synced) there.group
          ∙ (ap (λ b. if b then without_first (worker_of synced) (message_of text_now) (waiting_of settings g synced) else waiting_of settings g synced) (same_number g)
          ∙ (ap₂ (λ w m. without_first w m (waiting_of settings g synced)) there.nobody new.1
          ∙ (ap (λ b. if b then waiting_of settings g synced else drop 1 (waiting_of settings g synced)) k.other ∙ ap (drop 1) waiting_synced))))

      -- its id is of no other one
      unheld : IsUnheld settings gone r.editor (k.asker).id
      unheld i = go (nat_eq i g) refl
        where
          Away : List Request → Type 0
          Away qs = AllByRecursion (λ (q : Request). q.editor ≡ r.editor → IsIdText (k.asker).id q.id → ⊥) qs

          beside : AllByRecursion (λ (q : Request). q.editor ≡ r.editor → IsIdText (k.asker).id q.id → ⊥) rs
          beside = all_of (HasOtherId r) (λ (q : Request). q.editor ≡ r.editor → IsIdText (k.asker).id q.id → ⊥) (λ q a mine its. a (k.asker).id mine (k.asker).text its) rs apart_here.0

          elsewhere : nat_eq i g ≡ false → (q : Request) → IsHeld settings i synced q → q.editor ≡ r.editor → IsIdText (k.asker).id q.id → ⊥
          elsewhere other q w mine its = never (sym (ap (λ z. nat_eq z g) (same_home (sym w.home ∙ (ap (λ z. home_of settings z synced) mine ∙ (homes_stay settings r.editor events sync ∙ k.home)))) ∙ same_number g) ∙ other)
            where
              same_home : Some i ≡ Some g → i ≡ g
              same_home e = cc

          go : (b : Bool) → nat_eq i g ≡ b → Away (waiting_of settings i gone)
          go true same = subst Away (sym (ap (λ z. waiting_of settings z gone) (number_same i g same) ∙ waiting_gone)) beside
          go false other = subst Away (sym (waiting_more settings i synced (said (ToServer s text_now))))
              (left_by Away (drop_all (λ (q : Request). q.editor ≡ r.editor → IsIdText (k.asker).id q.id → ⊥)) (is_home i (group_of s synced)) (worker_of synced) (message_of text_now) (waiting_of settings i synced)
              (all_of (IsHeld settings i synced) (λ (q : Request). q.editor ≡ r.editor → IsIdText (k.asker).id q.id → ⊥) (elsewhere other) (waiting_of settings i synced) (held_synced i).each))

      is_forward : IsForward settings before cause synced s text_now
      is_forward = record {
        sender = sender;
        asked = r.body;
        own = own_sender;
        free = k.free;
        going = had_waited (record {
          group = g;
          answer = answer;
          request = r;
          from = refl;
          home = home;
          stage = stage;
          member = there.group;
          turn = calm.turn;
          last = there.last;
          first = first;
          editor = refl;
          bytes = k.bytes;
          body = refl;
          outs = h.outs;
          earlier = events;
          entry = h.entry;
          place = refl;
        });
        bytes = refl;
        id = (k.asker).id;
        method = k.method;
        params = new.0;
        at_work = ap₂ sender_or (still.sender ∙ h.idle) (ap (option_and_then sender_waiting) first) ∙ own_sender;
        says = new.1;
        other = k.other;
        room = room_there;
        ready = still.ready;
        text = subst (IsIdText (k.asker).id) k.bytes (k.asker).text;
        waits = ap (is_open (k.asker).id) (still.opens r.editor) ∙ (k.asker).waits;
        late = ap (λ (d : Desk). is_early d.phase) (still.desks r.editor) ∙ (k.asker).late;
        alone = still.alone r.editor (k.asker).id k.alone;
        unheld = unheld;
      }

      gone_sending : Sending rs gone
      gone_sending = record {
        ready = ap (λ (l : Life). l.stage) (life_more s synced (said (ToServer s text_now)))
            ∙ (ap (λ b. (if b then record { stage = stage_told (life_of s synced).stage (message_of text_now); started = (life_of s synced).started } else life_of s synced).stage) (same_number s)
            ∙ (ap₂ (λ z m. stage_told z m) still.ready new.1 ∙ ap (λ b. if b then Stopping else Ready) (no_shutdown k.method k.other)));
        turn = turn_more before cause synced s text_now calm.turn;
        opened = opened_did settings synced (ToServer s text_now) there.opened;
        held = λ i. are_asked settings i synced (held_synced i) before cause s text_now is_forward;
        waiting = waiting_gone;
        idle = ap (λ (x : Forwarding). x.sender) (forwarding_more settings s synced (said (ToServer s text_now))) ∙ (forwards_sender (nat_eq s s) (first_sender settings s synced) (forwarding_of settings s synced) (message_of text_now) ∙ (still.sender ∙ h.idle));
        nobody = worker_said synced (ToServer s text_now) ∙ there.nobody;
        group = group_more s synced (said (ToServer s text_now)) ∙ there.group;
        last = λ at. start_more g synced (said (ToServer s text_now)) ∙ there.last at;
        outs = (h.outs ++ sync) ++ ToServer s text_now ∷ [];
        entry = ap (λ z. z ++ said (ToServer s text_now) ∷ []) (ap (λ z. behind z sync) h.entry ∙ sym (behind_both (with_cause before cause) h.outs sync)) ∙ sym (behind_both (with_cause before cause) (h.outs ++ sync) (ToServer s text_now ∷ []));
      }

      sent_outs : outs (sync_row settings events g s r.editor ⨾ forward settings s r.body) events ≡ sync ++ ToServer s text_now ∷ []
      sent_outs = ap (λ z. z ++ ToServer s (forwarded_text (forwarding_of settings s (behind events z)).next r.body) ∷ []) (outs_to_start s bodies events)

      goes_why : Because R events (sync_row settings events g s r.editor ⨾ forward settings s r.body)
      goes_why = by_then (tells_row settings range before cause events s events bodies told) (subst (λ z. Because R (behind events z) (forward settings s r.body)) (sym (outs_to_start s bodies events)) (by_look (by_send (forwarded is_forward))))

      goes_sending : Sending rs (behind events (outs (sync_row settings events g s r.editor ⨾ forward settings s r.body) events))
      goes_sending = subst (λ z. Sending rs (behind events z)) (sym sent_outs) (subst (Sending rs) (sym (behind_both events sync (ToServer s text_now ∷ []))) gone_sending)

    one_why : Because R events (send_waiting settings g s r)
    one_why = by_look (by_choose (λ room. goes_why room) (λ full. refused_one settings before cause g events r k))

    one_sending : Sending rs (behind events (outs (send_waiting settings g s r) events))
    one_sending = go (has_room settings s events) refl
      where
        go : (b : Bool) → has_room settings s events ≡ b → Sending rs (behind events (outs (choose b (sync_row settings events g s r.editor ⨾ forward settings s r.body) (refuse_waiting r)) events))
        go true room = goes_sending room
        go false full = refused_sending

  pub each_why : (rs : List Request) (events : List Event) → Sending rs events → Because R events (each (send_waiting settings g s) rs)
  each_why [] events h = by_nothing
  each_why (r ∷ rs) events h = by_then (one_why r rs events h) (each_why rs (behind events (outs (send_waiting settings g s r) events)) (one_sending r rs events h))
