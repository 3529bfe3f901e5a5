-- A request that was sent on to the last start of its editor's group, or that waits until that is ready: until it is answered.
use Rattle.std.proofs.Common.{◌≡◌, ℕ, Bool, true, false, not, ◌&&◌, cond, List, [], ◌∷◌, ◌++◌, filter, nat_eq, if◌then◌else◌, Option, Some, None, ◌⊎◌, inl, inr, refl, sym, ◌∙◌, ap, ap₂, subst, decimal, codes}
use Rattle.std.specs.Prelude.{drop, slice_get}
use Rattle.std.specs.Option.{option_and_then, option_map_or}
use Rattle.mux_history.specs.declared.cause.Cause.{Cause}
use Rattle.mux_history.specs.declared.cause.Cause.TheVariants.{Joined, FromEditor, EditorGone, Started, Drained, Tick}
use Rattle.mux_history.specs.declared.cause.Why as link
use Rattle.mux_history.specs.declared.out.Out.TheVariants.{ToEditor, ToServer, Spawn, CloseEditor, EndServer}
use Rattle.document_model.proofs.Written.{Spoken, spoken}
use Rattle.document_model.proofs.ScalarTrees.{either_way}
use Rattle.rpc_message.specs.Message.{Message, request, Id, id_bytes, integer, message_of, same_id, notification, result, error, not_json, not_message}
use Rattle.rpc_message.specs.ValueTexts.{IsIdText}
use Rattle.event_model.specs.Event.{Event, did, heard, said, with_cause}
use Rattle.event_model.specs.Phases.{desk_of}
use Rattle.event_model.specs.Requests.{answered_id, is_own, next_number}
use Rattle.event_model.specs.Settings.{Settings}
use Rattle.event_model.specs.Spawns.{group_of, start_of}
use Rattle.event_model.specs.Stages.{is_ended}
use Rattle.mux_facts.specs.Allowed.{is_response}
use Rattle.mux_facts.proofs.Words.{id_same, number_same, same_number}
use Rattle.group_words.specs.Houses.{home_of, house_of, is_home, placed_for, places}
use Rattle.group_words.specs.Placing.{home_by}
use Rattle.group_words.proofs.Frames.{home_more, home_stays}
use Rattle.group_rows.specs.held_requests.specs.declared.request.Request.{Request}
use Rattle.group_rows.specs.held_requests.specs.Tables.{asked, is_of}
use Rattle.group_rows.specs.Forwarded.{Forwarded, Forwarding, first_sender, forwarding_of, numbered}
use Rattle.group_rows.specs.Waiting.{id_meant, is_answered, waiting_next, waiting_of, waits, without_first, worker_of}
use Rattle.group_rows.proofs.Cancelling.{text_meant}
use Rattle.group_rows.proofs.Frames.{touches_waiting, waiting_more, waiting_stays}
use Rattle.group_rows.proofs.Moments.{asks}
use Rattle.group_facts.specs.Settled.{IsKeptBack}
use Rattle.group_facts.specs.Why.{Going, IsAwaited, IsForward, WhyToServer, at_once, had_waited, begins, cancels, exits, forwarded, greets, conveys, notes, responds, shuts, tells, resolves, cancels_work}
use Rattle.group_facts.proofs.Begun.{start_did}
use Rattle.group_facts.proofs.Forwards.{more_requests}
use Rattle.group_facts.proofs.Held.{left_quiet, swapped_numbers}
use Rattle.group_facts.proofs.LastStarts.{AllLast}
use Rattle.group_facts.proofs.Numbers.{forwarding_sent}
use Rattle.group_facts.proofs.PutOut.{home_did}
use Rattle.group_facts.proofs.Sent.{IsOf, OneOf, Placed, SentAt, one_last, one_left, one_place, sent_did, sent_drained, sent_gone, sent_heard, sent_joined, sent_spawn, sent_started, sent_ticked}
use Rattle.group_facts.proofs.SentOn.{id_at_work, worker_still}
use Rattle.json_text.specs.Json.{Json}

-- One that waits

abbrev pub IsBy : ℕ → Id → Request → Type 0
IsBy e id r = (r.editor ≡ e) × IsIdText id r.id

pub record WaitsAt (settings : Settings) (events : List Event) (e : ℕ) (id : Id) : Type 0 where
  pub group : ℕ
  pub home : home_of settings e events ≡ Some group
  pub among : OneOf (IsBy e id) (waiting_of settings group events)

pub kept_back : (settings : Settings) (events : List Event) (e : ℕ) (id : Id) → WaitsAt settings events e id → IsKeptBack settings events e id
kept_back settings events e id k =
    let p : Placed (IsBy e id) (waiting_of settings k.group events) = one_place (IsBy e id) (waiting_of settings k.group events) k.among in
    record { group = k.group; home = k.home; place = p.place; request = p.item; at = p.at; editor = p.holds.0; text = p.holds.1 }

-- it was sent on, or waits
abbrev pub TakenAt : Settings → List Event → ℕ → Id → Type 0
TakenAt settings events e id = SentAt settings events e id ⊎ WaitsAt settings events e id

one_filtered : {X : Type 0} (P : X → Type 0) (test : X → Bool) → ((x : X) → P x → test x ≡ true) → (xs : List X) → OneOf P xs → OneOf P (filter test xs)
one_filtered P test keeps [] h = absurd h
one_filtered P test keeps (x ∷ xs) (inl p) = subst (λ b. OneOf P (cond b (x ∷ filter test xs) (filter test xs))) (sym (keeps x p)) (inl p)
one_filtered P test keeps (x ∷ xs) (inr q) = go (test x) (one_filtered P test keeps xs q)
  where
    go : (b : Bool) → OneOf P (filter test xs) → OneOf P (cond b (x ∷ filter test xs) (filter test xs))
    go true k = inr k
    go false k = k

-- A body to a start that has its reason

module _ (settings : Settings) (before : List Event) (cause : Cause) (events : List Event) (s : ℕ) (body : List ℕ) where
  own_asks : (i : Id) (method : List ℕ) (params : Option Json) → message_of body ≡ request i method params → is_own method ≡ true → asks (said (ToServer s body)) ≡ false
  own_asks i method params says own = ap (λ m. asks (did (ToServer s body) m)) says ∙ ap not own

  note_asks : (method : List ℕ) (params : Option Json) → message_of body ≡ notification method params → asks (said (ToServer s body)) ≡ false
  note_asks method params says = ap (λ m. asks (did (ToServer s body) m)) says

  answer_asks : (m : Message) → is_response m ≡ true → asks (did (ToServer s body) m) ≡ false
  answer_asks (result i r) h = refl
  answer_asks (error i x) h = refl
  answer_asks (request i method params) h = absurd (cc)
  answer_asks (notification method params) h = absurd (cc)
  answer_asks not_json h = absurd (cc)
  answer_asks not_message h = absurd (cc)

  -- it is an editor's request, or none
  pub forward_or_silent : WhyToServer settings before cause events s body → IsForward settings before cause events s body ⊎ (asks (said (ToServer s body)) ≡ false)
  forward_or_silent (begins k) = inr (own_asks (integer (codes "1")) (codes "initialize") k.params k.says refl)
  forward_or_silent (greets k) = inr (note_asks (codes "initialized") k.params k.says)
  forward_or_silent (conveys k) = inr (note_asks (codes "workspace/didChangeConfiguration") k.params k.says)
  forward_or_silent (forwarded k) = inl k
  forward_or_silent (notes k) = inr (note_asks k.method k.params k.says)
  forward_or_silent (tells k) = let m : Spoken (message_of body) = spoken (message_of body) k.spoken in inr (note_asks m.method m.params m.is)
  forward_or_silent (cancels k) = inr (note_asks (codes "$/cancelRequest") (Some k.params) k.says)
  forward_or_silent (cancels_work k) = inr (note_asks (codes "window/workDoneProgress/cancel") k.params k.says)
  forward_or_silent (responds k) = inr (answer_asks (message_of body) k.response)
  forward_or_silent (resolves k) = inr (answer_asks (message_of body) k.response)
  forward_or_silent (exits k) = inr (note_asks (codes "exit") None k.says)
  forward_or_silent (shuts k) = inr (own_asks (integer (decimal (next_number s events))) (codes "shutdown") None k.says refl)

-- where an editor is at work none is taken
worked : (n : ℕ) (m : Message) (rs : List Request) → without_first (Some n) m rs ≡ rs
worked n m rs = refl

module _ (settings : Settings) (e : ℕ) (id : Id) where
  abbrev Among : List Request → Type 0
  Among rs = OneOf (IsBy e id) rs

  -- One event more

  waits_more : (events : List Event) (event : Event) → ((g : ℕ) → home_of settings e events ≡ Some g → home_of settings e (events ++ event ∷ []) ≡ Some g)
      → ((g : ℕ) → Among (waiting_of settings g events) → Among (waiting_next settings g events (waiting_of settings g events) event)) → WaitsAt settings events e id → WaitsAt settings (events ++ event ∷ []) e id
  waits_more events event homes stays k = record { group = k.group; home = homes k.group k.home; among = subst Among (sym (waiting_more settings k.group events event)) (stays k.group k.among) }

  -- that what waits doesn't speak of
  pub waits_quiet : (events : List Event) (event : Event) → touches_waiting event ≡ false → home_of settings e (events ++ event ∷ []) ≡ home_of settings e events → WaitsAt settings events e id → WaitsAt settings (events ++ event ∷ []) e id
  waits_quiet events event off home k = record { group = k.group; home = home ∙ k.home; among = subst Among (sym (waiting_stays settings k.group events event off)) k.among }

  -- a body to an editor that doesn't answer it
  pub waits_told : (events : List Event) (n : ℕ) (body : List ℕ) → (nat_eq n e ≡ true → answered_id (message_of body) ≡ Some id → ⊥) → WaitsAt settings events e id → WaitsAt settings (events ++ said (ToEditor n body) ∷ []) e id
  waits_told events n body away k = waits_more events (said (ToEditor n body)) (λ g at. home_did settings e events (ToEditor n body) ∙ at)
      (λ g h. one_filtered (IsBy e id) (λ r. not (is_answered n (answered_id (message_of body)) r)) (λ r mine. ap not (kept (answered_id (message_of body)) away r mine)) (waiting_of settings g events) h) k
    where
      kept : (o : Option Id) → (nat_eq n e ≡ true → o ≡ Some id → ⊥) → (r : Request) → IsBy e id r → is_answered n o r ≡ false
      kept None away r mine = refl
      kept (Some i) away r mine = go (nat_eq r.editor n) refl (same_id i id) refl
        where
          go : (a : Bool) → nat_eq r.editor n ≡ a → (b : Bool) → same_id i id ≡ b → (a && option_map_or (same_id i) (id_meant r.id) false) ≡ false
          go false other b is = refl
          go true same true is = absurd (away (ap (λ z. nat_eq z e) (sym (number_same r.editor n same) ∙ mine.0) ∙ same_number e) (ap (λ z. Some z) (id_same i id is)))
          go true same false is = ap (λ o. option_map_or (same_id i) o false) (text_meant id r.id mine.1) ∙ is

  -- the end of another editor's link
  pub waits_closed : (events : List Event) (n : ℕ) → nat_eq n e ≡ false → WaitsAt settings events e id → WaitsAt settings (events ++ said (CloseEditor n) ∷ []) e id
  waits_closed events n other k = waits_more events (said (CloseEditor n)) (λ g at. home_did settings e events (CloseEditor n) ∙ at)
      (λ g h. one_filtered (IsBy e id) (λ r. not (is_of n r)) (λ r mine. ap not (ap (λ z. nat_eq z n) mine.0 ∙ swapped_numbers n e other)) (waiting_of settings g events) h) k

  -- a body to a start, while an editor's message is at work
  waits_sent : (events : List Event) (s : ℕ) (body : List ℕ) (n : ℕ) → worker_of events ≡ Some n → WaitsAt settings events e id → WaitsAt settings (events ++ said (ToServer s body) ∷ []) e id
  waits_sent events s body n works k = waits_more events (said (ToServer s body)) (λ g at. home_did settings e events (ToServer s body) ∙ at)
      (λ g h. subst (λ w. Among (if is_home g (group_of s events) then without_first w (message_of body) (waiting_of settings g events) else waiting_of settings g events)) (sym works) (go (is_home g (group_of s events)) (waiting_of settings g events) h)) k
    where
      go : (b : Bool) (rs : List Request) → Among rs → Among (if b then without_first (Some n) (message_of body) rs else rs)
      go true rs h = subst Among (sym (worked n (message_of body) rs)) h
      go false rs h = h

  -- one that is no editor's request
  pub waits_silent : (events : List Event) (s : ℕ) (body : List ℕ) → asks (said (ToServer s body)) ≡ false → WaitsAt settings events e id → WaitsAt settings (events ++ said (ToServer s body) ∷ []) e id
  waits_silent events s body none k = waits_more events (said (ToServer s body)) (λ g at. home_did settings e events (ToServer s body) ∙ at)
      (λ g h. subst Among (sym (left_quiet (is_home g (group_of s events)) (worker_of events) s body (message_of body) (waiting_of settings g events) refl none)) h) k

  -- An editor's request, which may be the one that waited

  module _ (before : List Event) (cause : Cause) (lasts : AllLast before) (events : List Event) (s : ℕ) (body : List ℕ) (k : IsForward settings before cause events s body) where
    abbrev gone : List Event
    gone = events ++ said (ToServer s body) ∷ []

    abbrev list_now : List Forwarded
    list_now = (forwarding_of settings s events).open_requests

    abbrev next : ℕ
    next = (forwarding_of settings s events).next

    list_gone : (forwarding_of settings s gone).open_requests ≡ list_now ++ numbered (Some k.sender) next
    list_gone = ap (λ (x : Forwarding). x.open_requests) (forwarding_sent settings events s body (request (integer (decimal next)) k.method k.params) k.says
        ∙ ap (λ c. if c then forwarding_of settings s events else more_requests (first_sender settings s events) (forwarding_of settings s events)) k.other)
        ∙ ap (λ o. list_now ++ numbered o next) k.at_work

    module _ (w : IsAwaited settings before cause events s (k.sender).editor k.asked) (p : WaitsAt settings events e id) where
      abbrev held : List Request
      held = waiting_of settings p.group events

      abbrev left : Bool → List Request
      left b = if b then without_first (worker_of events) (message_of body) held else held

      made : Among (left (is_home p.group (group_of s events))) → TakenAt settings gone e id
      made h = inr (record { group = p.group; home = home_did settings e events (ToServer s body) ∙ p.home; among = subst Among (sym (waiting_more settings p.group events (said (ToServer s body)))) h })

      module _ (on : is_home p.group (group_of s events) ≡ true) where
        same : p.group ≡ w.group
        same = sym (number_same w.group p.group (ap (is_home p.group) (sym w.member) ∙ on))

        sent_now : (q : Request) (qs : List Request) → held ≡ q ∷ qs → IsBy e id q → SentAt settings gone e id
        sent_now q qs is mine = record {
          group = p.group;
          start = s;
          home = home_did settings e events (ToServer s body) ∙ p.home;
          last = start_did p.group events (ToServer s body) tt ∙ (ap (λ g. start_of g events) same ∙ w.last (lasts s w.group w.home (ap is_ended w.stage)));
          among = subst (OneOf (IsOf e id)) (sym list_gone) (one_last (IsOf e id) list_now (record { number = next; editor = (k.sender).editor; id = (k.sender).id; work = (k.sender).work; partial = (k.sender).partial; cancelled = false }) (editor, text));
        }
          where
            it : q ≡ w.request
            it = let both : ◌≡◌ {A = Option Request} (Some q) (Some w.request) =
                sym (ap (λ rs. slice_get rs 0) is) ∙ (ap (λ g. slice_get (waiting_of settings g events) 0) same ∙ (sym (ap (λ o. option_and_then (λ g. slice_get (waiting_of settings g events) 0) o) w.member) ∙ w.first)) in cc

            editor : (k.sender).editor ≡ e
            editor = sym w.editor ∙ (ap (λ (r : Request). r.editor) (sym it) ∙ mine.0)

            text : IsIdText id (k.sender).id
            text = subst (IsIdText id) (ap (λ (r : Request). r.id) it ∙ (w.bytes ∙ id_at_work (k.sender).editor k.asked (message_of k.asked) k.sender k.own)) mine.1

        by_list : worker_of events ≡ None → (qs : List Request) → held ≡ qs → Among qs → TakenAt settings gone e id
        by_list idle [] is h = absurd h
        by_list idle (q ∷ qs) is (inl mine) = inl (sent_now q qs is mine)
        by_list idle (q ∷ qs) is (inr h) = made (subst Among (sym (pops ∙ ap (drop 1) is)) h)
          where
            pops : left (is_home p.group (group_of s events)) ≡ drop 1 held
            pops = ap left on ∙ (ap₂ (λ o m. without_first o m held) idle k.says ∙ ap (λ b. if b then held else drop 1 held) k.other)

        by_worker : (o : Option ℕ) → worker_of events ≡ o → TakenAt settings gone e id
        by_worker None idle = by_list idle held refl p.among
        by_worker (Some n) works = inr (waits_sent events s body n works p)

      popped : TakenAt settings gone e id
      popped = go (is_home p.group (group_of s events)) refl
        where
          go : (b : Bool) → is_home p.group (group_of s events) ≡ b → TakenAt settings gone e id
          go true on = by_worker on (worker_of events) refl
          go false off = made (subst (λ b. Among (left b)) (sym off) p.among)

    taken_on : Going settings before cause events s (k.sender).editor k.asked → WaitsAt settings events e id → TakenAt settings gone e id
    taken_on (at_once from synced) p = inr (waits_sent events s body (k.sender).editor (ap worker_of synced.place ∙ worker_still before (k.sender).editor k.asked _) p)
    taken_on (had_waited w) p = popped w p

  -- Behind every out

  pub taken_told : (events : List Event) (n : ℕ) (body : List ℕ) → (nat_eq n e ≡ true → answered_id (message_of body) ≡ Some id → ⊥) → TakenAt settings events e id → TakenAt settings (events ++ said (ToEditor n body) ∷ []) e id
  taken_told events n body away (inl k) = inl (sent_did settings e id events (ToEditor n body) tt k)
  taken_told events n body away (inr k) = inr (waits_told events n body away k)

  pub taken_closed : (events : List Event) (n : ℕ) → nat_eq n e ≡ false → TakenAt settings events e id → TakenAt settings (events ++ said (CloseEditor n) ∷ []) e id
  taken_closed events n other (inl k) = inl (sent_did settings e id events (CloseEditor n) tt k)
  taken_closed events n other (inr k) = inr (waits_closed events n other k)

  pub taken_ended : (events : List Event) (s : ℕ) → TakenAt settings events e id → TakenAt settings (events ++ said (EndServer s) ∷ []) e id
  taken_ended events s (inl k) = inl (sent_did settings e id events (EndServer s) tt k)
  taken_ended events s (inr k) = inr (waits_quiet events (said (EndServer s)) refl (home_did settings e events (EndServer s)) k)

  pub taken_spawned : (events : List Event) (n g : ℕ) → start_of g events ≡ None → TakenAt settings events e id → TakenAt settings (events ++ said (Spawn n g) ∷ []) e id
  taken_spawned events n g none (inl k) = inl (sent_spawn settings e id events n g none k)
  taken_spawned events n g none (inr k) = inr (waits_quiet events (said (Spawn n g)) refl (home_did settings e events (Spawn n g)) k)

  pub taken_sent : (events : List Event) (s : ℕ) (body : List ℕ) (n : ℕ) → worker_of events ≡ Some n → TakenAt settings events e id → TakenAt settings (events ++ said (ToServer s body) ∷ []) e id
  taken_sent events s body n works (inl k) = inl (sent_did settings e id events (ToServer s body) tt k)
  taken_sent events s body n works (inr k) = inr (waits_sent events s body n works k)

  -- a body to a start that has its reason
  module _ (before : List Event) (cause : Cause) (lasts : AllLast before) (events : List Event) (s : ℕ) (body : List ℕ) where
    waits_by : IsForward settings before cause events s body ⊎ (asks (said (ToServer s body)) ≡ false) → WaitsAt settings events e id → TakenAt settings (events ++ said (ToServer s body) ∷ []) e id
    waits_by (inl k) p = taken_on before cause lasts events s body k k.going p
    waits_by (inr none) p = inr (waits_silent events s body none p)

    pub taken_by : WhyToServer settings before cause events s body → TakenAt settings events e id → TakenAt settings (events ++ said (ToServer s body) ∷ []) e id
    taken_by why (inl k) = inl (sent_did settings e id events (ToServer s body) tt k)
    taken_by why (inr k) = waits_by (forward_or_silent settings before cause events s body why) k

  -- Behind every cause

  pub waits_took : (events : List Event) (cause : Cause) → touches_waiting (heard cause) ≡ false → home_of settings e (with_cause events cause) ≡ home_of settings e events → WaitsAt settings events e id → WaitsAt settings (with_cause events cause) e id
  waits_took events cause off home k = waits_quiet events (heard cause) off home k

  pub taken_joined : (events : List Event) (n : ℕ) → TakenAt settings events e id → TakenAt settings (with_cause events (Joined n)) e id
  taken_joined events n (inl k) = inl (sent_joined settings e id events n k)
  taken_joined events n (inr k) = inr (waits_took events (Joined n) refl (home_stays settings e events (heard (Joined n)) refl) k)

  pub taken_started : (events : List Event) (n : ℕ) → TakenAt settings events e id → TakenAt settings (with_cause events (Started n)) e id
  taken_started events n (inl k) = inl (sent_started settings e id events n k)
  taken_started events n (inr k) = inr (waits_took events (Started n) refl (home_stays settings e events (heard (Started n)) refl) k)

  pub taken_drained : (events : List Event) (n bytes : ℕ) → TakenAt settings events e id → TakenAt settings (with_cause events (Drained n bytes)) e id
  taken_drained events n bytes (inl k) = inl (sent_drained settings e id events n bytes k)
  taken_drained events n bytes (inr k) = inr (waits_took events (Drained n bytes) refl (home_stays settings e events (heard (Drained n bytes)) refl) k)

  pub taken_ticked : (events : List Event) (t : ℕ) → TakenAt settings events e id → TakenAt settings (with_cause events (Tick t)) e id
  taken_ticked events t (inl k) = inl (sent_ticked settings e id events t k)
  taken_ticked events t (inr k) = inr (waits_took events (Tick t) refl (home_stays settings e events (heard (Tick t)) refl) k)

  pub taken_gone : (events : List Event) (n : ℕ) (why : link.Why) → nat_eq n e ≡ false → TakenAt settings events e id → TakenAt settings (with_cause events (EditorGone n why)) e id
  taken_gone events n why other (inl k) = inl (sent_gone settings e id events n why other k)
  taken_gone events n why other (inr k) = inr (waits_more events (heard (EditorGone n why)) (λ g at. home_more settings e events (heard (EditorGone n why)) ∙ ap (λ b. if b then None else home_of settings e events) other ∙ at)
      (λ g h. one_filtered (IsBy e id) (λ r. not (is_of n r)) (λ r mine. ap not (ap (λ z. nat_eq z n) mine.0 ∙ swapped_numbers n e other)) (waiting_of settings g events) h) k)

  pub taken_heard : (events : List Event) (n : ℕ) (body : List ℕ) → (nat_eq n e && places (desk_of n events).phase (message_of body)) ≡ false → TakenAt settings events e id → TakenAt settings (with_cause events (FromEditor n body)) e id
  taken_heard events n body off (inl k) = inl (sent_heard settings e id events n body off k)
  taken_heard events n body off (inr k) = inr (waits_more events (heard (FromEditor n body)) (λ g at. home_more settings e events (heard (FromEditor n body))
      ∙ ap (λ b. if b then home_by (placed_for settings events n body (house_of settings events).groups) (home_of settings e events) else home_of settings e events) off ∙ at)
      (λ g h. either_way Among (waits settings g events n body (message_of body) (waiting_of settings g events)) (waiting_of settings g events ++ asked n (id_bytes body) body ∷ []) (waiting_of settings g events)
      (one_left (IsBy e id) (waiting_of settings g events) (asked n (id_bytes body) body ∷ []) h) h) k)
