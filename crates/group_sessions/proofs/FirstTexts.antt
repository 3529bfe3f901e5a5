-- S2: each request that waited stands, where it goes to the start, on its editor's own texts.
use Rattle.std.proofs.Common.{◌≡◌, ℕ, ◌<◌, ◌^◌, Bool, true, false, not, ◌&&◌, List, [], ◌∷◌, ◌++◌, append-nil, append_assoc, decimal, map, find, nat_eq, nat_lt, if◌then◌else◌, Option, Some, None, refl, sym, ◌∙◌, ap, ap₂, subst, arith, ltb-true}
use Rattle.std.specs.Prelude.{drop, slice_get}
use Rattle.std.specs.List.{AllByRecursion}
use Rattle.std.specs.Option.{option_and_then, option_map}
use Rattle.json_text.specs.Json.{Json}
use Rattle.position_codec.specs.declared.Encoding.{Encoding}
use Rattle.document_model.specs.Helds.{HeldText}
use Rattle.document_model.specs.Opens.{Open, holder, is_open_at}
use Rattle.document_model.specs.Sayings.{saying_of, speaks}
use Rattle.document_model.specs.Texts.{Texts, found}
use Rattle.document_model.proofs.Spoken.{AllSpeak}
use Rattle.document_laws.specs.Follows.{Held, Matches, texts_in, told_outs}
use Rattle.focus_switch.specs.Documents.{Documents, version_held}
use Rattle.focus_switch.specs.Rows.{sync_row}
use Rattle.mux_history.specs.declared.out.Out.{Out}
use Rattle.mux_history.specs.declared.out.Out.TheVariants.{ToEditor, ToServer, Spawn, CloseEditor, EndServer}
use Rattle.rpc_message.specs.Message.{Id, Message, request, integer, message_of, notification}
use Rattle.rpc_message.specs.Texts.{error_text, request_failed}
use Rattle.event_model.specs.Event.{Event, behind, said, did, heard, with_cause}
use Rattle.event_model.specs.Requests.{is_own}
use Rattle.event_model.specs.Row.{each, outs, choose, ◌⨾◌}
use Rattle.event_model.specs.Settings.{Settings}
use Rattle.event_model.specs.Spawns.{group_of}
use Rattle.event_model.proofs.Frames.{never}
use Rattle.mux_model.specs.Documents as starts
use Rattle.mux_model.specs.Documents.{Sent, held_at}
use Rattle.mux_model.proofs.DocumentFolds.{outs_to_start}
use Rattle.mux_facts.specs.Ranges.{InRange}
use Rattle.mux_facts.proofs.Keeps.{behind_both}
use Rattle.mux_facts.proofs.Words.{same_number}
use Rattle.group_words.specs.Houses.{is_home}
use Rattle.group_rows.specs.held_requests.specs.declared.request.Request.{Request}
use Rattle.group_rows.specs.Forwarded.{Forwarding, forwarding_of, first_sender}
use Rattle.group_rows.specs.Rows.{forward, has_room, send_waiting, sync_bodies}
use Rattle.group_rows.specs.Rows as rows
use Rattle.group_rows.specs.Texts.{is_synced, texts_of, touch_all, toucher, toucher_of}
use Rattle.group_rows.specs.Tokens.{forwarded_text}
use Rattle.group_rows.specs.Waiting.{first_waiting, refuse_waiting, waiting_of, without_first, worker_of}
use Rattle.group_rows.proofs.Frames.{forwarding_more, texts_more, waiting_more}
use Rattle.group_rows.proofs.TokenTexts.{forwarded_says}
use Rattle.group_laws.proofs.Asking.{sync_speaks, to}
use Rattle.group_laws.proofs.Entries.{all_told, known_sent, texts_told, held_same}
use Rattle.group_laws.proofs.Syncing.{sync_outs, sync_stays, sync_texts}
use Rattle.group_laws.proofs.SyncHeld.{sync_held}
use Rattle.group_laws.proofs.Touching.{holder_touched}
use Rattle.group_facts.specs.Facts.{Opened}
use Rattle.group_facts.specs.OwnTexts.{AllOnOwnTexts, HasOwn, OnOwnTexts}
use Rattle.group_facts.proofs.Housed.{group_more}
use Rattle.group_facts.proofs.Opened.{opened_did}
use Rattle.group_facts.proofs.SendRow.{worker_said}
use Rattle.group_facts.proofs.Asides.{spoken_aside}
use Rattle.document_model.specs.Orderly.{AllSpelt, Orderly}
use Rattle.std.proofs.lemmas.List.Sums.{fold-append}
use Rattle.document_model.proofs.Written.{Spoken, spoken}
use Rattle.group_facts.proofs.Held.{left_quiet}
use Rattle.group_rows.proofs.Moments.{asks}
use Rattle.group_facts.proofs.Numbers.{forwarding_sent}
use Rattle.group_facts.proofs.Forwards.{notified_next}
use Rattle.group_sessions.proofs.Replayed.{silent_outs}
use Rattle.event_model.specs.declared.stage.Stage.{Stage}
use Rattle.event_model.specs.declared.stage.Stage.TheVariants.{Unspawned, Spawning, Initializing, Ready, Stopping, Ending, Ended}
use Rattle.event_model.specs.Stages.{Life, is_first_result, is_initializing, is_ready, life_of, stage_ending, stage_hears, stage_told}
use Rattle.mux_facts.proofs.Folds.{life_more}
use Rattle.mux_history.specs.declared.cause.Cause.{Cause}
use Rattle.mux_history.specs.declared.cause.Cause.TheVariants.{FromServer}
use Rattle.group_facts.specs.Why.{IsAwaited}
use Rattle.group_sessions.specs.ExitReplay.{gives_result}

-- one that may go to a start
pub record IsAsked (r : Request) : Type 0 where
  pub id : Id
  pub method : List ℕ
  pub params : Option Json
  pub says : message_of r.body ≡ request id method params
  pub other : is_own method ≡ false

-- what goes behind no sync
abbrev pub IsFree : Out → Type 0
IsFree (ToServer n body) = is_synced (message_of body) ≡ false
IsFree out = Unit {0}

module _ (settings : Settings) where
  pub both_own : (places : List Event) (xs ys : List Out) → AllOnOwnTexts settings places xs → AllOnOwnTexts settings (behind places xs) ys → AllOnOwnTexts settings places (xs ++ ys)
  both_own places [] ys f h = subst (λ z. AllOnOwnTexts settings z ys) (append-nil places) h
  both_own places (x ∷ xs) ys f h = (f.0, both_own (places ++ said x ∷ []) xs ys f.1 (subst (λ z. AllOnOwnTexts settings z ys) (sym (append_assoc places (said x ∷ []) (map said xs))) h))

  -- what goes behind no sync stands on none
  pub free_own : (places : List Event) (xs : List Out) → AllByRecursion IsFree xs → AllOnOwnTexts settings places xs
  free_own places [] h = tt
  free_own places (ToServer n body ∷ xs) h = (λ goes. never (sym goes ∙ h.0), free_own (places ++ said (ToServer n body) ∷ []) xs h.1)
  free_own places (ToEditor n body ∷ xs) h = (tt, free_own (places ++ said (ToEditor n body) ∷ []) xs h.1)
  free_own places (Spawn n i ∷ xs) h = (tt, free_own (places ++ said (Spawn n i) ∷ []) xs h.1)
  free_own places (CloseEditor n ∷ xs) h = (tt, free_own (places ++ said (CloseEditor n) ∷ []) xs h.1)
  free_own places (EndServer n ∷ xs) h = (tt, free_own (places ++ said (EndServer n) ∷ []) xs h.1)

module _ (settings : Settings) (range : InRange settings) (s g : ℕ) (code : Encoding) where
  -- what waits, what is open and what the start has, at a place
  pub record At (rs : List Request) (places : List Event) : Type 0 where
    pub waiting : waiting_of settings g places ≡ rs
    pub nobody : worker_of places ≡ None
    pub group : group_of s places ≡ Some g
    pub opened : Opened settings places
    pub documents : Documents
    pub texts : texts_of settings g places ≡ texts_in documents
    pub start : documents.start ≡ Some s
    pub known : documents.encoding ≡ Some code
    pub given : starts.encoding_of s places ≡ Some code
    pub versions : documents.versions ≡ settings.limits.versions
    pub held : Held documents (λ u. held_at s u places)

  -- bodies on documents go behind no sync
  pub speak_own : (places : List Event) (bodies : List (List ℕ)) → AllSpeak bodies → AllOnOwnTexts settings places (to s bodies)
  speak_own places [] h = tt
  speak_own places (b ∷ bodies) h = (λ goes. never (sym goes ∙ spoken_aside (message_of b) h.0), speak_own (places ++ said (ToServer s b) ∷ []) bodies h.1)

  -- what bodies to the start leave
  record Base (rs : List Request) (n : ℕ) (places : List Event) : Type 0 where
    waiting : waiting_of settings g places ≡ rs
    nobody : worker_of places ≡ None
    group : group_of s places ≡ Some g
    opened : Opened settings places
    given : starts.encoding_of s places ≡ Some code
    next : (forwarding_of settings s places).next ≡ n

  given_out : (o : Option Encoding) (out : Out) → starts.encoding_behind s o (said out) ≡ o
  given_out None (ToEditor n body) = refl
  given_out None (ToServer n body) = refl
  given_out None (Spawn n i) = refl
  given_out None (CloseEditor n) = refl
  given_out None (EndServer n) = refl
  given_out (Some c) (ToEditor n body) = refl
  given_out (Some c) (ToServer n body) = refl
  given_out (Some c) (Spawn n i) = refl
  given_out (Some c) (CloseEditor n) = refl
  given_out (Some c) (EndServer n) = refl

  given_said : (places : List Event) (out : Out) → starts.encoding_of s (places ++ said out ∷ []) ≡ starts.encoding_of s places
  given_said places out = fold-append (starts.encoding_behind s) None places (said out ∷ []) ∙ given_out (starts.encoding_of s places) out

  pub given_outs : (places : List Event) (xs : List Out) → starts.encoding_of s (behind places xs) ≡ starts.encoding_of s places
  given_outs places [] = ap (starts.encoding_of s) (append-nil places)
  given_outs places (x ∷ xs) = ap (starts.encoding_of s) (sym (append_assoc places (said x ∷ []) (map said xs))) ∙ (given_outs (places ++ said x ∷ []) xs ∙ given_said places x)

  base_said : (rs : List Request) (n : ℕ) (places : List Event) (body : List ℕ) → speaks (saying_of (message_of body)) ≡ true → Base rs n places → Base rs n (places ++ said (ToServer s body) ∷ [])
  base_said rs n places body speak h = let m : Spoken (message_of body) = spoken (message_of body) speak in record {
    waiting = waiting_more settings g places (said (ToServer s body)) ∙ (left_quiet (is_home g (group_of s places)) (worker_of places) s body (message_of body) (waiting_of settings g places) refl (ap (λ z. asks (did (ToServer s body) z)) m.is) ∙ h.waiting);
    nobody = worker_said places (ToServer s body) ∙ h.nobody;
    group = group_more s places (said (ToServer s body)) ∙ h.group;
    opened = opened_did settings places (ToServer s body) h.opened;
    given = given_said places (ToServer s body) ∙ h.given;
    next = ap (λ (x : Forwarding). x.next) (forwarding_sent settings places s body (notification m.method m.params) m.is) ∙ (notified_next (first_sender settings s places) (forwarding_of settings s places) m.method m.params ∙ h.next);
  }

  base_told : (rs : List Request) (n : ℕ) (places : List Event) (bodies : List (List ℕ)) → AllSpeak bodies → Base rs n places → Base rs n (behind places (to s bodies))
  base_told rs n places [] speak h = subst (Base rs n) (sym (append-nil places)) h
  base_told rs n places (b ∷ bodies) speak h = subst (Base rs n) (append_assoc places (said (ToServer s b) ∷ []) (map said (to s bodies))) (base_told rs n (places ++ said (ToServer s b) ∷ []) bodies speak.1 (base_said rs n places b speak.0 h))

  module _ (r : Request) (rs : List Request) (places : List Event) (h : At (r ∷ rs) places) (asked : IsAsked r) where
    abbrev d : Documents
    d = h.documents

    abbrev e : ℕ
    e = r.editor

    abbrev held_here : List ℕ → Option HeldText
    held_here u = held_at s u places

    abbrev bodies : List (List ℕ)
    bodies = sync_bodies settings.limits.versions held_here e (texts_of settings g places).opens

    orderly : Orderly (texts_in d)
    orderly = subst Orderly h.texts (h.opened g).orderly

    spelt : AllSpelt d.opens
    spelt = subst (λ (x : Texts). AllSpelt x.opens) h.texts (h.opened g).spelt

    small : d.versions < 2 ^ 32
    small = subst (λ n. n < 2 ^ 32) (sym h.versions) range.versions

    bodies_are : rows.sync_bodies d.versions held_here e d.opens ≡ bodies
    bodies_are = ap₂ (λ n (x : Texts). rows.sync_bodies n held_here e x.opens) h.versions (sym h.texts)

    outs_are : (sync_row e d).outs ≡ to s bodies
    outs_are = sync_outs s e d held_here h.start h.held orderly.once ∙ ap (to s) bodies_are

    speak : AllSpeak bodies
    speak = subst AllSpeak bodies_are (sync_speaks d.versions e held_here d.opens small spelt)

    abbrev mid : List Event
    mid = behind places (to s bodies)

    base : Base (r ∷ rs) (forwarding_of settings s places).next mid
    base = base_told (r ∷ rs) (forwarding_of settings s places).next places bodies speak (record { waiting = h.waiting; nobody = h.nobody; group = h.group; opened = h.opened; given = h.given; next = refl })

    mid_texts : texts_of settings g mid ≡ texts_in d
    mid_texts = texts_told settings g s places bodies speak ∙ h.texts

    mid_held : (u : List ℕ) → held_at s u mid ≡ told_outs d.encoding u (held_here u) (sync_row e d).outs
    mid_held u = ap (λ (x : Sent). x.held) (all_told s u code (held_here u) bodies places (known_sent s u code places h.given))
        ∙ ap₂ (λ c xs. told_outs c u (held_here u) xs) (sym h.known) (sym outs_are)

    has : Held (sync_row e d).after (λ w. told_outs d.encoding w (held_here w) (sync_row e d).outs)
    has = sync_held s e d held_here h.start h.held code h.known small orderly.once orderly.turns spelt

    -- the start has its editor's own texts
    own : (u : List ℕ) (o : Open) → found e u (texts_of settings g mid) ≡ Some o → HasOwn o (held_at s u mid)
    own u o is =
        let at : find (is_open_at e u) d.opens ≡ Some o = ap (λ (x : Texts). find (is_open_at e u) x.opens) (sym mid_texts) ∙ is in
        let best : holder u (sync_row e d).after.opens ≡ Some (record o { touched = d.turn }) = ap (λ (x : Texts). holder u x.opens) (sync_texts e d) ∙ holder_touched e d.turn u o d.opens orderly.once orderly.turns at in
        subst (HasOwn o) (sym (mid_held u)) (by (version_held u (sync_row e d).after.helds) (told_outs d.encoding u (held_here u) (sync_row e d).outs)
        (subst (λ z. Matches (version_held u (sync_row e d).after.helds) z (told_outs d.encoding u (held_here u) (sync_row e d).outs)) best (has u)))
      where
        by : (v : Option ℕ) (k : Option HeldText) → Matches v (Some (record o { touched = d.turn })) k → HasOwn o k
        by (Some v) (Some t) m = m.1
        by (Some v) None m = absurd m
        by None k m = absurd m

    first : first_waiting settings s mid ≡ Some r
    first = ap (λ o. option_and_then (λ i. slice_get (waiting_of settings i mid) 0) o) base.group ∙ ap (λ qs. slice_get qs 0) base.waiting

    module _ (room : has_room settings s places ≡ true) where
      abbrev text : List ℕ
      text = forwarded_text (forwarding_of settings s mid).next r.body

      abbrev gone : List Event
      gone = mid ++ said (ToServer s text) ∷ []

      low : (forwarding_of settings s mid).next < 2 ^ 64
      low = let below : (forwarding_of settings s places).next < settings.limits.requests = ltb-true (forwarding_of settings s places).next settings.limits.requests room in
          let wide : settings.limits.requests < 2 ^ 32 = range.requests in let same : (forwarding_of settings s mid).next ≡ (forwarding_of settings s places).next = base.next in omega (arith, below, wide, same)

      new : (new : Option Json) × (message_of text ≡ request (integer (decimal (forwarding_of settings s mid).next)) asked.method new)
      new = forwarded_says (forwarding_of settings s mid).next r.body asked.id asked.method asked.params low asked.says

      toucher_is : toucher_of settings s mid (message_of text) ≡ Some e
      toucher_is = ap₂ (λ w m. toucher w m (first_waiting settings s mid)) base.nobody new.1 ∙ ap (λ o. option_map (λ (q : Request). q.editor) o) first

      stands : OnOwnTexts settings mid (ToServer s text)
      stands goes k i touches home u o is =
          let its : k ≡ e = same_number_of k e (sym touches ∙ toucher_is) in
          let here : i ≡ g = same_number_of i g (sym home ∙ base.group) in
          own u o (subst (λ z. found e u (texts_of settings z mid) ≡ Some o) here (subst (λ z. found z u (texts_of settings i mid) ≡ Some o) its is))
        where
          same_number_of : (a b : ℕ) → ◌≡◌ {A = Option ℕ} (Some a) (Some b) → a ≡ b
          same_number_of a b is = cc

      synced_now : is_synced (message_of text) ≡ true
      synced_now = ap is_synced new.1 ∙ ap not asked.other

      gone_at : At rs gone
      gone_at = record {
        waiting = waiting_more settings g mid (said (ToServer s text))
            ∙ (ap (λ o. if is_home g o then without_first (worker_of mid) (message_of text) (waiting_of settings g mid) else waiting_of settings g mid) base.group
            ∙ (ap (λ b. if b then without_first (worker_of mid) (message_of text) (waiting_of settings g mid) else waiting_of settings g mid) (same_number g)
            ∙ (ap₂ (λ w m. without_first w m (waiting_of settings g mid)) base.nobody new.1
            ∙ (ap (λ b. if b then waiting_of settings g mid else drop 1 (waiting_of settings g mid)) asked.other ∙ ap (drop 1) base.waiting))));
        nobody = worker_said mid (ToServer s text) ∙ base.nobody;
        group = group_more s mid (said (ToServer s text)) ∙ base.group;
        opened = opened_did settings mid (ToServer s text) base.opened;
        documents = (sync_row e d).after;
        texts = texts_more settings g mid (said (ToServer s text))
            ∙ (ap (λ o. if is_home g o && is_synced (message_of text) then touch_all (toucher_of settings s mid (message_of text)) (texts_of settings g mid) else texts_of settings g mid) base.group
            ∙ (ap₂ (λ a b. if a && b then touch_all (toucher_of settings s mid (message_of text)) (texts_of settings g mid) else texts_of settings g mid) (same_number g) synced_now
            ∙ (ap₂ touch_all toucher_is mid_texts ∙ sym (sync_texts e d))));
        start = (sync_stays e d).start ∙ h.start;
        known = (sync_stays e d).encoding ∙ h.known;
        given = given_said mid (ToServer s text) ∙ base.given;
        versions = (sync_stays e d).versions ∙ h.versions;
        held = held_same (sync_row e d).after (λ w. told_outs d.encoding w (held_here w) (sync_row e d).outs) (λ u. held_at s u gone)
            (λ u. sym (silent_outs s u mid (ToServer s text ∷ []) (ap saying_of new.1, tt) ∙ mid_held u)) has;
      }

      goes_own : AllOnOwnTexts settings places (to s bodies ++ ToServer s text ∷ [])
      goes_own = both_own settings places (to s bodies) (ToServer s text ∷ []) (speak_own places bodies speak) (stands, tt)

      goes_at : At rs (behind places (to s bodies ++ ToServer s text ∷ []))
      goes_at = subst (At rs) (sym (behind_both places (to s bodies) (ToServer s text ∷ []))) gone_at

      sends : outs (rows.sync_row settings places g s e ⨾ forward settings s r.body) places ≡ to s bodies ++ ToServer s text ∷ []
      sends = ap (λ z. z ++ ToServer s (forwarded_text (forwarding_of settings s (behind places z)).next r.body) ∷ []) (outs_to_start s bodies places)

  -- where no number is left none goes
  full_own : (rs : List Request) (places : List Event) → has_room settings s places ≡ false → AllOnOwnTexts settings places (outs (each (send_waiting settings g s) rs) places)
  full_own [] places full = tt
  full_own (r ∷ rs) places full = go (has_room settings s places) full (full_own rs (places ++ said (ToEditor r.editor (error_text r.id request_failed)) ∷ [])
      (ap (λ (x : Forwarding). nat_lt x.next settings.limits.requests) (forwarding_more settings s places (said (ToEditor r.editor (error_text r.id request_failed)))) ∙ full))
    where
      go : (b : Bool) → b ≡ false → AllOnOwnTexts settings (places ++ said (ToEditor r.editor (error_text r.id request_failed)) ∷ []) (outs (each (send_waiting settings g s) rs) (places ++ said (ToEditor r.editor (error_text r.id request_failed)) ∷ [])) → AllOnOwnTexts settings places (outs (choose b (rows.sync_row settings places g s r.editor ⨾ forward settings s r.body) (refuse_waiting r)) places
          ++ outs (each (send_waiting settings g s) rs) (behind places (outs (choose b (rows.sync_row settings places g s r.editor ⨾ forward settings s r.body) (refuse_waiting r)) places)))
      go false off rest = (tt, rest)
      go true off rest = never off

  -- each of these, one behind the other
  pub each_own : (rs : List Request) (places : List Event) → At rs places → AllByRecursion IsAsked rs → AllOnOwnTexts settings places (outs (each (send_waiting settings g s) rs) places)
  each_own [] places h asked = tt
  each_own (r ∷ rs) places h asked = go (has_room settings s places) refl (full_own (r ∷ rs) places) (λ room. subst (λ z. AllOnOwnTexts settings places (z ++ outs (each (send_waiting settings g s) rs) (behind places z))) (sym (sends r rs places h asked.0 room))
      (both_own settings places (to s (bodies r rs places h asked.0) ++ ToServer s (text r rs places h asked.0 room) ∷ []) (outs (each (send_waiting settings g s) rs) (behind places (to s (bodies r rs places h asked.0) ++ ToServer s (text r rs places h asked.0 room) ∷ [])))
      (goes_own r rs places h asked.0 room) (each_own rs (behind places (to s (bodies r rs places h asked.0) ++ ToServer s (text r rs places h asked.0 room) ∷ [])) (goes_at r rs places h asked.0 room) asked.1)))
    where
      go : (b : Bool) → has_room settings s places ≡ b → (has_room settings s places ≡ false → AllOnOwnTexts settings places (outs (each (send_waiting settings g s) (r ∷ rs)) places))
          → (has_room settings s places ≡ true → AllOnOwnTexts settings places (outs (rows.sync_row settings places g s r.editor ⨾ forward settings s r.body) places
          ++ outs (each (send_waiting settings g s) rs) (behind places (outs (rows.sync_row settings places g s r.editor ⨾ forward settings s r.body) places))))
          → AllOnOwnTexts settings places (outs (each (send_waiting settings g s) (r ∷ rs)) places)
      go false full off on = off full
      go true room off on = subst (λ b. AllOnOwnTexts settings places (outs (choose b (rows.sync_row settings places g s r.editor ⨾ forward settings s r.body) (refuse_waiting r)) places
          ++ outs (each (send_waiting settings g s) rs) (behind places (outs (choose b (rows.sync_row settings places g s r.editor ⨾ forward settings s r.body) (refuse_waiting r)) places)))) (sym room) (on room)

-- Where a request that waited goes, the start gives its first result

module _ (s : ℕ) where
  ready_told : (stage : Stage) (m : Message) → is_ready (stage_told stage m) ≡ true → is_ready stage ≡ true
  ready_told Ready m h = refl
  ready_told Unspawned m h = h
  ready_told Spawning m h = h
  ready_told Initializing m h = h
  ready_told Stopping m h = h
  ready_told Ending m h = h
  ready_told Ended m h = h

  ready_ending : (stage : Stage) → is_ready (stage_ending stage) ≡ true → is_ready stage ≡ true
  ready_ending Ended h = never (sym h)
  ready_ending other h = never (sym h)

  pick : (b : Bool) (x y : Life) → (is_ready x.stage ≡ true → is_ready y.stage ≡ true) → is_ready (if b then x else y).stage ≡ true → is_ready y.stage ≡ true
  pick true x y f h = f h
  pick false x y f h = h

  -- outs make none ready
  ready_did : (places : List Event) (out : Out) → is_ready (life_of s (places ++ said out ∷ [])).stage ≡ true → is_ready (life_of s places).stage ≡ true
  ready_did places (ToServer n body) h = pick (nat_eq n s) (record { stage = stage_told (life_of s places).stage (message_of body); started = (life_of s places).started }) (life_of s places) (ready_told (life_of s places).stage (message_of body)) (ap (λ (l : Life). is_ready l.stage) (sym (life_more s places (said (ToServer n body)))) ∙ h)
  ready_did places (Spawn n i) h = pick (nat_eq n s) (record { stage = Spawning; started = false }) (life_of s places) (λ k. never (sym k)) (ap (λ (l : Life). is_ready l.stage) (sym (life_more s places (said (Spawn n i)))) ∙ h)
  ready_did places (EndServer n) h = pick (nat_eq n s) (record { stage = stage_ending (life_of s places).stage; started = (life_of s places).started }) (life_of s places) (ready_ending (life_of s places).stage) (ap (λ (l : Life). is_ready l.stage) (sym (life_more s places (said (EndServer n)))) ∙ h)
  ready_did places (ToEditor n body) h = ap (λ (l : Life). is_ready l.stage) (sym (life_more s places (said (ToEditor n body)))) ∙ h
  ready_did places (CloseEditor n) h = ap (λ (l : Life). is_ready l.stage) (sym (life_more s places (said (CloseEditor n)))) ∙ h

  ready_before : (places : List Event) (xs : List Out) → is_ready (life_of s (behind places xs)).stage ≡ true → is_ready (life_of s places).stage ≡ true
  ready_before places [] h = ap (λ z. is_ready (life_of s z).stage) (sym (append-nil places)) ∙ h
  ready_before places (x ∷ xs) h = ready_did places x (ready_before (places ++ said x ∷ []) xs (ap (λ z. is_ready (life_of s z).stage) (append_assoc places (said x ∷ []) (map said xs)) ∙ h))

pub waited_gives : (settings : Settings) (before : List Event) (cause : Cause) (events : List Event) (s e : ℕ) (asked : List ℕ) (w : IsAwaited settings before cause events s e asked) → (life_of s events).stage ≡ Ready → gives_result s before w.answer ≡ true
waited_gives settings before cause events s e asked w ready = ap₂ (λ a b. a && b) (ap is_initializing w.stage) (first (is_first_result (message_of w.answer)) refl)
  where
    now : List Event
    now = with_cause before (FromServer s w.answer)

    ready_now : is_ready (life_of s now).stage ≡ true
    ready_now = ap (λ c. is_ready (life_of s (with_cause before c)).stage) (sym w.from) ∙ ready_before s (with_cause before cause) w.outs (ap (λ z. is_ready (life_of s z).stage) (sym w.entry)
        ∙ ready_before s w.earlier (map (λ text. ToServer s text) (sync_bodies settings.limits.versions (λ u. held_at s u w.earlier) e (texts_of settings w.group w.earlier).opens)) (ap (λ z. is_ready (life_of s z).stage) (sym w.place) ∙ ap is_ready ready))

    stage_now : (life_of s now).stage ≡ (if is_first_result (message_of w.answer) then Ready else Initializing)
    stage_now = ap (λ (l : Life). l.stage) (life_more s before (heard (FromServer s w.answer)))
        ∙ (ap (λ b. (if b then record { stage = stage_hears (life_of s before).stage (message_of w.answer); started = (life_of s before).started } else life_of s before).stage) (same_number s) ∙ ap (λ z. stage_hears z (message_of w.answer)) w.stage)

    first : (b : Bool) → is_first_result (message_of w.answer) ≡ b → b ≡ true
    first true is = refl
    first false off = never (sym (sym (ap is_ready (stage_now ∙ ap (λ b. if b then Ready else Initializing) off)) ∙ ready_now))
