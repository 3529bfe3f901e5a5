-- E10, E16 and E17: what an editor says goes to a ready start behind a sync.
use Rattle.std.proofs.Common.{◌≡◌, ℕ, ◌≤◌, ◌<◌, ◌^◌, ◌+◌, Bool, true, false, not, ◌||◌, List, [], ◌∷◌, ◌++◌, length, map, find, fold, get_or, nat_eq, codes, refl, sym, ap, ap₂, subst, ◌∙◌, append-nil, append_assoc, arith, if◌then◌else◌}
use Rattle.std.specs.Prelude.{Option, Some, None, option_map, bytes_eq, slice_get, slice_set}
use Rattle.std.specs.List.{AllByRecursion}
use Rattle.std.specs.Option.{option_and_then}
use Rattle.std.proofs.lemmas.Bool.{ne_eqb}
use Rattle.std.proofs.lemmas.Option.{slice_get_within}
use Rattle.json_text.specs.Json.{Json}
use Rattle.mux_history.specs.declared.out.Out.{Out}
use Rattle.mux_history.specs.declared.out.Out.TheVariants.{ToEditor, ToServer, Spawn, CloseEditor, EndServer}
use Rattle.rpc_message.specs.Message.{Id, Message, message_of, notification, request}
use Rattle.document_model.specs.Opens.{Open, is_open_at}
use Rattle.document_model.specs.Orderly.{AllSpelt, Orderly}
use Rattle.document_model.specs.Sayings.{Saying, nothing, saying_by, saying_of, speaks}
use Rattle.document_model.specs.Texts.{Texts}
use Rattle.group_laws.specs.Follows.{Held, texts_in, told_outs}
use Rattle.event_model.specs.declared.stage.Stage.{Stage}
use Rattle.event_model.specs.declared.stage.Stage.TheVariants.{Ready}
use Rattle.event_model.specs.Does.{Does}
use Rattle.event_model.specs.Event.{Event, behind, requests, said}
use Rattle.event_model.specs.Requests.{is_own}
use Rattle.event_model.specs.Members.{named_of}
use Rattle.event_model.specs.Phases.{desk_of, is_running}
use Rattle.event_model.specs.Row.{look, send, ◌⨾◌}
use Rattle.event_model.specs.Settings.{Settings}
use Rattle.event_model.specs.Spawns.{group_of, start_behind, start_of, starts_behind, starts_of}
use Rattle.event_model.proofs.Frames.{never, outs_more, outs_still}
use Rattle.event_model.proofs.Turns.{behind_more, does_entry}
use Rattle.event_model.proofs.Places.{get_set_same}
use Rattle.focus_switch.specs.Documents.{Documents, version_held}
use Rattle.focus_switch.specs.Rows.{sync_row}
use Rattle.focus_switch.specs.Versions.{versions_of}
use Rattle.group_laws.specs.mux_model.specs.Documents.{Sent, held_at, sent_of}
use Rattle.group_laws.specs.mux_model.specs.Rows.{to_start}
use Rattle.group_laws.specs.mux_model.proofs.DocumentFolds.{outs_to_start, sent_encoding}
use Rattle.group_words.specs.Houses.{home_of, is_home}
use Rattle.id_rewrite.specs.response_route.specs.declared.versions.Stamp.{Stamp}
use Rattle.group_laws.specs.group_rows.specs.Answers.{held_version, stamp_at, stamped}
use Rattle.group_laws.specs.group_rows.specs.Forwarded.{Forwarding, Sender, cancelled_by, first_sender, forwarding_of, forwards, moves_ids, sender_or, sender_waiting}
use Rattle.group_laws.specs.group_rows.specs.Rows as rows
use Rattle.group_laws.specs.group_rows.specs.Texts.{is_aside, is_synced, texts_of, touch_all, touched_at, toucher, toucher_of}
use Rattle.group_laws.specs.group_rows.specs.Waiting.{first_waiting, worker_behind, worker_of}
use Rattle.group_laws.specs.group_rows.proofs.Frames.{encoding_stays, forwarding_more, texts_apart, texts_more}
use Rattle.group_laws.specs.Stands.{CountsStand, HeldStands}
use Rattle.group_laws.proofs.Asking.{spelt_touched, sync_speaks, touch_orderly}
use Rattle.group_laws.proofs.Counting.{sync_counted}
use Rattle.group_laws.proofs.Counts.{counts_behind, counts_stay}
use Rattle.group_laws.proofs.Entries.{all_told, encoding_told, first_behind, held_same, known_sent, texts_told}
use Rattle.group_laws.proofs.SyncHeld.{sync_held}
use Rattle.group_laws.proofs.Versions.{noted_from}
use Rattle.group_laws.proofs.Syncing.{sync_outs, sync_stays, sync_texts}
use Rattle.id_rewrite.specs.declared.pending.Pending.{Pending}
use Rattle.id_rewrite.specs.Tables.{Table, IsInOrder}
use Rattle.mux_tables.specs.declared.tables.Start.{Start}
use Rattle.mux_tables.specs.declared.tables.Tables.{Tables}
use Rattle.mux_tables.specs.Documents.{AllStand, AllTell, DocumentsStand, IsOwned, SharedStands, StepAt, Told, nothing_owed, syncing, to}
use Rattle.mux_tables.specs.Notes.{IsNoted, NotesStand, StampsAt, stamp_in}
use Rattle.mux_tables.specs.Stands.{Sends, Stands, forwarded_of, is_answer, number_in, of_ids}
use Rattle.mux_tables.proofs.DocumentEvents.{shared_beside}
use Rattle.mux_tables.proofs.DocumentFrames.{SentSame, all_owned, owner_stays, sent_apart, sent_at, sent_silent, sent_then, shared_stays, start_stays}
use Rattle.mux_tables.proofs.DocumentMoves.{Rest, documents_at, documents_set, founds_kept, set_same, starts_kept}
use Rattle.mux_tables.proofs.Placed.{groups_apart}
use Rattle.mux_tables.proofs.DocumentOwed.{stands_told}
use Rattle.mux_tables.proofs.DocumentSaid.{cancel_silent}
use Rattle.mux_tables.proofs.Frames.{asks_stay, itself}
use Rattle.mux_tables.proofs.IdMoves.{sent_as}
use Rattle.mux_tables.proofs.Lasts.{apart, known}
use Rattle.mux_tables.proofs.Noting.{below_next, left_stays, left_told, moment_apart, moment_here, moment_told, notes_more}
use Rattle.mux_tables.proofs.Sent.{forward_does, unmoved_does}
use Rattle.mux_tables.proofs.Stamping.{noted_stamps, touched_stamps}
use Rattle.mux_tables.proofs.Starts.{read_here, start_at_place}
use Rattle.mux_tables.proofs.TokenMoves.{WaitsMove, same_waits}
use Rattle.mux_waits.specs.Stands.{is_passed}
use Rattle.mux_waits.proofs.Moves.{first_told, passed_waits}

-- bodies to a start leave whose message is at work, and what other groups have
still_at_work : (w : Option ℕ) (x : Out) → worker_behind w (said x) ≡ w
still_at_work w (ToEditor e body) = refl
still_at_work w (ToServer s body) = refl
still_at_work w (Spawn s g) = refl
still_at_work w (CloseEditor e) = refl
still_at_work w (EndServer s) = refl

pub worker_stays : (events : List Event) (xs : List Out) → worker_of (behind events xs) ≡ worker_of events
worker_stays events xs = outs_more worker_behind None (worker_of events) events xs refl ∙ outs_still worker_behind (worker_of events) xs (still_at_work (worker_of events))

beside_all : (settings : Settings) (owed : List (List ℕ)) (j n s : ℕ) (stage : Stage) (c : Documents) (bodies : List (List ℕ)) (events : List Event) → AllTell bodies → nat_eq s n ≡ false → SharedStands settings events owed j n stage c → SharedStands settings (behind events (to s bodies)) owed j n stage c
beside_all settings owed j n s stage c [] events h off k = subst (λ es. SharedStands settings es owed j n stage c) (sym (append-nil events)) k
beside_all settings owed j n s stage c (body ∷ bodies) events h off k = subst (λ es. SharedStands settings es owed j n stage c) (sym (first_behind events (ToServer s body) (to s bodies)))
    (beside_all settings owed j n s stage c bodies (events ++ said (ToServer s body) ∷ []) h.1 off (shared_beside settings events owed j n stage c s body h.0 off k))

owned_told : (settings : Settings) (j s : ℕ) (o : Open) (bodies : List (List ℕ)) (events : List Event) → IsOwned settings events j o → IsOwned settings (behind events (to s bodies)) j o
owned_told settings j s o [] events k = subst (λ es. IsOwned settings es j o) (sym (append-nil events)) k
owned_told settings j s o (body ∷ bodies) events k = subst (λ es. IsOwned settings es j o) (sym (first_behind events (ToServer s body) (to s bodies))) (owned_told settings j s o bodies (events ++ said (ToServer s body) ∷ []) (owner_stays settings events j o (said (ToServer s body)) refl k))

starts_told : (s : ℕ) (bodies : List (List ℕ)) (n : ℕ) → fold starts_behind n (map said (to s bodies)) ≡ n
starts_told s [] n = refl
starts_told s (body ∷ bodies) n = starts_told s bodies n

founds_told : (g s : ℕ) (bodies : List (List ℕ)) (events : List Event) → start_of g (behind events (to s bodies)) ≡ start_of g events
founds_told g s bodies events = outs_more (start_behind g) None (start_of g events) events (to s bodies) refl ∙ stay bodies (start_of g events)
  where
    stay : (bodies : List (List ℕ)) (o : Option ℕ) → fold (start_behind g) o (map said (to s bodies)) ≡ o
    stay [] o = refl
    stay (body ∷ bodies) o = stay bodies o

sent_beside : (n s : ℕ) (bodies : List (List ℕ)) (events : List Event) → nat_eq s n ≡ false → SentSame n events (behind events (to s bodies))
sent_beside n s [] events off = sent_at n events (behind events []) (append-nil events)
sent_beside n s (body ∷ bodies) events off =
    let more : List Event = events ++ said (ToServer s body) ∷ [] in
    subst (SentSame n events) (sym (first_behind events (ToServer s body) (to s bodies)))
    (sent_then n events more (behind more (to s bodies)) (sent_apart n s body (message_of body) events off) (sent_beside n s bodies more off))

-- an editor touches its documents, which stay its own
touched_owned : (P : Open → Type 0) (e turn : ℕ) (os : List Open) → ((o p : Open) → o.editor ≡ p.editor → P o → P p) → AllByRecursion P os → AllByRecursion P (map (touched_at e turn) os)
touched_owned P e turn [] f h = tt
touched_owned P e turn (o ∷ os) f h = (go (nat_eq o.editor e), touched_owned P e turn os f h.1)
  where
    go : (b : Bool) → P (if b then record o { touched = turn } else o)
    go true = f o (record o { touched = turn }) refl h.0
    go false = h.0

-- what tells of a document is no editor's request
told_passed : (m : Message) → speaks (saying_of m) ≡ true → is_passed m ≡ false
told_passed (notification method ps) h = refl
told_passed other h = never (sym h)

first_stays : (settings : Settings) (n s : ℕ) (bodies : List (List ℕ)) (events : List Event) → AllTell bodies → first_waiting settings n (behind events (to s bodies)) ≡ first_waiting settings n events
first_stays settings n s [] events h = ap (first_waiting settings n) (append-nil events)
first_stays settings n s (body ∷ bodies) events h = ap (first_waiting settings n) (first_behind events (ToServer s body) (to s bodies))
    ∙ (first_stays settings n s bodies (events ++ said (ToServer s body) ∷ []) h.1 ∙ first_told settings n s body (message_of body) events (told_passed (message_of body) h.0))

-- whose request is at work, behind bodies that tell of documents
sender_told : (settings : Settings) (n s : ℕ) (bodies : List (List ℕ)) (events : List Event) (e : ℕ) (id : List ℕ) (work partial : Option (List ℕ)) → AllTell bodies → Sends settings n e id work partial events → Sends settings n e id work partial (behind events (to s bodies))
sender_told settings n s [] events e id work partial h k = subst (λ es. Sends settings n e id work partial es) (sym (append-nil events)) k
sender_told settings n s (body ∷ bodies) events e id work partial h k = subst (λ es. Sends settings n e id work partial es) (sym (first_behind events (ToServer s body) (to s bodies)))
    (sender_told settings n s bodies (events ++ said (ToServer s body) ∷ []) e id work partial h.1
    (ap₂ sender_or (ap (λ (x : Forwarding). x.sender) (forwarding_more settings n events (said (ToServer s body))) ∙ keeps (nat_eq s n) (first_sender settings n events) (forwarding_of settings n events) (message_of body) h.0)
    (ap (option_and_then sender_waiting) (first_told settings n s body (message_of body) events (told_passed (message_of body) h.0))) ∙ k))
  where
    sent_by : (first : Option Sender) (x : Forwarding) (m : Message) → speaks (saying_of m) ≡ true → (forwards first x m).sender ≡ x.sender
    sent_by first x (notification method ps) h = go (bytes_eq method (codes "$/cancelRequest"))
      where
        go : (b : Bool) → (if b then record { sender = x.sender; next = x.next; open_requests = map (cancelled_by (named_of (codes "id") ps)) x.open_requests } else x).sender ≡ x.sender
        go true = refl
        go false = refl
    sent_by first x other h = never (sym h)

    keeps : (b : Bool) (first : Option Sender) (x : Forwarding) (m : Message) → speaks (saying_of m) ≡ true → (if b then forwards first x m else x).sender ≡ x.sender
    keeps true first x m h = sent_by first x m h
    keeps false first x m h = refl

-- the message of an editor goes on, and so nothing that waits does
pub passed_on : (settings : Settings) (t u : Tables) (now : List Event) (e s : ℕ) (text : List ℕ) (bodies : List (List ℕ)) → u.origins.waiting ≡ t.origins.waiting → worker_of now ≡ Some e → WaitsMove settings t.origins u.origins (behind now (to s bodies)) (said (ToServer s text))
passed_on settings t u now e s text bodies same works = same_waits settings t.origins u.origins (behind now (to s bodies)) (said (ToServer s text)) same
    (λ rows. passed_waits settings (behind now (to s bodies)) s text (message_of text) rows e (worker_stays now (to s bodies) ∙ works))

-- a notification that goes on behind a sync speaks of no document, and cancels nothing
plain_notice : (method : List ℕ) (ps : Option Json) → is_synced (notification method ps) ≡ true → (saying_by method ps ≡ nothing) × (bytes_eq method (codes "$/cancelRequest") ≡ false)
plain_notice method ps h = (quiet (saying_by method ps) (is_aside method) h, kept (bytes_eq method (codes "$/cancelRequest")) refl)
  where
    quiet : (x : Saying) (a : Bool) → not (speaks x || a) ≡ true → x ≡ nothing
    quiet nothing a h = refl
    quiet other a h = absurd (cc)

    kept : (b : Bool) → bytes_eq method (codes "$/cancelRequest") ≡ b → b ≡ false
    kept true cancels = never (sym h ∙ (cancel_silent method ps cancels).1)
    kept false other = refl

module _ (settings : Settings) (t : Tables) (now : List Event) (i e : ℕ) (z : Start) (d : Documents) (text : List ℕ) (at : slice_get t.lasts.items i ≡ Some z) (has : slice_get t.documents.items i ≡ Some d) (ready : z.life.stage ≡ Ready)
    (silent : saying_of (message_of text) ≡ nothing) (synced : is_synced (message_of text) ≡ true) (works : toucher_of settings z.life.start now (message_of text) ≡ Some e) (st : Stands settings t now) (ds : DocumentsStand settings nothing_owed t now) where
  abbrev s : ℕ
  s = z.life.start

  abbrev g : ℕ
  g = z.life.group

  was : SharedStands settings now [] g s Ready d
  was = subst (λ (q : Stage). SharedStands settings now [] g s q d) ready (ds.each i z d at has)

  few : d.versions < 2 ^ 32
  few = subst (λ n. n < 2 ^ 32) (sym (was.versions ∙ ds.versions)) ds.range

  holds : HeldStands s was.start.code d now
  holds = subst (λ es. HeldStands s was.start.code d es) (append-nil now) was.start.holds

  abbrev bodies : List (List ℕ)
  bodies = rows.sync_bodies d.versions (λ u. held_at s u now) e d.opens

  pub bodies_are : (sync_row e d).outs ≡ to s bodies
  bodies_are = sync_outs s e d (λ u. held_at s u now) holds.start holds.held was.texts.orderly.once

  pub row_bodies : syncing settings now g s e ≡ bodies
  row_bodies = ap₂ (λ n (x : Texts). rows.sync_bodies n (λ u. held_at s u now) e x.opens) (sym was.versions) was.texts.texts

  pub tell : AllTell bodies
  tell = sync_speaks d.versions e (λ u. held_at s u now) d.opens few was.texts.spelt

  abbrev mid : List Event
  mid = behind now (to s bodies)

  abbrev last : List Event
  last = mid ++ said (ToServer s text) ∷ []

  pub mid_stands : Stands settings t mid
  mid_stands = stands_told settings t i z at bodies now tell st

  here : group_of s mid ≡ Some g
  here = (mid_stands.lasts.each i z at).home

  last_toucher : toucher_of settings s mid (message_of text) ≡ Some e
  last_toucher = ap₂ (λ w o. toucher w (message_of text) o) (worker_stays now (to s bodies)) (first_stays settings s s bodies now tell) ∙ works

  last_texts : texts_of settings g last ≡ texts_in (sync_row e d).after
  last_texts = texts_more settings g mid (said (ToServer s text)) ∙ (rw (last_toucher, here, itself g, synced) (ap (touch_all (Some e)) (texts_told settings g s now bodies tell ∙ was.texts.texts)) ∙ sym (sync_texts e d))

  mid_sent : (u : List ℕ) → sent_of s u mid ≡ record { encoding = Some was.start.code; held = told_outs (Some was.start.code) u (held_at s u now) (to s bodies) }
  mid_sent u = all_told s u was.start.code (held_at s u now) bodies now (known_sent s u was.start.code now holds.given)

  last_sent : (u : List ℕ) → sent_of s u last ≡ record { encoding = Some was.start.code; held = told_outs (Some was.start.code) u (held_at s u now) (to s bodies) }
  last_sent u = (sent_silent s s text (message_of text) mid silent).sent u ∙ mid_sent u

  mid_counts : CountsStand s (sync_row e d).after mid
  mid_counts = subst (λ xs. CountsStand s (sync_row e d).after (behind now xs)) bodies_are
      (counts_behind s d (sync_row e d).after (sync_row e d).outs now (sync_counted s e d holds.start few was.texts.spelt) holds.counts)

  told_last : Told s [] (sync_row e d).after last
  told_last = record {
    code = was.start.code;
    tell = tt;
    holds = subst (λ es. HeldStands s was.start.code (sync_row e d).after es) (sym (append-nil last)) (record {
      start = (sync_stays e d).start ∙ holds.start;
      known = (sync_stays e d).encoding ∙ holds.known;
      given = sym (sent_encoding s [] last) ∙ ap (λ (x : Sent). x.encoding) (last_sent []);
      held = held_same (sync_row e d).after (λ u. told_outs d.encoding u (held_at s u now) (sync_row e d).outs) (λ u. held_at s u last)
          (λ u. ap₂ (λ c xs. told_outs c u (held_at s u now) xs) holds.known bodies_are ∙ sym (ap (λ (x : Sent). x.held) (last_sent u)))
          (sync_held s e d (λ u. held_at s u now) holds.start holds.held was.start.code holds.known few was.texts.orderly.once was.texts.orderly.turns was.texts.spelt);
      counts = counts_stay s (sync_row e d).after mid last (sent_silent s s text (message_of text) mid silent).counts mid_counts;
    });
  }

  last_owner : (j : ℕ) (o : Open) → IsOwned settings now j o → IsOwned settings last j o
  last_owner j o k = owner_stays settings mid j o (said (ToServer s text)) refl (owned_told settings j s o bodies now k)

  pub now_shared : SharedStands settings last [] g s Ready (sync_row e d).after
  now_shared = record {
    texts = record {
      texts = last_texts;
      encoding = encoding_stays g mid (said (ToServer s text)) refl ∙ (encoding_told g s now bodies ∙ (was.texts.encoding ∙ sym (sync_stays e d).encoding));
      orderly = subst Orderly (sym (sync_texts e d)) (touch_orderly e (texts_in d) was.texts.orderly);
      spelt = subst (λ (x : Texts). AllSpelt x.opens) (sym (sync_texts e d)) (spelt_touched e d.turn d.opens was.texts.spelt);
    };
    versions = (sync_stays e d).versions ∙ was.versions;
    owned = subst (λ (x : Texts). AllByRecursion (IsOwned settings last g) x.opens) (sym (sync_texts e d)) (touched_owned (IsOwned settings last g) e d.turn d.opens
        (λ o p same k. (ap (λ n. home_of settings n last) (sym same) ∙ k.0, ap (λ n. is_running (desk_of n last).phase) (sym same) ∙ k.1)) (all_owned (IsOwned settings now g) (IsOwned settings last g) d.opens (last_owner g) was.owned));
    start = told_last;
  }

  pub other_last : (j n : ℕ) (stage : Stage) (c : Documents) → nat_eq g j ≡ false → nat_eq s n ≡ false → SharedStands settings now [] j n stage c → SharedStands settings last [] j n stage c
  other_last j n stage c away off h = shared_stays settings mid last [] j n stage c (texts_apart settings j s text (message_of text) mid (ap (is_home j) here ∙ away)) (encoding_stays j mid (said (ToServer s text)) refl)
      (start_stays n [] c mid last (sent_silent n s text (message_of text) mid silent) stage) (λ q. all_owned (IsOwned settings mid j) (IsOwned settings last j) c.opens (λ o k. owner_stays settings mid j o (said (ToServer s text)) refl k) q)
      (beside_all settings [] j n s stage c bodies now tell off h)

  pub last_rest : Rest settings t now last
  last_rest =
      let last = st.lasts.each i z at in
      let old = known settings t.requests t.origins.groups.items now g z st.origins last in
      record {
        texts = λ j l k. texts_apart settings j s text (message_of text) mid (ap (is_home j) here ∙ ne_eqb g j (λ q. some_none (sym last.start ∙ (ap (λ n. start_of n now) q ∙ l)))) ∙ (texts_told settings j s now bodies tell ∙ k);
        encoding = λ j l. encoding_stays j mid (said (ToServer s text)) refl ∙ encoding_told j s now bodies;
        founds = λ j l. sym (founds_told j s bodies now) ∙ founds_kept mid (said (ToServer s text)) refl j l;
        starts = λ n l. subst (λ m. m ≤ n) (outs_more starts_behind 0 (starts_of now) now (to s bodies) refl ∙ starts_told s bodies (starts_of now)) (starts_kept mid (said (ToServer s text)) refl n l);
        sent = λ n l. sent_then n now mid (mid ++ said (ToServer s text) ∷ []) (sent_beside n s bodies now (ne_eqb s n (λ q. absurd (omega (arith, q, l, old))))) (sent_silent n s text (message_of text) mid silent);
        moments = λ j x n p there asked.
            let ids = (mid_stands.lasts.each j x there).parts of_ids in
            let low : n < x.ids.next = below_next n 2 x.ids.next x.ids.requests p ids.order.rising asked in
            moment_apart settings x.life.start n s mid text (message_of text) (ap (λ k. nat_eq k n) ids.next ∙ ne_eqb x.ids.next n (λ q. absurd (omega (arith, q, low)))) ∙ moment_told settings x.life.start n s bodies now tell;
        left = λ n h. left_stays mid (said (ToServer s text)) refl n (left_told s bodies now n h);
      }
    where
      some_none : {n : ℕ} → ◌≡◌ {A = Option ℕ} (Some n) None → ⊥
      some_none q = cc

  mid_held : Held (sync_row e d).after (λ u. held_at s u mid)
  mid_held = held_same (sync_row e d).after (λ u. told_outs d.encoding u (held_at s u now) (sync_row e d).outs) (λ u. held_at s u mid)
      (λ u. ap₂ (λ c xs. told_outs c u (held_at s u now) xs) holds.known bodies_are ∙ sym (ap (λ (x : Sent). x.held) (mid_sent u)))
      (sync_held s e d (λ u. held_at s u now) holds.start holds.held was.start.code holds.known few was.texts.orderly.once was.texts.orderly.turns was.texts.spelt)

  -- behind the sync, what is open and what the start has of it
  pub mid_noted : (u : List ℕ) → stamp_in u (versions_of e (sync_row e d).after) ≡ stamp_at held_version settings s e mid u
  mid_noted u = noted_stamps e u (sync_row e d).after
      ∙ (ap (λ (x : Texts). option_map (λ o. stamped (version_held u (sync_row e d).after.helds) o) (find (is_open_at e u) x.opens)) (sync_texts e d)
      ∙ (touched_stamps e e d.turn u (version_held u (sync_row e d).after.helds) d.opens
      ∙ sym (noted_from settings g s e (texts_in d) (sync_row e d).after mid here (texts_told settings g s now bodies tell ∙ was.texts.texts) mid_held u)))

  -- what was noted of the request itself
  pub asked_noted : (name : Id) (method : List ℕ) (ps : Option Json) (noted : List (List ℕ × Stamp)) → message_of text ≡ request name method ps → is_own method ≡ false → StampsAt noted (versions_of e) (Some (sync_row e d).after)
      → IsNoted settings s z.ids.next e last (Some noted)
  asked_noted name method ps noted says own stamps = (mid, moment_here settings s z.ids.next mid text (message_of text) name method ps says own ((mid_stands.lasts.each i z at).parts of_ids).next, λ u. stamps u ∙ mid_noted u)

  -- all tables, where those of editors and starts stand behind the body itself
  module _ (u : Tables) (ids : Table) (put : u.lasts.items ≡ slice_set t.lasts.items i (record z { ids = ids })) (vs : u.versions ≡ t.versions) (set : u.documents.items ≡ slice_set t.documents.items i (sync_row e d).after) (stands : Stands settings t mid → Stands settings u last)
      (notes : NotesStand settings s z.ids.requests last → NotesStand settings s ids.requests last) where
    docs_last : DocumentsStand settings nothing_owed u last
    docs_last = documents_set settings nothing_owed nothing_owed t u now last last_rest vs i z (record z { ids = ids }) d (sync_row e d).after at has put set notes
        (λ _. subst (λ (q : Stage). SharedStands settings last [] g s q (sync_row e d).after) (sym ready) now_shared)
        (λ j w c off there h.
        let far = groups_apart t.lasts.items i j z w st.lasts.rise at there off in
        other_last w.life.group w.life.start w.life.stage c (ne_eqb g w.life.group (λ q. far (sym q))) (apart settings t.requests now g w.life.group z w far (st.lasts.each i z at) (st.lasts.each j w there)) h) ds

    -- and what was sent before it
    pub all_last : (n : ℕ) → s ≡ n → ((sync_row e d).outs ≡ to n (syncing settings now g n e)) × AllStand settings (u, nothing_owed) (behind (behind now (to n (syncing settings now g n e))) (ToServer n text ∷ []))
    all_last n number = subst (λ m. ((sync_row e d).outs ≡ to m (syncing settings now g m e)) × AllStand settings (u, nothing_owed) (behind (behind now (to m (syncing settings now g m e))) (ToServer m text ∷ []))) number (
      bodies_are ∙ ap (to s) (sym row_bodies),
      subst (λ bs. AllStand settings (u, nothing_owed) (behind (behind now (to s bs)) (ToServer s text ∷ []))) (sym row_bodies) (stands mid_stands, docs_last),
    )

-- the outs of the code: a sync, and then the body
abbrev Ran : Settings → Tables → Tables → List Event → ℕ → ℕ → ℕ → ℕ → List ℕ → Documents → Type 0
Ran settings t u now i g s e text d = slice_get t.documents.items i ≡ Some d → u.documents.items ≡ slice_set t.documents.items i (sync_row e d).after → Stands settings t now → DocumentsStand settings nothing_owed t now
    → ((sync_row e d).outs ≡ to s (syncing settings now g s e)) × AllStand settings (u, nothing_owed) (behind (behind now (to s (syncing settings now g s e))) (ToServer s text ∷ []))

synced_does : (settings : Settings) (t u : Tables) (xs ys told : List Out) (base : List Event) (i s start e : ℕ) (z : Start) (text : List ℕ) → slice_get t.lasts.items i ≡ Some z → z.life.start ≡ s → ((d : Documents) → Ran settings t u (behind base xs) i z.life.group s e text d)
    → StepAt (sync_row e) i (slice_get t.documents.items i) t.documents.items told u.documents.items → start ≡ z.life.start → ys ≡ (xs ++ told) ++ ToServer start text ∷ []
    → Does (λ k events. AllStand settings k events) (look (λ now. to_start s (syncing settings now z.life.group s e) ⨾ send (ToServer s text))) base (t, nothing_owed) xs (u, nothing_owed) ys
synced_does settings t u xs ys told base i s start e z text here number ran does is said_so = record {
  done = λ k.
      let g = z.life.group in
      let d = documents_at settings nothing_owed t (behind base xs) i z here k.1 in
      let made : StepAt (sync_row e) i (Some d.0) t.documents.items told u.documents.items = subst (λ o. StepAt (sync_row e) i o t.documents.items told u.documents.items) d.1 does in
      let now = ran d.0 d.1 made.1 k.0 k.1 in
      let all : ys ≡ xs ++ (to s (syncing settings (behind base xs) g s e) ++ ToServer s text ∷ []) = said_so ∙ (ap (λ n. (xs ++ told) ++ ToServer n text ∷ []) (is ∙ number) ∙ (append_assoc xs told (ToServer s text ∷ []) ∙ ap (λ ws. xs ++ (ws ++ ToServer s text ∷ [])) (made.0 ∙ now.0))) in
      record {
        outs = all ∙ ap (λ ws. xs ++ (ws ++ ToServer s text ∷ [])) (sym (outs_to_start s (syncing settings (behind base xs) g s e) (behind base xs)));
        stands = subst (λ es. AllStand settings (u, nothing_owed) es) (sym (ap (behind base) all ∙ (behind_more base xs (to s (syncing settings (behind base xs) g s e) ++ ToServer s text ∷ []) ∙ behind_more (behind base xs) (to s (syncing settings (behind base xs) g s e)) (ToServer s text ∷ [])))) now.1;
      };
}

-- a request
pub asked_does : (settings : Settings) (t u : Tables) (xs ys told : List Out) (base : List Event) (g s start e : ℕ) (z : Start) (ids : Table) (pending : Pending) (noted : List (List ℕ × Stamp)) (text id : List ℕ) (work partial : Option (List ℕ)) (method : List ℕ) (name : Id) (ps : Option Json) → slice_get (map number_in t.lasts.items) g ≡ Some s → g < length t.lasts.items → z ≡ get_or t.lasts.items g z
    → z.life.stage ≡ Ready → message_of text ≡ request name method ps → is_own method ≡ false → Sends settings s e id work partial (behind base xs) → toucher_of settings z.life.start (behind base xs) (message_of text) ≡ Some e → forwarded_of (record { number = z.ids.next; pending = pending }) ≡ sent_as (record { editor = e; id = id; work = work; partial = partial }) z.ids.next
    → ids.requests ≡ z.ids.requests ++ record { number = z.ids.next; pending = pending } ∷ [] → ids.next ≡ z.ids.next + 1 → ids.limit ≡ z.ids.limit → IsInOrder ids
    → u.lasts.items ≡ slice_set t.lasts.items g (record z { ids = ids }) → u.editors ≡ t.editors → u.groups ≡ t.groups → u.course ≡ t.course → u.origins.groups ≡ t.origins.groups → u.origins.stopping ≡ t.origins.stopping → u.origins.created ≡ t.origins.created
    → ((bodies : List (List ℕ)) → Stands settings t (behind (behind base xs) (to z.life.start bodies)) → WaitsMove settings t.origins u.origins (behind (behind base xs) (to z.life.start bodies)) (said (ToServer z.life.start text))) → u.requests ≡ t.requests → u.versions ≡ t.versions
    → StepAt (sync_row e) g (slice_get t.documents.items g) t.documents.items told u.documents.items → pending.editor ≡ e → pending.noted ≡ Some noted → StampsAt noted (versions_of e) (slice_get u.documents.items g)
    → start ≡ z.life.start → ys ≡ (xs ++ told) ++ ToServer start text ∷ [] → (h : ℕ) → z.life.group ≡ h
    → Does (λ k events. AllStand settings k events) (look (λ now. to_start s (syncing settings now h s e) ⨾ send (ToServer s text))) base (t, nothing_owed) xs (u, nothing_owed) ys
asked_does settings t u xs ys told base g s start e z ids pending noted text id work partial method name ps at within read ready says own sends works kept put next limit order set es gs time og sk cr waits r vs does asker notes stamps is said_so h mine =
    subst (λ g. Does (λ k events. AllStand settings k events) (look (λ now. to_start s (syncing settings now g s e) ⨾ send (ToServer s text))) base (t, nothing_owed) xs (u, nothing_owed) ys) mine
    (synced_does settings t u xs ys told base g s start e z text here number (λ d has docs st ds. all_last settings t now g e z d text here has ready silent synced works st ds u ids set vs docs (stands d has st ds)
    (notes_more settings z.life.start z.ids.next pending ids.requests z.ids.requests
    (behind now (to z.life.start (rows.sync_bodies d.versions (λ w. held_at z.life.start w now) e d.opens)) ++ said (ToServer z.life.start text) ∷ []) put (noted_now d has docs st ds)) s number) does is said_so)
  where
    now : List Event
    now = behind base xs

    here : slice_get t.lasts.items g ≡ Some z
    here = read_here t.lasts.items g z within read

    number : z.life.start ≡ s
    number = start_at_place t.lasts.items g s z here at

    silent : saying_of (message_of text) ≡ nothing
    silent = ap saying_of says

    synced : is_synced (message_of text) ≡ true
    synced = ap is_synced says ∙ ap not own

    noted_now : (d : Documents) (has : slice_get t.documents.items g ≡ Some d) → u.documents.items ≡ slice_set t.documents.items g (sync_row e d).after → (st : Stands settings t now) → (ds : DocumentsStand settings nothing_owed t now)
        → IsNoted settings z.life.start z.ids.next pending.editor (behind now (to z.life.start (rows.sync_bodies d.versions (λ u. held_at z.life.start u now) e d.opens)) ++ said (ToServer z.life.start text) ∷ []) pending.noted
    noted_now d has docs st ds =
        let last = behind now (to z.life.start (rows.sync_bodies d.versions (λ u. held_at z.life.start u now) e d.opens)) ++ said (ToServer z.life.start text) ∷ [] in
        let there : slice_get u.documents.items g ≡ Some (sync_row e d).after = ap (λ xs. slice_get xs g) docs ∙ get_set_same t.documents.items g (sync_row e d).after (slice_get_within t.documents.items g d has) in
        subst (λ n. IsNoted settings z.life.start z.ids.next n last pending.noted) (sym asker) (subst (λ x. IsNoted settings z.life.start z.ids.next e last x) (sym notes)
        (asked_noted settings t now g e z d text here has ready silent synced works st ds name method ps noted says own (subst (λ o. StampsAt noted (versions_of e) o) there stamps)))

    stands : (d : Documents) → slice_get t.documents.items g ≡ Some d → Stands settings t now → DocumentsStand settings nothing_owed t now
        → Stands settings t (behind now (to z.life.start (rows.sync_bodies d.versions (λ u. held_at z.life.start u now) e d.opens)))
        → Stands settings u (behind now (to z.life.start (rows.sync_bodies d.versions (λ u. held_at z.life.start u now) e d.opens)) ++ said (ToServer z.life.start text) ∷ [])
    stands d has st ds mid_st =
        let bodies = rows.sync_bodies d.versions (λ u. held_at z.life.start u now) e d.opens in
        let mid = behind now (to z.life.start bodies) in
        let sends_on : Sends settings z.life.start e id work partial mid = sender_told settings z.life.start z.life.start bodies now e id work partial (tell settings t now g e z d text here has ready silent synced works st ds) (subst (λ n. Sends settings n e id work partial now) (sym number) sends) in
        (does_entry mid_st (forward_does settings t u [] (ToServer z.life.start text ∷ []) mid g z.life.start z.life.start e z ids pending text id work partial method name ps (subst (λ n. slice_get (map number_in t.lasts.items) g ≡ Some n) (sym number) at) within read says own
        (subst (λ es. Sends settings z.life.start e id work partial es) (sym (append-nil mid)) sends_on) kept put next limit order set es gs time og sk cr
        (subst (λ es. WaitsMove settings t.origins u.origins es (said (ToServer z.life.start text))) (sym (append-nil mid)) (waits bodies mid_st)) r refl refl)).stands

-- a notification
pub passed_does : (settings : Settings) (t u : Tables) (xs ys told : List Out) (base : List Event) (g s start e : ℕ) (z : Start) (text method : List ℕ) (ps : Option Json) → slice_get (map number_in t.lasts.items) g ≡ Some s → g < length t.lasts.items → z ≡ get_or t.lasts.items g z
    → z.life.stage ≡ Ready → message_of text ≡ notification method ps → is_synced (message_of text) ≡ true → worker_of (behind base xs) ≡ Some e
    → u.lasts ≡ t.lasts → u.editors ≡ t.editors → u.groups ≡ t.groups → u.course ≡ t.course → u.origins ≡ t.origins → u.requests ≡ t.requests → u.versions ≡ t.versions
    → StepAt (sync_row e) g (slice_get t.documents.items g) t.documents.items told u.documents.items → start ≡ z.life.start → ys ≡ (xs ++ told) ++ ToServer start text ∷ [] → (h : ℕ) → z.life.group ≡ h
    → Does (λ k events. AllStand settings k events) (look (λ now. to_start s (syncing settings now h s e) ⨾ send (ToServer s text))) base (t, nothing_owed) xs (u, nothing_owed) ys
passed_does settings t u xs ys told base g s start e z text method ps at within read ready says synced works ls es gs time os r vs does is said_so h mine =
    subst (λ g. Does (λ k events. AllStand settings k events) (look (λ now. to_start s (syncing settings now g s e) ⨾ send (ToServer s text))) base (t, nothing_owed) xs (u, nothing_owed) ys) mine
    (synced_does settings t u xs ys told base g s start e z text here number (λ d has docs st ds. all_last settings t now g e z d text here has ready silent synced (ap (λ w. toucher w (message_of text) (first_waiting settings z.life.start now)) works) st ds u z.ids put vs docs (stands d) (λ k. k) s number) does is said_so)
  where
    now : List Event
    now = behind base xs

    here : slice_get t.lasts.items g ≡ Some z
    here = read_here t.lasts.items g z within read

    number : z.life.start ≡ s
    number = start_at_place t.lasts.items g s z here at

    put : u.lasts.items ≡ slice_set t.lasts.items g z
    put = ap (λ v. v.items) ls ∙ sym (set_same t.lasts.items g z here)

    -- it speaks of no document, and cancels nothing
    plain : (saying_by method ps ≡ nothing) × (bytes_eq method (codes "$/cancelRequest") ≡ false)
    plain = plain_notice method ps (ap is_synced (sym says) ∙ synced)

    silent : saying_of (message_of text) ≡ nothing
    silent = ap saying_of says ∙ plain.0

    stands : (d : Documents) → Stands settings t (behind now (to z.life.start (rows.sync_bodies d.versions (λ u. held_at z.life.start u now) e d.opens)))
        → Stands settings u (behind now (to z.life.start (rows.sync_bodies d.versions (λ u. held_at z.life.start u now) e d.opens)) ++ said (ToServer z.life.start text) ∷ [])
    stands d mid_st =
        let mid = behind now (to z.life.start (rows.sync_bodies d.versions (λ u. held_at z.life.start u now) e d.opens)) in
        (does_entry mid_st (unmoved_does settings t u [] (ToServer z.life.start text ∷ []) mid g z.life.start z.life.start z text (subst (λ n. slice_get (map number_in t.lasts.items) g ≡ Some n) (sym number) at) within read
        (ap (requests (codes "shutdown")) says) (ap moves_ids says ∙ plain.1) (λ _. asks_stay settings z.life.start (behind mid []) (said (ToServer z.life.start text)) (ap is_answer says)) (ap (λ v. v.items) ls) es gs time os r refl refl)).stands
