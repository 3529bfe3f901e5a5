-- Behind one more entry each message that went on behind a sync stood on its editor's own texts.
use Rattle.std.proofs.Common.{◌≡◌, ℕ, ◌<◌, ◌^◌, true, List, [], ◌∷◌, ◌++◌, flat_map, map, fold, refl, sym, ◌∙◌, ap, subst, append-nil, append_assoc, ap₂, Bool, false}
use Rattle.std.specs.Prelude.{Option, Some, None, slice_get}
use Rattle.std.specs.List.{AllByRecursion}
use Rattle.mux_history.specs.declared.cause.Cause.{Cause}
use Rattle.mux_history.specs.declared.cause.Cause.TheVariants.{FromEditor, FromServer, Joined, EditorGone, Started, StartFailed, ServerGone, Drained, Tick}
use Rattle.mux_history.specs.declared.entry.Entry.{Entry}
use Rattle.mux_history.specs.declared.out.Out.{Out}
use Rattle.mux_history.specs.declared.out.Out.TheVariants.{ToEditor, ToServer, Spawn, CloseEditor, EndServer}
use Rattle.rpc_message.specs.Message.{message_of}
use Rattle.document_model.specs.Helds.{HeldText}
use Rattle.document_model.specs.Opens.{Open, holder}
use Rattle.document_model.specs.Orderly.{AllSpelt}
use Rattle.document_model.specs.Rows.{Agrees}
use Rattle.document_model.specs.Texts.{Texts, found}
use Rattle.document_model.proofs.Spoken.{AllSpeak}
use Rattle.mux_causes.specs.document_laws.specs.Follows.{Matches}
use Rattle.event_model.specs.declared.stage.Stage.{Stage}
use Rattle.event_model.specs.declared.stage.Stage.TheVariants.{Ready}
use Rattle.event_model.specs.Event.{Event, behind, events_of, heard, said, with_cause}
use Rattle.event_model.specs.Settings.{Settings}
use Rattle.event_model.specs.Spawns.{group_behind, group_of, start_of}
use Rattle.event_model.specs.Stages.{Life, is_ready, life_of}
use Rattle.event_model.proofs.Frames.{never, one_more, outs_more}
use Rattle.event_model.proofs.Places.{same_item}
use Rattle.focus_switch.specs.Documents.{Documents, version_held}
use Rattle.mux_facts.specs.Ranges.{InRange}
use Rattle.mux_facts.proofs.DocumentRow.{ready_is}
use Rattle.mux_facts.proofs.Keeps.{behind_both}
use Rattle.mux_model.specs.Documents.{held_at}
use Rattle.group_sessions.specs.group_rows.specs.Rows.{sync_bodies}
use Rattle.group_sessions.specs.group_rows.proofs.Frames.{texts_more}
use Rattle.group_sessions.specs.group_rows.specs.Texts.{is_synced, texts_of, toucher, toucher_of}
use Rattle.group_sessions.specs.group_rows.specs.Waiting.{worker_behind, worker_of, first_waiting}
use Rattle.group_sessions.specs.group_facts.specs.Legal.{Legal}
use Rattle.group_sessions.specs.group_facts.specs.OwnTexts.{AllHaveHolders, AllOnOwnTexts, HasHolders, OnOwnTexts, OwnTexts, OwnTextsFrom, HasOwn}
use Rattle.group_sessions.specs.group_facts.specs.Why.{AllSlow, AllWhy, HasParts, IsBehindSync, IsQuestion, ReasonsFrom, SlowOuts, Why, WhyToServer, begins, cancels, cancels_work, conveys, exits, forwarded, greets, notes, quitting, resolves, responds, shuts, tells, Going, at_once, had_waited}
use Rattle.group_sessions.specs.group_facts.proofs.Asides.{answer_aside, spoken_aside, unsynced}
use Rattle.group_sessions.specs.group_facts.proofs.Everywhere.{reasons_hold}
use Rattle.group_sessions.specs.group_facts.proofs.Same.{IsBody, same_behind, same_held, same_questions}
use Rattle.group_sessions.specs.group_facts.proofs.SlowRow.{quit_unsynced}
use Rattle.mux_causes.specs.group_laws.specs.Stands.{HeldStands}
use Rattle.mux_causes.specs.group_laws.proofs.OwnTexts.{own_texts}
use Rattle.mux_causes.specs.group_laws.proofs.Asking.{sync_speaks, to}
use Rattle.mux_causes.specs.group_laws.proofs.Entries.{first_behind, texts_told}
use Rattle.mux_causes.specs.mux_tables.specs.declared.tables.Tables.{Tables}
use Rattle.mux_causes.specs.mux_tables.specs.Documents.{DocumentsStand, SharedStands, nothing_owed}
use Rattle.mux_causes.specs.mux_tables.specs.Stands.{Stands, of_life}
use Rattle.mux_causes.specs.mux_tables.proofs.DocumentMoves.{documents_at}
use Rattle.mux_causes.specs.mux_tables.proofs.Homes.{kept_start}
use Rattle.mux_causes.specs.mux_tables.proofs.Placed.{KeptAt}
use Rattle.mux_hub.specs.Entries.{entry_of}
use Rattle.mux_model.specs.Fits.{fits_behind}
use Rattle.group_sessions.specs.group_facts.specs.SlowRows.{entry_outs}
use Rattle.group_sessions.specs.group_facts.proofs.Facts.{Facts}
use Rattle.group_sessions.specs.group_facts.proofs.Reached.{facts_at, reached}
use Rattle.group_sessions.specs.ExitReplay.{gives_result}
use Rattle.group_sessions.proofs.FirstTexts.{both_own, waited_gives}
use Rattle.group_sessions.proofs.ListsLaw.{legal_parts}
use Rattle.group_sessions.proofs.ReplayLaw.{entry_first}

-- what an editor that is slow leaves behind goes behind no sync
module _ (settings : Settings) where
  slow_why : (place : List Event) (e : ℕ) (events : List Event) (out : Out) → Why settings place (quitting e) events out → OnOwnTexts settings events out
  slow_why place e events (ToServer s body) why = λ goes. absurd (quit_unsynced settings place e events s body why goes)
  slow_why place e events (ToEditor n body) why = tt
  slow_why place e events (Spawn s g) why = tt
  slow_why place e events (CloseEditor n) why = tt
  slow_why place e events (EndServer s) why = tt

  one_slow : (place : List Event) (e : ℕ) (events : List Event) (outs : List Out) → AllWhy settings place (quitting e) events outs → AllOnOwnTexts settings events outs
  one_slow place e events [] why = tt
  one_slow place e events (out ∷ outs) why = (slow_why place e events out why.0, one_slow place e (events ++ said out ∷ []) outs why.1)

  slow_own : (events : List Event) (xs : List SlowOuts) → AllSlow settings events xs → AllOnOwnTexts settings events (flat_map (λ (x : SlowOuts). x.outs) xs)
  slow_own events [] h = tt
  slow_own events (x ∷ xs) h = both_own settings events x.outs (flat_map (λ (y : SlowOuts). y.outs) xs) (one_slow events x.editor events x.outs h.1.0) (slow_own (behind events x.outs) xs h.1.1)

module _ (settings : Settings) (t : Tables) (before : List Event) (st : Stands settings t before) (ds : DocumentsStand settings nothing_owed t before) where
  -- the last start of a group, where it is ready
  last_of : (g s : ℕ) → start_of g before ≡ Some s → is_ready (life_of s before).stage ≡ true → (k : KeptAt g t.lasts.items) × (k.last.life.start ≡ s)
  last_of g s is ready =
      let k = kept_start settings t before g st s is (λ e. never (sym ready ∙ ap is_ready e)) in
      (k, same_item (sym (st.lasts.each k.place k.last k.at).start ∙ (ap (λ n. start_of n before) k.group ∙ is)))

  -- the documents of a group whose last start is ready
  shared_of : (g s : ℕ) (k : KeptAt g t.lasts.items) (d : Documents) → k.last.life.start ≡ s → slice_get t.documents.items k.place ≡ Some d → is_ready (life_of s before).stage ≡ true → SharedStands settings before [] g s Ready d
  shared_of g s k d same has ready =
      let x = k.last in
      let stage : x.life.stage ≡ Ready = ready_is x.life.stage (ap (λ (l : Life). is_ready l.stage) (sym (subst (λ n. life_of n before ≡ record { stage = x.life.stage; started = x.started }) same ((st.lasts.each k.place x k.at).parts of_life))) ∙ ready) in
      subst (λ n. SharedStands settings before [] g n Ready d) same (subst (λ (q : Stage). SharedStands settings before [] g x.life.start q d) stage (subst (λ n. SharedStands settings before [] n x.life.start x.life.stage d) k.group (ds.each k.place x d k.at has)))

  worker_told : (s : ℕ) (bodies : List (List ℕ)) (w : Option ℕ) → fold worker_behind w (map said (to s bodies)) ≡ w
  worker_told s [] w = refl
  worker_told s (b ∷ bodies) w = worker_told s bodies w

  group_told : (s n : ℕ) (bodies : List (List ℕ)) (w : Option ℕ) → fold (group_behind n) w (map said (to s bodies)) ≡ w
  group_told s n [] w = refl
  group_told s n (b ∷ bodies) w = group_told s n bodies w

  bodies_only : (s : ℕ) (bodies : List (List ℕ)) → AllByRecursion IsBody (to s bodies)
  bodies_only s [] = tt
  bodies_only s (b ∷ bodies) = (tt, bodies_only s bodies)

  -- what an editor is asked as it begins to run
  worker_asked : (e : ℕ) (xs : List Out) (w : Option ℕ) → AllByRecursion (IsQuestion e) xs → fold worker_behind w (map said xs) ≡ w
  worker_asked e [] w h = refl
  worker_asked e (ToEditor n b ∷ xs) w h = worker_asked e xs w h.1
  worker_asked e (ToServer n b ∷ xs) w h = absurd h.0
  worker_asked e (Spawn n g ∷ xs) w h = absurd h.0
  worker_asked e (CloseEditor n ∷ xs) w h = absurd h.0
  worker_asked e (EndServer n ∷ xs) w h = absurd h.0

  group_asked : (e s : ℕ) (xs : List Out) (w : Option ℕ) → AllByRecursion (IsQuestion e) xs → fold (group_behind s) w (map said xs) ≡ w
  group_asked e s [] w h = refl
  group_asked e s (ToEditor n b ∷ xs) w h = group_asked e s xs w h.1
  group_asked e s (ToServer n b ∷ xs) w h = absurd h.0
  group_asked e s (Spawn n g ∷ xs) w h = absurd h.0
  group_asked e s (CloseEditor n ∷ xs) w h = absurd h.0
  group_asked e s (EndServer n ∷ xs) w h = absurd h.0

  texts_asked : (e g : ℕ) (events : List Event) (xs : List Out) → AllByRecursion (IsQuestion e) xs → texts_of settings g (behind events xs) ≡ texts_of settings g events
  texts_asked e g events [] h = ap (texts_of settings g) (append-nil events)
  texts_asked e g events (ToEditor n b ∷ xs) h = ap (texts_of settings g) (first_behind events (ToEditor n b) xs)
      ∙ (texts_asked e g (events ++ said (ToEditor n b) ∷ []) xs h.1 ∙ texts_more settings g events (said (ToEditor n b)))
  texts_asked e g events (ToServer n b ∷ xs) h = absurd h.0
  texts_asked e g events (Spawn n k ∷ xs) h = absurd h.0
  texts_asked e g events (CloseEditor n ∷ xs) h = absurd h.0
  texts_asked e g events (EndServer n ∷ xs) h = absurd h.0

  -- the editor's documents were told to the start of its group
  behind_sync : (events : List Event) (s e : ℕ) (asked body : List ℕ) → IsBehindSync settings before events s e asked → (w g : ℕ) → toucher_of settings s events (message_of body) ≡ Some w → group_of s events ≡ Some g
      → (u : List ℕ) (o : Open) → found w u (texts_of settings g events) ≡ Some o → HasOwn o (held_at s u events)
  behind_sync events s e asked body k w g touches home u o is =
      let bodies : List (List ℕ) = sync_bodies settings.limits.versions (λ v. held_at s v before) e (texts_of settings k.group before).opens in
      let x = last_of k.group s k.start k.ready in
      let d = documents_at settings nothing_owed t before x.0.place x.0.last x.0.at ds in
      let shared = shared_of k.group s x.0 d.0 x.1 d.1 k.ready in
      let few : d.0.versions < 2 ^ 32 = subst (λ n. n < 2 ^ 32) (sym (shared.versions ∙ ds.versions)) ds.range in
      let holds : HeldStands s shared.start.code d.0 before = subst (λ es. HeldStands s shared.start.code d.0 es) (append-nil before) shared.start.holds in
      let now : List Event = with_cause before (FromEditor e asked) in
      let mid : List Event = behind now k.questions in
      let place : events ≡ behind mid (to s bodies) = k.place ∙ behind_both now k.questions (to s bodies) in
      let at_work : worker_of mid ≡ Some e = outs_more worker_behind None (Some e) now k.questions (one_more worker_behind None (worker_of before) before (heard (FromEditor e asked)) refl) ∙ worker_asked e k.questions (Some e) k.asks in
      let works : worker_of events ≡ Some e = ap worker_of place ∙ (outs_more worker_behind None (Some e) mid (to s bodies) at_work ∙ worker_told s bodies (Some e)) in
      let worker : w ≡ e = same_item (sym touches ∙ ap (λ o. toucher o (message_of body) (first_waiting settings s events)) works) in
      let lived : group_of s before ≡ Some k.group = subst (λ n. group_of n before ≡ Some k.group) x.1 (subst (λ n. group_of x.0.last.life.start before ≡ Some n) x.0.group (st.lasts.each x.0.place x.0.last x.0.at).home) in
      let lives : group_of s mid ≡ Some k.group = outs_more (group_behind s) None (Some k.group) now k.questions (one_more (group_behind s) None (Some k.group) before (heard (FromEditor e asked)) lived) ∙ group_asked e s k.questions (Some k.group) k.asks in
      let group : g ≡ k.group = same_item (sym home ∙ (ap (group_of s) place ∙ (outs_more (group_behind s) None (Some k.group) mid (to s bodies) lives ∙ group_told s s bodies (Some k.group)))) in
      let spelt : AllSpelt (texts_of settings k.group before).opens = subst (λ (x : Texts). AllSpelt x.opens) (sym shared.texts.texts) shared.texts.spelt in
      let speak : AllSpeak bodies = sync_speaks settings.limits.versions e (λ v. held_at s v before) (texts_of settings k.group before).opens (subst (λ n. n < 2 ^ 32) (sym ds.versions) ds.range) spelt in
      let texts : texts_of settings k.group events ≡ texts_of settings k.group (behind now (to s bodies)) =
      ap (texts_of settings k.group) place ∙ (texts_told settings k.group s mid bodies speak ∙ (texts_asked e k.group now k.questions k.asks ∙ sym (texts_told settings k.group s now bodies speak))) in
      let same : held_at s u events ≡ held_at s u (behind now (to s bodies)) =
      ap (held_at s u) place ∙ same_held settings (same_behind settings mid now (to s bodies) (bodies_only s bodies) (same_questions settings e now k.questions k.asks)) s u in
      let own = own_texts settings k.group s e shared.start.code before asked d.0 k.stays k.silent shared.versions few shared.texts holds u o
      (subst (λ (x : Texts). found e u x ≡ Some o) texts (subst (λ n. found e u (texts_of settings n events) ≡ Some o) group (subst (λ n. found n u (texts_of settings g events) ≡ Some o) worker is))) in
      subst (HasOwn o) (sym same) (agrees (held_at s u (behind now (to s bodies))) own.0 own.1 own.2)
    where
      agrees : (k : Option HeldText) (h : HeldText) → k ≡ Some h → Agrees o h → HasOwn o k
      agrees k h is same = subst (HasOwn o) (sym is) same

  -- no start gives its first result by it
  abbrev Unheard : Cause → Type 0
  Unheard cause = (s : ℕ) (body : List ℕ) → cause ≡ FromServer s body → gives_result s before body ≡ true → ⊥

  -- so no request that waited goes
  by_going : (cause : Cause) (events : List Event) (s e : ℕ) (asked body : List ℕ) → Unheard cause → (life_of s events).stage ≡ Ready → Going settings before cause events s e asked → (w g : ℕ) → toucher_of settings s events (message_of body) ≡ Some w → group_of s events ≡ Some g
      → (u : List ℕ) (o : Open) → found w u (texts_of settings g events) ≡ Some o → HasOwn o (held_at s u events)
  by_going cause events s e asked body unheard ready (at_once from sync) = behind_sync events s e asked body sync
  by_going cause events s e asked body unheard ready (had_waited k) = absurd (unheard s k.answer k.from (waited_gives settings before cause events s e asked k ready))

  -- S2's configuration goes where no editor's message is at work
  by_reason : (cause : Cause) (events : List Event) (s : ℕ) (body : List ℕ) → Unheard cause → worker_of events ≡ worker_of (with_cause before cause) → WhyToServer settings before cause events s body → is_synced (message_of body) ≡ true → (w g : ℕ) → toucher_of settings s events (message_of body) ≡ Some w → group_of s events ≡ Some g
      → (u : List ℕ) (o : Open) → found w u (texts_of settings g events) ≡ Some o → HasOwn o (held_at s u events)
  by_reason cause events s body unheard still (begins k) goes = unsynced body _ k.says refl goes
  by_reason cause events s body unheard still (greets k) goes = unsynced body _ k.says refl goes
  by_reason cause events s body unheard still (conveys k) goes = λ w g touches home u o is. absurd (none w
      (sym (ap₂ (λ a m. toucher a m (first_waiting settings s events)) (still ∙ (ap (λ c. worker_of (with_cause before c)) k.from ∙ one_more worker_behind None (worker_of before) before (heard (FromServer s k.answer)) refl)) k.says) ∙ touches))
    where
      none : (w : ℕ) → ◌≡◌ {A = Option ℕ} None (Some w) → ⊥
      none w clash = absurd (cc)
  by_reason cause events s body unheard still (forwarded k) goes = by_going cause events s k.sender.editor k.asked body unheard k.ready k.going
  by_reason cause events s body unheard still (notes k) goes = behind_sync events s k.editor body body k.synced
  by_reason cause events s body unheard still (tells k) goes = never (sym goes ∙ spoken_aside (message_of body) k.spoken)
  by_reason cause events s body unheard still (shuts k) goes = unsynced body _ k.says refl goes
  by_reason cause events s body unheard still (cancels k) goes = unsynced body _ k.says refl goes
  by_reason cause events s body unheard still (cancels_work k) goes = unsynced body _ k.says refl goes
  by_reason cause events s body unheard still (responds k) goes = never (sym goes ∙ answer_aside (message_of body) k.response)
  by_reason cause events s body unheard still (resolves k) goes = never (sym goes ∙ answer_aside (message_of body) k.response)
  by_reason cause events s body unheard still (exits k) goes = unsynced body _ k.says refl goes

  by_why : (cause : Cause) (events : List Event) (out : Out) → Unheard cause → worker_of events ≡ worker_of (with_cause before cause) → Why settings before cause events out → OnOwnTexts settings events out
  by_why cause events (ToServer s body) unheard still why = by_reason cause events s body unheard still why
  by_why cause events (ToEditor e body) unheard still why = tt
  by_why cause events (Spawn s g) unheard still why = tt
  by_why cause events (CloseEditor e) unheard still why = tt
  by_why cause events (EndServer s) unheard still why = tt

  worker_stays : (events : List Event) (out : Out) → worker_of (events ++ said out ∷ []) ≡ worker_of events
  worker_stays events (ToServer s body) = one_more worker_behind None (worker_of events) events (said (ToServer s body)) refl
  worker_stays events (ToEditor e body) = one_more worker_behind None (worker_of events) events (said (ToEditor e body)) refl
  worker_stays events (Spawn s g) = one_more worker_behind None (worker_of events) events (said (Spawn s g)) refl
  worker_stays events (CloseEditor e) = one_more worker_behind None (worker_of events) events (said (CloseEditor e)) refl
  worker_stays events (EndServer s) = one_more worker_behind None (worker_of events) events (said (EndServer s)) refl

  row_own : (cause : Cause) (events : List Event) (outs : List Out) → Unheard cause → worker_of events ≡ worker_of (with_cause before cause) → AllWhy settings before cause events outs → AllOnOwnTexts settings events outs
  row_own cause events [] unheard still why = tt
  row_own cause events (out ∷ outs) unheard still why = (by_why cause events out unheard still why.0, row_own cause (events ++ said out ∷ []) outs unheard (worker_stays events out ∙ still) why.1)

  -- the outs of an entry, with those of the editors that are slow behind its row
  unheard_own : (cause : Cause) → Unheard cause → (outs : List Out) → HasParts settings before cause outs → AllOnOwnTexts settings (with_cause before cause) outs
  unheard_own cause unheard outs h = subst (AllOnOwnTexts settings (with_cause before cause)) (sym h.parts)
      (both_own settings (with_cause before cause) h.row (flat_map (λ (x : SlowOuts). x.outs) h.slow) (row_own cause (with_cause before cause) h.row unheard refl h.why) (slow_own settings (behind (with_cause before cause) h.row) h.slow h.leave))

  -- S2's stand on them by its row
  pub entry_own : InRange settings → Facts settings before → (cause : Cause) → fits_behind before cause ≡ true → HasParts settings before cause (entry_outs settings before cause) → AllOnOwnTexts settings (with_cause before cause) (entry_outs settings before cause)
  entry_own range facts (FromServer s body) fits h = go (gives_result s before body) refl
    where
      same : (n : ℕ) (text : List ℕ) → FromServer s body ≡ FromServer n text → (s ≡ n) × (body ≡ text)
      same n text is = (cc, cc)

      go : (b : Bool) → gives_result s before body ≡ b → AllOnOwnTexts settings (with_cause before (FromServer s body)) (entry_outs settings before (FromServer s body))
      go true gives = entry_first settings range before facts s body fits gives
      go false other = unheard_own (FromServer s body) (λ n text from gives. let k = same n text from in never (sym gives ∙ (ap₂ (λ i t. gives_result i before t) (sym k.0) (sym k.1) ∙ other))) (entry_outs settings before (FromServer s body)) h
  entry_own range facts (Joined e) fits h = unheard_own (Joined e) (λ n text from gives. absurd (cc)) (entry_outs settings before (Joined e)) h
  entry_own range facts (FromEditor e body) fits h = unheard_own (FromEditor e body) (λ n text from gives. absurd (cc)) (entry_outs settings before (FromEditor e body)) h
  entry_own range facts (EditorGone e why) fits h = unheard_own (EditorGone e why) (λ n text from gives. absurd (cc)) (entry_outs settings before (EditorGone e why)) h
  entry_own range facts (Started s) fits h = unheard_own (Started s) (λ n text from gives. absurd (cc)) (entry_outs settings before (Started s)) h
  entry_own range facts (StartFailed s) fits h = unheard_own (StartFailed s) (λ n text from gives. absurd (cc)) (entry_outs settings before (StartFailed s)) h
  entry_own range facts (ServerGone s) fits h = unheard_own (ServerGone s) (λ n text from gives. absurd (cc)) (entry_outs settings before (ServerGone s)) h
  entry_own range facts (Drained e k) fits h = unheard_own (Drained e k) (λ n text from gives. absurd (cc)) (entry_outs settings before (Drained e k)) h
  entry_own range facts (Tick t) fits h = unheard_own (Tick t) (λ n text from gives. absurd (cc)) (entry_outs settings before (Tick t)) h

  -- what a ready start of a group has
  pub holders : AllHaveHolders settings before
  holders g s is ready u =
      let x = last_of g s is ready in
      let d = documents_at settings nothing_owed t before x.0.place x.0.last x.0.at ds in
      let shared = shared_of g s x.0 d.0 x.1 d.1 ready in
      let same : HeldStands s shared.start.code d.0 before = subst (λ es. HeldStands s shared.start.code d.0 es) (append-nil before) shared.start.holds in
      subst (λ (y : Texts). HasHolders (holder u y.opens) (held_at s u before)) (sym shared.texts.texts) (by (version_held u d.0.helds) (holder u d.0.opens) (held_at s u before) (same.held u))
    where
      by : (v : Option ℕ) (o : Option Open) (h : Option HeldText) → Matches v o h → HasHolders o h
      by (Some v) (Some o) (Some h) m = m.1
      by (Some v) (Some o) None m = absurd m
      by (Some v) None h m = absurd m
      by None (Some o) h m = absurd m
      by None None (Some h) m = absurd m
      by None None None m = tt

-- the reasons of the last entry's outs
last_parts : (settings : Settings) (before rest : List Entry) (entry : Entry) → ReasonsFrom settings before (rest ++ entry ∷ []) → HasParts settings (events_of (before ++ rest)) entry.cause entry.outs
last_parts settings before [] entry h = subst (λ es. HasParts settings (events_of es) entry.cause entry.outs) (sym (append-nil before)) h.0
last_parts settings before (first ∷ rest) entry h =
    subst (λ es. HasParts settings (events_of es) entry.cause entry.outs) (append_assoc before (first ∷ []) rest) (last_parts settings (before ++ first ∷ []) rest entry h.1)

-- one more entry
own_from : (settings : Settings) (before rest : List Entry) (entry : Entry) → OwnTextsFrom settings before rest → AllOnOwnTexts settings (with_cause (events_of (before ++ rest)) entry.cause) entry.outs
    → AllHaveHolders settings (events_of (before ++ (rest ++ entry ∷ []))) → OwnTextsFrom settings before (rest ++ entry ∷ [])
own_from settings before [] entry h k l = (subst (λ es. AllOnOwnTexts settings (with_cause (events_of es) entry.cause) entry.outs) (append-nil before) k, l, tt)
own_from settings before (first ∷ rest) entry h k l =
    let e : (before ++ first ∷ []) ++ rest ≡ before ++ first ∷ rest = append_assoc before (first ∷ []) rest in
    let f : (before ++ first ∷ []) ++ (rest ++ entry ∷ []) ≡ before ++ first ∷ (rest ++ entry ∷ []) = append_assoc before (first ∷ []) (rest ++ entry ∷ []) in
    (h.0, h.1, own_from settings (before ++ first ∷ []) rest entry h.2 (subst (λ es. AllOnOwnTexts settings (with_cause (events_of es) entry.cause) entry.outs) (sym e) k) (subst (λ es. AllHaveHolders settings (events_of es)) (sym f) l))

pub own_more : (settings : Settings) → InRange settings → (t u : Tables) (history : List Entry) (cause : Cause) → Legal settings (history ++ entry_of settings history cause ∷ []) → Stands settings t (events_of history) → DocumentsStand settings nothing_owed t (events_of history)
    → Stands settings u (events_of (history ++ entry_of settings history cause ∷ [])) → DocumentsStand settings nothing_owed u (events_of (history ++ entry_of settings history cause ∷ []))
    → OwnTexts settings history → OwnTexts settings (history ++ entry_of settings history cause ∷ [])
own_more settings range t u history cause legal st ds now later own =
    let parts = legal_parts settings [] history (entry_of settings history cause ∷ []) legal in
    own_from settings [] history (entry_of settings history cause) own
    (entry_own settings t (events_of history) st ds range (facts_at settings range (events_of history) (reached settings history parts.0)) cause parts.1.0
    (last_parts settings [] history (entry_of settings history cause) (reasons_hold settings range (history ++ entry_of settings history cause ∷ []) legal)))
    (holders settings u (events_of (history ++ entry_of settings history cause ∷ [])) now later)
