-- E12 to E14: an editor says something of a document: what is kept of it, and what the start is owed.
use Rattle.std.proofs.Common.{◌≡◌, ℕ, ◌+◌, ◌<◌, ◌^◌, Bool, true, false, not, ◌&&◌, ◌||◌, List, [], ◌∷◌, ◌++◌, nat_eq, codes, refl, sym, ap, ap₂, subst, ◌∙◌, append-nil, arith, if◌then◌else◌}
use Rattle.std.specs.Prelude.{Option, Some, None, bytes_eq, slice_get}
use Rattle.std.specs.List.{AllByRecursion}
use Rattle.std.specs.Option.{option_and_then, option_map, option_map_or}
use Rattle.std.proofs.lemmas.Bool.{ne_eqb}
use Rattle.std.proofs.lemmas.Slice.Eq.{bytes_eq-Decides}
use Rattle.json_text.specs.Json.{Json}
use Rattle.json_text.specs.Tree.{tree_of}
use Rattle.mux_history.specs.declared.cause.Cause.TheVariants.{FromEditor}
use Rattle.mux_history.specs.declared.out.Out.{Out}
use Rattle.position_codec.specs.declared.Encoding.{Encoding}
use Rattle.rpc_message.specs.Message.{Message, message_in, message_of, notification}
use Rattle.document_model.specs.Opens.{Open, drop_open, is_open_at, put_open}
use Rattle.document_model.specs.Orderly.{AllSpelt, Orderly}
use Rattle.document_model.specs.Sayings.{Saying, opens, changes, closes, misshapen, nothing, saying_by, saying_of, speaks}
use Rattle.document_model.specs.Texts.{Texts, found, text_after, texts_behind}
use Rattle.document_model.proofs.Orders.{orderly_behind}
use Rattle.document_model.proofs.Spelt.{texts_spelt}
use Rattle.group_laws.specs.Follows.{texts_in}
use Rattle.group_laws.proofs.Following.{change_silent, change_stays, change_texts}
use Rattle.group_laws.proofs.Following.{close_silent, close_stays, close_texts, open_silent, open_stays, open_texts}
use Rattle.group_laws.proofs.Following.{Stays}
use Rattle.event_model.specs.declared.phase.Phase.{Phase}
use Rattle.event_model.specs.declared.phase.Phase.TheVariants.{Absent, New, Waiting, Answered, Running, Down, Closed, Gone}
use Rattle.event_model.specs.declared.stage.Stage.{Stage}
use Rattle.event_model.specs.declared.stage.Stage.TheVariants.{Unspawned, Spawning, Initializing, Ready, Stopping, Ending, Ended}
use Rattle.event_model.specs.Event.{Event, behind, heard, requests}
use Rattle.event_model.specs.Phases.{Desk, desk_behind, desk_hears, desk_of, is_running, is_served, makes_running}
use Rattle.event_model.specs.Settings.{Settings}
use Rattle.event_model.specs.Spawns.{start_of}
use Rattle.event_model.specs.Stages.{Life, is_ready, life_of}
use Rattle.event_model.proofs.Frames.{never, one_more}
use Rattle.event_model.proofs.Places.{same_item}
use Rattle.focus_switch.specs.Documents.{Documents}
use Rattle.focus_switch.specs.Rows.{Step}
use Rattle.group_laws.specs.mux_model.specs.Documents.{held_at}
use Rattle.group_words.specs.Houses.{home_of, is_home}
use Rattle.group_laws.specs.group_rows.specs.Rows as rows
use Rattle.group_laws.specs.group_rows.specs.Texts.{encoding_of, texts_of}
use Rattle.group_laws.specs.group_rows.proofs.Frames.{encoding_stays, texts_more}
use Rattle.group_laws.specs.Stands.{HeldStands}
use Rattle.group_laws.specs.Steps.{changed_by, document_step}
use Rattle.group_laws.proofs.Documents.{document_held, document_right}
use Rattle.mux_tables.specs.declared.tables.Start.{Start}
use Rattle.mux_tables.specs.declared.tables.Tables.{Tables}
use Rattle.mux_tables.specs.Documents.{AllTell, DocumentsStand, IsOwned, SharedStands, StartTold, StepAt, StepFrom, nothing_owed, noticing, owes, to}
use Rattle.mux_tables.specs.Stands.{IsLost, IsPlace, LastStands, Stands, of_life}
use Rattle.mux_tables.proofs.DocumentFrames.{SentSame, all_owned, home_served, owner_stays, sent_stays, shared_stays, start_stays, untold_stays}
use Rattle.mux_tables.proofs.DocumentLeft.{get_past}
use Rattle.mux_tables.proofs.Noting.{left_stays, moment_stays}
use Rattle.mux_tables.proofs.DocumentMoves.{Rest, documents_all, documents_at, documents_set, founds_kept, set_same, starts_kept}
use Rattle.mux_tables.proofs.Lasts.{lost_ended}
use Rattle.mux_tables.proofs.Placed.{groups_apart}
use Rattle.mux_tables.proofs.DocumentOwed.{owes_here, owes_none, owes_there}
use Rattle.mux_tables.proofs.Frames.{itself}

-- what holds of all that is open, behind one more and one less
put_all : (P : Open → Type 0) (o : Open) (os : List Open) → P o → AllByRecursion P os → AllByRecursion P (put_open o os)
put_all P o [] h k = (h, tt)
put_all P o (p ∷ ps) h k = go (is_open_at o.editor o.uri p) (put_all P o ps h k.1)
  where
    go : (b : Bool) → AllByRecursion P (put_open o ps) → AllByRecursion P (if b then o ∷ ps else p ∷ put_open o ps)
    go true rest = (h, k.1)
    go false rest = (k.0, rest)

drop_all : (P : Open → Type 0) (e : ℕ) (u : List ℕ) (os : List Open) → AllByRecursion P os → AllByRecursion P (drop_open e u os)
drop_all P e u [] k = tt
drop_all P e u (o ∷ os) k = go (is_open_at e u o) (drop_all P e u os k.1)
  where
    go : (b : Bool) → AllByRecursion P (drop_open e u os) → AllByRecursion P (if b then os else o ∷ drop_open e u os)
    go true rest = k.1
    go false rest = (k.0, rest)

texts_all : (P : Open → Type 0) (code : Option Encoding) (e : ℕ) (y : Saying) (x : Texts) → (speaks y ≡ true → (o : Open) → o.editor ≡ e → P o) → AllByRecursion P x.opens → AllByRecursion P (texts_behind code e y x).opens
texts_all P code e (opens u l v t) x own k = put_all P (record { editor = e; uri = u; language = l; version = v; text = t; touched = x.turn }) x.opens (own refl _ refl) k
texts_all P code e (closes u) x own k = drop_all P e u x.opens k
texts_all P code e misshapen x own k = k
texts_all P code e nothing x own k = k
texts_all P code e (changes u v cs) x own k = at_old (found e u x)
  where
    at_text : (o : Open) (t : Option (List ℕ)) → AllByRecursion P (option_map_or (λ (p : Open). record { turn = x.turn + 1; opens = put_open p x.opens }) (option_map (λ w. record { editor = e; uri = u; language = o.language; version = v; text = w; touched = x.turn }) t) x).opens
    at_text o None = k
    at_text o (Some w) = put_all P (record { editor = e; uri = u; language = o.language; version = v; text = w; touched = x.turn }) x.opens (own refl _ refl) k

    at_old : (o : Option Open) → AllByRecursion P (option_map_or (λ (p : Open). record { turn = x.turn + 1; opens = put_open p x.opens }) (option_and_then (λ (q : Open). option_map (λ w. record { editor = e; uri = u; language = q.language; version = v; text = w; touched = x.turn }) (text_after code cs q.text)) o) x).opens
    at_old None = k
    at_old (Some o) = at_text o (text_after code cs o.text)

-- where no start is ready nothing is sent
record Idle (e : ℕ) (d : Documents) (y : Saying) (z : Step) : Type 0 where
  pub outs : z.outs ≡ []
  pub stays : Stays d z.after
  pub texts : texts_in z.after ≡ texts_behind d.encoding e y (texts_in d)

no_changes : (body u v : List ℕ) (cs : Json) → tree_of body ≡ None → saying_of (message_of body) ≡ changes u v cs → ⊥
unfolding message_of
no_changes body u v cs e says = let z : nothing ≡ changes u v cs = sym (ap (λ o. saying_of (message_in o)) e) ∙ says in cc

idle_changes : (e : ℕ) (body : List ℕ) (d : Documents) (u v : List ℕ) (cs : Json) (o : Option Json) → tree_of body ≡ o → saying_of (message_of body) ≡ changes u v cs → d.start ≡ None → Idle e d (changes u v cs) (changed_by e body o d)
idle_changes e body d u v cs None read says h = absurd (no_changes body u v cs read says)
idle_changes e body d u v cs (Some tree) read says h = record { outs = change_silent e body tree u v cs d read says h; stays = change_stays e body tree u v cs d read says; texts = change_texts e body tree u v cs d read says }

idle_step : (e : ℕ) (body : List ℕ) (d : Documents) (y : Saying) → saying_of (message_of body) ≡ y → d.start ≡ None → Idle e d y (document_step e body y d)
idle_step e body d (opens u l v t) says h = record { outs = open_silent e u l v t d h; stays = open_stays e u l v t d; texts = open_texts e u l v t d }
idle_step e body d (changes u v cs) says h = idle_changes e body d u v cs (tree_of body) refl says h
idle_step e body d (closes u) says h = record { outs = close_silent e u d h; stays = close_stays e u d; texts = close_texts e u d }
idle_step e body d misshapen says h = record { outs = refl; stays = record { start = refl; encoding = refl; versions = refl }; texts = refl }
idle_step e body d nothing says h = record { outs = refl; stays = record { start = refl; encoding = refl; versions = refl }; texts = refl }

-- a notification on a document makes an editor that is served run
on_document : (m : Message) → speaks (saying_of m) ≡ true → (requests (codes "shutdown") m ≡ false) × (makes_running m ≡ true)
on_document (notification method ps) h = (refl, ap not (other (bytes_eq (codes "exit") method) refl))
  where
    other : (b : Bool) → bytes_eq (codes "exit") method ≡ b → (b || false) ≡ false
    other false k = refl
    other true k = never (sym h ∙ subst (λ w. speaks (saying_by w ps) ≡ false) ((bytes_eq-Decides (codes "exit") method).0 k) refl)
on_document other h = never (sym h)

speaks_running : (p : Phase) (i body : List ℕ) (m : Message) → speaks (saying_of m) ≡ true → is_served p ≡ true → is_running (desk_hears p i body m).phase ≡ true
speaks_running Answered i body m h k = go (requests (codes "shutdown") m) (on_document m h).0 (makes_running m) (on_document m h).1
  where
    go : (a : Bool) → a ≡ false → (b : Bool) → b ≡ true → is_running (if a then Down else if b then Running else Answered) ≡ true
    go true x b y = never x
    go false x true y = refl
    go false x false y = never (sym y)
speaks_running Running i body m h k = go (requests (codes "shutdown") m) (on_document m h).0
  where
    go : (a : Bool) → a ≡ false → is_running (if a then Down else Running) ≡ true
    go true x = never x
    go false x = refl
speaks_running Absent i body m h k = never (sym k)
speaks_running New i body m h k = never (sym k)
speaks_running Waiting i body m h k = never (sym k)
speaks_running Down i body m h k = never (sym k)
speaks_running Closed i body m h k = never (sym k)
speaks_running Gone i body m h k = never (sym k)

module _ (settings : Settings) (events : List Event) (g s e : ℕ) (body method : List ℕ) (params : Option Json) (reads : message_of body ≡ notification method params) (home : home_of settings e events ≡ Some g) (served : is_served (desk_of e events).phase ≡ true) where
  abbrev later : List Event
  later = events ++ heard (FromEditor e body) ∷ []

  abbrev said : Saying
  said = saying_by method params

  abbrev bodies : List (List ℕ)
  bodies = noticing settings events g s e body said

  at_home : is_home g (home_of settings e events) ≡ true
  at_home = ap (is_home g) home ∙ itself g

  says : saying_of (message_of body) ≡ said
  says = ap saying_of reads

  and_off : (b : Bool) → (b && false) ≡ false
  and_off true = refl
  and_off false = refl

  unparted : (n : ℕ) → (nat_eq e n && requests (codes "shutdown") (message_of body)) ≡ false
  unparted n = ap (λ m. nat_eq e n && requests (codes "shutdown") m) reads ∙ and_off (nat_eq e n)

  owner : (j : ℕ) (o : Open) → IsOwned settings events j o → IsOwned settings later j o
  owner j o k = owner_stays settings events j o (heard (FromEditor e body)) (unparted o.editor) k

  -- an editor that says something of a document runs behind it
  runs : speaks said ≡ true → is_running (desk_of e later).phase ≡ true
  runs h = ap (λ (k : Desk). is_running k.phase) (one_more (desk_behind e) _ _ events (heard (FromEditor e body)) refl)
      ∙ rw (itself e) (speaks_running (desk_of e events).phase (desk_of e events).initialize body (message_of body) (ap speaks says ∙ h) served)

  new_owner : speaks said ≡ true → (o : Open) → o.editor ≡ e → IsOwned settings later g o
  new_owner h o is = (ap (λ n. home_of settings n later) is ∙ (home_served settings events e (heard (FromEditor e body)) (unparted e) served ∙ home), ap (λ n. is_running (desk_of n later).phase) is ∙ runs h)

  -- the group of the editor
  module _ (d : Documents) (few : d.versions < 2 ^ 32) where
    abbrev step : Step
    step = document_step e body said d

    heard_now : texts_of settings g later ≡ texts_behind (encoding_of g events) e said (texts_of settings g events)
    heard_now = texts_more settings g events (heard (FromEditor e body)) ∙ rw (at_home, served, reads) refl

    with_start : (stage : Stage) → Stays d step.after → texts_in step.after ≡ texts_behind d.encoding e said (texts_in d) → StartTold stage s bodies step.after later → SharedStands settings events [] g s stage d → SharedStands settings later bodies g s stage step.after
    with_start stage stays texts start h = record {
      texts = record {
        texts = heard_now ∙ (ap₂ (λ c x. texts_behind c e said x) h.texts.encoding h.texts.texts ∙ sym texts);
        encoding = encoding_stays g events (heard (FromEditor e body)) refl ∙ (h.texts.encoding ∙ sym stays.encoding);
        orderly = subst Orderly (sym texts) (orderly_behind d.encoding e said (texts_in d) h.texts.orderly);
        spelt = subst (λ (x : Texts). AllSpelt x.opens) (sym texts) (subst (λ m. AllSpelt (texts_behind d.encoding e (saying_of m) (texts_in d)).opens) reads (texts_spelt d.encoding e body (texts_in d) h.texts.spelt));
      };
      versions = stays.versions ∙ h.versions;
      owned = subst (λ (x : Texts). AllByRecursion (IsOwned settings later g) x.opens) (sym texts) (texts_all (IsOwned settings later g) d.encoding e said (texts_in d) new_owner (all_owned (IsOwned settings events g) (IsOwned settings later g) d.opens (owner g) h.owned));
      start = start;
    }

    abbrev Noticed : Stage → Type 0
    Noticed stage = SharedStands settings later bodies g s stage step.after × (step.outs ≡ to s bodies)

    idle : d.start ≡ None → Idle e d said step
    idle h = idle_step e body d said says h

    no_start : d.start ≡ None → step.after.start ≡ None
    no_start h = (idle h).stays.start ∙ h

    when_idle : (stage : Stage) → (life_of s events).stage ≡ stage → is_ready stage ≡ false → d.start ≡ None → StartTold stage s bodies step.after later → SharedStands settings events [] g s stage d → Noticed stage
    when_idle stage at off none start h = let empty : bodies ≡ [] = rw (ap is_ready at ∙ off) refl in (with_start stage (idle none).stays (idle none).texts start h, (idle none).outs ∙ sym (ap (to s) empty))

    same : SentSame s events later
    same = sent_stays s events (heard (FromEditor e body)) refl

    pub noticed_shared : (stage : Stage) → (life_of s events).stage ≡ stage → SharedStands settings events [] g s stage d → Noticed stage
    noticed_shared Spawning at h = when_idle Spawning at refl h.start.0 (no_start h.start.0, untold_stays s events later same h.start.1) h
    noticed_shared Initializing at h = when_idle Initializing at refl h.start.0 (no_start h.start.0, untold_stays s events later same h.start.1) h
    noticed_shared Unspawned at h = when_idle Unspawned at refl h.start (no_start h.start) h
    noticed_shared Stopping at h = when_idle Stopping at refl h.start (no_start h.start) h
    noticed_shared Ending at h = when_idle Ending at refl h.start (no_start h.start) h
    noticed_shared Ended at h = when_idle Ended at refl h.start (no_start h.start) h
    noticed_shared Ready at h =
        let holds : HeldStands s h.start.code d events = subst (λ es. HeldStands s h.start.code d es) (append-nil events) h.start.holds in
        let right = document_right s e h.start.code body d (λ u. held_at s u events) holds.start holds.known h.texts.orderly h.texts.spelt few holds.held said says in
        let is : bodies ≡ rows.document_bodies d.versions d.encoding (texts_in d) (λ u. held_at s u events) e body said
        = rw (ap is_ready at) (ap (λ n. rows.document_bodies n (encoding_of g events) (texts_of settings g events) (λ u. held_at s u events) e body said) (sym h.versions)
        ∙ ap₂ (λ c x. rows.document_bodies d.versions c x (λ u. held_at s u events) e body said) h.texts.encoding h.texts.texts) in
        let all : step.outs ≡ to s bodies = right.are ∙ ap (to s) (sym is) in (
          with_start Ready right.stays right.texts (record {
            code = h.start.code;
            tell = subst AllTell (sym is) right.speak;
            holds = subst (λ xs. HeldStands s h.start.code step.after (behind later xs)) all (document_held settings g s e h.start.code events body method params d reads at_home served few h.texts holds);
          }) h,
          all,
        )

  -- the others
  not_home : (j : ℕ) → nat_eq g j ≡ false → texts_of settings j later ≡ texts_of settings j events
  not_home j off = texts_more settings j events (heard (FromEditor e body)) ∙ rw (ap (is_home j) home ∙ off) refl

  noticed_other : (j n : ℕ) (stage : Stage) (c : Documents) → nat_eq g j ≡ false → SharedStands settings events [] j n stage c → SharedStands settings later [] j n stage c
  noticed_other j n stage c off h = shared_stays settings events later [] j n stage c (not_home j off) (encoding_stays j events (heard (FromEditor e body)) refl) (start_stays n [] c events later (sent_stays n events (heard (FromEditor e body)) refl) stage)
      (λ k. all_owned (IsOwned settings events j) (IsOwned settings later j) c.opens (owner j) k) h

  noticed_rest : (t : Tables) → start_of g events ≡ Some s → Rest settings t events later
  noticed_rest t starts = record {
    texts = λ j l k. not_home j (ne_eqb g j (λ q. some_none (sym starts ∙ (ap (λ n. start_of n events) q ∙ l)))) ∙ k;
    encoding = λ j l. encoding_stays j events (heard (FromEditor e body)) refl;
    founds = founds_kept events (heard (FromEditor e body)) refl;
    starts = starts_kept events (heard (FromEditor e body)) refl;
    sent = λ n l. sent_stays n events (heard (FromEditor e body)) refl;
    moments = λ j x n p at there. moment_stays settings x.life.start n events (heard (FromEditor e body)) refl;
    left = left_stays events (heard (FromEditor e body)) refl;
  }
    where
      some_none : ◌≡◌ {A = Option ℕ} (Some s) None → ⊥
      some_none k = cc

  -- the group's start isn't over
  noticed_at : (t u : Tables) (outs : List Out) (i : ℕ) (x : Start) → slice_get t.lasts.items i ≡ Some x → x.life.group ≡ g → start_of g events ≡ Some s → u.lasts ≡ t.lasts → u.versions ≡ t.versions
      → StepAt (λ d. document_step e body (saying_of (message_of body)) d) i (slice_get t.documents.items i) t.documents.items outs u.documents.items → Stands settings t events → DocumentsStand settings nothing_owed t events
      → (outs ≡ to s bodies) × DocumentsStand settings (owes g bodies) u later
  noticed_at t u outs i x at mine starts ls vs does st ds =
      let last : LastStands settings t.requests events g x = subst (λ n. LastStands settings t.requests events n x) mine (st.lasts.each i x at) in
      let is : x.life.start ≡ s = same_item (sym last.start ∙ starts) in
      let d = documents_at settings nothing_owed t events i x at ds in
      let made : StepAt (λ c. document_step e body said c) i (Some d.0) t.documents.items outs u.documents.items = subst (λ o. StepAt (λ c. document_step e body said c) i o t.documents.items outs u.documents.items) d.1 (subst (λ y. StepAt (λ c. document_step e body y c) i (slice_get t.documents.items i) t.documents.items outs u.documents.items) says does) in
      let was : SharedStands settings events [] g s x.life.stage d.0 = subst (λ n. SharedStands settings events [] g n x.life.stage d.0) is (subst (λ n. SharedStands settings events [] n x.life.start x.life.stage d.0) mine (ds.each i x d.0 at d.1)) in
      let stage : (life_of s events).stage ≡ x.life.stage = ap (λ n. (life_of n events).stage) (sym is) ∙ ap (λ (l : Life). l.stage) (last.parts of_life) in
      let few : d.0.versions < 2 ^ 32 = subst (λ n. n < 2 ^ 32) (sym (was.versions ∙ ds.versions)) ds.range in
      let go = noticed_shared d.0 few x.life.stage stage was in (
        made.0 ∙ go.1,
        documents_set settings nothing_owed (owes g bodies) t u events later (noticed_rest t starts) vs i x x d.0 (document_step e body said d.0).after at d.1 (ap (λ v. v.items) ls ∙ sym (set_same t.lasts.items i x at)) made.1 (λ k. k)
            (λ _. subst (λ n. SharedStands settings later (owes g bodies n) n x.life.start x.life.stage (document_step e body said d.0).after) (sym mine)
            (subst (λ w. SharedStands settings later w g x.life.start x.life.stage (document_step e body said d.0).after) (sym (owes_here g bodies)) (subst (λ n. SharedStands settings later bodies g n x.life.stage (document_step e body said d.0).after) (sym is) go.0)))
            (λ j w c off there h.
            let far : w.life.group ≡ g → ⊥ = λ q. groups_apart t.lasts.items i j x w st.lasts.rise at there off (q ∙ sym mine) in
            subst (λ q. SharedStands settings later q w.life.group w.life.start w.life.stage c) (sym (owes_there g w.life.group bodies far)) (noticed_other w.life.group w.life.start w.life.stage c (ne_eqb g w.life.group (λ q. far (sym q))) h)) ds,
      )

  -- it is over, and nothing is kept of the group
  noticed_lost : (t u : Tables) (outs : List Out) → IsLost g t.lasts.items → start_of g events ≡ Some s → u.lasts ≡ t.lasts → u.versions ≡ t.versions → outs ≡ [] → u.documents.items ≡ t.documents.items → Stands settings t events → DocumentsStand settings nothing_owed t events
      → (outs ≡ to s bodies) × DocumentsStand settings (owes g bodies) u later
  noticed_lost t u outs lost starts ls vs none same st ds =
      let silent : bodies ≡ [] = rw (ap is_ready (lost_ended settings t.requests g s events (st.lasts.lost g s lost starts))) refl in (
        none ∙ ap (to s) (sym silent),
        subst (λ bs. DocumentsStand settings (owes g bs) u later) (sym silent)
            (documents_all settings nothing_owed (owes g []) t u events later (noticed_rest t starts) vs (ap (λ v. v.items) ls) same
            (λ j w c there h. subst (λ q. SharedStands settings later q w.life.group w.life.start w.life.stage c) (sym (owes_none g w.life.group)) (noticed_other w.life.group w.life.start w.life.stage c (ne_eqb g w.life.group (λ q. lost j w there (sym q))) h)) ds),
      )

  pub noticed_documents : (t u : Tables) (outs : List Out) (place : Option ℕ) → IsPlace t.lasts.items (Some g) place → start_of g events ≡ Some s → u.lasts ≡ t.lasts → u.versions ≡ t.versions
      → StepFrom (λ d. document_step e body (saying_of (message_of body)) d) place t.documents.items outs u.documents.items → Stands settings t events → DocumentsStand settings nothing_owed t events
      → (outs ≡ to s bodies) × DocumentsStand settings (owes g bodies) u later
  noticed_documents t u outs None placed starts ls vs does st ds = noticed_lost t u outs (placed g refl st.lasts.rise) starts ls vs does.0 does.1 st ds
  noticed_documents t u outs (Some i) placed starts ls vs does st ds = go (slice_get t.lasts.items i) refl
    where
      go : (o : Option Start) → slice_get t.lasts.items i ≡ o → (outs ≡ to s bodies) × DocumentsStand settings (owes g bodies) u later
      go (Some x) at = noticed_at t u outs i x at (same_item (sym (placed.1 x at))) starts ls vs does st ds
      go None past = absurd (let within = placed.0 in let long = get_past t.lasts.items i past in omega (arith, within, long))
