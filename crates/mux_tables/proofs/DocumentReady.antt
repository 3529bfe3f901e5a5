-- S2: a start gave its first result: what it is owed of the documents that are open.
use Rattle.std.proofs.Common.{◌≡◌, ℕ, ◌<◌, ◌≤◌, false, List, [], ◌∷◌, ◌++◌, append-nil, length, map, get_or, nat_eq, refl, sym, ap, subst, ◌∙◌, arith}
use Rattle.std.specs.Prelude.{Option, Some, None, MatchOption, slice_get, slice_set}
use Rattle.std.specs.List.{AllByRecursion}
use Rattle.std.proofs.lemmas.Bool.{ne_eqb}
use Rattle.mux_history.specs.declared.cause.Cause.TheVariants.{FromServer}
use Rattle.mux_history.specs.declared.out.Out.{Out}
use Rattle.mux_history.specs.declared.out.Out.TheVariants.{CloseEditor, EndServer, Spawn, ToEditor, ToServer}
use Rattle.rpc_message.specs.Message.{Message}
use Rattle.position_codec.specs.declared.Encoding.{Encoding}
use Rattle.document_model.specs.Orderly.{AllSpelt, Orderly}
use Rattle.document_model.specs.Texts.{Texts}
use Rattle.group_laws.specs.Follows.{texts_in, told_outs}
use Rattle.event_model.specs.declared.stage.Stage.{Stage}
use Rattle.event_model.specs.declared.stage.Stage.TheVariants.{Initializing, Ready}
use Rattle.event_model.specs.Event.{Event, behind, said, took}
use Rattle.event_model.specs.Settings.{Settings}
use Rattle.event_model.specs.Spawns.{group_of, start_of, starts_of}
use Rattle.event_model.specs.Stages.{Life, life_of}
use Rattle.event_model.proofs.Frames.{one_more}
use Rattle.event_model.proofs.Turns.{behind_more}
use Rattle.focus_switch.specs.Documents.{Documents}
use Rattle.focus_switch.specs.Rows.{leave_row, ready_row}
use Rattle.group_laws.specs.mux_model.specs.Documents.{Sent, encoding_by, held_at, sent_behind, sent_of, without_editor}
use Rattle.group_laws.specs.mux_model.proofs.DocumentFolds.{sent_encoding}
use Rattle.group_laws.specs.group_rows.specs.Rows as rows
use Rattle.group_laws.specs.group_rows.specs.Lists.{sayings_of}
use Rattle.group_laws.specs.group_rows.specs.Texts.{encoding_of, texts_of}
use Rattle.group_laws.specs.group_rows.proofs.Frames.{encoding_more, encoding_stays, texts_more, texts_stay}
use Rattle.group_laws.proofs.Beginning.{replay_speaks}
use Rattle.group_laws.specs.Stands.{CountsStand}
use Rattle.group_laws.proofs.Counting.{ready_counts}
use Rattle.group_laws.proofs.Counts.{counts_more}
use Rattle.group_laws.proofs.Entries.{all_told, held_same}
use Rattle.group_laws.proofs.Leaving.{leave_orderly, leave_spelt, leave_stays, leave_texts}
use Rattle.group_laws.proofs.ReplayHeld.{ready_held}
use Rattle.group_laws.proofs.Replaying.{ready_outs, ready_stays, ready_texts}
use Rattle.group_words.specs.Houses.{home_of, is_home}
use Rattle.group_words.proofs.Frames.{home_stays, names_home}
use Rattle.restart_replay.specs.Standings.{Standing, moved}
use Rattle.id_rewrite.specs.Tables.{without}
use Rattle.mux_tables.specs.declared.tables.Start.{Start}
use Rattle.mux_tables.specs.declared.tables.Tables.{Tables}
use Rattle.mux_tables.specs.Documents.{DocumentsStand, IsOwned, SharedStands, StepAt, Parts, Told, left_all, nothing_owed, owes, replaying, to}
use Rattle.mux_tables.specs.Notes.{NotesStand}
use Rattle.mux_tables.specs.Stands.{LastStands, Stands, number_in, of_life}
use Rattle.mux_tables.proofs.DocumentFrames.{all_owned, owner_stays, sent_stays, sent_then, sent_unheard, shared_stays, start_stays}
use Rattle.mux_tables.proofs.DocumentLeft.{closed_elsewhere, closed_parts, kept_owners}
use Rattle.mux_tables.proofs.Noting.{left_stays, moment_stays, notes_answered}
use Rattle.mux_tables.proofs.DocumentMoves.{Rest, documents_at, documents_set, founds_kept, starts_kept}
use Rattle.mux_tables.proofs.Placed.{groups_apart}
use Rattle.mux_tables.proofs.DocumentOwed.{owes_here, owes_there}
use Rattle.mux_tables.proofs.Frames.{itself}
use Rattle.mux_tables.proofs.Lasts.{apart, known}
use Rattle.mux_tables.proofs.Starts.{read_here, read_same, start_at_place}
use Rattle.mux_tables.proofs.DocumentEvents.{shared_quiet}

-- a group whose start gave its result, and was told nothing yet
pub record Awaits (settings : Settings) (g s : ℕ) (code : Encoding) (d : Documents) (events : List Event) : Type 0 where
  texts : texts_of settings g events ≡ texts_in d
  given : encoding_of g events ≡ Some code
  orderly : Orderly (texts_in d)
  spelt : AllSpelt d.opens
  versions : d.versions ≡ settings.limits.versions
  owned : AllByRecursion (IsOwned settings events g) d.opens
  heard : (u : List ℕ) → sent_of s u events ≡ record { encoding = Some code; held = None }
  unsaid : sayings_of s events ≡ 0

module _ (settings : Settings) (g s : ℕ) (code : Encoding) where
  -- an editor leaves
  awaits_left : (e : ℕ) (d : Documents) (events : List Event) → Awaits settings g s code d events → Awaits settings g s code (leave_row e d).after (events ++ said (CloseEditor e) ∷ [])
  awaits_left e d events h = let parts = closed_parts settings events e g s in record {
    texts = parts.removed ∙ (ap (without_editor e) h.texts ∙ sym (leave_texts e d));
    given = parts.kept ∙ h.given;
    orderly = leave_orderly e d h.orderly;
    spelt = leave_spelt e d h.spelt;
    versions = (leave_stays e d).versions ∙ h.versions;
    owned = subst (λ (x : Texts). AllByRecursion (IsOwned settings (events ++ said (CloseEditor e) ∷ []) g) x.opens) (sym (leave_texts e d)) (kept_owners e (IsOwned settings events g) (IsOwned settings (events ++ said (CloseEditor e) ∷ []) g) d.opens parts.owners h.owned);
    heard = λ u. parts.same.sent u ∙ h.heard u;
    unsaid = parts.same.counts.sayings ∙ h.unsaid;
  }

  -- a request of one is answered
  awaits_told : (n : ℕ) (body : List ℕ) (d : Documents) (events : List Event) → Awaits settings g s code d events → Awaits settings g s code d (events ++ said (ToEditor n body) ∷ [])
  awaits_told n body d events h = let same = sent_stays s events (said (ToEditor n body)) refl in record {
    texts = texts_stay settings g events (said (ToEditor n body)) refl ∙ h.texts;
    given = encoding_stays g events (said (ToEditor n body)) refl ∙ h.given;
    orderly = h.orderly;
    spelt = h.spelt;
    versions = h.versions;
    owned = all_owned (IsOwned settings events g) (IsOwned settings (events ++ said (ToEditor n body) ∷ []) g) d.opens (λ o k. owner_stays settings events g o (said (ToEditor n body)) refl k) h.owned;
    heard = λ u. same.sent u ∙ h.heard u;
    unsaid = same.counts.sayings ∙ h.unsaid;
  }

  awaits_all : (xs : List Out) (es : List ℕ) (d : Documents) (events : List Event) → Parts xs es → Awaits settings g s code d events → Awaits settings g s code (left_all es d) (behind events xs)
  awaits_all [] [] d events p h = subst (Awaits settings g s code d) (sym (append-nil events)) h
  awaits_all [] (e ∷ es) d events p h = absurd p
  awaits_all (ToEditor n body ∷ xs) es d events p h = subst (Awaits settings g s code (left_all es d)) (sym (behind_more events (ToEditor n body ∷ []) xs)) (awaits_all xs es d (events ++ said (ToEditor n body) ∷ []) p (awaits_told n body d events h))
  awaits_all (CloseEditor n ∷ xs) [] d events p h = absurd p
  awaits_all (CloseEditor n ∷ xs) (e ∷ es) d events p h = subst (Awaits settings g s code (left_all es (leave_row e d).after)) (sym (behind_more events (CloseEditor n ∷ []) xs))
      (awaits_all xs es (leave_row e d).after (events ++ said (CloseEditor n) ∷ []) p.1 (subst (λ k. Awaits settings g s code (leave_row e d).after (events ++ said (CloseEditor k) ∷ [])) (sym p.0) (awaits_left e d events h)))
  awaits_all (ToServer n body ∷ xs) es d events p h = absurd p
  awaits_all (Spawn n k ∷ xs) es d events p h = absurd p
  awaits_all (EndServer n ∷ xs) es d events p h = absurd p

  -- it is told of what is open then
  module _ (d : Documents) (later : List Event) (h : Awaits settings g s code d later) where
    abbrev bodies : List (List ℕ)
    bodies = rows.replay_bodies [] d.opens d.opens

    abbrev after : Documents
    after = (ready_row s code d).after

    outs : (ready_row s code d).outs ≡ to s bodies
    outs = ready_outs s code d h.orderly.once

    behind_all : (u : List ℕ) → sent_of s u (behind later (to s bodies)) ≡ record { encoding = Some code; held = told_outs (Some code) u None (to s bodies) }
    behind_all u = all_told s u code None bodies later (h.heard u)

    told : Told s bodies after later
    told = record {
      code = code;
      tell = replay_speaks [] d.opens d.opens h.spelt;
      holds = record {
        start = (ready_stays s code d).start;
        known = (ready_stays s code d).encoding;
        given = sym (sent_encoding s [] (behind later (to s bodies))) ∙ ap (λ (x : Sent). x.encoding) (behind_all []);
        held = held_same after (λ u. told_outs (Some code) u None (ready_row s code d).outs) (λ u. held_at s u (behind later (to s bodies)))
            (λ u. ap (told_outs (Some code) u None) outs ∙ sym (ap (λ (x : Sent). x.held) (behind_all u))) (ready_held s code d h.orderly.once h.spelt);
        counts = subst (λ xs. CountsStand s after (behind later xs)) outs (ready_counts s code d later h.spelt h.unsaid);
      };
    }

    ready_shared : SharedStands settings later bodies g s Ready after
    ready_shared = record {
      texts = record {
        texts = h.texts ∙ sym (ready_texts s code d);
        encoding = h.given ∙ sym (ready_stays s code d).encoding;
        orderly = subst Orderly (sym (ready_texts s code d)) h.orderly;
        spelt = subst (λ (x : Texts). AllSpelt x.opens) (sym (ready_texts s code d)) h.spelt;
      };
      versions = (ready_stays s code d).versions ∙ h.versions;
      owned = subst (λ (x : Texts). AllByRecursion (IsOwned settings later g) x.opens) (sym (ready_texts s code d)) h.owned;
      start = told;
    }

    ready_said : (ready_row s code d).outs ≡ to s (replaying settings later g)
    ready_said = outs ∙ ap (λ (x : Texts). to s (rows.replay_bodies [] x.opens x.opens)) (sym h.texts)

    ready_bodies : replaying settings later g ≡ bodies
    ready_bodies = ap (λ (x : Texts). rows.replay_bodies [] x.opens x.opens) h.texts

module _ (settings : Settings) (events : List Event) (g s : ℕ) (code : Encoding) (body : List ℕ) (m : Message) (home : group_of s events ≡ Some g) (begins : (life_of s events).stage ≡ Initializing) (gives : encoding_by m ≡ Some code) (xs : List Out) (es : List ℕ) (parts : Parts xs es) (mine : AllByRecursion (λ e. home_of settings e events ≡ Some g) es) where
  abbrev given_there : List Event
  given_there = events ++ took (FromServer s body) m ∷ []

  abbrev later_there : List Event
  later_there = behind given_there xs

  -- its group
  awaits_first : (d : Documents) → SharedStands settings events [] g s Initializing d → Awaits settings g s code d given_there
  awaits_first d h = record {
    texts = texts_stay settings g events (took (FromServer s body) m) refl ∙ h.texts.texts;
    given = encoding_more g events (took (FromServer s body) m) ∙ rw (home, itself g, begins, gives) refl;
    orderly = h.texts.orderly;
    spelt = h.texts.spelt;
    versions = h.versions;
    owned = all_owned (IsOwned settings events g) (IsOwned settings given_there g) d.opens (λ o k. owner_stays settings events g o (took (FromServer s body) m) refl k) h.owned;
    heard = λ u. one_more (sent_behind s u) _ _ events (took (FromServer s body) m) (h.start.1.none u) ∙ rw (itself s, gives) refl;
    unsaid = (counts_more s events (took (FromServer s body) m) refl).sayings ∙ h.start.1.unsaid;
  }

  pub awaits_last : (d : Documents) → SharedStands settings events [] g s Initializing d → Awaits settings g s code (left_all es d) later_there
  awaits_last d h = awaits_all settings g s code xs es d given_there parts (awaits_first d h)

  -- the others
  other_encoding : (j : ℕ) → nat_eq g j ≡ false → encoding_of j given_there ≡ encoding_of j events
  other_encoding j off = encoding_more j events (took (FromServer s body) m) ∙ rw (home, off) refl

  other_first : (owed : List (List ℕ)) (j n : ℕ) (stage : Stage) (c : Documents) → nat_eq g j ≡ false → nat_eq s n ≡ false → SharedStands settings events owed j n stage c → SharedStands settings given_there owed j n stage c
  other_first owed j n stage c off apart h = shared_stays settings events given_there owed j n stage c (texts_stay settings j events (took (FromServer s body) m) refl) (other_encoding j off)
      (start_stays n owed c events given_there (sent_unheard n s body m events apart) stage) (λ k. all_owned (IsOwned settings events j) (IsOwned settings given_there j) c.opens (λ o q. owner_stays settings events j o (took (FromServer s body) m) refl q) k) h

  homes_on : (ev : Event) (ks : List ℕ) (now : List Event) → ((k : ℕ) → names_home k ev ≡ false) → AllByRecursion (λ k. home_of settings k now ≡ Some g) ks → AllByRecursion (λ k. home_of settings k (now ++ ev ∷ []) ≡ Some g) ks
  homes_on ev [] now stays hs = tt
  homes_on ev (k ∷ ks) now stays hs = (home_stays settings k now ev (stays k) ∙ hs.0, homes_on ev ks now stays hs.1)

  other_parted : (owed : List (List ℕ)) (j n : ℕ) (stage : Stage) (c : Documents) → nat_eq g j ≡ false → (ys : List Out) (ns : List ℕ) (now : List Event) → Parts ys ns → AllByRecursion (λ e. home_of settings e now ≡ Some g) ns
      → SharedStands settings now owed j n stage c → SharedStands settings (behind now ys) owed j n stage c
  other_parted owed j n stage c off [] ns now p homes h = subst (λ z. SharedStands settings z owed j n stage c) (sym (append-nil now)) h
  other_parted owed j n stage c off (ToEditor k body ∷ ys) ns now p homes h = subst (λ z. SharedStands settings z owed j n stage c) (sym (behind_more now (ToEditor k body ∷ []) ys))
      (other_parted owed j n stage c off ys ns (now ++ said (ToEditor k body) ∷ []) p (homes_on (said (ToEditor k body)) ns now (λ i. refl) homes) (shared_quiet settings now owed j n stage c (said (ToEditor k body)) refl (λ o own. refl) h))
  other_parted owed j n stage c off (CloseEditor k ∷ ys) [] now p homes h = absurd p
  other_parted owed j n stage c off (CloseEditor k ∷ ys) (e ∷ ns) now p homes h = subst (λ z. SharedStands settings z owed j n stage c) (sym (behind_more now (CloseEditor k ∷ []) ys))
      (other_parted owed j n stage c off ys ns (now ++ said (CloseEditor k) ∷ []) p.1 (homes_on (said (CloseEditor k)) ns now (λ i. refl) homes.1)
      (closed_elsewhere settings now k owed j n stage c (ap (λ i. is_home j (home_of settings i now)) p.0 ∙ (ap (is_home j) homes.0 ∙ off)) h))
  other_parted owed j n stage c off (ToServer k body ∷ ys) ns now p homes h = absurd p
  other_parted owed j n stage c off (Spawn k i ∷ ys) ns now p homes h = absurd p
  other_parted owed j n stage c off (EndServer k ∷ ys) ns now p homes h = absurd p

  pub ready_other : (owed : List (List ℕ)) (j n : ℕ) (stage : Stage) (c : Documents) → nat_eq g j ≡ false → nat_eq s n ≡ false → SharedStands settings events owed j n stage c → SharedStands settings later_there owed j n stage c
  ready_other owed j n stage c off apart h = other_parted owed j n stage c off xs es given_there parts (homes_on (took (FromServer s body) m) es events (λ k. refl) mine) (other_first owed j n stage c off apart h)

  rest_first : (t : Tables) → start_of g events ≡ Some s → ((n : ℕ) → starts_of events ≤ n → nat_eq s n ≡ false) → Rest settings t events given_there
  rest_first t starts fresh = record {
    texts = λ j l k. texts_stay settings j events (took (FromServer s body) m) refl ∙ k;
    encoding = λ j l. other_encoding j (ne_eqb g j (λ q. some_none (sym starts ∙ (ap (λ k. start_of k events) q ∙ l))));
    founds = founds_kept events (took (FromServer s body) m) refl;
    starts = starts_kept events (took (FromServer s body) m) refl;
    sent = λ n l. sent_unheard n s body m events (fresh n l);
    moments = λ j x n p at there. moment_stays settings x.life.start n events (took (FromServer s body) m) refl;
    left = left_stays events (took (FromServer s body) m) refl;
  }
    where
      some_none : ◌≡◌ {A = Option ℕ} (Some s) None → ⊥
      some_none e = cc

  -- what is said of links leaves what is said of groups and starts that there weren't yet
  rest_parted : (t : Tables) (ys : List Out) (ns : List ℕ) (now : List Event) → Parts ys ns → Rest settings t events now → Rest settings t events (behind now ys)
  rest_parted t [] ns now p h = subst (Rest settings t events) (sym (append-nil now)) h
  rest_parted t (ToEditor e text ∷ ys) ns now p h = subst (Rest settings t events) (sym (behind_more now (ToEditor e text ∷ []) ys)) (rest_parted t ys ns (now ++ said (ToEditor e text) ∷ []) p (record {
    texts = λ j l k. texts_stay settings j now (said (ToEditor e text)) refl ∙ h.texts j l k;
    encoding = λ j l. encoding_stays j now (said (ToEditor e text)) refl ∙ h.encoding j l;
    founds = λ j k. h.founds j (founds_kept now (said (ToEditor e text)) refl j k);
    starts = λ n l. h.starts n (starts_kept now (said (ToEditor e text)) refl n l);
    sent = λ n l. sent_then n events now (now ++ said (ToEditor e text) ∷ []) (h.sent n l) (sent_stays n now (said (ToEditor e text)) refl);
    moments = λ j x n q at there. moment_stays settings x.life.start n now (said (ToEditor e text)) refl ∙ h.moments j x n q at there;
    left = λ k l. left_stays now (said (ToEditor e text)) refl k (h.left k l);
  }))
  rest_parted t (CloseEditor e ∷ ys) [] now p h = absurd p
  rest_parted t (CloseEditor e ∷ ys) (k ∷ ns) now p h = subst (Rest settings t events) (sym (behind_more now (CloseEditor e ∷ []) ys)) (rest_parted t ys ns (now ++ said (CloseEditor e) ∷ []) p.1 (record {
    texts = λ j l k. texts_more settings j now (said (CloseEditor e)) ∙ ap (without_editor e) (h.texts j l k);
    encoding = λ j l. encoding_stays j now (said (CloseEditor e)) refl ∙ h.encoding j l;
    founds = λ j k. h.founds j (founds_kept now (said (CloseEditor e)) refl j k);
    starts = λ n l. h.starts n (starts_kept now (said (CloseEditor e)) refl n l);
    sent = λ n l. sent_then n events now (now ++ said (CloseEditor e) ∷ []) (h.sent n l) (sent_stays n now (said (CloseEditor e)) refl);
    moments = λ j x n q at there. moment_stays settings x.life.start n now (said (CloseEditor e)) refl ∙ h.moments j x n q at there;
    left = λ k l. left_stays now (said (CloseEditor e)) refl k (h.left k l);
  }))
  rest_parted t (ToServer e text ∷ ys) ns now p h = absurd p
  rest_parted t (Spawn e k ∷ ys) ns now p h = absurd p
  rest_parted t (EndServer e ∷ ys) ns now p h = absurd p

  pub ready_rest : (t : Tables) → start_of g events ≡ Some s → ((n : ℕ) → starts_of events ≤ n → nat_eq s n ≡ false) → Rest settings t events later_there
  ready_rest t starts fresh = rest_parted t xs es given_there parts (rest_first t starts fresh)

module _ (settings : Settings) (t u : Tables) (events : List Event) (i s start : ℕ) (code : Encoding) (z y : Start) (body : List ℕ) (m : Message) (k : Option ℕ) (xs : List Out) (es : List ℕ) (parts : Parts xs es) (outs : List Out) where
  abbrev told_there : ℕ → List Event
  told_there n = behind (events ++ took (FromServer n body) m ∷ []) xs

  ready_documents : slice_get (map number_in t.lasts.items) i ≡ Some s → i < length t.lasts.items → z ≡ get_or t.lasts.items i z → z.life.stage ≡ Initializing
      → encoding_by m ≡ Some code → y.life ≡ moved Ready z.life → MatchOption k (y.ids.requests ≡ z.ids.requests) (λ n. y.ids.requests ≡ without n z.ids.requests) → start ≡ y.life.start → u.lasts.items ≡ slice_set t.lasts.items i y → u.versions ≡ t.versions
      → StepAt (λ d. ready_row start code (left_all es d)) i (slice_get t.documents.items i) t.documents.items outs u.documents.items → AllByRecursion (λ e. home_of settings e events ≡ Some z.life.group) es
      → Stands settings t events → DocumentsStand settings nothing_owed t events
      → (outs ≡ to s (replaying settings (told_there s) z.life.group)) × DocumentsStand settings (owes z.life.group (replaying settings (told_there s) z.life.group)) u (told_there s)
  ready_documents at within read stage gives life taken number set vs does mine st ds =
      let g = z.life.group in
      let n = z.life.start in
      let here : slice_get t.lasts.items i ≡ Some z = read_here t.lasts.items i z within read in
      let is : n ≡ s = start_at_place t.lasts.items i s z here at in
      let own : start ≡ n = number ∙ ap (λ (l : Standing). l.start) life in
      let last : LastStands settings t.requests events g z = st.lasts.each i z here in
      let begins : (life_of n events).stage ≡ Initializing = ap (λ (l : Life). l.stage) (last.parts of_life) ∙ stage in
      let old = known settings t.requests t.origins.groups.items events g z st.origins last in
      let d = documents_at settings nothing_owed t events i z here ds in
      let was : SharedStands settings events [] g n Initializing d.0 = subst (λ (q : Stage). SharedStands settings events [] g n q d.0) stage (ds.each i z d.0 here d.1) in
      let made : StepAt (λ d. ready_row start code (left_all es d)) i (Some d.0) t.documents.items outs u.documents.items = subst (λ o. StepAt (λ d. ready_row start code (left_all es d)) i o t.documents.items outs u.documents.items) d.1 does in
      let later = told_there n in
      let b = replaying settings later g in
      let awaits : Awaits settings g n code (left_all es d.0) later = awaits_last settings events g n code body m last.home begins gives xs es parts mine d.0 was in
      let now : SharedStands settings later (owes g b z.life.group) z.life.group n Ready (ready_row n code (left_all es d.0)).after =
      subst (λ w. SharedStands settings later w g n Ready (ready_row n code (left_all es d.0)).after) (sym (ready_bodies settings g n code (left_all es d.0) later awaits) ∙ sym (owes_here g b)) (ready_shared settings g n code (left_all es d.0) later awaits) in
      subst (λ k. (outs ≡ to k (replaying settings (told_there k) g)) × DocumentsStand settings (owes g (replaying settings (told_there k) g)) u (told_there k)) is (
        made.0 ∙ (ap (λ k. (ready_row k code (left_all es d.0)).outs) own ∙ ready_said settings g n code (left_all es d.0) later awaits),
        documents_set settings nothing_owed (owes g b) t u events later (ready_rest settings events g n code body m last.home begins gives xs es parts mine t last.start (λ k l. ne_eqb n k (λ q. absurd (omega (arith, q, l, old))))) vs
            i z y d.0 (ready_row n code (left_all es d.0)).after here d.1 set (made.1 ∙ ap (λ k. slice_set t.documents.items i (ready_row k code (left_all es d.0)).after) own)
            (λ h. subst (λ k. NotesStand settings k y.ids.requests later) (sym (ap (λ (l : Standing). l.start) life)) (notes_answered settings n k y.ids.requests z.ids.requests later taken h))
            (λ _. subst (λ (l : Standing). SharedStands settings later (owes g b l.group) l.group l.start l.stage (ready_row n code (left_all es d.0)).after) (sym life) now)
            (λ j w c off there h. let far = groups_apart t.lasts.items i j z w st.lasts.rise here there off in subst (λ q. SharedStands settings later q w.life.group w.life.start w.life.stage c) (sym (owes_there g w.life.group b far))
            (ready_other settings events g n code body m last.home begins gives xs es parts mine [] w.life.group w.life.start w.life.stage c (ne_eqb g w.life.group (λ q. far (sym q))) (apart settings t.requests events g w.life.group z w far last (st.lasts.each j w there)) h)) ds,
      )

  pub ready_documents_by : (x : Start) → slice_get t.lasts.items i ≡ Some x → slice_get (map number_in t.lasts.items) i ≡ Some s → i < length t.lasts.items → z ≡ get_or t.lasts.items i z → z.life.stage ≡ Initializing
      → encoding_by m ≡ Some code → y.life ≡ moved Ready z.life → MatchOption k (y.ids.requests ≡ z.ids.requests) (λ n. y.ids.requests ≡ without n z.ids.requests) → start ≡ y.life.start → u.lasts.items ≡ slice_set t.lasts.items i y → u.versions ≡ t.versions
      → StepAt (λ d. ready_row start code (left_all es d)) i (slice_get t.documents.items i) t.documents.items outs u.documents.items → AllByRecursion (λ e. home_of settings e events ≡ Some x.life.group) es
      → Stands settings t events → DocumentsStand settings nothing_owed t events
      → (outs ≡ to s (replaying settings (told_there s) x.life.group)) × DocumentsStand settings (owes x.life.group (replaying settings (told_there s) x.life.group)) u (told_there s)
  ready_documents_by x here at within read stage gives life taken number set vs does mine st ds =
      let same = read_same t.lasts.items i z x within read here in
      subst (λ (w : Start). (outs ≡ to s (replaying settings (told_there s) w.life.group)) × DocumentsStand settings (owes w.life.group (replaying settings (told_there s) w.life.group)) u (told_there s)) same
      (ready_documents at within read stage gives life taken number set vs does (subst (λ (w : Start). AllByRecursion (λ e. home_of settings e events ≡ Some w.life.group) es) (sym same) mine) st ds)
