-- An editor leaves: what is kept of its documents, and what the start is owed.
use Rattle.std.proofs.Common.{◌≡◌, ℕ, zero, suc, ◌≤◌, ◌<◌, ◌^◌, Bool, true, false, not, ◌&&◌, List, [], ◌∷◌, ◌++◌, length, filter, nat_eq, codes, refl, sym, ap, ap₂, subst, ◌∙◌, append-nil, arith, if◌then◌else◌}
use Rattle.std.specs.Prelude.{Option, Some, None, fold, slice_get, slice_set}
use Rattle.std.specs.List.{AllByRecursion}
use Rattle.std.specs.Option.{option_and_then}
use Rattle.std.proofs.lemmas.Bool.{ne_eqb}
use Rattle.std.proofs.lemmas.Bool.Decides.{nat_tests}
use Rattle.std.proofs.lemmas.Option.{slice_get-get_or, slice_get_within}
use Rattle.mux_history.specs.declared.cause.Cause.TheVariants.{EditorGone, FromEditor}
use Rattle.mux_history.specs.declared.cause.Why.{Why}
use Rattle.mux_history.specs.declared.out.Out.{Out}
use Rattle.mux_history.specs.declared.out.Out.TheVariants.{CloseEditor, ToServer}
use Rattle.rpc_message.specs.Message.{Message}
use Rattle.document_model.specs.Opens.{Open}
use Rattle.document_model.specs.Texts.{Texts, no_texts}
use Rattle.event_model.specs.declared.stage.Stage.{Stage}
use Rattle.event_model.specs.declared.stage.Stage.TheVariants.{Unspawned, Spawning, Initializing, Ready, Stopping, Ending, Ended}
use Rattle.event_model.specs.Event.{Event, behind, did, heard, requests, said, took}
use Rattle.event_model.specs.Phases.{desk_of, is_running, is_served}
use Rattle.event_model.specs.Settings.{Settings}
use Rattle.event_model.specs.Spawns.{start_of}
use Rattle.event_model.specs.Stages.{Life, is_ready, life_of}
use Rattle.event_model.proofs.Frames.{never}
use Rattle.event_model.proofs.Places.{item_at}
use Rattle.event_model.proofs.Turns.{behind_more}
use Rattle.editor_session.specs.Sessions.{absent, session_of}
use Rattle.focus_switch.specs.Documents.{Documents}
use Rattle.focus_switch.specs.document_table.specs.Rows.{uris_of}
use Rattle.focus_switch.specs.Rows.{Step, close_next, leave_row}
use Rattle.group_laws.specs.mux_model.specs.Documents.{held_at, without_editor}
use Rattle.group_words.specs.Houses.{home_of, is_home}
use Rattle.group_laws.specs.group_rows.specs.Leaves as departures
use Rattle.group_laws.specs.group_rows.specs.Texts.{encoding_of, texts_heard, texts_of}
use Rattle.group_laws.specs.group_rows.proofs.Frames.{encoding_stays, texts_more, touches_encoding}
use Rattle.group_laws.specs.Stands.{HeldStands}
use Rattle.group_laws.proofs.Entries.{known_sent}
use Rattle.group_laws.proofs.Leaving.{leave_orderly, leave_outs, leave_silent, leave_speaks, leave_spelt, leave_stays, leave_texts}
use Rattle.group_laws.proofs.Left.{left_held}
use Rattle.mux_tables.specs.declared.tables.Start.{Start}
use Rattle.mux_tables.specs.declared.tables.Tables.{Tables}
use Rattle.mux_tables.specs.Documents.{AllTell, DocumentsStand, IsOwned, Leaves, Owed, SharedStands, StartTold, StepAt, StepFrom, leaving, nothing_owed, owes, to}
use Rattle.mux_tables.specs.Stands.{IsLost, IsPlace, Stands, group_in, of_life, start_for}
use Rattle.mux_tables.proofs.DocumentFrames.{SentSame, all_owned, owner_served, owner_stays, parts, sent_stays, shared_stays, start_stays, touches_sent, untold_stays}
use Rattle.mux_tables.proofs.Noting.{asks_on, joins, left_stays, moment_stays}
use Rattle.mux_tables.proofs.DocumentMoves.{Rest, documents_all, documents_at, documents_set, founds_kept, rest_none, set_same, starts_kept}
use Rattle.mux_tables.proofs.Lasts.{lost_ended}
use Rattle.mux_tables.proofs.Placed.{groups_apart}
use Rattle.mux_tables.proofs.DocumentOwed.{nothing_owes, owes_here, owes_there}
use Rattle.mux_tables.proofs.Frames.{itself, spawns}

pub kept_owners : (e : ℕ) (P Q : Open → Type 0) (os : List Open) → ((o : Open) → nat_eq o.editor e ≡ false → P o → Q o) → AllByRecursion P os → AllByRecursion Q (filter (λ (o : Open). not (nat_eq o.editor e)) os)
kept_owners e P Q [] f h = tt
kept_owners e P Q (o ∷ os) f h = go (nat_eq o.editor e) refl (kept_owners e P Q os f h.1)
  where
    go : (b : Bool) → nat_eq o.editor e ≡ b → AllByRecursion Q (filter (λ (p : Open). not (nat_eq p.editor e)) os) → AllByRecursion Q (if not b then o ∷ filter (λ (p : Open). not (nat_eq p.editor e)) os else filter (λ (p : Open). not (nat_eq p.editor e)) os)
    go true k rest = rest
    go false k rest = (f o k h.0, rest)

-- its own group
module _ (settings : Settings) (events later : List Event) (e g s : ℕ) (d : Documents) (removed : texts_of settings g later ≡ without_editor e (texts_of settings g events)) (kept : encoding_of g later ≡ encoding_of g events) (same : SentSame s events later)
    (owners : (o : Open) → nat_eq o.editor e ≡ false → IsOwned settings events g o → IsOwned settings later g o) (few : d.versions < 2 ^ 32) where
  abbrev bodies : List (List ℕ)
  bodies = leaving settings events g s e

  abbrev raw : List (List ℕ)
  raw = departures.leave_bodies d.versions (λ u. held_at s u events) e d.opens d.opens

  abbrev LeftShared : Stage → Type 0
  LeftShared stage = SharedStands settings later bodies g s stage (leave_row e d).after × ((leave_row e d).outs ≡ to s bodies)

  left_with : (stage : Stage) → StartTold stage s bodies (leave_row e d).after later → SharedStands settings events [] g s stage d → SharedStands settings later bodies g s stage (leave_row e d).after
  left_with stage start h = record {
    texts = record { texts = removed ∙ (ap (without_editor e) h.texts.texts ∙ sym (leave_texts e d)); encoding = kept ∙ (h.texts.encoding ∙ sym (leave_stays e d).encoding); orderly = leave_orderly e d h.texts.orderly; spelt = leave_spelt e d h.texts.spelt };
    versions = (leave_stays e d).versions ∙ h.versions;
    owned = subst (λ (x : Texts). AllByRecursion (IsOwned settings later g) x.opens) (sym (leave_texts e d)) (kept_owners e (IsOwned settings events g) (IsOwned settings later g) d.opens owners h.owned);
    start = start;
  }

  silent : (stage : Stage) → (life_of s events).stage ≡ stage → is_ready stage ≡ false → d.start ≡ None → (leave_row e d).outs ≡ to s bodies
  silent stage at h none = let empty : bodies ≡ [] = rw (ap is_ready at ∙ h) refl in leave_silent e d none ∙ sym (ap (to s) empty)

  left_idle : (stage : Stage) → (life_of s events).stage ≡ stage → is_ready stage ≡ false → d.start ≡ None → StartTold stage s bodies (leave_row e d).after later → SharedStands settings events [] g s stage d → LeftShared stage
  left_idle stage at idle none start h = (left_with stage start h, silent stage at idle none)

  no_start : d.start ≡ None → (leave_row e d).after.start ≡ None
  no_start h = (leave_stays e d).start ∙ h

  pub left_shared : (stage : Stage) → (life_of s events).stage ≡ stage → SharedStands settings events [] g s stage d → LeftShared stage
  left_shared Spawning at h = left_idle Spawning at refl h.start.0 (no_start h.start.0, untold_stays s events later same h.start.1) h
  left_shared Initializing at h = left_idle Initializing at refl h.start.0 (no_start h.start.0, untold_stays s events later same h.start.1) h
  left_shared Unspawned at h = left_idle Unspawned at refl h.start (no_start h.start) h
  left_shared Stopping at h = left_idle Stopping at refl h.start (no_start h.start) h
  left_shared Ending at h = left_idle Ending at refl h.start (no_start h.start) h
  left_shared Ended at h = left_idle Ended at refl h.start (no_start h.start) h
  left_shared Ready at h =
      let holds : HeldStands s h.start.code d events = subst (λ es. HeldStands s h.start.code d es) (append-nil events) h.start.holds in
      let is : bodies ≡ raw = rw (ap is_ready at) (ap₂ (λ n (x : Texts). departures.leave_bodies n (λ u. held_at s u events) e x.opens x.opens) (sym h.versions) h.texts.texts) in
      let outs : (leave_row e d).outs ≡ to s raw = leave_outs s e h.start.code d (λ u. held_at s u events) holds.start holds.known few holds.held h.texts.orderly h.texts.spelt in
      let all : (leave_row e d).outs ≡ to s bodies = outs ∙ ap (to s) (sym is) in (
        left_with Ready (record {
          code = h.start.code;
          tell = subst AllTell (sym is) (leave_speaks s e h.start.code d (λ u. held_at s u events) holds.start holds.known few holds.held h.texts.orderly h.texts.spelt);
          holds = subst (λ xs. HeldStands s h.start.code (leave_row e d).after (behind later xs)) all
              (left_held settings g e d events later h.texts removed kept s h.start.code [] few tt holds (λ u. same.sent u ∙ known_sent s u h.start.code events holds.given) same.counts);
        }) h,
        all,
      )

pub past_get : {X : Type 0} (xs : List X) (g : ℕ) → length xs ≤ g → slice_get xs g ≡ None
past_get [] g h = refl
past_get (x ∷ xs) zero h = absurd (omega arith)
past_get (x ∷ xs) (suc g) h = past_get xs g (omega arith)

pub get_past : {X : Type 0} (xs : List X) (g : ℕ) → slice_get xs g ≡ None → length xs ≤ g
get_past [] g h = omega arith
get_past (x ∷ xs) zero h = absurd (clash h)
  where
    clash : {X : Type 0} {x : X} → ◌≡◌ {A = Option X} (Some x) None → ⊥
    clash e = cc
get_past (x ∷ xs) (suc g) h = let k = get_past xs g h in omega (arith, k)

-- all groups
module _ (settings : Settings) (t u : Tables) (events later : List Event) (e : ℕ) (home : Option ℕ) (outs : List Out) (is : home_of settings e events ≡ home) (ls : u.lasts.items ≡ t.lasts.items) (vs : u.versions ≡ t.versions)
    (rest : Rest settings t events later) (st : Stands settings t events)
    (away : (j s : ℕ) (stage : Stage) (c : Documents) → is_home j home ≡ false → SharedStands settings events [] j s stage c → SharedStands settings later [] j s stage c)
    (removed : (g : ℕ) → home ≡ Some g → texts_of settings g later ≡ without_editor e (texts_of settings g events)) (kept : (g : ℕ) → encoding_of g later ≡ encoding_of g events) (same : (s : ℕ) → SentSame s events later)
    (owners : (g : ℕ) (o : Open) → nat_eq o.editor e ≡ false → IsOwned settings events g o → IsOwned settings later g o) where
  nobody : ((j : ℕ) (x : Start) → slice_get t.lasts.items j ≡ Some x → is_home x.life.group home ≡ false) → u.documents.items ≡ t.documents.items → DocumentsStand settings nothing_owed t events → DocumentsStand settings nothing_owed u later
  nobody none ds s = documents_all settings nothing_owed nothing_owed t u events later rest vs ls ds (λ j x c at h. away x.life.group x.life.start x.life.stage c (none j x at) h) s

  -- nothing is kept of its group: the last start there ended, if there is one
  left_lost : (g : ℕ) → home ≡ Some g → IsLost g t.lasts.items → (o : Option ℕ) → start_of g events ≡ o → outs ≡ [] → u.documents.items ≡ t.documents.items → DocumentsStand settings nothing_owed t events → Leaves settings events e (Some g) o outs u later
  left_lost g own lost o starts none ds s = go o starts (nobody (λ j x there. ap (is_home x.life.group) own ∙ ne_eqb g x.life.group (λ q. lost j x there (sym q))) ds s)
    where
      go : (o : Option ℕ) → start_of g events ≡ o → DocumentsStand settings nothing_owed u later → Leaves settings events e (Some g) o outs u later
      go None starts all = (none, all)
      go (Some n) starts all =
          let silent : leaving settings events g n e ≡ [] = rw (ap is_ready (lost_ended settings t.requests g n events (st.lasts.lost g n lost starts))) refl in
          (none ∙ ap (to n) (sym silent), subst (λ bs. DocumentsStand settings (owes g bs) u later) (sym silent) (nothing_owes settings u g later all))

  left_at : (i : ℕ) (x : Start) → slice_get t.lasts.items i ≡ Some x → home ≡ Some x.life.group → StepAt (leave_row e) i (slice_get t.documents.items i) t.documents.items outs u.documents.items → DocumentsStand settings nothing_owed t events → Leaves settings events e (Some x.life.group) (start_of x.life.group events) outs u later
  left_at i x at own left s =
      let g = x.life.group in
      let d = documents_at settings nothing_owed t events i x at s in
      let moved : StepAt (leave_row e) i (Some d.0) t.documents.items outs u.documents.items = subst (λ o. StepAt (leave_row e) i o t.documents.items outs u.documents.items) d.1 left in
      let stage : (life_of x.life.start events).stage ≡ x.life.stage = ap (λ (l : Life). l.stage) ((st.lasts.each i x at).parts of_life) in
      let was : SharedStands settings events [] g x.life.start x.life.stage d.0 = s.each i x d.0 at d.1 in
      let few : d.0.versions < 2 ^ 32 = subst (λ n. n < 2 ^ 32) (sym (was.versions ∙ s.versions)) s.range in
      let b = leaving settings events g x.life.start e in
      let go = left_shared settings events later e g x.life.start d.0 (removed g own) (kept g) (same x.life.start) (owners g) few x.life.stage stage was in
      subst (λ o. Leaves settings events e (Some g) o outs u later) (sym (st.lasts.each i x at).start) (
        moved.0 ∙ go.1,
        documents_set settings nothing_owed (owes g b) t u events later rest vs i x x d.0 (leave_row e d.0).after at d.1 (ls ∙ sym (set_same t.lasts.items i x at)) moved.1 (λ k. k)
            (λ _. subst (λ w. SharedStands settings later w g x.life.start x.life.stage (leave_row e d.0).after) (sym (owes_here g b)) go.0)
            (λ j z c off there h.
            let far = groups_apart t.lasts.items i j x z st.lasts.rise at there off in
            subst (λ w. SharedStands settings later w z.life.group z.life.start z.life.stage c) (sym (owes_there g z.life.group b far)) (away z.life.group z.life.start z.life.stage c (ap (is_home z.life.group) own ∙ ne_eqb g z.life.group (λ q. far (sym q))) h)) s,
      )

  left_from : (o place : Option ℕ) → home ≡ o → IsPlace t.lasts.items o place → StepFrom (leave_row e) place t.documents.items outs u.documents.items → DocumentsStand settings nothing_owed t events → Leaves settings events e o (option_and_then (λ g. start_of g events) o) outs u later
  left_from None None own placed left s = (left.0, nobody (λ j x at. ap (is_home x.life.group) own) left.1 s)
  left_from (Some g) None own placed left s = left_lost g own (placed g refl st.lasts.rise) (start_of g events) refl left.0 left.1 s
  left_from o (Some i) own placed left s = go (item_at t.lasts.items i placed.0)
    where
      go : (x : Start) × (slice_get t.lasts.items i ≡ Some x) → Leaves settings events e o (option_and_then (λ g. start_of g events) o) outs u later
      go x = subst (λ h. Leaves settings events e h (option_and_then (λ g. start_of g events) h) outs u later) (sym (placed.1 x.0 x.1)) (left_at i x.0 x.1 (own ∙ placed.1 x.0 x.1) left s)

  pub left_documents : (place : Option ℕ) → IsPlace t.lasts.items home place → StepFrom (leave_row e) place t.documents.items outs u.documents.items → DocumentsStand settings nothing_owed t events → Leaves settings events e (home_of settings e events) (start_for settings e events) outs u later
  left_documents place placed left s = subst (λ o. Leaves settings events e o (option_and_then (λ g. start_of g events) o) outs u later) (sym is) (left_from home place refl placed left s)

-- an editor has no documents where it isn't at home
none_left : (e : ℕ) (os : List Open) → AllByRecursion (λ (o : Open). nat_eq o.editor e ≡ false) os → filter (λ (o : Open). not (nat_eq o.editor e)) os ≡ os
none_left e [] h = refl
none_left e (o ∷ os) h = go (nat_eq o.editor e) h.0 (none_left e os h.1)
  where
    go : (b : Bool) → b ≡ false → filter (λ (p : Open). not (nat_eq p.editor e)) os ≡ os → (if not b then o ∷ filter (λ (p : Open). not (nat_eq p.editor e)) os else filter (λ (p : Open). not (nat_eq p.editor e)) os) ≡ o ∷ os
    go true k rest = never k
    go false k rest = ap (λ ps. o ∷ ps) rest

elsewhere : (settings : Settings) (events : List Event) (e g : ℕ) (o : Open) → is_home g (home_of settings e events) ≡ false → IsOwned settings events g o → nat_eq o.editor e ≡ false
elsewhere settings events e g o h k = go (nat_eq o.editor e) refl
  where
    go : (b : Bool) → nat_eq o.editor e ≡ b → b ≡ false
    go false q = refl
    go true q = let w : o.editor ≡ e = grind (arith, nat_tests) in never (sym (itself g) ∙ (ap (is_home g) (sym (subst (λ n. home_of settings n events ≡ Some g) w k.0)) ∙ h))

pub home_seen : (settings : Settings) (t : Tables) (events : List Event) (e : ℕ) (home : Option ℕ) → e < length t.editors → home ≡ (session_of t.editors e).group → Stands settings t events → home_of settings e events ≡ home
home_seen settings t events e home l is st = st.house.editors.home e ∙ (ap group_in (slice_get-get_or t.editors e absent l) ∙ sym is)

other_way : (a b : ℕ) → nat_eq a b ≡ false → nat_eq b a ≡ false
other_way a b h = grind (arith, nat_tests)

-- nor does it owe anything where it has none
no_uris : (e : ℕ) (os : List Open) → AllByRecursion (λ (o : Open). nat_eq o.editor e ≡ false) os → uris_of e os ≡ []
no_uris e [] h = refl
no_uris e (o ∷ os) h = ap₂ (λ b us. (if b then o.uri ∷ [] else []) ++ us) h.0 (no_uris e os h.1)

no_step : (e : ℕ) (d : Documents) → AllByRecursion (λ (o : Open). nat_eq o.editor e ≡ false) d.opens → leave_row e d ≡ record { outs = []; after = d }
no_step e d h = ap (λ us. fold (close_next e) (record { outs = []; after = d }) us) (no_uris e d.opens h)

module _ (settings : Settings) (owed : Owed) (t u : Tables) (events : List Event) (e : ℕ) (outs : List Out) (nowhere : (j : ℕ) (o : Open) → IsOwned settings events j o → nat_eq o.editor e ≡ false) where
  step_at : (g : ℕ) (o : Option Documents) → slice_get t.documents.items g ≡ o → StepAt (leave_row e) g o t.documents.items outs u.documents.items → DocumentsStand settings owed t events → (outs ≡ []) × (u.documents.items ≡ t.documents.items)
  step_at g None at left s = left
  step_at g (Some d) at left s =
      let x = item_at t.lasts.items g (subst (λ n. g < n) s.count (slice_get_within t.documents.items g d at)) in
      let k = no_step e d (all_owned (IsOwned settings events x.0.life.group) (λ (o : Open). nat_eq o.editor e ≡ false) d.opens (nowhere x.0.life.group) (s.each g x.0 d x.1 at).owned) in
      (left.0 ∙ ap (λ (z : Step). z.outs) k, left.1 ∙ (ap (λ (z : Step). slice_set t.documents.items g z.after) k ∙ set_same t.documents.items g d at))

  quiet_step : (o : Option ℕ) → StepFrom (leave_row e) o t.documents.items outs u.documents.items → DocumentsStand settings owed t events → (outs ≡ []) × (u.documents.items ≡ t.documents.items)
  quiet_step None left s = left
  quiet_step (Some g) left s = step_at g (slice_get t.documents.items g) refl left s

asks_unsent : (ev : Event) → touches_sent ev ≡ false → asks_on ev ≡ false
asks_unsent (did (ToServer s body) m) h = never h
asks_unsent other h = refl

-- its link is gone, or is to be ended
module _ (settings : Settings) (t u : Tables) (events : List Event) (ev : Event) (e : ℕ) (home : Option ℕ) (outs : List Out) (leaves : (g : ℕ) → texts_of settings g (events ++ ev ∷ []) ≡ without_editor e (texts_of settings g events)) (encodes : touches_encoding ev ≡ false) (sends : touches_sent ev ≡ false) (spawn : spawns ev ≡ false) (quits : joins ev ≡ false)
    (names : (n : ℕ) → nat_eq e n ≡ false → parts n ev ≡ false) (is : home_of settings e events ≡ home) (ls : u.lasts.items ≡ t.lasts.items) (vs : u.versions ≡ t.versions) (st : Stands settings t events) where
  abbrev later : List Event
  later = events ++ ev ∷ []

  owner : (g : ℕ) (o : Open) → nat_eq o.editor e ≡ false → IsOwned settings events g o → IsOwned settings later g o
  owner g o off k = owner_stays settings events g o ev (names o.editor (other_way o.editor e off)) k

  away : (j s : ℕ) (stage : Stage) (c : Documents) → is_home j home ≡ false → SharedStands settings events [] j s stage c → SharedStands settings later [] j s stage c
  away j s stage c off h =
      let none : AllByRecursion (λ (o : Open). nat_eq o.editor e ≡ false) c.opens = all_owned (IsOwned settings events j) (λ (o : Open). nat_eq o.editor e ≡ false) c.opens (λ o k. elsewhere settings events e j o (ap (is_home j) is ∙ off) k) h.owned in
      shared_stays settings events later [] j s stage c
      (leaves j ∙ (ap (without_editor e) h.texts.texts ∙ (ap (λ (os : List Open). record { turn = c.turn; opens = os }) (none_left e c.opens none) ∙ sym h.texts.texts)))
      (encoding_stays j events ev encodes) (start_stays s [] c events later (sent_stays s events ev sends) stage)
      (λ k. both_owned (λ (o : Open). nat_eq o.editor e ≡ false) (IsOwned settings events j) (IsOwned settings later j) c.opens (owner j) none k) h
    where
      both_owned : (N P Q : Open → Type 0) (os : List Open) → ((o : Open) → N o → P o → Q o) → AllByRecursion N os → AllByRecursion P os → AllByRecursion Q os
      both_owned N P Q [] f n k = tt
      both_owned N P Q (o ∷ os) f n k = (f o n.0 k.0, both_owned N P Q os f n.1 k.1)

  rest : Rest settings t events later
  rest = record {
    texts = λ g l h. leaves g ∙ ap (without_editor e) h;
    encoding = λ g l. encoding_stays g events ev encodes;
    founds = founds_kept events ev spawn;
    starts = starts_kept events ev spawn;
    sent = λ s l. sent_stays s events ev sends;
    moments = λ g x n p at there. moment_stays settings x.life.start n events ev (asks_unsent ev sends);
    left = left_stays events ev quits;
  }

  leave_documents : (place : Option ℕ) → IsPlace t.lasts.items home place → StepFrom (leave_row e) place t.documents.items outs u.documents.items → DocumentsStand settings nothing_owed t events → Leaves settings events e (home_of settings e events) (start_for settings e events) outs u later
  leave_documents place placed left s = left_documents settings t u events later e home outs is ls vs rest st away (λ g own. leaves g) (λ g. encoding_stays g events ev encodes) (λ s. sent_stays s events ev sends) owner place placed left s

  -- an editor that isn't served has no documents
  module _ (owed : Owed) (unserved : is_served (desk_of e events).phase ≡ false) where
    nowhere : (j : ℕ) (o : Open) → IsOwned settings events j o → nat_eq o.editor e ≡ false
    nowhere j o k = go (nat_eq o.editor e) refl
      where
        go : (b : Bool) → nat_eq o.editor e ≡ b → b ≡ false
        go false q = refl
        go true q = let w : o.editor ≡ e = grind (arith, nat_tests) in never (sym (owner_served settings events j o k) ∙ (ap (λ n. is_served (desk_of n events).phase) w ∙ unserved))

    none_of : (j : ℕ) (os : List Open) → AllByRecursion (IsOwned settings events j) os → AllByRecursion (λ (o : Open). nat_eq o.editor e ≡ false) os
    none_of j os h = all_owned (IsOwned settings events j) (λ (o : Open). nat_eq o.editor e ≡ false) os (nowhere j) h

    still : (j s : ℕ) (stage : Stage) (c : Documents) → SharedStands settings events (owed j) j s stage c → SharedStands settings later (owed j) j s stage c
    still j s stage c h = shared_stays settings events later (owed j) j s stage c
        (leaves j ∙ (ap (without_editor e) h.texts.texts ∙ (ap (λ (os : List Open). record { turn = c.turn; opens = os }) (none_left e c.opens (none_of j c.opens h.owned)) ∙ sym h.texts.texts)))
        (encoding_stays j events ev encodes) (start_stays s (owed j) c events later (sent_stays s events ev sends) stage)
        (λ k. all_owned (IsOwned settings events j) (IsOwned settings later j) c.opens (λ o q. owner j o (nowhere j o q) q) k) h

    unserved_documents : (place : Option ℕ) → StepFrom (leave_row e) place t.documents.items outs u.documents.items → DocumentsStand settings owed t events → (outs ≡ []) × DocumentsStand settings owed u later
    unserved_documents place left s = let k = quiet_step settings owed t u events e outs nowhere place left s in (k.0, documents_all settings owed owed t u events later rest vs ls k.1 (λ g x d at h. still x.life.group x.life.start x.life.stage d h) s)

pub gone_documents : (settings : Settings) (t u : Tables) (events : List Event) (e : ℕ) (why : Why) (home place : Option ℕ) (outs : List Out) → e < length t.editors → home ≡ (session_of t.editors e).group → IsPlace t.lasts.items home place → u.lasts ≡ t.lasts → u.versions ≡ t.versions → StepFrom (leave_row e) place t.documents.items outs u.documents.items
    → Stands settings t events → DocumentsStand settings nothing_owed t events → Leaves settings events e (home_of settings e events) (start_for settings e events) outs u (events ++ heard (EditorGone e why) ∷ [])
gone_documents settings t u events e why home place outs l is placed ls vs left st s = leave_documents settings t u events (heard (EditorGone e why)) e home outs (λ g. texts_more settings g events (heard (EditorGone e why))) refl refl refl refl (λ n h. h) (home_seen settings t events e home l is st) (ap (λ v. v.items) ls) vs st place placed left s

pub closed_documents : (settings : Settings) (t u : Tables) (base : List Event) (xs ys : List Out) (e : ℕ) (home place : Option ℕ) (owed : List Out) → e < length t.editors → home ≡ (session_of t.editors e).group → IsPlace t.lasts.items home place → u.lasts ≡ t.lasts → u.versions ≡ t.versions → StepFrom (leave_row e) place t.documents.items owed u.documents.items → ys ≡ xs ++ CloseEditor e ∷ []
    → Stands settings t (behind base xs) → DocumentsStand settings nothing_owed t (behind base xs) → Leaves settings (behind base xs) e (home_of settings e (behind base xs)) (start_for settings e (behind base xs)) owed u (behind base ys)
closed_documents settings t u base xs ys e home place owed l is placed ls vs left said_so st s =
    subst (λ es. Leaves settings (behind base xs) e (home_of settings e (behind base xs)) (start_for settings e (behind base xs)) owed u es) (sym (ap (behind base) said_so ∙ behind_more base xs (CloseEditor e ∷ [])))
    (leave_documents settings t u (behind base xs) (said (CloseEditor e)) e home owed (λ g. texts_more settings g (behind base xs) (said (CloseEditor e))) refl refl refl refl (λ n h. h) (home_seen settings t (behind base xs) e home l is st) (ap (λ v. v.items) ls) vs st place placed left s)

pub gone_unserved : (settings : Settings) (t u : Tables) (events : List Event) (e : ℕ) (why : Why) (home place : Option ℕ) (outs : List Out) → e < length t.editors → home ≡ (session_of t.editors e).group → u.lasts ≡ t.lasts → u.versions ≡ t.versions → StepFrom (leave_row e) place t.documents.items outs u.documents.items
    → Stands settings t events → is_served (desk_of e events).phase ≡ false → DocumentsStand settings nothing_owed t events → (outs ≡ []) × DocumentsStand settings nothing_owed u (events ++ heard (EditorGone e why) ∷ [])
gone_unserved settings t u events e why home place outs l is ls vs left st unserved s = unserved_documents settings t u events (heard (EditorGone e why)) e home outs (λ g. texts_more settings g events (heard (EditorGone e why))) refl refl refl refl (λ n h. h)
    (home_seen settings t events e home l is st) (ap (λ v. v.items) ls) vs st nothing_owed unserved place left s

pub closed_unserved : (settings : Settings) (owed : Owed) (t u : Tables) (base : List Event) (xs ys : List Out) (e : ℕ) (home place : Option ℕ) (outs : List Out) → e < length t.editors → home ≡ (session_of t.editors e).group → u.lasts ≡ t.lasts → u.versions ≡ t.versions → StepFrom (leave_row e) place t.documents.items outs u.documents.items → ys ≡ xs ++ CloseEditor e ∷ []
    → Stands settings t (behind base xs) → is_served (desk_of e (behind base xs)).phase ≡ false → DocumentsStand settings owed t (behind base xs) → (outs ≡ []) × DocumentsStand settings owed u (behind base ys)
closed_unserved settings owed t u base xs ys e home place outs l is ls vs left said_so st unserved s =
    subst (λ es. (outs ≡ []) × DocumentsStand settings owed u es) (sym (ap (behind base) said_so ∙ behind_more base xs (CloseEditor e ∷ [])))
    (unserved_documents settings t u (behind base xs) (said (CloseEditor e)) e home outs (λ g. texts_more settings g (behind base xs) (said (CloseEditor e))) refl refl refl refl (λ n h. h)
    (home_seen settings t (behind base xs) e home l is st) (ap (λ v. v.items) ls) vs st owed unserved place left s)

-- the same parts where starts are owed bodies already
module _ (settings : Settings) (events : List Event) (e : ℕ) where
  abbrev closing : Event
  closing = said (CloseEditor e)

  -- what is said of its own group
  pub record ClosedParts (g s : ℕ) : Type 0 where
    pub removed : texts_of settings g (events ++ closing ∷ []) ≡ without_editor e (texts_of settings g events)
    pub kept : encoding_of g (events ++ closing ∷ []) ≡ encoding_of g events
    pub same : SentSame s events (events ++ closing ∷ [])
    pub owners : (o : Open) → nat_eq o.editor e ≡ false → IsOwned settings events g o → IsOwned settings (events ++ closing ∷ []) g o

  pub closed_parts : (g s : ℕ) → ClosedParts g s
  closed_parts g s = record {
    removed = texts_more settings g events closing;
    kept = encoding_stays g events closing refl;
    same = sent_stays s events closing refl;
    owners = λ o off k. owner_stays settings events g o closing (other_way o.editor e off) k;
  }

pub closed_rest : (settings : Settings) (t : Tables) (events : List Event) (e : ℕ) → Rest settings t events (events ++ said (CloseEditor e) ∷ [])
closed_rest settings t events e = record {
  texts = λ g l h. texts_more settings g events (said (CloseEditor e)) ∙ ap (without_editor e) h;
  encoding = λ g l. encoding_stays g events (said (CloseEditor e)) refl;
  founds = founds_kept events (said (CloseEditor e)) refl;
  starts = starts_kept events (said (CloseEditor e)) refl;
  sent = λ s l. sent_stays s events (said (CloseEditor e)) refl;
  moments = λ g x n p at there. moment_stays settings x.life.start n events (said (CloseEditor e)) refl;
  left = left_stays events (said (CloseEditor e)) refl;
}

-- another group
pub closed_elsewhere : (settings : Settings) (events : List Event) (e : ℕ) (owed : List (List ℕ)) (j s : ℕ) (stage : Stage) (c : Documents) → is_home j (home_of settings e events) ≡ false → SharedStands settings events owed j s stage c → SharedStands settings (events ++ said (CloseEditor e) ∷ []) owed j s stage c
closed_elsewhere settings events e owed j s stage c off h =
    let none : AllByRecursion (λ (o : Open). nat_eq o.editor e ≡ false) c.opens = all_owned (IsOwned settings events j) (λ (o : Open). nat_eq o.editor e ≡ false) c.opens (λ o k. elsewhere settings events e j o off k) h.owned in
    shared_stays settings events (events ++ said (CloseEditor e) ∷ []) owed j s stage c
    (texts_more settings j events (said (CloseEditor e)) ∙ (ap (without_editor e) h.texts.texts ∙ (ap (λ (os : List Open). record { turn = c.turn; opens = os }) (none_left e c.opens none) ∙ sym h.texts.texts)))
    (encoding_stays j events (said (CloseEditor e)) refl) (start_stays s owed c events (events ++ said (CloseEditor e) ∷ []) (sent_stays s events (said (CloseEditor e)) refl) stage)
    (λ k. both_owned (λ (o : Open). nat_eq o.editor e ≡ false) (IsOwned settings events j) (IsOwned settings (events ++ said (CloseEditor e) ∷ []) j) c.opens (λ o away q. owner_stays settings events j o (said (CloseEditor e)) (other_way o.editor e away) q) none k) h
  where
    both_owned : (N P Q : Open → Type 0) (os : List Open) → ((o : Open) → N o → P o → Q o) → AllByRecursion N os → AllByRecursion P os → AllByRecursion Q os
    both_owned N P Q [] f n k = tt
    both_owned N P Q (o ∷ os) f n k = (f o n.0 k.0, both_owned N P Q os f n.1 k.1)

pub closed_away : (settings : Settings) (t : Tables) (events : List Event) (e : ℕ) (home : Option ℕ) (owed : Owed) → e < length t.editors → home ≡ (session_of t.editors e).group → Stands settings t events
    → (j s : ℕ) (stage : Stage) (c : Documents) → is_home j home ≡ false → SharedStands settings events (owed j) j s stage c → SharedStands settings (events ++ said (CloseEditor e) ∷ []) (owed j) j s stage c
closed_away settings t events e home owed l is st j s stage c off = closed_elsewhere settings events e (owed j) j s stage c (ap (is_home j) (home_seen settings t events e home l is st) ∙ off)

-- where the documents are ahead of the events by the end of its link and of others, it has none already
pub closed_ahead : (settings : Settings) (owing : Owed) (t u : Tables) (base : List Event) (xs ys more : List Out) (e : ℕ) (place : Option ℕ) (outs : List Out) → u.lasts ≡ t.lasts → u.versions ≡ t.versions → StepFrom (leave_row e) place t.documents.items outs u.documents.items → ys ≡ xs ++ CloseEditor e ∷ []
    → is_running (desk_of e (behind (behind base xs) (CloseEditor e ∷ more))).phase ≡ false → DocumentsStand settings owing t (behind (behind base xs) (CloseEditor e ∷ more)) → DocumentsStand settings owing u (behind (behind base ys) more)
closed_ahead settings owing t u base xs ys more e place outs ls vs left said_so off s =
    subst (DocumentsStand settings owing u) (behind_more (behind base xs) (CloseEditor e ∷ []) more ∙ ap (λ es. behind es more) (sym (ap (behind base) said_so ∙ behind_more base xs (CloseEditor e ∷ []))))
    (documents_all settings owing owing t u later later (rest_none settings t later) vs (ap (λ v. v.items) ls) (quiet_step settings owing t u later e outs nowhere place left s).1 (λ g x d at h. h) s)
  where
    later : List Event
    later = behind (behind base xs) (CloseEditor e ∷ more)

    nowhere : (j : ℕ) (o : Open) → IsOwned settings later j o → nat_eq o.editor e ≡ false
    nowhere j o k = go (nat_eq o.editor e) refl
      where
        go : (b : Bool) → nat_eq o.editor e ≡ b → b ≡ false
        go false q = refl
        go true q = let w : o.editor ≡ e = grind (arith, nat_tests) in never (sym (subst (λ n. is_running (desk_of n later).phase ≡ true) w k.1) ∙ off)

-- E9: it asks to shut down
module _ (settings : Settings) (t u : Tables) (events : List Event) (e : ℕ) (body : List ℕ) (m : Message) (home : Option ℕ) (outs : List Out) (served : is_served (desk_of e events).phase ≡ true) (asks : requests (codes "shutdown") m ≡ true) (is : home_of settings e events ≡ home) (ls : u.lasts.items ≡ t.lasts.items) (vs : u.versions ≡ t.versions) (st : Stands settings t events) where
  abbrev down : List Event
  down = events ++ took (FromEditor e body) m ∷ []

  stays_there : (j : ℕ) → is_home j home ≡ false → texts_of settings j down ≡ texts_of settings j events
  stays_there j off = texts_more settings j events (took (FromEditor e body) m) ∙ rw (ap (is_home j) is ∙ off) refl

  down_owner : (g : ℕ) (o : Open) → nat_eq o.editor e ≡ false → IsOwned settings events g o → IsOwned settings down g o
  down_owner g o off k = owner_stays settings events g o (took (FromEditor e body) m) (ap (λ b. b && requests (codes "shutdown") m) (other_way o.editor e off)) k

  down_away : (j s : ℕ) (stage : Stage) (c : Documents) → is_home j home ≡ false → SharedStands settings events [] j s stage c → SharedStands settings down [] j s stage c
  down_away j s stage c off h = shared_stays settings events down [] j s stage c (stays_there j off) (encoding_stays j events (took (FromEditor e body) m) refl) (start_stays s [] c events down (sent_stays s events (took (FromEditor e body) m) refl) stage)
      (all_owned (IsOwned settings events j) (IsOwned settings down j) c.opens (λ o k. down_owner j o (elsewhere settings events e j o (ap (is_home j) is ∙ off) k) k)) h

  down_removed : (g : ℕ) → home ≡ Some g → texts_of settings g down ≡ without_editor e (texts_of settings g events)
  down_removed g own = texts_more settings g events (took (FromEditor e body) m) ∙ rw (ap (is_home g) (is ∙ own) ∙ itself g, served, asks) refl

  down_rest : Rest settings t events down
  down_rest = record {
    texts = λ g l h. texts_more settings g events (took (FromEditor e body) m) ∙ either g (is_home g (home_of settings e events) && is_served (desk_of e events).phase) (texts_of settings g events) h;
    encoding = λ g l. encoding_stays g events (took (FromEditor e body) m) refl;
    founds = founds_kept events (took (FromEditor e body) m) refl;
    starts = starts_kept events (took (FromEditor e body) m) refl;
    sent = λ s l. sent_stays s events (took (FromEditor e body) m) refl;
    moments = λ g x n p at there. moment_stays settings x.life.start n events (took (FromEditor e body) m) refl;
    left = left_stays events (took (FromEditor e body) m) refl;
  }
    where
      either : (g : ℕ) (b : Bool) (x : Texts) → x ≡ no_texts → (if b then texts_heard g events e m x else x) ≡ no_texts
      either g true x h = rw asks (ap (without_editor e) h)
      either g false x h = h

  pub shutdown_documents : (place : Option ℕ) → IsPlace t.lasts.items home place → StepFrom (leave_row e) place t.documents.items outs u.documents.items → DocumentsStand settings nothing_owed t events → Leaves settings events e (home_of settings e events) (start_for settings e events) outs u down
  shutdown_documents place placed left s = left_documents settings t u events down e home outs is ls vs down_rest st down_away down_removed (λ g. encoding_stays g events (took (FromEditor e body) m) refl) (λ s. sent_stays s events (took (FromEditor e body) m) refl) down_owner place placed left s
