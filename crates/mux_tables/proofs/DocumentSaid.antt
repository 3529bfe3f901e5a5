-- The documents of all groups, where an out is said that tells of none, or a start ends.
use Rattle.std.proofs.Common.{◌≡◌, ℕ, ◌<◌, Bool, true, false, ◌&&◌, List, [], ◌∷◌, ◌++◌, length, get_or, codes, if◌then◌else◌, refl, sym, ap, subst, ◌∙◌}
use Rattle.std.specs.Prelude.{Option, Some, None, bytes_eq, slice_get, slice_set}
use Rattle.std.proofs.lemmas.Slice.Eq.{bytes_eq-Decides}
use Rattle.json_text.specs.Json.{Json}
use Rattle.mux_history.specs.declared.cause.Cause.TheVariants.{ServerGone, StartFailed}
use Rattle.mux_history.specs.declared.out.Out.{Out}
use Rattle.mux_history.specs.declared.out.Out.TheVariants.{ToEditor, ToServer, EndServer}
use Rattle.rpc_message.specs.Message.{Message, Id, notification, request, message_of, not_message}
use Rattle.document_model.specs.Sayings.{nothing, saying_of, saying_by}
use Rattle.event_model.specs.declared.stage.Stage.{Stage}
use Rattle.event_model.specs.declared.stage.Stage.TheVariants.{Stopping, Ending, Ended}
use Rattle.event_model.specs.Event.{Event, behind, did, said, took}
use Rattle.event_model.specs.Settings.{Settings}
use Rattle.event_model.proofs.Turns.{behind_more}
use Rattle.focus_switch.specs.Documents.{Documents}
use Rattle.focus_switch.specs.Rows.{unready_row}
use Rattle.event_model.specs.Spawns.{group_of}
use Rattle.group_words.specs.Houses.{is_home}
use Rattle.group_laws.specs.group_rows.specs.Texts.{is_synced, texts_of, touch_all, toucher, toucher_of}
use Rattle.group_laws.specs.group_rows.specs.Waiting.{first_waiting, worker_of}
use Rattle.group_laws.specs.group_rows.proofs.Frames.{encoding_stays, texts_more, texts_stay}
use Rattle.restart_replay.specs.Standings.{Standing, moved, stopped}
use Rattle.id_rewrite.specs.Tables.{with_cancelled}
use Rattle.mux_tables.specs.declared.tables.Start.{Start}
use Rattle.mux_tables.specs.declared.tables.Tables.{Tables}
use Rattle.mux_tables.specs.Documents.{DocumentsStand, IsOwned, Owed, SharedStands, StartTold}
use Rattle.mux_tables.specs.Notes.{NotesStand}
use Rattle.mux_tables.specs.Stands.{Exits}
use Rattle.mux_tables.proofs.DocumentEvents.{shared_notified, shared_quiet}
use Rattle.mux_tables.proofs.DocumentFrames.{all_owned, owner_stays, sent_silent, shared_stays, start_stays}
use Rattle.mux_tables.proofs.DocumentMoves.{Rest, documents_all, documents_at, documents_last, documents_set, founds_kept, quiet_documents, rest_none, rest_quiet, starts_kept}
use Rattle.mux_tables.proofs.Noting.{asks_aside, asks_on, left_stays, moment_stays, notes_cancelled, notes_gone}
use Rattle.mux_tables.proofs.Starts.{read_here}

-- one out behind those before it
pub documents_said : (settings : Settings) (owed after : Owed) (t u : Tables) (out : Out) (base : List Event) (xs ys : List Out) → ys ≡ xs ++ out ∷ [] → (DocumentsStand settings owed t (behind base xs) → DocumentsStand settings after u (behind base xs ++ said out ∷ []))
    → DocumentsStand settings owed t (behind base xs) → DocumentsStand settings after u (behind base ys)
documents_said settings owed after t u out base xs ys is go s = subst (λ es. DocumentsStand settings after u es) (sym (ap (behind base) is ∙ behind_more base xs (out ∷ []))) (go s)

-- a body to an editor
pub told_documents : (settings : Settings) (owed : Owed) (t u : Tables) (base : List Event) (xs ys : List Out) (e : ℕ) (body : List ℕ) → u.lasts ≡ t.lasts → u.documents ≡ t.documents → u.versions ≡ t.versions → ys ≡ xs ++ ToEditor e body ∷ []
    → DocumentsStand settings owed t (behind base xs) → DocumentsStand settings owed u (behind base ys)
told_documents settings owed t u base xs ys e body ls ds vs is = documents_said settings owed owed t u (ToEditor e body) base xs ys is
    (quiet_documents settings owed t u (behind base xs) (said (ToEditor e body)) refl refl (ap (λ v. v.items) ls) (ap (λ v. v.items) ds) vs (λ g o k. refl) (left_stays (behind base xs) (said (ToEditor e body)) refl))

-- outs that change no documents, where these are ahead of the events by them already
pub ahead_stays : (settings : Settings) (owed : Owed) (t u : Tables) (base : List Event) (xs ys zs more : List Out) → u.lasts ≡ t.lasts → u.documents ≡ t.documents → u.versions ≡ t.versions → ys ≡ xs ++ zs
    → DocumentsStand settings owed t (behind (behind base xs) (zs ++ more)) → DocumentsStand settings owed u (behind (behind base ys) more)
ahead_stays settings owed t u base xs ys zs more ls ds vs is s =
    subst (DocumentsStand settings owed u) (behind_more (behind base xs) zs more ∙ ap (λ es. behind es more) (sym (ap (behind base) is ∙ behind_more base xs zs)))
    (documents_all settings owed owed t u later later (rest_none settings t later) vs (ap (λ v. v.items) ls) (ap (λ v. v.items) ds) (λ g x d at h. h) s)
  where
    later : List Event
    later = behind (behind base xs) (zs ++ more)

-- a body to a start that tells of no document, and goes on without a sync
pub rest_notified : (settings : Settings) (t : Tables) (events : List Event) (n : ℕ) (body : List ℕ) (m : Message) → saying_of m ≡ nothing → is_synced m ≡ false → Rest settings t events (events ++ did (ToServer n body) m ∷ [])
rest_notified settings t events n body m silent aside = record {
  texts = λ g l h. texts_stay settings g events (did (ToServer n body) m) aside ∙ h;
  encoding = λ g l. encoding_stays g events (did (ToServer n body) m) refl;
  founds = founds_kept events (did (ToServer n body) m) refl;
  starts = starts_kept events (did (ToServer n body) m) refl;
  sent = λ s l. sent_silent s n body m events silent;
  moments = λ g x k p at there. moment_stays settings x.life.start k events (did (ToServer n body) m) (asks_aside n body m aside);
  left = left_stays events (did (ToServer n body) m) refl;
}

pub notified_documents : (settings : Settings) (owed : Owed) (t u : Tables) (base : List Event) (xs ys : List Out) (n : ℕ) (text : List ℕ) → saying_of (message_of text) ≡ nothing → is_synced (message_of text) ≡ false → u.lasts ≡ t.lasts → u.documents ≡ t.documents → u.versions ≡ t.versions
    → ys ≡ xs ++ ToServer n text ∷ [] → DocumentsStand settings owed t (behind base xs) → DocumentsStand settings owed u (behind base ys)
notified_documents settings owed t u base xs ys n text silent aside ls ds vs is = documents_said settings owed owed t u (ToServer n text) base xs ys is
    (documents_all settings owed owed t u (behind base xs) (behind base xs ++ said (ToServer n text) ∷ []) (rest_notified settings t (behind base xs) n text (message_of text) silent aside) vs (ap (λ v. v.items) ls) (ap (λ v. v.items) ds)
    (λ g x d at h. shared_notified settings (behind base xs) (owed x.life.group) x.life.group x.life.start x.life.stage d n text (message_of text) silent aside h))

-- a cancel
-- a notification to a start that tells of no document, while no editor's message goes on
module _ (settings : Settings) (events : List Event) (n : ℕ) (body : List ℕ) (method : List ℕ) (ps : Option Json) (m : Message) (says : m ≡ notification method ps) (silent : saying_of m ≡ nothing) (idle : worker_of events ≡ None) where
  abbrev idle_later : List Event
  idle_later = events ++ did (ToServer n body) m ∷ []

  idle_toucher : toucher_of settings n events m ≡ None
  idle_toucher = ap (λ w. toucher w m (first_waiting settings n events)) idle ∙ ap (λ k. toucher None k (first_waiting settings n events)) says

  idle_texts : (g : ℕ) → texts_of settings g idle_later ≡ texts_of settings g events
  idle_texts g = texts_more settings g events (did (ToServer n body) m)
      ∙ (ap (λ w. if is_home g (group_of n events) && is_synced m then touch_all w (texts_of settings g events) else texts_of settings g events) idle_toucher ∙ either (is_home g (group_of n events) && is_synced m))
    where
      either : (b : Bool) → (if b then texts_of settings g events else texts_of settings g events) ≡ texts_of settings g events
      either true = refl
      either false = refl

  rest_idle : (t : Tables) → Rest settings t events idle_later
  rest_idle t = record {
    texts = λ g l h. idle_texts g ∙ h;
    encoding = λ g l. encoding_stays g events (did (ToServer n body) m) refl;
    founds = founds_kept events (did (ToServer n body) m) refl;
    starts = starts_kept events (did (ToServer n body) m) refl;
    sent = λ s l. sent_silent s n body m events silent;
    moments = λ g x k p at there. moment_stays settings x.life.start k events (did (ToServer n body) m) (ap (λ w. asks_on (did (ToServer n body) w)) says);
    left = left_stays events (did (ToServer n body) m) refl;
  }

  shared_idle : (owed : List (List ℕ)) (g s : ℕ) (stage : Stage) (d : Documents) → SharedStands settings events owed g s stage d → SharedStands settings idle_later owed g s stage d
  shared_idle owed g s stage d h = shared_stays settings events idle_later owed g s stage d (idle_texts g) (encoding_stays g events (did (ToServer n body) m) refl) (start_stays s owed d events idle_later (sent_silent s n body m events silent) stage)
      (λ k. all_owned (IsOwned settings events g) (IsOwned settings idle_later g) d.opens (λ o q. owner_stays settings events g o (did (ToServer n body) m) refl q) k) h

pub idle_documents : (settings : Settings) (owed : Owed) (t u : Tables) (base : List Event) (xs ys : List Out) (n : ℕ) (text method : List ℕ) (ps : Option Json) → message_of text ≡ notification method ps → saying_of (message_of text) ≡ nothing → worker_of (behind base xs) ≡ None
    → u.lasts ≡ t.lasts → u.documents ≡ t.documents → u.versions ≡ t.versions → ys ≡ xs ++ ToServer n text ∷ [] → DocumentsStand settings owed t (behind base xs) → DocumentsStand settings owed u (behind base ys)
idle_documents settings owed t u base xs ys n text method ps says silent idle ls ds vs is = documents_said settings owed owed t u (ToServer n text) base xs ys is
    (documents_all settings owed owed t u (behind base xs) (behind base xs ++ said (ToServer n text) ∷ []) (rest_idle settings (behind base xs) n text method ps (message_of text) says silent idle t) vs (ap (λ v. v.items) ls) (ap (λ v. v.items) ds)
    (λ g x d at h. shared_idle settings (behind base xs) n text method ps (message_of text) says silent idle (owed x.life.group) x.life.group x.life.start x.life.stage d h))

pub cancel_silent : (method : List ℕ) (ps : Option Json) → bytes_eq method (codes "$/cancelRequest") ≡ true → (saying_by method ps ≡ nothing) × (is_synced (notification method ps) ≡ false)
cancel_silent method ps h = subst (λ w. (saying_by w ps ≡ nothing) × (is_synced (notification w ps) ≡ false)) (sym ((bytes_eq-Decides method (codes "$/cancelRequest")).0 h)) (refl, refl)

pub cancel_documents : (settings : Settings) (owed : Owed) (t u : Tables) (base : List Event) (xs ys : List Out) (g start n : ℕ) (z y : Start) (text method : List ℕ) (ps : Option Json) → g < length t.lasts.items → z ≡ get_or t.lasts.items g z → message_of text ≡ notification method ps → bytes_eq method (codes "$/cancelRequest") ≡ true
    → y.life ≡ z.life → y.ids.requests ≡ with_cancelled n z.ids.requests → u.lasts.items ≡ slice_set t.lasts.items g y → u.documents ≡ t.documents → u.versions ≡ t.versions → ys ≡ xs ++ ToServer start text ∷ []
    → DocumentsStand settings owed t (behind base xs) → DocumentsStand settings owed u (behind base ys)
cancel_documents settings owed t u base xs ys g start n z y text method ps within read says cancels life marks set ds vs is =
    let k = cancel_silent method ps cancels in
    let silent : saying_of (message_of text) ≡ nothing = ap saying_of says ∙ k.0 in
    let aside : is_synced (message_of text) ≡ false = ap is_synced says ∙ k.1 in
    documents_said settings owed owed t u (ToServer start text) base xs ys is
    (documents_last settings owed owed t u (behind base xs) (behind base xs ++ said (ToServer start text) ∷ []) (rest_notified settings t (behind base xs) start text (message_of text) silent aside) vs g z y (read_here t.lasts.items g z within read) set (ap (λ v. v.items) ds)
    (λ k. subst (λ (l : Standing). NotesStand settings l.start y.ids.requests (behind base xs ++ said (ToServer start text) ∷ [])) (sym life) (notes_cancelled settings z.life.start n y.ids.requests z.ids.requests (behind base xs ++ said (ToServer start text) ∷ []) marks k))
    (λ d h. subst (λ (l : Standing). SharedStands settings (behind base xs ++ said (ToServer start text) ∷ []) (owed l.group) l.group l.start l.stage d) (sym life) (shared_notified settings (behind base xs) (owed z.life.group) z.life.group z.life.start z.life.stage d start text (message_of text) silent aside h))
    (λ j w c away there h. shared_notified settings (behind base xs) (owed w.life.group) w.life.group w.life.start w.life.stage c start text (message_of text) silent aside h))

-- a start that isn't ready any more
unready_shared : (settings : Settings) (events : List Event) (owed : List (List ℕ)) (g s : ℕ) (stage after : Stage) (d : Documents) → StartTold after s owed (unready_row d) events → SharedStands settings events owed g s stage d → SharedStands settings events owed g s after (unready_row d)
unready_shared settings events owed g s stage after d start h = record {
  texts = record { texts = h.texts.texts; encoding = h.texts.encoding; orderly = h.texts.orderly; spelt = h.texts.spelt };
  versions = h.versions;
  owned = h.owned;
  start = start;
}

module _ (settings : Settings) (owed : Owed) (t u : Tables) (events later : List Event) (g : ℕ) (z y : Start) (rest : Rest settings t events later) (vs : u.versions ≡ t.versions) (at : slice_get t.lasts.items g ≡ Some z) (set : u.lasts.items ≡ slice_set t.lasts.items g y) (own : y.life.start ≡ z.life.start) (group : y.life.group ≡ z.life.group)
    (notes : NotesStand settings z.life.start z.ids.requests later → NotesStand settings y.life.start y.ids.requests later)
    (dropped : (d : Documents) → slice_get t.documents.items g ≡ Some d → u.documents.items ≡ slice_set t.documents.items g (unready_row d))
    (stays : (j : ℕ) (w : Start) (c : Documents) → SharedStands settings events (owed w.life.group) w.life.group w.life.start w.life.stage c → SharedStands settings later (owed w.life.group) w.life.group w.life.start w.life.stage c) where
  unready_documents : ((s : ℕ) (d : Documents) → StartTold y.life.stage s (owed z.life.group) (unready_row d) later) → DocumentsStand settings owed t events → DocumentsStand settings owed u later
  unready_documents idle s =
      let d = documents_at settings owed t events g z at s in
      documents_set settings owed owed t u events later rest vs g z y d.0 (unready_row d.0) at d.1 set (dropped d.0 d.1) notes
      (λ h. subst (λ n. SharedStands settings later (owed n) n y.life.start y.life.stage (unready_row d.0)) (sym group) (subst (λ n. SharedStands settings later (owed z.life.group) z.life.group n y.life.stage (unready_row d.0)) (sym own) (unready_shared settings later (owed z.life.group) z.life.group z.life.start z.life.stage y.life.stage d.0 (idle z.life.start d.0) (stays g z d.0 h))))
      (λ j w c away there h. stays j w c h) s

idle_at : (stage after : Stage) (s : ℕ) (owed : List (List ℕ)) (d : Documents) (events : List Event) → after ≡ stage → StartTold stage s owed d events → StartTold after s owed d events
idle_at stage after s owed d events is h = subst (λ k. StartTold k s owed d events) (sym is) h

-- it is sent `shutdown`
pub shut_documents : (settings : Settings) (owed : Owed) (t u : Tables) (base : List Event) (xs ys : List Out) (g start n now : ℕ) (z : Start) (life : Standing) (text : List ℕ) (name : Id) (ps : Option Json) → g < length t.lasts.items → z ≡ get_or t.lasts.items g z → message_of text ≡ request name (codes "shutdown") ps
    → life ≡ stopped n now z.life → u.lasts.items ≡ slice_set t.lasts.items g (record z { life = life; shown = None }) → ((d : Documents) → slice_get t.documents.items g ≡ Some d → u.documents.items ≡ slice_set t.documents.items g (unready_row d)) → u.versions ≡ t.versions → ys ≡ xs ++ ToServer start text ∷ []
    → DocumentsStand settings owed t (behind base xs) → DocumentsStand settings owed u (behind base ys)
shut_documents settings owed t u base xs ys g start n now z life text name ps within read says stops set dropped vs is =
    documents_said settings owed owed t u (ToServer start text) base xs ys is
    (unready_documents settings owed t u (behind base xs) (behind base xs ++ said (ToServer start text) ∷ []) g z (record z { life = life; shown = None }) (rest_notified settings t (behind base xs) start text (message_of text) (ap saying_of says) (ap is_synced says)) vs
    (read_here t.lasts.items g z within read) set (ap (λ (l : Standing). l.start) stops) (ap (λ (l : Standing). l.group) stops) (λ k. subst (λ s. NotesStand settings s z.ids.requests (behind base xs ++ said (ToServer start text) ∷ [])) (sym (ap (λ (l : Standing). l.start) stops)) k) dropped (λ j w c h. shared_notified settings (behind base xs) (owed w.life.group) w.life.group w.life.start w.life.stage c start text (message_of text) (ap saying_of says) (ap is_synced says) h)
    (λ s d. idle_at Stopping life.stage s (owed z.life.group) (unready_row d) _ (ap (λ (l : Standing). l.stage) stops) refl))

-- its program is to be ended
pub end_documents : (settings : Settings) (owed : Owed) (t u : Tables) (base : List Event) (xs ys : List Out) (g start : ℕ) (z : Start) (life : Standing) → g < length t.lasts.items → z ≡ get_or t.lasts.items g z → life ≡ moved Ending z.life
    → u.lasts.items ≡ slice_set t.lasts.items g (record z { life = life; shown = None }) → ((d : Documents) → slice_get t.documents.items g ≡ Some d → u.documents.items ≡ slice_set t.documents.items g (unready_row d)) → u.versions ≡ t.versions → ys ≡ xs ++ EndServer start ∷ []
    → DocumentsStand settings owed t (behind base xs) → DocumentsStand settings owed u (behind base ys)
end_documents settings owed t u base xs ys g start z life within read ends set dropped vs is =
    documents_said settings owed owed t u (EndServer start) base xs ys is
    (unready_documents settings owed t u (behind base xs) (behind base xs ++ said (EndServer start) ∷ []) g z (record z { life = life; shown = None }) (rest_quiet settings t (behind base xs) (said (EndServer start)) refl refl (left_stays (behind base xs) (said (EndServer start)) refl)) vs
    (read_here t.lasts.items g z within read) set (ap (λ (l : Standing). l.start) ends) (ap (λ (l : Standing). l.group) ends) (λ k. subst (λ s. NotesStand settings s z.ids.requests (behind base xs ++ said (EndServer start) ∷ [])) (sym (ap (λ (l : Standing). l.start) ends)) k) dropped (λ j w c h. shared_quiet settings (behind base xs) (owed w.life.group) w.life.group w.life.start w.life.stage c (said (EndServer start)) refl (λ o k. refl) h)
    (λ s d. idle_at Ending life.stage s (owed z.life.group) (unready_row d) _ (ap (λ (l : Standing). l.stage) ends) refl))

-- its program ended, or couldn't be run
module _ (settings : Settings) (owed : Owed) (restarts : ℕ) (t u : Tables) (events : List Event) (g s : ℕ) (z : Start) (at : slice_get t.lasts.items g ≡ Some z) (x : Exits restarts t g z u) (vs : u.versions ≡ t.versions)
    (dropped : (d : Documents) → slice_get t.documents.items g ≡ Some d → u.documents.items ≡ slice_set t.documents.items g (unready_row d)) where
  idle_behind : (later : List Event) (s : ℕ) (d : Documents) → StartTold x.start.life.stage s (owed z.life.group) (unready_row d) later
  idle_behind later s d = idle_at Ended x.start.life.stage s (owed z.life.group) (unready_row d) later (ap (λ (l : Standing). l.stage) x.life) refl

  pub exit_documents : DocumentsStand settings owed t events → DocumentsStand settings owed u (events ++ took (ServerGone s) not_message ∷ [])
  exit_documents = unready_documents settings owed t u events (events ++ took (ServerGone s) not_message ∷ []) g z x.start (rest_quiet settings t events (took (ServerGone s) not_message) refl refl (left_stays events (took (ServerGone s) not_message) refl)) vs at x.lasts (ap (λ (l : Standing). l.start) x.life) (ap (λ (l : Standing). l.group) x.life)
      (λ _. notes_gone settings x.start.life.start x.start.ids.requests (events ++ took (ServerGone s) not_message ∷ []) x.requests_gone) dropped
      (λ j w c h. shared_quiet settings events (owed w.life.group) w.life.group w.life.start w.life.stage c (took (ServerGone s) not_message) refl (λ o k. refl) h) (idle_behind (events ++ took (ServerGone s) not_message ∷ []))

  pub failure_documents : DocumentsStand settings owed t events → DocumentsStand settings owed u (events ++ took (StartFailed s) not_message ∷ [])
  failure_documents = unready_documents settings owed t u events (events ++ took (StartFailed s) not_message ∷ []) g z x.start (rest_quiet settings t events (took (StartFailed s) not_message) refl refl (left_stays events (took (StartFailed s) not_message) refl)) vs at x.lasts (ap (λ (l : Standing). l.start) x.life) (ap (λ (l : Standing). l.group) x.life)
      (λ _. notes_gone settings x.start.life.start x.start.ids.requests (events ++ took (StartFailed s) not_message ∷ []) x.requests_gone) dropped
      (λ j w c h. shared_quiet settings events (owed w.life.group) w.life.group w.life.start w.life.stage c (took (StartFailed s) not_message) refl (λ o k. refl) h) (idle_behind (events ++ took (StartFailed s) not_message ∷ []))
