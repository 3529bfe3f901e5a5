-- What each sort of event leaves of the documents of one group.
use Rattle.std.proofs.Common.{◌≡◌, ℕ, Bool, true, false, ◌&&◌, ◌||◌, List, [], ◌∷◌, ◌++◌, nat_eq, codes, refl, sym, ap, subst, ◌∙◌, arith, if◌then◌else◌}
use Rattle.std.specs.Prelude.{Option, Some, None}
use Rattle.std.specs.List.{AllByRecursion}
use Rattle.std.proofs.lemmas.Bool.Decides.{nat_tests}
use Rattle.mux_history.specs.declared.cause.Cause.TheVariants.{FromEditor, EditorGone, FromServer}
use Rattle.mux_history.specs.declared.out.Out.{Out}
use Rattle.mux_history.specs.declared.out.Out.TheVariants.{ToEditor, ToServer, Spawn, CloseEditor, EndServer}
use Rattle.rpc_message.specs.Message.{Message, result, integer, message_of}
use Rattle.position_codec.specs.declared.Encoding.{Encoding}
use Rattle.document_model.specs.Opens.{Open}
use Rattle.document_model.specs.Sayings.{Saying, opens, changes, closes, misshapen, nothing, saying_of, speaks}
use Rattle.document_model.specs.Texts.{Texts, texts_behind}
use Rattle.event_model.specs.declared.stage.Stage.{Stage}
use Rattle.event_model.specs.declared.stage.Stage.TheVariants.{Spawning, Initializing, Ready}
use Rattle.event_model.specs.Event.{Event, behind, did, requests, said, took}
use Rattle.event_model.specs.Phases.{desk_of, is_served}
use Rattle.event_model.specs.Settings.{Settings}
use Rattle.event_model.specs.Spawns.{group_of}
use Rattle.event_model.specs.Stages.{is_first_result, is_initializing, life_of}
use Rattle.event_model.proofs.Frames.{never, outs_more, outs_still}
use Rattle.focus_switch.specs.Documents.{Documents}
use Rattle.group_laws.specs.mux_model.specs.Documents as starts
use Rattle.group_laws.specs.mux_model.specs.Documents.{encoding_by, without_editor}
use Rattle.group_words.specs.Houses.{home_of, is_home}
use Rattle.group_laws.specs.group_rows.specs.Texts.{encoding_of, given, is_synced, texts_of}
use Rattle.group_laws.specs.group_rows.proofs.Frames.{encoding_more, encoding_stays, texts_more, texts_stay, touches_encoding, touches_texts}
use Rattle.group_laws.specs.Stands.{HeldStands}
use Rattle.group_laws.proofs.Entries.{first_behind, texts_told}
use Rattle.mux_tables.specs.Documents.{IsOwned, SharedStands, StartTold, Told, changes_documents, to}
use Rattle.mux_tables.proofs.DocumentFrames.{all_owned, off_then, owner_served, owner_stays, parts, sent_apart, sent_given, sent_silent, sent_stays, sent_ungiven, sent_unheard, shared_stays, start_stays, told_stays, touches_sent, untold_stays}

-- an event that speaks of no documents, but for the editor that joins
abbrev pub touches_documents : Event → Bool
touches_documents (took (FromEditor e body) m) = true
touches_documents (took (EditorGone e why) m) = true
touches_documents (took (FromServer s body) m) = true
touches_documents (did (ToServer s body) m) = true
touches_documents (did (CloseEditor e) m) = true
touches_documents other = false

pub texts_untouched : (ev : Event) → touches_documents ev ≡ false → touches_texts ev ≡ false
texts_untouched (took (FromEditor e body) m) h = never h
texts_untouched (took (EditorGone e why) m) h = never h
texts_untouched (did (ToServer s body) m) h = never h
texts_untouched (did (CloseEditor e) m) h = never h
texts_untouched other h = refl

pub encoding_untouched : (ev : Event) → touches_documents ev ≡ false → touches_encoding ev ≡ false
encoding_untouched (took (FromServer s body) m) h = never h
encoding_untouched other h = refl

pub sent_untouched : (ev : Event) → touches_documents ev ≡ false → touches_sent ev ≡ false
sent_untouched (took (FromServer s body) m) h = never h
sent_untouched (did (ToServer s body) m) h = never h
sent_untouched other h = refl

-- a message of an editor that changes no documents
left_off : (a b : Bool) → (a || b) ≡ false → a ≡ false
left_off true b h = never h
left_off false b h = refl

unspoken : (code : Option Encoding) (e : ℕ) (x : Texts) (y : Saying) → speaks y ≡ false → texts_behind code e y x ≡ x
unspoken code e x nothing h = refl
unspoken code e x misshapen h = refl
unspoken code e x (opens u l v t) h = never h
unspoken code e x (changes u v cs) h = never h
unspoken code e x (closes u) h = never h

pub heard_texts : (settings : Settings) (g e : ℕ) (body : List ℕ) (m : Message) (events : List Event) → changes_documents events e m ≡ false → texts_of settings g (events ++ took (FromEditor e body) m ∷ []) ≡ texts_of settings g events
heard_texts settings g e body m events h = texts_more settings g events (took (FromEditor e body) m) ∙ go (is_home g (home_of settings e events)) (is_served (desk_of e events).phase) (requests (codes "shutdown") m) h
  where
    go : (a b c : Bool) → (b && (c || speaks (saying_of m))) ≡ false
        → (if a && b then (if c then without_editor e (texts_of settings g events) else texts_behind (encoding_of g events) e (saying_of m) (texts_of settings g events)) else texts_of settings g events) ≡ texts_of settings g events
    go false b c h = refl
    go true false c h = refl
    go true true true h = never h
    go true true false h = unspoken (encoding_of g events) e (texts_of settings g events) (saying_of m) h

unparted : (n e : ℕ) (events : List Event) (m : Message) (b : Bool) → nat_eq e n ≡ b → is_served (desk_of n events).phase ≡ true → changes_documents events e m ≡ false → (b && requests (codes "shutdown") m) ≡ false
unparted n e events m false same k h = refl
unparted n e events m true same k h =
    let is : e ≡ n = grind (arith, nat_tests) in
    left_off (requests (codes "shutdown") m) (speaks (saying_of m)) (off_then (is_served (desk_of n events).phase) _ (subst (λ j. changes_documents events j m ≡ false) is h) k)

-- a message of a start that gives no encoding
no_encoding : (m : Message) → is_first_result m ≡ false → encoding_by m ≡ None
no_encoding (result (Some (integer n)) r) h = rw h refl
no_encoding other h = refl

and_true : (a : Bool) → (a && true) ≡ false → a ≡ false
and_true true h = h
and_true false h = refl

pub heard_encoding : (g n : ℕ) (body : List ℕ) (m : Message) (events : List Event) → (is_first_result m && is_initializing (life_of n events).stage) ≡ false → encoding_of g (events ++ took (FromServer n body) m ∷ []) ≡ encoding_of g events
heard_encoding g n body m events h = encoding_more g events (took (FromServer n body) m) ∙ go (is_home g (group_of n events)) (is_initializing (life_of n events).stage) h
  where
    go : (a b : Bool) → (is_first_result m && b) ≡ false → (if a && b then given (encoding_by m) (encoding_of g events) else encoding_of g events) ≡ encoding_of g events
    go false b h = refl
    go true false h = refl
    go true true h = ap (λ c. given c (encoding_of g events)) (no_encoding m (and_true (is_first_result m) h))

said_given : (s : ℕ) (code : Option Encoding) (x : Out) → starts.encoding_behind s code (said x) ≡ code
said_given s (Some code) x = refl
said_given s None (ToEditor e body) = refl
said_given s None (ToServer n body) = refl
said_given s None (Spawn n g) = refl
said_given s None (CloseEditor e) = refl
said_given s None (EndServer n) = refl

-- outs give no encoding
pub given_behind : (s : ℕ) (xs : List Out) (events : List Event) → starts.encoding_of s (behind events xs) ≡ starts.encoding_of s events
given_behind s xs events = outs_more (starts.encoding_behind s) None (starts.encoding_of s events) events xs refl ∙ outs_still (starts.encoding_behind s) (starts.encoding_of s events) xs (λ x. said_given s (starts.encoding_of s events) x)

start_heard : (s : ℕ) (owed : List (List ℕ)) (d : Documents) (events : List Event) (body : List ℕ) (m : Message) (stage : Stage) → (stage ≡ Spawning → ⊥) → (is_first_result m && is_initializing stage) ≡ false
    → StartTold stage s owed d events → StartTold stage s owed d (events ++ took (FromServer s body) m ∷ [])
start_heard s owed d events body m Spawning runs h k = absurd (runs refl)
start_heard s owed d events body m Initializing runs h k = (k.0, untold_stays s events (events ++ took (FromServer s body) m ∷ []) (sent_ungiven s s body m events (no_encoding m (and_true (is_first_result m) h))) k.1)
start_heard s owed d events body m Ready runs h k = told_stays s owed d events (events ++ took (FromServer s body) m ∷ []) (sent_given s s body m events k.code (sym (given_behind s (to s owed) events) ∙ k.holds.given)) k
start_heard s owed d events body m other runs h k = k

-- the next body that a start is owed
pub told_next : (s : ℕ) (body : List ℕ) (owed : List (List ℕ)) (d : Documents) (events : List Event) → Told s (body ∷ owed) d events → Told s owed d (events ++ said (ToServer s body) ∷ [])
told_next s body owed d events h = record {
  code = h.code;
  tell = h.tell.1;
  holds = subst (λ es. HeldStands s h.code d es) (first_behind events (ToServer s body) (to s owed)) h.holds;
}

module _ (settings : Settings) (events : List Event) (owed : List (List ℕ)) (g s : ℕ) (stage : Stage) (d : Documents) where
  abbrev From : Type 0
  From = SharedStands settings events owed g s stage d

  abbrev Goes : Event → Type 0
  Goes ev = SharedStands settings (events ++ ev ∷ []) owed g s stage d

  abbrev Owned : List Event → Type 0
  Owned es = AllByRecursion (IsOwned settings es g) d.opens

  owners : (ev : Event) → ((o : Open) → IsOwned settings events g o → parts o.editor ev ≡ false) → Owned events → Owned (events ++ ev ∷ [])
  owners ev away h = all_owned (IsOwned settings events g) (IsOwned settings (events ++ ev ∷ []) g) d.opens (λ o k. owner_stays settings events g o ev (away o k) k) h

  pub shared_quiet : (ev : Event) → touches_documents ev ≡ false → ((o : Open) → IsOwned settings events g o → parts o.editor ev ≡ false) → From → Goes ev
  shared_quiet ev q away h = shared_stays settings events (events ++ ev ∷ []) owed g s stage d (texts_stay settings g events ev (texts_untouched ev q)) (encoding_stays g events ev (encoding_untouched ev q))
      (start_stays s owed d events (events ++ ev ∷ []) (sent_stays s events ev (sent_untouched ev q)) stage) (owners ev away) h

  -- a message of an editor that changes no documents
  pub shared_heard : (e : ℕ) (body : List ℕ) (m : Message) → changes_documents events e m ≡ false → From → Goes (took (FromEditor e body) m)
  shared_heard e body m q h = shared_stays settings events (events ++ took (FromEditor e body) m ∷ []) owed g s stage d (heard_texts settings g e body m events q) (encoding_stays g events (took (FromEditor e body) m) refl)
      (start_stays s owed d events (events ++ took (FromEditor e body) m ∷ []) (sent_stays s events (took (FromEditor e body) m) refl) stage)
      (owners (took (FromEditor e body) m) (λ o k. unparted o.editor e events m (nat_eq e o.editor) refl (owner_served settings events g o k) q)) h

  -- a body to a start that says nothing of documents, and goes on without a sync
  pub shared_notified : (n : ℕ) (body : List ℕ) (m : Message) → saying_of m ≡ nothing → is_synced m ≡ false → From → Goes (did (ToServer n body) m)
  shared_notified n body m silent aside h = shared_stays settings events (events ++ did (ToServer n body) m ∷ []) owed g s stage d (texts_stay settings g events (did (ToServer n body) m) aside) (encoding_stays g events (did (ToServer n body) m) refl)
      (start_stays s owed d events (events ++ did (ToServer n body) m ∷ []) (sent_silent s n body m events silent) stage) (owners (did (ToServer n body) m) (λ o k. refl)) h

  -- a body to another start that tells of a document
  pub shared_beside : (n : ℕ) (body : List ℕ) → speaks (saying_of (message_of body)) ≡ true → nat_eq n s ≡ false → From → Goes (did (ToServer n body) (message_of body))
  shared_beside n body tells other h = shared_stays settings events (events ++ said (ToServer n body) ∷ []) owed g s stage d (texts_told settings g n events (body ∷ []) (tells, tt)) (encoding_stays g events (said (ToServer n body)) refl)
      (start_stays s owed d events (events ++ said (ToServer n body) ∷ []) (sent_apart s n body (message_of body) events other) stage) (owners (said (ToServer n body)) (λ o k. refl)) h

  -- a message of another start, and one of its own that isn't its first result
  shared_from : (n : ℕ) (body : List ℕ) (m : Message) → (is_first_result m && is_initializing (life_of n events).stage) ≡ false → (StartTold stage s owed d events → StartTold stage s owed d (events ++ took (FromServer n body) m ∷ [])) → From → Goes (took (FromServer n body) m)
  shared_from n body m later go h = shared_stays settings events (events ++ took (FromServer n body) m ∷ []) owed g s stage d (texts_stay settings g events (took (FromServer n body) m) refl) (heard_encoding g n body m events later) go
      (owners (took (FromServer n body) m) (λ o k. refl)) h

  pub shared_other : (n : ℕ) (body : List ℕ) (m : Message) → (is_first_result m && is_initializing (life_of n events).stage) ≡ false → nat_eq n s ≡ false → From → Goes (took (FromServer n body) m)
  shared_other n body m later other h = shared_from n body m later (start_stays s owed d events (events ++ took (FromServer n body) m ∷ []) (sent_unheard s n body m events other) stage) h

  pub shared_own : (body : List ℕ) (m : Message) → (is_first_result m && is_initializing (life_of s events).stage) ≡ false → (life_of s events).stage ≡ stage → (stage ≡ Spawning → ⊥) → From → Goes (took (FromServer s body) m)
  shared_own body m later at runs h = shared_from s body m later (start_heard s owed d events body m stage runs (ap (λ k. is_first_result m && is_initializing k) (sym at) ∙ later)) h

-- a ready start is sent the next body that it is owed
pub shared_next : (settings : Settings) (events : List Event) (body : List ℕ) (owed : List (List ℕ)) (g s : ℕ) (d : Documents) → SharedStands settings events (body ∷ owed) g s Ready d → SharedStands settings (events ++ said (ToServer s body) ∷ []) owed g s Ready d
shared_next settings events body owed g s d h = record {
  texts = record { texts = texts_told settings g s events (body ∷ []) (h.start.tell.0, tt) ∙ h.texts.texts; encoding = encoding_stays g events (said (ToServer s body)) refl ∙ h.texts.encoding; orderly = h.texts.orderly; spelt = h.texts.spelt };
  versions = h.versions;
  owned = all_owned (IsOwned settings events g) (IsOwned settings (events ++ said (ToServer s body) ∷ []) g) d.opens (λ o k. owner_stays settings events g o (said (ToServer s body)) refl k) h.owned;
  start = told_next s body owed d events h.start;
}
