-- The sync before what an editor says goes on: it is that of the events before.
use Rattle.std.proofs.Common.{◌≡◌, ℕ, Bool, true, false, ◌&&◌, List, [], ◌∷◌, ◌++◌, map, flat_map, filter, nat_eq, refl, ap, ap₂, sym, ◌∙◌, append-nil, append_assoc, codes, if◌then◌else◌}
use Rattle.std.specs.Prelude.{Option, Some, None}
use Rattle.std.specs.List.{AllByRecursion}
use Rattle.mux_history.specs.declared.cause.Cause.TheVariants.{FromEditor}
use Rattle.mux_history.specs.declared.out.Out.{Out}
use Rattle.mux_history.specs.declared.out.Out.TheVariants.{ToEditor, ToServer, Spawn, CloseEditor, EndServer}
use Rattle.rpc_message.specs.Message.{message_of}
use Rattle.document_model.specs.Helds.{HeldText}
use Rattle.document_model.specs.Opens.{Open}
use Rattle.document_model.specs.Sayings.{nothing, saying_of}
use Rattle.document_model.specs.Texts.{Texts}
use Rattle.event_model.specs.Event.{Event, behind, heard, requests, said, with_cause}
use Rattle.event_model.specs.Phases.{desk_of, is_served}
use Rattle.event_model.specs.Settings.{Settings}
use Rattle.event_model.proofs.Frames.{one_more}
use Rattle.mux_model.specs.Documents.{Sent, held_at, sent_behind}
use Rattle.mux_turns.specs.group_facts.specs.Why.{IsQuestion}
use Rattle.mux_turns.specs.group_facts.proofs.Same.{Same, same_held, same_questions}
use Rattle.group_words.specs.Houses.{home_of, is_home}
use Rattle.group_rows.specs.Rows.{sync_bodies, synced}
use Rattle.group_rows.specs.Texts.{texts_heard, texts_of}
use Rattle.group_rows.specs.Waiting.{worker_behind, worker_of}
use Rattle.group_rows.proofs.Frames.{texts_more}
use Rattle.mux_tables.specs.Documents.{syncing}
use Rattle.mux_editors.proofs.Runs.{still_works}

-- a sync by what a start has, said in another way
flat_same : {A B : Type 0} (f g : A → List B) → ((a : A) → f a ≡ g a) → (xs : List A) → flat_map f xs ≡ flat_map g xs
flat_same f g h [] = refl
flat_same f g h (x ∷ xs) = ap₂ (λ a b. a ++ b) (h x) (flat_same f g h xs)

sync_same : (versions e : ℕ) (h k : List ℕ → Option HeldText) (os : List Open) → ((u : List ℕ) → h u ≡ k u) → sync_bodies versions h e os ≡ sync_bodies versions k e os
sync_same versions e h k os same = flat_same (λ (o : Open). synced versions o (h o.uri)) (λ (o : Open). synced versions o (k o.uri)) (λ o. ap (synced versions o) (same o.uri)) (filter (λ (o : Open). nat_eq o.editor e) os)

-- what is open stays where editors are asked
asked_texts : (settings : Settings) (e g : ℕ) (events : List Event) (xs : List Out) → AllByRecursion (IsQuestion e) xs → texts_of settings g (behind events xs) ≡ texts_of settings g events
asked_texts settings e g events [] h = ap (texts_of settings g) (append-nil events)
asked_texts settings e g events (ToEditor n body ∷ xs) h = ap (texts_of settings g) (sym (append_assoc events (said (ToEditor n body) ∷ []) (map said xs)))
    ∙ (asked_texts settings e g (events ++ said (ToEditor n body) ∷ []) xs h.1 ∙ texts_more settings g events (said (ToEditor n body)))
asked_texts settings e g events (ToServer n body ∷ xs) h = absurd h.0
asked_texts settings e g events (Spawn n k ∷ xs) h = absurd h.0
asked_texts settings e g events (CloseEditor n ∷ xs) h = absurd h.0
asked_texts settings e g events (EndServer n ∷ xs) h = absurd h.0

module _ (settings : Settings) (before : List Event) (body : List ℕ) (e : ℕ) (xs : List Out) (asked : AllByRecursion (IsQuestion e) xs) where
  abbrev base : List Event
  base = with_cause before (FromEditor e body)

  abbrev now : List Event
  now = behind base xs

  -- editors were asked since, and nothing else was sent
  pub alike_since : Same settings now base
  alike_since = same_questions settings e base xs asked

  pub at_work : worker_of now ≡ Some e
  at_work = still_works base xs ∙ one_more worker_behind None (worker_of before) before (heard (FromEditor e body)) refl

  -- it is no `shutdown`, and says nothing of documents
  module _ (g s : ℕ) (stays : requests (codes "shutdown") (message_of body) ≡ false) (silent : saying_of (message_of body) ≡ nothing) where
    still_texts : texts_of settings g base ≡ texts_of settings g before
    still_texts = texts_more settings g before (heard (FromEditor e body)) ∙ calm (is_home g (home_of settings e before) && is_served (desk_of e before).phase) (texts_of settings g before)
      where
        calm : (b : Bool) (w : Texts) → (if b then texts_heard g before e (message_of body) w else w) ≡ w
        calm true w = rw (stays, silent) refl
        calm false w = refl

    still_held : (u : List ℕ) → held_at s u base ≡ held_at s u before
    still_held u = ap (λ (k : Sent). k.held) (one_more (sent_behind s u) _ _ before (heard (FromEditor e body)) refl)

    now_held : (u : List ℕ) → held_at s u now ≡ held_at s u before
    now_held u = same_held settings alike_since s u ∙ still_held u

    pub same_sync : syncing settings now g s e ≡ sync_bodies settings.limits.versions (λ u. held_at s u before) e (texts_of settings g before).opens
    same_sync = sync_same settings.limits.versions e (λ u. held_at s u now) (λ u. held_at s u before) (texts_of settings g now).opens now_held
        ∙ ap (λ (w : Texts). sync_bodies settings.limits.versions (λ u. held_at s u before) e w.opens) (asked_texts settings e g base xs asked ∙ still_texts)
