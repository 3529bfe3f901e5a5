-- Where a request was sent on, its start had the editor's own texts.
use Rattle.std.proofs.Common.{◌≡◌, ℕ, not, List, [], ◌∷◌, ◌++◌, map, refl, sym, ◌∙◌, ap, subst, append_assoc, append-nil, ap₂}
use Rattle.std.specs.Prelude.{Option, Some, None}
use Rattle.std.specs.Option.{option_map_or, option_map}
use Rattle.mux_history.specs.declared.cause.Cause.{Cause}
use Rattle.mux_history.specs.declared.cause.Cause.TheVariants.{Joined, FromEditor, EditorGone, Started, StartFailed, FromServer, ServerGone, Drained, Tick}
use Rattle.mux_history.specs.declared.entry.Entry.{Entry}
use Rattle.mux_history.specs.declared.out.Out.{Out}
use Rattle.mux_history.specs.declared.out.Out.TheVariants.{ToEditor, ToServer, Spawn, CloseEditor, EndServer}
use Rattle.document_model.specs.Opens.{Open}
use Rattle.document_model.specs.Rows.{Agrees}
use Rattle.document_model.specs.Texts.{found, no_texts}
use Rattle.event_model.specs.Event.{Event, did, events_of, heard, said, took, with_cause, behind}
use Rattle.event_model.specs.Settings.{Settings}
use Rattle.event_model.specs.Spawns.{group_of}
use Rattle.mux_facts.proofs.Keeps.{events_more}
use Rattle.mux_model.specs.Documents.{held_at}
use Rattle.group_rows.specs.Texts.{is_synced, texts_of, toucher, toucher_of}
use Rattle.group_rows.specs.held_requests.specs.declared.request.Request.{Request}
use Rattle.group_rows.specs.Waiting.{worker_of, first_waiting}
use Rattle.group_facts.specs.OwnTexts.{AllOnOwnTexts, HasOwn, OnOwnTexts, OwnTexts, OwnTextsFrom}
use Rattle.group_facts.specs.OwnVersions.{HasOwnTexts, IsSentOn, IsUnder, SendingOn, by_result, by_message}
use Rattle.group_facts.proofs.SentOn.{worker_still, worker_idle}
use Rattle.rpc_message.specs.Message.{message_of}

-- the events of these entries, behind others
events_in : List Entry → List Event
events_in [] = []
events_in (entry ∷ rest) = heard entry.cause ∷ (map said entry.outs ++ events_in rest)

events_both : (before rest : List Entry) → events_of (before ++ rest) ≡ events_of before ++ events_in rest
unfolding events_in
events_both before [] = ap events_of (append-nil before) ∙ sym (append-nil (events_of before))
events_both before (entry ∷ rest) = ap events_of (sym (append_assoc before (entry ∷ []) rest)) ∙ events_both (before ++ entry ∷ []) rest
    ∙ ap (λ z. z ++ events_in rest) (events_more before entry)
    ∙ append_assoc (with_cause (events_of before) entry.cause) (map said entry.outs) (events_in rest)
    ∙ append_assoc (events_of before) (heard entry.cause ∷ []) (map said entry.outs ++ events_in rest)

-- a cause is no out, and an out is itself
out_of : Event → Option Out
out_of (did out m) = Some out
out_of (took cause m) = None

heard_out : (cause : Cause) → out_of (heard cause) ≡ None
unfolding out_of
heard_out (FromEditor e body) = refl
heard_out (FromServer s body) = refl
heard_out (Joined e) = refl
heard_out (EditorGone e why) = refl
heard_out (Started s) = refl
heard_out (StartFailed s) = refl
heard_out (ServerGone s) = refl
heard_out (Drained e k) = refl
heard_out (Tick t) = refl

said_out : (out : Out) → out_of (said out) ≡ Some out
unfolding out_of
said_out (ToEditor e body) = refl
said_out (ToServer s body) = refl
said_out (Spawn s g) = refl
said_out (CloseEditor e) = refl
said_out (EndServer s) = refl

the_out : {a b : Out} → ◌≡◌ {A = Option Out} (Some a) (Some b) → a ≡ b
the_out h = cc

first_same : {x y : Event} {xs ys : List Event} → x ∷ xs ≡ y ∷ ys → x ≡ y
first_same h = cc

rest_same : {x y : Event} {xs ys : List Event} → x ∷ xs ≡ y ∷ ys → xs ≡ ys
rest_same h = cc

module _ (settings : Settings) (s : ℕ) (body : List ℕ) where
  abbrev Here : List Event → Type 0
  Here events = OnOwnTexts settings events (ToServer s body)

  -- among these outs, or behind them
  own_among : (after xs : List Event) → ((m later : List Event) → xs ≡ m ++ said (ToServer s body) ∷ later → Here (after ++ m)) → (done : List Event) (outs : List Out) → after ≡ done ++ map said outs → AllOnOwnTexts settings done outs
      → (m later : List Event) → map said outs ++ xs ≡ m ++ said (ToServer s body) ∷ later → Here (done ++ m)
  own_among after xs behind done [] now all m later e = subst (λ z. Here (z ++ m)) (now ∙ append-nil done) (behind m later e)
  own_among after xs behind done (out ∷ outs) now all [] later e =
      let same : out ≡ ToServer s body = the_out (sym (said_out out) ∙ ap out_of (first_same e) ∙ said_out (ToServer s body)) in
      subst Here (sym (append-nil done)) (subst (OnOwnTexts settings done) same all.0)
  own_among after xs behind done (out ∷ outs) now all (x ∷ m) later e =
      subst Here (append_assoc done (said out ∷ []) m ∙ ap (λ z. done ++ z ∷ m) (first_same e))
      (own_among after xs behind (done ++ said out ∷ []) outs (now ∙ sym (append_assoc done (said out ∷ []) (map said outs))) all.1 m later (rest_same e))

  -- behind these entries
  own_in : (before rest : List Entry) → OwnTextsFrom settings before rest → (m later : List Event) → events_in rest ≡ m ++ said (ToServer s body) ∷ later → Here (events_of before ++ m)
  unfolding events_in
  own_in before [] own [] later e = absurd (cc)
  own_in before [] own (x ∷ m) later e = absurd (cc)
  own_in before (entry ∷ rest) own [] later e = absurd (let clash : ◌≡◌ {A = Option Out} None (Some (ToServer s body)) = sym (heard_out entry.cause) ∙ ap out_of (first_same e) ∙ said_out (ToServer s body) in cc)
  own_in before (entry ∷ rest) own (x ∷ m) later e =
      subst Here (append_assoc (events_of before) (heard entry.cause ∷ []) m ∙ ap (λ z. events_of before ++ z ∷ m) (first_same e))
      (own_among (events_of (before ++ entry ∷ [])) (events_in rest) (own_in (before ++ entry ∷ []) rest own.2) (with_cause (events_of before) entry.cause) entry.outs (events_more before entry) own.0 m later (rest_same e))

  own_at : (history : List Entry) → OwnTexts settings history → (moment later : List Event) → events_of history ≡ moment ++ said (ToServer s body) ∷ later → OnOwnTexts settings moment (ToServer s body)
  own_at history own moment later e = own_in [] history own moment later (sym (events_both [] history) ∙ e)

pub moment_own : (settings : Settings) (history : List Entry) → OwnTexts settings history → (s n e : ℕ) (id : List ℕ) (events later : List Event) → events_of history ≡ events ++ later → (k : IsSentOn settings s events n e id) → HasOwnTexts settings s e k.moment
moment_own settings history own s n e id events later whole k = by_group (group_of s k.moment) refl
  where
    here : OnOwnTexts settings k.moment (ToServer s k.body)
    here = own_at settings s k.body history own k.moment (k.later ++ later) (whole ∙ ap (λ z. z ++ later) k.place ∙ append_assoc k.moment (said (ToServer s k.body) ∷ k.later) later)

    touches : SendingOn settings s e k.asked k.moment → toucher_of settings s k.moment (message_of k.body) ≡ Some e
    touches (by_message before outs at) = ap (λ w. toucher w (message_of k.body) (first_waiting settings s k.moment)) (ap worker_of at ∙ worker_still before e k.asked outs)
    touches (by_result before answer outs r at first editor body) = ap₂ (λ w m. toucher w m (first_waiting settings s k.moment)) (ap worker_of at ∙ worker_idle before s answer outs) k.says
        ∙ (ap (option_map (λ (q : Request). q.editor)) first ∙ ap (λ n. Some n) editor)

    by_group : (g : Option ℕ) → group_of s k.moment ≡ g → (u : List ℕ) (o : Open) → found e u (option_map_or (λ g. texts_of settings g k.moment) g no_texts) ≡ Some o → HasOwn o (held_at s u k.moment)
    by_group (Some g) home u o opened = here (ap is_synced k.says ∙ ap not k.other) e g (touches k.sending) home u o opened
    by_group None home u o opened = absurd (cc)

-- what an editor has open there, and its start has, is one text
pub own_agrees : (settings : Settings) (s e : ℕ) (events : List Event) (u digits : List ℕ) → HasOwnTexts settings s e events → (k : IsUnder settings s e events u digits) → Agrees k.own k.held
own_agrees settings s e events u digits own k = subst (HasOwn k.own) k.has (own u k.own k.opened)
