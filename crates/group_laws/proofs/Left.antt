-- A whole entry in which an editor leaves: what is kept of the group stands for the events behind it.
use Rattle.std.proofs.Common.{◌≡◌, ℕ, ◌<◌, ◌^◌, Bool, true, false, ◌&&◌, List, [], ◌∷◌, ◌++◌, map, codes, refl, sym, ◌∙◌, ap, ap₂, subst, append-nil}
use Rattle.std.specs.Prelude.{Option, Some, None, if◌then◌else◌}
use Rattle.std.specs.List.{AllByRecursion}
use Rattle.mux_history.specs.declared.cause.Cause.TheVariants.{FromEditor, EditorGone}
use Rattle.mux_history.specs.declared.out.Out.{Out}
use Rattle.mux_history.specs.declared.out.Out.TheVariants.{ToEditor, ToServer, CloseEditor}
use Rattle.mux_history.specs.declared.cause.Why.{Why}
use Rattle.document_model.specs.rpc_message.specs.Message.{message_of}
use Rattle.position_codec.specs.declared.Encoding.{Encoding}
use Rattle.document_model.specs.Helds.{HeldText, told}
use Rattle.document_model.specs.Sayings.{nothing, saying_of, speaks}
use Rattle.document_model.specs.Texts.{Texts, texts_behind}
use Rattle.document_model.proofs.Spoken.{AllSpeak}
use Rattle.document_laws.specs.Follows.{texts_in, told_outs}
use Rattle.event_model.specs.Event.{Event, behind, heard, requests, said, with_cause}
use Rattle.event_model.specs.Phases.{desk_of, is_served}
use Rattle.event_model.specs.Settings.{Settings}
use Rattle.event_model.proofs.Frames.{one_more}
use Rattle.event_model.proofs.Turns.{behind_more}
use Rattle.focus_switch.specs.Documents.{Documents}
use Rattle.focus_switch.specs.Rows.{leave_row}
use Rattle.group_rows.specs.mux_model.specs.Documents as starts
use Rattle.group_rows.specs.mux_model.specs.Documents.{Sent, held_at, sent_behind, sent_of, without_editor}
use Rattle.group_rows.specs.mux_model.proofs.DocumentFolds.{sent_encoding}
use Rattle.group_rows.specs.group_words.specs.Houses.{home_of, is_home}
use Rattle.group_rows.specs.Leaves as departures
use Rattle.group_rows.specs.Texts.{encoding_of, is_synced, texts_of}
use Rattle.group_rows.proofs.Frames.{encoding_stays, texts_more, texts_stay}
use Rattle.group_laws.specs.Stands.{CountsStand, HeldStands, TextsStand}
use Rattle.group_laws.proofs.Counting.{leave_counted}
use Rattle.group_laws.proofs.Counts.{SameCounts, counts_at, counts_behind, counts_more, counts_stay, counts_then, silent_uncounted}
use Rattle.group_laws.proofs.Entries.{all_told, encoding_told, first_behind, heard_sent, held_same, known_sent, texts_told}
use Rattle.group_laws.proofs.Leaving.{leave_held, leave_orderly, leave_outs, leave_silent, leave_speaks, leave_spelt, leave_stays, leave_texts}

abbrev to : ℕ → List (List ℕ) → List Out
to s bodies = map (λ b. ToServer s b) bodies

-- A body that tells of no document and goes on without a sync: a cancel, an answer.
abbrev IsQuiet : List ℕ → Type 0
IsQuiet b = (is_synced (message_of b) ≡ false) × (saying_of (message_of b) ≡ nothing)

abbrev pub AreQuiet : List (List ℕ) → Type 0
AreQuiet bodies = AllByRecursion IsQuiet bodies

quiet_texts : (settings : Settings) (g s : ℕ) (events : List Event) (bodies : List (List ℕ)) → AreQuiet bodies → texts_of settings g (behind events (to s bodies)) ≡ texts_of settings g events
quiet_texts settings g s events [] h = ap (texts_of settings g) (append-nil events)
quiet_texts settings g s events (b ∷ bodies) h = ap (texts_of settings g) (first_behind events (ToServer s b) (to s bodies))
    ∙ (quiet_texts settings g s (events ++ said (ToServer s b) ∷ []) bodies h.1 ∙ texts_stay settings g events (said (ToServer s b)) h.0.0)

quiet_told : (s : ℕ) (u : List ℕ) (code : Encoding) (h : Option HeldText) (bodies : List (List ℕ)) → AreQuiet bodies → told_outs (Some code) u h (to s bodies) ≡ h
quiet_told s u code h [] q = refl
quiet_told s u code h (b ∷ bodies) q = ap (λ x. told_outs (Some code) u (told (Some code) u h x) (to s bodies)) q.0.1 ∙ quiet_told s u code h bodies q.1

quiet_counts : (s : ℕ) (events : List Event) (bodies : List (List ℕ)) → AreQuiet bodies → SameCounts s events (behind events (to s bodies))
quiet_counts s events [] h = counts_at s events (behind events []) (append-nil events)
quiet_counts s events (b ∷ bodies) h =
    let more : List Event = events ++ said (ToServer s b) ∷ [] in
    subst (SameCounts s events) (sym (first_behind events (ToServer s b) (to s bodies)))
    (counts_then s events more (behind more (to s bodies)) (counts_more s events (said (ToServer s b)) (silent_uncounted s s b (message_of b) (ap speaks h.0.1))) (quiet_counts s more bodies h.1))

module _ (settings : Settings) (g e : ℕ) (d : Documents) (before mid : List Event) (texts : TextsStand settings g d before)
    (removed : texts_of settings g mid ≡ without_editor e (texts_of settings g before)) (kept : encoding_of g mid ≡ encoding_of g before) where
  removed_texts : texts_of settings g mid ≡ texts_in (leave_row e d).after
  removed_texts = removed ∙ (ap (without_editor e) texts.texts ∙ sym (leave_texts e d))

  kept_encoding : encoding_of g mid ≡ (leave_row e d).after.encoding
  kept_encoding = kept ∙ (texts.encoding ∙ sym (leave_stays e d).encoding)

  stands_at : (events : List Event) → texts_of settings g events ≡ texts_of settings g mid → encoding_of g events ≡ encoding_of g mid → TextsStand settings g (leave_row e d).after events
  stands_at events a b = record {
    texts = a ∙ removed_texts;
    encoding = b ∙ kept_encoding;
    orderly = leave_orderly e d texts.orderly;
    spelt = leave_spelt e d texts.spelt;
  }

  -- where no start is ready nothing is sent, and its documents end all the same
  pub left_unready : d.start ≡ None → TextsStand settings g (leave_row e d).after (behind mid (leave_row e d).outs)
  left_unready h = let same : behind mid (leave_row e d).outs ≡ mid = ap (behind mid) (leave_silent e d h) ∙ append-nil mid in
      stands_at (behind mid (leave_row e d).outs) (ap (texts_of settings g) same) (ap (encoding_of g) same)

  module _ (s : ℕ) (code : Encoding) (quiet : List (List ℕ)) (few : d.versions < 2 ^ 32) (still : AreQuiet quiet) (holds : HeldStands s code d before)
      (sent : (u : List ℕ) → sent_of s u mid ≡ record { encoding = Some code; held = held_at s u before }) (counts : SameCounts s before mid) where
    abbrev bodies : List (List ℕ)
    bodies = departures.leave_bodies d.versions (λ u. held_at s u before) e d.opens d.opens

    abbrev row_outs : List Out
    row_outs = to s quiet ++ (leave_row e d).outs

    abbrev later : List Event
    later = behind mid (to s quiet)

    outs_is : (leave_row e d).outs ≡ to s bodies
    outs_is = leave_outs s e code d (λ u. held_at s u before) holds.start holds.known few holds.held texts.orderly texts.spelt

    all_behind : behind mid row_outs ≡ behind later (to s bodies)
    all_behind = behind_more mid (to s quiet) (leave_row e d).outs ∙ ap (behind later) outs_is

    speak : AllSpeak bodies
    speak = leave_speaks s e code d (λ u. held_at s u before) holds.start holds.known few holds.held texts.orderly texts.spelt

    pub left_texts : TextsStand settings g (leave_row e d).after (behind mid row_outs)
    left_texts = stands_at (behind mid row_outs) (ap (texts_of settings g) all_behind ∙ (texts_told settings g s later bodies speak ∙ quiet_texts settings g s mid quiet still))
        (ap (encoding_of g) all_behind ∙ (encoding_told g s later bodies ∙ encoding_told g s mid quiet))

    later_sent : (u : List ℕ) → sent_of s u later ≡ record { encoding = Some code; held = held_at s u before }
    later_sent u = all_told s u code (held_at s u before) quiet mid (sent u) ∙ ap (λ h. record { encoding = Some code; held = h }) (quiet_told s u code (held_at s u before) quiet still)

    last_sent : (u : List ℕ) → sent_of s u (behind mid row_outs) ≡ record { encoding = Some code; held = told_outs (Some code) u (held_at s u before) (to s bodies) }
    last_sent u = ap (sent_of s u) all_behind ∙ all_told s u code (held_at s u before) bodies later (later_sent u)

    pub left_held : HeldStands s code (leave_row e d).after (behind mid row_outs)
    left_held = record {
      start = (leave_stays e d).start ∙ holds.start;
      known = (leave_stays e d).encoding ∙ holds.known;
      given = sym (sent_encoding s [] (behind mid row_outs)) ∙ ap (λ (x : Sent). x.encoding) (last_sent []);
      held = held_same (leave_row e d).after (λ u. told_outs d.encoding u (held_at s u before) (leave_row e d).outs) (λ u. held_at s u (behind mid row_outs))
          (λ u. ap₂ (λ c xs. told_outs c u (held_at s u before) xs) holds.known outs_is ∙ sym (ap (λ (x : Sent). x.held) (last_sent u)))
          (leave_held s e code d (λ u. held_at s u before) holds.start holds.known few holds.held texts.orderly texts.spelt);
      counts = subst (CountsStand s (leave_row e d).after) (sym (behind_more mid (to s quiet) (leave_row e d).outs))
          (counts_behind s d (leave_row e d).after (leave_row e d).outs later (leave_counted s e d holds.start few texts.spelt)
          (counts_stay s d before later (counts_then s before mid later counts (quiet_counts s mid quiet still)) holds.counts));
    }

    -- its outs are the row's
    pub left_outs : d.versions ≡ settings.limits.versions → (leave_row e d).outs ≡ map (λ b. ToServer s b) (departures.leave_bodies settings.limits.versions (λ u. held_at s u before) e (texts_of settings g before).opens (texts_of settings g before).opens)
    left_outs same = outs_is ∙ ap₂ (λ m (x : Texts). map (λ b. ToServer s b) (departures.leave_bodies m (λ u. held_at s u before) e x.opens x.opens)) same (sym texts.texts)

-- X5: its link is lost
module _ (settings : Settings) (g e : ℕ) (why : Why) (before : List Event) where
  abbrev pub after_loss : List Event
  after_loss = with_cause before (EditorGone e why)

  pub lost_texts : texts_of settings g after_loss ≡ without_editor e (texts_of settings g before)
  lost_texts = texts_more settings g before (heard (EditorGone e why))

  pub lost_encoding : encoding_of g after_loss ≡ encoding_of g before
  lost_encoding = encoding_stays g before (heard (EditorGone e why)) refl

  pub lost_sent : (s : ℕ) (code : Encoding) (u : List ℕ) → starts.encoding_of s before ≡ Some code → sent_of s u after_loss ≡ record { encoding = Some code; held = held_at s u before }
  lost_sent s code u h = one_more (sent_behind s u) _ _ before (heard (EditorGone e why)) (known_sent s u code before h)

  pub lost_counts : (s : ℕ) → SameCounts s before after_loss
  lost_counts s = counts_more s before (heard (EditorGone e why)) refl

-- E9: its `shutdown` is answered
module _ (settings : Settings) (g e : ℕ) (body answer : List ℕ) (before : List Event) (home : is_home g (home_of settings e before) ≡ true) (served : is_served (desk_of e before).phase ≡ true) (asks : requests (codes "shutdown") (message_of body) ≡ true) where
  abbrev asked : List Event
  asked = with_cause before (FromEditor e body)

  abbrev pub after_answer : List Event
  after_answer = asked ++ said (ToEditor e answer) ∷ []

  pub shut_texts : texts_of settings g after_answer ≡ without_editor e (texts_of settings g before)
  shut_texts = texts_stay settings g asked (said (ToEditor e answer)) refl ∙ (texts_more settings g before (heard (FromEditor e body)) ∙ rw (home, served, asks) refl)

  pub shut_encoding : encoding_of g after_answer ≡ encoding_of g before
  shut_encoding = encoding_stays g asked (said (ToEditor e answer)) refl ∙ encoding_stays g before (heard (FromEditor e body)) refl

  pub shut_sent : (s : ℕ) (code : Encoding) (u : List ℕ) → starts.encoding_of s before ≡ Some code → sent_of s u after_answer ≡ record { encoding = Some code; held = held_at s u before }
  shut_sent s code u h = one_more (sent_behind s u) _ _ asked (said (ToEditor e answer)) (heard_sent s e u body code (held_at s u before) before (known_sent s u code before h))

  pub shut_counts : (s : ℕ) → SameCounts s before after_answer
  shut_counts s = counts_then s before asked after_answer (counts_more s before (heard (FromEditor e body)) refl) (counts_more s asked (said (ToEditor e answer)) refl)

-- its `exit`: its session is closed
module _ (settings : Settings) (g e : ℕ) (body : List ℕ) (before : List Event) (silent : saying_of (message_of body) ≡ nothing) (other : requests (codes "shutdown") (message_of body) ≡ false) where
  abbrev ended : List Event
  ended = with_cause before (FromEditor e body)

  abbrev pub after_close : List Event
  after_close = ended ++ said (CloseEditor e) ∷ []

  said_nothing : texts_of settings g ended ≡ texts_of settings g before
  said_nothing = texts_more settings g before (heard (FromEditor e body)) ∙ go (is_home g (home_of settings e before) && is_served (desk_of e before).phase)
    where
      go : (b : Bool) → (if b then (if requests (codes "shutdown") (message_of body) then without_editor e (texts_of settings g before) else texts_behind (encoding_of g before) e (saying_of (message_of body)) (texts_of settings g before)) else texts_of settings g before) ≡ texts_of settings g before
      go true = rw (other, silent) refl
      go false = refl

  pub exit_texts : texts_of settings g after_close ≡ without_editor e (texts_of settings g before)
  exit_texts = texts_more settings g ended (said (CloseEditor e)) ∙ ap (without_editor e) said_nothing

  pub exit_encoding : encoding_of g after_close ≡ encoding_of g before
  exit_encoding = encoding_stays g ended (said (CloseEditor e)) refl ∙ encoding_stays g before (heard (FromEditor e body)) refl

  pub exit_sent : (s : ℕ) (code : Encoding) (u : List ℕ) → starts.encoding_of s before ≡ Some code → sent_of s u after_close ≡ record { encoding = Some code; held = held_at s u before }
  exit_sent s code u h = one_more (sent_behind s u) _ _ ended (said (CloseEditor e)) (heard_sent s e u body code (held_at s u before) before (known_sent s u code before h))

  pub exit_counts : (s : ℕ) → SameCounts s before after_close
  exit_counts s = counts_then s before ended after_close (counts_more s before (heard (FromEditor e body)) refl) (counts_more s ended (said (CloseEditor e)) refl)
