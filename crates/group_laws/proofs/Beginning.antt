-- S2: a start gives its first result, is told of each document that is open, and what is kept of the group stands for the events behind it.
use Rattle.std.proofs.Common.{◌≡◌, ℕ, Bool, true, false, cond, List, [], ◌∷◌, ◌++◌, map, refl, sym, ◌∙◌, ap, subst, append-nil, arith}
use Rattle.std.specs.Prelude.{Option, Some, None, bytes_eq}
use Rattle.std.specs.List.{AllByRecursion, list_any}
use Rattle.std.specs.Option.{option_map_or}
use Rattle.mux_history.specs.declared.cause.Cause.TheVariants.{FromServer}
use Rattle.mux_history.specs.declared.out.Out.{Out}
use Rattle.mux_history.specs.declared.out.Out.TheVariants.{ToEditor, ToServer}
use Rattle.document_model.specs.rpc_message.specs.Message.{message_of}
use Rattle.position_codec.specs.declared.Encoding.{Encoding}
use Rattle.document_model.specs.Helds.{HeldText}
use Rattle.document_model.specs.Bodies.{open_text}
use Rattle.document_model.specs.Opens.{Open, holder}
use Rattle.document_model.specs.Orderly.{AllSpelt, Orderly}
use Rattle.document_model.specs.Sayings.{nothing, saying_of, speaks}
use Rattle.document_model.specs.Texts.{Texts}
use Rattle.document_model.proofs.Spoken.{AllSpeak, sent_open_speaks}
use Rattle.document_model.proofs.Spelt.{latest_spelt}
use Rattle.document_laws.specs.Follows.{texts_in, told_outs}
use Rattle.event_model.specs.Event.{Event, behind, heard, said, with_cause}
use Rattle.event_model.specs.Settings.{Settings}
use Rattle.event_model.specs.Spawns.{group_of}
use Rattle.event_model.specs.Stages.{is_initializing, life_of}
use Rattle.event_model.proofs.Frames.{one_more}
use Rattle.event_model.proofs.Turns.{behind_more}
use Rattle.focus_switch.specs.Documents.{Documents}
use Rattle.focus_switch.specs.Rows.{ready_row}
use Rattle.group_rows.specs.mux_model.specs.Documents.{Sent, encoding_by, held_at, sent_behind, sent_of}
use Rattle.group_rows.specs.mux_model.proofs.DocumentFolds.{sent_encoding}
use Rattle.group_rows.specs.Lists.{sayings_of}
use Rattle.group_rows.specs.Texts.{encoding_of, is_synced, texts_of}
use Rattle.group_rows.specs.Rows as rows
use Rattle.group_rows.proofs.Frames.{encoding_more, encoding_stays, texts_stay}
use Rattle.group_laws.specs.Stands.{CountsStand, HeldStands, TextsStand}
use Rattle.group_laws.proofs.Counting.{ready_counts}
use Rattle.group_laws.proofs.Counts.{SameCounts, counts_at, counts_more, counts_stay, counts_then, silent_uncounted}
use Rattle.group_laws.proofs.Entries.{all_told, encoding_told, first_behind, held_same, itself, texts_told}
use Rattle.group_laws.proofs.ReplayHeld.{ready_held}
use Rattle.group_laws.proofs.Replaying.{ready_outs, ready_stays, ready_texts}

-- bodies to editors
abbrev IsTelling : Out → Type 0
IsTelling (ToEditor e body) = Unit {0}
IsTelling other = ⊥

abbrev pub AreTellings : List Out → Type 0
AreTellings xs = AllByRecursion IsTelling xs

texts_tell : (settings : Settings) (g : ℕ) (events : List Event) (xs : List Out) → AreTellings xs → texts_of settings g (behind events xs) ≡ texts_of settings g events
texts_tell settings g events [] h = ap (texts_of settings g) (append-nil events)
texts_tell settings g events (ToEditor e body ∷ xs) h = ap (texts_of settings g) (first_behind events (ToEditor e body) xs)
    ∙ (texts_tell settings g (events ++ said (ToEditor e body) ∷ []) xs h.1 ∙ texts_stay settings g events (said (ToEditor e body)) refl)
texts_tell settings g events (other ∷ xs) h = absurd h.0

encoding_tell : (g : ℕ) (events : List Event) (xs : List Out) → AreTellings xs → encoding_of g (behind events xs) ≡ encoding_of g events
encoding_tell g events [] h = ap (encoding_of g) (append-nil events)
encoding_tell g events (ToEditor e body ∷ xs) h = ap (encoding_of g) (first_behind events (ToEditor e body) xs)
    ∙ (encoding_tell g (events ++ said (ToEditor e body) ∷ []) xs h.1 ∙ encoding_stays g events (said (ToEditor e body)) refl)
encoding_tell g events (other ∷ xs) h = absurd h.0

sent_tell : (s : ℕ) (u : List ℕ) (code : Encoding) (k : Option HeldText) (events : List Event) (xs : List Out) → AreTellings xs → sent_of s u events ≡ record { encoding = Some code; held = k } → sent_of s u (behind events xs) ≡ record { encoding = Some code; held = k }
sent_tell s u code k events [] h e = ap (sent_of s u) (append-nil events) ∙ e
sent_tell s u code k events (ToEditor n body ∷ xs) h e = ap (sent_of s u) (first_behind events (ToEditor n body) xs)
    ∙ sent_tell s u code k (events ++ said (ToEditor n body) ∷ []) xs h.1 (one_more (sent_behind s u) _ _ events (said (ToEditor n body)) e)
sent_tell s u code k events (other ∷ xs) h e = absurd h.0

counts_tell : (s : ℕ) (events : List Event) (xs : List Out) → AreTellings xs → SameCounts s events (behind events xs)
counts_tell s events [] h = counts_at s events (behind events []) (append-nil events)
counts_tell s events (ToEditor e body ∷ xs) h =
    let more : List Event = events ++ said (ToEditor e body) ∷ [] in
    subst (SameCounts s events) (sym (first_behind events (ToEditor e body) xs)) (counts_then s events more (behind more xs) (counts_more s events (said (ToEditor e body)) refl) (counts_tell s more xs h.1))
counts_tell s events (other ∷ xs) h = absurd h.0

-- the bodies of a replay tell of documents
pub replay_speaks : (told : List (List ℕ)) (all os : List Open) → AllSpelt all → AllSpeak (rows.replay_bodies told all os)
replay_speaks told all [] spelt = tt
replay_speaks told all (o ∷ os) spelt = go (list_any (bytes_eq o.uri) told) (holder o.uri all) refl (replay_speaks told all os spelt) (replay_speaks (o.uri ∷ told) all os spelt)
  where
    go : (b : Bool) (q : Option Open) → holder o.uri all ≡ q → AllSpeak (rows.replay_bodies told all os) → AllSpeak (rows.replay_bodies (o.uri ∷ told) all os)
        → AllSpeak (cond b (rows.replay_bodies told all os) (option_map_or (λ (h : Open). open_text h.uri h.language h.text ∷ []) q [] ++ rows.replay_bodies (o.uri ∷ told) all os))
    go true q e same more = same
    go false None e same more = more
    go false (Some h) e same more = ((sent_open_speaks 0 h None (omega arith) (latest_spelt (λ p. bytes_eq p.uri o.uri) all h spelt e)).0, more)

module _ (settings : Settings) (g s : ℕ) (code : Encoding) (before : List Event) (body first : List ℕ) (d : Documents) (tells : List Out)
    (there : group_of s before ≡ Some g) (begins : is_initializing (life_of s before).stage ≡ true) (gives : encoding_by (message_of body) ≡ Some code)
    (fresh : (u : List ℕ) → sent_of s u before ≡ record { encoding = None; held = None }) (unsaid : sayings_of s before ≡ 0) (says : saying_of (message_of first) ≡ nothing) (aside : is_synced (message_of first) ≡ false)
    (telling : AreTellings tells) (texts : TextsStand settings g d before) where
  abbrev bodies : List (List ℕ)
  bodies = rows.replay_bodies [] d.opens d.opens

  abbrev row_outs : List Out
  row_outs = ToServer s first ∷ ((ready_row s code d).outs ++ tells)

  abbrev after_cause : List Event
  after_cause = with_cause before (FromServer s body)

  abbrev after_first : List Event
  after_first = after_cause ++ said (ToServer s first) ∷ []

  abbrev mid : List Event
  mid = behind after_first (map (λ b. ToServer s b) bodies)

  outs_is : (ready_row s code d).outs ≡ map (λ b. ToServer s b) bodies
  outs_is = ready_outs s code d texts.orderly.once

  all_behind : behind after_cause row_outs ≡ behind mid tells
  all_behind = first_behind after_cause (ToServer s first) ((ready_row s code d).outs ++ tells) ∙ (behind_more after_first (ready_row s code d).outs tells ∙ ap (λ xs. behind (behind after_first xs) tells) outs_is)

  speak : AllSpeak bodies
  speak = replay_speaks [] d.opens d.opens texts.spelt

  begun_texts_of : texts_of settings g (behind after_cause row_outs) ≡ texts_in d
  begun_texts_of = ap (texts_of settings g) all_behind ∙ (texts_tell settings g mid tells telling ∙ (texts_told settings g s after_first bodies speak
      ∙ (texts_stay settings g after_cause (said (ToServer s first)) aside ∙ (texts_stay settings g before (heard (FromServer s body)) refl ∙ texts.texts))))

  heard_encoding : encoding_of g after_cause ≡ Some code
  heard_encoding = encoding_more g before (heard (FromServer s body)) ∙ rw (there, itself g, begins, gives) refl

  pub begun_texts : TextsStand settings g (ready_row s code d).after (behind after_cause row_outs)
  begun_texts = record {
    texts = begun_texts_of ∙ sym (ready_texts s code d);
    encoding = ap (encoding_of g) all_behind ∙ (encoding_tell g mid tells telling ∙ (encoding_told g s after_first bodies ∙ (encoding_stays g after_cause (said (ToServer s first)) refl ∙ (heard_encoding ∙ sym (ready_stays s code d).encoding))));
    orderly = subst Orderly (sym (ready_texts s code d)) texts.orderly;
    spelt = subst (λ (x : Texts). AllSpelt x.opens) (sym (ready_texts s code d)) texts.spelt;
  }

  heard_sent : (u : List ℕ) → sent_of s u after_cause ≡ record { encoding = Some code; held = None }
  heard_sent u = one_more (sent_behind s u) _ _ before (heard (FromServer s body)) (fresh u) ∙ rw (itself s, gives) refl

  first_sent : (u : List ℕ) → sent_of s u after_first ≡ record { encoding = Some code; held = None }
  first_sent u = one_more (sent_behind s u) _ _ after_cause (said (ToServer s first)) (heard_sent u) ∙ rw (itself s, says) refl

  last_sent : (u : List ℕ) → sent_of s u (behind after_cause row_outs) ≡ record { encoding = Some code; held = told_outs (Some code) u None (map (λ b. ToServer s b) bodies) }
  last_sent u = ap (sent_of s u) all_behind ∙ sent_tell s u code (told_outs (Some code) u None (map (λ b. ToServer s b) bodies)) mid tells telling (all_told s u code None bodies after_first (first_sent u))

  first_counts : SameCounts s before after_first
  first_counts = counts_then s before after_cause after_first (counts_more s before (heard (FromServer s body)) refl) (counts_more s after_cause (said (ToServer s first)) (silent_uncounted s s first (message_of first) (ap speaks says)))

  last_counts : CountsStand s (ready_row s code d).after (behind after_cause row_outs)
  last_counts =
      let told : List Event = behind after_first (ready_row s code d).outs in
      subst (CountsStand s (ready_row s code d).after) (sym (first_behind after_cause (ToServer s first) ((ready_row s code d).outs ++ tells) ∙ behind_more after_first (ready_row s code d).outs tells))
      (counts_stay s (ready_row s code d).after told (behind told tells) (counts_tell s told tells telling) (ready_counts s code d after_first texts.spelt (first_counts.sayings ∙ unsaid)))

  pub begun_held : HeldStands s code (ready_row s code d).after (behind after_cause row_outs)
  begun_held = record {
    start = (ready_stays s code d).start;
    known = (ready_stays s code d).encoding;
    given = sym (sent_encoding s [] (behind after_cause row_outs)) ∙ ap (λ (x : Sent). x.encoding) (last_sent []);
    held = held_same (ready_row s code d).after (λ u. told_outs (Some code) u None (ready_row s code d).outs) (λ u. held_at s u (behind after_cause row_outs))
        (λ u. ap (told_outs (Some code) u None) outs_is ∙ sym (ap (λ (x : Sent). x.held) (last_sent u))) (ready_held s code d texts.orderly.once texts.spelt);
    counts = last_counts;
  }
