-- Where a message of an editor goes on behind a sync, the start has of each document that is open there the editor's own text in its language.
use Rattle.std.proofs.Common.{◌≡◌, ℕ, ◌<◌, ◌^◌, Bool, true, false, ◌&&◌, List, find, codes, refl, sym, ◌∙◌, ap, ap₂, subst, if◌then◌else◌}
use Rattle.std.specs.Prelude.{Option, Some, None}
use Rattle.mux_history.specs.declared.cause.Cause.TheVariants.{FromEditor}
use Rattle.document_model.specs.rpc_message.specs.Message.{message_of}
use Rattle.position_codec.specs.declared.Encoding.{Encoding}
use Rattle.document_model.specs.Helds.{HeldText}
use Rattle.document_model.specs.Opens.{Open, holder, is_open_at}
use Rattle.document_model.specs.Rows.{Agrees}
use Rattle.document_model.specs.Sayings.{Saying, opens, changes, closes, misshapen, nothing, saying_of, speaks}
use Rattle.document_model.specs.Texts.{Texts, found, texts_behind}
use Rattle.document_model.proofs.Spoken.{AllSpeak}
use Rattle.document_laws.specs.Follows.{Held, Matches, texts_in, told_outs}
use Rattle.event_model.specs.Event.{Event, behind, heard, requests, with_cause}
use Rattle.event_model.specs.Phases.{desk_of, is_served}
use Rattle.event_model.specs.Settings.{Settings}
use Rattle.event_model.proofs.Frames.{never}
use Rattle.focus_switch.specs.Documents.{Documents, version_held}
use Rattle.focus_switch.specs.Rows.{sync_row}
use Rattle.group_rows.specs.mux_model.specs.Documents.{Sent, held_at}
use Rattle.group_rows.specs.group_words.specs.Houses.{home_of, is_home}
use Rattle.group_rows.specs.Rows as rows
use Rattle.group_rows.specs.Texts.{encoding_of, texts_heard, texts_of}
use Rattle.group_rows.proofs.Frames.{texts_more}
use Rattle.group_laws.specs.Stands.{HeldStands, TextsStand}
use Rattle.group_laws.proofs.Asking.{sync_speaks, to}
use Rattle.group_laws.proofs.Entries.{all_told, heard_sent, known_sent, texts_told}
use Rattle.group_laws.proofs.Syncing.{sync_outs, sync_texts}
use Rattle.group_laws.proofs.SyncHeld.{sync_held}
use Rattle.group_laws.proofs.Touching.{holder_touched}

-- what speaks of no document changes none
silent_stays : (code : Option Encoding) (e : ℕ) (y : Saying) (x : Texts) → speaks y ≡ false → texts_behind code e y x ≡ x
silent_stays code e (opens u l v t) x h = never h
silent_stays code e (changes u v cs) x h = never h
silent_stays code e (closes u) x h = never h
silent_stays code e misshapen x h = never h
silent_stays code e nothing x h = refl

module _ (settings : Settings) (g s e : ℕ) (code : Encoding) (before : List Event) (asked : List ℕ) (d : Documents)
    (stays : requests (codes "shutdown") (message_of asked) ≡ false) (silent : speaks (saying_of (message_of asked)) ≡ false)
    (same : d.versions ≡ settings.limits.versions) (small : d.versions < 2 ^ 32) (texts : TextsStand settings g d before) (holds : HeldStands s code d before) where
  abbrev held : List ℕ → Option HeldText
  held u = held_at s u before

  abbrev was : Texts
  was = texts_of settings g before

  abbrev bodies : List (List ℕ)
  bodies = rows.sync_bodies settings.limits.versions held e was.opens

  abbrev now : List Event
  now = with_cause before (FromEditor e asked)

  abbrev mid : List Event
  mid = behind now (to s bodies)

  bodies_are : rows.sync_bodies d.versions held e d.opens ≡ bodies
  bodies_are = ap₂ (λ n (x : Texts). rows.sync_bodies n held e x.opens) same (sym texts.texts)

  outs_are : (sync_row e d).outs ≡ to s bodies
  outs_are = sync_outs s e d held holds.start holds.held texts.orderly.once ∙ ap (to s) bodies_are

  heard_texts : texts_of settings g now ≡ was
  heard_texts = texts_more settings g before (heard (FromEditor e asked)) ∙ either (is_home g (home_of settings e before) && is_served (desk_of e before).phase)
    where
      said : (b : Bool) → requests (codes "shutdown") (message_of asked) ≡ b → b ≡ false → texts_heard g before e (message_of asked) was ≡ was
      said true is h = never h
      said false is h = rw is (silent_stays (encoding_of g before) e (saying_of (message_of asked)) was silent)

      either : (b : Bool) → (if b then texts_heard g before e (message_of asked) was else was) ≡ was
      either true = said (requests (codes "shutdown") (message_of asked)) refl stays
      either false = refl

  speak : AllSpeak bodies
  speak = subst AllSpeak bodies_are (sync_speaks d.versions e held d.opens small texts.spelt)

  mid_texts : texts_of settings g mid ≡ texts_in d
  mid_texts = texts_told settings g s now bodies speak ∙ (heard_texts ∙ texts.texts)

  mid_held : (u : List ℕ) → held_at s u mid ≡ told_outs d.encoding u (held u) (sync_row e d).outs
  mid_held u = ap (λ (x : Sent). x.held) (all_told s u code (held u) bodies now (heard_sent s e u asked code (held u) before (known_sent s u code before holds.given)))
      ∙ ap₂ (λ c xs. told_outs c u (held u) xs) (sym holds.known) (sym outs_are)

  pub own_texts : (u : List ℕ) (o : Open) → found e u (texts_of settings g mid) ≡ Some o → (h : HeldText) × (held_at s u mid ≡ Some h) × Agrees o h
  own_texts u o is =
      let at : find (is_open_at e u) d.opens ≡ Some o = ap (λ (x : Texts). find (is_open_at e u) x.opens) (sym mid_texts) ∙ is in
      let best : holder u (sync_row e d).after.opens ≡ Some (record o { touched = d.turn }) = ap (λ (x : Texts). holder u x.opens) (sync_texts e d) ∙ holder_touched e d.turn u o d.opens texts.orderly.once texts.orderly.turns at in
      let has : Held (sync_row e d).after (λ w. told_outs d.encoding w (held w) (sync_row e d).outs) = sync_held s e d held holds.start holds.held code holds.known small texts.orderly.once texts.orderly.turns texts.spelt in
      let m : Matches (version_held u (sync_row e d).after.helds) (Some (record o { touched = d.turn })) (told_outs d.encoding u (held u) (sync_row e d).outs) = subst (λ z. Matches (version_held u (sync_row e d).after.helds) z (told_outs d.encoding u (held u) (sync_row e d).outs)) best (has u) in
      let t = text_of (version_held u (sync_row e d).after.helds) (told_outs d.encoding u (held u) (sync_row e d).outs) (record o { touched = d.turn }) m in
      (t.0, mid_held u ∙ t.1, t.2)
    where
      text_of : (v : Option ℕ) (k : Option HeldText) (o : Open) → Matches v (Some o) k → (h : HeldText) × (k ≡ Some h) × Agrees o h
      text_of (Some v) (Some h) o m = (h, refl, m.1)
      text_of (Some v) None o m = absurd m
      text_of None k o m = absurd m
