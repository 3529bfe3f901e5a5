-- E12 to E14 over the documents of a group: the steps are the rows, and what is kept of the group stands for the events behind the entry.
use Rattle.std.proofs.Common.{◌≡◌, ℕ, ◌<◌, ◌^◌, true, List, [], ◌++◌, map, Option, Some, None, IsUtf8, refl, sym, ap, ap₂, subst, ◌∙◌}
use Rattle.json_text.specs.Json.{Json}
use Rattle.json_text.specs.Tree.{tree_of}
use Rattle.mux_history.specs.declared.cause.Cause.TheVariants.{FromEditor}
use Rattle.mux_history.specs.declared.out.Out.TheVariants.{ToServer}
use Rattle.position_codec.specs.declared.Encoding.{Encoding}
use Rattle.document_model.specs.rpc_message.specs.Message.{message_in, message_of, notification}
use Rattle.document_model.specs.Helds.{HeldText}
use Rattle.document_model.specs.Opens.{Open, holder_beside}
use Rattle.document_model.specs.Orderly.{IsSpelt, AllSpelt, Orderly}
use Rattle.document_model.specs.Rows.{sent_change, sent_close}
use Rattle.document_model.specs.Sayings.{Saying, opens, changes, closes, misshapen, nothing, saying_by, saying_of}
use Rattle.document_model.specs.Texts.{Texts, texts_behind, opened, found, changed}
use Rattle.document_model.proofs.ScalarTrees.{MayHold}
use Rattle.document_model.proofs.Spelt.{IsSaidSpelt, said_spelt, document_spelt, opens_spelt, closes_spelt, latest_spelt}
use Rattle.document_model.proofs.Spoken.{AllSpeak, sent_open_speaks, sent_change_speaks, sent_close_speaks}
use Rattle.document_laws.specs.Counts.{Counted, still}
use Rattle.document_laws.specs.Follows.{Held, texts_in, told_outs}
use Rattle.document_laws.proofs.Changing.{change_none, change_not_open, change_texts, change_stays, change_outs, change_held}
use Rattle.document_laws.proofs.Counting.{change_counted, close_counted, open_counted}
use Rattle.document_laws.proofs.Following.{open_texts, open_stays, open_outs, open_held, close_none, close_texts, close_stays, close_outs, close_held}
use Rattle.document_laws.proofs.Sends.{Stays}
use Rattle.event_model.specs.Event.{Event, behind, with_cause}
use Rattle.event_model.specs.Phases.{desk_of, is_served}
use Rattle.event_model.specs.Row.{outs}
use Rattle.event_model.specs.Settings.{Settings}
use Rattle.event_model.specs.Stages.{life_of, is_ready}
use Rattle.focus_switch.specs.Documents.{Documents}
use Rattle.focus_switch.specs.Rows.{Step, change_row, close_row, open_row}
use Rattle.focus_switch.specs.Rows as focus
use Rattle.group_rows.specs.mux_model.specs.Documents.{held_at}
use Rattle.group_rows.specs.mux_model.proofs.DocumentFolds.{outs_to_start}
use Rattle.group_rows.specs.group_words.specs.Houses.{home_of, is_home}
use Rattle.group_rows.specs.ListRows.{show_opened}
use Rattle.group_rows.specs.Rows as rows
use Rattle.group_laws.specs.Stands.{HeldStands, TextsStand}
use Rattle.group_laws.specs.Steps.{changed_by, document_step}
use Rattle.group_laws.proofs.Entries.{entry_held, entry_texts}

module _ (s e : ℕ) (code : Encoding) (body : List ℕ) (d : Documents) (held : List ℕ → Option HeldText) (started : d.start ≡ Some s) (known : d.encoding ≡ Some code) (orderly : Orderly (texts_in d)) (spelt : AllSpelt d.opens) (few : d.versions < 2 ^ 32) (follows : Held d held) where
  abbrev bodies : Saying → List (List ℕ)
  bodies x = rows.document_bodies d.versions d.encoding (texts_in d) held e body x

  -- the step is the row's, and the documents behind it follow what is said and sent
  pub record Right (x : Saying) (step : Step) : Type 0 where
    pub are : step.outs ≡ map (λ b. ToServer s b) (bodies x)
    pub speak : AllSpeak (bodies x)
    pub stays : Stays d step.after
    pub texts : texts_in step.after ≡ texts_behind d.encoding e x (texts_in d)
    pub matches : Held step.after (λ u. told_outs d.encoding u (held u) step.outs)
    pub counted : Counted s d step.outs step.after

  same_stays : Stays d d
  same_stays = record { start = refl; encoding = refl; versions = refl }

  open_right : (u l v w : List ℕ) → saying_of (message_of body) ≡ opens u l v w → Right (opens u l v w) (open_row e u l v w d)
  open_right u l v w says =
      let utf8 : IsUtf8 u × IsUtf8 l × IsUtf8 w = opens_spelt body u l v w says in
      record {
        are = open_outs s e u l v w d held started follows;
        speak = sent_open_speaks d.versions (opened e u l v w (texts_in d)) (held u) few utf8;
        stays = open_stays e u l v w d;
        texts = open_texts e u l v w d;
        matches = open_held s code e u l v w d held started known orderly follows few utf8.0 utf8.1 utf8.2;
        counted = open_counted s e u l v w d started few utf8.0 utf8.1 utf8.2;
      }

  close_right : (u : List ℕ) → saying_of (message_of body) ≡ closes u → Right (closes u) (close_row e u d)
  close_right u says = go (found e u (texts_in d)) refl
    where
      build : (bs : List (List ℕ)) → bodies (closes u) ≡ bs → (close_row e u d).outs ≡ map (λ b. ToServer s b) bs → AllSpeak bs → Right (closes u) (close_row e u d)
      build bs same are speak = record {
        are = are ∙ ap (map (λ b. ToServer s b)) (sym same);
        speak = subst AllSpeak (sym same) speak;
        stays = close_stays e u d;
        texts = close_texts e u d;
        matches = close_held s code e u d held started known orderly follows few spelt;
        counted = close_counted s e u d started few spelt;
      }

      go : (o : Option Open) → found e u (texts_in d) ≡ o → Right (closes u) (close_row e u d)
      go None h = build [] (ap (λ o. rows.closed_bodies d.versions e u d.opens o (held u)) h) (ap (λ (z : Step). z.outs) (close_none e u d h)) tt
      go (Some o) h = build (sent_close d.versions u (holder_beside e u d.opens) (held u)) (ap (λ o. rows.closed_bodies d.versions e u d.opens o (held u)) h) (close_outs e u d s o held started orderly.once follows h)
          (sent_close_speaks d.versions u (holder_beside e u d.opens) (held u) few (closes_spelt body u says) (λ q k. latest_spelt _ d.opens q spelt k))

  module _ (tree : Json) (read : tree_of body ≡ Some tree) (u v : List ℕ) (cs : Json) (says : saying_of (message_of body) ≡ changes u v cs) where
    change_right : Right (changes u v cs) (change_row e body tree d)
    change_right = at_old (found e u (texts_in d)) refl (changed d.encoding e u v cs (texts_in d)) refl
      where
        build : (bs : List (List ℕ)) → bodies (changes u v cs) ≡ bs → (change_row e body tree d).outs ≡ map (λ b. ToServer s b) bs → AllSpeak bs → Right (changes u v cs) (change_row e body tree d)
        build bs same are speak = record {
          are = are ∙ ap (map (λ b. ToServer s b)) (sym same);
          speak = subst AllSpeak (sym same) speak;
          stays = change_stays e body tree u v cs d read says;
          texts = change_texts e body tree u v cs d read says;
          matches = change_held e body tree u v cs d read says s code held started known orderly follows few spelt;
          counted = change_counted s e body tree u v cs d read says started few spelt;
        }

        same_bodies : (old new : Option Open) → found e u (texts_in d) ≡ old → changed d.encoding e u v cs (texts_in d) ≡ new → bodies (changes u v cs) ≡ rows.changed_bodies d.versions body old new (held u)
        same_bodies old new h k = ap₂ (λ a b. rows.changed_bodies d.versions body a b (held u)) h k

        at_old : (old : Option Open) → found e u (texts_in d) ≡ old → (new : Option Open) → changed d.encoding e u v cs (texts_in d) ≡ new → Right (changes u v cs) (change_row e body tree d)
        at_old None h new k = build [] (same_bodies None new h k) (ap (λ (z : Step). z.outs) (change_not_open e body tree u v cs d read says h)) tt
        at_old (Some old) h None k = build [] (same_bodies (Some old) None h k) (ap (λ (z : Step). z.outs) (change_none e body tree u v cs d read says k)) tt
        at_old (Some old) h (Some new) k =
            let said : IsUtf8 u × _ = subst IsSaidSpelt says (said_spelt body) in
            let fine : IsSpelt new = subst (MayHold IsSpelt) k (document_spelt d.encoding e u v cs (texts_in d) said.0 said.1 spelt) in
            build (sent_change d.versions body old new (held u)) (same_bodies (Some old) (Some new) h k) (change_outs e body tree u v cs d read says s old new held started orderly.once follows h k)
            (sent_change_speaks d.versions body u v cs old new (held u) few fine says)

  -- what isn't JSON says nothing
  no_changes : (u v : List ℕ) (cs : Json) → tree_of body ≡ None → saying_of (message_of body) ≡ changes u v cs → ⊥
  unfolding message_of
  no_changes u v cs e says = let z : nothing ≡ changes u v cs = sym (ap (λ o. saying_of (message_in o)) e) ∙ says in cc

  changed_right : (u v : List ℕ) (cs : Json) (o : Option Json) → tree_of body ≡ o → saying_of (message_of body) ≡ changes u v cs → Right (changes u v cs) (changed_by e body o d)
  changed_right u v cs None read says = absurd (no_changes u v cs read says)
  changed_right u v cs (Some tree) read says = change_right tree read u v cs says

  still_right : (x : Saying) → bodies x ≡ [] → texts_behind d.encoding e x (texts_in d) ≡ texts_in d → Right x (focus.nothing d)
  still_right x none same = record { are = ap (map (λ b. ToServer s b)) (sym none); speak = subst AllSpeak (sym none) tt; stays = same_stays; texts = sym same; matches = follows; counted = still refl refl refl }

  pub document_right : (x : Saying) → saying_of (message_of body) ≡ x → Right x (document_step e body x d)
  document_right (opens u l v w) says = open_right u l v w says
  document_right (changes u v cs) says = changed_right u v cs (tree_of body) refl says
  document_right (closes u) says = close_right u says
  document_right misshapen says = still_right misshapen refl refl
  document_right nothing says = still_right nothing refl refl

-- the whole entry
module _ (settings : Settings) (g s e : ℕ) (code : Encoding) (before : List Event) (body method : List ℕ) (params : Option Json) (d : Documents)
    (reads : message_of body ≡ notification method params) (home : is_home g (home_of settings e before) ≡ true) (served : is_served (desk_of e before).phase ≡ true) (few : d.versions < 2 ^ 32)
    (texts : TextsStand settings g d before) (holds : HeldStands s code d before) where
  abbrev step : Step
  step = document_step e body (saying_by method params) d

  right : Right s e code body d (λ u. held_at s u before) holds.start holds.known texts.orderly texts.spelt few holds.held (saying_by method params) step
  right = document_right s e code body d (λ u. held_at s u before) holds.start holds.known texts.orderly texts.spelt few holds.held (saying_by method params) (ap saying_of reads)

  pub document_texts : TextsStand settings g step.after (behind (with_cause before (FromEditor e body)) step.outs)
  document_texts = entry_texts settings g s e code before body method params d reads home served texts holds step right.stays right.texts _ right.are right.speak right.matches right.counted

  pub document_held : HeldStands s code step.after (behind (with_cause before (FromEditor e body)) step.outs)
  document_held = entry_held settings g s e code before body method params d reads home served texts holds step right.stays right.texts _ right.are right.speak right.matches right.counted

  -- and its outs are the row's, in front of the list that the editor is shown
  pub document_outs : d.versions ≡ settings.limits.versions → is_ready (life_of s before).stage ≡ true → (events : List Event) → outs (rows.document_at settings before e body (saying_by method params) g s) events ≡ step.outs ++ outs (show_opened settings s e (saying_by method params)) (behind events step.outs)
  document_outs same ready events = rw ready (ap (λ xs. xs ++ outs (show_opened settings s e (saying_by method params)) (behind events xs)) (outs_to_start s _ events
      ∙ (ap (map (λ b. ToServer s b)) (same_bodies settings.limits.versions _ _ _ _ same texts.encoding texts.texts) ∙ sym right.are)))
    where
      same_bodies : (m : ℕ) (c k : Option Encoding) (x y : Texts) → d.versions ≡ m → c ≡ k → x ≡ y → rows.document_bodies m c x (λ u. held_at s u before) e body (saying_by method params) ≡ rows.document_bodies d.versions k y (λ u. held_at s u before) e body (saying_by method params)
      same_bodies m c k x y a b f = subst (λ z. rows.document_bodies m c x (λ u. held_at s u before) e body (saying_by method params) ≡ rows.document_bodies z k y (λ u. held_at s u before) e body (saying_by method params)) (sym a)
          (ap₂ (λ p q. rows.document_bodies m p q (λ u. held_at s u before) e body (saying_by method params)) b f)
