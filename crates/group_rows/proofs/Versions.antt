-- What V1 puts in place of a version is null, or the text of a number that the editor gave.
use Rattle.std.proofs.Common.{◌≡◌, ℕ, ◌+◌, Bool, true, false, not, cond, filter, ◌&&◌, List, [], ◌∷◌, ◌++◌, length, codes, nat_eq, map, if◌then◌else◌, Option, Some, None, option_map, refl, sym, subst}
use Rattle.std.specs.List.{AllByRecursion}
use Rattle.std.specs.Option.{option_and_then, option_map_or}
use Rattle.json_text.specs.declared.kind.Word.TheVariants.{Null}
use Rattle.json_text.specs.Bare.{nowhere}
use Rattle.json_text.specs.Json.{Json, word, number}
use Rattle.json_text.specs.Number.{IsNumber}
use Rattle.mux_history.specs.declared.cause.Cause.{Cause}
use Rattle.mux_history.specs.declared.cause.Cause.TheVariants.{FromEditor, EditorGone, FromServer}
use Rattle.mux_history.specs.declared.out.Out.{Out}
use Rattle.mux_history.specs.declared.out.Out.TheVariants.{CloseEditor, ToServer}
use Rattle.position_codec.specs.declared.Encoding.{Encoding}
use Rattle.rpc_message.specs.Message.{message_of}
use Rattle.response_route.specs.document_model.specs.Helds.{HeldText}
use Rattle.response_route.specs.document_model.specs.Opens.{Open, is_open_at}
use Rattle.response_route.specs.document_model.specs.Sayings.{Saying, opens, changes, closes, misshapen, nothing, saying_of}
use Rattle.response_route.specs.document_model.specs.Texts.{Texts, changed, found, no_texts, opened, text_after, texts_behind, touched}
use Rattle.response_route.specs.document_model.proofs.ScalarTrees.{either_way}
use Rattle.response_route.specs.document_model.proofs.Spelt.{all_drop, all_find, all_put}
use Rattle.event_model.specs.Event.{Event, took, did, heard, said, requests}
use Rattle.event_model.specs.Phases.{desk_of, is_served}
use Rattle.event_model.specs.Settings.{Settings}
use Rattle.event_model.specs.Spawns.{group_of}
use Rattle.response_route.specs.declared.versions.Stamp.{Stamp}
use Rattle.response_route.specs.Answers.{GivesFlat, IsFlatText}
use Rattle.response_route.specs.Versions.{is_held, version_now, version_then}
use Rattle.registrations.specs.mux_model.specs.Documents.{held_at, without_editor}
use Rattle.group_words.specs.Houses.{home_of, is_home}
use Rattle.group_words.specs.Past.{past}
use Rattle.group_rows.specs.AskRows.{current_version}
use Rattle.group_rows.specs.Answers.{agreed_version, held_version, moment_next, moment_of, own_version, sends_on, shared_texts, stamp_at, stamped}
use Rattle.group_rows.specs.Forwarded.{Forwarded}
use Rattle.group_rows.specs.Lists.{version_at}
use Rattle.group_rows.specs.Texts.{encoding_of, is_synced, texts_heard, texts_next, texts_of, touch_all, touched_at, toucher_of}
use Rattle.group_rows.proofs.Integers.{IsSaidNumber, said_number}

-- the events are of causes and outs: the message of a body is what the body says
abbrev pub IsMeant : Event → Type 0
IsMeant (took (FromEditor e body) m) = m ≡ message_of body
IsMeant (took (FromServer s body) m) = m ≡ message_of body
IsMeant (did (ToServer s body) m) = m ≡ message_of body
IsMeant other = Unit {0}

abbrev pub AllMeant : List Event → Type 0
AllMeant events = AllByRecursion IsMeant events

pub meant_heard : (cause : Cause) → IsMeant (heard cause)
meant_heard (FromEditor e body) = refl
meant_heard (FromServer s body) = refl
meant_heard other = tt

pub meant_said : (out : Out) → IsMeant (said out)
meant_said (ToServer s body) = refl
meant_said other = tt

pub meant_more : (events : List Event) (ev : Event) → AllMeant events → IsMeant ev → AllMeant (events ++ ev ∷ [])
meant_more [] ev h k = (k, tt)
meant_more (w ∷ events) ev h k = (h.0, meant_more events ev h.1 k)

-- the versions of what is open

abbrev IsNumbered : Open → Type 0
IsNumbered o = IsNumber o.version

abbrev AreNumbered : Texts → Type 0
AreNumbered x = AllByRecursion IsNumbered x.opens

kept_numbered : (test : Open → Bool) (os : List Open) → AllByRecursion IsNumbered os → AllByRecursion IsNumbered (filter test os)
kept_numbered test [] h = tt
kept_numbered test (o ∷ os) h = go (test o) (kept_numbered test os h.1)
  where
    go : (b : Bool) → AllByRecursion IsNumbered (filter test os) → AllByRecursion IsNumbered (cond b (o ∷ filter test os) (filter test os))
    go true k = (h.0, k)
    go false k = k

without_numbered : (e : ℕ) (x : Texts) → AreNumbered x → AreNumbered (without_editor e x)
without_numbered e x h = kept_numbered (λ (o : Open). not (nat_eq o.editor e)) x.opens h

changed_numbered : (code : Option Encoding) (e : ℕ) (u v : List ℕ) (cs : Json) (x : Texts) → IsNumber v → AreNumbered x → AreNumbered (option_map_or (λ o. touched o x) (changed code e u v cs x) x)
changed_numbered code e u v cs x n h = go (found e u x)
  where
    new : Open → List ℕ → Open
    new o t = record { editor = e; uri = u; language = o.language; version = v; text = t; touched = x.turn }

    put : (o : Open) (p : Option (List ℕ)) → AreNumbered (option_map_or (λ o. touched o x) (option_map (λ t. record { editor = e; uri = u; language = o.language; version = v; text = t; touched = x.turn }) p) x)
    put o (Some t) = all_put IsNumbered (record { editor = e; uri = u; language = o.language; version = v; text = t; touched = x.turn }) x.opens n h
    put o None = h

    go : (p : Option Open) → AreNumbered (option_map_or (λ o. touched o x) (option_and_then (λ (o : Open). option_map (λ t. record { editor = e; uri = u; language = o.language; version = v; text = t; touched = x.turn }) (text_after code cs o.text)) p) x)
    go (Some o) = put o (text_after code cs o.text)
    go None = h

behind_numbered : (code : Option Encoding) (e : ℕ) (s : Saying) (x : Texts) → IsSaidNumber s → AreNumbered x → AreNumbered (texts_behind code e s x)
behind_numbered code e (opens u l v t) x n h = all_put IsNumbered (opened e u l v t x) x.opens n h
behind_numbered code e (changes u v cs) x n h = changed_numbered code e u v cs x n h
behind_numbered code e (closes u) x n h = all_drop IsNumbered e u x.opens h
behind_numbered code e misshapen x n h = h
behind_numbered code e nothing x n h = h

touched_numbered : (worker : Option ℕ) (x : Texts) → AreNumbered x → AreNumbered (touch_all worker x)
touched_numbered None x h = h
touched_numbered (Some e) x h = go x.opens h
  where
    go : (os : List Open) → AllByRecursion IsNumbered os → AllByRecursion IsNumbered (map (touched_at e x.turn) os)
    go [] k = tt
    go (o ∷ os) k = (either_way IsNumbered (nat_eq o.editor e) (record o { touched = x.turn }) o k.0 k.0, go os k.1)

module _ (settings : Settings) where
  next_numbered : (g : ℕ) (before : List Event) (x : Texts) (ev : Event) → IsMeant ev → AreNumbered x → AreNumbered (texts_next settings g before x ev)
  next_numbered g before x (took (FromEditor e body) m) is h = either_way AreNumbered (is_home g (home_of settings e before) && is_served (desk_of e before).phase) (texts_heard g before e m x) x
      (either_way AreNumbered (requests (codes "shutdown") m) (without_editor e x) (texts_behind (encoding_of g before) e (saying_of m) x) (without_numbered e x h)
      (behind_numbered (encoding_of g before) e (saying_of m) x (subst (λ z. IsSaidNumber (saying_of z)) (sym is) (said_number body)) h)) h
  next_numbered g before x (took (EditorGone e why) m) is h = without_numbered e x h
  next_numbered g before x (did (CloseEditor e) m) is h = without_numbered e x h
  next_numbered g before x (did (ToServer s body) m) is h = either_way AreNumbered (is_home g (group_of s before) && is_synced m) (touch_all (toucher_of settings s before m) x) x (touched_numbered (toucher_of settings s before m) x h) h
  next_numbered g before x other is h = h

  past_numbered : (g : ℕ) (before : List Event) (x : Texts) (events : List Event) → AllMeant events → AreNumbered x → AreNumbered (past (texts_next settings g) before x events)
  past_numbered g before x [] told h = h
  past_numbered g before x (ev ∷ events) told h = past_numbered g (before ++ ev ∷ []) (texts_next settings g before x ev) events told.1 (next_numbered g before x ev told.0 h)

  shared_numbered : (s : ℕ) (events : List Event) → AllMeant events → AreNumbered (shared_texts settings s events)
  shared_numbered s events told = go (group_of s events)
    where
      go : (g : Option ℕ) → AreNumbered (option_map_or (λ g. texts_of settings g events) g no_texts)
      go (Some g) = past_numbered g [] no_texts events told tt
      go None = tt

  stamp_numbered : (version : Open → Option HeldText → Option ℕ) (s e : ℕ) (events : List Event) (u : List ℕ) (x : Stamp) → AllMeant events → stamp_at version settings s e events u ≡ Some x → IsNumber x.version
  stamp_numbered version s e events u x told is = go (found e u (shared_texts settings s events)) refl is
    where
      go : (p : Option Open) → found e u (shared_texts settings s events) ≡ p → option_map (λ o. stamped (version o (held_at s u events)) o) p ≡ Some x → IsNumber x.version
      go (Some o) there h =
          let same : stamped (version o (held_at s u events)) o ≡ x = cc in
          subst (λ (z : Stamp). IsNumber z.version) same (all_find IsNumbered (is_open_at e u) (shared_texts settings s events).opens o (shared_numbered s events told) there)
      go None there h = absurd (cc)

  -- what an editor gave as a version is the text of a number
  pub version_number : (s e : ℕ) (events : List Event) (u v : List ℕ) → AllMeant events → version_at settings s e events u ≡ Some v → IsNumber v
  version_number s e events u v told is = go (found e u (shared_texts settings s events)) refl is
    where
      go : (p : Option Open) → found e u (shared_texts settings s events) ≡ p → option_map (λ (o : Open). o.version) p ≡ Some v → IsNumber v
      go (Some o) there h =
          let same : o.version ≡ v = cc in
          subst IsNumber same (all_find IsNumbered (is_open_at e u) (shared_texts settings s events).opens o (shared_numbered s events told) there)
      go None there h = absurd (cc)

-- a moment of a history is a front of it
past_meant : (settings : Settings) (s n : ℕ) (before : List Event) (o : Option (List Event)) (events : List Event) (m : List Event) → AllMeant before → AllMeant events → ((k : List Event) → o ≡ Some k → AllMeant k)
    → past (moment_next settings s n) before o events ≡ Some m → AllMeant m
past_meant settings s n before o [] m h told known is = known m is
past_meant settings s n before o (ev ∷ events) m h told known is =
    past_meant settings s n (before ++ ev ∷ []) (moment_next settings s n before o ev) events m (meant_more before ev h told.0) told.1 (next (sends_on settings s n before ev)) is
  where
    next : (b : Bool) (k : List Event) → (if b then Some before else o) ≡ Some k → AllMeant k
    next true k e = let same : before ≡ k = cc in subst AllMeant same h
    next false k e = known k e

moment_meant : (settings : Settings) (s n : ℕ) (events m : List Event) → AllMeant events → moment_of settings s n events ≡ Some m → AllMeant m
moment_meant settings s n events m told is = past_meant settings s n [] None events m tt told (λ k e. absurd (cc)) is

-- the bytes of a number, and null, are those of values that hold no others

number_flat : (ds : List ℕ) → IsNumber ds → IsFlatText ds
number_flat ds h = (number nowhere ds, record { tree = number (record { from = 0; to = 0 + length ds }) ds; stands = ((refl, h), refl); same = refl }, refl)

null_flat : IsFlatText (codes "null")
null_flat = (word nowhere Null, record { tree = word (record { from = 0; to = 4 }) Null; stands = (refl, refl); same = refl }, refl)

then_number : (digits text : List ℕ) (o : Option Stamp) → ((x : Stamp) → o ≡ Some x → IsNumber x.version) → version_then digits o ≡ Some text → IsNumber text
then_number digits text None f e = absurd (cc)
then_number digits text (Some x) f e = go (is_held digits x.held) e
  where
    go : (b : Bool) → (if b then Some x.version else None) ≡ Some text → IsNumber text
    go true h = let same : x.version ≡ text = cc in subst IsNumber same (f x refl)
    go false h = absurd (cc)

now_flat : (digits text : List ℕ) (now then_ : Option Stamp) → ((x : Stamp) → now ≡ Some x → IsNumber x.version) → ((x : Stamp) → then_ ≡ Some x → IsNumber x.version) → version_now digits now then_ ≡ Some text → IsFlatText text
now_flat digits text None then_ f g e = let same : codes "null" ≡ text = cc in subst IsFlatText same null_flat
now_flat digits text (Some x) then_ f g e = go (is_held digits x.held) e
  where
    go : (b : Bool) → (if b then Some x.version else version_then digits then_) ≡ Some text → IsFlatText text
    go true h = let same : x.version ≡ text = cc in subst IsFlatText same (number_flat x.version (f x refl))
    go false h = number_flat text (then_number digits text then_ g h)

noted_numbered : (settings : Settings) (s n e : ℕ) (before : List Event) (u : List ℕ) → AllMeant before → (o : Option (List Event)) → moment_of settings s n before ≡ o → (x : Stamp)
    → option_and_then (λ m. stamp_at held_version settings s e m u) o ≡ Some x → IsNumber x.version
noted_numbered settings s n e before u told (Some m) is x h = stamp_numbered settings held_version s e m u x (moment_meant settings s n before m told is) h
noted_numbered settings s n e before u told None is x h = absurd (cc)

pub own_flat : (settings : Settings) (before : List Event) (s : ℕ) (f : Forwarded) → AllMeant before → GivesFlat (own_version settings before s f)
own_flat settings before s f told u digits text is =
    now_flat digits text (stamp_at agreed_version settings s f.editor before u) (option_and_then (λ m. stamp_at held_version settings s f.editor m u) (moment_of settings s f.number before))
    (λ x e. stamp_numbered settings agreed_version s f.editor before u x told e) (λ x e. noted_numbered settings s f.number f.editor before u told (moment_of settings s f.number before) refl x e) is

pub current_flat : (settings : Settings) (before : List Event) (s e : ℕ) → AllMeant before → GivesFlat (current_version settings before s e)
current_flat settings before s e told u digits text is = now_flat digits text (stamp_at agreed_version settings s e before u) None (λ x h. stamp_numbered settings agreed_version s e before u x told h) (λ x h. absurd (cc)) is
