-- What keeps an editor at rest, event by event: none of an editor's own, no document told to the start, and no end of a link.
use Rattle.std.proofs.Common.{◌≡◌, ℕ, ◌<◌, Bool, true, false, ◌&&◌, ◌||◌, cond, codes, List, [], ◌∷◌, ◌++◌, map, nat_eq, if◌then◌else◌, Option, None, Some, refl, sym, ◌∙◌, ap, subst, arith}
use Rattle.std.specs.Prelude.{find}
use Rattle.std.specs.Option.{option_map_or}
use Rattle.mux_history.specs.declared.cause.Cause.TheVariants.{Joined, FromEditor, EditorGone, FromServer}
use Rattle.mux_history.specs.declared.out.Out.TheVariants.{ToEditor, ToServer, Spawn, CloseEditor}
use Rattle.rpc_message.specs.Message.{Message, request}
use Rattle.document_model.specs.Helds.{HeldText, told}
use Rattle.document_model.specs.Opens.{Open, is_open_at}
use Rattle.document_model.specs.Sayings.{Saying, saying_of, speaks}
use Rattle.document_model.specs.Sayings as saying
use Rattle.document_model.specs.Texts.{Texts, found, no_texts, texts_behind}
use Rattle.event_model.specs.declared.phase.Phase.TheVariants.{New, Running, Down}
use Rattle.event_model.specs.Event.{Event, took, did, requests}
use Rattle.event_model.specs.Phases.{Desk, desk_behind, desk_hears, desk_of, is_served, phase_told}
use Rattle.event_model.specs.Settings.{Settings}
use Rattle.event_model.specs.Spawns.{group_behind, group_of, starts_behind, starts_of}
use Rattle.event_model.proofs.Frames.{never}
use Rattle.position_codec.specs.declared.Encoding.{Encoding}
use Rattle.mux_model.specs.Documents.{Sent, held_at, held_behind, sent_of, without_editor}
use Rattle.mux_facts.proofs.Folds.{desk_more, starts_more}
use Rattle.mux_facts.proofs.Tellings.{sent_more}
use Rattle.mux_facts.proofs.Words.{number_same}
use Rattle.group_words.specs.Houses.{House, home_next, home_of, house_of, is_home, placed_for, places}
use Rattle.group_words.specs.Placing.{home_by}
use Rattle.group_words.proofs.Frames.{home_more}
use Rattle.group_rows.specs.Answers.{shared_texts}
use Rattle.group_rows.specs.Debts.{agrees_on_all, asks_anew, debt_of, debts_asked, debts_next, debts_of, ends_debts, owed_by, pays_debts, runs_at}
use Rattle.group_rows.specs.Texts.{encoding_of, is_synced, texts_heard, texts_next, texts_of, touch_all, touched_at, toucher_of}
use Rattle.group_rows.proofs.DebtsKept.{debts_more}
use Rattle.group_rows.proofs.Frames.{texts_more}
use Rattle.group_facts.specs.OwnTexts.{HasOwn}
use Rattle.group_facts.specs.OwnVersions.{HasOwnTexts}
use Rattle.group_facts.proofs.Housed.{group_more}
use Rattle.rest_laws.proofs.Agreeing.{agreement}
use Rattle.rest_laws.proofs.Asides.{unspoken}

-- A touch changes no text

abbrev pub Like : Option Open → Open → Type 0
Like None o = ⊥
Like (Some p) o = (p.language ≡ o.language) × (p.text ≡ o.text)

like_itself : (x : Option Open) (o : Open) → x ≡ Some o → Like x o
like_itself x o is = subst (λ y. Like y o) (sym is) (refl, refl)

module _ (e : ℕ) (u : List ℕ) (n turn : ℕ) where
  touched_like : (os : List Open) (o : Open) → find (is_open_at e u) (map (touched_at n turn) os) ≡ Some o → Like (find (is_open_at e u) os) o
  touched_like [] o is = absurd (cc)
  touched_like (p ∷ os) o is = by_touch (nat_eq p.editor n) is (λ k. touched_like os o k)
    where
      pick : (c : Bool) (q : Open) → p.language ≡ q.language → p.text ≡ q.text → cond c (Some q) (find (is_open_at e u) (map (touched_at n turn) os)) ≡ Some o
          → (find (is_open_at e u) (map (touched_at n turn) os) ≡ Some o → Like (find (is_open_at e u) os) o) → Like (cond c (Some p) (find (is_open_at e u) os)) o
      pick true q l t is rest = let same : q ≡ o = cc in (l ∙ ap (λ (x : Open). x.language) same, t ∙ ap (λ (x : Open). x.text) same)
      pick false q l t is rest = rest is

      by_touch : (b : Bool) → cond (is_open_at e u (if b then record p { touched = turn } else p)) (Some (if b then record p { touched = turn } else p)) (find (is_open_at e u) (map (touched_at n turn) os)) ≡ Some o
          → (find (is_open_at e u) (map (touched_at n turn) os) ≡ Some o → Like (find (is_open_at e u) os) o) → Like (cond (is_open_at e u p) (Some p) (find (is_open_at e u) os)) o
      by_touch true is rest = pick (is_open_at e u p) (record p { touched = turn }) refl refl is rest
      by_touch false is rest = pick (is_open_at e u p) p refl refl is rest

all_like : (e : ℕ) (u : List ℕ) (toucher : Option ℕ) (x : Texts) (o : Open) → found e u (touch_all toucher x) ≡ Some o → Like (found e u x) o
all_like e u None x o is = like_itself (found e u x) o is
all_like e u (Some n) x o is = touched_like e u n x.turn x.opens o is

own_like : (held : Option HeldText) (p o : Open) → Like (Some p) o → HasOwn p held → HasOwn o held
own_like None p o like own = own
own_like (Some h) p o like own = (own.0 ∙ like.0, own.1 ∙ like.1)

pub none_either : {A : Type 0} (b : Bool) → ◌≡◌ {A = List A} (if b then [] else []) []
none_either true = refl
none_either false = refl

above : (m n : ℕ) → m < n → nat_eq n m ≡ false
above m n low = go (nat_eq n m) refl
  where
    go : (b : Bool) → nat_eq n m ≡ b → nat_eq n m ≡ false
    go false is = is
    go true is = absurd (let same : n ≡ m = number_same n m is in omega (arith, low, same))

module _ (settings : Settings) (s e g : ℕ) where
  -- the editor runs in the group of the start
  pub record Seat (events : List Event) : Type 0 where
    pub runs : (desk_of e events).phase ≡ Running
    pub home : is_home g (home_of settings e events) ≡ true
    pub group : group_of s events ≡ Some g
    pub low : s < starts_of events

  -- and the start has its texts and owes it nothing
  pub record Rested (events : List Event) : Type 0 where
    pub seat : Seat events
    pub own : HasOwnTexts settings s e events
    pub owed : debts_of settings s e events ≡ []

  -- what leaves an editor where it is
  abbrev pub Sits : List Event → Event → Type 0
  Sits events (took (FromEditor n body) m) = requests (codes "shutdown") m ≡ false
  Sits events (took (EditorGone n why) m) = ⊥
  Sits events (took (Joined n) m) = nat_eq n e ≡ false
  Sits events (took other m) = Unit {0}
  Sits events (did (CloseEditor n) m) = ⊥
  Sits events (did (Spawn n h) m) = n ≡ starts_of events
  Sits events (did other m) = Unit {0}

  -- and what it has open, and the start of that
  abbrev pub Calm : List Event → Event → Type 0
  Calm events (took (FromEditor n body) m) = (speaks (saying_of m) ≡ false) × (requests (codes "shutdown") m ≡ false)
  Calm events (took (EditorGone n why) m) = ⊥
  Calm events (took (Joined n) m) = nat_eq n e ≡ false
  Calm events (took other m) = Unit {0}
  Calm events (did (CloseEditor n) m) = ⊥
  Calm events (did (ToServer n body) m) = n ≡ s → saying_of m ≡ saying.nothing
  Calm events (did (Spawn n h) m) = n ≡ starts_of events
  Calm events (did other m) = Unit {0}

  sits : (events : List Event) (ev : Event) → Calm events ev → Sits events ev
  sits events (took (FromEditor n body) m) calm = calm.1
  sits events (took (EditorGone n why) m) calm = calm
  sits events (took (Joined n) m) calm = calm
  sits events (took other m) calm = tt
  sits events (did (CloseEditor n) m) calm = calm
  sits events (did (ToServer n body) m) calm = tt
  sits events (did (Spawn n h) m) calm = calm
  sits events (did other m) calm = tt

  phase_sits : (events : List Event) (desk : Desk) (ev : Event) → Sits events ev → desk.phase ≡ Running → (desk_behind e desk ev).phase ≡ Running
  phase_sits events desk (took (FromEditor n body) m) sits runs = go (nat_eq n e)
    where
      go : (b : Bool) → (if b then desk_hears desk.phase desk.initialize body m else desk).phase ≡ Running
      go true = ap (λ p. (desk_hears p desk.initialize body m).phase) runs ∙ ap (λ b. if b then Down else Running) sits
      go false = runs
  phase_sits events desk (took (EditorGone n why) m) sits runs = absurd sits
  phase_sits events desk (took (Joined n) m) sits runs = go (nat_eq n e) sits
    where
      go : (b : Bool) → b ≡ false → (if b then record { phase = New; initialize = [] } else desk).phase ≡ Running
      go true h = never h
      go false h = runs
  phase_sits events desk (did (CloseEditor n) m) sits runs = absurd sits
  phase_sits events desk (did (ToEditor n body) m) sits runs = go (nat_eq n e)
    where
      go : (b : Bool) → (if b then record { phase = phase_told desk.phase desk.initialize m; initialize = desk.initialize } else desk).phase ≡ Running
      go true = ap (λ p. phase_told p desk.initialize m) runs
      go false = runs
  phase_sits events desk other sits runs = runs

  home_sits : (events : List Event) (x : House) (ev : Event) → Sits events ev → (desk_of e events).phase ≡ Running → home_next settings events x ev e ≡ x.home e
  home_sits events x (took (FromEditor n body) m) sits runs = go (nat_eq n e) refl
    where
      go : (b : Bool) → nat_eq n e ≡ b → (if b && places (desk_of n events).phase m then home_by (placed_for settings events n body x.groups) (x.home e) else x.home e) ≡ x.home e
      go true same = ap (λ p. if places p m then home_by (placed_for settings events n body x.groups) (x.home e) else x.home e) (ap (λ k. (desk_of k events).phase) (number_same n e same) ∙ runs)
      go false other = refl
  home_sits events x (took (EditorGone n why) m) sits runs = absurd sits
  home_sits events x other sits runs = refl

  group_sits : (events : List Event) (ev : Event) → Sits events ev → s < starts_of events → (group : Option ℕ) → group_behind s group ev ≡ group
  group_sits events (did (Spawn n h) m) sits low group = ap (λ b. if b then Some h else group) (ap (λ k. nat_eq k s) sits ∙ above s (starts_of events) low)
  group_sits events other sits low group = refl

  starts_sit : (n : ℕ) (ev : Event) → s < n → s < starts_behind n ev
  starts_sit n (did (Spawn k h) m) low = omega (arith, low)
  starts_sit n other low = low

  pub seat_more : (events : List Event) (ev : Event) → Sits events ev → Seat events → Seat (events ++ ev ∷ [])
  seat_more events ev still h = record {
    runs = ap (λ (d : Desk). d.phase) (desk_more e events ev) ∙ phase_sits events (desk_of e events) ev still h.runs;
    home = ap (is_home g) (home_more settings e events ev ∙ home_sits events (house_of settings events) ev still h.runs) ∙ h.home;
    group = group_more s events ev ∙ (group_sits events ev still h.low (group_of s events) ∙ h.group);
    low = subst (λ n. s < n) (sym (starts_more events ev)) (starts_sit (starts_of events) ev h.low);
  }

  -- what its group's editors have open is what the start's do
  pub texts_at : (events : List Event) → Seat events → texts_of settings g events ≡ shared_texts settings s events
  texts_at events h = ap (λ k. option_map_or (λ g. texts_of settings g events) k no_texts) (sym h.group)

  held_calm : (events : List Event) (ev : Event) → Calm events ev → (u : List ℕ) (code : Option Encoding) (held : Option HeldText) → held_behind s u code held ev ≡ held
  held_calm events (did (ToServer n body) m) calm u code held = go (nat_eq n s) refl
    where
      go : (b : Bool) → nat_eq n s ≡ b → (if b then told code u held (saying_of m) else held) ≡ held
      go true same = ap (told code u held) (calm (number_same n s same))
      go false other = refl
  held_calm events other calm u code held = refl

  texts_calm : (events : List Event) (ev : Event) → Calm events ev → (x : Texts) (u : List ℕ) (o : Open) → found e u (texts_next settings g events x ev) ≡ Some o → Like (found e u x) o
  texts_calm events (took (FromEditor n body) m) calm x u o is = go (is_home g (home_of settings n events) && is_served (desk_of n events).phase) is
    where
      silent : (y : Saying) → y ≡ saying.nothing → found e u (texts_behind (encoding_of g events) n y x) ≡ Some o → Like (found e u x) o
      silent y is = subst (λ z. found e u (texts_behind (encoding_of g events) n z x) ≡ Some o → Like (found e u x) o) (sym is) (λ k. like_itself (found e u x) o k)

      hears : (b : Bool) → b ≡ false → found e u (if b then without_editor n x else texts_behind (encoding_of g events) n (saying_of m) x) ≡ Some o → Like (found e u x) o
      hears true shuts k = never shuts
      hears false stays k = silent (saying_of m) (unspoken (saying_of m) calm.0) k

      go : (b : Bool) → found e u (if b then texts_heard g events n m x else x) ≡ Some o → Like (found e u x) o
      go true k = hears (requests (codes "shutdown") m) calm.1 k
      go false k = like_itself (found e u x) o k
  texts_calm events (took (EditorGone n why) m) calm x u o is = absurd calm
  texts_calm events (did (CloseEditor n) m) calm x u o is = absurd calm
  texts_calm events (did (ToServer n body) m) calm x u o is = go (is_home g (group_of n events) && is_synced m) is
    where
      go : (b : Bool) → found e u (if b then touch_all (toucher_of settings n events m) x else x) ≡ Some o → Like (found e u x) o
      go true is = all_like e u (toucher_of settings n events m) x o is
      go false is = like_itself (found e u x) o is
  texts_calm events other calm x u o is = like_itself (found e u x) o is

  asked_none : (events : List Event) → agrees_on_all settings s events e ≡ true → (body : List ℕ) (m : Message) → debts_asked settings s e events body m [] ≡ []
  asked_none events agrees body (request id method params) = go (asks_anew settings s events id method && runs_at settings s events e)
    where
      go : (b : Bool) → (if b then owed_by (agrees_on_all settings s events e) (debt_of s e method body) [] else []) ≡ []
      go true = ap (λ a. owed_by a (debt_of s e method body) []) agrees
      go false = refl
  asked_none events agrees body other = refl

  owed_calm : (events : List Event) → agrees_on_all settings s events e ≡ true → (ev : Event) → debts_next settings s e events [] ev ≡ []
  owed_calm events agrees (took (FromServer n body) m) = go (nat_eq n s)
    where
      go : (b : Bool) → (if b then debts_asked settings s e events body m [] else []) ≡ []
      go true = asked_none events agrees body m
      go false = refl
  owed_calm events agrees (took other m) = none_either (ends_debts s e (took other m) || pays_debts settings s e events (took other m))
  owed_calm events agrees (did out m) = none_either (ends_debts s e (did out m) || pays_debts settings s e events (did out m))

  module _ (events : List Event) (ev : Event) (calm : Calm events ev) (h : Rested events) where
    abbrev later : List Event
    later = events ++ ev ∷ []

    seat_later : Seat later
    seat_later = seat_more events ev (sits events ev calm) h.seat

    held_later : (u : List ℕ) → held_at s u later ≡ held_at s u events
    held_later u = ap (λ (x : Sent). x.held) (sent_more s u events ev) ∙ held_calm events ev calm u (sent_of s u events).encoding (held_at s u events)

    own_from : (u : List ℕ) (o : Open) (x : Option Open) → found e u (shared_texts settings s events) ≡ x → Like x o → HasOwn o (held_at s u events)
    own_from u o (Some p) is like = own_like (held_at s u events) p o like (h.own u p is)
    own_from u o None is like = absurd like

    own_later : HasOwnTexts settings s e later
    own_later u o is = subst (HasOwn o) (sym (held_later u)) (own_from u o (found e u (shared_texts settings s events)) refl
        (subst (λ x. Like (found e u x) o) (texts_at events h.seat) (texts_calm events ev calm (texts_of settings g events) u o
        (ap (found e u) (sym (texts_more settings g events ev)) ∙ (ap (found e u) (texts_at later seat_later) ∙ is)))))

    pub rested_more : Rested later
    rested_more = record {
      seat = seat_later;
      own = own_later;
      owed = debts_more settings s e events ev ∙ (ap (λ ds. debts_next settings s e events ds ev) h.owed ∙ owed_calm events ((agreement settings s e events).1 h.own) ev);
    }
