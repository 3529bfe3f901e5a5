-- The tokens of all starts, one event further.
use Rattle.std.proofs.Common.{◌≡◌, ℕ, ◌<◌, ◌^◌, Bool, true, false, not, ◌&&◌, cond, List, [], ◌∷◌, ◌++◌, codes, find, refl, sym, subst, ◌∙◌, ap, nat_eq, if◌then◌else◌}
use Rattle.std.specs.Prelude.{Option, Some, None, is_some, option_map}
use Rattle.std.specs.Option.{option_and_then}
use Rattle.std.specs.List.Sorted.{IsStrictlySortedBy}
use Rattle.std.specs.Map.{keys_of}
use Rattle.std.specs.Ordering.{nat_cmp}
use Rattle.json_text.specs.Json.{Json}
use Rattle.mux_history.specs.declared.cause.Cause.TheVariants.{FromEditor, FromServer}
use Rattle.mux_history.specs.declared.out.Out.TheVariants.{ToEditor}
use Rattle.rpc_message.specs.Message.{Id, Message, request, notification}
use Rattle.event_model.specs.Event.{Event, did, requests, took}
use Rattle.event_model.specs.Requests.{answered_id}
use Rattle.event_model.specs.Settings.{Settings}
use Rattle.event_model.specs.Stages.{is_ready, life_of}
use Rattle.group_words.proofs.Frames.{past_more}
use Rattle.group_rows.specs.Asks.{next_ask}
use Rattle.group_rows.specs.Created.{Created, Taking, Token, accepts, answered, settled, is_answered, is_at as is_with, created_next, created_of, created_token, if_new, is_begin, is_called, is_creating, is_end, is_numbered, is_progress, left, may_create, named_token, no_created, progressed, spoken, token_called, token_marked, token_of, with_asked, with_token}
use Rattle.event_model.specs.Members.{params_of}
use Rattle.group_rows.specs.Forwarded.{names, token_in}
use Rattle.group_rows.specs.Live.{is_heard}
use Rattle.progress_route.specs.declared.kind.Kind.{Kind}
use Rattle.progress_route.specs.Tables.{Table, at, created, less, nothing, put_to, taken_to}
use Rattle.progress_route.specs.Tables as table
use Rattle.mux_tokens.specs.Rows.{Rows, changed, edited, left_each, table_in, table_of}
use Rattle.mux_tokens.specs.Stands.{AreFresh, CreatedStand, CreatedStay, TokensStand, TokensStay, Up}
use Rattle.mux_tokens.proofs.Finding.{all_so, spread_still}
use Rattle.mux_tokens.proofs.Leaving.{all_left, up_left}
use Rattle.mux_tokens.proofs.Rows.{at_less, num_back, num_itself, num_same, of_changed, of_edited, up_changed, up_edited, up_less}
use Rattle.mux_tokens.proofs.Stays.{passes_by, passes_stay}
use Rattle.mux_tokens.proofs.Steps.{answered_stand, asked_stand, created_stand, left_stand, none_stand, told_stand}

pub created_more : (settings : Settings) (s : ℕ) (events : List Event) (ev : Event) → created_of settings s (events ++ ev ∷ []) ≡ created_next settings s events (created_of settings s events) ev
created_more settings s events ev = past_more (created_next settings s) [] no_created events ev

-- Nothing happened

pub created_begins : (settings : Settings) → CreatedStand settings [] []
created_begins settings = record { each = λ s. none_stand; rise = tt }

module _ (settings : Settings) (rows : Rows) (events : List Event) (ev : Event) where
  abbrev later : List Event
  later = events ++ ev ∷ []

  abbrev next_of : ℕ → Created
  next_of s = created_next settings s events (created_of settings s events) ev

  -- nothing happens to them
  pub stay_stands : TokensStay settings events ev → CreatedStand settings rows events → CreatedStand settings rows later
  stay_stands same st = record { each = λ s. subst (λ (x : Created). TokensStand x (table_of s rows)) (sym (created_more settings s events ev ∙ same s)) (st.each s); rise = st.rise }

  -- something happens to all
  all_move : (new : Rows) → ((s : ℕ) → TokensStand (next_of s) (table_of s new)) → Up 0 new → CreatedStand settings new later
  all_move new go up = record { each = λ s. subst (λ (x : Created). TokensStand x (table_of s new)) (sym (created_more settings s events ev)) (go s); rise = up }

  -- something happens to those of one start
  module _ (s : ℕ) (others : (n : ℕ) → nat_eq n s ≡ false → CreatedStay settings n events ev) (f : Table → Table) (step : TokensStand (created_of settings s events) (table_of s rows) → TokensStand (next_of s) (f (table_of s rows))) (st : CreatedStand settings rows events) where
    one_by : (n : ℕ) (b : Bool) → nat_eq n s ≡ b → TokensStand (next_of n) (cond b (f (table_of s rows)) (table_of n rows))
    one_by n true is = subst (λ k. TokensStand (next_of k) (f (table_of s rows))) (sym (num_same n s is)) (step (st.each s))
    one_by n false is = subst (λ (x : Created). TokensStand x (table_of n rows)) (sym (others n is)) (st.each n)

    pub changed_moves : CreatedStand settings (changed s f rows) later
    changed_moves = all_move (changed s f rows) (λ n. subst (λ (t : Table). TokensStand (next_of n) t) (sym (of_changed s f rows n)) (one_by n (nat_eq n s) refl)) (up_changed s f rows st.rise)

    pub edited_moves : f nothing ≡ nothing → CreatedStand settings (edited s f rows) later
    edited_moves still = all_move (edited s f rows) (λ n. subst (λ (t : Table). TokensStand (next_of n) t) (sym (of_edited s f rows still n)) (one_by n (nat_eq n s) refl)) (up_edited s f rows st.rise)

  -- an editor leaves
  pub left_moves : (e : ℕ) → ((s : ℕ) → next_of s ≡ left e (created_of settings s events)) → IsStrictlySortedBy nat_cmp (keys_of rows) → CreatedStand settings rows events → CreatedStand settings (left_each e (keys_of rows) rows) later
  left_moves e goes sorted st = all_move (left_each e (keys_of rows) rows)
      (λ s. subst (λ (t : Table). TokensStand (next_of s) t) (sym (all_left e rows sorted s)) (subst (λ (x : Created). TokensStand x (table.left e (table_of s rows))) (sym (goes s)) (left_stand (created_of settings s events) (table_of s rows) e (st.each s))))
      (up_left e rows sorted st.rise)

  -- a start is over
  pub over_moves : (s : ℕ) → next_of s ≡ no_created → ((n : ℕ) → nat_eq n s ≡ false → CreatedStay settings n events ev) → CreatedStand settings rows events → CreatedStand settings (less s rows) later
  over_moves s gone others st = all_move (less s rows) (λ n. subst (λ (t : Table). TokensStand (next_of n) t) (sym (ap table_in (at_less n s 0 rows st.rise))) (go n (nat_eq n s) refl)) (up_less s 0 rows st.rise)
    where
      go : (n : ℕ) (b : Bool) → nat_eq n s ≡ b → TokensStand (next_of n) (table_in (cond b None (at n rows)))
      go n true is = subst (λ (x : Created). TokensStand x nothing) (sym (ap next_of (num_same n s is) ∙ gone)) none_stand
      go n false is = subst (λ (x : Created). TokensStand x (table_of n rows)) (sym (others n is)) (st.each n)

-- By events

abbrev pub number_of : Option Token → Option ℕ
number_of o = option_map (λ (t : Token). t.number) o

-- what a request creates has the next number, and hasn't begun
pub next_token : (body : List ℕ) (x : Created) (t : Token) → created_token body x ≡ Some t → (t.number ≡ x.next) × (t.begin ≡ None)
next_token body x t = go (may_create body x) (named_token (params_of body))
  where
    none : ◌≡◌ {A = Option Token} None (Some t) → (t.number ≡ x.next) × (t.begin ≡ None)
    none h = absurd (cc)

    by : (id : Id) (c : Bool) (w : Option (List ℕ)) → (if c then None else option_map (token_of x.next id) w) ≡ Some t → (t.number ≡ x.next) × (t.begin ≡ None)
    by id true w h = none h
    by id false None h = none h
    by id false (Some text) h = let same : token_of x.next id text ≡ t = cc in (ap (λ (u : Token). u.number) (sym same), ap (λ (u : Token). u.begin) (sym same))

    go : (b : Bool) (o : Option Id) → (if b then option_and_then (if_new body x) o else None) ≡ Some t → (t.number ≡ x.next) × (t.begin ≡ None)
    go true (Some id) h = by id (is_some (token_called (Some id) x)) (token_in (codes "token") body) h
    go true None h = none h
    go false o h = none h

-- S8: a start creates a token
module _ (settings : Settings) (rows : Rows) (events : List Event) (s : ℕ) (body method : List ℕ) (m : Message) where
  not_so : (n : ℕ) → nat_eq n s ≡ false → passes_by n (took (FromServer s body) m) ≡ true
  not_so n h = ap not (back h)
    where
      back : nat_eq n s ≡ false → nat_eq s n ≡ false
      back h = num_back s n ∙ h

  others_stay : (n : ℕ) → nat_eq n s ≡ false → CreatedStay settings n events (took (FromServer s body) m)
  others_stay n h = passes_stay settings n events (created_of settings n events) (took (FromServer s body) m) (not_so n h)

  pub create_moves : (id : Id) (params : Option Json) (new : Token) → m ≡ request id method params → is_creating method ≡ true → is_heard settings s events id ≡ true → created_token body (created_of settings s events) ≡ Some new
      → new.number ≡ (created_of settings s events).next → new.begin ≡ None → CreatedStand settings rows events → CreatedStand settings (changed s (created new.text) rows) (events ++ took (FromServer s body) m ∷ [])
  create_moves id params new says creates heard makes number unbegun st = changed_moves settings rows events (took (FromServer s body) m) s others_stay (created new.text)
      (λ h. subst (λ (x : Created). TokensStand x (created new.text (table_of s rows))) (sym step) (created_stand (created_of settings s events) (table_of s rows) new number unbegun h)) st
    where
      x : Created
      x = created_of settings s events

      step : created_next settings s events x (took (FromServer s body) m) ≡ with_token (Some new) x
      step = ap (λ k. created_next settings s events x (took (FromServer s body) k)) says
          ∙ (ap (λ b. if b && (is_creating method && is_heard settings s events id) then with_token (created_token body x) x else x) (num_itself s)
          ∙ (ap (λ b. if b && is_heard settings s events id then with_token (created_token body x) x else x) creates
          ∙ (ap (λ b. if b then with_token (created_token body x) x else x) heard ∙ ap (λ o. with_token o x) makes)))

  -- S13: it tells of one
  pub told_moves : (params : Option Json) (kind : Kind) (token : List ℕ) (found : Option Token) → m ≡ notification method params → is_progress method ≡ true → is_ready (life_of s events).stage ≡ true
      → token_called (named_token params) (created_of settings s events) ≡ found → table.number_in token (table_of s rows).names ≡ number_of found
      → table.is_begin kind ≡ is_begin params → table.is_end kind ≡ is_end params → CreatedStand settings rows events → CreatedStand settings (edited s (table.taken token body kind) rows) (events ++ took (FromServer s body) m ∷ [])
  told_moves params kind token found says tells ready called number begun ends st = edited_moves settings rows events (took (FromServer s body) m) s others_stay (table.taken token body kind) (λ h. go found called number h) st refl
    where
      x : Created
      x = created_of settings s events

      step : created_next settings s events x (took (FromServer s body) m) ≡ progressed body params (token_called (named_token params) x) x
      step = ap (λ k. created_next settings s events x (took (FromServer s body) k)) says
          ∙ (ap (λ b. if b && (is_progress method && is_ready (life_of s events).stage) then progressed body params (token_called (named_token params) x) x else x) (num_itself s)
          ∙ (ap (λ b. if b && is_ready (life_of s events).stage then progressed body params (token_called (named_token params) x) x else x) tells
          ∙ ap (λ b. if b then progressed body params (token_called (named_token params) x) x else x) ready))

      go : (o : Option Token) → token_called (named_token params) x ≡ o → table.number_in token (table_of s rows).names ≡ number_of o → TokensStand x (table_of s rows)
          → TokensStand (created_next settings s events x (took (FromServer s body) m)) (table.taken token body kind (table_of s rows))
      go None called number h = subst (λ (y : Created). TokensStand y (table.taken token body kind (table_of s rows))) (sym (step ∙ ap (λ o. progressed body params o x) called))
          (subst (λ o. TokensStand x (taken_to body kind o (table_of s rows))) (sym number) h)
      go (Some t) called number h = subst (λ (y : Created). TokensStand y (table.taken token body kind (table_of s rows))) (sym (step ∙ ap (λ o. progressed body params o x) called))
          (subst (λ o. TokensStand (progressed body params (Some t) x) (taken_to body kind o (table_of s rows))) (sym number) (by (named_token params) called))
        where
          by : (o : Option Id) → token_called o x ≡ Some t → TokensStand (progressed body params (Some t) x) (taken_to body kind (Some t.number) (table_of s rows))
          by None at = absurd (let e : ◌≡◌ {A = Option Token} None (Some t) = at in cc)
          by (Some id) at = told_stand x (table_of s rows) body params kind (is_called id) t at begun ends h

-- E19: an editor answers
pub answer_moves : (settings : Settings) (rows : Rows) (events : List Event) (s e n : ℕ) (body : List ℕ) (m : Message) (takes : Bool) → requests (codes "shutdown") m ≡ false
    → ((j : ℕ) → j < 2 ^ 64 → names (answered_id m) j ≡ nat_eq j n) → takes ≡ accepts m → ((k : ℕ) → nat_eq k s ≡ false → spoken e m (created_of settings k events) ≡ created_of settings k events)
    → CreatedStand settings rows events → CreatedStand settings (edited s (table.answered e n takes) rows) (events ++ took (FromEditor e body) m ∷ [])
answer_moves settings rows events s e n body m takes lives named accepted others st = edited_moves settings rows events (took (FromEditor e body) m) s others (table.answered e n takes)
    (λ h. subst (λ (x : Created). TokensStand x (table.answered e n takes (table_of s rows))) (sym step) (answered_stand (created_of settings s events) (table_of s rows) e n m takes named accepted h)) st refl
  where
    step : spoken e m (created_of settings s events) ≡ answered e m (created_of settings s events)
    step = ap (λ b. if b then left e (created_of settings s events) else answered e m (created_of settings s events)) lives

-- S8 and L2: an editor is asked to take a token of a start, of which alone the text is
pub asked_moves : (settings : Settings) (rows : Rows) (events : List Event) (s e : ℕ) (body method : List ℕ) (m : Message) (id : Id) (params : Option Json) (token : Token) → m ≡ request id method params → is_creating method ≡ true
    → token_marked s params (created_of settings s events) ≡ Some token → find (is_numbered token.number) (created_of settings s events).tokens ≡ Some token
    → ((n : ℕ) → nat_eq n s ≡ false → token_marked n params (created_of settings n events) ≡ None) → next_ask e events < 2 ^ 64 → AreFresh e (next_ask e events) token.number (created_of settings s events).takings
    → CreatedStand settings rows events → CreatedStand settings (changed s (put_to token.number e (next_ask e events)) rows) (events ++ did (ToEditor e body) m ∷ [])
asked_moves settings rows events s e body method m id params token says creates marked live others small fresh st =
    changed_moves settings rows events (did (ToEditor e body) m) s (λ n h. step n ∙ ap (λ o. with_asked e (next_ask e events) o (created_of settings n events)) (others n h)) (put_to token.number e (next_ask e events))
    (λ h. subst (λ (x : Created). TokensStand x (put_to token.number e (next_ask e events) (table_of s rows))) (sym (step s ∙ ap (λ o. with_asked e (next_ask e events) o (created_of settings s events)) marked))
    (asked_stand (created_of settings s events) (table_of s rows) e (next_ask e events) token live small fresh h)) st
  where
    step : (n : ℕ) → created_next settings n events (created_of settings n events) (did (ToEditor e body) m) ≡ with_asked e (next_ask e events) (token_marked n params (created_of settings n events)) (created_of settings n events)
    step n = ap (λ k. created_next settings n events (created_of settings n events) (did (ToEditor e body) k)) says
        ∙ ap (λ b. if b then with_asked e (next_ask e events) (token_marked n params (created_of settings n events)) (created_of settings n events) else created_of settings n events) creates

-- a response that names no number answers nothing
pub unnamed_answers : (settings : Settings) (rows : Rows) (events : List Event) (s e : ℕ) (m : Message) → ((j : ℕ) → j < 2 ^ 64 → names (answered_id m) j ≡ false) → CreatedStand settings rows events → answered e m (created_of settings s events) ≡ created_of settings s events
unnamed_answers settings rows events s e m named st =
    let x : Created = created_of settings s events in
    ap (λ cs. record { next = x.next; tokens = x.tokens; takings = cs }) (spread_still (is_answered e (answered_id m)) (settled m x) x.takings
    (all_so (λ (c : Taking). c.number < 2 ^ 64) (λ c. is_answered e (answered_id m) c ≡ false) (λ c h. ap (λ b. not c.accepted && (is_with e c && b)) (named c.number h) ∙ off c.accepted (is_with e c)) x.takings (st.each s).small))
  where
    off : (a b : Bool) → (not a && (b && false)) ≡ false
    off true b = refl
    off false true = refl
    off false false = refl
