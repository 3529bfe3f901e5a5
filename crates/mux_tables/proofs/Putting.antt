-- Editors are asked what a start asks (S9, S11, S12).
use Rattle.std.proofs.Common.{◌≡◌, ℕ, ◌+◌, ◌<◌, ◌^◌, Bool, true, false, ◌&&◌, List, [], ◌∷◌, ◌++◌, length, refl, ap, sym, subst, ◌∙◌, nat_eq, nat_lt, decimal, arith, if◌then◌else◌}
use Rattle.std.specs.Prelude.{Option, Some, None, slice_get, slice_set}
use Rattle.std.specs.List.{AllByRecursion, list_any}
use Rattle.std.proofs.lemmas.Bool.{ne_eqb}
use Rattle.std.proofs.lemmas.Bool.Decides.{nat_tests}
use Rattle.std.proofs.lemmas.List.{map-append}
use Rattle.std.proofs.lemmas.Option.{slice_get-get_or}
use Rattle.json_text.specs.Json.{Json}
use Rattle.ask_route.specs.declared.ask.Ask as route
use Rattle.ask_route.specs.Tables as asks
use Rattle.mux_history.specs.declared.out.Out.{Out}
use Rattle.mux_history.specs.declared.out.Out.TheVariants.{ToEditor}
use Rattle.rpc_message.specs.Message.{Id, Message, integer, message_of, request, same_id}
use Rattle.rpc_message.specs.Texts.{with_id_text}
use Rattle.rpc_message.proofs.Decimals.{decimal_wide_law}
use Rattle.rpc_message.proofs.Ids.{request_with_id}
use Rattle.event_model.specs.declared.phase.Phase.{Phase}
use Rattle.event_model.specs.declared.phase.Phase.TheVariants.{Running}
use Rattle.event_model.specs.declared.stage.Stage.{Stage}
use Rattle.event_model.specs.declared.stage.Stage.TheVariants.{Ready}
use Rattle.event_model.specs.Does.{Does}
use Rattle.event_model.specs.Event.{Event, behind, did, said}
use Rattle.event_model.specs.Phases.{Desk, desk_behind, desk_of, is_running, phase_told}
use Rattle.event_model.specs.Row.{Row, choose, nothing, send}
use Rattle.event_model.specs.Settings.{Settings}
use Rattle.event_model.specs.Spawns.{group_behind, start_behind}
use Rattle.event_model.proofs.Frames.{never, one_more}
use Rattle.event_model.proofs.Turns.{does_false, does_knowing, does_look, does_true}
use Rattle.editor_session.specs.declared.session.Session.{Session}
use Rattle.editor_session.specs.Sessions as sessions
use Rattle.editor_session.specs.Sessions.{absent, is_gone, session_of, unless_gone, with_session}
use Rattle.group_words.proofs.Frames.{itself}
use Rattle.group_laws.specs.group_rows.specs.AskRows.{ask}
use Rattle.group_laws.specs.group_rows.specs.Asks.{Parked, Ask, Asking, asked_next, asking_next, asking_of, asks_of, has_number, is_own_work, is_patient, is_under, next_ask, parked_of, serves, waits_under}
use Rattle.mux_tables.specs.declared.tables.Start.{Start}
use Rattle.mux_tables.specs.declared.tables.Tables.{Tables}
use Rattle.mux_tables.specs.Documents.{DocumentsStand, Owed}
use Rattle.mux_tables.specs.Puts.{IsAtWork, IsNextAsk}
use Rattle.mux_tables.specs.Stands.{AreApart, AsksAt, AsksStand, CountStands, EditorsStand, HasText, IsOther, Part, of_life, of_ids, of_shown, of_stop, of_asks, of_parked, of_live, of_lists, ParkedAt, ParkedStand, PartStands, Stands, WasAsked, is_beside, is_request, kept_ask, phase_in}
use Rattle.mux_tables.proofs.Apart.{id_flip}
use Rattle.mux_tables.proofs.Asking.{asking_more, asks_later}
use Rattle.mux_tables.proofs.Counted.{asked_more, next_more}
use Rattle.mux_tables.proofs.DocumentEvents.{shared_quiet}
use Rattle.mux_tables.proofs.DocumentMoves.{documents_all, documents_last, rest_quiet, set_same}
use Rattle.mux_tables.proofs.DocumentSaid.{documents_said}
use Rattle.mux_tables.proofs.Frames.{part_quiet}
use Rattle.mux_tables.proofs.Lasts.{asked_last, same_place}
use Rattle.group_laws.specs.group_rows.specs.Created.{created_of, is_creating}
use Rattle.mux_tokens.proofs.Stays.{called_stays}
use Rattle.mux_tables.proofs.TokenMoves.{origins_stay}
use Rattle.mux_tables.proofs.Moves.{house_and_lasts, house_moves}
use Rattle.mux_tables.proofs.Noting.{left_stays}
use Rattle.mux_tables.proofs.Refusing.{ready_asks, rest_same, same_does, same_stands}
use Rattle.mux_tables.proofs.Said.{asked_editors, called_stay, does_send, idle_stay, told_house}
use Rattle.mux_tables.proofs.Waiting.{all_then, none_any, none_either, parked_beside, ready_parked}
use Rattle.mux_waits.proofs.Moves.{silent_waits}
use Rattle.event_model.specs.Requests.{answered_id}

pub running_there : (p : Phase) → is_running p ≡ true → is_gone p ≡ false
running_there Running h = refl
running_there other h = never (sym h)

pub running_told : (p : Phase) (i : List ℕ) (m : Message) → is_running p ≡ true → phase_told p i m ≡ p
running_told Running i m h = refl
running_told other i m h = never (sym h)

pub below : (m : ℕ) → nat_lt m (2 ^ 64) ≡ true → m < 2 ^ 64
below m h = grind (arith, nat_tests)

-- the number of the next request to an editor that runs
module _ (settings : Settings) (t : List Session) (events : List Event) (e : ℕ) (l : e < length t) (runs : is_running (desk_of e events).phase ≡ true) (s : EditorsStand settings t events) where
  abbrev x : Session
  x = session_of t e

  here : slice_get t e ≡ Some x
  here = slice_get-get_or t e absent l

  own : (desk_of e events).phase ≡ x.phase
  own = s.phase e ∙ ap phase_in here

  pub there : is_gone x.phase ≡ false
  there = running_there x.phase (ap is_running (sym own) ∙ runs)

  counted : next_ask e events ≡ x.asks + 1
  counted = let was : CountStands (Some x) (next_ask e events) = subst (λ (o : Option Session). CountStands o (next_ask e events)) here (s.asked e) in was there

  given : (o : Option ℕ) → o ≡ sessions.next_ask x → o ≡ sessions.number_of x
  given o is = is ∙ ap (λ b. if b then None else sessions.number_of x) there

  left : has_number e events ≡ sessions.has_number x
  left = ap (λ n. nat_lt n (2 ^ 64)) counted

  none_there : ◌≡◌ {A = Option ℕ} None (sessions.next_ask x) → sessions.has_number x ≡ false
  none_there is = go (sessions.has_number x) (given None is)
    where
      go : (b : Bool) → ◌≡◌ {A = Option ℕ} None (if b then Some (x.asks + 1) else None) → b ≡ false
      go false h = refl
      go true h = absurd (cc)

  pub none_left : ◌≡◌ {A = Option ℕ} None (sessions.next_ask x) → has_number e events ≡ false
  none_left is = left ∙ none_there is

  none_set : ◌≡◌ {A = Option ℕ} None (sessions.next_ask x) → with_session t e (unless_gone sessions.asked x) ≡ t
  none_set is = ap (with_session t e) (ap (λ b. if b then x else sessions.asked x) there ∙ ap (λ b. if b then record x { asks = x.asks + 1 } else x) (none_there is)) ∙ set_same t e x here

  one_there : (n : ℕ) → Some n ≡ sessions.next_ask x → (n ≡ x.asks + 1) × (sessions.has_number x ≡ true)
  one_there n is = go (sessions.has_number x) refl (given (Some n) is)
    where
      go : (b : Bool) → sessions.has_number x ≡ b → ◌≡◌ {A = Option ℕ} (Some n) (if b then Some (x.asks + 1) else None) → (n ≡ x.asks + 1) × (sessions.has_number x ≡ true)
      go true has h = (same_place h, has)
      go false has h = absurd (cc)

  pub one_left : (n : ℕ) → Some n ≡ sessions.next_ask x → (n ≡ next_ask e events) × (has_number e events ≡ true)
  one_left n is = ((one_there n is).0 ∙ sym counted, left ∙ (one_there n is).1)

  one_set : (n : ℕ) → Some n ≡ sessions.next_ask x → with_session t e (unless_gone sessions.asked x) ≡ with_session t e (record x { asks = x.asks + 1 })
  one_set n is = ap (with_session t e) (ap (λ b. if b then x else sessions.asked x) there ∙ ap (λ b. if b then record x { asks = x.asks + 1 } else x) (one_there n is).1)

  -- it is asked under it
  pub asked_so : (u : List Session) (text : List ℕ) (n : ℕ) → Some n ≡ sessions.next_ask x → is_request (message_of text) ≡ true → u ≡ with_session t e (unless_gone sessions.asked x) → EditorsStand settings u (events ++ said (ToEditor e text) ∷ [])
  asked_so u text n is asks set = subst (λ z. EditorsStand settings z (events ++ said (ToEditor e text) ∷ [])) (sym (set ∙ one_set n is))
      (asked_editors settings events e text t l (ap (λ (d : Desk). d.phase) (one_more (desk_behind e) _ _ events (said (ToEditor e text)) refl) ∙ (rw (itself e) (running_told (desk_of e events).phase (desk_of e events).initialize (message_of text) runs) ∙ own)) asks s)

-- the body under that number
pub text_says : (body text method : List ℕ) (id : Id) (ps : Option Json) (n : ℕ) → n < 2 ^ 64 → message_of body ≡ request id method ps → text ≡ with_id_text body (decimal n) → message_of text ≡ request (integer (decimal n)) method ps
text_says body text method id ps n small says writes = ap message_of writes ∙ request_with_id body (decimal n) id (integer (decimal n)) method ps says (decimal_wide_law n (omega arith))

-- the row, by whether a number is left
module _ (settings : Settings) (t u : Tables) (base : List Event) (xs : List Out) (e : ℕ) (body : List ℕ) (l : e < length t.editors) (runs : is_running (desk_of e (behind base xs)).phase ≡ true)
    (set : u.editors ≡ with_session t.editors e (unless_gone sessions.asked (session_of t.editors e))) (gs : u.groups ≡ t.groups) (time : u.course ≡ t.course) (os : u.origins ≡ t.origins) (r : u.requests ≡ t.requests) where
  abbrev now : List Event
  now = behind base xs

  abbrev row : List Event → Row
  row events = choose (has_number e events) (send (ToEditor e (with_id_text body (decimal (next_ask e events))))) nothing

  abbrev asks_it : Row
  asks_it = send (ToEditor e (with_id_text body (decimal (next_ask e now))))

  pub unasked_does : (o : Option ℕ) → o ≡ None → o ≡ sessions.next_ask (session_of t.editors e) → u.lasts.items ≡ t.lasts.items → Does (λ t events. Stands settings t events) (ask body e) base t xs u xs
  unasked_does o none is ls = does_knowing {Stands = λ t events. Stands settings t events} (λ st.
      let off = none_left settings t.editors now e l runs st.house.editors (sym none ∙ is) in
      let same = set ∙ none_set settings t.editors now e l runs st.house.editors (sym none ∙ is) in
      does_look {Stands = λ t events. Stands settings t events} {f = row} (λ _. ap (λ b. choose b asks_it nothing) off)
      (does_false {Stands = λ t events. Stands settings t events} (same_does settings base t u xs (λ events. same_stands settings t u events ls same gs time os r))))

  pub asked_does : (ys : List Out) (n : ℕ) (text : List ℕ) → Some n ≡ sessions.next_ask (session_of t.editors e) → text ≡ with_id_text body (decimal n) → ys ≡ xs ++ ToEditor e text ∷ []
      → (n ≡ next_ask e now → n < 2 ^ 64 → Stands settings t now → Stands settings u (now ++ said (ToEditor e text) ∷ [])) → Does (λ t events. Stands settings t events) (ask body e) base t xs u ys
  asked_does ys n text is writes said_so go = does_knowing {Stands = λ t events. Stands settings t events} (λ st.
      let k = one_left settings t.editors now e l runs st.house.editors n is in
      let same : text ≡ with_id_text body (decimal (next_ask e now)) = writes ∙ ap (λ m. with_id_text body (decimal m)) k.0 in
      let small : n < 2 ^ 64 = subst (λ m. m < 2 ^ 64) (sym k.0) (below (next_ask e now) k.1) in
      does_look {Stands = λ t events. Stands settings t events} {f = row} (λ _. ap (λ b. choose b asks_it nothing) k.1)
      (does_true {Stands = λ t events. Stands settings t events} (subst (λ w. Does (λ t events. Stands settings t events) (send (ToEditor e w)) base t xs u ys) same (does_send settings (ToEditor e text) base t u xs ys said_so (go k.0 small)))))

  -- S9: nothing is kept of it
  pub question_does : (ys : List Out) (n : ℕ) (text method : List ℕ) (id : Id) (ps : Option Json) → ((s : ℕ) → (asking_of settings s now).asker ≡ None) → message_of body ≡ request id method ps → is_creating method ≡ false → is_patient method ≡ false → Some n ≡ sessions.next_ask (session_of t.editors e) → text ≡ with_id_text body (decimal n)
      → u.lasts ≡ t.lasts → ys ≡ xs ++ ToEditor e text ∷ [] → Does (λ t events. Stands settings t events) (ask body e) base t xs u ys
  question_does ys n text method id ps idle says creates impatient is writes ls said_so = asked_does ys n text is writes said_so (λ next small.
      house_moves settings t u now (said (ToEditor e text)) (λ m. refl) (λ m. called_stay settings m e now text method (integer (decimal n)) ps (text_says body text method id ps n small says writes) impatient (idle m)) refl (ap (λ v. v.items) ls)
      (origins_stay settings t.origins u.origins now (said (ToEditor e text)) os (λ m. called_stays settings m e now (created_of settings m now) text method (message_of text) (integer (decimal n)) ps (text_says body text method id ps n small says writes) creates) (λ rows. silent_waits settings now e text (message_of text) rows (ap answered_id (text_says body text method id ps n small says writes)))) r
      (λ h. told_house settings now e text t u (asked_so settings t.editors now e l runs h.editors u.editors text n is (ap is_request (text_says body text method id ps n small says writes)) set) gs time h))

-- What is kept of it

apart_then : (a : Ask) (qs : List Ask) → AreApart qs → AllByRecursion (λ b. IsOther b a) qs → AreApart (qs ++ a ∷ [])
apart_then a [] h k = (tt, tt)
apart_then a (q ∷ qs) h k = (all_then (IsOther q) qs a h.0 k.0, apart_then a qs h.1 k.1)

and_off : (a : Bool) → (a && false) ≡ false
and_off true = refl
and_off false = refl

-- its number is the next one of its editor, and its id is new at the start
module _ (events : List Event) (a : Ask) (next : a.number ≡ next_ask a.editor events) where
  beside : (b : Ask) → b.number < next_ask b.editor events → is_beside b a ≡ false
  beside b l = go (nat_eq a.editor b.editor) refl
    where
      go : (c : Bool) → nat_eq a.editor b.editor ≡ c → (nat_eq a.editor b.editor && nat_eq a.number b.number) ≡ false
      go false is = ap (λ d. d && nat_eq a.number b.number) is
      go true is =
          let editor : a.editor ≡ b.editor = grind (arith, nat_tests) in
          let less : b.number < a.number = subst (λ m. b.number < m) (ap (λ k. next_ask k events) (sym editor) ∙ sym next) l in
          ap (λ d. nat_eq a.editor b.editor && d) (ne_eqb a.number b.number (λ q. absurd (omega (arith, q, less)))) ∙ and_off (nat_eq a.editor b.editor)

  others : (qs : List Ask) → AllByRecursion (WasAsked events) qs → list_any (is_under (Some a.id)) qs ≡ false → AllByRecursion (λ b. IsOther b a) qs
  others [] h free = tt
  others (b ∷ qs) h free =
      let k = none_either (same_id a.id b.id) (list_any (is_under (Some a.id)) qs) free in
      ((beside b h.0.0, id_flip b.id a.id k.0), others qs h.1 k.1)

  pub put_stands : (later : List Event) (qs : List Ask) (kept : List route.Ask) → AsksStand events qs kept → AsksStand later qs kept → HasText a → WasAsked later a → list_any (is_under (Some a.id)) qs ≡ false → AsksStand later (qs ++ a ∷ []) (kept ++ kept_ask a ∷ [])
  put_stands later qs kept s k text was free = record {
    same = ap (λ ks. ks ++ kept_ask a ∷ []) s.same ∙ sym (map-append kept_ask qs (a ∷ []));
    texts = all_then HasText qs a s.texts text;
    asked = all_then (WasAsked later) qs a k.asked was;
    apart = apart_then a qs s.apart (others qs s.asked free);
  }

-- S11, S12 and V3: the editor is asked alone
module _ (settings : Settings) (t u : Tables) (base : List Event) (xs : List Out) (g e : ℕ) (z : Start) (text method bytes : List ℕ) (id : Id) (ps : Option Json) (l : e < length t.editors) (runs : is_running (desk_of e (behind base xs)).phase ≡ true)
    (asks_next : IsNextAsk e (behind base xs) method ps text) where
  abbrev before : List Event
  before = behind base xs

  -- a number is left
  pub untaken_does : {row : Row} (v : Tables) (ys : List Out) → ◌≡◌ {A = Option ℕ} None (sessions.next_ask (session_of t.editors e)) → Does (λ t events. Stands settings t events) row base t xs v ys
  untaken_does v ys is = does_knowing {Stands = λ t events. Stands settings t events} (λ st. never (sym asks_next.left ∙ none_left settings t.editors before e l runs st.house.editors is))

  module _ (n : ℕ) (kept : List route.Ask)
      (set : u.editors ≡ with_session t.editors e (unless_gone sessions.asked (session_of t.editors e))) (gs : u.groups ≡ t.groups) (time : u.course ≡ t.course) (os : u.origins ≡ t.origins) (r : u.requests ≡ t.requests)
      (at : slice_get t.lasts.items g ≡ Some z) (ready : z.life.stage ≡ Ready) (lasts : u.lasts.items ≡ slice_set t.lasts.items g (record z { asks = kept })) (puts : kept ≡ z.asks ++ asks.asked e n bytes ∷ [])
      (work : IsAtWork settings z.life.start id bytes (behind base xs)) (creates : is_creating method ≡ false) where
    abbrev ev : Event
    ev = said (ToEditor e text)

    abbrev qs : List Ask
    qs = asks_of settings z.life.start before

    abbrev ps_now : List Parked
    ps_now = parked_of settings z.life.start before

    abbrev a : Ask
    a = record { id = id; bytes = bytes; editor = e; number = n }

    module _ (next : n ≡ next_ask e before) (small : n < 2 ^ 64) where
      says_it : message_of text ≡ request (integer (decimal n)) method ps
      says_it = asks_next.says ∙ ap (λ m. request (integer (decimal m)) method ps) (sym next)

      asked : asking_of settings z.life.start (before ++ ev ∷ []) ≡ asked_next (is_own_work e (asking_of settings z.life.start before).runs && (is_patient method && serves settings before z.life.start e)) e n (asking_of settings z.life.start before) (Some (record { id = id; bytes = bytes }))
      asked = asking_more settings z.life.start before ev
          ∙ (ap (λ m. asking_next settings z.life.start before (asking_of settings z.life.start before) (did (ToEditor e text) m)) says_it
          ∙ (ap (λ o. asked_next (is_own_work e (asking_of settings z.life.start before).runs && (is_patient method && serves settings before z.life.start e)) e (next_ask e before) (asking_of settings z.life.start before) o) work.asker
          ∙ ap (λ k. asked_next (is_own_work e (asking_of settings z.life.start before).runs && (is_patient method && serves settings before z.life.start e)) e k (asking_of settings z.life.start before) (Some (record { id = id; bytes = bytes }))) (sym next)))

      more : asks_of settings z.life.start (before ++ ev ∷ []) ≡ qs ++ a ∷ []
      more = ap (λ (w : Asking). w.asks) asked

      still : parked_of settings z.life.start (before ++ ev ∷ []) ≡ ps_now
      still = ap (λ (w : Asking). w.parked) asked

      untaken_so : (list_any (is_under (Some id)) qs ≡ false) × (list_any (waits_under (Some id)) ps_now ≡ false)
      untaken_so = none_either (list_any (is_under (Some id)) qs) (list_any (waits_under (Some id)) ps_now) work.fresh

      waits : ParkedStand qs ps_now z.parked → ParkedStand (asks_of settings z.life.start (before ++ ev ∷ [])) (parked_of settings z.life.start (before ++ ev ∷ [])) z.parked
      waits s = subst (λ bs. ParkedStand bs (parked_of settings z.life.start (before ++ ev ∷ [])) z.parked) (sym more) (subst (λ ws. ParkedStand (qs ++ a ∷ []) ws z.parked) (sym still)
          (parked_beside qs a ps_now z.parked (none_any (waits_under (Some id)) ps_now untaken_so.1) s))

      was : WasAsked (before ++ ev ∷ []) a
      was =
          let k : next_ask e (before ++ ev ∷ []) ≡ next_ask e before + 1 = next_more e before ev ∙ asked_more e (next_ask e before) text (message_of text) (ap is_request says_it) in
          (omega (arith, k, next), small)

      stands : AsksStand before qs z.asks → AsksStand (before ++ ev ∷ []) (asks_of settings z.life.start (before ++ ev ∷ [])) kept
      stands s = subst (λ bs. AsksStand (before ++ ev ∷ []) bs kept) (sym more) (subst (λ ks. AsksStand (before ++ ev ∷ []) (qs ++ a ∷ []) ks) (sym puts)
          (put_stands before a next (before ++ ev ∷ []) qs z.asks s (asks_later Ready before ev qs z.asks s) work.text was untaken_so.0))

      part : (p : Part) → PartStands p settings t.requests z before → PartStands p settings t.requests (record z { asks = kept }) (before ++ ev ∷ [])
      part of_life h = part_quiet of_life settings t.requests z before ev refl h
      part of_ids h = part_quiet of_ids settings t.requests z before ev refl h
      part of_shown h = part_quiet of_shown settings t.requests z before ev refl h
      part of_stop h = part_quiet of_stop settings t.requests z before ev refl h
      part of_asks h = subst (λ (k : Stage). AsksAt k (before ++ ev ∷ []) (asks_of settings z.life.start (before ++ ev ∷ [])) kept) (sym ready) (stands (ready_asks z.life.stage before qs z.asks ready h))
      part of_parked h = subst (λ (k : Stage). ParkedAt k (asks_of settings z.life.start (before ++ ev ∷ [])) (parked_of settings z.life.start (before ++ ev ∷ [])) z.parked) (sym ready) (waits (ready_parked z.life.stage qs ps_now z.parked ready h))
      part of_live h = part_quiet of_live settings t.requests z before ev refl h
      part of_lists h = part_quiet of_lists settings t.requests z before ev refl h

      moves : Some n ≡ sessions.next_ask (session_of t.editors e) → Stands settings t before → Stands settings u (before ++ ev ∷ [])
      moves is st = house_and_lasts settings t u before ev (λ m. refl) refl (origins_stay settings t.origins u.origins before ev os (λ m. called_stays settings m e before (created_of settings m before) text method (message_of text) (integer (decimal n)) ps says_it creates) (λ rows. silent_waits settings before e text (message_of text) rows (ap answered_id says_it))) r
          (λ origins ls. asked_last settings t.requests t.origins.groups.items t.lasts.items u.lasts.items before ev g z (record z { asks = kept }) (λ m. refl) (λ m away. idle_stay settings m e before text (work.others m away)) refl at lasts refl origins
          (λ s. record { start = one_more (start_behind z.life.group) _ _ before ev s.start; home = one_more (group_behind z.life.start) _ _ before ev s.home; own = s.own; parts = λ p. part p (s.parts p) }) ls)
          (λ h. told_house settings before e text t u (asked_so settings t.editors before e l runs h.editors u.editors text n is (ap is_request says_it) set) gs time h) st

    pub put_does : (ys : List Out) → Some n ≡ sessions.next_ask (session_of t.editors e) → ys ≡ xs ++ ToEditor e text ∷ [] → Does (λ t events. Stands settings t events) (send (ToEditor e text)) base t xs u ys
    put_does ys is said_so = does_knowing {Stands = λ t events. Stands settings t events} (λ st.
        let k = one_left settings t.editors before e l runs st.house.editors n is in
        does_send settings (ToEditor e text) base t u xs ys said_so (moves k.0 (subst (λ m. m < 2 ^ 64) (sym k.0) (below (next_ask e before) k.1)) is))

-- a message under that number
pub next_says : (body text method : List ℕ) (id : Id) (ps : Option Json) (e n : ℕ) (events : List Event) → has_number e events ≡ true → n ≡ next_ask e events → message_of body ≡ request id method ps → text ≡ with_id_text body (decimal n) → IsNextAsk e events method ps text
next_says body text method id ps e n events left next says writes = record {
  left = left;
  says = text_says body text method id ps n (subst (λ m. m < 2 ^ 64) (sym next) (below (next_ask e events) left)) says writes ∙ ap (λ m. request (integer (decimal m)) method ps) next;
}

-- the next number, as it is looked up
pub next_seen : (settings : Settings) (t : List Session) (events : List Event) (e : ℕ) (o : Option ℕ) → e < length t → is_running (desk_of e events).phase ≡ true → EditorsStand settings t events → o ≡ sessions.next_ask (session_of t e) → o ≡ (if has_number e events then Some (next_ask e events) else None)
next_seen settings t events e o l runs s is = given settings t events e l runs s o is ∙ (ap (λ b. if b then Some ((session_of t e).asks + 1) else None) (sym (left settings t events e l runs s)) ∙ ap (λ m. if has_number e events then Some m else None) (sym (counted settings t events e l runs s)))

-- The documents of the groups

pub unasked_documents : (settings : Settings) (owed : Owed) (t u : Tables) (events : List Event) → u.lasts ≡ t.lasts → u.documents ≡ t.documents → u.versions ≡ t.versions → DocumentsStand settings owed t events → DocumentsStand settings owed u events
unasked_documents settings owed t u events ls ds vs s = documents_all settings owed owed t u events events (rest_same settings t events) vs (ap (λ v. v.items) ls) (ap (λ v. v.items) ds) (λ g x d at h. h) s

pub put_documents : (settings : Settings) (owed : Owed) (t u : Tables) (base : List Event) (xs ys : List Out) (g e : ℕ) (z : Start) (kept : List route.Ask) (text : List ℕ) → slice_get t.lasts.items g ≡ Some z → u.lasts.items ≡ slice_set t.lasts.items g (record z { asks = kept }) → u.documents ≡ t.documents → u.versions ≡ t.versions
    → ys ≡ xs ++ ToEditor e text ∷ [] → DocumentsStand settings owed t (behind base xs) → DocumentsStand settings owed u (behind base ys)
put_documents settings owed t u base xs ys g e z kept text at ls ds vs said_so =
    let ev = said (ToEditor e text) in
    documents_said settings owed owed t u (ToEditor e text) base xs ys said_so
    (documents_last settings owed owed t u (behind base xs) (behind base xs ++ ev ∷ []) (rest_quiet settings t (behind base xs) ev refl refl (left_stays (behind base xs) ev refl)) vs g z (record z { asks = kept }) at ls (ap (λ v. v.items) ds) (λ k. k)
    (λ d h. shared_quiet settings (behind base xs) (owed z.life.group) z.life.group z.life.start z.life.stage d ev refl (λ o own. refl) h)
    (λ j w c away here h. shared_quiet settings (behind base xs) (owed w.life.group) w.life.group w.life.start w.life.stage c ev refl (λ o own. refl) h))
