-- L2: what waits is asked of an editor that begins to run, one after the other.
use Rattle.std.proofs.Common.{◌≡◌, ℕ, ◌+◌, ◌<◌, ◌^◌, Bool, true, false, not, ◌&&◌, List, [], ◌∷◌, ◌++◌, filter, map, length, refl, ap, sym, subst, ◌∙◌, nat_eq, decimal, append-nil, append_assoc, arith, if◌then◌else◌}
use Rattle.std.specs.Prelude.{Option, Some, None, slice_get, slice_set}
use Rattle.std.specs.List.{AllByRecursion, list_any}
use Rattle.std.specs.Option.{option_and_then, option_map_or}
use Rattle.std.proofs.lemmas.Bool.Decides.{nat_tests}
use Rattle.std.proofs.lemmas.List.{length-set, map-append}
use Rattle.std.proofs.lemmas.Option.{slice_get-get_or, slice_get_within}
use Rattle.ask_route.specs.declared.ask.Ask as route
use Rattle.ask_route.specs.Tables as asks
use Rattle.mux_history.specs.declared.out.Out.{Out}
use Rattle.mux_history.specs.declared.out.Out.TheVariants.{ToEditor}
use Rattle.rpc_message.specs.Message.{Message, id_bytes, integer, message_of, request}
use Rattle.rpc_message.specs.Texts.{with_id_text}
use Rattle.event_model.specs.declared.stage.Stage.{Stage}
use Rattle.event_model.specs.declared.stage.Stage.TheVariants.{Ready}
use Rattle.event_model.specs.Does.{Does}
use Rattle.event_model.specs.Event.{Event, behind, did, said}
use Rattle.event_model.specs.Phases.{Desk, desk_behind, desk_of, is_running}
use Rattle.event_model.specs.Row.{each}
use Rattle.event_model.specs.Settings.{Settings}
use Rattle.event_model.specs.Spawns.{group_behind, start_behind, start_of}
use Rattle.event_model.proofs.Frames.{one_more}
use Rattle.event_model.proofs.Places.{get_set_same}
use Rattle.event_model.proofs.Turns.{behind_more, does_knowing, does_then}
use Rattle.editor_session.specs.declared.session.Session.{Session}
use Rattle.editor_session.specs.Sessions as sessions
use Rattle.editor_session.specs.Sessions.{absent, is_gone, session_of, unless_gone, with_session}
use Rattle.group_words.specs.Houses.{home_of}
use Rattle.group_words.proofs.Frames.{home_stays}
use Rattle.group_laws.specs.group_rows.specs.AskRows.{ask}
use Rattle.group_laws.specs.group_rows.specs.Asks.{Ask, Asker, Asking, Parked, asked_next, asking_next, asking_of, asks_of, is_own_work, is_patient, is_under, next_ask, parked_of, serves, unparked}
use Rattle.restart_replay.specs.Standings.{Standing}
use Rattle.mux_tables.specs.declared.tables.Start.{Start}
use Rattle.mux_tables.specs.declared.tables.Tables.{Tables}
use Rattle.mux_tables.specs.Resumes.{Resuming, all_resumed, renumbered}
use Rattle.mux_tables.specs.Stands.{AsksAt, AsksStand, AsksStay, IsWorking, MayWait, Part, of_life, of_ids, of_shown, of_stop, of_asks, of_parked, of_live, of_lists, ParkedAt, ParkedStand, PartStands, Stands, WasAsked, is_request, kept_parked}
use Rattle.mux_tables.proofs.Asking.{asking_more, asks_later}
use Rattle.mux_tables.proofs.Counted.{asked_more, next_more}
use Rattle.mux_tables.proofs.DocumentMoves.{set_same}
use Rattle.mux_tables.proofs.Frames.{itself, part_quiet}
use Rattle.mux_tables.proofs.Lasts.{asked_last}
use Rattle.group_laws.specs.group_rows.specs.Created.{created_of}
use Rattle.mux_tokens.proofs.Stays.{called_stays}
use Rattle.mux_tables.proofs.TokenMoves.{origins_stay, patient_creates}
use Rattle.mux_tables.proofs.Moves.{house_and_lasts}
use Rattle.mux_tables.proofs.Putting.{asked_does, asked_so, below, one_left, put_stands, running_told, text_says, unasked_does}
use Rattle.mux_tables.proofs.Refusing.{ready_asks, same_does, same_stands}
use Rattle.mux_tables.proofs.Said.{told_house}
use Rattle.mux_tables.proofs.Seated.{set_set}
use Rattle.mux_tables.proofs.Sent.{same_set}
use Rattle.mux_tables.proofs.Waiting.{parked_beside, parked_text, ready_parked}
use Rattle.mux_waits.proofs.Moves.{silent_waits}
use Rattle.event_model.specs.Requests.{answered_id}

-- The editor runs, is in this group, and its message is at work
pub record IsFacing (settings : Settings) (e g : ℕ) (events : List Event) : Type 0 where
  pub running : is_running (desk_of e events).phase ≡ true
  pub home : home_of settings e events ≡ Some g
  pub works : (s : ℕ) → IsWorking settings e s events

unparked_asker : (e n : ℕ) (x : Asking) (ps : List Parked) → (unparked e n x ps).asker ≡ x.asker
unparked_asker e n x [] = refl
unparked_asker e n x (p ∷ ps) = refl

unparked_runs : (e n : ℕ) (x : Asking) (ps : List Parked) → (unparked e n x ps).runs ≡ x.runs
unparked_runs e n x [] = refl
unparked_runs e n x (p ∷ ps) = refl

pub asker_stays : (b : Bool) (e n : ℕ) (x : Asking) (o : Option Asker) → (asked_next b e n x o).asker ≡ x.asker
asker_stays b e n x (Some a) = refl
asker_stays true e n x None = unparked_asker e n x x.parked
asker_stays false e n x None = refl

pub runs_stay : (b : Bool) (e n : ℕ) (x : Asking) (o : Option Asker) → (asked_next b e n x o).runs ≡ x.runs
runs_stay b e n x (Some a) = refl
runs_stay true e n x None = unparked_runs e n x x.parked
runs_stay false e n x None = refl

works_later : (settings : Settings) (e s : ℕ) (events : List Event) (text : List ℕ) (m : Message) → IsWorking settings e s events → ((asking_next settings s events (asking_of settings s events) (did (ToEditor e text) m)).asker ≡ None) × ((asking_next settings s events (asking_of settings s events) (did (ToEditor e text) m)).runs ≡ Some e)
works_later settings e s events text (request id method ps) w = (asker_stays _ e (next_ask e events) (asking_of settings s events) (asking_of settings s events).asker ∙ w.asker, runs_stay _ e (next_ask e events) (asking_of settings s events) (asking_of settings s events).asker ∙ w.runs)
works_later settings e s events text other w = (w.asker, w.runs)

facing_later : (settings : Settings) (e g : ℕ) (events : List Event) (text : List ℕ) → IsFacing settings e g events → IsFacing settings e g (events ++ said (ToEditor e text) ∷ [])
facing_later settings e g events text f = record {
  running = ap (λ (d : Desk). is_running d.phase) (one_more (desk_behind e) _ _ events (said (ToEditor e text)) refl)
      ∙ (rw (itself e) (ap is_running (running_told (desk_of e events).phase (desk_of e events).initialize (message_of text) f.running)) ∙ f.running);
  home = home_stays settings e events (said (ToEditor e text)) refl ∙ f.home;
  works = λ s.
      let k = works_later settings e s events text (message_of text) (f.works s) in
      let more = asking_more settings s events (said (ToEditor e text)) in
      record { asker = ap (λ (x : Asking). x.asker) more ∙ k.0; runs = ap (λ (x : Asking). x.runs) more ∙ k.1 };
}

any_none : {A : Type 0} (test : A → Bool) (xs : List A) → AllByRecursion (λ x. test x ≡ false) xs → list_any test xs ≡ false
any_none test [] h = refl
any_none test (x ∷ xs) h = rw (h.0) (any_none test xs h.1)

flip : (a b : ℕ) → nat_eq a b ≡ false → nat_eq b a ≡ false
flip a b h = grind (arith, nat_tests)

-- what waits first at the last start of the group, which is ready, is asked
module _ (settings : Settings) (t u : Tables) (base : List Event) (xs : List Out) (g e : ℕ) (z : Start) (p : Parked) (ps : List Parked) (n : ℕ) (text : List ℕ) (kept left : List route.Ask) (l : e < length t.editors) (faces : IsFacing settings e z.life.group (behind base xs))
    (set : u.editors ≡ with_session t.editors e (unless_gone sessions.asked (session_of t.editors e))) (gs : u.groups ≡ t.groups) (time : u.course ≡ t.course) (os : u.origins ≡ t.origins) (r : u.requests ≡ t.requests)
    (at : slice_get t.lasts.items g ≡ Some z) (ready : z.life.stage ≡ Ready) (lasts : u.lasts.items ≡ slice_set t.lasts.items g (record z { asks = kept; parked = left })) (puts : kept ≡ z.asks ++ asks.asked e n (id_bytes p.body) ∷ []) (stays : left ≡ map kept_parked ps)
    (writes : text ≡ with_id_text p.body (decimal n)) (waits : parked_of settings z.life.start (behind base xs) ≡ p ∷ ps) where
  abbrev before : List Event
  before = behind base xs

  abbrev ev : Event
  ev = said (ToEditor e text)

  abbrev qs : List Ask
  qs = asks_of settings z.life.start before

  abbrev a : Ask
  a = record { id = p.id; bytes = id_bytes p.body; editor = e; number = n }

  module _ (st : Stands settings t before) (next : n ≡ next_ask e before) (small : n < 2 ^ 64) where
    stood : ParkedStand qs (p ∷ ps) z.parked
    stood = subst (λ ws. ParkedStand qs ws z.parked) waits (ready_parked z.life.stage qs (parked_of settings z.life.start before) z.parked ready ((st.lasts.each g z at).parts of_parked))

    may : MayWait p
    may = stood.bodies.0

    says_it : message_of text ≡ request (integer (decimal n)) may.0 may.1
    says_it = text_says p.body text may.0 p.id may.1 n small may.2 writes

    serving : (s : ℕ) → serves settings before s e ≡ nat_eq s z.life.start
    serving s = ap (λ o. option_map_or (nat_eq s) (option_and_then (λ h. start_of h before) o) false) faces.home ∙ ap (λ o. option_map_or (nat_eq s) o false) (st.lasts.each g z at).start

    abbrev behind_it : ℕ → ℕ → Bool → Asking
    behind_it s k b = if b then unparked e k (asking_of settings s before) (parked_of settings s before) else asking_of settings s before

    asked : (s : ℕ) → asking_next settings s before (asking_of settings s before) ev ≡ behind_it s n (nat_eq s z.life.start)
    asked s = ap (λ m. asking_next settings s before (asking_of settings s before) (did (ToEditor e text) m)) says_it
        ∙ (ap (λ o. asked_next (is_own_work e (asking_of settings s before).runs && (is_patient may.0 && serves settings before s e)) e (next_ask e before) (asking_of settings s before) o) (faces.works s).asker
        ∙ (ap (λ o. behind_it s (next_ask e before) (is_own_work e o && (is_patient may.0 && serves settings before s e))) (faces.works s).runs
        ∙ (ap (λ b. behind_it s (next_ask e before) (b && (is_patient may.0 && serves settings before s e))) (itself e)
        ∙ (ap (λ b. behind_it s (next_ask e before) (b && serves settings before s e)) may.3
        ∙ (ap (λ b. behind_it s (next_ask e before) b) (serving s)
        ∙ ap (λ k. behind_it s k (nat_eq s z.life.start)) (sym next))))))

    own : asking_of settings z.life.start (before ++ ev ∷ []) ≡ unparked e n (asking_of settings z.life.start before) (p ∷ ps)
    own = asking_more settings z.life.start before ev ∙ (asked z.life.start ∙ (ap (behind_it z.life.start n) (itself z.life.start) ∙ ap (unparked e n (asking_of settings z.life.start before)) waits))

    more : asks_of settings z.life.start (before ++ ev ∷ []) ≡ qs ++ a ∷ []
    more = ap (λ (w : Asking). w.asks) own

    pub fewer : parked_of settings z.life.start (before ++ ev ∷ []) ≡ ps
    fewer = ap (λ (w : Asking). w.parked) own

    others : (s : ℕ) → nat_eq z.life.start s ≡ false → AsksStay settings s before ev
    others s away =
        let same = asked s ∙ ap (behind_it s n) (flip z.life.start s away) in
        record { asks = ap (λ (w : Asking). w.asks) same; parked = ap (λ (w : Asking). w.parked) same }

    was : WasAsked (before ++ ev ∷ []) a
    was =
        let k : next_ask e (before ++ ev ∷ []) ≡ next_ask e before + 1 = next_more e before ev ∙ asked_more e (next_ask e before) text (message_of text) (ap is_request says_it) in
        (omega (arith, k, next), small)

    asks_stand : AsksStand before qs z.asks → AsksStand (before ++ ev ∷ []) (asks_of settings z.life.start (before ++ ev ∷ [])) kept
    asks_stand s = subst (λ bs. AsksStand (before ++ ev ∷ []) bs kept) (sym more) (subst (λ ks. AsksStand (before ++ ev ∷ []) (qs ++ a ∷ []) ks) (sym puts)
        (put_stands before a next (before ++ ev ∷ []) qs z.asks s (asks_later Ready before ev qs z.asks s) (parked_text p may) was (any_none (is_under (Some p.id)) qs stood.free.0)))

    parked_stand : ParkedStand (asks_of settings z.life.start (before ++ ev ∷ [])) (parked_of settings z.life.start (before ++ ev ∷ [])) left
    parked_stand = subst (λ bs. ParkedStand bs (parked_of settings z.life.start (before ++ ev ∷ [])) left) (sym more) (subst (λ ws. ParkedStand (qs ++ a ∷ []) ws left) (sym fewer)
        (parked_beside qs a ps left stood.own.0 (record { same = stays; bodies = stood.bodies.1; own = stood.own.1; free = stood.free.1 })))

    part : (q : Part) → PartStands q settings t.requests z before → PartStands q settings t.requests (record z { asks = kept; parked = left }) (before ++ ev ∷ [])
    part of_life h = part_quiet of_life settings t.requests z before ev refl h
    part of_ids h = part_quiet of_ids settings t.requests z before ev refl h
    part of_shown h = part_quiet of_shown settings t.requests z before ev refl h
    part of_stop h = part_quiet of_stop settings t.requests z before ev refl h
    part of_asks h = subst (λ (k : Stage). AsksAt k (before ++ ev ∷ []) (asks_of settings z.life.start (before ++ ev ∷ [])) kept) (sym ready) (asks_stand (ready_asks z.life.stage before qs z.asks ready h))
    part of_parked h = subst (λ (k : Stage). ParkedAt k (asks_of settings z.life.start (before ++ ev ∷ [])) (parked_of settings z.life.start (before ++ ev ∷ [])) left) (sym ready) parked_stand
    part of_live h = part_quiet of_live settings t.requests z before ev refl h
    part of_lists h = part_quiet of_lists settings t.requests z before ev refl h

    moves : Some n ≡ sessions.next_ask (session_of t.editors e) → Stands settings u (before ++ ev ∷ [])
    moves is = house_and_lasts settings t u before ev (λ m. refl) refl (origins_stay settings t.origins u.origins before ev os (λ m. called_stays settings m e before (created_of settings m before) text may.0 (message_of text) (integer (decimal n)) may.1 says_it (patient_creates may.0 may.3)) (λ rows. silent_waits settings before e text (message_of text) rows (ap answered_id says_it))) r
        (λ origins ls. asked_last settings t.requests t.origins.groups.items t.lasts.items u.lasts.items before ev g z (record z { asks = kept; parked = left }) (λ m. refl) others refl at lasts refl origins
        (λ s. record { start = one_more (start_behind z.life.group) _ _ before ev s.start; home = one_more (group_behind z.life.start) _ _ before ev s.home; own = s.own; parts = λ q. part q (s.parts q) }) ls)
        (λ h. told_house settings before e text t u (asked_so settings t.editors before e l faces.running h.editors u.editors text n is (ap is_request says_it) set) gs time h) st

  pub resume_does : (ys : List Out) → Some n ≡ sessions.next_ask (session_of t.editors e) → ys ≡ xs ++ ToEditor e text ∷ [] → Does (λ t events. Stands settings t events) (ask p.body e) base t xs u ys
  resume_does ys is said_so = asked_does settings t u base xs e p.body l faces.running set gs time os r ys n text is writes said_so (λ next small st. moves st next small is)

-- One after the other

idle_session : (s : Session) → ◌≡◌ {A = Option ℕ} None (sessions.next_ask s) → unless_gone sessions.asked s ≡ s
idle_session s h = go (is_gone s.phase) (sessions.has_number s) h
  where
    go : (b c : Bool) → ◌≡◌ {A = Option ℕ} None (if b then None else (if c then Some (s.asks + 1) else None)) → (if b then s else (if c then record s { asks = s.asks + 1 } else s)) ≡ s
    go true c h = refl
    go false false h = refl
    go false true h = absurd (cc)

idle_editors : (es : List Session) (e : ℕ) → e < length es → ◌≡◌ {A = Option ℕ} None (sessions.next_ask (session_of es e)) → with_session es e (unless_gone sessions.asked (session_of es e)) ≡ es
idle_editors es e l h = ap (with_session es e) (idle_session (session_of es e) h) ∙ set_same es e (session_of es e) (slice_get-get_or es e absent l)

none_some : (n : ℕ) → ◌≡◌ {A = Option ℕ} (Some n) None → ⊥
none_some n h = cc

module _ (settings : Settings) (t : Tables) (base : List Event) (g e : ℕ) (z : Start) (at : slice_get t.lasts.items g ≡ Some z) (ready : z.life.stage ≡ Ready) where
  -- the tables with other editors, and another last start of the group
  abbrev holding : List Session → Start → Tables
  holding es y = record t { editors = es; lasts = record t.lasts { items = slice_set t.lasts.items g y; ok = (t.lasts.ok.0 ∙ sym (length-set t.lasts.items g y), t.lasts.ok.1) } }

  -- these tables agree with that
  pub record Ends (u : Tables) (x : Resuming) : Type 0 where
    pub editors : u.editors ≡ x.editors
    pub lasts : u.lasts.items ≡ slice_set t.lasts.items g x.start
    pub groups : u.groups ≡ t.groups
    pub time : u.course ≡ t.course
    pub origins : u.origins ≡ t.origins
    pub requests : u.requests ≡ t.requests

  -- with what waits behind what waits on
  abbrev with_waiting : Start → List Parked → Start
  with_waiting y ps = record y { parked = y.parked ++ map kept_parked ps }

  abbrev Rows : List Parked → Resuming → Tables → List Out → Type 0
  Rows ps x u ys = Does (λ t events. Stands settings t events) (each (λ (p : Parked). ask p.body e) ps) base (holding x.editors (with_waiting x.start ps)) x.outs u ys

  abbrev AllGo : List Parked → Tables → Type 0
  AllGo ps u = (back : List Parked) (x : Resuming) → Ends u (all_resumed e x (map kept_parked ps)) → x.start.life ≡ z.life → e < length x.editors → IsFacing settings e z.life.group (behind base x.outs)
      → parked_of settings z.life.start (behind base x.outs) ≡ back ++ ps → x.start.parked ≡ map kept_parked back → ((n : ℕ) → Some n ≡ sessions.next_ask (session_of x.editors e) → back ≡ [])
      → Rows ps x u (all_resumed e x (map kept_parked ps)).outs

  first_resumed : (p : Parked) (ps : List Parked) (u : Tables) → AllGo ps u → (back : List Parked) (x : Resuming) → Ends u (all_resumed e x (map kept_parked (p ∷ ps))) → x.start.life ≡ z.life → e < length x.editors → IsFacing settings e z.life.group (behind base x.outs)
      → parked_of settings z.life.start (behind base x.outs) ≡ back ++ p ∷ ps → x.start.parked ≡ map kept_parked back → ((n : ℕ) → Some n ≡ sessions.next_ask (session_of x.editors e) → back ≡ [])
      → Rows (p ∷ ps) x u (all_resumed e x (map kept_parked (p ∷ ps))).outs
  first_resumed p ps u each back x ends life l faces waits held numbers = go (sessions.next_ask (session_of x.editors e)) refl ends
    where
      behind_it : Option ℕ → Resuming
      behind_it o = renumbered e (id_bytes p.body) p.body x o

      within : g < length t.lasts.items
      within = slice_get_within t.lasts.items g z at

      long : (o : Option ℕ) → e < length (behind_it o).editors
      long None = subst (λ k. e < k) (sym (length-set x.editors e _)) l
      long (Some n) = subst (λ k. e < k) (sym (length-set x.editors e _)) l

      go : (o : Option ℕ) → o ≡ sessions.next_ask (session_of x.editors e) → Ends u (all_resumed e (behind_it o) (map kept_parked ps)) → Rows (p ∷ ps) x u (all_resumed e (behind_it o) (map kept_parked ps)).outs
      go None is ends =
          let idle = idle_editors x.editors e l is in
          let x' = behind_it None in
          does_then (unasked_does settings (holding x.editors (with_waiting x.start (p ∷ ps))) (holding x'.editors (with_waiting x'.start ps)) base x.outs e p.body l faces.running refl refl refl refl refl None refl is
          (ap (λ ks. slice_set t.lasts.items g (record x.start { parked = ks })) (append_assoc x.start.parked (kept_parked p ∷ []) (map kept_parked ps))))
          (each (back ++ p ∷ []) x' ends life (long None) faces (waits ∙ sym (append_assoc back (p ∷ []) ps))
          (ap (λ ks. ks ++ kept_parked p ∷ []) held ∙ sym (map-append kept_parked back (p ∷ [])))
          (λ n given. absurd (none_some n (given ∙ (ap (λ es. sessions.next_ask (session_of es e)) idle ∙ sym is)))))
      go (Some n) is ends = does_knowing {Stands = λ t events. Stands settings t events} (λ st.
          let none : back ≡ [] = numbers n is in
          let first : parked_of settings z.life.start (behind base x.outs) ≡ p ∷ ps = waits ∙ ap (λ bs. bs ++ p ∷ ps) none in
          let empty : x.start.parked ≡ [] = held ∙ ap (map kept_parked) none in
          let x' = behind_it (Some n) in
          let y = with_waiting x.start (p ∷ ps) in
          let v = holding x.editors y in
          let w = holding x'.editors (with_waiting x'.start ps) in
          let text = with_id_text p.body (decimal n) in
          let stays : x.start.parked ++ map kept_parked ps ≡ map kept_parked ps = ap (λ ks. ks ++ map kept_parked ps) empty in
          let here : slice_get v.lasts.items g ≡ Some y = get_set_same t.lasts.items g y within in
          let same = sym (set_set t.lasts.items g y (with_waiting x'.start ps)) in
          let faces_so : IsFacing settings e y.life.group (behind base x.outs) = subst (λ (k : Standing). IsFacing settings e k.group (behind base x.outs)) (sym life) faces in
          let ready_so : y.life.stage ≡ Ready = ap (λ (k : Standing). k.stage) life ∙ ready in
          let first_so : parked_of settings y.life.start (behind base x.outs) ≡ p ∷ ps = ap (λ (k : Standing). parked_of settings k.start (behind base x.outs)) life ∙ first in
          let k = one_left settings x.editors (behind base x.outs) e l faces.running st.house.editors n is in
          let small : n < 2 ^ 64 = subst (λ m. m < 2 ^ 64) (sym k.0) (below (next_ask e (behind base x.outs)) k.1) in
          let there : behind base x'.outs ≡ behind base x.outs ++ said (ToEditor e text) ∷ [] = behind_more base x.outs (ToEditor e text ∷ []) in
          let left : parked_of settings y.life.start (behind base x.outs ++ said (ToEditor e text) ∷ []) ≡ ps =
          fewer settings v w base x.outs g e y p ps n text (x.start.asks ++ asks.asked e n (id_bytes p.body) ∷ []) (x.start.parked ++ map kept_parked ps) l faces_so refl refl refl refl refl here ready_so same refl stays refl first_so st k.0 small in
          does_then (resume_does settings v w base x.outs g e y p ps n text (x.start.asks ++ asks.asked e n (id_bytes p.body) ∷ []) (x.start.parked ++ map kept_parked ps) l faces_so refl refl refl refl refl here ready_so same refl stays refl first_so x'.outs is refl)
          (each [] x' ends life (long (Some n)) (subst (IsFacing settings e z.life.group) (sym there) (facing_later settings e z.life.group (behind base x.outs) text faces))
          (ap (parked_of settings z.life.start) there ∙ (ap (λ (k : Standing). parked_of settings k.start (behind base x.outs ++ said (ToEditor e text) ∷ [])) (sym life) ∙ left)) empty (λ m given. refl)))

  each_resumed : (ps : List Parked) (u : Tables) → AllGo ps u
  each_resumed [] u = λ back x ends life l faces waits held numbers.
      same_does settings base (holding x.editors (with_waiting x.start [])) u x.outs (λ events. same_stands settings (holding x.editors (with_waiting x.start [])) u events
      (ends.lasts ∙ ap (λ ks. slice_set t.lasts.items g (record x.start { parked = ks })) (sym (append-nil x.start.parked))) ends.editors ends.groups ends.time ends.origins ends.requests)
  each_resumed (p ∷ ps) u = first_resumed p ps u (each_resumed ps u)

  -- all that is parked
  all_parked : (ps : List Parked) → filter (asks.is_with None) (map kept_parked ps) ≡ map kept_parked ps
  all_parked [] = refl
  all_parked (p ∷ ps) = ap (λ ks. kept_parked p ∷ ks) (all_parked ps)

  none_left : (ps : List Parked) → filter (λ k. not (asks.is_with None k)) (map kept_parked ps) ≡ []
  none_left [] = refl
  none_left (p ∷ ps) = none_left ps

  pub resumed_does : (u : Tables) (y : Start) (xs ys : List Out) → ◌≡◌ {A = Resuming} (record { editors = u.editors; start = y; outs = ys }) (all_resumed e (record { editors = t.editors; start = record z { parked = filter (λ k. not (asks.is_with None k)) z.parked }; outs = xs }) (filter (asks.is_with None) z.parked))
      → u.lasts.items ≡ slice_set t.lasts.items g y → u.groups ≡ t.groups → u.course ≡ t.course → u.origins ≡ t.origins → u.requests ≡ t.requests → e < length t.editors → IsFacing settings e z.life.group (behind base xs)
      → Does (λ t events. Stands settings t events) (each (λ (p : Parked). ask p.body e) (parked_of settings z.life.start (behind base xs))) base t xs u ys
  resumed_does u y xs ys is set gs now os r l faces = record {
    done = λ st.
        let ps = parked_of settings z.life.start (behind base xs) in
        let k = ready_parked z.life.stage (asks_of settings z.life.start (behind base xs)) ps z.parked ready ((st.lasts.each g z at).parts of_parked) in
        let x : Resuming = record { editors = t.editors; start = record z { parked = [] }; outs = xs } in
        let last : ◌≡◌ {A = Resuming} (record { editors = u.editors; start = y; outs = ys }) (all_resumed e x (map kept_parked ps)) = is
        ∙ (ap (λ ks. all_resumed e (record { editors = t.editors; start = record z { parked = filter (λ k. not (asks.is_with None k)) ks }; outs = xs }) (filter (asks.is_with None) ks)) k.same
        ∙ (ap (λ ks. all_resumed e (record { editors = t.editors; start = record z { parked = ks }; outs = xs }) (filter (asks.is_with None) (map kept_parked ps))) (none_left ps)
        ∙ ap (all_resumed e x) (all_parked ps))) in
        let ends : Ends u (all_resumed e x (map kept_parked ps)) = record {
          editors = ap (λ (w : Resuming). w.editors) last;
          lasts = set ∙ ap (λ (w : Resuming). slice_set t.lasts.items g w.start) last;
          groups = gs;
          time = now;
          origins = os;
          requests = r;
        } in
        let first : slice_set t.lasts.items g (record z { parked = map kept_parked ps }) ≡ t.lasts.items = ap (λ ks. slice_set t.lasts.items g (record z { parked = ks })) (sym k.same) ∙ same_set t.lasts.items g z at in
        (subst (λ zs. Does (λ t events. Stands settings t events) (each (λ (p : Parked). ask p.body e) ps) base (holding t.editors (record z { parked = map kept_parked ps })) xs u zs) (sym (ap (λ (w : Resuming). w.outs) last))
        (each_resumed ps u [] x ends refl l faces refl refl (λ n given. refl))).done
        (same_stands settings t (holding t.editors (record z { parked = map kept_parked ps })) (behind base xs) first refl refl refl refl refl st);
  }

-- the same, as the code has it
pub resumed_by : (settings : Settings) (t u : Tables) (base : List Event) (g e : ℕ) (x z y : Start) (left ks : List route.Ask) (xs ys : List Out) → z ≡ x → slice_get t.lasts.items g ≡ Some x → x.life.stage ≡ Ready → left ≡ filter (λ k. not (asks.is_with None k)) z.parked → ks ≡ filter (asks.is_with None) z.parked
    → ◌≡◌ {A = Resuming} (record { editors = u.editors; start = y; outs = ys }) (all_resumed e (record { editors = t.editors; start = record z { parked = left }; outs = xs }) ks)
    → u.lasts.items ≡ slice_set t.lasts.items g y → u.groups ≡ t.groups → u.course ≡ t.course → u.origins ≡ t.origins → u.requests ≡ t.requests → e < length t.editors → is_running (desk_of e (behind base xs)).phase ≡ true → home_of settings e (behind base xs) ≡ Some x.life.group → ((s : ℕ) → IsWorking settings e s (behind base xs))
    → Does (λ t events. Stands settings t events) (each (λ (p : Parked). ask p.body e) (parked_of settings x.life.start (behind base xs))) base t xs u ys
resumed_by settings t u base g e x z y left ks xs ys same at ready stays leaves is set gs now os r l running home works =
    resumed_does settings t base g e x at ready u y xs ys
    (is ∙ (ap (λ ws. all_resumed e (record { editors = t.editors; start = record z { parked = left }; outs = xs }) ws) leaves
    ∙ (ap (λ ws. all_resumed e (record { editors = t.editors; start = record z { parked = ws }; outs = xs }) (filter (asks.is_with None) z.parked)) stays
    ∙ ap (λ (w : Start). all_resumed e (record { editors = t.editors; start = record w { parked = filter (λ k. not (asks.is_with None k)) w.parked }; outs = xs }) (filter (asks.is_with None) w.parked)) same)))
    set gs now os r l (record { running = running; home = home; works = works })
