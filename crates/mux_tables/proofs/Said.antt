-- What the tables do when an out about an editor is said, as the code has it.
use Rattle.std.proofs.Common.{◌≡◌, drop, ℕ, ◌+◌, ◌<◌, Bool, true, false, List, [], ◌∷◌, ◌++◌, length, refl, ap, sym, subst, ◌∙◌, nat_eq, if◌then◌else◌, ◌&&◌}
use Rattle.std.specs.Prelude.{Option, Some, slice_get, slice_set}
use Rattle.std.proofs.lemmas.Bool.{eqb-true, ne_eqb}
use Rattle.std.proofs.lemmas.Slice.Eq.{bytes_eq-Decides}
use Rattle.std.proofs.lemmas.Option.{slice_get-get_or}
use Rattle.std.proofs.lemmas.List.{length-set}
use Rattle.mux_history.specs.declared.out.Out.{Out}
use Rattle.mux_history.specs.declared.out.Out.TheVariants.{ToEditor, CloseEditor}
use Rattle.json_text.specs.Json.{Json}
use Rattle.rpc_message.specs.Message.{Id, Message, message_of, not_message, request}
use Rattle.event_model.specs.declared.phase.Phase.{Phase}
use Rattle.event_model.specs.Does.{Does}
use Rattle.event_model.specs.Event.{Event, behind, did, said}
use Rattle.event_model.specs.Phases.{Desk, desk_of, desk_behind, editors_behind, phase_closed, phase_told, is_begun}
use Rattle.event_model.specs.Row.{send}
use Rattle.event_model.specs.Settings.{Settings}
use Rattle.event_model.proofs.Frames.{one_more}
use Rattle.event_model.proofs.Places.{Same, same, other, compare, get_set_same, get_set_other, same_item}
use Rattle.event_model.proofs.Turns.{behind_more, does_knowing}
use Rattle.editor_session.specs.declared.session.Session.{Session}
use Rattle.editor_session.specs.Sessions.{absent, is_gone, session_of, with_session}
use Rattle.group_table.specs.Tables.{with_groups}
use Rattle.group_laws.specs.group_rows.specs.Asks.{Asking, asked_next, asking_next, asking_of, is_own_work, is_patient, next_ask, serves, unparked}
use Rattle.group_words.specs.Houses.{emptied, meant_behind, time_behind}
use Rattle.group_words.proofs.Frames.{home_stays}
use Rattle.mux_tables.specs.declared.tables.Course.{Course}
use Rattle.mux_tables.proofs.Halted.{stopped_more}
use Rattle.mux_tables.specs.declared.tables.Tables.{Tables}
use Rattle.mux_tables.specs.Stands.{AsksStay, CountStands, EditorsStand, FullStands, GroupsStand, HouseStands, IsAtRest, Keeps, Stands, phase_in, group_in, is_request, is_traced, meant_in, stays_in}
use Rattle.mux_tables.proofs.Counted.{asked_apart, asked_more, asked_quiet, counted_same, counted_set, next_more}
use Rattle.group_laws.specs.group_rows.specs.ExitRows.{is_full}
use Rattle.mux_tables.proofs.Fulls.{asked_full, full_more, full_same, full_set, untraced_asks, untraced_full}
use Rattle.mux_tables.proofs.Frames.{asks_stay, groups_stand, itself}
use Rattle.mux_tables.proofs.Leaves.{closed_by}
use Rattle.std.specs.Map.{keys_of}
use Rattle.std.specs.List.Sorted.{IsStrictlySortedBy}
use Rattle.std.specs.Ordering.{nat_cmp}
use Rattle.group_laws.specs.group_rows.specs.Created.{created_of}
use Rattle.mux_tokens.specs.Rows.{left_each}
use Rattle.mux_tables.proofs.TokenMoves.{OriginsMove, WaitsMove, origins_left, origins_stay, same_created, told_tokens}
use Rattle.mux_tables.proofs.Moves.{house_moves}
use Rattle.mux_tables.proofs.Named.{Goes, goes_so, goes_then, goes_told, meant_by, named_by}
use Rattle.mux_tables.proofs.Phased.{closed_gone, phased, plain, told_plain, told_same}
use Rattle.mux_tables.proofs.Waits.{ids_kept, meant_kept}
use Rattle.std.specs.Prelude.{None, filter, not}
use Rattle.event_model.specs.Requests.{answered_id}
use Rattle.group_words.specs.Houses.{home_of}
use Rattle.mux_waits.specs.Rows.{Becomes, BecomesAt, Rows, held_of}
use Rattle.mux_waits.specs.Stands.{AnswersId}
use Rattle.id_rewrite.specs.Forms.{form, same_form}
use Rattle.group_laws.specs.group_rows.specs.Waiting.{waiting_of}
use Rattle.mux_waits.specs.held_requests.specs.declared.request.Request.{Request}
use Rattle.mux_waits.specs.held_requests.specs.Tables.{is_of as is_waiting_of, is_under}
use Rattle.mux_waits.specs.numbered_rows.specs.Rows.{less as without_first}
use Rattle.mux_waits.proofs.Moves.{answered_waits, closed_waits, first_held, silent_waits}
use Rattle.mux_tables.proofs.HeldMoves.{home_kept}

-- one out, by what it does to the tables
pub does_send : (settings : Settings) (out : Out) (base : List Event) (t u : Tables) (xs ys : List Out) → ys ≡ xs ++ out ∷ [] → (Stands settings t (behind base xs) → Stands settings u (behind base xs ++ said out ∷ [])) → Does (λ t events. Stands settings t events) (send out) base t xs u ys
does_send settings out base t u xs ys e go = record {
  done = λ s. record { outs = e; stands = subst (λ es. Stands settings u es) (sym (ap (behind base) e ∙ behind_more base xs (out ∷ []))) (go s) };
}

-- a body to an editor
module _ (settings : Settings) (events : List Event) (e : ℕ) (body : List ℕ) where
  abbrev ev : Event
  ev = did (ToEditor e body) (message_of body)

  untold : (n : ℕ) (d : Desk) → nat_eq e n ≡ false → desk_behind n d ev ≡ d
  untold n d h = rw h refl

  told_goes : (n : ℕ) → Goes (desk_of n events) (desk_of n (events ++ ev ∷ []))
  told_goes n = goes_then (go (nat_eq e n)) (one_more (desk_behind n) _ _ events ev refl)
    where
      go : (b : Bool) → Goes (desk_of n events) (if b then record { phase = phase_told (desk_of n events).phase (desk_of n events).initialize (message_of body); initialize = (desk_of n events).initialize } else desk_of n events)
      go true = goes_told (desk_of n events) (message_of body)
      go false = goes_so refl

  quiet_count : (n : ℕ) → is_request (message_of body) ≡ false → next_ask n (events ++ ev ∷ []) ≡ next_ask n events
  quiet_count n quiet = next_more n events ev ∙ asked_quiet n (next_ask n events) e body (message_of body) quiet

  pub told_house : (t u : Tables) → EditorsStand settings u.editors (events ++ ev ∷ []) → u.groups ≡ t.groups → u.course ≡ t.course → HouseStands settings t events → HouseStands settings u (events ++ ev ∷ [])
  told_house t u after gs now s = record {
    editors = after;
    groups = subst (λ xs. GroupsStand settings xs (events ++ ev ∷ [])) (sym gs) (groups_stand settings t.groups events ev refl s.groups);
    now = one_more time_behind _ _ events ev s.now ∙ ap (λ (c : Course). c.time) (sym now);
    halted = stopped_more events ev ∙ (s.halted ∙ ap (λ (c : Course). c.stopped) (sym now));
  }

  kept_editors : (t : List Session) → Keeps e body events → EditorsStand settings t events → EditorsStand settings t (events ++ ev ∷ [])
  kept_editors t k s = record {
    count = one_more editors_behind _ _ events ev s.count;
    phase = λ n. at n (compare e n);
    home = λ n. home_stays settings n events ev refl ∙ s.home n;
    names = λ n. named_by (told_goes n) (home_stays settings n events ev refl) refl (s.names n);
    meant = λ n. meant_by (told_goes n) refl (one_more (meant_behind settings.servers n) _ _ events ev refl) (s.meant n);
    asked = λ n. counted_same (slice_get t n) (next_ask n events) (next_ask n (events ++ ev ∷ [])) (quiet_count n (untraced_asks (message_of body) k.1)) (s.asked n);
    full = λ n. full_same (slice_get t n) (λ u. is_full n u events) (λ u. is_full n u (events ++ ev ∷ [])) (λ u. full_more n u events ev ∙ untraced_full n e u (is_full n u events) body (message_of body) k.1) (s.full n);
  }
    where
      at : (n : ℕ) → Same e n → (desk_of n (events ++ ev ∷ [])).phase ≡ phase_in (slice_get t n)
      at _ same = k.0 ∙ s.phase e
      at n (other h) = ap (λ (d : Desk). d.phase) (one_more (desk_behind n) _ _ events ev refl ∙ untold n (desk_of n events) (ne_eqb e n (λ q. h (sym q)))) ∙ s.phase n

  -- the editor's session changes, but not its group, its id and what it meant
  pub said_editors : (t : List Session) (y : Session) → e < length t → (desk_of e (events ++ ev ∷ [])).phase ≡ y.phase → y.group ≡ (session_of t e).group → y.id ≡ (session_of t e).id → meant_in (Some y) ≡ meant_in (Some (session_of t e))
      → ((n : ℕ) → CountStands (slice_get (slice_set t e y) n) (next_ask n (events ++ ev ∷ []))) → ((n : ℕ) → FullStands (slice_get (slice_set t e y) n) (λ u. is_full n u (events ++ ev ∷ []))) → EditorsStand settings t events → EditorsStand settings (with_session t e y) (events ++ ev ∷ [])
  said_editors t y l k group id means counts fulls s = record {
    count = one_more editors_behind _ _ events ev s.count ∙ sym (length-set t e y);
    phase = λ n. at n (compare e n);
    home = λ n. home_stays settings n events ev refl ∙ (s.home n ∙ home_at n (compare e n));
    names = λ n. named_by (told_goes n) (home_stays settings n events ev refl) (ids_kept t e y l id n) (s.names n);
    meant = λ n. meant_by (told_goes n) (meant_kept t e y l means n) (one_more (meant_behind settings.servers n) _ _ events ev refl) (s.meant n);
    asked = counts;
    full = fulls;
  }
    where
      here : slice_get (slice_set t e y) e ≡ Some y
      here = get_set_same t e y l

      at : (n : ℕ) → Same e n → (desk_of n (events ++ ev ∷ [])).phase ≡ phase_in (slice_get (slice_set t e y) n)
      at _ same = k ∙ ap phase_in (sym here)
      at n (other h) = ap (λ (d : Desk). d.phase) (one_more (desk_behind n) _ _ events ev refl ∙ untold n (desk_of n events) (ne_eqb e n (λ q. h (sym q)))) ∙ (s.phase n ∙ ap phase_in (sym (get_set_other t e n y h)))

      home_at : (n : ℕ) → Same e n → group_in (slice_get t n) ≡ group_in (slice_get (slice_set t e y) n)
      home_at _ same = ap group_in (slice_get-get_or t e absent l) ∙ (sym group ∙ ap group_in (sym here))
      home_at n (other h) = ap group_in (sym (get_set_other t e n y h))

  -- its phase does, by a body that is no request
  moved_editors : (t : List Session) (p : Phase) → e < length t → (desk_of e (events ++ ev ∷ [])).phase ≡ p → is_traced (message_of body) ≡ false → EditorsStand settings t events → EditorsStand settings (with_session t e (record (session_of t e) { phase = p })) (events ++ ev ∷ [])
  moved_editors t p l k quiet s =
      let y : Session = record (session_of t e) { phase = p } in
      said_editors t y l k refl refl refl (λ n. counted_set t e (session_of t e) y (slice_get-get_or t e absent l) (λ there. (sym (told_same settings t events e p l s body k) ∙ there, refl)) n (next_ask n events) (next_ask n (events ++ ev ∷ [])) (quiet_count n (untraced_asks (message_of body) quiet)) (s.asked n))
      (λ n. full_set t e (session_of t e) y (slice_get-get_or t e absent l) (λ there. (sym (told_same settings t events e p l s body k) ∙ there, refl)) n (λ u. is_full n u events) (λ u. is_full n u (events ++ ev ∷ []))
      (λ u. full_more n u events ev ∙ untraced_full n e u (is_full n u events) body (message_of body) quiet) (s.full n)) s

  -- it is asked once more
  pub asked_editors : (t : List Session) → e < length t → (desk_of e (events ++ ev ∷ [])).phase ≡ (session_of t e).phase → is_request (message_of body) ≡ true → EditorsStand settings t events → EditorsStand settings (with_session t e (record (session_of t e) { asks = (session_of t e).asks + 1 })) (events ++ ev ∷ [])
  asked_editors t l k asks s = said_editors t y l k refl refl refl (λ n. counts n (compare e n))
      (λ n. full_set t e (session_of t e) y (slice_get-get_or t e absent l) (λ there. (there, refl)) n (λ u. is_full n u events) (λ u. is_full n u (events ++ ev ∷ [])) (λ u. full_more n u events ev ∙ asked_full n e u (is_full n u events) body (message_of body) asks) (s.full n)) s
    where
      y : Session
      y = record (session_of t e) { asks = (session_of t e).asks + 1 }

      counts : (n : ℕ) → Same e n → CountStands (slice_get (slice_set t e y) n) (next_ask n (events ++ ev ∷ []))
      counts _ same = subst (λ (o : Option Session). CountStands o (next_ask e (events ++ ev ∷ []))) (sym (get_set_same t e y l))
          (λ there. let was : CountStands (Some (session_of t e)) (next_ask e events) = subst (λ (o : Option Session). CountStands o (next_ask e events)) (slice_get-get_or t e absent l) (s.asked e) in
          next_more e events ev ∙ (asked_more e (next_ask e events) body (message_of body) asks ∙ ap (λ m. m + 1) (was there)))
      counts n (other h) = subst (λ (o : Option Session). CountStands o (next_ask n (events ++ ev ∷ []))) (sym (get_set_other t e n y h))
          (counted_same (slice_get t n) (next_ask n events) (next_ask n (events ++ ev ∷ [])) (next_more n events ev ∙ asked_apart n (next_ask n events) e body (message_of body) (ne_eqb e n (λ q. h (sym q)))) (s.asked n))

-- a body of an entry in which no start asks, nor an editor
asked_idle : (settings : Settings) (s e : ℕ) (events : List Event) (body : List ℕ) (m : Message) → IsAtRest settings s events → asking_next settings s events (asking_of settings s events) (did (ToEditor e body) m) ≡ asking_of settings s events
asked_idle settings s e events body (request id method ps) rest =
    ap (λ o. asked_next (is_own_work e (asking_of settings s events).runs && (is_patient method && serves settings events s e)) e (next_ask e events) (asking_of settings s events) o) rest.asker
    ∙ ap (λ o. if is_own_work e o && (is_patient method && serves settings events s e) then unparked e (next_ask e events) (asking_of settings s events) (asking_of settings s events).parked else asking_of settings s events) rest.runs
asked_idle settings s e events body silent rest = refl

pub idle_stay : (settings : Settings) (s e : ℕ) (events : List Event) (body : List ℕ) → IsAtRest settings s events → AsksStay settings s events (said (ToEditor e body))
idle_stay settings s e events body rest =
    let same = asked_idle settings s e events body (message_of body) rest in
    record { asks = ap (λ (x : Asking). x.asks) same; parked = ap (λ (x : Asking). x.parked) same }

-- a request to an editor that nothing is kept of
called_idle : (settings : Settings) (s e : ℕ) (events : List Event) (text method : List ℕ) (id : Id) (ps : Option Json) → message_of text ≡ request id method ps → is_patient method ≡ false → (asking_of settings s events).asker ≡ None
    → asking_next settings s events (asking_of settings s events) (said (ToEditor e text)) ≡ asking_of settings s events
called_idle settings s e events text method id ps says quiet none =
    let x : Asking = asking_of settings s events in
    ap (λ m. asking_next settings s events x (did (ToEditor e text) m)) says
    ∙ (ap (λ o. asked_next (is_own_work e x.runs && (is_patient method && serves settings events s e)) e (next_ask e events) x o) none
    ∙ (ap (λ b. if is_own_work e x.runs && (b && serves settings events s e) then unparked e (next_ask e events) x x.parked else x) quiet ∙ go x (is_own_work e x.runs)))
  where
    go : (x : Asking) (b : Bool) → (if b && false then unparked e (next_ask e events) x x.parked else x) ≡ x
    go x true = refl
    go x false = refl

pub called_stay : (settings : Settings) (s e : ℕ) (events : List Event) (text method : List ℕ) (id : Id) (ps : Option Json) → message_of text ≡ request id method ps → is_patient method ≡ false → (asking_of settings s events).asker ≡ None → AsksStay settings s events (said (ToEditor e text))
called_stay settings s e events text method id ps says quiet none =
    let same = called_idle settings s e events text method id ps says quiet none in
    record { asks = ap (λ (x : Asking). x.asks) same; parked = ap (λ (x : Asking). x.parked) same }

pub told_does : (settings : Settings) (t : Tables) (xs ys : List Out) (base : List Event) (e : ℕ) (body : List ℕ) → Keeps e body (behind base xs) → answered_id (message_of body) ≡ None → ys ≡ xs ++ ToEditor e body ∷ [] → Does (λ t events. Stands settings t events) (send (ToEditor e body)) base t xs t ys
told_does settings t xs ys base e body k none is = does_send settings (ToEditor e body) base t t xs ys is
    (house_moves settings t t (behind base xs) (said (ToEditor e body)) (λ n. refl) (λ s. asks_stay settings s (behind base xs) (said (ToEditor e body)) (untraced_asks (message_of body) k.1)) refl refl (origins_stay settings t.origins t.origins (behind base xs) (said (ToEditor e body)) refl (λ s. told_tokens settings s e (behind base xs) (created_of settings s (behind base xs)) body (message_of body) (untraced_asks (message_of body) k.1)) (λ rows. silent_waits settings (behind base xs) e body (message_of body) rows none)) refl (λ h. told_house settings (behind base xs) e body t t (kept_editors settings (behind base xs) e body t.editors k h.editors) refl refl h))

-- an answer changes nothing of what is kept of the starts, but what waits
answered_origins : (settings : Settings) (t u : Tables) (events : List Event) (e : ℕ) (body : List ℕ) → u.origins.groups ≡ t.origins.groups → u.origins.stopping ≡ t.origins.stopping → u.origins.created ≡ t.origins.created → is_request (message_of body) ≡ false → WaitsMove settings t.origins u.origins events (said (ToEditor e body))
    → OriginsMove settings t.origins u.origins events (said (ToEditor e body))
answered_origins settings t u events e body og sk cr quiet waits = record {
  groups = og;
  stopping = sk;
  created = same_created settings t u events (said (ToEditor e body)) cr (λ s. told_tokens settings s e events (created_of settings s events) body (message_of body) quiet);
  waiting = waits;
}

-- the request under this id is answered
pub answer_waits : (settings : Settings) (t u : Tables) (events : List Event) (e : ℕ) (id body : List ℕ) (home : Option ℕ) → AnswersId id body → home_of settings e events ≡ home → BecomesAt home (without_first (is_under e id)) t.origins.waiting u.origins.waiting → WaitsMove settings t.origins u.origins events (said (ToEditor e body))
answer_waits settings t u events e id body home a own is = answered_waits settings events e body (message_of body) id a.name a.is a.says t.origins.waiting u.origins.waiting (subst (λ o. BecomesAt o (without_first (is_under e id)) t.origins.waiting u.origins.waiting) (sym own) is)

pub answer_does : (settings : Settings) (t u : Tables) (xs ys : List Out) (base : List Event) (e : ℕ) (id body : List ℕ) (home : Option ℕ) → Keeps e body (behind base xs) → AnswersId id body → (Stands settings t (behind base xs) → home_of settings e (behind base xs) ≡ home)
    → BecomesAt home (without_first (is_under e id)) t.origins.waiting u.origins.waiting → u.editors ≡ t.editors → u.groups ≡ t.groups → u.course ≡ t.course → u.lasts ≡ t.lasts → u.origins.groups ≡ t.origins.groups → u.origins.stopping ≡ t.origins.stopping → u.origins.created ≡ t.origins.created → u.requests ≡ t.requests
    → ys ≡ xs ++ ToEditor e body ∷ [] → Does (λ t events. Stands settings t events) (send (ToEditor e body)) base t xs u ys
answer_does settings t u xs ys base e id body home k a own waits es gs now ls og sk cr r is = does_send settings (ToEditor e body) base t u xs ys is (λ st.
    house_moves settings t u (behind base xs) (said (ToEditor e body)) (λ n. refl) (λ s. asks_stay settings s (behind base xs) (said (ToEditor e body)) (untraced_asks (message_of body) k.1)) refl (ap (λ v. v.items) ls)
    (answered_origins settings t u (behind base xs) e body og sk cr (untraced_asks (message_of body) k.1) (answer_waits settings t u (behind base xs) e id body home a (own st) waits)) r
    (λ h. told_house settings (behind base xs) e body t u (subst (λ z. EditorsStand settings z (behind base xs ++ said (ToEditor e body) ∷ [])) (sym es) (kept_editors settings (behind base xs) e body t.editors k h.editors)) gs now h) st)

-- so is the one that waits longest
first_less : (r : Request) (rs : List Request) → slice_get rs 0 ≡ Some r → drop 1 rs ≡ without_first (is_under r.editor r.id) rs
first_less r [] h = refl
first_less r (q ∷ rs) h = sym (ap (λ b. if b then rs else q ∷ without_first (is_under r.editor r.id) rs) under)
  where
    own : q ≡ r
    own = same_item h

    alike : same_form r.id r.id ≡ true
    alike = (bytes_eq-Decides (form r.id) (form r.id)).1 refl

    under : is_under r.editor r.id q ≡ true
    under = subst (λ (w : Request). is_under r.editor r.id w ≡ true) (sym own) (rw (itself r.editor) alike)

first_becomes : (g : ℕ) (r : Request) (old new : Rows) → Becomes g (drop 1) old new → slice_get (held_of g old) 0 ≡ Some r → Becomes g (without_first (is_under r.editor r.id)) old new
first_becomes g r old new is first n = is n ∙ go (nat_eq g n) refl
  where
    go : (b : Bool) → nat_eq g n ≡ b → (if b then drop 1 (held_of n old) else held_of n old) ≡ (if b then without_first (is_under r.editor r.id) (held_of n old) else held_of n old)
    go true here = first_less r (held_of n old) (ap (λ k. slice_get (held_of k old) 0) (sym (eqb-true g n here)) ∙ first)
    go false off = refl

pub first_does : (settings : Settings) (t u : Tables) (xs ys : List Out) (base : List Event) (g e : ℕ) (body : List ℕ) (r : Request) → slice_get (waiting_of settings g (behind base xs)) 0 ≡ Some r → r.editor ≡ e → Keeps e body (behind base xs) → AnswersId r.id body
    → Becomes g (drop 1) t.origins.waiting u.origins.waiting → u.editors ≡ t.editors → u.groups ≡ t.groups → u.course ≡ t.course → u.lasts ≡ t.lasts → u.origins.groups ≡ t.origins.groups → u.origins.stopping ≡ t.origins.stopping → u.origins.created ≡ t.origins.created → u.requests ≡ t.requests
    → ys ≡ xs ++ ToEditor e body ∷ [] → Does (λ t events. Stands settings t events) (send (ToEditor e body)) base t xs u ys
first_does settings t u xs ys base g e body r first mine k a waits es gs now ls og sk cr rq is = does_knowing (λ st.
    let held = first_held settings t.origins.waiting g (behind base xs) r st.waiting first in
    let here = first_becomes g r t.origins.waiting u.origins.waiting waits (ap (λ rs. slice_get rs 0) (st.waiting g).same ∙ first) in
    answer_does settings t u xs ys base e r.id body (Some g) k a (λ _. ap (λ n. home_of settings n (behind base xs)) (sym mine) ∙ held.home)
    (subst (λ n. Becomes g (without_first (is_under n r.id)) t.origins.waiting u.origins.waiting) mine here) es gs now ls og sk cr rq is)

pub welcome_does : (settings : Settings) (t u : Tables) (xs ys : List Out) (base : List Event) (e : ℕ) (body : List ℕ) (p : Phase) → e < length t.editors → (desk_of e (behind base xs ++ said (ToEditor e body) ∷ [])).phase ≡ p → is_traced (message_of body) ≡ false → u.editors ≡ with_session t.editors e (phased t.editors e p)
    → u.groups ≡ t.groups → u.course ≡ t.course → u.lasts ≡ t.lasts → u.origins.groups ≡ t.origins.groups → u.origins.stopping ≡ t.origins.stopping → u.origins.created ≡ t.origins.created → (Stands settings t (behind base xs) → WaitsMove settings t.origins u.origins (behind base xs) (said (ToEditor e body))) → u.requests ≡ t.requests → ys ≡ xs ++ ToEditor e body ∷ [] → Does (λ t events. Stands settings t events) (send (ToEditor e body)) base t xs u ys
welcome_does settings t u xs ys base e body p l k q es gs now ls og sk cr waits r is = does_send settings (ToEditor e body) base t u xs ys is (λ st.
    house_moves settings t u (behind base xs) (said (ToEditor e body)) (λ n. refl) (λ s. asks_stay settings s (behind base xs) (said (ToEditor e body)) (untraced_asks (message_of body) q)) refl (ap (λ v. v.items) ls) (answered_origins settings t u (behind base xs) e body og sk cr (untraced_asks (message_of body) q) (waits st)) r
    (λ h. told_house settings (behind base xs) e body t u (subst (λ z. EditorsStand settings z (behind base xs ++ said (ToEditor e body) ∷ [])) (sym (es ∙ told_plain settings t.editors (behind base xs) e p l h.editors body k)) (moved_editors settings (behind base xs) e body t.editors p l k q h.editors)) gs now h) st)

pub close_does : (settings : Settings) (t u : Tables) (xs ys : List Out) (base : List Event) (e : ℕ) (mid : List Session) (before p : Phase) (home : Option ℕ) (was : Bool) → e < length t.editors
    → before ≡ (session_of t.editors e).phase → home ≡ (session_of t.editors e).group → p ≡ phase_closed before → was ≡ is_begun before
    → mid ≡ with_session t.editors e (phased t.editors e p) → u.editors ≡ mid → u.course ≡ t.course → u.lasts ≡ t.lasts → u.origins.groups ≡ t.origins.groups → u.origins.stopping ≡ t.origins.stopping → u.origins.created ≡ left_each e (keys_of t.origins.created) t.origins.created → IsStrictlySortedBy nat_cmp (keys_of t.origins.created) → u.requests ≡ t.requests
    → u.groups ≡ with_groups (emptied home was (stays_in mid) t.course.time t.groups.groups) t.groups → BecomesAt home (filter (λ q. not (is_waiting_of e q))) t.origins.waiting u.origins.waiting → ys ≡ xs ++ CloseEditor e ∷ [] → Does (λ t events. Stands settings t events) (send (CloseEditor e)) base t xs u ys
close_does settings t u xs ys base e mid before p home was l phases homes closes begun set es now ls og sk cr sorted r gs waits is = does_send settings (CloseEditor e) base t u xs ys is (λ st.
    house_moves settings t u (behind base xs) (said (CloseEditor e)) (λ n. refl) (λ n. record { asks = refl; parked = refl }) refl (ap (λ v. v.items) ls) (origins_left settings t.origins u.origins (behind base xs) (said (CloseEditor e)) e og sk cr sorted (λ s. refl)
    (closed_waits settings (behind base xs) e t.origins.waiting u.origins.waiting home (sym (home_kept settings t.editors (behind base xs) e home l homes st.house.editors)) waits)) r
    (closed_by settings (behind base xs) e not_message t u mid before p home was l phases homes closes begun (set ∙ plain t.editors e p (ap is_gone closes ∙ (closed_gone before ∙ ap is_gone phases))) es now gs) st)
