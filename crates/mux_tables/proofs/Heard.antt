-- What the tables do when a cause about an editor comes, as the code has it.
use Rattle.std.proofs.Common.{◌≡◌, ℕ, ◌<◌, Bool, true, false, arith, List, [], ◌∷◌, ◌++◌, length, max, refl, ap, sym, subst, ◌∙◌, ◌&&◌, not, nat_eq, codes, bytes_eq, if◌then◌else◌}
use Rattle.std.specs.Prelude.{filter, Option, Some, None, slice_get, slice_set}
use Rattle.std.proofs.lemmas.Bool.{and_parts, ne_eqb}
use Rattle.std.proofs.lemmas.Slice.Eq.{bytes_eq-Decides}
use Rattle.std.proofs.lemmas.Option.{slice_get-get_or, slice_get_past}
use Rattle.std.proofs.lemmas.List.{length-set, length-append}
use Rattle.mux_history.specs.declared.cause.Why.{Why}
use Rattle.mux_history.specs.declared.cause.Cause.TheVariants.{Joined, FromEditor, EditorGone, Drained, Tick}
use Rattle.rpc_message.specs.Message.{Message, request, id_bytes, message_of, not_message}
use Rattle.event_model.specs.declared.settings.Server.{Server}
use Rattle.event_model.specs.declared.phase.Phase.{Phase}
use Rattle.event_model.specs.declared.phase.Phase.TheVariants.{New}
use Rattle.event_model.specs.Event.{Event, heard, took, requests}
use Rattle.event_model.specs.Phases.{Desk, desk_of, desk_behind, desk_hears, editors_behind, is_begun, is_new, is_there}
use Rattle.event_model.specs.Settings.{Settings}
use Rattle.event_model.proofs.Frames.{never, one_more}
use Rattle.event_model.proofs.Places.{Same, same, other, compare, get_set_same, get_set_other, get_push_same, get_push_other}
use Rattle.editor_session.specs.declared.session.Session.{Session}
use Rattle.editor_session.specs.Sessions.{absent, gone, is_gone, joined, meaning, session_of, unless_gone, with_session}
use Rattle.group_table.specs.Tables.{Table, after_place, place_in, with_groups}
use Rattle.group_words.specs.Keys.{Common}
use Rattle.group_words.specs.Placing as placing
use Rattle.group_words.specs.Placing.{all_from, is_due, is_live}
use Rattle.group_words.specs.declared.placed.Placed.{Placed}
use Rattle.group_words.specs.Houses.{Meant, declared_for, emptied, groups_of, home_of, is_doubled, is_first_open, key_for, meant_behind, meant_of, no_meant, placed_for, places, server_asked, stops, time_behind}
use Rattle.group_words.proofs.Frames.{groups_more, home_more}
use Rattle.mux_tables.specs.declared.tables.Course.{Course}
use Rattle.mux_tables.proofs.Halted.{stopped_more, stopped_now, stopped_quiet}
use Rattle.group_laws.specs.group_rows.specs.StopRows.{stopped}
use Rattle.mux_tables.specs.declared.tables.Tables.{Tables}
use Rattle.mux_tables.specs.Names.{NameStands, id_in}
use Rattle.mux_tables.specs.Stands.{AnswersNone, CountStands, EditorsStand, FullStands, GroupsStand, HouseStands, LastsStand, Stands, ends, is_answer, phase_in, group_in, meant_in, noted_for, stays_in}
use Rattle.group_laws.specs.group_rows.specs.Asks.{next_ask}
use Rattle.mux_tables.proofs.Asking.{answers_all, answers_none, none_answered}
use Rattle.mux_tables.proofs.Counted.{counted_same, counted_set, next_more}
use Rattle.mux_tables.proofs.Ends.{tick_heard}
use Rattle.mux_tables.proofs.Exits.{stop_groups}
use Rattle.mux_tables.proofs.Frames.{desk_apart, itself, groups_stand, meant_apart}
use Rattle.mux_tables.proofs.Leaves.{gone_by}
use Rattle.std.specs.Map.{keys_of}
use Rattle.std.specs.List.Sorted.{IsStrictlySortedBy}
use Rattle.std.specs.Ordering.{nat_cmp}
use Rattle.mux_tokens.specs.Rows.{left_each}
use Rattle.mux_tokens.specs.Stands.{TakesNone}
use Rattle.mux_tables.proofs.TokenMoves.{OriginsMove, origins_left, origins_stay, request_takes}
use Rattle.mux_tables.proofs.Moves.{house_and_lasts, house_moves, quiet_moves}
use Rattle.mux_tables.proofs.Silent.{lasts_silent}
use Rattle.group_laws.specs.group_rows.specs.ExitRows.{is_full}
use Rattle.mux_tables.proofs.Fulls.{full_more, full_same, full_set}
use Rattle.mux_tables.proofs.Named.{Goes, goes_heard, goes_so, goes_then, meant_by, named_by, named_new}
use Rattle.mux_tables.proofs.Phased.{heard_plain, heard_same, phased}
use Rattle.mux_tables.proofs.Seated.{Seated, initialize_heard}
use Rattle.mux_waits.specs.Rows.{BecomesAt}
use Rattle.mux_waits.specs.held_requests.specs.Tables.{is_of as is_waiting_of}
use Rattle.mux_waits.specs.Stands.{Unheld}
use Rattle.mux_waits.proofs.Moves.{gone_waits, quiet_waits}
use Rattle.mux_waits.proofs.Unheld.{unheld_initialize, unheld_open, unheld_stop}
use Rattle.mux_tables.proofs.HeldMoves.{heard_stay, home_kept}

and_off : (a : Bool) → (a && false) ≡ false
and_off true = refl
and_off false = refl

-- J1
joined_editors : (settings : Settings) (t u : List Session) (events : List Event) (e : ℕ) → e ≡ length t → u ≡ t ++ joined ∷ [] → EditorsStand settings t events → EditorsStand settings u (events ++ took (Joined e) not_message ∷ [])
joined_editors settings t u events e last is s = record {
  count = one_more editors_behind _ _ events (took (Joined e) not_message) s.count ∙ (sym (length-append t (joined ∷ [])) ∙ ap length (sym is));
  phase = λ j. ap (λ (d : Desk). d.phase) (one_more (desk_behind j) _ _ events (took (Joined e) not_message) refl)
      ∙ (subst (λ n. (desk_behind j (desk_of j events) (took (Joined n) not_message)).phase ≡ phase_in (slice_get (t ++ joined ∷ []) j)) (sym last) (go j (compare (length t) j)) ∙ ap (λ z. phase_in (slice_get z j)) (sym is));
  home = λ j. home_more settings j events (took (Joined e) not_message) ∙ (s.home j ∙ (place j (compare (length t) j) ∙ ap (λ z. group_in (slice_get z j)) (sym is)));
  names = λ j. subst (λ d. NameStands d (home_of settings j (events ++ took (Joined e) not_message ∷ [])) (id_in (slice_get u j))) (sym (one_more (desk_behind j) _ _ events (took (Joined e) not_message) refl))
      (subst (λ n. NameStands (desk_behind j (desk_of j events) (took (Joined n) not_message)) (home_of settings j (events ++ took (Joined e) not_message ∷ [])) (id_in (slice_get u j))) (sym last) (named j (compare (length t) j)));
  meant = λ j. meant_at j (compare (length t) j);
  asked = λ j. subst (λ (z : List Session). CountStands (slice_get z j) (next_ask j (events ++ ev ∷ []))) (sym is) (counted j (compare (length t) j));
  full = λ j. subst (λ (z : List Session). FullStands (slice_get z j) (λ u. is_full j u (events ++ ev ∷ []))) (sym is) (fulls j (compare (length t) j));
}
  where
    ev : Event
    ev = took (Joined e) not_message

    -- one that never joined was asked nothing
    unasked : next_ask (length t) events ≡ 1
    unasked = let none : CountStands None (next_ask (length t) events) = subst (λ (o : Option Session). CountStands o (next_ask (length t) events)) (slice_get_past t (length t) (omega arith)) (s.asked (length t)) in none refl

    counted : (j : ℕ) → Same (length t) j → CountStands (slice_get (t ++ joined ∷ []) j) (next_ask j (events ++ ev ∷ []))
    counted _ same = subst (λ (o : Option Session). CountStands o (next_ask (length t) (events ++ ev ∷ []))) (sym (get_push_same t joined)) (λ there. next_more (length t) events ev ∙ unasked)
    counted j (other h) = subst (λ (o : Option Session). CountStands o (next_ask j (events ++ ev ∷ []))) (sym (get_push_other t joined j h)) (counted_same (slice_get t j) (next_ask j events) (next_ask j (events ++ ev ∷ [])) (next_more j events ev) (s.asked j))

    -- nor was it sent a list
    fulls : (j : ℕ) → Same (length t) j → FullStands (slice_get (t ++ joined ∷ []) j) (λ u. is_full j u (events ++ ev ∷ []))
    fulls _ same = subst (λ (o : Option Session). FullStands o (λ u. is_full (length t) u (events ++ ev ∷ []))) (sym (get_push_same t joined))
        (λ there u. let none : FullStands None (λ u. is_full (length t) u events) = subst (λ (o : Option Session). FullStands o (λ u. is_full (length t) u events)) (slice_get_past t (length t) (omega arith)) (s.full (length t)) in
        none refl u ∙ ap noted_for (sym (full_more (length t) u events ev)))
    fulls j (other h) = subst (λ (o : Option Session). FullStands o (λ u. is_full j u (events ++ ev ∷ []))) (sym (get_push_other t joined j h))
        (full_same (slice_get t j) (λ u. is_full j u events) (λ u. is_full j u (events ++ ev ∷ [])) (λ u. full_more j u events ev) (s.full j))

    meant_at : (j : ℕ) → Same (length t) j → (desk_of j (events ++ ev ∷ [])).phase ≡ New → meant_in (slice_get u j) ≡ meant_of settings.servers j (events ++ ev ∷ [])
    meant_at _ same w = ap (λ z. meant_in (slice_get z (length t))) is ∙ ap meant_in (get_push_same t joined)
        ∙ sym (one_more (meant_behind settings.servers (length t)) _ _ events ev refl ∙ ap (λ b. if b then no_meant else meant_of settings.servers (length t) events) (ap (λ n. nat_eq n (length t)) last ∙ itself (length t)))
    meant_at j (other h) w = meant_by (goes_so (one_more (desk_behind j) _ _ events ev refl ∙ ap (λ b. if b then record { phase = New; initialize = [] } else desk_of j events) apart))
        (ap (λ z. meant_in (slice_get z j)) is ∙ ap meant_in (get_push_other t joined j h))
        (one_more (meant_behind settings.servers j) _ _ events ev refl ∙ ap (λ b. if b then no_meant else meant_of settings.servers j events) apart) (s.meant j) w
      where
        apart : nat_eq e j ≡ false
        apart = ap (λ n. nat_eq n j) last ∙ ne_eqb (length t) j (λ q. h (sym q))

    named : (j : ℕ) → Same (length t) j → NameStands (desk_behind j (desk_of j events) (took (Joined (length t)) not_message)) (home_of settings j (events ++ took (Joined e) not_message ∷ [])) (id_in (slice_get u j))
    named _ same = rw (itself (length t)) (named_new (home_more settings (length t) events (took (Joined e) not_message) ∙ (s.home (length t) ∙ past t)))
      where
        past : (xs : List Session) → group_in (slice_get xs (length xs)) ≡ None
        past [] = refl
        past (x ∷ xs) = past xs
    named j (other h) = rw (ne_eqb (length t) j (λ q. h (sym q)))
        (named_by (goes_so refl) (home_more settings j events (took (Joined e) not_message)) (ap (λ z. id_in (slice_get z j)) is ∙ ap id_in (get_push_other t joined j h)) (s.names j))

    go : (j : ℕ) → Same (length t) j → (desk_behind j (desk_of j events) (took (Joined (length t)) not_message)).phase ≡ phase_in (slice_get (t ++ joined ∷ []) j)
    go _ same = rw (itself (length t), get_push_same t joined) refl
    go j (other h) = rw (ne_eqb (length t) j (λ q. h (sym q)), get_push_other t joined j h) (s.phase j)

    place : (j : ℕ) → Same (length t) j → group_in (slice_get t j) ≡ group_in (slice_get (t ++ joined ∷ []) j)
    place _ same = rw (get_push_same t joined) (past t)
      where
        past : (xs : List Session) → group_in (slice_get xs (length xs)) ≡ group_in (Some joined)
        past [] = refl
        past (x ∷ xs) = past xs
    place j (other h) = rw (get_push_other t joined j h) refl

pub joined_moves : (settings : Settings) (t u : Tables) (events : List Event) (e : ℕ) → e ≡ length t.editors → u.editors ≡ t.editors ++ joined ∷ [] → u.groups ≡ t.groups → u.course ≡ t.course → u.lasts ≡ t.lasts → u.origins ≡ t.origins → u.requests ≡ t.requests
    → Stands settings t events → Stands settings u (events ++ took (Joined e) not_message ∷ [])
joined_moves settings t u events e last is gs now ls os r s = house_moves settings t u events (took (Joined e) not_message) (λ n. refl) (λ n. record { asks = refl; parked = refl }) refl (ap (λ v. v.items) ls) (origins_stay settings t.origins u.origins events (took (Joined e) not_message) os (λ m. refl) (λ rows. quiet_waits settings rows events (took (Joined e) not_message) refl)) r (λ h. record {
  editors = joined_editors settings t.editors u.editors events e last is h.editors;
  groups = subst (λ g. GroupsStand settings g (events ++ took (Joined e) not_message ∷ [])) (sym gs) (groups_stand settings t.groups events (took (Joined e) not_message) refl h.groups);
  now = one_more time_behind _ _ events (took (Joined e) not_message) h.now ∙ ap (λ (c : Course). c.time) (sym now);
  halted = stopped_more events (took (Joined e) not_message) ∙ (h.halted ∙ ap (λ (c : Course). c.stopped) (sym now));
}) s

-- what is kept of an editor's `lspmux/open`, behind a message of it
module _ (settings : Settings) (t : List Session) (events : List Event) (e : ℕ) (body : List ℕ) (l : e < length t) where
  abbrev asking : Event
  asking = took (FromEditor e body) (message_of body)

  abbrev before : Meant
  before = meant_of settings.servers e events

  abbrev opens : Bool
  opens = requests (codes "lspmux/open") (message_of body) && not before.opened

  abbrev named_as : Option ℕ → Meant
  named_as o = record { opened = true; server = o }

  abbrev named : Meant
  named = named_as (server_asked settings.servers body)

  meant_next : (b : Bool) → opens ≡ b → meant_of settings.servers e (events ++ asking ∷ []) ≡ (if b then named else before)
  meant_next b is = one_more (meant_behind settings.servers e) _ _ events asking refl ∙ (ap (λ c. if c && opens then named else before) (itself e) ∙ ap (λ c. if c then named else before) is)

  -- it isn't the first one of a new editor
  meant_kept : (p : Phase) → places (desk_of e events).phase (message_of body) ≡ false → is_first_open settings.servers events e (message_of body) ≡ false → EditorsStand settings t events
      → (desk_of e (events ++ asking ∷ [])).phase ≡ New → meant_in (Some (record (session_of t e) { phase = p })) ≡ meant_of settings.servers e (events ++ asking ∷ [])
  meant_kept p stays off s w = ap meant_in (sym (slice_get-get_or t e absent l)) ∙ (s.meant e was ∙ sym (meant_next false (ap (λ q. is_new q && opens) (sym was) ∙ off)))
    where
      heard_desk : desk_of e (events ++ asking ∷ []) ≡ desk_hears (desk_of e events).phase (desk_of e events).initialize body (message_of body)
      heard_desk = one_more (desk_behind e) _ _ events asking refl ∙ ap (λ b. if b then desk_hears (desk_of e events).phase (desk_of e events).initialize body (message_of body) else desk_of e events) (itself e)

      was : (desk_of e events).phase ≡ New
      was = (goes_heard (desk_of e events).phase (desk_of e events).initialize body (message_of body) stays).new (sym (ap (λ (d : Desk). d.phase) heard_desk) ∙ w)

  -- it is
  meant_first : (o : Option ℕ) → o ≡ server_asked settings.servers body → is_first_open settings.servers events e (message_of body) ≡ true
      → meant_in (Some (record (session_of t e) { opened = true; server = o })) ≡ meant_of settings.servers e (events ++ asking ∷ [])
  meant_first o is first = ap named_as is ∙ sym (meant_next true (and_parts (is_new (desk_of e events).phase) opens first).1)

-- a message that places nobody, and stops nothing
module _ (settings : Settings) (t u : Tables) (events : List Event) (e : ℕ) (body : List ℕ) (y : Session) (l : e < length t.editors) (is : u.editors ≡ with_session t.editors e y)
    (now : u.course.time ≡ t.course.time) (ls : u.lasts ≡ t.lasts) (os : OriginsMove settings t.origins u.origins events (took (FromEditor e body) (message_of body))) (r : u.requests ≡ t.requests)
    (stays : places (desk_of e events).phase (message_of body) ≡ false) (step : (desk_of e (events ++ heard (FromEditor e body) ∷ [])).phase ≡ y.phase)
    (group : y.group ≡ (session_of t.editors e).group) (id : y.id ≡ (session_of t.editors e).id) (count : y.asks ≡ (session_of t.editors e).asks) (shows : y.full ≡ (session_of t.editors e).full)
    (means : (desk_of e (events ++ heard (FromEditor e body) ∷ [])).phase ≡ New → meant_in (Some y) ≡ meant_of settings.servers e (events ++ heard (FromEditor e body) ∷ [])) where
  abbrev ev : Event
  ev = took (FromEditor e body) (message_of body)

  heard_editors : EditorsStand settings t.editors events → EditorsStand settings u.editors (events ++ ev ∷ [])
  heard_editors s = record {
    count = one_more editors_behind _ _ events ev s.count ∙ (sym (length-set t.editors e y) ∙ ap length (sym is));
    phase = λ n. phase_at n (compare e n) ∙ ap (λ z. phase_in (slice_get z n)) (sym is);
    home = λ n. home_more settings n events ev ∙ (rw (stays, and_off (nat_eq e n)) (s.home n) ∙ (home_at n (compare e n) ∙ ap (λ z. group_in (slice_get z n)) (sym is)));
    names = λ n. named_by (goes_then (goes n (compare e n)) (one_more (desk_behind n) _ _ events ev refl)) (home_more settings n events ev ∙ rw (stays, and_off (nat_eq e n)) refl) (ap (λ z. id_in (slice_get z n)) is ∙ id_at n (compare e n)) (s.names n);
    meant = λ n w. ap (λ z. meant_in (slice_get z n)) is ∙ meant_at n (compare e n) w;
    asked = λ n. subst (λ (z : List Session). CountStands (slice_get z n) (next_ask n (events ++ ev ∷ []))) (sym is)
        (counted_set t.editors e (session_of t.editors e) y (slice_get-get_or t.editors e absent l) (λ there. (sym (heard_same settings t.editors events e y.phase l s body step) ∙ there, count)) n (next_ask n events) (next_ask n (events ++ ev ∷ [])) (next_more n events ev) (s.asked n));
    full = λ n. subst (λ (z : List Session). FullStands (slice_get z n) (λ u. is_full n u (events ++ ev ∷ []))) (sym is)
        (full_set t.editors e (session_of t.editors e) y (slice_get-get_or t.editors e absent l) (λ there. (sym (heard_same settings t.editors events e y.phase l s body step) ∙ there, shows)) n (λ u. is_full n u events) (λ u. is_full n u (events ++ ev ∷ [])) (λ u. full_more n u events ev) (s.full n));
  }
    where
      here : slice_get (slice_set t.editors e y) e ≡ Some y
      here = get_set_same t.editors e y l

      phase_at : (n : ℕ) → Same e n → (desk_of n (events ++ ev ∷ [])).phase ≡ phase_in (slice_get (slice_set t.editors e y) n)
      phase_at _ same = step ∙ ap phase_in (sym here)
      phase_at n (other h) = ap (λ (d : Desk). d.phase) (one_more (desk_behind n) _ _ events ev refl) ∙ rw (ne_eqb e n (λ q. h (sym q)), get_set_other t.editors e n y h) (s.phase n)

      home_at : (n : ℕ) → Same e n → group_in (slice_get t.editors n) ≡ group_in (slice_get (slice_set t.editors e y) n)
      home_at _ same = ap group_in (slice_get-get_or t.editors e absent l) ∙ (sym group ∙ ap group_in (sym here))
      home_at n (other h) = ap group_in (sym (get_set_other t.editors e n y h))

      goes : (n : ℕ) → Same e n → Goes (desk_of n events) (desk_behind n (desk_of n events) ev)
      goes _ same = rw (itself e) (goes_heard (desk_of e events).phase (desk_of e events).initialize body (message_of body) stays)
      goes n (other h) = rw (ne_eqb e n (λ q. h (sym q))) (goes_so refl)

      id_at : (n : ℕ) → Same e n → id_in (slice_get (slice_set t.editors e y) n) ≡ id_in (slice_get t.editors n)
      id_at _ same = ap id_in here ∙ (id ∙ ap id_in (sym (slice_get-get_or t.editors e absent l)))
      id_at n (other h) = ap id_in (get_set_other t.editors e n y h)

      meant_at : (n : ℕ) → Same e n → (desk_of n (events ++ ev ∷ [])).phase ≡ New → meant_in (slice_get (slice_set t.editors e y) n) ≡ meant_of settings.servers n (events ++ ev ∷ [])
      meant_at _ same w = ap meant_in here ∙ means w
      meant_at n (other h) w = meant_by (goes_so (desk_apart e n body (message_of body) events (ne_eqb e n (λ q. h (sym q))))) (ap meant_in (get_set_other t.editors e n y h))
          (meant_apart settings.servers e n body (message_of body) events (ne_eqb e n (λ q. h (sym q)))) (s.meant n) w

  heard_house : (stopped events ≡ t.course.stopped → stopped (events ++ ev ∷ []) ≡ u.course.stopped) → (GroupsStand settings t.groups events → GroupsStand settings u.groups (events ++ ev ∷ [])) → HouseStands settings t events → HouseStands settings u (events ++ ev ∷ [])
  heard_house halt go h = record {
    editors = heard_editors h.editors;
    groups = go h.groups;
    now = one_more time_behind _ _ events ev h.now ∙ sym now;
    halted = halt h.halted;
  }

  heard_groups : u.groups ≡ t.groups → stops events e (message_of body) ≡ false → GroupsStand settings t.groups events → GroupsStand settings u.groups (events ++ ev ∷ [])
  heard_groups gs goes h = subst (λ g. GroupsStand settings g (events ++ ev ∷ [])) (sym gs) (record { groups = groups_more settings events ev ∙ (rw (stays, goes) refl ∙ h.groups); limit = h.limit; idle = h.idle })

  all_heard : AnswersNone settings e (message_of body) events → (stopped events ≡ t.course.stopped → stopped (events ++ ev ∷ []) ≡ u.course.stopped) → (GroupsStand settings t.groups events → GroupsStand settings u.groups (events ++ ev ∷ [])) → Stands settings t events → Stands settings u (events ++ ev ∷ [])
  all_heard silent halt go = house_and_lasts settings t u events ev (λ n. refl) refl os r (λ origins lasts. subst (λ xs. LastsStand settings t.requests xs (events ++ ev ∷ [])) (sym (ap (λ v. v.items) ls)) (lasts_silent settings events e body silent t.requests t.lasts.items lasts)) (heard_house halt go)

  still : u.course.stopped ≡ t.course.stopped → stops events e (message_of body) ≡ false → stopped events ≡ t.course.stopped → stopped (events ++ ev ∷ []) ≡ u.course.stopped
  still keeps goes h = stopped_quiet events e body (message_of body) goes ∙ (h ∙ sym keeps)

  heard_moves : AnswersNone settings e (message_of body) events → u.groups ≡ t.groups → u.course.stopped ≡ t.course.stopped → stops events e (message_of body) ≡ false → Stands settings t events → Stands settings u (events ++ ev ∷ [])
  heard_moves silent gs keeps goes = all_heard silent (still keeps goes) (heard_groups gs goes)

  -- E6
  stopped_moves : AnswersNone settings e (message_of body) events → (ns : List ℕ) → ns ≡ all_from 0 is_live t.groups.groups → u.groups ≡ with_groups (ends ns t.groups.groups) t.groups → u.course.stopped ≡ true → stops events e (message_of body) ≡ true → Stands settings t events → Stands settings u (events ++ ev ∷ [])
  stopped_moves silent ns all gs halts stop = all_heard silent (λ _. stopped_now events e body (message_of body) stop ∙ sym halts) (λ h. stop_groups settings events e body (message_of body) t.groups u.groups stays stop (ap (λ (w : Table). w.limit) gs) (ap (λ (w : Table). w.idle) gs) (ap (λ (w : Table). w.groups) gs ∙ ap (λ ms. ends ms t.groups.groups) all) h)

-- a request answers nothing
pub asks_silent : (name : List ℕ) (m : Message) → requests name m ≡ true → is_answer m ≡ false
asks_silent name (request id method params) h = refl
asks_silent name rest h = never (sym h)

pub stop_silent : (settings : Settings) (events : List Event) (e : ℕ) (m : Message) → stops events e m ≡ true → AnswersNone settings e m events
stop_silent settings events e m h = answers_none settings e m events (asks_silent (codes "lspmux/stop") m (and_parts (requests (codes "lspmux/stop") m) _ h).0)

pub stop_takes : (settings : Settings) (events : List Event) (e : ℕ) (m : Message) → stops events e m ≡ true → TakesNone settings e m events
stop_takes settings events e m h = request_takes settings e (codes "lspmux/stop") m events refl (and_parts (requests (codes "lspmux/stop") m) _ h).0

pub stop_unheld : (settings : Settings) (events : List Event) (e : ℕ) (body : List ℕ) (m : Message) → stops events e m ≡ true → Unheld settings e body m events
stop_unheld settings events e body m h = unheld_stop settings e body m events (and_parts (requests (codes "lspmux/stop") m) _ h).0

-- one that stops all is no `lspmux/open`
stops_asks : (events : List Event) (e : ℕ) (servers : List Server) (m : Message) → stops events e m ≡ true → is_first_open servers events e m ≡ false
stops_asks events e servers m h = ap (λ b. is_new (desk_of e events).phase && (b && not (meant_of servers e events).opened)) (unnamed m (and_parts (requests (codes "lspmux/stop") m) _ h).0) ∙ and_off (is_new (desk_of e events).phase)
  where
    unnamed : (m : Message) → requests (codes "lspmux/stop") m ≡ true → requests (codes "lspmux/open") m ≡ false
    unnamed (request id method params) k = ap (bytes_eq (codes "lspmux/open")) (sym ((bytes_eq-Decides (codes "lspmux/stop") method).0 k))
    unnamed rest k = never (sym k)

-- the same, as the code sets the phase
module _ (settings : Settings) (t u : Tables) (events : List Event) (e : ℕ) (body : List ℕ) (p : Phase) (l : e < length t.editors) (set : u.editors ≡ with_session t.editors e (phased t.editors e p))
    (now : u.course.time ≡ t.course.time) (ls : u.lasts ≡ t.lasts) (os : OriginsMove settings t.origins u.origins events (took (FromEditor e body) (message_of body))) (r : u.requests ≡ t.requests)
    (stays : places (desk_of e events).phase (message_of body) ≡ false) (step : (desk_of e (events ++ heard (FromEditor e body) ∷ [])).phase ≡ p) where
  abbrev put : Session
  put = record (session_of t.editors e) { phase = p }

  pub set_house : u.groups ≡ t.groups → u.course.stopped ≡ t.course.stopped → stops events e (message_of body) ≡ false → is_first_open settings.servers events e (message_of body) ≡ false → HouseStands settings t events → HouseStands settings u (events ++ heard (FromEditor e body) ∷ [])
  set_house gs keeps goes off h = heard_house settings t u events e body put l (set ∙ heard_plain settings t.editors events e p l h.editors body step) now ls os r stays step refl refl refl refl
      (meant_kept settings t.editors events e body l p stays off h.editors) (λ s. stopped_quiet events e body (message_of body) goes ∙ (s ∙ sym keeps))
      (heard_groups settings t u events e body put l (set ∙ heard_plain settings t.editors events e p l h.editors body step) now ls os r stays step refl refl refl refl (meant_kept settings t.editors events e body l p stays off h.editors) gs goes) h

  pub set_moves : AnswersNone settings e (message_of body) events → u.groups ≡ t.groups → u.course.stopped ≡ t.course.stopped → stops events e (message_of body) ≡ false → is_first_open settings.servers events e (message_of body) ≡ false → Stands settings t events → Stands settings u (events ++ heard (FromEditor e body) ∷ [])
  set_moves silent gs keeps goes off s = heard_moves settings t u events e body put l (set ∙ heard_plain settings t.editors events e p l s.house.editors body step) now ls os r stays step refl refl refl refl
      (meant_kept settings t.editors events e body l p stays off s.house.editors) silent gs keeps goes s

  pub stop_moves : AnswersNone settings e (message_of body) events → (ns : List ℕ) → ns ≡ all_from 0 is_live t.groups.groups → u.groups ≡ with_groups (ends ns t.groups.groups) t.groups → u.course.stopped ≡ true → stops events e (message_of body) ≡ true → Stands settings t events → Stands settings u (events ++ heard (FromEditor e body) ∷ [])
  stop_moves silent ns all gs halts stop s = stopped_moves settings t u events e body put l (set ∙ heard_plain settings t.editors events e p l s.house.editors body step) now ls os r stays step refl refl refl refl
      (meant_kept settings t.editors events e body l p stays (stops_asks events e settings.servers (message_of body) stop) s.house.editors) silent ns all gs halts stop s

-- E4: the first `lspmux/open` of a new editor
module _ (settings : Settings) (t u : Tables) (events : List Event) (e : ℕ) (body : List ℕ) (o : Option ℕ) (l : e < length t.editors) (set : u.editors ≡ with_session t.editors e (unless_gone (meaning o) (session_of t.editors e)))
    (now : u.course ≡ t.course) (ls : u.lasts ≡ t.lasts) (os : u.origins ≡ t.origins) (r : u.requests ≡ t.requests)
    (first : is_first_open settings.servers events e (message_of body) ≡ true) (is : o ≡ server_asked settings.servers body) where
  abbrev seen : Session
  seen = session_of t.editors e

  parts : (is_new (desk_of e events).phase ≡ true) × ((requests (codes "lspmux/open") (message_of body) && not (meant_of settings.servers e events).opened) ≡ true)
  parts = and_parts (is_new (desk_of e events).phase) _ first

  asks : requests (codes "lspmux/open") (message_of body) ≡ true
  asks = (and_parts (requests (codes "lspmux/open") (message_of body)) _ parts.1).0

  no_first : (m : Message) → requests (codes "lspmux/open") m ≡ true → requests (codes "initialize") m ≡ false
  no_first (request id method params) k = ap (bytes_eq (codes "initialize")) (sym ((bytes_eq-Decides (codes "lspmux/open") method).0 k))
  no_first rest k = never (sym k)

  no_stop : (m : Message) → requests (codes "lspmux/open") m ≡ true → requests (codes "lspmux/stop") m ≡ false
  no_stop (request id method params) k = ap (bytes_eq (codes "lspmux/stop")) (sym ((bytes_eq-Decides (codes "lspmux/open") method).0 k))
  no_stop rest k = never (sym k)

  only_new : (p : Phase) → is_new p ≡ true → p ≡ New
  only_new New h = refl
  only_new rest h = never (sym h)

  stands_new : EditorsStand settings t.editors events → seen.phase ≡ New
  stands_new s = sym (ap phase_in (slice_get-get_or t.editors e absent l)) ∙ (sym (s.phase e) ∙ only_new (desk_of e events).phase parts.0)

  stays_new : (p : Phase) (i : List ℕ) → p ≡ New → (desk_hears p i body (message_of body)).phase ≡ New
  stays_new p i at = rw (at, no_first (message_of body) asks) refl

  now_new : (desk_of e (events ++ heard (FromEditor e body) ∷ [])).phase ≡ New
  now_new = ap (λ (d : Desk). d.phase) (one_more (desk_behind e) _ _ events (heard (FromEditor e body)) refl)
      ∙ rw (itself e) (stays_new (desk_of e events).phase (desk_of e events).initialize (only_new (desk_of e events).phase parts.0))

  pub open_moves : u.groups ≡ t.groups → Stands settings t events → Stands settings u (events ++ heard (FromEditor e body) ∷ [])
  open_moves gs s = heard_moves settings t u events e body (record seen { opened = true; server = o }) l
      (set ∙ ap (λ p. with_session t.editors e (if is_gone p then seen else record seen { opened = true; server = o })) (stands_new s.house.editors)) (ap (λ (c : Course). c.time) now) ls (origins_stay settings t.origins u.origins events (heard (FromEditor e body)) os (request_takes settings e (codes "lspmux/open") (message_of body) events refl asks) (heard_stay settings t.editors events e body s.house.editors (unheld_open settings e body (message_of body) events asks))) r
      (ap (λ b. is_new (desk_of e events).phase && b) (no_first (message_of body) asks) ∙ and_off (is_new (desk_of e events).phase))
      (now_new ∙ sym (stands_new s.house.editors))
      refl refl refl refl (λ w. meant_first settings t.editors events e body l o is first) (answers_none settings e (message_of body) events (asks_silent (codes "lspmux/open") (message_of body) asks))
      gs (ap (λ (c : Course). c.stopped) now) (ap (λ b. b && (is_there (desk_of e events).phase && not (is_begun (desk_of e events).phase && is_doubled events e (message_of body)))) (no_stop (message_of body) asks)) s

-- X6: no table speaks of bytes that were written
pub drained_moves : (settings : Settings) (t : Tables) (events : List Event) (e k : ℕ) → Stands settings t events → Stands settings t (events ++ heard (Drained e k) ∷ [])
drained_moves settings t events e k s = quiet_moves settings t events (heard (Drained e k)) refl refl refl (λ n. refl) refl s

-- X5
pub gone_heard : (settings : Settings) (t u : Tables) (events : List Event) (e : ℕ) (why : Why) (mid : List Session) (p : Phase) (home : Option ℕ) (was : Bool) → e < length t.editors
    → p ≡ (session_of t.editors e).phase → home ≡ (session_of t.editors e).group → was ≡ is_begun p
    → mid ≡ with_session t.editors e gone → u.editors ≡ mid → u.course ≡ t.course → u.lasts ≡ t.lasts → u.origins.groups ≡ t.origins.groups → u.origins.stopping ≡ t.origins.stopping → u.origins.created ≡ left_each e (keys_of t.origins.created) t.origins.created → IsStrictlySortedBy nat_cmp (keys_of t.origins.created) → u.requests ≡ t.requests
    → u.groups ≡ with_groups (emptied home was (stays_in mid) t.course.time t.groups.groups) t.groups → BecomesAt home (filter (λ q. not (is_waiting_of e q))) t.origins.waiting u.origins.waiting
    → Stands settings t events → Stands settings u (events ++ took (EditorGone e why) not_message ∷ [])
gone_heard settings t u events e why mid p home was l phases homes begun set es now ls og sk cr sorted r gs waits st =
    house_moves settings t u events (took (EditorGone e why) not_message) (λ n. refl) (λ n. record { asks = refl; parked = refl }) refl (ap (λ v. v.items) ls) (origins_left settings t.origins u.origins events (took (EditorGone e why) not_message) e og sk cr sorted (λ s. refl)
    (gone_waits settings events e t.origins.waiting u.origins.waiting home (sym (home_kept settings t.editors events e home l homes st.house.editors)) waits why)) r
    (gone_by settings events e why not_message t u mid p home was l phases homes begun set es now gs) st

-- E7
pub initialized_moves : (settings : Settings) (before : List Event) (e : ℕ) (body : List ℕ) (t u : Tables) (mid : Table) (x : Session) (p : Placed) (key : Common) (given id : List ℕ) → requests (codes "initialize") (message_of body) ≡ true → slice_get t.editors e ≡ Some x → x.phase ≡ New → id ≡ id_bytes body
    → key ≡ key_for settings before e body → given ≡ declared_for settings before e body → p ≡ place_in key given t.groups → mid ≡ after_place key given t.groups → u.groups ≡ with_groups (placing.joined p mid.groups) mid
    → Seated t.editors u.editors e p x id → u.course ≡ t.course → u.lasts ≡ t.lasts → u.origins ≡ t.origins → u.requests ≡ t.requests → Stands settings t before
    → (p ≡ placed_for settings before e body (groups_of settings before)) × Stands settings u (before ++ took (FromEditor e body) (message_of body) ∷ [])
initialized_moves settings before e body t u mid x p key given id first at new own k d chosen placed busy sits now ls os r s =
    let h = initialize_heard settings before e body (message_of body) t u mid x p key given id first at new own k d chosen placed busy sits now s.house in
    (h.0, house_moves settings t u before (took (FromEditor e body) (message_of body)) (λ n. refl) (λ n. none_answered settings e n body (message_of body) before (answers_all settings e (message_of body) before (asks_silent (codes "initialize") (message_of body) first) n)) refl (ap (λ v. v.items) ls) (origins_stay settings t.origins u.origins before (took (FromEditor e body) (message_of body)) os (request_takes settings e (codes "initialize") (message_of body) before refl first) (heard_stay settings t.editors before e body s.house.editors (unheld_initialize settings e body (message_of body) before first))) r (λ _. h.1) s)

-- X7
pub ticked_moves : (settings : Settings) (t u : Tables) (events : List Event) (now later : ℕ) (ns : List ℕ) → later ≡ max t.course.time now → u.editors ≡ t.editors → u.course ≡ record t.course { time = later } → ns ≡ all_from 0 (is_due t.groups.idle later) t.groups.groups
    → u.groups ≡ with_groups (ends ns t.groups.groups) t.groups → u.lasts ≡ t.lasts → u.origins ≡ t.origins → u.requests ≡ t.requests → Stands settings t events → Stands settings u (events ++ took (Tick now) not_message ∷ [])
ticked_moves settings t u events now later ns l es k n gs ls os r =
    house_moves settings t u events (took (Tick now) not_message) (λ n. refl) (λ n. record { asks = refl; parked = refl }) refl (ap (λ v. v.items) ls) (origins_stay settings t.origins u.origins events (took (Tick now) not_message) os (λ m. refl) (λ rows. quiet_waits settings rows events (took (Tick now) not_message) refl)) r (tick_heard settings events now later not_message t u ns l es k n gs)
