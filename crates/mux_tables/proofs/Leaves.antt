-- An editor's link is to be ended, or ended.
use Rattle.std.proofs.Common.{◌≡◌, ℕ, zero, suc, ◌<◌, Bool, false, not, ◌&&◌, List, [], ◌∷◌, ◌++◌, length, nat_lt, refl, ap, sym, subst, ◌∙◌, nat_eq, if◌then◌else◌, arith}
use Rattle.std.specs.Prelude.{Option, Some, None, slice_get, slice_set, slice_index_or}
use Rattle.std.proofs.lemmas.Bool.{ne_eqb}
use Rattle.std.proofs.lemmas.Option.{slice_get_within}
use Rattle.std.proofs.lemmas.List.{length-set}
use Rattle.mux_history.specs.declared.cause.Why.{Why}
use Rattle.mux_history.specs.declared.cause.Cause.TheVariants.{EditorGone}
use Rattle.mux_history.specs.declared.out.Out.TheVariants.{CloseEditor}
use Rattle.rpc_message.specs.Message.{Message}
use Rattle.event_model.specs.declared.phase.Phase.{Phase}
use Rattle.event_model.specs.declared.phase.Phase.TheVariants.{Gone, New}
use Rattle.event_model.specs.Event.{Event, took, did}
use Rattle.event_model.specs.Phases.{Desk, desk_of, desk_behind, editors_behind, phase_closed, is_begun}
use Rattle.event_model.specs.Settings.{Settings}
use Rattle.editor_session.specs.declared.session.Session.{Session}
use Rattle.editor_session.specs.Sessions.{gone, is_gone, session_of, with_session}
use Rattle.event_model.proofs.Places.{Same, same, other, compare, get_set_same, get_set_other}
use Rattle.group_words.specs.declared.kept.Kept.{Kept}
use Rattle.group_words.specs.Placing.{changed}
use Rattle.group_words.specs.Houses.{House, Meant, groups_of, home_of, house_of, groups_next, groups_left, emptied, has_editor, is_home, idle_if_live, meant_behind, meant_of, time_behind, time_of}
use Rattle.group_words.proofs.Frames.{itself, groups_more, home_more, home_stays, names_home}
use Rattle.group_table.specs.Tables.{Table, with_groups}
use Rattle.mux_tables.specs.declared.tables.Course.{Course}
use Rattle.mux_tables.proofs.Halted.{stopped_more}
use Rattle.group_laws.specs.group_rows.specs.StopRows.{stopped, stopped_next}
use Rattle.mux_tables.specs.declared.tables.Tables.{Tables}
use Rattle.mux_tables.specs.Names.{NameStands, id_in}
use Rattle.group_laws.specs.group_rows.specs.Asks.{asked_behind, next_ask}
use Rattle.mux_tables.specs.Stands.{CountStands, EditorsStand, FullStands, GroupsStand, HouseStands, phase_in, group_in, meant_in, stays_in}
use Rattle.event_model.proofs.Frames.{never, one_more}
use Rattle.group_laws.specs.group_rows.specs.ExitRows.{full_behind, is_full}
use Rattle.mux_tables.proofs.Counted.{counted_set, next_more}
use Rattle.mux_tables.proofs.Fulls.{full_more, full_set}
use Rattle.mux_tables.proofs.Frames.{ticks, time_alone}
use Rattle.mux_tables.proofs.Lists.{editors_by}
use Rattle.mux_tables.proofs.Named.{closed_old, goes_closed, goes_so, goes_then, meant_by, named_by}
use Rattle.mux_tables.proofs.Phased.{closed_gone}
use Rattle.mux_tables.proofs.Seated.{index_get}

emptied_alike : (home : Option ℕ) (was : Bool) (f g : ℕ → Bool) (now : ℕ) (xs : List Kept) → ((n : ℕ) → f n ≡ g n) → emptied home was f now xs ≡ emptied home was g now xs
emptied_alike None was f g now xs h = refl
emptied_alike (Some n) was f g now xs h = ap (λ b. if was && not b then changed n (idle_if_live now) xs else xs) (h n)

-- what becomes of the editor's home and of the id of its `initialize`; it isn't new behind it
record LeftOne (settings : Settings) (events : List Event) (ev : Event) (e : ℕ) (x y : Session) : Type 0 where
  home : home_of settings e events ≡ x.group → home_of settings e (events ++ ev ∷ []) ≡ y.group
  name : NameStands (desk_of e events) (home_of settings e events) x.id → NameStands (desk_behind e (desk_of e events) ev) (home_of settings e (events ++ ev ∷ [])) y.id
  old : (desk_behind e (desk_of e events) ev).phase ≡ New → ⊥
  counts : (g : ℕ) (o : Option ℕ) → o ≡ x.group → (is_begun y.phase && is_home g o) ≡ (is_begun y.phase && is_home g y.group)
  asked : is_gone y.phase ≡ false → (is_gone x.phase ≡ false) × (y.asks ≡ x.asks)
  full : is_gone y.phase ≡ false → (is_gone x.phase ≡ false) × (y.full ≡ x.full)

module _ (settings : Settings) (events : List Event) (ev : Event) (e : ℕ) (leaves : (x : House) → groups_next settings events x ev ≡ groups_left events ev e x) (rest : (n : ℕ) (d : Desk) → nat_eq e n ≡ false → desk_behind n d ev ≡ d) (number : (n : ℕ) → editors_behind n ev ≡ n) (homes : (n : ℕ) → nat_eq e n ≡ false → names_home n ev ≡ false) (time : ticks ev ≡ false) (halts : (b : Bool) → stopped_next events b ev ≡ b) (unmeant : (n : ℕ) (x : Meant) → meant_behind settings.servers n x ev ≡ x) (unasked : (n k : ℕ) → asked_behind n k ev ≡ k) (unshown : (n : ℕ) (u : List ℕ) (full : Bool) → full_behind n u full ev ≡ full) where
  home_apart : (n : ℕ) → (n ≡ e → ⊥) → home_of settings n (events ++ ev ∷ []) ≡ home_of settings n events
  home_apart n h = home_stays settings n events ev (homes n (ne_eqb e n (λ q. h (sym q))))

  left_editors : (t u : List Session) (x y : Session) → slice_get t e ≡ Some x → u ≡ slice_set t e y → LeftOne settings events ev e x y → ((d : Desk) → d.phase ≡ x.phase → (desk_behind e d ev).phase ≡ y.phase)
      → EditorsStand settings t events → EditorsStand settings u (events ++ ev ∷ [])
  left_editors t u x y at is own step s = record {
    count = one_more editors_behind _ _ events ev s.count ∙ (number (length t) ∙ (sym (length-set t e y) ∙ ap length (sym is)));
    phase = λ n. ap (λ (d : Desk). d.phase) (one_more (desk_behind n) _ _ events ev refl) ∙ (phase_at n (compare e n) ∙ ap (λ z. phase_in (slice_get z n)) (sym is));
    home = λ n. home_at n (compare e n) ∙ ap (λ z. group_in (slice_get z n)) (sym is);
    names = λ n. subst (λ d. NameStands d (home_of settings n (events ++ ev ∷ [])) (id_in (slice_get u n))) (sym (one_more (desk_behind n) _ _ events ev refl))
        (subst (λ z. NameStands (desk_behind n (desk_of n events) ev) (home_of settings n (events ++ ev ∷ [])) (id_in (slice_get z n))) (sym is) (named n (compare e n)));
    meant = λ n. meant_at n (compare e n);
    asked = λ n. subst (λ (z : List Session). CountStands (slice_get z n) (next_ask n (events ++ ev ∷ []))) (sym is)
        (counted_set t e x y at own.asked n (next_ask n events) (next_ask n (events ++ ev ∷ [])) (next_more n events ev ∙ unasked n (next_ask n events)) (s.asked n));
    full = λ n. subst (λ (z : List Session). FullStands (slice_get z n) (λ u. is_full n u (events ++ ev ∷ []))) (sym is)
        (full_set t e x y at own.full n (λ u. is_full n u events) (λ u. is_full n u (events ++ ev ∷ [])) (λ u. full_more n u events ev ∙ unshown n u (is_full n u events)) (s.full n));
  }
    where
      here : slice_get (slice_set t e y) e ≡ Some y
      here = get_set_same t e y (slice_get_within t e x at)

      named : (n : ℕ) → Same e n → NameStands (desk_behind n (desk_of n events) ev) (home_of settings n (events ++ ev ∷ [])) (id_in (slice_get (slice_set t e y) n))
      named _ same = subst (λ o. NameStands (desk_behind e (desk_of e events) ev) (home_of settings e (events ++ ev ∷ [])) (id_in o)) (sym here) (own.name (subst (λ o. NameStands (desk_of e events) (home_of settings e events) (id_in o)) at (s.names e)))
      named n (other h) = named_by (goes_so (rest n (desk_of n events) (ne_eqb e n (λ q. h (sym q))))) (home_apart n h) (ap id_in (get_set_other t e n y h)) (s.names n)

      meant_at : (n : ℕ) → Same e n → (desk_of n (events ++ ev ∷ [])).phase ≡ New → meant_in (slice_get u n) ≡ meant_of settings.servers n (events ++ ev ∷ [])
      meant_at _ same w = absurd (own.old (sym (ap (λ (d : Desk). d.phase) (one_more (desk_behind e) _ _ events ev refl)) ∙ w))
      meant_at n (other h) w = meant_by (goes_so (one_more (desk_behind n) _ _ events ev refl ∙ rest n (desk_of n events) (ne_eqb e n (λ q. h (sym q))))) (ap (λ z. meant_in (slice_get z n)) is ∙ ap meant_in (get_set_other t e n y h))
          (one_more (meant_behind settings.servers n) _ _ events ev refl ∙ unmeant n _) (s.meant n) w

      phase_at : (n : ℕ) → Same e n → (desk_behind n (desk_of n events) ev).phase ≡ phase_in (slice_get (slice_set t e y) n)
      phase_at _ same = step (desk_of e events) (s.phase e ∙ ap phase_in at) ∙ ap phase_in (sym here)
      phase_at n (other h) = ap (λ (d : Desk). d.phase) (rest n (desk_of n events) (ne_eqb e n (λ q. h (sym q)))) ∙ (s.phase n ∙ ap phase_in (sym (get_set_other t e n y h)))

      home_at : (n : ℕ) → Same e n → home_of settings n (events ++ ev ∷ []) ≡ group_in (slice_get (slice_set t e y) n)
      home_at _ same = own.home (s.home e ∙ ap group_in at) ∙ ap group_in (sym here)
      home_at n (other h) = home_apart n h ∙ (s.home n ∙ ap group_in (sym (get_set_other t e n y h)))

  left_groups : (t u : Tables) (x y : Session) → slice_get t.editors e ≡ Some x → u.editors ≡ slice_set t.editors e y → LeftOne settings events ev e x y → EditorsStand settings u.editors (events ++ ev ∷ []) → u.groups.limit ≡ t.groups.limit → u.groups.idle ≡ t.groups.idle
      → u.groups.groups ≡ emptied x.group (is_begun x.phase) (stays_in u.editors) t.course.time t.groups.groups
      → HouseStands settings t events → GroupsStand settings u.groups (events ++ ev ∷ [])
  left_groups t u x y at set own after l i is s = record {
    groups = groups_more settings events ev ∙ (leaves (house_of settings events)
        ∙ (emptied_alike (home e) (is_begun (desk_of e events).phase) stays (stays_in u.editors) (time_of events) (groups_of settings events)
        (λ g. ap (λ ns. nat_lt 0 (length ns)) (editors_by home u.editors (events ++ ev ∷ []) g after.count after.phase (λ n. counts g n (compare e n))))
        ∙ (ap (λ o. emptied o (is_begun (desk_of e events).phase) (stays_in u.editors) (time_of events) (groups_of settings events)) (s.editors.home e ∙ ap group_in at)
        ∙ (ap (λ p. emptied x.group (is_begun p) (stays_in u.editors) (time_of events) (groups_of settings events)) (s.editors.phase e ∙ ap phase_in at)
        ∙ (ap (λ now. emptied x.group (is_begun x.phase) (stays_in u.editors) now (groups_of settings events)) s.now
        ∙ (ap (λ gs. emptied x.group (is_begun x.phase) (stays_in u.editors) t.course.time gs) s.groups.groups ∙ sym is))))));
    limit = s.groups.limit ∙ sym l;
    idle = s.groups.idle ∙ sym i;
  }
    where
      home : ℕ → Option ℕ
      home = (house_of settings events).home

      stays : ℕ → Bool
      stays g = has_editor is_begun g home (events ++ ev ∷ [])

      there : slice_get u.editors e ≡ Some y
      there = ap (λ z. slice_get z e) set ∙ get_set_same t.editors e y (slice_get_within t.editors e x at)

      counts : (g n : ℕ) → Same e n → (is_begun (phase_in (slice_get u.editors n)) && is_home g (home n)) ≡ (is_begun (phase_in (slice_get u.editors n)) && is_home g (group_in (slice_get u.editors n)))
      counts g _ same = rw there (own.counts g (home e) (s.editors.home e ∙ ap group_in at))
      counts g n (other h) = ap (λ o. is_begun (phase_in (slice_get u.editors n)) && is_home g o) (sym (home_apart n h) ∙ after.home n)

  left_moves : (t u : Tables) (x y : Session) → slice_get t.editors e ≡ Some x → u.editors ≡ slice_set t.editors e y → LeftOne settings events ev e x y → ((d : Desk) → d.phase ≡ x.phase → (desk_behind e d ev).phase ≡ y.phase)
      → u.groups.limit ≡ t.groups.limit → u.groups.idle ≡ t.groups.idle → u.course ≡ t.course → u.groups.groups ≡ emptied x.group (is_begun x.phase) (stays_in u.editors) t.course.time t.groups.groups
      → HouseStands settings t events → HouseStands settings u (events ++ ev ∷ [])
  left_moves t u x y at is own step l i k gs s =
      let after = left_editors t.editors u.editors x y at is own step s.editors in
      record {
        editors = after;
        groups = left_groups t u x y at is own after l i gs s;
        now = one_more time_behind _ _ events ev s.now ∙ (time_alone _ ev time ∙ ap (λ (c : Course). c.time) (sym k));
        halted = stopped_more events ev ∙ (halts (stopped events) ∙ (s.halted ∙ ap (λ (c : Course). c.stopped) (sym k)));
      }

-- its link is to be ended: it keeps its home
pub close_moves : (settings : Settings) (events : List Event) (e : ℕ) (m : Message) (t u : Tables) (x y : Session) → slice_get t.editors e ≡ Some x → u.editors ≡ slice_set t.editors e y → y.group ≡ x.group → y.id ≡ x.id → y.asks ≡ x.asks → y.full ≡ x.full → y.phase ≡ phase_closed x.phase
    → u.groups.limit ≡ t.groups.limit → u.groups.idle ≡ t.groups.idle → u.course ≡ t.course → u.groups.groups ≡ emptied x.group (is_begun x.phase) (stays_in u.editors) t.course.time t.groups.groups
    → HouseStands settings t events → HouseStands settings u (events ++ did (CloseEditor e) m ∷ [])
close_moves settings events e m t u x y at is group id asks shows closed l i k gs s =
    left_moves settings events (did (CloseEditor e) m) e (λ h. refl) (λ n d f. rw f refl) (λ n. refl) (λ n f. refl) refl (λ b. refl) (λ n x. refl) (λ n k. refl) (λ n u full. refl) t u x y at is own (λ d p. rw (itself e, p) (sym closed)) l i k gs s
  where
    stays : home_of settings e (events ++ did (CloseEditor e) m ∷ []) ≡ home_of settings e events
    stays = home_stays settings e events (did (CloseEditor e) m) refl

    closes : desk_behind e (desk_of e events) (did (CloseEditor e) m) ≡ record { phase = phase_closed (desk_of e events).phase; initialize = (desk_of e events).initialize }
    closes = rw (itself e) refl

    own : LeftOne settings events (did (CloseEditor e) m) e x y
    own = record {
      home = λ h. stays ∙ (h ∙ sym group);
      name = λ n. named_by (goes_then (goes_closed (desk_of e events)) closes) stays id n;
      old = λ w. closed_old (desk_of e events).phase _ refl (sym (ap (λ (d : Desk). d.phase) closes) ∙ w);
      counts = λ g o h. ap (λ q. is_begun y.phase && is_home g q) (h ∙ sym group);
      asked = λ there. (sym (ap is_gone closed ∙ closed_gone x.phase) ∙ there, asks);
      full = λ there. (sym (ap is_gone closed ∙ closed_gone x.phase) ∙ there, shows);
    }

-- its link ended: it is in no group from then on
pub gone_moves : (settings : Settings) (events : List Event) (e : ℕ) (why : Why) (m : Message) (t u : Tables) (x : Session) → slice_get t.editors e ≡ Some x → u.editors ≡ slice_set t.editors e gone
    → u.groups.limit ≡ t.groups.limit → u.groups.idle ≡ t.groups.idle → u.course ≡ t.course → u.groups.groups ≡ emptied x.group (is_begun x.phase) (stays_in u.editors) t.course.time t.groups.groups
    → HouseStands settings t events → HouseStands settings u (events ++ took (EditorGone e why) m ∷ [])
gone_moves settings events e why m t u x at is l i k gs s =
    left_moves settings events (took (EditorGone e why) m) e (λ h. refl) (λ n d f. rw f refl) (λ n. refl) (λ n f. f) refl (λ b. refl) (λ n x. refl) (λ n k. refl) (λ n u full. refl) t u x gone at is own (λ d p. rw (itself e) refl) l i k gs s
  where
    leaves : desk_behind e (desk_of e events) (took (EditorGone e why) m) ≡ record { phase = Gone; initialize = (desk_of e events).initialize }
    leaves = rw (itself e) refl

    own : LeftOne settings events (took (EditorGone e why) m) e x gone
    own = record {
      home = λ h. home_more settings e events (took (EditorGone e why) m) ∙ rw (itself e) refl;
      name = λ n. rw (itself e) (record { own = λ g w k. absurd (cc); unplaced = λ w. absurd (cc) });
      old = λ w. let k : Gone ≡ New = sym (ap (λ (d : Desk). d.phase) leaves) ∙ w in cc;
      counts = λ g o h. refl;
      asked = λ there. never there;
      full = λ there. never there;
    }

pub closed_said : (settings : Settings) (events : List Event) (e : ℕ) (m : Message) (t u : Tables) (mid : List Session) (x : Session) (p : Phase) → e < length t.editors → slice_get t.editors e ≡ Some x → p ≡ phase_closed x.phase → mid ≡ with_session t.editors e (record (session_of t.editors e) { phase = p }) → u.editors ≡ mid → u.course ≡ t.course
    → u.groups ≡ with_groups (emptied x.group (is_begun x.phase) (stays_in mid) t.course.time t.groups.groups) t.groups
    → HouseStands settings t events → HouseStands settings u (events ++ did (CloseEditor e) m ∷ [])
closed_said settings events e m t u mid x p h at closed set es now gs s =
    let y : Session = record (session_of t.editors e) { phase = p } in
    close_moves settings events e m t u x y at (es ∙ set) (ap (λ (z : Session). z.group) (index_get t.editors e x _ at)) (ap (λ (z : Session). z.id) (index_get t.editors e x _ at)) (ap (λ (z : Session). z.asks) (index_get t.editors e x _ at)) (ap (λ (z : Session). z.full) (index_get t.editors e x _ at)) closed (ap (λ (w : Table). w.limit) gs) (ap (λ (w : Table). w.idle) gs) now
    (ap (λ (w : Table). w.groups) gs ∙ ap (λ ns. emptied x.group (is_begun x.phase) (stays_in ns) t.course.time t.groups.groups) (sym es)) s

read_at : {X : Type 0} (xs : List X) (i : ℕ) (d : X) → i < length xs → slice_get xs i ≡ Some (slice_index_or xs i d)
read_at [] i d h = absurd (omega arith)
read_at (x ∷ xs) zero d h = refl
read_at (x ∷ xs) (suc i) d h = read_at xs i d (omega arith)

-- the same, as the code has it
pub closed_by : (settings : Settings) (events : List Event) (e : ℕ) (m : Message) (t u : Tables) (mid : List Session) (phase p : Phase) (home : Option ℕ) (was : Bool) → e < length t.editors
    → phase ≡ (session_of t.editors e).phase → home ≡ (session_of t.editors e).group → p ≡ phase_closed phase → was ≡ is_begun phase
    → mid ≡ with_session t.editors e (record (session_of t.editors e) { phase = p }) → u.editors ≡ mid → u.course ≡ t.course
    → u.groups ≡ with_groups (emptied home was (stays_in mid) t.course.time t.groups.groups) t.groups
    → HouseStands settings t events → HouseStands settings u (events ++ did (CloseEditor e) m ∷ [])
closed_by settings events e m t u mid phase p home was h phases homes closes begun set es now gs s =
    let x : Session = session_of t.editors e in
    closed_said settings events e m t u mid x p h (read_at t.editors e _ h) (closes ∙ ap phase_closed phases) set es now
    (gs ∙ (ap (λ b. with_groups (emptied home b (stays_in mid) t.course.time t.groups.groups) t.groups) (begun ∙ ap is_begun phases) ∙ ap (λ o. with_groups (emptied o (is_begun x.phase) (stays_in mid) t.course.time t.groups.groups) t.groups) homes)) s

pub gone_by : (settings : Settings) (events : List Event) (e : ℕ) (why : Why) (m : Message) (t u : Tables) (mid : List Session) (phase : Phase) (home : Option ℕ) (was : Bool) → e < length t.editors
    → phase ≡ (session_of t.editors e).phase → home ≡ (session_of t.editors e).group → was ≡ is_begun phase
    → mid ≡ with_session t.editors e gone → u.editors ≡ mid → u.course ≡ t.course
    → u.groups ≡ with_groups (emptied home was (stays_in mid) t.course.time t.groups.groups) t.groups
    → HouseStands settings t events → HouseStands settings u (events ++ took (EditorGone e why) m ∷ [])
gone_by settings events e why m t u mid phase home was h phases homes begun set es now gs s =
    let x : Session = session_of t.editors e in
    let at : slice_get t.editors e ≡ Some x = read_at t.editors e _ h in
    gone_moves settings events e why m t u x at (es ∙ set) (ap (λ (w : Table). w.limit) gs) (ap (λ (w : Table). w.idle) gs) now
    (ap (λ (w : Table). w.groups) gs ∙ (ap (λ ns. emptied home was (stays_in ns) t.course.time t.groups.groups) (sym es)
    ∙ (ap (λ b. emptied home b (stays_in u.editors) t.course.time t.groups.groups) (begun ∙ ap is_begun phases) ∙ ap (λ o. emptied o (is_begun x.phase) (stays_in u.editors) t.course.time t.groups.groups) homes))) s
