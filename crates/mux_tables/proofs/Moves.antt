-- All tables, one event further.
use Rattle.std.proofs.Common.{◌≡◌, ◌<◌, ◌^◌, ℕ, List, [], ◌∷◌, ◌++◌, refl, ap, sym, subst, ◌∙◌, false, nat_eq}
use Rattle.std.specs.Prelude.{Some, slice_get, slice_set}
use Rattle.std.specs.List.{remove}
use Rattle.event_model.specs.declared.stage.Stage.TheVariants.{Ended}
use Rattle.event_model.specs.Event.{Event}
use Rattle.event_model.specs.Settings.{Settings}
use Rattle.event_model.specs.Spawns.{start_behind, group_behind, group_of}
use Rattle.event_model.proofs.Frames.{one_more}
use Rattle.event_model.specs.Stages.{Life, life_of}
use Rattle.group_laws.specs.group_rows.specs.Ticks.{is_stopping}
use Rattle.group_words.specs.Houses.{time_behind}
use Rattle.group_words.proofs.Frames.{touches_groups}
use Rattle.mux_tables.specs.declared.tables.Course.{Course}
use Rattle.mux_tables.proofs.Halted.{stopped_past}
use Rattle.mux_tables.specs.declared.tables.Start.{Start}
use Rattle.mux_tables.specs.declared.tables.Tables.{Tables}
use Rattle.mux_tables.specs.Stands.{AsksStay, Part, PartStands, EditorsStand, GroupsStand, OriginsStand, LastStands, LastsStand, HouseStands, Stands}
use Rattle.group_laws.specs.group_rows.specs.Created.{created_of}
use Rattle.mux_tokens.specs.Stands.{CreatedStand}
use Rattle.mux_tokens.proofs.Standing.{stay_stands}
use Rattle.mux_tokens.proofs.Stays.{passes_stay}
use Rattle.mux_tables.proofs.TokenMoves.{KeptMove, OriginsMove}
use Rattle.mux_tables.proofs.Frames.{passes_quiet, waits_quiet, asks_alone, names_start, names_editor, spawns, ticks, editors_stand, groups_stand, origins_stand, start_alone, group_alone, life_alone, time_alone}
use Rattle.mux_tables.proofs.Lasts.{last_forgotten, lasts_stand, one_last}
use Rattle.mux_tables.proofs.Awaited.{StopsMove, stopping_more, stops_kept}
use Rattle.mux_waits.specs.Stands.{WaitingStand}
use Rattle.mux_waits.proofs.Moves.{quiet_waits}

module _ (settings : Settings) where
  -- an event that editors, groups and the time don't speak of
  pub house_stands : (t u : Tables) (events : List Event) (ev : Event) → names_editor ev ≡ false → (GroupsStand settings t.groups events → GroupsStand settings u.groups (events ++ ev ∷ [])) → ticks ev ≡ false → u.editors ≡ t.editors → u.course ≡ t.course → HouseStands settings t events → HouseStands settings u (events ++ ev ∷ [])
  house_stands t u events ev e g w es now s = record {
    editors = subst (λ xs. EditorsStand settings xs (events ++ ev ∷ [])) (sym es) (editors_stand settings t.editors events ev e s.editors);
    groups = g s.groups;
    now = one_more time_behind _ _ events ev s.now ∙ (time_alone _ ev w ∙ ap (λ (c : Course). c.time) (sym now));
    halted = stopped_past events ev e ∙ (s.halted ∙ ap (λ (c : Course). c.stopped) (sym now));
  }

  -- an event that no table speaks of
  pub quiet_moves : (t : Tables) (events : List Event) (ev : Event) → names_editor ev ≡ false → touches_groups ev ≡ false → ticks ev ≡ false → ((n : ℕ) → names_start n ev ≡ false) → spawns ev ≡ false → Stands settings t events → Stands settings t (events ++ ev ∷ [])
  quiet_moves t events ev e g w n k s = record {
    house = house_stands t t events ev e (groups_stand settings t.groups events ev g) w refl refl s.house;
    origins = origins_stand t.origins.groups.items events ev k s.origins;
    stopping = stopping_more events ev k (λ m. ap (λ (l : Life). is_stopping l.stage) (life_alone m (life_of m events) ev (n m))) ∙ s.stopping;
    created = stay_stands settings t.origins.created events ev (λ m. passes_stay settings m events (created_of settings m events) ev (passes_quiet m ev e (n m))) s.created;
    waiting = quiet_waits settings t.origins.waiting events ev (waits_quiet ev e n) s.waiting;
    lasts = lasts_stand settings t.requests t.lasts.items events ev n (λ m. asks_alone settings m events ev e (n m)) k s.lasts;
    requests = s.requests;
    range = s.range;
  }

  -- an event that editors, groups and the time speak of, and what editors were asked
  pub house_and_lasts : (t u : Tables) (events : List Event) (ev : Event) → ((n : ℕ) → names_start n ev ≡ false) → spawns ev ≡ false → OriginsMove settings t.origins u.origins events ev → u.requests ≡ t.requests
      → (OriginsStand t.origins.groups.items events → LastsStand settings t.requests t.lasts.items events → LastsStand settings t.requests u.lasts.items (events ++ ev ∷ []))
      → (HouseStands settings t events → HouseStands settings u (events ++ ev ∷ [])) → Stands settings t events → Stands settings u (events ++ ev ∷ [])
  house_and_lasts t u events ev n k os r ls go s = record {
    house = go s.house;
    origins = subst (λ v. OriginsStand v.items (events ++ ev ∷ [])) (sym os.groups) (origins_stand t.origins.groups.items events ev k s.origins);
    stopping = stops_kept t u events ev os.stopping k (λ m. ap (λ (l : Life). is_stopping l.stage) (life_alone m (life_of m events) ev (n m))) s.stopping;
    created = os.created s.created;
    waiting = os.waiting s.waiting;
    lasts = subst (λ m. LastsStand settings m u.lasts.items (events ++ ev ∷ [])) (sym r) (ls s.origins s.lasts);
    requests = s.requests ∙ sym r;
    range = subst (λ n. n < 2 ^ 32) (sym r) s.range;
  }

  -- an event that editors, groups and the time alone speak of
  pub house_moves : (t u : Tables) (events : List Event) (ev : Event) → ((n : ℕ) → names_start n ev ≡ false) → ((n : ℕ) → AsksStay settings n events ev) → spawns ev ≡ false → u.lasts.items ≡ t.lasts.items → OriginsMove settings t.origins u.origins events ev → u.requests ≡ t.requests
      → (HouseStands settings t events → HouseStands settings u (events ++ ev ∷ [])) → Stands settings t events → Stands settings u (events ++ ev ∷ [])
  house_moves t u events ev n a k ls os r go s = record {
    house = go s.house;
    origins = subst (λ v. OriginsStand v.items (events ++ ev ∷ [])) (sym os.groups) (origins_stand t.origins.groups.items events ev k s.origins);
    stopping = stops_kept t u events ev os.stopping k (λ m. ap (λ (l : Life). is_stopping l.stage) (life_alone m (life_of m events) ev (n m))) s.stopping;
    created = os.created s.created;
    waiting = os.waiting s.waiting;
    lasts = rw (ls, r) (lasts_stand settings t.requests t.lasts.items events ev n a k s.lasts);
    requests = s.requests ∙ sym r;
    range = subst (λ n. n < 2 ^ 32) (sym r) s.range;
  }

  -- what moves is the last start of one group
  module _ (t u : Tables) (events : List Event) (ev : Event) (i : ℕ) (x : Start) (e : names_editor ev ≡ false) (g : GroupsStand settings t.groups events → GroupsStand settings u.groups (events ++ ev ∷ [])) (w : ticks ev ≡ false) (k : spawns ev ≡ false) (n : (m : ℕ) → names_start m ev ≡ nat_eq x.life.start m)
      (at : slice_get t.lasts.items i ≡ Some x) (es : u.editors ≡ t.editors) (now : u.course ≡ t.course) (os : u.origins.groups ≡ t.origins.groups) (sk : StopsMove t u events ev) (cm : KeptMove settings t u events ev) (r : u.requests ≡ t.requests) where
    last_moves : (y : Start) → y.life.group ≡ x.life.group → u.lasts.items ≡ slice_set t.lasts.items i y → (LastStands settings t.requests events x.life.group x → LastStands settings t.requests (events ++ ev ∷ []) x.life.group y) → Stands settings t events → Stands settings u (events ++ ev ∷ [])
    last_moves y group is go s = record {
      house = house_stands t u events ev e g w es now s.house;
      origins = subst (λ v. OriginsStand v.items (events ++ ev ∷ [])) (sym os) (origins_stand t.origins.groups.items events ev k s.origins);
      stopping = sk s.stopping;
      created = cm.created s.created;
      waiting = cm.waiting s.waiting;
      lasts = subst (λ m. LastsStand settings m u.lasts.items (events ++ ev ∷ [])) (sym r) (one_last settings t.requests t.origins.groups.items t.lasts.items u.lasts.items events ev i x y n e k at is group s.origins go s.lasts);
      requests = s.requests ∙ sym r;
      range = subst (λ n. n < 2 ^ 32) (sym r) s.range;
    }

    -- its tables
    pub parts_move : (y : Start) → y.life.start ≡ x.life.start → y.life.group ≡ x.life.group → u.lasts.items ≡ slice_set t.lasts.items i y → ((p : Part) → PartStands p settings t.requests x events → PartStands p settings t.requests y (events ++ ev ∷ []))
        → Stands settings t events → Stands settings u (events ++ ev ∷ [])
    parts_move y starts group is go s = last_moves y group is (λ g. record {
      start = one_more (start_behind x.life.group) _ _ events ev g.start ∙ (start_alone x.life.group _ ev k ∙ ap (λ m. Some m) (sym starts));
      home = subst (λ m. group_of m (events ++ ev ∷ []) ≡ Some x.life.group) (sym starts) (one_more (group_behind x.life.start) _ _ events ev g.home ∙ group_alone x.life.start _ ev k);
      own = group ∙ g.own;
      parts = λ p. go p (g.parts p);
    }) s

-- what is kept of a group whose last start ended is forgotten
pub forgotten : (settings : Settings) (t u : Tables) (events : List Event) (i : ℕ) (x : Start) → slice_get t.lasts.items i ≡ Some x → x.life.stage ≡ Ended → x.ids.requests ≡ [] → u.lasts.items ≡ remove t.lasts.items i → u.editors ≡ t.editors → u.groups ≡ t.groups → u.course ≡ t.course → u.origins ≡ t.origins → u.requests ≡ t.requests
    → Stands settings t events → Stands settings u events
forgotten settings t u events i x at ended answered ls es gs now os r s = record {
  house = record {
    editors = subst (λ xs. EditorsStand settings xs events) (sym es) s.house.editors;
    groups = subst (λ xs. GroupsStand settings xs events) (sym gs) s.house.groups;
    now = s.house.now ∙ ap (λ (c : Course). c.time) (sym now);
    halted = s.house.halted ∙ ap (λ (c : Course). c.stopped) (sym now);
  };
  origins = subst (λ v. OriginsStand v.groups.items events) (sym os) s.origins;
  stopping = s.stopping ∙ ap (λ v. v.stopping.items) (sym os);
  created = subst (λ v. CreatedStand settings v.created events) (sym os) s.created;
  waiting = subst (λ v. WaitingStand settings v.waiting events) (sym os) s.waiting;
  lasts = subst (λ m. LastsStand settings m u.lasts.items events) (sym r) (last_forgotten settings t.requests t.lasts.items u.lasts.items events i x at ls ended answered s.lasts);
  requests = s.requests ∙ sym r;
  range = subst (λ n. n < 2 ^ 32) (sym r) s.range;
}
