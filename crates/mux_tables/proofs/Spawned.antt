-- A start is spawned: for a new group, or for one whose last start ended.
use Rattle.std.proofs.Common.{◌≡◌, ℕ, ◌+◌, ◌<◌, ◌≤◌, List, [], ◌∷◌, ◌++◌, map, length, refl, ap, sym, subst, ◌∙◌, arith, nat_eq, false, inl, inr, if◌then◌else◌}
use Rattle.std.specs.Prelude.{Option, Some, None, slice_get, slice_set}
use Rattle.std.proofs.lemmas.Bool.{cases_lt, ne_eqb}
use Rattle.std.proofs.lemmas.List.{length-append}
use Rattle.std.proofs.lemmas.Option.{slice_get_within}
use Rattle.mux_history.specs.declared.out.Out.{Out}
use Rattle.mux_history.specs.declared.out.Out.TheVariants.{Spawn}
use Rattle.rpc_message.specs.Message.{not_message}
use Rattle.event_model.specs.declared.stage.Stage.TheVariants.{Ended}
use Rattle.event_model.specs.Does.{Does}
use Rattle.event_model.specs.Each.{Each}
use Rattle.event_model.specs.Event.{Event, behind, did}
use Rattle.event_model.specs.Row.{send}
use Rattle.event_model.specs.Settings.{Settings}
use Rattle.event_model.specs.Spawns.{starts_behind, starts_of, start_behind, start_of, group_behind, group_of}
use Rattle.event_model.specs.Stages.{Life, life_behind, life_of}
use Rattle.event_model.proofs.Frames.{one_more}
use Rattle.event_model.proofs.Places.{Same, same, other, compare, get_push_same, get_push_other, get_set_same, each_set, each_push}
use Rattle.event_model.proofs.Turns.{does_look}
use Rattle.group_words.specs.Rows.{result_behind, result_of, spawn}
use Rattle.id_rewrite.specs.Tables.{IsInOrder}
use Rattle.restart_replay.specs.Standings.{Standing, spawned}
use Rattle.mux_tables.specs.declared.tables.Start.{Start}
use Rattle.mux_tables.specs.declared.tables.Tables.{Tables}
use Rattle.group_laws.specs.group_rows.proofs.Frames.{forwarding_more}
use Rattle.group_laws.specs.group_rows.specs.Ticks.{is_stopping}
use Rattle.group_laws.specs.group_rows.specs.Asks.{asks_of, parked_of}
use Rattle.group_laws.specs.group_rows.specs.Lists.{lists_of}
use Rattle.group_laws.specs.group_rows.specs.Live.{live_of}
use Rattle.mux_tables.specs.Stands.{AsksAt, IsLost, IsNew, Lost, OriginsStand, Rise, IdsAt, IdsStand, Part, of_life, of_ids, of_shown, of_stop, of_asks, of_parked, of_live, of_lists, ListsAt, LiveAt, ParkedAt, PartStands, ShownAt, blank, LastStands, LastsStand, Stands}
use Rattle.mux_tables.proofs.Asking.{asks_more, parked_more}
use Rattle.mux_tables.proofs.TokenMoves.{same_created, same_waits}
use Rattle.mux_tables.proofs.Frames.{groups_stand, itself, last_stands, life_alone, part_apart}
use Rattle.mux_tables.proofs.Lasts.{Last, known, same_place}
use Rattle.mux_tables.proofs.Moves.{house_stands}
use Rattle.mux_tables.proofs.Placed.{groups_apart, lost_push, lost_set, rise_push, rise_set}
use Rattle.mux_tables.proofs.Publishing.{lists_more}
use Rattle.mux_tables.proofs.Registering.{live_more}
use Rattle.mux_tables.proofs.Said.{does_send}
use Rattle.mux_tables.proofs.Starts.{groups_kept, no_stop}
use Rattle.mux_tables.proofs.Awaited.{stopping_spawned}
use Rattle.mux_waits.proofs.Moves.{quiet_waits}

spawned_origins : (origins after : List ℕ) (events : List Event) (n g : ℕ) → n ≡ length origins → after ≡ origins ++ g ∷ [] → OriginsStand origins events → OriginsStand after (events ++ did (Spawn n g) not_message ∷ [])
spawned_origins origins after events n g last is s = record {
  count = one_more starts_behind _ _ events (did (Spawn n g) not_message) s.count ∙ (sym (length-append origins (g ∷ [])) ∙ ap length (sym is));
  group = λ m. one_more (group_behind m) _ _ events (did (Spawn n g) not_message) (s.group m)
      ∙ (subst (λ k. group_behind m (slice_get origins m) (did (Spawn k g) not_message) ≡ slice_get (origins ++ g ∷ []) m) (sym last) (go m (compare (length origins) m)) ∙ ap (λ xs. slice_get xs m) (sym is));
}
  where
    go : (m : ℕ) → Same (length origins) m → group_behind m (slice_get origins m) (did (Spawn (length origins) g) not_message) ≡ slice_get (origins ++ g ∷ []) m
    go _ same = rw (itself (length origins), get_push_same origins g) refl
    go m (other h) = rw (ne_eqb (length origins) m (λ q. h (sym q)), get_push_other origins g m h) refl

-- the tables of a start that was just spawned
abbrev pub IsFresh : ℕ → ℕ → ℕ → Start → Type 0
IsFresh limit n g y = (y.life ≡ spawned n g) × (y.started ≡ false) × (y.ids.requests ≡ []) × (y.ids.next ≡ 2) × (y.ids.limit ≡ limit) × IsInOrder y.ids × (y.shown ≡ None) × (y.asks ≡ []) × (y.parked ≡ []) × (y.live ≡ []) × (y.lists ≡ [])

spawned_last : (settings : Settings) (limit : ℕ) (events : List Event) (n g : ℕ) (y : Start) → ((p : Part) → PartStands p settings limit (blank limit n) events) → IsFresh limit n g y → LastStands settings limit (events ++ did (Spawn n g) not_message ∷ []) g y
spawned_last settings limit events n g y f new =
    let ev : Event = did (Spawn n g) not_message in
    let at : y.life.start ≡ n = ap (λ l. l.start) new.0 in
    record {
      start = one_more (start_behind g) _ _ events ev refl ∙ rw (itself g) (ap (λ m. Some m) (sym at));
      home = subst (λ m. group_of m (events ++ ev ∷ []) ≡ Some g) (sym at) (one_more (group_behind n) _ _ events ev refl ∙ rw (itself n) refl);
      own = ap (λ l. l.group) new.0;
      parts = λ p. part p;
    }
  where
    shown_from : result_of n (events ++ did (Spawn n g) not_message ∷ []) ≡ None → PartStands of_shown settings limit y (events ++ did (Spawn n g) not_message ∷ [])
    shown_from none = subst (λ (l : Standing). ShownAt l.stage y.shown (result_of l.start (events ++ did (Spawn n g) not_message ∷ []))) (sym new.0) (new.6, none)

    part : (p : Part) → PartStands p settings limit y (events ++ did (Spawn n g) not_message ∷ [])
    part of_life = subst (λ m. life_of m (events ++ did (Spawn n g) not_message ∷ []) ≡ record { stage = y.life.stage; started = y.started }) (sym (ap (λ l. l.start) new.0))
        (one_more (life_behind n) _ _ events (did (Spawn n g) not_message) refl ∙ rw (itself n) (rw (new.1) (ap (λ l. record { stage = l.stage; started = false }) (sym new.0))))
    part of_ids = subst (λ m. IdsStand settings limit m y.ids (events ++ did (Spawn n g) not_message ∷ [])) (sym (ap (λ l. l.start) new.0)) (subst (λ a. IdsAt limit a y.ids) (sym (forwarding_more settings n events (did (Spawn n g) not_message))) (record {
      next = (f of_ids).next ∙ sym new.3;
      open_requests = (f of_ids).open_requests ∙ sym (ap (map _) new.2);
      ends = new.4;
      order = new.5;
    }))
    part of_shown = shown_from (one_more (result_behind n) _ _ events (did (Spawn n g) not_message) (f of_shown).1)
    part of_stop = no_stop settings limit (events ++ did (Spawn n g) not_message ∷ []) y (ap (λ (l : Standing). is_stopping l.stage) new.0)
    part of_asks = subst (λ (l : Standing). AsksAt l.stage (events ++ did (Spawn n g) not_message ∷ []) (asks_of settings l.start (events ++ did (Spawn n g) not_message ∷ [])) y.asks) (sym new.0)
        (asks_more settings n events (did (Spawn n g) not_message) refl ∙ (f of_asks).0, new.7)
    part of_parked = subst (λ (l : Standing). ParkedAt l.stage (asks_of settings l.start (events ++ did (Spawn n g) not_message ∷ [])) (parked_of settings l.start (events ++ did (Spawn n g) not_message ∷ [])) y.parked) (sym new.0)
        (parked_more settings n events (did (Spawn n g) not_message) refl ∙ (f of_parked).0, new.8)
    part of_live = subst (λ (l : Standing). LiveAt l.stage (live_of settings l.start (events ++ did (Spawn n g) not_message ∷ [])) y.live) (sym new.0)
        (live_more settings n events (did (Spawn n g) not_message) ∙ (f of_live).0, new.9)
    part of_lists = subst (λ (l : Standing). ListsAt l.stage (lists_of l.start (events ++ did (Spawn n g) not_message ∷ [])) y.lists) (sym new.0)
        (lists_more n events (did (Spawn n g) not_message) ∙ (f of_lists).0, new.10)

-- the other groups
untouched : (settings : Settings) (limit : ℕ) (origins : List ℕ) (events : List Event) (n g j : ℕ) (z : Start) → n ≡ length origins → OriginsStand origins events → (j ≡ g → ⊥) → LastStands settings limit events j z → LastStands settings limit (events ++ did (Spawn n g) not_message ∷ []) j z
untouched settings limit origins events n g j z last st h s =
    let k : z.life.start < starts_of events = known settings limit origins events j z st s in
    let e : starts_of events ≡ n = st.count ∙ sym last in
    last_stands settings limit events (did (Spawn n g) not_message) j z (ne_eqb n z.life.start (λ q. absurd (omega (arith, e, k, q)))) (record { asks = refl; parked = refl }) (λ o. rw (ne_eqb g j (λ q. h (sym q))) refl) s

module _ (settings : Settings) (limit : ℕ) (origins : List ℕ) (lasts after : List Start) (events : List Event) (n g : ℕ) (last : n ≡ length origins) (st : OriginsStand origins events) (s : LastsStand settings limit lasts events) where
  abbrev ev : Event
  ev = did (Spawn n g) not_message

  spawned_lasts : Rise 0 after → (IsLost g after → ⊥) → ((j : ℕ) → IsLost j after → IsLost j lasts) → Each (λ place x. LastStands settings limit (events ++ ev ∷ []) x.life.group x) after → ((m : ℕ) → start_of g events ≡ Some m → (life_of m events).stage ≡ Ended) → LastsStand settings limit after (events ++ ev ∷ [])
  spawned_lasts rise inside older all ended = record {
    rise = rise;
    each = all;
    lost = λ j m none w. lost_before j m (compare g j) none w;
    fresh = λ m l p.
        let e : starts_of (events ++ ev ∷ []) ≡ n + 1 = one_more starts_behind _ _ events ev (st.count ∙ sym last) in
        let c : starts_of events ≡ n = st.count ∙ sym last in
        part_apart p settings limit (blank limit m) events ev (ne_eqb n m (λ q. absurd (omega (arith, e, l, q)))) (record { asks = refl; parked = refl }) (s.fresh m (omega (arith, e, c, l)) p);
    old = λ m h w. go m h (compare n m) w;
  }
    where
      lost_before : (j m : ℕ) → Same g j → IsLost j after → start_of j (events ++ ev ∷ []) ≡ Some m → Lost settings limit j m (events ++ ev ∷ [])
      lost_before _ m same none w = absurd (inside none)
      lost_before j m (other d) none w =
          let was = s.lost j m (older j none) (sym (one_more (start_behind j) _ _ events ev refl ∙ rw (ne_eqb g j (λ q. d (sym q))) refl) ∙ w) in
          record { last = was.last; stands = untouched settings limit origins events n g j was.last last st d was.stands; number = was.number; ended = was.ended; answered = was.answered }

      before : (m h : ℕ) → (m ≡ n → ⊥) → group_of m (events ++ ev ∷ []) ≡ Some h → group_of m events ≡ Some h
      before m h d w = sym (one_more (group_behind m) _ _ events ev refl ∙ rw (ne_eqb n m (λ q. d (sym q))) refl) ∙ w

      dead : (m : ℕ) → (m ≡ n → ⊥) → (life_of m events).stage ≡ Ended → (life_of m (events ++ ev ∷ [])).stage ≡ Ended
      dead m d q = ap (λ (l : Life). l.stage) (one_more (life_behind m) _ _ events ev refl ∙ life_alone m _ ev (ne_eqb n m (λ z. d (sym z)))) ∙ q

      kept : (m h : ℕ) → (m ≡ n → ⊥) → Same g h → Last events m h → Last (events ++ ev ∷ []) m h
      kept m _ d same (inl q) = inr (dead m d (ended m q))
      kept m h d (other k) (inl q) = inl (one_more (start_behind h) _ _ events ev q ∙ rw (ne_eqb g h (λ z. k (sym z))) refl)
      kept m h d k (inr q) = inr (dead m d q)

      go : (m h : ℕ) → Same n m → group_of m (events ++ ev ∷ []) ≡ Some h → Last (events ++ ev ∷ []) m h
      go _ h same w =
          let e : g ≡ h = same_place (sym (one_more (group_behind n) _ _ events ev refl ∙ rw (itself n) refl) ∙ w) in
          inl (one_more (start_behind h) _ _ events ev refl ∙ subst (λ k. (if nat_eq g k then Some n else start_of h events) ≡ Some n) e (rw (itself g) refl))
      go m h (other d) w = kept m h d (compare g h) (s.old m h (before m h d w))

module _ (settings : Settings) (t u : Tables) (events : List Event) (n g : ℕ) (y : Start) (last : n ≡ length t.origins.groups.items) (es : u.editors ≡ t.editors) (gs : u.groups ≡ t.groups) (now : u.course ≡ t.course) (os : u.origins.groups.items ≡ t.origins.groups.items ++ g ∷ []) (sk : u.origins.stopping ≡ t.origins.stopping) (cr : u.origins.created ≡ t.origins.created) (wt : u.origins.waiting ≡ t.origins.waiting) (r : u.requests ≡ t.requests) (new : IsFresh t.requests n g y) where
  fresh_parts : Stands settings t events → (p : Part) → PartStands p settings t.requests (blank t.requests n) events
  fresh_parts s p = s.lasts.fresh n (subst (λ k. k ≤ n) (sym s.origins.count) (omega (arith, last))) p

  all_stand : LastsStand settings t.requests u.lasts.items (events ++ did (Spawn n g) not_message ∷ []) → Stands settings t events → Stands settings u (events ++ did (Spawn n g) not_message ∷ [])
  all_stand lasts s = record {
    house = house_stands settings t u events (did (Spawn n g) not_message) refl (groups_kept settings t.groups u.groups events (did (Spawn n g) not_message) gs (groups_stand settings t.groups events (did (Spawn n g) not_message) refl)) refl es now s.house;
    origins = spawned_origins t.origins.groups.items u.origins.groups.items events n g last os s.origins;
    stopping = stopping_spawned events n g not_message (s.origins.count ∙ sym last) (ap (λ (l : Life). is_stopping l.stage) (fresh_parts s of_life)) ∙ s.stopping ∙ ap (λ v. v.items) (sym sk);
    created = same_created settings t u events (did (Spawn n g) not_message) cr (λ m. refl) s.created;
    waiting = same_waits settings t.origins u.origins events (did (Spawn n g) not_message) wt (λ rows. quiet_waits settings rows events (did (Spawn n g) not_message) refl) s.waiting;
    lasts = subst (λ k. LastsStand settings k u.lasts.items (events ++ did (Spawn n g) not_message ∷ [])) (sym r) lasts;
    requests = s.requests ∙ sym r;
    range = rw r s.range;
  }

  -- for a new group
  found_moves : IsNew g events → u.lasts.items ≡ t.lasts.items ++ y ∷ [] → Stands settings t events → Stands settings u (events ++ did (Spawn n g) not_message ∷ [])
  found_moves unfounded ls s =
      let here = spawned_last settings t.requests events n g y (fresh_parts s) new in
      all_stand (spawned_lasts settings t.requests t.origins.groups.items t.lasts.items u.lasts.items events n g last s.origins s.lasts
      (subst (Rise 0) (sym ls) (rise_push 0 t.lasts.items y (omega arith) (λ p x at. subst (λ k. x.life.group < k) (sym own) (below s p x at)) s.lasts.rise))
      (λ lost. lost (length t.lasts.items) y (ap (λ xs. slice_get xs (length t.lasts.items)) ls ∙ get_push_same t.lasts.items y) own)
      (λ j lost. lost_push j t.lasts.items y (subst (IsLost j) ls lost))
      (each_push (λ place x. LastStands settings t.requests events x.life.group x) (λ place x. LastStands settings t.requests (events ++ did (Spawn n g) not_message ∷ []) x.life.group x) t.lasts.items u.lasts.items y ls s.lasts.each (subst (λ k. LastStands settings t.requests (events ++ did (Spawn n g) not_message ∷ []) k y) (sym own) here)
      (λ j z w q. untouched settings t.requests t.origins.groups.items events n g z.life.group z last s.origins (λ e. clash (sym (unfounded g (omega arith)) ∙ (ap (λ k. start_of k events) (sym e) ∙ q.start))) q))
      (λ m e. absurd (clash (sym (unfounded g (omega arith)) ∙ e)))) s
    where
      clash : {m : ℕ} → ◌≡◌ {A = Option ℕ} None (Some m) → ⊥
      clash e = cc

      own : y.life.group ≡ g
      own = ap (λ (l : Standing). l.group) new.0

      below : Stands settings t events → (p : ℕ) (x : Start) → slice_get t.lasts.items p ≡ Some x → x.life.group < g
      below s p x at = elim (cases_lt x.life.group g) [
        | inl l ↦ l
        | inr l ↦ absurd (clash (sym (unfounded x.life.group l) ∙ (s.lasts.each p x at).start))
      ]

  -- for a group whose last start ended
  respawn_moves : (i : ℕ) (x : Start) → slice_get t.lasts.items i ≡ Some x → x.life.group ≡ g → x.life.stage ≡ Ended → u.lasts.items ≡ slice_set t.lasts.items i y → Stands settings t events → Stands settings u (events ++ did (Spawn n g) not_message ∷ [])
  respawn_moves i x at mine ended ls s =
      let here = spawned_last settings t.requests events n g y (fresh_parts s) new in
      let was : LastStands settings t.requests events g x = subst (λ k. LastStands settings t.requests events k x) mine (s.lasts.each i x at) in
      let own : y.life.group ≡ g = ap (λ (l : Standing). l.group) new.0 in
      let same : y.life.group ≡ x.life.group = own ∙ sym mine in
      all_stand (spawned_lasts settings t.requests t.origins.groups.items t.lasts.items u.lasts.items events n g last s.origins s.lasts
      (subst (Rise 0) (sym ls) (rise_set 0 t.lasts.items i x y at same s.lasts.rise))
      (λ lost. lost i y (ap (λ xs. slice_get xs i) ls ∙ get_set_same t.lasts.items i y (slice_get_within t.lasts.items i x at)) own)
      (λ j lost. lost_set j i t.lasts.items x y at same (subst (IsLost j) ls lost))
      (each_set (λ j z. (slice_get t.lasts.items j ≡ Some z) × LastStands settings t.requests events z.life.group z) (λ j z. LastStands settings t.requests (events ++ did (Spawn n g) not_message ∷ []) z.life.group z) t.lasts.items u.lasts.items i x y at ls (λ j z there. (there, s.lasts.each j z there))
      (λ _. subst (λ k. LastStands settings t.requests (events ++ did (Spawn n g) not_message ∷ []) k y) (sym own) here)
      (λ j z w _ q. untouched settings t.requests t.origins.groups.items events n g z.life.group z last s.origins (λ e. groups_apart t.lasts.items i j x z s.lasts.rise at q.0 w (e ∙ sym mine)) q.1))
      (λ m e. subst (λ k. (life_of k events).stage ≡ Ended) (same_place (sym was.start ∙ e)) (ap (λ (l : Life). l.stage) (was.parts of_life) ∙ ended))) s

-- the number is the next one
spawn_does : (settings : Settings) (t u : Tables) (xs ys : List Out) (base : List Event) (n g : ℕ) → n ≡ length t.origins.groups.items → ys ≡ xs ++ Spawn n g ∷ [] → (Stands settings t (behind base xs) → Stands settings u (behind base xs ++ did (Spawn n g) not_message ∷ [])) → Does (λ t events. Stands settings t events) (spawn g) base t xs u ys
spawn_does settings t u xs ys base n g last is go =
    does_look {Stands = λ t events. Stands settings t events} {f = λ events. send (Spawn (starts_of events) g)} (λ s. ap (λ k. send (Spawn k g)) (s.origins.count ∙ sym last)) (does_send settings (Spawn n g) base t u xs ys is go)

pub found_gives : (settings : Settings) (t u : Tables) (xs ys : List Out) (base : List Event) (n g : ℕ) (y : Start) → n ≡ length t.origins.groups.items → IsNew g (behind base xs) → u.editors ≡ t.editors → u.groups ≡ t.groups → u.course ≡ t.course → u.origins.groups.items ≡ t.origins.groups.items ++ g ∷ [] → u.origins.stopping ≡ t.origins.stopping → u.origins.created ≡ t.origins.created → u.origins.waiting ≡ t.origins.waiting → u.lasts.items ≡ t.lasts.items ++ y ∷ [] → u.requests ≡ t.requests
    → y.life ≡ spawned n g → y.started ≡ false → y.ids.requests ≡ [] → y.ids.next ≡ 2 → y.ids.limit ≡ t.requests → IsInOrder y.ids → y.shown ≡ None → y.asks ≡ [] → y.parked ≡ [] → y.live ≡ [] → y.lists ≡ [] → ys ≡ xs ++ Spawn n g ∷ [] → Does (λ t events. Stands settings t events) (spawn g) base t xs u ys
found_gives settings t u xs ys base n g y last unfounded es gs now os sk cr wt ls r life started requests next ends order blank_shown blank_asks blank_parked blank_live blank_lists is =
    spawn_does settings t u xs ys base n g last is (found_moves settings t u (behind base xs) n g y last es gs now os sk cr wt r (life, started, requests, next, ends, order, blank_shown, blank_asks, blank_parked, blank_live, blank_lists) unfounded ls)

pub respawn_gives : (settings : Settings) (t u : Tables) (xs ys : List Out) (base : List Event) (n g i : ℕ) (x y : Start) → n ≡ length t.origins.groups.items → slice_get t.lasts.items i ≡ Some x → x.life.group ≡ g → x.life.stage ≡ Ended → u.editors ≡ t.editors → u.groups ≡ t.groups → u.course ≡ t.course → u.origins.groups.items ≡ t.origins.groups.items ++ g ∷ [] → u.origins.stopping ≡ t.origins.stopping → u.origins.created ≡ t.origins.created → u.origins.waiting ≡ t.origins.waiting → u.lasts.items ≡ slice_set t.lasts.items i y → u.requests ≡ t.requests
    → y.life ≡ spawned n g → y.started ≡ false → y.ids.requests ≡ [] → y.ids.next ≡ 2 → y.ids.limit ≡ t.requests → IsInOrder y.ids → y.shown ≡ None → y.asks ≡ [] → y.parked ≡ [] → y.live ≡ [] → y.lists ≡ [] → ys ≡ xs ++ Spawn n g ∷ [] → Does (λ t events. Stands settings t events) (spawn x.life.group) base t xs u ys
respawn_gives settings t u xs ys base n g i x y last at mine ended es gs now os sk cr wt ls r life started requests next ends order blank_shown blank_asks blank_parked blank_live blank_lists is =
    subst (λ k. Does (λ t events. Stands settings t events) (spawn k) base t xs u ys) (sym mine) (spawn_does settings t u xs ys base n g last is (respawn_moves settings t u (behind base xs) n g y last es gs now os sk cr wt r (life, started, requests, next, ends, order, blank_shown, blank_asks, blank_parked, blank_live, blank_lists) i x at mine ended ls))
