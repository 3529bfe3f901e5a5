-- No more groups live than the limit, in any history.
use Rattle.std.proofs.Common.{◌≡◌, ℕ, zero, suc, ◌+◌, ◌≤◌, ◌⊎◌, inl, inr, Bool, true, false, not, ◌&&◌, List, [], ◌∷◌, ◌++◌, length, nat_lt, nat_le, refl, ap, sym, subst, ◌∙◌, if◌then◌else◌, arith}
use Rattle.std.specs.Prelude.{Option, Some, None, slice_get, filter}
use Rattle.mux_history.specs.declared.cause.Cause.TheVariants.{FromEditor, EditorGone, StartFailed, FromServer, ServerGone, Tick}
use Rattle.mux_history.specs.declared.out.Out.TheVariants.{CloseEditor}
use Rattle.event_model.specs.Event.{Event, took, did}
use Rattle.event_model.specs.Phases.{desk_of}
use Rattle.event_model.specs.Settings.{Settings}
use Rattle.event_model.specs.Spawns.{group_of}
use Rattle.event_model.specs.Stages.{life_of, is_initializing}
use Rattle.group_words.specs.declared.idle.Idle.{Idle}
use Rattle.group_words.specs.declared.kept.Kept.{Kept}
use Rattle.group_words.specs.declared.placed.Placed.TheVariants.{New}
use Rattle.group_words.specs.Keys.{Common}
use Rattle.group_words.specs.Past.{past}
use Rattle.group_words.specs.Placing.{busy, changed, end_where, ended, evicting, exited, first_from, founded, founding, idle_from, idle_since, idlest_from, is_live, joining, live_count, longer, placed_in, takes, with_editor}
use Rattle.group_words.specs.Houses.{House, at_group, emptied, exit_of, groups_next, groups_of, house_next, idle_if_live, is_first_error, no_house, places, stops}
use Rattle.group_words.proofs.Longest.{nat_lt_so}

one : Bool → ℕ
one true = 1
one false = 0

live_cons : (x : Kept) (xs : List Kept) → live_count (x ∷ xs) ≡ one x.live + live_count xs
unfolding one
live_cons x xs = by_test x.live
  where
    by_test : (b : Bool) → length (if b then x ∷ filter is_live xs else filter is_live xs) ≡ one b + live_count xs
    by_test true = omega arith
    by_test false = omega arith

one_less : (a b : Bool) → (a ≡ true → b ≡ true) → one a ≤ one b
unfolding one
one_less true true h = omega arith
one_less true false h = absurd (unlike (h refl))
  where
    unlike : false ≡ true → ⊥
    unlike e = cc
one_less false true h = omega arith
one_less false false h = omega arith

-- a change that revives no group
abbrev pub Ends : (Kept → Kept) → Type 0
Ends f = (x : Kept) → (f x).live ≡ true → x.live ≡ true

fewer : (f : Kept → Kept) → Ends f → (xs : List Kept) (i : ℕ) → live_count (changed i f xs) ≤ live_count xs
fewer f h [] i = omega arith
fewer f h (x ∷ xs) zero =
    let a = live_cons (f x) xs in
    let b = live_cons x xs in
    let l = one_less (f x).live x.live (h x) in
    omega arith
fewer f h (x ∷ xs) (suc i) =
    let a = live_cons x (changed i f xs) in
    let b = live_cons x xs in
    let l = fewer f h xs i in
    omega arith

fewer_where : (test : Kept → Bool) (xs : List Kept) → live_count (end_where test xs) ≤ live_count xs
fewer_where test [] = omega arith
fewer_where test (x ∷ xs) =
    let a = live_cons (if test x then ended x else x) (end_where test xs) in
    let b = live_cons x xs in
    let l = one_less (if test x then ended x else x).live x.live (by_test (test x)) in
    let m = fewer_where test xs in
    omega arith
  where
    by_test : (c : Bool) → (if c then ended x else x).live ≡ true → x.live ≡ true
    by_test true e = cc
    by_test false e = e

ends_ended : Ends ended
ends_ended x e = cc

ends_busy : Ends busy
ends_busy x e = e

ends_idle : (now : ℕ) → Ends (idle_if_live now)
ends_idle now x e = by_test x.live refl e
  where
    by_test : (c : Bool) → x.live ≡ c → (if c then idle_from now x else x).live ≡ true → x.live ≡ true
    by_test true l e = l
    by_test false l e = e

ends_exit : (restarts : ℕ) (wanted : Bool) → Ends (exit_of restarts wanted)
ends_exit restarts wanted x e = by_test x.live refl e
  where
    by_test : (c : Bool) → x.live ≡ c → (if c then (if wanted && nat_le (x.exits + 1) restarts then exited x else ended (exited x)) else x).live ≡ true → x.live ≡ true
    by_test true l e = l
    by_test false l e = e

one_more_live : (key : Common) (declared : List ℕ) (xs : List Kept) → live_count (xs ++ founded key declared ∷ []) ≡ live_count xs + 1
one_more_live key declared [] = refl
one_more_live key declared (x ∷ xs) =
    let a = live_cons x (xs ++ founded key declared ∷ []) in
    let b = live_cons x xs in
    let l = one_more_live key declared xs in
    omega arith

one_ended : (xs : List Kept) (i : ℕ) (k : Kept) → slice_get xs i ≡ Some k → k.live ≡ true → live_count (changed i ended xs) + 1 ≡ live_count xs
unfolding one
one_ended [] i k at l = absurd (unfound at)
  where
    unfound : ◌≡◌ {A = Option Kept} None (Some k) → ⊥
    unfound e = cc
one_ended (x ∷ xs) zero k at l =
    let a = live_cons (ended x) xs in
    let b = live_cons x xs in
    let alive : one x.live ≡ 1 = ap (λ (y : Kept). one y.live) (the at) ∙ ap one l in
    omega arith
  where
    the : {v w : Kept} → ◌≡◌ {A = Option Kept} (Some v) (Some w) → v ≡ w
    the e = cc
one_ended (x ∷ xs) (suc i) k at l =
    let a = live_cons x (changed i ended xs) in
    let b = live_cons x xs in
    let m = one_ended xs i k at l in
    omega arith

-- what is found lives
abbrev Lives : ℕ → List Kept → Option Idle → Idle → Type 0
Lives i xs best x = (best ≡ Some x) ⊎ ((j : ℕ) × (k : Kept) × (slice_get xs j ≡ Some k) × (k.live ≡ true) × (x.group ≡ i + j))

found_now : (best : Option Idle) (i t : ℕ) (x : Idle) → longer best i (Some t) ≡ Some x → (best ≡ Some x) ⊎ (i ≡ x.group)
found_now None i t x e = inr (group_of_it e)
  where
    group_of_it : ◌≡◌ {A = Option Idle} (Some (record { group = i; since = t })) (Some x) → i ≡ x.group
    group_of_it e = cc
found_now (Some b) i t x e = by_test (nat_lt t b.since) e
  where
    group_of_it : ◌≡◌ {A = Option Idle} (Some (record { group = i; since = t })) (Some x) → i ≡ x.group
    group_of_it e = cc

    by_test : (c : Bool) → (if c then Some (record { group = i; since = t }) else Some b) ≡ Some x → (◌≡◌ {A = Option Idle} (Some b) (Some x)) ⊎ (i ≡ x.group)
    by_test true e = inr (group_of_it e)
    by_test false e = inl e

idle_lives : (y : Kept) (t : ℕ) → idle_since y ≡ Some t → y.live ≡ true
idle_lives y t e = by_test y.live refl e
  where
    none_some : {A : Type 0} → ◌≡◌ {A = Option ℕ} None (Some t) → A
    none_some e = absurd (clash e)
      where
        clash : ◌≡◌ {A = Option ℕ} None (Some t) → ⊥
        clash e = cc

    by_test : (b : Bool) → y.live ≡ b → (if b then y.idle else None) ≡ Some t → y.live ≡ true
    by_test true l w = l
    by_test false l w = none_some w

found_lives : (i : ℕ) (best : Option Idle) (xs : List Kept) (x : Idle) → idlest_from i best xs ≡ Some x → Lives i xs best x
found_lives i best [] x e = inl e
found_lives i best (y ∷ ys) x e = from (found_lives (i + 1) (longer best i (idle_since y)) ys x e)
  where
    at_y : (t : ℕ) → idle_since y ≡ Some t → (best ≡ Some x) ⊎ (i ≡ x.group) → Lives i (y ∷ ys) best x
    at_y t q (inl e) = inl e
    at_y t q (inr g) = inr (0, y, refl, idle_lives y t q, omega arith)

    here : (o : Option ℕ) → idle_since y ≡ o → longer best i o ≡ Some x → Lives i (y ∷ ys) best x
    here None q e = inl e
    here (Some t) q e = at_y t q (found_now best i t x e)

    from : Lives (i + 1) ys (longer best i (idle_since y)) x → Lives i (y ∷ ys) best x
    from (inl q) = here (idle_since y) refl q
    from (inr (j, k, at, l, g)) = inr (suc j, k, at, l, omega arith)

evicted_live : (xs : List Kept) (x : Idle) → idlest_from 0 None xs ≡ Some x → live_count (changed x.group ended xs) + 1 ≡ live_count xs
evicted_live xs x e = from (found_lives 0 None xs x e)
  where
    from : Lives 0 xs None x → live_count (changed x.group ended xs) + 1 ≡ live_count xs
    from (inl q) = absurd (clash q)
      where
        clash : ◌≡◌ {A = Option Idle} None (Some x) → ⊥
        clash e = cc
    from (inr (j, k, at, l, g)) = let same : x.group ≡ j = omega arith in subst (λ n. live_count (changed n ended xs) + 1 ≡ live_count xs) (sym same) (one_ended xs j k at l)

-- placing an editor keeps the limit
founding_keeps : (limit : ℕ) (key : Common) (declared : List ℕ) (xs : List Kept) → live_count xs ≤ limit → live_count (with_editor (founding limit xs) key declared xs) ≤ limit
founding_keeps limit key declared xs h = by_room (nat_lt (live_count xs) limit) refl
  where
    by_found : (o : Option Idle) → idlest_from 0 None xs ≡ o → live_count (with_editor (evicting o (length xs)) key declared xs) ≤ limit
    by_found None e = h
    by_found (Some x) e =
        let a = one_more_live key declared (changed x.group ended xs) in
        let b = evicted_live xs x e in
        omega arith

    by_room : (c : Bool) → nat_lt (live_count xs) limit ≡ c → live_count (with_editor (if c then New (length xs) else evicting (idlest_from 0 None xs) (length xs)) key declared xs) ≤ limit
    by_room true e =
        let a = one_more_live key declared xs in
        let b = nat_lt_so (live_count xs) limit e in
        omega arith
    by_room false e = by_found (idlest_from 0 None xs) refl

placing_keeps : (limit : ℕ) (key : Common) (declared : List ℕ) (xs : List Kept) → live_count xs ≤ limit → live_count (with_editor (placed_in limit key declared xs) key declared xs) ≤ limit
placing_keeps limit key declared xs h = by_first (first_from 0 (takes key declared) xs)
  where
    by_first : (o : Option ℕ) → live_count (with_editor (joining o (founding limit xs)) key declared xs) ≤ limit
    by_first None = founding_keeps limit key declared xs h
    by_first (Some g) = let l = fewer busy ends_busy xs g in omega arith

module _ (settings : Settings) where
  changes_keep : (f : Kept → Kept) → Ends f → (xs : List Kept) (i : ℕ) → live_count xs ≤ settings.limits.groups → live_count (changed i f xs) ≤ settings.limits.groups
  changes_keep f e xs i h = let l = fewer f e xs i in omega arith

  where_keeps : (test : Kept → Bool) (xs : List Kept) → live_count xs ≤ settings.limits.groups → live_count (end_where test xs) ≤ settings.limits.groups
  where_keeps test xs h = let l = fewer_where test xs in omega arith

  leaving_keeps : (home : Option ℕ) (was : Bool) (stays : ℕ → Bool) (now : ℕ) (xs : List Kept) → live_count xs ≤ settings.limits.groups → live_count (emptied home was stays now xs) ≤ settings.limits.groups
  leaving_keeps None was stays now xs h = h
  leaving_keeps (Some g) was stays now xs h = by_test (was && not (stays g))
    where
      by_test : (c : Bool) → live_count (if c then changed g (idle_if_live now) xs else xs) ≤ settings.limits.groups
      by_test true = changes_keep (idle_if_live now) (ends_idle now) xs g h
      by_test false = h

  at_keeps : (home : Option ℕ) (f : ℕ → Kept → Kept) → ((g : ℕ) → Ends (f g)) → (xs : List Kept) → live_count xs ≤ settings.limits.groups → live_count (at_group home f xs) ≤ settings.limits.groups
  at_keeps None f e xs h = h
  at_keeps (Some g) f e xs h = changes_keep (f g) (e g) xs g h

  hearing_keeps : (b c : Bool) (key : Common) (declared : List ℕ) (xs : List Kept) → live_count xs ≤ settings.limits.groups
      → live_count (if b then with_editor (placed_in settings.limits.groups key declared xs) key declared xs else if c then end_where is_live xs else xs) ≤ settings.limits.groups
  hearing_keeps true c key declared xs h = placing_keeps settings.limits.groups key declared xs h
  hearing_keeps false true key declared xs h = where_keeps is_live xs h
  hearing_keeps false false key declared xs h = h

  refusing_keeps : (b : Bool) (home : Option ℕ) (xs : List Kept) → live_count xs ≤ settings.limits.groups → live_count (if b then at_group home (λ g. ended) xs else xs) ≤ settings.limits.groups
  refusing_keeps true home xs h = at_keeps home (λ g. ended) (λ g. ends_ended) xs h
  refusing_keeps false home xs h = h

  next_keeps : (before : List Event) (x : House) (ev : Event) → live_count x.groups ≤ settings.limits.groups → live_count (groups_next settings before x ev) ≤ settings.limits.groups
  next_keeps before x (took (FromEditor e body) m) h = hearing_keeps (places (desk_of e before).phase m) (stops before e m) _ _ x.groups h
  next_keeps before x (took (EditorGone e why) m) h = leaving_keeps (x.home e) _ _ _ x.groups h
  next_keeps before x (took (FromServer s body) m) h = refusing_keeps (is_first_error m && is_initializing (life_of s before).stage) (group_of s before) x.groups h
  next_keeps before x (took (StartFailed s) m) h = at_keeps (group_of s before) _ (λ g. ends_exit settings.limits.restarts _) x.groups h
  next_keeps before x (took (ServerGone s) m) h = at_keeps (group_of s before) _ (λ g. ends_exit settings.limits.restarts _) x.groups h
  next_keeps before x (took (Tick t) m) h = where_keeps _ x.groups h
  next_keeps before x (did (CloseEditor e) m) h = leaving_keeps (x.home e) _ _ _ x.groups h
  next_keeps before x other h = h

  past_keeps : (before : List Event) (x : House) (events : List Event) → live_count x.groups ≤ settings.limits.groups → live_count (past (house_next settings) before x events).groups ≤ settings.limits.groups
  past_keeps before x [] h = h
  past_keeps before x (ev ∷ events) h = past_keeps (before ++ ev ∷ []) (house_next settings before x ev) events (next_keeps before x ev h)

  pub limited : (events : List Event) → live_count (groups_of settings events) ≤ settings.limits.groups
  limited events = past_keeps [] no_house events (omega arith)
