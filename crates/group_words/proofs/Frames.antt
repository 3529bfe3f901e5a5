-- The groups and the editors' homes, one event further.
use Rattle.std.proofs.Common.{◌≡◌, ℕ, zero, suc, Bool, true, false, not, ◌&&◌, ◌||◌, List, [], ◌∷◌, ◌++◌, length, refl, ap, sym, subst, ◌∙◌, append_assoc, append-nil, nat_eq, arith}
use Rattle.std.specs.Prelude.{Option, Some, None, slice_get, codes, if◌then◌else◌}
use Rattle.std.proofs.lemmas.Bool.Decides.{nat_tests}
use Rattle.mux_history.specs.declared.cause.Cause.TheVariants.{FromEditor, EditorGone, StartFailed, FromServer, ServerGone, Tick}
use Rattle.mux_history.specs.declared.out.Out.TheVariants.{CloseEditor}
use Rattle.event_model.specs.Event.{Event, took, did, requests}
use Rattle.event_model.specs.Settings.{Settings}
use Rattle.event_model.specs.Spawns.{group_of}
use Rattle.group_words.specs.declared.kept.Kept.{Kept}
use Rattle.group_words.specs.Past.{past}
use Rattle.group_words.specs.Placing.{changed, ended}
use Rattle.group_words.specs.Houses.{House, house_next, house_of, groups_of, home_of, groups_next, home_next, is_home, is_first_error, idle_if_live, emptied, at_group}

pub never : {A : Type 0} → true ≡ false → A
never h = absurd (clash h)
  where
    clash : true ≡ false → ⊥
    clash h = cc

-- one event more
pub past_more : {A : Type 0} (step : List Event → A → Event → A) (before : List Event) (x : A) (events : List Event) (ev : Event) → past step before x (events ++ ev ∷ []) ≡ step (before ++ events) (past step before x events) ev
past_more step before x [] ev = ap (λ b. step b x ev) (sym (append-nil before))
past_more step before x (w ∷ ws) ev = past_more step (before ++ w ∷ []) (step before x w) ws ev ∙ ap (λ b. step b (past step (before ++ w ∷ []) (step before x w) ws) ev) (append_assoc before (w ∷ []) ws)

pub groups_more : (settings : Settings) (events : List Event) (ev : Event) → groups_of settings (events ++ ev ∷ []) ≡ groups_next settings events (house_of settings events) ev
groups_more settings events ev = ap (λ h. h.groups) (past_more (house_next settings) [] _ events ev)

pub home_more : (settings : Settings) (n : ℕ) (events : List Event) (ev : Event) → home_of settings n (events ++ ev ∷ []) ≡ home_next settings events (house_of settings events) ev n
home_more settings n events ev = ap (λ h. h.home n) (past_more (house_next settings) [] _ events ev)

-- the events that the groups speak of
abbrev pub touches_groups : Event → Bool
touches_groups (took (FromEditor e body) m) = requests (codes "initialize") m || requests (codes "lspmux/stop") m
touches_groups (took (EditorGone e why) m) = true
touches_groups (took (FromServer s body) m) = is_first_error m
touches_groups (took (StartFailed s) m) = true
touches_groups (took (ServerGone s) m) = true
touches_groups (took (Tick t) m) = true
touches_groups (did (CloseEditor e) m) = true
touches_groups other = false

-- the events that the home of an editor speaks of
abbrev pub names_home : ℕ → Event → Bool
names_home n (took (FromEditor e body) m) = nat_eq e n && requests (codes "initialize") m
names_home n (took (EditorGone e why) m) = nat_eq e n
names_home n other = false

left_off : (a b : Bool) → (a || b) ≡ false → a ≡ false
left_off true b h = never h
left_off false b h = refl

right_off : (a b : Bool) → (a || b) ≡ false → b ≡ false
right_off true b h = never h
right_off false b h = h

and_off : (a : Bool) → (a && false) ≡ false
and_off true = refl
and_off false = refl

and_swaps : (a b c : Bool) → (a && c) ≡ false → (a && (b && c)) ≡ false
and_swaps true true c h = h
and_swaps true false c h = refl
and_swaps false b c h = refl

pub groups_quiet : (settings : Settings) (before : List Event) (x : House) (ev : Event) → touches_groups ev ≡ false → groups_next settings before x ev ≡ x.groups
groups_quiet settings before x (took (FromEditor e body) m) h = rw (left_off (requests (codes "initialize") m) _ h, right_off (requests (codes "initialize") m) _ h, and_off) refl
groups_quiet settings before x (took (EditorGone e why) m) h = never h
groups_quiet settings before x (took (FromServer s body) m) h = rw h refl
groups_quiet settings before x (took (StartFailed s) m) h = never h
groups_quiet settings before x (took (ServerGone s) m) h = never h
groups_quiet settings before x (took (Tick t) m) h = never h
groups_quiet settings before x (did (CloseEditor e) m) h = never h
groups_quiet settings before x other h = refl

pub home_quiet : (settings : Settings) (before : List Event) (x : House) (n : ℕ) (ev : Event) → names_home n ev ≡ false → home_next settings before x ev n ≡ x.home n
home_quiet settings before x n (took (FromEditor e body) m) h = rw (and_swaps (nat_eq e n) _ (requests (codes "initialize") m) h) refl
home_quiet settings before x n (took (EditorGone e why) m) h = rw h refl
home_quiet settings before x n other h = refl

-- the word behind one event more
pub groups_stay : (settings : Settings) (events : List Event) (ev : Event) → touches_groups ev ≡ false → groups_of settings (events ++ ev ∷ []) ≡ groups_of settings events
groups_stay settings events ev h = groups_more settings events ev ∙ groups_quiet settings events (house_of settings events) ev h

pub home_stays : (settings : Settings) (n : ℕ) (events : List Event) (ev : Event) → names_home n ev ≡ false → home_of settings n (events ++ ev ∷ []) ≡ home_of settings n events
home_stays settings n events ev h = home_more settings n events ev ∙ home_quiet settings events (house_of settings events) n ev h

-- a changed group
pub changed_same : (i : ℕ) (f : Kept → Kept) (xs : List Kept) (x : Kept) → slice_get xs i ≡ Some x → slice_get (changed i f xs) i ≡ Some (f x)
changed_same i f [] x h = cc
changed_same zero f (w ∷ xs) x h = ap (λ z. Some (f z)) (the h)
  where
    the : {v w : Kept} → ◌≡◌ {A = Option Kept} (Some v) (Some w) → v ≡ w
    the e = cc
changed_same (suc i) f (w ∷ xs) x h = changed_same i f xs x h

pub changed_other : (i j : ℕ) (f : Kept → Kept) (xs : List Kept) → (j ≡ i → ⊥) → slice_get (changed i f xs) j ≡ slice_get xs j
changed_other i j f [] h = refl
changed_other zero zero f (x ∷ xs) h = absurd (h refl)
changed_other zero (suc j) f (x ∷ xs) h = refl
changed_other (suc i) zero f (x ∷ xs) h = refl
changed_other (suc i) (suc j) f (x ∷ xs) h = changed_other i j f xs (λ e. h (ap suc e))

pub itself : (n : ℕ) → nat_eq n n ≡ true
itself n = grind (arith, nat_tests)

pub unequal : (i j : ℕ) → nat_eq i j ≡ false → j ≡ i → ⊥
unequal i j h e = never (sym (itself i) ∙ subst (λ k. nat_eq i k ≡ false) e h)

pub changed_length : (i : ℕ) (f : Kept → Kept) (xs : List Kept) → length (changed i f xs) ≡ length xs
changed_length i f [] = refl
changed_length zero f (x ∷ xs) = refl
changed_length (suc i) f (x ∷ xs) = ap suc (changed_length i f xs)

-- the group of another number: of an editor that leaves, of a start that ends or refuses
abbrev pub names_group : List Event → House → ℕ → Event → Bool
names_group before x g (took (FromEditor e body) m) = requests (codes "initialize") m || requests (codes "lspmux/stop") m
names_group before x g (took (EditorGone e why) m) = is_home g (x.home e)
names_group before x g (took (FromServer s body) m) = is_first_error m && is_home g (group_of s before)
names_group before x g (took (StartFailed s) m) = is_home g (group_of s before)
names_group before x g (took (ServerGone s) m) = is_home g (group_of s before)
names_group before x g (took (Tick t) m) = true
names_group before x g (did (CloseEditor e) m) = is_home g (x.home e)
names_group before x g other = false

emptied_other : (g : ℕ) (home : Option ℕ) (was : Bool) (stays : ℕ → Bool) (now : ℕ) (xs : List Kept) → is_home g home ≡ false → slice_get (emptied home was stays now xs) g ≡ slice_get xs g
emptied_other g None was stays now xs h = refl
emptied_other g (Some i) was stays now xs h = by_test (was && not (stays i))
  where
    by_test : (b : Bool) → slice_get (if b then changed i (idle_if_live now) xs else xs) g ≡ slice_get xs g
    by_test false = refl
    by_test true = changed_other i g (idle_if_live now) xs (unequal i g h)

at_other : (g : ℕ) (home : Option ℕ) (f : ℕ → Kept → Kept) (xs : List Kept) → is_home g home ≡ false → slice_get (at_group home f xs) g ≡ slice_get xs g
at_other g None f xs h = refl
at_other g (Some i) f xs h = changed_other i g (f i) xs (unequal i g h)

refused_other : (g : ℕ) (first initializing : Bool) (home : Option ℕ) (xs : List Kept) → (first && is_home g home) ≡ false → slice_get (if first && initializing then at_group home (λ n. ended) xs else xs) g ≡ slice_get xs g
refused_other g true true home xs h = at_other g home (λ n. ended) xs h
refused_other g true false home xs h = refl
refused_other g false initializing home xs h = refl

-- an event of another group
pub group_apart : (settings : Settings) (before : List Event) (x : House) (g : ℕ) (ev : Event) → names_group before x g ev ≡ false → slice_get (groups_next settings before x ev) g ≡ slice_get x.groups g
group_apart settings before x g (took (FromEditor e body) m) h = ap (λ xs. slice_get xs g) (groups_quiet settings before x (took (FromEditor e body) m) h)
group_apart settings before x g (took (EditorGone e why) m) h = emptied_other g (x.home e) _ _ _ x.groups h
group_apart settings before x g (took (FromServer s body) m) h = refused_other g (is_first_error m) _ (group_of s before) x.groups h
group_apart settings before x g (took (StartFailed s) m) h = at_other g (group_of s before) _ x.groups h
group_apart settings before x g (took (ServerGone s) m) h = at_other g (group_of s before) _ x.groups h
group_apart settings before x g (took (Tick t) m) h = never h
group_apart settings before x g (did (CloseEditor e) m) h = emptied_other g (x.home e) _ _ _ x.groups h
group_apart settings before x g other h = refl

pub group_stays : (settings : Settings) (events : List Event) (g : ℕ) (ev : Event) → names_group events (house_of settings events) g ev ≡ false → slice_get (groups_of settings (events ++ ev ∷ [])) g ≡ slice_get (groups_of settings events) g
group_stays settings events g ev h = ap (λ xs. slice_get xs g) (groups_more settings events ev) ∙ group_apart settings events (house_of settings events) g ev h
