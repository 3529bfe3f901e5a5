-- Groups that live, and those that aren't idle, where a list of groups changes.
use Rattle.std.proofs.Common.{◌≡◌, ℕ, zero, suc, ◌+◌, Bool, true, false, not, ◌&&◌, List, [], ◌∷◌, ◌++◌, length, nat_lt, if◌then◌else◌, Option, Some, None, ◌⊎◌, inl, inr, refl, sym, ◌∙◌, ap, subst, arith, append_assoc}
use Rattle.std.specs.Prelude.{slice_get, is_some, is_none}
use Rattle.std.specs.List.{AllByRecursion}
use Rattle.std.proofs.lemmas.Bool.{and_parts}
use Rattle.std.proofs.lemmas.List.{length-append}
use Rattle.event_model.proofs.Frames.{never}
use Rattle.group_words.specs.declared.idle.Idle.{Idle}
use Rattle.group_words.specs.declared.kept.Kept.{Kept}
use Rattle.group_words.specs.declared.placed.Placed.{Placed}
use Rattle.group_words.specs.declared.placed.Placed.TheVariants.{Joins, New as Founds, Evicts, TooMany}
use Rattle.group_words.specs.Houses.{emptied, idle_if_live}
use Rattle.group_words.specs.Keys.{Common, below_text, same_key}
use Rattle.group_words.specs.Placing.{all_from, busy, changed, end_where, ended, evicting, first_from, founded, founding, home_by, idle_from, idle_since, idlest_from, is_due, is_since, joining, live_count, longer, placed_in, takes, with_editor}
use Rattle.group_words.proofs.Frames.{changed_length, changed_other}
use Rattle.group_facts.specs.Lively.{is_busy, is_busy_at, lives, lives_at}

-- A group is changed

pub lives_changed : (f : Kept → Kept) → ((x : Kept) → (f x).live ≡ true → x.live ≡ true) → (i g : ℕ) (xs : List Kept) → lives_at g (changed i f xs) ≡ true → lives_at g xs ≡ true
lives_changed f back i g [] h = h
lives_changed f back zero zero (x ∷ xs) h = back x h
lives_changed f back zero (suc g) (x ∷ xs) h = h
lives_changed f back (suc i) zero (x ∷ xs) h = h
lives_changed f back (suc i) (suc g) (x ∷ xs) h = lives_changed f back i g xs h

pub busy_changed : (f : Kept → Kept) → ((x : Kept) → is_busy (Some x) ≡ true → is_busy (Some (f x)) ≡ true) → (i g : ℕ) (xs : List Kept) → is_busy_at g xs ≡ true → is_busy_at g (changed i f xs) ≡ true
busy_changed f keep i g [] h = h
busy_changed f keep zero zero (x ∷ xs) h = keep x h
busy_changed f keep zero (suc g) (x ∷ xs) h = h
busy_changed f keep (suc i) zero (x ∷ xs) h = h
busy_changed f keep (suc i) (suc g) (x ∷ xs) h = busy_changed f keep i g xs h

pub busy_apart : (i g : ℕ) (f : Kept → Kept) (xs : List Kept) → (g ≡ i → ⊥) → is_busy_at g xs ≡ true → is_busy_at g (changed i f xs) ≡ true
busy_apart i g f xs apart h = ap is_busy (changed_other i g f xs apart) ∙ h

-- the one that an editor joins
pub busy_joined : (g : ℕ) (xs : List Kept) → lives_at g xs ≡ true → is_busy_at g (changed g busy xs) ≡ true
busy_joined g [] h = absurd (cc)
busy_joined zero (x ∷ xs) h = ap (λ b. b && true) h
busy_joined (suc g) (x ∷ xs) h = busy_joined g xs h

busy_busy : (x : Kept) → is_busy (Some x) ≡ true → is_busy (Some (busy x)) ≡ true
busy_busy x h = ap (λ b. b && true) (and_parts x.live (is_none x.idle) h).0

pub lives_busy : (g : ℕ) (xs : List Kept) → is_busy_at g xs ≡ true → lives_at g xs ≡ true
lives_busy g xs h = go (slice_get xs g) h
  where
    go : (o : Option Kept) → is_busy o ≡ true → lives o ≡ true
    go None h = h
    go (Some x) h = (and_parts x.live (is_none x.idle) h).0

-- what leaves that a group lives leaves who lives
pub changed_lives : (f : Kept → Kept) → ((x : Kept) → (f x).live ≡ x.live) → (i g : ℕ) (xs : List Kept) → lives_at g (changed i f xs) ≡ lives_at g xs
changed_lives f same i g [] = refl
changed_lives f same zero zero (x ∷ xs) = same x
changed_lives f same zero (suc g) (x ∷ xs) = refl
changed_lives f same (suc i) zero (x ∷ xs) = refl
changed_lives f same (suc i) (suc g) (x ∷ xs) = changed_lives f same i g xs

pub lives_apart : (i g : ℕ) (f : Kept → Kept) (xs : List Kept) → (g ≡ i → ⊥) → lives_at g (changed i f xs) ≡ lives_at g xs
lives_apart i g f xs apart = ap lives (changed_other i g f xs apart)

-- A group is added

pub lives_left : (g : ℕ) (xs ys : List Kept) → lives_at g xs ≡ true → lives_at g (xs ++ ys) ≡ true
lives_left g [] ys h = absurd (cc)
lives_left zero (x ∷ xs) ys h = h
lives_left (suc g) (x ∷ xs) ys h = lives_left g xs ys h

busy_left : (g : ℕ) (xs ys : List Kept) → is_busy_at g xs ≡ true → is_busy_at g (xs ++ ys) ≡ true
busy_left g [] ys h = absurd (cc)
busy_left zero (x ∷ xs) ys h = h
busy_left (suc g) (x ∷ xs) ys h = busy_left g xs ys h

busy_last : (xs : List Kept) (x : Kept) → is_busy (Some x) ≡ true → is_busy_at (length xs) (xs ++ x ∷ []) ≡ true
busy_last [] x h = h
busy_last (y ∷ xs) x h = busy_last xs x h

lives_more : (g : ℕ) (xs : List Kept) (x : Kept) → lives_at g (xs ++ x ∷ []) ≡ true → (lives_at g xs ≡ true) ⊎ (g ≡ length xs)
lives_more zero [] x h = inr refl
lives_more (suc g) [] x h = absurd (cc)
lives_more zero (y ∷ xs) x h = inl h
lives_more (suc g) (y ∷ xs) x h = go (lives_more g xs x h)
  where
    go : (lives_at g xs ≡ true) ⊎ (g ≡ length xs) → (lives_at g xs ≡ true) ⊎ (suc g ≡ suc (length xs))
    go (inl k) = inl k
    go (inr k) = inr (ap suc k)

-- A group that is idle

abbrev pub is_idle : Option Kept → Bool
is_idle None = false
is_idle (Some x) = is_some (idle_since x)

abbrev pub is_idle_at : ℕ → List Kept → Bool
is_idle_at g xs = is_idle (slice_get xs g)

busy_idle : (o : Option Kept) → is_idle o ≡ true → is_busy o ≡ true → ⊥
busy_idle None idle busily = cc
busy_idle (Some x) idle busily = go x.live x.idle idle busily
  where
    go : (b : Bool) (o : Option ℕ) → is_some (if b then o else None) ≡ true → (b && is_none o) ≡ true → ⊥
    go true None h k = cc
    go true (Some t) h k = cc
    go false o h k = cc

-- where it ends, it lives no more
pub over_at : (a : ℕ) (xs : List Kept) (x : Kept) → is_idle_at a xs ≡ true → lives_at a (changed a ended xs ++ x ∷ []) ≡ false
over_at a [] x h = absurd (cc)
over_at zero (y ∷ xs) x h = refl
over_at (suc a) (y ∷ xs) x h = over_at a xs x h

-- Where an editor is placed

-- it joins a group that lives, and one that is idle is evicted; a new group is the next one
abbrev pub IsFair : List Kept → Placed → Type 0
IsFair groups (Joins g) = lives_at g groups ≡ true
IsFair groups (Founds g) = g ≡ length groups
IsFair groups (Evicts a g) = (is_idle_at a groups ≡ true) × (g ≡ length groups)
IsFair groups TooMany = Unit {0}

record Lives (i : ℕ) (xs : List Kept) (g : ℕ) : Type 0 where
  place : ℕ
  at : g ≡ i + place
  live : lives_at place xs ≡ true

first_lives : (i : ℕ) (test : Kept → Bool) (xs : List Kept) (g : ℕ) → ((x : Kept) → test x ≡ true → x.live ≡ true) → first_from i test xs ≡ Some g → Lives i xs g
first_lives i test [] g live h = absurd (cc)
first_lives i test (x ∷ xs) g live h = go (test x) refl (λ k. first_lives (i + 1) test xs g live k) h
  where
    the : {v w : ℕ} → ◌≡◌ {A = Option ℕ} (Some v) (Some w) → v ≡ w
    the e = cc

    go : (b : Bool) → test x ≡ b → (first_from (i + 1) test xs ≡ Some g → Lives (i + 1) xs g) → (if b then Some i else first_from (i + 1) test xs) ≡ Some g → Lives i (x ∷ xs) g
    go true is f at = let same : i ≡ g = the at in record { place = zero; at = omega (arith, same); live = live x is }
    go false is f at = let k : Lives (i + 1) xs g = f at in let place : g ≡ (i + 1) + k.place = k.at in record { place = suc k.place; at = omega (arith, place); live = k.live }

record Idles (i : ℕ) (xs : List Kept) (b : Idle) : Type 0 where
  place : ℕ
  at : b.group ≡ i + place
  idle : is_idle_at place xs ≡ true

the_idle : {v w : Idle} → ◌≡◌ {A = Option Idle} (Some v) (Some w) → v ≡ w
the_idle e = cc

-- the best so far, or this one
either_idle : (best : Option Idle) (i : ℕ) (o : Option ℕ) (b : Idle) → longer best i o ≡ Some b → (best ≡ Some b) ⊎ ((b.group ≡ i) × (is_some o ≡ true))
either_idle best i None b h = inl h
either_idle None i (Some t) b h = inr (sym (ap (λ (x : Idle). x.group) (the_idle h)), refl)
either_idle (Some c) i (Some t) b h = go (nat_lt t c.since) h
  where
    go : (w : Bool) → (if w then Some (record { group = i; since = t }) else Some c) ≡ Some b → (Some c ≡ Some b) ⊎ ((b.group ≡ i) × (is_some (Some t) ≡ true))
    go true h = inr (sym (ap (λ (x : Idle). x.group) (the_idle h)), refl)
    go false h = inl h

idlest_idles : (i : ℕ) (best : Option Idle) (xs : List Kept) (b : Idle) → idlest_from i best xs ≡ Some b → (best ≡ Some b) ⊎ Idles i xs b
idlest_idles i best [] b h = inl h
idlest_idles i best (x ∷ xs) b h = go (idlest_idles (i + 1) (longer best i (idle_since x)) xs b h)
  where
    here : (best ≡ Some b) ⊎ ((b.group ≡ i) × (is_some (idle_since x) ≡ true)) → (best ≡ Some b) ⊎ Idles i (x ∷ xs) b
    here (inl k) = inl k
    here (inr k) = let same : b.group ≡ i = k.0 in inr (record { place = zero; at = omega (arith, same); idle = k.1 })

    go : (longer best i (idle_since x) ≡ Some b) ⊎ Idles (i + 1) xs b → (best ≡ Some b) ⊎ Idles i (x ∷ xs) b
    go (inl k) = here (either_idle best i (idle_since x) b k)
    go (inr k) = let place : b.group ≡ (i + 1) + k.place = k.at in inr (record { place = suc k.place; at = omega (arith, place); idle = k.idle })

pub placed_fair : (limit : ℕ) (key : Common) (declared : List ℕ) (groups : List Kept) → IsFair groups (placed_in limit key declared groups)
placed_fair limit key declared groups = go (first_from 0 (takes key declared) groups) refl
  where
    live_taken : (x : Kept) → takes key declared x ≡ true → x.live ≡ true
    live_taken x h = (and_parts x.live (same_key key x.key && below_text x.declared declared) h).0

    idle_best : (x : Idle) → (◌≡◌ {A = Option Idle} None (Some x)) ⊎ Idles 0 groups x → is_idle_at x.group groups ≡ true
    idle_best x (inl none) = absurd (cc)
    idle_best x (inr k) = let place : x.group ≡ 0 + k.place = k.at in let same : x.group ≡ k.place = omega (arith, place) in subst (λ n. is_idle_at n groups ≡ true) (sym same) k.idle

    founds_fair : (b : Bool) (best : Option Idle) → idlest_from 0 None groups ≡ best → IsFair groups (if b then Founds (length groups) else evicting best (length groups))
    founds_fair true best at = refl
    founds_fair false None at = tt
    founds_fair false (Some x) at = (idle_best x (idlest_idles 0 None groups x at), refl)

    go : (o : Option ℕ) → first_from 0 (takes key declared) groups ≡ o → IsFair groups (joining o (founding limit groups))
    go (Some g) at = let k : Lives 0 groups g = first_lives 0 (takes key declared) groups g live_taken at in
        let place : g ≡ 0 + k.place = k.at in let same : g ≡ k.place = omega (arith, place) in subst (λ n. lives_at n groups ≡ true) (sym same) k.live
    go None at = founds_fair (nat_lt (live_count groups) limit) (idlest_from 0 None groups) refl

the_group : {v w : ℕ} → ◌≡◌ {A = Option ℕ} (Some v) (Some w) → v ≡ w
the_group e = cc

module _ (key : Common) (declared : List ℕ) (groups : List Kept) where
  -- the others keep their groups
  pub busy_placed : (p : Placed) → IsFair groups p → (g : ℕ) → is_busy_at g groups ≡ true → is_busy_at g (with_editor p key declared groups) ≡ true
  busy_placed (Joins h) fair g is = busy_changed busy busy_busy h g groups is
  busy_placed (Founds h) fair g is = busy_left g groups (founded key declared ∷ []) is
  busy_placed (Evicts a h) fair g is = busy_left g (changed a ended groups) (founded key declared ∷ []) (busy_apart a g ended groups (λ same. busy_idle (slice_get groups a) fair.0 (subst (λ n. is_busy_at n groups ≡ true) same is)) is)
  busy_placed TooMany fair g is = is

  -- a group that lives did before, or is new
  pub lives_placed : (p : Placed) → IsFair groups p → (g : ℕ) → lives_at g (with_editor p key declared groups) ≡ true → (lives_at g groups ≡ true) ⊎ (g ≡ length groups)
  lives_placed (Joins h) fair g is = inl (lives_changed busy (λ x k. k) h g groups is)
  lives_placed (Founds h) fair g is = lives_more g groups (founded key declared) is
  lives_placed (Evicts a h) fair g is = go (lives_more g (changed a ended groups) (founded key declared) is)
    where
      go : (lives_at g (changed a ended groups) ≡ true) ⊎ (g ≡ length (changed a ended groups)) → (lives_at g groups ≡ true) ⊎ (g ≡ length groups)
      go (inl k) = inl (lives_changed ended (λ x k. absurd (cc)) a g groups k)
      go (inr k) = inr (k ∙ changed_length a ended groups)
  lives_placed TooMany fair g is = inl is

  -- its own group isn't idle
  pub busy_own : (p : Placed) → IsFair groups p → (g : ℕ) → home_by p None ≡ Some g → is_busy_at g (with_editor p key declared groups) ≡ true
  busy_own (Joins h) fair g at = let same : h ≡ g = the_group at in subst (λ n. is_busy_at n (changed h busy groups) ≡ true) same (busy_joined h groups fair)
  busy_own (Founds h) fair g at = let same : h ≡ g = the_group at in subst (λ n. is_busy_at n (groups ++ founded key declared ∷ []) ≡ true) (sym fair ∙ same) (busy_last groups (founded key declared) refl)
  busy_own (Evicts a h) fair g at = let same : h ≡ g = the_group at in
      subst (λ n. is_busy_at n (changed a ended groups ++ founded key declared ∷ []) ≡ true) (changed_length a ended groups ∙ (sym fair.1 ∙ same)) (busy_last (changed a ended groups) (founded key declared) refl)
  busy_own TooMany fair g at = absurd (cc)

-- An editor leaves

idle_lives : (now : ℕ) (x : Kept) → (idle_if_live now x).live ≡ true → x.live ≡ true
idle_lives now x h = go x.live h
  where
    go : (b : Bool) → (if b then idle_from now x else x).live ≡ true → x.live ≡ true
    go true h = h
    go false h = h

pub lives_emptied : (home : Option ℕ) (was : Bool) (stays : ℕ → Bool) (now g : ℕ) (groups : List Kept) → lives_at g (emptied home was stays now groups) ≡ true → lives_at g groups ≡ true
lives_emptied None was stays now g groups h = h
lives_emptied (Some i) was stays now g groups h = go (was && not (stays i)) h
  where
    go : (b : Bool) → lives_at g (if b then changed i (idle_if_live now) groups else groups) ≡ true → lives_at g groups ≡ true
    go true h = lives_changed (idle_if_live now) (idle_lives now) i g groups h
    go false h = h

pub emptied_lives : (home : Option ℕ) (was : Bool) (stays : ℕ → Bool) (now g : ℕ) (groups : List Kept) → lives_at g (emptied home was stays now groups) ≡ lives_at g groups
emptied_lives None was stays now g groups = refl
emptied_lives (Some i) was stays now g groups = go (was && not (stays i))
  where
    same : (x : Kept) (b : Bool) → (if b then idle_from now x else x).live ≡ x.live
    same x true = refl
    same x false = refl

    go : (b : Bool) → lives_at g (if b then changed i (idle_if_live now) groups else groups) ≡ lives_at g groups
    go true = changed_lives (idle_if_live now) (λ x. same x x.live) i g groups
    go false = refl

pub busy_emptied : (home : Option ℕ) (was : Bool) (stays : ℕ → Bool) (now g : ℕ) (groups : List Kept) → stays g ≡ true → is_busy_at g groups ≡ true → is_busy_at g (emptied home was stays now groups) ≡ true
busy_emptied None was stays now g groups others h = h
busy_emptied (Some i) was stays now g groups others h = go was (stays i) refl
  where
    go : (w c : Bool) → stays i ≡ c → is_busy_at g (if w && not c then changed i (idle_if_live now) groups else groups) ≡ true
    go true true left = h
    go true false left = busy_apart i g (idle_if_live now) groups (λ same. never (sym others ∙ ap stays same ∙ left)) h
    go false c left = h

-- Groups that meet a test end

pub lives_ended : (test : Kept → Bool) (g : ℕ) (xs : List Kept) → lives_at g (end_where test xs) ≡ true → lives_at g xs ≡ true
lives_ended test g [] h = h
lives_ended test zero (x ∷ xs) h = go (test x) h
  where
    go : (b : Bool) → (if b then ended x else x).live ≡ true → x.live ≡ true
    go true h = absurd (cc)
    go false h = h
lives_ended test (suc g) (x ∷ xs) h = lives_ended test g xs h

-- those that aren't idle aren't among those that are due
busy_undue : (limit now : ℕ) (x : Kept) → is_busy (Some x) ≡ true → is_due limit now x ≡ false
busy_undue limit now x h = go x.live x.idle h
  where
    go : (b : Bool) (o : Option ℕ) → (b && is_none o) ≡ true → (b && is_since limit now o) ≡ false
    go true None h = refl
    go true (Some t) h = absurd (cc)
    go false o h = refl

pub busy_ended : (limit now g : ℕ) (xs : List Kept) → is_busy_at g xs ≡ true → is_busy_at g (end_where (is_due limit now) xs) ≡ true
busy_ended limit now g [] h = h
busy_ended limit now zero (x ∷ xs) h = ap (λ b. is_busy (Some (if b then ended x else x))) (busy_undue limit now x h) ∙ h
busy_ended limit now (suc g) (x ∷ xs) h = busy_ended limit now g xs h

pub lives_past : (ps : List Kept) (x : Kept) (xs : List Kept) → lives_at (length ps) (ps ++ x ∷ xs) ≡ x.live
lives_past [] x xs = refl
lives_past (p ∷ ps) x xs = lives_past ps x xs

-- each of them lives no more
over_from : (test : Kept → Bool) (ps xs : List Kept) (i : ℕ) → i ≡ length ps → AllByRecursion (λ g. lives_at g (ps ++ end_where test xs) ≡ false) (all_from i test xs)
over_from test ps [] i at = tt
over_from test ps (x ∷ xs) i at = go (test x) (λ z. subst (λ zs. AllByRecursion (λ g. lives_at g zs ≡ false) (all_from (i + 1) test xs)) (append_assoc ps (z ∷ []) (end_where test xs))
    (over_from test (ps ++ z ∷ []) xs (i + 1) (ap (λ n. n + 1) at ∙ sym (length-append ps (z ∷ [])))))
  where
    go : (b : Bool) → ((z : Kept) → AllByRecursion (λ g. lives_at g (ps ++ z ∷ end_where test xs) ≡ false) (all_from (i + 1) test xs))
        → AllByRecursion (λ g. lives_at g (ps ++ (if b then ended x else x) ∷ end_where test xs) ≡ false) (if b then i ∷ all_from (i + 1) test xs else all_from (i + 1) test xs)
    go true rest = (ap (λ n. lives_at n (ps ++ ended x ∷ end_where test xs)) at ∙ lives_past ps (ended x) (end_where test xs), rest (ended x))
    go false rest = rest x

-- of these each that lived and lives no more is one
pub all_at : (P : ℕ → Type 0) (test : Kept → Bool) (xs : List Kept) (i g n : ℕ) → n ≡ i + g → AllByRecursion P (all_from i test xs) → lives_at g xs ≡ true → lives_at g (end_where test xs) ≡ false → P n
all_at P test [] i g n same all live over = absurd (cc)
all_at P test (x ∷ xs) i zero n same all live over = go (test x) all over
  where
    go : (b : Bool) → AllByRecursion P (if b then i ∷ all_from (i + 1) test xs else all_from (i + 1) test xs) → (if b then ended x else x).live ≡ false → P n
    go true all over = subst P (omega (arith, same)) all.0
    go false all over = never (sym live ∙ over)
all_at P test (x ∷ xs) i (suc g) n same all live over = all_at P test xs (i + 1) g n (omega (arith, same)) (rest (test x) all) live over
  where
    rest : (b : Bool) → AllByRecursion P (if b then i ∷ all_from (i + 1) test xs else all_from (i + 1) test xs) → AllByRecursion P (all_from (i + 1) test xs)
    rest true all = all.1
    rest false all = all

pub over_ended : (test : Kept → Bool) (xs : List Kept) → AllByRecursion (λ g. lives_at g (end_where test xs) ≡ false) (all_from 0 test xs)
over_ended test xs = over_from test [] xs 0 refl
