-- What is found in a list that changed.
use Rattle.std.proofs.Common.{◌≡◌, Bool, true, false, cond, List, [], ◌∷◌, ◌++◌, filter, find, flat_map, map, refl, sym, ◌∙◌, ap, if◌then◌else◌}
use Rattle.std.specs.Prelude.{Some, None, option_map}
use Rattle.std.specs.List.{AllByRecursion}
use Rattle.event_model.proofs.Frames.{never}

module _ {A : Type 0} (p : A → Bool) where
  -- one more, behind
  pub find_past : (xs ys : List A) → find p xs ≡ None → find p (xs ++ ys) ≡ find p ys
  find_past [] ys h = refl
  find_past (x ∷ xs) ys h = go (p x) h (λ k. find_past xs ys k)
    where
      go : (b : Bool) → cond b (Some x) (find p xs) ≡ None → (find p xs ≡ None → find p (xs ++ ys) ≡ find p ys) → cond b (Some x) (find p (xs ++ ys)) ≡ find p ys
      go true k rest = absurd (cc)
      go false k rest = rest k

  pub find_miss : (xs : List A) (y : A) → p y ≡ false → find p (xs ++ y ∷ []) ≡ find p xs
  find_miss [] y h = ap (λ b. cond b (Some y) None) h
  find_miss (x ∷ xs) y h = ap (λ o. cond (p x) (Some x) o) (find_miss xs y h)

  pub find_last : (xs : List A) (y : A) → find p xs ≡ None → p y ≡ true → find p (xs ++ y ∷ []) ≡ Some y
  find_last xs y none h = find_past xs (y ∷ []) none ∙ ap (λ b. cond b (Some y) None) h

  pub find_none : (xs : List A) → AllByRecursion (λ x. p x ≡ false) xs → find p xs ≡ None
  find_none [] h = refl
  find_none (x ∷ xs) h = ap (λ b. cond b (Some x) (find p xs)) h.0 ∙ find_none xs h.1

  pub none_found : (xs : List A) → find p xs ≡ None → AllByRecursion (λ x. p x ≡ false) xs
  none_found [] h = tt
  none_found (x ∷ xs) h = go (p x) refl h (λ k. none_found xs k)
    where
      go : (b : Bool) → p x ≡ b → cond b (Some x) (find p xs) ≡ None → (find p xs ≡ None → AllByRecursion (λ x. p x ≡ false) xs) → (p x ≡ false) × AllByRecursion (λ x. p x ≡ false) xs
      go true e k rest = absurd (cc)
      go false e k rest = (e, rest k)

  pub find_passes : (xs : List A) (y : A) → find p xs ≡ Some y → p y ≡ true
  find_passes [] y h = absurd (cc)
  find_passes (x ∷ xs) y h = go (p x) refl h (λ k. find_passes xs y k)
    where
      go : (b : Bool) → p x ≡ b → cond b (Some x) (find p xs) ≡ Some y → (find p xs ≡ Some y → p y ≡ true) → p y ≡ true
      go true e k rest = let same : x ≡ y = cc in ap p (sym same) ∙ e
      go false e k rest = rest k

  -- some stay
  module _ (q : A → Bool) where
    pub find_kept : ((x : A) → p x ≡ true → q x ≡ true) → (xs : List A) → find p (filter q xs) ≡ find p xs
    find_kept h [] = refl
    find_kept h (x ∷ xs) = go (p x) (q x) refl (h x) (find_kept h xs)
      where
        go : (b c : Bool) → p x ≡ b → (p x ≡ true → c ≡ true) → find p (filter q xs) ≡ find p xs → find p (cond c (x ∷ filter q xs) (filter q xs)) ≡ cond b (Some x) (find p xs)
        go true true e k rest = ap (λ b. cond b (Some x) (find p (filter q xs))) e
        go true false e k rest = never (sym (k e))
        go false true e k rest = ap (λ b. cond b (Some x) (find p (filter q xs))) e ∙ rest
        go false false e k rest = rest

    pub find_gone : ((x : A) → q x ≡ true → p x ≡ false) → (xs : List A) → find p (filter q xs) ≡ None
    find_gone h [] = refl
    find_gone h (x ∷ xs) = go (q x) (h x) (find_gone h xs)
      where
        go : (c : Bool) → (c ≡ true → p x ≡ false) → find p (filter q xs) ≡ None → find p (cond c (x ∷ filter q xs) (filter q xs)) ≡ None
        go true k rest = ap (λ b. cond b (Some x) (find p (filter q xs))) (k refl) ∙ rest
        go false k rest = rest

  -- each becomes another that passes as it did
  pub find_map : (f : A → A) → ((x : A) → p (f x) ≡ p x) → (xs : List A) → find p (map f xs) ≡ option_map f (find p xs)
  find_map f h [] = refl
  find_map f h (x ∷ xs) = ap (λ b. cond b (Some (f x)) (find p (map f xs))) (h x) ∙ go (p x) (find_map f h xs)
    where
      go : (b : Bool) → find p (map f xs) ≡ option_map f (find p xs) → cond b (Some (f x)) (find p (map f xs)) ≡ option_map f (cond b (Some x) (find p xs))
      go true rest = refl
      go false rest = rest

  -- what passes another test becomes others
  module _ (hits : A → Bool) (g : A → List A) where
    abbrev pub spread : List A → List A
    spread xs = flat_map (λ x. if hits x then g x else x ∷ []) xs

    abbrev pub IsQuiet : A → Type 0
    IsQuiet x = hits x ≡ true → AllByRecursion (λ y. p y ≡ false) (g x)

    quiet_past : (xs ys : List A) → AllByRecursion (λ y. p y ≡ false) xs → find p (xs ++ ys) ≡ find p ys
    quiet_past xs ys h = find_past xs ys (find_none xs h)

    pub spread_same : (xs : List A) → AllByRecursion (λ x. (hits x ≡ true → p x ≡ false) × IsQuiet x) xs → find p (spread xs) ≡ find p xs
    spread_same [] h = refl
    spread_same (x ∷ xs) h = go (hits x) h.0.0 h.0.1 (spread_same xs h.1)
      where
        go : (b : Bool) → (b ≡ true → p x ≡ false) → (b ≡ true → AllByRecursion (λ y. p y ≡ false) (g x)) → find p (spread xs) ≡ find p xs → find p ((if b then g x else x ∷ []) ++ spread xs) ≡ cond (p x) (Some x) (find p xs)
        go true k quiet rest = quiet_past (g x) (spread xs) (quiet refl) ∙ (rest ∙ sym (ap (λ c. cond c (Some x) (find p xs)) (k refl)))
        go false k quiet rest = ap (λ o. cond (p x) (Some x) o) rest

    pub spread_none : (xs : List A) → AllByRecursion (λ x. (p x ≡ true → hits x ≡ true) × IsQuiet x) xs → find p (spread xs) ≡ None
    spread_none [] h = refl
    spread_none (x ∷ xs) h = go (hits x) (p x) refl h.0.0 h.0.1 (spread_none xs h.1)
      where
        go : (b c : Bool) → p x ≡ c → (p x ≡ true → b ≡ true) → (b ≡ true → AllByRecursion (λ y. p y ≡ false) (g x)) → find p (spread xs) ≡ None → find p ((if b then g x else x ∷ []) ++ spread xs) ≡ None
        go true c e k quiet rest = quiet_past (g x) (spread xs) (quiet refl) ∙ rest
        go false true e k quiet rest = never (sym (k e))
        go false false e k quiet rest = ap (λ b. cond b (Some x) (find p (spread xs))) e ∙ rest

    -- the first that passes the other test becomes one that passes this one, which none does before it
    pub spread_first : (one : A) (behind : A → A) → ((x : A) → g x ≡ behind x ∷ []) → p (behind one) ≡ true → (xs : List A) → AllByRecursion (λ x. p x ≡ false) xs → find hits xs ≡ Some one → find p (spread xs) ≡ Some (behind one)
    spread_first one behind is there [] h at = absurd (cc)
    spread_first one behind is there (x ∷ xs) h at = go (hits x) at (λ k. spread_first one behind is there xs h.1 k)
      where
        go : (b : Bool) → cond b (Some x) (find hits xs) ≡ Some one → (find hits xs ≡ Some one → find p (spread xs) ≡ Some (behind one)) → find p ((if b then g x else x ∷ []) ++ spread xs) ≡ Some (behind one)
        go true k rest =
            let same : x ≡ one = cc in
            ap (λ ys. find p (ys ++ spread xs)) (is x) ∙ (ap (λ y. cond (p (behind y)) (Some (behind y)) (find p (spread xs))) same ∙ ap (λ b. cond b (Some (behind one)) (find p (spread xs))) there)
        go false k rest = ap (λ b. cond b (Some x) (find p (spread xs))) h.0 ∙ rest k

-- nothing passes
pub spread_still : {A : Type 0} (hits : A → Bool) (g : A → List A) (xs : List A) → AllByRecursion (λ x. hits x ≡ false) xs → flat_map (λ x. if hits x then g x else x ∷ []) xs ≡ xs
spread_still hits g [] h = refl
spread_still hits g (x ∷ xs) h = ap (λ b. (if b then g x else x ∷ []) ++ flat_map (λ x. if hits x then g x else x ∷ []) xs) h.0 ∙ ap (λ ys. x ∷ ys) (spread_still hits g xs h.1)

-- the same by other tests
pub spread_as : {A : Type 0} (hits tests : A → Bool) (g f : A → List A) (xs : List A) → AllByRecursion (λ x. (tests x ≡ hits x) × (hits x ≡ true → f x ≡ g x)) xs
    → flat_map (λ x. if tests x then f x else x ∷ []) xs ≡ flat_map (λ x. if hits x then g x else x ∷ []) xs
spread_as hits tests g f [] h = refl
spread_as hits tests g f (x ∷ xs) h = ap (λ ys. (if tests x then f x else x ∷ []) ++ ys) (spread_as hits tests g f xs h.1) ∙ ap (λ ys. ys ++ flat_map (λ x. if hits x then g x else x ∷ []) xs) (ap (λ b. if b then f x else x ∷ []) h.0.0 ∙ go (hits x) h.0.1)
  where
    go : (b : Bool) → (b ≡ true → f x ≡ g x) → (if b then f x else x ∷ []) ≡ (if b then g x else x ∷ [])
    go true k = k refl
    go false k = refl

-- two facts of all
pub all_both : {A : Type 0} (P Q : A → Type 0) (xs : List A) → AllByRecursion P xs → AllByRecursion Q xs → AllByRecursion (λ x. P x × Q x) xs
all_both P Q [] h k = tt
all_both P Q (x ∷ xs) h k = ((h.0, k.0), all_both P Q xs h.1 k.1)

pub all_true : {A : Type 0} (P : A → Type 0) → ((x : A) → P x) → (xs : List A) → AllByRecursion P xs
all_true P f [] = tt
all_true P f (x ∷ xs) = (f x, all_true P f xs)

-- All of a list

pub all_kept : {A : Type 0} (P : A → Type 0) (test : A → Bool) (xs : List A) → AllByRecursion P xs → AllByRecursion P (filter test xs)
all_kept P test [] h = tt
all_kept P test (x ∷ xs) h = go (test x) (all_kept P test xs h.1)
  where
    go : (b : Bool) → AllByRecursion P (filter test xs) → AllByRecursion P (cond b (x ∷ filter test xs) (filter test xs))
    go true rest = (h.0, rest)
    go false rest = rest

pub all_so : {A : Type 0} (P Q : A → Type 0) → ((x : A) → P x → Q x) → (xs : List A) → AllByRecursion P xs → AllByRecursion Q xs
all_so P Q f [] h = tt
all_so P Q f (x ∷ xs) h = (f x h.0, all_so P Q f xs h.1)

pub all_mapped : {A : Type 0} (P Q : A → Type 0) (f : A → A) → ((x : A) → P x → Q (f x)) → (xs : List A) → AllByRecursion P xs → AllByRecursion Q (map f xs)
all_mapped P Q f k [] h = tt
all_mapped P Q f k (x ∷ xs) h = (k x h.0, all_mapped P Q f k xs h.1)

pub all_last : {A : Type 0} (P : A → Type 0) (xs : List A) (y : A) → AllByRecursion P xs → P y → AllByRecursion P (xs ++ y ∷ [])
all_last P [] y h k = (k, tt)
all_last P (x ∷ xs) y h k = (h.0, all_last P xs y h.1 k)

pub all_joined : {A : Type 0} (P : A → Type 0) (xs ys : List A) → AllByRecursion P xs → AllByRecursion P ys → AllByRecursion P (xs ++ ys)
all_joined P [] ys h k = k
all_joined P (x ∷ xs) ys h k = (h.0, all_joined P xs ys h.1 k)

pub all_spread : {A : Type 0} (P : A → Type 0) (f : A → List A) → ((x : A) → P x → AllByRecursion P (f x)) → (xs : List A) → AllByRecursion P xs → AllByRecursion P (flat_map f xs)
all_spread P f k [] h = tt
all_spread P f k (x ∷ xs) h = all_joined P (f x) (flat_map f xs) (k x h.0) (all_spread P f k xs h.1)
