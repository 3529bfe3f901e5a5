-- What stands at a number of a table, after it changed; and its keys, which rise.
use Rattle.std.proofs.Common.{◌≡◌, ℕ, ◌+◌, ◌<◌, ◌≤◌, Bool, true, false, cond, List, [], ◌∷◌, ◌++◌, map, refl, sym, ◌∙◌, ap, arith, nat_eq, if◌then◌else◌}
use Rattle.std.specs.Prelude.{Option, Some, None, option_map}
use Rattle.std.specs.List.{AllByRecursion}
use Rattle.std.specs.Map.{set_value}
use Rattle.std.specs.Ordering.{nat_cmp, is_eq, match_ordering}
use Rattle.std.specs.declared.cmp.Ordering.{Ordering}
use Rattle.std.specs.declared.cmp.Ordering.TheVariants.{Less, Equal, Greater}
use Rattle.std.specs.BTreeMap.{is_at}
use Rattle.std.proofs.lemmas.Cmp.{ranked}
use Rattle.std.proofs.lemmas.Bool.Decides.{nat_tests}
use Rattle.event_model.proofs.Frames.{never}
use Rattle.progress_route.specs.Tables.{Table, at, less, nothing, put}
use Rattle.mux_tokens.specs.Rows.{Rows, changed, changed_to, edited, edited_to, table_in, table_of}
use Rattle.mux_tokens.specs.Stands.{Up}

-- Numbers

pub num_same : (m n : ℕ) → nat_eq m n ≡ true → m ≡ n
num_same m n h = grind (arith, nat_tests)

pub num_itself : (n : ℕ) → nat_eq n n ≡ true
num_itself n = grind (arith, nat_tests)

pub num_below : (m n : ℕ) → m < n → nat_eq m n ≡ false
num_below m n h = grind (arith, nat_tests)

pub num_above : (m n : ℕ) → n < m → nat_eq m n ≡ false
num_above m n h = grind (arith, nat_tests)

pub num_back : (m n : ℕ) → nat_eq m n ≡ nat_eq n m
num_back m n = go (nat_eq m n) (nat_eq n m) refl refl
  where
    go : (a b : Bool) → nat_eq m n ≡ a → nat_eq n m ≡ b → a ≡ b
    go true true p q = refl
    go false false p q = refl
    go true false p q = never (sym (sym q ∙ (ap (λ k. nat_eq n k) (num_same m n p) ∙ num_itself n)))
    go false true p q = never (sym (sym p ∙ (ap (λ k. nat_eq m k) (num_same n m q) ∙ num_itself m)))

-- a number is at its own place alone
pub hit : (m n : ℕ) → is_at (nat_cmp m) n ≡ nat_eq m n
hit m n = go (nat_cmp m n) refl
  where
    go : (o : Ordering) → nat_cmp m n ≡ o → is_eq o ≡ nat_eq m n
    go Less h = sym (num_below m n (ranked m n Less (sym h)))
    go Equal h = let same : m ≡ n = ranked m n Equal (sym h) in sym (ap (λ k. nat_eq m k) (sym same) ∙ num_itself m)
    go Greater h = sym (num_above m n (ranked m n Greater (sym h)))

-- Tests

twice : {A : Type 0} (b : Bool) (x y z : A) → cond b x z ≡ cond b x (cond b y z)
twice true x y z = refl
twice false x y z = refl

swap : {A : Type 0} (b c : Bool) (x y z : A) → (b ≡ true → c ≡ true → ⊥) → cond b y (cond c x z) ≡ cond c x (cond b y z)
swap true true x y z h = absurd (h refl refl)
swap true false x y z h = refl
swap false c x y z h = refl

none_both : {A : Type 0} (b : Bool) → ◌≡◌ {A = Option A} None (cond b None None)
none_both true = refl
none_both false = refl

-- one number isn't at two
unlike : (m a n : ℕ) → nat_eq n a ≡ false → is_at (nat_cmp m) a ≡ true → nat_eq m n ≡ true → ⊥
unlike m a n off here there =
    let p : m ≡ a = num_same m a (sym (hit m a) ∙ here) in
    let q : m ≡ n = num_same m n there in
    clash (sym off ∙ (ap (λ k. nat_eq k a) (sym q) ∙ (ap (λ k. nat_eq m k) (sym p) ∙ num_itself m)))
  where
    clash : false ≡ true → ⊥
    clash h = cc

module _ {X : Type 0} where
  -- What is read

  -- below the first key nothing is
  pub at_below : (m from : ℕ) (rows : List (ℕ × X)) → m < from → Up from rows → at m rows ≡ None
  at_below m from [] l h = refl
  at_below m from (r ∷ rs) l h =
      let k : from ≤ r.0 = h.0 in
      ap (λ b. cond b (Some r.1) (at m rs)) (hit m r.0 ∙ num_below m r.0 (omega (arith, l, k))) ∙ at_below m (r.0 + 1) rs (omega (arith, l, k)) h.1

  pub at_put : (m n : ℕ) (x : X) (rows : List (ℕ × X)) → at m (put n x rows) ≡ cond (nat_eq m n) (Some x) (at m rows)
  at_put m n x [] = ap (λ b. cond b (Some x) None) (hit m n)
  at_put m n x (r ∷ rs) = go (nat_cmp n r.0) refl (at_put m n x rs)
    where
      b : Bool
      b = is_at (nat_cmp m) r.0

      go : (o : Ordering) → nat_cmp n r.0 ≡ o → at m (put n x rs) ≡ cond (nat_eq m n) (Some x) (at m rs)
          → at m (match_ordering o ((n, x) ∷ r ∷ rs) ((r.0, x) ∷ rs) (r ∷ put n x rs)) ≡ cond (nat_eq m n) (Some x) (cond (is_at (nat_cmp m) r.0) (Some r.1) (at m rs))
      go Less h rest = ap (λ c. cond c (Some x) (cond (is_at (nat_cmp m) r.0) (Some r.1) (at m rs))) (hit m n)
      go Equal h rest =
          let same : n ≡ r.0 = ranked n r.0 Equal (sym h) in
          twice (is_at (nat_cmp m) r.0) (Some x) (Some r.1) (at m rs)
          ∙ ap (λ c. cond c (Some x) (cond (is_at (nat_cmp m) r.0) (Some r.1) (at m rs))) (hit m r.0 ∙ ap (λ k. nat_eq m k) (sym same))
      go Greater h rest = ap (λ o. cond (is_at (nat_cmp m) r.0) (Some r.1) o) rest
          ∙ swap (is_at (nat_cmp m) r.0) (nat_eq m n) (Some x) (Some r.1) (at m rs) (unlike m r.0 n (num_above n r.0 (ranked n r.0 Greater (sym h))))

  pub at_set : (m n : ℕ) (v w : X) (rows : List (ℕ × X)) → at n rows ≡ Some v → at m (set_value (is_at (nat_cmp n)) rows w) ≡ cond (nat_eq m n) (Some w) (at m rows)
  at_set m n v w [] h = absurd (cc)
  at_set m n v w (r ∷ rs) h = go (is_at (nat_cmp n) r.0) refl h (λ k. at_set m n v w rs k)
    where
      go : (c : Bool) → is_at (nat_cmp n) r.0 ≡ c → cond c (Some r.1) (at n rs) ≡ Some v → (at n rs ≡ Some v → at m (set_value (is_at (nat_cmp n)) rs w) ≡ cond (nat_eq m n) (Some w) (at m rs))
          → at m (cond c ((r.0, w) ∷ rs) (r ∷ set_value (is_at (nat_cmp n)) rs w)) ≡ cond (nat_eq m n) (Some w) (cond (is_at (nat_cmp m) r.0) (Some r.1) (at m rs))
      go true e k rest =
          let same : n ≡ r.0 = num_same n r.0 (sym (hit n r.0) ∙ e) in
          twice (is_at (nat_cmp m) r.0) (Some w) (Some r.1) (at m rs)
          ∙ ap (λ c. cond c (Some w) (cond (is_at (nat_cmp m) r.0) (Some r.1) (at m rs))) (hit m r.0 ∙ ap (λ k. nat_eq m k) (sym same))
      go false e k rest = ap (λ o. cond (is_at (nat_cmp m) r.0) (Some r.1) o) (rest k)
          ∙ swap (is_at (nat_cmp m) r.0) (nat_eq m n) (Some w) (Some r.1) (at m rs) (unlike m r.0 n (sym (hit n r.0) ∙ e))

  -- the same, where nothing need be there
  pub at_set_all : (m n : ℕ) (w : X) (rows : List (ℕ × X)) → at m (set_value (is_at (nat_cmp n)) rows w) ≡ option_map (λ (v : X). if nat_eq m n then w else v) (at m rows)
  at_set_all m n w [] = refl
  at_set_all m n w (r ∷ rs) = go (is_at (nat_cmp n) r.0) (is_at (nat_cmp m) r.0) refl refl (at_set_all m n w rs)
    where
      f : X → X
      f v = if nat_eq m n then w else v

      -- this key is n
      at_n : is_at (nat_cmp n) r.0 ≡ true → nat_eq m n ≡ nat_eq m r.0
      at_n e = ap (λ k. nat_eq m k) (num_same n r.0 (sym (hit n r.0) ∙ e))

      apart : is_at (nat_cmp n) r.0 ≡ false → is_at (nat_cmp m) r.0 ≡ true → nat_eq m n ≡ false
      apart e k = let same : m ≡ r.0 = num_same m r.0 (sym (hit m r.0) ∙ k) in num_back m n ∙ (ap (λ i. nat_eq n i) same ∙ (sym (hit n r.0) ∙ e))

      still : (o : Option X) → nat_eq m n ≡ false → o ≡ option_map (λ (v : X). if nat_eq m n then w else v) o
      still None e = refl
      still (Some v) e = ap (λ b. Some (if b then w else v)) (sym e)

      go : (b c : Bool) → is_at (nat_cmp n) r.0 ≡ b → is_at (nat_cmp m) r.0 ≡ c → at m (set_value (is_at (nat_cmp n)) rs w) ≡ option_map (λ (v : X). if nat_eq m n then w else v) (at m rs)
          → at m (cond b ((r.0, w) ∷ rs) (r ∷ set_value (is_at (nat_cmp n)) rs w)) ≡ option_map (λ (v : X). if nat_eq m n then w else v) (cond c (Some r.1) (at m rs))
      go true true e k rest = ap (λ b. cond b (Some w) (at m rs)) k ∙ ap (λ b. Some (if b then w else r.1)) (sym (at_n e ∙ (sym (hit m r.0) ∙ k)))
      go true false e k rest = ap (λ b. cond b (Some w) (at m rs)) k ∙ still (at m rs) (at_n e ∙ (sym (hit m r.0) ∙ k))
      go false true e k rest = ap (λ b. cond b (Some r.1) (at m (set_value (is_at (nat_cmp n)) rs w))) k ∙ ap (λ b. Some (if b then w else r.1)) (sym (apart e k))
      go false false e k rest = ap (λ b. cond b (Some r.1) (at m (set_value (is_at (nat_cmp n)) rs w))) k ∙ rest

  pub at_less : (m n from : ℕ) (rows : List (ℕ × X)) → Up from rows → at m (less n rows) ≡ cond (nat_eq m n) None (at m rows)
  at_less m n from [] h = none_both (nat_eq m n)
  at_less m n from (r ∷ rs) h = go (is_at (nat_cmp n) r.0) refl (at_less m n (r.0 + 1) rs h.1)
    where
      here : (c : Bool) → nat_eq m n ≡ c → n ≡ r.0 → at m rs ≡ cond c None (cond (is_at (nat_cmp m) r.0) (Some r.1) (at m rs))
      here true e same = at_below m (r.0 + 1) rs (let p : m ≡ n = num_same m n e in let q : n ≡ r.0 = same in omega (arith, p, q)) h.1
      here false e same = sym (ap (λ c. cond c (Some r.1) (at m rs)) (hit m r.0 ∙ (ap (λ k. nat_eq m k) (sym same) ∙ e)))

      go : (c : Bool) → is_at (nat_cmp n) r.0 ≡ c → at m (less n rs) ≡ cond (nat_eq m n) None (at m rs)
          → at m (cond c rs (r ∷ less n rs)) ≡ cond (nat_eq m n) None (cond (is_at (nat_cmp m) r.0) (Some r.1) (at m rs))
      go true e rest = here (nat_eq m n) refl (num_same n r.0 (sym (hit n r.0) ∙ e))
      go false e rest = ap (λ o. cond (is_at (nat_cmp m) r.0) (Some r.1) o) rest
          ∙ swap (is_at (nat_cmp m) r.0) (nat_eq m n) None (Some r.1) (at m rs) (unlike m r.0 n (sym (hit n r.0) ∙ e))

  -- The keys

  pub up_from : (a b : ℕ) (rows : List (ℕ × X)) → a ≤ b → Up b rows → Up a rows
  up_from a b [] l h = tt
  up_from a b (r ∷ rs) l h = (let k : b ≤ r.0 = h.0 in omega (arith, l, k), h.1)

  pub up_put : (n from : ℕ) (x : X) (rows : List (ℕ × X)) → from ≤ n → Up from rows → Up from (put n x rows)
  up_put n from x [] l h = (l, tt)
  up_put n from x (r ∷ rs) l h = go (nat_cmp n r.0) refl (λ k. up_put n (r.0 + 1) x rs k h.1)
    where
      go : (o : Ordering) → nat_cmp n r.0 ≡ o → (r.0 + 1 ≤ n → Up (r.0 + 1) (put n x rs)) → Up from (match_ordering o ((n, x) ∷ r ∷ rs) ((r.0, x) ∷ rs) (r ∷ put n x rs))
      go Less e rest = (l, (let k : n < r.0 = ranked n r.0 Less (sym e) in omega (arith, k), h.1))
      go Equal e rest = (h.0, h.1)
      go Greater e rest = (h.0, rest (let k : r.0 < n = ranked n r.0 Greater (sym e) in omega (arith, k)))

  pub up_less : (n from : ℕ) (rows : List (ℕ × X)) → Up from rows → Up from (less n rows)
  up_less n from [] h = tt
  up_less n from (r ∷ rs) h = go (is_at (nat_cmp n) r.0) (up_less n (r.0 + 1) rs h.1)
    where
      go : (c : Bool) → Up (r.0 + 1) (less n rs) → Up from (cond c rs (r ∷ less n rs))
      go true rest = up_from from (r.0 + 1) rs (let k : from ≤ r.0 = h.0 in omega (arith, k)) h.1
      go false rest = (h.0, rest)

  pub up_set : (n from : ℕ) (w : X) (rows : List (ℕ × X)) → Up from rows → Up from (set_value (is_at (nat_cmp n)) rows w)
  up_set n from w [] h = tt
  up_set n from w (r ∷ rs) h = go (is_at (nat_cmp n) r.0) (up_set n (r.0 + 1) w rs h.1)
    where
      go : (c : Bool) → Up (r.0 + 1) (set_value (is_at (nat_cmp n)) rs w) → Up from (cond c ((r.0, w) ∷ rs) (r ∷ set_value (is_at (nat_cmp n)) rs w))
      go true rest = (h.0, h.1)
      go false rest = (h.0, rest)

  pub up_last : (n from : ℕ) (x : X) (rows : List (ℕ × X)) → from ≤ n → AllByRecursion (λ (r : ℕ × X). r.0 < n) rows → Up from rows → Up from (rows ++ (n, x) ∷ [])
  up_last n from x [] l b h = (l, tt)
  up_last n from x (r ∷ rs) l b h = (h.0, up_last n (r.0 + 1) x rs (let k : r.0 < n = b.0 in omega (arith, k)) b.1 h.1)

  -- other values under the same keys
  module _ (f : X → X) where
    abbrev pub each : List (ℕ × X) → List (ℕ × X)
    each rows = map (λ (r : ℕ × X). (r.0, f r.1)) rows

    pub at_each : (m : ℕ) (rows : List (ℕ × X)) → at m (each rows) ≡ option_map f (at m rows)
    at_each m [] = refl
    at_each m (r ∷ rs) = go (is_at (nat_cmp m) r.0) (at_each m rs)
      where
        go : (c : Bool) → at m (each rs) ≡ option_map f (at m rs) → cond c (Some (f r.1)) (at m (each rs)) ≡ option_map f (cond c (Some r.1) (at m rs))
        go true rest = refl
        go false rest = rest

    pub up_each : (from : ℕ) (rows : List (ℕ × X)) → Up from rows → Up from (each rows)
    up_each from [] h = tt
    up_each from (r ∷ rs) h = (h.0, up_each (r.0 + 1) rs h.1)

-- The tables of starts

pushed : (b : Bool) (x : Table) (o : Option Table) → table_in (cond b (Some x) o) ≡ cond b x (table_in o)
pushed true x o = refl
pushed false x o = refl

module _ (s : ℕ) (f : Table → Table) (rows : Rows) where
  pub of_changed : (m : ℕ) → table_of m (changed s f rows) ≡ cond (nat_eq m s) (f (table_of s rows)) (table_of m rows)
  of_changed m = go (at s rows) refl
    where
      go : (o : Option Table) → at s rows ≡ o → table_in (at m (changed_to s f o rows)) ≡ cond (nat_eq m s) (f (table_in o)) (table_in (at m rows))
      go None e = ap table_in (at_put m s (f nothing) rows) ∙ pushed (nat_eq m s) (f nothing) (at m rows)
      go (Some t) e = ap table_in (at_set m s t (f t) rows e) ∙ pushed (nat_eq m s) (f t) (at m rows)

  pub of_edited : f nothing ≡ nothing → (m : ℕ) → table_of m (edited s f rows) ≡ cond (nat_eq m s) (f (table_of s rows)) (table_of m rows)
  of_edited still m = go (at s rows) refl
    where
      here : (b : Bool) → nat_eq m s ≡ b → at s rows ≡ None → table_in (at m rows) ≡ cond b (f nothing) (table_in (at m rows))
      here true e none = ap (λ k. table_in (at k rows)) (num_same m s e) ∙ (ap table_in none ∙ sym still)
      here false e none = refl

      go : (o : Option Table) → at s rows ≡ o → table_in (at m (edited_to s f o rows)) ≡ cond (nat_eq m s) (f (table_in o)) (table_in (at m rows))
      go None e = here (nat_eq m s) refl e
      go (Some t) e = ap table_in (at_set m s t (f t) rows e) ∙ pushed (nat_eq m s) (f t) (at m rows)

  pub up_changed : Up 0 rows → Up 0 (changed s f rows)
  up_changed h = go (at s rows)
    where
      go : (o : Option Table) → Up 0 (changed_to s f o rows)
      go None = up_put s 0 (f nothing) rows (omega arith) h
      go (Some t) = up_set s 0 (f t) rows h

  pub up_edited : Up 0 rows → Up 0 (edited s f rows)
  up_edited h = go (at s rows)
    where
      go : (o : Option Table) → Up 0 (edited_to s f o rows)
      go None = h
      go (Some t) = up_set s 0 (f t) rows h
