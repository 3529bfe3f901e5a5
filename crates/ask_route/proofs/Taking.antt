-- All asks that pass a test are taken, one after the other.
use Rattle.std.proofs.Common.{◌≡◌, ℕ, ◌+◌, ◌<◌, ◌≤◌, Bool, true, false, cond, not, List, [], ◌∷◌, ◌++◌, drop, filter, length, get_or, zero, suc, refl, sym, ◌∙◌, ap, ap₂, subst, arith}
use Rattle.std.specs.Prelude.{Option, Some, None}
use Rattle.std.specs.Ordering.{nat_cmp}
use Rattle.std.specs.BTreeMap.{is_at}
use Rattle.std.specs.Map.{values_of, remove_entry}
use Rattle.ask_route.specs.declared.ask.Ask.{Ask}
use Rattle.std.specs.List.{AllByRecursion}
use Rattle.ask_route.specs.Tables.{is_with}
use Rattle.ask_route.specs.Rows.{Numbered, row_at, numbers_with, Rise}
use Rattle.ask_route.proofs.Numbering.{hit_self, hit_below, numbers_from}

-- the first of them is taken
pub record IsTaken (test : Ask → Bool) (n : ℕ) (ns : List ℕ) (rows : List (ℕ × Ask)) : Type 0 where
  pub ask : Ask
  pub there : row_at n rows ≡ Some ask
  pub numbers : ns ≡ numbers_with test (remove_entry (is_at (nat_cmp n)) rows)
  pub passing : filter test (values_of rows) ≡ ask ∷ filter test (values_of (remove_entry (is_at (nat_cmp n)) rows))
  pub others : filter (λ a. not (test a)) (values_of (remove_entry (is_at (nat_cmp n)) rows)) ≡ filter (λ a. not (test a)) (values_of rows)

module _ (test : Ask → Bool) where
  pub taken : (from to n : ℕ) (ns : List ℕ) (rows : List (ℕ × Ask)) → Rise from to rows → n ∷ ns ≡ numbers_with test rows → IsTaken test n ns rows
  taken from to n ns [] rise e = absurd (cc)
  taken from to n ns (r ∷ rs) rise e = go (test r.1) refl e (λ f. taken (r.0 + 1) to n ns rs rise.1 f)
    where
      here : n ≡ r.0 → is_at (nat_cmp n) r.0 ≡ true
      here same = ap (λ m. is_at (nat_cmp m) r.0) same ∙ hit_self r.0

      above : n ∷ ns ≡ numbers_with test rs → r.0 + 1 ≤ n
      above f = (subst (λ ms. AllByRecursion (λ m. r.0 + 1 ≤ m) ms) (sym f) (numbers_from test (r.0 + 1) to rs rise.1)).0

      go : (b : Bool) → test r.1 ≡ b → n ∷ ns ≡ cond b (r.0 ∷ numbers_with test rs) (numbers_with test rs) → (n ∷ ns ≡ numbers_with test rs → IsTaken test n ns rs) → IsTaken test n ns (r ∷ rs)
      go true t f rest =
          let same : n ≡ r.0 = cc in
          let tail : ns ≡ numbers_with test rs = cc in
          record {
            ask = r.1;
            there = ap (λ b. cond b (Some r.1) (row_at n rs)) (here same);
            numbers = tail ∙ ap (λ b. numbers_with test (cond b rs (r ∷ remove_entry (is_at (nat_cmp n)) rs))) (sym (here same));
            passing = ap (λ b. cond b (r.1 ∷ filter test (values_of rs)) (filter test (values_of rs))) t ∙ ap (λ b. r.1 ∷ filter test (values_of (cond b rs (r ∷ remove_entry (is_at (nat_cmp n)) rs)))) (sym (here same));
            others = ap (λ b. filter (λ a. not (test a)) (values_of (cond b rs (r ∷ remove_entry (is_at (nat_cmp n)) rs)))) (here same) ∙ ap (λ b. cond (not b) (r.1 ∷ filter (λ a. not (test a)) (values_of rs)) (filter (λ a. not (test a)) (values_of rs))) (sym t);
          }
      go false t f rest =
          let it = rest f in
          let apart = hit_below n r.0 (let l = above f in omega (arith, l)) in
          let gone : remove_entry (is_at (nat_cmp n)) (r ∷ rs) ≡ r ∷ remove_entry (is_at (nat_cmp n)) rs = ap (λ b. cond b rs (r ∷ remove_entry (is_at (nat_cmp n)) rs)) apart in
          record {
            ask = it.ask;
            there = ap (λ b. cond b (Some r.1) (row_at n rs)) apart ∙ it.there;
            numbers = it.numbers ∙ (ap (λ b. cond b (r.0 ∷ numbers_with test (remove_entry (is_at (nat_cmp n)) rs)) (numbers_with test (remove_entry (is_at (nat_cmp n)) rs))) (sym t) ∙ ap (numbers_with test) (sym gone));
            passing = ap (λ b. cond b (r.1 ∷ filter test (values_of rs)) (filter test (values_of rs))) t ∙ (it.passing ∙ (ap (λ b. it.ask ∷ cond b (r.1 ∷ filter test (values_of (remove_entry (is_at (nat_cmp n)) rs))) (filter test (values_of (remove_entry (is_at (nat_cmp n)) rs)))) (sym t) ∙ ap (λ xs. it.ask ∷ filter test (values_of xs)) (sym gone)));
            others = ap (λ xs. filter (λ a. not (test a)) (values_of xs)) gone ∙ (ap (λ b. cond (not b) (r.1 ∷ filter (λ a. not (test a)) (values_of (remove_entry (is_at (nat_cmp n)) rs))) (filter (λ a. not (test a)) (values_of (remove_entry (is_at (nat_cmp n)) rs)))) t ∙ (ap (λ xs. r.1 ∷ xs) it.others ∙ ap (λ b. cond (not b) (r.1 ∷ filter (λ a. not (test a)) (values_of rs)) (filter (λ a. not (test a)) (values_of rs))) (sym t)));
          }

  -- none is left
  pub none_left : (rows : List (ℕ × Ask)) → [] ≡ numbers_with test rows → (filter test (values_of rows) ≡ []) × (filter (λ a. not (test a)) (values_of rows) ≡ values_of rows)
  none_left [] e = (refl, refl)
  none_left (r ∷ rs) e = go (test r.1) e (none_left rs)
    where
      go : (b : Bool) → [] ≡ cond b (r.0 ∷ numbers_with test rs) (numbers_with test rs) → ([] ≡ numbers_with test rs → (filter test (values_of rs) ≡ []) × (filter (λ a. not (test a)) (values_of rs) ≡ values_of rs))
          → (cond b (r.1 ∷ filter test (values_of rs)) (filter test (values_of rs)) ≡ []) × (cond (not b) (r.1 ∷ filter (λ a. not (test a)) (values_of rs)) (filter (λ a. not (test a)) (values_of rs)) ≡ r.1 ∷ values_of rs)
      go true f k = absurd (cc)
      go false f k = let q = k f in (q.0, ap (λ xs. r.1 ∷ xs) q.1)

-- on the way: what was taken, and what is left

pub record Taking (holder : Option ℕ) (items : List ℕ) (index len room : ℕ) (asks : List Ask) (now old : Numbered) : Type 0 where
  pub rise : Rise 0 now.next now.rows
  pub numbers : drop index items ≡ numbers_with (is_with holder) now.rows
  pub asks_are : asks ++ filter (is_with holder) (values_of now.rows) ≡ filter (is_with holder) (values_of old.rows)
  pub others : filter (λ ask. not (is_with holder ask)) (values_of now.rows) ≡ filter (λ ask. not (is_with holder ask)) (values_of old.rows)
  pub fits : len + length items ≤ room + index

one_dropped : (xs : List ℕ) (i : ℕ) → i < length xs → drop i xs ≡ get_or xs i 0 ∷ drop (suc i) xs
one_dropped [] i l = absurd (omega arith)
one_dropped (y ∷ ys) zero l = refl
one_dropped (y ∷ ys) (suc i) l = one_dropped ys i (omega arith)

pub one_less : (xs : List ℕ) (i : ℕ) → i < length xs → drop i xs ≡ get_or xs i 0 ∷ drop (i + 1) xs
one_less xs i l = let next : suc i ≡ i + 1 = omega arith in subst (λ j. drop i xs ≡ get_or xs i 0 ∷ drop j xs) next (one_dropped xs i l)

append_one : (xs ys : List Ask) (y : Ask) → (xs ++ y ∷ []) ++ ys ≡ xs ++ y ∷ ys
append_one [] ys y = refl
append_one (x ∷ xs) ys y = ap (λ zs. x ∷ zs) (append_one xs ys y)

append_none : (xs : List Ask) → xs ++ [] ≡ xs
append_none [] = refl
append_none (x ∷ xs) = ap (λ zs. x ∷ zs) (append_none xs)

drop_all : (xs : List ℕ) (i : ℕ) → length xs ≤ i → drop i xs ≡ []
drop_all [] zero l = refl
drop_all [] (suc i) l = refl
drop_all (x ∷ xs) zero l = absurd (omega arith)
drop_all (x ∷ xs) (suc i) l = drop_all xs i (omega arith)

module _ (holder : Option ℕ) (items : List ℕ) (index len room : ℕ) (asks : List Ask) (now old : Numbered) (on : Taking holder items index len room asks now old) (n : ℕ) (at : drop index items ≡ n ∷ drop (index + 1) items) where
  it : IsTaken (is_with holder) n (drop (index + 1) items) now.rows
  it = taken (is_with holder) 0 now.next n (drop (index + 1) items) now.rows on.rise (sym at ∙ on.numbers)

  pub never : None ≡ row_at n now.rows → ⊥
  never e = clash (e ∙ it.there)
    where
      clash : ◌≡◌ {A = Option Ask} None (Some it.ask) → ⊥
      clash f = absurd (cc)

  pub more : (ask : Ask) (asks' : List Ask) (now' : Numbered) (len' room' : ℕ) → Some ask ≡ row_at n now.rows → now'.rows ≡ remove_entry (is_at (nat_cmp n)) now.rows → Rise 0 now'.next now'.rows
      → asks' ≡ asks ++ ask ∷ [] → len' ≡ len + 1 → room' ≡ room → Taking holder items (index + 1) len' room' asks' now' old
  more ask asks' now' len' room' value rows rise are grown kept = record {
    rise = rise;
    numbers = it.numbers ∙ ap (numbers_with (is_with holder)) (sym rows);
    asks_are = ap₂ (λ qs (rs : List (ℕ × Ask)). qs ++ filter (is_with holder) (values_of rs)) are rows ∙ (append_one asks (filter (is_with holder) (values_of (remove_entry (is_at (nat_cmp n)) now.rows))) ask
        ∙ (ap (λ q. asks ++ q ∷ filter (is_with holder) (values_of (remove_entry (is_at (nat_cmp n)) now.rows))) (same (value ∙ it.there)) ∙ (ap (λ qs. asks ++ qs) (sym it.passing) ∙ on.asks_are)));
    others = ap (λ (rs : List (ℕ × Ask)). filter (λ ask. not (is_with holder ask)) (values_of rs)) rows ∙ (it.others ∙ on.others);
    fits = let f = on.fits in omega (arith, f, grown, kept);
  }
    where
      same : ◌≡◌ {A = Option Ask} (Some ask) (Some it.ask) → ask ≡ it.ask
      same e = cc

pub all_taken : (holder : Option ℕ) (items : List ℕ) (index len room : ℕ) (asks : List Ask) (now old : Numbered) → Taking holder items index len room asks now old → length items ≤ index
    → (asks ≡ filter (is_with holder) (values_of old.rows)) × (values_of now.rows ≡ filter (λ ask. not (is_with holder ask)) (values_of old.rows))
all_taken holder items index len room asks now old on l =
    let none = none_left (is_with holder) now.rows (sym (drop_all items index l) ∙ on.numbers) in
    (sym (append_none asks) ∙ (ap (λ qs. asks ++ qs) (sym none.0) ∙ on.asks_are), sym none.1 ∙ on.others)
