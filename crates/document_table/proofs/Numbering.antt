-- What is found of documents by their numbers.
use Rattle.std.proofs.Common.{◌≡◌, ℕ, ◌+◌, ◌<◌, ◌≤◌, Bool, true, false, cond, not, ◌&&◌, List, [], ◌∷◌, ◌++◌, map, filter, fold, refl, sym, ◌∙◌, ap, ap₂, subst, arith}
use Rattle.std.specs.Prelude.{Option, Some, None, find, nat_eq, bytes_eq, flat_map, if◌then◌else◌}
use Rattle.std.specs.List.{AllByRecursion}
use Rattle.std.specs.Ordering.{nat_cmp, is_eq, match_ordering}
use Rattle.std.specs.declared.cmp.Ordering.TheVariants.{Less, Equal, Greater}
use Rattle.std.specs.Cmp.{nat_cmp_is}
use Rattle.std.specs.BTreeMap.{is_at, insert_entry}
use Rattle.std.specs.Map.{lookup, values_of, remove_entry, set_value}
use Rattle.document_model.specs.Opens.{Open, is_open_at, put_open, drop_open, later, latest}
use Rattle.document_table.specs.Rows.{touched_at, uris_of}
use Rattle.document_table.specs.Numbered.{row_at, numbers_with, Rise, passes, first_number, and_row, rows_at, touch_row, touch_rows, is_beside}

-- one number, as the map compares it

pub hit_self : (n : ℕ) → is_at (nat_cmp n) n ≡ true
hit_self n = ap is_eq (sym (nat_cmp_is n n Equal refl))

pub hit_below : (n m : ℕ) → m < n → is_at (nat_cmp n) m ≡ false
hit_below n m h = ap is_eq (sym (nat_cmp_is n m Greater h))

pub hit_above : (n m : ℕ) → n < m → is_at (nat_cmp n) m ≡ false
hit_above n m h = ap is_eq (sym (nat_cmp_is n m Less h))

-- the numbers from one number on

pub rise_le : (from to : ℕ) (rows : List (ℕ × Open)) → Rise from to rows → from ≤ to
rise_le from to [] h = h
rise_le from to (r ∷ rs) h = let l : from ≤ r.0 = h.0 in let m = rise_le (r.0 + 1) to rs h.1 in omega (arith, l, m)

abbrev pub From : ℕ → List ℕ → Type 0
From from ns = AllByRecursion (λ n. from ≤ n) ns

from_less : (a b : ℕ) (ns : List ℕ) → a ≤ b → From b ns → From a ns
from_less a b [] l h = tt
from_less a b (n ∷ ns) l h = let m : b ≤ n = h.0 in (omega (arith, l, m), from_less a b ns l h.1)

pub numbers_from : (test : Open → Bool) (from to : ℕ) (rows : List (ℕ × Open)) → Rise from to rows → From from (numbers_with test rows)
numbers_from test from to [] h = tt
numbers_from test from to (r ∷ rs) h = go (test r.1) (from_less from (r.0 + 1) (numbers_with test rs) (let l : from ≤ r.0 = h.0 in omega (arith, l)) (numbers_from test (r.0 + 1) to rs h.1))
  where
    go : (b : Bool) → From from (numbers_with test rs) → From from (cond b (r.0 ∷ numbers_with test rs) (numbers_with test rs))
    go true k = (h.0, k)
    go false k = k

-- a number behind the first one isn't the first one's

past_first : (r : ℕ × Open) (rs : List (ℕ × Open)) (n : ℕ) → r.0 + 1 ≤ n → row_at n (r ∷ rs) ≡ row_at n rs
past_first r rs n h = ap (λ b. cond b (Some r.1) (row_at n rs)) (hit_below n r.0 (omega (arith, h)))

first_past : (test : Open → Bool) (r : ℕ × Open) (rs : List (ℕ × Open)) (ns : List ℕ) → From (r.0 + 1) ns → first_number test (r ∷ rs) ns ≡ first_number test rs ns
first_past test r rs [] h = refl
first_past test r rs (n ∷ ns) h = ap₂ (λ (o : Option Open) (m : Option ℕ). cond (passes test o) (Some n) m) (past_first r rs n h.0) (first_past test r rs ns h.1)

rows_past : (r : ℕ × Open) (rs : List (ℕ × Open)) (ns : List ℕ) → From (r.0 + 1) ns → rows_at (r ∷ rs) ns ≡ rows_at rs ns
rows_past r rs [] h = refl
rows_past r rs (n ∷ ns) h = ap₂ and_row (past_first r rs n h.0) (rows_past r rs ns h.1)

touch_past : (turn : ℕ) (r : ℕ × Open) (rs : List (ℕ × Open)) (ns : List ℕ) → From (r.0 + 1) ns → touch_rows turn (r ∷ rs) ns ≡ r ∷ touch_rows turn rs ns
touch_past turn r rs [] h = refl
touch_past turn r rs (n ∷ ns) h = ap (λ b. fold (touch_row turn) (cond b ((r.0, record r.1 { touched = turn }) ∷ rs) (r ∷ touch_row turn rs n)) ns) (hit_below n r.0 (let l : r.0 + 1 ≤ n = h.0 in omega (arith, l))) ∙ touch_past turn r (touch_row turn rs n) ns h.1

-- the documents of the numbers under a test are those that pass it
pub rows_with : (test : Open → Bool) (from to : ℕ) (rows : List (ℕ × Open)) → Rise from to rows → rows_at rows (numbers_with test rows) ≡ filter test (values_of rows)
rows_with test from to [] h = refl
rows_with test from to (r ∷ rs) h = go (test r.1) (rows_past r rs (numbers_with test rs) (numbers_from test (r.0 + 1) to rs h.1) ∙ rows_with test (r.0 + 1) to rs h.1)
  where
    go : (b : Bool) → rows_at (r ∷ rs) (numbers_with test rs) ≡ filter test (values_of rs) → rows_at (r ∷ rs) (cond b (r.0 ∷ numbers_with test rs) (numbers_with test rs)) ≡ cond b (r.1 ∷ filter test (values_of rs)) (filter test (values_of rs))
    go true k = ap (λ b. and_row (cond b (Some r.1) (row_at r.0 rs)) (rows_at (r ∷ rs) (numbers_with test rs))) (hit_self r.0) ∙ ap (λ os. r.1 ∷ os) k
    go false k = k

-- the number of the first document that passes
abbrev pub first_with : (Open → Bool) → List (ℕ × Open) → Option ℕ
first_with test [] = None
first_with test (r ∷ rs) = cond (test r.1) (Some r.0) (first_with test rs)

pub first_of : (both one more : Open → Bool) → ((o : Open) → both o ≡ (more o && one o)) → (from to : ℕ) (rows : List (ℕ × Open)) → Rise from to rows → first_number more rows (numbers_with one rows) ≡ first_with both rows
first_of both one more is from to [] h = refl
first_of both one more is from to (r ∷ rs) h = go (one r.1) (more r.1) refl (is r.1) (first_past more r rs (numbers_with one rs) (numbers_from one (r.0 + 1) to rs h.1) ∙ first_of both one more is (r.0 + 1) to rs h.1)
  where
    go : (b c : Bool) → more r.1 ≡ c → both r.1 ≡ (c && b) → first_number more (r ∷ rs) (numbers_with one rs) ≡ first_with both rs
        → first_number more (r ∷ rs) (cond b (r.0 ∷ numbers_with one rs) (numbers_with one rs)) ≡ cond (both r.1) (Some r.0) (first_with both rs)
    go false true m e k = k ∙ ap (λ b. cond b (Some r.0) (first_with both rs)) (sym e)
    go false false m e k = k ∙ ap (λ b. cond b (Some r.0) (first_with both rs)) (sym e)
    go true c m e k = ap (λ b. cond (passes more (cond b (Some r.1) (row_at r.0 rs))) (Some r.0) (first_number more (r ∷ rs) (numbers_with one rs))) (hit_self r.0)
        ∙ (ap (λ b. cond b (Some r.0) (first_number more (r ∷ rs) (numbers_with one rs))) m ∙ (sides c k ∙ ap (λ b. cond b (Some r.0) (first_with both rs)) (sym (e ∙ and_true c))))
      where
        and_true : (c : Bool) → (c && true) ≡ c
        and_true true = refl
        and_true false = refl

        sides : (c : Bool) → first_number more (r ∷ rs) (numbers_with one rs) ≡ first_with both rs → cond c (Some r.0) (first_number more (r ∷ rs) (numbers_with one rs)) ≡ cond c (Some r.0) (first_with both rs)
        sides c k = ap (cond c (Some r.0)) k

pub first_from : (test : Open → Bool) (from to : ℕ) (rows : List (ℕ × Open)) (n : ℕ) → Rise from to rows → first_with test rows ≡ Some n → from ≤ n
first_from test from to [] n h f = absurd (cc)
first_from test from to (r ∷ rs) n h f = go (test r.1) f (λ g. first_from test (r.0 + 1) to rs n h.1 g)
  where
    go : (b : Bool) → cond b (Some r.0) (first_with test rs) ≡ Some n → (first_with test rs ≡ Some n → r.0 + 1 ≤ n) → from ≤ n
    go true e k = let same : r.0 ≡ n = cc in let l : from ≤ r.0 = h.0 in omega (arith, same, l)
    go false e k = let m = k e in let l : from ≤ r.0 = h.0 in omega (arith, m, l)

-- none passes
pub none_with : (test : Open → Bool) (rows : List (ℕ × Open)) → first_with test rows ≡ None → find test (values_of rows) ≡ None
none_with test [] h = refl
none_with test (r ∷ rs) h = go (test r.1) h (none_with test rs)
  where
    go : (b : Bool) → cond b (Some r.0) (first_with test rs) ≡ None → (first_with test rs ≡ None → find test (values_of rs) ≡ None) → cond b (Some r.1) (find test (values_of rs)) ≡ None
    go true e k = absurd (cc)
    go false e k = k e

-- with another document in the place of the first that passes, and without it

abbrev pub put_row : (Open → Bool) → Open → List (ℕ × Open) → List (ℕ × Open)
put_row test o [] = []
put_row test o (r ∷ rs) = cond (test r.1) ((r.0, o) ∷ rs) (r ∷ put_row test o rs)

abbrev pub drop_row : (Open → Bool) → List (ℕ × Open) → List (ℕ × Open)
drop_row test [] = []
drop_row test (r ∷ rs) = cond (test r.1) rs (r ∷ drop_row test rs)

module _ (test : Open → Bool) where
  pub found_first : (from to : ℕ) (rows : List (ℕ × Open)) (n : ℕ) → Rise from to rows → first_with test rows ≡ Some n → row_at n rows ≡ find test (values_of rows)
  found_first from to [] n h f = absurd (cc)
  found_first from to (r ∷ rs) n h f = go (test r.1) f (λ e. found_first (r.0 + 1) to rs n h.1 e)
    where
      go : (b : Bool) → cond b (Some r.0) (first_with test rs) ≡ Some n → (first_with test rs ≡ Some n → row_at n rs ≡ find test (values_of rs)) → row_at n (r ∷ rs) ≡ cond b (Some r.1) (find test (values_of rs))
      go true e k = let same : r.0 ≡ n = cc in ap (λ m. row_at m (r ∷ rs)) (sym same) ∙ ap (λ b. cond b (Some r.1) (row_at r.0 rs)) (hit_self r.0)
      go false e k = past_first r rs n (first_from test (r.0 + 1) to rs n h.1 e) ∙ k e

  pub put_first : (o : Open) (from to : ℕ) (rows : List (ℕ × Open)) (n : ℕ) → Rise from to rows → first_with test rows ≡ Some n → set_value (is_at (nat_cmp n)) rows o ≡ put_row test o rows
  put_first o from to [] n h f = absurd (cc)
  put_first o from to (r ∷ rs) n h f = go (test r.1) f (λ e. put_first o (r.0 + 1) to rs n h.1 e)
    where
      go : (b : Bool) → cond b (Some r.0) (first_with test rs) ≡ Some n → (first_with test rs ≡ Some n → set_value (is_at (nat_cmp n)) rs o ≡ put_row test o rs) → set_value (is_at (nat_cmp n)) (r ∷ rs) o ≡ cond b ((r.0, o) ∷ rs) (r ∷ put_row test o rs)
      go true e k = let same : r.0 ≡ n = cc in ap (λ m. set_value (is_at (nat_cmp m)) (r ∷ rs) o) (sym same) ∙ ap (λ b. cond b ((r.0, o) ∷ rs) (r ∷ set_value (is_at (nat_cmp r.0)) rs o)) (hit_self r.0)
      go false e k = let l = first_from test (r.0 + 1) to rs n h.1 e in ap (λ b. cond b ((r.0, o) ∷ rs) (r ∷ set_value (is_at (nat_cmp n)) rs o)) (hit_below n r.0 (omega (arith, l))) ∙ ap (λ xs. r ∷ xs) (k e)

  pub drop_first : (from to : ℕ) (rows : List (ℕ × Open)) (n : ℕ) → Rise from to rows → first_with test rows ≡ Some n → remove_entry (is_at (nat_cmp n)) rows ≡ drop_row test rows
  drop_first from to [] n h f = absurd (cc)
  drop_first from to (r ∷ rs) n h f = go (test r.1) f (λ e. drop_first (r.0 + 1) to rs n h.1 e)
    where
      go : (b : Bool) → cond b (Some r.0) (first_with test rs) ≡ Some n → (first_with test rs ≡ Some n → remove_entry (is_at (nat_cmp n)) rs ≡ drop_row test rs) → remove_entry (is_at (nat_cmp n)) (r ∷ rs) ≡ cond b rs (r ∷ drop_row test rs)
      go true e k = let same : r.0 ≡ n = cc in ap (λ m. remove_entry (is_at (nat_cmp m)) (r ∷ rs)) (sym same) ∙ ap (λ b. cond b rs (r ∷ remove_entry (is_at (nat_cmp r.0)) rs)) (hit_self r.0)
      go false e k = let l = first_from test (r.0 + 1) to rs n h.1 e in ap (λ b. cond b rs (r ∷ remove_entry (is_at (nat_cmp n)) rs)) (hit_below n r.0 (omega (arith, l))) ∙ ap (λ xs. r ∷ xs) (k e)

-- a number above all others comes last
pub insert_last : (o : Open) (from to : ℕ) (rows : List (ℕ × Open)) → Rise from to rows → insert_entry nat_cmp rows to o ≡ rows ++ (to, o) ∷ []
insert_last o from to [] h = refl
insert_last o from to (r ∷ rs) h =
    let l = rise_le (r.0 + 1) to rs h.1 in
    ap (λ c. match_ordering c ((to, o) ∷ r ∷ rs) ((r.0, o) ∷ rs) (r ∷ insert_entry nat_cmp rs to o)) (sym (nat_cmp_is to r.0 Greater (omega (arith, l)))) ∙ ap (λ xs. r ∷ xs) (insert_last o (r.0 + 1) to rs h.1)

-- what a walk over the documents under a URI finds

pub latest_filter : (one more both : Open → Bool) → ((o : Open) → both o ≡ (one o && more o)) → (os : List Open) (best : Option Open)
    → fold (λ best o. if more o then later o best else best) best (filter one os) ≡ fold (λ best o. if both o then later o best else best) best os
latest_filter one more both is [] best = refl
latest_filter one more both is (o ∷ os) best = go (one o) (is o) (λ best. latest_filter one more both is os best)
  where
    go : (b : Bool) → both o ≡ (b && more o) → ((best : Option Open) → fold (λ best o. if more o then later o best else best) best (filter one os) ≡ fold (λ best o. if both o then later o best else best) best os) → fold (λ best o. if more o then later o best else best) best (cond b (o ∷ filter one os) (filter one os)) ≡ fold (λ best o. if both o then later o best else best) (cond (both o) (later o best) best) os
    go true e k = k (cond (more o) (later o best) best) ∙ ap (λ c. fold (λ best o. if both o then later o best else best) (cond c (later o best) best) os) (sym e)
    go false e k = k best ∙ ap (λ c. fold (λ best o. if both o then later o best else best) (cond c (later o best) best) os) (sym e)

pub uris_filter : (e : ℕ) (os : List Open) → map (λ (o : Open). o.uri) (filter (λ o. nat_eq o.editor e) os) ≡ uris_of e os
uris_filter e [] = refl
uris_filter e (o ∷ os) = go (nat_eq o.editor e) (uris_filter e os)
  where
    go : (b : Bool) → map (λ (o : Open). o.uri) (filter (λ o. nat_eq o.editor e) os) ≡ uris_of e os → map (λ (o : Open). o.uri) (cond b (o ∷ filter (λ o. nat_eq o.editor e) os) (filter (λ o. nat_eq o.editor e) os)) ≡ (if b then o.uri ∷ [] else []) ++ uris_of e os
    go true k = ap (λ us. o.uri ∷ us) k
    go false k = k

-- a touch of all documents of an editor

abbrev pub touch_pair : ℕ → ℕ → ℕ × Open → ℕ × Open
touch_pair e turn r = (r.0, touched_at e turn r.1)

pub touched_all : (e turn from to : ℕ) (rows : List (ℕ × Open)) → Rise from to rows → touch_rows turn rows (numbers_with (λ o. nat_eq o.editor e) rows) ≡ map (touch_pair e turn) rows
touched_all e turn from to [] h = refl
touched_all e turn from to (r ∷ rs) h = go (nat_eq r.1.editor e) (touched_all e turn (r.0 + 1) to rs h.1)
  where
    ns : List ℕ
    ns = numbers_with (λ o. nat_eq o.editor e) rs

    above : From (r.0 + 1) ns
    above = numbers_from (λ o. nat_eq o.editor e) (r.0 + 1) to rs h.1

    go : (b : Bool) → touch_rows turn rs ns ≡ map (touch_pair e turn) rs → touch_rows turn (r ∷ rs) (cond b (r.0 ∷ ns) ns) ≡ (r.0, cond b (record r.1 { touched = turn }) r.1) ∷ map (touch_pair e turn) rs
    go true k = ap (λ b. fold (touch_row turn) (cond b ((r.0, record r.1 { touched = turn }) ∷ rs) (r ∷ touch_row turn rs r.0)) ns) (hit_self r.0) ∙ (touch_past turn (r.0, record r.1 { touched = turn }) rs ns above ∙ ap (λ xs. (r.0, record r.1 { touched = turn }) ∷ xs) k)
    go false k = touch_past turn r rs ns above ∙ ap (λ xs. r ∷ xs) k

pub touched_values : (e turn : ℕ) (rows : List (ℕ × Open)) → values_of (map (touch_pair e turn) rows) ≡ map (touched_at e turn) (values_of rows)
touched_values e turn [] = refl
touched_values e turn (r ∷ rs) = ap (λ os. touched_at e turn r.1 ∷ os) (touched_values e turn rs)
