-- What is kept stays so: behind a document that comes, one that is put in the place of another, one that goes, and a touch.
use Rattle.std.proofs.Common.{◌≡◌, ℕ, ◌+◌, ◌<◌, ◌≤◌, ◌^◌, Bool, true, false, cond, not, ◌&&◌, List, [], ◌∷◌, ◌++◌, map, fold, refl, sym, ◌∙◌, ap, ap₂, subst, arith}
use Rattle.std.specs.Prelude.{Option, Some, None, find, nat_eq, bytes_eq, if◌then◌else◌}
use Rattle.std.specs.List.{AllByRecursion}
use Rattle.std.specs.Int.{w64, to_be_bytes, from_be_bytes}
use Rattle.std.specs.Ordering.{nat_cmp, match_ordering}
use Rattle.std.specs.declared.cmp.Ordering.TheVariants.{Less, Equal, Greater}
use Rattle.std.specs.Cmp.{nat_cmp_is}
use Rattle.std.specs.BTreeMap.{is_at}
use Rattle.std.specs.Map.{values_of}
use Rattle.std.proofs.lemmas.Bool.{eq-eqb, eqb-true}
use Rattle.std.proofs.lemmas.Nat.{from_be_bytes-to_be_bytes_8}
use Rattle.std.proofs.lemmas.Slice.Eq.{bytes_eq-Decides}
use Rattle.number_index.specs.Numbers.{numbers_under, with_number, without_number, Changes, Same}
use Rattle.document_model.specs.Opens.{Open, is_open_at, put_open, drop_open}
use Rattle.document_model.specs.Orderly.{Once}
use Rattle.document_table.specs.Rows.{touched_at}
use Rattle.document_table.specs.Numbered.{numbers_with, Rise, Indexes, Kept, uri_key, editor_key}
use Rattle.document_table.proofs.Numbering.{From, rise_le, numbers_from, hit_self, hit_below, hit_above, first_with, first_from, put_row, drop_row, touch_pair, touched_values}

-- tests of bytes

bytes_sym : (a b : List ℕ) → bytes_eq a b ≡ bytes_eq b a
bytes_sym a b = go (bytes_eq a b) (bytes_eq b a) refl refl
  where
    go : (c d : Bool) → bytes_eq a b ≡ c → bytes_eq b a ≡ d → c ≡ d
    go true true h k = refl
    go false false h k = refl
    go true false h k = sym ((bytes_eq-Decides b a).1 (sym ((bytes_eq-Decides a b).0 h))) ∙ k
    go false true h k = sym h ∙ (bytes_eq-Decides a b).1 (sym ((bytes_eq-Decides b a).0 k))

-- two editors have one key where they are one
pub key_test : (a b : ℕ) → a < 2 ^ 64 → b < 2 ^ 64 → bytes_eq (to_be_bytes w64 a) (to_be_bytes w64 b) ≡ nat_eq a b
key_test a b l m = go (bytes_eq (to_be_bytes w64 a) (to_be_bytes w64 b)) (nat_eq a b) refl refl
  where
    go : (c d : Bool) → bytes_eq (to_be_bytes w64 a) (to_be_bytes w64 b) ≡ c → nat_eq a b ≡ d → c ≡ d
    go true true h k = refl
    go false false h k = refl
    go true false h k = let same : a ≡ b = sym (from_be_bytes-to_be_bytes_8 a l) ∙ (ap (from_be_bytes w64) ((bytes_eq-Decides (to_be_bytes w64 a) (to_be_bytes w64 b)).0 h) ∙ from_be_bytes-to_be_bytes_8 b m) in sym (eq-eqb a b same) ∙ k
    go false true h k = sym h ∙ (bytes_eq-Decides (to_be_bytes w64 a) (to_be_bytes w64 b)).1 (ap (to_be_bytes w64) (eqb-true a b k))

-- the numbers under an editor's key are those of its documents
pub editor_numbers : (e : ℕ) (rows : List (ℕ × Open)) → e < 2 ^ 64 → AllByRecursion (λ (o : Open). o.editor < 2 ^ 64) (values_of rows) → numbers_with (λ o. bytes_eq (editor_key o) (to_be_bytes w64 e)) rows ≡ numbers_with (λ o. nat_eq o.editor e) rows
editor_numbers e [] l h = refl
editor_numbers e (r ∷ rs) l h = ap₂ (λ b (ns : List ℕ). cond b (r.0 ∷ ns) ns) (key_test r.1.editor e h.0 l) (editor_numbers e rs l h.1)

-- rising numbers with one more behind all, and without it

pub put_last : (n : ℕ) (ns : List ℕ) → AllByRecursion (λ m. m < n) ns → with_number n ns ≡ ns ++ n ∷ []
put_last n [] h = refl
put_last n (m ∷ ms) h = ap (λ c. match_ordering c (n ∷ m ∷ ms) (m ∷ ms) (m ∷ with_number n ms)) (sym (nat_cmp_is n m Greater h.0)) ∙ ap (λ xs. m ∷ xs) (put_last n ms h.1)

drop_last : (n : ℕ) (ns : List ℕ) → AllByRecursion (λ m. m < n) ns → without_number n (ns ++ n ∷ []) ≡ ns
drop_last n [] h = ap (λ b. cond b [] (n ∷ [])) (hit_self n)
drop_last n (m ∷ ms) h = ap (λ b. cond b (ms ++ n ∷ []) (m ∷ without_number n (ms ++ n ∷ []))) (hit_below n m h.0) ∙ ap (λ xs. m ∷ xs) (drop_last n ms h.1)

pub put_dropped : (n : ℕ) (ns : List ℕ) → AllByRecursion (λ m. m < n) ns → without_number n (with_number n ns) ≡ ns
put_dropped n ns h = ap (without_number n) (put_last n ns h) ∙ drop_last n ns h

pub numbers_below : (test : Open → Bool) (from to : ℕ) (rows : List (ℕ × Open)) → Rise from to rows → AllByRecursion (λ m. m < to) (numbers_with test rows)
numbers_below test from to [] h = tt
numbers_below test from to (r ∷ rs) h = go (test r.1) (numbers_below test (r.0 + 1) to rs h.1)
  where
    go : (b : Bool) → AllByRecursion (λ m. m < to) (numbers_with test rs) → AllByRecursion (λ m. m < to) (cond b (r.0 ∷ numbers_with test rs) (numbers_with test rs))
    go true k = (let l = rise_le (r.0 + 1) to rs h.1 in omega (arith, l), k)
    go false k = k

-- the numbers rise still

pub rise_last : (from to : ℕ) (rows : List (ℕ × Open)) (o : Open) → Rise from to rows → Rise from (to + 1) (rows ++ (to, o) ∷ [])
rise_last from to [] o h = (h, omega arith)
rise_last from to (r ∷ rs) o h = (h.0, rise_last (r.0 + 1) to rs o h.1)

pub rise_put : (test : Open → Bool) (o : Open) (from to : ℕ) (rows : List (ℕ × Open)) → Rise from to rows → Rise from to (put_row test o rows)
rise_put test o from to [] h = h
rise_put test o from to (r ∷ rs) h = go (test r.1) (rise_put test o (r.0 + 1) to rs h.1)
  where
    go : (b : Bool) → Rise (r.0 + 1) to (put_row test o rs) → Rise from to (cond b ((r.0, o) ∷ rs) (r ∷ put_row test o rs))
    go true k = h
    go false k = (h.0, k)

rise_wider : (a b to : ℕ) (rows : List (ℕ × Open)) → a ≤ b → Rise b to rows → Rise a to rows
rise_wider a b to [] l h = omega (arith, l, h)
rise_wider a b to (r ∷ rs) l h = (let m : b ≤ r.0 = h.0 in omega (arith, l, m), h.1)

pub rise_drop : (test : Open → Bool) (from to : ℕ) (rows : List (ℕ × Open)) → Rise from to rows → Rise from to (drop_row test rows)
rise_drop test from to [] h = h
rise_drop test from to (r ∷ rs) h = go (test r.1) (rise_drop test (r.0 + 1) to rs h.1)
  where
    go : (b : Bool) → Rise (r.0 + 1) to (drop_row test rs) → Rise from to (cond b rs (r ∷ drop_row test rs))
    go true k = rise_wider from (r.0 + 1) to rs (let l : from ≤ r.0 = h.0 in omega (arith, l)) h.1
    go false k = (h.0, k)

pub rise_touched : (e turn from to : ℕ) (rows : List (ℕ × Open)) → Rise from to rows → Rise from to (map (touch_pair e turn) rows)
rise_touched e turn from to [] h = h
rise_touched e turn from to (r ∷ rs) h = (h.0, rise_touched e turn (r.0 + 1) to rs h.1)

-- the indexes

numbers_append : (test : Open → Bool) (rows more : List (ℕ × Open)) → numbers_with test (rows ++ more) ≡ numbers_with test rows ++ numbers_with test more
numbers_append test [] more = refl
numbers_append test (r ∷ rs) more = go (test r.1) (numbers_append test rs more)
  where
    go : (b : Bool) → numbers_with test (rs ++ more) ≡ numbers_with test rs ++ numbers_with test more → cond b (r.0 ∷ numbers_with test (rs ++ more)) (numbers_with test (rs ++ more)) ≡ cond b (r.0 ∷ numbers_with test rs) (numbers_with test rs) ++ numbers_with test more
    go true k = ap (λ ns. r.0 ∷ ns) k
    go false k = k

append_nothing : (ns : List ℕ) → ns ++ [] ≡ ns
append_nothing [] = refl
append_nothing (n ∷ ns) = ap (λ ms. n ∷ ms) (append_nothing ns)

module _ (key : Open → List ℕ) where
  pub index_last : (from to : ℕ) (rows : List (ℕ × Open)) (o : Open) (old new : List (List ℕ × List ℕ)) → Rise from to rows → Indexes key rows old → Changes (key o) (with_number to) old new → Indexes key (rows ++ (to, o) ∷ []) new
  index_last from to rows o old new rise h change k = change k ∙ (ap (λ ns. cond (bytes_eq k (key o)) (with_number to ns) ns) (h k) ∙ (go (bytes_eq k (key o)) refl ∙ sym (numbers_append (λ p. bytes_eq (key p) k) rows ((to, o) ∷ []))))
    where
      ns : List ℕ
      ns = numbers_with (λ p. bytes_eq (key p) k) rows

      go : (b : Bool) → bytes_eq k (key o) ≡ b → cond b (with_number to ns) ns ≡ ns ++ cond (bytes_eq (key o) k) (to ∷ []) []
      go true e = put_last to ns (numbers_below (λ p. bytes_eq (key p) k) from to rows rise) ∙ ap (λ b. ns ++ cond b (to ∷ []) []) (sym (bytes_sym (key o) k ∙ e))
      go false e = sym (append_nothing ns) ∙ ap (λ b. ns ++ cond b (to ∷ []) []) (sym (bytes_sym (key o) k ∙ e))

  -- what had the number has the same key
  index_put_at : (test : Open → Bool) (o : Open) → ((p : Open) → test p ≡ true → key p ≡ key o) → (k : List ℕ) (rows : List (ℕ × Open)) → numbers_with (λ p. bytes_eq (key p) k) rows ≡ numbers_with (λ p. bytes_eq (key p) k) (put_row test o rows)
  index_put_at test o same k [] = refl
  index_put_at test o same k (r ∷ rs) = go (test r.1) refl (index_put_at test o same k rs)
    where
      go : (b : Bool) → test r.1 ≡ b → numbers_with (λ p. bytes_eq (key p) k) rs ≡ numbers_with (λ p. bytes_eq (key p) k) (put_row test o rs)
          → numbers_with (λ p. bytes_eq (key p) k) (r ∷ rs) ≡ numbers_with (λ p. bytes_eq (key p) k) (cond b ((r.0, o) ∷ rs) (r ∷ put_row test o rs))
      go true d rest = ap (λ u. cond (bytes_eq u k) (r.0 ∷ numbers_with (λ p. bytes_eq (key p) k) rs) (numbers_with (λ p. bytes_eq (key p) k) rs)) (same r.1 d)
      go false d rest = ap (λ ns. cond (bytes_eq (key r.1) k) (r.0 ∷ ns) ns) rest

  pub index_put : (test : Open → Bool) (o : Open) (rows : List (ℕ × Open)) (old : List (List ℕ × List ℕ)) → ((p : Open) → test p ≡ true → key p ≡ key o) → Indexes key rows old → Indexes key (put_row test o rows) old
  index_put test o rows old same h k = h k ∙ index_put_at test o same k rows

  index_drop_at : (test : Open → Bool) (u : List ℕ) → ((p : Open) → test p ≡ true → key p ≡ u) → (k : List ℕ) (from to : ℕ) (rows : List (ℕ × Open)) (n : ℕ) → Rise from to rows → first_with test rows ≡ Some n
      → (b : Bool) → bytes_eq u k ≡ b → cond b (without_number n (numbers_with (λ p. bytes_eq (key p) k) rows)) (numbers_with (λ p. bytes_eq (key p) k) rows) ≡ numbers_with (λ p. bytes_eq (key p) k) (drop_row test rows)
  index_drop_at test u same k from to [] n rise f b is = absurd (cc)
  index_drop_at test u same k from to (r ∷ rs) n rise f b is = go (test r.1) refl f (λ g. index_drop_at test u same k (r.0 + 1) to rs n rise.1 g b is)
    where
      ns : List ℕ
      ns = numbers_with (λ p. bytes_eq (key p) k) rs

      here : (b : Bool) → bytes_eq u k ≡ b → key r.1 ≡ u → cond b (without_number r.0 (cond (bytes_eq (key r.1) k) (r.0 ∷ ns) ns)) (cond (bytes_eq (key r.1) k) (r.0 ∷ ns) ns) ≡ ns
      here true is s = ap (λ c. without_number r.0 (cond c (r.0 ∷ ns) ns)) (ap (λ v. bytes_eq v k) s ∙ is) ∙ ap (λ c. cond c ns (r.0 ∷ without_number r.0 ns)) (hit_self r.0)
      here false is s = ap (λ c. cond c (r.0 ∷ ns) ns) (ap (λ v. bytes_eq v k) s ∙ is)

      there : (b c : Bool) → r.0 + 1 ≤ n → cond b (without_number n ns) ns ≡ numbers_with (λ p. bytes_eq (key p) k) (drop_row test rs)
          → cond b (without_number n (cond c (r.0 ∷ ns) ns)) (cond c (r.0 ∷ ns) ns) ≡ cond c (r.0 ∷ numbers_with (λ p. bytes_eq (key p) k) (drop_row test rs)) (numbers_with (λ p. bytes_eq (key p) k) (drop_row test rs))
      there true true l rest = ap (λ d. cond d ns (r.0 ∷ without_number n ns)) (hit_below n r.0 (omega (arith, l))) ∙ ap (λ ms. r.0 ∷ ms) rest
      there true false l rest = rest
      there false true l rest = ap (λ ms. r.0 ∷ ms) rest
      there false false l rest = rest

      go : (d : Bool) → test r.1 ≡ d → cond d (Some r.0) (first_with test rs) ≡ Some n → (first_with test rs ≡ Some n → cond b (without_number n ns) ns ≡ numbers_with (λ p. bytes_eq (key p) k) (drop_row test rs))
          → cond b (without_number n (cond (bytes_eq (key r.1) k) (r.0 ∷ ns) ns)) (cond (bytes_eq (key r.1) k) (r.0 ∷ ns) ns) ≡ numbers_with (λ p. bytes_eq (key p) k) (cond d rs (r ∷ drop_row test rs))
      go true d e rest = let one : r.0 ≡ n = cc in subst (λ m. cond b (without_number m (cond (bytes_eq (key r.1) k) (r.0 ∷ ns) ns)) (cond (bytes_eq (key r.1) k) (r.0 ∷ ns) ns) ≡ ns) one (here b is (same r.1 d))
      go false d e rest = there b (bytes_eq (key r.1) k) (first_from test (r.0 + 1) to rs n rise.1 e) (rest e)

  pub index_drop : (test : Open → Bool) (u : List ℕ) (from to : ℕ) (rows : List (ℕ × Open)) (n : ℕ) (old new : List (List ℕ × List ℕ)) → ((p : Open) → test p ≡ true → key p ≡ u) → Rise from to rows → first_with test rows ≡ Some n → Indexes key rows old → Changes u (without_number n) old new → Indexes key (drop_row test rows) new
  index_drop test u from to rows n old new same rise f h change k = change k ∙ (ap₂ (λ b (ns : List ℕ). cond b (without_number n ns) ns) (bytes_sym k u) (h k) ∙ index_drop_at test u same k from to rows n rise f (bytes_eq u k) refl)

  index_touched_at : (e turn : ℕ) → ((o : Open) → key (touched_at e turn o) ≡ key o) → (k : List ℕ) (rows : List (ℕ × Open)) → numbers_with (λ p. bytes_eq (key p) k) rows ≡ numbers_with (λ p. bytes_eq (key p) k) (map (touch_pair e turn) rows)
  index_touched_at e turn same k [] = refl
  index_touched_at e turn same k (r ∷ rs) = ap₂ (λ u (ns : List ℕ). cond (bytes_eq u k) (r.0 ∷ ns) ns) (sym (same r.1)) (index_touched_at e turn same k rs)

  pub index_touched : (e turn : ℕ) (rows : List (ℕ × Open)) (old : List (List ℕ × List ℕ)) → ((o : Open) → key (touched_at e turn o) ≡ key o) → Indexes key rows old → Indexes key (map (touch_pair e turn) rows) old
  index_touched e turn rows old same h k = h k ∙ index_touched_at e turn same k rows

-- numbers that came and went again
pub index_undone : (u : List ℕ) (n : ℕ) (old mid new : List (List ℕ × List ℕ)) → AllByRecursion (λ m. m < n) (numbers_under u old) → Changes u (with_number n) old mid → Changes u (without_number n) mid new → Same old new
index_undone u n old mid new below came went k = went k ∙ (ap (λ ns. cond (bytes_eq k u) (without_number n ns) ns) (came k) ∙ go (bytes_eq k u) refl)
  where
    go : (b : Bool) → bytes_eq k u ≡ b → cond b (without_number n (cond b (with_number n (numbers_under k old)) (numbers_under k old))) (cond b (with_number n (numbers_under k old)) (numbers_under k old)) ≡ numbers_under k old
    go true e = put_dropped n (numbers_under k old) (subst (λ v. AllByRecursion (λ m. m < n) (numbers_under v old)) (sym ((bytes_eq-Decides k u).0 e)) below)
    go false e = refl
