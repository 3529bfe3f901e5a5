-- Numbers of documents: what is found by them, and what is kept of them behind a list that comes.
use Rattle.std.proofs.Common.{◌≡◌, ℕ, suc, ◌+◌, ◌<◌, Bool, true, false, cond, List, [], ◌∷◌, ◌++◌, length, get_or, drop, slice_set, refl, sym, ◌∙◌, ap, subst, arith, append-nil, add-one, drop-cons}
use Rattle.std.specs.Prelude.{Some, None, bytes_eq}
use Rattle.std.specs.List.{AllByRecursion}
use Rattle.std.specs.Ordering.{match_ordering}
use Rattle.std.specs.declared.cmp.Ordering.TheVariants.{Greater}
use Rattle.std.specs.Cmp.{nat_cmp_is}
use Rattle.std.proofs.lemmas.Slice.Eq.{bytes_eq-Decides}
use Rattle.number_index.specs.Numbers.{numbers_under, with_number, Changes}
use Rattle.diagnostics_route.specs.declared.last_list.LastList.{LastList}
use Rattle.diagnostics_route.specs.Rows.{Indexes, first_of, is_of, number_from, number_in, numbers_from, with_list}

-- what an index finds

pub first_from : (n : ℕ) (test : LastList → Bool) (ls : List LastList) → first_of (numbers_from n test ls) ≡ number_from n test ls
first_from n test [] = refl
first_from n test (l ∷ ls) = go (test l) (first_from (n + 1) test ls)
  where
    go : (b : Bool) → first_of (numbers_from (n + 1) test ls) ≡ number_from (n + 1) test ls
        → first_of (cond b (n ∷ numbers_from (n + 1) test ls) (numbers_from (n + 1) test ls)) ≡ cond b (Some n) (number_from (n + 1) test ls)
    go true e = refl
    go false e = e

pub under_found : (uri : List ℕ) (ls : List LastList) (index : List (List ℕ × List ℕ)) → Indexes ls index → first_of (numbers_under uri index) ≡ number_in uri ls
under_found uri ls index kept = ap first_of (kept uri) ∙ first_from 0 (is_of uri) ls

-- a list in the place of its document's

-- the number that is found is such a place
abbrev pub Placed : ℕ → ℕ → LastList → List LastList → List LastList → Type 0
Placed n k new ls after = (place : ℕ) × (k ≡ n + place) × (place < length ls) × (slice_set ls place new ≡ after)

placed : (n k : ℕ) (new : LastList) (ls : List LastList) → number_from n (is_of new.uri) ls ≡ Some k → Placed n k new ls (with_list new ls)
placed n k new [] h = absurd (cc)
placed n k new (l ∷ ls) h = go (is_of new.uri l) h (placed (n + 1) k new ls)
  where
    go : (b : Bool) → cond b (Some n) (number_from (n + 1) (is_of new.uri) ls) ≡ Some k → (number_from (n + 1) (is_of new.uri) ls ≡ Some k → Placed (n + 1) k new ls (with_list new ls))
        → Placed n k new (l ∷ ls) (cond b (new ∷ ls) (l ∷ with_list new ls))
    go true e rest = let same : n ≡ k = cc in (0, omega (arith, same), omega arith, refl)
    go false e rest =
        let s : Placed (n + 1) k new ls (with_list new ls) = rest e in
        let is : k ≡ n + 1 + s.0 = s.1 in
        let within : s.0 < length ls = s.2 in
        (suc s.0, omega (arith, is), omega (arith, within), ap (λ xs. l ∷ xs) s.3)

pub put_at : (k : ℕ) (new : LastList) (ls : List LastList) → number_in new.uri ls ≡ Some k → (k < length ls) × (slice_set ls k new ≡ with_list new ls)
put_at k new ls h =
    let s : Placed 0 k new ls (with_list new ls) = placed 0 k new ls h in
    let is : k ≡ 0 + s.0 = s.1 in
    let same : s.0 ≡ k = omega (arith, is) in
    (subst (λ p. p < length ls) same s.2, subst (λ p. slice_set ls p new ≡ with_list new ls) same s.3)

same_from : (n k : ℕ) (new : LastList) (uri : List ℕ) (ls : List LastList) → number_from n (is_of new.uri) ls ≡ Some k → numbers_from n (is_of uri) (with_list new ls) ≡ numbers_from n (is_of uri) ls
same_from n k new uri [] h = absurd (cc)
same_from n k new uri (l ∷ ls) h = go (is_of new.uri l) refl h (same_from (n + 1) k new uri ls)
  where
    go : (b : Bool) → bytes_eq new.uri l.uri ≡ b → cond b (Some n) (number_from (n + 1) (is_of new.uri) ls) ≡ Some k
        → (number_from (n + 1) (is_of new.uri) ls ≡ Some k → numbers_from (n + 1) (is_of uri) (with_list new ls) ≡ numbers_from (n + 1) (is_of uri) ls)
        → numbers_from n (is_of uri) (cond b (new ∷ ls) (l ∷ with_list new ls)) ≡ cond (bytes_eq uri l.uri) (n ∷ numbers_from (n + 1) (is_of uri) ls) (numbers_from (n + 1) (is_of uri) ls)
    go true d e rest = ap (λ u. cond (bytes_eq uri u) (n ∷ numbers_from (n + 1) (is_of uri) ls) (numbers_from (n + 1) (is_of uri) ls)) ((bytes_eq-Decides new.uri l.uri).0 d)
    go false d e rest = ap (λ ns. cond (bytes_eq uri l.uri) (n ∷ ns) ns) (rest e)

pub index_at : (k : ℕ) (new : LastList) (ls : List LastList) (index : List (List ℕ × List ℕ)) → number_in new.uri ls ≡ Some k → Indexes ls index → Indexes (with_list new ls) index
index_at k new ls index h kept uri = kept uri ∙ sym (same_from 0 k new uri ls h)

-- a list behind all

behind_from : (n : ℕ) (new : LastList) (ls : List LastList) → number_from n (is_of new.uri) ls ≡ None → with_list new ls ≡ ls ++ new ∷ []
behind_from n new [] h = refl
behind_from n new (l ∷ ls) h = go (is_of new.uri l) h (behind_from (n + 1) new ls)
  where
    go : (b : Bool) → cond b (Some n) (number_from (n + 1) (is_of new.uri) ls) ≡ None → (number_from (n + 1) (is_of new.uri) ls ≡ None → with_list new ls ≡ ls ++ new ∷ [])
        → cond b (new ∷ ls) (l ∷ with_list new ls) ≡ l ∷ (ls ++ new ∷ [])
    go true e rest = absurd (cc)
    go false e rest = ap (λ xs. l ∷ xs) (rest e)

pub put_behind : (new : LastList) (ls : List LastList) → number_in new.uri ls ≡ None → with_list new ls ≡ ls ++ new ∷ []
put_behind new ls h = behind_from 0 new ls h

numbers_behind : (n : ℕ) (test : LastList → Bool) (ls : List LastList) (new : LastList) → numbers_from n test (ls ++ new ∷ []) ≡ numbers_from n test ls ++ cond (test new) ((n + length ls) ∷ []) []
numbers_behind n test [] new = ap (λ k. cond (test new) (k ∷ []) []) start
  where
    start : n ≡ n + 0
    start = omega arith
numbers_behind n test (l ∷ ls) new = go (test l) (numbers_behind (n + 1) test ls new ∙ ap (λ k. numbers_from (n + 1) test ls ++ cond (test new) (k ∷ []) []) place)
  where
    place : n + 1 + length ls ≡ n + length (l ∷ ls)
    place = omega arith

    go : (b : Bool) → numbers_from (n + 1) test (ls ++ new ∷ []) ≡ numbers_from (n + 1) test ls ++ cond (test new) ((n + length (l ∷ ls)) ∷ []) []
        → cond b (n ∷ numbers_from (n + 1) test (ls ++ new ∷ [])) (numbers_from (n + 1) test (ls ++ new ∷ [])) ≡ cond b (n ∷ numbers_from (n + 1) test ls) (numbers_from (n + 1) test ls) ++ cond (test new) ((n + length (l ∷ ls)) ∷ []) []
    go true e = ap (λ ns. n ∷ ns) e
    go false e = e

numbers_below : (n to : ℕ) (test : LastList → Bool) (ls : List LastList) → to ≡ n + length ls → AllByRecursion (λ m. m < to) (numbers_from n test ls)
numbers_below n to test [] e = tt
numbers_below n to test (l ∷ ls) e = go (test l) (numbers_below (n + 1) to test ls (omega (arith, e)))
  where
    go : (b : Bool) → AllByRecursion (λ m. m < to) (numbers_from (n + 1) test ls) → AllByRecursion (λ m. m < to) (cond b (n ∷ numbers_from (n + 1) test ls) (numbers_from (n + 1) test ls))
    go true h = (omega (arith, e), h)
    go false h = h

put_last : (n : ℕ) (ns : List ℕ) → AllByRecursion (λ m. m < n) ns → with_number n ns ≡ ns ++ n ∷ []
put_last n [] h = refl
put_last n (m ∷ ms) h = ap (λ c. match_ordering c (n ∷ m ∷ ms) (m ∷ ms) (m ∷ with_number n ms)) (sym (nat_cmp_is n m Greater h.0)) ∙ ap (λ xs. m ∷ xs) (put_last n ms h.1)

pub index_behind : (new : LastList) (ls : List LastList) (old index : List (List ℕ × List ℕ)) → Indexes ls old → Changes new.uri (with_number (length ls)) old index → Indexes (ls ++ new ∷ []) index
index_behind new ls old index kept change uri =
    change uri ∙ (ap (λ ns. cond (bytes_eq uri new.uri) (with_number (length ls) ns) ns) (kept uri) ∙ (go (bytes_eq uri new.uri) ∙ sym (numbers_behind 0 (is_of uri) ls new)))
  where
    ns : List ℕ
    ns = numbers_from 0 (is_of uri) ls

    all : length ls ≡ 0 + length ls
    all = omega arith

    go : (b : Bool) → cond b (with_number (length ls) ns) ns ≡ ns ++ cond b ((0 + length ls) ∷ []) []
    go true = put_last (length ls) ns (numbers_below 0 (length ls) (is_of uri) ls all) ∙ ap (λ k. ns ++ k ∷ []) all
    go false = sym (append-nil ns)

-- those that aren't empty, one after the other
pub next_from : (test : LastList → Bool) (n : ℕ) (ls : List LastList) (d : LastList) (b : Bool) → n < length ls → test (get_or ls n d) ≡ b
    → numbers_from n test (drop n ls) ≡ cond b (n ∷ numbers_from (n + 1) test (drop (n + 1) ls)) (numbers_from (n + 1) test (drop (n + 1) ls))
next_from test n ls d b l is =
    let next : drop n ls ≡ get_or ls n d ∷ drop (n + 1) ls = rw add-one (drop-cons ls n d l) in
    ap (numbers_from n test) next ∙ ap (λ c. cond c (n ∷ numbers_from (n + 1) test (drop (n + 1) ls)) (numbers_from (n + 1) test (drop (n + 1) ls))) is
