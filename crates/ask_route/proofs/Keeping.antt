-- What is kept stays so: behind an ask that comes, and one that goes.
use Rattle.std.proofs.Common.{◌≡◌, ℕ, ◌+◌, ◌<◌, ◌≤◌, Bool, true, false, cond, List, [], ◌∷◌, ◌++◌, find, refl, sym, ◌∙◌, ap, ap₂, subst, arith}
use Rattle.std.specs.Prelude.{Option, Some, None, ◌&&◌, ◌||◌, bytes_eq, nat_eq}
use Rattle.std.specs.List.{AllByRecursion}
use Rattle.std.specs.Ordering.{nat_cmp, match_ordering}
use Rattle.std.specs.declared.cmp.Ordering.TheVariants.{Greater}
use Rattle.std.specs.Cmp.{nat_cmp_is}
use Rattle.std.specs.BTreeMap.{is_at, insert_entry}
use Rattle.std.specs.Map.{remove_entry}
use Rattle.std.proofs.lemmas.Slice.Eq.{bytes_eq-Decides}
use Rattle.number_index.specs.Numbers.{numbers_under, with_number, without_number, Changes, Same}
use Rattle.std.specs.List.{list_any}
use Rattle.std.specs.Int.{w64, w128, to_be_bytes}
use Rattle.std.specs.Map.{values_of}
use Rattle.std.proofs.lemmas.Bool.{eqb-true}
use Rattle.id_rewrite.specs.rpc_message.specs.Message.{Id}
use Rattle.id_rewrite.specs.rpc_message.specs.ValueTexts.{IsIdText}
use Rattle.id_rewrite.specs.Forms.{form}
use Rattle.id_rewrite.proofs.Finding.{alike, texts_same}
use Rattle.ask_route.specs.declared.ask.Ask.{Ask}
use Rattle.ask_route.specs.declared.ask.Seat.{Seat}
use Rattle.ask_route.specs.Tables.{AreIds, ask_of, has_id, is_held, is_seat, is_seated, is_under, is_with, numbers_of, seat_of}
use Rattle.ask_route.specs.Rows.{row_at, numbers_with, first_with, first_number, chosen, numbers_among, Rise, Indexes, IsKept, id_key, number_key, editor_key, print_key, seat_key, holder_key, holder_in}
use Rattle.ask_route.proofs.Numbering.{among_of, chosen_of, first_of, rise_le, hit_self, hit_below, insert_last}

bytes_sym : (a b : List ℕ) → bytes_eq a b ≡ bytes_eq b a
bytes_sym a b = go (bytes_eq a b) (bytes_eq b a) refl refl
  where
    go : (c d : Bool) → bytes_eq a b ≡ c → bytes_eq b a ≡ d → c ≡ d
    go true true h k = refl
    go false false h k = refl
    go true false h k = sym ((bytes_eq-Decides b a).1 (sym ((bytes_eq-Decides a b).0 h))) ∙ k
    go false true h k = sym h ∙ (bytes_eq-Decides a b).1 (sym ((bytes_eq-Decides b a).0 k))

-- rising numbers with one more behind all, and without it

put_last : (n : ℕ) (ns : List ℕ) → AllByRecursion (λ m. m < n) ns → with_number n ns ≡ ns ++ n ∷ []
put_last n [] h = refl
put_last n (m ∷ ms) h = ap (λ c. match_ordering c (n ∷ m ∷ ms) (m ∷ ms) (m ∷ with_number n ms)) (sym (nat_cmp_is n m Greater h.0)) ∙ ap (λ xs. m ∷ xs) (put_last n ms h.1)

drop_last : (n : ℕ) (ns : List ℕ) → AllByRecursion (λ m. m < n) ns → without_number n (ns ++ n ∷ []) ≡ ns
drop_last n [] h = ap (λ b. cond b [] (n ∷ [])) (hit_self n)
drop_last n (m ∷ ms) h = ap (λ b. cond b (ms ++ n ∷ []) (m ∷ without_number n (ms ++ n ∷ []))) (hit_below n m h.0) ∙ ap (λ xs. m ∷ xs) (drop_last n ms h.1)

put_dropped : (n : ℕ) (ns : List ℕ) → AllByRecursion (λ m. m < n) ns → without_number n (with_number n ns) ≡ ns
put_dropped n ns h = ap (without_number n) (put_last n ns h) ∙ drop_last n ns h

-- numbers that came and went again
pub undone : (u : List ℕ) (n : ℕ) (old mid new : List (List ℕ × List ℕ)) → AllByRecursion (λ m. m < n) (numbers_under u old) → Changes u (with_number n) old mid → Changes u (without_number n) mid new → Same old new
undone u n old mid new below came went k = went k ∙ (ap (λ ns. cond (bytes_eq k u) (without_number n ns) ns) (came k) ∙ go (bytes_eq k u) refl)
  where
    go : (b : Bool) → bytes_eq k u ≡ b → cond b (without_number n (cond b (with_number n (numbers_under k old)) (numbers_under k old))) (cond b (with_number n (numbers_under k old)) (numbers_under k old)) ≡ numbers_under k old
    go true e = put_dropped n (numbers_under k old) (subst (λ v. AllByRecursion (λ m. m < n) (numbers_under v old)) (sym ((bytes_eq-Decides k u).0 e)) below)
    go false e = refl

numbers_below : (test : Ask → Bool) (from to : ℕ) (rows : List (ℕ × Ask)) → Rise from to rows → AllByRecursion (λ m. m < to) (numbers_with test rows)
numbers_below test from to [] h = tt
numbers_below test from to (r ∷ rs) h = go (test r.1) (numbers_below test (r.0 + 1) to rs h.1)
  where
    go : (b : Bool) → AllByRecursion (λ m. m < to) (numbers_with test rs) → AllByRecursion (λ m. m < to) (cond b (r.0 ∷ numbers_with test rs) (numbers_with test rs))
    go true k = (let l = rise_le (r.0 + 1) to rs h.1 in omega (arith, l), k)
    go false k = k

rise_last : (from to : ℕ) (rows : List (ℕ × Ask)) (a : Ask) → Rise from to rows → Rise from (to + 1) (rows ++ (to, a) ∷ [])
rise_last from to [] a h = (h, omega arith)
rise_last from to (r ∷ rs) a h = (h.0, rise_last (r.0 + 1) to rs a h.1)

rise_wider : (a b to : ℕ) (rows : List (ℕ × Ask)) → a ≤ b → Rise b to rows → Rise a to rows
rise_wider a b to [] l h = omega (arith, l, h)
rise_wider a b to (r ∷ rs) l h = (let m : b ≤ r.0 = h.0 in omega (arith, l, m), h.1)

pub rise_less : (test : ℕ → Bool) (from to : ℕ) (rows : List (ℕ × Ask)) → Rise from to rows → Rise from to (remove_entry test rows)
rise_less test from to [] h = h
rise_less test from to (r ∷ rs) h = go (test r.0) (rise_less test (r.0 + 1) to rs h.1)
  where
    go : (b : Bool) → Rise (r.0 + 1) to (remove_entry test rs) → Rise from to (cond b rs (r ∷ remove_entry test rs))
    go true k = rise_wider from (r.0 + 1) to rs (let l : from ≤ r.0 = h.0 in omega (arith, l)) h.1
    go false k = (h.0, k)

numbers_append : (test : Ask → Bool) (rows more : List (ℕ × Ask)) → numbers_with test (rows ++ more) ≡ numbers_with test rows ++ numbers_with test more
numbers_append test [] more = refl
numbers_append test (r ∷ rs) more = go (test r.1) (numbers_append test rs more)
  where
    go : (b : Bool) → numbers_with test (rs ++ more) ≡ numbers_with test rs ++ numbers_with test more → cond b (r.0 ∷ numbers_with test (rs ++ more)) (numbers_with test (rs ++ more)) ≡ cond b (r.0 ∷ numbers_with test rs) (numbers_with test rs) ++ numbers_with test more
    go true k = ap (λ ns. r.0 ∷ ns) k
    go false k = k

append_nothing : (ns : List ℕ) → ns ++ [] ≡ ns
append_nothing [] = refl
append_nothing (n ∷ ns) = ap (λ ms. n ∷ ms) (append_nothing ns)

module _ (key : Ask → List ℕ) where
  pub below : (from to : ℕ) (rows : List (ℕ × Ask)) (index : List (List ℕ × List ℕ)) (u : List ℕ) → Rise from to rows → Indexes key rows index → AllByRecursion (λ m. m < to) (numbers_under u index)
  below from to rows index u rise h = subst (AllByRecursion (λ m. m < to)) (sym (h u)) (numbers_below (λ a. bytes_eq (key a) u) from to rows rise)

  index_last : (from to : ℕ) (rows : List (ℕ × Ask)) (a : Ask) (old new : List (List ℕ × List ℕ)) → Rise from to rows → Indexes key rows old → Changes (key a) (with_number to) old new → Indexes key (rows ++ (to, a) ∷ []) new
  index_last from to rows a old new rise h change k = change k ∙ (ap (λ ns. cond (bytes_eq k (key a)) (with_number to ns) ns) (h k) ∙ (go (bytes_eq k (key a)) refl ∙ sym (numbers_append (λ b. bytes_eq (key b) k) rows ((to, a) ∷ []))))
    where
      ns : List ℕ
      ns = numbers_with (λ b. bytes_eq (key b) k) rows

      go : (b : Bool) → bytes_eq k (key a) ≡ b → cond b (with_number to ns) ns ≡ ns ++ cond (bytes_eq (key a) k) (to ∷ []) []
      go true e = put_last to ns (numbers_below (λ b. bytes_eq (key b) k) from to rows rise) ∙ ap (λ b. ns ++ cond b (to ∷ []) []) (sym (bytes_sym (key a) k ∙ e))
      go false e = sym (append_nothing ns) ∙ ap (λ b. ns ++ cond b (to ∷ []) []) (sym (bytes_sym (key a) k ∙ e))

  index_less_at : (k : List ℕ) (n : ℕ) (a : Ask) (c : Bool) → bytes_eq (key a) k ≡ c → (rows : List (ℕ × Ask)) → Some a ≡ row_at n rows
      → cond c (without_number n (numbers_with (λ b. bytes_eq (key b) k) rows)) (numbers_with (λ b. bytes_eq (key b) k) rows) ≡ numbers_with (λ b. bytes_eq (key b) k) (remove_entry (is_at (nat_cmp n)) rows)
  index_less_at k n a c is [] e = absurd (cc)
  index_less_at k n a c is (r ∷ rs) e = go (is_at (nat_cmp n) r.0) refl e (λ f. index_less_at k n a c is rs f)
    where
      ns : List ℕ
      ns = numbers_with (λ b. bytes_eq (key b) k) rs

      here : (c d : Bool) → d ≡ c → is_at (nat_cmp n) r.0 ≡ true → cond c (without_number n (cond d (r.0 ∷ ns) ns)) (cond d (r.0 ∷ ns) ns) ≡ ns
      here true true s h = ap (λ b. cond b ns (r.0 ∷ without_number n ns)) h
      here true false s h = absurd (cc)
      here false true s h = absurd (cc)
      here false false s h = refl

      there : (c d : Bool) → is_at (nat_cmp n) r.0 ≡ false → cond c (without_number n ns) ns ≡ numbers_with (λ b. bytes_eq (key b) k) (remove_entry (is_at (nat_cmp n)) rs)
          → cond c (without_number n (cond d (r.0 ∷ ns) ns)) (cond d (r.0 ∷ ns) ns) ≡ cond d (r.0 ∷ numbers_with (λ b. bytes_eq (key b) k) (remove_entry (is_at (nat_cmp n)) rs)) (numbers_with (λ b. bytes_eq (key b) k) (remove_entry (is_at (nat_cmp n)) rs))
      there true true h rest = ap (λ b. cond b ns (r.0 ∷ without_number n ns)) h ∙ ap (λ ms. r.0 ∷ ms) rest
      there true false h rest = rest
      there false true h rest = ap (λ ms. r.0 ∷ ms) rest
      there false false h rest = rest

      go : (b : Bool) → is_at (nat_cmp n) r.0 ≡ b → Some a ≡ cond b (Some r.1) (row_at n rs)
          → (Some a ≡ row_at n rs → cond c (without_number n ns) ns ≡ numbers_with (λ b. bytes_eq (key b) k) (remove_entry (is_at (nat_cmp n)) rs))
          → cond c (without_number n (cond (bytes_eq (key r.1) k) (r.0 ∷ ns) ns)) (cond (bytes_eq (key r.1) k) (r.0 ∷ ns) ns) ≡ numbers_with (λ b. bytes_eq (key b) k) (cond b rs (r ∷ remove_entry (is_at (nat_cmp n)) rs))
      go true h f rest = let same : a ≡ r.1 = cc in here c (bytes_eq (key r.1) k) (ap (λ x. bytes_eq (key x) k) (sym same) ∙ is) h
      go false h f rest = there c (bytes_eq (key r.1) k) h (rest f)

  index_less : (n : ℕ) (a : Ask) (rows : List (ℕ × Ask)) (old new : List (List ℕ × List ℕ)) → Some a ≡ row_at n rows → Indexes key rows old → Changes (key a) (without_number n) old new → Indexes key (remove_entry (is_at (nat_cmp n)) rows) new
  index_less n a rows old new there h change k = change k ∙ (ap₂ (λ b (ns : List ℕ). cond b (without_number n ns) ns) (bytes_sym k (key a)) (h k) ∙ index_less_at k n a (bytes_eq (key a) k) refl rows there)

-- who passes a test has its key

both : (a b : Bool) → (a && b) ≡ true → (a ≡ true) × (b ≡ true)
both true b e = (refl, e)
both false b e = absurd (cc)

same_keys : (a b : List ℕ) → a ≡ b → bytes_eq a b ≡ true
same_keys a b e = (bytes_eq-Decides a b).1 e

under_key : (id : List ℕ) (a : Ask) → is_under id a ≡ true → bytes_eq (id_key a) (print_key id) ≡ true
under_key id a e = same_keys (id_key a) (print_key id) (ap (to_be_bytes w128) (sym (alike 0 0 id a.id refl ((bytes_eq-Decides (form id) (form a.id)).0 e))))

seated_key : (editor number : ℕ) (a : Ask) → is_seated editor number a ≡ true → bytes_eq (number_key a) (to_be_bytes w128 number) ≡ true
seated_key editor number a e = same_keys (number_key a) (to_be_bytes w128 number) (go (seat_of a) e)
  where
    go : (o : Option Seat) → is_seat editor number o ≡ true → seat_key o ≡ to_be_bytes w128 number
    go None f = absurd (cc)
    go (Some s) f = ap (to_be_bytes w128) (eqb-true s.number number (both (nat_eq s.editor editor) (nat_eq s.number number) f).1)

with_key : (holder : Option ℕ) (a : Ask) → is_with holder a ≡ true → bytes_eq (editor_key a) (holder_key holder) ≡ true
with_key holder a e = same_keys (editor_key a) (holder_key holder) (go holder (seat_of a) e)
  where
    go : (h : Option ℕ) (o : Option Seat) → is_held h o ≡ true → holder_key (holder_in o) ≡ holder_key h
    go None None f = refl
    go None (Some s) f = absurd (cc)
    go (Some e) None f = absurd (cc)
    go (Some e) (Some s) f = ap (to_be_bytes w64) (eqb-true s.editor e f)

-- what is kept

module _ (rows : List (ℕ × Ask)) (next : ℕ) (is ns es : List (List ℕ × List ℕ)) (kept : IsKept rows next is ns es) where
  pub kept_same : (is' ns' es' : List (List ℕ × List ℕ)) → Same is is' → Same ns ns' → Same es es' → IsKept rows next is' ns' es'
  kept_same is' ns' es' i n e = record { rise = kept.rise; ids = λ k. i k ∙ kept.ids k; numbers = λ k. n k ∙ kept.numbers k; editors = λ k. e k ∙ kept.editors k }

  -- an ask that came and went again
  pub kept_undone : (a : Ask) (is' ns' es' is'' ns'' es'' : List (List ℕ × List ℕ)) → Changes (id_key a) (with_number next) is is' → Changes (number_key a) (with_number next) ns ns' → Changes (editor_key a) (with_number next) es es'
      → Changes (id_key a) (without_number next) is' is'' → Changes (number_key a) (without_number next) ns' ns'' → Changes (editor_key a) (without_number next) es' es'' → IsKept rows next is'' ns'' es''
  kept_undone a is' ns' es' is'' ns'' es'' i n e i' n' e' = kept_same is'' ns'' es''
      (undone (id_key a) next is is' is'' (below id_key 0 next rows is (id_key a) kept.rise kept.ids) i i')
      (undone (number_key a) next ns ns' ns'' (below number_key 0 next rows ns (number_key a) kept.rise kept.numbers) n n')
      (undone (editor_key a) next es es' es'' (below editor_key 0 next rows es (editor_key a) kept.rise kept.editors) e e')

  pub kept_last : (a : Ask) (is' ns' es' : List (List ℕ × List ℕ)) → Changes (id_key a) (with_number next) is is' → Changes (number_key a) (with_number next) ns ns' → Changes (editor_key a) (with_number next) es es'
      → IsKept (insert_entry nat_cmp rows next a) (next + 1) is' ns' es'
  kept_last a is' ns' es' i n e = rw (insert_last a 0 next rows kept.rise) (record {
    rise = rise_last 0 next rows a kept.rise;
    ids = index_last id_key 0 next rows a is is' kept.rise kept.ids i;
    numbers = index_last number_key 0 next rows a ns ns' kept.rise kept.numbers n;
    editors = index_last editor_key 0 next rows a es es' kept.rise kept.editors e;
  })

  pub kept_less : (n : ℕ) (a : Ask) (is' ns' es' : List (List ℕ × List ℕ)) → Some a ≡ row_at n rows → Changes (id_key a) (without_number n) is is' → Changes (number_key a) (without_number n) ns ns' → Changes (editor_key a) (without_number n) es es'
      → IsKept (remove_entry (is_at (nat_cmp n)) rows) next is' ns' es'
  kept_less n a is' ns' es' there i m e = record {
    rise = rise_less (is_at (nat_cmp n)) 0 next rows kept.rise;
    ids = index_less id_key n a rows is is' there kept.ids i;
    numbers = index_less number_key n a rows ns ns' there kept.numbers m;
    editors = index_less editor_key n a rows es es' there kept.editors e;
  }

  -- what is found

  pub under_found : (id : List ℕ) → first_number (is_under id) rows (numbers_under (print_key id) is) ≡ first_with (is_under id) rows
  under_found id = ap (first_number (is_under id) rows) (kept.ids (print_key id)) ∙ first_of (is_under id) (λ a. bytes_eq (id_key a) (print_key id)) (under_key id) 0 next rows kept.rise

  pub seated_found : (editor number : ℕ) → first_number (is_seated editor number) rows (numbers_under (to_be_bytes w128 number) ns) ≡ first_with (is_seated editor number) rows
  seated_found editor number = ap (first_number (is_seated editor number) rows) (kept.numbers (to_be_bytes w128 number)) ∙ first_of (is_seated editor number) (λ a. bytes_eq (number_key a) (to_be_bytes w128 number)) (seated_key editor number) 0 next rows kept.rise

  pub with_found : (holder : Option ℕ) → chosen (is_with holder) rows (numbers_under (holder_key holder) es) ≡ numbers_with (is_with holder) rows
  with_found holder = ap (chosen (is_with holder) rows) (kept.editors (holder_key holder)) ∙ chosen_of (is_with holder) (λ a. bytes_eq (editor_key a) (holder_key holder)) (with_key holder) 0 next rows kept.rise

  pub numbers_found : (editor : ℕ) → numbers_among editor rows (numbers_under (holder_key (Some editor)) es) ≡ numbers_of editor (values_of rows)
  numbers_found editor = ap (numbers_among editor rows) (kept.editors (holder_key (Some editor))) ∙ among_of editor (λ a. bytes_eq (editor_key a) (holder_key (Some editor))) (with_key (Some editor)) 0 next rows kept.rise

-- by what ids mean
pub means : (meaning : List ℕ → Id) (i : Id) (id : List ℕ) (asks : List Ask) → IsIdText i id → AreIds meaning asks → list_any (is_under id) asks ≡ has_id meaning i asks
means meaning i id [] h all = refl
means meaning i id (a ∷ asks) h all = ap₂ (λ b c. b || c) (texts_same i (meaning a.id) id a.id h all.0) (means meaning i id asks h all.1)

pub find_means : (meaning : List ℕ → Id) (i : Id) (id : List ℕ) (asks : List Ask) → IsIdText i id → AreIds meaning asks → find (is_under id) asks ≡ ask_of meaning i asks
find_means meaning i id [] h all = refl
find_means meaning i id (a ∷ asks) h all = ap₂ (λ b (o : Option Ask). cond b (Some a) o) (texts_same i (meaning a.id) id a.id h all.0) (find_means meaning i id asks h all.1)
