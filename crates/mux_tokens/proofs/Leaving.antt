-- An editor leaves all starts, one after the other.
use Rattle.std.proofs.Common.{◌≡◌, ℕ, ◌+◌, ◌<◌, false, cond, List, [], ◌∷◌, length, get_or, drop, refl, sym, subst, ◌∙◌, ap, add-one, drop-cons}
use Rattle.std.specs.Prelude.{Option, Some, None, option_map}
use Rattle.std.specs.Map.{keys_of, set_value}
use Rattle.std.specs.List.{AllByRecursion}
use Rattle.std.specs.List.Sorted.{IsStrictlySortedBy}
use Rattle.std.specs.Ordering.{nat_cmp}
use Rattle.std.specs.declared.cmp.Ordering.TheVariants.{Less}
use Rattle.std.specs.BTreeMap.{is_at}
use Rattle.std.proofs.lemmas.Cmp.{ranked}
use Rattle.progress_route.specs.Tables.{Table, at, left}
use Rattle.mux_tokens.specs.Rows.{Rows, edited, edited_to, left_each, table_in, table_of}
use Rattle.mux_tokens.specs.Stands.{Up}
use Rattle.mux_tokens.proofs.Rows.{at_each, each, hit, num_above, num_itself, up_each}

pub left_more : (e : ℕ) (all : List ℕ) (i : ℕ) (now new goal : Rows) → i < length all → new ≡ edited (get_or all i 0) (left e) now → left_each e (drop i all) now ≡ goal → left_each e (drop (i + 1) all) new ≡ goal
left_more e all i now new goal l is h =
    let next : drop i all ≡ get_or all i 0 ∷ drop (i + 1) all = rw add-one (drop-cons all i 0 l) in
    ap (left_each e (drop (i + 1) all)) is ∙ (sym (ap (λ ss. left_each e ss now) next) ∙ h)

-- one start's table, in front of others or behind

edited_here : (f : Table → Table) (r : ℕ × Table) (rs : Rows) → edited r.0 f (r ∷ rs) ≡ (r.0, f r.1) ∷ rs
edited_here f r rs =
    ap (λ b. edited_to r.0 f (cond b (Some r.1) (at r.0 rs)) (r ∷ rs)) (hit r.0 r.0 ∙ num_itself r.0)
    ∙ ap (λ b. cond b ((r.0, f r.1) ∷ rs) (r ∷ set_value (is_at (nat_cmp r.0)) rs (f r.1))) (hit r.0 r.0 ∙ num_itself r.0)

edited_past : (f : Table → Table) (s : ℕ) (r : ℕ × Table) (rs : Rows) → is_at (nat_cmp s) r.0 ≡ false → edited s f (r ∷ rs) ≡ r ∷ edited s f rs
edited_past f s r rs miss = ap (λ b. edited_to s f (cond b (Some r.1) (at s rs)) (r ∷ rs)) miss ∙ go (at s rs)
  where
    go : (o : Option Table) → edited_to s f o (r ∷ rs) ≡ r ∷ edited_to s f o rs
    go None = refl
    go (Some t) = ap (λ b. cond b ((r.0, f t) ∷ rs) (r ∷ set_value (is_at (nat_cmp s)) rs (f t))) miss

module _ (e : ℕ) where
  left_past : (r : ℕ × Table) (ss : List ℕ) (rs : Rows) → AllByRecursion (λ s. nat_cmp r.0 s ≡ Less) ss → left_each e ss (r ∷ rs) ≡ r ∷ left_each e ss rs
  left_past r [] rs h = refl
  left_past r (s ∷ ss) rs h = ap (left_each e ss) (edited_past (left e) s r rs (hit s r.0 ∙ num_above s r.0 (ranked r.0 s Less (sym h.0)))) ∙ left_past r ss (edited s (left e) rs) h.1

  pub each_is_all : (rows : Rows) → IsStrictlySortedBy nat_cmp (keys_of rows) → left_each e (keys_of rows) rows ≡ each (left e) rows
  unfolding IsStrictlySortedBy
  each_is_all [] h = refl
  each_is_all (r ∷ rs) h = ap (left_each e (keys_of rs)) (edited_here (left e) r rs) ∙ (left_past (r.0, left e r.1) (keys_of rs) rs h.0 ∙ ap (λ xs. (r.0, left e r.1) ∷ xs) (each_is_all rs h.1))

  left_in : (o : Option Table) → table_in (option_map (left e) o) ≡ left e (table_in o)
  left_in None = refl
  left_in (Some t) = refl

  pub all_left : (rows : Rows) → IsStrictlySortedBy nat_cmp (keys_of rows) → (s : ℕ) → table_of s (left_each e (keys_of rows) rows) ≡ left e (table_of s rows)
  all_left rows h s = ap (table_of s) (each_is_all rows h) ∙ (ap table_in (at_each (left e) s rows) ∙ left_in (at s rows))

  pub up_left : (rows : Rows) → IsStrictlySortedBy nat_cmp (keys_of rows) → Up 0 rows → Up 0 (left_each e (keys_of rows) rows)
  up_left rows h up = subst (λ (rs : Rows). Up 0 rs) (sym (each_is_all rows h)) (up_each (left e) 0 rows up)
