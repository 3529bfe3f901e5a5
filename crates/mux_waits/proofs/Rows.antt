-- What waits in each group, after the tables changed.
use Rattle.std.proofs.Common.{◌≡◌, ℕ, Bool, true, false, cond, List, [], refl, sym, ◌∙◌, ap, nat_eq, if◌then◌else◌}
use Rattle.std.specs.Prelude.{Option, Some, None}
use Rattle.std.specs.BTreeMap.{insert_entry, is_at}
use Rattle.std.specs.Map.{set_value}
use Rattle.std.specs.Ordering.{nat_cmp}
use Rattle.held_requests.specs.declared.request.Request.{Request}
use Rattle.numbered_rows.specs.Rows.{row_at}
use Rattle.mux_tokens.proofs.Rows.{at_put, at_set, hit, num_back, num_same}
use Rattle.mux_waits.specs.Rows.{Becomes, Rows, changed, changed_to, edited, edited_to, held_in, held_of}

module _ (g : ℕ) (f : List Request → List Request) (rows : Rows) where
  at_g : (n : ℕ) (o : Option (List Request)) → row_at g rows ≡ o → nat_eq g n ≡ true → row_at n rows ≡ o
  at_g n o there h = ap (λ k. row_at k rows) (sym (num_same g n h)) ∙ there

  -- what is kept there becomes something else
  set_held : (rs : List Request) → row_at g rows ≡ Some rs → Becomes g f rows (set_value (is_at (nat_cmp g)) rows (f rs))
  set_held rs there n = ap held_in (at_set n g rs (f rs) rows there ∙ ap (λ b. cond b (Some (f rs)) (row_at n rows)) (num_back n g)) ∙ go (nat_eq g n) refl
    where
      go : (b : Bool) → nat_eq g n ≡ b → held_in (cond b (Some (f rs)) (row_at n rows)) ≡ (if b then f (held_of n rows) else held_of n rows)
      go true h = ap f (sym (ap held_in (at_g n (Some rs) there h)))
      go false h = refl

  put_held : row_at g rows ≡ None → Becomes g f rows (insert_entry nat_cmp rows g (f []))
  put_held none n = ap held_in (at_put n g (f []) rows ∙ ap (λ b. cond b (Some (f [])) (row_at n rows)) (num_back n g)) ∙ go (nat_eq g n) refl
    where
      go : (b : Bool) → nat_eq g n ≡ b → held_in (cond b (Some (f [])) (row_at n rows)) ≡ (if b then f (held_of n rows) else held_of n rows)
      go true h = ap f (sym (ap held_in (at_g n None none h)))
      go false h = refl

  pub held_changed : Becomes g f rows (changed g f rows)
  held_changed = by (row_at g rows) refl
    where
      by : (o : Option (List Request)) → row_at g rows ≡ o → Becomes g f rows (changed_to g f o rows)
      by None none = put_held none
      by (Some rs) there = set_held rs there

  pub held_edited : f [] ≡ [] → Becomes g f rows (edited g f rows)
  held_edited still = by (row_at g rows) refl
    where
      idle : (n : ℕ) (b : Bool) → nat_eq g n ≡ b → row_at g rows ≡ None → held_of n rows ≡ (if b then f (held_of n rows) else held_of n rows)
      idle n true h none = let z : held_of n rows ≡ [] = ap held_in (at_g n None none h) in z ∙ sym (ap f z ∙ still)
      idle n false h none = refl

      by : (o : Option (List Request)) → row_at g rows ≡ o → Becomes g f rows (edited_to g f o rows)
      by None none = λ n. idle n (nat_eq g n) refl none
      by (Some rs) there = set_held rs there

-- where nothing waits in a group its table may go
pub held_swept : (g n : ℕ) (old new : Rows) → held_of g old ≡ [] → row_at n new ≡ cond (is_at (nat_cmp g) n) None (row_at n old) → held_of n new ≡ held_of n old
held_swept g n old new idle is = ap held_in (is ∙ ap (λ b. cond b None (row_at n old)) (hit g n)) ∙ go (nat_eq g n) refl
  where
    go : (b : Bool) → nat_eq g n ≡ b → held_in (cond b None (row_at n old)) ≡ held_of n old
    go true h = sym (ap (λ k. held_of k old) (sym (num_same g n h)) ∙ idle)
    go false h = refl
