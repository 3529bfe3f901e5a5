-- What is kept of waiting requests stays so, and what is found by it.
use Rattle.std.proofs.Common.{◌≡◌, ℕ, ◌+◌, Bool, true, false, cond, List, [], ◌∷◌, refl, sym, ◌∙◌, ap, subst}
use Rattle.std.specs.Prelude.{Some, bytes_eq, nat_eq, ◌&&◌, ◌||◌}
use Rattle.std.specs.List.{list_any}
use Rattle.std.specs.Ordering.{nat_cmp}
use Rattle.std.specs.BTreeMap.{insert_entry, is_at}
use Rattle.std.specs.Map.{remove_entry, values_of}
use Rattle.std.proofs.lemmas.Bool.{eqb-true}
use Rattle.std.proofs.lemmas.Slice.Eq.{bytes_eq-Decides}
use Rattle.id_rewrite.specs.Forms.{same_form}
use Rattle.number_index.specs.Numbers.{Changes, Same, numbers_under, with_number, without_number}
use Rattle.numbered_rows.specs.Rows.{first_number, first_with, row_at, rows_among}
use Rattle.numbered_rows.proofs.Keeping.{below, index_last, index_less, rise_last, rise_less, undone}
use Rattle.numbered_rows.proofs.Numbering.{among_of, first_of, hit_self, insert_last}
use Rattle.held_requests.specs.declared.request.Request.{Request}
use Rattle.held_requests.specs.Rows.{IsKept, editor_bytes, editor_key}
use Rattle.held_requests.specs.Tables.{is_of, is_under, of_editor}

-- an editor's requests have its key

of_key : (editor : ℕ) (r : Request) → is_of editor r ≡ true → bytes_eq (editor_key r) (editor_bytes editor) ≡ true
of_key editor r e = (bytes_eq-Decides (editor_key r) (editor_bytes editor)).1 (ap (editor_bytes) (eqb-true r.editor editor e))

both : (a b : Bool) → (a && b) ≡ true → a ≡ true
both true b e = refl
both false b e = absurd (cc)

under_key : (editor : ℕ) (id : List ℕ) (r : Request) → is_under editor id r ≡ true → bytes_eq (editor_key r) (editor_bytes editor) ≡ true
under_key editor id r e = of_key editor r (both (nat_eq r.editor editor) (same_form id r.id) e)

module _ (rows : List (ℕ × Request)) (next : ℕ) (es : List (List ℕ × List ℕ)) (kept : IsKept rows next es) where
  pub kept_same : (es' : List (List ℕ × List ℕ)) → Same es es' → IsKept rows next es'
  kept_same es' same = record { rise = kept.rise; editors = λ k. same k ∙ kept.editors k }

  -- a request that came and went again
  pub kept_undone : (r : Request) (es' es'' : List (List ℕ × List ℕ)) → Changes (editor_key r) (with_number next) es es' → Changes (editor_key r) (without_number next) es' es'' → IsKept rows next es''
  kept_undone r es' es'' came went = kept_same es'' (undone (editor_key r) next es es' es'' (below editor_key 0 next rows es (editor_key r) kept.rise kept.editors) came went)

  pub kept_last : (r : Request) (es' : List (List ℕ × List ℕ)) → Changes (editor_key r) (with_number next) es es' → IsKept (insert_entry nat_cmp rows next r) (next + 1) es'
  kept_last r es' came = rw (insert_last r 0 next rows kept.rise) (record {
    rise = rise_last 0 next rows r kept.rise;
    editors = index_last editor_key 0 next rows r es es' kept.rise kept.editors came;
  })

  pub kept_less : (n : ℕ) (r : Request) (es' : List (List ℕ × List ℕ)) → Some r ≡ row_at n rows → Changes (editor_key r) (without_number n) es es' → IsKept (remove_entry (is_at (nat_cmp n)) rows) next es'
  kept_less n r es' there went = record {
    rise = rise_less (is_at (nat_cmp n)) 0 next rows kept.rise;
    editors = index_less editor_key n r rows es es' there kept.editors went;
  }

  -- what is found

  pub under_found : (editor : ℕ) (id : List ℕ) → first_number (is_under editor id) rows (numbers_under (editor_bytes editor) es) ≡ first_with (is_under editor id) rows
  under_found editor id = ap (first_number (is_under editor id) rows) (kept.editors (editor_bytes editor))
      ∙ first_of (is_under editor id) (λ r. bytes_eq (editor_key r) (editor_bytes editor)) (under_key editor id) 0 next rows kept.rise

  pub of_found : (editor : ℕ) → first_number (is_of editor) rows (numbers_under (editor_bytes editor) es) ≡ first_with (is_of editor) rows
  of_found editor = ap (first_number (is_of editor) rows) (kept.editors (editor_bytes editor))
      ∙ first_of (is_of editor) (λ r. bytes_eq (editor_key r) (editor_bytes editor)) (of_key editor) 0 next rows kept.rise

  pub all_found : (editor : ℕ) → rows_among (is_of editor) rows (numbers_under (editor_bytes editor) es) ≡ of_editor editor (values_of rows)
  all_found editor = ap (rows_among (is_of editor) rows) (kept.editors (editor_bytes editor))
      ∙ among_of (is_of editor) (λ r. bytes_eq (editor_key r) (editor_bytes editor)) (of_key editor) 0 next rows kept.rise

-- without the first one
pub kept_rest : (n : ℕ) (r : Request) (rs : List (ℕ × Request)) (next : ℕ) (es es' : List (List ℕ × List ℕ)) → IsKept ((n, r) ∷ rs) next es → Changes (editor_key r) (without_number n) es es' → IsKept rs next es'
kept_rest n r rs next es es' kept went =
    subst (λ (xs : List (ℕ × Request)). IsKept xs next es') (ap (λ b. cond b rs ((n, r) ∷ remove_entry (is_at (nat_cmp n)) rs)) (hit_self n))
    (kept_less ((n, r) ∷ rs) next es kept n r es' (sym (ap (λ b. cond b (Some r) (row_at n rs)) (hit_self n))) went)

-- some passes where one is the first that does
pub some_first : (test : Request → Bool) (rows : List (ℕ × Request)) (n : ℕ) → first_with test rows ≡ Some n → true ≡ list_any test (values_of rows)
some_first test [] n h = absurd (cc)
some_first test (r ∷ rs) n h = go (test r.1) h (some_first test rs n)
  where
    go : (b : Bool) → cond b (Some r.0) (first_with test rs) ≡ Some n → (first_with test rs ≡ Some n → true ≡ list_any test (values_of rs)) → true ≡ (b || list_any test (values_of rs))
    go true e k = refl
    go false e k = k e
