-- The documents of one group, as the code has them.
use Rattle.std.proofs.Common.{◌≡◌, ℕ, zero, suc, ◌+◌, ◌≤◌, ◌<◌, List, [], ◌∷◌, ◌++◌, length, get_or, take, refl, sym, ap, subst, ◌∙◌, arith}
use Rattle.std.specs.Prelude.{Some, slice_get, slice_set}
use Rattle.std.proofs.lemmas.List.{take_more}
use Rattle.std.proofs.lemmas.Option.{slice_get_read, slice_get_within}
use Rattle.mux_history.specs.declared.out.Out.{Out}
use Rattle.event_model.proofs.Places.{same_item}
use Rattle.focus_switch.specs.Documents.{Documents}
use Rattle.focus_switch.specs.Rows.{Step, leave_row}
use Rattle.mux_tables.specs.Documents.{StepAt, left_all}
use Rattle.mux_tables.proofs.DocumentLeft.{past_get}

pub documents_read : (xs : List Documents) (g : ℕ) (z : Documents) → g < length xs → z ≡ get_or xs g z → slice_get xs g ≡ Some z
documents_read xs g z within read = slice_get_read xs (length xs) g z refl within read

pub after_at : (row : Documents → Documents) (xs : List Documents) (g : ℕ) (z d now : Documents) → g < length xs → z ≡ get_or xs g z → slice_get xs g ≡ Some d → now ≡ row z → slice_set xs g now ≡ slice_set xs g (row d)
after_at row xs g z d now within read at is = ap (slice_set xs g) (is ∙ ap row (same_item (sym (documents_read xs g z within read) ∙ at)))

-- none is there
pub none_there : (xs : List Documents) (g : ℕ) (d : Documents) → length xs ≤ g → slice_get xs g ≡ Some d → ⊥
none_there xs g d past at = let within = slice_get_within xs g d at in absurd (omega (arith, past, within))

pub past_step : (row : Documents → Step) (xs : List Documents) (g : ℕ) (outs : List Out) → length xs ≤ g → outs ≡ [] → StepAt row g (slice_get xs g) xs outs xs
past_step row xs g outs past none = subst (λ o. StepAt row g o xs outs xs) (sym (past_get xs g past)) (none, refl)

pub there_step : (row : Documents → Step) (xs : List Documents) (g : ℕ) (z now : Documents) (outs : List Out) → g < length xs → z ≡ get_or xs g z → record { outs = outs; after = now } ≡ row z → StepAt row g (slice_get xs g) xs outs (slice_set xs g now)
there_step row xs g z now outs within read is = subst (λ o. StepAt row g o xs outs (slice_set xs g now)) (sym (documents_read xs g z within read)) (ap (λ (w : Step). w.outs) is, ap (λ (w : Step). slice_set xs g w.after) is)

take_past : (es : List ℕ) (i : ℕ) → length es ≤ i → take i es ≡ es
take_past [] zero h = refl
take_past [] (suc i) h = refl
take_past (e ∷ es) zero h = absurd (omega arith)
take_past (e ∷ es) (suc i) h = ap (λ ns. e ∷ ns) (take_past es i (omega arith))

-- editors that leave, one more
left_more : (es : List ℕ) (e : ℕ) (d : Documents) → left_all (es ++ e ∷ []) d ≡ (leave_row e (left_all es d)).after
left_more [] e d = refl
left_more (n ∷ es) e d = left_more es e (leave_row n d).after

pub left_next : (es : List ℕ) (i : ℕ) (d now : Documents) → i < length es → now ≡ left_all (take i es) d → (leave_row (get_or es i 0) now).after ≡ left_all (take (i + 1) es) d
left_next es i d now within is = ap (λ w. (leave_row (get_or es i 0) w).after) is ∙ sym (ap (λ ws. left_all ws d) (take_more es i 0 within) ∙ left_more (take i es) (get_or es i 0) d)

pub left_whole : (es : List ℕ) (i : ℕ) (d : Documents) → length es ≤ i → left_all (take i es) d ≡ left_all es d
left_whole es i d past = ap (λ ws. left_all ws d) (take_past es i past)
