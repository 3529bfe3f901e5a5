-- A uri without its trailing slash.
use Rattle.std.proofs.Common.{◌≡◌, ℕ, zero, suc, ◌+◌, ◌≤◌, Bool, true, false, List, [], ◌∷◌, length, get_or, take, map, nat_eq, refl, ap, sym, arith, if◌then◌else◌}
use Rattle.std.proofs.lemmas.Bool.Decides.{nat_tests}
use Rattle.group_words.specs.Houses.{normal_of, without_slash}

pub slash_removed : (bs : List ℕ) (k : ℕ) → k + 1 ≡ length bs → get_or bs k 0 ≡ 47 → take k bs ≡ without_slash bs
slash_removed [] k h e = absurd (omega arith)
slash_removed (b ∷ []) zero h e = ap (λ (t : Bool). if t then [] else b ∷ []) (sym (ap (λ n. nat_eq n 47) e))
slash_removed (b ∷ []) (suc k) h e = absurd (omega arith)
slash_removed (b ∷ c ∷ bs) zero h e = absurd (omega arith)
slash_removed (b ∷ c ∷ bs) (suc k) h e = ap (λ xs. b ∷ xs) (slash_removed (c ∷ bs) k (omega arith) e)

pub slash_kept : (bs : List ℕ) → ((k : ℕ) → k + 1 ≡ length bs → get_or bs k 0 ≡ 47 → ⊥) → bs ≡ without_slash bs
slash_kept [] h = refl
slash_kept (b ∷ []) h = go (nat_eq b 47) refl
  where
    go : (t : Bool) → nat_eq b 47 ≡ t → b ∷ [] ≡ (if t then [] else b ∷ [])
    go true e = absurd (h 0 refl (grind (arith, nat_tests)))
    go false e = refl
slash_kept (b ∷ c ∷ bs) h = ap (λ xs. b ∷ xs) (slash_kept (c ∷ bs) (λ k l e. h (suc k) (omega (arith, l)) e))

pub forms_past : (fs : List (List ℕ × List ℕ)) (i : ℕ) → length fs ≤ i → map normal_of (take i fs) ≡ map normal_of fs
forms_past [] zero h = refl
forms_past [] (suc i) h = refl
forms_past (f ∷ fs) zero h = absurd (omega arith)
forms_past (f ∷ fs) (suc i) h = ap (λ xs. normal_of f ∷ xs) (forms_past fs i (omega arith))
