-- Sums of a text and of one behind it.
use Rattle.std.proofs.Common.{◌≡◌, ℕ, suc, ◌+◌, ◌*◌, List, [], ◌∷◌, ◌++◌, length, sym, ◌∙◌, arith, length-append}
use Rattle.std.proofs.Math.Nat.{suc-mul, zero-mul}
use Rattle.text_pieces.specs.declared.sums.Sums.{Sums}
use Rattle.text_pieces.specs.Sums.{sums_of, total, weighted}

pub total_append : (a b : List ℕ) → total (a ++ b) ≡ total a + total b
total_append [] b = omega (arith)
total_append (x ∷ a) b = let h : total (a ++ b) ≡ total a + total b = total_append a b in omega (arith, h)

-- the places of the one behind are moved by the length of the one before
pub weighted_append : (a b : List ℕ) → weighted (a ++ b) ≡ weighted a + (length a * total b + weighted b)
weighted_append [] b = let z : 0 * total b ≡ 0 = zero-mul (total b) in omega (arith, z)
weighted_append (x ∷ a) b =
    let h : weighted (a ++ b) ≡ weighted a + (length a * total b + weighted b) = weighted_append a b in
    let t : total (a ++ b) ≡ total a + total b = total_append a b in
    let m : suc (length a) * total b ≡ length a * total b + total b = suc-mul (length a) (total b) in
    omega (arith, h, t, m)

pub sums_append : (a b : List ℕ) (s r : Sums) (n t w k m : ℕ) → s ≡ sums_of a → r ≡ sums_of b → n ≡ s.length + r.length → t ≡ s.total + r.total → k ≡ s.length * r.total → m ≡ k + r.weighted → w ≡ s.weighted + m
    → record { length = n; total = t; weighted = w } ≡ sums_of (a ++ b)
sums_append a b s r n t w k m s_is r_is n_is t_is k_is m_is w_is =
    let long : n ≡ length (a ++ b) = n_is ∙ ((λ i. (s_is i).length + (r_is i).length) ∙ sym (length-append a b)) in
    let sum : t ≡ total (a ++ b) = t_is ∙ ((λ i. (s_is i).total + (r_is i).total) ∙ sym (total_append a b)) in
    let shift : k ≡ length a * total b = k_is ∙ (λ i. (s_is i).length * (r_is i).total) in
    let moved : m ≡ length a * total b + weighted b = m_is ∙ (λ i. shift i + (r_is i).weighted) in
    let heavy : w ≡ weighted (a ++ b) = w_is ∙ ((λ i. (s_is i).weighted + moved i) ∙ sym (weighted_append a b)) in
    λ i. record { length = long i; total = sum i; weighted = heavy i }
