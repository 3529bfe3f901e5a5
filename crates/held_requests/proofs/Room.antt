-- Whether there is room for one more request, counted off and summed up.
use Rattle.std.proofs.Common.{◌≡◌, ℕ, suc, ◌+◌, ◌-◌, ◌≤◌, ◌<◌, ◌⊎◌, inl, inr, Bool, true, false, List, [], ◌∷◌, length, refl, sym, ◌∙◌, ap, ap₂, arith}
use Rattle.std.specs.Prelude.{◌&&◌, nat_le, nat_lt}
use Rattle.std.proofs.lemmas.Bool.{cases_lt, le-leb, le-ltb, lt-leb, lt-ltb}
use Rattle.held_requests.specs.declared.request.Request.{Request}
use Rattle.held_requests.specs.Rows.{has_room}
use Rattle.held_requests.specs.Tables.{bytes_of}

and_false : (a : Bool) → (a && false) ≡ false
and_false true = refl
and_false false = refl

fewer : (n count : ℕ) → 0 < count → nat_lt n (count - 1) ≡ nat_lt (suc n) count
fewer n count h = go (cases_lt (suc n) count)
  where
    go : (suc n < count) ⊎ (count ≤ suc n) → nat_lt n (count - 1) ≡ nat_lt (suc n) count
    go (inl k) = lt-ltb n (count - 1) (omega (arith, h, k)) ∙ sym (lt-ltb (suc n) count k)
    go (inr k) = le-ltb n (count - 1) (omega (arith, h, k)) ∙ sym (le-ltb (suc n) count k)

smaller : (l b n left : ℕ) → l ≤ left → nat_le (b + n) (left - l) ≡ nat_le (l + b + n) left
smaller l b n left h = go (cases_lt left (l + b + n))
  where
    go : (left < l + b + n) ⊎ (l + b + n ≤ left) → nat_le (b + n) (left - l) ≡ nat_le (l + b + n) left
    go (inl k) = lt-leb (b + n) (left - l) (omega (arith, h, k)) ∙ sym (lt-leb (l + b + n) left k)
    go (inr k) = le-leb (b + n) (left - l) (omega (arith, h, k)) ∙ sym (le-leb (l + b + n) left k)

pub room_sum : (bytes count left : ℕ) (rs : List Request) → has_room bytes count left rs ≡ (nat_lt (length rs) count && nat_le (bytes_of rs + bytes) left)
room_sum bytes count left [] = let same : bytes ≡ 0 + bytes = omega arith in ap (λ n. nat_lt 0 count && nat_le n left) same
room_sum bytes count left (r ∷ rs) = go (room_sum bytes (count - 1) (left - length r.body) rs) (cases_lt 0 count) (cases_lt left (length r.body))
  where
    l : ℕ
    l = length r.body

    Same : Type 0
    Same = (nat_lt 0 count && (nat_le l left && has_room bytes (count - 1) (left - l) rs)) ≡ (nat_lt (suc (length rs)) count && nat_le (l + bytes_of rs + bytes) left)

    go : has_room bytes (count - 1) (left - l) rs ≡ (nat_lt (length rs) (count - 1) && nat_le (bytes_of rs + bytes) (left - l)) → (0 < count) ⊎ (count ≤ 0) → (left < l) ⊎ (l ≤ left) → Same
    go rest (inr none) size = ap (λ b. b && (nat_le l left && has_room bytes (count - 1) (left - l) rs)) (le-ltb 0 count none)
        ∙ sym (ap (λ b. b && nat_le (l + bytes_of rs + bytes) left) (le-ltb (suc (length rs)) count (omega (arith, none))))
    go rest (inl some) (inl much) = ap₂ (λ a b. a && (b && has_room bytes (count - 1) (left - l) rs)) (lt-ltb 0 count some) (lt-leb l left much)
        ∙ sym (ap (λ b. nat_lt (suc (length rs)) count && b) (lt-leb (l + bytes_of rs + bytes) left (omega (arith, much))) ∙ and_false (nat_lt (suc (length rs)) count))
    go rest (inl some) (inr room) = ap₂ (λ a b. a && (b && has_room bytes (count - 1) (left - l) rs)) (lt-ltb 0 count some) (le-leb l left room)
        ∙ (rest ∙ ap₂ (λ a b. a && b) (fewer (length rs) count some) (smaller l (bytes_of rs) bytes left room))
