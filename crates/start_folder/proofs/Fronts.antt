-- What stands before a query, byte by byte.
use Rattle.std.proofs.Common.{◌≡◌, ℕ, zero, suc, ◌+◌, ◌<◌, ◌≤◌, true, false, List, [], ◌∷◌, ◌++◌, length, take, drop, slice_index, refl, ap, subst, arith}
use Rattle.start_folder.specs.Paths.{before_query, ends_path}

-- one byte more
next : (uri : List ℕ) (n : ℕ) → n < length uri → ends_path (slice_index uri n) ≡ false → take (suc n) uri ++ before_query (drop (suc n) uri) ≡ take n uri ++ before_query (drop n uri)
next [] n h e = absurd (omega (arith, h))
next (b ∷ bs) zero h e = rw e refl
next (b ∷ bs) (suc n) h e = ap (λ l. b ∷ l) (next bs n (omega (arith, h)) e)

pub front_more : (uri : List ℕ) (n : ℕ) → n < length uri → ends_path (slice_index uri n) ≡ false → take (n + 1) uri ++ before_query (drop (n + 1) uri) ≡ take n uri ++ before_query (drop n uri)
front_more uri n h e = let same : suc n ≡ n + 1 = omega arith in subst (λ m. take m uri ++ before_query (drop m uri) ≡ take n uri ++ before_query (drop n uri)) same (next uri n h e)

-- the byte that ends it
pub front_ends : (uri : List ℕ) (n : ℕ) → n < length uri → ends_path (slice_index uri n) ≡ true → take n uri ++ before_query (drop n uri) ≡ take n uri
front_ends [] n h e = absurd (omega (arith, h))
front_ends (b ∷ bs) zero h e = rw e refl
front_ends (b ∷ bs) (suc n) h e = ap (λ l. b ∷ l) (front_ends bs n (omega (arith, h)) e)

-- no byte ends it
pub front_all : (uri : List ℕ) (n : ℕ) → length uri ≤ n → take n uri ++ before_query (drop n uri) ≡ uri
front_all [] zero h = refl
front_all [] (suc n) h = refl
front_all (b ∷ bs) zero h = absurd (omega (arith, h))
front_all (b ∷ bs) (suc n) h = ap (λ l. b ∷ l) (front_all bs n (omega (arith, h)))
