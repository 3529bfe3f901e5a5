-- The names of the multiplexer's own requests are no other names.
use Rattle.std.proofs.Common.{◌≡◌, Bool, true, false, ◌||◌, List, ℕ, bytes_eq, codes, refl, subst}
use Rattle.std.proofs.lemmas.Slice.Eq.{bytes_eq-Decides}
use Rattle.group_rows.specs.Rows.{names_lspmux}

-- what holds of each of them
pub by_names : (P : List ℕ → Type 0) (method : List ℕ) → P (codes "lspmux/open") → P (codes "lspmux/status") → P (codes "lspmux/stop") → names_lspmux method ≡ true → P method
by_names P method a b c h = go (bytes_eq (codes "lspmux/open") method) (bytes_eq (codes "lspmux/status") method) refl refl h
  where
    go : (x y : Bool) → bytes_eq (codes "lspmux/open") method ≡ x → bytes_eq (codes "lspmux/status") method ≡ y → (x || (y || bytes_eq (codes "lspmux/stop") method)) ≡ true → P method
    go true y is tells k = subst P ((bytes_eq-Decides (codes "lspmux/open") method).0 is) a
    go false true is tells k = subst P ((bytes_eq-Decides (codes "lspmux/status") method).0 tells) b
    go false false is tells k = subst P ((bytes_eq-Decides (codes "lspmux/stop") method).0 k) c

pub lspmux_apart : (name method : List ℕ) → bytes_eq name (codes "lspmux/open") ≡ false → bytes_eq name (codes "lspmux/status") ≡ false → bytes_eq name (codes "lspmux/stop") ≡ false → names_lspmux method ≡ true → bytes_eq name method ≡ false
lspmux_apart name method a b c h = by_names (λ m. bytes_eq name m ≡ false) method a b c h
