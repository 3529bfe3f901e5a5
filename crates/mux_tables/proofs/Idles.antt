-- A group that lives no more doesn't become idle.
use Rattle.std.proofs.Common.{◌≡◌, ℕ, zero, suc, Bool, true, false, not, ◌&&◌, List, [], ◌∷◌, refl, ap, sym, if◌then◌else◌}
use Rattle.std.specs.Prelude.{Some, slice_get}
use Rattle.std.specs.Option.{option_map_or}
use Rattle.group_table.specs.Tables.{Table, with_groups}
use Rattle.group_words.specs.declared.kept.Kept.{Kept}
use Rattle.group_words.specs.Houses.{emptied, idle_if_live}
use Rattle.group_words.specs.Placing.{changed, idle_from}

over_stays : (now g : ℕ) (xs : List Kept) → option_map_or (λ (x : Kept). x.live) (slice_get xs g) false ≡ false → changed g (idle_if_live now) xs ≡ xs
over_stays now g [] h = refl
over_stays now zero (x ∷ xs) h = ap (λ b. (if b then idle_from now x else x) ∷ xs) h
over_stays now (suc g) (x ∷ xs) h = ap (λ ys. x ∷ ys) (over_stays now g xs h)

pub over_emptied : (was : Bool) (stays : ℕ → Bool) (now g : ℕ) (t : Table) → option_map_or (λ (x : Kept). x.live) (slice_get t.groups g) false ≡ false → t ≡ with_groups (emptied (Some g) was stays now t.groups) t
over_emptied was stays now g t h = go (was && not (stays g))
  where
    go : (b : Bool) → t ≡ with_groups (if b then changed g (idle_if_live now) t.groups else t.groups) t
    go true = ap (λ xs. with_groups xs t) (sym (over_stays now g t.groups h))
    go false = refl
