-- The versions of documents by the bytes of their URIs.
use Rattle.std.proofs.Common.{◌≡◌, ℕ, Bool, true, false, cond, List, [], ◌∷◌, map, Vec, Global, refl, sym, ◌∙◌, ap}
use Rattle.std.specs.Prelude.{Option, Some, bytes_eq}
use Rattle.std.specs.declared.cmp.Ordering.{Ordering}
use Rattle.std.specs.declared.cmp.Ordering.TheVariants.{Less, Equal, Greater}
use Rattle.std.specs.Ordering.{nat_cmp, is_eq, match_ordering}
use Rattle.std.specs.Cmp.Lexicographic.{slice_cmp}
use Rattle.std.specs.BTreeMap.{insert_entry}
use Rattle.std.specs.Map.{lookup}
use Rattle.std.proofs.lemmas.Map.Text.{is_eq-slice_cmp}
use Rattle.std.proofs.lemmas.Slice.Eq.{bytes_eq-Decides}
use Rattle.response_route.specs.declared.versions.Stamp.{Stamp}
use Rattle.response_route.specs.Versions.{stamp_of}

abbrev pub rows : List (Vec ℕ Global × Stamp) → List (List ℕ × Stamp)
rows es = map (λ e. (e.0.items, e.1)) es

-- whether a key has these bytes, as the map tests it
abbrev at : List ℕ → Vec ℕ Global → Bool
at u k = is_eq (slice_cmp nat_cmp u k.items)

looked_up : (u : List ℕ) (es : List (Vec ℕ Global × Stamp)) → stamp_of u (rows es) ≡ lookup (at u) es
looked_up u [] = refl
looked_up u (e ∷ es) = ap (λ b. cond b (Some e.1) (stamp_of u (rows es))) (sym (is_eq-slice_cmp u e.0.items)) ∙ ap (cond (at u e.0) (Some e.1)) (looked_up u es)

pub get_is : (u : List ℕ) (es : List (Vec ℕ Global × Stamp)) (xs : List (List ℕ × Stamp)) (o : Option Stamp) → rows es ≡ xs → o ≡ lookup (at u) es → o ≡ stamp_of u xs
get_is u es xs o e h = h ∙ sym (looked_up u es) ∙ ap (stamp_of u) e

same_bytes : (u v : List ℕ) → bytes_eq u v ≡ true → u ≡ v
same_bytes u v e = (bytes_eq-Decides u v).0 e

equal_bytes : (u v : List ℕ) → u ≡ v → bytes_eq u v ≡ true
equal_bytes u v e = (bytes_eq-Decides u v).1 e

inserted : (u : List ℕ) (key : Vec ℕ Global) (x : Stamp) (es : List (Vec ℕ Global × Stamp)) → stamp_of u (rows (insert_entry (λ a b. slice_cmp nat_cmp a.items b.items) es key x)) ≡ cond (bytes_eq u key.items) (Some x) (stamp_of u (rows es))
inserted u key x [] = refl
inserted u key x (e ∷ es) = go (slice_cmp nat_cmp key.items e.0.items) refl (inserted u key x es)
  where
    s : Option Stamp
    s = stamp_of u (rows es)

    twice : (a b : Bool) → a ≡ b → cond b (Some x) s ≡ cond a (Some x) (cond b (Some e.1) s)
    twice true true h = refl
    twice false false h = refl
    twice true false h = absurd (cc)
    twice false true h = absurd (cc)

    apart : (r : Ordering) → is_eq r ≡ false → slice_cmp nat_cmp key.items e.0.items ≡ r → (a b : Bool) → bytes_eq u key.items ≡ a → bytes_eq u e.0.items ≡ b → (t : Option Stamp) → t ≡ cond a (Some x) s → cond b (Some e.1) t ≡ cond a (Some x) (cond b (Some e.1) s)
    apart r n d true true f g t h = absurd (clash (sym n ∙ (ap is_eq (sym d) ∙ is_eq-slice_cmp key.items e.0.items ∙ equal_bytes key.items e.0.items (sym (same_bytes u key.items f) ∙ same_bytes u e.0.items g))))
      where
        clash : false ≡ true → ⊥
        clash k = cc
    apart r n d true false f g t h = h
    apart r n d false true f g t h = refl
    apart r n d false false f g t h = h

    go : (r : Ordering) → slice_cmp nat_cmp key.items e.0.items ≡ r → stamp_of u (rows (insert_entry (λ a b. slice_cmp nat_cmp a.items b.items) es key x)) ≡ cond (bytes_eq u key.items) (Some x) s
        → stamp_of u (rows (match_ordering r ((key, x) ∷ e ∷ es) ((e.0, x) ∷ es) (e ∷ insert_entry (λ a b. slice_cmp nat_cmp a.items b.items) es key x)))
        ≡ cond (bytes_eq u key.items) (Some x) (cond (bytes_eq u e.0.items) (Some e.1) s)
    go Less d h = refl
    go Equal d h = twice (bytes_eq u key.items) (bytes_eq u e.0.items) (ap (bytes_eq u) (same_bytes key.items e.0.items (sym (is_eq-slice_cmp key.items e.0.items) ∙ ap is_eq d)))
    go Greater d h = apart Greater refl d (bytes_eq u key.items) (bytes_eq u e.0.items) refl refl (stamp_of u (rows (insert_entry (λ a b. slice_cmp nat_cmp a.items b.items) es key x))) h

pub put_is : (uri : List ℕ) (key : Vec ℕ Global) (x : Stamp) (es new : List (Vec ℕ Global × Stamp)) (old now : List (List ℕ × Stamp)) → rows es ≡ old → rows new ≡ now → key.items ≡ uri
    → new ≡ insert_entry (λ a b. slice_cmp nat_cmp a.items b.items) es key x → (u : List ℕ) → stamp_of u now ≡ cond (bytes_eq u uri) (Some x) (stamp_of u old)
put_is uri key x es new old now e f k h u = ap (stamp_of u) (sym f ∙ ap rows h) ∙ inserted u key x es ∙ ap (λ w. cond (bytes_eq u w) (Some x) (stamp_of u (rows es))) k ∙ ap (λ xs. cond (bytes_eq u uri) (Some x) (stamp_of u xs)) e
