-- What a map keeps by its keys' bytes.
use Rattle.std.proofs.Common.{◌≡◌, ℕ, Bool, true, false, cond, not, List, [], ◌∷◌, map, Vec, Global, refl, sym, ◌∙◌, ap}
use Rattle.std.specs.Prelude.{Option, Some, None, bytes_eq}
use Rattle.std.specs.declared.cmp.Ordering.{Ordering}
use Rattle.std.specs.declared.cmp.Ordering.TheVariants.{Less, Equal, Greater}
use Rattle.std.specs.Ordering.{nat_cmp, is_eq, match_ordering}
use Rattle.std.specs.Cmp.Lexicographic.{slice_cmp}
use Rattle.std.specs.BTreeMap.{insert_entry}
use Rattle.std.specs.Map.{lookup, remove_entry}
use Rattle.std.proofs.lemmas.Map.Text.{is_eq-slice_cmp}
use Rattle.focus_switch.specs.declared.held.Held.{Held}
use Rattle.focus_switch.specs.Documents.{held_of, put_held, drop_held}

abbrev pub rows : List (Vec ℕ Global × Held) → List (List ℕ × Held)
rows es = map (λ e. (e.0.items, e.1)) es

-- whether a key has these bytes, as the map tests it
abbrev at : List ℕ → Vec ℕ Global → Bool
at u k = is_eq (slice_cmp nat_cmp u k.items)

looked_up : (u : List ℕ) (es : List (Vec ℕ Global × Held)) → held_of u (rows es) ≡ lookup (at u) es
looked_up u [] = refl
looked_up u (e ∷ es) = ap (λ b. cond b (Some e.1) (held_of u (rows es))) (sym (is_eq-slice_cmp u e.0.items)) ∙ ap (cond (at u e.0) (Some e.1)) (looked_up u es)

pub get_is : (u : List ℕ) (es : List (Vec ℕ Global × Held)) (hs : List (List ℕ × Held)) (o : Option Held) → rows es ≡ hs → o ≡ lookup (at u) es → o ≡ held_of u hs
get_is u es hs o e h = h ∙ sym (looked_up u es) ∙ ap (held_of u) e

inserted : (key : Vec ℕ Global) (x : Held) (es : List (Vec ℕ Global × Held)) → rows (insert_entry (λ a b. slice_cmp nat_cmp a.items b.items) es key x) ≡ put_held key.items x (rows es)
inserted key x [] = refl
inserted key x (e ∷ es) = go (slice_cmp nat_cmp key.items e.0.items) (inserted key x es)
  where
    go : (r : Ordering) → rows (insert_entry (λ a b. slice_cmp nat_cmp a.items b.items) es key x) ≡ put_held key.items x (rows es)
        → rows (match_ordering r ((key, x) ∷ e ∷ es) ((e.0, x) ∷ es) (e ∷ insert_entry (λ a b. slice_cmp nat_cmp a.items b.items) es key x))
        ≡ match_ordering r ((key.items, x) ∷ rows (e ∷ es)) ((e.0.items, x) ∷ rows es) ((e.0.items, e.1) ∷ put_held key.items x (rows es))
    go Less h = refl
    go Equal h = refl
    go Greater h = ap (λ hs. (e.0.items, e.1) ∷ hs) h

pub put_is : (u : List ℕ) (key : Vec ℕ Global) (x : Held) (es new : List (Vec ℕ Global × Held)) (hs : List (List ℕ × Held)) → rows es ≡ hs → key.items ≡ u
    → new ≡ insert_entry (λ a b. slice_cmp nat_cmp a.items b.items) es key x → rows new ≡ put_held u x hs
put_is u key x es new hs e k h = ap rows h ∙ inserted key x es ∙ ap (λ w. put_held w x (rows es)) k ∙ ap (put_held u x) e

-- what isn't there isn't dropped
left : (u : List ℕ) (hs : List (List ℕ × Held)) → held_of u hs ≡ None → hs ≡ drop_held u hs
left u [] h = refl
left u (k ∷ ks) h = go (bytes_eq u k.0) h (left u ks)
  where
    go : (b : Bool) → cond b (Some k.1) (held_of u ks) ≡ None → (held_of u ks ≡ None → ks ≡ drop_held u ks) → k ∷ ks ≡ cond (not b) (k ∷ drop_held u ks) (drop_held u ks)
    go true h r = absurd (cc)
    go false h r = ap (λ hs. k ∷ hs) (r h)

-- without the first entry with these bytes, where no other has them
dropped : (u : List ℕ) (es : List (Vec ℕ Global × Held)) → held_of u (rows (remove_entry (at u) es)) ≡ None → rows (remove_entry (at u) es) ≡ drop_held u (rows es)
dropped u [] h = refl
dropped u (e ∷ es) h = go (at u e.0) (bytes_eq u e.0.items) (is_eq-slice_cmp u e.0.items) refl h (dropped u es)
  where
    go : (a b : Bool) → a ≡ b → bytes_eq u e.0.items ≡ b → held_of u (rows (cond a es (e ∷ remove_entry (at u) es))) ≡ None
        → (held_of u (rows (remove_entry (at u) es)) ≡ None → rows (remove_entry (at u) es) ≡ drop_held u (rows es))
        → rows (cond a es (e ∷ remove_entry (at u) es)) ≡ cond (not b) ((e.0.items, e.1) ∷ drop_held u (rows es)) (drop_held u (rows es))
    go true true d f h r = left u (rows es) h
    go true false d f h r = absurd (cc)
    go false true d f h r = absurd (cc)
    go false false d f h r = ap (λ hs. (e.0.items, e.1) ∷ hs) (r (sym (ap (λ b. cond b (Some e.1) (held_of u (rows (remove_entry (at u) es)))) f) ∙ h))

pub remove_is : (u : List ℕ) (es new : List (Vec ℕ Global × Held)) (hs : List (List ℕ × Held)) → rows es ≡ hs → new ≡ remove_entry (at u) es → lookup (at u) new ≡ None → rows new ≡ drop_held u hs
remove_is u es new hs e n none = ap rows n ∙ dropped u es (looked_up u (remove_entry (at u) es) ∙ ap (lookup (at u)) (sym n) ∙ none) ∙ ap (drop_held u) e
