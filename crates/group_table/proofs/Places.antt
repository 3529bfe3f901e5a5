-- What is read of a group, and what becomes of all, where its number was looked for among those that live.
use Rattle.std.proofs.Common.{◌≡◌, ℕ, ◌+◌, ◌<◌, ◌≤◌, inl, inr, true, false, List, [], ◌∷◌, ◌++◌, length, get_or, sym, ap, subst, ◌∙◌}
use Rattle.std.specs.Prelude.{Option, Some, None, SomeIff, slice_get, slice_index_or, slice_set}
use Rattle.std.specs.List.{remove}
use Rattle.std.proofs.lemmas.Bool.{cases_lt}
use Rattle.std.proofs.lemmas.List.{get_or_default}
use Rattle.group_words.specs.declared.kept.Kept.{Kept}
use Rattle.group_words.specs.Placing.{changed, ended, over}
use Rattle.number_table.specs.declared.numbered.Numbered.{Numbered}
use Rattle.number_table.specs.Numbers.{IsAt, Rise, held, spread}
use Rattle.number_table.proofs.Places as places
use Rattle.number_table.proofs.Spreading.{all_at, all_push, all_remove, all_set}
use Rattle.group_table.specs.Live.{AreLive}
use Rattle.group_table.specs.Tables.{Table, with_groups}
use Rattle.group_table.proofs.Changes.{changed_set, past_end}

abbrev Lives : Numbered Kept → Type 0
Lives x = x.item.live ≡ true

abbrev table_of : ℕ → ℕ → List Kept → Table
table_of limit idle groups = record { limit = limit; idle = idle; groups = groups }

the_same : {x y : Kept} → ◌≡◌ {A = Option Kept} (Some x) (Some y) → x ≡ y
the_same e = cc

none_some : {A : Type 0} (y : Kept) → ◌≡◌ {A = Option Kept} None (Some y) → A
none_some y e = absurd (clash e)
  where
    clash : ◌≡◌ {A = Option Kept} None (Some y) → ⊥
    clash e = cc

-- a sum that fits
pub summed : (o : Option ℕ) (P : Type 0) (n k : ℕ) → SomeIff o P n → o ≡ Some k → k ≡ n
summed None P n k h e = absurd (cc)
summed (Some m) P n k h e = let same : m ≡ k = cc in sym same ∙ h.1

module _ (limit idle n : ℕ) (kept : List (Numbered Kept)) (t : Table) (is : table_of limit idle (spread over 0 n kept) ≡ t) (rise : Rise 0 n kept) where
  groups_are : spread over 0 n kept ≡ t.groups
  groups_are = ap (λ (u : Table). u.groups) is

  pub length_is : length t.groups ≡ n
  length_is = places.length_is over n kept t.groups groups_are rise

  pub past_get : (e : ℕ) → n ≤ e → slice_get t.groups e ≡ None
  past_get e l = places.past_get over n kept t.groups groups_are rise e l

  -- other groups, and the rest as it was
  in_table : (xs ys : List Kept) → xs ≡ ys → table_of limit idle xs ≡ with_groups ys t
  in_table xs ys e = ap (table_of limit idle) e ∙ ap (λ (u : Table). with_groups ys u) is

  -- one that isn't kept
  module _ (e : ℕ) (none : held e kept ≡ None) where
    pub lost_get : e < n → slice_get t.groups e ≡ Some over
    lost_get l = let inside : e < length t.groups = subst (λ m. e < m) (sym length_is) l in
        places.lost_get over n kept t.groups groups_are rise e inside none over

    pub lost_dead : (x : Kept) → slice_get t.groups e ≡ Some x → x.live ≡ false
    lost_dead x at = elim (cases_lt e n) [
      | inl l ↦ ap (λ (y : Kept). y.live) (the_same (sym at ∙ lost_get l))
      | inr l ↦ none_some x (sym (past_get e l) ∙ at)
    ]

    lost_change : (f : Kept → Kept) → f over ≡ over → changed e f t.groups ≡ t.groups
    lost_change f stays = elim (cases_lt e (length t.groups)) [
      | inl l ↦ sym (changed_set f t.groups e (get_or t.groups e over) l (get_or_default t.groups e over _ l)) ∙ sym (places.lost_stays over n kept t.groups groups_are rise e l none over f stays)
      | inr l ↦ past_end f t.groups e l
    ]

    pub lost_stays : (f : Kept → Kept) → f over ≡ over → t ≡ with_groups (changed e f t.groups) t
    lost_stays f stays = ap (λ gs. with_groups gs t) (sym (lost_change f stays))

  -- one that is kept
  module _ (live : AreLive kept) (e k : ℕ) (at : IsAt kept e k) (there : Numbered Kept) (read : there ≡ get_or kept k there) where
    inside : e < length t.groups
    inside = places.kept_inside over n kept t.groups groups_are rise e k at there read

    item_is : (d : Kept) → there.item ≡ slice_index_or t.groups e d
    item_is d = places.kept_item over n kept t.groups groups_are rise e k inside at there read d

    pub kept_get : slice_get t.groups e ≡ Some there.item
    kept_get = places.kept_get over n kept t.groups groups_are rise e k inside at there read

    pub kept_is : (x : Kept) → slice_get t.groups e ≡ Some x → x ≡ there.item
    kept_is x h = the_same (sym h ∙ kept_get)

    pub kept_lives : there.item.live ≡ true
    kept_lives = all_at Lives kept k there at.inside read live

    pub kept_changed : (f : Kept → Kept) (y : Numbered Kept) → y.number ≡ there.number → y.item ≡ f there.item → table_of limit idle (spread over 0 n (slice_set kept k y)) ≡ with_groups (changed e f t.groups) t
    kept_changed f y same new = in_table (spread over 0 n (slice_set kept k y)) (changed e f t.groups)
        (places.kept_set over n kept t.groups groups_are rise e k inside at there read y same ∙ (ap (slice_set t.groups e) new ∙ changed_set f t.groups e there.item inside (item_is there.item)))

    pub kept_order : (y : Numbered Kept) → y.number ≡ there.number → y.item.live ≡ true → Rise 0 n (slice_set kept k y) × AreLive (slice_set kept k y)
    kept_order y same lives = (places.kept_rise over n kept t.groups groups_are rise e k inside at there read y same, all_set Lives kept k y lives live)

  -- one that ends
  pub left_changed : (live : AreLive kept) (e k : ℕ) → IsAt kept e k → (ys : List (Numbered Kept)) → ys ≡ remove kept k → table_of limit idle (spread over 0 n ys) ≡ with_groups (changed e ended t.groups) t
  left_changed live e k at ys left =
      let d : Numbered Kept = record { number = 0; item = over } in
      let there : Numbered Kept = get_or kept k d in
      let l = inside live e k at there (get_or_default kept k d there at.inside) in
      in_table (spread over 0 n ys) (changed e ended t.groups) (ap (spread over 0 n) left
      ∙ (places.kept_left over n kept t.groups groups_are rise e k at ∙ changed_set ended t.groups e (get_or t.groups e over) l (get_or_default t.groups e over _ l)))

  pub left_order : AreLive kept → (k : ℕ) (ys : List (Numbered Kept)) → ys ≡ remove kept k → Rise 0 n ys × AreLive ys
  left_order live k ys left = subst (λ zs. Rise 0 n zs × AreLive zs) (sym left) (places.left_rise over n kept t.groups groups_are rise k, all_remove Lives kept k live)

  -- the next one is founded
  module _ (x : Kept) (ys : List (Numbered Kept)) (more : ys ≡ kept ++ record { number = n; item = x } ∷ []) where
    pub one_founded : (m : ℕ) → m ≡ n + 1 → table_of limit idle (spread over 0 m ys) ≡ with_groups (t.groups ++ x ∷ []) t
    one_founded m next = in_table (spread over 0 m ys) (t.groups ++ x ∷ []) (ap (λ k. spread over 0 k ys) next ∙ (ap (spread over 0 (n + 1)) more ∙ places.one_comes over n kept t.groups groups_are rise n x (sym length_is)))

    pub founded_order : AreLive kept → x.live ≡ true → (m : ℕ) → m ≡ n + 1 → Rise 0 m ys × AreLive ys
    founded_order live lives m next = subst (λ zs. Rise 0 m zs × AreLive zs) (sym more) (subst (λ k. Rise 0 k (kept ++ record { number = n; item = x } ∷ [])) (sym next) (places.comes_rise over n kept t.groups groups_are rise n x (sym length_is)), all_push Lives kept (record { number = n; item = x }) lives live)
