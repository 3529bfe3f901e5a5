-- What a map keeps by its keys' bytes, before and after a change under one key.
use Rattle.std.proofs.Common.{◌≡◌, ℕ, Bool, true, false, cond, List, [], ◌∷◌, length, map, Vec, Global, Result, Ok, Err, OnErr, refl, sym, ◌∙◌, ap, arith}
use Rattle.std.specs.Prelude.{Option, Some, None, bytes_eq}
use Rattle.std.specs.declared.cmp.Ordering.{Ordering}
use Rattle.std.specs.declared.cmp.Ordering.TheVariants.{Less, Equal, Greater}
use Rattle.std.specs.Ordering.{nat_cmp, is_eq, match_ordering}
use Rattle.std.specs.Cmp.Lexicographic.{slice_cmp}
use Rattle.std.specs.BTreeMap.{insert_entry}
use Rattle.std.specs.BTreeSet.{BTreeSet, btree_set_len}
use Rattle.std.specs.Map.{lookup, remove_entry, set_value}
use Rattle.std.proofs.lemmas.Map.Text.{is_eq-slice_cmp}
use Rattle.std.proofs.lemmas.Slice.Eq.{bytes_eq-Decides}
use Rattle.number_index.specs.Numbers.{numbers_under, Changes, Same}

abbrev Entries : Type 0
Entries = List (Vec ℕ Global × BTreeSet ℕ)

abbrev pub rows : Entries → List (List ℕ × List ℕ)
rows es = map (λ e. (e.0.items, e.1.keys)) es

abbrev pub keys_in : Option (BTreeSet ℕ) → List ℕ
keys_in None = []
keys_in (Some s) = s.keys

-- whether a key has these bytes, as the map tests it
abbrev pub at : List ℕ → Vec ℕ Global → Bool
at u k = is_eq (slice_cmp nat_cmp u k.items)

looked_up : (u : List ℕ) (es : Entries) → numbers_under u (rows es) ≡ keys_in (lookup (at u) es)
looked_up u [] = refl
looked_up u (e ∷ es) = go (at u e.0) (bytes_eq u e.0.items) (is_eq-slice_cmp u e.0.items) (looked_up u es)
  where
    go : (a b : Bool) → a ≡ b → numbers_under u (rows es) ≡ keys_in (lookup (at u) es) → cond b e.1.keys (numbers_under u (rows es)) ≡ keys_in (cond a (Some e.1) (lookup (at u) es))
    go true true d h = refl
    go true false d h = absurd (cc)
    go false true d h = absurd (cc)
    go false false d h = h

same_bytes : (u w : List ℕ) → bytes_eq u w ≡ true → u ≡ w
same_bytes u w h = (bytes_eq-Decides u w).0 h

-- other bytes aren't a key's with these bytes
apart : (k u : List ℕ) (x : Vec ℕ Global) → bytes_eq k u ≡ false → at u x ≡ true → bytes_eq k x.items ≡ false
apart k u x e h = ap (bytes_eq k) (sym (same_bytes u x.items (sym (is_eq-slice_cmp u x.items) ∙ h))) ∙ e

-- under other keys nothing changes
module _ (k u : List ℕ) (other : bytes_eq k u ≡ false) where
  pub set_other : (es : Entries) (w : BTreeSet ℕ) → numbers_under k (rows (set_value (at u) es w)) ≡ numbers_under k (rows es)
  set_other [] w = refl
  set_other (e ∷ es) w = go (at u e.0) refl (set_other es w)
    where
      go : (b : Bool) → at u e.0 ≡ b → numbers_under k (rows (set_value (at u) es w)) ≡ numbers_under k (rows es)
          → numbers_under k (rows (cond b ((e.0, w) ∷ es) (e ∷ set_value (at u) es w))) ≡ cond (bytes_eq k e.0.items) e.1.keys (numbers_under k (rows es))
      go true d h = ap (λ c. cond c w.keys (numbers_under k (rows es))) (apart k u e.0 other d) ∙ sym (ap (λ c. cond c e.1.keys (numbers_under k (rows es))) (apart k u e.0 other d))
      go false d h = ap (cond (bytes_eq k e.0.items) e.1.keys) h

  pub remove_other : (es : Entries) → numbers_under k (rows (remove_entry (at u) es)) ≡ numbers_under k (rows es)
  remove_other [] = refl
  remove_other (e ∷ es) = go (at u e.0) refl (remove_other es)
    where
      go : (b : Bool) → at u e.0 ≡ b → numbers_under k (rows (remove_entry (at u) es)) ≡ numbers_under k (rows es)
          → numbers_under k (rows (cond b es (e ∷ remove_entry (at u) es))) ≡ cond (bytes_eq k e.0.items) e.1.keys (numbers_under k (rows es))
      go true d h = sym (ap (λ c. cond c e.1.keys (numbers_under k (rows es))) (apart k u e.0 other d))
      go false d h = ap (cond (bytes_eq k e.0.items) e.1.keys) h

pub insert_other : (k : List ℕ) (key : Vec ℕ Global) → bytes_eq k key.items ≡ false → (es : Entries) (w : BTreeSet ℕ) → numbers_under k (rows (insert_entry (λ a b. slice_cmp nat_cmp a.items b.items) es key w)) ≡ numbers_under k (rows es)
insert_other k key other [] w = ap (λ c. cond c w.keys []) other
insert_other k key other (e ∷ es) w = go (slice_cmp nat_cmp key.items e.0.items) refl (insert_other k key other es w)
  where
    new : Entries
    new = insert_entry (λ a b. slice_cmp nat_cmp a.items b.items) es key w

    go : (r : Ordering) → slice_cmp nat_cmp key.items e.0.items ≡ r → numbers_under k (rows new) ≡ numbers_under k (rows es)
        → numbers_under k (rows (match_ordering r ((key, w) ∷ e ∷ es) ((e.0, w) ∷ es) (e ∷ new))) ≡ cond (bytes_eq k e.0.items) e.1.keys (numbers_under k (rows es))
    go Less d h = ap (λ c. cond c w.keys (cond (bytes_eq k e.0.items) e.1.keys (numbers_under k (rows es)))) other
    go Equal d h = let f : bytes_eq k e.0.items ≡ false = apart k key.items e.0 other (ap is_eq d) in ap (λ c. cond c w.keys (numbers_under k (rows es))) f ∙ sym (ap (λ c. cond c e.1.keys (numbers_under k (rows es))) f)
    go Greater d h = ap (cond (bytes_eq k e.0.items) e.1.keys) h

module _ (u : List ℕ) (old : List (List ℕ × List ℕ)) (es : Entries) (is : rows es ≡ old) where
  -- what a look-up finds
  pub found : (o : Option (BTreeSet ℕ)) → o ≡ lookup (at u) es → numbers_under u old ≡ keys_in o
  found o h = sym (ap (numbers_under u) is) ∙ (looked_up u es ∙ ap keys_in (sym h))

  module _ (new : Entries) where
    -- a change under one key
    pub changed : (w : Option (BTreeSet ℕ)) (ns : List ℕ) (f : List ℕ → List ℕ) → numbers_under u old ≡ ns → lookup (at u) new ≡ w → ((k : List ℕ) → bytes_eq k u ≡ false → numbers_under k (rows new) ≡ numbers_under k (rows es)) → keys_in w ≡ f ns → Changes u f old (rows new)
    changed w ns f under at_key others e k = go (bytes_eq k u) refl
      where
        go : (b : Bool) → bytes_eq k u ≡ b → numbers_under k (rows new) ≡ cond b (f (numbers_under k old)) (numbers_under k old)
        go true d = ap (λ v. numbers_under v (rows new)) (same_bytes k u d) ∙ (looked_up u new ∙ (ap keys_in at_key ∙ (e ∙ ap f (sym under ∙ ap (λ v. numbers_under v old) (sym (same_bytes k u d))))))
        go false d = others k d ∙ ap (numbers_under k) is

    -- the same numbers as before
    pub changed_not : (w : Option (BTreeSet ℕ)) (ns : List ℕ) → numbers_under u old ≡ ns → lookup (at u) new ≡ w → ((k : List ℕ) → bytes_eq k u ≡ false → numbers_under k (rows new) ≡ numbers_under k (rows es)) → keys_in w ≡ ns → Same old (rows new)
    changed_not w ns under at_key others e k = changed w ns (λ ms. ms) under at_key others e k ∙ go (bytes_eq k u)
      where
        go : (b : Bool) → cond b (numbers_under k old) (numbers_under k old) ≡ numbers_under k old
        go true = refl
        go false = refl

    -- where nothing is written
    pub left : new ≡ es → Same old (rows new)
    left e k = ap (λ x. numbers_under k (rows x)) e ∙ ap (numbers_under k) is

    pub left_none : (f : List ℕ → List ℕ) → new ≡ es → numbers_under u old ≡ [] → f [] ≡ [] → Changes u f old (rows new)
    left_none f e none stays k = left e k ∙ go (bytes_eq k u) refl
      where
        go : (b : Bool) → bytes_eq k u ≡ b → numbers_under k old ≡ cond b (f (numbers_under k old)) (numbers_under k old)
        go true d = let h : numbers_under k old ≡ [] = ap (λ v. numbers_under v old) (same_bytes k u d) ∙ none in h ∙ (sym stays ∙ ap f (sym h))
        go false d = refl

-- one change behind another that changes nothing
pub then_same : (u : List ℕ) (f : List ℕ → List ℕ) (old mid new : List (List ℕ × List ℕ)) → Changes u f old mid → Same mid new → Changes u f old new
then_same u f old mid new h s k = s k ∙ h k

-- a clause on an error, whatever the answer
pub whatever : {A B : Type 0} (r : Result A B) (P : Type 0) → P → OnErr r P
whatever (Ok a) P h = tt
whatever (Err e) P h = h

pub no_keys : (s : BTreeSet ℕ) → btree_set_len s ≡ 0 → s.keys ≡ []
no_keys s h = nil s.keys h
  where
    nil : (ks : List ℕ) → length ks ≡ 0 → ks ≡ []
    nil [] h = refl
    nil (k ∷ ks) h = absurd (omega (arith, h))
