-- What a start owes to an editor, where the table changes.
use Rattle.std.proofs.Common.{◌≡◌, ℕ, Bool, true, false, not, ◌&&◌, cond, filter, List, [], ◌∷◌, nat_eq, bytes_eq, if◌then◌else◌, refl, sym, ap, ap₂, ◌∙◌, arith}
use Rattle.std.proofs.lemmas.Bool.{and_parts}
use Rattle.std.proofs.lemmas.Bool.Decides.{nat_tests}
use Rattle.refresh_debts.specs.declared.debts.Debt.{Debt}
use Rattle.refresh_debts.specs.Tables.{is_at, is_of, is_same, is_with, of, with_debt, without}

same_number : (n k : ℕ) → nat_eq n k ≡ true → n ≡ k
same_number n k h = grind (arith, nat_tests)

itself : (n : ℕ) → nat_eq n n ≡ true
itself n = grind (arith, nat_tests)

swapped : (n k : ℕ) → nat_eq n k ≡ nat_eq k n
swapped n k = go (nat_eq n k) refl
  where
    go : (b : Bool) → nat_eq n k ≡ b → b ≡ nat_eq k n
    go true h = let on : nat_eq k n ≡ true = grind (arith, nat_tests) in sym on
    go false h = let off : nat_eq k n ≡ false = grind (arith, nat_tests) in sym off

both : (a b : Bool) → a ≡ true → b ≡ true → (a && b) ≡ true
both true b h k = k
both false b h k = h

module _ (p q : Debt → Bool) where
  -- those that go are others
  pub others_stay : (ds : List Debt) → ((d : Debt) → p d ≡ true → q d ≡ false) → filter p (without q ds) ≡ filter p ds
  others_stay [] h = refl
  others_stay (x ∷ ds) h = go (p x) (q x) refl refl (others_stay ds h)
    where
      w : List Debt
      w = without q ds

      go : (a b : Bool) → p x ≡ a → q x ≡ b → filter p w ≡ filter p ds → filter p (cond (not b) (x ∷ w) w) ≡ cond a (x ∷ filter p ds) (filter p ds)
      go true true e f rest = let off : q x ≡ false = h x e in absurd (cc)
      go false true e f rest = rest
      go true false e f rest = ap (λ c. cond c (x ∷ filter p w) (filter p w)) e ∙ ap (λ r. x ∷ r) rest
      go false false e f rest = ap (λ c. cond c (x ∷ filter p w) (filter p w)) e ∙ rest

  -- all of them go
  pub all_go : (ds : List Debt) → ((d : Debt) → p d ≡ true → q d ≡ true) → filter p (without q ds) ≡ []
  all_go [] h = refl
  all_go (x ∷ ds) h = go (p x) (q x) refl refl (all_go ds h)
    where
      w : List Debt
      w = without q ds

      go : (a b : Bool) → p x ≡ a → q x ≡ b → filter p w ≡ [] → filter p (cond (not b) (x ∷ w) w) ≡ []
      go true true e f rest = rest
      go false true e f rest = rest
      go true false e f rest = let on : q x ≡ true = h x e in absurd (cc)
      go false false e f rest = ap (λ c. cond c (x ∷ filter p w) (filter p w)) e ∙ rest

  -- some of them go
  pub some_go : (ds : List Debt) → filter p (without q ds) ≡ without q (filter p ds)
  some_go [] = refl
  some_go (x ∷ ds) = go (p x) (q x) refl refl (some_go ds)
    where
      w : List Debt
      w = without q ds

      r : List Debt
      r = filter p ds

      go : (a b : Bool) → p x ≡ a → q x ≡ b → filter p w ≡ without q r → filter p (cond (not b) (x ∷ w) w) ≡ without q (cond a (x ∷ r) r)
      go true true e f rest = rest ∙ sym (ap (λ c. cond (not c) (x ∷ without q r) (without q r)) f)
      go false true e f rest = rest
      go true false e f rest = ap (λ c. cond c (x ∷ filter p w) (filter p w)) e ∙ (ap (λ ds. x ∷ ds) rest ∙ sym (ap (λ c. cond (not c) (x ∷ without q r) (without q r)) f))
      go false false e f rest = ap (λ c. cond c (x ∷ filter p w) (filter p w)) e ∙ rest

-- an editor left
pub left_of : (s e n : ℕ) (ds : List Debt) → of s e (without (is_with n) ds) ≡ (if nat_eq n e then [] else of s e ds)
left_of s e n ds = go (nat_eq n e) refl
  where
    go : (b : Bool) → nat_eq n e ≡ b → of s e (without (is_with n) ds) ≡ (if b then [] else of s e ds)
    go true h = all_go (is_of s e) (is_with n) ds (λ d k. let at : nat_eq d.editor e ≡ true = (and_parts (nat_eq d.start s) (nat_eq d.editor e) k).1 in grind (arith, nat_tests))
    go false h = others_stay (is_of s e) (is_with n) ds (λ d k. let at : nat_eq d.editor e ≡ true = (and_parts (nat_eq d.start s) (nat_eq d.editor e) k).1 in grind (arith, nat_tests))

-- a start ended
pub over_of : (s e n : ℕ) (ds : List Debt) → of s e (without (is_at n) ds) ≡ (if nat_eq n s then [] else of s e ds)
over_of s e n ds = go (nat_eq n s) refl
  where
    go : (b : Bool) → nat_eq n s ≡ b → of s e (without (is_at n) ds) ≡ (if b then [] else of s e ds)
    go true h = all_go (is_of s e) (is_at n) ds (λ d k. let at : nat_eq d.start s ≡ true = (and_parts (nat_eq d.start s) (nat_eq d.editor e) k).0 in grind (arith, nat_tests))
    go false h = others_stay (is_of s e) (is_at n) ds (λ d k. let at : nat_eq d.start s ≡ true = (and_parts (nat_eq d.start s) (nat_eq d.editor e) k).0 in grind (arith, nat_tests))

-- one that is of s and e is of n and k just where these are the same
apart_of : (s e n k : ℕ) (d : Debt) → is_of s e d ≡ true → is_of n k d ≡ (nat_eq n s && nat_eq k e)
apart_of s e n k d h =
    let parts = and_parts (nat_eq d.start s) (nat_eq d.editor e) h in
    ap₂ (λ a b. nat_eq a n && nat_eq b k) (same_number d.start s parts.0) (same_number d.editor e parts.1) ∙ ap₂ (λ a b. a && b) (swapped s n) (swapped e k)

-- what a start owed to an editor was taken out
pub taken_of : (s e n k : ℕ) (ds : List Debt) → of s e (without (is_of n k) ds) ≡ (if nat_eq n s && nat_eq k e then [] else of s e ds)
taken_of s e n k ds = go (nat_eq n s && nat_eq k e) refl
  where
    go : (b : Bool) → (nat_eq n s && nat_eq k e) ≡ b → of s e (without (is_of n k) ds) ≡ (if b then [] else of s e ds)
    go true h = all_go (is_of s e) (is_of n k) ds (λ d own. apart_of s e n k d own ∙ h)
    go false h = others_stay (is_of s e) (is_of n k) ds (λ d own. apart_of s e n k d own ∙ h)

-- nothing of a method is owed any more
pub settled_of : (s e : ℕ) (method : List ℕ) (ds : List Debt) → of s e (without (is_same s e method) ds) ≡ without (is_same s e method) (of s e ds)
settled_of s e method ds = some_go (is_of s e) (is_same s e method) ds

pub settled_other : (s e n k : ℕ) (method : List ℕ) (ds : List Debt) → (nat_eq n s && nat_eq k e) ≡ false → of s e (without (is_same n k method) ds) ≡ of s e ds
settled_other s e n k method ds off = others_stay (is_of s e) (is_same n k method) ds (λ d own. ap (λ b. b && bytes_eq d.method method) (apart_of s e n k d own ∙ off))

-- one more is owed
pub owed_of : (d : Debt) (ds : List Debt) → of d.start d.editor (with_debt d ds) ≡ with_debt d (of d.start d.editor ds)
owed_of d [] = ap (λ c. cond c (d ∷ []) []) (both (nat_eq d.start d.start) (nat_eq d.editor d.editor) (itself d.start) (itself d.editor))
owed_of d (x ∷ ds) = go (is_same d.start d.editor d.method x) (is_of d.start d.editor x) refl refl (owed_of d ds)
  where
    o : List Debt
    o = of d.start d.editor ds

    w : List Debt
    w = with_debt d ds

    go : (a b : Bool) → is_same d.start d.editor d.method x ≡ a → is_of d.start d.editor x ≡ b → of d.start d.editor w ≡ with_debt d o
        → of d.start d.editor (if a then d ∷ ds else x ∷ w) ≡ with_debt d (cond b (x ∷ o) o)
    go true true f g rest = ap (λ c. cond c (d ∷ o) o) (both (nat_eq d.start d.start) (nat_eq d.editor d.editor) (itself d.start) (itself d.editor)) ∙ sym (ap (λ c. if c then d ∷ o else x ∷ with_debt d o) f)
    go true false f g rest = let on : is_of d.start d.editor x ≡ true = (and_parts (is_of d.start d.editor x) (bytes_eq x.method d.method) f).0 in absurd (cc)
    go false true f g rest = ap (λ c. cond c (x ∷ of d.start d.editor w) (of d.start d.editor w)) g ∙ (ap (λ r. x ∷ r) rest ∙ sym (ap (λ c. if c then d ∷ o else x ∷ with_debt d o) f))
    go false false f g rest = ap (λ c. cond c (x ∷ of d.start d.editor w) (of d.start d.editor w)) g ∙ rest

pub owed_other : (s e : ℕ) (d : Debt) (ds : List Debt) → is_of s e d ≡ false → of s e (with_debt d ds) ≡ of s e ds
owed_other s e d [] off = ap (λ c. cond c (d ∷ []) []) off
owed_other s e d (x ∷ ds) off = go (is_same d.start d.editor d.method x) refl (owed_other s e d ds off)
  where
    o : List Debt
    o = of s e ds

    w : List Debt
    w = with_debt d ds

    go : (a : Bool) → is_same d.start d.editor d.method x ≡ a → of s e w ≡ o → of s e (if a then d ∷ ds else x ∷ w) ≡ cond (is_of s e x) (x ∷ o) o
    go true f rest =
        let own = (and_parts (is_of d.start d.editor x) (bytes_eq x.method d.method) f).0 in
        let parts = and_parts (nat_eq x.start d.start) (nat_eq x.editor d.editor) own in
        let alike : is_of s e x ≡ is_of s e d = ap₂ (λ a b. nat_eq a s && nat_eq b e) (same_number x.start d.start parts.0) (same_number x.editor d.editor parts.1) in
        ap (λ c. cond c (d ∷ o) o) off ∙ sym (ap (λ c. cond c (x ∷ o) o) (alike ∙ off))
    go false f rest = ap (λ r. cond (is_of s e x) (x ∷ r) r) rest
