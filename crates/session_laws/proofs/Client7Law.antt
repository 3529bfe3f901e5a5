-- The ids that are registered at an editor, and those of a request, as sets.
use Rattle.std.proofs.Common.{◌≡◌, ℕ, Bool, true, false, ◌&&◌, ◌||◌, cond, List, [], ◌∷◌, ◌++◌, bytes_eq, filter, refl, sym, ◌∙◌, ap, ap₂}
use Rattle.std.specs.List.{list_all}
use Rattle.std.proofs.lemmas.Slice.Eq.{bytes_eq-Decides}
use Rattle.mux_history.specs.declared.out.Out.TheVariants.{ToEditor, ToServer, Spawn, CloseEditor, EndServer}
use Rattle.event_model.specs.Event.{Event, took, did}
use Rattle.session_laws.specs.ClientRules.{ClientRule7, has_id}
use Rattle.session_laws.proofs.Client4Law.{is_told}

pub free_7 : (part : List Event) (event : Event) → is_told event ≡ false → ClientRule7 part event
free_7 part (took cause m) h = tt
free_7 part (did (ToEditor e body) m) h = absurd (cc)
free_7 part (did (ToServer s body) m) h = tt
free_7 part (did (Spawn s g) m) h = tt
free_7 part (did (CloseEditor e) m) h = tt
free_7 part (did (EndServer s) m) h = tt

or_joins : (a b c : Bool) → (a || (b || c)) ≡ ((a || b) || c)
or_joins true b c = refl
or_joins false b c = refl

pub has_joined : (xs ys : List (List ℕ)) (x : List ℕ) → has_id (xs ++ ys) x ≡ (has_id xs x || has_id ys x)
has_joined [] ys x = refl
has_joined (i ∷ xs) ys x = ap (λ b. bytes_eq x i || b) (has_joined xs ys x) ∙ or_joins (bytes_eq x i) (has_id xs x) (has_id ys x)

-- of those that pass a test
pub has_passed : (p : List ℕ → Bool) (xs : List (List ℕ)) (x : List ℕ) → has_id (filter p xs) x ≡ (has_id xs x && p x)
has_passed p [] x = refl
has_passed p (i ∷ xs) x = go (p i) refl (bytes_eq x i) refl (has_passed p xs x)
  where
    other : (a b : Bool) → a ≡ b → (false || a) ≡ b
    other a b h = h

    go : (b : Bool) → p i ≡ b → (c : Bool) → bytes_eq x i ≡ c → has_id (filter p xs) x ≡ (has_id xs x && p x) → has_id (cond b (i ∷ filter p xs) (filter p xs)) x ≡ ((c || has_id xs x) && p x)
    go true on true same rest = ap (λ c. c || has_id (filter p xs) x) same ∙ sym (ap p ((bytes_eq-Decides x i).0 same) ∙ on)
    go true on false apart rest = ap (λ c. c || has_id (filter p xs) x) apart ∙ rest
    go false off true same rest = let fails : p x ≡ false = ap p ((bytes_eq-Decides x i).0 same) ∙ off in rest ∙ ap (λ c. has_id xs x && c) fails ∙ none (has_id xs x) ∙ sym fails
      where
        none : (a : Bool) → (a && false) ≡ false
        none true = refl
        none false = refl
    go false off false apart rest = rest

or_first : (a b : Bool) → a ≡ true → (a || b) ≡ true
or_first true b h = refl
or_first false b h = absurd (cc)

or_right : (a b : Bool) → b ≡ true → (a || b) ≡ true
or_right true b h = refl
or_right false b h = h

-- all of them pass a test that each of them passes
pub all_pass : (p : List ℕ → Bool) (xs ys : List (List ℕ)) → ((x : List ℕ) → has_id ys x ≡ true → has_id xs x ≡ true) → ((x : List ℕ) → has_id xs x ≡ true → p x ≡ true) → list_all p ys ≡ true
all_pass p xs [] sub h = refl
all_pass p xs (y ∷ ys) sub h = ap₂ (λ a b. a && b) (h y (sub y (or_first (bytes_eq y y) (has_id ys y) ((bytes_eq-Decides y y).1 refl)))) (all_pass p xs ys (λ x k. sub x (or_right (bytes_eq x y) (has_id ys x) k)) h)
