-- A word is a fold over events: what it is behind one event more, and behind the outs of an entry.
use Rattle.std.proofs.Common.{◌≡◌, true, false, List, [], ◌∷◌, ◌++◌, map, fold, refl, ap, ◌∙◌}
use Rattle.std.proofs.lemmas.List.Sums.{fold-append}
use Rattle.mux_history.specs.declared.out.Out.{Out}
use Rattle.event_model.specs.Event.{Event, said, behind}

-- one event more
pub one_more : {A : Type 0} (f : A → Event → A) (z x : A) (events : List Event) (ev : Event) → fold f z events ≡ x → fold f z (events ++ ev ∷ []) ≡ f x ev
one_more f z x events ev e = fold-append f z events (ev ∷ []) ∙ ap (λ y. f y ev) e

-- the outs of an entry more
pub outs_more : {A : Type 0} (f : A → Event → A) (z x : A) (events : List Event) (xs : List Out) → fold f z events ≡ x → fold f z (behind events xs) ≡ fold f x (map said xs)
outs_more f z x events xs e = fold-append f z events (map said xs) ∙ ap (λ y. fold f y (map said xs)) e

-- what each of these outs leaves, all of them leave
pub outs_still : {A : Type 0} (f : A → Event → A) (x : A) → (xs : List Out) → ((out : Out) → f x (said out) ≡ x) → fold f x (map said xs) ≡ x
outs_still f x [] still = refl
outs_still f x (out ∷ xs) still = ap (λ y. fold f y (map said xs)) (still out) ∙ outs_still f x xs still

-- a test that is both true and false
pub never : {A : Type 0} → true ≡ false → A
never h = absurd (clash h)
  where
    clash : true ≡ false → ⊥
    clash h = cc
