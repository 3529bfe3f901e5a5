-- A row that needs an editor's next number, by whether one is left.
use Rattle.std.proofs.Common.{◌≡◌, ℕ, Bool, true, false, List, refl, ap, subst, if◌then◌else◌}
use Rattle.std.specs.Prelude.{Option, Some, None}
use Rattle.mux_history.specs.declared.out.Out.{Out}
use Rattle.event_model.specs.Does.{Does}
use Rattle.event_model.specs.Event.{Event, behind}
use Rattle.event_model.specs.Row.{Row, choose, look, nothing}
use Rattle.event_model.proofs.Turns.{does_false, does_knowing, does_look, does_nothing, does_true}
use Rattle.group_laws.specs.group_rows.specs.Asks.{has_number, next_ask}

no_number : (b : Bool) (m : ℕ) → ◌≡◌ {A = Option ℕ} None (if b then Some m else None) → b ≡ false
no_number false m e = refl
no_number true m e = absurd (cc)

one_number : (b : Bool) (n m : ℕ) → ◌≡◌ {A = Option ℕ} (Some n) (if b then Some m else None) → (b ≡ true) × (n ≡ m)
one_number true n m e = (refl, cc)
one_number false n m e = absurd (cc)

module _ {K : Type 0} (Stands : K → List Event → Type 0) (row : ℕ → Row) (e : ℕ) (base : List Event) (xs : List Out) (t : K) where
  abbrev now : List Event
  now = behind base xs

  abbrev pub numbered : Row
  numbered = look (λ events. choose (has_number e events) (row (next_ask e events)) nothing)

  abbrev Looks : Option ℕ → Type 0
  Looks o = Stands t now → o ≡ (if has_number e now then Some (next_ask e now) else None)

  pub none_numbered : Looks None → Does Stands numbered base t xs t xs
  none_numbered seen = does_knowing {Stands = Stands} (λ st.
      let off = no_number (has_number e now) (next_ask e now) (seen st) in
      does_look {Stands = Stands} {f = λ events. choose (has_number e events) (row (next_ask e events)) nothing} (λ _. ap (λ b. choose b (row (next_ask e now)) nothing) off)
      (does_false {Stands = Stands} (does_nothing {Stands = Stands})))

  pub one_numbered : (n : ℕ) → Looks (Some n) → (u : K) (ys : List Out) → (has_number e now ≡ true → n ≡ next_ask e now → Does Stands (row n) base t xs u ys) → Does Stands numbered base t xs u ys
  one_numbered n seen u ys go = does_knowing {Stands = Stands} (λ st.
      let k = one_number (has_number e now) n (next_ask e now) (seen st) in
      does_look {Stands = Stands} {f = λ events. choose (has_number e events) (row (next_ask e events)) nothing} (λ _. ap (λ b. choose b (row (next_ask e now)) nothing) k.0)
      (does_true {Stands = Stands} (subst (λ m. Does Stands (row m) base t xs u ys) k.1 (go k.0 k.1))))
