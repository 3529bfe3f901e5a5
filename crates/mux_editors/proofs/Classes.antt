-- A method of class Other is none of those that the daemon answers itself.
use Rattle.std.proofs.Common.{◌≡◌, ℕ, List, Bool, true, false, ◌||◌, refl, sym, subst, ◌∙◌, ap, arith}
use Rattle.std.specs.Prelude.{codes, bytes_eq}
use Rattle.json_text.proofs.Put.{same_name}
use Rattle.std.proofs.lemmas.Slice.Eq.{bytes_eq-Decides}
use Rattle.lsp_method.specs.Class.{class_of, own_request, editor_request}
use Rattle.lsp_method.specs.declared.variants.Class.{Class}
use Rattle.lsp_method.specs.declared.variants.Class.TheVariants as class
use Rattle.lsp_method.specs.declared.variants.Origin.TheVariants.{Editor}
use Rattle.mux_model.specs.Built.{is_other}
use Rattle.mux_model.specs.Methods.{is_shutdown, is_wrong}
use Rattle.event_model.specs.Requests.{is_own}
use Rattle.group_rows.specs.Waiting.{is_misplaced}

pub record NotOwn (m : List ℕ) : Type 0 where
  pub initialize : bytes_eq m (codes "initialize") ≡ false
  pub shutdown : bytes_eq m (codes "shutdown") ≡ false
  pub opens : bytes_eq m (codes "lspmux/open") ≡ false
  pub status : bytes_eq m (codes "lspmux/status") ≡ false
  pub stops : bytes_eq m (codes "lspmux/stop") ≡ false

pub not_own : (m : List ℕ) → is_other (class_of m Editor false) ≡ true → NotOwn m
unfolding editor_request own_request
not_own m h = record {
  initialize = grind arith;
  shutdown = grind arith;
  opens = grind arith;
  status = grind arith;
  stops = grind arith;
}

-- nor is one of class Wrong
pub wrong_not_own : (m : List ℕ) → is_wrong (class_of m Editor false) ≡ true → NotOwn m
unfolding editor_request own_request
wrong_not_own m h = record {
  initialize = grind arith;
  shutdown = grind arith;
  opens = grind arith;
  status = grind arith;
  stops = grind arith;
}

-- a test of equality from the other side
swap_case : (b : Bool) (xs ys : List ℕ) → bytes_eq ys xs ≡ b → bytes_eq xs ys ≡ false → b ≡ false
swap_case false xs ys e h = refl
swap_case true xs ys e h = absurd (clash xs ys ((bytes_eq-Decides ys xs).0 e) h)
  where
    clash : (xs ys : List ℕ) → ys ≡ xs → bytes_eq xs ys ≡ false → ⊥
    clash xs ys e h = let z : bytes_eq xs xs ≡ false = ap (λ l. bytes_eq xs l) (sym e) ∙ h in let y : true ≡ false = sym (same_name xs) ∙ z in cc

pub swapped : (xs ys : List ℕ) → bytes_eq xs ys ≡ false → bytes_eq ys xs ≡ false
swapped xs ys h = swap_case (bytes_eq ys xs) xs ys refl h

-- one of class Shutdown is `shutdown`
module _ (m : List ℕ) (h : is_shutdown (class_of m Editor false) ≡ true) where
  shutdown_name : bytes_eq m (codes "shutdown") ≡ true
  unfolding editor_request own_request
  shutdown_name = grind arith

  pub shutdown_named : bytes_eq (codes "shutdown") m ≡ true
  shutdown_named = subst (λ w. bytes_eq (codes "shutdown") w ≡ true) (sym ((bytes_eq-Decides m (codes "shutdown")).0 shutdown_name)) refl

  first_not : bytes_eq m (codes "initialize") ≡ false
  unfolding editor_request own_request
  first_not = grind arith

  pub shutdown_later : bytes_eq (codes "initialize") m ≡ false
  shutdown_later = swapped m (codes "initialize") first_not

-- such a request makes an answered editor run, and is no shutdown
pub record Serves (method : List ℕ) : Type 0 where
  pub stays : bytes_eq (codes "shutdown") method ≡ false
  pub opens : bytes_eq (codes "lspmux/open") method ≡ false
  pub status : bytes_eq (codes "lspmux/status") method ≡ false
  pub stops : bytes_eq (codes "lspmux/stop") method ≡ false

pub serves : (method : List ℕ) → NotOwn method → Serves method
serves method n = record {
  stays = swapped method (codes "shutdown") n.shutdown;
  opens = swapped method (codes "lspmux/open") n.opens;
  status = swapped method (codes "lspmux/status") n.status;
  stops = swapped method (codes "lspmux/stop") n.stops;
}

-- and isn't the daemon's own
pub passes : (method : List ℕ) → NotOwn method → is_own method ≡ false
passes method n = let a = n.initialize in let b = n.shutdown in rw (a, b) refl

-- so does a second `initialize`
abbrev pub is_initialize : Class → Bool
is_initialize class.Initialize = true
is_initialize _ = false

module _ (m : List ℕ) (h : is_initialize (class_of m Editor false) ≡ true) where
  first_name : bytes_eq m (codes "initialize") ≡ true
  unfolding editor_request own_request
  first_name = grind arith

  pub first_named : bytes_eq (codes "initialize") m ≡ true
  first_named = subst (λ w. bytes_eq (codes "initialize") w ≡ true) (sym ((bytes_eq-Decides m (codes "initialize")).0 first_name)) refl

pub first_serves : (method : List ℕ) → bytes_eq (codes "initialize") method ≡ true → Serves method
first_serves method h = subst Serves ((bytes_eq-Decides (codes "initialize") method).0 h) (record { stays = refl; opens = refl; status = refl; stops = refl })

-- and one that is refused by its method
pub misplaced_serves : (method : List ℕ) → is_misplaced method ≡ true → Serves method
misplaced_serves method h = go (bytes_eq (codes "initialize") method) refl h
  where
    go : (b : Bool) → bytes_eq (codes "initialize") method ≡ b → (b || is_wrong (class_of method Editor false)) ≡ true → Serves method
    go true first k = first_serves method first
    go false other k = serves method (wrong_not_own method k)
