-- Where the machine stops: the bytes up to there, and why it goes no further.
use Rattle.std.proofs.Common.{◌≡◌, ℕ, ◌+◌, List, [], ◌∷◌, ◌++◌, length, refl, ap, ◌∙◌}
use Rattle.std.specs.Prelude.{Bool, true, false}
use Rattle.std.specs.Prelude.{Result, Ok, Err}
use native.Mathlib.Omega.{arith}
use Rattle.json_nodes.specs.declared.node.Node.{Node}
use Rattle.json_text.specs.declared.kind.Kind.TheVariants as kind
use Rattle.json_token.specs.NumberMoves.{number_may_end}
use Rattle.json_span.specs.declared.state.Mode.{Mode}
use Rattle.json_span.specs.declared.state.Mode.TheVariants as mode
use Rattle.json_span.specs.declared.state.Open.{Open}
use Rattle.json_span.specs.Machine as machine
use Rattle.json_span.specs.Machine.{State, Fault, syntax, deep, step, finish, finish_in, read, ◌andthen◌}
use Rattle.json_span.proofs.Shape.{Point, Next, goes, stops, too_deep, next, NoneOpen, MayEnd, Passes}
use Rattle.json_span.proofs.ShapeOf.{point_of, kinds, Matches, step_matches}

pub data Stuck (d at : ℕ) (bs : List ℕ) (p : Point) (ks : List Bool) (f : Fault) : Type 0 where
  at_byte : (front rest : List ℕ) (b : ℕ) (q : Point) (os : List Bool) → bs ≡ front ++ b ∷ rest → Passes d front p ks q os → next d b q os ≡ stops → f ≡ syntax (at + length front) → Stuck d at bs p ks f
  at_bracket : (front rest : List ℕ) (b : ℕ) (q : Point) (os : List Bool) → bs ≡ front ++ b ∷ rest → Passes d front p ks q os → next d b q os ≡ too_deep → f ≡ deep (at + length front) → Stuck d at bs p ks f
  at_end : (q : Point) (os : List Bool) → Passes d bs p ks q os → (MayEnd q os → ⊥) → f ≡ syntax (at + length bs) → Stuck d at bs p ks f

-- one byte more before it
longer : (d at b : ℕ) (bs : List ℕ) (p : Point) (ks : List Bool) (q : Point) (os : List Bool) (f : Fault) → next d b p ks ≡ goes q os → Stuck d (at + 1) bs q os f → Stuck d at (b ∷ bs) p ks f
longer d at b bs p ks q os f e (at_byte front rest c r ls whole ran why place) = at_byte (b ∷ front) rest c r ls (ap (λ xs. b ∷ xs) whole) (rw e ran) why (place ∙ ap syntax (omega arith))
longer d at b bs p ks q os f e (at_bracket front rest c r ls whole ran why place) = at_bracket (b ∷ front) rest c r ls (ap (λ xs. b ∷ xs) whole) (rw e ran) why (place ∙ ap deep (omega arith))
longer d at b bs p ks q os f e (at_end r ls ran why place) = at_end r ls (rw e ran) why (place ∙ ap syntax (omega arith))

on_step : (d at b : ℕ) (bs : List ℕ) (p : Point) (ks : List Bool) (f : Fault) (g : Result State Fault) (n : Next) → Matches at g n → next d b p ks ≡ n
    → ((t : State) → read d (at + 1) bs t ≡ Err f → Stuck d (at + 1) bs (point_of t.mode) (kinds t.stack) f)
    → (g andthen (λ t. read d (at + 1) bs t)) ≡ Err f → Stuck d at (b ∷ bs) p ks f
on_step d at b bs p ks f (Ok t) (goes q os) m e rec h = longer d at b bs p ks q os f e (rw (← m.0, ← m.1) (rec t h))
on_step d at b bs p ks f (Ok t) stops m e rec h = absurd m
on_step d at b bs p ks f (Ok t) too_deep m e rec h = absurd m
on_step d at b bs p ks f (Err (syntax x)) (goes q os) m e rec h = absurd m
on_step d at b bs p ks f (Err (syntax x)) stops m e rec h =
    let same : f ≡ syntax x = cc in
    at_byte [] bs b p ks refl (refl, refl) e (same ∙ ap syntax (omega arith))
on_step d at b bs p ks f (Err (syntax x)) too_deep m e rec h = absurd m
on_step d at b bs p ks f (Err (deep x)) (goes q os) m e rec h = absurd m
on_step d at b bs p ks f (Err (deep x)) stops m e rec h = absurd m
on_step d at b bs p ks f (Err (deep x)) too_deep m e rec h =
    let same : f ≡ deep x = cc in
    at_bracket [] bs b p ks refl (refl, refl) e (same ∙ ap deep (omega arith))

-- the bytes may not end where `finish` stops
still_open : (os : List Open) (at : ℕ) (ns : List Node) (f : Fault) → machine.ends_with os at ns ≡ Err f → (f ≡ syntax at) × (NoneOpen (kinds os) → ⊥)
still_open [] at ns f h = absurd cc
still_open (o ∷ os) at ns f h = (cc, λ n. n)

in_number : (t : Bool) (at from : ℕ) (s : State) (f : Fault) → machine.number_ends t at from s ≡ Err f → (f ≡ syntax at) × ((t ≡ true) × NoneOpen (kinds s.stack) → ⊥)
in_number true at from s f h =
    let o = still_open s.stack at (machine.leaf kind.Number from at s).nodes f h in
    (o.0, λ n. o.1 n.1)
in_number false at from s f h = (cc, λ n. let e = n.0 in absurd cc)

mode_open : (at : ℕ) (m : Mode) (s : State) (f : Fault) → finish_in at m s ≡ Err f → (f ≡ syntax at) × (MayEnd (point_of m) (kinds s.stack) → ⊥)
mode_open at mode.After s f h = still_open s.stack at s.nodes f h
mode_open at (mode.InNumber from p) s f h = in_number (number_may_end p) at from s f h
mode_open at _ s f h = (cc, λ n. n)

pub stuck : (d at : ℕ) (bs : List ℕ) (s : State) (f : Fault) → read d at bs s ≡ Err f → Stuck d at bs (point_of s.mode) (kinds s.stack) f
unfolding read finish
stuck d at [] s f h =
    let o = mode_open at s.mode s f h in
    at_end (point_of s.mode) (kinds s.stack) (refl, refl) o.1 (o.0 ∙ ap syntax (omega arith))
stuck d at (b ∷ bs) s f h = on_step d at b bs (point_of s.mode) (kinds s.stack) f (step d at b s) (next d b (point_of s.mode) (kinds s.stack)) (step_matches d at b s) refl (λ t g. stuck d (at + 1) bs t f g) h
