-- Single steps of the machine, and whitespace.
use Rattle.std.proofs.Common.{◌≡◌, refl, ap, ◌∙◌, ℕ, ◌+◌, ◌≤◌, Bool, true, false, List, [], ◌∷◌, ◌++◌, length, arith}
use Rattle.std.specs.Prelude.{IsTrue, Some, Ok}
use Rattle.std.specs.List.{AllByRecursion}
use Rattle.std.proofs.lemmas.Bool.Decides.{nat_tests}
use Rattle.json_text.specs.Json.{is_space}
use Rattle.json_nodes.specs.declared.node.Node.{Node}
use Rattle.json_nodes.specs.declared.node.Place.{Place}
use Rattle.json_token.specs.declared.number.NumberPart.{NumberPart}
use Rattle.json_token.specs.declared.number.NumberByte.{NumberByte}
use Rattle.json_token.specs.declared.number.NumberByte.TheVariants as byte
use Rattle.json_token.specs.NumberMoves.{number_byte, begin_with, number_begin}
use Rattle.json_token.proofs.NumberBytes.{zero_is, one_is, minus_is}
use Rattle.json_span.specs.declared.word.Begun.TheVariants.{N, F, T}
use Rattle.json_span.specs.declared.class.Class.{Class}
use Rattle.json_span.specs.declared.class.Class.TheVariants as class
use Rattle.json_span.specs.declared.state.Mode.{Mode}
use Rattle.json_span.specs.declared.state.Mode.TheVariants as mode
use Rattle.json_span.specs.declared.state.Open.{Open}
use Rattle.json_span.specs.Classes.{class_of, class_of_number}
use Rattle.json_span.specs.Machine.{State, state, step, read, ◌andthen◌, begins, first_item, next_key, first_key, colon, behind}

pub one : (d at b : ℕ) (bs : List ℕ) (s t : State) → step d at b s ≡ Ok t → read d at (b ∷ bs) s ≡ read d (at + 1) bs t
unfolding read
one d at b bs s t e = ap (λ r. r andthen (λ u. read d (at + 1) bs u)) e

-- the classes of bytes

pub space_class : (b : ℕ) → IsTrue (is_space b) → class_of b ≡ class.Space
unfolding class_of
space_class b h = rw h refl

pub quote_class : class_of 34 ≡ class.Quote
unfolding class_of
quote_class = refl

pub colon_class : class_of 58 ≡ class.Colon
unfolding class_of
colon_class = refl

pub comma_class : class_of 44 ≡ class.Comma
unfolding class_of
comma_class = refl

pub open_array_class : class_of 91 ≡ class.OpenArray
unfolding class_of
open_array_class = refl

pub close_array_class : class_of 93 ≡ class.CloseArray
unfolding class_of
close_array_class = refl

pub open_object_class : class_of 123 ≡ class.OpenObject
unfolding class_of
open_object_class = refl

pub close_object_class : class_of 125 ≡ class.CloseObject
unfolding class_of
close_object_class = refl

pub null_class : class_of 110 ≡ class.Begins N
unfolding class_of
null_class = refl

pub false_class : class_of 102 ≡ class.Begins F
unfolding class_of
false_class = refl

pub true_class : class_of 116 ≡ class.Begins T
unfolding class_of
true_class = refl

minus_class : class_of 45 ≡ class_of_number (number_begin 45)
unfolding class_of
minus_class = refl

digit_class : (b : ℕ) → 48 ≤ b → b ≤ 57 → class_of b ≡ class_of_number (number_begin b)
unfolding class_of
digit_class b low high = grind (arith, nat_tests)

-- a byte that begins a number is of no other class
begun_class : (b : ℕ) (p : NumberPart) → begin_with (number_byte b) ≡ Some p → class_of b ≡ class_of_number (number_begin b)
begun_class b p h = go (number_byte b) refl h
  where
    go : (k : NumberByte) → number_byte b ≡ k → begin_with k ≡ Some p → class_of b ≡ class_of_number (number_begin b)
    go byte.Zero e h = digit_class b (omega (arith, zero_is b e)) (omega (arith, zero_is b e))
    go byte.OneToNine e h = let d = one_is b e in digit_class b (grind (arith, nat_tests)) (grind (arith, nat_tests))
    go byte.Minus e h = rw (minus_is b e) minus_class
    go k e h = absurd cc

pub number_class : (b : ℕ) (p : NumberPart) → number_begin b ≡ Some p → class_of b ≡ class.Number p
number_class b p h = begun_class b p h ∙ ap class_of_number h

-- whitespace

abbrev pub rests : Mode → Bool
rests mode.Value = true
rests mode.FirstItem = true
rests mode.FirstKey = true
rests mode.NextKey = true
rests mode.Colon = true
rests mode.After = true
rests _ = false

pub space_step : (d at b : ℕ) (m : Mode) (name : Place) (os : List Open) (ns : List Node) → rests m ≡ true → class_of b ≡ class.Space → step d at b (state m name os ns) ≡ Ok (state m name os ns)
unfolding step
space_step d at b mode.Value name os ns r e = ap (λ k. begins d at k (state mode.Value name os ns)) e
space_step d at b mode.FirstItem name os ns r e = ap (λ k. first_item d at k (state mode.FirstItem name os ns)) e
space_step d at b mode.FirstKey name os ns r e = ap (λ k. first_key at k (state mode.FirstKey name os ns)) e
space_step d at b mode.NextKey name os ns r e = ap (λ k. next_key at k (state mode.NextKey name os ns)) e
space_step d at b mode.Colon name os ns r e = ap (λ k. colon at k (state mode.Colon name os ns)) e
space_step d at b mode.After name os ns r e = ap (λ k. behind at k (state mode.After name os ns)) e
space_step d at b _ name os ns r e = absurd cc

pub space_passes : (d at n : ℕ) (a rest : List ℕ) (m : Mode) (name : Place) (os : List Open) (ns : List Node) → rests m ≡ true → AllByRecursion (λ b. IsTrue (is_space b)) a → n ≡ at + length a →
    read d at (a ++ rest) (state m name os ns) ≡ read d n rest (state m name os ns)
space_passes d at n [] rest m name os ns r h e = let same : at ≡ n = omega arith in ap (λ p. read d p rest (state m name os ns)) same
space_passes d at n (b ∷ a) rest m name os ns r h e =
    one d at b (a ++ rest) (state m name os ns) (state m name os ns) (space_step d at b m name os ns r (space_class b h.0)) ∙
    space_passes d (at + 1) n a rest m name os ns r h.1 (omega arith)

-- where a value may begin

abbrev pub starts : Mode → Bool
starts mode.Value = true
starts mode.FirstItem = true
starts _ = false

-- a byte of this class begins a value
abbrev pub opens_value : Class → Bool
opens_value class.Quote = true
opens_value class.OpenArray = true
opens_value class.OpenObject = true
opens_value (class.Begins w) = true
opens_value (class.Number p) = true
opens_value _ = false

first_item_begins : (d at : ℕ) (k : Class) (s : State) → opens_value k ≡ true → first_item d at k s ≡ begins d at k s
first_item_begins d at class.CloseArray s v = absurd cc
first_item_begins d at _ s v = refl

begins_anyhow : (d at : ℕ) (k : Class) (name : Place) (os : List Open) (ns : List Node) → opens_value k ≡ true → begins d at k (state mode.FirstItem name os ns) ≡ begins d at k (state mode.Value name os ns)
begins_anyhow d at class.Space name os ns v = absurd cc
begins_anyhow d at _ name os ns v = refl

pub start_step : (d at b : ℕ) (k : Class) (m : Mode) (name : Place) (os : List Open) (ns : List Node) → starts m ≡ true → opens_value k ≡ true → class_of b ≡ k → step d at b (state m name os ns) ≡ begins d at k (state mode.Value name os ns)
unfolding step
start_step d at b k mode.Value name os ns r v e = ap (λ k. begins d at k (state mode.Value name os ns)) e
start_step d at b k mode.FirstItem name os ns r v e = ap (λ k. first_item d at k (state mode.FirstItem name os ns)) e ∙ (first_item_begins d at k (state mode.FirstItem name os ns) v ∙ begins_anyhow d at k name os ns v)
start_step d at b k _ name os ns r v e = absurd cc

pub starts_rest : (m : Mode) → starts m ≡ true → rests m ≡ true
starts_rest mode.Value h = refl
starts_rest mode.FirstItem h = refl
starts_rest _ h = absurd cc
