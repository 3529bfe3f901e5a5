-- The bytes of each class.
use Rattle.std.proofs.Common.{◌≡◌, ℕ}
use Rattle.std.specs.Prelude.{IsTrue, ◌⊎◌}
use Rattle.std.specs.Prelude.{Some}
use Rattle.std.proofs.lemmas.Bool.Decides.{nat_tests}
use native.Mathlib.Omega.{arith}
use Rattle.json_text.specs.Json.{is_space}
use Rattle.json_token.specs.declared.number.NumberPart.{NumberPart}
use Rattle.json_token.specs.NumberMoves.{number_begin}
use Rattle.json_span.specs.declared.word.Begun.{Begun}
use Rattle.json_span.specs.declared.word.Begun.TheVariants.{N, F, T}
use Rattle.json_span.specs.declared.class.Class.TheVariants as class
use Rattle.json_span.specs.Classes.{class_of}

pub space_is : (b : ℕ) → class_of b ≡ class.Space → IsTrue (is_space b)
unfolding class_of
space_is b h = grind (arith, nat_tests)

pub quote_is : (b : ℕ) → class_of b ≡ class.Quote → b ≡ 34
unfolding class_of
quote_is b h = grind (arith, nat_tests)

pub colon_is : (b : ℕ) → class_of b ≡ class.Colon → b ≡ 58
unfolding class_of
colon_is b h = grind (arith, nat_tests)

pub comma_is : (b : ℕ) → class_of b ≡ class.Comma → b ≡ 44
unfolding class_of
comma_is b h = grind (arith, nat_tests)

pub open_array_is : (b : ℕ) → class_of b ≡ class.OpenArray → b ≡ 91
unfolding class_of
open_array_is b h = grind (arith, nat_tests)

pub close_array_is : (b : ℕ) → class_of b ≡ class.CloseArray → b ≡ 93
unfolding class_of
close_array_is b h = grind (arith, nat_tests)

pub open_object_is : (b : ℕ) → class_of b ≡ class.OpenObject → b ≡ 123
unfolding class_of
open_object_is b h = grind (arith, nat_tests)

pub close_object_is : (b : ℕ) → class_of b ≡ class.CloseObject → b ≡ 125
unfolding class_of
close_object_is b h = grind (arith, nat_tests)

pub begins_is : (b : ℕ) (w : Begun) → class_of b ≡ class.Begins w → ((b ≡ 110) × (w ≡ N)) ⊎ (((b ≡ 102) × (w ≡ F)) ⊎ ((b ≡ 116) × (w ≡ T)))
unfolding class_of
begins_is b w h = grind (arith, nat_tests)

pub number_is : (b : ℕ) (p : NumberPart) → class_of b ≡ class.Number p → number_begin b ≡ Some p
unfolding class_of
number_is b p h = grind (arith, nat_tests)
