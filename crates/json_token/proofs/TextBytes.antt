-- What each byte does to a string, both ways.
use Rattle.std.proofs.Common.{◌≡◌, refl, ap, ℕ, ◌<◌, ◌≤◌, ◌⊎◌, arith}
use Rattle.std.specs.Prelude.{IsTrue, true}
use Rattle.std.proofs.lemmas.Bool.Decides.{nat_tests}
use Rattle.json_text.specs.String.{is_plain, is_hex, is_short}
use Rattle.json_token.specs.declared.string.Part.{Part}
use Rattle.json_token.specs.declared.string.Part.TheVariants.{Plain, Escape, Hex4, Hex3, Hex2, Hex1, Tail1, Tail2, Tail3, AfterE0, AfterEd, AfterF0, AfterF4}
use Rattle.json_token.specs.declared.string.Move.TheVariants.{Goes, Ends}
use Rattle.json_token.specs.Runs.{is_plain_ascii}
use Rattle.json_token.specs.StringMoves.{lead_move, plain_move, escape_move, digit_move, tail_move}

pub quote_ends : plain_move 34 ≡ Ends
unfolding plain_move
quote_ends = refl

pub slash_goes : plain_move 92 ≡ Goes Escape
unfolding plain_move
slash_goes = refl

pub plain_goes : (b : ℕ) → b < 128 → IsTrue (is_plain b) → plain_move b ≡ Goes Plain
unfolding plain_move
plain_goes b h k = grind (arith, nat_tests)

pub passed_goes : (b : ℕ) → is_plain_ascii b ≡ true → plain_move b ≡ Goes Plain
unfolding plain_move
passed_goes b h = grind (arith, nat_tests)

pub two_goes : (b : ℕ) → 194 ≤ b → b < 224 → plain_move b ≡ Goes Tail1
unfolding plain_move lead_move
two_goes b h k = grind (arith, nat_tests)

pub e0_goes : (b : ℕ) → b ≡ 224 → plain_move b ≡ Goes AfterE0
unfolding plain_move lead_move
e0_goes b h = ap plain_move h

pub ed_goes : (b : ℕ) → b ≡ 237 → plain_move b ≡ Goes AfterEd
unfolding plain_move lead_move
ed_goes b h = ap plain_move h

pub three_goes : (b : ℕ) → (225 ≤ b) × (b < 237) ⊎ (238 ≤ b) × (b < 240) → plain_move b ≡ Goes Tail2
unfolding plain_move lead_move
three_goes b h = grind (arith, nat_tests)

pub f0_goes : (b : ℕ) → b ≡ 240 → plain_move b ≡ Goes AfterF0
unfolding plain_move lead_move
f0_goes b h = ap plain_move h

pub four_goes : (b : ℕ) → 241 ≤ b → b < 244 → plain_move b ≡ Goes Tail3
unfolding plain_move lead_move
four_goes b h k = grind (arith, nat_tests)

pub f4_goes : (b : ℕ) → b ≡ 244 → plain_move b ≡ Goes AfterF4
unfolding plain_move lead_move
f4_goes b h = ap plain_move h

pub tail_goes : (b low high : ℕ) (next : Part) → low ≤ b → b ≤ high → tail_move b low high next ≡ Goes next
tail_goes b low high next h k = grind (arith, nat_tests)

pub digit_goes : (b : ℕ) (next : Part) → IsTrue (is_hex b) → digit_move b next ≡ Goes next
digit_goes b next h = grind (arith, nat_tests)

pub unit_goes : escape_move 117 ≡ Goes Hex4
unit_goes = refl

pub short_goes : (b : ℕ) → IsTrue (is_short b) → escape_move b ≡ Goes Plain
short_goes b h = grind (arith, nat_tests)

-- back

pub ends_is : (b : ℕ) → plain_move b ≡ Ends → b ≡ 34
unfolding plain_move lead_move
ends_is b h = grind (arith, nat_tests)

pub slash_is : (b : ℕ) → plain_move b ≡ Goes Escape → b ≡ 92
unfolding plain_move lead_move
slash_is b h = grind (arith, nat_tests)

pub plain_is : (b : ℕ) → plain_move b ≡ Goes Plain → IsTrue (is_plain b)
unfolding plain_move lead_move
plain_is b h = grind (arith, nat_tests)

pub plain_below : (b : ℕ) → plain_move b ≡ Goes Plain → b < 128
unfolding plain_move lead_move
plain_below b h = grind (arith, nat_tests)

pub two_from : (b : ℕ) → plain_move b ≡ Goes Tail1 → 194 ≤ b
unfolding plain_move lead_move
two_from b h = grind (arith, nat_tests)

pub two_below : (b : ℕ) → plain_move b ≡ Goes Tail1 → b < 224
unfolding plain_move lead_move
two_below b h = grind (arith, nat_tests)

pub three_is : (b : ℕ) → plain_move b ≡ Goes Tail2 → (225 ≤ b) × (b < 237) ⊎ (238 ≤ b) × (b < 240)
unfolding plain_move lead_move
three_is b h = grind (arith, nat_tests)

pub e0_is : (b : ℕ) → plain_move b ≡ Goes AfterE0 → b ≡ 224
unfolding plain_move lead_move
e0_is b h = grind (arith, nat_tests)

pub ed_is : (b : ℕ) → plain_move b ≡ Goes AfterEd → b ≡ 237
unfolding plain_move lead_move
ed_is b h = grind (arith, nat_tests)

pub f0_is : (b : ℕ) → plain_move b ≡ Goes AfterF0 → b ≡ 240
unfolding plain_move lead_move
f0_is b h = grind (arith, nat_tests)

pub f4_is : (b : ℕ) → plain_move b ≡ Goes AfterF4 → b ≡ 244
unfolding plain_move lead_move
f4_is b h = grind (arith, nat_tests)

pub four_from : (b : ℕ) → plain_move b ≡ Goes Tail3 → 241 ≤ b
unfolding plain_move lead_move
four_from b h = grind (arith, nat_tests)

pub four_below : (b : ℕ) → plain_move b ≡ Goes Tail3 → b < 244
unfolding plain_move lead_move
four_below b h = grind (arith, nat_tests)

pub no_hex4 : (b : ℕ) → plain_move b ≡ Goes Hex4 → ⊥
unfolding plain_move lead_move
no_hex4 b h = grind (arith, nat_tests)

pub no_hex3 : (b : ℕ) → plain_move b ≡ Goes Hex3 → ⊥
unfolding plain_move lead_move
no_hex3 b h = grind (arith, nat_tests)

pub no_hex2 : (b : ℕ) → plain_move b ≡ Goes Hex2 → ⊥
unfolding plain_move lead_move
no_hex2 b h = grind (arith, nat_tests)

pub no_hex1 : (b : ℕ) → plain_move b ≡ Goes Hex1 → ⊥
unfolding plain_move lead_move
no_hex1 b h = grind (arith, nat_tests)
