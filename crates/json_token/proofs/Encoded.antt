-- The bytes of UTF-8, by how many a character takes (RFC 3629, section 3).
use Rattle.std.proofs.Common.{◌≡◌, ap, ◌∙◌, ℕ, ◌+◌, ◌*◌, ◌-◌, ◌/◌, ◌%◌, ◌<◌, ◌≤◌, [], ◌∷◌, ◌⊎◌, arith}
use Rattle.std.specs.Prelude.{IsTrue}
use Rattle.std.proofs.lemmas.Bool.Decides.{nat_tests}
use Rattle.std.specs.Char.{IsScalar}
use lib.Utf8.{encode}
use Rattle.json_text.specs.String.{is_plain}

pub one : (c : ℕ) → c < 128 → encode c ≡ c ∷ []
unfolding encode
one c h = grind (arith, nat_tests)

pub two : (c : ℕ) → 128 ≤ c → c < 2048 → encode c ≡ (192 + c / 64) ∷ (128 + c % 64) ∷ []
unfolding encode
two c h k = grind (arith, nat_tests)

pub three : (c : ℕ) → 2048 ≤ c → c < 65536 → encode c ≡ (224 + c / 4096) ∷ (128 + c / 64 % 64) ∷ (128 + c % 64) ∷ []
unfolding encode
three c h k = grind (arith, nat_tests)

pub four : (c : ℕ) → 65536 ≤ c → encode c ≡ (240 + c / 262144) ∷ (128 + c / 4096 % 64) ∷ (128 + c / 64 % 64) ∷ (128 + c % 64) ∷ []
unfolding encode
four c h = grind (arith, nat_tests)

-- where scalar values lie
pub scalar_low : (c : ℕ) → c < 55296 → IsScalar c
scalar_low c h = grind (arith, nat_tests)

pub scalar_high : (c : ℕ) → 57344 ≤ c → c < 1114112 → IsScalar c
scalar_high c h k = grind (arith, nat_tests)

pub scalar_sides : (c : ℕ) → IsScalar c → (c < 55296) ⊎ ((57344 ≤ c) × (c < 1114112))
scalar_sides c h = grind (arith, nat_tests)

pub plain_past : (c : ℕ) → 128 ≤ c → IsTrue (is_plain c)
plain_past c h = grind (arith, nat_tests)

-- the character that two bytes, three or four spell
abbrev pub of_two : ℕ → ℕ → ℕ
of_two a b = (a - 192) * 64 + (b - 128)

abbrev pub of_three : ℕ → ℕ → ℕ → ℕ
of_three a b c = (a - 224) * 4096 + ((b - 128) * 64 + (c - 128))

abbrev pub of_four : ℕ → ℕ → ℕ → ℕ → ℕ
of_four a b c d = (a - 240) * 262144 + ((b - 128) * 4096 + ((c - 128) * 64 + (d - 128)))

pub from_two : (a b : ℕ) → 194 ≤ a → a < 224 → 128 ≤ b → b ≤ 191 → encode (of_two a b) ≡ a ∷ b ∷ []
from_two a b a_from a_to b_from b_to =
    let first : 192 + of_two a b / 64 ≡ a = omega arith in
    let second : 128 + of_two a b % 64 ≡ b = omega arith in
    two (of_two a b) (omega arith) (omega arith) ∙ (ap (λ x. x ∷ (128 + of_two a b % 64) ∷ []) first ∙ ap (λ x. a ∷ x ∷ []) second)

three_lead : (a b c n : ℕ) → n ≡ of_three a b c → 224 ≤ a → 128 ≤ b → b ≤ 191 → 128 ≤ c → c ≤ 191 → 224 + n / 4096 ≡ a
three_lead a b c n is a_from b_from b_to c_from c_to = omega arith

three_middle : (a b c n : ℕ) → n ≡ of_three a b c → 224 ≤ a → 128 ≤ b → b ≤ 191 → 128 ≤ c → c ≤ 191 → 128 + n / 64 % 64 ≡ b
three_middle a b c n is a_from b_from b_to c_from c_to =
    let upper : n / 64 ≡ (a - 224) * 64 + (b - 128) = omega arith in
    omega arith

three_last : (a b c n : ℕ) → n ≡ of_three a b c → 224 ≤ a → 128 ≤ b → b ≤ 191 → 128 ≤ c → c ≤ 191 → 128 + n % 64 ≡ c
three_last a b c n is a_from b_from b_to c_from c_to = omega arith

pub from_three : (a b c n : ℕ) → n ≡ of_three a b c → 224 ≤ a → a < 240 → 128 ≤ b → b ≤ 191 → 128 ≤ c → c ≤ 191 → 2048 ≤ n → encode n ≡ a ∷ b ∷ c ∷ []
from_three a b c n is a_from a_to b_from b_to c_from c_to large =
    three n large (omega arith) ∙ (ap (λ x. x ∷ (128 + n / 64 % 64) ∷ (128 + n % 64) ∷ []) (three_lead a b c n is a_from b_from b_to c_from c_to)
    ∙ (ap (λ x. a ∷ x ∷ (128 + n % 64) ∷ []) (three_middle a b c n is a_from b_from b_to c_from c_to) ∙ ap (λ x. a ∷ b ∷ x ∷ []) (three_last a b c n is a_from b_from b_to c_from c_to)))

four_lead : (a b c d n : ℕ) → n ≡ of_four a b c d → 240 ≤ a → 128 ≤ b → b ≤ 191 → 128 ≤ c → c ≤ 191 → 128 ≤ d → d ≤ 191 → 240 + n / 262144 ≡ a
four_lead a b c d n is a_from b_from b_to c_from c_to d_from d_to = omega arith

four_second : (a b c d n : ℕ) → n ≡ of_four a b c d → 240 ≤ a → 128 ≤ b → b ≤ 191 → 128 ≤ c → c ≤ 191 → 128 ≤ d → d ≤ 191 → 128 + n / 4096 % 64 ≡ b
four_second a b c d n is a_from b_from b_to c_from c_to d_from d_to =
    let upper : n / 4096 ≡ (a - 240) * 64 + (b - 128) = omega arith in
    omega arith

four_third : (a b c d n : ℕ) → n ≡ of_four a b c d → 240 ≤ a → 128 ≤ b → b ≤ 191 → 128 ≤ c → c ≤ 191 → 128 ≤ d → d ≤ 191 → 128 + n / 64 % 64 ≡ c
four_third a b c d n is a_from b_from b_to c_from c_to d_from d_to =
    let upper : n / 64 ≡ (a - 240) * 4096 + ((b - 128) * 64 + (c - 128)) = omega arith in
    omega arith

four_last : (a b c d n : ℕ) → n ≡ of_four a b c d → 240 ≤ a → 128 ≤ b → b ≤ 191 → 128 ≤ c → c ≤ 191 → 128 ≤ d → d ≤ 191 → 128 + n % 64 ≡ d
four_last a b c d n is a_from b_from b_to c_from c_to d_from d_to = omega arith

pub from_four : (a b c d n : ℕ) → n ≡ of_four a b c d → 240 ≤ a → 128 ≤ b → b ≤ 191 → 128 ≤ c → c ≤ 191 → 128 ≤ d → d ≤ 191 → 65536 ≤ n → encode n ≡ a ∷ b ∷ c ∷ d ∷ []
from_four a b c d n is a_from b_from b_to c_from c_to d_from d_to large =
    four n large ∙ (ap (λ x. x ∷ (128 + n / 4096 % 64) ∷ (128 + n / 64 % 64) ∷ (128 + n % 64) ∷ []) (four_lead a b c d n is a_from b_from b_to c_from c_to d_from d_to)
    ∙ (ap (λ x. a ∷ x ∷ (128 + n / 64 % 64) ∷ (128 + n % 64) ∷ []) (four_second a b c d n is a_from b_from b_to c_from c_to d_from d_to)
    ∙ (ap (λ x. a ∷ b ∷ x ∷ (128 + n % 64) ∷ []) (four_third a b c d n is a_from b_from b_to c_from c_to d_from d_to)
    ∙ ap (λ x. a ∷ b ∷ c ∷ x ∷ []) (four_last a b c d n is a_from b_from b_to c_from c_to d_from d_to))))
