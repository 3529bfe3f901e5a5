-- RFC 8259, section 6: number = [ minus ] int [ frac ] [ exp ].
use Rattle.std.specs.Prelude.{◌≡◌, ℕ, Bool, ◌&&◌, List, [], ◌∷◌, ◌++◌, ◌⊎◌, IsTrue, nat_le}

abbrev pub is_digit : ℕ → Bool
is_digit b = nat_le 48 b && nat_le b 57

abbrev pub Digits : List ℕ → Type 0
Digits [] = Unit {0}
Digits (b ∷ bs) = IsTrue (is_digit b) × Digits bs

-- one digit or more
abbrev pub SomeDigits : List ℕ → Type 0
SomeDigits [] = ⊥
SomeDigits (b ∷ bs) = IsTrue (is_digit b) × Digits bs

-- minus = "-"
abbrev pub IsMinus : List ℕ → Type 0
IsMinus bs = (bs ≡ []) ⊎ (bs ≡ 45 ∷ [])

-- int = "0" / ( "1" to "9" *DIGIT )
abbrev pub IsWhole : List ℕ → Type 0
IsWhole bs = (bs ≡ 48 ∷ []) ⊎ ((d : ℕ) × (ds : List ℕ) × IsTrue (nat_le 49 d && nat_le d 57) × Digits ds × (bs ≡ d ∷ ds))

-- frac = "." 1*DIGIT
abbrev pub IsFraction : List ℕ → Type 0
IsFraction bs = (bs ≡ []) ⊎ ((ds : List ℕ) × SomeDigits ds × (bs ≡ 46 ∷ ds))

-- exp = ( "e" / "E" ) [ "-" / "+" ] 1*DIGIT
abbrev pub IsExponent : List ℕ → Type 0
IsExponent bs = (bs ≡ []) ⊎ ((e : ℕ) × (sign ds : List ℕ) × ((e ≡ 101) ⊎ (e ≡ 69)) × ((sign ≡ []) ⊎ ((sign ≡ 43 ∷ []) ⊎ (sign ≡ 45 ∷ []))) × SomeDigits ds × (bs ≡ e ∷ (sign ++ ds)))

abbrev pub IsNumber : List ℕ → Type 0
IsNumber bs = (minus whole fraction exponent : List ℕ) × IsMinus minus × IsWhole whole × IsFraction fraction × IsExponent exponent
    × (bs ≡ minus ++ (whole ++ (fraction ++ exponent)))
