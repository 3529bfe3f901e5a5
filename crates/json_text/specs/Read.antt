-- A reader takes what it knows off the front of the bytes at a place. Names for the parts of the reading of a JSON text.
use Rattle.std.specs.Prelude.{ℕ, zero, suc, ◌+◌, ◌-◌, ◌*◌, Bool, true, false, ◌&&◌, ◌||◌, List, [], ◌∷◌, length, ◌==◌, nat_lt, if◌then◌else◌}
use lib.Utf8.{encode, scalar}
use Rattle.json_text.specs.declared.span.Span.{Span}
use Rattle.json_text.specs.Json.{is_space}
use Rattle.json_text.specs.Number.{is_digit}
use Rattle.json_text.specs.String.{Piece, plain, short, unit, is_plain, is_short, is_hex, characters}

-- nothing that fits, or what was read, the place behind it, and the bytes from there on
pub data Left (A : Type 0) : Type 0 where
  fails : Left A
  reads : A → ℕ → List ℕ → Left A

abbrev pub Reader : Type 0 → Type 0
Reader A = ℕ → List ℕ → Left A

infixl 10 ◌>>=◌
abbrev pub ◌>>=◌ : {A B : Type 0} → Left A → (A → Reader B) → Left B
fails >>= f = fails
(reads x to rest) >>= f = f x to rest

abbrev pub gives : {A : Type 0} → A → Reader A
gives x at bs = reads x at bs

-- with the span of what was read
abbrev pub spanned : {A B : Type 0} → (Span → A → B) → Reader A → Reader B
spanned f r at bs = r at bs >>= λ x to rest. reads (f (record { from = at; to = to }) x) to rest

unfoldable pub skip : Reader (Unit {0})
skip at [] = reads tt at []
skip at (b ∷ bs) = if is_space b then skip (at + 1) bs else reads tt at (b ∷ bs)

abbrev pub expect : ℕ → Reader (Unit {0})
expect c at [] = fails
expect c at (b ∷ bs) = if b == c then reads tt (at + 1) bs else fails

unfoldable pub expect_all : List ℕ → Reader (Unit {0})
expect_all [] at bs = reads tt at bs
expect_all (c ∷ cs) at [] = fails
expect_all (c ∷ cs) at (b ∷ bs) = if b == c then expect_all cs (at + 1) bs else fails

-- a number is the longest front of these bytes, where it is one
abbrev pub is_number_byte : ℕ → Bool
is_number_byte b = is_digit b || ((b == 43) || ((b == 45) || ((b == 46) || ((b == 69) || (b == 101)))))

-- the tests below are of bytes to their end, by the parts of RFC 8259, section 6
unfoldable pub all_digits : List ℕ → Bool
all_digits [] = true
all_digits (b ∷ bs) = is_digit b && all_digits bs

abbrev pub some_digits : List ℕ → Bool
some_digits [] = false
some_digits (b ∷ bs) = is_digit b && all_digits bs

abbrev pub signed_digits : List ℕ → Bool
signed_digits [] = false
signed_digits (b ∷ bs) = if (b == 43) || (b == 45) then some_digits bs else some_digits (b ∷ bs)

abbrev pub is_exponent : List ℕ → Bool
is_exponent [] = true
is_exponent (b ∷ bs) = ((b == 101) || (b == 69)) && signed_digits bs

unfoldable pub decimals : List ℕ → Bool
decimals [] = true
decimals (b ∷ bs) = if is_digit b then decimals bs else is_exponent (b ∷ bs)

abbrev pub some_decimals : List ℕ → Bool
some_decimals [] = false
some_decimals (b ∷ bs) = is_digit b && decimals bs

abbrev pub is_fraction : List ℕ → Bool
is_fraction [] = true
is_fraction (b ∷ bs) = if b == 46 then some_decimals bs else is_exponent (b ∷ bs)

unfoldable pub whole_digits : List ℕ → Bool
whole_digits [] = true
whole_digits (b ∷ bs) = if is_digit b then whole_digits bs else is_fraction (b ∷ bs)

abbrev pub is_whole : List ℕ → Bool
is_whole [] = false
is_whole (b ∷ bs) = if b == 48 then is_fraction bs else is_digit b && whole_digits bs

abbrev pub is_number : List ℕ → Bool
is_number [] = false
is_number (b ∷ bs) = if b == 45 then is_whole bs else is_whole (b ∷ bs)

unfoldable pub number_bytes : Reader (List ℕ)
number_bytes at [] = reads [] at []
number_bytes at (b ∷ bs) = if is_number_byte b then (number_bytes (at + 1) bs >>= λ ds. gives (b ∷ ds)) else reads [] at (b ∷ bs)

abbrev pub number_if : Bool → List ℕ → Reader (List ℕ)
number_if true ds at bs = reads ds at bs
number_if false ds at bs = fails

abbrev pub read_number : Reader (List ℕ)
read_number at bs = number_bytes at bs >>= λ ds. number_if (is_number ds) ds

-- the code that the bytes in front have if they are UTF-8 (RFC 3629, section 3); kept where its UTF-8 is those bytes
abbrev pub code_two : ℕ → List ℕ → ℕ
code_two a [] = 0
code_two a (b ∷ bs) = (a - 192) * 64 + (b - 128)

abbrev pub code_three : ℕ → List ℕ → ℕ
code_three a [] = 0
code_three a (b ∷ []) = 0
code_three a (b ∷ c ∷ bs) = ((a - 224) * 64 + (b - 128)) * 64 + (c - 128)

abbrev pub code_four : ℕ → List ℕ → ℕ
code_four a [] = 0
code_four a (b ∷ []) = 0
code_four a (b ∷ c ∷ []) = 0
code_four a (b ∷ c ∷ d ∷ bs) = (((a - 240) * 64 + (b - 128)) * 64 + (c - 128)) * 64 + (d - 128)

abbrev pub code_in_front : ℕ → List ℕ → ℕ
code_in_front a bs = if nat_lt a 128 then a else if nat_lt a 224 then code_two a bs else if nat_lt a 240 then code_three a bs else code_four a bs

abbrev pub plain_if : Bool → ℕ → Reader Piece
plain_if true c at bs = expect_all (encode c) at bs >>= λ done. gives (plain c)
plain_if false c at bs = fails

abbrev pub read_plain : ℕ → Reader Piece
read_plain c = plain_if (scalar c && is_plain c) c

abbrev pub unit_if : Bool → ℕ → ℕ → ℕ → ℕ → Reader Piece
unit_if true a b c d at bs = reads (unit a b c d) at bs
unit_if false a b c d at bs = fails

abbrev pub read_unit : Reader Piece
read_unit at [] = fails
read_unit at (a ∷ []) = fails
read_unit at (a ∷ b ∷ []) = fails
read_unit at (a ∷ b ∷ c ∷ []) = fails
read_unit at (a ∷ b ∷ c ∷ d ∷ bs) = unit_if (is_hex a && (is_hex b && (is_hex c && is_hex d))) a b c d (at + 4) bs

abbrev pub read_escape : Reader Piece
read_escape at [] = fails
read_escape at (b ∷ bs) = if b == 117 then read_unit (at + 1) bs else if is_short b then reads (short b) (at + 1) bs else fails

abbrev pub read_piece : Reader Piece
read_piece at [] = fails
read_piece at (b ∷ bs) = if b == 92 then read_escape (at + 1) bs else read_plain (code_in_front b bs) at (b ∷ bs)

-- pieces up to the quotation mark, which is taken too; at most as many as the number says
unfoldable pub read_pieces : ℕ → Reader (List Piece)
read_pieces zero at bs = fails
read_pieces (suc n) at [] = fails
read_pieces (suc n) at (b ∷ bs) = if b == 34 then reads [] (at + 1) bs else (read_piece at (b ∷ bs) >>= λ p at bs. read_pieces n at bs >>= λ ps. gives (p ∷ ps))

-- the characters of a string
unfoldable pub read_string : Reader (List ℕ)
read_string at bs = expect 34 at bs >>= λ done at bs. read_pieces (length bs) at bs >>= λ ps. gives (characters ps)

-- a list between two bytes: entries with commas between them, and whitespace around each
unfoldable pub read_more : {A L : Type 0} → ℕ → Reader A → L → (A → L → L) → ℕ → Reader L
read_more close entry nil cons zero at bs = fails
read_more close entry nil cons (suc n) at [] = fails
read_more close entry nil cons (suc n) at (b ∷ bs) =
    if b == close then reads nil (at + 1) bs else
    (expect 44 at (b ∷ bs) >>= λ comma at bs. skip at bs >>= λ done at bs. entry at bs >>= λ x at bs. skip at bs >>= λ done at bs. read_more close entry nil cons n at bs >>= λ xs. gives (cons x xs))

abbrev pub read_first : {A L : Type 0} → ℕ → Reader A → L → (A → L → L) → Reader L
read_first close entry nil cons at [] = fails
read_first close entry nil cons at (b ∷ bs) =
    if b == close then reads nil (at + 1) bs else
    (entry at (b ∷ bs) >>= λ x at bs. skip at bs >>= λ done at bs. read_more close entry nil cons (length bs) at bs >>= λ xs. gives (cons x xs))

abbrev pub read_list : {A L : Type 0} → ℕ → ℕ → Reader A → L → (A → L → L) → Reader L
read_list open_byte close entry nil cons at bs = expect open_byte at bs >>= λ done at bs. skip at bs >>= λ done. read_first close entry nil cons
