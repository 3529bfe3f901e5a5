-- The bytes that pass as a string are the strings of RFC 8259, section 7.
use Rattle.std.proofs.Common.{◌≡◌, refl, ap, ◌∙◌, ℕ, ◌+◌, ◌/◌, ◌%◌, ◌<◌, ◌≤◌, List, [], ◌∷◌, ◌++◌, ◌⊎◌, inl, inr, arith, append_assoc}
use Rattle.std.specs.Prelude.{IsTrue, Option, Some, None, flat_map}
use Rattle.std.specs.List.{AllByRecursion}
use Rattle.std.specs.Char.{IsScalar}
use lib.Utf8.{encode}
use Rattle.std.proofs.lemmas.Bool.{cases_lt}
use Rattle.json_text.specs.String.{Piece, plain, short, unit, is_plain, IsPiece, spelled, SpellsCharacters}
use Rattle.json_token.specs.declared.string.Part.{Part}
use Rattle.json_token.specs.declared.string.Part.TheVariants.{Plain, Escape, Hex4, Hex3, Hex2, Hex1, Tail1, Tail2, Tail3, AfterE0, AfterEd, AfterF0, AfterF4}
use Rattle.json_token.specs.declared.string.Move.{Move}
use Rattle.json_token.specs.declared.string.Move.TheVariants.{Goes, Ends, Stops}
use Rattle.json_token.specs.StringMoves.{string_move}
use Rattle.json_token.proofs.Encoded.{one, two, three, four, scalar_sides}
use Rattle.json_token.proofs.TextBytes.{quote_ends, slash_goes, plain_goes, two_goes, e0_goes, ed_goes, three_goes, f0_goes, four_goes, f4_goes, tail_goes, digit_goes, unit_goes, short_goes}

abbrev pub walk_move : Move → List ℕ → (Part → Option (List ℕ)) → Option (List ℕ)
walk_move (Goes p) bs k = k p
walk_move Ends bs k = Some bs
walk_move Stops bs k = None

-- the bytes behind the quotation mark that ends a string of which this part has been read
abbrev pub walk : Part → List ℕ → Option (List ℕ)
walk p [] = None
walk p (b ∷ bs) = walk_move (string_move p b) bs (λ q. walk q bs)

-- one byte

pub step : (p q : Part) (b : ℕ) (bs : List ℕ) → string_move p b ≡ Goes q → walk p (b ∷ bs) ≡ walk q bs
step p q b bs h = ap (λ m. walk_move m bs (λ q. walk q bs)) h

pub quote_passes : (rest : List ℕ) → walk Plain (34 ∷ rest) ≡ Some rest
quote_passes rest = ap (λ m. walk_move m rest (λ q. walk q rest)) quote_ends

-- a character of two bytes or more

two_passes : (a b : ℕ) (rest : List ℕ) → 194 ≤ a → a < 224 → 128 ≤ b → b ≤ 191 → walk Plain (a ∷ b ∷ rest) ≡ walk Plain rest
two_passes a b rest a_from a_to b_from b_to = step Plain Tail1 a (b ∷ rest) (two_goes a a_from a_to) ∙ step Tail1 Plain b rest (tail_goes b 128 191 Plain b_from b_to)

tails_two : (b c : ℕ) (rest : List ℕ) → 128 ≤ c → c ≤ 191 → walk Tail1 (c ∷ rest) ≡ walk Plain rest
tails_two b c rest c_from c_to = step Tail1 Plain c rest (tail_goes c 128 191 Plain c_from c_to)

-- a lead of three bytes: the bounds of the byte behind it
data Lead3 (a b : ℕ) : Type 0 where
  e0 : a ≡ 224 → 160 ≤ b → b ≤ 191 → Lead3 a b
  ed : a ≡ 237 → 128 ≤ b → b ≤ 159 → Lead3 a b
  low : 225 ≤ a → a < 237 → 128 ≤ b → b ≤ 191 → Lead3 a b
  high : 238 ≤ a → a < 240 → 128 ≤ b → b ≤ 191 → Lead3 a b

three_passes : (a b c : ℕ) (rest : List ℕ) → Lead3 a b → 128 ≤ c → c ≤ 191 → walk Plain (a ∷ b ∷ c ∷ rest) ≡ walk Plain rest
three_passes a b c rest (e0 h from to) c_from c_to = step Plain AfterE0 a (b ∷ c ∷ rest) (e0_goes a h) ∙ (step AfterE0 Tail1 b (c ∷ rest) (tail_goes b 160 191 Tail1 from to) ∙ tails_two b c rest c_from c_to)
three_passes a b c rest (ed h from to) c_from c_to = step Plain AfterEd a (b ∷ c ∷ rest) (ed_goes a h) ∙ (step AfterEd Tail1 b (c ∷ rest) (tail_goes b 128 159 Tail1 from to) ∙ tails_two b c rest c_from c_to)
three_passes a b c rest (low h k from to) c_from c_to = step Plain Tail2 a (b ∷ c ∷ rest) (three_goes a (inl (h, k))) ∙ (step Tail2 Tail1 b (c ∷ rest) (tail_goes b 128 191 Tail1 from to) ∙ tails_two b c rest c_from c_to)
three_passes a b c rest (high h k from to) c_from c_to = step Plain Tail2 a (b ∷ c ∷ rest) (three_goes a (inr (h, k))) ∙ (step Tail2 Tail1 b (c ∷ rest) (tail_goes b 128 191 Tail1 from to) ∙ tails_two b c rest c_from c_to)

data Lead4 (a b : ℕ) : Type 0 where
  f0 : a ≡ 240 → 144 ≤ b → b ≤ 191 → Lead4 a b
  f4 : a ≡ 244 → 128 ≤ b → b ≤ 143 → Lead4 a b
  middle : 241 ≤ a → a < 244 → 128 ≤ b → b ≤ 191 → Lead4 a b

tails_three : (c d : ℕ) (rest : List ℕ) → 128 ≤ c → c ≤ 191 → 128 ≤ d → d ≤ 191 → walk Tail2 (c ∷ d ∷ rest) ≡ walk Plain rest
tails_three c d rest c_from c_to d_from d_to = step Tail2 Tail1 c (d ∷ rest) (tail_goes c 128 191 Tail1 c_from c_to) ∙ tails_two c d rest d_from d_to

four_passes : (a b c d : ℕ) (rest : List ℕ) → Lead4 a b → 128 ≤ c → c ≤ 191 → 128 ≤ d → d ≤ 191 → walk Plain (a ∷ b ∷ c ∷ d ∷ rest) ≡ walk Plain rest
four_passes a b c d rest (f0 h from to) c_from c_to d_from d_to = step Plain AfterF0 a (b ∷ c ∷ d ∷ rest) (f0_goes a h) ∙ (step AfterF0 Tail2 b (c ∷ d ∷ rest) (tail_goes b 144 191 Tail2 from to) ∙ tails_three c d rest c_from c_to d_from d_to)
four_passes a b c d rest (f4 h from to) c_from c_to d_from d_to = step Plain AfterF4 a (b ∷ c ∷ d ∷ rest) (f4_goes a h) ∙ (step AfterF4 Tail2 b (c ∷ d ∷ rest) (tail_goes b 128 143 Tail2 from to) ∙ tails_three c d rest c_from c_to d_from d_to)
four_passes a b c d rest (middle h k from to) c_from c_to d_from d_to = step Plain Tail3 a (b ∷ c ∷ d ∷ rest) (four_goes a h k) ∙ (step Tail3 Tail2 b (c ∷ d ∷ rest) (tail_goes b 128 191 Tail2 from to) ∙ tails_three c d rest c_from c_to d_from d_to)

lead_three : (c : ℕ) → (c < 55296) ⊎ ((57344 ≤ c) × (c < 1114112)) → 2048 ≤ c → c < 65536 → (c < 4096) ⊎ (4096 ≤ c) → (c < 53248) ⊎ (53248 ≤ c) → (c < 57344) ⊎ (57344 ≤ c) → Lead3 (224 + c / 4096) (128 + c / 64 % 64)
lead_three c s l u (inl a) b d = e0 (omega arith) (omega arith) (omega arith)
lead_three c s l u (inr a) (inl b) d = low (omega arith) (omega arith) (omega arith) (omega arith)
lead_three c s l u (inr a) (inr b) (inr d) = high (omega arith) (omega arith) (omega arith) (omega arith)
lead_three c (inl s) l u (inr a) (inr b) (inl d) = ed (omega arith) (omega arith) (omega arith)
lead_three c (inr s) l u (inr a) (inr b) (inl d) = absurd (omega arith)

lead_four : (c : ℕ) → 65536 ≤ c → c < 1114112 → (c < 262144) ⊎ (262144 ≤ c) → (c < 1048576) ⊎ (1048576 ≤ c) → Lead4 (240 + c / 262144) (128 + c / 4096 % 64)
lead_four c l u (inl a) b = f0 (omega arith) (omega arith) (omega arith)
lead_four c l u (inr a) (inl b) = middle (omega arith) (omega arith) (omega arith) (omega arith)
lead_four c l u (inr a) (inr b) = f4 (omega arith) (omega arith) (omega arith)

encode_passes : (c : ℕ) (rest : List ℕ) → IsScalar c → IsTrue (is_plain c) → (c < 128) ⊎ (128 ≤ c) → (c < 2048) ⊎ (2048 ≤ c) → (c < 65536) ⊎ (65536 ≤ c) → walk Plain (encode c ++ rest) ≡ walk Plain rest
encode_passes c rest s k (inl a) d e = ap (λ x. walk Plain (x ++ rest)) (one c a) ∙ step Plain Plain c rest (plain_goes c a k)
encode_passes c rest s k (inr a) (inl d) e = ap (λ x. walk Plain (x ++ rest)) (two c a d) ∙ two_passes (192 + c / 64) (128 + c % 64) rest (omega arith) (omega arith) (omega arith) (omega arith)
encode_passes c rest s k (inr a) (inr d) (inl e) = ap (λ x. walk Plain (x ++ rest)) (three c d e)
    ∙ three_passes (224 + c / 4096) (128 + c / 64 % 64) (128 + c % 64) rest (lead_three c (scalar_sides c s) d e (cases_lt c 4096) (cases_lt c 53248) (cases_lt c 57344)) (omega arith) (omega arith)
encode_passes c rest s k (inr a) (inr d) (inr e) = ap (λ x. walk Plain (x ++ rest)) (four c e)
    ∙ four_passes (240 + c / 262144) (128 + c / 4096 % 64) (128 + c / 64 % 64) (128 + c % 64) rest (lead_four c e (top (scalar_sides c s)) (cases_lt c 262144) (cases_lt c 1048576)) (omega arith) (omega arith) (omega arith) (omega arith)
  where
    top : (c < 55296) ⊎ ((57344 ≤ c) × (c < 1114112)) → c < 1114112
    top (inl h) = omega arith
    top (inr h) = h.1

slash_passes : (b : ℕ) (rest : List ℕ) → walk Plain (92 ∷ b ∷ rest) ≡ walk Escape (b ∷ rest)
slash_passes b rest = step Plain Escape 92 (b ∷ rest) slash_goes

-- what is one character of the grammar is passed over
pub piece_passes : (p : Piece) (rest : List ℕ) → IsPiece p → walk Plain (spelled p ++ rest) ≡ walk Plain rest
piece_passes (plain c) rest h = encode_passes c rest h.0 h.1 (cases_lt c 128) (cases_lt c 2048) (cases_lt c 65536)
piece_passes (short b) rest h = slash_passes b rest ∙ step Escape Plain b rest (short_goes b h)
piece_passes (unit a b c d) rest h = slash_passes 117 (a ∷ b ∷ c ∷ d ∷ rest) ∙ (step Escape Hex4 117 (a ∷ b ∷ c ∷ d ∷ rest) unit_goes
    ∙ (step Hex4 Hex3 a (b ∷ c ∷ d ∷ rest) (digit_goes a Hex3 h.0) ∙ (step Hex3 Hex2 b (c ∷ d ∷ rest) (digit_goes b Hex2 h.1)
    ∙ (step Hex2 Hex1 c (d ∷ rest) (digit_goes c Hex1 h.2) ∙ step Hex1 Plain d rest (digit_goes d Plain h.3)))))

pub pieces_pass : (ps : List Piece) (rest : List ℕ) → AllByRecursion IsPiece ps → walk Plain (flat_map spelled ps ++ rest) ≡ walk Plain rest
pieces_pass [] rest h = refl
pieces_pass (p ∷ ps) rest h = ap (λ x. walk Plain x) (append_assoc (spelled p) (flat_map spelled ps) rest) ∙ (piece_passes p (flat_map spelled ps ++ rest) h.0 ∙ pieces_pass ps rest h.1)

-- the bytes of a string, from behind its first quotation mark, are passed over up to behind its last
pub string_passes : (cs bs rest : List ℕ) → SpellsCharacters cs bs → walk Plain (bs ++ 34 ∷ rest) ≡ Some rest
string_passes cs bs rest h = ap (λ x. walk Plain (x ++ 34 ∷ rest)) h.2 ∙ (pieces_pass h.0 (34 ∷ rest) h.1 ∙ quote_passes rest)

-- each part can be completed
pub string_completed : (p : Part) → (more : List ℕ) × (walk p more ≡ Some [])
string_completed Plain = (34 ∷ [], quote_passes [])
string_completed Escape = (34 ∷ 34 ∷ [], quote_passes [])
string_completed Hex4 = (48 ∷ 48 ∷ 48 ∷ 48 ∷ 34 ∷ [], quote_passes [])
string_completed Hex3 = (48 ∷ 48 ∷ 48 ∷ 34 ∷ [], quote_passes [])
string_completed Hex2 = (48 ∷ 48 ∷ 34 ∷ [], quote_passes [])
string_completed Hex1 = (48 ∷ 34 ∷ [], quote_passes [])
string_completed Tail1 = (160 ∷ 34 ∷ [], quote_passes [])
string_completed Tail2 = (160 ∷ 160 ∷ 34 ∷ [], quote_passes [])
string_completed Tail3 = (160 ∷ 160 ∷ 160 ∷ 34 ∷ [], quote_passes [])
string_completed AfterE0 = (160 ∷ 160 ∷ 34 ∷ [], quote_passes [])
string_completed AfterEd = (128 ∷ 160 ∷ 34 ∷ [], quote_passes [])
string_completed AfterF0 = (160 ∷ 160 ∷ 160 ∷ 34 ∷ [], quote_passes [])
string_completed AfterF4 = (128 ∷ 160 ∷ 160 ∷ 34 ∷ [], quote_passes [])
