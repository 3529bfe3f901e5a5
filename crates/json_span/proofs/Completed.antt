-- Wherever the machine stands, some bytes complete a text.
use Rattle.std.proofs.Common.{◌≡◌, ℕ, List, [], ◌∷◌, ◌++◌}
use Rattle.std.specs.Prelude.{Bool, true, false}
use Rattle.std.specs.Prelude.{Some}
use Rattle.json_text.specs.Faults.{BeginsWithin}
use Rattle.json_token.specs.declared.number.NumberPart.{NumberPart}
use Rattle.json_token.specs.declared.number.NumberMove.{NumberMove}
use Rattle.json_token.specs.declared.number.NumberMove.TheVariants as number_moves
use Rattle.json_token.specs.NumberMoves.{number_move, number_may_end}
use Rattle.json_token.specs.declared.string.Part.{Part}
use Rattle.json_token.specs.declared.string.Move.{Move}
use Rattle.json_token.specs.declared.string.Move.TheVariants as moves
use Rattle.json_token.specs.StringMoves.{string_move, plain_move}
use Rattle.json_token.proofs.Numbers.{rem, rem_move, number_ends, number_completed}
use Rattle.json_token.proofs.Walks.{walk, walk_move, string_completed}
use Rattle.json_span.specs.declared.word.Begun.{Begun}
use Rattle.json_span.specs.declared.word.Begun.TheVariants.{N, Nu, Nul, F, Fa, Fal, Fals, T, Tr, Tru}
use Rattle.json_span.specs.Classes.{class_of}
use Rattle.json_span.proofs.Shape.{Point, value, first_item, first_name, name, colon, after, word, number, quoted, next, OnGoes, on_goes, Accepts, Passes, in_number, in_string}
use Rattle.json_span.proofs.FoundTokens.{left_of}
use Rattle.json_span.proofs.FoundTexts.{accepted}

-- the brackets that close these
abbrev closing : List Bool → List ℕ
closing [] = []
closing (true ∷ ks) = 125 ∷ closing ks
closing (false ∷ ks) = 93 ∷ closing ks

closed : (d : ℕ) (ks : List Bool) → Accepts d (closing ks) after ks
unfolding class_of
closed d [] = tt
closed d (true ∷ ks) = closed d ks
closed d (false ∷ ks) = closed d ks

-- words
word_done : (d : ℕ) (w : Begun) (rest : List ℕ) (ks : List Bool) → Accepts d rest after ks → Accepts d (left_of w ++ rest) (word w) ks
word_done d N rest ks h = h
word_done d Nu rest ks h = h
word_done d Nul rest ks h = h
word_done d F rest ks h = h
word_done d Fa rest ks h = h
word_done d Fal rest ks h = h
word_done d Fals rest ks h = h
word_done d T rest ks h = h
word_done d Tr rest ks h = h
word_done d Tru rest ks h = h

-- numbers
number_closed : (d : ℕ) (p : NumberPart) (ks : List Bool) → number_may_end p ≡ true → Accepts d (closing ks) (number p) ks
unfolding class_of
number_closed d p [] e = (e, tt)
number_closed d p (true ∷ ks) e = rw (number_ends p 125 e (λ h. cc)) (closed d ks)
number_closed d p (false ∷ ks) e = rw (number_ends p 93 e (λ h. cc)) (closed d ks)

number_done_move : (d b : ℕ) (ds : List ℕ) (ks : List Bool) (m : NumberMove) → ((q : NumberPart) → rem q ds ≡ true → Accepts d (ds ++ closing ks) (number q) ks)
    → rem_move m (λ q. rem q ds) ≡ true → OnGoes (in_number b m ks) (λ q os. Accepts d (ds ++ closing ks) q os)
number_done_move d b ds ks (number_moves.Goes q) f h = f q h
number_done_move d b ds ks number_moves.Ends f h = cc
number_done_move d b ds ks number_moves.Stops f h = cc

number_done : (d : ℕ) (ds : List ℕ) (p : NumberPart) (ks : List Bool) → rem p ds ≡ true → Accepts d (ds ++ closing ks) (number p) ks
number_done d [] p ks h = number_closed d p ks h
number_done d (b ∷ ds) p ks h = number_done_move d b ds ks (number_move p b) (λ q g. number_done d ds q ks g) h

-- strings
string_done_move : (d : ℕ) (bs rest : List ℕ) (p : Point) (ks : List Bool) (m : Move) → ((q : Part) → walk q bs ≡ Some [] → Accepts d (bs ++ rest) (quoted p q) ks)
    → Accepts d rest p ks → walk_move m bs (λ q. walk q bs) ≡ Some [] → OnGoes (in_string p m ks) (λ q os. Accepts d (bs ++ rest) q os)
string_done_move d bs rest p ks (moves.Goes q) f g h = f q h
string_done_move d bs rest p ks moves.Ends f g h =
    let none : bs ≡ [] = cc in
    rw none g
string_done_move d bs rest p ks moves.Stops f g h = cc

string_done : (d : ℕ) (bs rest : List ℕ) (p : Point) (q : Part) (ks : List Bool) → Accepts d rest p ks → walk q bs ≡ Some [] → Accepts d (bs ++ rest) (quoted p q) ks
string_done d [] rest p q ks g h = cc
string_done d (b ∷ bs) rest p q ks g h = string_done_move d bs rest p ks (string_move q b) (λ r k. string_done d bs rest p r ks g k) g h

-- an empty string where a value is due, and before it an empty name and a colon where these are due
value_done : (d : ℕ) (ks : List Bool) → Accepts d (34 ∷ 34 ∷ closing ks) value ks
unfolding class_of plain_move
value_done d ks = closed d ks

item_done : (d : ℕ) (ks : List Bool) → Accepts d (34 ∷ 34 ∷ closing ks) first_item ks
unfolding class_of plain_move
item_done d ks = closed d ks

colon_done : (d : ℕ) (ks : List Bool) → Accepts d (58 ∷ 34 ∷ 34 ∷ closing ks) colon ks
unfolding class_of plain_move
colon_done d ks = closed d ks

name_done : (d : ℕ) (ks : List Bool) → Accepts d (34 ∷ 34 ∷ 58 ∷ 34 ∷ 34 ∷ closing ks) name ks
unfolding class_of plain_move
name_done d ks = closed d ks

first_name_done : (d : ℕ) (ks : List Bool) → Accepts d (34 ∷ 34 ∷ 58 ∷ 34 ∷ 34 ∷ closing ks) first_name ks
unfolding class_of plain_move
first_name_done d ks = closed d ks

pub completed : (d : ℕ) (p : Point) (ks : List Bool) → (more : List ℕ) × Accepts d more p ks
completed d value ks = (34 ∷ 34 ∷ closing ks, value_done d ks)
completed d first_item ks = (34 ∷ 34 ∷ closing ks, item_done d ks)
completed d first_name ks = (34 ∷ 34 ∷ 58 ∷ 34 ∷ 34 ∷ closing ks, first_name_done d ks)
completed d name ks = (34 ∷ 34 ∷ 58 ∷ 34 ∷ 34 ∷ closing ks, name_done d ks)
completed d colon ks = (58 ∷ 34 ∷ 34 ∷ closing ks, colon_done d ks)
completed d after ks = (closing ks, closed d ks)
completed d (word w) ks = (left_of w ++ closing ks, word_done d w (closing ks) ks (closed d ks))
completed d (number p) ks = let c = number_completed p in (c.0 ++ closing ks, number_done d c.0 p ks c.1)
completed d (quoted p q) ks =
    let c = string_completed q in
    let m = completed d p ks in
    (c.0 ++ m.0, string_done d c.0 m.0 p q ks m.1 c.1)

-- what has been passed begins a text
passed_then : (d : ℕ) (xs more : List ℕ) (p : Point) (ks : List Bool) (q : Point) (os : List Bool) → Passes d xs p ks q os → Accepts d more q os → Accepts d (xs ++ more) p ks
passed_then d [] more p ks q os h g = rw (h.0, h.1) g
passed_then d (b ∷ xs) more p ks q os h g = on_goes (next d b p ks) (λ r ls. Passes d xs r ls q os) (λ r ls. Accepts d (xs ++ more) r ls) (λ r ls k. passed_then d xs more r ls q os k g) h

pub passes_begins : (d : ℕ) (xs : List ℕ) (q : Point) (os : List Bool) → Passes d xs value [] q os → BeginsWithin d xs
passes_begins d xs q os h =
    let c = completed d q os in
    let a = accepted d (xs ++ c.0) (passed_then d xs c.0 value [] q os h c.1) in
    (c.0, a.0, a.1, a.2)
