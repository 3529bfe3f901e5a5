-- The machine at two limits of depth.
use Rattle.std.proofs.Common.{◌≡◌, ℕ, ◌≤◌, ◌<◌, List, [], ◌∷◌, length, refl, ap}
use Rattle.std.specs.Prelude.{Bool, true, false, nat_lt, if◌then◌else◌}
use Rattle.std.proofs.lemmas.Bool.{ltb-true, lt-ltb}
use native.Mathlib.Omega.{arith}
use Rattle.json_token.specs.declared.number.NumberMove.{NumberMove}
use Rattle.json_token.specs.declared.number.NumberMove.TheVariants as number_moves
use Rattle.json_token.specs.NumberMoves.{number_move}
use Rattle.json_token.specs.declared.string.Move.{Move}
use Rattle.json_token.specs.declared.string.Move.TheVariants as moves
use Rattle.json_token.specs.StringMoves.{string_move}
use Rattle.json_span.specs.declared.word.WordMove.{WordMove}
use Rattle.json_span.specs.declared.word.WordMove.TheVariants as word_moves
use Rattle.json_span.specs.Words.{word_move}
use Rattle.json_span.specs.declared.class.Class.{Class}
use Rattle.json_span.specs.declared.class.Class.TheVariants as class
use Rattle.json_span.specs.Classes.{class_of}
use Rattle.json_span.specs.Machine.{same_kind}
use Rattle.json_span.proofs.Shape.{Point, value, first_item, first_name, name, colon, after, word, number, quoted, Next, goes, stops, too_deep, first_in, opens, closes, closes_if, begins, begins_item, begins_name, begins_first_name, at_colon, behind, in_word, in_number, in_string, next, OnGoes, Passes}

-- at a higher limit e, with n brackets open, a step does as before, but for a bracket that was too deep
abbrev pub Compares : ℕ → ℕ → Next → Next → Type 0
Compares e n (goes p ks) y = y ≡ goes p ks
Compares e n stops y = y ≡ stops
Compares e n too_deep y = n < e → (p : Point) × (ks : List Bool) × (y ≡ goes p ks)

-- what is never too deep
abbrev Shallow : Next → Type 0
Shallow (goes p ks) = Unit {0}
Shallow stops = Unit {0}
Shallow too_deep = ⊥

shallow_same : (e n : ℕ) (x : Next) → Shallow x → Compares e n x x
shallow_same e n (goes p ks) h = refl
shallow_same e n stops h = refl
shallow_same e n too_deep h = absurd h

closes_shallow : (object : Bool) (ks : List Bool) → Shallow (closes object ks)
closes_shallow object [] = tt
closes_shallow object (k ∷ ks) = pick (same_kind k object)
  where
    pick : (t : Bool) → Shallow (closes_if t ks)
    pick true = tt
    pick false = tt

behind_shallow : (k : Class) (ks : List Bool) → Shallow (behind k ks)
behind_shallow class.Comma [] = tt
behind_shallow class.Comma (k ∷ ks) = tt
behind_shallow class.CloseArray ks = closes_shallow false ks
behind_shallow class.CloseObject ks = closes_shallow true ks
behind_shallow class.Space ks = tt
behind_shallow k ks = tt

name_shallow : (p : Point) (k : Class) (ks : List Bool) → Shallow (begins_name p k ks)
name_shallow p class.Space ks = tt
name_shallow p class.Quote ks = tt
name_shallow p k ks = tt

first_name_shallow : (k : Class) (ks : List Bool) → Shallow (begins_first_name k ks)
first_name_shallow class.CloseObject ks = closes_shallow true ks
first_name_shallow class.Quote ks = tt
first_name_shallow class.Space ks = tt
first_name_shallow k ks = tt

colon_shallow : (k : Class) (ks : List Bool) → Shallow (at_colon k ks)
colon_shallow class.Space ks = tt
colon_shallow class.Colon ks = tt
colon_shallow k ks = tt

word_shallow : (m : WordMove) (ks : List Bool) → Shallow (in_word m ks)
word_shallow (word_moves.Goes q) ks = tt
word_shallow (word_moves.Ends w) ks = tt
word_shallow word_moves.Stops ks = tt

number_shallow : (b : ℕ) (m : NumberMove) (ks : List Bool) → Shallow (in_number b m ks)
number_shallow b (number_moves.Goes q) ks = tt
number_shallow b number_moves.Ends ks = behind_shallow (class_of b) ks
number_shallow b number_moves.Stops ks = tt

string_shallow : (p : Point) (m : Move) (ks : List Bool) → Shallow (in_string p m ks)
string_shallow p (moves.Goes q) ks = tt
string_shallow p moves.Ends ks = tt
string_shallow p moves.Stops ks = tt

opens_compares : (d e : ℕ) (object : Bool) (ks : List Bool) → d ≤ e → Compares e (length ks) (opens d object ks) (opens e object ks)
opens_compares d e object ks le = pick (nat_lt (length ks) d) refl
  where
    opened : (m : ℕ) → length ks < m → opens m object ks ≡ goes (first_in object) (object ∷ ks)
    opened m h = ap (λ t. if t then goes (first_in object) (object ∷ ks) else too_deep) (lt-ltb (length ks) m h)

    pick : (t : Bool) → nat_lt (length ks) d ≡ t → Compares e (length ks) (if t then goes (first_in object) (object ∷ ks) else too_deep) (opens e object ks)
    pick true h = let low = ltb-true (length ks) d h in opened e (omega arith)
    pick false h = λ l. (first_in object, object ∷ ks, opened e l)

begins_compares : (d e : ℕ) (k : Class) (ks : List Bool) → d ≤ e → Compares e (length ks) (begins d k ks) (begins e k ks)
begins_compares d e class.OpenArray ks le = opens_compares d e false ks le
begins_compares d e class.OpenObject ks le = opens_compares d e true ks le
begins_compares d e class.Space ks le = refl
begins_compares d e class.Quote ks le = refl
begins_compares d e (class.Begins w) ks le = refl
begins_compares d e (class.Number p) ks le = refl
begins_compares d e k ks le = refl

item_compares : (d e : ℕ) (k : Class) (ks : List Bool) → d ≤ e → Compares e (length ks) (begins_item d k ks) (begins_item e k ks)
item_compares d e class.Space ks le = refl
item_compares d e class.CloseArray ks le = shallow_same e (length ks) (closes false ks) (closes_shallow false ks)
item_compares d e class.Quote ks le = refl
item_compares d e class.OpenArray ks le = opens_compares d e false ks le
item_compares d e class.OpenObject ks le = opens_compares d e true ks le
item_compares d e (class.Begins w) ks le = refl
item_compares d e (class.Number p) ks le = refl
item_compares d e k ks le = refl

pub next_compares : (d e b : ℕ) (p : Point) (ks : List Bool) → d ≤ e → Compares e (length ks) (next d b p ks) (next e b p ks)
next_compares d e b value ks le = begins_compares d e (class_of b) ks le
next_compares d e b first_item ks le = item_compares d e (class_of b) ks le
next_compares d e b first_name ks le = shallow_same e (length ks) (begins_first_name (class_of b) ks) (first_name_shallow (class_of b) ks)
next_compares d e b name ks le = shallow_same e (length ks) (begins_name name (class_of b) ks) (name_shallow name (class_of b) ks)
next_compares d e b colon ks le = shallow_same e (length ks) (at_colon (class_of b) ks) (colon_shallow (class_of b) ks)
next_compares d e b after ks le = shallow_same e (length ks) (behind (class_of b) ks) (behind_shallow (class_of b) ks)
next_compares d e b (word p) ks le = shallow_same e (length ks) (in_word (word_move p b) ks) (word_shallow (word_move p b) ks)
next_compares d e b (number p) ks le = shallow_same e (length ks) (in_number b (number_move p b) ks) (number_shallow b (number_move p b) ks)
next_compares d e b (quoted p q) ks le = shallow_same e (length ks) (in_string p (string_move q b) ks) (string_shallow p (string_move q b) ks)

-- what passes at d passes at e
higher : (e n : ℕ) (x y : Next) (P Q : Point → List Bool → Type 0) → Compares e n x y → ((p : Point) (ks : List Bool) → P p ks → Q p ks) → OnGoes x P → OnGoes y Q
higher e n (goes p ks) y P Q c f h = rw c (f p ks h)
higher e n stops y P Q c f h = absurd h
higher e n too_deep y P Q c f h = absurd h

pub passes_higher : (d e : ℕ) (xs : List ℕ) (p : Point) (ks : List Bool) (q : Point) (os : List Bool) → d ≤ e → Passes d xs p ks q os → Passes e xs p ks q os
passes_higher d e [] p ks q os le h = h
passes_higher d e (b ∷ xs) p ks q os le h = higher e (length ks) (next d b p ks) (next e b p ks) (λ r ls. Passes d xs r ls q os) (λ r ls. Passes e xs r ls q os) (next_compares d e b p ks le) (λ r ls k. passes_higher d e xs r ls q os le k) h
