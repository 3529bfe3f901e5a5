-- Whitespace, words, numbers and strings that the machine passes are those of the grammar.
use Rattle.std.proofs.Common.{◌≡◌, ℕ, List, [], ◌∷◌, ◌++◌, refl, ap}
use Rattle.std.specs.Prelude.{Bool, true, false, IsTrue, ◌==◌, codes, if◌then◌else◌}
use Rattle.std.specs.Prelude.{Some}
use Rattle.std.specs.List.{AllByRecursion}
use Rattle.std.proofs.lemmas.Bool.{eqb-true}
use native.Mathlib.Omega.{arith}
use Rattle.json_text.specs.Json.{is_space}
use Rattle.json_token.specs.declared.number.NumberPart.{NumberPart}
use Rattle.json_token.specs.declared.number.NumberByte.{NumberByte}
use Rattle.json_token.specs.declared.number.NumberMove.{NumberMove}
use Rattle.json_token.specs.declared.number.NumberMove.TheVariants as number_moves
use Rattle.json_token.specs.NumberMoves.{number_move, number_moved, number_may_end, number_byte}
use Rattle.json_token.specs.declared.string.Part.{Part}
use Rattle.json_token.specs.declared.string.Move.{Move}
use Rattle.json_token.specs.declared.string.Move.TheVariants as moves
use Rattle.json_token.specs.StringMoves.{string_move}
use Rattle.json_span.specs.declared.class.Class.{Class}
use Rattle.json_span.specs.declared.class.Class.TheVariants as class
use Rattle.json_span.specs.Classes.{class_of}
use Rattle.json_span.proofs.ClassBytes.{space_is}
use Rattle.json_token.proofs.Numbers.{rem}
use Rattle.json_token.proofs.Walks.{walk}
use Rattle.json_span.specs.declared.word.Begun.{Begun}
use Rattle.json_span.specs.declared.word.Begun.TheVariants.{N, Nu, Nul, F, Fa, Fal, Fals, T, Tr, Tru}
use Rattle.json_span.specs.declared.word.WordMove.TheVariants as word_moves
use Rattle.json_text.specs.declared.kind.Word.{Word}
use Rattle.json_text.specs.declared.kind.Word.TheVariants as word_of
use Rattle.json_span.proofs.Shape.{Point, value, first_item, first_name, name, colon, after, word, number, quoted, goes, OnGoes, Accepts, next, in_word, in_number, in_string}

-- whitespace leaves the machine where it is
abbrev pub Waits : Point → Type 0
Waits p = (d b : ℕ) (ks : List Bool) → class_of b ≡ class.Space → next d b p ks ≡ goes p ks

pub value_waits : Waits value
value_waits d b ks e = rw e

pub item_waits : Waits first_item
item_waits d b ks e = rw e

pub first_name_waits : Waits first_name
first_name_waits d b ks e = rw e

pub name_waits : Waits name
name_waits d b ks e = rw e

pub colon_waits : Waits colon
colon_waits d b ks e = rw e

pub after_waits : Waits after
after_waits d b ks e = rw e

abbrev pub NoSpace : List ℕ → Type 0
NoSpace [] = Unit {0}
NoSpace (b ∷ bs) = class_of b ≡ class.Space → ⊥

-- bytes with the whitespace before them
pub record Stripped (d : ℕ) (bs : List ℕ) (p : Point) (ks : List Bool) : Type 0 where
  pub gap : List ℕ
  pub rest : List ℕ
  pub whole : bs ≡ gap ++ rest
  pub blank : AllByRecursion (λ b. IsTrue (is_space b)) gap
  pub bare : NoSpace rest
  pub next : Accepts d rest p ks

strip_first : (d b : ℕ) (bs : List ℕ) (p : Point) (ks : List Bool) → Waits p → (k : Class) → class_of b ≡ k
    → (Accepts d bs p ks → Stripped d bs p ks) → Accepts d (b ∷ bs) p ks → Stripped d (b ∷ bs) p ks
strip_first d b bs p ks w class.Space e f h =
    let s = f (rw (w d b ks e) at h) in
    record { gap = b ∷ s.gap; rest = s.rest; whole = ap (λ xs. b ∷ xs) s.whole; blank = (space_is b e, s.blank); bare = s.bare; next = s.next }
strip_first d b bs p ks w k e f h = record { gap = []; rest = b ∷ bs; whole = refl; blank = tt; bare = λ q. cc; next = h }

pub strip : (d : ℕ) (bs : List ℕ) (p : Point) (ks : List Bool) → Waits p → Accepts d bs p ks → Stripped d bs p ks
strip d [] p ks w h = record { gap = []; rest = []; whole = refl; blank = tt; bare = tt; next = h }
strip d (b ∷ bs) p ks w h = strip_first d b bs p ks w (class_of b) refl (λ g. strip d bs p ks w g) h

-- words: what is left of one
abbrev pub left_of : Begun → List ℕ
left_of N = codes "ull"
left_of Nu = codes "ll"
left_of Nul = codes "l"
left_of F = codes "alse"
left_of Fa = codes "lse"
left_of Fal = codes "se"
left_of Fals = codes "e"
left_of T = codes "rue"
left_of Tr = codes "ue"
left_of Tru = codes "e"

pub record PastLetters (d : ℕ) (bs cs : List ℕ) (ks : List Bool) : Type 0 where
  pub rest : List ℕ
  pub whole : bs ≡ cs ++ rest
  pub next : Accepts d rest after ks

past_goes : (d b : ℕ) (bs : List ℕ) (c : ℕ) (q : Begun) (cs : List ℕ) (ks : List Bool) (t : Bool) → (b == c) ≡ t
    → (Accepts d bs (word q) ks → PastLetters d bs cs ks)
    → OnGoes (in_word (if t then word_moves.Goes q else word_moves.Stops) ks) (λ r os. Accepts d bs r os) → PastLetters d (b ∷ bs) (c ∷ cs) ks
past_goes d b bs c q cs ks true e f h =
    let s = f h in
    let same : b ≡ c = eqb-true b c e in
    let whole : bs ≡ cs ++ s.rest = s.whole in
    record { rest = s.rest; whole = cc; next = s.next }
past_goes d b bs c q cs ks false e f h = absurd h

past_ends : (d b : ℕ) (bs : List ℕ) (c : ℕ) (w : Word) (ks : List Bool) (t : Bool) → (b == c) ≡ t
    → OnGoes (in_word (if t then word_moves.Ends w else word_moves.Stops) ks) (λ r os. Accepts d bs r os) → PastLetters d (b ∷ bs) (c ∷ []) ks
past_ends d b bs c w ks true e h =
    let same : b ≡ c = eqb-true b c e in
    record { rest = bs; whole = ap (λ x. x ∷ bs) same; next = h }
past_ends d b bs c w ks false e h = absurd h

pub past_word : (d : ℕ) (bs : List ℕ) (p : Begun) (ks : List Bool) → Accepts d bs (word p) ks → PastLetters d bs (left_of p) ks
past_word d [] p ks h = absurd h
past_word d (b ∷ bs) N ks h = past_goes d b bs 117 Nu (left_of Nu) ks (b == 117) refl (λ g. past_word d bs Nu ks g) h
past_word d (b ∷ bs) Nu ks h = past_goes d b bs 108 Nul (left_of Nul) ks (b == 108) refl (λ g. past_word d bs Nul ks g) h
past_word d (b ∷ bs) Nul ks h = past_ends d b bs 108 word_of.Null ks (b == 108) refl h
past_word d (b ∷ bs) F ks h = past_goes d b bs 97 Fa (left_of Fa) ks (b == 97) refl (λ g. past_word d bs Fa ks g) h
past_word d (b ∷ bs) Fa ks h = past_goes d b bs 108 Fal (left_of Fal) ks (b == 108) refl (λ g. past_word d bs Fal ks g) h
past_word d (b ∷ bs) Fal ks h = past_goes d b bs 115 Fals (left_of Fals) ks (b == 115) refl (λ g. past_word d bs Fals ks g) h
past_word d (b ∷ bs) Fals ks h = past_ends d b bs 101 word_of.False ks (b == 101) refl h
past_word d (b ∷ bs) T ks h = past_goes d b bs 114 Tr (left_of Tr) ks (b == 114) refl (λ g. past_word d bs Tr ks g) h
past_word d (b ∷ bs) Tr ks h = past_goes d b bs 117 Tru (left_of Tru) ks (b == 117) refl (λ g. past_word d bs Tru ks g) h
past_word d (b ∷ bs) Tru ks h = past_ends d b bs 101 word_of.True ks (b == 101) refl h

-- numbers
pub record PastNumber (d : ℕ) (bs : List ℕ) (p : NumberPart) (ks : List Bool) : Type 0 where
  pub text : List ℕ
  pub rest : List ℕ
  pub whole : bs ≡ text ++ rest
  pub is : rem p text ≡ true
  pub next : Accepts d rest after ks

ends_may : (p : NumberPart) (k : NumberByte) → number_moved p k ≡ number_moves.Ends → number_may_end p ≡ true
ends_may p k h = grind arith

past_move : (d b : ℕ) (bs : List ℕ) (p : NumberPart) (ks : List Bool) (m : NumberMove) → number_move p b ≡ m
    → ((q : NumberPart) → Accepts d bs (number q) ks → PastNumber d bs q ks)
    → OnGoes (in_number b m ks) (λ q os. Accepts d bs q os) → PastNumber d (b ∷ bs) p ks
past_move d b bs p ks (number_moves.Goes q) e f h =
    let s = f q h in
    record { text = b ∷ s.text; rest = s.rest; whole = ap (λ xs. b ∷ xs) s.whole; is = rw e s.is; next = s.next }
past_move d b bs p ks number_moves.Ends e f h = record { text = []; rest = b ∷ bs; whole = refl; is = ends_may p (number_byte b) e; next = h }
past_move d b bs p ks number_moves.Stops e f h = absurd h

pub past_number : (d : ℕ) (bs : List ℕ) (p : NumberPart) (ks : List Bool) → Accepts d bs (number p) ks → PastNumber d bs p ks
past_number d [] p ks h = record { text = []; rest = []; whole = refl; is = h.0; next = h.1 }
past_number d (b ∷ bs) p ks h = past_move d b bs p ks (number_move p b) refl (λ q. past_number d bs q ks) h

-- strings
pub record PastString (d : ℕ) (bs : List ℕ) (p : Point) (q : Part) (ks : List Bool) : Type 0 where
  pub rest : List ℕ
  pub walked : walk q bs ≡ Some rest
  pub next : Accepts d rest p ks

past_string_move : (d b : ℕ) (bs : List ℕ) (p : Point) (q : Part) (ks : List Bool) (m : Move) → string_move q b ≡ m
    → ((r : Part) → Accepts d bs (quoted p r) ks → PastString d bs p r ks)
    → OnGoes (in_string p m ks) (λ r os. Accepts d bs r os) → PastString d (b ∷ bs) p q ks
past_string_move d b bs p q ks (moves.Goes r) e f h =
    let s = f r h in
    record { rest = s.rest; walked = rw e s.walked; next = s.next }
past_string_move d b bs p q ks moves.Ends e f h = record { rest = bs; walked = rw e; next = h }
past_string_move d b bs p q ks moves.Stops e f h = absurd h

pub past_string : (d : ℕ) (bs : List ℕ) (p : Point) (q : Part) (ks : List Bool) → Accepts d bs (quoted p q) ks → PastString d bs p q ks
past_string d [] p q ks h = absurd h
past_string d (b ∷ bs) p q ks h = past_string_move d b bs p q ks (string_move q b) refl (λ r. past_string d bs p r ks) h
