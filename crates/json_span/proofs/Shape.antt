-- The machine without its places and nodes: which bytes it passes, and where it stands behind them.
use Rattle.std.proofs.Common.{◌≡◌, ℕ, List, [], ◌∷◌, length}
use Rattle.std.specs.Prelude.{Bool, true, false, IsTrue, nat_lt, if◌then◌else◌}
use Rattle.json_token.specs.declared.number.NumberPart.{NumberPart}
use Rattle.json_token.specs.declared.number.NumberMove.{NumberMove}
use Rattle.json_token.specs.declared.number.NumberMove.TheVariants as number_moves
use Rattle.json_token.specs.NumberMoves.{number_move, number_may_end}
use Rattle.json_token.specs.declared.string.Part.{Part}
use Rattle.json_token.specs.declared.string.Part.TheVariants.{Plain}
use Rattle.json_token.specs.declared.string.Move.{Move}
use Rattle.json_token.specs.declared.string.Move.TheVariants as moves
use Rattle.json_token.specs.StringMoves.{string_move}
use Rattle.json_span.specs.declared.word.Begun.{Begun}
use Rattle.json_span.specs.declared.word.WordMove.{WordMove}
use Rattle.json_span.specs.declared.word.WordMove.TheVariants as word_moves
use Rattle.json_span.specs.Words.{word_move}
use Rattle.json_span.specs.declared.class.Class.{Class}
use Rattle.json_span.specs.declared.class.Class.TheVariants as class
use Rattle.json_span.specs.Classes.{class_of}
use Rattle.json_span.specs.Machine.{same_kind}

-- what is due: a value, an item or a bracket, a name or a bracket, a name, a colon, what stands behind a value, or the rest of a token
pub data Point : Type 0 where
  value : Point
  first_item : Point
  first_name : Point
  name : Point
  colon : Point
  after : Point
  word : Begun → Point
  number : NumberPart → Point
  quoted : Point → Part → Point  -- of a string, behind which this point comes

-- what a byte does; of the brackets that are open, the innermost first, each says whether it is an object's
pub data Next : Type 0 where
  goes : Point → List Bool → Next
  stops : Next
  too_deep : Next

abbrev pub first_in : Bool → Point
first_in true = first_name
first_in false = first_item

abbrev pub opens : ℕ → Bool → List Bool → Next
opens d object ks = if nat_lt (length ks) d then goes (first_in object) (object ∷ ks) else too_deep

abbrev pub closes_if : Bool → List Bool → Next
closes_if true ks = goes after ks
closes_if false ks = stops

abbrev pub closes : Bool → List Bool → Next
closes object [] = stops
closes object (k ∷ ks) = closes_if (same_kind k object) ks

abbrev pub next_in : Bool → Point
next_in true = name
next_in false = value

-- a comma
abbrev pub continues : List Bool → Next
continues [] = stops
continues (k ∷ ks) = goes (next_in k) (k ∷ ks)

abbrev pub begins : ℕ → Class → List Bool → Next
begins d class.Space ks = goes value ks
begins d class.Quote ks = goes (quoted after Plain) ks
begins d class.OpenArray ks = opens d false ks
begins d class.OpenObject ks = opens d true ks
begins d (class.Begins w) ks = goes (word w) ks
begins d (class.Number p) ks = goes (number p) ks
begins d _ ks = stops

abbrev pub begins_item : ℕ → Class → List Bool → Next
begins_item d class.Space ks = goes first_item ks
begins_item d class.CloseArray ks = closes false ks
begins_item d k ks = begins d k ks

abbrev pub begins_name : Point → Class → List Bool → Next
begins_name p class.Space ks = goes p ks
begins_name p class.Quote ks = goes (quoted colon Plain) ks
begins_name p _ ks = stops

abbrev pub begins_first_name : Class → List Bool → Next
begins_first_name class.CloseObject ks = closes true ks
begins_first_name k ks = begins_name first_name k ks

abbrev pub at_colon : Class → List Bool → Next
at_colon class.Space ks = goes colon ks
at_colon class.Colon ks = goes value ks
at_colon _ ks = stops

abbrev pub behind : Class → List Bool → Next
behind class.Space ks = goes after ks
behind class.Comma ks = continues ks
behind class.CloseArray ks = closes false ks
behind class.CloseObject ks = closes true ks
behind _ ks = stops

abbrev pub in_word : WordMove → List Bool → Next
in_word (word_moves.Goes q) ks = goes (word q) ks
in_word (word_moves.Ends w) ks = goes after ks
in_word word_moves.Stops ks = stops

abbrev pub in_number : ℕ → NumberMove → List Bool → Next
in_number b (number_moves.Goes p) ks = goes (number p) ks
in_number b number_moves.Ends ks = behind (class_of b) ks
in_number b number_moves.Stops ks = stops

abbrev pub in_string : Point → Move → List Bool → Next
in_string p (moves.Goes q) ks = goes (quoted p q) ks
in_string p moves.Ends ks = goes p ks
in_string p moves.Stops ks = stops

-- the byte b, with at most d brackets open at once
abbrev pub next : ℕ → ℕ → Point → List Bool → Next
next d b value ks = begins d (class_of b) ks
next d b first_item ks = begins_item d (class_of b) ks
next d b first_name ks = begins_first_name (class_of b) ks
next d b name ks = begins_name name (class_of b) ks
next d b colon ks = at_colon (class_of b) ks
next d b after ks = behind (class_of b) ks
next d b (word p) ks = in_word (word_move p b) ks
next d b (number p) ks = in_number b (number_move p b) ks
next d b (quoted p q) ks = in_string p (string_move q b) ks

abbrev pub NoneOpen : List Bool → Type 0
NoneOpen [] = Unit {0}
NoneOpen (k ∷ ks) = ⊥

-- whether the bytes may end here
abbrev pub MayEnd : Point → List Bool → Type 0
MayEnd after ks = NoneOpen ks
MayEnd (number p) ks = IsTrue (number_may_end p) × NoneOpen ks
MayEnd _ ks = ⊥

abbrev pub OnGoes : Next → (Point → List Bool → Type 0) → Type 0
OnGoes (goes p ks) P = P p ks
OnGoes stops P = ⊥
OnGoes too_deep P = ⊥

-- these bytes are passed from here on, and then the text may end
abbrev pub Accepts : ℕ → List ℕ → Point → List Bool → Type 0
Accepts d [] p ks = MayEnd p ks
Accepts d (b ∷ bs) p ks = OnGoes (next d b p ks) (λ q os. Accepts d bs q os)

-- these bytes lead from here to there
abbrev pub Passes : ℕ → List ℕ → Point → List Bool → Point → List Bool → Type 0
Passes d [] p ks q os = (p ≡ q) × (ks ≡ os)
Passes d (b ∷ bs) p ks q os = OnGoes (next d b p ks) (λ r ls. Passes d bs r ls q os)

pub on_goes : (n : Next) (P Q : Point → List Bool → Type 0) → ((p : Point) (ks : List Bool) → P p ks → Q p ks) → OnGoes n P → OnGoes n Q
on_goes (goes p ks) P Q f h = f p ks h
on_goes stops P Q f h = h
on_goes too_deep P Q f h = h
