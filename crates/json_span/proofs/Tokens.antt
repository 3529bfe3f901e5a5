-- The machine passes literal names, numbers and strings.
use Rattle.std.proofs.Common.{◌≡◌, refl, ap, ◌∙◌, ℕ, ◌+◌, Bool, true, false, List, [], ◌∷◌, ◌++◌, length, arith, length-append}
use Rattle.std.specs.Prelude.{IsTrue, Some, Ok}
use Rattle.json_text.specs.declared.kind.Kind.{Kind}
use Rattle.json_text.specs.declared.kind.Kind.TheVariants as kind
use Rattle.json_text.specs.declared.kind.Word.{Word}
use Rattle.json_text.specs.declared.kind.Word.TheVariants as word_of
use Rattle.json_text.specs.Json.{letters}
use Rattle.json_text.specs.Number.{IsNumber}
use Rattle.json_text.specs.String.{SpellsCharacters}
use Rattle.json_text.specs.Read.{is_number_byte}
use Rattle.json_nodes.specs.declared.node.Node.{Node}
use Rattle.json_nodes.specs.declared.node.Place.{Place}
use Rattle.json_nodes.specs.Nodes.{kind_of_word}
use Rattle.json_token.specs.declared.number.NumberPart.{NumberPart}
use Rattle.json_token.specs.declared.number.NumberMove.{NumberMove}
use Rattle.json_token.specs.declared.number.NumberMove.TheVariants as number
use Rattle.json_token.specs.NumberMoves.{number_move, number_may_end}
use Rattle.json_token.specs.declared.string.Part.{Part}
use Rattle.json_token.specs.declared.string.Part.TheVariants.{Plain}
use Rattle.json_token.specs.declared.string.Move.{Move}
use Rattle.json_token.specs.declared.string.Move.TheVariants as text
use Rattle.json_token.specs.StringMoves.{string_move}
use Rattle.json_token.proofs.Numbers.{rem_move, rem, Passed, number_passed, number_ends}
use Rattle.json_token.proofs.Walks.{walk_move, walk, string_passes}
use Rattle.json_span.specs.declared.word.Begun.TheVariants.{N, F, T}
use Rattle.json_span.specs.declared.class.Class.TheVariants as class
use Rattle.json_span.specs.declared.state.Mode.{Mode}
use Rattle.json_span.specs.declared.state.Mode.TheVariants as mode
use Rattle.json_span.specs.declared.state.Open.{Open}
use Rattle.json_span.specs.Classes.{class_of}
use Rattle.json_span.specs.Machine.{State, state, step, read, finish, leaf, number_ends as ends_number, in_number, in_text, in_key, ◌andthen◌}
use Rattle.json_span.proofs.Runs.{one, starts, start_step, null_class, false_class, true_class, number_class, quote_class}

-- no byte of numbers comes first
abbrev pub NotNumber : List ℕ → Type 0
NotNumber [] = Unit {0}
NotNumber (b ∷ bs) = IsTrue (is_number_byte b) → ⊥

-- literal names

null_passes : (d at : ℕ) (rest : List ℕ) (m : Mode) (name : Place) (os : List Open) (ns : List Node) → starts m ≡ true →
    read d at (110 ∷ 117 ∷ 108 ∷ 108 ∷ rest) (state m name os ns) ≡ read d (at + 1 + 1 + 1 + 1) rest (leaf kind.Null at (at + 1 + 1 + 1 + 1) (state m name os ns))
unfolding step read
null_passes d at rest m name os ns r = one d at 110 (117 ∷ 108 ∷ 108 ∷ rest) (state m name os ns) (state (mode.InWord at N) name os ns) (start_step d at 110 (class.Begins N) m name os ns r refl null_class) ∙ refl

false_passes : (d at : ℕ) (rest : List ℕ) (m : Mode) (name : Place) (os : List Open) (ns : List Node) → starts m ≡ true →
    read d at (102 ∷ 97 ∷ 108 ∷ 115 ∷ 101 ∷ rest) (state m name os ns) ≡ read d (at + 1 + 1 + 1 + 1 + 1) rest (leaf kind.False at (at + 1 + 1 + 1 + 1 + 1) (state m name os ns))
unfolding step read
false_passes d at rest m name os ns r = one d at 102 (97 ∷ 108 ∷ 115 ∷ 101 ∷ rest) (state m name os ns) (state (mode.InWord at F) name os ns) (start_step d at 102 (class.Begins F) m name os ns r refl false_class) ∙ refl

true_passes : (d at : ℕ) (rest : List ℕ) (m : Mode) (name : Place) (os : List Open) (ns : List Node) → starts m ≡ true →
    read d at (116 ∷ 114 ∷ 117 ∷ 101 ∷ rest) (state m name os ns) ≡ read d (at + 1 + 1 + 1 + 1) rest (leaf kind.True at (at + 1 + 1 + 1 + 1) (state m name os ns))
unfolding step read
true_passes d at rest m name os ns r = one d at 116 (114 ∷ 117 ∷ 101 ∷ rest) (state m name os ns) (state (mode.InWord at T) name os ns) (start_step d at 116 (class.Begins T) m name os ns r refl true_class) ∙ refl

at_end : (d to n : ℕ) (rest : List ℕ) (k : Kind) (from : ℕ) (s : State) → to ≡ n → read d to rest (leaf k from to s) ≡ read d n rest (leaf k from n s)
at_end d to n rest k from s e = ap (λ p. read d p rest (leaf k from p s)) e

pub word_passes : (d at n : ℕ) (w : Word) (rest : List ℕ) (m : Mode) (name : Place) (os : List Open) (ns : List Node) → starts m ≡ true → n ≡ at + length (letters w) →
    read d at (letters w ++ rest) (state m name os ns) ≡ read d n rest (leaf (kind_of_word w) at n (state m name os ns))
word_passes d at n word_of.Null rest m name os ns r e = null_passes d at rest m name os ns r ∙ at_end d (at + 1 + 1 + 1 + 1) n rest kind.Null at (state m name os ns) (omega arith)
word_passes d at n word_of.False rest m name os ns r e = false_passes d at rest m name os ns r ∙ at_end d (at + 1 + 1 + 1 + 1 + 1) n rest kind.False at (state m name os ns) (omega arith)
word_passes d at n word_of.True rest m name os ns r e = true_passes d at rest m name os ns r ∙ at_end d (at + 1 + 1 + 1 + 1) n rest kind.True at (state m name os ns) (omega arith)

-- numbers

number_goes : (d at b from : ℕ) (p q : NumberPart) (name : Place) (os : List Open) (ns : List Node) → number_move p b ≡ number.Goes q → step d at b (state (mode.InNumber from p) name os ns) ≡ Ok (state (mode.InNumber from q) name os ns)
unfolding step
number_goes d at b from p q name os ns e = ap (λ k. in_number at from b k (state (mode.InNumber from p) name os ns)) e

-- a number that may end, before a byte that is none of numbers, stands as a value that ended
number_ended : (d at from : ℕ) (p : NumberPart) (rest : List ℕ) (name : Place) (os : List Open) (ns : List Node) → number_may_end p ≡ true → NotNumber rest →
    read d at rest (state (mode.InNumber from p) name os ns) ≡ read d at rest (leaf kind.Number from at (state (mode.InNumber from p) name os ns))
unfolding read step finish
number_ended d at from p [] name os ns e h = ap (λ t. ends_number t at from (state (mode.InNumber from p) name os ns)) e
number_ended d at from p (b ∷ bs) name os ns e h = ap (λ k. in_number at from b k (state (mode.InNumber from p) name os ns) andthen (λ t. read d (at + 1) bs t)) (number_ends p b e h)

number_rest : (d at n from : ℕ) (bs rest : List ℕ) (p : NumberPart) (name : Place) (os : List Open) (ns : List Node) → rem p bs ≡ true → NotNumber rest → n ≡ at + length bs →
    read d at (bs ++ rest) (state (mode.InNumber from p) name os ns) ≡ read d n rest (leaf kind.Number from n (state (mode.InNumber from p) name os ns))
number_rest d at n from [] rest p name os ns h ends e = let same : at ≡ n = omega arith in number_ended d at from p rest name os ns h ends ∙ at_end d at n rest kind.Number from (state (mode.InNumber from p) name os ns) same
number_rest d at n from (b ∷ bs) rest p name os ns h ends e = go (number_move p b) refl h (λ q k. number_rest d (at + 1) n from bs rest q name os ns k ends (omega arith))
  where
    go : (k : NumberMove) → number_move p b ≡ k → rem_move k (λ q. rem q bs) ≡ true →
        ((q : NumberPart) → rem q bs ≡ true → read d (at + 1) (bs ++ rest) (state (mode.InNumber from q) name os ns) ≡ read d n rest (leaf kind.Number from n (state (mode.InNumber from q) name os ns))) →
        read d at (b ∷ (bs ++ rest)) (state (mode.InNumber from p) name os ns) ≡ read d n rest (leaf kind.Number from n (state (mode.InNumber from p) name os ns))
    go (number.Goes q) m k next = one d at b (bs ++ rest) (state (mode.InNumber from p) name os ns) (state (mode.InNumber from q) name os ns) (number_goes d at b from p q name os ns m) ∙ next q k
    go number.Ends m k next = absurd cc
    go number.Stops m k next = absurd cc

begun_passes : (d at n b : ℕ) (bs rest : List ℕ) (p : NumberPart) (m : Mode) (name : Place) (os : List Open) (ns : List Node) → starts m ≡ true → class_of b ≡ class.Number p → rem p bs ≡ true → NotNumber rest → n ≡ at + length bs + 1 →
    read d at (b ∷ (bs ++ rest)) (state m name os ns) ≡ read d n rest (leaf kind.Number at n (state m name os ns))
begun_passes d at n b bs rest p m name os ns r k h ends e =
    one d at b (bs ++ rest) (state m name os ns) (state (mode.InNumber at p) name os ns) (start_step d at b (class.Number p) m name os ns r refl k) ∙
    number_rest d (at + 1) n at bs rest p name os ns h ends (omega arith)

pub number_passes : (d at n : ℕ) (bs rest : List ℕ) (m : Mode) (name : Place) (os : List Open) (ns : List Node) → starts m ≡ true → IsNumber bs → NotNumber rest → n ≡ at + length bs →
    read d at (bs ++ rest) (state m name os ns) ≡ read d n rest (leaf kind.Number at n (state m name os ns))
number_passes d at n bs rest m name os ns r h ends e = go (number_passed bs h)
  where
    go : Passed bs → read d at (bs ++ rest) (state m name os ns) ≡ read d n rest (leaf kind.Number at n (state m name os ns))
    go p = rw p.is (begun_passes d at n p.first p.after rest p.part m name os ns r (number_class p.first p.part p.begins) p.passes ends (omega (arith, ap length p.is)))

-- strings

text_goes : (d at b from : ℕ) (p q : Part) (name : Place) (os : List Open) (ns : List Node) → string_move p b ≡ text.Goes q → step d at b (state (mode.InText from p) name os ns) ≡ Ok (state (mode.InText from q) name os ns)
unfolding step
text_goes d at b from p q name os ns e = ap (λ k. in_text at from k (state (mode.InText from p) name os ns)) e

text_ends : (d at b from : ℕ) (p : Part) (name : Place) (os : List Open) (ns : List Node) → string_move p b ≡ text.Ends → step d at b (state (mode.InText from p) name os ns) ≡ Ok (leaf kind.Text from (at + 1) (state (mode.InText from p) name os ns))
unfolding step
text_ends d at b from p name os ns e = ap (λ k. in_text at from k (state (mode.InText from p) name os ns)) e

text_walks : (d at n from : ℕ) (bs rest : List ℕ) (p : Part) (name : Place) (os : List Open) (ns : List Node) → walk p bs ≡ Some rest → n + length rest ≡ at + length bs →
    read d at bs (state (mode.InText from p) name os ns) ≡ read d n rest (leaf kind.Text from n (state (mode.InText from p) name os ns))
text_walks d at n from [] rest p name os ns h e = absurd cc
text_walks d at n from (b ∷ bs) rest p name os ns h e = go (string_move p b) refl h (λ q k. text_walks d (at + 1) n from bs rest q name os ns k (omega arith))
  where
    same : Some bs ≡ Some rest → bs ≡ rest
    same h = cc

    go : (k : Move) → string_move p b ≡ k → walk_move k bs (λ q. walk q bs) ≡ Some rest →
        ((q : Part) → walk q bs ≡ Some rest → read d (at + 1) bs (state (mode.InText from q) name os ns) ≡ read d n rest (leaf kind.Text from n (state (mode.InText from q) name os ns))) →
        read d at (b ∷ bs) (state (mode.InText from p) name os ns) ≡ read d n rest (leaf kind.Text from n (state (mode.InText from p) name os ns))
    go (text.Goes q) m k next = one d at b bs (state (mode.InText from p) name os ns) (state (mode.InText from q) name os ns) (text_goes d at b from p q name os ns m) ∙ next q k
    go text.Ends m k next = one d at b bs (state (mode.InText from p) name os ns) (leaf kind.Text from (at + 1) (state (mode.InText from p) name os ns)) (text_ends d at b from p name os ns m) ∙
        (ap (λ bs. read d (at + 1) bs (leaf kind.Text from (at + 1) (state (mode.InText from p) name os ns))) (same k) ∙ at_end d (at + 1) n rest kind.Text from (state (mode.InText from p) name os ns) (omega (arith, ap length (same k))))
    go text.Stops m k next = absurd cc

pub text_passes : (d at n : ℕ) (cs bs rest : List ℕ) (m : Mode) (name : Place) (os : List Open) (ns : List Node) → starts m ≡ true → SpellsCharacters cs bs → n ≡ at + length bs + 2 →
    read d at (34 ∷ (bs ++ 34 ∷ rest)) (state m name os ns) ≡ read d n rest (leaf kind.Text at n (state m name os ns))
text_passes d at n cs bs rest m name os ns r h e =
    one d at 34 (bs ++ 34 ∷ rest) (state m name os ns) (state (mode.InText at Plain) name os ns) (start_step d at 34 class.Quote m name os ns r refl quote_class) ∙
    text_walks d (at + 1) n at (bs ++ 34 ∷ rest) rest Plain name os ns (string_passes cs bs rest h) (omega (arith, length-append bs (34 ∷ rest)))

-- names

abbrev pub keyed : ℕ → ℕ → List Open → List Node → State
keyed from to os ns = state mode.Colon (record { from = from; to = to }) os ns

-- where a name may begin
abbrev pub names : Mode → Bool
names mode.FirstKey = true
names mode.NextKey = true
names _ = false

key_begins : (d at : ℕ) (m : Mode) (name : Place) (os : List Open) (ns : List Node) → names m ≡ true → step d at 34 (state m name os ns) ≡ Ok (state (mode.InKey at Plain) name os ns)
unfolding step class_of
key_begins d at mode.FirstKey name os ns r = refl
key_begins d at mode.NextKey name os ns r = refl
key_begins d at _ name os ns r = absurd cc

key_goes : (d at b from : ℕ) (p q : Part) (name : Place) (os : List Open) (ns : List Node) → string_move p b ≡ text.Goes q → step d at b (state (mode.InKey from p) name os ns) ≡ Ok (state (mode.InKey from q) name os ns)
unfolding step
key_goes d at b from p q name os ns e = ap (λ k. in_key at from k (state (mode.InKey from p) name os ns)) e

key_ends : (d at b from : ℕ) (p : Part) (name : Place) (os : List Open) (ns : List Node) → string_move p b ≡ text.Ends → step d at b (state (mode.InKey from p) name os ns) ≡ Ok (keyed from (at + 1) os ns)
unfolding step
key_ends d at b from p name os ns e = ap (λ k. in_key at from k (state (mode.InKey from p) name os ns)) e

key_walks : (d at n from : ℕ) (bs rest : List ℕ) (p : Part) (name : Place) (os : List Open) (ns : List Node) → walk p bs ≡ Some rest → n + length rest ≡ at + length bs →
    read d at bs (state (mode.InKey from p) name os ns) ≡ read d n rest (keyed from n os ns)
key_walks d at n from [] rest p name os ns h e = absurd cc
key_walks d at n from (b ∷ bs) rest p name os ns h e = go (string_move p b) refl h (λ q k. key_walks d (at + 1) n from bs rest q name os ns k (omega arith))
  where
    same : Some bs ≡ Some rest → bs ≡ rest
    same h = cc

    place : bs ≡ rest → at + 1 ≡ n
    place h = omega (arith, ap length h)

    go : (k : Move) → string_move p b ≡ k → walk_move k bs (λ q. walk q bs) ≡ Some rest →
        ((q : Part) → walk q bs ≡ Some rest → read d (at + 1) bs (state (mode.InKey from q) name os ns) ≡ read d n rest (keyed from n os ns)) →
        read d at (b ∷ bs) (state (mode.InKey from p) name os ns) ≡ read d n rest (keyed from n os ns)
    go (text.Goes q) m k next = one d at b bs (state (mode.InKey from p) name os ns) (state (mode.InKey from q) name os ns) (key_goes d at b from p q name os ns m) ∙ next q k
    go text.Ends m k next = one d at b bs (state (mode.InKey from p) name os ns) (keyed from (at + 1) os ns) (key_ends d at b from p name os ns m) ∙
        (ap (λ bs. read d (at + 1) bs (keyed from (at + 1) os ns)) (same k) ∙ ap (λ p. read d p rest (keyed from p os ns)) (place (same k)))
    go text.Stops m k next = absurd cc

pub key_passes : (d at n : ℕ) (cs bs rest : List ℕ) (m : Mode) (name : Place) (os : List Open) (ns : List Node) → names m ≡ true → SpellsCharacters cs bs → n ≡ at + length bs + 2 →
    read d at (34 ∷ (bs ++ 34 ∷ rest)) (state m name os ns) ≡ read d n rest (keyed at n os ns)
key_passes d at n cs bs rest m name os ns r h e =
    one d at 34 (bs ++ 34 ∷ rest) (state m name os ns) (state (mode.InKey at Plain) name os ns) (key_begins d at m name os ns r) ∙
    key_walks d (at + 1) n at (bs ++ 34 ∷ rest) rest Plain name os ns (string_passes cs bs rest h) (omega (arith, length-append bs (34 ∷ rest)))
