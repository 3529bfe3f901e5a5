-- RFC 8259: which bytes are a JSON text, and the tree that they stand for, with the place of each value.
use Rattle.std.specs.Prelude.{◌≡◌, ℕ, ◌+◌, max, Bool, ◌||◌, List, [], ◌∷◌, ◌++◌, length, ◌==◌, IsTrue, codes}
use Rattle.std.specs.List.{AllByRecursion}
use Rattle.json_text.specs.declared.span.Span.{Span}
use Rattle.json_text.specs.declared.kind.Word.{Word}
use Rattle.json_text.specs.declared.kind.Word.TheVariants.{Null, False, True}
use Rattle.json_text.specs.Number.{IsNumber}
use Rattle.json_text.specs.String.{SpellsCharacters}

mutual
  pub data Json : Type 0 where
    word : Span → Word → Json
    number : Span → List ℕ → Json
    string : Span → List ℕ → Json
    array : Span → Items → Json
    object : Span → Members → Json

  pub data Items : Type 0 where
    no_items : Items
    item : Json → Items → Items

  -- a member: the span of its name, with the quotation marks, the characters of the name, and the value
  pub data Members : Type 0 where
    no_members : Members
    member : Span → List ℕ → Json → Members → Members

-- which bytes may stand at a place
abbrev pub Rule : Type 1
Rule = ℕ → List ℕ → Type 0

-- first the one, then the other
infixr 20 ◌then◌
abbrev pub ◌then◌ : Rule → Rule → Rule
(P then Q) at bs = (a b : List ℕ) × (bs ≡ a ++ b) × P at a × Q (at + length a) b

abbrev pub byte : ℕ → Rule
byte c at bs = bs ≡ c ∷ []

abbrev pub nothing : Rule
nothing at bs = bs ≡ []

-- the rule's bytes stand in this span
abbrev pub spans : Span → Rule → Rule
spans s P at bs = P at bs × (s ≡ record { from = at; to = at + length bs })

-- ws = *( space, horizontal tab, line feed, carriage return )
abbrev pub is_space : ℕ → Bool
is_space b = (b == 32) || ((b == 9) || ((b == 10) || (b == 13)))

abbrev pub space : Rule
space at bs = AllByRecursion (λ b. IsTrue (is_space b)) bs

abbrev pub letters : Word → List ℕ
letters Null = codes "null"
letters False = codes "false"
letters True = codes "true"

abbrev pub spells : List ℕ → Rule
spells cs at bs = SpellsCharacters cs bs

abbrev pub quoted : List ℕ → Rule
quoted cs = byte 34 then spells cs then byte 34

-- member = string name-separator value
abbrev pub pair : Span → List ℕ → Rule → Rule
pair s cs P = spans s (quoted cs) then space then byte 58 then space then P

abbrev mutual
  pub value : Json → Rule
  value (word s w) = spans s (λ at bs. bs ≡ letters w)
  value (number s ds) = spans s (λ at bs. (bs ≡ ds) × IsNumber ds)
  value (string s cs) = spans s (quoted cs)
  value (array s js) = spans s (byte 91 then items js then byte 93)
  value (object s ms) = spans s (byte 123 then members ms then byte 125)

  pub items : Items → Rule
  items no_items = space
  items (item j js) = space then value j then space then more_items js

  pub more_items : Items → Rule
  more_items no_items = nothing
  more_items (item j js) = byte 44 then space then value j then space then more_items js

  pub members : Members → Rule
  members no_members = space
  members (member s cs j ms) = space then pair s cs (value j) then space then more_members ms

  pub more_members : Members → Rule
  more_members no_members = nothing
  more_members (member s cs j ms) = byte 44 then space then pair s cs (value j) then space then more_members ms

-- JSON-text = ws value ws
abbrev pub IsText : List ℕ → Json → Type 0
IsText bytes j = (space then value j then space) 0 bytes

-- how many arrays and objects are open at once
abbrev mutual
  pub depth : Json → ℕ
  depth (word s w) = 0
  depth (number s ds) = 0
  depth (string s cs) = 0
  depth (array s js) = 1 + items_depth js
  depth (object s ms) = 1 + members_depth ms

  pub items_depth : Items → ℕ
  items_depth no_items = 0
  items_depth (item j js) = max (depth j) (items_depth js)

  pub members_depth : Members → ℕ
  members_depth no_members = 0
  members_depth (member s cs j ms) = max (depth j) (members_depth ms)

-- where a value stands
abbrev pub span_of : Json → Span
span_of (word s w) = s
span_of (number s ds) = s
span_of (string s cs) = s
span_of (array s js) = s
span_of (object s ms) = s
