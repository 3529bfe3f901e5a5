-- The reader as a machine over lists: what a byte does to where it stands.
use Rattle.std.specs.Prelude.{ℕ, ◌+◌, Bool, true, false, List, [], ◌∷◌, ◌++◌, length, nat_lt, if◌then◌else◌, slice_get, slice_set}
use Rattle.std.specs.Prelude.{Option, Some, None, Result, Ok, Err}
use Rattle.json_text.specs.declared.kind.Kind.{Kind}
use Rattle.json_text.specs.declared.kind.Kind.TheVariants as kind
use Rattle.json_nodes.specs.declared.node.Node.{Node}
use Rattle.json_nodes.specs.declared.node.Place.{Place}
use Rattle.json_nodes.specs.Nodes.{unnamed, kind_of_word}
use Rattle.json_token.specs.declared.number.NumberMove.{NumberMove}
use Rattle.json_token.specs.declared.number.NumberMove.TheVariants as number
use Rattle.json_token.specs.NumberMoves.{number_move, number_may_end}
use Rattle.json_token.specs.declared.string.Part.TheVariants.{Plain}
use Rattle.json_token.specs.declared.string.Move.{Move}
use Rattle.json_token.specs.declared.string.Move.TheVariants as text
use Rattle.json_token.specs.StringMoves.{string_move}
use Rattle.json_span.specs.declared.word.WordMove.{WordMove}
use Rattle.json_span.specs.declared.word.WordMove.TheVariants as word
use Rattle.json_span.specs.Words.{word_move}
use Rattle.json_span.specs.declared.class.Class.{Class}
use Rattle.json_span.specs.declared.class.Class.TheVariants as class
use Rattle.json_span.specs.Classes.{class_of}
use Rattle.json_span.specs.declared.state.Mode.{Mode}
use Rattle.json_span.specs.declared.state.Mode.TheVariants as mode
use Rattle.json_span.specs.declared.state.Open.{Open}

-- the innermost bracket comes first
pub record State : Type 0 where
  pub mode : Mode
  pub name : Place
  pub stack : List Open
  pub nodes : List Node

abbrev pub state : Mode → Place → List Open → List Node → State
state m name os ns = record { mode = m; name = name; stack = os; nodes = ns }

-- why the machine stops at a byte, with the byte's place
pub data Fault : Type 0 where
  syntax : ℕ → Fault
  deep : ℕ → Fault

abbrev pub start : State
start = state mode.Value unnamed [] []

abbrev pub opened : Bool → ℕ → Open
opened object i = record { object = object; node = i }

-- the node of a value from `from` to `to`, as the next one
abbrev pub node_at : Kind → ℕ → Place → List Open → List Node → ℕ → Node
node_at k from name os ns to = record { kind = k; level = length os; from = from; to = to; after = length ns + 1; name = name }

-- behind a value that is no array and no object
abbrev pub leaf : Kind → ℕ → ℕ → State → State
leaf k from to s = state mode.After unnamed s.stack (s.nodes ++ node_at k from s.name s.stack s.nodes to ∷ [])

abbrev pub kind_of_open : Bool → Kind
kind_of_open true = kind.Object
kind_of_open false = kind.Array

abbrev pub first_in : Bool → Mode
first_in true = mode.FirstKey
first_in false = mode.FirstItem

abbrev pub opens : ℕ → ℕ → Bool → State → Result State Fault
opens d at object s = if nat_lt (length s.stack) d
    then Ok (state (first_in object) unnamed (opened object (length s.nodes) ∷ s.stack) (s.nodes ++ node_at (kind_of_open object) at s.name s.stack s.nodes at ∷ []))
    else Err (deep at)

-- a node whose value ends at `to`, behind all nodes so far
abbrev pub closed_node : Option Node → ℕ → ℕ → List Node → List Node
closed_node (Some node) i to ns = slice_set ns i (record node { to = to; after = length ns })
closed_node None i to ns = ns

abbrev pub close_node : ℕ → ℕ → List Node → List Node
close_node i to ns = closed_node (slice_get ns i) i to ns

abbrev pub closes_if : Bool → ℕ → Open → List Open → State → Result State Fault
closes_if true at o os s = Ok (state mode.After unnamed os (close_node o.node (at + 1) s.nodes))
closes_if false at o os s = Err (syntax at)

abbrev pub same_kind : Bool → Bool → Bool
same_kind true b = b
same_kind false true = false
same_kind false false = true

-- a closing bracket, where the innermost open one is to be of this kind
abbrev pub closes : ℕ → Bool → List Open → State → Result State Fault
closes at object [] s = Err (syntax at)
closes at object (o ∷ os) s = closes_if (same_kind o.object object) at o os s

-- a byte where a value may begin
abbrev pub begins : ℕ → ℕ → Class → State → Result State Fault
begins d at class.Space s = Ok s
begins d at class.Quote s = Ok (record s { mode = mode.InText at Plain })
begins d at class.OpenArray s = opens d at false s
begins d at class.OpenObject s = opens d at true s
begins d at (class.Begins w) s = Ok (record s { mode = mode.InWord at w })
begins d at (class.Number p) s = Ok (record s { mode = mode.InNumber at p })
begins d at _ s = Err (syntax at)

abbrev pub first_item : ℕ → ℕ → Class → State → Result State Fault
first_item d at class.CloseArray s = closes at false s.stack s
first_item d at k s = begins d at k s

abbrev pub next_key : ℕ → Class → State → Result State Fault
next_key at class.Space s = Ok s
next_key at class.Quote s = Ok (record s { mode = mode.InKey at Plain })
next_key at _ s = Err (syntax at)

abbrev pub first_key : ℕ → Class → State → Result State Fault
first_key at class.CloseObject s = closes at true s.stack s
first_key at k s = next_key at k s

abbrev pub colon : ℕ → Class → State → Result State Fault
colon at class.Space s = Ok s
colon at class.Colon s = Ok (record s { mode = mode.Value })
colon at _ s = Err (syntax at)

abbrev pub next_in : Bool → Mode
next_in true = mode.NextKey
next_in false = mode.Value

-- a comma
abbrev pub continues : ℕ → List Open → State → Result State Fault
continues at [] s = Err (syntax at)
continues at (o ∷ os) s = Ok (record s { mode = next_in o.object })

-- a byte behind a value
abbrev pub behind : ℕ → Class → State → Result State Fault
behind at class.Space s = Ok s
behind at class.Comma s = continues at s.stack s
behind at class.CloseArray s = closes at false s.stack s
behind at class.CloseObject s = closes at true s.stack s
behind at _ s = Err (syntax at)

abbrev pub in_word : ℕ → ℕ → WordMove → State → Result State Fault
in_word at from (word.Goes q) s = Ok (record s { mode = mode.InWord from q })
in_word at from (word.Ends w) s = Ok (leaf (kind_of_word w) from (at + 1) s)
in_word at from word.Stops s = Err (syntax at)

-- a byte that ends a number stands behind it
abbrev pub in_number : ℕ → ℕ → ℕ → NumberMove → State → Result State Fault
in_number at from b (number.Goes q) s = Ok (record s { mode = mode.InNumber from q })
in_number at from b number.Ends s = behind at (class_of b) (leaf kind.Number from at s)
in_number at from b number.Stops s = Err (syntax at)

abbrev pub in_text : ℕ → ℕ → Move → State → Result State Fault
in_text at from (text.Goes q) s = Ok (record s { mode = mode.InText from q })
in_text at from text.Ends s = Ok (leaf kind.Text from (at + 1) s)
in_text at from text.Stops s = Err (syntax at)

abbrev pub in_key : ℕ → ℕ → Move → State → Result State Fault
in_key at from (text.Goes q) s = Ok (record s { mode = mode.InKey from q })
in_key at from text.Ends s = Ok (record s { mode = mode.Colon; name = record { from = from; to = at + 1 } })
in_key at from text.Stops s = Err (syntax at)

abbrev pub step_in : ℕ → ℕ → ℕ → Mode → State → Result State Fault
step_in d at b mode.Value s = begins d at (class_of b) s
step_in d at b mode.FirstItem s = first_item d at (class_of b) s
step_in d at b mode.FirstKey s = first_key at (class_of b) s
step_in d at b mode.NextKey s = next_key at (class_of b) s
step_in d at b mode.Colon s = colon at (class_of b) s
step_in d at b mode.After s = behind at (class_of b) s
step_in d at b (mode.InWord from p) s = in_word at from (word_move p b) s
step_in d at b (mode.InNumber from p) s = in_number at from b (number_move p b) s
step_in d at b (mode.InText from p) s = in_text at from (string_move p b) s
step_in d at b (mode.InKey from p) s = in_key at from (string_move p b) s

-- the byte b at a place, with at most d brackets open at once
unfoldable pub step : ℕ → ℕ → ℕ → State → Result State Fault
step d at b s = step_in d at b s.mode s

abbrev pub ends_with : List Open → ℕ → List Node → Result (List Node) Fault
ends_with [] at ns = Ok ns
ends_with (o ∷ os) at ns = Err (syntax at)

abbrev pub number_ends : Bool → ℕ → ℕ → State → Result (List Node) Fault
number_ends true at from s = ends_with s.stack at (leaf kind.Number from at s).nodes
number_ends false at from s = Err (syntax at)

abbrev pub finish_in : ℕ → Mode → State → Result (List Node) Fault
finish_in at mode.After s = ends_with s.stack at s.nodes
finish_in at (mode.InNumber from p) s = number_ends (number_may_end p) at from s
finish_in at _ s = Err (syntax at)

-- the bytes end at a place
unfoldable pub finish : ℕ → State → Result (List Node) Fault
finish at s = finish_in at s.mode s

infixr 10 ◌andthen◌
abbrev pub ◌andthen◌ : {A : Type 0} → Result State Fault → (State → Result A Fault) → Result A Fault
(Ok s) andthen f = f s
(Err e) andthen f = Err e

-- these bytes, and more may come
unfoldable pub run : ℕ → ℕ → List ℕ → State → Result State Fault
run d at [] s = Ok s
run d at (b ∷ bs) s = step d at b s andthen (λ t. run d (at + 1) bs t)

-- these bytes, and then the end
unfoldable pub read : ℕ → ℕ → List ℕ → State → Result (List Node) Fault
read d at [] s = finish at s
read d at (b ∷ bs) s = step d at b s andthen (λ t. read d (at + 1) bs t)
