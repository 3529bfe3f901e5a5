-- The machine and its shape go together.
use Rattle.std.proofs.Common.{◌≡◌, ℕ, suc, ◌+◌, List, [], ◌∷◌, length, refl, ap}
use Rattle.std.specs.Prelude.{Bool, true, false, IsTrue, nat_lt, if◌then◌else◌}
use Rattle.std.specs.Prelude.{Result, Ok, Err}
use Rattle.json_nodes.specs.declared.node.Node.{Node}
use Rattle.json_nodes.specs.declared.node.Place.{Place}
use Rattle.json_nodes.specs.Nodes.{unnamed}
use Rattle.json_text.specs.declared.kind.Kind.TheVariants as kind
use Rattle.json_token.specs.declared.number.NumberMove.{NumberMove}
use Rattle.json_token.specs.declared.number.NumberMove.TheVariants as number_moves
use Rattle.json_token.specs.NumberMoves.{number_move, number_may_end}
use Rattle.json_token.specs.declared.string.Move.{Move}
use Rattle.json_token.specs.declared.string.Move.TheVariants as moves
use Rattle.json_token.specs.StringMoves.{string_move}
use Rattle.json_span.specs.declared.word.WordMove.{WordMove}
use Rattle.json_span.specs.declared.word.WordMove.TheVariants as word_moves
use Rattle.json_span.specs.Words.{word_move}
use Rattle.json_span.specs.declared.class.Class.{Class}
use Rattle.json_span.specs.declared.class.Class.TheVariants as class
use Rattle.json_span.specs.Classes.{class_of}
use Rattle.json_span.specs.declared.state.Mode.{Mode}
use Rattle.json_span.specs.declared.state.Mode.TheVariants as mode
use Rattle.json_span.specs.declared.state.Open.{Open}
use Rattle.json_span.specs.Machine as machine
use Rattle.json_span.specs.Machine.{State, state, Fault, syntax, deep, step, step_in, finish, finish_in, run, read, ◌andthen◌, same_kind}
use Rattle.json_span.proofs.Shape as shape
use Rattle.json_span.proofs.Shape.{Point, value, first_item, first_name, name, colon, after, word, number, quoted, Next, goes, stops, too_deep, next, NoneOpen, MayEnd, OnGoes, Accepts}

abbrev pub point_of : Mode → Point
point_of mode.Value = value
point_of mode.FirstItem = first_item
point_of mode.FirstKey = first_name
point_of mode.NextKey = name
point_of mode.Colon = colon
point_of mode.After = after
point_of (mode.InWord from w) = word w
point_of (mode.InNumber from p) = number p
point_of (mode.InText from p) = quoted after p
point_of (mode.InKey from p) = quoted colon p

abbrev pub kinds : List Open → List Bool
kinds [] = []
kinds (o ∷ os) = o.object ∷ kinds os

pub length-kinds : (os : List Open) → length (kinds os) ≡ length os
length-kinds [] = refl
length-kinds (o ∷ os) = ap suc (length-kinds os)

-- the machine's step, at a place, is the shape's
abbrev pub Matches : ℕ → Result State Fault → Next → Type 0
Matches at (Ok s) (goes p ks) = (point_of s.mode ≡ p) × (kinds s.stack ≡ ks)
Matches at (Ok s) _ = ⊥
Matches at (Err (syntax p)) stops = p ≡ at
Matches at (Err (syntax p)) _ = ⊥
Matches at (Err (deep p)) too_deep = p ≡ at
Matches at (Err (deep p)) _ = ⊥

point_first : (object : Bool) → point_of (machine.first_in object) ≡ shape.first_in object
point_first true = refl
point_first false = refl

point_next : (object : Bool) → point_of (machine.next_in object) ≡ shape.next_in object
point_next true = refl
point_next false = refl

opened_match : (at : ℕ) (u : State) (p : Point) (ks : List Bool) (t : Bool) → point_of u.mode ≡ p → kinds u.stack ≡ ks
    → Matches at (if t then Ok u else Err (deep at)) (if t then goes p ks else too_deep)
opened_match at u p ks true e f = (e, f)
opened_match at u p ks false e f = refl

opens_match : (d at : ℕ) (object : Bool) (m : Mode) (place : Place) (os : List Open) (ns : List Node) → Matches at (machine.opens d at object (state m place os ns)) (shape.opens d object (kinds os))
opens_match d at object m place os ns = rw (length-kinds os) (opened_match at _ (shape.first_in object) (object ∷ kinds os) (nat_lt (length os) d) (point_first object) refl)

closes_match : (at : ℕ) (object : Bool) (m : Mode) (place : Place) (os : List Open) (ns : List Node) → Matches at (machine.closes at object os (state m place os ns)) (shape.closes object (kinds os))
closes_match at object m place [] ns = refl
closes_match at object m place (o ∷ os) ns = pick (same_kind o.object object)
  where
    pick : (t : Bool) → Matches at (machine.closes_if t at o os (state m place (o ∷ os) ns)) (shape.closes_if t (kinds os))
    pick true = (refl, refl)
    pick false = refl

continues_match : (at : ℕ) (m : Mode) (place : Place) (os : List Open) (ns : List Node) → Matches at (machine.continues at os (state m place os ns)) (shape.continues (kinds os))
continues_match at m place [] ns = refl
continues_match at m place (o ∷ os) ns = (point_next o.object, refl)

begins_match : (d at : ℕ) (k : Class) (place : Place) (os : List Open) (ns : List Node) → Matches at (machine.begins d at k (state mode.Value place os ns)) (shape.begins d k (kinds os))
begins_match d at class.Space place os ns = (refl, refl)
begins_match d at class.Quote place os ns = (refl, refl)
begins_match d at class.OpenArray place os ns = opens_match d at false mode.Value place os ns
begins_match d at class.OpenObject place os ns = opens_match d at true mode.Value place os ns
begins_match d at (class.Begins w) place os ns = (refl, refl)
begins_match d at (class.Number p) place os ns = (refl, refl)
begins_match d at k place os ns = refl

item_match : (d at : ℕ) (k : Class) (place : Place) (os : List Open) (ns : List Node) → Matches at (machine.first_item d at k (state mode.FirstItem place os ns)) (shape.begins_item d k (kinds os))
item_match d at class.Space place os ns = (refl, refl)
item_match d at class.CloseArray place os ns = closes_match at false mode.FirstItem place os ns
item_match d at class.Quote place os ns = (refl, refl)
item_match d at class.OpenArray place os ns = opens_match d at false mode.FirstItem place os ns
item_match d at class.OpenObject place os ns = opens_match d at true mode.FirstItem place os ns
item_match d at (class.Begins w) place os ns = (refl, refl)
item_match d at (class.Number p) place os ns = (refl, refl)
item_match d at k place os ns = refl

key_match : (at : ℕ) (k : Class) (place : Place) (os : List Open) (ns : List Node) → Matches at (machine.next_key at k (state mode.NextKey place os ns)) (shape.begins_name name k (kinds os))
key_match at class.Space place os ns = (refl, refl)
key_match at class.Quote place os ns = (refl, refl)
key_match at k place os ns = refl

first_key_match : (at : ℕ) (k : Class) (place : Place) (os : List Open) (ns : List Node) → Matches at (machine.first_key at k (state mode.FirstKey place os ns)) (shape.begins_first_name k (kinds os))
first_key_match at class.Space place os ns = (refl, refl)
first_key_match at class.Quote place os ns = (refl, refl)
first_key_match at class.CloseObject place os ns = closes_match at true mode.FirstKey place os ns
first_key_match at k place os ns = refl

colon_match : (at : ℕ) (k : Class) (place : Place) (os : List Open) (ns : List Node) → Matches at (machine.colon at k (state mode.Colon place os ns)) (shape.at_colon k (kinds os))
colon_match at class.Space place os ns = (refl, refl)
colon_match at class.Colon place os ns = (refl, refl)
colon_match at k place os ns = refl

behind_match : (at : ℕ) (k : Class) (place : Place) (os : List Open) (ns : List Node) → Matches at (machine.behind at k (state mode.After place os ns)) (shape.behind k (kinds os))
behind_match at class.Space place os ns = (refl, refl)
behind_match at class.Comma place os ns = continues_match at mode.After place os ns
behind_match at class.CloseArray place os ns = closes_match at false mode.After place os ns
behind_match at class.CloseObject place os ns = closes_match at true mode.After place os ns
behind_match at k place os ns = refl

word_match : (at from : ℕ) (v : WordMove) (m : Mode) (place : Place) (os : List Open) (ns : List Node) → Matches at (machine.in_word at from v (state m place os ns)) (shape.in_word v (kinds os))
word_match at from (word_moves.Goes q) m place os ns = (refl, refl)
word_match at from (word_moves.Ends w) m place os ns = (refl, refl)
word_match at from word_moves.Stops m place os ns = refl

number_match : (at from b : ℕ) (v : NumberMove) (m : Mode) (place : Place) (os : List Open) (ns : List Node) → Matches at (machine.in_number at from b v (state m place os ns)) (shape.in_number b v (kinds os))
number_match at from b (number_moves.Goes q) m place os ns = (refl, refl)
number_match at from b number_moves.Ends m place os ns = behind_match at (class_of b) unnamed os (machine.leaf kind.Number from at (state m place os ns)).nodes
number_match at from b number_moves.Stops m place os ns = refl

text_match : (at from : ℕ) (v : Move) (m : Mode) (place : Place) (os : List Open) (ns : List Node) → Matches at (machine.in_text at from v (state m place os ns)) (shape.in_string after v (kinds os))
text_match at from (moves.Goes q) m place os ns = (refl, refl)
text_match at from moves.Ends m place os ns = (refl, refl)
text_match at from moves.Stops m place os ns = refl

in_key_match : (at from : ℕ) (v : Move) (m : Mode) (place : Place) (os : List Open) (ns : List Node) → Matches at (machine.in_key at from v (state m place os ns)) (shape.in_string colon v (kinds os))
in_key_match at from (moves.Goes q) m place os ns = (refl, refl)
in_key_match at from moves.Ends m place os ns = (refl, refl)
in_key_match at from moves.Stops m place os ns = refl

mode_matches : (d at b : ℕ) (m : Mode) (place : Place) (os : List Open) (ns : List Node) → Matches at (step_in d at b m (state m place os ns)) (next d b (point_of m) (kinds os))
mode_matches d at b mode.Value place os ns = begins_match d at (class_of b) place os ns
mode_matches d at b mode.FirstItem place os ns = item_match d at (class_of b) place os ns
mode_matches d at b mode.FirstKey place os ns = first_key_match at (class_of b) place os ns
mode_matches d at b mode.NextKey place os ns = key_match at (class_of b) place os ns
mode_matches d at b mode.Colon place os ns = colon_match at (class_of b) place os ns
mode_matches d at b mode.After place os ns = behind_match at (class_of b) place os ns
mode_matches d at b (mode.InWord from p) place os ns = word_match at from (word_move p b) (mode.InWord from p) place os ns
mode_matches d at b (mode.InNumber from p) place os ns = number_match at from b (number_move p b) (mode.InNumber from p) place os ns
mode_matches d at b (mode.InText from p) place os ns = text_match at from (string_move p b) (mode.InText from p) place os ns
mode_matches d at b (mode.InKey from p) place os ns = in_key_match at from (string_move p b) (mode.InKey from p) place os ns

pub step_matches : (d at b : ℕ) (s : State) → Matches at (step d at b s) (next d b (point_of s.mode) (kinds s.stack))
unfolding step
step_matches d at b s = mode_matches d at b s.mode s.name s.stack s.nodes

-- where the bytes end
none_open : (os : List Open) (at : ℕ) (ns r : List Node) → machine.ends_with os at ns ≡ Ok r → NoneOpen (kinds os)
none_open [] at ns r h = tt
none_open (o ∷ os) at ns r h = cc

number_end : (t : Bool) (at from : ℕ) (s : State) (r : List Node) → machine.number_ends t at from s ≡ Ok r → IsTrue t × NoneOpen (kinds s.stack)
number_end true at from s r h = (refl, none_open s.stack at (machine.leaf kind.Number from at s).nodes r h)
number_end false at from s r h = cc

mode_ends : (at : ℕ) (m : Mode) (s : State) (r : List Node) → finish_in at m s ≡ Ok r → MayEnd (point_of m) (kinds s.stack)
mode_ends at mode.After s r h = none_open s.stack at s.nodes r h
mode_ends at (mode.InNumber from p) s r h = number_end (number_may_end p) at from s r h
mode_ends at _ s r h = cc

-- what the machine reads its shape accepts
on_step : (d at : ℕ) (bs : List ℕ) (r : List Node) (g : Result State Fault) (n : Next) → Matches at g n
    → ((t : State) → read d (at + 1) bs t ≡ Ok r → Accepts d bs (point_of t.mode) (kinds t.stack))
    → (g andthen (λ t. read d (at + 1) bs t)) ≡ Ok r → OnGoes n (λ q os. Accepts d bs q os)
on_step d at bs r (Ok s) (goes p ks) m f h = rw (← m.0, ← m.1) (f s h)
on_step d at bs r (Ok s) stops m f h = absurd m
on_step d at bs r (Ok s) too_deep m f h = absurd m
on_step d at bs r (Err e) n m f h = cc

pub read_accepts : (d at : ℕ) (bs : List ℕ) (s : State) (r : List Node) → read d at bs s ≡ Ok r → Accepts d bs (point_of s.mode) (kinds s.stack)
unfolding read finish
read_accepts d at [] s r h = mode_ends at s.mode s r h
read_accepts d at (b ∷ bs) s r h = on_step d at bs r (step d at b s) (next d b (point_of s.mode) (kinds s.stack)) (step_matches d at b s) (λ t g. read_accepts d (at + 1) bs t r g) h
