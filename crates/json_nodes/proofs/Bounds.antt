-- How many nodes a text has, and that each value's number is below that.
use Rattle.std.proofs.Common.{◌≡◌, Some, zero, suc, ℕ, ◌+◌, ◌<◌, ◌≤◌, List, ◌++◌, length, inl, inr, ap, arith, length-append}
use Rattle.std.proofs.lemmas.Option.{slice_get_within}
use Rattle.std.specs.List.{slice_get}
use Rattle.json_text.specs.declared.span.Span.{Span}
use Rattle.json_text.specs.declared.kind.Word.{Word}
use Rattle.json_text.specs.declared.kind.Word.TheVariants.{Null, False, True}
use Rattle.json_text.specs.Json.{Json, word, number, string, array, object, Items, no_items, item, Members, no_members, member, Rule, ◌then◌, byte, spans, spells, space, quoted, pair, value, items, more_items, members, more_members, letters, IsText, depth, items_depth, members_depth}
use Rattle.json_text.specs.Named.{children, items_list, values_list}
use Rattle.json_text.specs.Number.{IsNumber, IsWhole}
use Rattle.json_nodes.specs.At.{At}
use Rattle.json_nodes.specs.Doc.{Doc, Holds}
use Rattle.json_nodes.specs.Nodes.{size, items_size, members_size, unnamed}
use Rattle.json_nodes.proofs.Looks.{Here, here_at, head_at}
use Rattle.json_nodes.specs.Nodes.{head_node}
use Rattle.json_nodes.proofs.Numbers.{root_at}
use Rattle.json_nodes.proofs.Tree.{everywhere, nodes_length}

-- a value's number is a node's
pub at_inside : {doc : Doc} {k : ℕ} {t : Json} → At doc k t → k < length doc.nodes
at_inside {doc} {k} {t} a = let h : Here doc.nodes k t = here_at a in slice_get_within doc.nodes k (head_node h.level k h.placed.name t) (head_at doc.nodes h.level k t h.placed)

pub root_inside : (doc : Doc) (j : Json) → Holds doc j → 0 < length doc.nodes
root_inside doc j h = at_inside (root_at doc j h)

-- each value takes a byte of its own

letters_long : (w : Word) → 1 ≤ length (letters w)
letters_long Null = omega arith
letters_long False = omega arith
letters_long True = omega arith

whole_long : (bs : List ℕ) → IsWhole bs → 1 ≤ length bs
whole_long bs (inl e) = omega (arith, ap length e)
whole_long bs (inr q) = omega (arith, ap length q.4)

number_long : (bs : List ℕ) → IsNumber bs → 1 ≤ length bs
number_long bs h =
    let w : 1 ≤ length h.1 = whole_long h.1 h.5 in
    omega (arith, ap length h.8, length-append h.0 (h.1 ++ (h.2 ++ h.3)), length-append h.1 (h.2 ++ h.3))

-- the rule's bytes are n or more
abbrev Long : ℕ → Rule → Type 0
Long n R = (at : ℕ) (bs : List ℕ) → R at bs → n ≤ length bs

any : (R : Rule) → Long 0 R
any R at bs h = omega arith

weaker : (m n : ℕ) (R : Rule) → m ≤ n → Long n R → Long m R
weaker m n R le f at bs h = let l : n ≤ length bs = f at bs h in omega arith

then_long : (m n : ℕ) (P Q : Rule) → Long m P → Long n Q → Long (m + n) (P then Q)
then_long m n P Q f g at bs h =
    let a : m ≤ length h.0 = f at h.0 h.3 in
    let b : n ≤ length h.1 = g (at + length h.0) h.1 h.4 in
    omega (arith, ap length h.2, length-append h.0 h.1)

byte_long : (c : ℕ) → Long 1 (byte c)
byte_long c at bs h = omega (arith, ap length h)

quoted_long : (cs : List ℕ) → Long 1 (quoted cs)
quoted_long cs = weaker 1 (1 + 0) (quoted cs) (omega arith) (then_long 1 0 (byte 34) (spells cs then byte 34) (byte_long 34) (any (spells cs then byte 34)))

between_long : (n c e : ℕ) (R : Rule) → Long n R → Long (1 + n) (byte c then R then byte e)
between_long n c e R f = weaker (1 + n) (1 + (n + 1)) (byte c then R then byte e) (omega arith) (then_long 1 (n + 1) (byte c) (R then byte e) (byte_long c) (then_long n 1 R (byte e) f (byte_long e)))

last_long : (m n : ℕ) (P Q : Rule) → Long m P → Long n Q → Long (m + n) (space then P then space then Q)
last_long m n P Q f g = weaker (m + n) (0 + (m + (0 + n))) (space then P then space then Q) (omega arith)
    (then_long 0 (m + (0 + n)) space (P then space then Q) (any space) (then_long m (0 + n) P (space then Q) f (then_long 0 n space Q (any space) g)))

more_long : (m n : ℕ) (P Q : Rule) → Long m P → Long n Q → Long (m + n) (byte 44 then space then P then space then Q)
more_long m n P Q f g = weaker (m + n) (1 + (m + n)) (byte 44 then space then P then space then Q) (omega arith) (then_long 1 (m + n) (byte 44) (space then P then space then Q) (byte_long 44) (last_long m n P Q f g))

pair_long : (n : ℕ) (s : Span) (cs : List ℕ) (P : Rule) → Long n P → Long n (pair s cs P)
pair_long n s cs P f = weaker n (0 + (0 + (0 + (0 + n)))) (pair s cs P) (omega arith)
    (then_long 0 (0 + (0 + (0 + n))) (spans s (quoted cs)) (space then byte 58 then space then P) (any (spans s (quoted cs)))
    (then_long 0 (0 + (0 + n)) space (byte 58 then space then P) (any space)
    (then_long 0 (0 + n) (byte 58) (space then P) (any (byte 58)) (then_long 0 n space P (any space) f))))

mutual
  value_long : (j : Json) → Long (size j) (value j)
  value_long (word s w) at bs h = omega (arith, letters_long w, ap length h.0)
  value_long (number s ds) at bs h = omega (arith, number_long ds h.0.1, ap length h.0.0)
  value_long (string s cs) at bs h = quoted_long cs at bs h.0
  value_long (array s js) at bs h = between_long (items_size js) 91 93 (items js) (items_long js) at bs h.0
  value_long (object s ms) at bs h = between_long (members_size ms) 123 125 (members ms) (members_long ms) at bs h.0

  items_long : (js : Items) → Long (items_size js) (items js)
  items_long no_items = any space
  items_long (item j js) = last_long (size j) (items_size js) (value j) (more_items js) (value_long j) (more_items_long js)

  more_items_long : (js : Items) → Long (items_size js) (more_items js)
  more_items_long no_items = any (more_items no_items)
  more_items_long (item j js) = more_long (size j) (items_size js) (value j) (more_items js) (value_long j) (more_items_long js)

  members_long : (ms : Members) → Long (members_size ms) (members ms)
  members_long no_members = any space
  members_long (member s cs j ms) = last_long (size j) (members_size ms) (pair s cs (value j)) (more_members ms) (pair_long (size j) s cs (value j) (value_long j)) (more_members_long ms)

  more_members_long : (ms : Members) → Long (members_size ms) (more_members ms)
  more_members_long no_members = any (more_members no_members)
  more_members_long (member s cs j ms) = more_long (size j) (members_size ms) (pair s cs (value j)) (more_members ms) (pair_long (size j) s cs (value j) (value_long j)) (more_members_long ms)

pub size_fits : (bytes : List ℕ) (j : Json) → IsText bytes j → size j ≤ length bytes
size_fits bytes j h = weaker (size j) (0 + (size j + 0)) (space then value j then space) (omega arith) (then_long 0 (size j + 0) space (value j then space) (any space) (then_long (size j) 0 (value j) space (value_long j) (any space))) 0 bytes h

-- there are no more nodes than bytes
pub nodes_fit : (doc : Doc) (j : Json) → Holds doc j → length doc.nodes ≤ length doc.bytes
nodes_fit doc j h = omega (arith, ap length h.nodes, nodes_length j 0 0 unnamed, size_fits doc.bytes j h.text)

-- a child nests less deep than its parent

items_shallow : (js : Items) (n : ℕ) (c : Json) → slice_get (items_list js) n ≡ Some c → depth c ≤ items_depth js
items_shallow no_items n c h = cc
items_shallow (item j js) zero c h = let same : j ≡ c = cc in let e : depth j ≡ depth c = ap depth same in omega arith
items_shallow (item j js) (suc n) c h = omega (arith, items_shallow js n c h)

members_shallow : (ms : Members) (n : ℕ) (c : Json) → slice_get (values_list ms) n ≡ Some c → depth c ≤ members_depth ms
members_shallow no_members n c h = cc
members_shallow (member s cs j ms) zero c h = let same : j ≡ c = cc in let e : depth j ≡ depth c = ap depth same in omega arith
members_shallow (member s cs j ms) (suc n) c h = omega (arith, members_shallow ms n c h)

pub child_shallow : (t : Json) (n : ℕ) (c : Json) → slice_get (children t) n ≡ Some c → depth c < depth t
child_shallow (word s w) n c h = cc
child_shallow (number s ds) n c h = cc
child_shallow (string s cs) n c h = cc
child_shallow (array s js) n c h = omega (arith, items_shallow js n c h)
child_shallow (object s ms) n c h = omega (arith, members_shallow ms n c h)

pub at_shallow : {doc : Doc} {k : ℕ} {t : Json} → At doc k t → depth t ≤ 1024
at_shallow {doc} {k} {t} a = everywhere (λ m u. depth u ≤ 1024) (λ m n u c d e. (let lt : depth c < depth u = child_shallow u n c e in omega arith)) (size a.tree) 0 k a.tree t (omega arith) a.holds.shallow a.there
