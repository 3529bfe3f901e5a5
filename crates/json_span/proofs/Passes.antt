-- Each text of the grammar is read, with the nodes of its tree.
use Rattle.std.proofs.Common.{◌≡◌, refl, ap, sym, ◌∙◌, ℕ, suc, ◌+◌, ◌<◌, ◌≤◌, max, Bool, true, false, List, [], ◌∷◌, ◌++◌, length, arith, append_assoc, append-nil, length-append, ◌⊎◌, inl, inr}
use Rattle.std.specs.Prelude.{IsTrue, Result, Ok, Err, nat_lt, if◌then◌else◌}
use Rattle.std.specs.List.{AllByRecursion}
use Rattle.std.proofs.lemmas.Bool.Decides.{nat_tests}
use Rattle.json_text.specs.declared.span.Span.{Span}
use Rattle.json_text.specs.declared.kind.Kind.{Kind}
use Rattle.json_text.specs.declared.kind.Kind.TheVariants as kind
use Rattle.json_text.specs.declared.kind.Word.{Word}
use Rattle.json_text.specs.Json.{Json, word, number, string, array, object, Items, no_items, item, Members, no_members, member, Rule, ◌then◌, byte, is_space, space, spells, pair, value, items, more_items, members, more_members, IsText, depth, items_depth, members_depth}
use Rattle.json_text.specs.Read.{is_number_byte}
use Rattle.json_text.specs.String.{SpellsCharacters}
use Rattle.json_nodes.specs.declared.node.Node.{Node}
use Rattle.json_nodes.specs.declared.node.Place.{Place}
use Rattle.json_nodes.specs.Nodes.{nodes_of, items_nodes, members_nodes, size, items_size, members_size, unnamed, place_of, kind_of_word}
use Rattle.json_span.specs.declared.class.Class.TheVariants as class
use Rattle.json_span.specs.declared.state.Mode.{Mode}
use Rattle.json_span.specs.declared.state.Mode.TheVariants as mode
use Rattle.json_span.specs.declared.state.Open.{Open}
use Rattle.json_span.specs.Classes.{class_of}
use Rattle.json_span.specs.Machine.{State, state, start, Fault, deep, step, read, finish, leaf, node_at, opened, opens, first_in, kind_of_open, close_node}
use Rattle.json_span.proofs.Runs.{one, rests, starts, starts_rest, start_step, space_passes, open_array_class, open_object_class}
use Rattle.json_span.proofs.Tokens.{NotNumber, word_passes, number_passes, text_passes, key_passes, names}
use Rattle.json_span.proofs.NodeLists.{length_nodes, length_items, length_members, close_seam}
use Rattle.json_span.proofs.Rules.{Behind, Between, after_byte, between_bytes, framed, framed_length}

-- the claims

abbrev pub ValuePasses : Json → Type 0
ValuePasses j = (d at n : ℕ) (bs rest : List ℕ) (m : Mode) (name : Place) (os : List Open) (ns : List Node) → starts m ≡ true → value j at bs → n ≡ at + length bs →
    depth j + length os ≤ d → NotNumber rest →
    read d at (bs ++ rest) (state m name os ns) ≡ read d n rest (state mode.After unnamed os (ns ++ nodes_of (length os) (length ns) name j))

abbrev pub ItemsPass : Items → Type 0
ItemsPass js = (d at n i : ℕ) (bs rest : List ℕ) (os : List Open) (ns : List Node) → items js at bs → n ≡ at + length bs + 1 → items_depth js + suc (length os) ≤ d →
    read d at (bs ++ 93 ∷ rest) (state mode.FirstItem unnamed (opened false i ∷ os) ns) ≡
    read d n rest (state mode.After unnamed os (close_node i n (ns ++ items_nodes (suc (length os)) (length ns) js)))

abbrev pub MorePass : Items → Type 0
MorePass js = (d at n i : ℕ) (bs rest : List ℕ) (os : List Open) (ns : List Node) → more_items js at bs → n ≡ at + length bs + 1 → items_depth js + suc (length os) ≤ d →
    read d at (bs ++ 93 ∷ rest) (state mode.After unnamed (opened false i ∷ os) ns) ≡
    read d n rest (state mode.After unnamed os (close_node i n (ns ++ items_nodes (suc (length os)) (length ns) js)))

abbrev pub MembersPass : Members → Type 0
MembersPass ms = (d at n i : ℕ) (bs rest : List ℕ) (os : List Open) (ns : List Node) → members ms at bs → n ≡ at + length bs + 1 → members_depth ms + suc (length os) ≤ d →
    read d at (bs ++ 125 ∷ rest) (state mode.FirstKey unnamed (opened true i ∷ os) ns) ≡
    read d n rest (state mode.After unnamed os (close_node i n (ns ++ members_nodes (suc (length os)) (length ns) ms)))

abbrev pub MorePairsPass : Members → Type 0
MorePairsPass ms = (d at n i : ℕ) (bs rest : List ℕ) (os : List Open) (ns : List Node) → more_members ms at bs → n ≡ at + length bs + 1 → members_depth ms + suc (length os) ≤ d →
    read d at (bs ++ 125 ∷ rest) (state mode.After unnamed (opened true i ∷ os) ns) ≡
    read d n rest (state mode.After unnamed os (close_node i n (ns ++ members_nodes (suc (length os)) (length ns) ms)))

-- what follows a value is no byte of numbers

space_no_number : (b : ℕ) → IsTrue (is_space b) → IsTrue (is_number_byte b) → ⊥
space_no_number b h k = grind (arith, nat_tests)

space_first : (a rest : List ℕ) → AllByRecursion (λ b. IsTrue (is_space b)) a → NotNumber rest → NotNumber (a ++ rest)
space_first [] rest h k = k
space_first (b ∷ a) rest h k = space_no_number b h.0

byte_first : (c at : ℕ) (Q : Rule) (bs rest : List ℕ) → (IsTrue (is_number_byte c) → ⊥) → (byte c then Q) at bs → NotNumber (bs ++ rest)
byte_first c at Q bs rest k h = let e = (after_byte c Q at bs h).whole in rw e k

more_first : (js : Items) (at : ℕ) (bs rest : List ℕ) → more_items js at bs → NotNumber (bs ++ 93 ∷ rest)
more_first no_items at bs rest h = rw h (λ k. absurd cc)
more_first (item j js) at bs rest h = byte_first 44 at (space then value j then space then more_items js) bs (93 ∷ rest) (λ k. absurd cc) h

more_pairs_first : (ms : Members) (at : ℕ) (bs rest : List ℕ) → more_members ms at bs → NotNumber (bs ++ 125 ∷ rest)
more_pairs_first no_members at bs rest h = rw h (λ k. absurd cc)
more_pairs_first (member s cs j ms) at bs rest h = byte_first 44 at (space then pair s cs (value j) then space then more_members ms) bs (125 ∷ rest) (λ k. absurd cc) h

-- tokens

span_is : (s : Span) (at n to : ℕ) → s ≡ record { from = at; to = to } → n ≡ to → s ≡ record { from = at; to = n }
span_is s at n to h e = let f : ℕ → Span = λ p. record { from = at; to = p } in h ∙ ap f (sym e)

leaf_node : (d at n : ℕ) (rest : List ℕ) (k : Kind) (s : Span) (m : Mode) (name : Place) (os : List Open) (ns : List Node) → s ≡ record { from = at; to = n } →
    read d n rest (leaf k at n (state m name os ns)) ≡ read d n rest (state mode.After unnamed os (ns ++ record { kind = k; level = length os; from = s.from; to = s.to; after = length ns + 1; name = name } ∷ []))
leaf_node d at n rest k s m name os ns h = ap (λ (s : Span). read d n rest (state mode.After unnamed os (ns ++ record { kind = k; level = length os; from = s.from; to = s.to; after = length ns + 1; name = name } ∷ []))) (sym h)

word_case : (s : Span) (w : Word) → ValuePasses (word s w)
word_case s w d at n bs rest m name os ns r h e fits ends =
    ap (λ bs. read d at (bs ++ rest) (state m name os ns)) h.0 ∙
    (word_passes d at n w rest m name os ns r (omega (arith, ap length h.0)) ∙
    leaf_node d at n rest (kind_of_word w) s m name os ns (span_is s at n (at + length bs) h.1 e))

number_case : (s : Span) (ds : List ℕ) → ValuePasses (number s ds)
number_case s ds d at n bs rest m name os ns r h e fits ends =
    number_passes d at n bs rest m name os ns r (rw h.0.0 h.0.1) ends e ∙
    leaf_node d at n rest kind.Number s m name os ns (span_is s at n (at + length bs) h.1 e)

string_case : (s : Span) (cs : List ℕ) → ValuePasses (string s cs)
string_case s cs d at n bs rest m name os ns r h e fits ends = go (between_bytes 34 34 (spells cs) at bs h.0)
  where
    go : Between 34 34 (spells cs) at bs → read d at (bs ++ rest) (state m name os ns) ≡ read d n rest (state mode.After unnamed os (ns ++ nodes_of (length os) (length ns) name (string s cs)))
    go q = ap (λ bs. read d at bs (state m name os ns)) (framed 34 34 q.inner bs rest q.whole) ∙
        (text_passes d at n cs q.inner rest m name os ns r q.is (omega (arith, framed_length 34 34 q.inner bs q.whole)) ∙
        leaf_node d at n rest kind.Text s m name os ns (span_is s at n (at + length bs) h.1 e))

-- brackets

below : (n d : ℕ) → n < d → nat_lt n d ≡ true
below n d h = grind (arith, nat_tests)

-- the nodes after an opening bracket
abbrev opening : Bool → ℕ → Place → List Open → List Node → List Node
opening curly at name os ns = ns ++ node_at (kind_of_open curly) at name os ns at ∷ []

opens_step : (d at : ℕ) (curly : Bool) (name : Place) (os : List Open) (ns : List Node) → length os < d →
    opens d at curly (state mode.Value name os ns) ≡ Ok (state (first_in curly) unnamed (opened curly (length ns) ∷ os) (opening curly at name os ns))
opens_step d at curly name os ns h =
    let t : State = state (first_in curly) unnamed (opened curly (length ns) ∷ os) (opening curly at name os ns) in
    let yes : Result State Fault = Ok t in
    let no : Result State Fault = Err (deep at) in
    ap (λ b. if b then yes else no) (below (length os) d h)

closed_seam : (n after : ℕ) (ns ys : List Node) (x : Node) → length ns + (1 + length ys) ≡ after → close_node (length ns) n ((ns ++ x ∷ []) ++ ys) ≡ ns ++ (record x { to = n; after = after }) ∷ ys
closed_seam n after ns ys x h =
    ap (close_node (length ns) n) (append_assoc ns (x ∷ []) ys) ∙
    (close_seam n ns ys x ∙ ap (λ (a : ℕ). ns ++ (record x { to = n; after = a }) ∷ ys) (length-append ns (x ∷ ys) ∙ omega arith))

items_same : (js : Items) (l k i h : ℕ) → l ≡ k → i ≡ h → items_nodes l i js ≡ items_nodes k h js
items_same js l k i h e f = cc

members_same : (ms : Members) (l k i h : ℕ) → l ≡ k → i ≡ h → members_nodes l i ms ≡ members_nodes k h ms
members_same ms l k i h e f = cc

length_opening : (ns : List Node) (x : Node) → length (ns ++ x ∷ []) ≡ length ns + 1
length_opening ns x = length-append ns (x ∷ [])

-- an array, between its brackets

array_nodes : (n at : ℕ) (s : Span) (js : Items) (name : Place) (os : List Open) (ns : List Node) → s ≡ record { from = at; to = n } →
    close_node (length ns) n (opening false at name os ns ++ items_nodes (suc (length os)) (length (opening false at name os ns)) js) ≡ ns ++ nodes_of (length os) (length ns) name (array s js)
array_nodes n at s js name os ns h =
    let x : Node = node_at kind.Array at name os ns at in
    closed_seam n (length ns + (1 + items_size js)) ns (items_nodes (suc (length os)) (length (ns ++ x ∷ [])) js) x (omega (arith, length_items js (suc (length os)) (length (ns ++ x ∷ [])))) ∙
    (ap (λ ys. ns ++ record { kind = kind.Array; level = length os; from = at; to = n; after = length ns + (1 + items_size js); name = name } ∷ ys) (items_same js (suc (length os)) (length os + 1) (length (ns ++ x ∷ [])) (length ns + 1) (omega arith) (length_opening ns x)) ∙
    ap (λ (s : Span). ns ++ record { kind = kind.Array; level = length os; from = s.from; to = s.to; after = length ns + (1 + items_size js); name = name } ∷ items_nodes (length os + 1) (length ns + 1) js) (sym h))

array_inner : (s : Span) (js : Items) → ItemsPass js → (d at n : ℕ) (inner rest : List ℕ) (m : Mode) (name : Place) (os : List Open) (ns : List Node) → starts m ≡ true → items js (at + 1) inner → n ≡ at + length inner + 2 →
    1 + items_depth js + length os ≤ d → s ≡ record { from = at; to = n } →
    read d at (91 ∷ (inner ++ 93 ∷ rest)) (state m name os ns) ≡ read d n rest (state mode.After unnamed os (ns ++ nodes_of (length os) (length ns) name (array s js)))
array_inner s js pass d at n inner rest m name os ns r h e fits is =
    one d at 91 (inner ++ 93 ∷ rest) (state m name os ns) (state mode.FirstItem unnamed (opened false (length ns) ∷ os) (opening false at name os ns)) (start_step d at 91 class.OpenArray m name os ns r refl open_array_class ∙ opens_step d at false name os ns (omega arith)) ∙
    (pass d (at + 1) n (length ns) inner rest os (opening false at name os ns) h (omega arith) (omega arith) ∙
    ap (λ ns. read d n rest (state mode.After unnamed os ns)) (array_nodes n at s js name os ns is))

array_case : (s : Span) (js : Items) → ItemsPass js → ValuePasses (array s js)
array_case s js pass d at n bs rest m name os ns r h e fits ends = go (between_bytes 91 93 (items js) at bs h.0)
  where
    go : Between 91 93 (items js) at bs → read d at (bs ++ rest) (state m name os ns) ≡ read d n rest (state mode.After unnamed os (ns ++ nodes_of (length os) (length ns) name (array s js)))
    go q = ap (λ bs. read d at bs (state m name os ns)) (framed 91 93 q.inner bs rest q.whole) ∙
        array_inner s js pass d at n q.inner rest m name os ns r q.is (omega (arith, framed_length 91 93 q.inner bs q.whole)) fits (span_is s at n (at + length bs) h.1 e)

object_nodes : (n at : ℕ) (s : Span) (ms : Members) (name : Place) (os : List Open) (ns : List Node) → s ≡ record { from = at; to = n } →
    close_node (length ns) n (opening true at name os ns ++ members_nodes (suc (length os)) (length (opening true at name os ns)) ms) ≡ ns ++ nodes_of (length os) (length ns) name (object s ms)
object_nodes n at s ms name os ns h =
    let x : Node = node_at kind.Object at name os ns at in
    closed_seam n (length ns + (1 + members_size ms)) ns (members_nodes (suc (length os)) (length (ns ++ x ∷ [])) ms) x (omega (arith, length_members ms (suc (length os)) (length (ns ++ x ∷ [])))) ∙
    (ap (λ ys. ns ++ record { kind = kind.Object; level = length os; from = at; to = n; after = length ns + (1 + members_size ms); name = name } ∷ ys) (members_same ms (suc (length os)) (length os + 1) (length (ns ++ x ∷ [])) (length ns + 1) (omega arith) (length_opening ns x)) ∙
    ap (λ (s : Span). ns ++ record { kind = kind.Object; level = length os; from = s.from; to = s.to; after = length ns + (1 + members_size ms); name = name } ∷ members_nodes (length os + 1) (length ns + 1) ms) (sym h))

object_inner : (s : Span) (ms : Members) → MembersPass ms → (d at n : ℕ) (inner rest : List ℕ) (m : Mode) (name : Place) (os : List Open) (ns : List Node) → starts m ≡ true → members ms (at + 1) inner → n ≡ at + length inner + 2 →
    1 + members_depth ms + length os ≤ d → s ≡ record { from = at; to = n } →
    read d at (123 ∷ (inner ++ 125 ∷ rest)) (state m name os ns) ≡ read d n rest (state mode.After unnamed os (ns ++ nodes_of (length os) (length ns) name (object s ms)))
object_inner s ms pass d at n inner rest m name os ns r h e fits is =
    one d at 123 (inner ++ 125 ∷ rest) (state m name os ns) (state mode.FirstKey unnamed (opened true (length ns) ∷ os) (opening true at name os ns)) (start_step d at 123 class.OpenObject m name os ns r refl open_object_class ∙ opens_step d at true name os ns (omega arith)) ∙
    (pass d (at + 1) n (length ns) inner rest os (opening true at name os ns) h (omega arith) (omega arith) ∙
    ap (λ ns. read d n rest (state mode.After unnamed os ns)) (object_nodes n at s ms name os ns is))

object_case : (s : Span) (ms : Members) → MembersPass ms → ValuePasses (object s ms)
object_case s ms pass d at n bs rest m name os ns r h e fits ends = go (between_bytes 123 125 (members ms) at bs h.0)
  where
    go : Between 123 125 (members ms) at bs → read d at (bs ++ rest) (state m name os ns) ≡ read d n rest (state mode.After unnamed os (ns ++ nodes_of (length os) (length ns) name (object s ms)))
    go q = ap (λ bs. read d at bs (state m name os ns)) (framed 123 125 q.inner bs rest q.whole) ∙
        object_inner s ms pass d at n q.inner rest m name os ns r q.is (omega (arith, framed_length 123 125 q.inner bs q.whole)) fits (span_is s at n (at + length bs) h.1 e)

-- closing brackets

closed_more : (i n : ℕ) (ns : List Node) → close_node i n ns ≡ close_node i n (ns ++ [])
closed_more i n ns = simp append-nil

array_closes : (d at i : ℕ) (m : Mode) (name : Place) (os : List Open) (ns : List Node) → (m ≡ mode.FirstItem) ⊎ (m ≡ mode.After) → step d at 93 (state m name (opened false i ∷ os) ns) ≡ Ok (state mode.After unnamed os (close_node i (at + 1) ns))
unfolding step class_of
array_closes d at i m name os ns (inl e) = rw e refl
array_closes d at i m name os ns (inr e) = rw e refl

array_ends : (d at n i : ℕ) (rest : List ℕ) (m : Mode) (os : List Open) (ns : List Node) → (m ≡ mode.FirstItem) ⊎ (m ≡ mode.After) → n ≡ at + 1 →
    read d at (93 ∷ rest) (state m unnamed (opened false i ∷ os) ns) ≡ read d n rest (state mode.After unnamed os (close_node i n (ns ++ [])))
array_ends d at n i rest m os ns h e =
    one d at 93 rest (state m unnamed (opened false i ∷ os) ns) (state mode.After unnamed os (close_node i (at + 1) ns)) (array_closes d at i m unnamed os ns h) ∙
    (ap (λ p. read d p rest (state mode.After unnamed os (close_node i p ns))) (sym e) ∙ ap (λ ns. read d n rest (state mode.After unnamed os ns)) (closed_more i n ns))

object_closes : (d at i : ℕ) (m : Mode) (name : Place) (os : List Open) (ns : List Node) → (m ≡ mode.FirstKey) ⊎ (m ≡ mode.After) → step d at 125 (state m name (opened true i ∷ os) ns) ≡ Ok (state mode.After unnamed os (close_node i (at + 1) ns))
unfolding step class_of
object_closes d at i m name os ns (inl e) = rw e refl
object_closes d at i m name os ns (inr e) = rw e refl

object_ends : (d at n i : ℕ) (rest : List ℕ) (m : Mode) (os : List Open) (ns : List Node) → (m ≡ mode.FirstKey) ⊎ (m ≡ mode.After) → n ≡ at + 1 →
    read d at (125 ∷ rest) (state m unnamed (opened true i ∷ os) ns) ≡ read d n rest (state mode.After unnamed os (close_node i n (ns ++ [])))
object_ends d at n i rest m os ns h e =
    one d at 125 rest (state m unnamed (opened true i ∷ os) ns) (state mode.After unnamed os (close_node i (at + 1) ns)) (object_closes d at i m unnamed os ns h) ∙
    (ap (λ p. read d p rest (state mode.After unnamed os (close_node i p ns))) (sym e) ∙ ap (λ ns. read d n rest (state mode.After unnamed os ns)) (closed_more i n ns))

-- commas

array_goes : (d at i : ℕ) (os : List Open) (ns : List Node) → step d at 44 (state mode.After unnamed (opened false i ∷ os) ns) ≡ Ok (state mode.Value unnamed (opened false i ∷ os) ns)
unfolding step class_of
array_goes d at i os ns = refl

object_goes : (d at i : ℕ) (os : List Open) (ns : List Node) → step d at 44 (state mode.After unnamed (opened true i ∷ os) ns) ≡ Ok (state mode.NextKey unnamed (opened true i ∷ os) ns)
unfolding step class_of
object_goes d at i os ns = refl

-- items

item_nodes : (l : ℕ) (j : Json) (js : Items) (ns : List Node) → (ns ++ nodes_of l (length ns) unnamed j) ++ items_nodes l (length (ns ++ nodes_of l (length ns) unnamed j)) js ≡ ns ++ items_nodes l (length ns) (item j js)
item_nodes l j js ns =
    ap (λ i. (ns ++ nodes_of l (length ns) unnamed j) ++ items_nodes l i js) (length-append ns (nodes_of l (length ns) unnamed j) ∙ ap (λ k. length ns + k) (length_nodes j l (length ns) unnamed)) ∙
    append_assoc ns (nodes_of l (length ns) unnamed j) (items_nodes l (length ns + size j) js)

item_parts : (j : Json) (js : Items) → ValuePasses j → MorePass js → (d at n i : ℕ) (a b c e rest : List ℕ) (m : Mode) (os : List Open) (ns : List Node) → starts m ≡ true →
    space at a → value j (at + length a) b → space (at + length a + length b) c → more_items js (at + length a + length b + length c) e → n ≡ at + length a + length b + length c + length e + 1 → max (depth j) (items_depth js) + suc (length os) ≤ d →
    read d at (a ++ (b ++ (c ++ (e ++ 93 ∷ rest)))) (state m unnamed (opened false i ∷ os) ns) ≡
    read d n rest (state mode.After unnamed os (close_node i n (ns ++ items_nodes (suc (length os)) (length ns) (item j js))))
item_parts j js vp mp d at n i a b c e rest m os ns r sa vb sc me place fits =
    space_passes d at (at + length a) a (b ++ (c ++ (e ++ 93 ∷ rest))) m unnamed (opened false i ∷ os) ns (starts_rest m r) sa refl ∙
    (vp d (at + length a) (at + length a + length b) b (c ++ (e ++ 93 ∷ rest)) m unnamed (opened false i ∷ os) ns r vb refl (omega arith) (space_first c (e ++ 93 ∷ rest) sc (more_first js (at + length a + length b + length c) e rest me)) ∙
    (space_passes d (at + length a + length b) (at + length a + length b + length c) c (e ++ 93 ∷ rest) mode.After unnamed (opened false i ∷ os) (ns ++ nodes_of (suc (length os)) (length ns) unnamed j) refl sc refl ∙
    (mp d (at + length a + length b + length c) n i e rest os (ns ++ nodes_of (suc (length os)) (length ns) unnamed j) me place (omega arith) ∙
    ap (λ ns. read d n rest (state mode.After unnamed os (close_node i n ns))) (item_nodes (suc (length os)) j js ns))))

-- whitespace, a value, whitespace and what follows
abbrev entry : Rule → Rule → Rule
entry P Q = space then P then space then Q

record Entry (P Q : Rule) (at : ℕ) (bs : List ℕ) : Type 0 where
  before : List ℕ
  inner : List ℕ
  behind : List ℕ
  others : List ℕ
  whole : bs ≡ before ++ (inner ++ (behind ++ others))
  is_before : space at before
  is : P (at + length before) inner
  is_behind : space (at + length before + length inner) behind
  more : Q (at + length before + length inner + length behind) others

entry_parts : (P Q : Rule) (at : ℕ) (bs : List ℕ) → entry P Q at bs → Entry P Q at bs
entry_parts P Q at bs h = record {
  before = h.0;
  inner = h.4.0;
  behind = h.4.4.0;
  others = h.4.4.1;
  whole = h.2 ∙ (ap (λ b. h.0 ++ b) h.4.2 ∙ ap (λ b. h.0 ++ (h.4.0 ++ b)) h.4.4.2);
  is_before = h.3;
  is = h.4.3;
  is_behind = h.4.4.3;
  more = h.4.4.4;
}

grouped : (a b c e rest : List ℕ) → (a ++ (b ++ (c ++ e))) ++ rest ≡ a ++ (b ++ (c ++ (e ++ rest)))
grouped a b c e rest = simp append_assoc

grouped_length : (a b c e : List ℕ) → length (a ++ (b ++ (c ++ e))) ≡ length a + length b + length c + length e
grouped_length a b c e = omega (arith, length-append a (b ++ (c ++ e)), length-append b (c ++ e), length-append c e)

item_passes : (j : Json) (js : Items) → ValuePasses j → MorePass js → (d at n i : ℕ) (bs rest : List ℕ) (m : Mode) (os : List Open) (ns : List Node) → starts m ≡ true → entry (value j) (more_items js) at bs → n ≡ at + length bs + 1 → max (depth j) (items_depth js) + suc (length os) ≤ d →
    read d at (bs ++ 93 ∷ rest) (state m unnamed (opened false i ∷ os) ns) ≡
    read d n rest (state mode.After unnamed os (close_node i n (ns ++ items_nodes (suc (length os)) (length ns) (item j js))))
item_passes j js vp mp d at n i bs rest m os ns r h place fits = go (entry_parts (value j) (more_items js) at bs h)
  where
    go : Entry (value j) (more_items js) at bs → read d at (bs ++ 93 ∷ rest) (state m unnamed (opened false i ∷ os) ns) ≡ read d n rest (state mode.After unnamed os (close_node i n (ns ++ items_nodes (suc (length os)) (length ns) (item j js))))
    go q = ap (λ bs. read d at (bs ++ 93 ∷ rest) (state m unnamed (opened false i ∷ os) ns)) q.whole ∙
        (ap (λ bs. read d at bs (state m unnamed (opened false i ∷ os) ns)) (grouped q.before q.inner q.behind q.others (93 ∷ rest)) ∙
        item_parts j js vp mp d at n i q.before q.inner q.behind q.others rest m os ns r q.is_before q.is q.is_behind q.more (omega (arith, ap length q.whole, grouped_length q.before q.inner q.behind q.others)) fits)

no_items_case : ItemsPass no_items
no_items_case d at n i bs rest os ns h e fits =
    space_passes d at (at + length bs) bs (93 ∷ rest) mode.FirstItem unnamed (opened false i ∷ os) ns refl h refl ∙
    array_ends d (at + length bs) n i rest mode.FirstItem os ns (inl refl) e

item_case : (j : Json) (js : Items) → ValuePasses j → MorePass js → ItemsPass (item j js)
item_case j js vp mp d at n i bs rest os ns h e fits = item_passes j js vp mp d at n i bs rest mode.FirstItem os ns refl h e fits

no_more_case : MorePass no_items
no_more_case d at n i bs rest os ns h e fits =
    ap (λ bs. read d at (bs ++ 93 ∷ rest) (state mode.After unnamed (opened false i ∷ os) ns)) h ∙
    array_ends d at n i rest mode.After os ns (inr refl) (omega (arith, ap length h))

more_case : (j : Json) (js : Items) → ValuePasses j → MorePass js → MorePass (item j js)
more_case j js vp mp d at n i bs rest os ns h e fits = go (after_byte 44 (entry (value j) (more_items js)) at bs h)
  where
    go : Behind 44 (entry (value j) (more_items js)) at bs → read d at (bs ++ 93 ∷ rest) (state mode.After unnamed (opened false i ∷ os) ns) ≡ read d n rest (state mode.After unnamed os (close_node i n (ns ++ items_nodes (suc (length os)) (length ns) (item j js))))
    go q = ap (λ bs. read d at (bs ++ 93 ∷ rest) (state mode.After unnamed (opened false i ∷ os) ns)) q.whole ∙
        (one d at 44 (q.tail ++ 93 ∷ rest) (state mode.After unnamed (opened false i ∷ os) ns) (state mode.Value unnamed (opened false i ∷ os) ns) (array_goes d at i os ns) ∙
        item_passes j js vp mp d (at + 1) n i q.tail rest mode.Value os ns refl q.is (omega (arith, ap length q.whole)) fits)

-- members

colon_step : (d at : ℕ) (name : Place) (os : List Open) (ns : List Node) → step d at 58 (state mode.Colon name os ns) ≡ Ok (state mode.Value name os ns)
unfolding step class_of
colon_step d at name os ns = refl

pair_parts : (s : Span) (cs : List ℕ) (j : Json) → ValuePasses j → (d at p n : ℕ) (raw a c v rest : List ℕ) (m : Mode) (os : List Open) (ns : List Node) → names m ≡ true → SpellsCharacters cs raw → p ≡ at + length raw + 2 →
    space p a → space (p + length a + 1) c → value j (p + length a + 1 + length c) v → n ≡ p + length a + 1 + length c + length v → s ≡ record { from = at; to = p } → depth j + length os ≤ d → NotNumber rest →
    read d at (34 ∷ (raw ++ 34 ∷ (a ++ 58 ∷ (c ++ (v ++ rest))))) (state m unnamed os ns) ≡ read d n rest (state mode.After unnamed os (ns ++ nodes_of (length os) (length ns) (place_of s) j))
pair_parts s cs j vp d at p n raw a c v rest m os ns r key e sa sc vj place is fits ends =
    key_passes d at p cs raw (a ++ 58 ∷ (c ++ (v ++ rest))) m unnamed os ns r key e ∙
    (space_passes d p (p + length a) a (58 ∷ (c ++ (v ++ rest))) mode.Colon (record { from = at; to = p }) os ns refl sa refl ∙
    (one d (p + length a) 58 (c ++ (v ++ rest)) (state mode.Colon (record { from = at; to = p }) os ns) (state mode.Value (record { from = at; to = p }) os ns) (colon_step d (p + length a) (record { from = at; to = p }) os ns) ∙
    (space_passes d (p + length a + 1) (p + length a + 1 + length c) c (v ++ rest) mode.Value (record { from = at; to = p }) os ns refl sc refl ∙
    (vp d (p + length a + 1 + length c) n v rest mode.Value (record { from = at; to = p }) os ns refl vj place fits ends ∙
    ap (λ (s : Span). read d n rest (state mode.After unnamed os (ns ++ nodes_of (length os) (length ns) (place_of s) j))) (sym is)))))

record Pair (s : Span) (cs : List ℕ) (j : Json) (at : ℕ) (bs : List ℕ) : Type 0 where
  raw : List ℕ
  before : List ℕ
  behind : List ℕ
  inner : List ℕ
  place : ℕ
  is_place : place ≡ at + length raw + 2
  whole : bs ≡ 34 ∷ (raw ++ 34 ∷ (before ++ 58 ∷ (behind ++ inner)))
  is_key : SpellsCharacters cs raw
  is_before : space place before
  is_behind : space (place + length before + 1) behind
  is : value j (place + length before + 1 + length behind) inner
  is_span : s ≡ record { from = at; to = place }

pair_whole : (bs key rest raw a t tail c v : List ℕ) → bs ≡ key ++ rest → key ≡ 34 ∷ (raw ++ 34 ∷ []) → rest ≡ a ++ t → t ≡ 58 ∷ tail → tail ≡ c ++ v → bs ≡ 34 ∷ (raw ++ 34 ∷ (a ++ 58 ∷ (c ++ v)))
pair_whole bs key rest raw a t tail c v h k r e f =
    h ∙ (framed 34 34 raw key rest k ∙ (ap (λ rest. 34 ∷ (raw ++ 34 ∷ rest)) r ∙ (ap (λ t. 34 ∷ (raw ++ 34 ∷ (a ++ t))) e ∙ ap (λ tail. 34 ∷ (raw ++ 34 ∷ (a ++ 58 ∷ tail))) f)))

-- the key's parts, and the colon's
pair_of : (s : Span) (cs : List ℕ) (j : Json) (at : ℕ) (bs : List ℕ) (h : pair s cs (value j) at bs) → Between 34 34 (spells cs) at h.0 → Behind 58 (space then value j) (at + length h.0 + length h.4.0) h.4.1 → Pair s cs j at bs
pair_of s cs j at bs h k q = record {
  raw = k.inner;
  before = h.4.0;
  behind = q.is.0;
  inner = q.is.1;
  place = at + length h.0;
  is_place = omega (arith, framed_length 34 34 k.inner h.0 k.whole);
  whole = pair_whole bs h.0 h.1 k.inner h.4.0 h.4.1 q.tail q.is.0 q.is.1 h.2 k.whole h.4.2 q.whole q.is.2;
  is_key = k.is;
  is_before = h.4.3;
  is_behind = q.is.3;
  is = q.is.4;
  is_span = h.3.1;
}

pair_split : (s : Span) (cs : List ℕ) (j : Json) (at : ℕ) (bs : List ℕ) → pair s cs (value j) at bs → Pair s cs j at bs
pair_split s cs j at bs h = pair_of s cs j at bs h (between_bytes 34 34 (spells cs) at h.0 h.3.0) (after_byte 58 (space then value j) (at + length h.0 + length h.4.0) h.4.1 h.4.4)

pair_grouped : (raw a c v rest : List ℕ) → (34 ∷ (raw ++ 34 ∷ (a ++ 58 ∷ (c ++ v)))) ++ rest ≡ 34 ∷ (raw ++ 34 ∷ (a ++ 58 ∷ (c ++ (v ++ rest))))
pair_grouped raw a c v rest =
    ap (λ xs. 34 ∷ xs) (append_assoc raw (34 ∷ (a ++ 58 ∷ (c ++ v))) rest) ∙
    (ap (λ xs. 34 ∷ (raw ++ 34 ∷ xs)) (append_assoc a (58 ∷ (c ++ v)) rest) ∙
    ap (λ xs. 34 ∷ (raw ++ 34 ∷ (a ++ 58 ∷ xs))) (append_assoc c v rest))

pair_length : (raw a c v : List ℕ) → length (34 ∷ (raw ++ 34 ∷ (a ++ 58 ∷ (c ++ v)))) ≡ length raw + 2 + length a + 1 + length c + length v
pair_length raw a c v = omega (arith, length-append raw (34 ∷ (a ++ 58 ∷ (c ++ v))), length-append a (58 ∷ (c ++ v)), length-append c v)

pair_passes : (s : Span) (cs : List ℕ) (j : Json) → ValuePasses j → (d at n : ℕ) (bs rest : List ℕ) (m : Mode) (os : List Open) (ns : List Node) → names m ≡ true → pair s cs (value j) at bs → n ≡ at + length bs → depth j + length os ≤ d → NotNumber rest →
    read d at (bs ++ rest) (state m unnamed os ns) ≡ read d n rest (state mode.After unnamed os (ns ++ nodes_of (length os) (length ns) (place_of s) j))
pair_passes s cs j vp d at n bs rest m os ns r h e fits ends = go (pair_split s cs j at bs h)
  where
    go : Pair s cs j at bs → read d at (bs ++ rest) (state m unnamed os ns) ≡ read d n rest (state mode.After unnamed os (ns ++ nodes_of (length os) (length ns) (place_of s) j))
    go q = ap (λ bs. read d at (bs ++ rest) (state m unnamed os ns)) q.whole ∙
        (ap (λ bs. read d at bs (state m unnamed os ns)) (pair_grouped q.raw q.before q.behind q.inner rest) ∙
        pair_parts s cs j vp d at q.place n q.raw q.before q.behind q.inner rest m os ns r q.is_key q.is_place q.is_before q.is_behind q.is (omega (arith, q.is_place, ap length q.whole, pair_length q.raw q.before q.behind q.inner)) q.is_span fits ends)

names_rest : (m : Mode) → names m ≡ true → rests m ≡ true
names_rest mode.FirstKey h = refl
names_rest mode.NextKey h = refl
names_rest _ h = absurd cc

member_nodes : (l : ℕ) (s : Span) (cs : List ℕ) (j : Json) (ms : Members) (ns : List Node) → (ns ++ nodes_of l (length ns) (place_of s) j) ++ members_nodes l (length (ns ++ nodes_of l (length ns) (place_of s) j)) ms ≡ ns ++ members_nodes l (length ns) (member s cs j ms)
member_nodes l s cs j ms ns =
    ap (λ i. (ns ++ nodes_of l (length ns) (place_of s) j) ++ members_nodes l i ms) (length-append ns (nodes_of l (length ns) (place_of s) j) ∙ ap (λ k. length ns + k) (length_nodes j l (length ns) (place_of s))) ∙
    append_assoc ns (nodes_of l (length ns) (place_of s) j) (members_nodes l (length ns + size j) ms)

member_parts : (s : Span) (cs : List ℕ) (j : Json) (ms : Members) → ValuePasses j → MorePairsPass ms → (d at n i : ℕ) (a b c e rest : List ℕ) (m : Mode) (os : List Open) (ns : List Node) → names m ≡ true →
    space at a → pair s cs (value j) (at + length a) b → space (at + length a + length b) c → more_members ms (at + length a + length b + length c) e → n ≡ at + length a + length b + length c + length e + 1 → max (depth j) (members_depth ms) + suc (length os) ≤ d →
    read d at (a ++ (b ++ (c ++ (e ++ 125 ∷ rest)))) (state m unnamed (opened true i ∷ os) ns) ≡
    read d n rest (state mode.After unnamed os (close_node i n (ns ++ members_nodes (suc (length os)) (length ns) (member s cs j ms))))
member_parts s cs j ms vp mp d at n i a b c e rest m os ns r sa vb sc me place fits =
    space_passes d at (at + length a) a (b ++ (c ++ (e ++ 125 ∷ rest))) m unnamed (opened true i ∷ os) ns (names_rest m r) sa refl ∙
    (pair_passes s cs j vp d (at + length a) (at + length a + length b) b (c ++ (e ++ 125 ∷ rest)) m (opened true i ∷ os) ns r vb refl (omega arith) (space_first c (e ++ 125 ∷ rest) sc (more_pairs_first ms (at + length a + length b + length c) e rest me)) ∙
    (space_passes d (at + length a + length b) (at + length a + length b + length c) c (e ++ 125 ∷ rest) mode.After unnamed (opened true i ∷ os) (ns ++ nodes_of (suc (length os)) (length ns) (place_of s) j) refl sc refl ∙
    (mp d (at + length a + length b + length c) n i e rest os (ns ++ nodes_of (suc (length os)) (length ns) (place_of s) j) me place (omega arith) ∙
    ap (λ ns. read d n rest (state mode.After unnamed os (close_node i n ns))) (member_nodes (suc (length os)) s cs j ms ns))))

member_passes : (s : Span) (cs : List ℕ) (j : Json) (ms : Members) → ValuePasses j → MorePairsPass ms → (d at n i : ℕ) (bs rest : List ℕ) (m : Mode) (os : List Open) (ns : List Node) → names m ≡ true → entry (pair s cs (value j)) (more_members ms) at bs → n ≡ at + length bs + 1 → max (depth j) (members_depth ms) + suc (length os) ≤ d →
    read d at (bs ++ 125 ∷ rest) (state m unnamed (opened true i ∷ os) ns) ≡
    read d n rest (state mode.After unnamed os (close_node i n (ns ++ members_nodes (suc (length os)) (length ns) (member s cs j ms))))
member_passes s cs j ms vp mp d at n i bs rest m os ns r h place fits = go (entry_parts (pair s cs (value j)) (more_members ms) at bs h)
  where
    go : Entry (pair s cs (value j)) (more_members ms) at bs → read d at (bs ++ 125 ∷ rest) (state m unnamed (opened true i ∷ os) ns) ≡ read d n rest (state mode.After unnamed os (close_node i n (ns ++ members_nodes (suc (length os)) (length ns) (member s cs j ms))))
    go q = ap (λ bs. read d at (bs ++ 125 ∷ rest) (state m unnamed (opened true i ∷ os) ns)) q.whole ∙
        (ap (λ bs. read d at bs (state m unnamed (opened true i ∷ os) ns)) (grouped q.before q.inner q.behind q.others (125 ∷ rest)) ∙
        member_parts s cs j ms vp mp d at n i q.before q.inner q.behind q.others rest m os ns r q.is_before q.is q.is_behind q.more (omega (arith, ap length q.whole, grouped_length q.before q.inner q.behind q.others)) fits)

no_members_case : MembersPass no_members
no_members_case d at n i bs rest os ns h e fits =
    space_passes d at (at + length bs) bs (125 ∷ rest) mode.FirstKey unnamed (opened true i ∷ os) ns refl h refl ∙
    object_ends d (at + length bs) n i rest mode.FirstKey os ns (inl refl) e

member_case : (s : Span) (cs : List ℕ) (j : Json) (ms : Members) → ValuePasses j → MorePairsPass ms → MembersPass (member s cs j ms)
member_case s cs j ms vp mp d at n i bs rest os ns h e fits = member_passes s cs j ms vp mp d at n i bs rest mode.FirstKey os ns refl h e fits

no_more_pairs_case : MorePairsPass no_members
no_more_pairs_case d at n i bs rest os ns h e fits =
    ap (λ bs. read d at (bs ++ 125 ∷ rest) (state mode.After unnamed (opened true i ∷ os) ns)) h ∙
    object_ends d at n i rest mode.After os ns (inr refl) (omega (arith, ap length h))

more_pairs_case : (s : Span) (cs : List ℕ) (j : Json) (ms : Members) → ValuePasses j → MorePairsPass ms → MorePairsPass (member s cs j ms)
more_pairs_case s cs j ms vp mp d at n i bs rest os ns h e fits = go (after_byte 44 (entry (pair s cs (value j)) (more_members ms)) at bs h)
  where
    go : Behind 44 (entry (pair s cs (value j)) (more_members ms)) at bs → read d at (bs ++ 125 ∷ rest) (state mode.After unnamed (opened true i ∷ os) ns) ≡ read d n rest (state mode.After unnamed os (close_node i n (ns ++ members_nodes (suc (length os)) (length ns) (member s cs j ms))))
    go q = ap (λ bs. read d at (bs ++ 125 ∷ rest) (state mode.After unnamed (opened true i ∷ os) ns)) q.whole ∙
        (one d at 44 (q.tail ++ 125 ∷ rest) (state mode.After unnamed (opened true i ∷ os) ns) (state mode.NextKey unnamed (opened true i ∷ os) ns) (object_goes d at i os ns) ∙
        member_passes s cs j ms vp mp d (at + 1) n i q.tail rest mode.NextKey os ns refl q.is (omega (arith, ap length q.whole)) fits)

-- all of them

mutual
  value_passes : (j : Json) → ValuePasses j
  value_passes (word s w) = word_case s w
  value_passes (number s ds) = number_case s ds
  value_passes (string s cs) = string_case s cs
  value_passes (array s js) = array_case s js (items_pass js)
  value_passes (object s ms) = object_case s ms (members_pass ms)

  items_pass : (js : Items) → ItemsPass js
  items_pass no_items = no_items_case
  items_pass (item j js) = item_case j js (value_passes j) (more_items_pass js)

  more_items_pass : (js : Items) → MorePass js
  more_items_pass no_items = no_more_case
  more_items_pass (item j js) = more_case j js (value_passes j) (more_items_pass js)

  members_pass : (ms : Members) → MembersPass ms
  members_pass no_members = no_members_case
  members_pass (member s cs j ms) = member_case s cs j ms (value_passes j) (more_members_pass ms)

  more_members_pass : (ms : Members) → MorePairsPass ms
  more_members_pass no_members = no_more_pairs_case
  more_members_pass (member s cs j ms) = more_pairs_case s cs j ms (value_passes j) (more_members_pass ms)

text_ends : (d at : ℕ) (a : List ℕ) (ns : List Node) → space at a → read d at a (state mode.After unnamed [] ns) ≡ Ok ns
unfolding read finish
text_ends d at a ns h = ap (λ bs. read d at bs (state mode.After unnamed [] ns)) (simp append-nil) ∙ (space_passes d at (at + length a) a [] mode.After unnamed [] ns refl h refl ∙ refl)

text_parts : (d : ℕ) (j : Json) (a b c : List ℕ) → space 0 a → value j (0 + length a) b → space (0 + length a + length b) c → depth j ≤ d → read d 0 (a ++ (b ++ c)) start ≡ Ok (nodes_of 0 0 unnamed j)
text_parts d j a b c sa vb sc fits =
    space_passes d 0 (0 + length a) a (b ++ c) mode.Value unnamed [] [] refl sa refl ∙
    (value_passes j d (0 + length a) (0 + length a + length b) b c mode.Value unnamed [] [] refl vb refl (omega arith) (last_space c sc) ∙
    text_ends d (0 + length a + length b) c (nodes_of 0 0 unnamed j) sc)
  where
    last_space : (c : List ℕ) → AllByRecursion (λ b. IsTrue (is_space b)) c → NotNumber c
    last_space [] h = tt
    last_space (b ∷ c) h = space_no_number b h.0

-- a text that nests at most d deep is read, and its nodes are the tree's
pub complete : (d : ℕ) (bytes : List ℕ) (j : Json) → IsText bytes j → depth j ≤ d → read d 0 bytes start ≡ Ok (nodes_of 0 0 unnamed j)
complete d bytes j h fits =
    ap (λ bs. read d 0 bs start) (h.2 ∙ ap (λ b. h.0 ++ b) h.4.2) ∙ text_parts d j h.0 h.4.0 h.4.1 h.3 h.4.3 h.4.4 fits
