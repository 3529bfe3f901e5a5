-- What is written in one pass is the compact text of the declared tree.
use Rattle.std.proofs.Common.{◌≡◌, ℕ, Bool, true, false, ◌||◌, List, [], ◌∷◌, ◌++◌, refl, sym, ◌∙◌, ap, ap₂, append-nil, codes}
use Rattle.std.specs.Prelude.{Option, Some, None, bytes_eq, if◌then◌else◌}
use Rattle.std.specs.Option.{is_some, option_and_then, option_map}
use Rattle.std.proofs.lemmas.Slice.Eq.{bytes_eq-Decides}
use Rattle.json_text.specs.declared.kind.Word.{Word}
use Rattle.json_text.specs.declared.span.Span.{Span}
use Rattle.json_text.specs.Json.{Json, word, number, string, array, object, Items, no_items, item, Members, no_members, member}
use Rattle.json_text.specs.Named.{named}
use Rattle.json_text.specs.Tree.{tree_of}
use Rattle.json_nodes.specs.Same.{has_name, if_some}
use Rattle.capability_meet.specs.declared.spot.Spot.{Spot}
use Rattle.capability_meet.specs.declared.spot.Spot.TheVariants as spot
use Rattle.capability_meet.specs.Compact.{compact, compact_items, compact_members, name_text}
use Rattle.capability_meet.specs.DeclaredTree.{declared_of, declared_tree, left_out, members_and, members_changed, members_with, members_without, on_members, put_back, with_cancel, with_support}
use Rattle.capability_meet.specs.Meet.{if_meets, items_of, meets, named_meets}
use Rattle.capability_meet.specs.MeetTree.{common_items, common_members, meet_of, meet_tree, put_member, whole_text}
use Rattle.capability_meet.specs.OnePass.{is_left_out, items_met, met_at, pairs_at, put, required, spot_of, text_at, whole_at}
use Rattle.capability_meet.specs.Order.{is_among}
use Rattle.capability_meet.specs.Parts.{braced, bracketed}
use Rattle.capability_meet.specs.Shown.{members_of}
use Rattle.capability_meet.proofs.MeetLaws.{common, common_named}

-- what becomes of a value at a spot, and of an object's members there

abbrev pub at_spot : Spot → Json → Json
at_spot spot.Top j = put_back (left_out j)
at_spot spot.Window j = with_support j
at_spot spot.General j = with_cancel j
at_spot spot.ShowDocument j = on_members (λ ms. members_with (codes "support") ms) j
at_spot spot.StaleRequestSupport j = on_members (λ ms. members_with (codes "cancel") ms) j
at_spot spot.Elsewhere j = j

abbrev members_at : Spot → Members → Members
members_at s no_members = no_members
members_at s (member p cs j ms) = if is_left_out s cs then members_at s ms else member p cs (at_spot (spot_of s cs) j) (members_at s ms)

-- values that are no objects stay

at_word : (s : Spot) (r : Span) (w : Word) → at_spot s (word r w) ≡ word r w
at_word spot.Top r w = refl
at_word spot.Window r w = refl
at_word spot.General r w = refl
at_word spot.ShowDocument r w = refl
at_word spot.StaleRequestSupport r w = refl
at_word spot.Elsewhere r w = refl

at_number : (s : Spot) (r : Span) (ds : List ℕ) → at_spot s (number r ds) ≡ number r ds
at_number spot.Top r ds = refl
at_number spot.Window r ds = refl
at_number spot.General r ds = refl
at_number spot.ShowDocument r ds = refl
at_number spot.StaleRequestSupport r ds = refl
at_number spot.Elsewhere r ds = refl

at_string : (s : Spot) (r : Span) (cs : List ℕ) → at_spot s (string r cs) ≡ string r cs
at_string spot.Top r cs = refl
at_string spot.Window r cs = refl
at_string spot.General r cs = refl
at_string spot.ShowDocument r cs = refl
at_string spot.StaleRequestSupport r cs = refl
at_string spot.Elsewhere r cs = refl

at_array : (s : Spot) (r : Span) (js : Items) → at_spot s (array r js) ≡ array r js
at_array spot.Top r js = refl
at_array spot.Window r js = refl
at_array spot.General r js = refl
at_array spot.ShowDocument r js = refl
at_array spot.StaleRequestSupport r js = refl
at_array spot.Elsewhere r js = refl

-- items

kept : (bs : List ℕ) (j : Json) (js : Items) (xs : List (List ℕ)) (b : Bool) → xs ≡ compact_items bs js → (if b then compact bs j ∷ xs else xs) ≡ compact_items bs (if b then item j js else js)
kept bs j js xs true e = ap (λ ys. compact bs j ∷ ys) e
kept bs j js xs false e = e

items_pass : (bs : List ℕ) (js ks : Items) → items_met bs js ks ≡ compact_items bs (common_items js ks)
items_pass bs no_items ks = refl
items_pass bs (item j js) ks = kept bs j (common_items js ks) (items_met bs js ks) (is_among j ks) (items_pass bs js ks)

-- members by their spot

everywhere : (ms : Members) → members_at spot.Elsewhere ms ≡ ms
everywhere no_members = refl
everywhere (member p cs j ms) = ap (λ z. member p cs j z) (everywhere ms)

in_document : (ms : Members) → members_at spot.ShowDocument ms ≡ ms
in_document no_members = refl
in_document (member p cs j ms) = ap (λ z. member p cs j z) (in_document ms)

in_support : (ms : Members) → members_at spot.StaleRequestSupport ms ≡ ms
in_support no_members = refl
in_support (member p cs j ms) = ap (λ z. member p cs j z) (in_support ms)

chosen : (s : Spot) (j : Json) (b : Bool) → at_spot (if b then s else spot.Elsewhere) j ≡ (if b then at_spot s j else j)
chosen s j true = refl
chosen s j false = refl

in_window : (ms : Members) → members_at spot.Window ms ≡ members_changed (codes "showDocument") (λ k. at_spot spot.ShowDocument k) ms
in_window no_members = refl
in_window (member p cs j ms) = ap₂ (λ x z. member p cs x z) (chosen spot.ShowDocument j (bytes_eq (codes "showDocument") cs)) (in_window ms)

in_general : (ms : Members) → members_at spot.General ms ≡ members_changed (codes "staleRequestSupport") (λ k. at_spot spot.StaleRequestSupport k) ms
in_general no_members = refl
in_general (member p cs j ms) = ap₂ (λ x z. member p cs x z) (chosen spot.StaleRequestSupport j (bytes_eq (codes "staleRequestSupport") cs)) (in_general ms)

abbrev top : Members → Members
top ms = members_changed (codes "general") (λ k. with_cancel k) (members_changed (codes "window") (λ k. with_support k) (members_without (codes "offsetEncoding") (members_without (codes "notebookDocument") ms)))

-- a name isn't both
not_both : (cs : List ℕ) → bytes_eq (codes "window") cs ≡ true → bytes_eq (codes "general") cs ≡ true → ⊥
not_both cs w g =
    let e : codes "window" ≡ cs = (bytes_eq-Decides (codes "window") cs).0 w in
    let h : bytes_eq (codes "general") (codes "window") ≡ true = ap (λ z. bytes_eq (codes "general") z) e ∙ g in
    cc

two_spots : (cs : List ℕ) (j : Json) (w g : Bool) → bytes_eq (codes "window") cs ≡ w → bytes_eq (codes "general") cs ≡ g
    → at_spot (if w then spot.Window else if g then spot.General else spot.Elsewhere) j ≡ (if g then with_cancel (if w then with_support j else j) else (if w then with_support j else j))
two_spots cs j true true e h = absurd (not_both cs e h)
two_spots cs j true false e h = refl
two_spots cs j false true e h = refl
two_spots cs j false false e h = refl

top_member : (p : Span) (cs : List ℕ) (j k : Json) (ms rest : Members) (n o w g : Bool) → bytes_eq (codes "offsetEncoding") cs ≡ o → bytes_eq (codes "window") cs ≡ w → bytes_eq (codes "general") cs ≡ g
    → rest ≡ top ms → k ≡ (if g then with_cancel (if w then with_support j else j) else (if w then with_support j else j))
    → (if n || o then rest else member p cs k rest) ≡ members_changed (codes "general") (λ k. with_cancel k) (members_changed (codes "window") (λ k. with_support k) (members_without (codes "offsetEncoding") (if n then members_without (codes "notebookDocument") ms else member p cs j (members_without (codes "notebookDocument") ms))))
top_member p cs j k ms rest true o w g f a b e h = e
top_member p cs j k ms rest false true w g f a b e h = rw (f) e
top_member p cs j k ms rest false false w g f a b e h = rw (f, a, b) (ap₂ (λ x z. member p cs x z) h e)

in_top : (ms : Members) → members_at spot.Top ms ≡ top ms
in_top no_members = refl
in_top (member p cs j ms) = top_member p cs j (at_spot (spot_of spot.Top cs) j) ms (members_at spot.Top ms) (bytes_eq (codes "notebookDocument") cs) (bytes_eq (codes "offsetEncoding") cs) (bytes_eq (codes "window") cs) (bytes_eq (codes "general") cs) refl refl refl
    (in_top ms) (two_spots cs j (bytes_eq (codes "window") cs) (bytes_eq (codes "general") cs) refl refl)

-- what is required

has_common : (o q : Option Json) → is_some (common o q) ≡ if_some o (λ j. if_some q (λ k. meets j k))
has_common None q = refl
has_common (Some j) None = refl
has_common (Some j) (Some k) = go (meets j k)
  where
    go : (b : Bool) → is_some (option_map (λ l. meet_tree j l) (if b then Some k else None)) ≡ b
    go true = refl
    go false = refl

has_meets : (name : List ℕ) (ms ns : Members) → has_name name (common_members ms ns) ≡ named_meets name ms ns
has_meets name ms ns = ap is_some (common_named name ms ns) ∙ has_common (named name ms) (named name ns)

behind : (bs name : List ℕ) (ms : Members) → compact_members bs (members_and name ms) ≡ compact_members bs ms ++ (((34 ∷ (name ++ 34 ∷ [])) ++ (58 ∷ codes "false")) ∷ [])
behind bs name no_members = refl
behind bs name (member p cs j ms) = ap (λ xs. (name_text bs p cs ++ (58 ∷ compact bs j)) ∷ xs) (behind bs name ms)

required_members : (bs name x : List ℕ) (ms : Members) (b : Bool) → x ≡ (34 ∷ (name ++ 34 ∷ [])) ++ (58 ∷ codes "false") → compact_members bs ms ++ (if b then [] else (x ∷ [])) ≡ compact_members bs (if b then ms else members_and name ms)
required_members bs name x ms true e = append-nil (compact_members bs ms)
required_members bs name x ms false e = ap (λ y. compact_members bs ms ++ (y ∷ [])) e ∙ sym (behind bs name ms)

-- an object with its members at their spot, and what is required behind them
object_at : (bs : List ℕ) (s : Spot) (r : Span) (ms ns : Members) → braced (compact_members bs (members_at s (common_members ms ns)) ++ required s ms ns) ≡ compact bs (at_spot s (object r (common_members ms ns)))
object_at bs spot.Elsewhere r ms ns = ap braced (append-nil (compact_members bs (members_at spot.Elsewhere (common_members ms ns))) ∙ ap (λ z. compact_members bs z) (everywhere (common_members ms ns)))
object_at bs spot.Top r ms ns = ap braced (append-nil (compact_members bs (members_at spot.Top (common_members ms ns))) ∙ ap (λ z. compact_members bs z) (in_top (common_members ms ns)))
object_at bs spot.Window r ms ns = ap braced (append-nil (compact_members bs (members_at spot.Window (common_members ms ns))) ∙ ap (λ z. compact_members bs z) (in_window (common_members ms ns)))
object_at bs spot.General r ms ns = ap braced (append-nil (compact_members bs (members_at spot.General (common_members ms ns))) ∙ ap (λ z. compact_members bs z) (in_general (common_members ms ns)))
object_at bs spot.ShowDocument r ms ns =
    ap braced (ap (λ z. compact_members bs z ++ required spot.ShowDocument ms ns) (in_document (common_members ms ns))
    ∙ required_members bs (codes "support") (codes "\"support\":false") (common_members ms ns) (named_meets (codes "support") ms ns) refl
    ∙ ap (λ b. compact_members bs (if b then common_members ms ns else members_and (codes "support") (common_members ms ns))) (sym (has_meets (codes "support") ms ns)))
object_at bs spot.StaleRequestSupport r ms ns =
    ap braced (ap (λ z. compact_members bs z ++ required spot.StaleRequestSupport ms ns) (in_support (common_members ms ns))
    ∙ required_members bs (codes "cancel") (codes "\"cancel\":false") (common_members ms ns) (named_meets (codes "cancel") ms ns) refl
    ∙ ap (λ b. compact_members bs (if b then common_members ms ns else members_and (codes "cancel") (common_members ms ns))) (sym (has_meets (codes "cancel") ms ns)))

-- one member

member_pass : (bs : List ℕ) (s : Spot) (p : Span) (cs : List ℕ) (tree : Json → Json) (text : Json → List ℕ) (o : Option Json) (ms : Members) (xs : List (List ℕ)) (a b : Bool) → is_left_out s cs ≡ b → ((k : Json) → text k ≡ compact bs (at_spot (spot_of s cs) (tree k))) → xs ≡ compact_members bs (members_at s ms)
    → put (if a || b then None else o) (λ k. name_text bs p cs ++ (58 ∷ text k)) xs ≡ compact_members bs (members_at s (put_member p cs (option_map (λ k. tree k) (if a then None else o)) ms))
member_pass bs s p cs tree text o ms xs true b e f h = h
member_pass bs s p cs tree text None ms xs false true e f h = h
member_pass bs s p cs tree text None ms xs false false e f h = h
member_pass bs s p cs tree text (Some k) ms xs false true e f h = rw (e) h
member_pass bs s p cs tree text (Some k) ms xs false false e f h = rw (e) (ap₂ (λ x ys. (name_text bs p cs ++ (58 ∷ x)) ∷ ys) (f k) h)

mutual
  pub one_pass : (bs : List ℕ) (s : Spot) (j k : Json) → text_at bs s j k ≡ compact bs (at_spot s (meet_tree j k))
  one_pass bs s (word r w) k = ap (λ x. compact bs x) (sym (at_word s r w))
  one_pass bs s (number r ds) k = ap (λ x. compact bs x) (sym (at_number s r ds))
  one_pass bs s (string r cs) k = ap (λ x. compact bs x) (sym (at_string s r cs))
  one_pass bs s (array r js) k = ap bracketed (items_pass bs js (items_of k)) ∙ ap (λ x. compact bs x) (sym (at_array s r (common_items js (items_of k))))
  one_pass bs s (object r ms) k = ap (λ xs. braced (xs ++ required s ms (members_of k))) (pairs_pass bs s ms (members_of k)) ∙ object_at bs s r ms (members_of k)

  pairs_pass : (bs : List ℕ) (s : Spot) (ms ns : Members) → pairs_at bs s ms ns ≡ compact_members bs (members_at s (common_members ms ns))
  pairs_pass bs s no_members ns = refl
  pairs_pass bs s (member p cs j ms) ns = member_pass bs s p cs (λ k. meet_tree j k) (λ k. text_at bs (spot_of s cs) j k) (if_meets j (named cs ns)) (common_members ms ns) (pairs_at bs s ms ns) (has_name cs ms) (is_left_out s cs) refl
      (λ k. one_pass bs (spot_of s cs) j k) (pairs_pass bs s ms ns)

-- whole texts

both_texts : (f g : Json → Json → List ℕ) (o p : Option Json) → ((j k : Json) → f j k ≡ g j k) → option_and_then (λ j. option_map (λ k. f j k) p) o ≡ option_and_then (λ j. option_map (λ k. g j k) p) o
both_texts f g None p e = refl
both_texts f g (Some j) None e = refl
both_texts f g (Some j) (Some k) e = ap (λ x. Some x) (e j k)

whole_pass : (bs : List ℕ) (s : Spot) (j k : Json) → whole_at bs s j k ≡ whole_text (λ j k. at_spot s (meet_tree j k)) bs j k
whole_pass bs s j k = ap (λ x. if meets j k then x else codes "{}") (one_pass bs s j k)

pub meet_pass : (a b : List ℕ) → met_at spot.Elsewhere a b ≡ meet_of a b
meet_pass a b = both_texts (λ j k. whole_at a spot.Elsewhere j k) (λ j k. whole_text (λ j k. meet_tree j k) a j k) (tree_of a) (tree_of b) (λ j k. whole_pass a spot.Elsewhere j k)

pub declared_pass : (a b : List ℕ) → met_at spot.Top a b ≡ declared_of a b
declared_pass a b = both_texts (λ j k. whole_at a spot.Top j k) (λ j k. whole_text (λ j k. declared_tree j k) a j k) (tree_of a) (tree_of b) (λ j k. whole_pass a spot.Top j k)
