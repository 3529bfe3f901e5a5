-- The comparison of two values, step by step.
use Rattle.std.proofs.Common.{◌≡◌, ℕ, zero, suc, ◌+◌, ◌<◌, Bool, true, false, not, ◌&&◌, ◌||◌, ◌⊎◌, inl, inr, List, length, refl, sym, ◌∙◌, ap, subst, arith, add-one}
use Rattle.std.specs.Prelude.{Option, Some, None, bytes_eq, MatchOption}
use Rattle.std.specs.List.{slice_get}
use Rattle.std.specs.Option.{is_some}
use Rattle.json_text.specs.declared.kind.Kind.{Kind}
use Rattle.json_text.specs.declared.kind.Kind.TheVariants as kind
use Rattle.json_text.specs.declared.kind.Word.TheVariants as word_of
use Rattle.json_text.specs.declared.span.Span.{Span}
use Rattle.json_text.specs.Json.{Json, word, number, string, array, object, Items, no_items, item, Members, no_members, member}
use Rattle.json_text.specs.Named.{items_list, named}
use Rattle.json_nodes.specs.At.{At, Found, ChildAt, FoundChild}
use Rattle.json_nodes.specs.Doc.{Doc}
use Rattle.json_nodes.specs.Nodes.{kind_of}
use Rattle.json_nodes.specs.Same.{drop_items, drop_members, has_name, if_some, names_within, same, same_items, same_members, same_kind}
use Rattle.json_nodes.specs.Texts.{member_names}
use Rattle.json_nodes.proofs.Members.{Inside, Follows, found_child_is, no_child, inside_more}
use Rattle.json_nodes.proofs.Numbers.{child_at}
use Rattle.json_nodes.proofs.Spelling.{IsMember, is_member, members_end}

-- by the kinds

kinds_equal : (x y : Kind) → same_kind x y ≡ true → x ≡ y
kinds_equal kind.Null kind.Null e = refl
kinds_equal kind.False kind.False e = refl
kinds_equal kind.True kind.True e = refl
kinds_equal kind.Number kind.Number e = refl
kinds_equal kind.Text kind.Text e = refl
kinds_equal kind.Array kind.Array e = refl
kinds_equal kind.Object kind.Object e = refl
kinds_equal _ _ e = cc

-- two values of kinds that differ
pub kinds_differ : (t u : Json) → same_kind (kind_of t) (kind_of u) ≡ false → same t u ≡ false
kinds_differ (word s word_of.Null) (word r word_of.Null) e = cc
kinds_differ (word s word_of.Null) (word r word_of.False) e = refl
kinds_differ (word s word_of.Null) (word r word_of.True) e = refl
kinds_differ (word s word_of.False) (word r word_of.Null) e = refl
kinds_differ (word s word_of.False) (word r word_of.False) e = cc
kinds_differ (word s word_of.False) (word r word_of.True) e = refl
kinds_differ (word s word_of.True) (word r word_of.Null) e = refl
kinds_differ (word s word_of.True) (word r word_of.False) e = refl
kinds_differ (word s word_of.True) (word r word_of.True) e = cc
kinds_differ (word s w) (number r es) e = refl
kinds_differ (word s w) (string r es) e = refl
kinds_differ (word s w) (array r es) e = refl
kinds_differ (word s w) (object r es) e = refl
kinds_differ (number s ds) (word r w) e = refl
kinds_differ (number s ds) (number r es) e = cc
kinds_differ (number s ds) (string r es) e = refl
kinds_differ (number s ds) (array r es) e = refl
kinds_differ (number s ds) (object r es) e = refl
kinds_differ (string s ds) (word r w) e = refl
kinds_differ (string s ds) (number r es) e = refl
kinds_differ (string s ds) (string r es) e = cc
kinds_differ (string s ds) (array r es) e = refl
kinds_differ (string s ds) (object r es) e = refl
kinds_differ (array s ds) (word r w) e = refl
kinds_differ (array s ds) (number r es) e = refl
kinds_differ (array s ds) (string r es) e = refl
kinds_differ (array s ds) (array r es) e = cc
kinds_differ (array s ds) (object r es) e = refl
kinds_differ (object s ds) (word r w) e = refl
kinds_differ (object s ds) (number r es) e = refl
kinds_differ (object s ds) (string r es) e = refl
kinds_differ (object s ds) (array r es) e = refl
kinds_differ (object s ds) (object r es) e = cc

-- a value by its kind
pub number_of : (t : Json) → kind_of t ≡ kind.Number → (s : Span) × (x : List ℕ) × (t ≡ number s x)
number_of (word s word_of.Null) e = cc
number_of (word s word_of.False) e = cc
number_of (word s word_of.True) e = cc
number_of (number s x) e = (s, x, refl)
number_of (string s x) e = cc
number_of (array s x) e = cc
number_of (object s x) e = cc

pub string_of : (t : Json) → kind_of t ≡ kind.Text → (s : Span) × (x : List ℕ) × (t ≡ string s x)
string_of (word s word_of.Null) e = cc
string_of (word s word_of.False) e = cc
string_of (word s word_of.True) e = cc
string_of (number s x) e = cc
string_of (string s x) e = (s, x, refl)
string_of (array s x) e = cc
string_of (object s x) e = cc

pub array_of : (t : Json) → kind_of t ≡ kind.Array → (s : Span) × (x : Items) × (t ≡ array s x)
array_of (word s word_of.Null) e = cc
array_of (word s word_of.False) e = cc
array_of (word s word_of.True) e = cc
array_of (number s x) e = cc
array_of (string s x) e = cc
array_of (array s x) e = (s, x, refl)
array_of (object s x) e = cc

pub object_of : (t : Json) → kind_of t ≡ kind.Object → (s : Span) × (x : Members) × (t ≡ object s x)
object_of (word s word_of.Null) e = cc
object_of (word s word_of.False) e = cc
object_of (word s word_of.True) e = cc
object_of (number s x) e = cc
object_of (string s x) e = cc
object_of (array s x) e = cc
object_of (object s x) e = (s, x, refl)

pub word_null : (t : Json) → kind_of t ≡ kind.Null → (s : Span) × (t ≡ word s word_of.Null)
word_null (number s x) e = cc
word_null (string s x) e = cc
word_null (array s x) e = cc
word_null (object s x) e = cc
word_null (word s word_of.Null) e = (s, refl)
word_null (word s word_of.False) e = cc
word_null (word s word_of.True) e = cc

pub word_false : (t : Json) → kind_of t ≡ kind.False → (s : Span) × (t ≡ word s word_of.False)
word_false (number s x) e = cc
word_false (string s x) e = cc
word_false (array s x) e = cc
word_false (object s x) e = cc
word_false (word s word_of.Null) e = cc
word_false (word s word_of.False) e = (s, refl)
word_false (word s word_of.True) e = cc

pub word_true : (t : Json) → kind_of t ≡ kind.True → (s : Span) × (t ≡ word s word_of.True)
word_true (number s x) e = cc
word_true (string s x) e = cc
word_true (array s x) e = cc
word_true (object s x) e = cc
word_true (word s word_of.Null) e = cc
word_true (word s word_of.False) e = cc
word_true (word s word_of.True) e = (s, refl)

-- the kinds that the code has, and those of the trees

pub other_kind : (x y : Kind) (t u : Json) → x ≡ kind_of t → y ≡ kind_of u → same_kind x y ≡ false → false ≡ same t u
other_kind x y t u e f h = sym (kinds_differ t u (rw (e, f) at h))

pub second_kind : (x y : Kind) (u : Json) → y ≡ kind_of u → same_kind x y ≡ true → (z : Kind) → x ≡ z → kind_of u ≡ z
second_kind x y u f h z is = sym f ∙ sym (kinds_equal x y h) ∙ is

pub same_null : (t u : Json) → kind_of t ≡ kind.Null → kind_of u ≡ kind.Null → true ≡ same t u
same_null t u e f = let p : (s : Span) × (t ≡ word s word_of.Null) = word_null t e in let q : (s : Span) × (u ≡ word s word_of.Null) = word_null u f in rw (p.1, q.1) refl

pub same_false : (t u : Json) → kind_of t ≡ kind.False → kind_of u ≡ kind.False → true ≡ same t u
same_false t u e f = let p : (s : Span) × (t ≡ word s word_of.False) = word_false t e in let q : (s : Span) × (u ≡ word s word_of.False) = word_false u f in rw (p.1, q.1) refl

pub same_true : (t u : Json) → kind_of t ≡ kind.True → kind_of u ≡ kind.True → true ≡ same t u
same_true t u e f = let p : (s : Span) × (t ≡ word s word_of.True) = word_true t e in let q : (s : Span) × (u ≡ word s word_of.True) = word_true u f in rw (p.1, q.1) refl

pub same_numbers : (t u : Json) (l r : List ℕ) → kind_of t ≡ kind.Number → kind_of u ≡ kind.Number → ((s : Span) (ds : List ℕ) → t ≡ number s ds → l ≡ ds) → ((s : Span) (ds : List ℕ) → u ≡ number s ds → r ≡ ds) → bytes_eq l r ≡ same t u
same_numbers t u l r e f g h =
    let p : (s : Span) × (ds : List ℕ) × (t ≡ number s ds) = number_of t e in
    let q : (s : Span) × (ds : List ℕ) × (u ≡ number s ds) = number_of u f in
    rw (p.2, q.2, g p.0 p.1 p.2, h q.0 q.1 q.2) refl

pub same_strings : (t u : Json) (b : Bool) → kind_of t ≡ kind.Text → kind_of u ≡ kind.Text → ((s r : Span) (cs ds : List ℕ) → t ≡ string s cs → u ≡ string r ds → b ≡ bytes_eq cs ds) → b ≡ same t u
same_strings t u b e f g =
    let p : (s : Span) × (cs : List ℕ) × (t ≡ string s cs) = string_of t e in
    let q : (s : Span) × (cs : List ℕ) × (u ≡ string s cs) = string_of u f in
    rw (p.2, q.2, g p.0 q.0 p.1 q.1 p.2 q.2) refl

pub same_arrays : (t u : Json) (b : Bool) → kind_of t ≡ kind.Array → kind_of u ≡ kind.Array → ((s r : Span) (js ks : Items) → t ≡ array s js → u ≡ array r ks → b ≡ same_items js ks) → b ≡ same t u
same_arrays t u b e f g =
    let p : (s : Span) × (js : Items) × (t ≡ array s js) = array_of t e in
    let q : (s : Span) × (js : Items) × (u ≡ array s js) = array_of u f in
    rw (p.2, q.2, g p.0 q.0 p.1 q.1 p.2 q.2) refl

pub same_objects : (t u : Json) (b : Bool) → kind_of t ≡ kind.Object → kind_of u ≡ kind.Object → ((s r : Span) (ms ns : Members) → t ≡ object s ms → u ≡ object r ns → b ≡ same (object s ms) (object r ns)) → b ≡ same t u
same_objects t u b e f g =
    let p : (s : Span) × (ms : Members) × (t ≡ object s ms) = object_of t e in
    let q : (s : Span) × (ms : Members) × (u ≡ object s ms) = object_of u f in
    rw (p.2, q.2, g p.0 q.0 p.1 q.1 p.2 q.2) refl

-- two arrays, item by item

is_item : (js : Items) (n : ℕ) (u : Json) → slice_get (items_list js) n ≡ Some u → drop_items n js ≡ item u (drop_items (suc n) js)
is_item no_items n u h = cc
is_item (item j js) zero u h = let same : j ≡ u = cc in ap (λ k. item k js) same
is_item (item j js) (suc n) u h = is_item js n u h

items_end : (js : Items) (n : ℕ) → slice_get (items_list js) n ≡ None → drop_items n js ≡ no_items
items_end no_items zero h = refl
items_end no_items (suc n) h = refl
items_end (item j js) zero h = cc
items_end (item j js) (suc n) h = items_end js n h

-- what is left of two arrays says the same exactly if all does
pub record Beside (d e : Doc) (x y : ℕ) (s r : Span) (js ks : Items) (next beside : Option ℕ) : Type 0 where
  pub count : ℕ
  pub next_is : FoundChild d x (array s js) count next
  pub beside_is : FoundChild e y (array r ks) count beside
  pub rest : same_items js ks ≡ same_items (drop_items count js) (drop_items count ks)

pub record Comparing (d e : Doc) (x y : ℕ) (next beside : Option ℕ) : Type 0 where
  pub next_inside : MatchOption next (Unit {0}) (λ m. (x < m) × (m < length d.nodes))
  pub beside_inside : Inside (length e.nodes) beside
  pub items : (s r : Span) (js ks : Items) → At d x (array s js) → At e y (array r ks) → Beside d e x y s r js ks next beside

-- the answer for two items
abbrev pub Answers : Doc → Doc → ℕ → ℕ → Bool → Type 0
Answers d e m n answer = (t u : Json) → At d m t → At e n u → answer ≡ same t u

beside_item : (d e : Doc) (x y m n : ℕ) (s r : Span) (js ks : Items) (b : Bool) → (w : Beside d e x y s r js ks (Some m) (Some n)) → Answers d e m n b → same_items js ks ≡ (b && same_items (drop_items (suc w.count) js) (drop_items (suc w.count) ks))
beside_item d e x y m n s r js ks b w answers =
    let c : (t : Json) × ChildAt d x (array s js) w.count m t = found_child_is d x w.count m (array s js) w.next_is in
    let f : (u : Json) × ChildAt e y (array r ks) w.count n u = found_child_is e y w.count n (array r ks) w.beside_is in
    w.rest ∙ rw (is_item js w.count c.0 c.1.child, is_item ks w.count f.0 f.1.child, answers c.0 f.0 (child_at c.1) (child_at f.1)) refl

beside_step : (d e : Doc) (x y m n : ℕ) (s r : Span) (js ks : Items) (next beside : Option ℕ) (b : Bool) → (w : Beside d e x y s r js ks (Some m) (Some n)) → Answers d e m n b → b ≡ true → Follows d m next → Follows e n beside → Beside d e x y s r js ks next beside
beside_step d e x y m n s r js ks next beside b w answers holds follows follows_too =
    let c : (t : Json) × ChildAt d x (array s js) w.count m t = found_child_is d x w.count m (array s js) w.next_is in
    let f : (u : Json) × ChildAt e y (array r ks) w.count n u = found_child_is e y w.count n (array r ks) w.beside_is in
    record {
      count = suc w.count;
      next_is = subst (λ i. FoundChild d x (array s js) i next) (add-one w.count) (follows x w.count (array s js) c.0 c.1);
      beside_is = subst (λ i. FoundChild e y (array r ks) i beside) (add-one w.count) (follows_too y w.count (array r ks) f.0 f.1);
      rest = beside_item d e x y m n s r js ks b w answers ∙ ap (λ v. v && same_items (drop_items (suc w.count) js) (drop_items (suc w.count) ks)) holds;
    }

beside_differs : (d e : Doc) (x y m n : ℕ) (s r : Span) (js ks : Items) (b : Bool) → Beside d e x y s r js ks (Some m) (Some n) → Answers d e m n b → b ≡ false → false ≡ same_items js ks
beside_differs d e x y m n s r js ks b w answers fails = sym (beside_item d e x y m n s r js ks b w answers ∙ ap (λ v. v && same_items (drop_items (suc w.count) js) (drop_items (suc w.count) ks)) fails)

beside_longer : (d e : Doc) (x y m : ℕ) (s r : Span) (js ks : Items) → Beside d e x y s r js ks (Some m) None → false ≡ same_items js ks
beside_longer d e x y m s r js ks w =
    let c : (t : Json) × ChildAt d x (array s js) w.count m t = found_child_is d x w.count m (array s js) w.next_is in
    sym (w.rest ∙ rw (is_item js w.count c.0 c.1.child, items_end ks w.count (no_child e y w.count (array r ks) w.beside_is)) refl)

beside_ends : (d e : Doc) (x y : ℕ) (s r : Span) (js ks : Items) (beside : Option ℕ) → Beside d e x y s r js ks None beside → not (is_some beside) ≡ same_items js ks
beside_ends d e x y s r js ks None w =
    sym (w.rest ∙ rw (items_end js w.count (no_child d x w.count (array s js) w.next_is), items_end ks w.count (no_child e y w.count (array r ks) w.beside_is)) refl)
beside_ends d e x y s r js ks (Some n) w =
    let f : (u : Json) × ChildAt e y (array r ks) w.count n u = found_child_is e y w.count n (array r ks) w.beside_is in
    sym (w.rest ∙ rw (items_end js w.count (no_child d x w.count (array s js) w.next_is), is_item ks w.count f.0 f.1.child) refl)

pub comparing_starts : (d e : Doc) (x y : ℕ) (next beside : Option ℕ) → ((t : Json) → At d x t → FoundChild d x t 0 next) → MatchOption next (Unit {0}) (λ m. (x < m) × (m < length d.nodes)) → ((t : Json) → At e y t → FoundChild e y t 0 beside) → MatchOption beside (Unit {0}) (λ m. (y < m) × (m < length e.nodes)) → Comparing d e x y next beside
comparing_starts d e x y next beside first later first_too later_too = record {
  next_inside = later;
  beside_inside = inside_more (length e.nodes) y beside later_too;
  items = λ s r js ks a b. record { count = 0; next_is = first (array s js) a; beside_is = first_too (array r ks) b; rest = refl };
}

later_on : (len x m : ℕ) (next : Option ℕ) → x < m → MatchOption next (Unit {0}) (λ i. (m < i) × (i < len)) → MatchOption next (Unit {0}) (λ i. (x < i) × (i < len))
later_on len x m None lt h = tt
later_on len x m (Some i) lt h = (omega arith, h.1)

pub comparing_on : (d e : Doc) (x y m n : ℕ) (here there next beside : Option ℕ) (b : Bool) → Comparing d e x y here there → here ≡ Some m → there ≡ Some n → Answers d e m n b → b ≡ true → Follows d m next → MatchOption next (Unit {0}) (λ i. (m < i) × (i < length d.nodes)) → Follows e n beside → MatchOption beside (Unit {0}) (λ i. (n < i) × (i < length e.nodes)) → Comparing d e x y next beside
comparing_on d e x y m n here there next beside b w p q answers holds follows later follows_too later_too =
    let v : Comparing d e x y (Some m) (Some n) = subst (λ o. Comparing d e x y (Some m) o) q (subst (λ o. Comparing d e x y o there) p w) in
    record {
      next_inside = later_on (length d.nodes) x m next v.next_inside.0 later;
      beside_inside = inside_more (length e.nodes) n beside later_too;
      items = λ s r js ks a c. beside_step d e x y m n s r js ks next beside b (v.items s r js ks a c) answers holds follows follows_too;
    }

pub comparing_differs : (d e : Doc) (x y m n : ℕ) (here there : Option ℕ) (b : Bool) → Comparing d e x y here there → here ≡ Some m → there ≡ Some n → Answers d e m n b → b ≡ false → (s r : Span) (js ks : Items) → At d x (array s js) → At e y (array r ks) → false ≡ same_items js ks
comparing_differs d e x y m n here there b w p q answers fails s r js ks a c =
    let v : Comparing d e x y (Some m) (Some n) = subst (λ o. Comparing d e x y (Some m) o) q (subst (λ o. Comparing d e x y o there) p w) in
    beside_differs d e x y m n s r js ks b (v.items s r js ks a c) answers fails

pub comparing_longer : (d e : Doc) (x y m : ℕ) (here there : Option ℕ) → Comparing d e x y here there → here ≡ Some m → there ≡ None → (s r : Span) (js ks : Items) → At d x (array s js) → At e y (array r ks) → false ≡ same_items js ks
comparing_longer d e x y m here there w p q s r js ks a c =
    let v : Comparing d e x y (Some m) None = subst (λ o. Comparing d e x y (Some m) o) q (subst (λ o. Comparing d e x y o there) p w) in
    beside_longer d e x y m s r js ks (v.items s r js ks a c)

pub comparing_ends : (d e : Doc) (x y : ℕ) (here there : Option ℕ) → Comparing d e x y here there → here ≡ None → (s r : Span) (js ks : Items) → At d x (array s js) → At e y (array r ks) → not (is_some there) ≡ same_items js ks
comparing_ends d e x y here there w p s r js ks a c =
    let v : Comparing d e x y None there = subst (λ o. Comparing d e x y o there) p w in
    beside_ends d e x y s r js ks there (v.items s r js ks a c)

-- the members of an object, one by one, under a test of all of them

pub record MembersOn (d : Doc) (x : ℕ) (s : Span) (ms : Members) (f : Members → Bool) (next : Option ℕ) : Type 0 where
  pub count : ℕ
  pub next_is : FoundChild d x (object s ms) count next
  pub rest : f ms ≡ f (drop_members count ms)

-- the test is one of the first member, and then of the others
abbrev pub ByMembers : (Members → Bool) → (List ℕ → Json → Members → Bool) → Type 0
ByMembers f g = (s : Span) (cs : List ℕ) (u : Json) (ms : Members) → f (member s cs u ms) ≡ (g cs u ms && f ms)

abbrev pub MemberAnswers : Doc → ℕ → Span → Members → (List ℕ → Json → Members → Bool) → ℕ → Bool → Type 0
MemberAnswers d x s ms g m answer = (n : ℕ) (u : Json) (cs : List ℕ) → ChildAt d x (object s ms) n m u → slice_get (member_names ms) n ≡ Some cs → answer ≡ g cs u (drop_members (n + 1) ms)

members_now : (d : Doc) (x : ℕ) (s : Span) (ms : Members) (f : Members → Bool) (g : List ℕ → Json → Members → Bool) (m : ℕ) (b : Bool) → ByMembers f g → (w : MembersOn d x s ms f (Some m)) → MemberAnswers d x s ms g m b → f ms ≡ (b && f (drop_members (suc w.count) ms))
members_now d x s ms f g m b by w answers =
    let c : (u : Json) × ChildAt d x (object s ms) w.count m u = found_child_is d x w.count m (object s ms) w.next_is in
    let e : IsMember ms w.count c.0 = is_member ms w.count c.0 c.1.child in
    let a : b ≡ g e.name c.0 (drop_members (suc w.count) ms) = answers w.count c.0 e.name c.1 e.named ∙ ap (λ i. g e.name c.0 (drop_members i ms)) (add-one w.count) in
    w.rest ∙ ap f e.whole ∙ by e.place e.name c.0 (drop_members (suc w.count) ms) ∙ ap (λ v. v && f (drop_members (suc w.count) ms)) (sym a)

pub members_on : (d : Doc) (x : ℕ) (s : Span) (ms : Members) (f : Members → Bool) (g : List ℕ → Json → Members → Bool) (m : ℕ) (b : Bool) (next : Option ℕ) → ByMembers f g → MembersOn d x s ms f (Some m) → MemberAnswers d x s ms g m b → b ≡ true → Follows d m next → MembersOn d x s ms f next
members_on d x s ms f g m b next by w answers holds follows =
    let c : (u : Json) × ChildAt d x (object s ms) w.count m u = found_child_is d x w.count m (object s ms) w.next_is in
    record {
      count = suc w.count;
      next_is = subst (λ i. FoundChild d x (object s ms) i next) (add-one w.count) (follows x w.count (object s ms) c.0 c.1);
      rest = members_now d x s ms f g m b by w answers ∙ ap (λ v. v && f (drop_members (suc w.count) ms)) holds;
    }

pub members_fail : (d : Doc) (x : ℕ) (s : Span) (ms : Members) (f : Members → Bool) (g : List ℕ → Json → Members → Bool) (m : ℕ) (b : Bool) → ByMembers f g → MembersOn d x s ms f (Some m) → MemberAnswers d x s ms g m b → b ≡ false → false ≡ f ms
members_fail d x s ms f g m b by w answers fails = sym (members_now d x s ms f g m b by w answers ∙ ap (λ v. v && f (drop_members (suc w.count) ms)) fails)

pub members_hold : (d : Doc) (x : ℕ) (s : Span) (ms : Members) (f : Members → Bool) → MembersOn d x s ms f None → f no_members ≡ true → true ≡ f ms
members_hold d x s ms f w none = sym (w.rest ∙ ap f (members_end ms w.count (no_child d x w.count (object s ms) w.next_is)) ∙ none)

-- the same for each pair of objects
pub record MembersWalk (d e : Doc) (x y : ℕ) (f : Members → Members → Bool) (next : Option ℕ) : Type 0 where
  pub next_inside : MatchOption next (Unit {0}) (λ m. (x < m) × (m < length d.nodes))
  pub members : (s r : Span) (ms ns : Members) → At d x (object s ms) → At e y (object r ns) → MembersOn d x s ms (λ xs. f xs ns) next

pub walk_begins : (d e : Doc) (x y : ℕ) (f : Members → Members → Bool) (next : Option ℕ) → ((t : Json) → At d x t → FoundChild d x t 0 next) → MatchOption next (Unit {0}) (λ m. (x < m) × (m < length d.nodes)) → MembersWalk d e x y f next
walk_begins d e x y f next first later = record { next_inside = later; members = λ s r ms ns a b. record { count = 0; next_is = first (object s ms) a; rest = refl } }

abbrev pub WalkAnswers : Doc → Doc → ℕ → ℕ → (Members → List ℕ → Json → Members → Bool) → ℕ → Bool → Type 0
WalkAnswers d e x y g m answer = (s r : Span) (ms ns : Members) → At e y (object r ns) → MemberAnswers d x s ms (g ns) m answer

pub walk_on : (d e : Doc) (x y : ℕ) (f : Members → Members → Bool) (g : Members → List ℕ → Json → Members → Bool) (m : ℕ) (here next : Option ℕ) (b : Bool) → ((ns : Members) → ByMembers (λ xs. f xs ns) (g ns)) → MembersWalk d e x y f here → here ≡ Some m → WalkAnswers d e x y g m b → b ≡ true → Follows d m next → MatchOption next (Unit {0}) (λ i. (m < i) × (i < length d.nodes)) → MembersWalk d e x y f next
walk_on d e x y f g m here next b by w is answers holds follows later =
    let v : MembersWalk d e x y f (Some m) = subst (λ o. MembersWalk d e x y f o) is w in
    record {
      next_inside = later_on (length d.nodes) x m next v.next_inside.0 later;
      members = λ s r ms ns a c. members_on d x s ms (λ xs. f xs ns) (g ns) m b next (by ns) (v.members s r ms ns a c) (answers s r ms ns c) holds follows;
    }

pub walk_fails : (d e : Doc) (x y : ℕ) (f : Members → Members → Bool) (g : Members → List ℕ → Json → Members → Bool) (m : ℕ) (here : Option ℕ) (b : Bool) → ((ns : Members) → ByMembers (λ xs. f xs ns) (g ns)) → MembersWalk d e x y f here → here ≡ Some m → WalkAnswers d e x y g m b → b ≡ false → (s r : Span) (ms ns : Members) → At d x (object s ms) → At e y (object r ns) → false ≡ f ms ns
walk_fails d e x y f g m here b by w is answers fails s r ms ns a c =
    let v : MembersWalk d e x y f (Some m) = subst (λ o. MembersWalk d e x y f o) is w in
    members_fail d x s ms (λ xs. f xs ns) (g ns) m b (by ns) (v.members s r ms ns a c) (answers s r ms ns c) fails

pub walk_holds : (d e : Doc) (x y : ℕ) (f : Members → Members → Bool) (here : Option ℕ) → ((ns : Members) → f no_members ns ≡ true) → MembersWalk d e x y f here → here ≡ None → (s r : Span) (ms ns : Members) → At d x (object s ms) → At e y (object r ns) → true ≡ f ms ns
walk_holds d e x y f here none w is s r ms ns a c =
    let v : MembersWalk d e x y f None = subst (λ o. MembersWalk d e x y f o) is w in
    members_hold d x s ms (λ xs. f xs ns) (v.members s r ms ns a c) (none ns)

-- the two tests

abbrev pub within_first : Members → List ℕ → Json → Members → Bool
within_first ns cs u ms = has_name cs ns

pub names_by : (ns : Members) → ByMembers (λ xs. names_within xs ns) (within_first ns)
names_by ns s cs u ms = refl

abbrev pub members_first : Members → List ℕ → Json → Members → Bool
members_first ns cs u ms = has_name cs ms || if_some (named cs ns) (λ v. same u v)

pub members_by : (ns : Members) → ByMembers (λ xs. same_members xs ns) (members_first ns)
members_by ns s cs u ms = refl

-- what a look-up by a name found
pub found_some : (doc : Doc) (o : Option Json) (answer : Option ℕ) → Found doc o answer → is_some answer ≡ is_some o
found_some doc None None h = refl
found_some doc (Some t) (Some k) h = refl
found_some doc None (Some k) h = absurd h
found_some doc (Some t) None h = absurd h

-- one member: a later one has its name, or the last one of the other object says the same or not

pub member_later : (b : Bool) (o p : Option Json) (u : Json) → b ≡ not (is_some o) → b ≡ false → true ≡ (is_some o || if_some p (λ v. same u v))
member_later b (Some j) p u h e = refl
member_later b None p u h e = cc

pub member_last : (d e : Doc) (o p : Option Json) (m n : ℕ) (u : Json) (l : Bool) (twin : Option ℕ) (b : Bool) → l ≡ not (is_some o) → l ≡ true → At d m u → Found e p twin → twin ≡ Some n → Answers d e m n b → b ≡ (is_some o || if_some p (λ v. same u v))
member_last d e (Some j) p m n u l twin b h f a g is answers = cc
member_last d e None None m n u l twin b h f a g is answers = let z : Found e None (Some n) = subst (λ q. Found e None q) is g in absurd z
member_last d e None (Some v) m n u l twin b h f a g is answers = answers u v a (subst (λ q. Found e (Some v) q) is g)

pub member_missing : (e : Doc) (o p : Option Json) (u : Json) (l : Bool) (twin : Option ℕ) → l ≡ not (is_some o) → l ≡ true → Found e p twin → twin ≡ None → false ≡ (is_some o || if_some p (λ v. same u v))
member_missing e (Some j) p u l twin h f g is = cc
member_missing e None None u l twin h f g is = refl
member_missing e None (Some v) u l twin h f g is = let z : Found e (Some v) None = subst (λ q. Found e (Some v) q) is g in absurd z

-- answers of the code

pub none_answer : (b : Bool) (o : Option ℕ) → is_some o ≡ not b → b ≡ not (is_some o)
none_answer true o h = ap not (sym h)
none_answer false o h = ap not (sym h)

pub same_words : (x : Kind) (t u : Json) → x ≡ kind_of t → ((k : Kind) → x ≡ k → kind_of u ≡ k) → (x ≡ kind.Null) ⊎ ((x ≡ kind.False) ⊎ (x ≡ kind.True)) → true ≡ same t u
same_words x t u first second (inl e) = same_null t u (sym first ∙ e) (second kind.Null e)
same_words x t u first second (inr (inl e)) = same_false t u (sym first ∙ e) (second kind.False e)
same_words x t u first second (inr (inr e)) = same_true t u (sym first ∙ e) (second kind.True e)

pub objects_differ : (t u : Json) (b : Bool) → kind_of t ≡ kind.Object → kind_of u ≡ kind.Object → b ≡ false → ((s r : Span) (ms ns : Members) → t ≡ object s ms → u ≡ object r ns → b ≡ same_members ms ns) → false ≡ same t u
objects_differ t u b e f fails g =
    let p : (s : Span) × (ms : Members) × (t ≡ object s ms) = object_of t e in
    let q : (s : Span) × (ms : Members) × (u ≡ object s ms) = object_of u f in
    let h : same_members p.1 q.1 ≡ false = sym (g p.0 q.0 p.1 q.1 p.2 q.2) ∙ fails in
    rw (p.2, q.2, h) refl
