-- The last members of an object by their names.
use Rattle.std.proofs.Common.{◌≡◌, ℕ, zero, suc, ◌+◌, ◌<◌, ◌≤◌, Bool, true, false, not, cond, IsTrue, ◌↔◌, List, [], ◌∷◌, length, Vec, Global, refl, sym, ◌∙◌, ap, subst, arith, add-one, is_some, encode_utf8_all, ap₂, ◌||◌, ◌==◌}
use Rattle.std.specs.Prelude.{Option, Some, None, Result, Ok, Err, bytes_eq, MatchOption}
use Rattle.std.specs.declared.cmp.Ordering.{Ordering}
use Rattle.std.specs.declared.cmp.Ordering.TheVariants.{Less, Equal, Greater}
use Rattle.std.specs.Ordering.{nat_cmp, is_eq, match_ordering}
use Rattle.std.specs.Cmp.Lexicographic.{slice_cmp}
use Rattle.std.specs.List.{slice_get}
use Rattle.std.specs.Option.{IfSome, IsSomeAnd}
use Rattle.std.specs.Result.{IfOk, result_ok}
use Rattle.std.specs.BTreeMap.{BTreeMap, insert_entry}
use Rattle.std.specs.Map.{lookup}
use Rattle.std.proofs.lemmas.Map.Text.{is_eq-slice_cmp}
use Rattle.std.proofs.lemmas.Str.{encodes_same}
use Rattle.std.proofs.lemmas.Slice.Eq.{bytes_eq-Decides}
use Rattle.std.proofs.lemmas.Bool.Decides.{Decides-eqb}
use Rattle.json_text.specs.declared.span.Span.{Span}
use Rattle.json_text.specs.Json.{Json, object, Members, no_members, member}
use Rattle.json_text.specs.Named.{values_list, named, if_named, or_else}
use Rattle.json_nodes.specs.At.{At, ChildAt, Found, FoundChild, sizes}
use Rattle.json_nodes.specs.declared.index.Indexed.{Indexed}
use Rattle.json_nodes.specs.declared.values.Values.{Values}
use Rattle.json_nodes.specs.Values.{doc_of}
use Rattle.json_nodes.specs.Doc.{Doc}
use Rattle.json_nodes.specs.Index.{either, last_number, number_of, is_number, KeepsLast}
use Rattle.json_nodes.specs.Nodes.{size}
use Rattle.json_nodes.specs.Same.{drop_members, has_name}
use Rattle.json_nodes.specs.Steps.{some_if}
use Rattle.json_nodes.specs.Texts.{member_names}
use Rattle.json_nodes.proofs.Looks.{more_sizes}
use Rattle.json_nodes.proofs.Members.{Inside, Follows, found_child_is, no_child, inside_more}
use Rattle.json_nodes.proofs.Numbers.{child_at}
use Rattle.json_nodes.proofs.Spelling.{IsMember, decided, is_member, members_end}
use Rattle.json_nodes.proofs.Tree.{size_shape}

-- what a map has under bytes, when a key is put

-- whether a key has these bytes, as the map tests it
abbrev at : List ℕ → Vec ℕ Global → Bool
at u k = is_eq (slice_cmp nat_cmp u k.items)

pub equal_items : (xs ys : List ℕ) → slice_cmp nat_cmp xs ys ≡ Equal → xs ≡ ys
equal_items xs ys e = (bytes_eq-Decides xs ys).0 (sym (is_eq-slice_cmp xs ys) ∙ ap is_eq e)

not_both : (u : List ℕ) (xs ys : List ℕ) → slice_cmp nat_cmp xs ys ≡ Greater → bytes_eq u xs ≡ true → is_eq (slice_cmp nat_cmp u ys) ≡ true → true ≡ false
not_both u xs ys g first second =
    let e : u ≡ xs = (bytes_eq-Decides u xs).0 first in
    sym second ∙ ap (λ zs. is_eq (slice_cmp nat_cmp zs ys)) e ∙ ap is_eq g

same_twice : (a b : Bool) (x y : ℕ) (o : Option ℕ) → a ≡ b → cond a (Some x) o ≡ cond b (Some x) (cond a (Some y) o)
same_twice true true x y o e = refl
same_twice true false x y o e = cc
same_twice false true x y o e = cc
same_twice false false x y o e = refl

other_one : (a b : Bool) (x y : ℕ) (o p : Option ℕ) → (b ≡ true → a ≡ true → true ≡ false) → o ≡ cond b (Some x) p → cond a (Some y) o ≡ cond b (Some x) (cond a (Some y) p)
other_one true true x y o p n e = absurd (cc (n refl refl))
other_one true false x y o p n e = refl
other_one false true x y o p n e = e
other_one false false x y o p n e = e

put_key : (u : List ℕ) (key : Vec ℕ Global) (x : ℕ) (es : List (Vec ℕ Global × ℕ)) → lookup (at u) (insert_entry (λ a b. slice_cmp nat_cmp a.items b.items) es key x) ≡ cond (bytes_eq u key.items) (Some x) (lookup (at u) es)
put_key u key x [] = ap (λ b. cond b (Some x) None) (is_eq-slice_cmp u key.items)
put_key u key x (e ∷ es) = go (slice_cmp nat_cmp key.items e.0.items) refl (put_key u key x es)
  where
    go : (o : Ordering) → slice_cmp nat_cmp key.items e.0.items ≡ o → lookup (at u) (insert_entry (λ a b. slice_cmp nat_cmp a.items b.items) es key x) ≡ cond (bytes_eq u key.items) (Some x) (lookup (at u) es)
        → lookup (at u) (match_ordering o ((key, x) ∷ e ∷ es) ((e.0, x) ∷ es) (e ∷ insert_entry (λ a b. slice_cmp nat_cmp a.items b.items) es key x))
        ≡ cond (bytes_eq u key.items) (Some x) (cond (at u e.0) (Some e.1) (lookup (at u) es))
    go Less h r = ap (λ b. cond b (Some x) (cond (at u e.0) (Some e.1) (lookup (at u) es))) (is_eq-slice_cmp u key.items)
    go Equal h r = same_twice (at u e.0) (bytes_eq u key.items) x e.1 (lookup (at u) es) (is_eq-slice_cmp u e.0.items ∙ ap (bytes_eq u) (sym (equal_items key.items e.0.items h)))
    go Greater h r = other_one (at u e.0) (bytes_eq u key.items) x e.1 (lookup (at u) (insert_entry (λ a b. slice_cmp nat_cmp a.items b.items) es key x)) (lookup (at u) es) (not_both u key.items e.0.items h) r

-- texts are equal where their characters are
pub texts_equal : (cs ds : List ℕ) → bytes_eq (encode_utf8_all cs) (encode_utf8_all ds) ≡ bytes_eq cs ds
texts_equal cs ds =
    let d : IsTrue (bytes_eq (encode_utf8_all cs) (encode_utf8_all ds)) ↔ (encode_utf8_all cs ≡ encode_utf8_all ds) = bytes_eq-Decides (encode_utf8_all cs) (encode_utf8_all ds) in
    decided (bytes_eq (encode_utf8_all cs) (encode_utf8_all ds)) cs ds ((λ t. encodes_same cs ds (d.0 t)), (λ e. d.1 (ap encode_utf8_all e)))

pub put_name : (old new : BTreeMap (Vec ℕ Global) ℕ) (key : Vec ℕ Global) (m : ℕ) (cs : List ℕ) → key.items ≡ encode_utf8_all cs → new.entries ≡ insert_entry (λ a b. slice_cmp nat_cmp a.items b.items) old.entries key m
    → (ds : List ℕ) → number_of new ds ≡ cond (bytes_eq ds cs) (Some m) (number_of old ds)
put_name old new key m cs is put ds =
    ap (λ es. lookup (at (encode_utf8_all ds)) es) put
    ∙ put_key (encode_utf8_all ds) key m old.entries
    ∙ ap (λ b. cond b (Some m) (number_of old ds)) (ap (bytes_eq (encode_utf8_all ds)) is ∙ texts_equal ds cs)

pub none_kept : (last : BTreeMap (Vec ℕ Global) ℕ) → last.entries ≡ [] → (cs : List ℕ) → number_of last cs ≡ None
none_kept last e cs = ap (λ es. lookup (at (encode_utf8_all cs)) es) e

-- the walk that keeps them

either_none : (o : Option ℕ) → o ≡ either o None
either_none None = refl
either_none (Some m) = refl

either_more : (o p : Option ℕ) (b : Bool) (m : ℕ) → either (either o (some_if b m)) p ≡ either o (cond b (Some m) p)
either_more (Some k) p b m = refl
either_more None p true m = refl
either_more None p false m = refl

-- what the members from the next one on give, or else what is kept, is what all give
pub record Kept (doc : Doc) (k : ℕ) (s : Span) (ms : Members) (kept : List ℕ → Option ℕ) (next : Option ℕ) : Type 0 where
  pub count : ℕ
  pub next_is : FoundChild doc k (object s ms) count next
  pub all : (cs : List ℕ) → last_number cs (k + 1) ms ≡ either (last_number cs (k + 1 + sizes count (values_list ms)) (drop_members count ms)) (kept cs)

pub record Keeping (doc : Doc) (k : ℕ) (kept : List ℕ → Option ℕ) (next : Option ℕ) : Type 0 where
  pub inside : Inside (length doc.nodes) next
  pub members : (s : Span) (ms : Members) → At doc k (object s ms) → Kept doc k s ms kept next

pub keeping_starts : (doc : Doc) (k : ℕ) (kept : List ℕ → Option ℕ) (next : Option ℕ) → ((cs : List ℕ) → kept cs ≡ None) → ((t : Json) → At doc k t → FoundChild doc k t 0 next) → MatchOption next (Unit {0}) (λ m. (k < m) × (m < length doc.nodes)) → Keeping doc k kept next
keeping_starts doc k kept next none first later = record {
  inside = inside_more (length doc.nodes) k next later;
  members = λ s ms a. record {
    count = 0;
    next_is = first (object s ms) a;
    all = λ cs. (let e : k + 1 ≡ k + 1 + 0 = omega arith in ap (λ i. last_number cs i ms) e) ∙ either_none (last_number cs (k + 1 + 0) ms) ∙ ap (either (last_number cs (k + 1 + 0) ms)) (sym (none cs));
  };
}

kept_step : (doc : Doc) (k m : ℕ) (s : Span) (ms : Members) (kept more : List ℕ → Option ℕ) (raw : List ℕ) (next : Option ℕ) → Kept doc k s ms kept (Some m)
    → ((n : ℕ) (u : Json) (cs : List ℕ) → ChildAt doc k (object s ms) n m u → slice_get (member_names ms) n ≡ Some cs → (ds : List ℕ) → more ds ≡ cond (bytes_eq ds cs) (Some m) (kept ds))
    → Follows doc m next → Kept doc k s ms more next
kept_step doc k m s ms kept more raw next w put follows =
    let c : (u : Json) × ChildAt doc k (object s ms) w.count m u = found_child_is doc k w.count m (object s ms) w.next_is in
    let e : IsMember ms w.count c.0 = is_member ms w.count c.0 c.1.child in
    let place : m ≡ k + 1 + sizes w.count (values_list ms) = c.1.place in
    let rest : k + 1 + sizes w.count (values_list ms) + size c.0 ≡ k + 1 + sizes (suc w.count) (values_list ms) = omega (arith, more_sizes (values_list ms) w.count c.0 c.1.child) in
    record {
      count = suc w.count;
      next_is = subst (λ i. FoundChild doc k (object s ms) i next) (add-one w.count) (follows k w.count (object s ms) c.0 c.1);
      all = λ cs. w.all cs
          ∙ ap (λ xs. either (last_number cs (k + 1 + sizes w.count (values_list ms)) xs) (kept cs)) e.whole
          ∙ either_more (last_number cs (k + 1 + sizes w.count (values_list ms) + size c.0) (drop_members (suc w.count) ms)) (kept cs) (bytes_eq cs e.name) (k + 1 + sizes w.count (values_list ms))
          ∙ ap (λ i. either (last_number cs i (drop_members (suc w.count) ms)) (cond (bytes_eq cs e.name) (Some (k + 1 + sizes w.count (values_list ms))) (kept cs))) rest
          ∙ ap (either (last_number cs (k + 1 + sizes (suc w.count) (values_list ms)) (drop_members (suc w.count) ms))) (ap (λ i. cond (bytes_eq cs e.name) (Some i) (kept cs)) (sym place) ∙ sym (put w.count c.0 e.name c.1 e.named cs));
    }

pub keeping_on : (doc : Doc) (k m : ℕ) (kept more : List ℕ → Option ℕ) (here next : Option ℕ) → Keeping doc k kept here → here ≡ Some m
    → ((n : ℕ) (t u : Json) (cs : List ℕ) → ChildAt doc k t n m u → slice_get (Rattle.json_nodes.specs.Texts.names t) n ≡ Some cs → (ds : List ℕ) → more ds ≡ cond (bytes_eq ds cs) (Some m) (kept ds))
    → Follows doc m next → MatchOption next (Unit {0}) (λ i. (m < i) × (i < length doc.nodes)) → Keeping doc k more next
keeping_on doc k m kept more here next w is put follows later = record {
  inside = inside_more (length doc.nodes) m next later;
  members = λ s ms a. kept_step doc k m s ms kept more [] next (subst (λ o. Kept doc k s ms kept o) is (w.members s ms a)) (λ n u cs c h. put n (object s ms) u cs c h) follows;
}

kept_ends : (doc : Doc) (k : ℕ) (s : Span) (ms : Members) (kept : List ℕ → Option ℕ) → Kept doc k s ms kept None → (cs : List ℕ) → kept cs ≡ last_number cs (k + 1) ms
kept_ends doc k s ms kept w cs = sym (w.all cs ∙ ap (λ xs. either (last_number cs (k + 1 + sizes w.count (values_list ms)) xs) (kept cs)) (members_end ms w.count (no_child doc k w.count (object s ms) w.next_is)))

pub keeping_ends : (doc : Doc) (k : ℕ) (kept : List ℕ → Option ℕ) (here : Option ℕ) → Keeping doc k kept here → here ≡ None → (s : Span) (ms : Members) (cs : List ℕ) → At doc k (object s ms) → kept cs ≡ last_number cs (k + 1) ms
keeping_ends doc k kept here w is s ms cs a = kept_ends doc k s ms kept (subst (λ o. Kept doc k s ms kept o) is (w.members s ms a)) cs

-- what a number means

found_either : (doc : Doc) (o p : Option Json) (a b : Option ℕ) → Found doc o a → Found doc p b → Found doc (or_else o p) (either a b)
found_either doc (Some j) p (Some m) b h g = h
found_either doc (Some j) p None b h g = absurd h
found_either doc None p (Some m) b h g = absurd h
found_either doc None p None b h g = g

found_if : (doc : Doc) (b : Bool) (u : Json) (m : ℕ) → At doc m u → Found doc (if_named b u) (some_if b m)
found_if doc true u m a = a
found_if doc false u m a = tt

found_from : (doc : Doc) (k : ℕ) (s : Span) (ms rest : Members) (n i : ℕ) (cs : List ℕ) → At doc k (object s ms) → drop_members n ms ≡ rest → i ≡ k + 1 + sizes n (values_list ms) → Found doc (named cs rest) (last_number cs i rest)
unfolding named
found_from doc k s ms no_members n i cs a e f = tt
found_from doc k s ms (member p ds j more) n i cs a e f =
    let g : (slice_get (values_list ms) n ≡ Some j) × (drop_members (suc n) ms ≡ more) = first_left ms n p ds j more e in
    let c : ChildAt doc k (object s ms) n i j = record { parent = a; child = g.0; place = f } in
    found_either doc (named cs more) (if_named (bytes_eq cs ds) j) (last_number cs (i + size j) more) (some_if (bytes_eq cs ds) i)
    (found_from doc k s ms more (suc n) (i + size j) cs a g.1 (omega (arith, more_sizes (values_list ms) n j g.0)))
    (found_if doc (bytes_eq cs ds) j i (child_at c))
  where
    first_left : (ms : Members) (n : ℕ) (p : Span) (ds : List ℕ) (j : Json) (more : Members) → drop_members n ms ≡ member p ds j more → (slice_get (values_list ms) n ≡ Some j) × (drop_members (suc n) ms ≡ more)
    first_left no_members zero p ds j more e = absurd (cc)
    first_left no_members (suc n) p ds j more e = absurd (cc)
    first_left (member q es k ms) zero p ds j more e = (let x : k ≡ j = cc in ap Some x, let y : ms ≡ more = cc in y)
    first_left (member q es k ms) (suc n) p ds j more e = first_left ms n p ds j more e

-- the number is that of the last member of the name
pub found_last : (doc : Doc) (k : ℕ) (s : Span) (ms : Members) (cs : List ℕ) (o : Option ℕ) → At doc k (object s ms) → o ≡ last_number cs (k + 1) ms → Found doc (named cs ms) o
found_last doc k s ms cs o a e = subst (λ x. Found doc (named cs ms) x) (sym e) (found_from doc k s ms ms 0 (k + 1) cs a refl (omega arith))

-- whether a member is the last one of its name

some_either : (o p : Option ℕ) → is_some (either o p) ≡ (is_some o || is_some p)
some_either None p = refl
some_either (Some m) p = refl

some_or : (o p : Option Json) → is_some (or_else o p) ≡ (is_some o || is_some p)
some_or None p = refl
some_or (Some j) p = refl

if_same : (b : Bool) (m : ℕ) (j : Json) → is_some (some_if b m) ≡ is_some (if_named b j)
if_same true m j = refl
if_same false m j = refl

number_there : (cs : List ℕ) (i : ℕ) (ms : Members) → is_some (last_number cs i ms) ≡ has_name cs ms
unfolding named
number_there cs i no_members = refl
number_there cs i (member s ds j ms) =
    some_either (last_number cs (i + size j) ms) (some_if (bytes_eq cs ds) i)
    ∙ ap₂ (λ x y. x || y) (number_there cs (i + size j) ms) (if_same (bytes_eq cs ds) i j)
    ∙ sym (some_or (named cs ms) (if_named (bytes_eq cs ds) j))

number_above : (cs : List ℕ) (i : ℕ) (ms : Members) (x : ℕ) → last_number cs i ms ≡ Some x → i ≤ x
number_above cs i no_members x e = absurd (cc)
number_above cs i (member s ds j ms) x e = go (last_number cs (i + size j) ms) (λ y h. number_above cs (i + size j) ms y h) (bytes_eq cs ds) e
  where
    go : (o : Option ℕ) → ((y : ℕ) → o ≡ Some y → i + size j ≤ y) → (b : Bool) → either o (some_if b i) ≡ Some x → i ≤ x
    go (Some y) h b f = let same : y ≡ x = cc in let above : i + size j ≤ y = h y refl in omega arith
    go None h true f = let same : i ≡ x = cc in omega arith
    go None h false f = absurd (cc)

number_self : (m k : ℕ) → k ≡ m → (k == m) ≡ true
number_self m k e = (Decides-eqb k m).1 e

number_differs : (m k : ℕ) → m < k → (k == m) ≡ false
number_differs m k h = go (k == m) refl
  where
    go : (b : Bool) → (k == m) ≡ b → b ≡ false
    go false e = refl
    go true e = absurd (let same : k ≡ m = (Decides-eqb k m).0 e in omega arith)

name_among : (cs : List ℕ) (ms : Members) (n : ℕ) → slice_get (member_names ms) n ≡ Some cs → has_name cs ms ≡ true
unfolding named
name_among cs no_members n e = absurd (cc)
name_among cs (member s ds j ms) zero e =
    let same : ds ≡ cs = cc in
    some_or (named cs ms) (if_named (bytes_eq cs ds) j) ∙ ap (λ b. has_name cs ms || is_some (if_named b j)) ((bytes_eq-Decides cs ds).1 (sym same)) ∙ or_true (has_name cs ms)
  where
    or_true : (b : Bool) → (b || true) ≡ true
    or_true true = refl
    or_true false = refl
name_among cs (member s ds j ms) (suc n) e = some_or (named cs ms) (if_named (bytes_eq cs ds) j) ∙ ap (λ b. b || is_some (if_named (bytes_eq cs ds) j)) (name_among cs ms n e)

last_is : (cs : List ℕ) (ms : Members) (n m i : ℕ) → (there : slice_get (member_names ms) n ≡ Some cs) → m ≡ i + sizes n (values_list ms) → is_number (last_number cs i ms) m ≡ not (has_name cs (drop_members (suc n) ms))
last_is cs no_members n m i there place = absurd (cc)
last_is cs (member s ds j ms) zero m i there place = go (last_number cs (i + size j) ms) refl (bytes_eq cs ds) ((bytes_eq-Decides cs ds).1 (let same : ds ≡ cs = cc in sym same))
  where
    go : (o : Option ℕ) → last_number cs (i + size j) ms ≡ o → (b : Bool) → b ≡ true → is_number (either o (some_if b i)) m ≡ not (has_name cs ms)
    go (Some y) h b f = let above : i + size j ≤ y = number_above cs (i + size j) ms y h in
        number_differs m y (omega (arith, size_shape j)) ∙ ap not (ap is_some (sym h) ∙ number_there cs (i + size j) ms)
    go None h true f = number_self m i (omega arith) ∙ ap not (ap is_some (sym h) ∙ number_there cs (i + size j) ms)
    go None h false f = absurd (cc)
last_is cs (member s ds j ms) (suc n) m i there place = go (last_number cs (i + size j) ms) refl (last_is cs ms n m (i + size j) there (omega arith))
  where
    go : (o : Option ℕ) → last_number cs (i + size j) ms ≡ o → is_number (last_number cs (i + size j) ms) m ≡ not (has_name cs (drop_members (suc n) ms)) → is_number (either o (some_if (bytes_eq cs ds) i)) m ≡ not (has_name cs (drop_members (suc n) ms))
    go (Some y) h r = ap (λ x. is_number x m) (sym h) ∙ r
    go None h r = absurd (let missing : has_name cs ms ≡ false = sym (number_there cs (i + size j) ms) ∙ ap is_some h in let here : has_name cs ms ≡ true = name_among cs ms n there in cc)

pub is_last : (doc : Doc) (k n m : ℕ) (s : Span) (u : Json) (ms : Members) (cs : List ℕ) (o : Option ℕ) → ChildAt doc k (object s ms) n m u → slice_get (member_names ms) n ≡ Some cs → o ≡ last_number cs (k + 1) ms → is_number o m ≡ not (has_name cs (drop_members (n + 1) ms))
is_last doc k n m s u ms cs o c h e = ap (λ x. is_number x m) e ∙ last_is cs ms n m (k + 1) h c.place ∙ ap (λ i. not (has_name cs (drop_members i ms))) (sym (add-one n))

-- an index, where it keeps numbers

pub kept_in : (kept : Option (BTreeMap (Vec ℕ Global) ℕ)) (last : BTreeMap (Vec ℕ Global) ℕ) (answer : Option (Option ℕ)) (cs : List ℕ) → kept ≡ Some last → IfSome answer (λ found. found ≡ number_of last cs)
    → IfSome answer (λ found. IsSomeAnd kept (λ x. found ≡ number_of x cs))
kept_in kept last None cs e h = tt
kept_in None last (Some found) cs e h = absurd (cc)
kept_in (Some x) last (Some found) cs e h = let same : x ≡ last = cc in h ∙ ap (λ y. number_of y cs) (sym same)

pub number_is : (doc : Doc) (k : ℕ) (s : Span) (ms : Members) (cs : List ℕ) (kept : Option (BTreeMap (Vec ℕ Global) ℕ)) (answer : Option (Option ℕ)) (found : Option ℕ) → IfSome kept (λ last. KeepsLast last doc k)
    → answer ≡ Some found → IfSome answer (λ o. IsSomeAnd kept (λ last. o ≡ number_of last cs)) → At doc k (object s ms) → found ≡ last_number cs (k + 1) ms
number_is doc k s ms cs None None found i e h a = absurd (cc)
number_is doc k s ms cs None (Some o) found i e h a = absurd h
number_is doc k s ms cs (Some last) None found i e h a = absurd (cc)
number_is doc k s ms cs (Some last) (Some o) found i e h a = let same : found ≡ o = cc in same ∙ h ∙ i s ms cs a

pub kept_ok : {X E : Type 0} (P : X → Type 0) (r : Result X E) → IfOk r P → IfSome (result_ok r) P
kept_ok P (Ok x) h = h
kept_ok P (Err e) h = tt

-- a value of an object's text
pub at_indexed : (o : Indexed) (v : Values) (k : ℕ) (t : Json) → o.values ≡ v → o.node ≡ k → At (doc_of v) k t → At (doc_of o.values) o.node t
at_indexed o v k t e f a = rw (e, f) a
