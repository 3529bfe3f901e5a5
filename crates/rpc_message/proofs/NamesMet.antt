-- The names that a walk over the members of an object has met, and those that are left.
use Rattle.std.proofs.Common.{◌<◌, ◌≡◌, ℕ, suc, Bool, true, false, not, ◌&&◌, ◌||◌, ◌↔◌, IsTrue, List, [], ◌∷◌, length, refl, sym, ◌∙◌, ap, subst, add-one, is_some, encode_utf8_all}
use Rattle.std.specs.Prelude.{Option, Some, None, Vec, bytes_eq, MatchOption}
use Rattle.std.specs.declared.cmp.Ordering.{Ordering}
use Rattle.std.specs.Ordering.{is_eq, nat_cmp, match_ordering}
use Rattle.std.specs.declared.cmp.Ordering.TheVariants.{Less, Equal, Greater}
use Rattle.std.specs.Cmp.Lexicographic.{slice_cmp}
use Rattle.std.specs.List.{list_any, slice_get}
use Rattle.std.specs.BTreeSet.{BTreeSet, insert_key}
use Rattle.std.proofs.lemmas.Map.Text.{is_eq-slice_cmp}
use Rattle.std.proofs.lemmas.Str.{encodes_same}
use Rattle.std.proofs.lemmas.Slice.Eq.{bytes_eq-Decides}
use Rattle.json_text.specs.declared.span.Span.{Span}
use Rattle.json_text.specs.Json.{Json, object, Members, no_members, member}
use Rattle.json_text.specs.Named.{named, if_named, or_else}
use Rattle.json_text.specs.String.{SpellsCharacters}
use Rattle.json_span.specs.json_nodes.specs.At.{At, ChildAt, FoundChild}
use Rattle.json_span.specs.json_nodes.specs.Doc.{Doc}
use Rattle.json_span.specs.json_nodes.specs.Same.{drop_members}
use Rattle.json_span.specs.json_nodes.specs.Texts.{names}
use Rattle.json_span.specs.json_nodes.proofs.Members.{Inside, Follows, found_child_is, no_child, inside_more}
use Rattle.json_span.specs.json_nodes.proofs.Spelling.{IsMember, decided, is_member, members_end}
use Rattle.rpc_message.specs.Message.{no_name_twice}
use Rattle.rpc_message.specs.Names.{has_name}

-- whether none of these members has one of the names that were met
abbrev pub all_new : (List ℕ → Bool) → Members → Bool
all_new met no_members = true
all_new met (member s cs j ms) = not (met cs) && all_new met ms

pub all_new_none : (met : List ℕ → Bool) → ((cs : List ℕ) → met cs ≡ false) → (ms : Members) → all_new met ms ≡ true
all_new_none met none no_members = refl
all_new_none met none (member s cs j ms) = rw (none cs) (all_new_none met none ms)

some_either : (o p : Option Json) → is_some (or_else o p) ≡ (is_some o || is_some p)
some_either None p = refl
some_either (Some j) p = refl

some_if : (b : Bool) (j : Json) → is_some (if_named b j) ≡ b
some_if true j = refl
some_if false j = refl

-- a name more, before the members that are left
both : (z o n a : Bool) → (not (z || o) && (not n && a)) ≡ (not (n || z) && (not o && a))
both true o true a = refl
both true o false a = refl
both false true true a = refl
both false true false a = refl
both false false true a = refl
both false false false a = refl

pub all_new_more : (cs : List ℕ) (old met : List ℕ → Bool) → ((ds : List ℕ) → met ds ≡ (bytes_eq cs ds || old ds)) → (ms : Members) → all_new met ms ≡ (not (is_some (named cs ms)) && all_new old ms)
unfolding named
all_new_more cs old met more no_members = refl
all_new_more cs old met more (member s ds j ms) =
    rw (more ds, all_new_more cs old met more ms, some_either (named cs ms) (if_named (bytes_eq cs ds) j), some_if (bytes_eq cs ds) j)
    (both (bytes_eq cs ds) (old ds) (is_some (named cs ms)) (all_new old ms))

-- the first of the members that are left: its name was met, or it is new

no_more : (x y b : Bool) → b ≡ true → (x && (not b && y)) ≡ false
no_more true y true e = refl
no_more true y false e = cc
no_more false y b e = refl

go_on : (n t b a : Bool) → b ≡ false → ((not n && t) && (not b && a)) ≡ (t && (not n && a))
go_on true true false a e = refl
go_on true false false a e = refl
go_on false t false a e = refl
go_on n t true a e = cc

name_met : (s : Span) (cs : List ℕ) (u : Json) (ms : Members) (met : List ℕ → Bool) → met cs ≡ true → (no_name_twice (member s cs u ms) && all_new met (member s cs u ms)) ≡ false
name_met s cs u ms met h = no_more (no_name_twice (member s cs u ms)) (all_new met ms) (met cs) h

name_new : (s : Span) (cs : List ℕ) (u : Json) (ms : Members) (old met : List ℕ → Bool) → old cs ≡ false → ((ds : List ℕ) → met ds ≡ (bytes_eq cs ds || old ds))
    → (no_name_twice (member s cs u ms) && all_new old (member s cs u ms)) ≡ (no_name_twice ms && all_new met ms)
unfolding no_name_twice
name_new s cs u ms old met h more =
    go_on (is_some (named cs ms)) (no_name_twice ms) (old cs) (all_new old ms) h ∙ ap (λ b. no_name_twice ms && b) (sym (all_new_more cs old met more ms))

-- in the middle of a walk: whether all members have names of their own is what those from the next one on say
pub record MetMembers (doc : Doc) (k : ℕ) (s : Span) (ms : Members) (met : List ℕ → Bool) (next : Option ℕ) : Type 0 where
  pub count : ℕ
  pub next_is : FoundChild doc k (object s ms) count next
  pub all : no_name_twice ms ≡ (no_name_twice (drop_members count ms) && all_new met (drop_members count ms))

pub record Met (doc : Doc) (k : ℕ) (met : List ℕ → Bool) (next : Option ℕ) : Type 0 where
  pub inside : Inside (length doc.nodes) next
  pub members : (s : Span) (ms : Members) → At doc k (object s ms) → MetMembers doc k s ms met next

and_true : (x b : Bool) → b ≡ true → x ≡ (x && b)
and_true true b e = sym e
and_true false b e = refl

pub met_starts : (doc : Doc) (k : ℕ) (met : List ℕ → Bool) (next : Option ℕ) → ((cs : List ℕ) → met cs ≡ false) → ((t : Json) → At doc k t → FoundChild doc k t 0 next) → MatchOption next (Unit {0}) (λ m. (k < m) × (m < length doc.nodes)) → Met doc k met next
met_starts doc k met next none first later = record {
  inside = inside_more (length doc.nodes) k next later;
  members = λ s ms a. record { count = 0; next_is = first (object s ms) a; all = and_true (no_name_twice ms) (all_new met ms) (all_new_none met none ms) };
}

-- the bytes spell the name of the member that has this number
abbrev pub SpellsName : Doc → ℕ → List ℕ → Type 0
SpellsName doc m raw = (k n : ℕ) (t u : Json) (cs : List ℕ) → ChildAt doc k t n m u → slice_get (names t) n ≡ Some cs → SpellsCharacters cs raw

flip : (b m : Bool) → b ≡ not m → b ≡ false → m ≡ true
flip b true e h = refl
flip b false e h = cc

flop : (b m : Bool) → b ≡ not m → b ≡ true → m ≡ false
flop b false e h = refl
flop b true e h = cc

module _ (doc : Doc) (k m : ℕ) (met : List ℕ → Bool) (raw : List ℕ) (b : Bool) (spells : SpellsName doc m raw) (answer : (cs : List ℕ) → SpellsCharacters cs raw → b ≡ not (met cs)) where
  fails_at : (s : Span) (ms : Members) → MetMembers doc k s ms met (Some m) → b ≡ false → false ≡ no_name_twice ms
  fails_at s ms w fails =
      let c : (u : Json) × ChildAt doc k (object s ms) w.count m u = found_child_is doc k w.count m (object s ms) w.next_is in
      let e : IsMember ms w.count c.0 = is_member ms w.count c.0 c.1.child in
      let h : met e.name ≡ true = flip b (met e.name) (answer e.name (spells k w.count (object s ms) c.0 e.name c.1 e.named)) fails in
      sym (w.all ∙ ap (λ xs. no_name_twice xs && all_new met xs) e.whole ∙ name_met e.place e.name c.0 (drop_members (suc w.count) ms) met h)

  pub met_fails : (here : Option ℕ) → Met doc k met here → here ≡ Some m → b ≡ false → (s : Span) (ms : Members) → At doc k (object s ms) → false ≡ no_name_twice ms
  met_fails here w is fails s ms a = fails_at s ms (subst (λ o. MetMembers doc k s ms met o) is (w.members s ms a)) fails

  new_at : (met_now : List ℕ → Bool) → ((cs : List ℕ) → SpellsCharacters cs raw → (ds : List ℕ) → met_now ds ≡ (bytes_eq cs ds || met ds))
      → (next : Option ℕ) → Follows doc m next → b ≡ true → (s : Span) (ms : Members) → MetMembers doc k s ms met (Some m) → MetMembers doc k s ms met_now next
  new_at met_now more next follows holds s ms w =
      let c : (u : Json) × ChildAt doc k (object s ms) w.count m u = found_child_is doc k w.count m (object s ms) w.next_is in
      let e : IsMember ms w.count c.0 = is_member ms w.count c.0 c.1.child in
      let spelled : SpellsCharacters e.name raw = spells k w.count (object s ms) c.0 e.name c.1 e.named in
      let h : met e.name ≡ false = flop b (met e.name) (answer e.name spelled) holds in
      record {
        count = suc w.count;
        next_is = subst (λ i. FoundChild doc k (object s ms) i next) (add-one w.count) (follows k w.count (object s ms) c.0 c.1);
        all = w.all ∙ ap (λ xs. no_name_twice xs && all_new met xs) e.whole ∙ name_new e.place e.name c.0 (drop_members (suc w.count) ms) met met_now h (more e.name spelled);
      }

  pub met_more : (met_now : List ℕ → Bool) → ((cs : List ℕ) → SpellsCharacters cs raw → (ds : List ℕ) → met_now ds ≡ (bytes_eq cs ds || met ds))
      → (here next : Option ℕ) → Met doc k met here → here ≡ Some m → Follows doc m next → MatchOption next (Unit {0}) (λ i. (m < i) × (i < length doc.nodes)) → b ≡ true → Met doc k met_now next
  met_more met_now more here next w is follows later holds = record {
    inside = inside_more (length doc.nodes) m next later;
    members = λ s ms a. new_at met_now more next follows holds s ms (subst (λ o. MetMembers doc k s ms met o) is (w.members s ms a));
  }

ends_at : (doc : Doc) (k : ℕ) (s : Span) (ms : Members) (met : List ℕ → Bool) → MetMembers doc k s ms met None → true ≡ no_name_twice ms
unfolding no_name_twice
ends_at doc k s ms met w = sym (w.all ∙ ap (λ xs. no_name_twice xs && all_new met xs) (members_end ms w.count (no_child doc k w.count (object s ms) w.next_is)))

pub met_ends : (doc : Doc) (k : ℕ) (met : List ℕ → Bool) (next : Option ℕ) → Met doc k met next → next ≡ None → (s : Span) (ms : Members) → At doc k (object s ms) → true ≡ no_name_twice ms
met_ends doc k met next w is s ms a = ends_at doc k s ms met (subst (λ o. MetMembers doc k s ms met o) is (w.members s ms a))

-- the set of their texts

-- texts are equal where their characters are
text_same : (cs ds bs : List ℕ) → bs ≡ encode_utf8_all cs → is_eq (slice_cmp nat_cmp (encode_utf8_all ds) bs) ≡ bytes_eq cs ds
text_same cs ds bs is =
    let d : IsTrue (bytes_eq (encode_utf8_all ds) (encode_utf8_all cs)) ↔ (encode_utf8_all ds ≡ encode_utf8_all cs) = bytes_eq-Decides (encode_utf8_all ds) (encode_utf8_all cs) in
    is_eq-slice_cmp (encode_utf8_all ds) bs ∙ (ap (λ xs. bytes_eq (encode_utf8_all ds) xs) is
    ∙ decided (bytes_eq (encode_utf8_all ds) (encode_utf8_all cs)) cs ds ((λ t. sym (encodes_same ds cs (d.0 t))), (λ e. d.1 (ap encode_utf8_all (sym e)))))

twice : (a b t : Bool) → a ≡ b → (b || t) ≡ (a || (b || t))
twice true true t e = refl
twice true false t e = cc
twice false b t e = refl

swap : (a b t : Bool) → (a || (b || t)) ≡ (b || (a || t))
swap true true t = refl
swap true false t = refl
swap false true t = refl
swap false false t = refl

equal_items : (xs ys : List ℕ) → slice_cmp nat_cmp xs ys ≡ Equal → xs ≡ ys
equal_items xs ys e = (bytes_eq-Decides xs ys).0 (sym (is_eq-slice_cmp xs ys) ∙ ap is_eq e)

any_insert : {Y : Type 0} (f : List ℕ → Bool) (key : Vec ℕ Y) (keys : List (Vec ℕ Y)) → list_any (λ v. f v.items) (insert_key (λ x y. slice_cmp nat_cmp x.items y.items) keys key) ≡ (f key.items || list_any (λ v. f v.items) keys)
any_insert f key [] = refl
any_insert f key (x ∷ xs) = go (slice_cmp nat_cmp key.items x.items) refl (any_insert f key xs)
  where
    go : (o : Ordering) → slice_cmp nat_cmp key.items x.items ≡ o → list_any (λ v. f v.items) (insert_key (λ x y. slice_cmp nat_cmp x.items y.items) xs key) ≡ (f key.items || list_any (λ v. f v.items) xs)
        → list_any (λ v. f v.items) (match_ordering o (key ∷ x ∷ xs) (x ∷ xs) (x ∷ insert_key (λ x y. slice_cmp nat_cmp x.items y.items) xs key)) ≡ (f key.items || (f x.items || list_any (λ v. f v.items) xs))
    go Less e h = refl
    go Equal e h = twice (f key.items) (f x.items) (list_any (λ v. f v.items) xs) (ap f (equal_items key.items x.items e))
    go Greater e h = ap (λ r. f x.items || r) h ∙ swap (f x.items) (f key.items) (list_any (λ v. f v.items) xs)

pub has_more : {Y : Type 0} (old new : BTreeSet (Vec ℕ Y)) (key : Vec ℕ Y) (cs : List ℕ) → key.items ≡ encode_utf8_all cs → new.keys ≡ insert_key (λ x y. slice_cmp nat_cmp x.items y.items) old.keys key
    → (ds : List ℕ) → has_name new ds ≡ (bytes_eq cs ds || has_name old ds)
has_more old new key cs is keys ds =
    ap (λ ks. list_any (λ v. is_eq (slice_cmp nat_cmp (encode_utf8_all ds) v.items)) ks) keys
    ∙ (any_insert (λ xs. is_eq (slice_cmp nat_cmp (encode_utf8_all ds) xs)) key old.keys
    ∙ ap (λ b. b || has_name old ds) (text_same cs ds key.items is))

pub has_none : {Y : Type 0} (names : BTreeSet (Vec ℕ Y)) → names.keys ≡ [] → (cs : List ℕ) → has_name names cs ≡ false
has_none names e cs = ap (λ ks. list_any (λ v. is_eq (slice_cmp nat_cmp (encode_utf8_all cs) v.items)) ks) e
