-- The members of an object from one on, against a name's spelling.
use Rattle.std.proofs.Common.{◌≡◌, ℕ, zero, suc, ◌<◌, Bool, true, false, cond, IsTrue, ◌↔◌, List, length, refl, sym, ◌∙◌, ap, subst, add-one}
use Rattle.std.specs.Prelude.{Option, Some, None, bytes_eq, MatchOption}
use Rattle.std.specs.List.{slice_get}
use Rattle.std.proofs.lemmas.Slice.Eq.{bytes_eq-Decides}
use Rattle.std.proofs.lemmas.Bool.Decides.{same_from_decides}
use Rattle.json_text.specs.declared.span.Span.{Span}
use Rattle.json_text.specs.Json.{Json, object, Members, no_members, member}
use Rattle.json_text.specs.Named.{values_list, named, if_named, or_else}
use Rattle.json_text.specs.String.{SpellsCharacters}
use Rattle.json_nodes.specs.At.{Found, ChildAt, FoundChild}
use Rattle.json_nodes.specs.Doc.{Doc}
use Rattle.json_nodes.specs.Names.{Tests}
use Rattle.json_nodes.specs.Same.{drop_members}
use Rattle.json_nodes.specs.Texts.{member_names}
use Rattle.json_nodes.proofs.Members.{Inside, Follows, or_else_assoc, found_next, found_child_is, no_child, inside_more, inside_cond}
use Rattle.json_nodes.proofs.Numbers.{child_at}

-- an answer that says whether two lists are equal
pub decided : (b : Bool) (cs ds : List ℕ) → IsTrue b ↔ (cs ≡ ds) → b ≡ bytes_eq cs ds
decided b cs ds h = same_from_decides b (bytes_eq cs ds) h (bytes_eq-Decides cs ds)

-- child n of an object, as its member n
pub record IsMember (ms : Members) (n : ℕ) (u : Json) : Type 0 where
  pub place : Span
  pub name : List ℕ
  pub named : slice_get (member_names ms) n ≡ Some name
  pub whole : drop_members n ms ≡ member place name u (drop_members (suc n) ms)

pub is_member : (ms : Members) (n : ℕ) (u : Json) → slice_get (values_list ms) n ≡ Some u → IsMember ms n u
is_member no_members n u h = cc
is_member (member s cs j ms) zero u h = let same : j ≡ u = cc in record { place = s; name = cs; named = refl; whole = ap (λ k. member s cs k ms) same }
is_member (member s cs j ms) (suc n) u h = let m : IsMember ms n u = is_member ms n u h in record { place = m.place; name = m.name; named = m.named; whole = m.whole }

pub members_end : (ms : Members) (n : ℕ) → slice_get (values_list ms) n ≡ None → drop_members n ms ≡ no_members
members_end no_members zero h = refl
members_end no_members (suc n) h = refl
members_end (member s cs j ms) zero h = cc
members_end (member s cs j ms) (suc n) h = members_end ms n h

-- what the members from the next one on give, or else what was found, is what all from member n on give
pub record Left (cs : List ℕ) (doc : Doc) (k n : ℕ) (s : Span) (ms : Members) (next found : Option ℕ) : Type 0 where
  pub count : ℕ
  pub best : Option Json
  pub next_is : FoundChild doc k (object s ms) count next
  pub found_is : Found doc best found
  pub all : named cs (drop_members n ms) ≡ or_else (named cs (drop_members count ms)) best

pub named_member : (cs ds : List ℕ) (s : Span) (u : Json) (ms : Members) → named cs (member s ds u ms) ≡ or_else (named cs ms) (if_named (bytes_eq cs ds) u)
unfolding named
named_member cs ds s u ms = refl

left_step : (cs : List ℕ) (doc : Doc) (k n m : ℕ) (s : Span) (ms : Members) (next found : Option ℕ) (b : Bool) → Left cs doc k n s ms (Some m) found → Tests cs doc m b → Follows doc m next → Left cs doc k n s ms next (cond b (Some m) found)
left_step cs doc k n m s ms next found b w test follows =
    let c : (u : Json) × ChildAt doc k (object s ms) w.count m u = found_child_is doc k w.count m (object s ms) w.next_is in
    let e : IsMember ms w.count c.0 = is_member ms w.count c.0 c.1.child in
    let tested : b ≡ bytes_eq cs e.name = test k w.count (object s ms) c.0 e.name c.1 e.named in
    record {
      count = suc w.count;
      best = or_else (if_named b c.0) w.best;
      next_is = subst (λ i. FoundChild doc k (object s ms) i next) (add-one w.count) (follows k w.count (object s ms) c.0 c.1);
      found_is = found_next doc m c.0 b w.best found (child_at c.1) w.found_is;
      all = w.all ∙ ap (λ xs. or_else (named cs xs) w.best) e.whole ∙ ap (λ o. or_else o w.best) (named_member cs e.name e.place c.0 (drop_members (suc w.count) ms)) ∙ or_else_assoc (named cs (drop_members (suc w.count) ms)) (if_named (bytes_eq cs e.name) c.0) w.best ∙ ap (λ x. or_else (named cs (drop_members (suc w.count) ms)) (or_else (if_named x c.0) w.best)) (sym tested);
    }

pub named_none : (cs : List ℕ) → named cs no_members ≡ None
unfolding named
named_none cs = refl

left_ends : (cs : List ℕ) (doc : Doc) (k n : ℕ) (s : Span) (ms : Members) (found : Option ℕ) → Left cs doc k n s ms None found → Found doc (named cs (drop_members n ms)) found
left_ends cs doc k n s ms found w =
    let e : named cs (drop_members n ms) ≡ w.best = w.all ∙ ap (λ xs. or_else (named cs xs) w.best) (members_end ms w.count (no_child doc k w.count (object s ms) w.next_is)) ∙ ap (λ o. or_else o w.best) (named_none cs) in
    rw e w.found_is

-- in the middle of a walk
pub record Looking (raw : List ℕ) (doc : Doc) (from next found : Option ℕ) : Type 0 where
  pub next_inside : Inside (length doc.nodes) next
  pub found_inside : Inside (length doc.nodes) found
  pub left_over : (k n : ℕ) (s : Span) (ms : Members) (cs : List ℕ) → SpellsCharacters cs raw → FoundChild doc k (object s ms) n from → Left cs doc k n s ms next found

or_else_none : (a : Option Json) → or_else a None ≡ a
or_else_none None = refl
or_else_none (Some x) = refl

pub looking_starts : (raw : List ℕ) (doc : Doc) (from : Option ℕ) → Inside (length doc.nodes) from → Looking raw doc from from None
looking_starts raw doc from inside = record {
  next_inside = inside;
  found_inside = tt;
  left_over = λ k n s ms cs h f. record { count = n; best = None; next_is = f; found_is = tt; all = sym (or_else_none (named cs (drop_members n ms))) };
}

looking_at : (raw : List ℕ) (doc : Doc) (m : ℕ) (from next found : Option ℕ) (b : Bool) → Looking raw doc from (Some m) found → ((cs : List ℕ) → SpellsCharacters cs raw → Tests cs doc m b) → Follows doc m next → MatchOption next (Unit {0}) (λ i. (m < i) × (i < length doc.nodes)) → Looking raw doc from next (cond b (Some m) found)
looking_at raw doc m from next found b w test follows later = record {
  next_inside = inside_more (length doc.nodes) m next later;
  found_inside = inside_cond (length doc.nodes) m b found w.next_inside w.found_inside;
  left_over = λ k n s ms cs h f. left_step cs doc k n m s ms next found b (w.left_over k n s ms cs h f) (test cs h) follows;
}

pub looking_found : (raw : List ℕ) (doc : Doc) (m : ℕ) (from here next found new : Option ℕ) (b : Bool) → Looking raw doc from here found → here ≡ Some m → b ≡ true → new ≡ Some m → ((cs : List ℕ) → SpellsCharacters cs raw → Tests cs doc m b) → Follows doc m next → MatchOption next (Unit {0}) (λ i. (m < i) × (i < length doc.nodes)) → Looking raw doc from next new
looking_found raw doc m from here next found new b w is holds new_is test follows later =
    let e : new ≡ cond b (Some m) found = rw (holds, new_is) refl in
    rw e (looking_at raw doc m from next found b (subst (λ o. Looking raw doc from o found) is w) test follows later)

pub looking_on : (raw : List ℕ) (doc : Doc) (m : ℕ) (from here next found new : Option ℕ) (b : Bool) → Looking raw doc from here found → here ≡ Some m → b ≡ false → new ≡ found → ((cs : List ℕ) → SpellsCharacters cs raw → Tests cs doc m b) → Follows doc m next → MatchOption next (Unit {0}) (λ i. (m < i) × (i < length doc.nodes)) → Looking raw doc from next new
looking_on raw doc m from here next found new b w is fails new_is test follows later =
    let e : new ≡ cond b (Some m) found = rw (fails, new_is) refl in
    rw e (looking_at raw doc m from next found b (subst (λ o. Looking raw doc from o found) is w) test follows later)

pub looking_ends : (raw : List ℕ) (doc : Doc) (from next found : Option ℕ) → Looking raw doc from next found → next ≡ None → (k n : ℕ) (s : Span) (ms : Members) (cs : List ℕ) → SpellsCharacters cs raw → FoundChild doc k (object s ms) n from → Found doc (named cs (drop_members n ms)) found
looking_ends raw doc from next found w e k n s ms cs h f = left_ends cs doc k n s ms found (subst (λ o. Left cs doc k n s ms o found) e (w.left_over k n s ms cs h f))

pub named_so : (b : Bool) (cs ds : List ℕ) → IsTrue b ↔ (cs ≡ ds) → b ≡ bytes_eq ds cs
named_so b cs ds h = decided b ds cs ((λ k. sym (h.0 k)), (λ e. h.1 (sym e)))
