-- A walk over the items of an array, or over the members of an object, and what all of them give.
use Rattle.std.proofs.Common.{◌≡◌, ℕ, zero, suc, ◌+◌, ◌<◌, List, length, refl, sym, ◌∙◌, ap, subst, add-one, arith}
use Rattle.std.specs.Prelude.{Option, Some, None, MatchOption}
use Rattle.std.specs.List.{slice_get}
use Rattle.json_text.specs.declared.span.Span.{Span}
use Rattle.json_text.specs.Json.{Json, array, object, Items, no_items, item, Members, no_members, member}
use Rattle.json_text.specs.Named.{items_list}
use Rattle.json_nodes.specs.At.{At, ChildAt, FoundChild}
use Rattle.json_nodes.specs.Doc.{Doc}
use Rattle.json_nodes.specs.Same.{drop_items, drop_members}
use Rattle.json_nodes.specs.Texts.{member_names}
use Rattle.json_nodes.proofs.Members.{Follows, found_child_is, no_child}
use Rattle.json_nodes.proofs.Numbers.{child_at}
use Rattle.json_nodes.proofs.Spelling.{IsMember, is_member, members_end}

-- what is left of the items behind item n

is_item : (js : Items) (n : ℕ) (u : Json) → slice_get (items_list js) n ≡ Some u → drop_items n js ≡ item u (drop_items (suc n) js)
is_item no_items n u h = cc
is_item (item j js) zero u h = let same : j ≡ u = cc in ap (λ k. item k js) same
is_item (item j js) (suc n) u h = is_item js n u h

items_end : (js : Items) (n : ℕ) → slice_get (items_list js) n ≡ None → drop_items n js ≡ no_items
items_end no_items zero h = refl
items_end no_items (suc n) h = refl
items_end (item j js) zero h = cc
items_end (item j js) (suc n) h = items_end js n h

-- a number behind a value's
abbrev pub Behind : Doc → ℕ → Option ℕ → Type 0
Behind d x next = MatchOption next (Unit {0}) (λ m. (x < m) × (m < length d.nodes))

pub further : (d : Doc) (x m : ℕ) (next : Option ℕ) → x < m → Behind d m next → Behind d x next
further d x m None lt h = tt
further d x m (Some i) lt h = (omega arith, h.1)

-- what the items from the next one on give
pub record ItemsOn {A : Type 0} (d : Doc) (x : ℕ) (s : Span) (js : Items) (whole : A) (f : Items → A) (next : Option ℕ) : Type 0 where
  pub count : ℕ
  pub next_is : FoundChild d x (array s js) count next
  pub rest : whole ≡ f (drop_items count js)

-- the same of each array that may stand there, with what else is given
pub record ItemsWalk {I A : Type 0} (d : Doc) (x : ℕ) (given : I → Type 0) (whole f : I → Items → A) (next : Option ℕ) : Type 0 where
  pub next_inside : Behind d x next
  pub items : (i : I) → given i → (s : Span) (js : Items) → At d x (array s js) → ItemsOn d x s js (whole i js) (f i) next

module _ {I A : Type 0} (d : Doc) (x : ℕ) (given : I → Type 0) (whole f : I → Items → A) where
  pub items_begin : (next : Option ℕ) → ((t : Json) → At d x t → FoundChild d x t 0 next) → Behind d x next → ((i : I) (js : Items) → whole i js ≡ f i js) → ItemsWalk d x given whole f next
  items_begin next first inside same = record { next_inside = inside; items = λ i g s js a. record { count = 0; next_is = first (array s js) a; rest = same i js } }

  pub items_go : (g : I → Items → A) (here next : Option ℕ) (m : ℕ) → ItemsWalk d x given whole f here → here ≡ Some m → Follows d m next → Behind d m next
      → ((i : I) → given i → (u : Json) (rest : Items) → At d m u → f i (item u rest) ≡ g i rest) → ItemsWalk d x given whole g next
  items_go g here next m w is follows later turn =
      let v : ItemsWalk d x given whole f (Some m) = subst (λ o. ItemsWalk d x given whole f o) is w in
      record {
        next_inside = further d x m next v.next_inside.0 later;
        items = λ i k s js a.
            let o : ItemsOn d x s js (whole i js) (f i) (Some m) = v.items i k s js a in
            let c : (u : Json) × ChildAt d x (array s js) o.count m u = found_child_is d x o.count m (array s js) o.next_is in
            record {
              count = suc o.count;
              next_is = subst (λ n. FoundChild d x (array s js) n next) (add-one o.count) (follows x o.count (array s js) c.0 c.1);
              rest = o.rest ∙ ap (f i) (is_item js o.count c.0 c.1.child) ∙ turn i k c.0 (drop_items (suc o.count) js) (child_at c.1);
            };
      }

  -- one item decides
  pub items_stop : (here : Option ℕ) (m : ℕ) (answer : A) → ItemsWalk d x given whole f here → here ≡ Some m
      → ((i : I) → given i → (u : Json) (rest : Items) → At d m u → f i (item u rest) ≡ answer) → (i : I) → given i → (s : Span) (js : Items) → At d x (array s js) → answer ≡ whole i js
  items_stop here m answer w is turn i k s js a =
      let v : ItemsWalk d x given whole f (Some m) = subst (λ o. ItemsWalk d x given whole f o) is w in
      let o : ItemsOn d x s js (whole i js) (f i) (Some m) = v.items i k s js a in
      let c : (u : Json) × ChildAt d x (array s js) o.count m u = found_child_is d x o.count m (array s js) o.next_is in
      sym (o.rest ∙ ap (f i) (is_item js o.count c.0 c.1.child) ∙ turn i k c.0 (drop_items (suc o.count) js) (child_at c.1))

  pub items_done : (here : Option ℕ) → ItemsWalk d x given whole f here → here ≡ None → (i : I) → given i → (s : Span) (js : Items) → At d x (array s js) → f i no_items ≡ whole i js
  items_done here w is i k s js a =
      let v : ItemsWalk d x given whole f None = subst (λ o. ItemsWalk d x given whole f o) is w in
      let o : ItemsOn d x s js (whole i js) (f i) None = v.items i k s js a in
      sym (o.rest ∙ ap (f i) (items_end js o.count (no_child d x o.count (array s js) o.next_is)))

-- the same of members

pub record MembersOn {A : Type 0} (d : Doc) (x : ℕ) (s : Span) (ms : Members) (whole : A) (f : Members → A) (next : Option ℕ) : Type 0 where
  pub count : ℕ
  pub next_is : FoundChild d x (object s ms) count next
  pub rest : whole ≡ f (drop_members count ms)

pub record MembersWalk {I A : Type 0} (d : Doc) (x : ℕ) (given : I → Type 0) (whole f : I → Members → A) (next : Option ℕ) : Type 0 where
  pub next_inside : Behind d x next
  pub members : (i : I) → given i → (s : Span) (ms : Members) → At d x (object s ms) → MembersOn d x s ms (whole i ms) (f i) next

-- value number m is that of this member of an object at x, and the rest stand behind it
pub record MemberAt (d : Doc) (x m : ℕ) (s : Span) (ms : Members) (p : Span) (cs : List ℕ) (u : Json) (rest : Members) : Type 0 where
  pub count : ℕ
  pub child : ChildAt d x (object s ms) count m u
  pub name : slice_get (member_names ms) count ≡ Some cs
  pub here : drop_members count ms ≡ member p cs u rest
  pub after : rest ≡ drop_members (count + 1) ms

pub member_here : (d : Doc) (x m n : ℕ) (s : Span) (ms : Members) → FoundChild d x (object s ms) n (Some m) → (p : Span) × (cs : List ℕ) × (u : Json) × (w : MemberAt d x m s ms p cs u (drop_members (suc n) ms)) × (w.count ≡ n)
member_here d x m n s ms next =
    let c : (u : Json) × ChildAt d x (object s ms) n m u = found_child_is d x n m (object s ms) next in
    let e : IsMember ms n c.0 = is_member ms n c.0 c.1.child in
    (e.place, e.name, c.0, record { count = n; child = c.1; name = e.named; here = e.whole; after = ap (λ i. drop_members i ms) (sym (add-one n)) }, refl)

module _ {I A : Type 0} (d : Doc) (x : ℕ) (given : I → Type 0) (whole f : I → Members → A) where
  pub members_begin : (next : Option ℕ) → ((t : Json) → At d x t → FoundChild d x t 0 next) → Behind d x next → ((i : I) (ms : Members) → whole i ms ≡ f i ms) → MembersWalk d x given whole f next
  members_begin next first inside same = record { next_inside = inside; members = λ i g s ms a. record { count = 0; next_is = first (object s ms) a; rest = same i ms } }

  pub members_go : (g : I → Members → A) (here next : Option ℕ) (m : ℕ) → MembersWalk d x given whole f here → here ≡ Some m → Follows d m next → Behind d m next
      → ((i : I) → given i → (s : Span) (ms : Members) (p : Span) (cs : List ℕ) (u : Json) (rest : Members) → MemberAt d x m s ms p cs u rest → f i (member p cs u rest) ≡ g i rest) → MembersWalk d x given whole g next
  members_go g here next m w is follows later turn =
      let v : MembersWalk d x given whole f (Some m) = subst (λ o. MembersWalk d x given whole f o) is w in
      record {
        next_inside = further d x m next v.next_inside.0 later;
        members = λ i k s ms a.
            let o : MembersOn d x s ms (whole i ms) (f i) (Some m) = v.members i k s ms a in
            let q : (p : Span) × (cs : List ℕ) × (u : Json) × (z : MemberAt d x m s ms p cs u (drop_members (suc o.count) ms)) × (z.count ≡ o.count) = member_here d x m o.count s ms o.next_is in
            record {
              count = suc o.count;
              next_is = subst (λ n. FoundChild d x (object s ms) n next) (ap suc q.4) (subst (λ n. FoundChild d x (object s ms) n next) (add-one q.3.count) (follows x q.3.count (object s ms) q.2 q.3.child));
              rest = o.rest ∙ ap (f i) (ap (λ n. drop_members n ms) (sym q.4) ∙ q.3.here) ∙ turn i k s ms q.0 q.1 q.2 (drop_members (suc o.count) ms) q.3;
            };
      }

  pub members_stop : (here : Option ℕ) (m : ℕ) (answer : A) → MembersWalk d x given whole f here → here ≡ Some m
      → ((i : I) → given i → (s : Span) (ms : Members) (p : Span) (cs : List ℕ) (u : Json) (rest : Members) → MemberAt d x m s ms p cs u rest → f i (member p cs u rest) ≡ answer)
      → (i : I) → given i → (s : Span) (ms : Members) → At d x (object s ms) → answer ≡ whole i ms
  members_stop here m answer w is turn i k s ms a =
      let v : MembersWalk d x given whole f (Some m) = subst (λ o. MembersWalk d x given whole f o) is w in
      let o : MembersOn d x s ms (whole i ms) (f i) (Some m) = v.members i k s ms a in
      let q : (p : Span) × (cs : List ℕ) × (u : Json) × (z : MemberAt d x m s ms p cs u (drop_members (suc o.count) ms)) × (z.count ≡ o.count) = member_here d x m o.count s ms o.next_is in
      sym (o.rest ∙ ap (f i) (ap (λ n. drop_members n ms) (sym q.4) ∙ q.3.here) ∙ turn i k s ms q.0 q.1 q.2 (drop_members (suc o.count) ms) q.3)

  pub members_done : (here : Option ℕ) → MembersWalk d x given whole f here → here ≡ None → (i : I) → given i → (s : Span) (ms : Members) → At d x (object s ms) → f i no_members ≡ whole i ms
  members_done here w is i k s ms a =
      let v : MembersWalk d x given whole f None = subst (λ o. MembersWalk d x given whole f o) is w in
      let o : MembersOn d x s ms (whole i ms) (f i) None = v.members i k s ms a in
      sym (o.rest ∙ ap (f i) (members_end ms o.count (no_child d x o.count (object s ms) o.next_is)))
