-- The members of an object, one by one.
use Rattle.std.proofs.Common.{◌≡◌, ℕ, zero, suc, ◌+◌, ◌-◌, ◌<◌, Bool, true, false, cond, List, length, refl, sym, ◌∙◌, ap, subst, add-one}
use Rattle.std.specs.Prelude.{Option, Some, None, bytes_eq, MatchOption}
use Rattle.std.specs.List.{slice_get}
use Rattle.json_text.specs.declared.span.Span.{Span}
use Rattle.json_text.specs.declared.kind.Kind.{Kind}
use Rattle.json_text.specs.declared.kind.Kind.TheVariants as kind
use Rattle.json_text.specs.declared.kind.Word.TheVariants.{Null, False, True}
use Rattle.json_nodes.specs.Nodes.{kind_of}
use Rattle.json_text.specs.Json.{Json, word, number, string, array, object, Members, no_members, member}
use Rattle.json_text.specs.Named.{children, values_list, named, named_in, if_named, or_else}
use Rattle.json_nodes.specs.At.{At, Found, ChildAt, FoundChild, found_child}
use Rattle.json_nodes.specs.Doc.{Doc}
use Rattle.json_nodes.specs.Names.{Tests}
use Rattle.json_nodes.specs.Texts.{member_names}
use Rattle.json_nodes.proofs.Numbers.{child_at}

-- the last of the first n members of this name
abbrev pub named_among : List ℕ → ℕ → Members → Option Json
named_among cs zero ms = None
named_among cs (suc n) no_members = None
named_among cs (suc n) (member s ds j ms) = or_else (named_among cs n ms) (if_named (bytes_eq cs ds) j)

-- the numbers of the next child and of the last one of this name
pub record Walked (cs : List ℕ) (doc : Doc) (k : ℕ) (s : Span) (ms : Members) (next found : Option ℕ) : Type 0 where
  pub count : ℕ
  pub next_is : FoundChild doc k (object s ms) count next
  pub found_is : Found doc (named_among cs count ms) found

pub walk_starts : (cs : List ℕ) (doc : Doc) (k : ℕ) (s : Span) (ms : Members) (next : Option ℕ) → FoundChild doc k (object s ms) 0 next → Walked cs doc k s ms next None
walk_starts cs doc k s ms next h = record { count = 0; next_is = h; found_is = tt }

among_all : (cs : List ℕ) (n : ℕ) (ms : Members) → slice_get (values_list ms) n ≡ None → named_among cs n ms ≡ named cs ms
unfolding named
among_all cs zero no_members h = refl
among_all cs zero (member s ds j ms) h = cc
among_all cs (suc n) no_members h = refl
among_all cs (suc n) (member s ds j ms) h = ap (λ o. or_else o (if_named (bytes_eq cs ds) j)) (among_all cs n ms h)

name_there : (ms : Members) (n : ℕ) (u : Json) → slice_get (values_list ms) n ≡ Some u → (ds : List ℕ) × (slice_get (member_names ms) n ≡ Some ds)
name_there no_members n u h = cc
name_there (member s ds j ms) zero u h = (ds, refl)
name_there (member s ds j ms) (suc n) u h = name_there ms n u h

pub or_else_assoc : (a b c : Option Json) → or_else (or_else a b) c ≡ or_else a (or_else b c)
or_else_assoc None b c = refl
or_else_assoc (Some x) b c = refl

or_else_none : (a : Option Json) → or_else a None ≡ a
or_else_none None = refl
or_else_none (Some x) = refl

among_next : (cs : List ℕ) (n : ℕ) (ms : Members) (u : Json) (ds : List ℕ) → slice_get (values_list ms) n ≡ Some u → slice_get (member_names ms) n ≡ Some ds → named_among cs (suc n) ms ≡ or_else (if_named (bytes_eq cs ds) u) (named_among cs n ms)
among_next cs n no_members u ds h g = cc
among_next cs zero (member s es j ms) u ds h g = let same : j ≡ u = cc in let name : es ≡ ds = cc in rw (same, name) (sym (or_else_none (if_named (bytes_eq cs ds) u)))
among_next cs (suc n) (member s es j ms) u ds h g = ap (λ o. or_else o (if_named (bytes_eq cs es) j)) (among_next cs n ms u ds h g) ∙ or_else_assoc (if_named (bytes_eq cs ds) u) (named_among cs n ms) (if_named (bytes_eq cs es) j)

pub found_next : (doc : Doc) (m : ℕ) (u : Json) (b : Bool) (best : Option Json) (found : Option ℕ) → At doc m u → Found doc best found → Found doc (or_else (if_named b u) best) (cond b (Some m) found)
found_next doc m u true best found a h = a
found_next doc m u false best found a h = h

found_step : (cs : List ℕ) (doc : Doc) (k m n : ℕ) (s : Span) (ms : Members) (u : Json) (b : Bool) (found : Option ℕ) → ChildAt doc k (object s ms) n m u → Tests cs doc m b → Found doc (named_among cs n ms) found → Found doc (named_among cs (suc n) ms) (cond b (Some m) found)
found_step cs doc k m n s ms u b found c test h =
    let d : (ds : List ℕ) × (slice_get (member_names ms) n ≡ Some ds) = name_there ms n u c.child in
    let e : b ≡ bytes_eq cs d.0 = test k n (object s ms) u d.0 c d.1 in
    rw (among_next cs n ms u d.0 c.child d.1, ← e) (found_next doc m u b (named_among cs n ms) found (child_at c) h)

-- a number that was found is a child's
pub found_child_is : (doc : Doc) (k n m : ℕ) (t : Json) → FoundChild doc k t n (Some m) → (u : Json) × ChildAt doc k t n m u
found_child_is doc k n m t h = by (slice_get (children t) n) h
  where
    by : (o : Option Json) → found_child doc k t n o (Some m) → (u : Json) × ChildAt doc k t n m u
    by None h = absurd h
    by (Some u) h = (u, h)

pub no_child : (doc : Doc) (k n : ℕ) (t : Json) → FoundChild doc k t n None → slice_get (children t) n ≡ None
no_child doc k n t h = by (slice_get (children t) n) h
  where
    by : (o : Option Json) → found_child doc k t n o None → o ≡ None
    by None h = refl
    by (Some u) h = absurd h

-- what the look-up of the next child gives
abbrev pub Follows : Doc → ℕ → Option ℕ → Type 0
Follows doc m next = (k n : ℕ) (t u : Json) → ChildAt doc k t n m u → FoundChild doc k t (n + 1) next

pub walk_step : (cs : List ℕ) (doc : Doc) (k m : ℕ) (s : Span) (ms : Members) (next found : Option ℕ) (b : Bool) → Walked cs doc k s ms (Some m) found → Tests cs doc m b → Follows doc m next → Walked cs doc k s ms next (cond b (Some m) found)
walk_step cs doc k m s ms next found b w test follows =
    let c : (u : Json) × ChildAt doc k (object s ms) w.count m u = found_child_is doc k w.count m (object s ms) w.next_is in
    record {
      count = suc w.count;
      next_is = subst (λ i. FoundChild doc k (object s ms) i next) (add-one w.count) (follows k w.count (object s ms) c.0 c.1);
      found_is = found_step cs doc k m w.count s ms c.0 b found c.1 test w.found_is;
    }

pub walk_ends : (cs : List ℕ) (doc : Doc) (k : ℕ) (s : Span) (ms : Members) (found : Option ℕ) → Walked cs doc k s ms None found → Found doc (named_in cs (object s ms)) found
walk_ends cs doc k s ms found w = subst (λ o. Found doc o found) (among_all cs w.count ms (no_child doc k w.count (object s ms) w.next_is)) w.found_is

-- in the middle of a walk over the children of value k

abbrev pub Inside : ℕ → Option ℕ → Type 0
Inside n answer = MatchOption answer (Unit {0}) (λ m. m < n)

pub record Walking (cs : List ℕ) (doc : Doc) (k : ℕ) (next found : Option ℕ) : Type 0 where
  pub next_inside : Inside (length doc.nodes) next
  pub found_inside : Inside (length doc.nodes) found
  pub walked : (s : Span) (ms : Members) → At doc k (object s ms) → Walked cs doc k s ms next found

-- how many nodes stand behind the next child
abbrev pub left : ℕ → Option ℕ → ℕ
left n None = 0
left n (Some m) = suc (n - m)

pub inside_more : (n m : ℕ) (next : Option ℕ) → MatchOption next (Unit {0}) (λ i. (m < i) × (i < n)) → Inside n next
inside_more n m None h = tt
inside_more n m (Some i) h = h.1

pub inside_cond : (n m : ℕ) (b : Bool) (found : Option ℕ) → m < n → Inside n found → Inside n (cond b (Some m) found)
inside_cond n m true found h g = h
inside_cond n m false found h g = g

pub walking_starts : (cs : List ℕ) (doc : Doc) (k : ℕ) (next : Option ℕ) → ((t : Json) → At doc k t → FoundChild doc k t 0 next) → MatchOption next (Unit {0}) (λ i. (k < i) × (i < length doc.nodes)) → Walking cs doc k next None
walking_starts cs doc k next first later = record {
  next_inside = inside_more (length doc.nodes) k next later;
  found_inside = tt;
  walked = λ s ms a. walk_starts cs doc k s ms next (first (object s ms) a);
}

walking_at : (cs : List ℕ) (doc : Doc) (k m : ℕ) (next found : Option ℕ) (b : Bool) → Walking cs doc k (Some m) found → Tests cs doc m b → Follows doc m next → MatchOption next (Unit {0}) (λ i. (m < i) × (i < length doc.nodes)) → Walking cs doc k next (cond b (Some m) found)
walking_at cs doc k m next found b w test follows later = record {
  next_inside = inside_more (length doc.nodes) m next later;
  found_inside = inside_cond (length doc.nodes) m b found w.next_inside w.found_inside;
  walked = λ s ms a. walk_step cs doc k m s ms next found b (w.walked s ms a) test follows;
}

pub walking_found : (cs : List ℕ) (doc : Doc) (k m : ℕ) (here next found new : Option ℕ) (b : Bool) → Walking cs doc k here found → here ≡ Some m → b ≡ true → new ≡ Some m → Tests cs doc m b → Follows doc m next → MatchOption next (Unit {0}) (λ i. (m < i) × (i < length doc.nodes)) → Walking cs doc k next new
walking_found cs doc k m here next found new b w is holds new_is test follows later =
    let e : new ≡ cond b (Some m) found = rw (holds, new_is) refl in
    rw e (walking_at cs doc k m next found b (subst (λ o. Walking cs doc k o found) is w) test follows later)

pub walking_on : (cs : List ℕ) (doc : Doc) (k m : ℕ) (here next found new : Option ℕ) (b : Bool) → Walking cs doc k here found → here ≡ Some m → b ≡ false → new ≡ found → Tests cs doc m b → Follows doc m next → MatchOption next (Unit {0}) (λ i. (m < i) × (i < length doc.nodes)) → Walking cs doc k next new
walking_on cs doc k m here next found new b w is fails new_is test follows later =
    let e : new ≡ cond b (Some m) found = rw (fails, new_is) refl in
    rw e (walking_at cs doc k m next found b (subst (λ o. Walking cs doc k o found) is w) test follows later)

pub walking_ends : (cs : List ℕ) (doc : Doc) (k : ℕ) (s : Span) (ms : Members) (next found : Option ℕ) → Walking cs doc k next found → next ≡ None → At doc k (object s ms) → Found doc (named cs ms) found
walking_ends cs doc k s ms next found w e a = walk_ends cs doc k s ms found (subst (λ o. Walked cs doc k s ms o found) e (w.walked s ms a))

-- by the kind of a value

pub of_object : (cs : List ℕ) (doc : Doc) (found : Option ℕ) (x : Kind) (t : Json) → x ≡ kind.Object → x ≡ kind_of t → ((s : Span) (ms : Members) → t ≡ object s ms → Found doc (named cs ms) found) → Found doc (named_in cs t) found
of_object cs doc found x (object s ms) e f h = h s ms refl
of_object cs doc found x (word s Null) e f h = cc
of_object cs doc found x (word s False) e f h = cc
of_object cs doc found x (word s True) e f h = cc
of_object cs doc found x (number s ds) e f h = cc
of_object cs doc found x (string s ds) e f h = cc
of_object cs doc found x (array s js) e f h = cc

pub of_other : (cs : List ℕ) (doc : Doc) (x : Kind) (t : Json) → (x ≡ kind.Object → ⊥) → x ≡ kind_of t → Found doc (named_in cs t) None
of_other cs doc x (object s ms) e f = absurd (e f)
of_other cs doc x (word s w) e f = tt
of_other cs doc x (number s ds) e f = tt
of_other cs doc x (string s ds) e f = tt
of_other cs doc x (array s js) e f = tt
