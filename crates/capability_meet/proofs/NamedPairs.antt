-- The last members of an object under their names.
use Rattle.std.proofs.Common.{◌≡◌, ℕ, suc, ◌+◌, ◌<◌, List, [], ◌∷◌, ◌++◌, length, Vec, Global, refl, sym, ◌∙◌, ap, ap₂, subst, add-one, append_assoc}
use Rattle.std.specs.Prelude.{Option, Some, None, encode_utf8_all}
use Rattle.std.specs.declared.cmp.Ordering.{Ordering}
use Rattle.std.specs.declared.cmp.Ordering.TheVariants.{Less, Equal, Greater}
use Rattle.std.specs.Ordering.{nat_cmp, match_ordering}
use Rattle.std.specs.Cmp.Lexicographic.{slice_cmp}
use Rattle.std.specs.List.{slice_get}
use Rattle.std.specs.BTreeMap.{insert_entry}
use Rattle.std.specs.FinMap.Entries.{put, by_order}
use Rattle.json_text.specs.declared.span.Span.{Span}
use Rattle.json_text.specs.Json.{Json, object, Members}
use Rattle.json_nodes.specs.At.{At, ChildAt, FoundChild}
use Rattle.json_nodes.specs.Doc.{Doc}
use Rattle.json_nodes.specs.Same.{drop_members}
use Rattle.json_nodes.specs.Texts.{member_names}
use Rattle.json_nodes.proofs.Members.{Follows, no_child}
use Rattle.json_nodes.proofs.Numbers.{child_at}
use Rattle.json_nodes.proofs.Spelling.{members_end}
use Rattle.capability_meet.specs.NamedValues.{AreBetween, ArePairs, Entry, HasText}
use Rattle.capability_meet.specs.ValueText.{Pair, by_name, marked, pairs_text, pairs_with, value_text}
use Rattle.capability_meet.proofs.Walks.{Behind, MemberAt, further, member_here}

-- one more of them

abbrev by_key : Vec ℕ Global → Vec ℕ Global → Ordering
by_key a b = slice_cmp nat_cmp a.items b.items

pub between_put : (low high : ℕ) (key : Vec ℕ Global) (m : ℕ) (es : List Entry) → low < m → m < high → AreBetween low high es → AreBetween low high (insert_entry (λ a b. slice_cmp nat_cmp a.items b.items) es key m)
between_put low high key m [] a b h = (a, b, tt)
between_put low high key m (e ∷ es) a b h = go (by_key key e.0) (between_put low high key m es a b h.2)
  where
    go : (o : Ordering) → AreBetween low high (insert_entry by_key es key m) → AreBetween low high (match_ordering o ((key, m) ∷ e ∷ es) ((e.0, m) ∷ es) (e ∷ insert_entry by_key es key m))
    go Less r = (a, b, h)
    go Equal r = (a, b, h.2)
    go Greater r = (h.0, h.1, r)

pub pairs_put : (d : Doc) (key : Vec ℕ Global) (m : ℕ) (cs text : List ℕ) (es : List Entry) (ps : List Pair) → key.items ≡ encode_utf8_all cs → HasText d m text → ArePairs d es ps
    → ArePairs d (insert_entry (λ a b. slice_cmp nat_cmp a.items b.items) es key m) (put by_name cs text ps)
pairs_put d key m cs text [] [] k t h = (k, t, tt)
pairs_put d key m cs text [] (p ∷ ps) k t h = absurd h
pairs_put d key m cs text (e ∷ es) [] k t h = absurd h
pairs_put d key m cs text (e ∷ es) (p ∷ ps) k t h =
    let orders : by_key key e.0 ≡ by_name cs p.0 = ap₂ (λ x y. slice_cmp nat_cmp x y) k h.0 in
    subst (λ (o : Ordering). ArePairs d (insert_entry by_key (e ∷ es) key m) (by_order o ((cs, text) ∷ p ∷ ps) ((p.0, text) ∷ ps) (p ∷ put by_name cs text ps))) orders (go (by_key key e.0) (pairs_put d key m cs text es ps k t h.2))
  where
    go : (o : Ordering) → ArePairs d (insert_entry by_key es key m) (put by_name cs text ps)
        → ArePairs d (match_ordering o ((key, m) ∷ e ∷ es) ((e.0, m) ∷ es) (e ∷ insert_entry by_key es key m)) (by_order o ((cs, text) ∷ p ∷ ps) ((p.0, text) ∷ ps) (p ∷ put by_name cs text ps))
    go Less r = (k, t, h)
    go Equal r = (h.0, t, h.2)
    go Greater r = (h.0, h.1, r)

-- a walk over members that keeps them

pub record PairsOn (d : Doc) (x : ℕ) (s : Span) (ms : Members) (es : List Entry) (next : Option ℕ) : Type 0 where
  pub count : ℕ
  pub next_is : FoundChild d x (object s ms) count next
  pub pairs : List Pair
  pub kept : ArePairs d es pairs
  pub rest : pairs_with [] ms ≡ pairs_with pairs (drop_members count ms)

pub record PairsWalk (d : Doc) (x : ℕ) (es : List Entry) (next : Option ℕ) : Type 0 where
  pub next_inside : Behind d x next
  pub between : AreBetween x (length d.nodes) es
  pub members : (s : Span) (ms : Members) → At d x (object s ms) → PairsOn d x s ms es next

pub pairs_begin : (d : Doc) (x : ℕ) (es : List Entry) (next : Option ℕ) → es ≡ [] → ((t : Json) → At d x t → FoundChild d x t 0 next) → Behind d x next → PairsWalk d x es next
pairs_begin d x es next none first inside = record {
  next_inside = inside;
  between = subst (λ (z : List Entry). AreBetween x (length d.nodes) z) (sym none) tt;
  members = λ s ms a. record { count = 0; next_is = first (object s ms) a; pairs = []; kept = subst (λ (z : List Entry). ArePairs d z []) (sym none) tt; rest = refl };
}

pub pairs_go : (d : Doc) (x : ℕ) (es fs : List Entry) (here next : Option ℕ) (m : ℕ) → PairsWalk d x es here → here ≡ Some m → Follows d m next → Behind d m next
    → ((low high : ℕ) → low < m → m < high → AreBetween low high es → AreBetween low high fs)
    → ((n : ℕ) (s : Span) (ms : Members) (u : Json) (cs : List ℕ) (ps : List Pair) → ChildAt d x (object s ms) n m u → slice_get (member_names ms) n ≡ Some cs → HasText d m (value_text u) → ArePairs d es ps → ArePairs d fs (put by_name cs (value_text u) ps))
    → PairsWalk d x fs next
pairs_go d x es fs here next m w is follows later inside turn =
    let v : PairsWalk d x es (Some m) = subst (λ o. PairsWalk d x es o) is w in
    record {
      next_inside = further d x m next v.next_inside.0 later;
      between = inside x (length d.nodes) v.next_inside.0 v.next_inside.1 v.between;
      members = λ s ms a.
          let o : PairsOn d x s ms es (Some m) = v.members s ms a in
          let q : (p : Span) × (cs : List ℕ) × (u : Json) × (z : MemberAt d x m s ms p cs u (drop_members (suc o.count) ms)) × (z.count ≡ o.count) = member_here d x m o.count s ms o.next_is in
          record {
            count = suc o.count;
            next_is = subst (λ n. FoundChild d x (object s ms) n next) (ap suc q.4) (subst (λ n. FoundChild d x (object s ms) n next) (add-one q.3.count) (follows x q.3.count (object s ms) q.2 q.3.child));
            pairs = put by_name q.1 (value_text q.2) o.pairs;
            kept = turn q.3.count s ms q.2 q.1 o.pairs q.3.child q.3.name (q.2, child_at q.3.child, refl) o.kept;
            rest = o.rest ∙ ap (pairs_with o.pairs) (ap (λ n. drop_members n ms) (sym q.4) ∙ q.3.here);
          };
    }

pub pairs_done : (d : Doc) (x : ℕ) (es : List Entry) (here : Option ℕ) → PairsWalk d x es here → here ≡ None → (s : Span) (ms : Members) → At d x (object s ms) → ArePairs d es (pairs_with [] ms)
pairs_done d x es here w is s ms a =
    let v : PairsWalk d x es None = subst (λ o. PairsWalk d x es o) is w in
    let o : PairsOn d x s ms es None = v.members s ms a in
    subst (λ (ps : List Pair). ArePairs d es ps) (sym (o.rest ∙ ap (pairs_with o.pairs) (members_end ms o.count (no_child d x o.count (object s ms) o.next_is)))) o.kept

-- a walk over them that writes their pairs

-- what is left of the pairs, behind what is written
pub record PairsLeft (d : Doc) (es : List Entry) (out whole : List ℕ) : Type 0 where
  pub pairs : List Pair
  pub are : ArePairs d es pairs
  pub text : out ++ pairs_text pairs ≡ whole

pub one_written : (d : Doc) (e : Entry) (es : List Entry) (out first second last whole : List ℕ) → PairsLeft d (e ∷ es) out whole → first ≡ out ++ (1 ∷ []) → second ≡ first ++ marked e.0.items → ((t : Json) → At d e.1 t → last ≡ second ++ value_text t) → PairsLeft d es last whole
one_written d e es out first second last whole w f g h = go w.pairs w.are w.text
  where
    go : (ps : List Pair) → ArePairs d (e ∷ es) ps → out ++ pairs_text ps ≡ whole → PairsLeft d es last whole
    go [] a x = absurd a
    go (p ∷ ps) a x =
        let m = marked (encode_utf8_all p.0) in
        let name : second ≡ (out ++ (1 ∷ [])) ++ m = g ∙ ap₂ (λ y z. y ++ marked z) f a.0 in
        let all : last ≡ ((out ++ (1 ∷ [])) ++ m) ++ p.1 = h a.1.0 a.1.1 ∙ ap₂ (λ y z. y ++ z) name (sym a.1.2) in
        record {
          pairs = ps;
          are = a.2;
          text = ap (λ z. z ++ pairs_text ps) all ∙ append_assoc ((out ++ (1 ∷ [])) ++ m) p.1 (pairs_text ps) ∙ append_assoc (out ++ (1 ∷ [])) m (p.1 ++ pairs_text ps) ∙ append_assoc out (1 ∷ []) (m ++ (p.1 ++ pairs_text ps)) ∙ x;
        }

pub all_written : (d : Doc) (es : List Entry) (out last whole : List ℕ) → PairsLeft d es out whole → es ≡ [] → last ≡ out ++ (0 ∷ []) → last ≡ whole
all_written d es out last whole w e f = let v : PairsLeft d [] out whole = subst (λ (z : List Entry). PairsLeft d z out whole) e w in go v.pairs v.are v.text
  where
    go : (ps : List Pair) → ArePairs d [] ps → out ++ pairs_text ps ≡ whole → last ≡ whole
    go [] a x = f ∙ x
    go (p ∷ ps) a x = absurd a
