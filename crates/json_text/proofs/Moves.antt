-- A value may be moved: what says a tree stands, at any place, as a tree that says the same.
use Rattle.std.proofs.Common.{◌≡◌, ℕ, ◌+◌, List, length, max, refl, ap, ap₂}
use Rattle.json_text.specs.declared.span.Span.{Span}
use Rattle.json_text.specs.Json.{Json, word, number, string, array, object, Items, no_items, item, Members, no_members, member, Rule, ◌then◌, space, pair, value, items, more_items, members, more_members, depth, items_depth, members_depth, IsText}
use Rattle.json_text.specs.Bare.{bare, bare_items, bare_members, nowhere}
use Rattle.json_text.proofs.Forms.{◌along◌, one, blank, name_and, says, says_items, says_more_items, says_members, says_more_members, SaysText, says_of}

-- a tree of the same meaning stands there
pub record Placed (j : Json) (at : ℕ) (bs : List ℕ) : Type 0 where
  pub tree : Json
  pub stands : value tree at bs
  pub same : bare tree ≡ bare j
  pub deep : depth tree ≡ depth j

-- items of the same meaning stand there, by this rule
pub record PlacedItems (rule : Items → Rule) (js : Items) (at : ℕ) (bs : List ℕ) : Type 0 where
  pub trees : Items
  pub stand : rule trees at bs
  pub same : bare_items trees ≡ bare_items js
  pub deep : items_depth trees ≡ items_depth js

pub record PlacedMembers (rule : Members → Rule) (ms : Members) (at : ℕ) (bs : List ℕ) : Type 0 where
  pub trees : Members
  pub stand : rule trees at bs
  pub same : bare_members trees ≡ bare_members ms
  pub deep : members_depth trees ≡ members_depth ms

abbrev between : ℕ → ℕ → Span
between at n = record { from = at; to = at + n }

-- a member's name and value stand there
record PlacedPair (cs : List ℕ) (j : Json) (at : ℕ) (bs : List ℕ) : Type 0 where
  name : Span
  tree : Json
  stand : pair name cs (value tree) at bs
  same : bare tree ≡ bare j
  deep : depth tree ≡ depth j

placed_pair : (cs : List ℕ) (j : Json) (at : ℕ) (bs : List ℕ) → ((at : ℕ) (bs : List ℕ) → says j bs → Placed j at bs) → name_and cs (says j) bs → PlacedPair cs j at bs
placed_pair cs j at bs place h =
    let a1 : ℕ = at + length h.0 in
    let g : (blank along one 58 along blank along says j) h.1 = h.4 in
    let a2 : ℕ = a1 + length g.0 in
    let c : (one 58 along blank along says j) g.1 = g.4 in
    let a3 : ℕ = a2 + length c.0 in
    let l : (blank along says j) c.1 = c.4 in
    let p : Placed j (a3 + length l.0) l.1 = place (a3 + length l.0) l.1 l.4 in
    record {
      name = between at (length h.0);
      tree = p.tree;
      same = p.same;
      deep = p.deep;
      stand = (h.0, h.1, h.2, (h.3, refl), (g.0, g.1, g.2, g.3, (c.0, c.1, c.2, c.3, (l.0, l.1, l.2, l.3, p.stands))));
    }

-- a member and those behind it, without the comma
record PlacedRest (cs : List ℕ) (j : Json) (ms : Members) (at : ℕ) (bs : List ℕ) : Type 0 where
  name : Span
  tree : Json
  trees : Members
  stand : (space then pair name cs (value tree) then space then more_members trees) at bs
  same : bare_members (member name cs tree trees) ≡ member nowhere cs (bare j) (bare_members ms)
  deep : members_depth (member name cs tree trees) ≡ max (depth j) (members_depth ms)

placed_rest : (cs : List ℕ) (j : Json) (ms : Members) (at : ℕ) (bs : List ℕ) → ((at : ℕ) (bs : List ℕ) → says j bs → Placed j at bs)
    → ((at : ℕ) (bs : List ℕ) → says_more_members ms bs → PlacedMembers more_members ms at bs)
    → (blank along name_and cs (says j) along blank along says_more_members ms) bs → PlacedRest cs j ms at bs
placed_rest cs j ms at bs place places h =
    let a1 : ℕ = at + length h.0 in
    let g : (name_and cs (says j) along blank along says_more_members ms) h.1 = h.4 in
    let a2 : ℕ = a1 + length g.0 in
    let l : (blank along says_more_members ms) g.1 = g.4 in
    let p : PlacedPair cs j a1 g.0 = placed_pair cs j a1 g.0 place g.3 in
    let q : PlacedMembers more_members ms (a2 + length l.0) l.1 = places (a2 + length l.0) l.1 l.4 in
    record {
      name = p.name;
      tree = p.tree;
      trees = q.trees;
      stand = (h.0, h.1, h.2, h.3, (g.0, g.1, g.2, p.stand, (l.0, l.1, l.2, l.3, q.stand)));
      same = ap₂ (λ k ks. member nowhere cs k ks) p.same q.same;
      deep = ap₂ max p.deep q.deep;
    }

mutual
  -- what says a tree stands, wherever it is put
  pub placed : (j : Json) (at : ℕ) (bs : List ℕ) → says j bs → Placed j at bs
  placed (word s w) at bs h = record { tree = word (between at (length bs)) w; stands = (h, refl); same = refl; deep = refl }
  placed (number s ds) at bs h = record { tree = number (between at (length bs)) ds; stands = (h, refl); same = refl; deep = refl }
  placed (string s cs) at bs h = record { tree = string (between at (length bs)) cs; stands = (h, refl); same = refl; deep = refl }
  placed (array s js) at bs h =
      let p : PlacedItems items js (at + length h.0) h.4.0 = placed_items js (at + length h.0) h.4.0 h.4.3 in
      record {
        tree = array (between at (length bs)) p.trees;
        stands = ((h.0, h.1, h.2, h.3, (h.4.0, h.4.1, h.4.2, p.stand, h.4.4)), refl);
        same = ap (λ ks. array nowhere ks) p.same;
        deep = ap (λ n. 1 + n) p.deep;
      }
  placed (object s ms) at bs h =
      let p : PlacedMembers members ms (at + length h.0) h.4.0 = placed_members ms (at + length h.0) h.4.0 h.4.3 in
      record {
        tree = object (between at (length bs)) p.trees;
        stands = ((h.0, h.1, h.2, h.3, (h.4.0, h.4.1, h.4.2, p.stand, h.4.4)), refl);
        same = ap (λ ks. object nowhere ks) p.same;
        deep = ap (λ n. 1 + n) p.deep;
      }

  pub placed_items : (js : Items) (at : ℕ) (bs : List ℕ) → says_items js bs → PlacedItems items js at bs
  placed_items no_items at bs h = record { trees = no_items; stand = h; same = refl; deep = refl }
  placed_items (item j js) at bs h =
      let a1 : ℕ = at + length h.0 in
      let g : (says j along blank along says_more_items js) h.1 = h.4 in
      let a2 : ℕ = a1 + length g.0 in
      let l : (blank along says_more_items js) g.1 = g.4 in
      let p : Placed j a1 g.0 = placed j a1 g.0 g.3 in
      let q : PlacedItems more_items js (a2 + length l.0) l.1 = placed_more_items js (a2 + length l.0) l.1 l.4 in
      record {
        trees = item p.tree q.trees;
        stand = (h.0, h.1, h.2, h.3, (g.0, g.1, g.2, p.stands, (l.0, l.1, l.2, l.3, q.stand)));
        same = ap₂ item p.same q.same;
        deep = ap₂ max p.deep q.deep;
      }

  pub placed_more_items : (js : Items) (at : ℕ) (bs : List ℕ) → says_more_items js bs → PlacedItems more_items js at bs
  placed_more_items no_items at bs h = record { trees = no_items; stand = h; same = refl; deep = refl }
  placed_more_items (item j js) at bs f =
      let a0 : ℕ = at + length f.0 in
      let h : (blank along says j along blank along says_more_items js) f.1 = f.4 in
      let a1 : ℕ = a0 + length h.0 in
      let g : (says j along blank along says_more_items js) h.1 = h.4 in
      let a2 : ℕ = a1 + length g.0 in
      let l : (blank along says_more_items js) g.1 = g.4 in
      let p : Placed j a1 g.0 = placed j a1 g.0 g.3 in
      let q : PlacedItems more_items js (a2 + length l.0) l.1 = placed_more_items js (a2 + length l.0) l.1 l.4 in
      record {
        trees = item p.tree q.trees;
        stand = (f.0, f.1, f.2, f.3, (h.0, h.1, h.2, h.3, (g.0, g.1, g.2, p.stands, (l.0, l.1, l.2, l.3, q.stand))));
        same = ap₂ item p.same q.same;
        deep = ap₂ max p.deep q.deep;
      }

  pub placed_members : (ms : Members) (at : ℕ) (bs : List ℕ) → says_members ms bs → PlacedMembers members ms at bs
  placed_members no_members at bs h = record { trees = no_members; stand = h; same = refl; deep = refl }
  placed_members (member s cs j ms) at bs h =
      let p : PlacedRest cs j ms at bs = placed_rest cs j ms at bs (λ at bs h. placed j at bs h) (λ at bs h. placed_more_members ms at bs h) h in
      record { trees = member p.name cs p.tree p.trees; stand = p.stand; same = p.same; deep = p.deep }

  pub placed_more_members : (ms : Members) (at : ℕ) (bs : List ℕ) → says_more_members ms bs → PlacedMembers more_members ms at bs
  placed_more_members no_members at bs h = record { trees = no_members; stand = h; same = refl; deep = refl }
  placed_more_members (member s cs j ms) at bs f =
      let p : PlacedRest cs j ms (at + length f.0) f.1 = placed_rest cs j ms (at + length f.0) f.1 (λ at bs h. placed j at bs h) (λ at bs h. placed_more_members ms at bs h) f.4 in
      record { trees = member p.name cs p.tree p.trees; stand = (f.0, f.1, f.2, f.3, p.stand); same = p.same; deep = p.deep }

-- a value may be moved
pub moved : (j : Json) (at : ℕ) (bs : List ℕ) → value j at bs → (to : ℕ) → Placed j to bs
moved j at bs h to = placed j to bs (says_of j at bs h)

-- bytes that say a tree are a text, of a tree of the same meaning
pub record PlacedText (j : Json) (bytes : List ℕ) : Type 0 where
  pub tree : Json
  pub text : IsText bytes tree
  pub same : bare tree ≡ bare j
  pub deep : depth tree ≡ depth j

pub placed_text : (j : Json) (bytes : List ℕ) → SaysText j bytes → PlacedText j bytes
placed_text j bytes h =
    let g : (says j along blank) h.1 = h.4 in
    let p : Placed j (0 + length h.0) g.0 = placed j (0 + length h.0) g.0 g.3 in
    record { tree = p.tree; text = (h.0, h.1, h.2, h.3, (g.0, g.1, g.2, p.stands, g.4)); same = p.same; deep = p.deep }
