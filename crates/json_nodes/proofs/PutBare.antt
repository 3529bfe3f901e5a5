-- New values in a tree without places.
use Rattle.std.proofs.Common.{◌≡◌, ℕ, zero, suc, Bool, true, false, ◌≤◌, max, List, [], ◌∷◌, Option, Some, None, MatchOption, option_map, is_some, bytes_eq, if◌then◌else◌, refl, sym, ◌∙◌, ap, ap₂, arith}
use Rattle.json_text.specs.declared.span.Span.{Span}
use Rattle.json_text.specs.Bare.{bare, bare_items, bare_members, nowhere}
use Rattle.json_text.specs.Json.{Json, word, number, string, array, object, Items, no_items, item, Members, no_members, member, depth, members_depth}
use Rattle.json_text.specs.Named.{named}
use Rattle.json_text.specs.Paths.{Step, key, index, item_at, step_to, value_at, put_named, put_item, put_step, put_at}
use Rattle.json_text.proofs.Depths.{put_shallow}
use Rattle.json_text.proofs.Put.{named_bare}
use Rattle.json_nodes.specs.Puts.{new_or, put_members}

named_choice : (s : Span) (cs ds : List ℕ) (j u : Json) (ms rest : Members) (o p : Option Json) → p ≡ option_map bare o → bare_members rest ≡ put_named cs (bare u) (bare_members ms)
    → bare_members (if is_some o then member s ds j rest else member s ds (if bytes_eq cs ds then u else j) ms)
    ≡ (if is_some p then member nowhere ds (bare j) (put_named cs (bare u) (bare_members ms)) else member nowhere ds (if bytes_eq cs ds then bare u else bare j) (bare_members ms))
named_choice s cs ds j u ms rest (Some k) p e h = ap (λ z. member nowhere ds (bare j) z) h
    ∙ sym (ap (λ q. if is_some q then member nowhere ds (bare j) (put_named cs (bare u) (bare_members ms)) else member nowhere ds (if bytes_eq cs ds then bare u else bare j) (bare_members ms)) e)
named_choice s cs ds j u ms rest None p e h = go (bytes_eq cs ds)
    ∙ sym (ap (λ q. if is_some q then member nowhere ds (bare j) (put_named cs (bare u) (bare_members ms)) else member nowhere ds (if bytes_eq cs ds then bare u else bare j) (bare_members ms)) e)
  where
    go : (b : Bool) → member nowhere ds (bare (if b then u else j)) (bare_members ms) ≡ member nowhere ds (if b then bare u else bare j) (bare_members ms)
    go true = refl
    go false = refl

named_put_bare : (cs : List ℕ) (u : Json) (ms : Members) → bare_members (put_named cs u ms) ≡ put_named cs (bare u) (bare_members ms)
unfolding put_named
named_put_bare cs u no_members = refl
named_put_bare cs u (member s ds j ms) = named_choice s cs ds j u ms (put_named cs u ms) (named cs ms) (named cs (bare_members ms)) (named_bare cs ms) (named_put_bare cs u ms)

item_bare : (n : ℕ) (js : Items) → item_at n (bare_items js) ≡ option_map bare (item_at n js)
unfolding item_at
item_bare n no_items = refl
item_bare zero (item j js) = refl
item_bare (suc n) (item j js) = item_bare n js

item_put_bare : (n : ℕ) (u : Json) (js : Items) → bare_items (put_item n u js) ≡ put_item n (bare u) (bare_items js)
unfolding put_item
item_put_bare n u no_items = refl
item_put_bare zero u (item j js) = refl
item_put_bare (suc n) u (item j js) = ap (λ z. item (bare j) z) (item_put_bare n u js)

step_bare : (s : Step) (j : Json) → step_to s (bare j) ≡ option_map bare (step_to s j)
step_bare (key cs) (object s ms) = named_bare cs ms
step_bare (key cs) (array s js) = refl
step_bare (key cs) (word s w) = refl
step_bare (key cs) (number s ds) = refl
step_bare (key cs) (string s ds) = refl
step_bare (index n) (array s js) = item_bare n js
step_bare (index n) (object s ms) = refl
step_bare (index n) (word s w) = refl
step_bare (index n) (number s ds) = refl
step_bare (index n) (string s ds) = refl

step_put_bare : (s : Step) (u j : Json) → bare (put_step s u j) ≡ put_step s (bare u) (bare j)
step_put_bare (key cs) u (object s ms) = ap (λ z. object nowhere z) (named_put_bare cs u ms)
step_put_bare (key cs) u (array s js) = refl
step_put_bare (key cs) u (word s w) = refl
step_put_bare (key cs) u (number s ds) = refl
step_put_bare (key cs) u (string s ds) = refl
step_put_bare (index n) u (array s js) = ap (λ z. array nowhere z) (item_put_bare n u js)
step_put_bare (index n) u (object s ms) = refl
step_put_bare (index n) u (word s w) = refl
step_put_bare (index n) u (number s ds) = refl
step_put_bare (index n) u (string s ds) = refl

-- a value at the end of a path
pub path_put_bare : (path : List Step) (u j : Json) → bare (put_at path u j) ≡ put_at path (bare u) (bare j)
unfolding put_at
path_put_bare [] u j = refl
path_put_bare (s ∷ path) u j = go (step_to s j) (λ k. path_put_bare path u k) ∙ sym (ap (λ o. elim o [ None ↦ bare j | Some k ↦ put_step s (put_at path (bare u) k) (bare j) ]) (step_bare s j))
  where
    go : (o : Option Json) → ((k : Json) → bare (put_at path u k) ≡ put_at path (bare u) (bare k))
        → bare (elim o [ None ↦ j | Some k ↦ put_step s (put_at path u k) j ]) ≡ elim (option_map bare o) [ None ↦ bare j | Some k ↦ put_step s (put_at path (bare u) k) (bare j) ]
    go None f = refl
    go (Some k) f = step_put_bare s (put_at path u k) j ∙ ap (λ z. put_step s z (bare j)) (f k)

-- values of members, where the new ones have no places
pub members_put_bare : (new : List ℕ → Option Json) (ms : Members) → ((cs : List ℕ) → option_map bare (new cs) ≡ new cs) → bare_members (put_members new ms) ≡ put_members new (bare_members ms)
members_put_bare new no_members h = refl
members_put_bare new (member s cs j ms) h = ap₂ (λ k ks. member nowhere cs k ks) (go (new cs) (h cs)) (members_put_bare new ms h)
  where
    go : (o : Option Json) → option_map bare o ≡ o → bare (new_or o j) ≡ new_or o (bare j)
    go None e = refl
    go (Some u) e = let same : bare u ≡ u = cc in same

flat_new : (o : Option Json) (j : Json) (m n : ℕ) → MatchOption o (Unit {0}) (λ u. depth u ≡ 0) → m ≤ n → max (depth (new_or o j)) m ≤ max (depth j) n
flat_new None j m n h g = omega arith
flat_new (Some u) j m n h g = omega (arith, h)

-- values that hold no others deepen nothing
pub flat_members : (new : List ℕ → Option Json) (ms : Members) → ((cs : List ℕ) → MatchOption (new cs) (Unit {0}) (λ u. depth u ≡ 0)) → members_depth (put_members new ms) ≤ members_depth ms
flat_members new no_members h = omega arith
flat_members new (member s cs j ms) h = flat_new (new cs) j (members_depth (put_members new ms)) (members_depth ms) (h cs) (flat_members new ms h)

pub flat_put : (path : List Step) (p : Json) (s : Span) (ms : Members) (new : List ℕ → Option Json) → value_at path p ≡ Some (object s ms) → ((cs : List ℕ) → MatchOption (new cs) (Unit {0}) (λ u. depth u ≡ 0))
    → depth (put_at path (object nowhere (put_members new ms)) p) ≤ depth p
flat_put path p s ms new e h = put_shallow path p (object s ms) (object nowhere (put_members new ms)) e (omega (arith, flat_members new ms h))
