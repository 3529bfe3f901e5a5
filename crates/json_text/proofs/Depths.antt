-- How deep a tree nests in which one value gave way to another, and what it says without places.
use Rattle.std.proofs.Common.{◌≡◌, ℕ, zero, suc, ◌+◌, ◌≤◌, max, Bool, true, false, List, [], ◌∷◌, length, bytes_eq, is_some, if◌then◌else◌, Option, Some, None, option_map, refl, sym, ◌∙◌, ap, arith}
use Rattle.std.specs.Option.{option_and_then}
use Rattle.json_text.specs.declared.span.Span.{Span}
use Rattle.json_text.specs.Json.{Json, word, number, string, array, object, Items, no_items, item, Members, no_members, member, depth, items_depth, members_depth}
use Rattle.json_text.specs.Bare.{bare, bare_items, bare_members, nowhere}
use Rattle.json_text.specs.Named.{named, or_else, if_named}
use Rattle.json_text.specs.Paths.{Step, key, index, item_at, step_to, value_at, put_named, put_item, put_step, put_at}
use Rattle.json_text.proofs.Put.{named_bare, named_put}

item_deep : (n : ℕ) (js : Items) (u : Json) → items_depth (put_item n u js) ≤ max (items_depth js) (depth u)
unfolding put_item
item_deep n no_items u = omega arith
item_deep zero (item j js) u = omega arith
item_deep (suc n) (item j js) u = omega (arith, item_deep n js u)

choice_deep : (s : Span) (ds : List ℕ) (j u : Json) (ms rest : Members) (a b : Bool) → members_depth rest ≤ max (members_depth ms) (depth u)
    → members_depth (if a then member s ds j rest else member s ds (if b then u else j) ms) ≤ max (max (depth j) (members_depth ms)) (depth u)
choice_deep s ds j u ms rest true b h = omega arith
choice_deep s ds j u ms rest false true h = omega arith
choice_deep s ds j u ms rest false false h = omega arith

-- no deeper than the members and the new value
pub members_deep : (cs : List ℕ) (ms : Members) (u : Json) → members_depth (put_named cs u ms) ≤ max (members_depth ms) (depth u)
unfolding put_named
members_deep cs no_members u = omega arith
members_deep cs (member s ds j ms) u = choice_deep s ds j u ms (put_named cs u ms) (is_some (named cs ms)) (bytes_eq cs ds) (members_deep cs ms u)

step_deep : (s : Step) (j u : Json) → depth (put_step s u j) ≤ max (depth j) (1 + depth u)
step_deep (key cs) (object s ms) u = omega (arith, members_deep cs ms u)
step_deep (key cs) (array s js) u = omega arith
step_deep (key cs) (word s w) u = omega arith
step_deep (key cs) (number s ds) u = omega arith
step_deep (key cs) (string s ds) u = omega arith
step_deep (index n) (array s js) u = omega (arith, item_deep n js u)
step_deep (index n) (object s ms) u = omega arith
step_deep (index n) (word s w) u = omega arith
step_deep (index n) (number s ds) u = omega arith
step_deep (index n) (string s ds) u = omega arith

item_below : (n : ℕ) (js : Items) (t : Json) → item_at n js ≡ Some t → depth t ≤ items_depth js
unfolding item_at
item_below n no_items t e = absurd (cc)
item_below zero (item j js) t e = let same : depth t ≡ depth j = ap depth (let s : t ≡ j = cc in s) in omega arith
item_below (suc n) (item j js) t e = omega (arith, item_below n js t e)

choice_below : (j t : Json) (ms : Members) (o : Option Json) (b : Bool) → (o ≡ Some t → depth t ≤ members_depth ms) → or_else o (if_named b j) ≡ Some t → depth t ≤ max (depth j) (members_depth ms)
choice_below j t ms (Some k) b f e = let h : depth t ≤ members_depth ms = f e in omega arith
choice_below j t ms None true f e = let same : depth t ≡ depth j = ap depth (let s : t ≡ j = cc in s) in omega arith
choice_below j t ms None false f e = absurd (cc)

-- a member is no deeper than the members
pub named_below : (cs : List ℕ) (ms : Members) (t : Json) → named cs ms ≡ Some t → depth t ≤ members_depth ms
unfolding named
named_below cs no_members t e = absurd (cc)
named_below cs (member s ds j ms) t e = choice_below j t ms (named cs ms) (bytes_eq cs ds) (λ h. named_below cs ms t h) e

-- a step leads one level down
pub step_below : (s : Step) (j t : Json) → step_to s j ≡ Some t → 1 + depth t ≤ depth j
step_below (key cs) (object s ms) t e = omega (arith, named_below cs ms t e)
step_below (key cs) (array s js) t e = absurd (cc)
step_below (key cs) (word s w) t e = absurd (cc)
step_below (key cs) (number s ds) t e = absurd (cc)
step_below (key cs) (string s ds) t e = absurd (cc)
step_below (index n) (array s js) t e = omega (arith, item_below n js t e)
step_below (index n) (object s ms) t e = absurd (cc)
step_below (index n) (word s w) t e = absurd (cc)
step_below (index n) (number s ds) t e = absurd (cc)
step_below (index n) (string s ds) t e = absurd (cc)

deep_join : (s : Step) (j k v : Json) (n : ℕ) → step_to s j ≡ Some k → depth v ≤ max (depth k) n → depth (put_step s v j) ≤ max (depth j) (suc n)
deep_join s j k v n e h = omega (arith, step_below s j k e, step_deep s j v)

-- the new value is as many levels down as the path has steps
pub put_deep : (path : List Step) (j u : Json) → depth (put_at path u j) ≤ max (depth j) (length path + depth u)
unfolding put_at
put_deep [] j u = omega arith
put_deep (s ∷ path) j u = go (step_to s j) refl (λ k. put_deep path k u)
  where
    go : (o : Option Json) → step_to s j ≡ o → ((k : Json) → depth (put_at path u k) ≤ max (depth k) (length path + depth u))
        → depth (elim o [ None ↦ j | Some k ↦ put_step s (put_at path u k) j ]) ≤ max (depth j) (suc (length path) + depth u)
    go None d f = omega arith
    go (Some k) d f = omega (arith, deep_join s j k (put_at path u k) (length path + depth u) d (f k))

-- a value that is no deeper than the one before makes nothing deeper
pub put_shallow : (path : List Step) (j t u : Json) → value_at path j ≡ Some t → depth u ≤ depth t → depth (put_at path u j) ≤ depth j
unfolding put_at value_at
put_shallow [] j t u e h = let same : depth t ≡ depth j = ap depth (let s : t ≡ j = cc in s) in omega arith
put_shallow (s ∷ path) j t u e h = go (step_to s j) refl (λ k d. put_shallow path k t u d h) e
  where
    go : (o : Option Json) → step_to s j ≡ o → ((k : Json) → value_at path k ≡ Some t → depth (put_at path u k) ≤ depth k) → option_and_then (λ k. value_at path k) o ≡ Some t
        → depth (elim o [ None ↦ j | Some k ↦ put_step s (put_at path u k) j ]) ≤ depth j
    go None d f e = absurd (cc)
    go (Some k) d f e = omega (arith, step_below s j k d, step_deep s j (put_at path u k), f k e)

item_put : (n : ℕ) (js : Items) (t u : Json) → item_at n js ≡ Some t → item_at n (put_item n u js) ≡ Some u
unfolding item_at put_item
item_put n no_items t u e = absurd (cc)
item_put zero (item j js) t u e = refl
item_put (suc n) (item j js) t u e = item_put n js t u e

step_put : (s : Step) (j t u : Json) → step_to s j ≡ Some t → step_to s (put_step s u j) ≡ Some u
step_put (key cs) (object s ms) t u e = named_put cs ms t u e
step_put (key cs) (array s js) t u e = absurd (cc)
step_put (key cs) (word s w) t u e = absurd (cc)
step_put (key cs) (number s ds) t u e = absurd (cc)
step_put (key cs) (string s ds) t u e = absurd (cc)
step_put (index n) (array s js) t u e = item_put n js t u e
step_put (index n) (object s ms) t u e = absurd (cc)
step_put (index n) (word s w) t u e = absurd (cc)
step_put (index n) (number s ds) t u e = absurd (cc)
step_put (index n) (string s ds) t u e = absurd (cc)

-- at the end of the path is the new value
pub value_put : (path : List Step) (j t u : Json) → value_at path j ≡ Some t → value_at path (put_at path u j) ≡ Some u
unfolding put_at value_at
value_put [] j t u e = refl
value_put (s ∷ path) j t u e = go (step_to s j) refl (λ k d. value_put path k t u d) e
  where
    go : (o : Option Json) → step_to s j ≡ o → ((k : Json) → value_at path k ≡ Some t → value_at path (put_at path u k) ≡ Some u) → option_and_then (λ k. value_at path k) o ≡ Some t
        → option_and_then (λ k. value_at path k) (step_to s (elim o [ None ↦ j | Some k ↦ put_step s (put_at path u k) j ])) ≡ Some u
    go None d f e = absurd (cc)
    go (Some k) d f e = ap (λ o. option_and_then (λ k. value_at path k) o) (step_put s j k (put_at path u k) d) ∙ f k e

bare_choice : (s : Span) (ds : List ℕ) (j u : Json) (ms rest other : Members) (a c b : Bool) → a ≡ c → bare_members rest ≡ other
    → bare_members (if a then member s ds j rest else member s ds (if b then u else j) ms)
    ≡ (if c then member nowhere ds (bare j) other else member nowhere ds (if b then bare u else bare j) (bare_members ms))
bare_choice s ds j u ms rest other true true b d e = ap (λ z. member nowhere ds (bare j) z) e
bare_choice s ds j u ms rest other true false b d e = absurd (cc)
bare_choice s ds j u ms rest other false true b d e = absurd (cc)
bare_choice s ds j u ms rest other false false true d e = refl
bare_choice s ds j u ms rest other false false false d e = refl

is_some_map : (o : Option Json) → is_some o ≡ is_some (option_map bare o)
is_some_map (Some j) = refl
is_some_map None = refl

-- a new value is put in without places as with them
pub bare_put_named : (cs : List ℕ) (ms : Members) (u : Json) → bare_members (put_named cs u ms) ≡ put_named cs (bare u) (bare_members ms)
unfolding put_named
bare_put_named cs no_members u = refl
bare_put_named cs (member s ds j ms) u = bare_choice s ds j u ms (put_named cs u ms) (put_named cs (bare u) (bare_members ms)) (is_some (named cs ms)) (is_some (named cs (bare_members ms))) (bytes_eq cs ds)
    (is_some_map (named cs ms) ∙ ap is_some (sym (named_bare cs ms))) (bare_put_named cs ms u)

bare_put_item : (n : ℕ) (js : Items) (u : Json) → bare_items (put_item n u js) ≡ put_item n (bare u) (bare_items js)
unfolding put_item
bare_put_item n no_items u = refl
bare_put_item zero (item j js) u = refl
bare_put_item (suc n) (item j js) u = ap (λ z. item (bare j) z) (bare_put_item n js u)

bare_step : (s : Step) (j u : Json) → bare (put_step s u j) ≡ put_step s (bare u) (bare j)
bare_step (key cs) (object s ms) u = ap (λ z. object nowhere z) (bare_put_named cs ms u)
bare_step (key cs) (array s js) u = refl
bare_step (key cs) (word s w) u = refl
bare_step (key cs) (number s ds) u = refl
bare_step (key cs) (string s ds) u = refl
bare_step (index n) (array s js) u = ap (λ z. array nowhere z) (bare_put_item n js u)
bare_step (index n) (object s ms) u = refl
bare_step (index n) (word s w) u = refl
bare_step (index n) (number s ds) u = refl
bare_step (index n) (string s ds) u = refl

item_bare : (n : ℕ) (js : Items) → item_at n (bare_items js) ≡ option_map bare (item_at n js)
unfolding item_at
item_bare n no_items = refl
item_bare zero (item j js) = refl
item_bare (suc n) (item j js) = item_bare n js

step_bare : (s : Step) (j : Json) → step_to s (bare j) ≡ option_map bare (step_to s j)
step_bare (key cs) (object s ms) = named_bare cs ms
step_bare (key cs) (array s js) = refl
step_bare (key cs) (word s w) = refl
step_bare (key cs) (number s ds) = refl
step_bare (key cs) (string s ds) = refl
step_bare (index n) (array s js) = item_bare n js
step_bare (index n) (object s ms) = refl
step_bare (index n) (word s w) = refl
step_bare (index n) (number s ds) = refl
step_bare (index n) (string s ds) = refl

-- at the end of a path is what stands there, without places
pub value_bare : (path : List Step) (j : Json) → value_at path (bare j) ≡ option_map bare (value_at path j)
unfolding value_at
value_bare [] j = refl
value_bare (s ∷ path) j = ap (λ o. option_and_then (λ k. value_at path k) o) (step_bare s j) ∙ go (step_to s j) (λ k. value_bare path k)
  where
    go : (o : Option Json) → ((k : Json) → value_at path (bare k) ≡ option_map bare (value_at path k))
        → option_and_then (λ k. value_at path k) (option_map bare o) ≡ option_map bare (option_and_then (λ k. value_at path k) o)
    go None f = refl
    go (Some k) f = f k

pub bare_put : (path : List Step) (j u : Json) → bare (put_at path u j) ≡ put_at path (bare u) (bare j)
unfolding put_at
bare_put [] j u = refl
bare_put (s ∷ path) j u = go (step_to s j) (λ k. bare_put path k u)
    ∙ ap (λ o. elim o [ None ↦ bare j | Some k ↦ put_step s (put_at path (bare u) k) (bare j) ]) (sym (step_bare s j))
  where
    go : (o : Option Json) → ((k : Json) → bare (put_at path u k) ≡ put_at path (bare u) (bare k))
        → bare (elim o [ None ↦ j | Some k ↦ put_step s (put_at path u k) j ]) ≡ elim (option_map bare o) [ None ↦ bare j | Some k ↦ put_step s (put_at path (bare u) k) (bare j) ]
    go None f = refl
    go (Some k) f = bare_step s j (put_at path u k) ∙ ap (λ v. put_step s v (bare j)) (f k)
