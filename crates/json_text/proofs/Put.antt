-- What a tree says in which one value gave way to another: its names, its depth, its meaning.
use Rattle.std.proofs.Common.{◌≡◌, ℕ, ◌+◌, max, Bool, true, false, List, bytes_eq, is_some, if◌then◌else◌, Option, Some, None, option_map, refl, sym, ◌∙◌, ap, ap₂}
use Rattle.std.proofs.lemmas.Slice.Eq.{bytes_eq-Decides}
use Rattle.json_text.specs.declared.span.Span.{Span}
use Rattle.json_text.specs.Json.{Json, word, number, string, array, object, Items, no_items, item, Members, no_members, member, depth, items_depth, members_depth}
use Rattle.json_text.specs.Bare.{bare, bare_items, bare_members, nowhere}
use Rattle.json_text.specs.Named.{named, or_else, if_named}
use Rattle.json_text.specs.Paths.{put_named}

-- a name equals itself, and a name that equals two others makes them equal
pub same_name : (cs : List ℕ) → bytes_eq cs cs ≡ true
same_name cs = (bytes_eq-Decides cs cs).1 refl

two_names : (cs ds es : List ℕ) → bytes_eq cs es ≡ true → bytes_eq ds es ≡ true → bytes_eq cs ds ≡ true
two_names cs ds es e f = (bytes_eq-Decides cs ds).1 ((bytes_eq-Decides cs es).0 e ∙ sym ((bytes_eq-Decides ds es).0 f))

same_case : (s : Span) (cs ds : List ℕ) (j u : Json) (ms rest : Members) (t : Json) (o : Option Json) → named cs ms ≡ o → (o ≡ Some t → named cs rest ≡ Some u) → or_else o (if_named (bytes_eq cs ds) j) ≡ Some t
    → named cs (if is_some o then member s ds j rest else member s ds (if bytes_eq cs ds then u else j) ms) ≡ Some u
unfolding named
same_case s cs ds j u ms rest t (Some k) d f e = ap (λ o. or_else o (if_named (bytes_eq cs ds) j)) (f e)
same_case s cs ds j u ms rest t None d f e = ap (λ o. or_else o (if_named (bytes_eq cs ds) (if bytes_eq cs ds then u else j))) d ∙ go (bytes_eq cs ds) e
  where
    go : (b : Bool) → if_named b j ≡ Some t → if_named b (if b then u else j) ≡ Some u
    go true h = refl
    go false h = absurd (cc)

-- the member now has the other value
pub named_put : (cs : List ℕ) (ms : Members) (t u : Json) → named cs ms ≡ Some t → named cs (put_named cs u ms) ≡ Some u
unfolding named put_named
named_put cs no_members t u e = absurd (cc)
named_put cs (member s ds j ms) t u e = same_case s cs ds j u ms (put_named cs u ms) t (named cs ms) refl (λ h. named_put cs ms t u h) e

other_case : (s : Span) (cs ds es : List ℕ) (j u : Json) (ms rest : Members) (o : Option Json) → bytes_eq cs es ≡ false → named es rest ≡ named es ms
    → named es (if is_some o then member s ds j rest else member s ds (if bytes_eq cs ds then u else j) ms) ≡ or_else (named es ms) (if_named (bytes_eq es ds) j)
unfolding named
other_case s cs ds es j u ms rest (Some k) d e = ap (λ o. or_else o (if_named (bytes_eq es ds) j)) e
other_case s cs ds es j u ms rest None d e = ap (λ z. or_else (named es ms) z) (go (bytes_eq cs ds) (bytes_eq es ds) (λ f g. cc (two_names cs es ds f g)))
  where
    go : (a b : Bool) → (a ≡ true → b ≡ true → true ≡ false) → if_named b (if a then u else j) ≡ if_named b j
    go true true h = absurd (let bad : true ≡ false = h refl refl in cc)
    go true false h = refl
    go false b h = refl

-- the others have what they had
pub named_put_other : (cs es : List ℕ) (ms : Members) (u : Json) → bytes_eq cs es ≡ false → named es (put_named cs u ms) ≡ named es ms
unfolding named put_named
named_put_other cs es no_members u d = refl
named_put_other cs es (member s ds j ms) u d = other_case s cs ds es j u ms (put_named cs u ms) (named cs ms) d (named_put_other cs es ms u d)

some_case : (s : Span) (cs ds es : List ℕ) (j u : Json) (ms rest : Members) (o : Option Json) → is_some (named es rest) ≡ is_some (named es ms)
    → is_some (named es (if is_some o then member s ds j rest else member s ds (if bytes_eq cs ds then u else j) ms)) ≡ is_some (or_else (named es ms) (if_named (bytes_eq es ds) j))
unfolding named
some_case s cs ds es j u ms rest (Some k) e = go (named es rest) (named es ms) (if_named (bytes_eq es ds) j) e
  where
    go : (a b c : Option Json) → is_some a ≡ is_some b → is_some (or_else a c) ≡ is_some (or_else b c)
    go (Some x) (Some y) c h = refl
    go None None c h = refl
    go (Some x) None c h = absurd (cc)
    go None (Some y) c h = absurd (cc)
some_case s cs ds es j u ms rest None e = go (named es ms) (bytes_eq es ds) (if bytes_eq cs ds then u else j)
  where
    go : (a : Option Json) (b : Bool) (k : Json) → is_some (or_else a (if_named b k)) ≡ is_some (or_else a (if_named b j))
    go (Some x) b k = refl
    go None true k = refl
    go None false k = refl

-- the same names are there
pub some_put : (cs es : List ℕ) (ms : Members) (u : Json) → is_some (named es (put_named cs u ms)) ≡ is_some (named es ms)
unfolding named put_named
some_put cs es no_members u = refl
some_put cs es (member s ds j ms) u = some_case s cs ds es j u ms (put_named cs u ms) (named cs ms) (some_put cs es ms u)

-- names have the values that they have, without places
pub named_bare : (cs : List ℕ) (ms : Members) → named cs (bare_members ms) ≡ option_map bare (named cs ms)
unfolding named
named_bare cs no_members = refl
named_bare cs (member s ds j ms) = ap (λ o. or_else o (if_named (bytes_eq cs ds) (bare j))) (named_bare cs ms) ∙ go (named cs ms) (bytes_eq cs ds)
  where
    go : (o : Option Json) (b : Bool) → or_else (option_map bare o) (if_named b (bare j)) ≡ option_map bare (or_else o (if_named b j))
    go (Some x) b = refl
    go None true = refl
    go None false = refl

mutual
  -- a bare tree is bare
  pub bare_bare : (j : Json) → bare (bare j) ≡ bare j
  bare_bare (word s w) = refl
  bare_bare (number s ds) = refl
  bare_bare (string s cs) = refl
  bare_bare (array s js) = ap (λ z. array nowhere z) (items_bare js)
  bare_bare (object s ms) = ap (λ z. object nowhere z) (members_bare ms)

  pub items_bare : (js : Items) → bare_items (bare_items js) ≡ bare_items js
  items_bare no_items = refl
  items_bare (item j js) = ap₂ item (bare_bare j) (items_bare js)

  pub members_bare : (ms : Members) → bare_members (bare_members ms) ≡ bare_members ms
  members_bare no_members = refl
  members_bare (member s cs j ms) = ap₂ (λ k ks. member nowhere cs k ks) (bare_bare j) (members_bare ms)

mutual
  -- and as deep
  pub depth_bare : (j : Json) → depth (bare j) ≡ depth j
  depth_bare (word s w) = refl
  depth_bare (number s ds) = refl
  depth_bare (string s cs) = refl
  depth_bare (array s js) = ap (λ n. 1 + n) (items_depth_bare js)
  depth_bare (object s ms) = ap (λ n. 1 + n) (members_depth_bare ms)

  pub items_depth_bare : (js : Items) → items_depth (bare_items js) ≡ items_depth js
  items_depth_bare no_items = refl
  items_depth_bare (item j js) = ap₂ max (depth_bare j) (items_depth_bare js)

  pub members_depth_bare : (ms : Members) → members_depth (bare_members ms) ≡ members_depth ms
  members_depth_bare no_members = refl
  members_depth_bare (member s cs j ms) = ap₂ max (depth_bare j) (members_depth_bare ms)
