-- What holds of every value, if it holds of an array by its items and of an object by the last members of its names.
use Rattle.std.proofs.Common.{◌≡◌, ℕ, zero, suc, Bool, true, false, List, refl, sym, ◌∙◌, subst}
use Rattle.std.specs.Prelude.{Option, Some, None, bytes_eq}
use Rattle.std.specs.List.{slice_get}
use Rattle.json_text.specs.declared.kind.Word.{Word}
use Rattle.json_text.specs.declared.span.Span.{Span}
use Rattle.json_text.specs.Json.{Json, word, number, string, array, object, Items, no_items, item, Members, no_members, member}
use Rattle.json_text.specs.Named.{items_list, named, if_named, or_else}
use Rattle.json_nodes.proofs.Spelling.{named_member, named_none}

abbrev pub ItemsHave : (Json → Type 0) → Items → Type 0
ItemsHave P js = (n : ℕ) (j : Json) → slice_get (items_list js) n ≡ Some j → P j

abbrev pub MembersHave : (Json → Type 0) → Members → Type 0
MembersHave P ms = (cs : List ℕ) (j : Json) → named cs ms ≡ Some j → P j

pub record Steps (P : Json → Type 0) : Type 0 where
  pub words : (s : Span) (w : Word) → P (word s w)
  pub numbers : (s : Span) (ds : List ℕ) → P (number s ds)
  pub strings : (s : Span) (cs : List ℕ) → P (string s cs)
  pub arrays : (s : Span) (js : Items) → ItemsHave P js → P (array s js)
  pub objects : (s : Span) (ms : Members) → MembersHave P ms → P (object s ms)

no_items_have : (P : Json → Type 0) → ItemsHave P no_items
no_items_have P n j h = absurd (cc)

item_has : (P : Json → Type 0) (k : Json) (js : Items) → P k → ItemsHave P js → ItemsHave P (item k js)
item_has P k js p q zero j h = let same : k ≡ j = cc in subst P same p
item_has P k js p q (suc n) j h = q n j h

no_members_have : (P : Json → Type 0) → MembersHave P no_members
no_members_have P cs j h = let e : None ≡ Some j = sym (named_none cs) ∙ h in absurd (cc)

last_has : (P : Json → Type 0) (k j : Json) (o : Option Json) (b : Bool) → P k → ((i : Json) → o ≡ Some i → P i) → or_else o (if_named b k) ≡ Some j → P j
last_has P k j (Some i) b p q h = let same : i ≡ j = cc in subst P same (q i refl)
last_has P k j None true p q h = let same : k ≡ j = cc in subst P same p
last_has P k j None false p q h = absurd (cc)

member_has : (P : Json → Type 0) (s : Span) (ds : List ℕ) (k : Json) (ms : Members) → P k → MembersHave P ms → MembersHave P (member s ds k ms)
member_has P s ds k ms p q cs j h = last_has P k j (named cs ms) (bytes_eq cs ds) p (λ i e. q cs i e) (sym (named_member cs ds s k ms) ∙ h)

mutual
  pub every : (P : Json → Type 0) → Steps P → (j : Json) → P j
  every P f (word s w) = f.words s w
  every P f (number s ds) = f.numbers s ds
  every P f (string s cs) = f.strings s cs
  every P f (array s js) = f.arrays s js (every_item P f js)
  every P f (object s ms) = f.objects s ms (every_member P f ms)

  every_item : (P : Json → Type 0) → Steps P → (js : Items) → ItemsHave P js
  every_item P f no_items = no_items_have P
  every_item P f (item j js) = item_has P j js (every P f j) (every_item P f js)

  every_member : (P : Json → Type 0) → Steps P → (ms : Members) → MembersHave P ms
  every_member P f no_members = no_members_have P
  every_member P f (member s cs j ms) = member_has P s cs j ms (every P f j) (every_member P f ms)
