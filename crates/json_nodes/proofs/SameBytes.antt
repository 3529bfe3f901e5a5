-- Trees that differ in their places alone say the same, as do those of values that are the same bytes.
use Rattle.std.proofs.Common.{◌≡◌, ℕ, suc, ◌≤◌, Bool, true, List, refl, sym, ◌∙◌, ap, subst, arith}
use Rattle.std.specs.Prelude.{Option, Some, None, bytes_eq}
use Rattle.std.specs.Option.{option_map}
use Rattle.std.proofs.lemmas.Slice.Eq.{bytes_eq-Decides}
use Rattle.json_text.specs.Bare.{bare, bare_items}
use Rattle.json_text.specs.Json.{Json, Items, no_items, item, value, depth}
use Rattle.json_text.specs.Named.{named}
use Rattle.json_text.proofs.Compact.{bare_text}
use Rattle.json_text.proofs.Forms.{says_of}
use Rattle.json_text.proofs.Laws.{one_tree}
use Rattle.json_text.proofs.Moves.{PlacedText, placed_text}
use Rattle.json_text.proofs.Put.{named_bare}
use Rattle.json_nodes.specs.Same.{same}
use Rattle.json_nodes.specs.SameTree.{Same, SameItems, SameNamed, words, numbers, strings, arrays, objects, no_more, one_more, neither, both}
use Rattle.json_nodes.proofs.Induction.{ItemsHave, Steps, every}
use Rattle.json_nodes.proofs.SameLaw.{same_law}
use Rattle.json_nodes.proofs.SameLaws.{same_through}
use Rattle.json_nodes.proofs.SameTurned.{same_turned}

-- a tree says what it says without its places

abbrev Bared : Json → Type 0
Bared j = Same j (bare j)

items_bared : (js : Items) → ItemsHave Bared js → SameItems js (bare_items js)
items_bared no_items h = no_more
items_bared (item j js) h = one_more (h 0 j refl) (items_bared js (λ n k e. h (suc n) k e))

named_bared : (o : Option Json) → ((j : Json) → o ≡ Some j → Bared j) → SameNamed o (option_map bare o)
named_bared None h = neither
named_bared (Some j) h = both (h j refl)

bared_steps : Steps Bared
bared_steps = record {
  words = λ s w. words;
  numbers = λ s ds. numbers;
  strings = λ s cs. strings;
  arrays = λ s js h. arrays (items_bared js h);
  objects = λ s ms h. objects (λ cs. subst (λ o. SameNamed (named cs ms) o) (sym (named_bare cs ms)) (named_bared (named cs ms) (λ j e. h cs j e)));
}

bare_same : (j : Json) → same j (bare j) ≡ true
bare_same j = (same_law j (bare j)).1 (every Bared bared_steps j)

pub same_bares : (j k : Json) → bare j ≡ bare k → same j k ≡ true
same_bares j k e = same_through j (bare j) k (bare_same j) (subst (λ (z : Json). same z k ≡ true) (sym e) (same_turned k (bare k) (bare_same k)))

-- values that are the same bytes

one_meaning : (xs : List ℕ) (i k : ℕ) (t u : Json) → value t i xs → value u k xs → depth t ≤ 1024 → depth u ≤ 1024 → bare t ≡ bare u
one_meaning xs i k t u h g d e =
    let p : PlacedText t xs = placed_text t xs (bare_text t xs (says_of t i xs h)) in
    let q : PlacedText u xs = placed_text u xs (bare_text u xs (says_of u k xs g)) in
    sym p.same ∙ ap bare (one_tree xs p.tree q.tree p.text (omega (arith, p.deep, d)) q.text (omega (arith, q.deep, e))) ∙ q.same

pub bytes_meaning : (xs ys : List ℕ) (i k : ℕ) (t u : Json) → value t i xs → value u k ys → depth t ≤ 1024 → depth u ≤ 1024 → bytes_eq xs ys ≡ true → bare t ≡ bare u
bytes_meaning xs ys i k t u h g d e f = one_meaning xs i k t u h (subst (λ (zs : List ℕ). value u k zs) (sym ((bytes_eq-Decides xs ys).0 f)) g) d e

pub bares_same : (t u : Json) (b : Bool) → bare t ≡ bare u → b ≡ true → b ≡ same t u
bares_same t u b e h = h ∙ sym (same_bares t u e)
