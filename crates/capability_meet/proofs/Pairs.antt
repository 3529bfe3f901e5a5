-- The order by the kinds of two values.
use Rattle.std.proofs.Common.{◌≡◌, ℕ, Bool, true, false, ◌⊎◌, inl, inr, List, refl, sym, ◌∙◌, ap, subst}
use Rattle.json_text.specs.declared.kind.Kind.{Kind}
use Rattle.json_text.specs.declared.kind.Kind.TheVariants as kind
use Rattle.json_text.specs.declared.kind.Word.TheVariants as word_of
use Rattle.json_text.specs.declared.span.Span.{Span}
use Rattle.json_text.specs.Json.{Json, word, number, string, array, object, Items, Members}
use Rattle.json_nodes.specs.Nodes.{kind_of}
use Rattle.json_nodes.specs.Same.{same}
use Rattle.capability_meet.specs.Kinds.{pair_of}
use Rattle.capability_meet.specs.declared.spot.Spot.{Spot}
use Rattle.capability_meet.specs.Meet.{meets}
use Rattle.capability_meet.specs.Compact.{compact}
use Rattle.capability_meet.specs.OnePass.{text_at}
use Rattle.capability_meet.specs.Order.{below, is_least, items_below, members_below}
use Rattle.capability_meet.specs.declared.kinds.Pair.{Pair}
use Rattle.capability_meet.specs.declared.kinds.Pair.TheVariants as pair

pub least_null : (x : Kind) (t : Json) → x ≡ kind_of t → (x ≡ kind.Null) ⊎ (x ≡ kind.False) → true ≡ is_least t
least_null x (word s word_of.Null) e h = refl
least_null x (word s word_of.False) e h = refl
least_null x (word s word_of.True) e (inl h) = cc
least_null x (word s word_of.True) e (inr h) = cc
least_null x (number s ds) e (inl h) = cc
least_null x (number s ds) e (inr h) = cc
least_null x (string s ds) e (inl h) = cc
least_null x (string s ds) e (inr h) = cc
least_null x (array s ds) e (inl h) = cc
least_null x (array s ds) e (inr h) = cc
least_null x (object s ds) e (inl h) = cc
least_null x (object s ds) e (inr h) = cc

pub least_other : (x : Kind) (t : Json) → x ≡ kind_of t → ¬ (x ≡ kind.Null) → ¬ (x ≡ kind.False) → false ≡ is_least t
least_other x (word s word_of.Null) e n f = absurd (n e)
least_other x (word s word_of.False) e n f = absurd (f e)
least_other x (word s word_of.True) e n f = refl
least_other x (number s ds) e n f = refl
least_other x (string s ds) e n f = refl
least_other x (array s ds) e n f = refl
least_other x (object s ds) e n f = refl

least_pair : (t u : Json) → pair_of (kind_of t) (kind_of u) ≡ pair.Least → true ≡ below t u
least_pair (word s word_of.Null) u h = refl
least_pair (word s word_of.False) u h = refl
least_pair (word s word_of.True) u h = cc
least_pair (number s ds) u h = cc
least_pair (string s ds) u h = cc
least_pair (array s js) (word r word_of.Null) h = cc
least_pair (array s js) (word r word_of.False) h = cc
least_pair (array s js) (word r word_of.True) h = cc
least_pair (array s js) (number r ds) h = cc
least_pair (array s js) (string r ds) h = cc
least_pair (array s js) (array r ks) h = cc
least_pair (array s js) (object r ns) h = cc
least_pair (object s ms) (word r word_of.Null) h = cc
least_pair (object s ms) (word r word_of.False) h = cc
least_pair (object s ms) (word r word_of.True) h = cc
least_pair (object s ms) (number r ds) h = cc
least_pair (object s ms) (string r ds) h = cc
least_pair (object s ms) (array r ks) h = cc
least_pair (object s ms) (object r ns) h = cc

pub arrays_pair : (t u : Json) → pair_of (kind_of t) (kind_of u) ≡ pair.Arrays → (s r : Span) × (js ks : Items) × (t ≡ array s js) × (u ≡ array r ks)
arrays_pair (word s word_of.Null) u h = cc
arrays_pair (word s word_of.False) u h = cc
arrays_pair (word s word_of.True) u h = cc
arrays_pair (number s ds) u h = cc
arrays_pair (string s ds) u h = cc
arrays_pair (array s js) (word r word_of.Null) h = cc
arrays_pair (array s js) (word r word_of.False) h = cc
arrays_pair (array s js) (word r word_of.True) h = cc
arrays_pair (array s js) (number r ds) h = cc
arrays_pair (array s js) (string r ds) h = cc
arrays_pair (array s js) (array r ks) h = (s, r, js, ks, refl, refl)
arrays_pair (array s js) (object r ns) h = cc
arrays_pair (object s ms) (word r word_of.Null) h = cc
arrays_pair (object s ms) (word r word_of.False) h = cc
arrays_pair (object s ms) (word r word_of.True) h = cc
arrays_pair (object s ms) (number r ds) h = cc
arrays_pair (object s ms) (string r ds) h = cc
arrays_pair (object s ms) (array r ks) h = cc
arrays_pair (object s ms) (object r ns) h = cc

pub objects_pair : (t u : Json) → pair_of (kind_of t) (kind_of u) ≡ pair.Objects → (s r : Span) × (ms ns : Members) × (t ≡ object s ms) × (u ≡ object r ns)
objects_pair (word s word_of.Null) u h = cc
objects_pair (word s word_of.False) u h = cc
objects_pair (word s word_of.True) u h = cc
objects_pair (number s ds) u h = cc
objects_pair (string s ds) u h = cc
objects_pair (array s js) (word r word_of.Null) h = cc
objects_pair (array s js) (word r word_of.False) h = cc
objects_pair (array s js) (word r word_of.True) h = cc
objects_pair (array s js) (number r ds) h = cc
objects_pair (array s js) (string r ds) h = cc
objects_pair (array s js) (array r ks) h = cc
objects_pair (array s js) (object r ns) h = cc
objects_pair (object s ms) (word r word_of.Null) h = cc
objects_pair (object s ms) (word r word_of.False) h = cc
objects_pair (object s ms) (word r word_of.True) h = cc
objects_pair (object s ms) (number r ds) h = cc
objects_pair (object s ms) (string r ds) h = cc
objects_pair (object s ms) (array r ks) h = cc
objects_pair (object s ms) (object r ns) h = (s, r, ms, ns, refl, refl)

others_pair : (t u : Json) → pair_of (kind_of t) (kind_of u) ≡ pair.Others → same t u ≡ below t u
others_pair (word s word_of.Null) u h = cc
others_pair (word s word_of.False) u h = cc
others_pair (word s word_of.True) u h = refl
others_pair (number s ds) u h = refl
others_pair (string s ds) u h = refl
others_pair (array s js) (word r w) h = refl
others_pair (array s js) (number r ds) h = refl
others_pair (array s js) (string r ds) h = refl
others_pair (array s js) (array r ks) h = cc
others_pair (array s js) (object r ns) h = refl
others_pair (object s ms) (word r w) h = refl
others_pair (object s ms) (number r ds) h = refl
others_pair (object s ms) (string r ds) h = refl
others_pair (object s ms) (array r ks) h = refl
others_pair (object s ms) (object r ns) h = cc

-- as the code has the kinds

pub record Kinds (x y : Kind) (t u : Json) : Type 0 where
  pub first : x ≡ kind_of t
  pub second : y ≡ kind_of u

pub pair_kinds : (x y : Kind) (t u : Json) (p q : Pair) → Kinds x y t u → p ≡ pair_of x y → p ≡ q → pair_of (kind_of t) (kind_of u) ≡ q
pair_kinds x y t u p q k e h = rw (← k.first, ← k.second) (sym e ∙ h)

pub below_least : (t u : Json) → pair_of (kind_of t) (kind_of u) ≡ pair.Least → true ≡ below t u
below_least t u h = least_pair t u h

pub below_arrays : (t u : Json) (b : Bool) → pair_of (kind_of t) (kind_of u) ≡ pair.Arrays → ((s r : Span) (js ks : Items) → t ≡ array s js → u ≡ array r ks → b ≡ items_below js ks) → b ≡ below t u
below_arrays t u b h f = let p : (s r : Span) × (js ks : Items) × (t ≡ array s js) × (u ≡ array r ks) = arrays_pair t u h in go p.0 p.1 p.2 p.3 p.4 p.5
  where
    go : (s r : Span) (js ks : Items) → t ≡ array s js → u ≡ array r ks → b ≡ below t u
    go s r js ks e g = f s r js ks e g ∙ sym (ap (λ x. below x u) e ∙ ap (λ y. below (array s js) y) g)

pub below_objects : (t u : Json) (b : Bool) → pair_of (kind_of t) (kind_of u) ≡ pair.Objects → ((s r : Span) (ms ns : Members) → t ≡ object s ms → u ≡ object r ns → b ≡ members_below ms ns) → b ≡ below t u
below_objects t u b h f = let p : (s r : Span) × (ms ns : Members) × (t ≡ object s ms) × (u ≡ object r ns) = objects_pair t u h in go p.0 p.1 p.2 p.3 p.4 p.5
  where
    go : (s r : Span) (ms ns : Members) → t ≡ object s ms → u ≡ object r ns → b ≡ below t u
    go s r ms ns e g = f s r ms ns e g ∙ sym (ap (λ x. below x u) e ∙ ap (λ y. below (object s ms) y) g)

pub below_others : (t u : Json) (b : Bool) → pair_of (kind_of t) (kind_of u) ≡ pair.Others → b ≡ same t u → b ≡ below t u
below_others t u b h e = e ∙ others_pair t u h

-- what two values have in common, by their kinds

meets_others : (t u : Json) → pair_of (kind_of t) (kind_of u) ≡ pair.Others → same t u ≡ meets t u
meets_others (word s word_of.Null) u h = cc
meets_others (word s word_of.False) u h = cc
meets_others (word s word_of.True) u h = refl
meets_others (number s ds) u h = refl
meets_others (string s ds) u h = refl
meets_others (array s js) (word r w) h = refl
meets_others (array s js) (number r ds) h = refl
meets_others (array s js) (string r ds) h = refl
meets_others (array s js) (array r ks) h = cc
meets_others (array s js) (object r ns) h = refl
meets_others (object s ms) (word r w) h = refl
meets_others (object s ms) (number r ds) h = refl
meets_others (object s ms) (string r ds) h = refl
meets_others (object s ms) (array r ks) h = refl
meets_others (object s ms) (object r ns) h = cc

pub meets_least : (t u : Json) → pair_of (kind_of t) (kind_of u) ≡ pair.Least → false ≡ meets t u
meets_least (word s word_of.Null) u h = refl
meets_least (word s word_of.False) u h = refl
meets_least (word s word_of.True) u h = cc
meets_least (number s ds) u h = cc
meets_least (string s ds) u h = cc
meets_least (array s js) (word r word_of.Null) h = cc
meets_least (array s js) (word r word_of.False) h = cc
meets_least (array s js) (word r word_of.True) h = cc
meets_least (array s js) (number r ds) h = cc
meets_least (array s js) (string r ds) h = cc
meets_least (array s js) (array r ks) h = cc
meets_least (array s js) (object r ns) h = cc
meets_least (object s ms) (word r word_of.Null) h = cc
meets_least (object s ms) (word r word_of.False) h = cc
meets_least (object s ms) (word r word_of.True) h = cc
meets_least (object s ms) (number r ds) h = cc
meets_least (object s ms) (string r ds) h = cc
meets_least (object s ms) (array r ks) h = cc
meets_least (object s ms) (object r ns) h = cc

pub meets_arrays : (t u : Json) → pair_of (kind_of t) (kind_of u) ≡ pair.Arrays → true ≡ meets t u
meets_arrays t u h = let p : (s r : Span) × (js ks : Items) × (t ≡ array s js) × (u ≡ array r ks) = arrays_pair t u h in go p.0 p.1 p.2 p.3 p.4 p.5
  where
    go : (s r : Span) (js ks : Items) → t ≡ array s js → u ≡ array r ks → true ≡ meets t u
    go s r js ks e g = sym (ap (λ x. meets x u) e ∙ ap (λ y. meets (array s js) y) g)

pub meets_objects : (t u : Json) → pair_of (kind_of t) (kind_of u) ≡ pair.Objects → true ≡ meets t u
meets_objects t u h = let p : (s r : Span) × (ms ns : Members) × (t ≡ object s ms) × (u ≡ object r ns) = objects_pair t u h in go p.0 p.1 p.2 p.3 p.4 p.5
  where
    go : (s r : Span) (ms ns : Members) → t ≡ object s ms → u ≡ object r ns → true ≡ meets t u
    go s r ms ns e g = sym (ap (λ x. meets x u) e ∙ ap (λ y. meets (object s ms) y) g)

pub meets_rest : (t u : Json) (b : Bool) → pair_of (kind_of t) (kind_of u) ≡ pair.Others → b ≡ same t u → b ≡ meets t u
meets_rest t u b h e = e ∙ meets_others t u h

-- and its text

text_others : (bs : List ℕ) (spot : Spot) (t u : Json) → pair_of (kind_of t) (kind_of u) ≡ pair.Others → meets t u ≡ true → compact bs t ≡ text_at bs spot t u
text_others bs spot (word s w) u h m = refl
text_others bs spot (number s ds) u h m = refl
text_others bs spot (string s ds) u h m = refl
text_others bs spot (array s js) (word r w) h m = cc
text_others bs spot (array s js) (number r ds) h m = cc
text_others bs spot (array s js) (string r ds) h m = cc
text_others bs spot (array s js) (array r ks) h m = cc
text_others bs spot (array s js) (object r ns) h m = cc
text_others bs spot (object s ms) (word r w) h m = cc
text_others bs spot (object s ms) (number r ds) h m = cc
text_others bs spot (object s ms) (string r ds) h m = cc
text_others bs spot (object s ms) (array r ks) h m = cc
text_others bs spot (object s ms) (object r ns) h m = cc

pub text_rest : (P : List ℕ → Type 0) (bs : List ℕ) (spot : Spot) (t u : Json) → pair_of (kind_of t) (kind_of u) ≡ pair.Others → meets t u ≡ true → P (compact bs t) → P (text_at bs spot t u)
text_rest P bs spot t u h m e = subst P (text_others bs spot t u h m) e

pub text_arrays : (P : List ℕ → Type 0) (bs : List ℕ) (spot : Spot) (t u : Json) → pair_of (kind_of t) (kind_of u) ≡ pair.Arrays → ((s r : Span) (js ks : Items) → t ≡ array s js → u ≡ array r ks → P (text_at bs spot (array s js) (array r ks))) → P (text_at bs spot t u)
text_arrays P bs spot t u h f = let p : (s r : Span) × (js ks : Items) × (t ≡ array s js) × (u ≡ array r ks) = arrays_pair t u h in go p.0 p.1 p.2 p.3 p.4 p.5
  where
    go : (s r : Span) (js ks : Items) → t ≡ array s js → u ≡ array r ks → P (text_at bs spot t u)
    go s r js ks e g = subst (λ (x : Json). P (text_at bs spot x u)) (sym e) (subst (λ (y : Json). P (text_at bs spot (array s js) y)) (sym g) (f s r js ks e g))

pub text_objects : (P : List ℕ → Type 0) (bs : List ℕ) (spot : Spot) (t u : Json) → pair_of (kind_of t) (kind_of u) ≡ pair.Objects → ((s r : Span) (ms ns : Members) → t ≡ object s ms → u ≡ object r ns → P (text_at bs spot (object s ms) (object r ns))) → P (text_at bs spot t u)
text_objects P bs spot t u h f = let p : (s r : Span) × (ms ns : Members) × (t ≡ object s ms) × (u ≡ object r ns) = objects_pair t u h in go p.0 p.1 p.2 p.3 p.4 p.5
  where
    go : (s r : Span) (ms ns : Members) → t ≡ object s ms → u ≡ object r ns → P (text_at bs spot t u)
    go s r ms ns e g = subst (λ (x : Json). P (text_at bs spot x u)) (sym e) (subst (λ (y : Json). P (text_at bs spot (object s ms) y)) (sym g) (f s r ms ns e g))
