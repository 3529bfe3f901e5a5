-- Values that are the same bytes, and items beside each other.
use Rattle.std.proofs.Common.{◌≡◌, ℕ, ◌+◌, ◌<◌, Bool, true, length, sym, ◌∙◌, subst}
use Rattle.std.specs.Prelude.{Option, Some, MatchOption}
use Rattle.json_text.specs.Bare.{bare}
use Rattle.json_text.specs.declared.span.Span.{Span}
use Rattle.json_text.specs.Json.{Json, array, Items}
use Rattle.json_nodes.specs.At.{At, ChildAt, FoundChild}
use Rattle.json_nodes.specs.Doc.{Doc}
use Rattle.json_nodes.specs.Same.{same}
use Rattle.json_nodes.proofs.Members.{found_child_is, inside_more}
use Rattle.json_nodes.proofs.Numbers.{child_at}
use Rattle.capability_meet.specs.Order.{below, is_among}
use Rattle.capability_meet.proofs.Bares.{alike_bares}
use Rattle.capability_meet.proofs.BelowLaws.{among_at}

pub bares_below : (t u : Json) (b : Bool) → bare t ≡ bare u → b ≡ true → b ≡ below t u
bares_below t u b e h = h ∙ sym (alike_bares t u e).down

-- a number beside in an array

pub record SomeItem (e : Doc) (y : ℕ) (beside : Option ℕ) : Type 0 where
  pub inside : MatchOption beside (Unit {0}) (λ m. m < length e.nodes)
  pub place : (r : Span) (ks : Items) → At e y (array r ks) → (n : ℕ) × FoundChild e y (array r ks) n beside

pub some_first : (e : Doc) (y : ℕ) (beside : Option ℕ) → ((t : Json) → At e y t → FoundChild e y t 0 beside) → MatchOption beside (Unit {0}) (λ m. (y < m) × (m < length e.nodes)) → SomeItem e y beside
some_first e y beside first later = record { inside = inside_more (length e.nodes) y beside later; place = λ r ks a. (0, first (array r ks) a) }

pub some_next : (e : Doc) (y : ℕ) (here beside : Option ℕ) → SomeItem e y here → ((k n : ℕ) (s : Span) (js : Items) → FoundChild e k (array s js) n here → FoundChild e k (array s js) (n + 1) beside) → MatchOption beside (Unit {0}) (λ m. m < length e.nodes) → SomeItem e y beside
some_next e y here beside w next inside = record { inside = inside; place = λ r ks a. let p : (n : ℕ) × FoundChild e y (array r ks) n here = w.place r ks a in (p.0 + 1, next y p.0 r ks p.1) }

pub beside_among : (e : Doc) (y n m : ℕ) (t : Json) (r : Span) (ks : Items) (here : Option ℕ) (b : Bool) → here ≡ Some m → FoundChild e y (array r ks) n here → ((u : Json) → At e m u → b ≡ same t u) → b ≡ true → true ≡ is_among t ks
beside_among e y n m t r ks here b is h says holds =
    let c : (u : Json) × ChildAt e y (array r ks) n m u = found_child_is e y n m (array r ks) (subst (λ o. FoundChild e y (array r ks) n o) is h) in
    sym (among_at ks n t c.0 c.1.child (sym (says c.0 (child_at c.1)) ∙ holds))
