-- One member in the order: a later one has its name, or it is least, or it is below the last one of its name in the other.
use Rattle.std.proofs.Common.{◌≡◌, ℕ, Bool, true, false, ◌||◌, not, refl, sym, ◌∙◌, ap, subst}
use Rattle.std.specs.Prelude.{Option, Some, None}
use Rattle.std.specs.Option.{is_some}
use Rattle.json_text.specs.Json.{Json}
use Rattle.json_nodes.specs.At.{At, Found}
use Rattle.json_nodes.specs.Doc.{Doc}
use Rattle.json_nodes.specs.Same.{if_some}
use Rattle.capability_meet.specs.Order.{below, is_least}

pub member_later : (l : Bool) (o : Option Json) (x : Bool) → l ≡ not (is_some o) → l ≡ false → true ≡ (is_some o || x)
member_later l (Some j) x h e = refl
member_later l None x h e = cc

pub member_first : (l : Bool) (o : Option Json) (x : Bool) → l ≡ not (is_some o) → l ≡ true → x ≡ (is_some o || x)
member_first l (Some j) x h e = cc
member_first l None x h e = refl

pub member_least : (u : Json) (b x : Bool) → b ≡ is_least u → b ≡ true → true ≡ (is_least u || x)
member_least u b x e h = sym (ap (λ v. v || x) (sym e ∙ h))

pub member_more : (u : Json) (b x : Bool) → b ≡ is_least u → b ≡ false → x ≡ (is_least u || x)
member_more u b x e h = sym (ap (λ v. v || x) (sym e ∙ h))

pub member_twin : (e : Doc) (p : Option Json) (n : ℕ) (u : Json) (twin : Option ℕ) (b : Bool) → Found e p twin → twin ≡ Some n → ((v : Json) → At e n v → b ≡ below u v) → b ≡ if_some p (λ v. below u v)
member_twin e None n u twin b g is answers = let z : Found e None (Some n) = subst (λ q. Found e None q) is g in absurd z
member_twin e (Some v) n u twin b g is answers = answers v (subst (λ q. Found e (Some v) q) is g)

pub member_missing : (e : Doc) (p : Option Json) (u : Json) (twin : Option ℕ) → Found e p twin → twin ≡ None → false ≡ if_some p (λ v. below u v)
member_missing e None u twin g is = refl
member_missing e (Some v) u twin g is = let z : Found e (Some v) None = subst (λ q. Found e (Some v) q) is g in absurd z
