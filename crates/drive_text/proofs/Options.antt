-- Where a value came from.
use Rattle.std.proofs.Common.{◌≡◌, ◌⊎◌, inl, inr, Bool, true, false, cond, refl, option_map}
use Rattle.std.specs.Prelude.{Option, Some, None}
use Rattle.drive_text.specs.Options.{then_option}

pub then_some : {A B : Type 0} (f : A → Option B) (o : Option A) (b : B) → then_option o f ≡ Some b → (a : A) × (o ≡ Some a) × (f a ≡ Some b)
then_some f None b h = absurd (cc)
then_some f (Some a) b h = (a, refl, h)

pub map_some : {A B : Type 0} (f : A → B) (o : Option A) (b : B) → option_map f o ≡ Some b → (a : A) × (o ≡ Some a) × (f a ≡ b)
map_some f None b h = absurd (cc)
map_some f (Some a) b h = (a, refl, cc)

pub test_some : {B : Type 0} (t : Bool) (x : B) (rest : Option B) (b : B) → cond t (Some x) rest ≡ Some b → ((t ≡ true) × (x ≡ b)) ⊎ (rest ≡ Some b)
test_some true x rest b h = inl (refl, cc)
test_some false x rest b h = inr h

pub none_some : {B : Type 0} (b : B) → None ≡ Some b → ⊥
none_some b h = cc
