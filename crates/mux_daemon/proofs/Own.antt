-- What the own port got back.
use Rattle.std.proofs.Common.{◌≡◌, ◌<◌, false, List, [], ◌∷◌, length, refl, arith, slice_get, option_map}
use Rattle.std.specs.Prelude.{IfSome, Option, Some, None}
use Rattle.std.specs.Option.{is_some}
use Rattle.outside_io.specs.Sessions.{Session}

none_there : (told : Option (List Session)) → option_map (λ sessions. slice_get sessions 0) told ≡ Some None → told ≡ Some []
none_there None e = absurd cc
none_there (Some []) e = refl
none_there (Some (s ∷ back)) e = absurd cc

pub has_none : {X : Type 0} (f : X → Session) (told : Option (List Session)) (found : Option X) → option_map (λ sessions. slice_get sessions 0) told ≡ Some (option_map f found) → is_some found ≡ false → told ≡ Some []
has_none f told None e none = none_there told e
has_none f told (Some x) e none = absurd cc

pub has_one : (told : Option (List Session)) (s : Session) → option_map (λ sessions. slice_get sessions 0) told ≡ Some (Some s) → IfSome told (λ back. 0 < length back)
has_one None s e = absurd cc
has_one (Some []) s e = absurd cc
has_one (Some (t ∷ back)) s e = omega arith
