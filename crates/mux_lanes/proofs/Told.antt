-- More that is told, at the end and at the front.
use Rattle.std.proofs.Common.{◌≡◌, List, [], ◌++◌, refl, sym, ap, append_assoc, append-nil}
use Rattle.std.specs.Prelude.{Option, Some, None}
use Rattle.outside_io.specs.Told.{append_to, prepend_to}

pub appended_none : {T : Type 0} (told : Option (List T)) → told ≡ append_to told []
appended_none None = refl
appended_none (Some xs) = ap (λ l. Some l) (sym (append-nil xs))

pub prepended_none : {T : Type 0} (told : Option (List T)) → told ≡ prepend_to [] told
prepended_none None = refl
prepended_none (Some xs) = refl

pub appended_more : {T : Type 0} (told : Option (List T)) (xs ys : List T) → append_to (append_to told xs) ys ≡ append_to told (xs ++ ys)
appended_more None xs ys = refl
appended_more (Some zs) xs ys = ap (λ l. Some l) (append_assoc zs xs ys)

pub prepended_more : {T : Type 0} (told : Option (List T)) (xs ys : List T) → prepend_to xs (prepend_to ys told) ≡ prepend_to (xs ++ ys) told
prepended_more None xs ys = refl
prepended_more (Some zs) xs ys = ap (λ l. Some l) (sym (append_assoc xs ys zs))
