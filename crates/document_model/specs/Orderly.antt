-- What holds of all that editors have open: each document once, each turn one, all of it UTF-8.
use Rattle.std.specs.Prelude.{◌≡◌, ◌<◌, false, List, [], ◌∷◌, IsUtf8}
use Rattle.std.specs.List.{AllByRecursion}
use Rattle.document_model.specs.Opens.{Open, is_open_at}
use Rattle.document_model.specs.Texts.{Texts}

-- an editor has a document open once, and each turn is one
abbrev pub Once : List Open → Type 0
Once [] = Unit {0}
Once (o ∷ os) = AllByRecursion (λ (p : Open). is_open_at o.editor o.uri p ≡ false) os × Once os

-- URI, language and text are UTF-8
abbrev pub IsSpelt : Open → Type 0
IsSpelt o = IsUtf8 o.uri × IsUtf8 o.language × IsUtf8 o.text

abbrev pub AllSpelt : List Open → Type 0
AllSpelt os = AllByRecursion IsSpelt os

pub record Orderly (x : Texts) : Type 0 where
  pub once : Once x.opens
  pub turns : AllByRecursion (λ (o : Open). o.touched < x.turn) x.opens
