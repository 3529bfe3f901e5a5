-- Greatest lower bounds in the order of capabilities.
use Rattle.std.specs.Prelude.{◌≡◌, ℕ, Bool, true, List, codes}
use Rattle.std.specs.Prelude.{Some, None}
use Rattle.json_text.specs.declared.span.Span.{Span}
use Rattle.json_text.specs.Json.{Json, Members, object}
use Rattle.json_text.specs.Named.{named_in}
use Rattle.json_nodes.specs.Same.{has_name}
use Rattle.capability_meet.specs.Order.{below, below_given}

-- below two values, and above all that is below both
pub record IsGreatest (j k m : Json) : Type 0 where
  pub first : below m j ≡ true
  pub second : below m k ≡ true
  pub greatest : (x : Json) → below x j ≡ true → below x k ≡ true → below x m ≡ true

-- a value that has no member of this name, or a least one
abbrev pub offers_no : List ℕ → Json → Bool
offers_no name j = below_given (named_in name j) None

-- below two values and without what isn't declared, and above all that is below both and doesn't offer that
pub record IsGreatestDeclared (j k m : Json) : Type 0 where
  pub first : below m j ≡ true
  pub second : below m k ≡ true
  pub no_notebooks : named_in (codes "notebookDocument") m ≡ None
  pub no_encoding : named_in (codes "offsetEncoding") m ≡ None
  pub greatest : (x : Json) → below x j ≡ true → below x k ≡ true → offers_no (codes "notebookDocument") x ≡ true → offers_no (codes "offsetEncoding") x ≡ true → below x m ≡ true

-- ShowDocumentClientCapabilities has the member support, and staleRequestSupport of GeneralClientCapabilities the member cancel, where they are objects
pub record HasRequired (m : Json) : Type 0 where
  pub support : (w : Json) (s : Span) (ms : Members) → named_in (codes "window") m ≡ Some w → named_in (codes "showDocument") w ≡ Some (object s ms) → has_name (codes "support") ms ≡ true
  pub cancel : (g : Json) (s : Span) (ms : Members) → named_in (codes "general") m ≡ Some g → named_in (codes "staleRequestSupport") g ≡ Some (object s ms) → has_name (codes "cancel") ms ≡ true
