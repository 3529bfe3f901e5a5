-- The change of what is shown.
use Rattle.std.proofs.Common.{◌≡◌, ℕ, List, [], ◌++◌, length, ◌∙◌, ap, codes}
use Rattle.std.specs.Prelude.{Option, Some, None}
use Rattle.std.specs.Option.{option_and_then, option_map}
use Rattle.json_text.specs.declared.change.Change.{Change}
use Rattle.json_text.specs.Json.{Json}
use Rattle.json_text.specs.Named.{named_in}
use Rattle.capability_meet.specs.Parts.{window}
use Rattle.capability_meet.specs.Shown.{capabilities_text, change_of, shown_text, without, workspace_text}

changes : (bs : List ℕ) (o : Option Json) (inner change : Option Change) → inner ≡ option_map (change_of (workspace_text bs)) (option_and_then (named_in (codes "workspace")) o) → change ≡ option_map (change_of (without bs (codes "notebookDocumentSync") inner)) o → change ≡ option_map (change_of (capabilities_text bs)) o
changes bs None inner change e f = f
changes bs (Some j) inner change e f = f ∙ ap (λ i. Some (change_of (without bs (codes "notebookDocumentSync") i) j)) e

pub shown_so : (bs out start : List ℕ) (t : Json) (inner change : Option Change) → inner ≡ option_map (change_of (workspace_text bs)) (option_and_then (named_in (codes "workspace")) (named_in (codes "capabilities") t))
    → change ≡ option_map (change_of (without bs (codes "notebookDocumentSync") inner)) (named_in (codes "capabilities") t) → start ≡ [] → out ≡ start ++ window bs change 0 (length bs) → out ≡ shown_text bs t
shown_so bs out start t inner change e f s g =
    g ∙ ap (λ z. z ++ window bs change 0 (length bs)) s ∙ ap (λ z. window bs z 0 (length bs)) (changes bs (named_in (codes "capabilities") t) inner change e f)
