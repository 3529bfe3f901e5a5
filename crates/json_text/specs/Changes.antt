-- What a list of changes does, as edits of bytes.
use Rattle.std.specs.Prelude.{List, [], ◌∷◌}
use Rattle.json_text.specs.declared.change.Change.{Change}
use Rattle.json_text.specs.Replace.{Edit}

abbrev pub edits_of : List Change → List Edit
edits_of [] = []
edits_of (c ∷ cs) = record { span = c.span; text = c.text } ∷ edits_of cs
