-- What is done over the documents of a group for what an editor's notification says.
use Rattle.std.specs.Prelude.{ℕ, List}
use Rattle.std.specs.Prelude.{Option, Some, None}
use Rattle.json_text.specs.Json.{Json}
use Rattle.json_text.specs.Tree.{tree_of}
use Rattle.document_model.specs.Sayings.{Saying, opens, changes, closes, misshapen, nothing}
use Rattle.focus_switch.specs.Documents.{Documents}
use Rattle.focus_switch.specs.Rows.{Step, open_row, change_row, close_row}
use Rattle.focus_switch.specs.Rows as focus

abbrev pub changed_by : ℕ → List ℕ → Option Json → Documents → Step
changed_by e body None d = focus.nothing d
changed_by e body (Some tree) d = change_row e body tree d

abbrev pub document_step : ℕ → List ℕ → Saying → Documents → Step
document_step e body (opens u l v t) d = open_row e u l v t d
document_step e body (changes u v cs) d = changed_by e body (tree_of body) d
document_step e body (closes u) d = close_row e u d
document_step e body misshapen d = focus.nothing d
document_step e body nothing d = focus.nothing d
