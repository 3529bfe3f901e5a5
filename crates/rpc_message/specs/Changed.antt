-- A body with other bytes in some places, and as its id.
use Rattle.std.specs.Prelude.{ℕ, Bool, true, List, [], ◌∷◌, ◌++◌, codes, nat_le, if◌then◌else◌}
use Rattle.std.specs.Prelude.{Option, Some, None}
use Rattle.json_text.specs.declared.span.Span.{Span}
use Rattle.json_text.specs.Replace.{Edit, replace}
use Rattle.json_text.specs.Tree.{tree_of}
use Rattle.rpc_message.specs.Message.{place_in}

-- a place ends before the first of these begins
abbrev pub is_in_front : Span → List Edit → Bool
is_in_front s [] = true
is_in_front s (e ∷ es) = nat_le s.to e.span.from

-- these and one more, in front of all of them or behind them
abbrev pub beside : Edit → List Edit → List Edit
beside e es = if is_in_front e.span es then e ∷ es else es ++ e ∷ []

abbrev pub id_edits_at : List ℕ → List Edit → Option Span → List Edit
id_edits_at id es (Some s) = beside (record { span = s; text = id }) es
id_edits_at id es None = es

-- these and that of the id, where the body has one
unfoldable pub id_edits : List ℕ → List ℕ → List Edit → List Edit
id_edits bytes id es = id_edits_at id es (place_in (codes "id") (tree_of bytes))

-- a body with other bytes as its id and in these places, and all else as it came
abbrev pub changed_text : List ℕ → List ℕ → List Edit → List ℕ
changed_text bytes id es = replace bytes (id_edits bytes id es)
