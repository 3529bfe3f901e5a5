-- How the server has a document, which it has as the document's holder does, where there is one.
use Rattle.std.specs.Prelude.{ℕ, ◌+◌, List, Bool, false, ◌&&◌, ◌||◌, Option, nat_eq, nat_lt, bytes_eq, if◌then◌else◌}
use Rattle.std.specs.Option.{option_map_or}
use Rattle.json_text.specs.Json.{Json}
use Rattle.document_table.specs.document_model.specs.Notices.{with_version}
use Rattle.document_table.specs.document_model.specs.Opens.{Open}
use Rattle.focus_switch.specs.Rows.{switch}
use Rattle.focus_switch.specs.declared.telling.Telling.{Telling}
use Rattle.focus_switch.specs.declared.telling.Telling.TheVariants.{Changes}

-- in this one's language
abbrev pub speaks_alike : Open → Option Open → Bool
speaks_alike o holder = option_map_or (λ (h : Open). bytes_eq h.language o.language) holder false

-- in this one's language and with its text
abbrev pub is_alike : Open → Option Open → Bool
is_alike o holder = option_map_or (λ (h : Open). bytes_eq h.language o.language && bytes_eq h.text o.text) holder false

-- the same of one that is open at its editor
abbrev pub is_own : Open → Option Open → Bool
is_own o holder = option_map_or (λ (h : Open). nat_eq h.editor o.editor || (bytes_eq h.language o.language && bytes_eq h.text o.text)) holder false

-- the message of a change, under the next version where the server has the old document, or the whole text of the new one
abbrev pub change_from : Open → Open → Option Open → List ℕ → Json → ℕ → ℕ → Telling
change_from old new holder body t v versions = if nat_lt v versions && is_own old holder then Changes (v + 1) (with_version (v + 1) body t) else switch (speaks_alike new holder) versions new v
