-- What the settings say of the servers' capabilities.
use Rattle.std.specs.Prelude.{◌≡◌, ℕ, ◌≤◌, true, List, length, IfSome}
use Rattle.std.specs.List.{AllByRecursion}
use Rattle.json_text.specs.Tree.{tree_of}
use Rattle.event_model.specs.declared.settings.Server.{Server}
use Rattle.group_words.specs.Houses.{is_object}

-- the text of a JSON object (RFC 8259) that nests at most 1,024 deep
abbrev pub IsCeiling : List ℕ → Type 0
IsCeiling text = (length text ≤ 1048576) × (is_object (tree_of text) ≡ true)

abbrev pub HaveCeilings : List Server → Type 0
HaveCeilings servers = AllByRecursion (λ (s : Server). IfSome s.ceiling IsCeiling) servers
