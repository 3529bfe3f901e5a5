-- What is found of a didChange.
use Rattle.std.specs.Prelude.{◌≡◌, ℕ, List}
use Rattle.std.specs.Prelude.{Option, Some, None}
use Rattle.json_nodes.specs.At.{At}
use Rattle.json_nodes.specs.Doc.{Doc}
use Rattle.focus_switch.specs.declared.notice.Change.{Change}
use Rattle.document_table.specs.document_model.specs.Notices.{DidChange}

-- the answer is this change, by the number of its list of changes, or there is neither
abbrev pub FoundChange : Doc → Option DidChange → Option Change → Type 0
FoundChange doc (Some q) (Some c) = (c.uri ≡ q.uri) × (c.version ≡ q.version) × At doc c.changes q.changes
FoundChange doc None None = Unit {0}
FoundChange doc (Some q) None = ⊥
FoundChange doc None (Some c) = ⊥

-- what three parts make, where each is there
abbrev pub made : Option (List ℕ) → Option (List ℕ) → Option ℕ → Option Change
made (Some u) (Some v) (Some k) = Some (record { uri = u; version = v; changes = k })
made (Some u) (Some v) None = None
made (Some u) None k = None
made None v k = None
