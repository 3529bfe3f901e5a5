-- The versions of an editor's documents.
use Rattle.std.specs.Prelude.{ℕ, List, [], ◌∷◌, flat_map, nat_eq, if◌then◌else◌}
use Rattle.document_table.specs.document_model.specs.Opens.{Open}
use Rattle.focus_switch.specs.declared.version.DocumentVersion.{DocumentVersion}
use Rattle.focus_switch.specs.Documents.{Documents, version_held}

-- a document's, at the ready start, where it has the document, and at its editor
abbrev pub version_of : Open → Documents → DocumentVersion
version_of o s = record { uri = o.uri; held = version_held o.uri s.helds; version = o.version }

-- those of the documents that are open at e, in the order of their opening
abbrev pub versions_of : ℕ → Documents → List DocumentVersion
versions_of e s = flat_map (λ o. if nat_eq o.editor e then version_of o s ∷ [] else []) s.opens
