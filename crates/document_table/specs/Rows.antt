-- What goes over an editor's documents.
use Rattle.std.specs.Prelude.{ℕ, List, [], ◌∷◌, flat_map, nat_eq, if◌then◌else◌}
use Rattle.document_model.specs.Opens.{Open}

abbrev pub touched_at : ℕ → ℕ → Open → Open
touched_at e turn o = if nat_eq o.editor e then record o { touched = turn } else o

-- the documents that are open at e, in the order of their opening
abbrev pub uris_of : ℕ → List Open → List (List ℕ)
uris_of e os = flat_map (λ o. if nat_eq o.editor e then o.uri ∷ [] else []) os
