-- What a ready start is sent where an editor opens, changes or closes a document.
use Rattle.std.specs.Prelude.{◌≡◌, ℕ, Bool, ◌+◌, ◌&&◌, List, [], ◌∷◌, nat_lt, bytes_eq, if◌then◌else◌}
use Rattle.std.specs.Prelude.{Option, Some, None}
use Rattle.json_text.specs.Tree.{tree_of}
use Rattle.json_text.specs.Json.{Json}
use Rattle.document_model.specs.Opens.{Open}
use Rattle.document_model.specs.Notices.{with_version}
use Rattle.document_model.specs.Bodies.{open_text, full_text, close_text}
use Rattle.document_model.specs.Helds.{HeldText}

-- The start agrees with an editor: it has the editor's language and text.
abbrev pub agrees : Open → HeldText → Bool
agrees o h = bytes_eq h.language o.language && bytes_eq h.text o.text

-- the same, as a relation
abbrev pub Agrees : Open → HeldText → Type 0
Agrees o h = (h.language ≡ o.language) × (h.text ≡ o.text)

-- the whole text of an editor, as a change, or, from another language or at the limit of versions, by closing and opening
abbrev pub switched : ℕ → Open → HeldText → List (List ℕ)
switched versions o h = if bytes_eq h.language o.language && nat_lt h.version versions then full_text o.uri (h.version + 1) o.text ∷ [] else close_text o.uri ∷ open_text o.uri o.language o.text ∷ []

-- where the start doesn't agree
abbrev pub differing : ℕ → Open → HeldText → List (List ℕ)
differing versions o h = if agrees o h then [] else switched versions o h

-- a document that the start doesn't have is opened
abbrev pub sent_open : ℕ → Open → Option HeldText → List (List ℕ)
sent_open versions o None = open_text o.uri o.language o.text ∷ []
sent_open versions o (Some h) = differing versions o h

-- a body under another version
abbrev pub versioned_in : ℕ → List ℕ → Option Json → List ℕ
versioned_in v body (Some t) = with_version v body t
versioned_in v body None = body

abbrev pub versioned : ℕ → List ℕ → List ℕ
versioned v body = versioned_in v body (tree_of body)

-- The editor's own message goes on, under the start's next version, where the start agreed with the editor before it.
abbrev pub sent_change : ℕ → List ℕ → Open → Open → Option HeldText → List (List ℕ)
sent_change versions body old new None = []
sent_change versions body old new (Some h) = if agrees new h then [] else if nat_lt h.version versions && agrees old h then versioned (h.version + 1) body ∷ [] else switched versions new h

-- The last one that closes a document closes it at the start; else its next holder counts.
abbrev pub sent_close : ℕ → List ℕ → Option Open → Option HeldText → List (List ℕ)
sent_close versions u rest None = []
sent_close versions u None (Some h) = close_text u ∷ []
sent_close versions u (Some o) (Some h) = differing versions o h
