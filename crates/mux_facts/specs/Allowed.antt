-- What a start may be told of a document (LSP 3.17, Text Document Synchronization), and which messages are responses.
use Rattle.std.specs.Prelude.{◌≡◌, ℕ, ◌+◌, Bool, true, false, List, codes, decimal, is_some}
use Rattle.std.specs.Prelude.{Option, Some, None}
use Rattle.mux_model.specs.document_model.specs.Sayings.{Saying, opens, changes, closes, misshapen, nothing}
use Rattle.rpc_message.specs.Message.{Message, result, error}

-- a result or an error
abbrev pub is_response : Message → Bool
is_response (result id r) = true
is_response (error id e) = true
is_response _ = false

-- the digits of the version behind the held one
abbrev pub IsNext : Option ℕ → List ℕ → Type 0
IsNext None v = ⊥
IsNext (Some n) v = v ≡ decimal (n + 1)

-- what may be said where these versions are held
abbrev pub AllowsSaying : (List ℕ → Option ℕ) → Saying → Type 0
AllowsSaying held (opens u l v t) = (held u ≡ None) × (v ≡ codes "1")
AllowsSaying held (changes u v cs) = IsNext (held u) v
AllowsSaying held (closes u) = is_some (held u) ≡ true
AllowsSaying held misshapen = ⊥
AllowsSaying held nothing = Unit {0}
