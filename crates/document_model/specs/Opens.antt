-- What editors that share a server have open (LSP 3.17, Text Document Synchronization).
use Rattle.std.specs.Prelude.{ℕ, Bool, false, not, ◌&&◌, ◌||◌, List, [], ◌∷◌, fold, nat_eq, nat_lt, bytes_eq, if◌then◌else◌}
use Rattle.std.specs.Prelude.{Option, Some, None}
use Rattle.std.specs.Option.{option_map_or}

-- a document that is open at an editor, as that editor has it. `touched` is the turn of the editor's last touch of it.
pub record Open : Type 0 where
  pub editor : ℕ
  pub uri : List ℕ
  pub language : List ℕ
  pub version : List ℕ
  pub text : List ℕ
  pub touched : ℕ

abbrev pub is_open_at : ℕ → List ℕ → Open → Bool
is_open_at e u o = nat_eq o.editor e && bytes_eq o.uri u

-- in the place of the same document at the same editor, or behind all
abbrev pub put_open : Open → List Open → List Open
put_open o [] = o ∷ []
put_open o (p ∷ ps) = if is_open_at o.editor o.uri p then o ∷ ps else p ∷ put_open o ps

-- without the document at e
abbrev pub drop_open : ℕ → List ℕ → List Open → List Open
drop_open e u [] = []
drop_open e u (o ∷ os) = if is_open_at e u o then os else o ∷ drop_open e u os

-- of those that pass the test, the one that was touched last
abbrev pub later : Open → Option Open → Option Open
later o None = Some o
later o (Some best) = if nat_lt o.touched best.touched then Some best else Some o

abbrev pub latest : (Open → Bool) → List Open → Option Open
latest test opens = fold (λ best o. if test o then later o best else best) None opens

-- the holder of a document: the editor that touched it last, of those at which it is open
abbrev pub holder : List ℕ → List Open → Option Open
holder u opens = latest (λ o. bytes_eq o.uri u) opens

-- the holder, were the document not open at e
abbrev pub holder_beside : ℕ → List ℕ → List Open → Option Open
holder_beside e u opens = latest (λ o. bytes_eq o.uri u && not (nat_eq o.editor e)) opens

-- The server has a document in its holder's language and with its holder's text. Is it this language?
abbrev pub holds_language : Open → List Open → Bool
holds_language o opens = option_map_or (λ h. bytes_eq h.language o.language) (holder o.uri opens) false

-- Is it this language and this text?
abbrev pub holds : Open → List Open → Bool
holds o opens = option_map_or (λ h. bytes_eq h.language o.language && bytes_eq h.text o.text) (holder o.uri opens) false

-- The same of a document that is open at its editor: the holder's is its own.
abbrev pub holds_own : Open → List Open → Bool
holds_own o opens = option_map_or (λ h. nat_eq h.editor o.editor || (bytes_eq h.language o.language && bytes_eq h.text o.text)) (holder o.uri opens) false
