-- Streams of frames (LSP 3.17, Base Protocol).
use Rattle.std.specs.Prelude.{◌≡◌, ℕ, List, [], ◌∷◌, ◌++◌, length, codes, decimal}
use Rattle.base_frame.specs.declared.block.BadWhy.{BadWhy}
use Rattle.base_frame.specs.Grammar.{IsFrame, IsFault}

-- the stream is the frames with these contents, one behind the other, and then these bytes
abbrev pub Splits : ℕ → List ℕ → List (List ℕ) → List ℕ → Type 0
Splits limit stream [] rest = stream ≡ rest
Splits limit stream (c ∷ cs) rest = (more : List ℕ) × IsFrame limit stream c more × Splits limit more cs rest

-- no whole frame stands at the front
abbrev pub HasNoFrame : ℕ → List ℕ → Type 0
HasNoFrame limit bs = (c more : List ℕ) → IsFrame limit bs c more → ⊥

abbrev pub HasNoFault : ℕ → List ℕ → Type 0
HasNoFault limit bs = (at : ℕ) (why : BadWhy) → IsFault limit bs at why → ⊥

-- the frame that is written for a content
abbrev pub framed : List ℕ → List ℕ
framed b = codes "Content-Length: " ++ (decimal (length b) ++ (codes "\r\n\r\n" ++ b))

abbrev pub all_framed : List (List ℕ) → List ℕ
all_framed [] = []
all_framed (b ∷ bs) = framed b ++ all_framed bs
