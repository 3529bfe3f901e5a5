-- What stands at the front of a stream: the reader's machine over lists, tied to the grammar by `frame_law` and `fault_law`.
use Rattle.std.specs.Prelude.{◌≡◌, ℕ, ◌+◌, ◌≤◌, ◌++◌, Bool, true, false, nat_le, if◌then◌else◌, List, [], ◌∷◌, length, take, drop}
use Rattle.base_frame.specs.declared.block.BadWhy.{BadWhy}
use Rattle.base_frame.specs.declared.block.State.{State}
use Rattle.base_frame.specs.declared.block.Move.{Move}
use Rattle.base_frame.specs.declared.block.Move.TheVariants.{Goes, Ends, Bad}
use Rattle.base_frame.specs.Block.{step, start}

-- what stands at the front of a stream: a frame with this content and the bytes behind it, the least fault, or neither as yet
pub data Front : Type 0 where
  whole : List ℕ → List ℕ → Front
  fault : ℕ → BadWhy → Front
  short : Front

-- so many bytes of content
abbrev pub content : ℕ → List ℕ → Front
content n bs = if nat_le n (length bs) then whole (take n bs) (drop n bs) else short

abbrev pub after : ℕ → Move → List ℕ → (State → Front) → Front
after at (Goes s) bs k = k s
after at (Ends n) bs k = content n bs
after at (Bad why) bs k = fault at why

-- what stands there, where so many bytes of the header block were read
unfoldable pub front_from : ℕ → ℕ → State → List ℕ → Front
front_from limit at s [] = short
front_from limit at s (b ∷ bs) = after at (step limit at b s) bs (λ t. front_from limit (at + 1) t bs)

abbrev pub front_of : ℕ → List ℕ → Front
front_of limit bs = front_from limit 0 start bs

abbrev pub NotWhole : Front → Type 0
NotWhole (whole c more) = ⊥
NotWhole (fault at why) = Unit {0}
NotWhole short = Unit {0}

-- the stream is the frames with these contents, one behind the other, and then these bytes
abbrev pub Cuts : ℕ → List ℕ → List (List ℕ) → List ℕ → Type 0
Cuts limit stream [] rest = stream ≡ rest
Cuts limit stream (c ∷ cs) rest = (more : List ℕ) × (front_of limit stream ≡ whole c more) × Cuts limit more cs rest

abbrev pub is_fault : Front → Bool
is_fault (whole c more) = false
is_fault (fault at why) = true
is_fault short = false

abbrev pub is_whole : Front → Bool
is_whole (whole c more) = true
is_whole (fault at why) = false
is_whole short = false

-- the header block of these bytes was read up to this place and is in this state there, whatever follows
abbrev pub IsAt : ℕ → ℕ → State → List ℕ → Type 0
IsAt limit at s bs = (at ≤ length bs) × ((extra : List ℕ) → front_of limit (bs ++ extra) ≡ front_from limit at s (drop at bs ++ extra))

-- the frames at the front of these bytes were made ready, and these bytes stand behind them
abbrev pub Taken : ℕ → List ℕ → List (List ℕ) → List (List ℕ) → List ℕ → Type 0
Taken limit bs old new rest = (cs : List (List ℕ)) × (new ≡ old ++ cs) × Cuts limit bs cs rest × NotWhole (front_of limit rest)
