-- Laws of streams of frames.
use Rattle.std.specs.List.{AllByRecursion}
use Rattle.std.specs.Prelude.{◌≡◌, ℕ, ◌≤◌, ◌<◌, ◌^◌, List, ◌++◌, length, ◌↔◌}
use Rattle.base_frame.specs.declared.block.BadWhy.{BadWhy}
use Rattle.base_frame.specs.Machine.{whole, fault, front_of}
use Rattle.base_frame.specs.Grammar.{IsFrame, IsFault}
use Rattle.base_frame.specs.Frames.{Splits, HasNoFrame, framed, all_framed}

-- a stream is frames and bytes that begin with no whole frame in one way alone
abbrev pub OneSplit : Type 0
OneSplit = (limit : ℕ) (stream : List ℕ) (cs ds : List (List ℕ)) (rest more : List ℕ) → Splits limit stream cs rest → HasNoFrame limit rest
    → Splits limit stream ds more → HasNoFrame limit more → (cs ≡ ds) × (rest ≡ more)

-- more bytes change no frame
abbrev pub FramesStay : Type 0
FramesStay = (limit : ℕ) (stream extra : List ℕ) (cs : List (List ℕ)) (rest : List ℕ) → Splits limit stream cs rest → Splits limit (stream ++ extra) cs (rest ++ extra)

-- more bytes change no fault
abbrev pub FaultsStay : Type 0
FaultsStay = (limit : ℕ) (bytes extra : List ℕ) (at : ℕ) (why : BadWhy) → IsFault limit bytes at why → IsFault limit (bytes ++ extra) at why

-- bytes have one fault at most, and none where a whole frame is at their front
abbrev pub OneFault : Type 0
OneFault = (limit : ℕ) (bytes : List ℕ) (at : ℕ) (why : BadWhy) (place : ℕ) (cause : BadWhy) → IsFault limit bytes at why → IsFault limit bytes place cause
    → HasNoFrame limit bytes × (at ≡ place) × (why ≡ cause)

-- the machine takes a frame for one exactly where the grammar does
abbrev pub FramesAreGrammar : Type 0
FramesAreGrammar = (limit : ℕ) (stream c more : List ℕ) → (front_of limit stream ≡ whole c more) ↔ IsFrame limit stream c more

-- the machine stops at a fault exactly where and why the grammar says
abbrev pub FaultsAreGrammar : Type 0
FaultsAreGrammar = (limit : ℕ) (bytes : List ℕ) (at : ℕ) (why : BadWhy) → (front_of limit bytes ≡ fault at why) ↔ IsFault limit bytes at why

-- a content is at most the limit
abbrev pub ContentsFit : Type 0
ContentsFit = (limit : ℕ) (stream c more : List ℕ) → IsFrame limit stream c more → length c ≤ limit

-- what is written for a content is the frame of that content, whatever follows
abbrev pub ReadsBack : Type 0
ReadsBack = (limit : ℕ) (b more : List ℕ) → length b ≤ limit → length b < 2 ^ 64 → IsFrame limit (framed b ++ more) b more

-- what is written for contents, one behind the other, are the frames of these contents
abbrev pub AllReadBack : Type 0
AllReadBack = (limit : ℕ) (bs : List (List ℕ)) (more : List ℕ) → AllByRecursion (λ b. (length b ≤ limit) × (length b < 2 ^ 64)) bs → Splits limit (all_framed bs ++ more) bs more
