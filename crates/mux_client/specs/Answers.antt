-- One request that is sent on a link, and the link's first frame (LSP 3.17, Base Protocol).
use Rattle.std.specs.Prelude.{◌≡◌, ℕ, ◌≤◌, ◌⊎◌, List, []}
use Rattle.std.specs.Prelude.{Option, Result, Ok, Err}
use Rattle.std.specs.Io.KnownBytes.{append_known, prepend_known}
use Rattle.outside_io.specs.Faults.{Rose}
use Rattle.base_frame.specs.Frames.{framed, HasNoFrame}
use Rattle.base_frame.specs.Grammar.{IsFrame}
use Rattle.base_frame.specs.Reader.{IsFaulty}
use Rattle.outside_io.specs.Sessions.{Session}
use Rattle.mux_client.specs.Sessions.{IsEnded, IsFront, Passes, ReadFailed, WriteFailed}
use Rattle.mux_client.specs.declared.fault.ClientFault.{ClientFault}
use Rattle.mux_client.specs.declared.fault.ClientFault.TheVariants as fault

-- the bytes that were read begin with this frame
abbrev pub Begins : ℕ → List ℕ → List ℕ → Type 0
Begins limit heard answer = (more : List ℕ) × IsFrame limit heard answer more

-- they are faulty before a first frame, or the link ended before it
abbrev pub NoFrame : ℕ → List ℕ → Session → Type 0
NoFrame limit heard link = IsFaulty limit heard ⊎ (HasNoFrame limit heard × IsEnded link.left)

-- the first frame is none of these
abbrev pub OtherFrame : ℕ → List ℕ → (List ℕ → Type 0) → (List ℕ → Type 0) → Type 0
OtherFrame limit heard Wanted Refusal = (answer : List ℕ) × Begins limit heard answer × (Wanted answer → ⊥) × (Refusal answer → ⊥)

-- why no answer was taken: want of memory, a failed call of the link, no frame or another one, or one that refuses
abbrev pub WhyNoAnswer : ℕ → (List ℕ → Type 0) → (List ℕ → Type 0) → Session → Session → List ℕ → ClientFault → Type 0
WhyNoAnswer limit Wanted Refusal before after heard fault.Memory = Unit {0}
WhyNoAnswer limit Wanted Refusal before after heard fault.Link = ReadFailed before after ⊎ WriteFailed before after
WhyNoAnswer limit Wanted Refusal before after heard fault.Answer = NoFrame limit heard after ⊎ OtherFrame limit heard Wanted Refusal
WhyNoAnswer limit Wanted Refusal before after heard fault.Refused = (answer : List ℕ) × Begins limit heard answer × Refusal answer
WhyNoAnswer limit Wanted Refusal before after heard fault.Door = ⊥
WhyNoAnswer limit Wanted Refusal before after heard fault.Input = ⊥
WhyNoAnswer limit Wanted Refusal before after heard fault.Output = ⊥

-- a first frame was taken off a source, and no byte behind it, or why not
abbrev pub WhyNoFrame : ℕ → Option (List ℕ) → ℕ → ℕ → List ℕ → ClientFault → Type 0
WhyNoFrame limit left before now heard fault.Memory = Unit {0}
WhyNoFrame limit left before now heard fault.Link = Rose before now
WhyNoFrame limit left before now heard fault.Answer = IsFaulty limit heard ⊎ (HasNoFrame limit heard × IsEnded left)
WhyNoFrame limit left before now heard fault.Refused = ⊥
WhyNoFrame limit left before now heard fault.Door = ⊥
WhyNoFrame limit left before now heard fault.Input = ⊥
WhyNoFrame limit left before now heard fault.Output = ⊥

abbrev pub IsFirst : ℕ → Option (List ℕ) → ℕ → ℕ → List ℕ → Result (List ℕ) ClientFault → Type 0
IsFirst limit left before now heard (Ok answer) = IsFrame limit heard answer []
IsFirst limit left before now heard (Err why) = WhyNoFrame limit left before now heard why

pub record TakenFirst (limit : ℕ) (taken taken' left left' : Option (List ℕ)) (before now : ℕ) (result : Result (List ℕ) ClientFault) : Type 0 where
  pub heard : List ℕ
  pub reads : taken' ≡ append_known taken heard
  pub leaves : left ≡ prepend_known heard left'
  pub later : before ≤ now
  pub first : IsFirst limit left' before now heard result

-- any frame is wanted, and none is a refusal
abbrev pub anything : List ℕ → Type 0
anything answer = Unit {0}

abbrev pub nothing : List ℕ → Type 0
nothing answer = ⊥

-- the answer is the one frame that was read, it is wanted, and the request was sent whole; or why no answer was taken
abbrev pub Taken : ℕ → List ℕ → (List ℕ → Type 0) → (List ℕ → Type 0) → Session → Session → List ℕ → List ℕ → Result (List ℕ) ClientFault → Type 0
Taken limit request Wanted Refusal before after heard sent (Ok answer) = IsFrame limit heard answer [] × Wanted answer × (sent ≡ framed request)
Taken limit request Wanted Refusal before after heard sent (Err why) = WhyNoAnswer limit Wanted Refusal before after heard why

-- a front of the request's frame was sent, and a first frame was awaited
pub record Exchanged (limit : ℕ) (request : List ℕ) (Wanted Refusal : List ℕ → Type 0) (before after : Session) (result : Result (List ℕ) ClientFault) : Type 0 where
  pub heard : List ℕ
  pub sent : List ℕ
  pub passes : Passes before after heard sent
  pub front : IsFront sent (framed request)
  pub taken : Taken limit request Wanted Refusal before after heard sent result
