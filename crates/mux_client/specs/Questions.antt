-- A question to the daemon, and what is shown of its result.
use Rattle.std.specs.Prelude.{◌≡◌, ℕ, ◌⊎◌, ◌≤◌, List, []}
use Rattle.std.specs.Prelude.{Option, Result, Ok, Err}
use Rattle.std.specs.Io.KnownBytes.{append_known}
use Rattle.base_frame.specs.Frames.{framed}
use Rattle.base_frame.specs.Grammar.{IsFrame}
use Rattle.outside_io.specs.Faults.{Rose}
use Rattle.outside_io.specs.Sessions.{Session}
use Rattle.mux_client.specs.Answers.{NoFrame, OtherFrame, WhyNoAnswer, nothing}
use Rattle.rpc_message.specs.Message.{result_bytes}
use Rattle.mux_client.specs.Requests.{IsResult, question_id, question_text, shown_of}
use Rattle.mux_client.specs.Sessions.{IsFront, Passes, ReadFailed, WriteFailed}
use Rattle.mux_client.specs.declared.question.Question.{Question}
use Rattle.mux_client.specs.declared.fault.ClientFault.{ClientFault}
use Rattle.mux_client.specs.declared.fault.ClientFault.TheVariants as fault

-- an output: what was written, where it is told, and its count of faults
pub record Output : Type 0 where
  pub written : Option (List ℕ)
  pub faults : ℕ

abbrev pub output_state : {O : Type 0} → (O → Option (List ℕ)) → (O → ℕ) → O → Output
output_state written faults output = record { written = written output; faults = faults output }

-- the answer is the one frame that was heard, the question's result, and the question was sent whole
abbrev pub Answered : ℕ → Question → List ℕ → List ℕ → List ℕ → Type 0
Answered limit question heard sent answer = IsFrame limit heard answer [] × IsResult question_id answer × (sent ≡ framed (question_text question))

-- the result's bytes of a question that was answered, or why it wasn't
abbrev pub ResultOr : ℕ → Question → Session → Session → List ℕ → List ℕ → Result (List ℕ) ClientFault → Type 0
ResultOr limit question link link' heard sent (Ok value) = (answer : List ℕ) × Answered limit question heard sent answer × (value ≡ result_bytes answer)
ResultOr limit question link link' heard sent (Err why) = WhyNoAnswer limit (IsResult question_id) nothing link link' heard why

-- a question was sent on a link, and its result awaited
pub record Resulted (limit : ℕ) (question : Question) (link link' : Session) (result : Result (List ℕ) ClientFault) : Type 0 where
  pub heard : List ℕ
  pub sent : List ℕ
  pub at_link : Passes link link' heard sent
  pub order : IsFront sent (framed (question_text question))
  pub value : ResultOr limit question link link' heard sent result

-- how a question ended
abbrev pub AskedBy : ℕ → Question → Session → Session → Output → Output → List ℕ → List ℕ → List ℕ → Result (Unit {0}) ClientFault → Type 0
AskedBy limit question link link' output output' heard sent shown (Ok done) = (answer : List ℕ) × Answered limit question heard sent answer × (shown ≡ shown_of question answer)
AskedBy limit question link link' output output' heard sent shown (Err fault.Memory) = Unit {0}
AskedBy limit question link link' output output' heard sent shown (Err fault.Output) = Rose output.faults output'.faults
AskedBy limit question link link' output output' heard sent shown (Err fault.Link) = ReadFailed link link' ⊎ WriteFailed link link'
AskedBy limit question link link' output output' heard sent shown (Err fault.Answer) = NoFrame limit heard link' ⊎ OtherFrame limit heard (IsResult question_id) nothing
AskedBy limit question link link' output output' heard sent shown (Err fault.Input) = ⊥
AskedBy limit question link link' output output' heard sent shown (Err fault.Refused) = ⊥
AskedBy limit question link link' output output' heard sent shown (Err fault.Door) = ⊥

-- what a question did with its link
pub record Asked (limit : ℕ) (question : Question) (output output' : Output) (link link' : Session) (result : Result (Unit {0}) ClientFault) : Type 0 where
  pub heard : List ℕ
  pub sent : List ℕ
  pub shown : List ℕ
  pub at_link : Passes link link' heard sent
  pub writes : output'.written ≡ append_known output.written shown
  pub later : output.faults ≤ output'.faults
  pub order : IsFront sent (framed (question_text question))
  -- nothing is shown but a front of what is shown of the answer
  pub stage : (shown ≡ []) ⊎ ((answer : List ℕ) × Answered limit question heard sent answer × IsFront shown (shown_of question answer))
  pub ended : AskedBy limit question link link' output output' heard sent shown result
