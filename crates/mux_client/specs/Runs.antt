-- A client: its input goes to the link, and the link to its output.
use Rattle.std.specs.Prelude.{◌≡◌, ℕ, ◌⊎◌, List, [], ◌++◌}
use Rattle.std.specs.Prelude.{Option, Some, None, Result, Ok, Err}
use Rattle.base_frame.specs.Grammar.{IsFrame}
use Rattle.outside_io.specs.Sessions.{Session}
use Rattle.mux_client.specs.Answers.{Begins, NoFrame, OtherFrame}
use Rattle.mux_client.specs.Requests.{IsRefusal, IsResult, first_frame, open_id}
use Rattle.mux_client.specs.Sessions.{IsEnded, IsFront, Passes, ReadFailed, WriteFailed}
use Rattle.mux_client.specs.declared.fault.ClientFault.{ClientFault}
use Rattle.mux_client.specs.declared.fault.ClientFault.TheVariants as fault

-- what was heard behind the answer, which is the result asked for; all of it where no server is named and no answer asked for
abbrev pub Behind : ℕ → Option (List ℕ) → List ℕ → List ℕ → Type 0
Behind limit None heard behind = heard ≡ behind
Behind limit (Some name) heard behind = (answer : List ℕ) × IsFrame limit heard answer behind × IsResult open_id answer

-- until the answer is taken nothing is read from the input and nothing is shown. Behind it the first frame was sent whole, and what is shown is a
-- front of what was heard behind the answer.
pub data Stage (limit : ℕ) (server : Option (List ℕ)) (heard sent typed shown : List ℕ) : Type 0 where
  unopened : typed ≡ [] → shown ≡ [] → Stage limit server heard sent typed shown
  opened : (behind : List ℕ) → Behind limit server heard behind → IsFront (first_frame server) sent → IsFront shown behind → Stage limit server heard sent typed shown

-- the input and the link ended, all of the input was sent, and all of the link behind the answer was shown
pub record Whole (limit : ℕ) (server : Option (List ℕ)) (link editor : Session) (heard sent typed shown : List ℕ) : Type 0 where
  pub input_ended : IsEnded editor.left
  pub link_ended : IsEnded link.left
  pub all_sent : sent ≡ first_frame server ++ typed
  pub all_shown : Behind limit server heard shown

-- where an answer is asked for
abbrev pub OfServer : Option (List ℕ) → Type 0 → Type 0
OfServer None what = ⊥
OfServer (Some name) what = what

-- how a client ended, of the link and of its input and output (`editor`), each before and after
abbrev pub EndedBy : ℕ → Option (List ℕ) → Session → Session → Session → Session → List ℕ → List ℕ → List ℕ → List ℕ → Result (Unit {0}) ClientFault → Type 0
EndedBy limit server link link' editor editor' heard sent typed shown (Ok done) = Whole limit server link' editor' heard sent typed shown
EndedBy limit server link link' editor editor' heard sent typed shown (Err fault.Memory) = Unit {0}
EndedBy limit server link link' editor editor' heard sent typed shown (Err fault.Input) = ReadFailed editor editor'
EndedBy limit server link link' editor editor' heard sent typed shown (Err fault.Output) = WriteFailed editor editor'
EndedBy limit server link link' editor editor' heard sent typed shown (Err fault.Link) = ReadFailed link link' ⊎ WriteFailed link link'
EndedBy limit server link link' editor editor' heard sent typed shown (Err fault.Refused) = OfServer server ((answer : List ℕ) × Begins limit heard answer × IsRefusal open_id answer)
EndedBy limit server link link' editor editor' heard sent typed shown (Err fault.Answer) = OfServer server (NoFrame limit heard link' ⊎ OtherFrame limit heard (IsResult open_id) (IsRefusal open_id))
EndedBy limit server link link' editor editor' heard sent typed shown (Err fault.Door) = ⊥

-- what a client did with its link
pub record Carried (limit : ℕ) (server : Option (List ℕ)) (editor editor' : Session) (link link' : Session) (result : Result (Unit {0}) ClientFault) : Type 0 where
  pub heard : List ℕ
  pub sent : List ℕ
  pub typed : List ℕ
  pub shown : List ℕ
  pub at_link : Passes link link' heard sent
  pub at_editor : Passes editor editor' typed shown
  -- what was sent is a front of the first frame, where there is one, and then the input
  pub order : IsFront sent (first_frame server ++ typed)
  pub stage : Stage limit server heard sent typed shown
  pub ended : EndedBy limit server link link' editor editor' heard sent typed shown result
