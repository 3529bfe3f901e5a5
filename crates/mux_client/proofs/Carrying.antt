-- A client from its link to its end.
use Rattle.std.proofs.Common.{ℕ, List, [], ◌++◌, inl, inr, refl, sym, ap, ◌∙◌, subst, append_assoc, append-nil}
use Rattle.std.specs.Prelude.{Option, Some, None, Result, Ok, Err}
use Rattle.outside_io.specs.Sessions.{Session}
use Rattle.base_frame.specs.Frames.{framed}
use Rattle.base_frame.specs.Grammar.{IsFrame}
use Rattle.mux_client.specs.Answers.{Exchanged, WhyNoAnswer}
use Rattle.mux_client.specs.Copies.{RelayEnded, Relayed}
use Rattle.mux_client.specs.Requests.{IsRefusal, IsResult, first_frame, open_id, open_text}
use Rattle.mux_client.specs.Runs.{Behind, Carried, EndedBy, opened, unopened}
use Rattle.mux_client.specs.Sessions.{Passes}
use Rattle.mux_client.specs.declared.fault.ClientFault.{ClientFault}
use Rattle.mux_client.specs.declared.fault.ClientFault.TheVariants as fault
use Rattle.mux_client.proofs.Passing.{front_behind, front_longer, front_none, passes_none, passes_then, read_failed_late, write_failed_late}

-- memory was wanted before anything was sent
pub carried_none : (limit : ℕ) (server : Option (List ℕ)) (editor link : Session) → Carried limit server editor editor link link (Err fault.Memory)
carried_none limit server editor link = record {
  heard = [];
  sent = [];
  typed = [];
  shown = [];
  at_link = passes_none link;
  at_editor = passes_none editor;
  order = front_none (first_frame server ++ []);
  stage = unopened refl refl;
  ended = tt;
}

-- no answer was taken
pub carried_unopened : (limit : ℕ) (name : List ℕ) (editor link link' : Session) (e : ClientFault) → Exchanged limit (open_text name) (IsResult open_id) (IsRefusal open_id) link link' (Err e)
    → Carried limit (Some name) editor editor link link' (Err e)
carried_unopened limit name editor link link' e x = record {
  heard = x.heard;
  sent = x.sent;
  typed = [];
  shown = [];
  at_link = x.passes;
  at_editor = passes_none editor;
  order = front_longer x.sent (framed (open_text name)) [] x.front;
  stage = unopened refl refl;
  ended = go e x.taken;
}
  where
    go : (e : ClientFault) → WhyNoAnswer limit (IsResult open_id) (IsRefusal open_id) link link' x.heard e → EndedBy limit (Some name) link link' editor editor x.heard x.sent [] [] (Err e)
    go fault.Memory k = tt
    go fault.Link k = k
    go fault.Answer k = k
    go fault.Refused k = k
    go fault.Door k = absurd k
    go fault.Input k = absurd k
    go fault.Output k = absurd k

-- what was heard behind the first frame is what is behind the answer
frame_longer : (limit : ℕ) (heard answer more : List ℕ) → IsFrame limit heard answer [] → IsFrame limit (heard ++ more) answer more
frame_longer limit heard answer more f = record {
  block = f.block;
  bytes = ap (λ l. l ++ more) f.bytes ∙ (append_assoc f.block (answer ++ []) more ∙ ap (λ l. f.block ++ l) (ap (λ l. l ++ more) (append-nil answer)));
  header = f.header;
}

-- how it ended, with what was heard and sent before
module _ (limit : ℕ) (server : Option (List ℕ)) (editor editor' link link1 link' : Session) (typed shown heard sent before : List ℕ)
    (passes : Passes link link1 before (first_frame server)) (behind : Behind limit server (before ++ heard) heard) where
  ended_by : (r : Result (Unit {0}) ClientFault) → RelayEnded editor editor' link1 link' typed shown heard sent r
      → EndedBy limit server link link' editor editor' (before ++ heard) (first_frame server ++ sent) typed shown r
  ended_by (Ok done) k = record {
    input_ended = k.0;
    link_ended = k.1;
    all_sent = ap (λ l. first_frame server ++ l) k.2;
    all_shown = subst (Behind limit server (before ++ heard)) (sym k.3) behind;
  }
  ended_by (Err fault.Input) k = k
  ended_by (Err fault.Output) k = k
  ended_by (Err fault.Link) (inl k) = inl (read_failed_late link link1 link' before (first_frame server) passes k)
  ended_by (Err fault.Link) (inr k) = inr (write_failed_late link link1 link' before (first_frame server) passes k)
  ended_by (Err fault.Memory) k = absurd k
  ended_by (Err fault.Door) k = absurd k
  ended_by (Err fault.Refused) k = absurd k
  ended_by (Err fault.Answer) k = absurd k

carried_behind : (limit : ℕ) (server : Option (List ℕ)) (editor editor' link link1 link' : Session) (before : List ℕ) (result : Result (Unit {0}) ClientFault)
    → Passes link link1 before (first_frame server) → ((heard : List ℕ) → Behind limit server (before ++ heard) heard) → Relayed editor editor' link1 link' result
    → Carried limit server editor editor' link link' result
carried_behind limit server editor editor' link link1 link' before result passes behind x = record {
  heard = before ++ x.heard;
  sent = first_frame server ++ x.sent;
  typed = x.typed;
  shown = x.shown;
  at_link = passes_then link link1 link' before (first_frame server) x.heard x.sent passes x.at_link;
  at_editor = x.at_editor;
  order = front_behind (first_frame server) x.sent x.typed x.sends;
  stage = opened x.heard (behind x.heard) (x.sent, refl) x.shows;
  ended = ended_by limit server editor editor' link link1 link' x.typed x.shown x.heard x.sent before passes (behind x.heard) result x.ended;
}

pub carried_plain : (limit : ℕ) (editor editor' link link' : Session) (result : Result (Unit {0}) ClientFault) → Relayed editor editor' link link' result → Carried limit None editor editor' link link' result
carried_plain limit editor editor' link link' result x = carried_behind limit None editor editor' link link link' [] result (passes_none link) (λ heard. refl) x

pub carried_opened : (limit : ℕ) (name answer : List ℕ) (editor editor' link link1 link' : Session) (result : Result (Unit {0}) ClientFault)
    → Exchanged limit (open_text name) (IsResult open_id) (IsRefusal open_id) link link1 (Ok answer) → Relayed editor editor' link1 link' result → Carried limit (Some name) editor editor' link link' result
carried_opened limit name answer editor editor' link link1 link' result x y =
    carried_behind limit (Some name) editor editor' link link1 link' x.heard result (subst (Passes link link1 x.heard) x.taken.2 x.passes)
    (λ heard. (answer, frame_longer limit x.heard answer heard x.taken.0, x.taken.1)) y
