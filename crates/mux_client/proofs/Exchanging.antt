-- A request that is sent, and the first frame that comes back.
use Rattle.std.proofs.Common.{◌≡◌, ℕ, true, false, List, [], inl, inr, refl, ap, ◌∙◌, subst}
use Rattle.std.specs.Prelude.{Option, Result, Ok, Err}
use Rattle.std.specs.Io.KnownBytes.{append_known}
use Rattle.outside_io.specs.Sessions.{Session}
use Rattle.base_frame.specs.Frames.{framed}
use Rattle.mux_client.specs.Answers.{Exchanged, IsFirst, Taken, TakenFirst, WhyNoAnswer, WhyNoFrame, anything, nothing}
use Rattle.mux_client.specs.Pieces.{Went}
use Rattle.mux_client.specs.Sessions.{IsFront}
use Rattle.mux_client.specs.declared.fault.ClientFault.{ClientFault}
use Rattle.mux_client.specs.declared.fault.ClientFault.TheVariants as fault
use Rattle.mux_client.proofs.Passing.{front_all, front_none, passes_none, passes_write}

-- memory was wanted before anything was sent
pub unsent : (limit : ℕ) (request : List ℕ) (Wanted Refusal : List ℕ → Type 0) (s : Session) → Exchanged limit request Wanted Refusal s s (Err fault.Memory)
unsent limit request Wanted Refusal s = record { heard = []; sent = []; passes = passes_none s; front = front_none (framed request); taken = tt }

-- a write failed
module _ (limit : ℕ) (request bytes : List ℕ) (taken left written written' : Option (List ℕ)) (f g g' : ℕ) where
  pub unwritten : bytes ≡ framed request → Went written written' g g' bytes false
      → Exchanged limit request anything nothing (record { read = taken; left = left; written = written; source_faults = f; sink_faults = g })
      (record { read = taken; left = left; written = written'; source_faults = f; sink_faults = g' }) (Err fault.Link)
  unwritten is w = record {
    heard = [];
    sent = w.part;
    passes = passes_write taken left written written' f g g' w.part w.writes w.later;
    front = subst (IsFront w.part) is w.front;
    taken = inr (w.failed refl);
  }

  -- the request was sent, and a frame awaited
  pub awaited : (taken' left' : Option (List ℕ)) (f' : ℕ) (result : Result (List ℕ) ClientFault) → bytes ≡ framed request → Went written written' g g' bytes true → TakenFirst limit taken taken' left left' f f' result
      → Exchanged limit request anything nothing (record { read = taken; left = left; written = written; source_faults = f; sink_faults = g })
      (record { read = taken'; left = left'; written = written'; source_faults = f'; sink_faults = g' }) result
  awaited taken' left' f' result is w x = record {
    heard = x.heard;
    sent = bytes;
    passes = record { reads = x.reads; leaves = x.leaves; writes = w.writes ∙ ap (append_known written) (w.all refl); source_later = x.later; sink_later = w.later };
    front = subst (IsFront bytes) is (front_all bytes);
    taken = go result x.first;
  }
    where
      why : (e : ClientFault) → WhyNoFrame limit left' f f' x.heard e → WhyNoAnswer limit anything nothing (record { read = taken; left = left; written = written; source_faults = f; sink_faults = g }) (record { read = taken'; left = left'; written = written'; source_faults = f'; sink_faults = g' }) x.heard e
      why fault.Memory k = tt
      why fault.Link k = inl k
      why fault.Answer k = inl k
      why fault.Refused k = absurd k
      why fault.Door k = absurd k
      why fault.Input k = absurd k
      why fault.Output k = absurd k

      go : (r : Result (List ℕ) ClientFault) → IsFirst limit left' f f' x.heard r → Taken limit request anything nothing (record { read = taken; left = left; written = written; source_faults = f; sink_faults = g }) (record { read = taken'; left = left'; written = written'; source_faults = f'; sink_faults = g' }) x.heard bytes r
      go (Ok answer) k = (k, tt, is)
      go (Err e) k = why e k

-- the first frame was looked at
module _ (limit : ℕ) (request : List ℕ) (Wanted Refusal : List ℕ → Type 0) (before after : Session) where
  pub wanted : (answer : List ℕ) → Exchanged limit request anything nothing before after (Ok answer) → Wanted answer → Exchanged limit request Wanted Refusal before after (Ok answer)
  wanted answer x h = record { heard = x.heard; sent = x.sent; passes = x.passes; front = x.front; taken = (x.taken.0, h, x.taken.2) }

  pub refused : (answer : List ℕ) → Exchanged limit request anything nothing before after (Ok answer) → Refusal answer → Exchanged limit request Wanted Refusal before after (Err fault.Refused)
  refused answer x h = record { heard = x.heard; sent = x.sent; passes = x.passes; front = x.front; taken = (answer, ([], x.taken.0), h) }

  pub unwanted : (answer : List ℕ) → Exchanged limit request anything nothing before after (Ok answer) → (Wanted answer → ⊥) × (Refusal answer → ⊥) → Exchanged limit request Wanted Refusal before after (Err fault.Answer)
  unwanted answer x h = record { heard = x.heard; sent = x.sent; passes = x.passes; front = x.front; taken = inr (answer, ([], x.taken.0), h.0, h.1) }

  pub unlooked : (answer : List ℕ) → Exchanged limit request anything nothing before after (Ok answer) → Exchanged limit request Wanted Refusal before after (Err fault.Memory)
  unlooked answer x = record { heard = x.heard; sent = x.sent; passes = x.passes; front = x.front; taken = tt }

  pub no_answer : (e : ClientFault) → Exchanged limit request anything nothing before after (Err e) → Exchanged limit request Wanted Refusal before after (Err e)
  no_answer e x = record { heard = x.heard; sent = x.sent; passes = x.passes; front = x.front; taken = go e x.taken }
    where
      go : (e : ClientFault) → WhyNoAnswer limit anything nothing before after x.heard e → WhyNoAnswer limit Wanted Refusal before after x.heard e
      go fault.Memory k = tt
      go fault.Link k = k
      go fault.Answer (inl k) = inl k
      go fault.Answer (inr k) = absurd (k.2 tt)
      go fault.Refused k = absurd k.2
      go fault.Door k = absurd k
      go fault.Input k = absurd k
      go fault.Output k = absurd k
