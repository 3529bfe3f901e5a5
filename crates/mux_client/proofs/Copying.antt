-- A copy, a piece at a time, and two copies side by side.
use Rattle.std.proofs.Common.{◌≡◌, ℕ, ◌≤◌, true, false, List, [], ◌++◌, inl, inr, refl, sym, ap, ◌∙◌, subst, arith}
use Rattle.std.specs.Prelude.{Option, Result}
use Rattle.std.specs.Io.KnownBytes.{append_known}
use Rattle.outside_io.specs.Faults.{Rose}
use Rattle.outside_io.specs.Sessions.{Session}
use Rattle.mux_client.specs.Pieces.{Came, Went}
use Rattle.mux_client.specs.Copies.{Copies, CopiesSoFar, CopyEnded, RelayEnded, Relayed, outcome_of}
use Rattle.mux_client.specs.Sessions.{IsEnded, Passes}
use Rattle.mux_client.specs.declared.copies.Copied.{Copied}
use Rattle.mux_client.specs.declared.copies.Copied.TheVariants as copied
use Rattle.mux_client.specs.declared.fault.ClientFault.{ClientFault}
use Rattle.mux_client.proofs.Passing.{front_all, front_behind, passes_none, passes_read, passes_then, rose_from, rose_on}

pub copies_none : (s : Session) → CopiesSoFar s s
copies_none s = record { bytes = []; passes = passes_none s }

-- a read behind so much of a copy, and a write
module _ (a : Session) (t0 t1 l0 l1 w0 w1 : Option (List ℕ)) (f0 f1 g0 g1 : ℕ) where
  abbrev pub before : Session
  before = record { read = t0; left = l0; written = w0; source_faults = f0; sink_faults = g0 }

  abbrev pub got : Session
  got = record { read = t1; left = l1; written = w0; source_faults = f1; sink_faults = g0 }

  abbrev pub after : Session
  after = record { read = t1; left = l1; written = w1; source_faults = f1; sink_faults = g1 }

  came_passes : (piece : List ℕ) → Came t0 t1 l0 l1 piece → f0 ≤ f1 → Passes before got piece []
  came_passes piece x h = passes_read t0 t1 l0 l1 w0 f0 f1 g0 piece x.leaves x.reads h

  pub copy_ended : CopiesSoFar a before → Came t0 t1 l0 l1 [] × IsEnded l1 → f0 ≤ f1 → Copies a got copied.All
  copy_ended f x h = record {
    read = f.bytes ++ [];
    written = f.bytes ++ [];
    passes = passes_then a before got f.bytes f.bytes [] [] f.passes (came_passes [] x.0 h);
    front = front_all (f.bytes ++ []);
    ended = (refl, x.1);
  }

  pub copy_unread : CopiesSoFar a before → Came t0 t1 l0 l1 [] × Rose f0 f1 → f0 ≤ f1 → Copies a got copied.ReadFault
  copy_unread f x h = record {
    read = f.bytes ++ [];
    written = f.bytes ++ [];
    passes = passes_then a before got f.bytes f.bytes [] [] f.passes (came_passes [] x.0 h);
    front = front_all (f.bytes ++ []);
    ended = rose_from a.source_faults f0 f1 f.passes.source_later x.1;
  }

  both : (piece part : List ℕ) → Came t0 t1 l0 l1 piece → f0 ≤ f1 → w1 ≡ append_known w0 part → g0 ≤ g1 → Passes before after piece part
  both piece part x h w k = record { reads = x.reads; leaves = x.leaves; writes = w; source_later = h; sink_later = k }

  pub copy_unwritten : (piece : List ℕ) → CopiesSoFar a before → Came t0 t1 l0 l1 piece → f0 ≤ f1 → Went w0 w1 g0 g1 piece false → Copies a after copied.WriteFault
  copy_unwritten piece f x h w = record {
    read = f.bytes ++ piece;
    written = f.bytes ++ w.part;
    passes = passes_then a before after f.bytes f.bytes piece w.part f.passes (both piece w.part x h w.writes w.later);
    front = front_behind f.bytes w.part piece w.front;
    ended = rose_from a.sink_faults g0 g1 f.passes.sink_later (w.failed refl);
  }

  pub copy_more : (piece : List ℕ) → CopiesSoFar a before → Came t0 t1 l0 l1 piece → f0 ≤ f1 → Went w0 w1 g0 g1 piece true → CopiesSoFar a after
  copy_more piece f x h w = record {
    bytes = f.bytes ++ piece;
    passes = passes_then a before after f.bytes f.bytes piece piece f.passes (both piece piece x h (w.writes ∙ ap (append_known w0) (w.all refl)) w.later);
  }

-- the sink was closed behind a copy
pub copies_closed : (a : Session) (taken left written written' : Option (List ℕ)) (f g g' : ℕ) (result : Copied)
    → Copies a (record { read = taken; left = left; written = written; source_faults = f; sink_faults = g }) result → written' ≡ written → g ≤ g'
    → Copies a (record { read = taken; left = left; written = written'; source_faults = f; sink_faults = g' }) result
copies_closed a taken left written written' f g g' result x e h = record {
  read = x.read;
  written = x.written;
  passes = record {
    reads = x.passes.reads;
    leaves = x.passes.leaves;
    writes = e ∙ x.passes.writes;
    source_later = x.passes.source_later;
    sink_later = (let y = x.passes.sink_later in omega arith);
  };
  front = x.front;
  ended = go result x.ended;
}
  where
    go : (r : Copied) → CopyEnded a (record { read = taken; left = left; written = written; source_faults = f; sink_faults = g }) x.read x.written r
        → CopyEnded a (record { read = taken; left = left; written = written'; source_faults = f; sink_faults = g' }) x.read x.written r
    go copied.All k = k
    go copied.ReadFault k = k
    go copied.WriteFault k = rose_on a.sink_faults g g' k h

-- a session of one's source and the other one's sink
abbrev pub mixed : Session → Session → Session
mixed a b = record { read = a.read; left = a.left; written = b.written; source_faults = a.source_faults; sink_faults = b.sink_faults }

passes_mixed : (a a' b b' : Session) (r w r' w' : List ℕ) → Passes a a' r w → Passes b b' r' w' → Passes (mixed a b) (mixed a' b') r w'
passes_mixed a a' b b' r w r' w' p q = record { reads = p.reads; leaves = p.leaves; writes = q.writes; source_later = p.source_later; sink_later = q.sink_later }

-- a copy of the input to the link (`a`), and one of the link to the output (`b`)
pub relayed : (a a' b b' : Session) (sent shown : Copied) → Copies a a' sent → Copies b b' shown → Relayed (mixed a b) (mixed a' b') (mixed b a) (mixed b' a') (outcome_of sent shown)
relayed a a' b b' sent shown x y = record {
  typed = x.read;
  shown = y.written;
  heard = y.read;
  sent = x.written;
  at_editor = passes_mixed a a' b b' x.read x.written y.read y.written x.passes y.passes;
  at_link = passes_mixed b b' a a' y.read y.written x.read x.written y.passes x.passes;
  sends = x.front;
  shows = y.front;
  ended = go sent shown x.ended y.ended;
}
  where
    go : (s t : Copied) → CopyEnded a a' x.read x.written s → CopyEnded b b' y.read y.written t
        → RelayEnded (mixed a b) (mixed a' b') (mixed b a) (mixed b' a') x.read y.written y.read x.written (outcome_of s t)
    go copied.ReadFault copied.All k m = k
    go copied.ReadFault copied.ReadFault k m = k
    go copied.ReadFault copied.WriteFault k m = k
    go copied.All copied.WriteFault k m = m
    go copied.WriteFault copied.WriteFault k m = m
    go copied.WriteFault copied.All k m = inr k
    go copied.WriteFault copied.ReadFault k m = inr k
    go copied.All copied.ReadFault k m = inl m
    go copied.All copied.All k m = (k.1, m.1, k.0, m.0)

-- the same by parts: of the input `i`, the link's source `s` and sink `k`, and the output `o`
pub relayed_by : (it it' il il' st st' sl sl' kw kw' ow ow' : Option (List ℕ)) (fi fi' fs fs' fk fk' fo fo' : ℕ) (sent shown : Copied) (r : Result (Unit {0}) ClientFault)
    → Copies (record { read = it; left = il; written = kw; source_faults = fi; sink_faults = fk }) (record { read = it'; left = il'; written = kw'; source_faults = fi'; sink_faults = fk' }) sent
    → Copies (record { read = st; left = sl; written = ow; source_faults = fs; sink_faults = fo }) (record { read = st'; left = sl'; written = ow'; source_faults = fs'; sink_faults = fo' }) shown
    → r ≡ outcome_of sent shown
    → Relayed (record { read = it; left = il; written = ow; source_faults = fi; sink_faults = fo }) (record { read = it'; left = il'; written = ow'; source_faults = fi'; sink_faults = fo' })
    (record { read = st; left = sl; written = kw; source_faults = fs; sink_faults = fk }) (record { read = st'; left = sl'; written = kw'; source_faults = fs'; sink_faults = fk' }) r
relayed_by it it' il il' st st' sl sl' kw kw' ow ow' fi fi' fs fs' fk fk' fo fo' sent shown r x y e =
    subst (Relayed (record { read = it; left = il; written = ow; source_faults = fi; sink_faults = fo }) (record { read = it'; left = il'; written = ow'; source_faults = fi'; sink_faults = fo' })
    (record { read = st; left = sl; written = kw; source_faults = fs; sink_faults = fk }) (record { read = st'; left = sl'; written = kw'; source_faults = fs'; sink_faults = fk' })) (sym e)
    (relayed (record { read = it; left = il; written = kw; source_faults = fi; sink_faults = fk }) (record { read = it'; left = il'; written = kw'; source_faults = fi'; sink_faults = fk' })
    (record { read = st; left = sl; written = ow; source_faults = fs; sink_faults = fo }) (record { read = st'; left = sl'; written = ow'; source_faults = fs'; sink_faults = fo' }) sent shown x y)
