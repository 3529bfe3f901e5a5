-- Sessions over a link or with a program: what was read from the source and written to the sink.
use Rattle.std.specs.Prelude.{ℕ, List, Option}

-- the bytes read, the bytes left and the bytes written, where they are told, and the counts of faults of the source and of the sink
pub record Session : Type 0 where
  pub read : Option (List ℕ)
  pub left : Option (List ℕ)
  pub written : Option (List ℕ)
  pub source_faults : ℕ
  pub sink_faults : ℕ

-- the session of a source and a sink, by what a source and a sink of their types tell
abbrev pub session_of : {I O : Type 0} → (I → Option (List ℕ)) → (I → Option (List ℕ)) → (I → ℕ) → (O → Option (List ℕ)) → (O → ℕ) → I → O → Session
session_of taken left source_faults written sink_faults source sink = record {
  read = taken source;
  left = left source;
  written = written sink;
  source_faults = source_faults source;
  sink_faults = sink_faults sink;
}
