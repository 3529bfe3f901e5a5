-- What is written, and what the changes that are left make of the rest, is the whole.
use Rattle.std.proofs.Common.{◌≡◌, ◌++◌, length, drop}
use Rattle.json_text.specs.Changes.{edits_of}
use Rattle.json_text.specs.Replace.{replace, replace_from, RiseFrom}
use Rattle.json_text.proofs.change.splice.Given as goal

abbrev pub invariant-loop-change : goal.invariant-loop-change
invariant-loop-change l = record {
  rise : RiseFrom l.at (length l.bytes) (edits_of (drop l.change-index l.changes));
  whole : l.written.items ++ replace_from l.at l.bytes (edits_of (drop l.change-index l.changes)) ≡ replace l.bytes (edits_of l.changes);
}
