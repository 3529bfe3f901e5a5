use Rattle.std.proofs.Common.{◌≡◌, ℕ, List, ◌++◌, length, map}
use Rattle.focus_switch.specs.declared.version.DocumentVersion.{DocumentVersion}
use Rattle.id_rewrite.specs.response_route.specs.Versions.{stamp_of}
use Rattle.mux_tables.specs.Notes.{now_version, stamp_in}
use Rattle.mux_tables.proofs.notes.now_stamps.Given as goal

-- what was taken from the end is in the table
abbrev pub invariant-loop-document : goal.invariant-loop-document
invariant-loop-document l = (rest : List DocumentVersion) × (l.fn.versions.items ≡ l.left.items ++ rest) × ((u : List ℕ) → stamp_of u l.stamps ≡ stamp_in u (map (now_version l.e l.documents) rest))

abbrev pub decreases-loop-document : goal.decreases-loop-document
decreases-loop-document l = length l.left.items
