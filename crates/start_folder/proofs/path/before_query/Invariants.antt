use Rattle.std.proofs.Common.{◌≡◌, ◌≤◌, ◌-◌, ◌++◌, length, take, drop}
use Rattle.start_folder.specs.Paths.{before_query}
use Rattle.start_folder.proofs.path.before_query.Given as goal

abbrev pub invariant-loop-end : goal.invariant-loop-end
invariant-loop-end l = (l.end ≤ length l.uri) × (take l.end l.uri ++ before_query (drop l.end l.uri) ≡ before_query l.uri)

abbrev pub decreases-loop-end : goal.decreases-loop-end
decreases-loop-end l = length l.uri - l.end
