use Rattle.std.proofs.Common.{◌≡◌, ◌≤◌, length}
use Rattle.std.specs.Prelude.{MatchOption}
use Rattle.json_nodes.proofs.Members.{left}
use Rattle.json_span.proofs.Walks.{Walk}
use Rattle.json_rows.proofs.spans.count_items.Given as goal

abbrev pub invariant-loop-next : goal.invariant-loop-next
invariant-loop-next l = record {
  walk : Walk l.tape l.node (λ t n. l.count ≡ n) l.next;
  small : MatchOption l.next (Unit {0}) (λ m. l.count ≤ m);
}

abbrev pub decreases-loop-next : goal.decreases-loop-next
decreases-loop-next l = left (length l.tape.nodes) l.next
