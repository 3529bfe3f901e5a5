use Rattle.std.proofs.Common.{◌<◌, length}
use Rattle.json_rows.proofs.spans.bytes_of.Given as goal

abbrev pub invariant-loop : goal.invariant-loop
invariant-loop l = l.item < length l.tape.nodes
