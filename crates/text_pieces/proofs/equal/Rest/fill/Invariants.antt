use Rattle.std.proofs.Common.{◌≡◌, length}
use Rattle.text_pieces.specs.Rests.{rest_text}
use Rattle.text_pieces.proofs.equal.Rest.fill.Given as goal

abbrev pub invariant-loop-next : goal.invariant-loop-next
invariant-loop-next l = rest_text l.self ≡ rest_text l.fn.self

abbrev pub decreases-loop-next : goal.decreases-loop-next
decreases-loop-next l = length l.self.behind.now
