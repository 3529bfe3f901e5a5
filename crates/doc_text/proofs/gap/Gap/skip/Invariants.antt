use Rattle.std.proofs.Common.{◌≡◌, ◌+◌, length}
use Rattle.doc_text.specs.Gaps.{behind_text}
use Rattle.doc_text.proofs.Gaps.{Skipping}
use Rattle.doc_text.proofs.gap.Gap.skip.Given as goal

abbrev pub invariant-loop-taken : goal.invariant-loop-taken
invariant-loop-taken l = record { skipping : Skipping l.fn.self l.place l.self.behind.items l.spot; front : l.self.front.items ≡ l.fn.self.front.items; spot : l.self.spot ≡ l.fn.self.spot; encoding : l.self.encoding ≡ l.fn.self.encoding }

abbrev pub decreases-loop-taken : goal.decreases-loop-taken
decreases-loop-taken l = length (behind_text l.self.behind.items) + length l.self.behind.items
