use Rattle.std.proofs.Common.{◌≡◌, length}
use Rattle.doc_text.specs.Gaps.{Stands, gap_text}
use Rattle.doc_text.proofs.gap.Gap.back.Given as goal

abbrev pub invariant-loop-place : goal.invariant-loop-place
invariant-loop-place l = record { text : gap_text l.self ≡ gap_text l.fn.self; stands : Stands l.self; encoding : l.self.encoding ≡ l.fn.self.encoding }

abbrev pub decreases-loop-place : goal.decreases-loop-place
decreases-loop-place l = length l.self.front.items
