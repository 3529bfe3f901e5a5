use Rattle.std.proofs.Common.{◌≡◌, ◌++◌, length, take}
use Rattle.doc_text.specs.Gaps.{behind_text, front_text, gap_text}
use Rattle.doc_text.proofs.gap.Gap.add_to.Given as goal

abbrev pub invariant-loop-passed : goal.invariant-loop-passed
invariant-loop-passed l = l.text.bytes.items ≡ l.fn.text.bytes.items ++ front_text (take l.passed-index l.fn.self.front.items)

abbrev pub invariant-loop-piece : goal.invariant-loop-piece
invariant-loop-piece l = l.text.bytes.items ++ behind_text l.self.behind.items ≡ l.fn.text.bytes.items ++ gap_text l.fn.self

abbrev pub decreases-loop-piece : goal.decreases-loop-piece
decreases-loop-piece l = length l.self.behind.items
