use Rattle.std.proofs.Common.{◌≡◌, ◌+◌, true, length}
use Rattle.position_codec.specs.Spots.{ahead}
use Rattle.doc_text.specs.Gaps.{Stands, behind_text, gap_text}
use Rattle.doc_text.proofs.gap.Gap.forward.Given as goal

abbrev pub invariant-loop-taken : goal.invariant-loop-taken
invariant-loop-taken l = record { text : gap_text l.self ≡ gap_text l.fn.self; stands : Stands l.self; encoding : l.self.encoding ≡ l.fn.self.encoding; ahead : ahead l.self.spot l.place.line l.place.character ≡ true }

abbrev pub decreases-loop-taken : goal.decreases-loop-taken
decreases-loop-taken l = length (behind_text l.self.behind.items) + length l.self.behind.items
