use Rattle.std.proofs.Common.{◌≡◌, take}
use Rattle.doc_text.specs.Changes.{changed_all}
use Rattle.doc_text.specs.Gaps.{Stands, gap_text}
use Rattle.doc_text.proofs.doc_text.DocText.behind.Given as goal

abbrev pub invariant-loop-change : goal.invariant-loop-change
invariant-loop-change l = record { text : gap_text l.gap ≡ changed_all l.fn.encoding (take l.change-index l.changes) l.self; stands : Stands l.gap; encoding : l.gap.encoding ≡ l.fn.encoding }
