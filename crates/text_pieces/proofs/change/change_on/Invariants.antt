use Rattle.std.proofs.Common.{◌≡◌, take}
use Rattle.doc_text.specs.Changes.{changed_all}
use Rattle.text_pieces.specs.Pieces.{text_of}
use Rattle.text_pieces.proofs.change.change_on.Given as goal

abbrev pub invariant-loop-one : goal.invariant-loop-one
invariant-loop-one l = text_of l.after.items ≡ changed_all l.encoding (take l.one-index l.changes) (text_of l.fn.pieces.items)
