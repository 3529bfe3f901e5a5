use Rattle.std.proofs.Common.{codes}
use Rattle.capability_meet.proofs.Spots.{document_letters, left_first, left_second, offset_letters, tests}
use Rattle.capability_meet.proofs.spot.is_left_out.Goals as goal

pub returns-then-spells_text : goal.returns-then-spells_text
returns-then-spells_text c = λ cs h. left_first c.args.spot cs c.spells_text.result c.in-Top.is (tests (codes "notebookDocument") cs c.spells_text.result document_letters (c.spells_text.ensures cs h)) c.if-spells_text.true

pub returns-else-spells_text : goal.returns-else-spells_text
returns-else-spells_text c = λ cs h. left_second c.args.spot cs c.spells_text.result c.spells_text-else-spells_text.result c.in-Top.is (tests (codes "notebookDocument") cs c.spells_text.result document_letters (c.spells_text.ensures cs h)) c.if-spells_text.false (tests (codes "offsetEncoding") cs c.spells_text-else-spells_text.result offset_letters (c.spells_text-else-spells_text.ensures cs h))
