use Rattle.std.proofs.Common.{◌≡◌, sym, ◌∙◌, ap, arith}
use Rattle.std.specs.Prelude.{max}
use Rattle.doc_text.specs.Changes.{offset_in}
use Rattle.doc_text.specs.declared.change.Position.{Position}
use Rattle.text_pieces.specs.Pieces.{text_of}
use Rattle.text_pieces.proofs.Joined.{cut_order, cut_no_order}
use Rattle.text_pieces.proofs.cut.find_range.Goals as goal

pub returns-then-is_before-clause-end : goal.returns-then-is_before-clause-end
returns-then-is_before-clause-end c =
    let o = cut_order c.args.pieces.now c.in_ok-end.end c.in_ok-start.start c.in_ok-end.ensures.is c.in_ok-start.ensures.is (sym c.is_before.ensures ∙ c.if-is_before.true) in
    omega (arith, o, c.in_ok-end.ensures.at, c.in_ok-start.ensures.at)

pub returns-else-is_before-clause-end : goal.returns-else-is_before-clause-end
returns-else-is_before-clause-end c =
    let o = cut_no_order c.args.pieces.now c.in_ok-end.end c.in_ok-start.start c.in_ok-end.ensures.is c.in_ok-start.ensures.is (sym c.is_before.ensures ∙ c.if-is_before.false) in
    omega (arith, o, c.in_ok-end.ensures.at, c.in_ok-start.ensures.at)

pub returns-then-is_one-clause-end : goal.returns-then-is_one-clause-end
returns-then-is_one-clause-end c =
    let at = offset_in c.args.encoding c.args.range.start (text_of c.args.pieces.now) in
    let twice : at ≡ max at at = omega arith in
    c.in_ok-start.ensures.at ∙ (twice ∙ ap (λ (p : Position). max at (offset_in c.args.encoding p (text_of c.args.pieces.now))) (c.is_one.ensures c.if-is_one.true))
