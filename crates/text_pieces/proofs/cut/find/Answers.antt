use Rattle.std.proofs.Common.{length, sym, ap, subst, ◌∙◌, arith}
use Rattle.std.specs.Prelude.{IsUtf8}
use Rattle.std.specs.Str.{chars}
use Rattle.position_codec.specs.Spots.{Advances, spot_behind}
use Rattle.text_pieces.proofs.Finding.{Passing, passing_starts, passing_on, found_end, found_inside}
use Rattle.text_pieces.proofs.cut.find.Goals as goal

pub loop-index-init : goal.loop-index-init
loop-index-init c = subst (λ s. Passing c.args.encoding c.args.place c.args.pieces.now 0 s) (sym c.first-spot.ensures) (passing_starts c.args.encoding c.args.place c.args.pieces.now)

pub returns-then-not-is_before-clause-at : goal.returns-then-not-is_before-clause-at
returns-then-not-is_before-clause-at c =
    let is = c.index-pieces-index.is in
    found_inside c.args.encoding c.args.place c.args.pieces.now c.loop-index.index c.index-pieces-index.result c.loop-index.spot c.in-Some.next c.in-Some-advance.advance c.loop-index-test.true c.loop-index.invariant
    (c.in-Some.ensures.some ∙ ap (λ l. spot_behind c.args.encoding c.loop-index.spot (chars l)) is) (sym c.if-not-is_before.ensures)
    (subst (λ l. Advances c.args.encoding c.loop-index.spot c.args.place.line c.args.place.character l c.in-Some-advance.advance) (c.as_str-text.ensures.text ∙ is) c.in-Some-advance.ensures.some)
    (λ h. c.in-Some-advance.ensures.whole h ∙ ap length (c.as_str-text.ensures.text ∙ is))

pub loop-index-preserved : goal.loop-index-preserved
loop-index-preserved c =
    let is = c.index-pieces-index.is in
    passing_on c.args.encoding c.args.place c.args.pieces.now c.loop-index.index c.index-pieces-index.result c.loop-index.spot c.in-Some.next c.loop-index-test.true c.loop-index.invariant (subst IsUtf8 is c.in-Some.ensures.utf8)
    (c.in-Some.ensures.some ∙ ap (λ l. spot_behind c.args.encoding c.loop-index.spot (chars l)) is) (sym c.if-not-is_before.ensures)

pub returns-clause-at : goal.returns-clause-at
returns-clause-at c = found_end c.args.encoding c.args.place c.args.pieces.now c.loop-index.index c.loop-index.spot (omega (arith, c.loop-index-test.false)) c.loop-index.invariant
