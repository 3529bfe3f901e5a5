use Rattle.std.proofs.Common.{sym, ◌∙◌}
use Rattle.std.specs.Prelude.{bytes_eq}
use Rattle.text_pieces.specs.Pieces.{text_of}
use Rattle.text_pieces.proofs.Same.{same_on, same_not, cut_off, was_same, was_other}
use Rattle.text_pieces.proofs.equal.same.Goals as goal

pub returns-then-ne : goal.returns-then-ne
returns-then-ne c = same_not c.split_at.result.0.now c.split_at-in-loop-left.result.0.now _ _ _ _ _ (c.split_at.ensures.front_len ∙ sym c.split_at-in-loop-left.ensures.front_len)
    (was_other c.ne.result (bytes_eq c.split_at.result.0.now c.split_at-in-loop-left.result.0.now) c.ne.ensures c.if-ne.true)
    (cut_off c.fill.new.self.piece.now c.split_at.result.0.now c.split_at.result.1.now (text_of c.fill.new.self.behind.now) c.min-count.result c.split_at.ensures.front c.split_at.ensures.back)
    (cut_off c.fill-in-loop-left.new.self.piece.now c.split_at-in-loop-left.result.0.now c.split_at-in-loop-left.result.1.now (text_of c.fill-in-loop-left.new.self.behind.now) c.min-count.result c.split_at-in-loop-left.ensures.front c.split_at-in-loop-left.ensures.back)
    ((λ i. bytes_eq (c.fill.ensures.text i) (c.fill-in-loop-left.ensures.text i)) ∙ c.loop-left.invariant)

pub loop-left-preserved : goal.loop-left-preserved
loop-left-preserved c = same_on c.split_at.result.0.now c.split_at-in-loop-left.result.0.now _ _ _ _ _ (c.split_at.ensures.front_len ∙ sym c.split_at-in-loop-left.ensures.front_len)
    (was_same c.ne.result (bytes_eq c.split_at.result.0.now c.split_at-in-loop-left.result.0.now) c.ne.ensures c.if-ne.false)
    (cut_off c.fill.new.self.piece.now c.split_at.result.0.now c.split_at.result.1.now (text_of c.fill.new.self.behind.now) c.min-count.result c.split_at.ensures.front c.split_at.ensures.back)
    (cut_off c.fill-in-loop-left.new.self.piece.now c.split_at-in-loop-left.result.0.now c.split_at-in-loop-left.result.1.now (text_of c.fill-in-loop-left.new.self.behind.now) c.min-count.result c.split_at-in-loop-left.ensures.front c.split_at-in-loop-left.ensures.back)
    ((λ i. bytes_eq (c.fill.ensures.text i) (c.fill-in-loop-left.ensures.text i)) ∙ c.loop-left.invariant)
